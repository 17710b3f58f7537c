-- What an image is made of: a header, and parts of four kinds behind it.
use Rattle.std.specs.Prelude.{◌≡◌, ℕ, ◌+◌, ◌^◌, ◌<◌, ◌≤◌, Bool, true, not, ◌&&◌, ◌||◌, List, ◌++◌, length, ◌==◌, ◌≢◌, nat_le, nat_lt}
use Rattle.std.specs.List.{flat_map, AllByRecursion}
use Rattle.image.specs.declared.section.part.Header.{Header}
use Rattle.image.specs.Bytes.{Bytes, bytes_of, field}
use Rattle.image.specs.Section.{Section, cut_short, first_section, framed}

-- a name and the address that it names
pub record Label : Type 0 where
  pub address : ℕ
  pub text : List ℕ

pub data Part : Type 0 where
  -- words, all with one tag, from an address on
  words : ℕ → ℕ → List ℕ → Part
  -- a tag for a number of cells from an address on
  tags : ℕ → ℕ → ℕ → Part
  -- a list of names, and behind them bytes that begin with no name
  names : List Label → List ℕ → Part
  -- any other note: its kind and its body
  note : ℕ → List ℕ → Part

-- the sections that stand for them
abbrev pub header_section : Header → Section
header_section header =
    record { kind = 1; body = bytes_of 2 header.cells ++ (bytes_of 2 header.start ++ bytes_of 4 header.tag) }

abbrev pub label_section : Label → Section
label_section label = record { kind = 1; body = bytes_of 2 label.address ++ label.text }

abbrev pub labels_framed : List Label → List ℕ
labels_framed labels = flat_map (λ label. framed (label_section label)) labels

abbrev pub part_section : Part → Section
part_section (words address tag values) = record { kind = 2; body = bytes_of 2 address ++ (bytes_of 4 tag ++ flat_map (bytes_of 4) values) }
part_section (tags address count tag) = record { kind = 3; body = bytes_of 2 address ++ (bytes_of 2 count ++ bytes_of 4 tag) }
part_section (names labels rest) = record { kind = 32769; body = labels_framed labels ++ rest }
part_section (note kind body) = record { kind = kind; body = body }

abbrev pub part_framed : Part → List ℕ
part_framed part = framed (part_section part)

-- the bytes of an image
abbrev pub image_of : Header → List Part → List ℕ
image_of header parts = framed (header_section header) ++ flat_map part_framed parts

-- a section of a name list holds a name, for a memory of so many cells
abbrev pub is_name : ℕ → Section → Bool
is_name size section =
    (section.kind == 1 && (nat_le 3 (length section.body) && nat_le (length section.body) 34)) && nat_lt (field 2 0 section.body) size

-- bytes that begin with no name: there are none, or they are cut short, or begin with another section
abbrev pub no_name : ℕ → List ℕ → Bool
no_name size bytes = cut_short bytes || not (is_name size (first_section bytes))

pub record LabelFits (size : ℕ) (label : Label) : Type 0 where
  pub there : label.address < size
  pub some : 1 ≤ length label.text
  pub few : length label.text ≤ 32
  pub bytes : Bytes label.text

pub record HeaderFits (size : ℕ) (header : Header) : Type 0 where
  pub cells : header.cells ≡ size
  pub start : header.start < size
  pub tag : header.tag < 2 ^ 32

-- the numbers of a part fit the bytes that they are written in, and what it sets is there in a memory of so many cells
abbrev pub Fits : ℕ → Part → Type 0
Fits size (words address tag values) =
    (address + length values ≤ size) × (1 ≤ length values) × (address < 2 ^ 16) × (tag < 2 ^ 32) × AllByRecursion (λ value. value < 2 ^ 32) values
Fits size (tags address count tag) = (address + count ≤ size) × (address < 2 ^ 16) × (count < 2 ^ 16) × (tag < 2 ^ 32)
Fits size (names labels rest) =
    AllByRecursion (LabelFits size) labels × (no_name size rest ≡ true) × Bytes rest × (length (labels_framed labels ++ rest) < 2 ^ 32)
Fits size (note kind body) = (32768 ≤ kind) × (kind < 2 ^ 16) × (kind ≢ 32769) × Bytes body × (length body < 2 ^ 32)
