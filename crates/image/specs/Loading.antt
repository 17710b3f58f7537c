-- What an image loads, and why one is refused.
use Rattle.std.specs.Prelude.{◌≡◌, ℕ, ◌+◌, ◌-◌, ◌<◌, ◌≤◌, Bool, true, false, cond, not, ◌&&◌, List, [], ◌∷◌, ◌++◌, length, drop, replicate, Some, ◌==◌}
use Rattle.std.specs.List.{AllByRecursion}
use Rattle.refusal.specs.declared.refusal.Refusal.TheVariants.{NamesFull, Sizes}
use Rattle.machine.specs.declared.cell.Cell.{Cell}
use Rattle.machine.specs.Calls.{in_limits, start_state}
use Rattle.machine.specs.Cells.{blank}
use Rattle.image.specs.declared.fault.LoadFault.{LoadFault}
use Rattle.image.specs.declared.fault.LoadFault.TheVariants.{Judged}
use Rattle.image.specs.declared.name.Name.{Name}
use Rattle.image.specs.declared.section.part.Header.{Header}
use Rattle.image.specs.declared.section.part.list.loading.Loaded.{Loaded}
use Rattle.image.specs.Judgement.{header_refusal, part_refusal, section_fault}
use Rattle.image.specs.Names.{names_from}
use Rattle.image.specs.Part.{Part, words, tags, names, note, Fits, HeaderFits, image_of, part_framed}
use Rattle.image.specs.Stored.{all_stored}

-- the names of a part that begins at a place; before a list stands its head
abbrev pub names_in : ℕ → Part → List Name
names_in place (words address tag values) = []
names_in place (tags address count tag) = []
names_in place (names labels rest) = names_from (place + 6) labels
names_in place (note kind body) = []

unfoldable pub all_names : ℕ → List Part → List Name
all_names place [] = []
all_names place (part ∷ parts) = names_in place part ++ all_names (place + length (part_framed part)) parts

-- the parts of an image stand behind its header, which has 14 bytes
abbrev pub image_names : List Part → List Name
image_names parts = all_names 14 parts

-- a name list with something behind its names breaks off there
abbrev pub breaks_off : Part → Bool
breaks_off (words address tag values) = false
breaks_off (tags address count tag) = false
breaks_off (names labels rest) = not (length rest == 0)
breaks_off (note kind body) = false

unfoldable pub broken_in : List Part → ℕ
broken_in [] = 0
broken_in (part ∷ parts) = cond (breaks_off part) 1 0 + broken_in parts

-- the bytes are the encoding of a header and parts that fit a memory of so many cells
pub record IsImage (size : ℕ) (image : List ℕ) (header : Header) (parts : List Part) : Type 0 where
  pub bytes : image ≡ image_of header parts
  pub heads : HeaderFits size header
  pub fits : AllByRecursion (Fits size) parts

-- the section that bytes from a place on begin with is refused, where so many names can still be taken
pub data AtPart (size free place : ℕ) (rest : List ℕ) (fault : LoadFault) : Type 0 where
  judged : section_fault (part_refusal size) place rest ≡ Some fault → AtPart size free place rest fault
  crowded : (part : Part) (more : List ℕ) → Fits size part → rest ≡ part_framed part ++ more → free < length (names_in place part)
      → fault ≡ Judged NamesFull place → AtPart size free place rest fault

-- an image is refused at its first section, or at the first behind a header and parts that are not
pub data Refuses (size free : ℕ) (image : List ℕ) (fault : LoadFault) : Type 0 where
  at_header : section_fault (header_refusal size) 0 image ≡ Some fault → Refuses size free image fault
  at_part : (header : Header) (parts : List Part) (rest : List ℕ) → HeaderFits size header → AllByRecursion (Fits size) parts
      → image ≡ image_of header parts ++ rest → 0 < length rest → length (image_names parts) ≤ free
      → AtPart size (free - length (image_names parts)) (length (image_of header parts)) rest fault → Refuses size free image fault

-- an image that is not refused, by its header
pub record Accepts (size free : ℕ) (image : List ℕ) (header : Header) : Type 0 where
  pub parts : List Part
  pub is : IsImage size image header parts
  pub room : length (image_names parts) ≤ free

-- cells and registers are as many as a machine needs
abbrev pub sized : List Cell → List Cell → Bool
sized cells registers = in_limits (length cells) && length registers == 16

-- what a header and parts load: cells and registers are cleared, then each part does its work, in order
pub record LoadedAs (header : Header) (parts : List Part) (size : ℕ) (elements_before room_before : List Name)
    (loaded : Loaded) (cells_after registers_after : List Cell) (elements_after room_after : List Name) : Type 0 where
  pub live : loaded.live ≡ record { state = start_state header.start header.tag size }
  pub cells : cells_after ≡ all_stored parts (replicate size blank)
  pub registers : registers_after ≡ replicate 16 blank
  pub elements : elements_after ≡ elements_before ++ image_names parts
  pub room : room_after ≡ drop (length (image_names parts)) room_before
  pub broken : loaded.broken ≡ broken_in parts

-- the parts that set cells
unfoldable pub without_notes : List Part → List Part
without_notes [] = []
without_notes (words address tag values ∷ parts) = words address tag values ∷ without_notes parts
without_notes (tags address count tag ∷ parts) = tags address count tag ∷ without_notes parts
without_notes (names labels rest ∷ parts) = without_notes parts
without_notes (note kind body ∷ parts) = without_notes parts

-- an image was loaded
pub record Loads (image : List ℕ) (size : ℕ) (elements_before room_before : List Name)
    (loaded : Loaded) (cells_after registers_after : List Cell) (elements_after room_after : List Name) : Type 0 where
  pub limits : in_limits size ≡ true
  -- the bytes are the encoding of a header and parts that fit
  pub header : Header
  pub parts : List Part
  pub is : IsImage size image header parts
  -- and these are what was loaded, whatever header and parts one may find that have these bytes
  pub exact : (h : Header) (ps : List Part) → IsImage size image h ps
      → LoadedAs h ps size elements_before room_before loaded cells_after registers_after elements_after room_after
  -- no fault was passed over
  pub taken : (fault : LoadFault) → Refuses size (length room_before) image fault → ⊥
  -- parts that differ from these only in notes leave the same cells
  pub notes : (others : List Part) → without_notes others ≡ without_notes parts → all_stored others (replicate size blank) ≡ cells_after

-- the bytes are no encoding of a header and parts that fit, or have more names than there are places
abbrev pub NoImage : ℕ → ℕ → List ℕ → Type 0
NoImage size free image = (header : Header) (parts : List Part) → IsImage size image header parts → length (image_names parts) ≤ free → ⊥

-- an image was refused, for this fault and no other
pub record ImageRefused (size free : ℕ) (image : List ℕ) (fault : LoadFault) : Type 0 where
  pub why : Refuses size free image fault
  pub only : (other : LoadFault) → Refuses size free image other → other ≡ fault
  pub none : NoImage size free image

-- it was refused: the call for its sizes, or the image
pub data WhyRefused (image : List ℕ) (cells registers : List Cell) (free : ℕ) (fault : LoadFault) : Type 0 where
  by_sizes : sized cells registers ≡ false → fault ≡ Judged Sizes 0 → WhyRefused image cells registers free fault
  by_image : sized cells registers ≡ true → ImageRefused (length cells) free image fault → WhyRefused image cells registers free fault

-- and everything is as it was
pub record Refused (image : List ℕ) (cells_before registers_before : List Cell) (elements_before room_before : List Name)
    (fault : LoadFault) (cells_after registers_after : List Cell) (elements_after room_after : List Name) : Type 0 where
  pub why : WhyRefused image cells_before registers_before (length room_before) fault
  pub cells : cells_after ≡ cells_before
  pub registers : registers_after ≡ registers_before
  pub elements : elements_after ≡ elements_before
  pub room : room_after ≡ room_before
