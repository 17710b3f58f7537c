-- What reading, judging and obeying one section or more leaves.
use Rattle.std.specs.Prelude.{◌≡◌, ℕ, ◌+◌, ◌-◌, ◌<◌, ◌≤◌, Bool, List, [], ◌++◌, length, take, drop, Some}
use Rattle.std.specs.List.{flat_map, AllByRecursion}
use Rattle.machine.specs.declared.cell.Cell.{Cell}
use Rattle.image.specs.declared.fault.LoadFault.{LoadFault}
use Rattle.image.specs.declared.name.Name.{Name}
use Rattle.image.specs.declared.section.Reader.{Reader}
use Rattle.image.specs.declared.section.Span.{Span}
use Rattle.image.specs.declared.section.part.Content.{Content}
use Rattle.image.specs.declared.section.part.Header.{Header}
use Rattle.image.specs.Content.{Says}
use Rattle.image.specs.Judgement.{header_refusal, part_refusal, section_fault}
use Rattle.image.specs.Loading.{AtPart, IsImage, all_names, breaks_off, broken_in, image_names, names_in}
use Rattle.image.specs.Part.{Part, Fits, HeaderFits, header_section, image_of, part_framed}
use Rattle.image.specs.Reading.{Opened, Within}
use Rattle.image.specs.Section.{framed, window}
use Rattle.image.specs.Stored.{all_stored, stored}

-- a reader has passed these bytes
pub record Passed (image : List ℕ) (before after : Reader) (bytes : List ℕ) : Type 0 where
  pub split : window before image ≡ bytes ++ window after image
  pub next : after ≡ record { place = before.place + length bytes; end = before.end }
  pub within : Within after image

pub record HeaderRead (size : ℕ) (image : List ℕ) (before after : Reader) (header : Header) : Type 0 where
  pub fits : HeaderFits size header
  pub passed : Passed image before after (framed (header_section header))

pub record PartRead (size : ℕ) (image : List ℕ) (before after : Reader) (span : Span) (content : Content) : Type 0 where
  pub opened : Opened image before after span
  pub says : Says size image span content

-- a part was judged, with places for so many names before it and so many behind it
pub record PartJudged (size : ℕ) (image : List ℕ) (before after : Reader) (free left : ℕ) : Type 0 where
  pub part : Part
  pub fits : Fits size part
  pub passed : Passed image before after (part_framed part)
  pub room : free ≡ left + length (names_in before.place part)

pub record PartObeyed (size : ℕ) (image : List ℕ) (before after : Reader) (cells_before cells_after : List Cell)
    (elements_before room_before elements_after room_after : List Name) (broken : Bool) : Type 0 where
  pub part : Part
  pub fits : Fits size part
  pub passed : Passed image before after (part_framed part)
  pub cells : cells_after ≡ stored part cells_before
  pub elements : elements_after ≡ elements_before ++ take (length room_before) (names_in before.place part)
  pub room : room_after ≡ drop (length (names_in before.place part)) room_before
  pub breaks : broken ≡ breaks_off part

-- bytes are the encoding of parts that fit, up to a rest
pub record PartsBefore (size : ℕ) (bytes : List ℕ) (parts : List Part) (rest : List ℕ) : Type 0 where
  pub fits : AllByRecursion (Fits size) parts
  pub split : bytes ≡ flat_map part_framed parts ++ rest

-- all sections up to the end were judged, or one of them is refused
pub record AllJudged (size : ℕ) (image : List ℕ) (start : Reader) (free : ℕ) : Type 0 where
  pub parts : List Part
  pub all : PartsBefore size (window start image) parts []
  pub room : length (all_names start.place parts) ≤ free

pub record OneRefused (size : ℕ) (image : List ℕ) (start : Reader) (free : ℕ) (fault : LoadFault) : Type 0 where
  pub parts : List Part
  pub rest : List ℕ
  pub before : PartsBefore size (window start image) parts rest
  pub some : 0 < length rest
  pub room : length (all_names start.place parts) ≤ free
  pub at : AtPart size (free - length (all_names start.place parts)) (start.place + length (flat_map part_framed parts)) rest fault

-- all were obeyed, or one of them would be refused
pub record AllObeyed (size : ℕ) (image : List ℕ) (start : Reader) (cells_before cells_after : List Cell)
    (elements_before room_before elements_after room_after : List Name) (broken : ℕ) : Type 0 where
  pub parts : List Part
  pub all : PartsBefore size (window start image) parts []
  pub cells : cells_after ≡ all_stored parts cells_before
  pub elements : elements_after ≡ elements_before ++ take (length room_before) (all_names start.place parts)
  pub room : room_after ≡ drop (length (all_names start.place parts)) room_before
  pub breaks : broken ≡ broken_in parts

pub record OneStops (size : ℕ) (image : List ℕ) (start : Reader) (fault : LoadFault) : Type 0 where
  pub parts : List Part
  pub rest : List ℕ
  pub before : PartsBefore size (window start image) parts rest
  pub some : 0 < length rest
  pub at : section_fault (part_refusal size) (start.place + length (flat_map part_framed parts)) rest ≡ Some fault

-- the image was obeyed, or could not be
pub record ImageObeyed (size : ℕ) (image : List ℕ) (cells_before cells_after : List Cell)
    (elements_before room_before elements_after room_after : List Name) (broken : ℕ) : Type 0 where
  pub header : Header
  pub parts : List Part
  pub is : IsImage size image header parts
  pub cells : cells_after ≡ all_stored parts cells_before
  pub elements : elements_after ≡ elements_before ++ take (length room_before) (image_names parts)
  pub room : room_after ≡ drop (length (image_names parts)) room_before
  pub breaks : broken ≡ broken_in parts

pub data Stops (size : ℕ) (image : List ℕ) (fault : LoadFault) : Type 0 where
  at_first : section_fault (header_refusal size) 0 image ≡ Some fault → Stops size image fault
  at_later : (header : Header) (parts : List Part) (rest : List ℕ) → HeaderFits size header → AllByRecursion (Fits size) parts
      → image ≡ image_of header parts ++ rest → 0 < length rest → section_fault (part_refusal size) (length (image_of header parts)) rest ≡ Some fault
      → Stops size image fault
