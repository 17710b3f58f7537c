-- Whole images: a header, and the parts behind it.
use Rattle.std.proofs.Common.{◌≡◌, ℕ, ◌+◌, ◌-◌, List, [], ◌++◌, length, Some, sym, ap, ◌∙◌, arith}
use Rattle.std.specs.List.{flat_map, AllByRecursion}
use Rattle.std.proofs.lemmas.List.{append_assoc, append-nil, length-append, take_all}
use Rattle.machine.specs.declared.cell.Cell.{Cell}
use Rattle.image.specs.declared.fault.LoadFault.{LoadFault}
use Rattle.image.specs.declared.name.Name.{Name}
use Rattle.image.specs.declared.section.Reader.{Reader}
use Rattle.image.specs.declared.section.part.Header.{Header}
use Rattle.image.specs.Judgement.{header_refusal, section_fault}
use Rattle.image.specs.Loading.{Accepts, IsImage, Refuses, at_header, at_part}
use Rattle.image.specs.Part.{Part, Fits, header_section, image_of, part_framed}
use Rattle.image.specs.Passing.{AllJudged, AllObeyed, HeaderRead, ImageObeyed, OneRefused, OneStops, Stops, at_first, at_later}
use Rattle.image.specs.Section.{framed, window}
use Rattle.image.proofs.Numbers.{length_bytes_of}

header_length : (h : Header) → length (framed (header_section h)) ≡ 14
header_length h = simp (length-append, length_bytes_of)

pub image_length : (header : Header) (parts : List Part) → length (image_of header parts) ≡ 14 + length (flat_map part_framed parts)
image_length header parts = length-append (framed (header_section header)) (flat_map part_framed parts) ∙ ap (λ n. n + length (flat_map part_framed parts)) (header_length header)

module _ (size : ℕ) (image : List ℕ) (start : Reader) (over : start ≡ record { place = 0; end = length image }) where
  -- a reader over an image has all of it before it
  pub whole : window start image ≡ image
  whole = rw over (take_all (length image - 0) image (omega arith))

  header_stops : (fault : LoadFault) → section_fault (header_refusal size) start.place (window start image) ≡ Some fault → section_fault (header_refusal size) 0 image ≡ Some fault
  header_stops fault e = let place : start.place ≡ 0 = ap (λ r. r.place) over in ap (λ p. section_fault (header_refusal size) p image) (sym place) ∙ ap (section_fault (header_refusal size) start.place) (sym whole) ∙ e

  pub refused_header : (free : ℕ) (fault : LoadFault) → section_fault (header_refusal size) start.place (window start image) ≡ Some fault → Refuses size free image fault
  refused_header free fault e = at_header (header_stops fault e)

  pub stopped_header : (fault : LoadFault) → section_fault (header_refusal size) start.place (window start image) ≡ Some fault → Stops size image fault
  stopped_header fault e = at_first (header_stops fault e)

  module _ (reader : Reader) (header : Header) (read : HeaderRead size image start reader header) where
    behind : image ≡ framed (header_section header) ++ window reader image
    behind = sym whole ∙ read.passed.split

    place : reader.place ≡ 14
    place =
        let at : reader.place ≡ start.place + length (framed (header_section header)) = ap (λ r. r.place) read.passed.next in
        let first : start.place ≡ 0 = ap (λ r. r.place) over in
        let long = header_length header in
        omega arith

    split : (parts : List Part) (rest : List ℕ) → window reader image ≡ flat_map part_framed parts ++ rest → image ≡ image_of header parts ++ rest
    split parts rest e = behind ∙ ap (λ w. framed (header_section header) ++ w) e ∙ sym (append_assoc (framed (header_section header)) (flat_map part_framed parts) rest)

    is_image : (parts : List Part) → AllByRecursion (Fits size) parts → window reader image ≡ flat_map part_framed parts ++ [] → IsImage size image header parts
    is_image parts fits e = record { bytes = split parts [] e ∙ append-nil (image_of header parts); heads = read.fits; fits = fits }

    pub accepted : (free : ℕ) → AllJudged size image reader free → Accepts size free image header
    accepted free all = record {
      parts = all.parts;
      is = is_image all.parts all.all.fits all.all.split;
      room = rw place at all.room;
    }

    pub refused_part : (free : ℕ) (fault : LoadFault) → OneRefused size image reader free fault → Refuses size free image fault
    refused_part free fault one =
        let long = image_length header one.parts in
        at_part header one.parts one.rest read.fits one.before.fits (split one.parts one.rest one.before.split) one.some
        (rw place at one.room) (rw long (rw place at one.at))

    pub stopped_part : (fault : LoadFault) → OneStops size image reader fault → Stops size image fault
    stopped_part fault one =
        let long = image_length header one.parts in
        at_later header one.parts one.rest read.fits one.before.fits (split one.parts one.rest one.before.split) one.some
        (rw long (rw place at one.at))

    pub obeyed : (c₀ c₁ : List Cell) (e₀ r₀ e₁ r₁ : List Name) (broken : ℕ) → AllObeyed size image reader c₀ c₁ e₀ r₀ e₁ r₁ broken → ImageObeyed size image c₀ c₁ e₀ r₀ e₁ r₁ broken
    obeyed c₀ c₁ e₀ r₀ e₁ r₁ broken all = record {
      header = header;
      parts = all.parts;
      is = is_image all.parts all.all.fits all.all.split;
      cells = all.cells;
      elements = rw place at all.elements;
      room = rw place at all.room;
      breaks = all.breaks;
    }
