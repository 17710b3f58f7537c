-- Why a section is refused: the smallest number that fits.
use Rattle.std.specs.Prelude.{ℕ, ◌+◌, ◌-◌, ◌/◌, ◌%◌, Bool, true, cond, not, ◌&&◌, ◌||◌, List, length, Some, None, Option, ◌==◌, nat_le, nat_lt}
use Rattle.std.specs.Option.{option_map}
use Rattle.refusal.specs.declared.refusal.Refusal.{Refusal}
use Rattle.refusal.specs.declared.refusal.Refusal.TheVariants.{SectionOrder, SectionKind, BodyLength, HeaderValues, PastCells}
use Rattle.image.specs.declared.fault.LoadFault.{LoadFault}
use Rattle.image.specs.declared.fault.LoadFault.TheVariants.{Read, Judged}
use Rattle.image.specs.Bytes.{field}
use Rattle.image.specs.Section.{Section, cut_short, first_section, missing}

-- 0, and 4 to 32,767
abbrev pub unknown : ℕ → Bool
unknown kind = kind == 0 || (nat_le 4 kind && nat_lt kind 32768)

-- words: an address, a tag and one word or more; tags: an address, a number and a tag; notes: whatever they hold
abbrev pub body_fits : ℕ → ℕ → Bool
body_fits kind size = cond (kind == 2) (nat_le 10 size && size % 4 == 2) (cond (kind == 3) (size == 8) true)

-- the address behind the last cell that is set
abbrev pub reach : Section → ℕ
reach section = cond (section.kind == 2)
    (field 2 0 section.body + (length section.body - 6) / 4)
    (cond (section.kind == 3) (field 2 0 section.body + field 2 2 section.body) 0)

-- of the first section, which has to be a header
abbrev pub header_refusal : ℕ → Section → Option Refusal
header_refusal size section = cond (not (section.kind == 1)) (Some SectionOrder)
    (cond (not (length section.body == 8)) (Some BodyLength)
    (cond (field 2 0 section.body == size && nat_lt (field 2 2 section.body) size) None (Some HeaderValues)))

-- of a later one, which must be none
abbrev pub part_refusal : ℕ → Section → Option Refusal
part_refusal size section = cond (section.kind == 1) (Some SectionOrder)
    (cond (unknown section.kind) (Some SectionKind)
    (cond (not (body_fits section.kind (length section.body))) (Some BodyLength)
    (cond (nat_lt size (reach section)) (Some PastCells) None)))

-- the fault of the bytes from a place on: they are cut short, or their first section is refused
abbrev pub section_fault : (Section → Option Refusal) → ℕ → List ℕ → Option LoadFault
section_fault refusal place bytes = cond (cut_short bytes) (Some (Read (missing place bytes)))
    (option_map (λ number. Judged number place) (refusal (first_section bytes)))
