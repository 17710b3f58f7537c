-- The number of each refusal.
use Rattle.std.specs.Prelude.{ℕ}
use Rattle.refusal.specs.declared.refusal.Refusal.{Refusal}
use Rattle.refusal.specs.declared.refusal.Refusal.TheVariants.{Sizes, CutShort, SectionOrder, SectionKind, BodyLength, HeaderValues, PastCells, NamesFull, Budget, JournalFull}

abbrev pub refusal_number : Refusal → ℕ
refusal_number Sizes = 1
refusal_number CutShort = 2
refusal_number SectionOrder = 3
refusal_number SectionKind = 4
refusal_number BodyLength = 5
refusal_number HeaderValues = 6
refusal_number PastCells = 7
refusal_number NamesFull = 8
refusal_number Budget = 10
refusal_number JournalFull = 11
