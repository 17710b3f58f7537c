-- The numbers of a cause.
use Rattle.std.specs.Prelude.{ℕ}
use Rattle.rulebook.specs.Answer.{half_number}
use Rattle.machine.specs.declared.records.Cause.{Cause}
use Rattle.machine.specs.declared.records.Cause.TheVariants.{Halted, PcOutside, Illegal, DataOutside, Denied, Running}

abbrev pub cause_number : Cause → ℕ
cause_number Halted = 0
cause_number PcOutside = 1
cause_number Illegal = 2
cause_number DataOutside = 3
cause_number (Denied denial) = 4
cause_number Running = 255

-- which half denied, and why: 0 where nothing was denied
abbrev pub cause_half : Cause → ℕ
cause_half Halted = 0
cause_half PcOutside = 0
cause_half Illegal = 0
cause_half DataOutside = 0
cause_half (Denied denial) = half_number denial.half
cause_half Running = 0

abbrev pub cause_violation : Cause → ℕ
cause_violation Halted = 0
cause_violation PcOutside = 0
cause_violation Illegal = 0
cause_violation DataOutside = 0
cause_violation (Denied denial) = denial.violation
cause_violation Running = 0
