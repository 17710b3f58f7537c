-- The refusal and the place that a fault stands for, and how it is told.
use Rattle.std.specs.Prelude.{ℕ, List, ◌++◌, codes, decimal}
use Rattle.refusal.specs.declared.refusal.Refusal.{Refusal}
use Rattle.refusal.specs.declared.refusal.Refusal.TheVariants.{CutShort}
use Rattle.refusal.specs.Refusal.{refusal_number}
use Rattle.image.specs.declared.fault.ReadFault.{ReadFault}
use Rattle.image.specs.declared.fault.LoadFault.{LoadFault}
use Rattle.image.specs.declared.fault.LoadFault.TheVariants.{Read, Judged}

abbrev pub fault_refusal : LoadFault → Refusal
fault_refusal (Read fault) = CutShort
fault_refusal (Judged refusal place) = refusal

abbrev pub fault_place : LoadFault → ℕ
fault_place (Read fault) = fault.section
fault_place (Judged refusal place) = place

-- the line of an image that is not loaded: the refusal's number and the place
abbrev pub fault_text : LoadFault → List ℕ
fault_text fault = codes "refused " ++ (decimal (refusal_number (fault_refusal fault)) ++ (codes " " ++ decimal (fault_place fault)))

-- which section is cut short, and what the reader wanted there
abbrev pub read_text : ReadFault → List ℕ
read_text fault =
    codes "the section at " ++ (decimal fault.section ++ (codes " is cut short: " ++ (decimal fault.wanted ++ (codes " bytes from " ++ (decimal fault.place ++ codes " on")))))
