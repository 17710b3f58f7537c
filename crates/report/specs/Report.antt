-- The lines that are printed of a run, by its records, and of an image that is not loaded.
use Rattle.std.specs.Prelude.{ℕ, ◌-◌, Bool, cond, ◌&&◌, List, [], ◌++◌, length, Some, None, codes, decimal, Option, ◌==◌}
use Rattle.std.specs.Option.{option_map, unwrap_or}
use Rattle.std.specs.List.{flat_map, slice_get}
use Rattle.rulebook.specs.declared.group.Group.TheVariants.{Out}
use Rattle.rulebook.specs.Group.{number_of}
use Rattle.refusal.specs.Refusal.{refusal_number}
use Rattle.machine.specs.declared.records.Cause.{Cause}
use Rattle.machine.specs.declared.records.Cause.TheVariants.{Halted, PcOutside, Illegal, DataOutside, Denied, Running}
use Rattle.machine.specs.declared.records.Record.{Record}
use Rattle.machine.specs.Cause.{cause_number, cause_half, cause_violation}
use Rattle.image.specs.declared.fault.LoadFault.{LoadFault}
use Rattle.image.specs.Fault.{fault_refusal, fault_place}

-- two texts with a space between them
infixr 60 ◌␣◌
abbrev pub ◌␣◌ : List ℕ → List ℕ → List ℕ
xs ␣ ys = xs ++ (codes " " ++ ys)

-- an OUT went through
abbrev pub outs : Record → Bool
outs entry = number_of entry.question.group == number_of Out && cause_number entry.cause == cause_number Running

abbrev pub word_shown : Record → Option ℕ
word_shown entry = cond (outs entry) (Some entry.result) None

-- the line of a record, if it has one
abbrev pub out_text : Record → Option (List ℕ)
out_text entry = option_map (λ word. codes "out" ␣ decimal word) (word_shown entry)

abbrev pub stop_text : Record → List ℕ
stop_text last =
    codes "stop" ␣ decimal (cause_number last.cause) ␣ decimal last.pc ␣ decimal (cause_half last.cause)
    ␣ decimal (cause_violation last.cause) ␣ decimal last.count

abbrev pub text_by : Cause → Record → List ℕ
text_by Halted last = codes "halt" ␣ decimal last.count
text_by PcOutside last = stop_text last
text_by Illegal last = stop_text last
text_by DataOutside last = stop_text last
text_by (Denied denial) last = stop_text last
text_by Running last = codes "spent" ␣ decimal last.count

-- the line that ends a run, by its last record
abbrev pub end_text : Record → List ℕ
end_text last = text_by last.cause last

-- a line with the mark that ends it
abbrev pub closed : List ℕ → List ℕ
closed line = line ++ codes "\n"

-- the line of a record, or nothing
abbrev pub out_lines : Record → List ℕ
out_lines entry = unwrap_or (option_map closed (out_text entry)) []

-- the line that ends a run, or nothing where there is no record
abbrev pub end_lines : List Record → List ℕ
end_lines records = unwrap_or (option_map (λ last. closed (end_text last)) (slice_get records (length records - 1))) []

-- all that a run prints
abbrev pub run_text : List Record → List ℕ
run_text records = flat_map out_lines records ++ end_lines records

-- the line of an image that is not loaded, by its fault
abbrev pub refused_text : LoadFault → List ℕ
refused_text fault = codes "refused" ␣ decimal (refusal_number (fault_refusal fault)) ␣ decimal (fault_place fault)
