-- A routine, followed by the definitions: it calls another that doubles 7, and shows the result.
use Rattle.std.specs.Prelude.{◌≡◌, ℕ, cond, List, [], ◌∷◌, length, replicate, ◌==◌}
use Rattle.rulebook.specs.declared.group.Group.TheVariants.{Out}
use Rattle.rulebook.specs.declared.answer.Half.TheVariants.{Alone}
use Rattle.rulebook.specs.Answer.{by_half}
use Rattle.rulebook.specs.Group.{number_of}
use Rattle.policies.specs.DepthIsolation.{depth_isolation}
use Rattle.machine.specs.declared.cell.Cell.{Cell}
use Rattle.machine.specs.declared.records.Record.{Record}
use Rattle.machine.specs.declared.state.End.TheVariants.{Stopped}
use Rattle.machine.specs.Cells.{blank}
use Rattle.machine.specs.Calls.{start_state}
use Rattle.machine.specs.Program.{answer}
use Rattle.machine.specs.Run.{RunOutcome, run}

abbrev pub cell : ℕ → ℕ → Cell
cell word tag = record { word = word; tag = tag }

abbrev pub doubling : List Cell
doubling =
    cell 0x01200007 16
    ∷ cell 0x0D100002 16
    ∷ cell 0x0F020000 16
    ∷ cell 0x00000000 16
    ∷ cell 0x0130000C 16
    ∷ cell 0x0A130000 17
    ∷ cell 0x03220002 16
    ∷ cell 0x09130000 16
    ∷ cell 0x0A030000 18
    ∷ cell 0x0E010000 16
    ∷ blank
    ∷ blank
    ∷ cell 0 1
    ∷ blank
    ∷ blank
    ∷ blank
    ∷ []

-- the words that OUT has shown
abbrev pub shown : List Record → List ℕ
shown [] = []
shown (entry ∷ records) = cond (number_of entry.question.group == number_of Out) (entry.result ∷ shown records) (shown records)

-- under Depth Isolation, with a budget of 64 steps and places for all records
abbrev pub doubled : RunOutcome
doubled = answer doubling (run (λ question. by_half Alone (depth_isolation question)) 64 64 (start_state 0 0 16) (replicate 16 blank))

-- it shows 14, and halts with its tenth step at pc 3
pub record Doubles : Type 0 where
  pub shows : shown doubled.records ≡ 14 ∷ []
  pub steps : length doubled.records ≡ 10
  pub halts : doubled.end ≡ Stopped (record { state = record { pc = 3; tag = 0; count = 10; size = 16 } })
