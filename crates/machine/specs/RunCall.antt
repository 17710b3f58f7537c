-- What the call of a run answers and leaves.
use Rattle.std.specs.Prelude.{◌≡◌, ℕ, ◌+◌, cond, ◌&&◌, List, [], ◌++◌, length, drop, Some, None, Option, Result, MatchResult, nat_le}
use Rattle.refusal.specs.declared.refusal.Refusal.{Refusal}
use Rattle.refusal.specs.declared.refusal.Refusal.TheVariants.{Sizes, Budget}
use Rattle.refusal.specs.Refusal.{refusal_number}
use Rattle.machine.specs.declared.cell.Cell.{Cell}
use Rattle.machine.specs.declared.records.Record.{Record}
use Rattle.machine.specs.declared.state.End.{End}
use Rattle.machine.specs.declared.state.Ran.{Ran}
use Rattle.machine.specs.declared.state.Live.{Live}
use Rattle.machine.specs.declared.state.Refused.{Refused}
use Rattle.machine.specs.declared.state.State.{State}
use Rattle.machine.specs.Calls.{Left, left, unless_refused, fitting}
use Rattle.machine.specs.Program.{Program, answer, after}
use Rattle.machine.specs.Run.{RunOutcome, run}
use Rattle.machine.specs.RunLaw.{RunLaw}
use Rattle.machine.specs.Step.{Meaning}

-- a run was performed, lawfully, on these cells and this journal: how it ended, and what it left
pub record Runs (μ : Meaning) (budget : ℕ) (state : State) (before registers_before : List Cell) (elements_before room_before : List Record)
    (answered : End) (cells_left registers_left : List Cell) (elements_left room_left : List Record) : Type 0 where
  pub end : answered ≡ (answer before (run μ budget (length room_before) state registers_before)).end
  pub cells : cells_left ≡ after before (run μ budget (length room_before) state registers_before)
  pub registers : registers_left ≡ (answer before (run μ budget (length room_before) state registers_before)).registers
  -- every record stands in the journal, in order, after what stood there; other free places hold what they held
  pub elements : elements_left ≡ elements_before ++ (answer before (run μ budget (length room_before) state registers_before)).records
  pub count : length elements_left ≡ length elements_before + length (answer before (run μ budget (length room_before) state registers_before)).records
  pub room : room_left ≡ drop (length (answer before (run μ budget (length room_before) state registers_before)).records) room_before
  pub lawful : RunLaw μ budget (length room_before) state before registers_before
      (answer before (run μ budget (length room_before) state registers_before)).records answered cells_left registers_left

-- where both fit, the smaller number
abbrev pub run_refusal : State → List Cell → List Cell → ℕ → Option Refusal
run_refusal state cells registers budget =
    cond (fitting state cells registers) (cond (nat_le 1 budget && nat_le budget 1000000) None (Some Budget)) (Some Sizes)

abbrev pub ran : RunOutcome → Ran
ran outcome = record { end = outcome.end; added = length outcome.records }

abbrev pub run_left : List Cell → Program RunOutcome → Left Ran
run_left cells program = left (ran (answer cells program)) (after cells program) (answer cells program).registers

abbrev pub records_unless : Option Refusal → List Record → List Record
records_unless None records = records
records_unless (Some refusal) records = []

-- the records that a call adds to its journal, which has so many free places
abbrev pub run_records : Meaning → Live → List Cell → List Cell → ℕ → ℕ → List Record
run_records μ live cells registers budget free =
    records_unless (run_refusal live.state cells registers budget) (answer cells (run μ budget free live.state registers)).records

pub record RunCall (μ : Meaning) (live : Live) (before registers_before : List Cell) (budget : ℕ) (elements_before room_before : List Record)
    (answered : Result Ran Refused) (cells_left registers_left : List Cell) (elements_left room_left : List Record) : Type 0 where
  -- the run of the definition; or a refusal that hands the machine back and leaves cells and registers
  pub answers : left answered cells_left registers_left
      ≡ unless_refused (run_refusal live.state before registers_before budget) live before registers_before
      (run_left before (run μ budget (length room_before) live.state registers_before))
  -- every record stands in the journal, in order, after what stood there; other free places hold what they held
  pub elements : elements_left ≡ elements_before ++ run_records μ live before registers_before budget (length room_before)
  pub room : room_left ≡ drop (length (run_records μ live before registers_before budget (length room_before))) room_before
  pub lawful : MatchResult answered
      (λ ran. RunLaw μ budget (length room_before) live.state before registers_before
      (run_records μ live before registers_before budget (length room_before)) ran.end cells_left registers_left)
      (λ refused. refusal_number refused.refusal ≡ cond (fitting live.state before registers_before) 10 1)
