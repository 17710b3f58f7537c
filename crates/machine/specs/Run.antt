-- A run of steps, as a program of memory commands.
use Rattle.std.specs.Prelude.{◌≡◌, ℕ, zero, suc, ◌<◌, List, [], ◌∷◌, ◌++◌, length, drop}
use Rattle.machine.specs.declared.cell.Cell.{Cell}
use Rattle.machine.specs.declared.records.Record.{Record}
use Rattle.machine.specs.declared.state.End.{End}
use Rattle.machine.specs.declared.state.End.TheVariants.{Stopped, Spent, Full}
use Rattle.machine.specs.declared.state.Next.{Next}
use Rattle.machine.specs.declared.state.Next.TheVariants.{Running, Ended}
use Rattle.machine.specs.declared.state.State.{State}
use Rattle.machine.specs.Program.{Program, done, bind, answer, after}
use Rattle.machine.specs.Step.{Meaning, Outcome, step}

-- what a run comes to, beside the cells
pub record RunOutcome : Type 0 where
  pub end : End
  pub records : List Record
  pub registers : List Cell

abbrev pub ended : End → List Cell → RunOutcome
ended end registers = record { end = end; records = []; registers = registers }

-- the same with one record before the others
abbrev pub preceded : Record → RunOutcome → RunOutcome
preceded entry outcome = record { end = outcome.end; records = entry ∷ outcome.records; registers = outcome.registers }

-- what follows a step: the run is over where the machine stopped, else it goes on
abbrev pub continued : (State → List Cell → Program RunOutcome) → Record → List Cell → Next → Program RunOutcome
continued rest entry registers (Ended stopped) = done (preceded entry (ended (Stopped stopped) registers))
continued rest entry registers (Running live) = bind (rest live.state registers) (λ outcome. done (preceded entry outcome))

abbrev pub turn : (State → List Cell → Program RunOutcome) → Outcome → Program RunOutcome
turn rest outcome = continued rest outcome.stepped.entry outcome.registers outcome.stepped.next

-- a run with a budget of steps and so many free places for records
unfoldable pub run : Meaning → ℕ → ℕ → State → List Cell → Program RunOutcome
run μ zero free state registers = done (ended (Spent (record { state = state })) registers)
run μ (suc budget) zero state registers = done (ended (Full (record { state = state })) registers)
run μ (suc budget) (suc free) state registers = bind (step μ state registers) (turn (run μ budget free))

-- a step was performed on these cells, and its record appended to a journal that had a place for it
pub record Turned (program : Program Outcome) (before : List Cell) (elements_before room_before : List Record)
    (answered : Next) (cells_left registers_left : List Cell) (elements_left room_left : List Record) : Type 0 where
  pub free : 0 < length room_before
  pub next : answered ≡ (answer before program).stepped.next
  pub cells : cells_left ≡ after before program
  pub registers : registers_left ≡ (answer before program).registers
  pub elements : elements_left ≡ elements_before ++ (answer before program).stepped.entry ∷ []
  pub room : room_left ≡ drop 1 room_before

-- nothing was done, since the journal had none
pub record Waits (before registers_before : List Cell) (elements_before room_before : List Record)
    (cells_left registers_left : List Cell) (elements_left room_left : List Record) : Type 0 where
  pub free : length room_before ≡ 0
  pub cells : cells_left ≡ before
  pub registers : registers_left ≡ registers_before
  pub elements : elements_left ≡ elements_before
  pub room : room_left ≡ room_before
