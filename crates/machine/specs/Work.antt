-- What a phase of a step, a turn of a run and a run do to a machine at work and its journal.
use Rattle.std.specs.Prelude.{◌≡◌, ℕ, List, Option, MatchOption}
use Rattle.std.specs.Borrow.{GName}
use Rattle.journal.specs.Journal.{elements, room}
use Rattle.journal.specs.declared.journal.Journal.{Journal}
use Rattle.machine.specs.declared.cell.Cell.{Cell}
use Rattle.machine.specs.declared.records.Record.{Record}
use Rattle.machine.specs.declared.state.End.{End}
use Rattle.machine.specs.declared.state.Next.{Next}
use Rattle.machine.specs.declared.state.State.{State}
use Rattle.machine.specs.declared.state.Stepped.{Stepped}
use Rattle.machine.specs.declared.step.Machine.{Machine}
use Rattle.machine.specs.Program.{Program}
use Rattle.machine.specs.Run.{Turned, Waits}
use Rattle.machine.specs.RunCall.{Runs}
use Rattle.machine.specs.Step.{Meaning, Outcome, Performs, Unaltered, step}

-- which references were lent to the machine
abbrev pub lent : {R : Type 0} → Machine R → GName × GName × GName
lent machine = (machine.cells.ghost_name, machine.registers.ghost_name, machine.rules.ghost_name)

-- the rulebook means what it meant, and the machine holds what was lent to it
pub record Stays {R : Type 0} (meaning : R → Meaning) (before after : Machine R) : Type 0 where
  pub means : Unaltered (meaning before.rules.now) (meaning after.rules.now)
  pub holds : lent after ≡ lent before

-- the program, by what the rulebook means, was performed by the machine
pub record Works {R : Type 0} (meaning : R → Meaning) (program : Meaning → State → List Cell → Program Outcome)
    (before : Machine R) (answered : Stepped) (after : Machine R) : Type 0 where
  pub performs : Performs (program (meaning before.rules.now) before.state before.registers.now) before.cells.now answered after.cells.now after.registers.now
  pub stays : Stays meaning before after

-- one step and its record, or nothing where the journal had no place for it
abbrev pub Turns : {R : Type 0} → (R → Meaning) → Machine R → Journal Record → Option Next → Machine R → Journal Record → Type 0
Turns meaning before journal answered after journal_left =
    MatchOption answered
    ((after.state ≡ before.state)
    × Waits before.cells.now before.registers.now (elements journal) (room journal) after.cells.now after.registers.now (elements journal_left) (room journal_left))
    (λ next. Turned (step (meaning before.rules.now) before.state before.registers.now) before.cells.now (elements journal) (room journal)
    next after.cells.now after.registers.now (elements journal_left) (room journal_left))

-- a run with this budget
abbrev pub RunsOn : {R : Type 0} → (R → Meaning) → ℕ → Machine R → Journal Record → End → Machine R → Journal Record → Type 0
RunsOn meaning budget before journal answered after journal_left =
    Runs (meaning before.rules.now) budget before.state before.cells.now before.registers.now (elements journal) (room journal)
    answered after.cells.now after.registers.now (elements journal_left) (room journal_left)
