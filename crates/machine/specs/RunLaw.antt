-- What every run obeys, in terms of steps.
use Rattle.std.specs.Prelude.{◌≡◌, ℕ, ◌+◌, ◌-◌, ◌<◌, ◌≤◌, List, [], ◌∷◌, ◌++◌, length}
use Rattle.machine.specs.declared.cell.Cell.{Cell}
use Rattle.machine.specs.declared.records.Record.{Record}
use Rattle.machine.specs.declared.state.End.{End}
use Rattle.machine.specs.declared.state.End.TheVariants.{Stopped, Spent, Full}
use Rattle.machine.specs.declared.state.Next.{Next}
use Rattle.machine.specs.declared.state.Next.TheVariants.{Running, Ended}
use Rattle.machine.specs.declared.state.State.{State}
use Rattle.machine.specs.Program.{Program, done, bind, answer, after}
use Rattle.machine.specs.Run.{RunOutcome, run}
use Rattle.machine.specs.Step.{Meaning, step}
use Rattle.machine.specs.StepLaw.{StepLaw}

-- a machine that runs makes one step, lawfully and with this record, and P holds of what it has come to
abbrev pub Makes : Meaning → Record → Next → List Cell → List Cell → (Next → List Cell → List Cell → Type 0) → Type 0
Makes μ entry (Ended stopped) cells registers P = ⊥
Makes μ entry (Running live) cells registers P =
    (entry ≡ (answer cells (step μ live.state registers)).stepped.entry)
    × StepLaw μ live.state cells registers (answer cells (step μ live.state registers)).stepped (after cells (step μ live.state registers))
    (answer cells (step μ live.state registers)).registers
    × P (answer cells (step μ live.state registers)).stepped.next (after cells (step μ live.state registers))
    (answer cells (step μ live.state registers)).registers

-- steps one after another, with these records, from one machine with its cells and registers to another
abbrev pub Steps : Meaning → List Record → Next → List Cell → List Cell → Next → List Cell → List Cell → Type 0
Steps μ [] now cells registers next cells' registers' = (next ≡ now) × (cells' ≡ cells) × (registers' ≡ registers)
Steps μ (entry ∷ records) now cells registers next cells' registers' =
    Makes μ entry now cells registers (λ n cs rs. Steps μ records n cs rs next cells' registers')

-- the machine at the end of a run
abbrev pub machine_in : End → Next
machine_in (Stopped stopped) = Ended stopped
machine_in (Spent live) = Running live
machine_in (Full live) = Running live

-- when a run with this budget and so many free places is over after so many steps
abbrev pub EndsAfter : End → ℕ → ℕ → ℕ → Type 0
EndsAfter (Stopped stopped) budget free made = (made ≤ budget) × (made ≤ free)
EndsAfter (Spent live) budget free made = (made ≡ budget) × (made ≤ free)
EndsAfter (Full live) budget free made = (made ≡ free) × (made < budget)

-- the records of one run and then of another
abbrev pub joined : List Record → RunOutcome → RunOutcome
joined records more = record { end = more.end; records = records ++ more.records; registers = more.registers }

-- a run that was spent goes on with another budget; one that is over stays so
abbrev pub resumed : Meaning → ℕ → ℕ → RunOutcome → End → Program RunOutcome
resumed μ budget free outcome (Stopped stopped) = done outcome
resumed μ budget free outcome (Full live) = done outcome
resumed μ budget free outcome (Spent live) =
    bind (run μ budget (free - length outcome.records) live.state outcome.registers) (λ more. done (joined outcome.records more))

abbrev pub resume : Meaning → ℕ → ℕ → RunOutcome → Program RunOutcome
resume μ budget free outcome = resumed μ budget free outcome outcome.end

pub record RunLaw (μ : Meaning) (budget free : ℕ) (state : State) (before registers_before : List Cell)
    (records : List Record) (end : End) (cells_left registers_left : List Cell) : Type 0 where
  -- a run of so many records is so many steps
  pub steps : Steps μ records (Running (record { state = state })) before registers_before (machine_in end) cells_left registers_left
  -- it is over neither too early nor too late
  pub ends : EndsAfter end budget free (length records)
  -- a longer budget only adds records behind these
  pub extends : (more : ℕ) → (rest : List Record) × ((answer before (run μ (budget + more) free state registers_before)).records ≡ records ++ rest)
  -- cut in two by its budget, a run does the same
  pub cut : (first second : ℕ) → first + second ≡ budget →
      run μ budget free state registers_before ≡ bind (run μ first free state registers_before) (resume μ second free)
