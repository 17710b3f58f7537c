-- What the call of a step answers and leaves.
use Rattle.std.specs.Prelude.{◌≡◌, cond, List, Some, None, Option, Result, MatchResult}
use Rattle.refusal.specs.declared.refusal.Refusal.{Refusal}
use Rattle.refusal.specs.declared.refusal.Refusal.TheVariants.{Sizes}
use Rattle.refusal.specs.Refusal.{refusal_number}
use Rattle.machine.specs.declared.cell.Cell.{Cell}
use Rattle.machine.specs.declared.state.Live.{Live}
use Rattle.machine.specs.declared.state.Refused.{Refused}
use Rattle.machine.specs.declared.state.State.{State}
use Rattle.machine.specs.declared.state.Stepped.{Stepped}
use Rattle.machine.specs.Calls.{Left, left, unless_refused, fitting}
use Rattle.machine.specs.Program.{answer, after}
use Rattle.machine.specs.Step.{Meaning, step}
use Rattle.machine.specs.StepLaw.{StepLaw}

abbrev pub step_refusal : State → List Cell → List Cell → Option Refusal
step_refusal state cells registers = cond (fitting state cells registers) None (Some Sizes)

abbrev pub step_left : Meaning → State → List Cell → List Cell → Left Stepped
step_left μ state cells registers =
    left (answer cells (step μ state registers)).stepped (after cells (step μ state registers)) (answer cells (step μ state registers)).registers

pub record StepCall (μ : Meaning) (live : Live) (before registers_before : List Cell)
    (answered : Result Stepped Refused) (cells_left registers_left : List Cell) : Type 0 where
  -- the step of the definition; or a refusal that hands the machine back and leaves cells and registers
  pub answers : left answered cells_left registers_left
      ≡ unless_refused (step_refusal live.state before registers_before) live before registers_before (step_left μ live.state before registers_before)
  pub lawful : MatchResult answered (λ stepped. StepLaw μ live.state before registers_before stepped cells_left registers_left)
      (λ refused. refusal_number refused.refusal ≡ 1)
