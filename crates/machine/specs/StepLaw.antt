-- What every step obeys, in terms of its record.
use Rattle.std.specs.Prelude.{◌≡◌, ℕ, Bool, cond, ◌&&◌, List, Some, None, Ok, Err, Option, ◌==◌, ◌≢◌, slice_set}
use Rattle.rulebook.specs.declared.group.Group.TheVariants as group
use Rattle.rulebook.specs.Answer.{Answer, allowed}
use Rattle.rulebook.specs.Group.{number_of}
use Rattle.instruction.specs.declared.instruction.Instruction.{Instruction}
use Rattle.instruction.specs.Decode.{decoded}
use Rattle.machine.specs.declared.cell.Cell.{Cell}
use Rattle.machine.specs.declared.records.Cause.{Cause}
use Rattle.machine.specs.declared.records.Cause.TheVariants.{Halted, PcOutside, Illegal, DataOutside, Denied, Running}
use Rattle.machine.specs.declared.records.Record.{Record}
use Rattle.machine.specs.declared.state.Next.TheVariants.{Ended}
use Rattle.machine.specs.declared.state.State.{State}
use Rattle.machine.specs.declared.state.Stepped.{Stepped}
use Rattle.machine.specs.Cause.{cause_number}
use Rattle.machine.specs.Cells.{cell_in, tag_in, word_in}
use Rattle.machine.specs.Effect.{target_of, written}
use Rattle.machine.specs.Step.{Meaning, cell_told, counted, fetch_question, next_by, state_after}

-- P, where the step went through
abbrev pub WhereDone : Cause → Type 0 → Type 0
WhereDone Halted P = P
WhereDone PcOutside P = Unit {0}
WhereDone Illegal P = Unit {0}
WhereDone DataOutside P = Unit {0}
WhereDone (Denied denial) P = Unit {0}
WhereDone Running P = P

-- P, where it was stopped, with a cause of 1 to 4
abbrev pub WhereStopped : Cause → Type 0 → Type 0
WhereStopped Halted P = Unit {0}
WhereStopped PcOutside P = P
WhereStopped Illegal P = P
WhereStopped DataOutside P = P
WhereStopped (Denied denial) P = P
WhereStopped Running P = Unit {0}

abbrev pub runs_on : Record → Bool
runs_on entry = cause_number entry.cause == cause_number Running

-- the record is of a store that went through
abbrev pub stores : Record → Bool
stores entry = runs_on entry && number_of entry.question.group == number_of group.Store

-- the cells after a step, from its record and the cells before
abbrev pub cells_told : Record → List Cell → List Cell
cells_told entry cells = cond (stores entry) (slice_set cells entry.address (cell_told entry)) cells

abbrev pub target_in : Option Instruction → Option ℕ
target_in None = None
target_in (Some instruction) = target_of instruction

-- the register that the step has written: the one that the record's word names
abbrev pub register_told : Record → Option ℕ
register_told entry = cond (runs_on entry) (target_in (decoded entry.word)) None

abbrev pub registers_told : Record → List Cell → List Cell
registers_told entry registers = written (register_told entry) (cell_told entry) registers

-- the pc tag of an answer that allows
abbrev pub allowed_tag : Answer → Option ℕ
allowed_tag (Ok tags) = Some tags.pc
allowed_tag (Err denial) = None

pub record StepLaw (μ : Meaning) (state : State) (before registers_before : List Cell) (stepped : Stepped) (cells_left registers_left : List Cell) : Type 0 where
  -- the record tells all that has changed: the cells, the registers and the machine
  pub cells : cells_left ≡ cells_told stepped.entry before
  pub registers : registers_left ≡ registers_told stepped.entry registers_before
  pub next : stepped.next ≡ next_by stepped.entry.cause (state_after state.size stepped.entry)
  -- at most one cell changes, at the record's address, and one register, which the record's word names
  pub one_cell : (i : ℕ) → (i ≢ stepped.entry.address) → cell_in cells_left i ≡ cell_in before i
  pub one_register : (i : ℕ) → (Some i ≢ register_told stepped.entry) → cell_in registers_left i ≡ cell_in registers_before i
  -- a stop with a cause of 1 to 4 leaves everything
  pub leaves : WhereStopped stepped.entry.cause
      ((cells_left ≡ before) × (registers_left ≡ registers_before) × (stepped.next ≡ Ended (record { state = state })))
  -- what goes through is the instruction at the pc; its fetch was allowed, and then the op, with the tag that the fetch left
  pub there : WhereDone stepped.entry.cause
      ((stepped.entry.question.ci ≡ tag_in before state.pc) × (stepped.entry.word ≡ word_in before state.pc))
  pub fetched : WhereDone stepped.entry.cause
      (allowed_tag (μ (fetch_question state.tag (tag_in before state.pc))) ≡ Some stepped.entry.question.pc)
  pub allowed : WhereDone stepped.entry.cause
      (μ stepped.entry.question ≡ allowed stepped.entry.tag stepped.entry.r)
  -- and it is counted
  pub counts : WhereDone stepped.entry.cause (stepped.entry.count ≡ counted state.count)
