-- The calls on a machine: which are refused, and what each answers and leaves.
use Rattle.std.specs.Prelude.{◌≡◌, ℕ, Bool, cond, ◌&&◌, List, length, Some, None, Ok, Err, Option, Result, ◌==◌, nat_le}
use Rattle.refusal.specs.declared.refusal.Refusal.{Refusal}
use Rattle.refusal.specs.declared.refusal.Refusal.TheVariants.{Sizes}
use Rattle.machine.specs.declared.cell.Cell.{Cell}
use Rattle.machine.specs.declared.state.Live.{Live}
use Rattle.machine.specs.declared.state.Refused.{Refused}
use Rattle.machine.specs.declared.state.State.{State}

abbrev pub in_limits : ℕ → Bool
in_limits size = nat_le 16 size && nat_le size 4096

-- cells and registers are as many as the machine needs
abbrev pub fitting : State → List Cell → List Cell → Bool
fitting state cells registers = in_limits (length cells) && (length cells == state.size && length registers == 16)

abbrev pub Sized : State → List Cell → List Cell → Type 0
Sized state cells registers = (length cells ≡ state.size) × (length registers ≡ 16)

-- what a call answers, and the cells and registers that it leaves
pub record Left (A : Type 0) : Type 0 where
  pub answered : A
  pub cells : List Cell
  pub registers : List Cell

abbrev pub left : {A : Type 0} → A → List Cell → List Cell → Left A
left answered cells registers = record { answered = answered; cells = cells; registers = registers }

-- a refused call hands the machine back and leaves all as it was
abbrev pub unless_refused : {A : Type 0} → Option Refusal → Live → List Cell → List Cell → Left A → Left (Result A Refused)
unless_refused None live cells registers made = left (Ok made.answered) made.cells made.registers
unless_refused (Some refusal) live cells registers made = left (Err (record { refusal = refusal; live = live })) cells registers

-- a machine that has made no step
abbrev pub start_state : ℕ → ℕ → ℕ → State
start_state pc tag size = record { pc = pc; tag = tag; count = 0; size = size }

abbrev pub start_answer : ℕ → ℕ → List Cell → Result Live Refusal
start_answer pc tag cells = cond (in_limits (length cells)) (Ok (record { state = start_state pc tag (length cells) })) (Err Sizes)
