-- What an instruction reaches, asks with, writes and goes to, by the registers alone.
use Rattle.std.specs.Prelude.{ℕ, ◌+◌, ◌<◌, cond, List, Some, None, Option, ◌==◌, slice_set}
use Rattle.instruction.specs.declared.instruction.Instruction.{Instruction}
use Rattle.instruction.specs.declared.instruction.Instruction.TheVariants.{Halt, Const, Move, Compute, Load, Store, Jump, Branch, Call, Ret, Out}
use Rattle.instruction.specs.Operation.{computed, wrap}
use Rattle.machine.specs.declared.cell.Cell.{Cell}
use Rattle.machine.specs.declared.step.Access.{Access}
use Rattle.machine.specs.declared.step.Access.TheVariants as access
use Rattle.machine.specs.declared.step.Effect.{Effect}
use Rattle.machine.specs.Cells.{tag_in, word_in}

-- the address of a load or a store: register s plus k
abbrev pub access_of : Instruction → List Cell → Access
access_of Halt rs = access.Nothing
access_of (Const d k) rs = access.Nothing
access_of (Move d s) rs = access.Nothing
access_of (Compute op d s t) rs = access.Nothing
access_of (Load d s k) rs = access.Load (wrap (word_in rs s + k))
access_of (Store d s k) rs = access.Store (wrap (word_in rs s + k))
access_of (Jump s) rs = access.Nothing
access_of (Branch s k) rs = access.Nothing
access_of (Call d k) rs = access.Nothing
access_of (Ret s) rs = access.Nothing
access_of (Out s) rs = access.Nothing

-- the cell that is reached is one of so many
abbrev pub Reaches : Access → ℕ → Type 0
Reaches access.Nothing size = Unit {0}
Reaches (access.Load address) size = address < size
Reaches (access.Store address) size = address < size

abbrev pub address_in : Access → ℕ
address_in access.Nothing = 0
address_in (access.Load address) = address
address_in (access.Store address) = address

-- the tags a and b that the op is asked with
abbrev pub sources_of : Instruction → List Cell → ℕ × ℕ
sources_of Halt rs = (0, 0)
sources_of (Const d k) rs = (0, 0)
sources_of (Move d s) rs = (tag_in rs s, 0)
sources_of (Compute op d s t) rs = (tag_in rs s, tag_in rs t)
sources_of (Load d s k) rs = (tag_in rs s, 0)
sources_of (Store d s k) rs = (tag_in rs d, tag_in rs s)
sources_of (Jump s) rs = (tag_in rs s, 0)
sources_of (Branch s k) rs = (tag_in rs s, 0)
sources_of (Call d k) rs = (0, 0)
sources_of (Ret s) rs = (tag_in rs s, 0)
sources_of (Out s) rs = (tag_in rs s, 0)

-- the register that is written
abbrev pub target_of : Instruction → Option ℕ
target_of Halt = None
target_of (Const d k) = Some d
target_of (Move d s) = Some d
target_of (Compute op d s t) = Some d
target_of (Load d s k) = Some d
target_of (Store d s k) = None
target_of (Jump s) = None
target_of (Branch s k) = None
target_of (Call d k) = Some d
target_of (Ret s) = None
target_of (Out s) = None

-- the address after the instruction at pc, and one that is k further
abbrev pub following : ℕ → ℕ
following pc = wrap (pc + 1)

abbrev pub further : ℕ → ℕ → ℕ
further pc k = wrap (following pc + k)

abbrev pub effect : ℕ → ℕ → Effect
effect result next = record { result = result; next = next }

-- the word that is written or shown, and the next pc; `loaded` is the word that a load has taken
abbrev pub effect_of : Instruction → ℕ → ℕ → List Cell → Effect
effect_of Halt pc loaded rs = effect 0 pc
effect_of (Const d k) pc loaded rs = effect k (following pc)
effect_of (Move d s) pc loaded rs = effect (word_in rs s) (following pc)
effect_of (Compute op d s t) pc loaded rs = effect (computed op (word_in rs s) (word_in rs t)) (following pc)
effect_of (Load d s k) pc loaded rs = effect loaded (following pc)
effect_of (Store d s k) pc loaded rs = effect (word_in rs d) (following pc)
effect_of (Jump s) pc loaded rs = effect 0 (word_in rs s)
effect_of (Branch s k) pc loaded rs = effect 0 (cond (word_in rs s == 0) (following pc) (further pc k))
effect_of (Call d k) pc loaded rs = effect (following pc) (further pc k)
effect_of (Ret s) pc loaded rs = effect 0 (word_in rs s)
effect_of (Out s) pc loaded rs = effect (word_in rs s) (following pc)

-- the registers with one written, if any is
abbrev pub written : Option ℕ → Cell → List Cell → List Cell
written None cell rs = rs
written (Some d) cell rs = slice_set rs d cell
