-- The layout of an instruction word: op (bits 24 to 31), d (20 to 23), s (16 to 19) and k (0 to 15).
use Rattle.std.specs.Prelude.{◌≡◌, ℕ, ◌+◌, ◌-◌, ◌*◌, ◌%◌, ◌^◌, ◌<◌, cond, nat_lt}
use Rattle.rulebook.specs.declared.group.Group.{Group}
use Rattle.rulebook.specs.declared.group.Group.TheVariants as group
use Rattle.rulebook.specs.Group.{number_of}
use Rattle.instruction.specs.declared.operation.Operation.{Operation}
use Rattle.instruction.specs.declared.operation.Operation.TheVariants as operation
use Rattle.instruction.specs.declared.instruction.Instruction.{Instruction}
use Rattle.instruction.specs.declared.instruction.Instruction.TheVariants.{Halt, Const, Move, Compute, Load, Store, Jump, Branch, Call, Ret, Out}

abbrev pub operation_group : Operation → Group
operation_group operation.Add = group.Add
operation_group operation.Sub = group.Sub
operation_group operation.And = group.And
operation_group operation.Xor = group.Xor
operation_group operation.Shl = group.Shl
operation_group operation.Less = group.Less

-- what a rulebook is asked about
abbrev pub group_of : Instruction → Group
group_of Halt = group.Halt
group_of (Const d k) = group.Const
group_of (Move d s) = group.Move
group_of (Compute op d s t) = operation_group op
group_of (Load d s k) = group.Load
group_of (Store d s k) = group.Store
group_of (Jump s) = group.Jump
group_of (Branch s k) = group.Branch
group_of (Call d k) = group.Call
group_of (Ret s) = group.Ret
group_of (Out s) = group.Out

-- four fields in one word
abbrev pub packed : ℕ → ℕ → ℕ → ℕ → ℕ
packed op d s k = op * 2 ^ 24 + d * 2 ^ 20 + s * 2 ^ 16 + k

-- the low 16 bits of a number, which are what a word has room for
abbrev pub low : ℕ → ℕ
low k = k % 2 ^ 16

-- 16 bits, their sign carried to 32
abbrev pub extended : ℕ → ℕ
extended k = cond (nat_lt k (2 ^ 15)) k (k + (2 ^ 32 - 2 ^ 16))

-- the op is the number of the group; a field that an op does not name is 0
abbrev pub encoded : Instruction → ℕ
encoded Halt = packed (number_of group.Halt) 0 0 0
encoded (Const d k) = packed (number_of group.Const) d 0 (low k)
encoded (Move d s) = packed (number_of group.Move) d s 0
encoded (Compute op d s t) = packed (number_of (operation_group op)) d s t
encoded (Load d s k) = packed (number_of group.Load) d s (low k)
encoded (Store d s k) = packed (number_of group.Store) d s (low k)
encoded (Jump s) = packed (number_of group.Jump) 0 s 0
encoded (Branch s k) = packed (number_of group.Branch) 0 s (low k)
encoded (Call d k) = packed (number_of group.Call) d 0 (low k)
encoded (Ret s) = packed (number_of group.Ret) 0 s 0
encoded (Out s) = packed (number_of group.Out) 0 s 0

-- a number that 16 bits can say
abbrev pub Short : ℕ → Type 0
Short k = k ≡ extended (low k)

-- the fields have room in a word
abbrev pub Fits : Instruction → Type 0
Fits Halt = Unit {0}
Fits (Const d k) = (d < 16) × Short k
Fits (Move d s) = (d < 16) × (s < 16)
Fits (Compute op d s t) = (d < 16) × (s < 16) × (t < 16)
Fits (Load d s k) = (d < 16) × (s < 16) × Short k
Fits (Store d s k) = (d < 16) × (s < 16) × Short k
Fits (Jump s) = s < 16
Fits (Branch s k) = (s < 16) × Short k
Fits (Call d k) = (d < 16) × Short k
Fits (Ret s) = s < 16
Fits (Out s) = s < 16
