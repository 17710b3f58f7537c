-- What an instruction word says.
use Rattle.std.specs.Prelude.{◌≡◌, ℕ, ◌/◌, ◌%◌, ◌^◌, Bool, cond, ◌&&◌, IfSome, Some, None, Option, ◌==◌, nat_lt}
use Rattle.instruction.specs.declared.operation.Operation.TheVariants as operation
use Rattle.instruction.specs.declared.instruction.Instruction.{Instruction}
use Rattle.instruction.specs.declared.instruction.Instruction.TheVariants.{Halt, Const, Move, Compute, Load, Store, Jump, Branch, Call, Ret, Out}
use Rattle.instruction.specs.Instruction.{encoded, extended, Fits}

-- the instruction where its condition holds
abbrev pub only : Bool → Instruction → Option Instruction
only b i = cond b (Some i) None

-- by op; what an op does not name is 0, and a register's number is below 16
abbrev pub of_fields : ℕ → ℕ → ℕ → ℕ → Option Instruction
of_fields op d s k =
    cond (op == 0) (only (d == 0 && (s == 0 && k == 0)) Halt)
    (cond (op == 1) (only (s == 0) (Const d (extended k)))
    (cond (op == 2) (only (k == 0) (Move d s))
    (cond (op == 3) (only (nat_lt k 16) (Compute operation.Add d s k))
    (cond (op == 4) (only (nat_lt k 16) (Compute operation.Sub d s k))
    (cond (op == 5) (only (nat_lt k 16) (Compute operation.And d s k))
    (cond (op == 6) (only (nat_lt k 16) (Compute operation.Xor d s k))
    (cond (op == 7) (only (nat_lt k 16) (Compute operation.Shl d s k))
    (cond (op == 8) (only (nat_lt k 16) (Compute operation.Less d s k))
    (cond (op == 9) (Some (Load d s (extended k)))
    (cond (op == 10) (Some (Store d s (extended k)))
    (cond (op == 11) (only (d == 0 && k == 0) (Jump s))
    (cond (op == 12) (only (d == 0) (Branch s (extended k)))
    (cond (op == 13) (only (s == 0) (Call d (extended k)))
    (cond (op == 14) (only (d == 0 && k == 0) (Ret s))
    (cond (op == 15) (only (d == 0 && k == 0) (Out s)) None)))))))))))))))

-- shut, so that those who decode see the instruction and not the tests
unfoldable pub decoded : ℕ → Option Instruction
decoded word = of_fields (word / 2 ^ 24) (word / 2 ^ 20 % 16) (word / 2 ^ 16 % 16) (word % 2 ^ 16)

-- Decoding is the inverse of the layout: a legal word is the encoding of exactly one instruction.
pub record Decodes (word : ℕ) (answer : Option Instruction) : Type 0 where
  -- what is decoded fits, and is encoded by the word
  pub encodes : IfSome answer (λ i. Fits i × (encoded i ≡ word))
  -- every instruction that fits is read back from its encoding
  pub reads_back : (i : Instruction) → Fits i → encoded i ≡ word → answer ≡ Some i
