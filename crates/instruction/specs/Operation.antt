-- What the operations compute, on words of 32 bits.
use Rattle.std.specs.Prelude.{ℕ, ◌+◌, ◌-◌, ◌*◌, ◌%◌, ◌^◌, cond, bit_and, bit_xor, nat_lt}
use Rattle.instruction.specs.declared.operation.Operation.{Operation}
use Rattle.instruction.specs.declared.operation.Operation.TheVariants.{Add, Sub, And, Xor, Shl, Less}

-- sums wrap
abbrev pub wrap : ℕ → ℕ
wrap n = n % 2 ^ 32

abbrev pub computed : Operation → ℕ → ℕ → ℕ
computed Add x y = wrap (x + y)
computed Sub x y = wrap (x + (2 ^ 32 - y))
computed And x y = bit_and x y
computed Xor x y = bit_xor x y
computed Shl x y = wrap (x * 2 ^ (y % 32))
computed Less x y = cond (nat_lt x y) 1 0
