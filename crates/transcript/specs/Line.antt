-- What a line of six numbers says, and how one is written. Bytes and numbers are ℕ, so nothing wraps.
-- LAW (`ReadsBack`, below): any six numbers below 2 ^ 32, written in decimal with a single space between each two, are read
-- back as exactly those six.
use Rattle.std.specs.Prelude.{◌≡◌, ℕ, ◌+◌, ◌-◌, ◌*◌, ◌^◌, ◌<◌, Bool, true, cond, ◌&&◌, ◌||◌, List, [], ◌∷◌, ◌++◌, length, Some, None, decimal, fold, Option, ◌==◌, nat_lt}
use Rattle.std.specs.Option.{unwrap_or, option_map, option_to_list}
use Rattle.std.specs.List.{AllByRecursion}
use Rattle.std.specs.Char.{is_ascii_digit}

-- a space, a tab or a carriage return
abbrev pub blank : ℕ → Bool
blank c = c == 32 || c == 9 || c == 13

-- a text as far as it is read: the numbers that have ended, and the one that the last byte belongs to, if that was a digit
pub record Progress : Type 0 where
  pub ended : List ℕ
  pub going : Option ℕ

-- its numbers so far, in their order
abbrev pub all : Progress → List ℕ
all p = p.ended ++ option_to_list p.going

-- nothing is read
abbrev pub start : Progress
start = record { ended = []; going = None }

-- a digit goes on with the number that is being read, or begins one
abbrev pub with_digit : Progress → ℕ → Progress
with_digit p d = record { ended = p.ended; going = Some (unwrap_or p.going 0 * 10 + d) }

-- a blank ends the number that is being read, if there is one
abbrev pub pause : Progress → Progress
pause p = record { ended = all p; going = None }

-- one more byte; None once there was a byte that is neither a digit nor a blank
abbrev pub feed : Option Progress → ℕ → Option Progress
feed None c = None
feed (Some p) c = cond (is_ascii_digit c) (Some (with_digit p (c - 48))) (cond (blank c) (Some (pause p)) None)

-- the numbers of a text of digits and blanks, however many and however large
abbrev pub numbers_in : List ℕ → Option (List ℕ)
numbers_in text = option_map all (fold feed (Some start) text)

-- each number fits 32 bits
abbrev pub fit : List ℕ → Bool
fit [] = true
fit (n ∷ ns) = nat_lt n (2 ^ 32) && fit ns

-- the numbers, if they are six and fit
abbrev pub six : Option (List ℕ) → Option (List ℕ)
six None = None
six (Some ns) = cond (length ns == 6 && fit ns) (Some ns) None

-- what `read_numbers` answers
abbrev pub line_numbers : List ℕ → Option (List ℕ)
line_numbers line = six (numbers_in line)

-- the decimal digits of the numbers, with a space between each two
abbrev pub written : List ℕ → List ℕ
written [] = []
written (n ∷ []) = decimal n
written (n ∷ m ∷ ns) = decimal n ++ 32 ∷ written (m ∷ ns)

-- the law, of a line and of r, what was read of it
abbrev pub ReadsBack : List ℕ → Option (List ℕ) → Type 0
ReadsBack line r = (ns : List ℕ) → length ns ≡ 6 → AllByRecursion (λ n. n < 2 ^ 32) ns → line ≡ written ns → r ≡ Some ns
