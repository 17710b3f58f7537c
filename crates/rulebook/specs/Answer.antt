-- Answers: the number of each half, and what a narrow rulebook may answer.
use Rattle.std.specs.Prelude.{ℕ, ◌≤◌, Ok, Err, Result}
use Rattle.rulebook.specs.declared.answer.Half.{Half}
use Rattle.rulebook.specs.declared.answer.Half.TheVariants as half
use Rattle.rulebook.specs.declared.answer.Tags.{Tags}
use Rattle.rulebook.specs.declared.answer.Denial.{Denial}

abbrev pub half_number : Half → ℕ
half_number half.Alone = 0
half_number half.Lower = 1
half_number half.Upper = 2

-- the tags that are allowed, or why not
abbrev pub Answer : Type 0
Answer = Result Tags Denial

-- the same of a narrow rulebook, which cannot tell which half it is: why not is the number of a violation
abbrev pub NarrowAnswer : Type 0
NarrowAnswer = Result Tags ℕ

-- allowed, with the tags that the program counter and the result then have
abbrev pub allowed : {V : Type 0} → ℕ → ℕ → Result Tags V
allowed pc r = Ok (record { pc = pc; r = r })

-- tags of 16 bits
abbrev pub IsNarrow : Tags → Type 0
IsNarrow tags = (tags.pc ≤ 65535) × (tags.r ≤ 65535)

-- what rules say, with a violation by its number
abbrev pub by_number : {V : Type 0} → (V → ℕ) → Result Tags V → NarrowAnswer
by_number number (Ok tags) = Ok tags
by_number number (Err violation) = Err (number violation)

-- what a narrow rulebook answers, said by one half of a rulebook
abbrev pub by_half : Half → NarrowAnswer → Answer
by_half half (Ok tags) = Ok tags
by_half half (Err violation) = Err (record { half = half; violation = violation })
