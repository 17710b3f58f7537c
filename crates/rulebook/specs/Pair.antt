-- Two narrow rulebooks side by side.
use Rattle.std.specs.Prelude.{◌≡◌, ℕ, ◌+◌, ◌*◌, ◌^◌, Ok, Err, Result}
use Rattle.rulebook.specs.declared.answer.Half.TheVariants.{Lower, Upper}
use Rattle.rulebook.specs.declared.answer.Tags.{Tags}
use Rattle.rulebook.specs.declared.question.Question.{Question}
use Rattle.rulebook.specs.Answer.{Answer, NarrowAnswer, allowed, by_half}
use Rattle.rulebook.specs.Question.{each, low, high}

-- a tag made of its two halves
abbrev pub joined : ℕ → ℕ → ℕ
joined lower upper = upper * 2 ^ 16 + lower

-- both allow, or the lower's denial comes first
abbrev pub both : Answer → Answer → Answer
both (Err denial) upper = Err denial
both (Ok low) (Err denial) = Err denial
both (Ok low) (Ok high) = allowed (joined low.pc high.pc) (joined low.r high.r)

-- each part is asked with its half of every tag
abbrev pub pair : (Question → NarrowAnswer) → (Question → NarrowAnswer) → Question → Answer
pair lower upper q = both (by_half Lower (lower (each low q))) (by_half Upper (upper (each high q)))

-- What a pair allows, each part has allowed, with its half of every tag: neither part's tags run into the other's.
pub record Halves {V W : Type 0} (lower : Result Tags V) (upper : Result Tags W) (answer : Answer) : Type 0 where
  pub lower_half : (pc r : ℕ) → answer ≡ allowed pc r → lower ≡ allowed (low pc) (low r)
  pub upper_half : (pc r : ℕ) → answer ≡ allowed pc r → upper ≡ allowed (high pc) (high r)
