-- Questions: when two are the same, and the two halves of their tags.
use Rattle.std.specs.Prelude.{ℕ, ◌/◌, ◌%◌, ◌^◌, Bool, ◌&&◌, ◌==◌}
use Rattle.std.specs.Cmp.{IsEquivalence, and_equiv, on_equiv, nat_eq_equiv}
use Rattle.rulebook.specs.declared.question.Question.{Question}
use Rattle.rulebook.specs.Group.{number_of}

-- the low and the high 16 bits of a tag
abbrev pub low : ℕ → ℕ
low t = t % 2 ^ 16

abbrev pub high : ℕ → ℕ
high t = t / 2 ^ 16

-- the question with each tag seen through `part`
abbrev pub each : (ℕ → ℕ) → Question → Question
each part q = record { group = q.group; pc = part q.pc; ci = part q.ci; a = part q.a; b = part q.b; m = part q.m }

-- equal in all six numbers
abbrev pub same : Question → Question → Bool
same p q =
    (number_of p.group == number_of q.group)
    && p.pc == q.pc && p.ci == q.ci && p.a == q.a && p.b == q.b && p.m == q.m

-- every question is the same as itself, two are so both ways round, and so are three along a chain
pub same_laws : IsEquivalence same
same_laws =
    let by : (Question → ℕ) → Question → Question → Bool = λ part p q. part p == part q in
    let law : (part : Question → ℕ) → IsEquivalence (by part) = λ part. on_equiv part nat_eq_equiv in
    and_equiv (and_equiv (and_equiv (and_equiv (and_equiv (law (λ q. number_of q.group)) (law (λ q. q.pc))) (law (λ q. q.ci))) (law (λ q. q.a))) (law (λ q. q.b))) (law (λ q. q.m))
