-- Worked cases of the definitions.
use Rattle.std.specs.Prelude.{◌≡◌, ℕ, List, [], ◌∷◌, Err}
use Rattle.rulebook.specs.Answer.{Answer, allowed, by_half}
use Rattle.rulebook.specs.declared.answer.Half.TheVariants.{Alone}
use Rattle.rulebook.specs.declared.group.Group.{Group}
use Rattle.rulebook.specs.declared.group.Group.TheVariants.{Load, Store, Call, Ret, Fetch}
use Rattle.rulebook.specs.declared.question.Question.{Question}
use Rattle.policies.specs.DepthIsolation.{depth_isolation}
use Rattle.instruction.specs.declared.operation.Operation.TheVariants.{Sub, Shl}
use Rattle.instruction.specs.Operation.{computed}
use Rattle.cases.specs.declared.case.Case.{Case}
use Rattle.cases.specs.declared.case.Case.TheVariants.{Asked, Computed}

-- a question in which b has no part: group, pc, ci, a and m
abbrev pub asks : Group → ℕ → ℕ → ℕ → ℕ → Question
asks group pc ci a m = record { group = group; pc = pc; ci = ci; a = a; b = 0; m = m }

-- denied by a rulebook that is no pair
abbrev pub denied : ℕ → Answer
denied violation = Err (record { half = Alone; violation = violation })

abbrev pub marked : List Case
marked =
    Asked (asks Fetch 0 16 0 0) (allowed 0 0)
    ∷ Asked (asks Fetch 0 256 0 0) (denied 2)
    ∷ Asked (asks Load 1 16 0 769) (allowed 1 512)
    ∷ Asked (asks Load 1 16 0 256) (denied 4)
    ∷ Asked (asks Store 1 16 513 257) (denied 7)
    ∷ Asked (asks Call 254 16 0 0) (allowed 255 766)
    ∷ Asked (asks Call 255 16 0 0) (denied 9)
    ∷ Asked (asks Ret 0 16 512 0) (denied 10)
    ∷ Asked (asks Store 1 17 512 1) (allowed 1 769)
    ∷ Computed Sub 0 1 4294967295
    ∷ Computed Shl 1 33 2
    ∷ []

abbrev pub Holds : Case → Type 0
Holds (Asked question answer) = by_half Alone (depth_isolation question) ≡ answer
Holds (Computed op x y result) = computed op x y ≡ result
