use Rattle.std.proofs.Common.{◌≡◌, ℕ, [], ◌∷◌, length, get_or, Some, Result, Ok, Err, sym, ap, ◌∙◌, arith, rules}
use Rattle.std.specs.Result.{result_ok}
use Rattle.rulebook.specs.declared.group.Group.{Group}
use Rattle.rulebook.specs.declared.group.UnknownGroup.{UnknownGroup}
use Rattle.rulebook.specs.Group.{GroupOf, number_of}
use Rattle.transcript.proofs.Back.{six_places}
use Rattle.transcript.proofs.question.question_of.Goals as goal

numbered : (number : ℕ) (r : Result Group UnknownGroup) (group : Group) → GroupOf number r → Some group ≡ result_ok r → number_of group ≡ number
numbered number (Ok found) group is e = search rules
numbered number (Err unknown) group is e = search rules

pub returns : goal.returns
returns c =
    let ns = c.args.numbers in
    let long : length ns ≡ 6 = omega arith in
    let first : number_of c.in_ok-group.group ≡ get_or ns 0 0 = numbered _ _ _ c.try_from.ensures c.in_ok-group.ensures.value in
    sym (six_places ns long) ∙ ap (λ n. n ∷ get_or ns 1 0 ∷ get_or ns 2 0 ∷ get_or ns 3 0 ∷ get_or ns 4 0 ∷ get_or ns 5 0 ∷ []) (sym first)
