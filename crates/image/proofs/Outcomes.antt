-- Results whose error was turned into another, or let go.
use Rattle.std.proofs.Common.{◌≡◌, Some, None, Ok, Err, Option, Result, sym, refl, ap, ◌∙◌, subst}
use Rattle.std.specs.Result.{MatchResult, IsErrAnd, IsOk, IfErr, result_err, result_ok}
use Rattle.std.proofs.lemmas.Result.{err_from_is_err_and}

-- what `?` returns of a fault that it passes up
pub err_passed : {X Y : Type 0} (r : Result X Y) (y : Y) → IsErrAnd r (λ z. z ≡ y) → r ≡ Err y
err_passed r y e = let p = err_from_is_err_and r e in p.1 ∙ ap Err p.2

pub MatchResult-from_map_err : {X Y Z : Type 0} (r : Result X Y) (s : Result X Z) (Post : Y → Z → Type 0) (P : X → Type 0) (Q : Z → Type 0)
    → MatchResult r (λ x. s ≡ Ok x) (λ y. IsErrAnd s (Post y)) → MatchResult r P (λ y. (z : Z) → Post y z → Q z) → MatchResult s P Q
MatchResult-from_map_err (Ok x) s Post P Q e h = subst (λ t. MatchResult t P Q) (sym e) h
MatchResult-from_map_err (Err y) s Post P Q e h = let p = err_from_is_err_and s e in subst (λ t. MatchResult t P Q) (sym p.1) (h p.0 p.2)

pub IfErr-from_result_err : {X Y : Type 0} (r : Result X Y) (o : Option Y) → result_err r ≡ o → IfErr r (λ y. o ≡ Some y)
IfErr-from_result_err (Ok x) o e = tt
IfErr-from_result_err (Err y) o e = sym e

module _ {X Y : Type 0} (P : X → Type 0) (Q : Y → Type 0) where
  pub ok_taken : (r : Result X Y) (o : Option X) (x : X) → o ≡ result_ok r → o ≡ Some x → MatchResult r P Q → P x
  ok_taken (Ok y) o x e s h = let same : y ≡ x = cc in subst P same h
  ok_taken (Err y) o x e s h = cc

  pub ok_missed : (r : Result X Y) (o : Option X) → o ≡ result_ok r → o ≡ None → MatchResult r P Q → (y : Y) × Q y
  ok_missed (Ok y) o e s h = cc
  ok_missed (Err y) o e s h = (y, h)

  pub ok_always : (r : Result X Y) → MatchResult r P Q → ((y : Y) → Q y → ⊥) → IsOk r
  ok_always (Ok x) h never = refl
  ok_always (Err y) h never = absurd (never y h)
