-- Questions that are equal in all six numbers are the same question.
use Rattle.std.proofs.Common.{◌≡◌, ℕ, Bool, true, false, eqb, sym, refl, subst, rules}
use Rattle.std.proofs.lemmas.Bool.{both_ways, eq-eqb}
use Rattle.rulebook.specs.declared.group.Group.{Group}
use Rattle.rulebook.specs.declared.question.Question.{Question}
use Rattle.rulebook.specs.Group.{number_of}
use Rattle.rulebook.specs.Question.{same}

same_number : (g h : Group) → number_of g ≡ number_of h → g ≡ h
same_number g h e = search rules

pub same_true : (p q : Question) → same p q ≡ true → p ≡ q
same_true p q e = search (rules, same_number)

eqb_self : (n : ℕ) → eqb n n ≡ true
eqb_self n = eq-eqb n n refl

pub same_self : (q : Question) → same q q ≡ true
same_self q = simp eqb_self

pub same_false : (p q : Question) → same p q ≡ false → same q p ≡ false
same_false p q h = go (same q p) refl
  where
    go : (t : Bool) → same q p ≡ t → t ≡ false
    go true e = absurd (both_ways (same p q) h (subst (λ z. same p z ≡ true) (sym (same_true q p e)) (same_self p)))
    go false e = refl
