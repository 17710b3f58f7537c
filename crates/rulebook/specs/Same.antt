-- What `==` tells: whether two groups, or two questions, are one and the same.
use Rattle.std.specs.Prelude.{Bool, Decides, ◌≡◌}
use Rattle.std.specs.Cmp.{IsEquivalence}
use Rattle.std.proofs.Common.{sym, ◌∙◌, arith, rules}
use Rattle.std.proofs.lemmas.Grind.{common_steps}
use Rattle.rulebook.specs.declared.group.Group.{Group}
use Rattle.rulebook.specs.declared.question.Question.{Question}
use Rattle.rulebook.specs.Question.{same, same_laws}
use Rattle.rulebook.specs.contracts.group.GroupPartialEq.TheImpl as groups
use Rattle.rulebook.specs.contracts.question.QuestionPartialEq.TheImpl as questions

-- what `==` answers
abbrev pub same_group : Group → Group → Bool
same_group = (groups.ghosts).eq

abbrev pub same_question : Question → Question → Bool
same_question = (questions.ghosts).eq

-- true for one and the same, and for no other
pub same_group_decides : (g h : Group) → Decides (same_group g h) (g ≡ h)
same_group_decides g h = search rules

pub same_question_decides : (p q : Question) → Decides (same_question p q) (p ≡ q)
same_question_decides p q =
    let group = same_group_decides p.group q.group in
    (λ is. grind (arith, common_steps, group.0), λ same. grind (arith, common_steps, group.1))

-- `==` of questions is `same`, and so has its laws
pub same_question_laws : IsEquivalence same_question
same_question_laws =
    let is : (p q : Question) → same_question p q ≡ same p q = λ p q. search rules in
    record {
      refl = λ p. is p p ∙ same_laws.refl p;
      symm = λ p q. is p q ∙ same_laws.symm p q ∙ sym (is q p);
      congr = λ p q r alike. is p r ∙ same_laws.congr p q r (sym (is p q) ∙ alike) ∙ sym (is q r);
    }
