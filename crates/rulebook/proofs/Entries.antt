-- Lists of entries: what is found in them, also after one more.
use Rattle.std.proofs.Common.{◌≡◌, ℕ, Bool, true, false, cond, not, ltb, List, [], ◌∷◌, ◌++◌, length, is_some, Some, None, Ok, Option, sym, refl, subst, arith}
use Rattle.std.specs.Option.{option_or}
use Rattle.std.proofs.lemmas.Bool.{and_parts, both_ways}
use Rattle.rulebook.specs.declared.entry.Entry.{Entry}
use Rattle.rulebook.specs.declared.question.Question.{Question}
use Rattle.rulebook.specs.Answer.{Answer}
use Rattle.rulebook.specs.Question.{same}
use Rattle.rulebook.specs.Entry.{recall, distinct, if_room, with_room, if_recalled, cached, capacity}
use Rattle.rulebook.proofs.Questions.{same_true, same_false}

recall_push : (entries : List Entry) (e : Entry) (q : Question) →
    recall (entries ++ e ∷ []) q ≡ option_or (recall entries q) (cond (same e.question q) (Some e) None)
recall_push [] e q = refl
recall_push (x ∷ entries) e q = go (same x.question q) (recall_push entries e q)
  where
    go : (t : Bool) → recall (entries ++ e ∷ []) q ≡ option_or (recall entries q) (cond (same e.question q) (Some e) None) →
        cond t (Some x) (recall (entries ++ e ∷ []) q) ≡ option_or (cond t (Some x) (recall entries q)) (cond (same e.question q) (Some e) None)
    go true rest = refl
    go false rest = rest

missed : (t : Bool) (x : Entry) (o : Option Entry) → cond t (Some x) o ≡ None → (t ≡ false) × (o ≡ None)
missed true x o e = absurd (let z : ◌≡◌ {A = ℕ} 0 1 = cc in let w : ⊥ = omega arith in w)
missed false x o e = (refl, e)

is_none : (o : Option Entry) → not (is_some o) ≡ true → o ≡ None
is_none (Some x) e = absurd (both_ways true (sym e) refl)
is_none None e = refl

-- one entry more, of a question that had none
pub distinct_push : (entries : List Entry) (e : Entry) → distinct entries ≡ true → recall entries e.question ≡ None → distinct (entries ++ e ∷ []) ≡ true
distinct_push [] e d n = refl
distinct_push (x ∷ entries) e d n =
    let parts = and_parts (not (is_some (recall entries x.question))) (distinct entries) d in
    let gone = missed (same x.question e.question) x (recall entries e.question) n in
    let none : recall (entries ++ e ∷ []) x.question ≡ None =
    rw (recall_push entries e x.question, is_none _ parts.0, same_false _ _ gone.0) in
    rw (none, distinct_push entries e parts.1 gone.1)

-- what is remembered of a question changes nothing, where it is what stands below
pub cached_push : (entries : List Entry) (e : Entry) (below : Question → Answer) (p : Question) →
    recall entries e.question ≡ None → below e.question ≡ Ok e.tags →
    cached (entries ++ e ∷ []) below p ≡ cached entries below p
cached_push entries e below p n a = rw (recall_push entries e p) (go (recall entries p) (same e.question p) refl)
  where
    go : (o : Option Entry) (t : Bool) → same e.question p ≡ t → if_recalled (option_or o (cond t (Some e) None)) (below p) ≡ if_recalled o (below p)
    go (Some f) t s = refl
    go None true s = sym (subst (λ z. below z ≡ Ok e.tags) (same_true e.question p s) a)
    go None false s = refl

-- the same, where there may be no room
pub cached_room : (entries : List Entry) (e : Entry) (below : Question → Answer) (p : Question) →
    recall entries e.question ≡ None → below e.question ≡ Ok e.tags →
    cached (with_room entries e) below p ≡ cached entries below p
cached_room entries e below p n a = go (ltb (length entries) capacity)
  where
    go : (t : Bool) → cached (if_room t entries e) below p ≡ cached entries below p
    go true = cached_push entries e below p n a
    go false = refl
