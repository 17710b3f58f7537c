-- Where a text has gone past what a line of six numbers can be, no more bytes mend it.
use Rattle.std.proofs.Common.{◌≡◌, ℕ, ◌+◌, ◌-◌, ◌*◌, ◌^◌, Bool, true, false, ◌&&◌, ltb, List, [], ◌∷◌, ◌++◌, Some, None, fold, Option, refl, ap, ◌∙◌, inl, inr, append-nil, arith, length-append}
use Rattle.std.specs.Option.{option_map}
use Rattle.std.specs.Char.{is_ascii_digit}
use Rattle.std.proofs.lemmas.Bool.{cond_both}
use Rattle.std.proofs.lemmas.Bool.Decides.{nat_tests}
use Rattle.transcript.specs.Line.{Progress, all, with_digit, feed, blank, fit, six}
use Rattle.transcript.specs.Reading.{Hopeless}

and_assoc : (a b c : Bool) → (a && (b && c)) ≡ ((a && b) && c)
and_assoc true b c = refl
and_assoc false b c = refl

pub fit_append : (xs ys : List ℕ) → fit (xs ++ ys) ≡ (fit xs && fit ys)
fit_append [] ys = refl
fit_append (x ∷ xs) ys = ap (λ b. ltb x (2 ^ 32) && b) (fit_append xs ys) ∙ and_assoc (ltb x (2 ^ 32)) (fit xs) (fit ys)

pub fit_last : (xs : List ℕ) (n : ℕ) → fit (xs ++ n ∷ []) ≡ (fit xs && ltb n (2 ^ 32))
fit_last xs n = grind (arith, nat_tests, fit_append xs (n ∷ []))

past_digit : (e : List ℕ) (g : Option ℕ) (d : ℕ) → Hopeless (Some (record { ended = e; going = g })) → Hopeless (Some (with_digit (record { ended = e; going = g }) d))
past_digit e None d (inl long) = inl (omega (arith, length-append e [], length-append e ((0 * 10 + d) ∷ [])))
past_digit e None d (inr big) = inr (grind (arith, nat_tests, fit_append e [], fit_last e (0 * 10 + d)))
past_digit e (Some n) d (inl long) = inl (omega (arith, length-append e (n ∷ []), length-append e ((n * 10 + d) ∷ [])))
past_digit e (Some n) d (inr big) = inr (grind (arith, nat_tests, fit_last e n, fit_last e (n * 10 + d)))

past_byte : (p : Option Progress) (c : ℕ) → Hopeless p → Hopeless (feed p c)
past_byte None c h = tt
past_byte (Some p) c h =
    cond_both (is_ascii_digit c) _ _ Hopeless (λ _. past_digit p.ended p.going (c - 48) h) (λ _. cond_both (blank c) _ _ Hopeless (λ _. rw append-nil h) (λ _. tt))

refused : (p : Option Progress) → Hopeless p → six (option_map all p) ≡ None
refused None h = refl
refused (Some p) (inl long) = grind (arith, nat_tests)
refused (Some p) (inr big) = grind (arith, nat_tests)

pub no_line : (p : Option Progress) (cs : List ℕ) → Hopeless p → six (option_map all (fold feed p cs)) ≡ None
no_line p [] h = refused p h
no_line p (c ∷ cs) h = no_line (feed p c) cs (past_byte p c h)
