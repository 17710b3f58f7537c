-- What is written reads back.
use Rattle.std.proofs.Common.{◌≡◌, ℕ, ◌+◌, ◌-◌, ◌*◌, ◌/◌, ◌%◌, ◌^◌, ◌<◌, ◌≤◌, true, ltb, List, [], ◌∷◌, ◌++◌, length, get_or, Some, None, decimal, Decides, fold, Option, sym, refl, ap, ◌∙◌, append_assoc, append-nil, arith}
use Rattle.std.specs.Option.{option_map}
use Rattle.std.specs.List.{AllByRecursion}
use Rattle.std.proofs.lemmas.Fmt.{decimal_by_steps}
use Rattle.std.proofs.lemmas.Bool.{and_parts, ltb-true}
use Rattle.std.proofs.lemmas.Bool.Decides.{nat_tests, Decides-ltb}
use Rattle.std.proofs.ByRecursion.{Decides-by_and}
use Rattle.transcript.specs.Line.{Progress, all, with_digit, feed, fit, line_numbers, written, ReadsBack}

-- a text as far as it is read, after whole numbers, and within the number n
abbrev after : List ℕ → Option Progress
after e = Some (record { ended = e; going = None })

abbrev within : List ℕ → ℕ → Option Progress
within e n = Some (record { ended = e; going = Some n })

digit_read : (p : Progress) (d : ℕ) → d < 10 → feed (Some p) (48 + d) ≡ Some (with_digit p d)
digit_read p d small = let back : 48 + d - 48 ≡ d = omega arith in grind (arith, nat_tests)

abbrev Reads : ℕ → List ℕ → Type 0
Reads n ds = (e rest : List ℕ) → fold feed (after e) (ds ++ rest) ≡ fold feed (within e n) rest

one : (n : ℕ) → n < 10 → Reads n ((48 + n) ∷ [])
one n small e rest =
    let same : 0 * 10 + n ≡ n = omega arith in
    ap (λ p. fold feed p rest) (digit_read (record { ended = e; going = None }) n small ∙ ap (within e) same)

more : (n : ℕ) (ds : List ℕ) → 10 ≤ n → Reads (n / 10) ds → Reads n (ds ++ ((48 + n % 10) ∷ []))
more n ds big front e rest =
    let same : n / 10 * 10 + n % 10 ≡ n = omega arith in
    ap (fold feed (after e)) (append_assoc ds ((48 + n % 10) ∷ []) rest)
    ∙ front e ((48 + n % 10) ∷ rest)
    ∙ ap (λ p. fold feed p rest) (digit_read (record { ended = e; going = Some (n / 10) }) (n % 10) (omega arith) ∙ ap (within e) same)

reads : (e ns : List ℕ) → fit ns ≡ true → option_map all (fold feed (after e) (written ns)) ≡ Some (e ++ ns)
reads e [] h = refl
reads e (n ∷ []) h =
    let small = ltb-true n (2 ^ 32) (and_parts _ _ h).0 in
    ap (λ t. option_map all (fold feed (after e) t)) (sym (append-nil (decimal n))) ∙ ap (option_map all) (decimal_by_steps Reads one more n (omega arith) e [])
reads e (n ∷ m ∷ ns) h =
    let parts = and_parts (ltb n (2 ^ 32)) (fit (m ∷ ns)) h in
    let small = ltb-true n (2 ^ 32) parts.0 in
    ap (option_map all) (decimal_by_steps Reads one more n (omega arith) e (32 ∷ written (m ∷ ns)))
    ∙ reads (e ++ n ∷ []) (m ∷ ns) parts.1
    ∙ ap Some (append_assoc e (n ∷ []) (m ∷ ns))

pub read_written : (ns : List ℕ) → length ns ≡ 6 → fit ns ≡ true → line_numbers (written ns) ≡ Some ns
read_written ns long fits = let all_read = reads [] ns fits in grind (arith, nat_tests)

fit_decides : (ns : List ℕ) → Decides (fit ns) (AllByRecursion (λ n. n < 2 ^ 32) ns)
fit_decides ns = Decides-by_and (λ n. ltb n (2 ^ 32)) (λ n. n < 2 ^ 32) fit (λ n. Decides-ltb n (2 ^ 32)) refl (λ _ _. refl) ns

pub law : (line : List ℕ) (r : Option (List ℕ)) → r ≡ line_numbers line → ReadsBack line r
law line r value ns long small e = value ∙ ap line_numbers e ∙ read_written ns long ((fit_decides ns).1 small)

-- a list of six, as code takes it apart
abbrev pub places : List ℕ → List ℕ
places ns = get_or ns 0 0 ∷ get_or ns 1 0 ∷ get_or ns 2 0 ∷ get_or ns 3 0 ∷ get_or ns 4 0 ∷ get_or ns 5 0 ∷ []

pub six_places : (ns : List ℕ) → length ns ≡ 6 → places ns ≡ ns
six_places [] h = absurd (omega arith)
six_places (a ∷ []) h = absurd (omega arith)
six_places (a ∷ b ∷ []) h = absurd (omega arith)
six_places (a ∷ b ∷ c ∷ []) h = absurd (omega arith)
six_places (a ∷ b ∷ c ∷ d ∷ []) h = absurd (omega arith)
six_places (a ∷ b ∷ c ∷ d ∷ e ∷ []) h = absurd (omega arith)
six_places (a ∷ b ∷ c ∷ d ∷ e ∷ f ∷ []) h = refl
six_places (a ∷ b ∷ c ∷ d ∷ e ∷ f ∷ g ∷ ns) h = absurd (omega arith)
