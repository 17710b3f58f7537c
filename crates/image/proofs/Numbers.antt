-- Numbers and the bytes that stand for them.
use Rattle.std.proofs.Common.{◌≡◌, ℕ, zero, suc, ◌+◌, ◌*◌, ◌/◌, ◌%◌, ◌^◌, ◌<◌, ◌≤◌, List, [], ◌∷◌, ◌++◌, length, get_or, take, drop, refl, ap, ◌∙◌, mod-lt, mod-eq_of_lt, pow-suc, zero-add, arith}
use native.Mathlib.Nat.{add-mul-div_left, add-mul-mod_self_left, div-eq_of_lt, mod-add-div}
use Rattle.std.proofs.lemmas.Nat.{div_below}
use Rattle.std.proofs.ByRecursion.{All-drop, All-from_get_or, All-take}
use Rattle.std.proofs.lemmas.List.{drop_at, drop_more, length-drop, length-take-le, take-append-drop, take_at}
use Rattle.image.specs.Bytes.{Bytes, number, bytes_of, field}

pub length_bytes_of : (k n : ℕ) → length (bytes_of k n) ≡ k
unfolding bytes_of
length_bytes_of zero n = refl
length_bytes_of (suc k) n = ap suc (length_bytes_of k (n / 256))

pub bytes_bytes_of : (k n : ℕ) → Bytes (bytes_of k n)
unfolding bytes_of
bytes_bytes_of zero n = tt
bytes_bytes_of (suc k) n = (mod-lt n (omega arith), bytes_bytes_of k (n / 256))

-- writing a number that fits and reading it gives it back
pub number_bytes_of : (k n : ℕ) → n < 256 ^ k → number (bytes_of k n) ≡ n
unfolding number bytes_of
number_bytes_of zero n h = omega arith
number_bytes_of (suc k) n h =
    let p : n < 256 ^ k * 256 = rw pow-suc at h in
    let e = number_bytes_of k (n / 256) (div_below n 256 (256 ^ k) (omega arith) p) in
    rw e (mod-add-div n 256)

-- and so does reading bytes and writing the number
pub bytes_of_number : (bs : List ℕ) → Bytes bs → bytes_of (length bs) (number bs) ≡ bs
unfolding number bytes_of
bytes_of_number [] h = refl
bytes_of_number (b ∷ bs) h =
    let low : (b + 256 * number bs) % 256 ≡ b = add-mul-mod_self_left b 256 (number bs) ∙ mod-eq_of_lt h.0 in
    let high : (b + 256 * number bs) / 256 ≡ number bs = add-mul-div_left b (number bs) (omega arith) ∙ ap (λ n. n + number bs) (div-eq_of_lt h.0) ∙ zero-add (number bs) in
    rw (low, high, bytes_of_number bs h.1)

-- bytes that begin with a field are that field's number and the rest
pub field_split : (k : ℕ) (bs : List ℕ) → k ≤ length bs → Bytes bs → bytes_of k (field k 0 bs) ++ drop k bs ≡ bs
unfolding field
field_split k bs le h =
    let e : bytes_of (length (take k bs)) (number (take k bs)) ≡ take k bs = bytes_of_number (take k bs) (All-take _ k bs h) in
    let e' : bytes_of k (number (take k bs)) ≡ take k bs = rw (length-take-le k bs le) at e in
    ap (λ xs. xs ++ drop k bs) e' ∙ take-append-drop k bs

-- what stands behind some bytes that were passed over
pub field_at : (k n : ℕ) (xs ys : List ℕ) → n < 256 ^ k → field k (length xs) (xs ++ (bytes_of k n ++ ys)) ≡ n
unfolding field
field_at k n xs ys h = rw (drop_at xs (bytes_of k n ++ ys) (length xs) refl, take_at (bytes_of k n) ys k (length_bytes_of k n), number_bytes_of k n h)

pub number_lt : (bs : List ℕ) → Bytes bs → number bs < 256 ^ length bs
unfolding number
number_lt [] h = omega arith
number_lt (b ∷ bs) h = rw pow-suc (let e = number_lt bs h.1 in let l = h.0 in omega arith)

pub field_lt : (k place : ℕ) (bs : List ℕ) → place + k ≤ length bs → Bytes bs → field k place bs < 256 ^ k
unfolding field
field_lt k place bs le h =
    let long : length (take k (drop place bs)) ≡ k = length-take-le k (drop place bs) (simp length-drop (omega arith)) in
    let small = number_lt (take k (drop place bs)) (All-take _ k (drop place bs) (All-drop _ place bs h)) in
    rw long at small

-- the number of two bytes, and of four
pub number_two : (bs : List ℕ) → length bs ≡ 2 → number bs ≡ get_or bs 0 0 + get_or bs 1 0 * 256
unfolding number
number_two [] h = absurd (omega arith)
number_two (a ∷ []) h = absurd (omega arith)
number_two (a ∷ b ∷ []) h = omega arith
number_two (a ∷ b ∷ c ∷ bs) h = absurd (omega arith)

pub number_four : (bs : List ℕ) → length bs ≡ 4 → number bs ≡ get_or bs 0 0 + get_or bs 1 0 * 256 + get_or bs 2 0 * 65536 + get_or bs 3 0 * 16777216
unfolding number
number_four [] h = absurd (omega arith)
number_four (a ∷ []) h = absurd (omega arith)
number_four (a ∷ b ∷ []) h = absurd (omega arith)
number_four (a ∷ b ∷ c ∷ []) h = absurd (omega arith)
number_four (a ∷ b ∷ c ∷ d ∷ []) h = omega arith
number_four (a ∷ b ∷ c ∷ d ∷ e ∷ bs) h = absurd (omega arith)

-- a field is its lowest byte and the field behind that
field_more : (k place next : ℕ) (bs : List ℕ) → place + 1 ≡ next → next ≤ length bs → field (suc k) place bs ≡ get_or bs place 0 + 256 * field k next bs
unfolding field number
field_more k place next bs e h = rw (← e, drop_more bs place 0 (omega arith))

pub field_two : (place : ℕ) (bs : List ℕ) → place + 2 ≤ length bs → field 2 place bs ≡ get_or bs place 0 + get_or bs (place + 1) 0 * 256
unfolding field number
field_two place bs h =
    let a = field_more 1 place (place + 1) bs refl (omega arith) in
    let b = field_more 0 (place + 1) (place + 2) bs (omega arith) (omega arith) in
    omega arith

pub field_four : (place : ℕ) (bs : List ℕ) → place + 4 ≤ length bs
    → field 4 place bs ≡ get_or bs place 0 + get_or bs (place + 1) 0 * 256 + get_or bs (place + 2) 0 * 65536 + get_or bs (place + 3) 0 * 16777216
unfolding field number
field_four place bs h =
    let a = field_more 3 place (place + 1) bs refl (omega arith) in
    let b = field_more 2 (place + 1) (place + 2) bs (omega arith) (omega arith) in
    let c = field_more 1 (place + 2) (place + 3) bs (omega arith) (omega arith) in
    let d = field_more 0 (place + 3) (place + 4) bs (omega arith) (omega arith) in
    omega arith

pub bytes_from : (bs : List ℕ) → ((i : ℕ) → get_or bs i 0 < 256) → Bytes bs
bytes_from bs h = All-from_get_or _ bs 0 (λ i _. h i)
