-- Bodies and what they say.
use Rattle.std.proofs.Common.{◌≡◌, ℕ, zero, suc, ◌+◌, ◌-◌, ◌*◌, ◌/◌, ◌%◌, ◌^◌, ◌<◌, ◌≤◌, List, [], ◌∷◌, ◌++◌, length, take, drop, sym, refl, ap, ◌∙◌, add-zero, mul-suc, arith}
use Rattle.std.specs.List.{flat_map, AllByRecursion}
use Rattle.std.proofs.ByRecursion.{All-drop, All-take}
use Rattle.std.proofs.lemmas.List.{append-nil, drop_all, drop-drop, length-drop, length-take-le, nil_from_length, take-take}
use Rattle.image.specs.declared.section.Span.{Span}
use Rattle.image.specs.Bytes.{Bytes, bytes_of, number, field}
use Rattle.image.specs.Content.{all_words, words_in}
use Rattle.image.specs.Section.{Section, marked}
use Rattle.image.proofs.Numbers.{field_lt, field_split}
use Rattle.image.proofs.Windows.{drop_window}

-- the body that a span marks
module _ (image : List ℕ) (span : Span) (fits : span.place + 6 + span.length ≤ length image) where
  pub body_length : length (marked image span).body ≡ span.length
  body_length = length-take-le span.length (drop (span.place + 6) image) (simp length-drop (omega arith))

  pub body_field : (k off : ℕ) → off + k ≤ span.length → field k off (marked image span).body ≡ field k (span.place + 6 + off) image
  unfolding field
  body_field k off le =
      ap (λ xs. number (take k xs)) (drop_window (span.place + 6) span.length off image (omega arith))
      ∙ ap number (take-take k (span.length - off) (drop (span.place + 6 + off) image) (omega arith))

  pub body_front : (k : ℕ) → k ≤ span.length → field k 0 (marked image span).body ≡ field k (span.place + 6) image
  body_front k le = body_field k 0 (omega arith) ∙ ap (λ p. field k p image) (add-zero (span.place + 6))

-- a body of 2, 2 and 4 bytes
pub three_fields : (body : List ℕ) → length body ≡ 8 → Bytes body → bytes_of 2 (field 2 0 body) ++ (bytes_of 2 (field 2 2 body) ++ bytes_of 4 (field 4 4 body)) ≡ body
unfolding field
three_fields body long bytes =
    let third : bytes_of 4 (field 4 4 body) ≡ drop 4 body =
    sym (append-nil (bytes_of 4 (field 4 4 body))) ∙ ap (λ xs. bytes_of 4 (field 4 4 body) ++ xs) (sym (drop-drop 4 4 body ∙ drop_all 8 body (omega arith)))
    ∙ field_split 4 (drop 4 body) (simp length-drop (omega arith)) (All-drop _ 4 body bytes) in
    let second : bytes_of 2 (field 2 2 body) ++ drop 4 body ≡ drop 2 body =
    ap (λ xs. bytes_of 2 (field 2 2 body) ++ xs) (sym (drop-drop 2 2 body)) ∙ field_split 2 (drop 2 body) (simp length-drop (omega arith)) (All-drop _ 2 body bytes) in
    rw (third, second) (field_split 2 body (omega arith) bytes)

-- a body of 2 and 4 bytes and more
pub two_fields : (body : List ℕ) → 6 ≤ length body → Bytes body → bytes_of 2 (field 2 0 body) ++ (bytes_of 4 (field 4 2 body) ++ drop 6 body) ≡ body
unfolding field
two_fields body long bytes =
    let second : bytes_of 4 (field 4 2 body) ++ drop 6 body ≡ drop 2 body =
    ap (λ xs. bytes_of 4 (field 4 2 body) ++ xs) (sym (drop-drop 4 2 body)) ∙ field_split 4 (drop 2 body) (simp length-drop (omega arith)) (All-drop _ 2 body bytes) in
    rw second (field_split 2 body (omega arith) bytes)

pub length_words_in : (n : ℕ) (bs : List ℕ) → length (words_in n bs) ≡ n
unfolding words_in
length_words_in zero bs = refl
length_words_in (suc n) bs = ap suc (length_words_in n (drop 4 bs))

-- bytes are the words in them
pub words_joined : (n : ℕ) (bs : List ℕ) → length bs ≡ 4 * n → Bytes bs → flat_map (bytes_of 4) (words_in n bs) ≡ bs
unfolding words_in
words_joined zero bs long bytes = sym (nil_from_length bs long)
words_joined (suc n) bs long bytes =
    let l : length bs ≡ 4 * n + 4 = long ∙ mul-suc 4 n in
    rw (words_joined n (drop 4 bs) (simp length-drop (omega arith)) (All-drop _ 4 bs bytes)) (field_split 4 bs (omega arith) bytes)

pub words_small : (n : ℕ) (bs : List ℕ) → 4 * n ≤ length bs → Bytes bs → AllByRecursion (λ value. value < 2 ^ 32) (words_in n bs)
unfolding words_in
words_small zero bs long bytes = tt
words_small (suc n) bs long bytes =
    let l : 4 * n + 4 ≤ length bs = rw mul-suc at long in
    (field_lt 4 0 bs (omega arith) bytes, words_small n (drop 4 bs) (simp length-drop (omega arith)) (All-drop _ 4 bs bytes))

-- and do not depend on what stands behind them
pub words_of_take : (n m : ℕ) (bs : List ℕ) → 4 * n ≤ m → words_in n (take m bs) ≡ words_in n bs
unfolding words_in field
words_of_take zero m bs le = refl
words_of_take (suc n) m bs le =
    let l : 4 * n + 4 ≤ m = rw mul-suc at le in
    let here : field 4 0 (take m bs) ≡ field 4 0 bs = ap number (take-take 4 m bs (omega arith)) in
    let rest : drop 4 (take m bs) ≡ take (m - 4) (drop 4 bs) = drop_window 0 m 4 bs (omega arith) in
    rw (here, rest, words_of_take n (m - 4) (drop 4 bs) (omega arith))

-- the words from the i-th on
pub words_more : (image : List ℕ) (first count i : ℕ) → i < count
    → words_in (count - i) (drop (first + 4 * i) image) ≡ field 4 (first + 4 * i) image ∷ words_in (count - (i + 1)) (drop (first + 4 * (i + 1)) image)
unfolding words_in field
words_more image first count i lt =
    let e : count - i ≡ suc (count - (i + 1)) = omega arith in
    let f : first + 4 * i + 4 ≡ first + 4 * (i + 1) = omega arith in
    rw (e, drop-drop 4 (first + 4 * i) image, f)

-- one word more
pub words_push : (n : ℕ) (bs : List ℕ) → words_in (suc n) bs ≡ words_in n bs ++ field 4 (4 * n) bs ∷ []
unfolding words_in field
words_push zero bs = refl
words_push (suc n) bs =
    let at : 4 + 4 * n ≡ 4 * suc n = omega arith in
    let last : field 4 (4 * n) (drop 4 bs) ≡ field 4 (4 * suc n) bs = ap (λ xs. number (take 4 xs)) (drop-drop (4 * n) 4 bs) ∙ ap (λ p. field 4 p bs) at in
    rw last at (ap (λ ws. field 4 0 bs ∷ ws) (words_push n (drop 4 bs)))

pub body_bytes : (image : List ℕ) (span : Span) → Bytes image → Bytes (marked image span).body
body_bytes image span bytes = All-take _ span.length (drop (span.place + 6) image) (All-drop _ (span.place + 6) image bytes)

-- what a section says, by the fields of its body
module _ (s : Section) (body : List ℕ) (is : body ≡ s.body) (bytes : Bytes body) where
  -- 2, 2 and 4 bytes: a header, or tags
  pub three_said : (kind a b t : ℕ) → s.kind ≡ kind → length body ≡ 8 → a ≡ field 2 0 body → b ≡ field 2 2 body → t ≡ field 4 4 body
      → s ≡ record { kind = kind; body = bytes_of 2 a ++ (bytes_of 2 b ++ bytes_of 4 t) }
  three_said kind a b t kinds long ea eb et = rw (← kinds, ea, eb, et, three_fields body long bytes, is)

  -- 2 and 4 bytes, and words
  pub words_said : (kind a t : ℕ) (values : List ℕ) → s.kind ≡ kind → 10 ≤ length body → length body % 4 ≡ 2 → a ≡ field 2 0 body → t ≡ field 4 2 body
      → values ≡ all_words (drop 6 body) → s ≡ record { kind = kind; body = bytes_of 2 a ++ (bytes_of 4 t ++ flat_map (bytes_of 4) values) }
  words_said kind a t values kinds long even ea et ev =
      let left : length (drop 6 body) ≡ length body - 6 = length-drop 6 body in
      let joined : flat_map (bytes_of 4) (all_words (drop 6 body)) ≡ drop 6 body = words_joined (length (drop 6 body) / 4) (drop 6 body) (omega arith) (All-drop _ 6 body bytes) in
      rw (← kinds, ea, et, ev, joined, two_fields body (omega arith) bytes, is)
