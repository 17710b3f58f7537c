-- What a reader has before it, and what it reads there.
use Rattle.std.proofs.Common.{◌≡◌, ℕ, ◌+◌, ◌-◌, ◌^◌, ◌<◌, ◌≤◌, false, ltb, List, length, take, drop, refl, ap, ◌∙◌, add_assoc, arith, le-ltb}
use Rattle.std.proofs.lemmas.List.{drop-drop, drop-take, length-drop, length-take-le, take-take}
use Rattle.image.specs.declared.section.Reader.{Reader}
use Rattle.image.specs.Bytes.{Bytes, field, number}
use Rattle.image.specs.Reading.{Opened, Within}
use Rattle.image.specs.Section.{window}

-- a part of a part
pub drop_window : (from n k : ℕ) (xs : List ℕ) → k ≤ n → drop k (take n (drop from xs)) ≡ take (n - k) (drop (from + k) xs)
drop_window from n k xs le =
    let e : k + (n - k) ≡ n = omega arith in
    let f = drop-take k (n - k) (drop from xs) in
    (rw e at f) ∙ ap (take (n - k)) (drop-drop k from xs)

pub length_window : (reader : Reader) (image : List ℕ) → Within reader image → length (window reader image) ≡ reader.end - reader.place
length_window reader image within = length-take-le (reader.end - reader.place) (drop reader.place image) (simp length-drop (omega arith))

pub field_window : (k off : ℕ) (reader : Reader) (image : List ℕ) → off + k ≤ reader.end - reader.place → field k off (window reader image) ≡ field k (reader.place + off) image
unfolding field
field_window k off reader image le =
    let n = reader.end - reader.place in
    ap (λ xs. number (take k xs)) (drop_window reader.place n off image (omega arith)) ∙ ap number (take-take k (n - off) (drop (reader.place + off) image) (omega arith))

module _ (image : List ℕ) (reader : Reader) (within : Within reader image) (length_read : ℕ) (short : length_read < 2 ^ 32) (head : 6 ≤ length (window reader image)) (reads : length_read ≡ field 4 0 (window reader image)) where
  not_head : ltb (length (window reader image)) 6 ≡ false
  not_head = le-ltb (length (window reader image)) 6 head

  pub opened : (kind : ℕ) → kind ≡ field 2 4 (window reader image) → length_read ≤ length (window reader image) - 6 → Bytes image
      → Opened image reader (record { place = reader.place + 6 + length_read; end = reader.end }) (record { place = reader.place; kind = kind; length = length_read })
  opened kind kinds fits bytes =
      let long = length_window reader image within in
      let le : ltb (length (window reader image)) (6 + length_read) ≡ false = le-ltb (length (window reader image)) (6 + length_read) (omega arith) in
      let n : ℕ = reader.end - reader.place in
      let p : ℕ = reader.place in
      record {
        whole = rw (not_head, ← reads, le);
        bytes = bytes;
        place = refl;
        lies = record { fits = omega arith; short = short };
        fits = omega arith;
        marks = rw (← reads, drop_window p n 6 image (omega arith), take-take length_read (n - 6) (drop (p + 6) image) (omega arith), ← kinds);
        behind = rw (← reads, drop_window p n (6 + length_read) image (omega arith), add_assoc p 6 length_read) (ap (λ k. take k (drop (p + (6 + length_read)) image)) (omega arith));
        next = refl;
      }
