-- Bytes and the section that they begin with.
use Rattle.std.proofs.Common.{◌≡◌, ℕ, ◌+◌, ◌≤◌, false, List, [], ◌++◌, length, take, drop, sym, refl, ap, ◌∙◌, arith}
use Rattle.std.proofs.ByRecursion.{All-drop, All-take}
use Rattle.std.proofs.lemmas.List.{append_assoc, drop_at, drop-drop, length-append, length-drop, length-take-le, take-append-drop, take_at}
use Rattle.std.proofs.lemmas.Bool.Decides.{nat_tests}
use Rattle.image.specs.Bytes.{Bytes, bytes_of, field}
use Rattle.image.specs.Section.{Section, Proper, behind_first, cut_short, first_section, framed}
use Rattle.image.proofs.Numbers.{field_at, field_lt, field_split, length_bytes_of}

pub whole_le : (w : List ℕ) → cut_short w ≡ false → 6 + field 4 0 w ≤ length w
whole_le w h = grind (arith, nat_tests)

-- bytes that are not cut short are their first section and what stands behind it
pub framed_first : (w : List ℕ) → cut_short w ≡ false → Bytes w → framed (first_section w) ++ behind_first w ≡ w
unfolding field
framed_first w h bytes =
    let le = whole_le w h in
    let long : length (take (field 4 0 w) (drop 6 w)) ≡ field 4 0 w = length-take-le (field 4 0 w) (drop 6 w) (simp length-drop (omega arith)) in
    let body : take (field 4 0 w) (drop 6 w) ++ drop (6 + field 4 0 w) w ≡ drop 6 w = ap (λ xs. take (field 4 0 w) (drop 6 w) ++ xs) (sym (drop-drop (field 4 0 w) 6 w)) ∙ take-append-drop (field 4 0 w) (drop 6 w) in
    let kind : bytes_of 2 (field 2 4 w) ++ drop 6 w ≡ drop 4 w = ap (λ xs. bytes_of 2 (field 2 4 w) ++ xs) (sym (drop-drop 2 4 w)) ∙ field_split 2 (drop 4 w) (simp length-drop (omega arith)) (All-drop _ 4 w bytes) in
    rw (long, append_assoc, append_assoc, body, kind) (field_split 4 w (omega arith) bytes)

pub proper_first : (w : List ℕ) → cut_short w ≡ false → Bytes w → Proper (first_section w)
proper_first w h bytes =
    let le = whole_le w h in
    record {
      kind = field_lt 2 4 w (omega arith) bytes;
      size = rw (length-take-le (field 4 0 w) (drop 6 w) (simp length-drop (omega arith))) (field_lt 4 0 w (omega arith) bytes);
      bytes = All-take _ (field 4 0 w) (drop 6 w) (All-drop _ 6 w bytes);
    }

-- the bytes of a section begin with it
module _ (s : Section) (rest : List ℕ) (proper : Proper s) where
  head_length : field 4 0 (framed s ++ rest) ≡ length s.body
  head_length = rw (append_assoc, append_assoc) (field_at 4 (length s.body) [] (bytes_of 2 s.kind ++ (s.body ++ rest)) proper.size)

  head_kind : field 2 4 (framed s ++ rest) ≡ s.kind
  head_kind =
      let e = field_at 2 s.kind (bytes_of 4 (length s.body)) (s.body ++ rest) proper.kind in
      rw (append_assoc, append_assoc) (rw (length_bytes_of 4 (length s.body)) at e)

  head_body : drop 6 (framed s ++ rest) ≡ s.body ++ rest
  head_body =
      let four = drop_at (bytes_of 4 (length s.body)) (bytes_of 2 s.kind ++ (s.body ++ rest)) 4 (length_bytes_of 4 (length s.body)) in
      let two = drop_at (bytes_of 2 s.kind) (s.body ++ rest) 2 (length_bytes_of 2 s.kind) in
      rw (append_assoc, append_assoc) (sym (drop-drop 2 4 (bytes_of 4 (length s.body) ++ (bytes_of 2 s.kind ++ (s.body ++ rest)))) ∙ ap (drop 2) four ∙ two)

  framed_length : length (framed s ++ rest) ≡ 6 + (length s.body + length rest)
  framed_length =
      simp (length-append, length_bytes_of 4 (length s.body), length_bytes_of 2 s.kind) (omega arith)

  pub first_framed : first_section (framed s ++ rest) ≡ s
  first_framed = rw (head_kind, head_length, head_body, take_at s.body rest (length s.body) refl)

  pub whole_framed : cut_short (framed s ++ rest) ≡ false
  whole_framed = let n = head_length in let l = framed_length in grind (arith, nat_tests)

  pub behind_framed : behind_first (framed s ++ rest) ≡ rest
  behind_framed =
      let w = framed s ++ rest in
      let split : drop (length s.body) (drop 6 w) ≡ drop (6 + length s.body) w = drop-drop (length s.body) 6 w in
      rw head_length (sym split ∙ ap (drop (length s.body)) head_body ∙ drop_at s.body rest (length s.body) refl)
