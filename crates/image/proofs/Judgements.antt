-- When a section is refused, and why.
use Rattle.std.proofs.Common.{◌≡◌, ℕ, ◌+◌, ◌-◌, ◌/◌, ◌%◌, ◌≤◌, true, false, ◌&&◌, eqb, ltb, leb, length, None, arith}
use Rattle.std.proofs.lemmas.Bool.Decides.{nat_tests}
use Rattle.image.specs.Bytes.{field}
use Rattle.image.specs.Judgement.{header_refusal, part_refusal}
use Rattle.image.specs.Section.{Section}

module _ (size : ℕ) (s : Section) where
  pub header_fine : s.kind ≡ 1 → length s.body ≡ 8 → (eqb (field 2 0 s.body) size && ltb (field 2 2 s.body) size) ≡ true → header_refusal size s ≡ None
  header_fine kind long same = grind (arith, nat_tests)

  pub words_fine : s.kind ≡ 2 → (leb 10 (length s.body) && eqb (length s.body % 4) 2) ≡ true
      → ltb size (field 2 0 s.body + (length s.body - 6) / 4) ≡ false → part_refusal size s ≡ None
  words_fine kind long fits = grind (arith, nat_tests)

  pub tags_fine : s.kind ≡ 3 → length s.body ≡ 8 → ltb size (field 2 0 s.body + field 2 2 s.body) ≡ false → part_refusal size s ≡ None
  tags_fine kind long fits = grind (arith, nat_tests)

  pub note_fine : 32768 ≤ s.kind → part_refusal size s ≡ None
  note_fine kind = grind (arith, nat_tests)
