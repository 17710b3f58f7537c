-- What one step of the code keeps.
use Rattle.std.proofs.Common.{◌≡◌, ℕ, ◌+◌, ◌*◌, ◌^◌, ◌<◌, ◌≤◌, List, length, get_or, drop, Some, None, fold, unwrap_or, ap, ◌∙◌, inr, arith}
use Rattle.std.specs.Option.{option_map}
use Rattle.std.proofs.lemmas.List.{drop_all, drop_more}
use Rattle.std.proofs.lemmas.Bool.Decides.{nat_tests}
use Rattle.transcript.specs.Line.{Progress, start, all, with_digit, feed, six, line_numbers}
use Rattle.transcript.specs.Reading.{Hopeless}
use Rattle.transcript.proofs.Hope.{fit_last, no_line}

pub too_large : (p : Progress) (d : ℕ) → 2 ^ 32 ≤ unwrap_or p.going 0 * 10 + d → Hopeless (Some (with_digit p d))
too_large p d h = inr (grind (arith, nat_tests, fit_last p.ended (unwrap_or p.going 0 * 10 + d)))

-- The reader stands for p after i bytes of the line.
module _ (line : List ℕ) (p : Progress) (i : ℕ) (inv : fold feed (Some start) line ≡ fold feed (Some p) (drop i line)) where
  pub turn : i < length line → fold feed (Some start) line ≡ fold feed (feed (Some p) (get_or line i 0)) (drop (i + 1) line)
  turn h = inv ∙ ap (fold feed (Some p)) (drop_more line i 0 h)

  pub stopped : i < length line → Hopeless (feed (Some p) (get_or line i 0)) → line_numbers line ≡ None
  stopped h none = ap (λ q. six (option_map all q)) (turn h) ∙ no_line _ (drop (i + 1) line) none

  pub again : (q : Progress) → i < length line → feed (Some p) (get_or line i 0) ≡ Some q → fold feed (Some start) line ≡ fold feed (Some q) (drop (i + 1) line)
  again q h e = turn h ∙ ap (λ s. fold feed s (drop (i + 1) line)) e

  pub over : length line ≤ i → line_numbers line ≡ six (Some (all p))
  over h = ap (λ q. six (option_map all q)) (inv ∙ ap (fold feed (Some p)) (drop_all i line h))
