-- A part of the cells that was set.
use Rattle.std.proofs.Common.{◌≡◌, ℕ, zero, suc, ◌+◌, ◌-◌, ◌≤◌, List, length, map, take, drop, set, sym, refl, ◌∙◌, add-one, arith}
use Rattle.std.proofs.Math.ListN.{length-set}
use Rattle.std.proofs.lemmas.List.{append_assoc, drop-drop, drop_more, drop-set-lt, length-drop, length-take-le}
use Rattle.std.proofs.lemmas.List.Edits.{sets, sets-eq}
use borrow.Rule.Slice.PartMut.{put_mid}
use Rattle.machine.specs.declared.cell.Cell.{Cell}
use Rattle.machine.specs.Cells.{blank, word_in}
use Rattle.image.specs.Stored.{retagged, tagged}

pub part_length : (start count : ℕ) (cells : List Cell) → start + count ≤ length cells → length (take (start + count - start) (drop start cells)) ≡ count
part_length start count cells le =
    let short : start + count - start ≡ count = omega arith in
    rw short (length-take-le count (drop start cells) (simp length-drop (omega arith)))

pub put_mid-sets : (cells : List Cell) (at count : ℕ) (values : List Cell) → length values ≡ count → at + count ≤ length cells → put_mid at count cells values ≡ sets cells at values
put_mid-sets cells at count values long le =
    rw (drop-drop count at cells, ← long) (sym (append_assoc (take at cells) values (drop (at + length values) cells)) ∙ sym (sets-eq values cells at (omega arith)))

pub retagged_is : (at count tag : ℕ) (cells : List Cell) → at + count ≤ length cells
    → retagged at count tag cells ≡ sets cells at (map (λ cell. tagged tag cell.word) (take count (drop at cells)))
unfolding retagged
retagged_is at zero tag cells le = refl
retagged_is at (suc count) tag cells le =
    let x : Cell = tagged tag (word_in cells at) in
    let rest = retagged_is (suc at) count tag (set cells at x) (rw length-set (omega arith)) in
    rw (drop_more cells at blank (omega arith), add-one) (rw (drop-set-lt (suc at) cells at x (omega arith)) at rest)
