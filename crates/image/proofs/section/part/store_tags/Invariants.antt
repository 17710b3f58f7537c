use Rattle.std.proofs.Common.{◌≡◌, ◌++◌, map, take, drop}
use Rattle.image.specs.Stored.{tagged}
use Rattle.image.proofs.section.part.store_tags.Given as goal

abbrev pub invariant-loop-cell : goal.invariant-loop-cell
invariant-loop-cell l = l.cells ≡ map (λ cell. tagged l.tag cell.word) (take l.cell-index l.initial.cells) ++ drop l.cell-index l.initial.cells
