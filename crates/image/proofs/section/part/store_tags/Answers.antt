use Rattle.std.proofs.Common.{get_or, arith}
use Rattle.std.proofs.lemmas.List.{get_or_default}
use Rattle.std.proofs.lemmas.List.Edits.{map_over_more}
use Rattle.machine.specs.Cells.{blank}
use Rattle.image.specs.Stored.{tagged}
use Rattle.image.proofs.section.part.store_tags.Goals as goal

pub loop-cell-preserved : goal.loop-cell-preserved
loop-cell-preserved c =
    let cells = c.loop-cell.cells in
    let i = c.loop-cell.cell-index in
    rw c.store_tag.ensures (map_over_more (λ cell. tagged c.args.tag cell.word) c.args.cells.now cells i (get_or cells i blank) (omega arith) c.loop-cell.invariant
    (get_or_default cells i blank (get_or cells i blank) (omega arith)))
