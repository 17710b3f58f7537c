use Rattle.std.proofs.Common.{◌/◌, length, refl, ◌∙◌, arith}
use Rattle.image.proofs.Stored.{part_length, put_mid-sets}
use Rattle.image.proofs.section.part.set_words.Goals as goal

pub returns : goal.returns
returns c =
    let cells = c.args.cells.now in
    let long = part_length c.args.address (length c.args.bytes.now / 4) cells (omega arith) in
    put_mid-sets cells c.args.address _ c.store_words.new.cells (omega arith) (omega arith) ∙ rw (c.store_words.ensures, long) refl
