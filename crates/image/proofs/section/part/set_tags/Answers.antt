use Rattle.std.proofs.Common.{◌≡◌, ◌+◌, ◌-◌, ◌∙◌, arith}
use Rattle.image.proofs.Stored.{part_length, put_mid-sets, retagged_is}
use Rattle.image.proofs.section.part.set_tags.Goals as goal

pub returns : goal.returns
returns c =
    let cells = c.args.cells.now in
    let long = part_length c.args.address c.args.count cells (omega arith) in
    let short : c.args.address + c.args.count - c.args.address ≡ c.args.count = omega arith in
    put_mid-sets cells c.args.address _ c.store_tags.new.cells (omega arith) (omega arith) ∙ rw (retagged_is c.args.address c.args.count c.args.tag cells (omega arith), c.store_tags.ensures, short)
