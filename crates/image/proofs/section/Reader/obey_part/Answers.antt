use Rattle.std.proofs.Common.{refl, ◌∙◌}
use Rattle.image.proofs.Parts.{list_cells, list_kind, list_obeyed, plain_obeyed}
use Rattle.image.proofs.section.Reader.obey_part.Goals as goal

pub returns-in-Names-clause-obeys : goal.returns-in-Names-clause-obeys
returns-in-Names-clause-obeys c =
    let read = c.in_ok-span.ensures in
    let span = c.in_ok-span.span in
    let image = c.args.image.now in
    let kind = list_kind _ image span c.in_ok-span.content c.in-Names.is read.says in
    let same = c.store.ensures ∙ list_cells c.in_ok-span.content c.args.cells.now c.in-Names.is in
    rw (c.list.ensures.stands, same)
    (list_obeyed _ image _ _ span read.opened c.requires kind _ _ _ _ _ _ c.list.ensures.lists c.args.cells.now c.is_err.result c.is_err.ensures.negation)

pub returns-in_default : goal.returns-in_default
returns-in_default c =
    let read = c.in_ok-span.ensures in
    record {
      obeys = plain_obeyed _ _ _ _ c.in_ok-span.span read.opened c.requires c.in_ok-span.content read.says c.in_default.not-Names _ _ _ _ c.store.ensures;
      loan = refl;
    }
