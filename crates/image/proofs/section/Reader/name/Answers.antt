use Rattle.std.proofs.Common.{sym, ap, ◌∙◌, arith}
use Rattle.image.specs.Bytes.{field}
use Rattle.image.proofs.NameLists.{named}
use Rattle.image.proofs.section.Reader.name.Goals as goal

pub returns : goal.returns
returns c =
    named c.args.size _ _ _ c.in_ok-record.record c.in_ok-record.ensures
    c.requires c.u16_at-address.result (c.u16_at-address.ensures ∙ ap (field 2 0) c.body.ensures.marked) (sym c.if-not-holds_name.ensures) (omega arith)
