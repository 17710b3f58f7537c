use Rattle.std.proofs.Common.{length, ap, ◌∙◌, arith}
use Rattle.image.specs.Bytes.{field}
use Rattle.image.proofs.Numbers.{bytes_from}
use Rattle.image.proofs.Windows.{opened}
use Rattle.image.proofs.section.Reader.section.Goals as goal

pub returns : goal.returns
returns c =
    let rest = c.rest-rest.ensures in
    let long = ap length rest in
    opened c.args.image.now c.args.self.now c.requires c.u32_at-length.result (omega arith) (omega arith) (c.u32_at-length.ensures ∙ ap (field 4 0) rest)
    c.u16_at.result (c.u16_at.ensures ∙ ap (field 2 4) rest) (omega arith) (bytes_from c.args.image.now (λ i. omega (arith, (c.type_inv.image i).fits)))
