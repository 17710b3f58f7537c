use Rattle.std.proofs.Common.{sym, ap, ◌∙◌, arith}
use Rattle.image.specs.Bytes.{field, number}
use Rattle.image.proofs.Numbers.{number_four}
use Rattle.image.proofs.section.u32_at.Goals as goal

pub returns : goal.returns
unfolding field
returns c = c.from_le_bytes.ensures ∙ sym (number_four c.bytes_at.result (omega arith)) ∙ ap number c.bytes_at.ensures
