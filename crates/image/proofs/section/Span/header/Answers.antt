use Rattle.std.proofs.Common.{◌≡◌, arith}
use Rattle.std.proofs.lemmas.Bool.Decides.{nat_tests}
use Rattle.image.specs.Section.{marked}
use Rattle.image.proofs.Contents.{three_said}
use Rattle.image.proofs.section.Span.header.Goals as goal

pub returns-clause-says : goal.returns-clause-says
returns-clause-says c =
    let body = c.body-body.ensures in
    let kind : c.args.self.kind ≡ 1 = grind (arith, nat_tests) in (
      three_said (marked c.args.image.now c.args.self) c.body-body.result.now body.marked body.bytes 1 c.u16_at.result c.u16_at-2.result c.u32_at.result kind
          c.if-body-ne-HEADER_LENGTH.false c.u16_at.ensures c.u16_at-2.ensures c.u32_at.ensures,
      record { cells = grind (arith, nat_tests); start = grind (arith, nat_tests); tag = omega arith },
    )
