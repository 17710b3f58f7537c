use Rattle.std.proofs.Common.{arith}
use Rattle.std.proofs.lemmas.Bool.Decides.{nat_tests}
use Rattle.image.specs.Section.{marked}
use Rattle.image.proofs.Contents.{three_said}
use Rattle.image.proofs.section.Span.tags.Goals as goal

pub returns-clause-says : goal.returns-clause-says
returns-clause-says c =
    let body = c.body-body.ensures in
    record {
      bytes = three_said (marked c.args.image.now c.args.self) c.body-body.result.now body.marked body.bytes 3 c.u16_at-address.result c.u16_at-count.result c.u32_at.result c.requires.kind
          c.if-body-ne-TAGS_LENGTH.false c.u16_at-address.ensures c.u16_at-count.ensures c.u32_at.ensures;
      fits = (grind (arith, nat_tests), omega arith, omega arith, omega arith);
    }
