use Rattle.instruction.proofs.Words.{lawful_of}
use Rattle.instruction.proofs.decode.unpacked.Goals as goal

pub returns-clause-lawful : goal.returns-clause-lawful
returns-clause-lawful c = lawful_of c.args.word c.of_fields.result c.of_fields.ensures.decoded c.of_fields.ensures.encodes
