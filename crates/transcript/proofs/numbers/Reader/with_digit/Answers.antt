use Rattle.std.proofs.Common.{arith}
use Rattle.transcript.specs.Reading.{seen}
use Rattle.transcript.proofs.Turns.{too_large}
use Rattle.transcript.proofs.numbers.Reader.with_digit.Goals as goal

pub returns-in_err-current : goal.returns-in_err-current
returns-in_err-current c =
    rw c.from_residual.ensures (too_large (seen c.args.self) c.args.digit (omega (arith, c.in_err-current.ensures)))
