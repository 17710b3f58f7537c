use Rattle.std.proofs.Common.{◌≡◌, None, sym, ◌∙◌, arith}
use Rattle.transcript.specs.Line.{line_numbers}
use Rattle.transcript.specs.Reading.{seen}
use Rattle.transcript.proofs.Back.{law}
use Rattle.transcript.proofs.Turns.{stopped, again, over}
use Rattle.transcript.proofs.numbers.read_numbers.Goals as goal

pub returns-in_err-reader : goal.returns-in_err-reader
returns-in_err-reader c =
    let line = c.args.line.now in
    let none : line_numbers line ≡ None = stopped line (seen c.loop-byte.reader) c.loop-byte.byte-index c.loop-byte.invariant (omega arith) c.in_err-reader.ensures in
    let value = c.from_residual.ensures ∙ sym none in
    record { value = value; reads_back = law line _ value }

pub loop-byte-preserved : goal.loop-byte-preserved
loop-byte-preserved c =
    again c.args.line.now (seen c.loop-byte.reader) c.loop-byte.byte-index c.loop-byte.invariant _ (omega arith) c.in_ok-reader.ensures

pub returns : goal.returns
returns c =
    let line = c.args.line.now in
    let value = c.finish.ensures ∙ sym (over line (seen c.loop-byte.reader) c.loop-byte.byte-index c.loop-byte.invariant (omega arith)) in
    record { value = value; reads_back = law line _ value }
