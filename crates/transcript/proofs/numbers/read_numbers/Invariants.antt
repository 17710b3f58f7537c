use Rattle.std.proofs.Common.{◌≡◌, drop, Some, fold}
use Rattle.transcript.specs.Line.{start, feed}
use Rattle.transcript.specs.Reading.{seen}
use Rattle.transcript.proofs.numbers.read_numbers.Given as goal

-- The rest of the line, from where the reader stands, gives what the line gives.
abbrev pub invariant-loop-byte : goal.invariant-loop-byte
invariant-loop-byte l = fold feed (Some start) l.line ≡ fold feed (Some (seen l.reader)) (drop l.byte-index l.line)
