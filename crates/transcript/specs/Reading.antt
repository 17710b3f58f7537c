-- How the code's reader stands for a text as far as it is read.
use Rattle.std.specs.Prelude.{◌≡◌, ◌<◌, false, ◌⊎◌, length, Some, None, Option}
use Rattle.transcript.specs.declared.numbers.Reader.{Reader}
use Rattle.transcript.specs.Line.{Progress, all, fit}

-- what the reader r has read
abbrev pub seen : Reader → Progress
seen r = record { ended = r.ended.items; going = r.current }

-- no text that begins so is a line of six numbers: it has too many, or one too large, or a byte that does not belong
abbrev pub Hopeless : Option Progress → Type 0
Hopeless None = Unit {0}
Hopeless (Some p) = (6 < length (all p)) ⊎ (fit (all p) ≡ false)

-- a step of the code may end so where the text is read as far as p: with a reader of just that, or with none where there is no hope
abbrev pub Steps : Option Progress → Option Reader → Type 0
Steps p None = Hopeless p
Steps p (Some r) = p ≡ Some (seen r)
