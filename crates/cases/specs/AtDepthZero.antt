-- A narrow rulebook that allows at pc tag 0 alone, and whose one violation is a number.
use Rattle.std.specs.Prelude.{cond, Err, ◌==◌}
use Rattle.rulebook.specs.declared.question.Question.{Question}
use Rattle.rulebook.specs.Answer.{NarrowAnswer, allowed}

abbrev pub at_depth_zero : Question → NarrowAnswer
at_depth_zero q = cond (q.pc == 0) (allowed 0 0) (Err 3)
