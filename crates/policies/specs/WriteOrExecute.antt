-- Write or execute: a cell holds data, tag 0, or code, tag 1.
use Rattle.std.specs.Prelude.{ℕ, cond, ◌&&◌, ◌||◌, Err, ◌==◌}
use Rattle.rulebook.specs.declared.question.Question.{Question}
use Rattle.rulebook.specs.Answer.{NarrowAnswer, allowed}
use Rattle.rulebook.specs.Group.{is_post}
use Rattle.policies.specs.declared.write_or_execute.WriteOrExecuteViolation.{WriteOrExecuteViolation}
use Rattle.policies.specs.declared.write_or_execute.WriteOrExecuteViolation.TheVariants.{Tagged, NotCode, NotData}

abbrev pub data_tag : ℕ
data_tag = 0

abbrev pub code_tag : ℕ
code_tag = 1

abbrev pub violation_number : WriteOrExecuteViolation → ℕ
violation_number Tagged = 1
violation_number NotCode = 2
violation_number NotData = 3

abbrev pub denied : WriteOrExecuteViolation → NarrowAnswer
denied violation = Err (violation_number violation)

abbrev pub write_or_execute : Question → NarrowAnswer
write_or_execute q =
    cond (q.pc == 0 && (q.a == 0 && q.b == 0))
    (cond (is_post q.group || q.ci == code_tag)
    (cond (q.m == data_tag) (allowed 0 data_tag) (denied NotData))
    (denied NotCode))
    (denied Tagged)
