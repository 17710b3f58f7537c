-- What Write or execute is for: laws that every answer obeys.
use Rattle.std.specs.Prelude.{◌≡◌, IfOk, ◌≢◌}
use Rattle.rulebook.specs.declared.group.Group.TheVariants.{Post}
use Rattle.rulebook.specs.declared.question.Question.{Question}
use Rattle.rulebook.specs.Answer.{NarrowAnswer}
use Rattle.policies.specs.WriteOrExecute.{data_tag, code_tag}

pub record Lawful (q : Question) (answer : NarrowAnswer) : Type 0 where
  -- what is executed is code, and so not what the same question reads or writes
  pub executes_code : (q.group ≢ Post) → IfOk answer (λ _. (q.ci ≡ code_tag) × (q.ci ≢ q.m))
  -- what is read or written is data, and stays so
  pub writes_data : IfOk answer (λ t. (q.m ≡ data_tag) × (t.r ≡ data_tag))
  -- the program counter gets no tag
  pub counter_untagged : IfOk answer (λ t. t.pc ≡ 0)
