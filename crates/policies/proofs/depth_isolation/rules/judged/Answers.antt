use Rattle.std.proofs.Common.{sym, ap, ◌∙◌, subst}
use Rattle.rulebook.specs.Answer.{by_number}
use Rattle.policies.specs.DepthLaw.{Lawful}
use Rattle.policies.specs.DepthViolation.{violation_number}
use Rattle.policies.proofs.DepthLaws.{lawful}
use Rattle.policies.proofs.depth_isolation.rules.judged.Goals as goal

pub returns : goal.returns
returns c =
    let answers = c.by_number.ensures ∙ ap (by_number violation_number) c.judge.ensures in
    record {
      answers = answers;
      lawful = subst (Lawful c.args.q) (sym answers) (lawful c.args.q);
    }
