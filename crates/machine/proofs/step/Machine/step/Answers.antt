use Rattle.machine.proofs.StepLaws.{law_of_step}
use Rattle.machine.proofs.step.Machine.step.Goals as goal

pub returns-clause-lawful : goal.returns-clause-lawful
returns-clause-lawful g c = law_of_step _ _ _ _ _ _ _ c.advance.ensures.works.performs
