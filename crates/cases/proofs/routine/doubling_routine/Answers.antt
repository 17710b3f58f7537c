use Rattle.std.proofs.Common.{refl}
use Rattle.instruction.specs.Decode.{decoded}
use Rattle.machine.specs.Run.{run}
use Rattle.cases.proofs.routine.doubling_routine.Goals as goal

pub returns-clause-doubles : goal.returns-clause-doubles
unfolding decoded run
returns-clause-doubles c = record { shows = refl; steps = refl; halts = refl }
