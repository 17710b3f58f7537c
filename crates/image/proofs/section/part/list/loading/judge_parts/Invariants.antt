use Rattle.std.proofs.Common.{◌-◌}
use Rattle.image.proofs.Walks.{Judging}
use Rattle.image.proofs.section.part.list.loading.judge_parts.Given as goal

abbrev pub invariant-loop-reader : goal.invariant-loop-reader
invariant-loop-reader l = Judging l.size l.image l.initial.reader l.reader l.initial.free l.free

abbrev pub decreases-loop-reader : goal.decreases-loop-reader
decreases-loop-reader l = l.reader.end - l.reader.place
