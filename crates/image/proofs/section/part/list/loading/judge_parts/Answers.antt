use Rattle.image.proofs.Outcomes.{err_passed}
use Rattle.image.proofs.Walks.{fewer, judging_more, judging_none, judging_refused}
use Rattle.image.proofs.section.part.list.loading.judge_parts.Goals as goal

pub loop-reader-init : goal.loop-reader-init
loop-reader-init c = judging_none c.args.size c.args.image.now c.args.reader c.args.free c.requires

pub loop-reader-smaller : goal.loop-reader-smaller
loop-reader-smaller c = let judged = c.in_ok-free.ensures in fewer _ _ _ judged.part judged.passed c.loop-reader-test.true

pub loop-reader-preserved : goal.loop-reader-preserved
loop-reader-preserved c =
    judging_more c.args.size c.args.image.now c.args.reader c.args.free _ _ _ _ c.loop-reader.invariant c.in_ok-free.ensures

pub returns-in_err-free : goal.returns-in_err-free
returns-in_err-free c =
    rw (err_passed c.from_residual.result _ c.from_residual.ensures.1)
    (judging_refused c.args.size c.args.image.now c.args.reader c.args.free _ _ _ c.loop-reader.invariant c.loop-reader-test.true c.in_err-free.ensures)
