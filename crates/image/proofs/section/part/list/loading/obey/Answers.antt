use Rattle.std.proofs.lemmas.Result.{MatchResult-weaker}
use Rattle.image.proofs.Outcomes.{err_passed}
use Rattle.image.proofs.Images.{obeyed, stopped_header, stopped_part}
use Rattle.image.proofs.section.part.list.loading.obey.Goals as goal

pub returns-in_err-header-clause-obeys : goal.returns-in_err-header-clause-obeys
returns-in_err-header-clause-obeys c =
    rw (err_passed c.from_residual.result _ c.from_residual.ensures.1) (stopped_header _ c.args.image.now c.over-reader.result c.over-reader.ensures _ c.in_err-header.ensures)

pub returns-clause-obeys : goal.returns-clause-obeys
returns-clause-obeys c =
    MatchResult-weaker c.obey_parts.result c.obey_parts.ensures.obeys
    (λ broken all. obeyed _ c.args.image.now c.over-reader.result c.over-reader.ensures c.header.new.self _ c.in_ok-header.ensures _ _ _ _ _ _ broken all)
    (λ fault one. stopped_part _ c.args.image.now c.over-reader.result c.over-reader.ensures c.header.new.self _ c.in_ok-header.ensures fault one)
