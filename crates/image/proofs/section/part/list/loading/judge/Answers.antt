use Rattle.image.proofs.Outcomes.{err_passed}
use Rattle.image.proofs.Exact.{refused_exactly}
use Rattle.image.proofs.Images.{accepted, refused_header, refused_part}
use Rattle.image.proofs.section.part.list.loading.judge.Goals as goal

pub returns-in_err-header : goal.returns-in_err-header
returns-in_err-header c =
    let why = refused_header c.args.size c.args.image.now c.over-reader.result c.over-reader.ensures c.args.free _ c.in_err-header.ensures in
    rw (err_passed c.from_residual.result _ c.from_residual.ensures.1) (refused_exactly c.args.size c.requires c.args.image.now c.args.free _ why)

pub returns-in_err-judge_parts : goal.returns-in_err-judge_parts
returns-in_err-judge_parts c =
    let why = refused_part c.args.size c.args.image.now c.over-reader.result c.over-reader.ensures c.header.new.self c.in_ok-header.header c.in_ok-header.ensures
    c.args.free _ c.in_err-judge_parts.ensures in
    rw (err_passed c.from_residual-in_err-judge_parts.result _ c.from_residual-in_err-judge_parts.ensures.1) (refused_exactly c.args.size c.requires c.args.image.now c.args.free _ why)

pub returns : goal.returns
returns c =
    accepted c.args.size c.args.image.now c.over-reader.result c.over-reader.ensures c.header.new.self c.in_ok-header.header c.in_ok-header.ensures
    c.args.free c.in_ok-judge_parts.ensures
