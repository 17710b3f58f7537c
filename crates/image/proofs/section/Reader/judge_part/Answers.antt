use Rattle.image.proofs.Parts.{list_crowded, list_judged, list_kind, plain_judged}
use Rattle.image.proofs.section.Reader.judge_part.Goals as goal

pub returns-then-found-free : goal.returns-then-found-free
returns-then-found-free c =
    let read = c.in_ok-span.ensures in
    let span = c.in_ok-span.span in
    let kind = list_kind _ _ span c.in_ok-span.content c.in-Names.is read.says in
    rw c.refused.ensures
    (list_crowded _ _ _ _ span read.opened c.requires kind _ _ _ _ c.count_names-found.result _ c.count_names-found.ensures.lists.1 c.args.free c.if-found-free.true)

pub returns-else-found-free : goal.returns-else-found-free
returns-else-found-free c =
    let read = c.in_ok-span.ensures in
    let span = c.in_ok-span.span in
    let kind = list_kind _ _ span c.in_ok-span.content c.in-Names.is read.says in
    rw c.count_names-found.ensures.stands
    (list_judged _ _ _ _ span read.opened c.requires kind _ _ _ _ c.count_names-found.result _ c.count_names-found.ensures.lists.1 c.args.free c.if-found-free.false)

pub returns-in_default : goal.returns-in_default
returns-in_default c =
    let read = c.in_ok-span.ensures in
    plain_judged _ _ _ _ c.in_ok-span.span read.opened c.requires c.in_ok-span.content read.says c.in_default.not-Names c.args.free
