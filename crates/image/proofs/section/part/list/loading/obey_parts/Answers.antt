use Rattle.std.proofs.Common.{◌≡◌, Bool, true, false, cond, refl, ◌∙◌}
use mir.Val.{bool_byte}
use Rattle.image.proofs.Outcomes.{err_passed}
use Rattle.image.proofs.Walks.{fewer, obeying_more, obeying_none, obeying_stops}
use Rattle.image.proofs.section.part.list.loading.obey_parts.Goals as goal

byte : (b : Bool) → bool_byte b ≡ cond b 1 0
byte true = refl
byte false = refl

pub loop-reader-init : goal.loop-reader-init
loop-reader-init c = (obeying_none _ _ _ _ _ _ c.requires, refl)

pub loop-reader-smaller : goal.loop-reader-smaller
loop-reader-smaller c = let obeyed = c.in_ok-breaks.ensures.obeys in fewer _ _ _ obeyed.part obeyed.passed c.loop-reader-test.true

pub loop-reader-preserved : goal.loop-reader-preserved
loop-reader-preserved c =
    let i = c.loop-reader.invariant in
    let e = c.in_ok-breaks.ensures in
    let added : c.from-broken.result ≡ cond c.in_ok-breaks.breaks 1 0 = c.from-broken.ensures ∙ byte c.in_ok-breaks.breaks in
    (rw added (obeying_more _ _ _ _ _ _ _ _ _ _ _ _ _ _ c.loop-reader.broken c.in_ok-breaks.breaks i.0 (rw c.loop-reader.auto.cells at e.obeys)), e.loan ∙ i.1)

pub returns-in_err-breaks-clause-obeys : goal.returns-in_err-breaks-clause-obeys
returns-in_err-breaks-clause-obeys c =
    rw (err_passed c.from_residual.result _ c.from_residual.ensures.1)
    (obeying_stops _ _ _ _ _ _ _ _ _ _ c.loop-reader.broken _ c.loop-reader.invariant.0 c.loop-reader-test.true (rw c.loop-reader.auto.cells at c.in_err-breaks.ensures.obeys))
