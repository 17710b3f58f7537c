use Rattle.std.proofs.Common.{◌≡◌, ℕ, true, List, length, ap, ◌∙◌, arith}
use Rattle.std.proofs.lemmas.List.{length-replicate}
use Rattle.std.proofs.lemmas.Bool.Decides.{nat_tests}
use Rattle.machine.specs.declared.cell.Cell.{Cell}
use Rattle.machine.specs.declared.state.State.{State}
use Rattle.machine.specs.Calls.{fitting, in_limits}
use Rattle.machine.specs.Cells.{blank}
use Rattle.run_image.proofs.running.run_image.Goals as goal

fits : (state : State) (cells registers : List Cell) (size : ℕ) → in_limits size ≡ true → state.size ≡ size → length cells ≡ size → length registers ≡ 16
    → fitting state cells registers ≡ true
fits state cells registers size limits named kept sixteen = rw (kept, named, sixteen) (grind (arith, nat_tests))

pub run-requires : goal.run-requires
run-requires g c =
    let loads = c.in_ok-live.ensures.loads in
    let gives = loads.exact loads.header loads.parts loads.is in
    fits c.in_ok-live.field-0.live.state _ _ (length c.args.cells.now) loads.limits (ap (λ live. live.state.size) gives.live) c.load.auto.cells (ap length gives.registers ∙ length-replicate 16 blank)
