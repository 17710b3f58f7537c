use Rattle.std.proofs.Common.{◌≡◌, suc, ◌+◌, ◌-◌, ◌<◌, refl, ◌∙◌, arith}
use Rattle.machine.specs.declared.state.End.TheVariants.{Stopped}
use Rattle.machine.proofs.Runs.{run_ends, run_over, run_waits, whole_on, whole_off}
use Rattle.machine.proofs.Steps.{stays_on}
use Rattle.machine.proofs.step.Machine.run.Goals as goal

pub returns-in_default-clause-runs : goal.returns-in_default-clause-runs
returns-in_default-clause-runs g c =
    let before = c.loop-made in
    let waits = c.in_default.ensures.turns in
    let some : 0 < c.args.budget - before._made = omega arith in
    run_waits g.R.Rulebook.meaning c.args.budget c.args.self.now c.args.journal.now
    (c.args.budget - before._made) before.self c.turn.new.self before.journal c.turn.new.journal some waits.0 waits.1 before.invariant.whole

pub returns-in-Ended-clause-runs : goal.returns-in-Ended-clause-runs
returns-in-Ended-clause-runs g c =
    let before = c.loop-made in
    let fewer : c.args.budget - before._made ≡ suc (c.args.budget - (before._made + 1)) = omega arith in
    let so_far = whole_off _ _ before.invariant.stays.means _ _ fewer before.self c.turn.new.self before.journal c.turn.new.journal
    c.in-Some.next c.in-Some.ensures.turns c.in-Ended.stopped c.in-Ended.is in
    run_over g.R.Rulebook.meaning c.args.budget c.args.self.now c.args.journal.now
    (Stopped c.in-Ended.stopped) c.turn.new.self c.turn.new.journal _ refl (so_far ∙ before.invariant.whole)

pub loop-made-preserved : goal.loop-made-preserved
loop-made-preserved g c =
    let before = c.loop-made in
    let made = c.in-Some.ensures in
    let fewer : c.args.budget - before._made ≡ suc (c.args.budget - (before._made + 1)) = omega arith in
    let so_far = whole_on _ _ before.invariant.stays.means _ _ fewer before.self c.turn.new.self before.journal c.turn.new.journal
    c.in-Some.next made.turns c.in-Running.live c.in-Running.is in
    let stays = stays_on before.invariant.stays made.stays in
    record {
      stays = record { means = stays.means; holds = stays.holds };
      loan = made.loan ∙ before.invariant.loan;
      whole = so_far ∙ before.invariant.whole;
    }

pub returns-clause-runs : goal.returns-clause-runs
returns-clause-runs g c =
    let none : c.args.budget - c.loop-made._made ≡ 0 = omega arith in
    run_ends g.R.Rulebook.meaning c.args.budget c.args.self.now c.args.journal.now
    (c.args.budget - c.loop-made._made) c.loop-made.self c.loop-made.journal none c.loop-made.invariant.whole
