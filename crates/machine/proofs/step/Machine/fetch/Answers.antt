use Rattle.std.proofs.Common.{sym, refl, ap, ◌∙◌}
use Rattle.machine.specs.declared.cell.Cell.{Cell}
use Rattle.machine.proofs.Steps.{after_fetch, stays_on}
use Rattle.machine.proofs.step.Machine.fetch.Goals as goal

pub returns-in-Ok : goal.returns-in-Ok
returns-in-Ok g c =
    let meaning = g.R.Rulebook.meaning in
    let self = c.args.self.now in
    let works = c.read.ensures.works in
    record {
      works = record {
        performs = after_fetch (meaning self.rules.now) (meaning c.ask.new.self) c.ask.ensures.keeps
            self.state self.registers.now self.cells.now _ c.in-Ok.tags.pc c.in-Ok.tags.r _ _ _
            (ap (λ (x : Cell). x.tag) c.cell-ci.ensures) (ap (meaning self.rules.now) (sym c.fetch_question.ensures) ∙ sym c.ask.ensures.answers ∙ c.in-Ok.is) works.performs;
        stays = stays_on (record { means = c.ask.ensures.keeps; holds = refl }) works.stays;
      };
    }
