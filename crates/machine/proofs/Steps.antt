-- Steps, where the rulebook was asked before, and what stays through two of them.
use Rattle.std.proofs.Common.{◌≡◌, ℕ, true, List, sym, ◌∙◌, subst}
use mathlib.Core.Path.{fun_ext}
use Rattle.rulebook.specs.declared.question.Question.{Question}
use Rattle.rulebook.specs.Answer.{Answer, allowed}
use Rattle.machine.specs.declared.cell.Cell.{Cell}
use Rattle.machine.specs.declared.state.State.{State}
use Rattle.machine.specs.declared.state.Stepped.{Stepped}
use Rattle.machine.specs.declared.step.Machine.{Machine}
use Rattle.machine.specs.Cells.{tag_in}
use Rattle.machine.specs.Step.{Meaning, Performs, fetch_question, fetched, inside, looked_at}
use Rattle.machine.specs.Work.{Stays}

-- asking has left the meaning as it was, so that what follows is what the first meaning says
pub after_fetch : (μ ν : Meaning) → ((q : Question) → ν q ≡ μ q) →
    (state : State) (registers cells : List Cell) (ci tag r : ℕ) (stepped : Stepped) (cells' registers' : List Cell) →
    ci ≡ tag_in cells state.pc → μ (fetch_question state.tag ci) ≡ allowed tag r →
    Performs (looked_at ν state registers ci tag) cells stepped cells' registers' →
    Performs (inside μ state registers true) cells stepped cells' registers'
after_fetch μ ν same state registers cells ci tag r stepped cells' registers' here allowed performs =
    let meant = subst (λ (m : Meaning). Performs (looked_at m state registers ci tag) cells stepped cells' registers') (fun_ext same) performs in
    let asked = subst (λ (a : Answer). Performs (fetched μ state registers ci a) cells stepped cells' registers') (sym allowed) meant in
    let there = subst (λ (t : ℕ). Performs (fetched μ state registers t (μ (fetch_question state.tag t))) cells stepped cells' registers') here asked in
    record { stepped = there.stepped; cells = there.cells; registers = there.registers }

pub stays_on : {R : Type 0} {meaning : R → Meaning} {before between after : Machine R} →
    Stays meaning before between → Stays meaning between after → Stays meaning before after
stays_on first second = record { means = λ q. second.means q ∙ first.means q; holds = second.holds ∙ first.holds }
