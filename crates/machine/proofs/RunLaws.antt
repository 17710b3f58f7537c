-- Every run obeys its law.
use Rattle.std.proofs.Common.{◌≡◌, ℕ, zero, suc, ◌+◌, ◌-◌, List, [], ◌∷◌, ◌++◌, length, sym, refl, ap, ◌∙◌, subst, append-nil, suc-add, zero-add, arith}
use native.Mathlib.Nat.{sub-zero, suc-sub-suc}
use Rattle.machine.specs.declared.cell.Cell.{Cell}
use Rattle.machine.specs.declared.records.Record.{Record}
use Rattle.machine.specs.declared.state.End.{End}
use Rattle.machine.specs.declared.state.End.TheVariants.{Stopped, Spent, Full}
use Rattle.machine.specs.declared.state.Next.{Next}
use Rattle.machine.specs.declared.state.Next.TheVariants.{Running, Ended}
use Rattle.machine.specs.declared.state.State.{State}
use Rattle.machine.specs.Program.{Program, done, bind, answer, after}
use Rattle.machine.specs.Run.{RunOutcome, preceded, continued, turn, run}
use Rattle.machine.specs.RunLaw.{Steps, machine_in, EndsAfter, joined, resumed, resume, RunLaw}
use Rattle.machine.specs.Step.{Meaning, Outcome, step}
use Rattle.machine.proofs.Programs.{Performed, perform, perform_bind, bind_done, bind_bind, bind_same}
use Rattle.machine.proofs.StepLaws.{law_of_step}

-- two budgets, one after the other

module _ (μ : Meaning) where
  -- a record that stands before stays before
  resume_first : (second free : ℕ) (entry : Record) (outcome : RunOutcome) (end : End) →
      bind (resumed μ second free outcome end) (λ more. done (preceded entry more)) ≡ resumed μ second (suc free) (preceded entry outcome) end
  resume_first second free entry outcome (Stopped stopped) = refl
  resume_first second free entry outcome (Full live) = refl
  resume_first second free entry outcome (Spent live) =
      bind_bind (run μ second (free - length outcome.records) live.state outcome.registers) (λ more. done (joined outcome.records more)) (λ more. done (preceded entry more))
      ∙ ap (λ n. bind (run μ second n live.state outcome.registers) (λ more. done (joined (entry ∷ outcome.records) more))) (sym (suc-sub-suc free (length outcome.records)))

  turn_cut : (first second free : ℕ) →
      ((state : State) (registers : List Cell) → run μ (first + second) free state registers ≡ bind (run μ first free state registers) (resume μ second free)) →
      (entry : Record) (registers : List Cell) (next : Next) →
      continued (run μ (first + second) free) entry registers next ≡ bind (continued (run μ first free) entry registers next) (resume μ second (suc free))
  turn_cut first second free cut entry registers (Ended stopped) = refl
  turn_cut first second free cut entry registers (Running live) =
      let rest : Program RunOutcome = run μ first free live.state registers in
      ap (λ p. bind p (λ outcome. done (preceded entry outcome))) (cut live.state registers)
      ∙ bind_bind rest (resume μ second free) (λ outcome. done (preceded entry outcome))
      ∙ bind_same rest _ _ (λ outcome. resume_first second free entry outcome outcome.end)
      ∙ sym (bind_bind rest (λ outcome. done (preceded entry outcome)) (resume μ second (suc free)))

  cut_run : (first second free : ℕ) (state : State) (registers : List Cell) →
      run μ (first + second) free state registers ≡ bind (run μ first free state registers) (resume μ second free)
  unfolding run
  cut_run zero second free state registers =
      ap (λ n. run μ n free state registers) (zero-add second)
      ∙ ap (λ n. run μ second n state registers) (sym (sub-zero free))
      ∙ sym (bind_done (run μ second (free - 0) state registers))
  cut_run (suc first) second zero state registers = ap (λ n. run μ n zero state registers) (suc-add first second)
  cut_run (suc first) second (suc free) state registers =
      ap (λ n. run μ n (suc free) state registers) (suc-add first second)
      ∙ bind_same (step μ state registers) (turn (run μ (first + second) free)) (λ o. bind (turn (run μ first free) o) (resume μ second (suc free)))
      (λ o. turn_cut first second free (cut_run first second free) o.stepped.entry o.registers o.stepped.next)
      ∙ sym (bind_bind (step μ state registers) (turn (run μ first free)) (resume μ second (suc free)))

  extends_run : (budget more free : ℕ) (state : State) (registers cells : List Cell) →
      (rest : List Record) × ((answer cells (run μ (budget + more) free state registers)).records ≡ (answer cells (run μ budget free state registers)).records ++ rest)
  extends_run budget more free state registers cells =
      let outcome : RunOutcome = answer cells (run μ budget free state registers) in
      let further = go outcome (after cells (run μ budget free state registers)) outcome.end in
      let both : perform cells (run μ (budget + more) free state registers) ≡ perform (after cells (run μ budget free state registers)) (resume μ more free outcome) =
      ap (perform cells) (cut_run budget more free state registers) ∙ perform_bind cells (run μ budget free state registers) (resume μ more free) in
      (further.0, ap (λ (p : Performed RunOutcome). p.answered.records) both ∙ further.1)
    where
      go : (outcome : RunOutcome) (left : List Cell) (end : End) → (rest : List Record) × ((answer left (resumed μ more free outcome end)).records ≡ outcome.records ++ rest)
      go outcome left (Stopped stopped) = ([], sym (append-nil outcome.records))
      go outcome left (Full live) = ([], sym (append-nil outcome.records))
      go outcome left (Spent live) =
          let rest : Program RunOutcome = run μ more (free - length outcome.records) live.state outcome.registers in (
            (answer left rest).records,
            ap (λ (p : Performed RunOutcome). p.answered.records) (perform_bind left rest (λ more. done (joined outcome.records more))),
          )

-- a run of so many records is so many steps

module _ (μ : Meaning) where
  StepsTo : State → List Cell → List Cell → Performed RunOutcome → Type 0
  StepsTo state registers cells p =
      Steps μ p.answered.records (Running (record { state = state })) cells registers (machine_in p.answered.end) p.cells p.answered.registers

  -- what follows the first step
  Follows : Record → Next → List Cell → List Cell → List Record → Performed RunOutcome → Type 0
  Follows entry next cells registers [] p = ⊥
  Follows entry next cells registers (first ∷ records) p =
      (first ≡ entry) × Steps μ records next cells registers (machine_in p.answered.end) p.cells p.answered.registers

  follows_steps : (state : State) (registers cells : List Cell) (records : List Record) (p : Performed RunOutcome) →
      Follows (answer cells (step μ state registers)).stepped.entry (answer cells (step μ state registers)).stepped.next (after cells (step μ state registers)) (answer cells (step μ state registers)).registers records p →
      Steps μ records (Running (record { state = state })) cells registers (machine_in p.answered.end) p.cells p.answered.registers
  unfolding Follows
  follows_steps state registers cells [] p h = absurd h
  follows_steps state registers cells (first ∷ records) p h =
      (h.0, law_of_step μ state registers cells _ _ _ (record { stepped = refl; cells = refl; registers = refl }), h.1)

  continued_steps : (budget free : ℕ) → ((state : State) (registers cells : List Cell) → StepsTo state registers cells (perform cells (run μ budget free state registers))) →
      (entry : Record) (registers cells : List Cell) (next : Next) →
      Follows entry next cells registers (answer cells (continued (run μ budget free) entry registers next)).records (perform cells (continued (run μ budget free) entry registers next))
  unfolding StepsTo Follows
  continued_steps budget free steps entry registers cells (Ended stopped) = (refl, (refl, refl, refl))
  continued_steps budget free steps entry registers cells (Running live) =
      subst (λ (p : Performed RunOutcome). Follows entry (Running live) cells registers p.answered.records p)
      (sym (perform_bind cells (run μ budget free live.state registers) (λ outcome. done (preceded entry outcome))))
      (refl, steps live.state registers cells)

  steps_run : (budget free : ℕ) (state : State) (registers cells : List Cell) → StepsTo state registers cells (perform cells (run μ budget free state registers))
  unfolding run StepsTo
  steps_run zero free state registers cells = (refl, refl, refl)
  steps_run (suc budget) zero state registers cells = (refl, refl, refl)
  steps_run (suc budget) (suc free) state registers cells =
      let outcome : Outcome = answer cells (step μ state registers) in
      subst (StepsTo state registers cells) (sym (perform_bind cells (step μ state registers) (turn (run μ budget free))))
      (follows_steps state registers cells _ (perform (after cells (step μ state registers)) (turn (run μ budget free) outcome))
      (continued_steps budget free (steps_run budget free) outcome.stepped.entry outcome.registers (after cells (step μ state registers)) outcome.stepped.next))

  -- when it is over

  Ends : ℕ → ℕ → Performed RunOutcome → Type 0
  Ends budget free p = EndsAfter p.answered.end budget free (length p.answered.records)

  ends_more : (end : End) (budget free made : ℕ) → EndsAfter end budget free made → EndsAfter end (suc budget) (suc free) (suc made)
  ends_more (Stopped stopped) budget free made (p, q) = (omega arith, omega arith)
  ends_more (Spent live) budget free made (p, q) = (omega arith, omega arith)
  ends_more (Full live) budget free made (p, q) = (omega arith, omega arith)

  continued_ends : (budget free : ℕ) → ((state : State) (registers cells : List Cell) → Ends budget free (perform cells (run μ budget free state registers))) →
      (entry : Record) (registers cells : List Cell) (next : Next) → Ends (suc budget) (suc free) (perform cells (continued (run μ budget free) entry registers next))
  unfolding Ends
  continued_ends budget free ends entry registers cells (Ended stopped) = (omega arith, omega arith)
  continued_ends budget free ends entry registers cells (Running live) =
      subst (Ends (suc budget) (suc free)) (sym (perform_bind cells (run μ budget free live.state registers) (λ outcome. done (preceded entry outcome))))
      (ends_more (answer cells (run μ budget free live.state registers)).end budget free _ (ends live.state registers cells))

  ends_run : (budget free : ℕ) (state : State) (registers cells : List Cell) → Ends budget free (perform cells (run μ budget free state registers))
  unfolding run Ends
  ends_run zero free state registers cells = (refl, omega arith)
  ends_run (suc budget) zero state registers cells = (refl, omega arith)
  ends_run (suc budget) (suc free) state registers cells =
      let outcome : Outcome = answer cells (step μ state registers) in
      subst (Ends (suc budget) (suc free)) (sym (perform_bind cells (step μ state registers) (turn (run μ budget free))))
      (continued_ends budget free (ends_run budget free) outcome.stepped.entry outcome.registers (after cells (step μ state registers)) outcome.stepped.next)

pub law_of_run : (μ : Meaning) (budget free : ℕ) (state : State) (registers cells : List Cell) (end : End) (cells' registers' : List Cell) →
    end ≡ (answer cells (run μ budget free state registers)).end → cells' ≡ after cells (run μ budget free state registers) →
    registers' ≡ (answer cells (run μ budget free state registers)).registers →
    RunLaw μ budget free state cells registers (answer cells (run μ budget free state registers)).records end cells' registers'
unfolding StepsTo Ends
law_of_run μ budget free state registers cells end cells' registers' e c r =
    let records : List Record = (answer cells (run μ budget free state registers)).records in
    record {
      steps = rw (e, c, r) (steps_run μ budget free state registers cells);
      ends = rw e (ends_run μ budget free state registers cells);
      extends = λ more. extends_run μ budget more free state registers cells;
      cut = λ first second e. ap (λ n. run μ n free state registers) (sym e) ∙ cut_run μ first second free state registers;
    }
