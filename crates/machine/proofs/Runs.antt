-- Runs, a step at a time.
use Rattle.std.proofs.Common.{◌≡◌, ℕ, suc, ◌+◌, ◌-◌, ◌<◌, List, [], ◌∷◌, ◌++◌, length, drop, sym, refl, ap, ◌∙◌, subst, append_assoc, append-nil, arith}
use mathlib.Core.Path.{fun_ext}
use Rattle.std.proofs.lemmas.List.{drop-drop, length-append, length-drop}
use Rattle.journal.specs.Journal.{elements, room, free}
use Rattle.journal.specs.declared.journal.Journal.{Journal}
use Rattle.machine.specs.declared.cell.Cell.{Cell}
use Rattle.machine.specs.declared.records.Record.{Record}
use Rattle.machine.specs.declared.state.End.{End}
use Rattle.machine.specs.declared.state.End.TheVariants.{Stopped, Spent, Full}
use Rattle.machine.specs.declared.state.Live.{Live}
use Rattle.machine.specs.declared.state.Next.{Next}
use Rattle.machine.specs.declared.state.Next.TheVariants.{Running, Ended}
use Rattle.machine.specs.declared.state.State.{State}
use Rattle.machine.specs.declared.step.Machine.{Machine}
use Rattle.machine.specs.declared.stopped.Stopped.{Stopped as Halted}
use Rattle.machine.specs.Program.{Program, done, answer, after}
use Rattle.machine.specs.Run.{RunOutcome, ended, preceded, continued, turn, run, Turned, Waits}
use Rattle.machine.specs.Step.{Meaning, Outcome, Unaltered, step}
use Rattle.machine.specs.Work.{RunsOn}
use Rattle.machine.proofs.Programs.{Performed, perform, perform_bind}
use Rattle.machine.proofs.RunLaws.{law_of_run}

-- how a run begins

pub run_spent : (μ : Meaning) (budget free : ℕ) (state : State) (registers cells : List Cell) → budget ≡ 0 →
    perform cells (run μ budget free state registers) ≡ record { answered = ended (Spent (record { state = state })) registers; cells = cells }
unfolding run
run_spent μ budget free state registers cells e = ap (λ n. perform cells (run μ n free state registers)) e

pub run_full : (μ : Meaning) (budget free : ℕ) (state : State) (registers cells : List Cell) → 0 < budget → free ≡ 0 →
    perform cells (run μ budget free state registers) ≡ record { answered = ended (Full (record { state = state })) registers; cells = cells }
unfolding run
run_full μ budget free state registers cells p e =
    let q : budget ≡ suc (budget - 1) = omega arith in
    ap (λ n. perform cells (run μ n free state registers)) q ∙ ap (λ n. perform cells (run μ (suc (budget - 1)) n state registers)) e

-- a step of the run was made
pub run_turn : (μ : Meaning) (budget free : ℕ) (state : State) (registers cells : List Cell) →
    let outcome = answer cells (step μ state registers) in
    perform cells (run μ (suc budget) (suc free) state registers)
    ≡ perform (after cells (step μ state registers)) (continued (run μ budget free) outcome.stepped.entry outcome.registers outcome.stepped.next)
unfolding run
run_turn μ budget free state registers cells = perform_bind cells (step μ state registers) (turn (run μ budget free))

-- what a run has come to, with what stood in the journal before it
pub record Whole : Type 0 where
  pub end : End
  pub elements : List Record
  pub room : List Record
  pub cells : List Cell
  pub registers : List Cell

abbrev pub whole : List Record → List Record → Performed RunOutcome → Whole
whole elements room performed = record {
  end = performed.answered.end;
  elements = elements ++ performed.answered.records;
  room = drop (length performed.answered.records) room;
  cells = performed.cells;
  registers = performed.answered.registers;
}

with_first : Record → Performed RunOutcome → Performed RunOutcome
with_first entry p = record { answered = preceded entry p.answered; cells = p.cells }

-- a record that was appended stands with what was there
whole_first : (elements room : List Record) (entry : Record) (p : Performed RunOutcome) →
    whole (elements ++ entry ∷ []) (drop 1 room) p ≡ whole elements room (with_first entry p)
unfolding with_first
whole_first elements room entry p =
    let records = p.answered.records in
    let a : (elements ++ entry ∷ []) ++ records ≡ elements ++ entry ∷ records = append_assoc elements (entry ∷ []) records in
    let n : 1 + length records ≡ suc (length records) = omega arith in
    let b : drop (length records) (drop 1 room) ≡ drop (suc (length records)) room = drop-drop (length records) 1 room ∙ ap (λ k. drop k room) n in
    cc

-- what is left to run from this state, on what the machine holds, and what stands in the journal
abbrev pub whole_from : {R : Type 0} → Meaning → ℕ → State → Machine R → Journal Record → Whole
whole_from μ budget state machine journal =
    whole (elements journal) (room journal) (perform machine.cells.now (run μ budget (free journal) state machine.registers.now))

-- a turn of the loop, made under a meaning that is still the first one
module _ {R : Type 0} (μ ν : Meaning) (same : Unaltered μ ν) (budget budget' : ℕ) (fewer : budget ≡ suc budget')
    (before after : Machine R) (journal journal' : Journal Record) (next : Next)
    (turned-ν : Turned (step ν before.state before.registers.now) before.cells.now (elements journal) (room journal)
    next after.cells.now after.registers.now (elements journal') (room journal')) where
  turned : Turned (step μ before.state before.registers.now) before.cells.now (elements journal) (room journal)
      next after.cells.now after.registers.now (elements journal') (room journal')
  turned = subst (λ (m : Meaning). Turned (step m before.state before.registers.now) before.cells.now (elements journal) (room journal)
      next after.cells.now after.registers.now (elements journal') (room journal')) (fun_ext same) turned-ν

  made : Outcome
  made = answer before.cells.now (step μ before.state before.registers.now)

  less_room : free journal ≡ suc (free journal')
  less_room =
      let some : 0 < free journal = turned.free in
      let n = ap length turned.room ∙ length-drop 1 (room journal) in
      omega arith

  rest : Next → Performed RunOutcome
  rest n = perform after.cells.now (continued (run μ budget' (free journal')) made.stepped.entry after.registers.now n)

  continues : perform before.cells.now (run μ budget (free journal) before.state before.registers.now) ≡ rest next
  unfolding made rest
  continues =
      let later : State → List Cell → Program RunOutcome = run μ budget' (free journal') in
      ap (λ n. perform before.cells.now (run μ n (free journal) before.state before.registers.now)) fewer
      ∙ ap (λ n. perform before.cells.now (run μ (suc budget') n before.state before.registers.now)) less_room
      ∙ run_turn μ budget' (free journal') before.state before.registers.now before.cells.now
      ∙ ap (λ x. perform x (continued later made.stepped.entry made.registers made.stepped.next)) (sym turned.cells)
      ∙ ap (λ x. perform after.cells.now (continued later made.stepped.entry x made.stepped.next)) (sym turned.registers)
      ∙ ap (λ x. perform after.cells.now (continued later made.stepped.entry after.registers.now x)) (sym turned.next)

  -- a run that goes on as this step goes on is still the whole
  goes_on : (n : Next) (p : Performed RunOutcome) → next ≡ n → rest n ≡ with_first made.stepped.entry p →
      whole (elements journal') (room journal') p ≡ whole_from μ budget before.state before journal
  unfolding made
  goes_on n p e so =
      ap (λ x. whole x (room journal') p) turned.elements
      ∙ ap (λ x. whole (elements journal ++ made.stepped.entry ∷ []) x p) turned.room
      ∙ whole_first (elements journal) (room journal) made.stepped.entry p
      ∙ ap (whole (elements journal) (room journal)) (sym so ∙ ap rest (sym e) ∙ sym continues)

  -- the machine runs on
  pub whole_on : (live : Live) → next ≡ Running live → whole_from μ budget' live.state after journal' ≡ whole_from μ budget before.state before journal
  unfolding made rest with_first
  whole_on live e =
      let later : Program RunOutcome = run μ budget' (free journal') live.state after.registers.now in
      goes_on (Running live) (perform after.cells.now later) e (perform_bind after.cells.now later (λ outcome. done (preceded made.stepped.entry outcome)))

  -- the machine stopped
  pub whole_off : (halted : Halted) → next ≡ Ended halted →
      whole (elements journal') (room journal') (record { answered = ended (Stopped halted) after.registers.now; cells = after.cells.now })
      ≡ whole_from μ budget before.state before journal
  unfolding made rest with_first
  whole_off halted e = goes_on (Ended halted) (record { answered = ended (Stopped halted) after.registers.now; cells = after.cells.now }) e refl

-- the run is over: what it has come to is the whole
module _ {R : Type 0} (meaning : R → Meaning) (budget₀ : ℕ) (first : Machine R) (journal₀ : Journal Record) where
  abbrev μ : Meaning
  μ = meaning first.rules.now

  pub run_over : (end : End) (machine : Machine R) (journal : Journal Record) (rest : Performed RunOutcome) →
      rest ≡ record { answered = ended end machine.registers.now; cells = machine.cells.now } →
      whole (elements journal) (room journal) rest ≡ whole_from μ budget₀ first.state first journal₀ →
      RunsOn meaning budget₀ first journal₀ end machine journal
  run_over end machine journal rest over so_far =
      let all : whole (elements journal) (room journal) (record { answered = ended end machine.registers.now; cells = machine.cells.now }) ≡ whole_from μ budget₀ first.state first journal₀ =
      ap (whole (elements journal) (room journal)) (sym over) ∙ so_far in
      let put : elements journal ≡ elements journal₀ ++ (answer first.cells.now (run μ budget₀ (free journal₀) first.state first.registers.now)).records =
      sym (append-nil (elements journal)) ∙ ap (λ (w : Whole). w.elements) all in
      record {
        end = ap (λ (w : Whole). w.end) all;
        cells = ap (λ (w : Whole). w.cells) all;
        registers = ap (λ (w : Whole). w.registers) all;
        elements = put;
        count = ap length put ∙ length-append (elements journal₀) _;
        room = ap (λ (w : Whole). w.room) all;
        lawful = law_of_run μ budget₀ (free journal₀) first.state first.registers.now first.cells.now end machine.cells.now machine.registers.now
            (ap (λ (w : Whole). w.end) all) (ap (λ (w : Whole). w.cells) all) (ap (λ (w : Whole). w.registers) all);
      }

  -- the budget was spent
  pub run_ends : (budget : ℕ) (machine : Machine R) (journal : Journal Record) → budget ≡ 0 →
      whole_from μ budget machine.state machine journal ≡ whole_from μ budget₀ first.state first journal₀ →
      RunsOn meaning budget₀ first journal₀ (Spent (record { state = machine.state })) machine journal
  run_ends budget machine journal none so_far =
      run_over (Spent (record { state = machine.state })) machine journal _
      (run_spent μ budget (free journal) machine.state machine.registers.now machine.cells.now none) so_far

  -- the journal had no place for another record
  pub run_waits : (budget : ℕ) (before after : Machine R) (journal journal' : Journal Record) → 0 < budget → after.state ≡ before.state →
      Waits before.cells.now before.registers.now (elements journal) (room journal) after.cells.now after.registers.now (elements journal') (room journal') →
      whole_from μ budget before.state before journal ≡ whole_from μ budget₀ first.state first journal₀ →
      RunsOn meaning budget₀ first journal₀ (Full (record { state = after.state })) after journal'
  run_waits budget before after journal journal' some still waits so_far =
      run_over (Full (record { state = after.state })) after journal' rest
      (run_full μ budget (free journal) before.state before.registers.now before.cells.now some waits.free ∙ left)
      (ap (λ x. whole x (room journal') rest) waits.elements ∙ ap (λ x. whole (elements journal) x rest) waits.room ∙ so_far)
    where
      rest : Performed RunOutcome
      rest = perform before.cells.now (run μ budget (free journal) before.state before.registers.now)

      left : ◌≡◌ {A = Performed RunOutcome} (record { answered = ended (Full (record { state = before.state })) before.registers.now; cells = before.cells.now })
          (record { answered = ended (Full (record { state = after.state })) after.registers.now; cells = after.cells.now })
      left = let c = waits.cells in let r = waits.registers in let s = still in cc
