-- Every step obeys its law.
use Rattle.std.proofs.Common.{◌≡◌, ℕ, Bool, true, false, cond, ◌&&◌, eqb, ltb, ◌≢◌, List, set, Some, None, Ok, Err, Option, sym, refl, ap, ◌∙◌, get_or-set_other, rules}
use Rattle.rulebook.specs.declared.question.Question.{Question}
use Rattle.rulebook.specs.Answer.{Answer, allowed}
use Rattle.rulebook.specs.Group.{number_of}
use Rattle.instruction.specs.declared.instruction.Instruction.{Instruction}
use Rattle.instruction.specs.Decode.{decoded}
use Rattle.instruction.specs.Instruction.{group_of}
use Rattle.machine.specs.declared.cell.Cell.{Cell}
use Rattle.machine.specs.declared.step.Access.{Access}
use Rattle.machine.specs.declared.step.Access.TheVariants as access
use Rattle.machine.specs.declared.records.Cause.{Cause}
use Rattle.machine.specs.declared.records.Cause.TheVariants as cause
use Rattle.machine.specs.declared.records.Record.{Record}
use Rattle.machine.specs.declared.state.State.{State}
use Rattle.machine.specs.declared.step.Fetched.{Fetched}
use Rattle.machine.specs.Cause.{cause_number}
use Rattle.machine.specs.Cells.{blank, cell_in, tag_in, word_in}
use Rattle.machine.specs.Effect.{access_of, address_in, target_of, written}
use Rattle.machine.specs.Program.{Program, answer, after}
use Rattle.machine.specs.declared.state.Stepped.{Stepped}
use Rattle.machine.specs.Step.{Meaning, Outcome, Performs, stop, cell_told, done_entry, recorded, cause_of, performed, ruled, judged, asks, within, reached, read, looked_at, fetched, fetch_question, inside, step}
use Rattle.machine.specs.StepLaw.{WhereDone, WhereStopped, StepLaw, allowed_tag, register_told, target_in}

-- what an instruction that went through is told by

is_store : Access → Bool
is_store access.Nothing = false
is_store (access.Load address) = false
is_store (access.Store address) = true

stores_by : (i : Instruction) (rs : List Cell) →
    eqb (cause_number (cause_of i)) (cause_number cause.Running) && eqb (number_of (group_of i)) 10 ≡ is_store (access_of i rs)
unfolding is_store
stores_by i rs = search rules

target_by : (i : Instruction) → cond (eqb (cause_number (cause_of i)) (cause_number cause.Running)) (target_of i) None ≡ target_of i
target_by i = search rules

always : (i : Instruction) (P : Type 0) → P → WhereDone (cause_of i) P
always i P p = search rules

never : (i : Instruction) (P : Type 0) → WhereStopped (cause_of i) P
never i P = search rules

-- at most one changes

one_set : (t : Bool) (cells : List Cell) (a : ℕ) (c : Cell) (i : ℕ) → i ≢ a → cell_in (cond t (set cells a c) cells) i ≡ cell_in cells i
one_set true cells a c i n = get_or-set_other cells a i c blank n
one_set false cells a c i n = refl

one_written : (o : Option ℕ) (c : Cell) (rs : List Cell) (i : ℕ) → (Some i ≡ o → ⊥) → cell_in (written o c rs) i ≡ cell_in rs i
one_written None c rs i n = refl
one_written (Some d) c rs i n = get_or-set_other rs d i c blank (λ e. n (ap Some e))

module _ (μ : Meaning) (state : State) (registers cells : List Cell) where
  Lawful : Program Outcome → Type 0
  Lawful p = StepLaw μ state cells registers (answer cells p).stepped (after cells p) (answer cells p).registers

  Stops : Cause → Type 0
  Stops cause.Halted = ⊥
  Stops cause.PcOutside = Unit {0}
  Stops cause.Illegal = Unit {0}
  Stops cause.DataOutside = Unit {0}
  Stops (cause.Denied denial) = Unit {0}
  Stops cause.Running = ⊥

  stopped : (word address : ℕ) (q : Question) (c : Cause) → Stops c → Lawful (stop state registers word address q c)
  unfolding Lawful Stops
  stopped word address q c s = search rules

  -- an instruction that was fetched
  module _ (f : Fetched) (ci_there : f.ci ≡ tag_in cells state.pc) (word_there : f.word ≡ word_in cells state.pc)
      (legal : decoded f.word ≡ Some f.instruction)
      (fetches : allowed_tag (μ (fetch_question state.tag (tag_in cells state.pc))) ≡ Some f.tag) where
    module _ (m tag r : ℕ) (a : Access) (reaches : access_of f.instruction registers ≡ a) (e : μ (asks f registers a m).question ≡ allowed tag r) where
      entry_of : ℕ → Record
      entry_of loaded = done_entry state registers (asks f registers a m) loaded tag r

      register_named : (loaded : ℕ) → target_of f.instruction ≡ register_told (entry_of loaded)
      unfolding entry_of
      register_named loaded =
          sym (target_by f.instruction)
          ∙ ap (λ i. cond (eqb (cause_number (cause_of f.instruction)) (cause_number cause.Running)) (target_in i) None) (sym legal)

      told : (loaded : ℕ) (t : Bool) → is_store a ≡ t →
          StepLaw μ state cells registers (recorded state.size (entry_of loaded)) (cond t (set cells (address_in a) (cell_told (entry_of loaded))) cells)
          (written (target_of f.instruction) (cell_told (entry_of loaded)) registers)
      unfolding entry_of
      told loaded t s =
          let stores_so = stores_by f.instruction registers ∙ ap is_store reaches ∙ s in
          record {
            cells = ap (λ b. cond b (set cells (address_in a) (cell_told (entry_of loaded))) cells) (sym stores_so);
            registers = ap (λ o. written o (cell_told (entry_of loaded)) registers) (register_named loaded);
            next = refl;
            one_cell = one_set t cells (address_in a) (cell_told (entry_of loaded));
            one_register = λ i n. one_written (target_of f.instruction) (cell_told (entry_of loaded)) registers i (λ w. n (w ∙ register_named loaded));
            leaves = never f.instruction _;
            there = always f.instruction _ (ci_there, word_there);
            fetched = always f.instruction _ fetches;
            allowed = always f.instruction _ e;
            counts = always f.instruction _ refl;
          }

    went_through : (m tag r : ℕ) (a : Access) → access_of f.instruction registers ≡ a →
        μ (asks f registers a m).question ≡ allowed tag r → Lawful (performed state registers (asks f registers a m) tag r a)
    unfolding Lawful is_store entry_of
    went_through m tag r access.Nothing reaches e = told m tag r access.Nothing reaches e 0 false refl
    went_through m tag r (access.Load address) reaches e = told m tag r (access.Load address) reaches e (word_in cells address) false refl
    went_through m tag r (access.Store address) reaches e = told m tag r (access.Store address) reaches e 0 true refl

    judged_lawful : (m : ℕ) (a : Access) → access_of f.instruction registers ≡ a → Lawful (judged μ state registers (asks f registers a m))
    unfolding Lawful Stops
    judged_lawful m a reaches = go (μ (asks f registers a m).question) refl
      where
        go : (ruling : Answer) → μ (asks f registers a m).question ≡ ruling → Lawful (ruled state registers (asks f registers a m) ruling)
        go (Err denial) e = stopped f.word (address_in a) (asks f registers a m).question (cause.Denied denial) tt
        go (Ok tags) e = went_through m tags.pc tags.r a reaches e

    within_lawful : (a : Access) → access_of f.instruction registers ≡ a → (t : Bool) → Lawful (within μ state registers f a t)
    unfolding Lawful Stops
    within_lawful a reaches false = stopped f.word (address_in a) _ cause.DataOutside tt
    within_lawful a reaches true = judged_lawful (tag_in cells (address_in a)) a reaches

    reached_lawful : (a : Access) → access_of f.instruction registers ≡ a → Lawful (reached μ state registers f a)
    unfolding Lawful
    reached_lawful access.Nothing reaches = judged_lawful 0 access.Nothing reaches
    reached_lawful (access.Load address) reaches = within_lawful (access.Load address) reaches _
    reached_lawful (access.Store address) reaches = within_lawful (access.Store address) reaches _

  read_lawful : (tag r : ℕ) → μ (fetch_question state.tag (tag_in cells state.pc)) ≡ allowed tag r →
      Lawful (looked_at μ state registers (tag_in cells state.pc) tag)
  unfolding Lawful Stops
  read_lawful tag r e = go (decoded (word_in cells state.pc)) refl
    where
      go : (i : Option Instruction) → decoded (word_in cells state.pc) ≡ i → Lawful (read μ state registers (tag_in cells state.pc) tag (word_in cells state.pc) i)
      go None d = stopped (word_in cells state.pc) 0 _ cause.Illegal tt
      go (Some i) d = reached_lawful (record { ci = tag_in cells state.pc; tag = tag; word = word_in cells state.pc; instruction = i }) refl refl d (ap allowed_tag e) (access_of i registers) refl

  fetched_lawful : (ruling : Answer) → μ (fetch_question state.tag (tag_in cells state.pc)) ≡ ruling →
      Lawful (fetched μ state registers (tag_in cells state.pc) ruling)
  unfolding Lawful Stops
  fetched_lawful (Err denial) e = stopped 0 0 _ (cause.Denied denial) tt
  fetched_lawful (Ok tags) e = read_lawful tags.pc tags.r e

  inside_lawful : (t : Bool) → Lawful (inside μ state registers t)
  unfolding Lawful Stops
  inside_lawful false = stopped 0 0 _ cause.PcOutside tt
  inside_lawful true = fetched_lawful (μ (fetch_question state.tag (tag_in cells state.pc))) refl

  pub law_of_step : (stepped : Stepped) (cells' registers' : List Cell) → Performs (step μ state registers) cells stepped cells' registers' →
      StepLaw μ state cells registers stepped cells' registers'
  unfolding Lawful
  law_of_step stepped cells' registers' p =
      rw (p.stepped, p.cells, p.registers) (inside_lawful (ltb state.pc state.size))
