-- One step, as a program of memory commands.  Its six parts stand below from the last to the first, since each names the next.
use Rattle.std.specs.Prelude.{◌≡◌, ℕ, ◌+◌, ◌-◌, ◌^◌, min, Bool, true, false, List, Some, None, Ok, Err, Option, nat_lt}
use Rattle.rulebook.specs.declared.group.Group.{Group}
use Rattle.rulebook.specs.declared.group.Group.TheVariants as group
use Rattle.rulebook.specs.declared.question.Question.{Question}
use Rattle.rulebook.specs.Answer.{Answer}
use Rattle.instruction.specs.declared.instruction.Instruction.{Instruction}
use Rattle.instruction.specs.declared.instruction.Instruction.TheVariants.{Halt, Const, Move, Compute, Load, Store, Jump, Branch, Call, Ret, Out}
use Rattle.instruction.specs.Decode.{decoded}
use Rattle.instruction.specs.Instruction.{group_of}
use Rattle.machine.specs.declared.cell.Cell.{Cell}
use Rattle.machine.specs.declared.step.Access.{Access}
use Rattle.machine.specs.declared.step.Access.TheVariants as access
use Rattle.machine.specs.declared.records.Cause.{Cause}
use Rattle.machine.specs.declared.records.Cause.TheVariants as cause
use Rattle.machine.specs.declared.records.Record.{Record}
use Rattle.machine.specs.declared.state.Next.{Next}
use Rattle.machine.specs.declared.state.Next.TheVariants.{Running, Ended}
use Rattle.machine.specs.declared.state.State.{State}
use Rattle.machine.specs.declared.state.Stepped.{Stepped}
use Rattle.machine.specs.declared.step.Fetched.{Fetched}
use Rattle.machine.specs.declared.step.Asked.{Asked}
use Rattle.machine.specs.Effect.{access_of, address_in, sources_of, target_of, effect_of, written}
use Rattle.machine.specs.Program.{Program, done, tag_at, word_at, overwrite, answer, after}

-- what a rulebook means
abbrev pub Meaning : Type 0
Meaning = Question → Answer

abbrev pub Unaltered : Meaning → Meaning → Type 0
Unaltered before after = (question : Question) → after question ≡ before question

-- what a step comes to, beside the cells
pub record Outcome : Type 0 where
  pub stepped : Stepped
  pub registers : List Cell

-- a program was performed on these cells: what came of it, and which cells and registers it left
pub record Performs (program : Program Outcome) (before : List Cell) (answered : Stepped) (cells_left registers_left : List Cell) : Type 0 where
  pub stepped : answered ≡ (answer before program).stepped
  pub cells : cells_left ≡ after before program
  pub registers : registers_left ≡ (answer before program).registers

-- the machine after a step, as its record tells it
abbrev pub state_after : ℕ → Record → State
state_after size entry = record { pc = entry.next; tag = entry.tag; count = entry.count; size = size }

abbrev pub next_by : Cause → State → Next
next_by cause.Halted state = Ended (record { state = state })
next_by cause.PcOutside state = Ended (record { state = state })
next_by cause.Illegal state = Ended (record { state = state })
next_by cause.DataOutside state = Ended (record { state = state })
next_by (cause.Denied denial) state = Ended (record { state = state })
next_by cause.Running state = Running (record { state = state })

abbrev pub recorded : ℕ → Record → Stepped
recorded size entry = record { entry = entry; next = next_by entry.cause (state_after size entry) }

-- the question of an op that was not asked
abbrev pub unasked : Group → ℕ → Question
unasked group ci = record { group = group; pc = 0; ci = ci; a = 0; b = 0; m = 0 }

-- a stop that leaves everything as it was
abbrev pub stop_entry : State → ℕ → ℕ → Question → Cause → Record
stop_entry state word address question cause = record {
  count = state.count;
  pc = state.pc;
  word = word;
  question = question;
  address = address;
  loaded = 0;
  result = 0;
  r = 0;
  next = state.pc;
  tag = state.tag;
  cause = cause;
}

abbrev pub stop : State → List Cell → ℕ → ℕ → Question → Cause → Program Outcome
stop state registers word address question cause =
    done (record { stepped = recorded state.size (stop_entry state word address question cause); registers = registers })

-- the largest count, at which it stays
abbrev pub count_top : ℕ
count_top = 2 ^ 32 - 1

abbrev pub counted : ℕ → ℕ
counted count = min (count + 1) count_top

-- HALT is the one instruction that stops
abbrev pub cause_of : Instruction → Cause
cause_of Halt = cause.Halted
cause_of (Const d k) = cause.Running
cause_of (Move d s) = cause.Running
cause_of (Compute op d s t) = cause.Running
cause_of (Load d s k) = cause.Running
cause_of (Store d s k) = cause.Running
cause_of (Jump s) = cause.Running
cause_of (Branch s k) = cause.Running
cause_of (Call d k) = cause.Running
cause_of (Ret s) = cause.Running
cause_of (Out s) = cause.Running

-- a step that went through, with the word that it loaded and the tags that it was allowed
abbrev pub done_entry : State → List Cell → Asked → ℕ → ℕ → ℕ → Record
done_entry state registers asked loaded tag r = record {
  count = counted state.count;
  pc = state.pc;
  word = asked.word;
  question = asked.question;
  address = address_in asked.access;
  loaded = loaded;
  result = (effect_of asked.instruction state.pc loaded registers).result;
  r = r;
  next = (effect_of asked.instruction state.pc loaded registers).next;
  tag = tag;
  cause = cause_of asked.instruction;
}

-- the word and the tag that a step writes
abbrev pub cell_told : Record → Cell
cell_told entry = record { word = entry.result; tag = entry.r }

abbrev pub went : State → List Cell → Asked → Record → Outcome
went state registers asked entry =
    record { stepped = recorded state.size entry; registers = written (target_of asked.instruction) (cell_told entry) registers }

-- 6. The effect happens, r goes to what is written, and the pc gets its new tag.
abbrev pub performed : State → List Cell → Asked → ℕ → ℕ → Access → Program Outcome
performed state registers asked tag r access.Nothing = done (went state registers asked (done_entry state registers asked 0 tag r))
performed state registers asked tag r (access.Load address) =
    word_at address (λ loaded. done (went state registers asked (done_entry state registers asked loaded tag r)))
performed state registers asked tag r (access.Store address) =
    overwrite address (cell_told (done_entry state registers asked 0 tag r))
    (done (went state registers asked (done_entry state registers asked 0 tag r)))

-- 5. The op is asked; denial stops.
abbrev pub ruled : State → List Cell → Asked → Answer → Program Outcome
ruled state registers asked (Err denial) =
    stop state registers asked.word (address_in asked.access) asked.question (cause.Denied denial)
ruled state registers asked (Ok tags) = performed state registers asked tags.pc tags.r asked.access

abbrev pub judged : Meaning → State → List Cell → Asked → Program Outcome
judged μ state registers asked = ruled state registers asked (μ asked.question)

-- the op is asked with the pc tag that the fetch left
abbrev pub op_question : Fetched → List Cell → ℕ → Question
op_question fetched registers m = record {
  group = group_of fetched.instruction;
  pc = fetched.tag;
  ci = fetched.ci;
  a = (sources_of fetched.instruction registers).0;
  b = (sources_of fetched.instruction registers).1;
  m = m;
}

abbrev pub asks : Fetched → List Cell → Access → ℕ → Asked
asks fetched registers access m =
    record { word = fetched.word; instruction = fetched.instruction; access = access; question = op_question fetched registers m }

-- 4. A data address outside memory stops.
abbrev pub within : Meaning → State → List Cell → Fetched → Access → Bool → Program Outcome
within μ state registers fetched access false =
    stop state registers fetched.word (address_in access) (unasked (group_of fetched.instruction) fetched.ci) cause.DataOutside
within μ state registers fetched access true =
    tag_at (address_in access) (λ m. judged μ state registers (asks fetched registers access m))

abbrev pub reached : Meaning → State → List Cell → Fetched → Access → Program Outcome
reached μ state registers fetched access.Nothing = judged μ state registers (asks fetched registers access.Nothing 0)
reached μ state registers fetched (access.Load address) =
    within μ state registers fetched (access.Load address) (nat_lt address state.size)
reached μ state registers fetched (access.Store address) =
    within μ state registers fetched (access.Store address) (nat_lt address state.size)

abbrev pub obeyed : Meaning → State → List Cell → Fetched → Program Outcome
obeyed μ state registers fetched = reached μ state registers fetched (access_of fetched.instruction registers)

-- 3. An illegal word stops.
abbrev pub read : Meaning → State → List Cell → ℕ → ℕ → ℕ → Option Instruction → Program Outcome
read μ state registers ci tag word None = stop state registers word 0 (unasked group.Fetch ci) cause.Illegal
read μ state registers ci tag word (Some instruction) =
    obeyed μ state registers (record { ci = ci; tag = tag; word = word; instruction = instruction })

abbrev pub looked_at : Meaning → State → List Cell → ℕ → ℕ → Program Outcome
looked_at μ state registers ci tag = word_at state.pc (λ word. read μ state registers ci tag word (decoded word))

-- 2. FETCH is asked before the word is looked at; denial stops.
abbrev pub fetch_question : ℕ → ℕ → Question
fetch_question tag ci = record { group = group.Fetch; pc = tag; ci = ci; a = 0; b = 0; m = 0 }

abbrev pub fetched : Meaning → State → List Cell → ℕ → Answer → Program Outcome
fetched μ state registers ci (Err denial) =
    stop state registers 0 0 (unasked group.Fetch ci) (cause.Denied denial)
fetched μ state registers ci (Ok tags) = looked_at μ state registers ci tags.pc

-- 1. A pc outside memory stops.
abbrev pub inside : Meaning → State → List Cell → Bool → Program Outcome
inside μ state registers false = stop state registers 0 0 (unasked group.Fetch 0) cause.PcOutside
inside μ state registers true = tag_at state.pc (λ ci. fetched μ state registers ci (μ (fetch_question state.tag ci)))

abbrev pub step : Meaning → State → List Cell → Program Outcome
step μ state registers = inside μ state registers (nat_lt state.pc state.size)
