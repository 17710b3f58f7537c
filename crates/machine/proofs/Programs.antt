-- Programs of memory commands, one after another.
use Rattle.std.proofs.Common.{◌≡◌, List, set, refl, ap}
use mathlib.Core.Path.{fun_ext}
use Rattle.machine.specs.declared.cell.Cell.{Cell}
use Rattle.machine.specs.Cells.{tag_in, word_in}
use Rattle.machine.specs.Program.{Program, done, tag_at, word_at, overwrite, answer, after, bind}

-- what a program answers, with the cells that it leaves
pub record Performed (A : Type 0) : Type 0 where
  pub answered : A
  pub cells : List Cell

abbrev pub perform : {A : Type 0} → List Cell → Program A → Performed A
perform cells program = record { answered = answer cells program; cells = after cells program }

pub perform_bind : {A B : Type 0} (cells : List Cell) (p : Program A) (f : A → Program B) →
    perform cells (bind p f) ≡ perform (after cells p) (f (answer cells p))
perform_bind cells (done a) f = refl
perform_bind cells (tag_at i k) f = perform_bind cells (k (tag_in cells i)) f
perform_bind cells (word_at i k) f = perform_bind cells (k (word_in cells i)) f
perform_bind cells (overwrite i c p) f = perform_bind (set cells i c) p f

pub bind_done : {A : Type 0} (p : Program A) → bind p (λ a. done a) ≡ p
bind_done (done a) = refl
bind_done (tag_at i k) = ap (tag_at i) (fun_ext (λ n. bind_done (k n)))
bind_done (word_at i k) = ap (word_at i) (fun_ext (λ n. bind_done (k n)))
bind_done (overwrite i c p) = ap (overwrite i c) (bind_done p)

pub bind_bind : {A B C : Type 0} (p : Program A) (f : A → Program B) (g : B → Program C) → bind (bind p f) g ≡ bind p (λ a. bind (f a) g)
bind_bind (done a) f g = refl
bind_bind (tag_at i k) f g = ap (tag_at i) (fun_ext (λ n. bind_bind (k n) f g))
bind_bind (word_at i k) f g = ap (word_at i) (fun_ext (λ n. bind_bind (k n) f g))
bind_bind (overwrite i c p) f g = ap (overwrite i c) (bind_bind p f g)

pub bind_same : {A B : Type 0} (p : Program A) (f g : A → Program B) → ((a : A) → f a ≡ g a) → bind p f ≡ bind p g
bind_same p f g e = ap (bind p) (fun_ext e)
