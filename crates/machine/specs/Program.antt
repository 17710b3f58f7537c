-- Programs of memory commands.  What touches memory is defined as one, so that the same definition says what is
-- answered, what is left, and which tags and words are taken for it, in which order.
use Rattle.std.specs.Prelude.{ℕ, List, slice_set}
use Rattle.machine.specs.declared.cell.Cell.{Cell}
use Rattle.machine.specs.Cells.{tag_in, word_in}

-- a program that ends in an answer of type A
pub data Program (A : Type 0) : Type 0 where
  done : A → Program A
  tag_at : ℕ → (ℕ → Program A) → Program A
  word_at : ℕ → (ℕ → Program A) → Program A
  overwrite : ℕ → Cell → Program A → Program A

-- what the program answers when it is performed on these cells
abbrev pub answer : {A : Type 0} → List Cell → Program A → A
answer cells (done a) = a
answer cells (tag_at i k) = answer cells (k (tag_in cells i))
answer cells (word_at i k) = answer cells (k (word_in cells i))
answer cells (overwrite i c p) = answer (slice_set cells i c) p

-- the cells that it leaves
abbrev pub after : {A : Type 0} → List Cell → Program A → List Cell
after cells (done a) = cells
after cells (tag_at i k) = after cells (k (tag_in cells i))
after cells (word_at i k) = after cells (k (word_in cells i))
after cells (overwrite i c p) = after (slice_set cells i c) p

-- one program after another
abbrev pub bind : {A B : Type 0} → Program A → (A → Program B) → Program B
bind (done a) f = f a
bind (tag_at i k) f = tag_at i (λ n. bind (k n) f)
bind (word_at i k) f = word_at i (λ n. bind (k n) f)
bind (overwrite i c p) f = overwrite i c (bind p f)
