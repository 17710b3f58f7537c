-- Memory cells and registers, as lists.
use Rattle.std.specs.Prelude.{ℕ, List, slice_index_or}
use Rattle.machine.specs.declared.cell.Cell.{Cell}

abbrev pub blank : Cell
blank = record { word = 0; tag = 0 }

abbrev pub cell_in : List Cell → ℕ → Cell
cell_in cells i = slice_index_or cells i blank

abbrev pub tag_in : List Cell → ℕ → ℕ
tag_in cells i = (cell_in cells i).tag

abbrev pub word_in : List Cell → ℕ → ℕ
word_in cells i = (cell_in cells i).word
