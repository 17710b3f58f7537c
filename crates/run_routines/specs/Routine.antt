-- The cells of a routine.
use Rattle.std.specs.Prelude.{ℕ, List, map}
use Rattle.machine.specs.declared.cell.Cell.{Cell}

abbrev pub cell_of : ℕ × ℕ → Cell
cell_of pair = record { word = pair.0; tag = pair.1 }

abbrev pub cells_of : List (ℕ × ℕ) → List Cell
cells_of routine = map cell_of routine
