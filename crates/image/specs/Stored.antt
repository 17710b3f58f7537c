-- What parts do to the cells.
use Rattle.std.specs.Prelude.{ℕ, zero, suc, List, map, fold, slice_set}
use Rattle.std.proofs.lemmas.List.Edits.{sets}
use Rattle.machine.specs.declared.cell.Cell.{Cell}
use Rattle.machine.specs.Cells.{word_in}
use Rattle.image.specs.Part.{Part, words, tags, names, note}

abbrev pub tagged : ℕ → ℕ → Cell
tagged tag word = record { word = word; tag = tag }

-- a number of cells from an address on get a tag, and keep their words
unfoldable pub retagged : ℕ → ℕ → ℕ → List Cell → List Cell
retagged address zero tag cells = cells
retagged address (suc n) tag cells = retagged (suc address) n tag (slice_set cells address (tagged tag (word_in cells address)))

abbrev pub stored : Part → List Cell → List Cell
stored (words address tag values) cells = sets cells address (map (tagged tag) values)
stored (tags address count tag) cells = retagged address count tag cells
stored (names labels rest) cells = cells
stored (note kind body) cells = cells

-- one part after another
abbrev pub all_stored : List Part → List Cell → List Cell
all_stored parts cells = fold (λ before part. stored part before) cells parts
