-- How many cells an image asks for.
use Rattle.std.specs.Prelude.{ℕ, cond, ◌&&◌, List, length, Some, None, Option, ◌==◌}
use Rattle.std.specs.Option.{option_map, unwrap_or}
use Rattle.machine.specs.Calls.{in_limits}
use Rattle.image.specs.Bytes.{field}
use Rattle.image.specs.Section.{Section, cut_short, first_section}

-- what a section names, if it is a header
abbrev pub cells_in : Section → Option ℕ
cells_in section = cond (section.kind == 1 && length section.body == 8) (Some (field 2 0 section.body)) None

-- what the header of an image names, if there is one
abbrev pub header_cells : List ℕ → Option ℕ
header_cells image = cond (cut_short image) None (cells_in (first_section image))

-- the fewest where no machine has so many
abbrev pub within_limits : ℕ → ℕ
within_limits cells = cond (in_limits cells) cells 16

abbrev pub cells_named : List ℕ → ℕ
cells_named image = unwrap_or (option_map within_limits (header_cells image)) 16
