-- The tags of Depth Isolation: which number stands for what.
use Rattle.std.specs.Prelude.{ℕ, ◌+◌, ◌-◌, ◌≤◌, Bool, cond, ◌&&◌, Some, None, Option, ◌==◌, nat_le}
use Rattle.policies.specs.declared.depth_isolation.tags.Code.{Code}
use Rattle.policies.specs.declared.depth_isolation.tags.Code.TheVariants.{Ordinary, Claiming, Clearing}
use Rattle.policies.specs.declared.depth_isolation.tags.CellTag.{CellTag}
use Rattle.policies.specs.declared.depth_isolation.tags.CellTag.TheVariants as cell
use Rattle.policies.specs.declared.depth_isolation.tags.RegisterTag.{RegisterTag}
use Rattle.policies.specs.declared.depth_isolation.tags.RegisterTag.TheVariants.{Data, Link}

abbrev pub code_number : Code → ℕ
code_number Ordinary = 16
code_number Claiming = 17
code_number Clearing = 18

abbrev pub cell_number : CellTag → ℕ
cell_number cell.Plain = 0
cell_number cell.Empty = 1
cell_number (cell.Code code) = code_number code
cell_number (cell.Frame depth) = 256 + depth
cell_number (cell.SavedLink depth) = 768 + depth

abbrev pub register_number : RegisterTag → ℕ
register_number Data = 0
register_number (Link depth) = 512 + depth

-- a frame has depth 0 to 255; depth 0 was not called, so that no link is saved there
abbrev pub Proper : CellTag → Type 0
Proper cell.Plain = Unit {0}
Proper cell.Empty = Unit {0}
Proper (cell.Code code) = Unit {0}
Proper (cell.Frame depth) = depth ≤ 255
Proper (cell.SavedLink depth) = (1 ≤ depth) × (depth ≤ 255)

abbrev pub ProperRegister : RegisterTag → Type 0
ProperRegister Data = Unit {0}
ProperRegister (Link depth) = depth ≤ 255

abbrev pub between : ℕ → ℕ → ℕ → Bool
between low high n = nat_le low n && nat_le n high

-- what a number says as the tag of a cell of code
abbrev pub code_tag : ℕ → Option Code
code_tag n = cond (n == 16) (Some Ordinary) (cond (n == 17) (Some Claiming) (cond (n == 18) (Some Clearing) None))

abbrev pub if_code : Option Code → Option CellTag → Option CellTag
if_code (Some code) other = Some (cell.Code code)
if_code None other = other

-- what a number says as the tag of a cell
abbrev pub cell_tag : ℕ → Option CellTag
cell_tag n =
    if_code (code_tag n)
    (cond (n == 0) (Some cell.Plain)
    (cond (n == 1) (Some cell.Empty)
    (cond (between 256 511 n) (Some (cell.Frame (n - 256)))
    (cond (between 769 1023 n) (Some (cell.SavedLink (n - 768))) None))))

-- what a number says as the tag of a register
abbrev pub register_tag : ℕ → Option RegisterTag
register_tag n = cond (n == 0) (Some Data) (cond (between 512 767 n) (Some (Link (n - 512))) None)
