-- An input is loaded as an image, and run.
use Rattle.std.specs.Prelude.{◌≡◌, ℕ, ◌<◌, ◌≤◌, cond, List, length, Ok, Err, Result, nat_le}
use Rattle.refusal.specs.declared.refusal.Refusal.TheVariants.{CutShort}
use Rattle.machine.specs.declared.cell.Cell.{Cell}
use Rattle.machine.specs.declared.records.Record.{Record}
use Rattle.machine.specs.declared.state.Ran.{Ran}
use Rattle.machine.specs.RunCall.{RunCall}
use Rattle.machine.specs.Step.{Meaning}
use Rattle.image.specs.declared.fault.LoadFault.{LoadFault}
use Rattle.image.specs.declared.fault.LoadFault.TheVariants.{Judged}
use Rattle.image.specs.declared.name.Name.{Name}
use Rattle.image.specs.declared.section.part.list.loading.Loaded.{Loaded}
use Rattle.image.specs.Loading.{Loads, WhyRefused}

-- of an input of so many bytes
abbrev pub admittance : ℕ → Result Unit LoadFault
admittance size = cond (nat_le size 32768) (Ok tt) (Err (Judged CutShort 32768))

-- the image was loaded, and what stood there then was run
pub record RunsImage (μ : Meaning) (image : List ℕ) (size : ℕ) (names_before name_room_before : List Name) (elements_before room_before : List Record)
    (ran : Ran) (cells_after registers_after : List Cell) (names_after name_room_after : List Name) (elements_after room_after : List Record) : Type 0 where
  pub short : length image ≤ 32768
  pub loaded : Loaded
  pub cells : List Cell
  pub registers : List Cell
  pub loads : Loads image size names_before name_room_before loaded cells registers names_after name_room_after
  pub runs : RunCall μ loaded.live cells registers 100000 elements_before room_before (Ok ran) cells_after registers_after elements_after room_after

-- the input is too long, or its image is refused
pub data NotRun (image : List ℕ) (cells registers : List Cell) (free : ℕ) (fault : LoadFault) : Type 0 where
  too_long : 32768 < length image → fault ≡ Judged CutShort 32768 → NotRun image cells registers free fault
  refused : length image ≤ 32768 → WhyRefused image cells registers free fault → NotRun image cells registers free fault

-- and everything is as it was
pub record Unrun (image : List ℕ) (cells_before registers_before : List Cell) (names_before name_room_before : List Name) (elements_before room_before : List Record)
    (fault : LoadFault) (cells_after registers_after : List Cell) (names_after name_room_after : List Name) (elements_after room_after : List Record) : Type 0 where
  pub why : NotRun image cells_before registers_before (length name_room_before) fault
  pub cells : cells_after ≡ cells_before
  pub registers : registers_after ≡ registers_before
  pub names : names_after ≡ names_before
  pub name_room : name_room_after ≡ name_room_before
  pub elements : elements_after ≡ elements_before
  pub room : room_after ≡ room_before
