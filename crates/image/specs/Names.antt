-- The names of name lists, and what reading them leaves.
use Rattle.std.specs.Prelude.{◌≡◌, ℕ, ◌+◌, Bool, true, List, [], ◌∷◌, ◌++◌, length, take, drop, Ok, Err, Result, ◌==◌}
use Rattle.std.specs.List.{AllByRecursion}
use Rattle.image.specs.declared.name.Name.{Name}
use Rattle.image.specs.declared.section.Reader.{Reader}
use Rattle.image.specs.declared.section.part.list.BrokenOff.{BrokenOff}
use Rattle.image.specs.Part.{Label, LabelFits, label_section, labels_framed, no_name}
use Rattle.image.specs.Reading.{Within}
use Rattle.image.specs.Section.{framed, window}

-- the entry for a name whose record begins at a place: before its bytes stand a head and an address
abbrev pub name_of : ℕ → Label → Name
name_of place label = record { address = label.address; place = place + 8; length = length label.text }

-- the entries for names whose records stand one behind the other
unfoldable pub names_from : ℕ → List Label → List Name
names_from place [] = []
names_from place (label ∷ labels) = name_of place label ∷ names_from (place + 8 + length label.text) labels

-- how many names a list was found to hold, whether or not it breaks off
abbrev pub names_met : Result ℕ BrokenOff → ℕ
names_met (Ok met) = met
names_met (Err off) = off.names

-- a reader has read a record with a name
pub record Named (size : ℕ) (image : List ℕ) (before after : Reader) (name : Name) : Type 0 where
  pub label : Label
  pub fits : LabelFits size label
  pub bytes : window before image ≡ framed (label_section label) ++ window after image
  pub told : name ≡ name_of before.place label
  pub next : after ≡ record { place = before.place + 8 + length label.text; end = before.end }
  pub within : Within after image

-- it has met none
pub record Unnamed (size : ℕ) (image : List ℕ) (before after : Reader) : Type 0 where
  pub none : no_name size (window before image) ≡ true
  pub end : after.end ≡ before.end

-- the bytes of a list, from a place on, were read: the names that they begin with are offered to a journal in order, and
-- it has taken as many as it had places for; whole says that nothing stands behind them
pub record Lists (size place : ℕ) (bytes : List ℕ) (elements_before room_before elements_after room_after : List Name) (met : ℕ) (whole : Bool) : Type 0 where
  pub labels : List Label
  pub rest : List ℕ
  pub split : bytes ≡ labels_framed labels ++ rest
  pub fits : AllByRecursion (LabelFits size) labels
  pub ends : no_name size rest ≡ true
  pub all : whole ≡ (length rest == 0)
  pub number : met ≡ length labels
  pub elements : elements_after ≡ elements_before ++ take (length room_before) (names_from place labels)
  pub room : room_after ≡ drop (length labels) room_before
