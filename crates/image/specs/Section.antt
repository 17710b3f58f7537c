-- Sections: a length, a kind and a body of that length.
use Rattle.std.specs.Prelude.{ℕ, ◌+◌, ◌-◌, ◌^◌, ◌<◌, Bool, cond, ◌||◌, List, ◌++◌, length, take, drop, nat_lt}
use Rattle.std.specs.List.{flat_map}
use Rattle.image.specs.declared.fault.ReadFault.{ReadFault}
use Rattle.image.specs.declared.section.Reader.{Reader}
use Rattle.image.specs.declared.section.Span.{Span}
use Rattle.image.specs.Bytes.{Bytes, bytes_of, field}

pub record Section : Type 0 where
  pub kind : ℕ
  pub body : List ℕ

-- the bytes of a section: 4 for the length of its body, 2 for its kind, then the body
abbrev pub framed : Section → List ℕ
framed section = bytes_of 4 (length section.body) ++ (bytes_of 2 section.kind ++ section.body)

abbrev pub all_framed : List Section → List ℕ
all_framed sections = flat_map framed sections

-- the numbers of its head fit their bytes
pub record Proper (section : Section) : Type 0 where
  pub kind : section.kind < 2 ^ 16
  pub size : length section.body < 2 ^ 32
  pub bytes : Bytes section.body

-- the bytes end within the head or the body of the section that they begin with
abbrev pub cut_short : List ℕ → Bool
cut_short bytes = nat_lt (length bytes) 6 || nat_lt (length bytes) (6 + field 4 0 bytes)

-- the section that the bytes begin with, if they are not cut short, and what stands behind it
abbrev pub first_section : List ℕ → Section
first_section bytes = record { kind = field 2 4 bytes; body = take (field 4 0 bytes) (drop 6 bytes) }

abbrev pub behind_first : List ℕ → List ℕ
behind_first bytes = drop (6 + field 4 0 bytes) bytes

-- what a reader misses, and where, if the bytes from a place on are cut short
abbrev pub missing : ℕ → List ℕ → ReadFault
missing place bytes = cond (nat_lt (length bytes) 6)
    (record { section = place; place = place; wanted = 6 })
    (record { section = place; place = place + 6; wanted = field 4 0 bytes })

-- what a reader has before it
abbrev pub window : Reader → List ℕ → List ℕ
window reader image = take (reader.end - reader.place) (drop reader.place image)

-- the section that a span marks in an image
abbrev pub marked : List ℕ → Span → Section
marked image span = record { kind = span.kind; body = take span.length (drop (span.place + 6) image) }
