-- What reading the next section gives, and what it leaves of the reader.
use Rattle.std.specs.Prelude.{◌≡◌, ℕ, ◌+◌, ◌^◌, ◌<◌, ◌≤◌, true, false, List, length}
use Rattle.image.specs.declared.fault.ReadFault.{ReadFault}
use Rattle.image.specs.declared.section.Reader.{Reader}
use Rattle.image.specs.declared.section.Span.{Span}
use Rattle.image.specs.Bytes.{Bytes}
use Rattle.image.specs.Section.{behind_first, cut_short, first_section, marked, missing, window}

-- what the reader has before it lies in the image
pub record Within (reader : Reader) (image : List ℕ) : Type 0 where
  pub before : reader.place ≤ reader.end
  pub inside : reader.end ≤ length image

-- a section that lies in the image, with a length of 32 bits
pub record Lies (span : Span) (image : List ℕ) : Type 0 where
  pub fits : span.place + 6 + span.length ≤ length image
  pub short : span.length < 2 ^ 32

-- a section was read
pub record Opened (image : List ℕ) (before after : Reader) (span : Span) : Type 0 where
  pub whole : cut_short (window before image) ≡ false
  pub bytes : Bytes image
  pub place : span.place ≡ before.place
  pub lies : Lies span image
  pub fits : span.place + 6 + span.length ≤ before.end
  pub marks : marked image span ≡ first_section (window before image)
  pub behind : window after image ≡ behind_first (window before image)
  pub next : after ≡ record { place = span.place + 6 + span.length; end = before.end }

-- it was cut short
pub record Missed (image : List ℕ) (before after : Reader) (fault : ReadFault) : Type 0 where
  pub cut : cut_short (window before image) ≡ true
  pub told : fault ≡ missing before.place (window before image)
  pub stays : after ≡ before
