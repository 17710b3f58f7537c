-- What the code has read of a section after the header.
use Rattle.std.specs.Prelude.{◌≡◌, ℕ, zero, suc, ◌+◌, ◌/◌, ◌≤◌, List, [], ◌∷◌, length, drop}
use Rattle.machine.specs.declared.cell.Cell.{Cell}
use Rattle.image.specs.declared.section.Span.{Span}
use Rattle.image.specs.declared.section.part.Content.{Content}
use Rattle.image.specs.declared.section.part.Content.TheVariants as content
use Rattle.image.specs.Bytes.{field}
use Rattle.image.specs.Part.{Part, words, tags, note, Fits, part_section}
use Rattle.image.specs.Section.{marked}
use Rattle.image.specs.Stored.{stored}

-- a number of words, four bytes each
unfoldable pub words_in : ℕ → List ℕ → List ℕ
words_in zero bytes = []
words_in (suc n) bytes = field 4 0 bytes ∷ words_in n (drop 4 bytes)

-- all words in some bytes
abbrev pub all_words : List ℕ → List ℕ
all_words bytes = words_in (length bytes / 4) bytes

-- a section is marked that stands for this part
pub record Stands (size : ℕ) (image : List ℕ) (span : Span) (part : Part) : Type 0 where
  pub bytes : marked image span ≡ part_section part
  pub fits : Fits size part

abbrev pub Says : ℕ → List ℕ → Span → Content → Type 0
Says size image span (content.Words address tag bytes) = Stands size image span (words address tag (all_words bytes.now)) × (address + length bytes.now / 4 ≤ size)
Says size image span (content.Tags address count tag) = Stands size image span (tags address count tag)
Says size image span content.Names = span.kind ≡ 32769
Says size image span content.Note = Stands size image span (note span.kind (marked image span).body)

-- what it sets is there
abbrev pub Reaches : ℕ → Content → Type 0
Reaches size (content.Words address tag bytes) = address + length bytes.now / 4 ≤ size
Reaches size (content.Tags address count tag) = address + count ≤ size
Reaches size content.Names = Unit {0}
Reaches size content.Note = Unit {0}

abbrev pub content_stored : Content → List Cell → List Cell
content_stored (content.Words address tag bytes) cells = stored (words address tag (all_words bytes.now)) cells
content_stored (content.Tags address count tag) cells = stored (tags address count tag) cells
content_stored content.Names cells = cells
content_stored content.Note cells = cells
