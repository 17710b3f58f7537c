-- Parts that were read.
use Rattle.std.proofs.Common.{◌≡◌, ℕ, ◌+◌, ◌-◌, ◌<◌, ◌≤◌, Bool, true, false, not, eqb, List, [], ◌++◌, length, take, drop, sym, refl, ap, ◌∙◌, subst, arith}
use Rattle.std.proofs.ByRecursion.{All-drop}
use Rattle.std.proofs.lemmas.List.{append-nil, drop_at, length-append, take_all}
use Rattle.refusal.specs.declared.refusal.Refusal.TheVariants.{NamesFull}
use Rattle.machine.specs.declared.cell.Cell.{Cell}
use Rattle.image.specs.declared.fault.LoadFault.TheVariants.{Judged}
use Rattle.image.specs.declared.name.Name.{Name}
use Rattle.image.specs.declared.section.Reader.{Reader}
use Rattle.image.specs.declared.section.Span.{Span}
use Rattle.image.specs.declared.section.part.Content.{Content}
use Rattle.image.specs.declared.section.part.Content.TheVariants as content
use Rattle.image.specs.Content.{Says, Stands, all_words, content_stored}
use Rattle.image.specs.Loading.{AtPart, crowded, breaks_off, names_in}
use Rattle.image.specs.Names.{Lists, names_from}
use Rattle.image.specs.Part.{Part, words, tags, names, note, labels_framed, part_section}
use Rattle.image.specs.Passing.{Passed, PartJudged, PartObeyed}
use Rattle.image.specs.Reading.{Opened, Within}
use Rattle.image.specs.Section.{Section, framed, marked, window}
use Rattle.image.specs.Stored.{stored}
use Rattle.image.proofs.Contents.{body_bytes, body_length}
use Rattle.image.proofs.NameLists.{length_names_from, section_split}
use Rattle.image.proofs.Numbers.{length_bytes_of}

pub length_framed : (s : Section) → length (framed s) ≡ 6 + length s.body
length_framed s = simp (length-append, length_bytes_of) (omega arith)

-- what a section other than a name list says
pub record Plain (size : ℕ) (image : List ℕ) (span : Span) (content : Content) : Type 0 where
  pub part : Part
  pub stands : Stands size image span part
  pub nameless : (place : ℕ) → names_in place part ≡ []
  pub unbroken : breaks_off part ≡ false
  pub stores : (cells : List Cell) → content_stored content cells ≡ stored part cells

pub plain : (size : ℕ) (image : List ℕ) (span : Span) (said : Content) → Says size image span said → (said ≡ content.Names → ⊥) → Plain size image span said
plain size image span (content.Words address tag bytes) says other =
    record { part = words address tag (all_words bytes.now); stands = says.0; nameless = λ _. refl; unbroken = refl; stores = λ _. refl }
plain size image span (content.Tags address count tag) says other =
    record { part = tags address count tag; stands = says; nameless = λ _. refl; unbroken = refl; stores = λ _. refl }
plain size image span content.Names says other = absurd (other refl)
plain size image span content.Note says other =
    record { part = note span.kind (marked image span).body; stands = says; nameless = λ _. refl; unbroken = refl; stores = λ _. refl }

turned : (a b : Bool) → not a ≡ b → a ≡ not b
turned true b e = ap not e
turned false b e = ap not e

-- a content that is a name list
pub list_kind : (size : ℕ) (image : List ℕ) (span : Span) (said : Content) → said ≡ content.Names → Says size image span said → span.kind ≡ 32769
list_kind size image span said is says = subst (Says size image span) is says

pub list_cells : (said : Content) (cells : List Cell) → said ≡ content.Names → content_stored said cells ≡ cells
list_cells said cells is = ap (λ x. content_stored x cells) is

module _ (size : ℕ) (image : List ℕ) (before after : Reader) (span : Span) (opened : Opened image before after span) (within : Within before image) where
  -- a section was read, so its bytes are passed
  pub passed : (s : Section) → marked image span ≡ s → Passed image before after (framed s)
  passed s is =
      let long : length (framed s) ≡ 6 + span.length = ap (λ x. length (framed x)) (sym is) ∙ length_framed (marked image span) ∙ ap (λ n. 6 + n) (body_length image span opened.lies.fits) in
      let at = opened.place in
      let further : span.place + 6 + span.length ≡ before.place + length (framed s) = omega arith in
      record {
        split = section_split size image before after span opened ∙ ap (λ x. framed x ++ window after image) is;
        next = opened.next ∙ ap (λ p. record { place = p; end = before.end }) further;
        within = rw opened.next (record { before = opened.fits; inside = within.inside });
      }

  -- a name list
  module _ (kind : span.kind ≡ 32769) (e₀ r₀ e₁ r₁ : List Name) (met : ℕ) (whole : Bool) (lists : Lists size (span.place + 6) (marked image span).body e₀ r₀ e₁ r₁ met whole) where
    abbrev pub list_part : Part
    list_part = names lists.labels lists.rest

    pub list_stands : Stands size image span list_part
    list_stands =
        let bytes = body_bytes image span opened.bytes in
        let long = body_length image span opened.lies.fits in
        let behind : drop (length (labels_framed lists.labels)) (marked image span).body ≡ lists.rest =
        ap (drop (length (labels_framed lists.labels))) lists.split ∙ drop_at (labels_framed lists.labels) lists.rest (length (labels_framed lists.labels)) refl in
        record {
          bytes = rw (kind, lists.split);
          fits = (lists.fits, lists.ends, rw behind at (All-drop _ (length (labels_framed lists.labels)) (marked image span).body bytes), rw (← lists.split, long) opened.lies.short);
        }

    list_names : names_in before.place list_part ≡ names_from (span.place + 6) lists.labels
    list_names = ap (λ p. names_from (p + 6) lists.labels) (sym opened.place)

    list_long : length (names_in before.place list_part) ≡ met
    list_long = length_names_from (before.place + 6) lists.labels ∙ sym lists.number

    pub list_judged : (free : ℕ) → met ≤ free → PartJudged size image before after free (free - met)
    list_judged free le =
        let long = list_long in
        record { part = list_part; fits = list_stands.fits; passed = passed (part_section list_part) list_stands.bytes; room = omega arith }

    pub list_crowded : (free : ℕ) → free < met → AtPart size free before.place (window before image) (Judged NamesFull span.place)
    list_crowded free lt =
        let long = list_long in
        crowded list_part (window after image) list_stands.fits (passed (part_section list_part) list_stands.bytes).split (omega arith) (ap (Judged NamesFull) opened.place)

    pub list_obeyed : (cells : List Cell) (broken : Bool) → whole ≡ not broken → PartObeyed size image before after cells cells e₀ r₀ e₁ r₁ broken
    list_obeyed cells broken is = record {
      part = list_part;
      fits = list_stands.fits;
      passed = passed (part_section list_part) list_stands.bytes;
      cells = refl;
      elements = lists.elements ∙ ap (λ ns. e₀ ++ take (length r₀) ns) (sym list_names);
      room = lists.room ∙ ap (λ n. drop n r₀) (sym (list_long ∙ lists.number));
      breaks = turned broken (eqb (length lists.rest) 0) (sym is ∙ lists.all);
    }

  -- any other part
  module _ (said : Content) (says : Says size image span said) (other : said ≡ content.Names → ⊥) where
    pub plain_judged : (free : ℕ) → PartJudged size image before after free free
    plain_judged free =
        let p = plain size image span said says other in
        let none = ap length (p.nameless before.place) in
        record { part = p.part; fits = p.stands.fits; passed = passed (part_section p.part) p.stands.bytes; room = omega arith }

    pub plain_obeyed : (before_cells after_cells : List Cell) (held room : List Name) → after_cells ≡ content_stored said before_cells
        → PartObeyed size image before after before_cells after_cells held room held room false
    plain_obeyed before_cells after_cells held room stores =
        let p = plain size image span said says other in
        let none = p.nameless before.place in
        record {
          part = p.part;
          fits = p.stands.fits;
          passed = passed (part_section p.part) p.stands.bytes;
          cells = stores ∙ p.stores before_cells;
          elements = sym (rw (none, take_all {A = Name} (length room) [] (omega arith)) (append-nil held));
          room = rw none;
          breaks = sym p.unbroken;
        }
