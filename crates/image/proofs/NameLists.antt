-- Records of name lists, and the names in them.
use Rattle.std.proofs.Common.{◌≡◌, ℕ, suc, ◌+◌, ◌-◌, ◌<◌, ◌≤◌, Bool, true, false, cond, ◌&&◌, eqb, leb, List, [], ◌∷◌, ◌++◌, length, take, drop, sym, refl, ap, ◌∙◌, add-zero, add_assoc, arith, eqb-true}
use borrow.Author.Tests.{eqb-false}
use Rattle.std.specs.List.{AllByRecursion}
use Rattle.std.proofs.ByRecursion.{All-drop, All-push, All-take}
use Rattle.std.proofs.lemmas.List.{append_assoc, append-nil, drop-drop, flat_map_more, length-append, length-drop, length_push, take_all, take-append-le}
use Rattle.std.proofs.lemmas.Bool.Decides.{nat_tests}
use Rattle.image.specs.declared.name.Name.{Name}
use Rattle.image.specs.declared.section.Reader.{Reader}
use Rattle.image.specs.declared.section.Span.{Span}
use Rattle.image.specs.Bytes.{Bytes, field}
use Rattle.image.specs.Names.{Named, name_of, names_from}
use Rattle.image.specs.Part.{Label, LabelFits, label_section, labels_framed}
use Rattle.image.specs.Reading.{Opened, Within}
use Rattle.image.specs.Section.{Section, behind_first, framed, marked, window}
use Rattle.image.proofs.Contents.{body_bytes, body_length}
use Rattle.image.proofs.Numbers.{field_split, length_bytes_of}
use Rattle.image.proofs.Sections.{framed_first}

-- the name in a section that holds one
abbrev pub label_in : Section → Label
label_in section = record { address = field 2 0 section.body; text = drop 2 section.body }

pub label_is : (s : Section) → s.kind ≡ 1 → 2 ≤ length s.body → Bytes s.body → label_section (label_in s) ≡ s
label_is s kind long bytes = rw (← kind, field_split 2 s.body long bytes)

module _ (size : ℕ) (image : List ℕ) (before after : Reader) (span : Span) (opened : Opened image before after span) where
  pub window_bytes : Bytes (window before image)
  window_bytes = All-take _ (before.end - before.place) (drop before.place image) (All-drop _ before.place image opened.bytes)

  -- the section, and what the reader then has before it
  pub section_split : window before image ≡ framed (marked image span) ++ window after image
  section_split =
      sym (framed_first (window before image) opened.whole window_bytes)
      ∙ ap (λ s. framed s ++ behind_first (window before image)) (sym opened.marks)
      ∙ ap (λ rest. framed (marked image span) ++ rest) (sym opened.behind)

  pub named : Within before image → (address : ℕ) → address ≡ field 2 0 (marked image span).body → (eqb span.kind 1 && (leb 3 span.length && leb span.length 34)) ≡ true → address < size
      → Named size image before after (record { address = address; place = span.place + 6 + 2; length = span.length - 2 })
  named within address is held there =
      let kind : span.kind ≡ 1 = grind (arith, nat_tests) in
      let low : 3 ≤ span.length = grind (arith, nat_tests) in
      let high : span.length ≤ 34 = grind (arith, nat_tests) in
      let lies = opened.lies.fits in
      let here : field 2 0 (marked image span).body ≡ address = sym is in
      let long = body_length image span lies in
      let bytes = body_bytes image span opened.bytes in
      let text : length (drop 2 (marked image span).body) ≡ span.length - 2 = rw (length-drop, long) in
      let at = opened.place in
      let further : span.place + 6 + span.length ≡ before.place + 8 + length (drop 2 (marked image span).body) = omega arith in
      record {
        label = label_in (marked image span);
        fits = record { there = rw here there; some = rw text (omega arith); few = rw text (omega arith); bytes = All-drop _ 2 (marked image span).body bytes };
        bytes = section_split ∙ ap (λ s. framed s ++ window after image) (sym (label_is (marked image span) kind (rw long (omega arith)) bytes));
        told = rw (here, text, at) (ap (λ p. record { address = address; place = p; length = span.length - 2 }) (add_assoc before.place 6 2));
        next = opened.next ∙ ap (λ p. record { place = p; end = before.end }) further;
        within = rw opened.next (record { before = opened.fits; inside = within.inside });
      }

-- names whose records stand behind others
pub length_names_from : (place : ℕ) (labels : List Label) → length (names_from place labels) ≡ length labels
unfolding names_from
length_names_from place [] = refl
length_names_from place (label ∷ labels) = ap suc (length_names_from (place + 8 + length label.text) labels)

pub length_label : (label : Label) → length (framed (label_section label)) ≡ 8 + length label.text
length_label label = simp (length-append, length_bytes_of) (omega arith)

pub names_push : (place : ℕ) (labels : List Label) (label : Label)
    → names_from place (labels ++ label ∷ []) ≡ names_from place labels ++ name_of (place + length (labels_framed labels)) label ∷ []
unfolding names_from
names_push place [] label = ap (λ p. name_of p label ∷ []) (sym (add-zero place))
names_push place (first ∷ labels) label =
    let long = length_label first in
    let e : place + 8 + length first.text + length (labels_framed labels) ≡ place + length (labels_framed (first ∷ labels)) = rw length-append (omega arith) in
    ap (λ ns. name_of place first ∷ ns) (names_push (place + 8 + length first.text) labels label ∙ ap (λ p. names_from (place + 8 + length first.text) labels ++ name_of p label ∷ []) e)

-- offered to a journal that has taken as many as it could, one name more is taken if there is a place left
offer_more : (before room names : List Name) (name : Name)
    → cond (eqb (length (drop (length names) room)) 0) (before ++ take (length room) names) ((before ++ take (length room) names) ++ name ∷ [])
    ≡ before ++ take (length room) (names ++ name ∷ [])
offer_more before room names name = go (eqb (length (drop (length names) room)) 0) refl
  where
    left : length (drop (length names) room) ≡ length room - length names
    left = length-drop (length names) room

    go : (t : Bool) → eqb (length (drop (length names) room)) 0 ≡ t
        → cond t (before ++ take (length room) names) ((before ++ take (length room) names) ++ name ∷ []) ≡ before ++ take (length room) (names ++ name ∷ [])
    go true e = let l = left in let none = eqb-true (length (drop (length names) room)) 0 e in ap (λ ns. before ++ ns) (sym (take-append-le (length room) names (name ∷ []) (omega arith)))
    go false e =
        let l = left in
        let some = eqb-false (length (drop (length names) room)) 0 e in
        rw (take_all (length room) names (omega arith), take_all (length room) (names ++ name ∷ []) (rw length_push (omega arith))) (append_assoc before names (name ∷ []))

-- what is known while a list is read
pub record Progress (size : ℕ) (image : List ℕ) (start reader : Reader) (elements_before room_before elements_now room_now : List Name) (met : ℕ) : Type 0 where
  pub labels : List Label
  pub fits : AllByRecursion (LabelFits size) labels
  pub split : window start image ≡ labels_framed labels ++ window reader image
  pub number : met ≡ length labels
  pub elements : elements_now ≡ elements_before ++ take (length room_before) (names_from start.place labels)
  pub room : room_now ≡ drop (length labels) room_before
  pub place : reader.place ≡ start.place + length (labels_framed labels)
  pub end : reader.end ≡ start.end
  pub within : Within reader image
  pub few : met ≤ reader.place

module _ (size : ℕ) (image : List ℕ) (start : Reader) (elements_before room_before : List Name) where
  pub progress_none : Within start image → Progress size image start start elements_before room_before elements_before room_before 0
  unfolding names_from
  progress_none within = record {
    labels = [];
    fits = tt;
    split = refl;
    number = refl;
    elements = sym (ap (λ names. elements_before ++ names) (take_all (length room_before) [] (omega arith)) ∙ append-nil elements_before);
    room = refl;
    place = sym (add-zero start.place);
    end = refl;
    within = within;
    few = omega arith;
  }

  pub progress_more : (reader next : Reader) (elements_now room_now elements_then room_then : List Name) (met : ℕ) (name : Name)
      → Progress size image start reader elements_before room_before elements_now room_now met → Named size image reader next name
      → elements_then ≡ cond (eqb (length room_now) 0) elements_now (elements_now ++ name ∷ []) → room_then ≡ drop 1 room_now
      → Progress size image start next elements_before room_before elements_then room_then (met + 1)
  progress_more reader next elements_now room_now elements_then room_then met name so_far named es rs =
      let labels = so_far.labels in
      let label = named.label in
      let names = names_from start.place labels in
      let told : name ≡ name_of (start.place + length (labels_framed labels)) label = named.told ∙ ap (λ p. name_of p label) so_far.place in
      let pushed : names_from start.place (labels ++ label ∷ []) ≡ names ++ name ∷ [] = names_push start.place labels label ∙ ap (λ n. names ++ n ∷ []) (sym told) in
      let many = length_names_from start.place labels in
      let framed_more : labels_framed (labels ++ label ∷ []) ≡ labels_framed labels ++ framed (label_section label) = sym (flat_map_more (λ l. framed (label_section l)) [] labels label) in
      let further : next.place ≡ reader.place + 8 + length label.text = ap (λ r. r.place) named.next in
      let left = so_far.room in
      let long = length_label label in
      let at = so_far.place in
      let few = so_far.few in
      record {
        labels = labels ++ label ∷ [];
        fits = All-push (LabelFits size) labels label so_far.fits named.fits;
        split = so_far.split ∙ ap (λ w. labels_framed labels ++ w) named.bytes ∙ sym (append_assoc (labels_framed labels) (framed (label_section label)) (window next image))
            ∙ ap (λ w. w ++ window next image) (sym framed_more);
        number = ap (λ n. n + 1) so_far.number ∙ sym (length_push labels label);
        elements = es ∙ rw (so_far.elements, left, pushed, ← many) (offer_more elements_before room_before names name);
        room = rs ∙ ap (drop 1) left ∙ drop-drop 1 (length labels) room_before ∙ ap (λ n. drop n room_before) (sym (length_push labels label));
        place = rw (framed_more, length-append) (omega arith);
        end = ap (λ r. r.end) named.next ∙ so_far.end;
        within = named.within;
        few = omega arith;
      }
