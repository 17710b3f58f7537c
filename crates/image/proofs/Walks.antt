-- Going through the sections of an image, one after the other.
use Rattle.std.proofs.Common.{◌≡◌, ℕ, zero, suc, ◌+◌, ◌-◌, ◌<◌, ◌≤◌, Bool, true, false, cond, List, [], ◌∷◌, ◌++◌, length, take, drop, Some, sym, refl, ap, ◌∙◌, add-zero, add_assoc, arith}
use Rattle.std.specs.List.{flat_map}
use Rattle.std.proofs.ByRecursion.{All-push}
use Rattle.std.proofs.lemmas.List.{append_assoc, append-nil, drop-drop, flat_map_more, length-append, length-drop, take_all}
use Rattle.std.proofs.lemmas.List.Sums.{fold_push}
use Rattle.machine.specs.declared.cell.Cell.{Cell}
use Rattle.image.specs.declared.fault.LoadFault.{LoadFault}
use Rattle.image.specs.declared.name.Name.{Name}
use Rattle.image.specs.declared.section.Reader.{Reader}
use Rattle.image.specs.Judgement.{part_refusal, section_fault}
use Rattle.image.specs.Loading.{AtPart, all_names, breaks_off, broken_in, names_in}
use Rattle.image.specs.Part.{Part, Fits, part_framed, part_section}
use Rattle.image.specs.Passing.{OneRefused, OneStops, PartJudged, PartObeyed, PartsBefore, Passed}
use Rattle.image.specs.Reading.{Within}
use Rattle.image.specs.Section.{window}
use Rattle.image.specs.Stored.{all_stored, stored}
use Rattle.image.proofs.Parts.{length_framed}
use Rattle.image.proofs.Windows.{length_window}

-- the parts between where a walk started and where it stands
pub record Walked (size : ℕ) (image : List ℕ) (start reader : Reader) (parts : List Part) : Type 0 where
  pub before : PartsBefore size (window start image) parts (window reader image)
  pub place : reader.place ≡ start.place + length (flat_map part_framed parts)
  pub end : reader.end ≡ start.end
  pub within : Within reader image

framed_push : (parts : List Part) (part : Part) → flat_map part_framed (parts ++ part ∷ []) ≡ flat_map part_framed parts ++ part_framed part
framed_push parts part = sym (flat_map_more part_framed [] parts part)

pub names_append : (place : ℕ) (parts more : List Part)
    → all_names place (parts ++ more) ≡ all_names place parts ++ all_names (place + length (flat_map part_framed parts)) more
unfolding all_names
names_append place [] more = ap (λ p. all_names p more) (sym (add-zero place))
names_append place (first ∷ parts) more =
    let then = place + length (part_framed first) in
    let e : then + length (flat_map part_framed parts) ≡ place + length (flat_map part_framed (first ∷ parts)) =
    add_assoc place (length (part_framed first)) (length (flat_map part_framed parts)) ∙ ap (λ n. place + n) (sym (length-append (part_framed first) (flat_map part_framed parts))) in
    ap (λ ns. names_in place first ++ ns) (names_append then parts more)
    ∙ sym (append_assoc (names_in place first) (all_names then parts) (all_names (then + length (flat_map part_framed parts)) more))
    ∙ ap (λ p. names_in place first ++ all_names then parts ++ all_names p more) e

names_push : (place : ℕ) (parts : List Part) (part : Part)
    → all_names place (parts ++ part ∷ []) ≡ all_names place parts ++ names_in (place + length (flat_map part_framed parts)) part
unfolding all_names
names_push place parts part =
    names_append place parts (part ∷ []) ∙ ap (λ ns. all_names place parts ++ ns) (append-nil (names_in (place + length (flat_map part_framed parts)) part))

broken_push : (parts : List Part) (part : Part) → broken_in (parts ++ part ∷ []) ≡ broken_in parts + cond (breaks_off part) 1 0
unfolding broken_in
broken_push [] part = omega arith
broken_push (first ∷ parts) part = ap (λ n. cond (breaks_off first) 1 0 + n) (broken_push parts part) ∙ sym (add_assoc (cond (breaks_off first) 1 0) (broken_in parts) (cond (breaks_off part) 1 0))

-- a journal that was offered names and then more names
take_more : {A : Type 0} (n : ℕ) (xs ys : List A) → take n xs ++ take (n - length xs) ys ≡ take n (xs ++ ys)
take_more zero xs ys = let none : 0 - length xs ≡ 0 = omega arith in rw none
take_more (suc n) [] ys = let all : suc n - 0 ≡ suc n = omega arith in rw all
take_more (suc n) (x ∷ xs) ys =
    let less : suc n - suc (length xs) ≡ n - length xs = omega arith in
    rw less (ap (λ zs. x ∷ zs) (take_more n xs ys))

module _ (size : ℕ) (image : List ℕ) (start : Reader) where
  walked_none : Within start image → Walked size image start start []
  walked_none within = record { before = record { fits = tt; split = refl }; place = sym (add-zero start.place); end = refl; within = within }

  walked_more : (reader next : Reader) (parts : List Part) (part : Part) → Walked size image start reader parts → Fits size part → Passed image reader next (part_framed part)
      → Walked size image start next (parts ++ part ∷ [])
  walked_more reader next parts part so_far fits passed =
      let further : next.place ≡ reader.place + length (part_framed part) = ap (λ r. r.place) passed.next in
      let at = so_far.place in
      record {
        before = record {
          fits = All-push (Fits size) parts part so_far.before.fits fits;
          split = so_far.before.split ∙ ap (λ w. flat_map part_framed parts ++ w) passed.split ∙ sym (append_assoc (flat_map part_framed parts) (part_framed part) (window next image))
              ∙ ap (λ w. w ++ window next image) (sym (framed_push parts part));
        };
        place = rw (framed_push parts part, length-append (flat_map part_framed parts) (part_framed part)) (omega arith);
        end = ap (λ r. r.end) passed.next ∙ so_far.end;
        within = passed.within;
      }

  window_some : (reader : Reader) → Within reader image → reader.place < reader.end → 0 < length (window reader image)
  window_some reader within lt = rw (length_window reader image within) (omega arith)

-- less is left behind a part
pub fewer : (image : List ℕ) (reader next : Reader) (part : Part) → Passed image reader next (part_framed part) → reader.place < reader.end
    → next.end - next.place < reader.end - reader.place
fewer image reader next part passed some =
    let long = length_framed (part_section part) in
    let place = ap (λ r. r.place) passed.next in
    let end = ap (λ r. r.end) passed.next in
    omega arith

-- what is known while sections are judged
pub record Judging (size : ℕ) (image : List ℕ) (start reader : Reader) (free left : ℕ) : Type 0 where
  pub parts : List Part
  pub walked : Walked size image start reader parts
  pub room : free ≡ left + length (all_names start.place parts)

module _ (size : ℕ) (image : List ℕ) (start : Reader) (free : ℕ) where
  pub judging_none : Within start image → Judging size image start start free free
  unfolding all_names
  judging_none within = record { parts = []; walked = walked_none size image start within; room = omega arith }

  pub judging_more : (reader next : Reader) (left less : ℕ) → Judging size image start reader free left → PartJudged size image reader next left less → Judging size image start next free less
  judging_more reader next left less so_far judged =
      let parts = so_far.parts in
      let at = so_far.walked.place in
      let had = so_far.room in
      let has = judged.room in
      let push = names_push start.place parts judged.part ∙ ap (λ p. all_names start.place parts ++ names_in p judged.part) (sym at) in
      let long = ap length push ∙ length-append (all_names start.place parts) (names_in reader.place judged.part) in
      record {
        parts = parts ++ judged.part ∷ [];
        walked = walked_more size image start reader next parts judged.part so_far.walked judged.fits judged.passed;
        room = omega arith;
      }

  pub judging_refused : (reader : Reader) (left : ℕ) (fault : LoadFault) → Judging size image start reader free left → reader.place < reader.end
      → AtPart size left reader.place (window reader image) fault → OneRefused size image start free fault
  judging_refused reader left fault so_far more at =
      let had = so_far.room in
      let place = so_far.walked.place in
      let same : free - length (all_names start.place so_far.parts) ≡ left = omega arith in
      record {
        parts = so_far.parts;
        rest = window reader image;
        before = so_far.walked.before;
        some = window_some size image start reader so_far.walked.within more;
        room = omega arith;
        at = rw (same, ← place) at;
      }

-- what is known while they are obeyed
pub record Obeying (size : ℕ) (image : List ℕ) (start reader : Reader) (cells_before cells_now : List Cell)
    (elements_before room_before elements_now room_now : List Name) (broken : ℕ) : Type 0 where
  pub parts : List Part
  pub walked : Walked size image start reader parts
  pub cells : cells_now ≡ all_stored parts cells_before
  pub elements : elements_now ≡ elements_before ++ take (length room_before) (all_names start.place parts)
  pub room : room_now ≡ drop (length (all_names start.place parts)) room_before
  pub breaks : broken ≡ broken_in parts
  pub few : broken ≤ reader.place

module _ (size : ℕ) (image : List ℕ) (start : Reader) (cells_before : List Cell) (elements_before room_before : List Name) where
  pub obeying_none : Within start image → Obeying size image start start cells_before cells_before elements_before room_before elements_before room_before 0
  unfolding all_names broken_in
  obeying_none within = record {
    parts = [];
    walked = walked_none size image start within;
    cells = refl;
    elements = sym (ap (λ names. elements_before ++ names) (take_all {A = Name} (length room_before) [] (omega arith)) ∙ append-nil elements_before);
    room = refl;
    breaks = refl;
    few = omega arith;
  }

  pub obeying_more : (reader next : Reader) (cells_now cells_then : List Cell) (elements_now room_now elements_then room_then : List Name) (broken : ℕ) (breaks : Bool)
      → Obeying size image start reader cells_before cells_now elements_before room_before elements_now room_now broken
      → PartObeyed size image reader next cells_now cells_then elements_now room_now elements_then room_then breaks
      → Obeying size image start next cells_before cells_then elements_before room_before elements_then room_then (broken + cond breaks 1 0)
  obeying_more reader next cells_now cells_then elements_now room_now elements_then room_then broken breaks so_far obeyed =
      let parts = so_far.parts in
      let part = obeyed.part in
      let names = all_names start.place parts in
      let new = names_in reader.place part in
      let at = so_far.walked.place in
      let push : all_names start.place (parts ++ part ∷ []) ≡ names ++ new = names_push start.place parts part ∙ ap (λ p. names ++ names_in p part) (sym at) in
      let left = ap length so_far.room ∙ length-drop (length names) room_before in
      let further : next.place ≡ reader.place + length (part_framed part) = ap (λ r. r.place) obeyed.passed.next in
      let long = length_framed (part_section part) in
      let few = so_far.few in
      record {
        parts = parts ++ part ∷ [];
        walked = walked_more size image start reader next parts part so_far.walked obeyed.fits obeyed.passed;
        cells = obeyed.cells ∙ ap (stored part) so_far.cells ∙ sym (fold_push (λ before p. stored p before) cells_before parts part);
        elements = obeyed.elements ∙ rw (so_far.elements, left, append_assoc, take_more (length room_before) names new, ← push) refl;
        room = obeyed.room ∙ rw (so_far.room, drop-drop (length new) (length names) room_before, ← length-append names new, ← push) refl;
        breaks = rw (so_far.breaks, obeyed.breaks) (sym (broken_push parts part));
        few = at_most breaks (omega arith);
      }
    where
      at_most : (b : Bool) → broken + 1 ≤ next.place → broken + cond b 1 0 ≤ next.place
      at_most true h = h
      at_most false h = omega arith

  pub obeying_stops : (reader : Reader) (cells_now : List Cell) (elements_now room_now : List Name) (broken : ℕ) (fault : LoadFault)
      → Obeying size image start reader cells_before cells_now elements_before room_before elements_now room_now broken → reader.place < reader.end
      → section_fault (part_refusal size) reader.place (window reader image) ≡ Some fault → OneStops size image start fault
  obeying_stops reader cells_now elements_now room_now broken fault so_far more at =
      let place = so_far.walked.place in
      record {
        parts = so_far.parts;
        rest = window reader image;
        before = so_far.walked.before;
        some = window_some size image start reader so_far.walked.within more;
        at = rw (← place) at;
      }
