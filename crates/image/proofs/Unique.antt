-- An image is the encoding of one header and one list of parts.
use Rattle.std.proofs.Common.{◌≡◌, ℕ, ◌+◌, ◌-◌, ◌*◌, ◌/◌, ◌^◌, ◌<◌, ◌≤◌, true, false, cond, not, ◌||◌, eqb, ◌⊎◌, List, [], ◌∷◌, ◌++◌, length, drop, Some, None, Option, sym, refl, ap, ◌∙◌, inl, inr, ⊎_elim, arith, le-ltb}
use borrow.Author.Tests.{both_ways}
use Rattle.std.specs.Option.{option_map}
use Rattle.std.specs.List.{flat_map, AllByRecursion}
use Rattle.std.proofs.ByRecursion.{All-append}
use Rattle.std.proofs.lemmas.List.{append_assoc, append-nil, drop_at, drop-drop, length-append}
use Rattle.std.proofs.lemmas.Bool.Decides.{nat_tests}
use Rattle.refusal.specs.declared.refusal.Refusal.{Refusal}
use Rattle.image.specs.declared.fault.LoadFault.TheVariants.{Judged, Read}
use Rattle.image.specs.declared.section.part.Header.{Header}
use Rattle.image.specs.Bytes.{Bytes, bytes_of, field}
use Rattle.image.specs.Content.{words_in}
use Rattle.image.specs.Judgement.{header_refusal, part_refusal, section_fault}
use Rattle.image.specs.Part.{Part, words, tags, names, note, Fits, Label, LabelFits, HeaderFits, header_section, is_name, label_section, labels_framed, no_name, part_framed, part_section}
use Rattle.image.specs.Section.{Section, Proper, behind_first, first_section, framed, missing}
use Rattle.image.proofs.Judgements.{header_fine, note_fine, tags_fine, words_fine}
use Rattle.image.proofs.NameLists.{label_in}
use Rattle.image.proofs.Numbers.{bytes_bytes_of, field_at, length_bytes_of}
use Rattle.image.proofs.Sections.{behind_framed, first_framed, whole_framed}

pub framed_same : (s t : Section) (v w : List ℕ) → Proper s → Proper t → framed s ++ v ≡ framed t ++ w → (s ≡ t) × (v ≡ w)
framed_same s t v w p q e =
    (sym (first_framed s v p) ∙ ap first_section e ∙ first_framed t w q, sym (behind_framed s v p) ∙ ap behind_first e ∙ behind_framed t w q)

framed_bytes : (s : Section) → Proper s → Bytes (framed s)
framed_bytes s p =
    All-append _ (bytes_of 4 (length s.body)) (bytes_of 2 s.kind ++ s.body) (bytes_bytes_of 4 (length s.body))
    (All-append _ (bytes_of 2 s.kind) s.body (bytes_bytes_of 2 s.kind) p.bytes)

-- bytes that begin with a section are faulty if it is refused
fault_framed : (refusal : Section → Option Refusal) (place : ℕ) (s : Section) (w : List ℕ) → Proper s
    → section_fault refusal place (framed s ++ w) ≡ option_map (λ number. Judged number place) (refusal s)
fault_framed refusal place s w p =
    let bytes = framed s ++ w in
    ap (λ b. cond b (Some (Read (missing place bytes))) (option_map (λ number. Judged number place) (refusal (first_section bytes)))) (whole_framed s w p)
    ∙ ap (λ x. option_map (λ number. Judged number place) (refusal x)) (first_framed s w p)

-- the words of a body
length_joined : (values : List ℕ) → length (flat_map (bytes_of 4) values) ≡ 4 * length values
length_joined [] = refl
length_joined (value ∷ values) = length-append (bytes_of 4 value) (flat_map (bytes_of 4) values) ∙ let l = length_bytes_of 4 value in let m = length_joined values in omega arith

bytes_joined : (values : List ℕ) → Bytes (flat_map (bytes_of 4) values)
bytes_joined [] = tt
bytes_joined (value ∷ values) = All-append _ (bytes_of 4 value) (flat_map (bytes_of 4) values) (bytes_bytes_of 4 value) (bytes_joined values)

words_back : (values : List ℕ) → AllByRecursion (λ value. value < 2 ^ 32) values → words_in (length values) (flat_map (bytes_of 4) values) ≡ values
unfolding words_in
words_back [] h = refl
words_back (value ∷ values) h =
    rw (field_at 4 value [] (flat_map (bytes_of 4) values) h.0, drop_at (bytes_of 4 value) (flat_map (bytes_of 4) values) 4 (length_bytes_of 4 value), words_back values h.1)

-- a field behind another
field_behind : (k m n : ℕ) (xs ys : List ℕ) → length xs ≡ m → n < 256 ^ k → field k m (xs ++ (bytes_of k n ++ ys)) ≡ n
field_behind k m n xs ys long h = let e = field_at k n xs ys h in rw long at e

-- the body of a header, or of tags
module _ (a b t : ℕ) where
  abbrev three : List ℕ
  three = bytes_of 2 a ++ (bytes_of 2 b ++ bytes_of 4 t)

  three_length : length three ≡ 8
  three_length = simp (length-append, length_bytes_of)

  three_bytes : Bytes three
  three_bytes = All-append _ (bytes_of 2 a) (bytes_of 2 b ++ bytes_of 4 t) (bytes_bytes_of 2 a) (All-append _ (bytes_of 2 b) (bytes_of 4 t) (bytes_bytes_of 2 b) (bytes_bytes_of 4 t))

  three_first : a < 2 ^ 16 → field 2 0 three ≡ a
  three_first h = field_at 2 a [] (bytes_of 2 b ++ bytes_of 4 t) h

  three_second : b < 2 ^ 16 → field 2 2 three ≡ b
  three_second h = field_behind 2 2 b (bytes_of 2 a) (bytes_of 4 t) (length_bytes_of 2 a) h

  three_third : t < 2 ^ 32 → field 4 4 three ≡ t
  three_third h =
      let e = field_behind 4 4 t (bytes_of 2 a ++ bytes_of 2 b) [] (simp (length-append, length_bytes_of)) h in
      rw (append_assoc, append-nil) at e

-- the body of words
module _ (a t : ℕ) (values : List ℕ) where
  abbrev two : List ℕ
  two = bytes_of 2 a ++ (bytes_of 4 t ++ flat_map (bytes_of 4) values)

  two_length : length two ≡ 4 * length values + 6
  two_length = simp (length-append, length_bytes_of) (let l = length_joined values in omega arith)

  two_bytes : Bytes two
  two_bytes = All-append _ (bytes_of 2 a) (bytes_of 4 t ++ flat_map (bytes_of 4) values) (bytes_bytes_of 2 a) (All-append _ (bytes_of 4 t) (flat_map (bytes_of 4) values) (bytes_bytes_of 4 t) (bytes_joined values))

  two_first : a < 2 ^ 16 → field 2 0 two ≡ a
  two_first h = field_at 2 a [] (bytes_of 4 t ++ flat_map (bytes_of 4) values) h

  two_second : t < 2 ^ 32 → field 4 2 two ≡ t
  two_second h = field_behind 4 2 t (bytes_of 2 a) (flat_map (bytes_of 4) values) (length_bytes_of 2 a) h

  two_rest : drop 6 two ≡ flat_map (bytes_of 4) values
  two_rest =
      sym (drop-drop 4 2 two) ∙ ap (drop 4) (drop_at (bytes_of 2 a) (bytes_of 4 t ++ flat_map (bytes_of 4) values) 2 (length_bytes_of 2 a))
      ∙ drop_at (bytes_of 4 t) (flat_map (bytes_of 4) values) 4 (length_bytes_of 4 t)

  two_count : (length two - 6) / 4 ≡ length values
  two_count = let l = two_length in omega arith

-- what a section says that is no name list
abbrev plain_part : Section → Part
plain_part s = cond (eqb s.kind 2) (words (field 2 0 s.body) (field 4 2 s.body) (words_in ((length s.body - 6) / 4) (drop 6 s.body)))
    (cond (eqb s.kind 3) (tags (field 2 0 s.body) (field 2 2 s.body) (field 4 4 s.body)) (note s.kind s.body))

words_again : (a t : ℕ) (values : List ℕ) → a < 2 ^ 16 → t < 2 ^ 32 → AllByRecursion (λ value. value < 2 ^ 32) values → plain_part (part_section (words a t values)) ≡ words a t values
words_again a t values a< t< small = rw (two_first a t values a<, two_second a t values t<, two_count a t values, two_rest a t values, words_back values small)

tags_again : (a n t : ℕ) → a < 2 ^ 16 → n < 2 ^ 16 → t < 2 ^ 32 → plain_part (part_section (tags a n t)) ≡ tags a n t
tags_again a n t a< n< t< = rw (three_first a n t a<, three_second a n t n<, three_third a n t t<)

note_again : (kind : ℕ) (body : List ℕ) → 32768 ≤ kind → plain_part (part_section (note kind body)) ≡ note kind body
note_again kind body h = grind (arith, nat_tests)

-- some parts with something behind them, of which others, with something else behind them, are a longer reading
pub record Further (size : ℕ) (ps : List Part) (v : List ℕ) (qs : List Part) (w : List ℕ) : Type 0 where
  pub more : List Part
  pub all : qs ≡ ps ++ more
  pub left : v ≡ flat_map part_framed more ++ w
  pub fits : AllByRecursion (Fits size) more

after : {size : ℕ} (p q : Part) (ps : List Part) (v : List ℕ) (qs : List Part) (w : List ℕ) → p ≡ q → Further size ps v qs w → Further size (p ∷ ps) v (q ∷ qs) w
after p q ps v qs w here x = let all = x.all in record { more = x.more; all = cc (here, all); left = x.left; fits = x.fits }

-- for a memory whose addresses fit two bytes
module _ (size : ℕ) (small : size < 2 ^ 16) where
  proper_label : (label : Label) → LabelFits size label → Proper (label_section label)
  proper_label label fits =
      let few = fits.few in
      record {
        kind = omega arith;
        size = simp (length-append, length_bytes_of) (omega arith);
        bytes = All-append _ (bytes_of 2 label.address) label.text (bytes_bytes_of 2 label.address) fits.bytes;
      }

  label_again : (label : Label) → LabelFits size label → label_in (label_section label) ≡ label
  label_again label fits =
      let there = fits.there in
      rw (field_at 2 label.address [] label.text (omega arith), drop_at (bytes_of 2 label.address) label.text 2 (length_bytes_of 2 label.address))

  is_name_label : (label : Label) → LabelFits size label → is_name size (label_section label) ≡ true
  is_name_label label fits =
      let there = fits.there in
      let few = fits.few in
      let some = fits.some in
      let address = field_at 2 label.address [] label.text (omega arith) in
      let long : length (bytes_of 2 label.address ++ label.text) ≡ 2 + length label.text = simp (length-append, length_bytes_of) in
      rw (address, long) (grind (arith, nat_tests))

  -- a name is a name
  named : (label : Label) (w : List ℕ) → LabelFits size label → no_name size (framed (label_section label) ++ w) ≡ true → ⊥
  named label w fits none =
      let p = proper_label label fits in
      let bytes = framed (label_section label) ++ w in
      let e : no_name size (framed (label_section label) ++ w) ≡ false = ap (λ b. b || not (is_name size (first_section bytes))) (whole_framed (label_section label) w p)
      ∙ ap (λ s. not (is_name size s)) (first_framed (label_section label) w p) ∙ ap not (is_name_label label fits) in
      both_ways (no_name size bytes) e none

  labels_same : (ls ms : List Label) (v w : List ℕ) → AllByRecursion (LabelFits size) ls → AllByRecursion (LabelFits size) ms → no_name size v ≡ true → no_name size w ≡ true
      → labels_framed ls ++ v ≡ labels_framed ms ++ w → (ls ≡ ms) × (v ≡ w)
  labels_same [] [] v w f g n o e = (refl, e)
  labels_same [] (m ∷ ms) v w f g n o e = absurd (named m (labels_framed ms ++ w) g.0 (rw (e ∙ append_assoc (framed (label_section m)) (labels_framed ms) w) at n))
  labels_same (l ∷ ls) [] v w f g n o e = absurd (named l (labels_framed ls ++ v) f.0 (rw (sym e ∙ append_assoc (framed (label_section l)) (labels_framed ls) v) at o))
  labels_same (l ∷ ls) (m ∷ ms) v w f g n o e =
      let same = framed_same (label_section l) (label_section m) (labels_framed ls ++ v) (labels_framed ms ++ w) (proper_label l f.0) (proper_label m g.0)
      (sym (append_assoc (framed (label_section l)) (labels_framed ls) v) ∙ e ∙ append_assoc (framed (label_section m)) (labels_framed ms) w) in
      let here : l ≡ m = sym (label_again l f.0) ∙ ap label_in same.0 ∙ label_again m g.0 in
      let rest = labels_same ls ms v w f.1 g.1 n o same.1 in
      (cc (here, rest.0), rest.1)

  pub proper_part : (part : Part) → Fits size part → Proper (part_section part)
  proper_part (words a t values) fits =
      let long = two_length a t values in
      let reach = fits.0 in
      record { kind = omega arith; size = omega arith; bytes = two_bytes a t values }
  proper_part (tags a n t) fits = let long = three_length a n t in record { kind = omega arith; size = omega arith; bytes = three_bytes a n t }
  proper_part (names labels rest) fits = record {
    kind = omega arith;
    size = fits.3;
    bytes = All-append _ (labels_framed labels) rest (labels_bytes labels fits.0) fits.2;
  }
    where
      labels_bytes : (ls : List Label) → AllByRecursion (LabelFits size) ls → Bytes (labels_framed ls)
      labels_bytes [] f = tt
      labels_bytes (l ∷ ls) f = All-append _ (framed (label_section l)) (labels_framed ls) (framed_bytes (label_section l) (proper_label l f.0)) (labels_bytes ls f.1)
  proper_part (note kind body) fits = record { kind = fits.1; size = fits.4; bytes = fits.3 }

  -- two parts with the same bytes
  plain_same : (p : Part) → ((part_section p).kind ≡ 32769 → ⊥) → plain_part (part_section p) ≡ p → (q : Part) → Fits size q → part_section p ≡ part_section q → p ≡ q
  plain_same p other again (words a t values) fits e = sym again ∙ ap plain_part e ∙ words_again a t values fits.2 fits.3 fits.4
  plain_same p other again (tags a n t) fits e = sym again ∙ ap plain_part e ∙ tags_again a n t fits.1 fits.2 fits.3
  plain_same p other again (names labels rest) fits e = absurd (other (ap (λ s. s.kind) e))
  plain_same p other again (note kind body) fits e = sym again ∙ ap plain_part e ∙ note_again kind body fits.0

  list_same : (ls : List Label) (v : List ℕ) → Fits size (names ls v) → (q : Part) → Fits size q → part_section (names ls v) ≡ part_section q → names ls v ≡ q
  list_same ls v f (words a t values) g e = absurd (let k : 32769 ≡ 2 = ap (λ s. s.kind) e in omega arith)
  list_same ls v f (tags a n t) g e = absurd (let k : 32769 ≡ 3 = ap (λ s. s.kind) e in omega arith)
  list_same ls v f (names ms w) g e = let same = labels_same ls ms v w f.0 g.0 f.1 g.1 (ap (λ s. s.body) e) in cc (same.0, same.1)
  list_same ls v f (note kind body) g e = absurd (g.2 (sym (ap (λ s. s.kind) e)))

  pub part_same : (p q : Part) → Fits size p → Fits size q → part_section p ≡ part_section q → p ≡ q
  part_same (words a t values) q f g e = plain_same (words a t values) (λ k. omega arith) (words_again a t values f.2 f.3 f.4) q g e
  part_same (tags a n t) q f g e = plain_same (tags a n t) (λ k. omega arith) (tags_again a n t f.1 f.2 f.3) q g e
  part_same (names ls v) q f g e = list_same ls v f q g e
  part_same (note kind body) q f g e = plain_same (note kind body) f.2 (note_again kind body f.0) q g e

  -- bytes that begin with some parts, and with others: the ones are the first of the others
  pub parts_same : (ps qs : List Part) (v w : List ℕ) → AllByRecursion (Fits size) ps → AllByRecursion (Fits size) qs → flat_map part_framed ps ++ v ≡ flat_map part_framed qs ++ w
      → Further size ps v qs w ⊎ Further size qs w ps v
  parts_same [] qs v w f g e = inl (record { more = qs; all = refl; left = e; fits = g })
  parts_same (p ∷ ps) [] v w f g e = inr (record { more = p ∷ ps; all = refl; left = sym e; fits = f })
  parts_same (p ∷ ps) (q ∷ qs) v w f g e =
      let same = framed_same (part_section p) (part_section q) (flat_map part_framed ps ++ v) (flat_map part_framed qs ++ w) (proper_part p f.0) (proper_part q g.0)
      (sym (append_assoc (part_framed p) (flat_map part_framed ps) v) ∙ e ∙ append_assoc (part_framed q) (flat_map part_framed qs) w) in
      let here = part_same p q f.0 g.0 same.0 in
      ⊎_elim (λ x. inl (after p q ps v qs w here x)) (λ x. inr (after q p qs w ps v (sym here) x)) (parts_same ps qs v w f.1 g.1 same.1)

  -- a part that fits is not refused
  part_taken : (p : Part) → Fits size p → part_refusal size (part_section p) ≡ None
  part_taken (words a t values) f =
      let s = part_section (words a t values) in
      let long = two_length a t values in
      let first = two_first a t values f.2 in
      let count = two_count a t values in
      let reach = f.0 in
      let some = f.1 in
      words_fine size s refl (rw long (grind (arith, nat_tests))) (rw (first, count) (le-ltb size (a + length values) reach))
  part_taken (tags a n t) f =
      let s = part_section (tags a n t) in
      tags_fine size s refl (three_length a n t) (rw (three_first a n t f.1, three_second a n t f.2) (le-ltb size (a + n) f.0))
  part_taken (names labels rest) f = note_fine size (part_section (names labels rest)) (omega arith)
  part_taken (note kind body) f = note_fine size (part_section (note kind body)) f.0

  pub section_taken : (p : Part) (place : ℕ) (w : List ℕ) → Fits size p → section_fault (part_refusal size) place (part_framed p ++ w) ≡ None
  section_taken p place w f = fault_framed (part_refusal size) place (part_section p) w (proper_part p f) ∙ ap (option_map (λ number. Judged number place)) (part_taken p f)

  proper_header : (h : Header) → HeaderFits size h → Proper (header_section h)
  proper_header h f = let long = three_length h.cells h.start h.tag in record { kind = omega arith; size = omega arith; bytes = three_bytes h.cells h.start h.tag }

  -- the same of the header
  pub header_same : (h k : Header) (v w : List ℕ) → HeaderFits size h → HeaderFits size k → framed (header_section h) ++ v ≡ framed (header_section k) ++ w → (h ≡ k) × (v ≡ w)
  header_same h k v w f g e =
      let same = framed_same (header_section h) (header_section k) v w (proper_header h f) (proper_header k g) e in
      let body = ap (λ s. s.body) same.0 in
      let cells = f.cells ∙ sym g.cells in
      let h< = f.start in
      let k< = g.start in
      let start : h.start ≡ k.start = sym (three_second h.cells h.start h.tag (omega arith)) ∙ ap (field 2 2) body ∙ three_second k.cells k.start k.tag (omega arith) in
      let tag : h.tag ≡ k.tag = sym (three_third h.cells h.start h.tag f.tag) ∙ ap (field 4 4) body ∙ three_third k.cells k.start k.tag g.tag in
      let all : h ≡ k = ap (λ x. record { cells = x; start = h.start; tag = h.tag }) cells ∙ ap (λ x. record { cells = k.cells; start = x; tag = h.tag }) start
      ∙ ap (λ x. record { cells = k.cells; start = k.start; tag = x }) tag in
      (all, same.1)

  pub header_taken : (h : Header) (w : List ℕ) → HeaderFits size h → section_fault (header_refusal size) 0 (framed (header_section h) ++ w) ≡ None
  header_taken h w f =
      let cells = f.cells in
      let start = f.start in
      fault_framed (header_refusal size) 0 (header_section h) w (proper_header h f)
      ∙ ap (option_map (λ number. Judged number 0))
      (header_fine size (header_section h) refl (three_length h.cells h.start h.tag)
      (rw (three_first h.cells h.start h.tag (omega arith), three_second h.cells h.start h.tag (omega arith)) (grind (arith, nat_tests))))
