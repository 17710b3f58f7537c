-- What was loaded is what the bytes say.
use Rattle.std.proofs.Common.{◌≡◌, ℕ, ◌+◌, ◌-◌, ◌^◌, ◌<◌, ◌≤◌, true, ◌⊎◌, List, [], ◌∷◌, ◌++◌, length, take, replicate, Some, None, Option, sym, refl, ap, ◌∙◌, subst, ⊎_elim, arith}
use Rattle.std.specs.List.{flat_map, AllByRecursion}
use Rattle.std.proofs.lemmas.List.{append_assoc, append-nil, length-append, take_all}
use Rattle.machine.specs.declared.cell.Cell.{Cell}
use Rattle.machine.specs.Calls.{in_limits, start_state}
use Rattle.machine.specs.Cells.{blank}
use Rattle.image.specs.declared.fault.LoadFault.{LoadFault}
use Rattle.image.specs.declared.name.Name.{Name}
use Rattle.image.specs.declared.section.part.Header.{Header}
use Rattle.image.specs.declared.section.part.list.loading.Loaded.{Loaded}
use Rattle.image.specs.Judgement.{header_refusal, part_refusal, section_fault}
use Rattle.image.specs.Loading.{Accepts, AtPart, ImageRefused, IsImage, Loads, NoImage, Refuses, judged, crowded, at_header, at_part, all_names, image_names, names_in, without_notes}
use Rattle.image.specs.Part.{Part, words, tags, names, note, Fits, HeaderFits, header_section, image_of, part_framed, part_section}
use Rattle.image.specs.Passing.{ImageObeyed, Stops, at_first, at_later}
use Rattle.image.specs.Section.{framed}
use Rattle.image.specs.Stored.{all_stored, stored}
use Rattle.image.proofs.Images.{image_length}
use Rattle.image.proofs.Parts.{length_framed}
use Rattle.image.proofs.Unique.{Further, framed_same, header_same, header_taken, part_same, parts_same, proper_part, section_taken}
use Rattle.image.proofs.Walks.{names_append}

-- no bytes, no parts
none_left : (more : List Part) → [] ≡ flat_map part_framed more → more ≡ []
none_left [] e = refl
none_left (part ∷ more) e =
    let l = ap length e in
    let m = length-append (part_framed part) (flat_map part_framed more) in
    let n = length_framed (part_section part) in
    absurd (let z : ⊥ = omega arith in z)

names_first : (place : ℕ) (part : Part) (parts : List Part) → length (names_in place part) ≤ length (all_names place (part ∷ parts))
unfolding all_names
names_first place part parts = rw length-append (omega arith)

-- notes set no cells
unnoted : (parts : List Part) (cells : List Cell) → all_stored parts cells ≡ all_stored (without_notes parts) cells
unfolding without_notes
unnoted [] cells = refl
unnoted (words a t values ∷ parts) cells = unnoted parts (stored (words a t values) cells)
unnoted (tags a n t ∷ parts) cells = unnoted parts (stored (tags a n t) cells)
unnoted (names labels rest ∷ parts) cells = unnoted parts cells
unnoted (note kind body ∷ parts) cells = unnoted parts cells

clash : (fault : LoadFault) → ◌≡◌ {A = Option LoadFault} None (Some fault) → ⊥
clash fault e = let z : ◌≡◌ {A = ℕ} 0 1 = cc in omega arith

module _ (size : ℕ) (small : size < 2 ^ 16) (image : List ℕ) where
  -- two readings of an image: one goes further than the other
  readings : (h k : Header) (ps qs : List Part) (v w : List ℕ) → HeaderFits size h → HeaderFits size k → AllByRecursion (Fits size) ps → AllByRecursion (Fits size) qs
      → image ≡ image_of h ps ++ v → image ≡ image_of k qs ++ w → (h ≡ k) × (Further size ps v qs w ⊎ Further size qs w ps v)
  readings h k ps qs v w hs ks f g d e =
      let same = header_same size small h k (flat_map part_framed ps ++ v) (flat_map part_framed qs ++ w) hs ks
      (sym (append_assoc (framed (header_section h)) (flat_map part_framed ps) v) ∙ sym d ∙ e ∙ append_assoc (framed (header_section k)) (flat_map part_framed qs) w) in
      (same.0, parts_same size small ps qs v w f g same.1)

  whole : (h : Header) (ps : List Part) → IsImage size image h ps → image ≡ image_of h ps ++ []
  whole h ps i = i.bytes ∙ sym (append-nil (image_of h ps))

  -- nothing stands behind all bytes
  same_parts : (ps qs : List Part) → Further size ps [] qs [] → ps ≡ qs
  same_parts ps qs x =
      let empty = none_left x.more (x.left ∙ append-nil (flat_map part_framed x.more)) in
      sym (x.all ∙ ap (λ more. ps ++ more) empty ∙ append-nil ps)

  pub images_same : (h k : Header) (ps qs : List Part) → IsImage size image h ps → IsImage size image k qs → (h ≡ k) × (ps ≡ qs)
  images_same h k ps qs i j =
      let r = readings h k ps qs [] [] i.heads j.heads i.fits j.fits (whole h ps i) (whole k qs j) in
      (r.0, ⊎_elim (same_parts ps qs) (λ x. sym (same_parts qs ps x)) r.1)

  -- a part that is read, and whose names find a place, is not refused
  read_on : (h : Header) (ps : List Part) (q : Part) (found : List Part) (free : ℕ) (rest tail : List ℕ) (fault : LoadFault) → Fits size q → rest ≡ part_framed q ++ tail
      → length (image_names (ps ++ q ∷ found)) ≤ free → AtPart size (free - length (image_names ps)) (length (image_of h ps)) rest fault → ⊥
  read_on h ps q found free rest tail fault fits e room (judged at) =
      clash fault (sym (section_taken size small q _ tail fits) ∙ ap (section_fault (part_refusal size) _) (sym e) ∙ at)
  read_on h ps q found free rest tail fault fits e room (crowded part more here split much is) =
      let place = 14 + length (flat_map part_framed ps) in
      let same = framed_same (part_section part) (part_section q) more tail (proper_part size small part here) (proper_part size small q fits) (sym split ∙ e) in
      let is_q = part_same size small part q here fits same.0 in
      let count = ap length (names_append 14 ps (q ∷ found)) ∙ length-append (image_names ps) (all_names place (q ∷ found)) in
      let first = names_first place q found in
      let long : length (names_in (length (image_of h ps)) part) ≡ length (names_in place q) =
      ap (λ p. length (names_in p part)) (image_length h ps) ∙ ap (λ x. length (names_in place x)) is_q in
      omega arith

  -- a reading that goes further than one that is refused there: it does not
  no_further : (h : Header) (ps qs : List Part) (rest w : List ℕ) (free : ℕ) (fault : LoadFault) → Further size ps rest qs w → length (image_names qs) ≤ free
      → AtPart size (free - length (image_names ps)) (length (image_of h ps)) rest fault → (rest ≡ w) × (qs ≡ ps)
  no_further h ps qs rest w free fault x room at = go x.more x.all x.left x.fits
    where
      go : (more : List Part) → qs ≡ ps ++ more → rest ≡ flat_map part_framed more ++ w → AllByRecursion (Fits size) more → (rest ≡ w) × (qs ≡ ps)
      go [] all left fits = (left, all ∙ append-nil ps)
      go (q ∷ more) all left fits =
          absurd (read_on h ps q more free rest (flat_map part_framed more ++ w) fault fits.0 (left ∙ append_assoc (part_framed q) (flat_map part_framed more) w)
          (subst (λ x. length (image_names x) ≤ free) all room) at)

  no_header_fault : (k : Header) (qs : List Part) (w : List ℕ) (fault : LoadFault) → HeaderFits size k → image ≡ image_of k qs ++ w
      → section_fault (header_refusal size) 0 image ≡ Some fault → ⊥
  no_header_fault k qs w fault heads e at =
      clash fault (sym (header_taken size small k (flat_map part_framed qs ++ w) heads)
      ∙ ap (section_fault (header_refusal size) 0) (sym (e ∙ append_assoc (framed (header_section k)) (flat_map part_framed qs) w)) ∙ at)

  pub no_image : (free : ℕ) (fault : LoadFault) → Refuses size free image fault → NoImage size free image
  no_image free fault (at_header at) k qs j room = no_header_fault k qs [] fault j.heads (whole k qs j) at
  no_image free fault (at_part h ps rest heads fits e some had at) k qs j room =
      let r = readings h k ps qs rest [] heads j.heads fits j.fits e (whole k qs j) in
      ⊎_elim (λ x. let none = ap length (no_further h ps qs rest [] free fault x room at).0 in omega arith)
      (λ x. let none = ap length x.left ∙ length-append (flat_map part_framed x.more) rest in omega arith) r.1

  pub no_stop : (k : Header) (qs : List Part) → IsImage size image k qs → (fault : LoadFault) → Stops size image fault → ⊥
  no_stop k qs j fault (at_first at) = no_header_fault k qs [] fault j.heads (whole k qs j) at
  no_stop k qs j fault (at_later h ps rest heads fits e some at) =
      no_image (length (image_names ps) + length (image_names qs)) fault (at_part h ps rest heads fits e some (omega arith) (judged at)) k qs j (omega arith)

  moved : (h k : Header) (ps qs : List Part) (v w : List ℕ) (free : ℕ) (fault : LoadFault) → ps ≡ qs → v ≡ w
      → AtPart size (free - length (image_names ps)) (length (image_of h ps)) v fault → AtPart size (free - length (image_names qs)) (length (image_of k qs)) w fault
  moved h k ps qs v w free fault same left at =
      let placed : AtPart size (free - length (image_names ps)) (14 + length (flat_map part_framed ps)) v fault = subst (λ p. AtPart size (free - length (image_names ps)) p v fault) (image_length h ps) at in
      let parts = subst (λ x. AtPart size (free - length (image_names x)) (14 + length (flat_map part_framed x)) v fault) same placed in
      rw (image_length k qs) (subst (λ x. AtPart size (free - length (image_names qs)) (14 + length (flat_map part_framed qs)) x fault) left parts)

  -- one image has one fault
  same_fault : (free place : ℕ) (rest : List ℕ) (f g : LoadFault) → AtPart size free place rest f → AtPart size free place rest g → f ≡ g
  same_fault free place rest f g (judged d) (judged e) = let z = sym d ∙ e in cc
  same_fault free place rest f g (judged d) (crowded part more here split much is) =
      absurd (clash f (sym (section_taken size small part place more here) ∙ ap (section_fault (part_refusal size) place) (sym split) ∙ d))
  same_fault free place rest f g (crowded part more here split much is) (judged e) =
      absurd (clash g (sym (section_taken size small part place more here) ∙ ap (section_fault (part_refusal size) place) (sym split) ∙ e))
  same_fault free place rest f g (crowded part more here split much is) (crowded other also there cut many was) = is ∙ sym was

  pub faults_same : (free : ℕ) (f g : LoadFault) → Refuses size free image f → Refuses size free image g → f ≡ g
  faults_same free f g (at_header d) (at_header e) = let z = sym d ∙ e in cc
  faults_same free f g (at_header d) (at_part h ps rest heads fits e some had at) = absurd (no_header_fault h ps rest f heads e d)
  faults_same free f g (at_part h ps rest heads fits e some had at) (at_header d) = absurd (no_header_fault h ps rest g heads e d)
  faults_same free f g (at_part h ps v hs fs d some had at) (at_part k qs w ks gs e any also bt) =
      let r = readings h k ps qs v w hs ks fs gs d e in
      ⊎_elim (λ x. let end = no_further h ps qs v w free f x also at in same_fault _ _ v f g at (moved k h qs ps w v free g end.1 (sym end.0) bt))
      (λ x. let end = no_further k qs ps w v free g x had bt in same_fault _ _ w f g (moved h k ps qs v w free f end.1 (sym end.0) at) bt) r.1

  pub refused_exactly : (free : ℕ) (fault : LoadFault) → Refuses size free image fault → ImageRefused size free image fault
  refused_exactly free fault why = record { why = why; only = λ other also. faults_same free other fault also why; none = no_image free fault why }

  -- an accepted image that was obeyed is loaded
  pub loads : (header : Header) (e₀ r₀ e₁ r₁ : List Name) (loaded : Loaded) (c₁ g₁ : List Cell)
      → in_limits size ≡ true → Accepts size (length r₀) image header → ImageObeyed size image (replicate size blank) c₁ e₀ r₀ e₁ r₁ loaded.broken
      → loaded.live ≡ record { state = start_state header.start header.tag size } → g₁ ≡ replicate 16 blank
      → Loads image size e₀ r₀ loaded c₁ g₁ e₁ r₁
  loads header e₀ r₀ e₁ r₁ loaded c₁ g₁ limits accepts obeyed live registers = record {
    limits = limits;
    header = header;
    parts = accepts.parts;
    is = accepts.is;
    exact = λ h ps i.
        let found = images_same h obeyed.header ps obeyed.parts i obeyed.is in
        let heads = images_same header h accepts.parts ps accepts.is i in
        let few : length (image_names ps) ≤ length r₀ = rw (← heads.1) accepts.room in
        record {
          live = rw (← heads.0) live;
          cells = rw found.1 obeyed.cells;
          registers = registers;
          elements = obeyed.elements ∙ ap (λ x. e₀ ++ take (length r₀) (image_names x)) (sym found.1) ∙ ap (λ ns. e₀ ++ ns) (take_all (length r₀) (image_names ps) few);
          room = rw found.1 obeyed.room;
          broken = rw found.1 obeyed.breaks;
        };
    taken = λ fault why. no_image (length r₀) fault why header accepts.parts accepts.is accepts.room;
    notes = λ others same.
        let found = images_same header obeyed.header accepts.parts obeyed.parts accepts.is obeyed.is in
        unnoted others (replicate size blank) ∙ ap (λ ps. all_stored ps (replicate size blank)) same ∙ sym (unnoted accepts.parts (replicate size blank))
        ∙ ap (λ ps. all_stored ps (replicate size blank)) found.1 ∙ sym obeyed.cells;
  }
