-- The numbers of the kinds of sections.
use Rattle.std.specs.Prelude.{◌≡◌, ℕ, ◌≤◌, true, Result, MatchResult, ◌≢◌}
use Rattle.refusal.specs.declared.refusal.Refusal.{Refusal}
use Rattle.refusal.specs.declared.refusal.Refusal.TheVariants.{SectionKind}
use Rattle.image.specs.declared.section.kind.Kind.{Kind}
use Rattle.image.specs.declared.section.kind.Kind.TheVariants.{Header, Words, Tags, Names, Note}
use Rattle.image.specs.Judgement.{unknown}

-- from 32,768 on they are notes, and one of those is the kind of name lists
abbrev pub IsKind : Kind → ℕ → Type 0
IsKind Header number = number ≡ 1
IsKind Words number = number ≡ 2
IsKind Tags number = number ≡ 3
IsKind Names number = number ≡ 32769
IsKind Note number = (32768 ≤ number) × (number ≢ 32769)

-- the kind of a number, refused where it is of none
abbrev pub KindOf : ℕ → Result Kind Refusal → Type 0
KindOf number r = MatchResult r (λ kind. IsKind kind number) (λ refusal. (unknown number ≡ true) × (refusal ≡ SectionKind))
