-- That `==` says whether two refusals are one and the same.
use Rattle.std.specs.Prelude.{Bool, Decides, ◌≡◌}
use Rattle.std.proofs.Common.{rules}
use Rattle.refusal.specs.declared.refusal.Refusal.{Refusal}
use Rattle.refusal.specs.contracts.refusal.RefusalPartialEq.TheImpl as comparison

-- what `==` answers
abbrev pub same_refusal : Refusal → Refusal → Bool
same_refusal = (comparison.ghosts).eq

-- true for one and the same refusal, and for no other
pub same_refusal_decides : (x y : Refusal) → Decides (same_refusal x y) (x ≡ y)
same_refusal_decides x y = search rules
