-- For callers that append more than once: as many places fewer are free as the room has lost.
use Rattle.std.proofs.Common.{◌≡◌, ℕ, ◌-◌, length, drop, ap, ◌∙◌}
use Rattle.std.proofs.lemmas.List.{length-drop}
use Rattle.journal.specs.declared.journal.Journal.{Journal}
use Rattle.journal.specs.Journal.{free, room}

pub free_drop : {T : Type 0} (before after : Journal T) (n : ℕ) → room after ≡ drop n (room before) → free after ≡ free before - n
free_drop before after n e = ap length e ∙ length-drop n (room before)
