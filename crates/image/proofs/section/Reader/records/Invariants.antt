use Rattle.std.proofs.Common.{◌≡◌, ◌-◌}
use Rattle.journal.specs.Journal.{elements, loan, room}
use Rattle.image.proofs.NameLists.{Progress}
use Rattle.image.proofs.section.Reader.records.Given as goal

abbrev pub invariant-loop-self : goal.invariant-loop-self
invariant-loop-self l =
    Progress l.size l.image l.initial.self l.self (elements l.initial.names) (room l.initial.names) (elements l.names) (room l.names) l.met
    × (loan l.names ≡ loan l.initial.names)

abbrev pub decreases-loop-self : goal.decreases-loop-self
decreases-loop-self l = l.self.end - l.self.place
