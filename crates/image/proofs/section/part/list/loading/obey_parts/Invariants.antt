use Rattle.std.proofs.Common.{◌≡◌, ◌-◌, length}
use Rattle.journal.specs.Journal.{elements, loan, room}
use Rattle.image.proofs.Walks.{Obeying}
use Rattle.image.proofs.section.part.list.loading.obey_parts.Given as goal

abbrev pub invariant-loop-reader : goal.invariant-loop-reader
invariant-loop-reader l =
    Obeying (length l.initial.cells) l.image l.initial.reader l.reader l.initial.cells l.cells
    (elements l.initial.names) (room l.initial.names) (elements l.names) (room l.names) l.broken
    × (loan l.names ≡ loan l.initial.names)

abbrev pub decreases-loop-reader : goal.decreases-loop-reader
decreases-loop-reader l = l.reader.end - l.reader.place
