use Rattle.rulebook.proofs.Entries.{distinct_push}
use Rattle.rulebook.proofs.cache.Table.remember.Goals as goal

pub invariant_of-self : goal.invariant_of-self
invariant_of-self c = record { distinct = rw c.push.ensures.items (distinct_push _ c.args.entry c.args.self.now.distinct c.requires) }
