use Rattle.std.proofs.Common.{sym, ap, ◌∙◌}
use Rattle.rulebook.specs.declared.entry.Entry.{Entry}
use Rattle.rulebook.specs.Entry.{if_recalled, cached, recall, with_room}
use Rattle.rulebook.specs.Cache.{entries_of}
use Rattle.rulebook.proofs.Entries.{cached_room}
use Rattle.rulebook.proofs.cache.asking.CacheRulebook.ask.Goals as goal

pub returns-clause-keeps : goal.returns-clause-keeps
returns-clause-keeps g c p =
    let before = entries_of c.args.self.now in
    let e : Entry = record { question = c.args.q; tags = c.in_ok-tags.tags } in
    ap (λ l. cached l (g.R.Rulebook.meaning c.ask.new.self) p) c.remember.ensures
    ∙ ap (if_recalled (recall (with_room before e) p)) (c.ask.ensures.keeps p)
    ∙ cached_room before e (g.R.Rulebook.meaning c.args.self.now.below) p (sym c.find.ensures ∙ c.in_default.is) (sym c.ask.ensures.answers ∙ c.in_ok-tags.was)
