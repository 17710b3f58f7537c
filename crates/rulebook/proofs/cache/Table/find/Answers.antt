use Rattle.std.proofs.Common.{◌∙◌, rules}
use Rattle.std.proofs.lemmas.Iterator.Search.{find_from_yields_List}
use Rattle.std.proofs.lemmas.Iterator.{YieldsList-from_slice}
use Rattle.rulebook.specs.Question.{same}
use Rattle.rulebook.proofs.cache.Table.find.Goals as goal

pub returns : goal.returns
returns c =
    c.copied.ensures
    ∙ find_from_yields_List (λ e. same e.question c.args.q) _ _ _ c.find.ensures.ran (YieldsList-from_slice c.args.self.now.entries.items cc) (λ x b q k. search rules)
