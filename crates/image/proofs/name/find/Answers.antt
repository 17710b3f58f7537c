use Rattle.std.proofs.Common.{eqb, rules, tests, ◌∙◌}
use Rattle.std.proofs.lemmas.Iterator.{YieldsList-from_slice}
use Rattle.std.proofs.lemmas.Iterator.Search.{find_from_yields_List}
use Rattle.image.proofs.name.find.Goals as goal

pub returns : goal.returns
returns c =
    c.copied.ensures
    ∙ find_from_yields_List (λ name. eqb name.address c.args.address) _ _ _ c.find.ensures.ran (YieldsList-from_slice c.args.names.now cc) (λ name b q k. search (rules, tests))
