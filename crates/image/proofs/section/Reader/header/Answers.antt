use Rattle.std.proofs.Common.{◌≡◌, Some, sym, ap, ◌∙◌, rules}
use Rattle.std.proofs.lemmas.Result.{MatchResult-from_both, IfErr-weaker, IfOk-weaker}
use Rattle.image.specs.Judgement.{header_refusal}
use Rattle.image.specs.Part.{header_section}
use Rattle.image.specs.Section.{marked}
use Rattle.image.proofs.Outcomes.{IfErr-from_result_err, MatchResult-from_map_err}
use Rattle.image.proofs.Parts.{passed}
use Rattle.image.proofs.section.Reader.header.Goals as goal

pub returns : goal.returns
returns c =
    let opened = c.in_ok-span.ensures in
    let said = c.header.ensures in
    MatchResult-from_map_err c.header.result c.map_err.result _ _ _ c.map_err.ensures.cases
    (MatchResult-from_both c.header.result _ _
    (IfOk-weaker c.header.result _ _ (λ h says. record { fits = says.1; passed = passed c.args.size _ _ _ c.in_ok-span.span opened c.requires (header_section h) says.0 }) said.says)
    (IfErr-weaker c.header.result (λ why. header_refusal c.args.size (marked c.args.image.now c.in_ok-span.span) ≡ Some why) _
    (λ why refused fault told. rw (opened.whole, ap (header_refusal c.args.size) (sym opened.marks) ∙ refused) (let place = opened.place in search rules))
    (IfErr-from_result_err c.header.result _ said.refused)))
