use Rattle.std.proofs.Common.{cond, None, sym, ap, ◌∙◌}
use Rattle.image.specs.Cells.{cells_in, header_cells}
use Rattle.image.specs.Section.{first_section, window}
use Rattle.image.proofs.Images.{whole}
use Rattle.image.proofs.Outcomes.{ok_missed, ok_taken}
use Rattle.image.proofs.section.part.list.loading.header_cells.Goals as goal

pub returns-in_err-ok : goal.returns-in_err-ok
returns-in_err-ok c =
    let missed = ok_missed _ _ c.section.result c.ok.result c.ok.ensures.value c.in_err-ok.was c.section.ensures in
    let all = whole 0 c.args.image.now c.over.result c.over.ensures in
    let w = window c.over.result c.args.image.now in
    c.from_residual.ensures ∙ sym (ap (λ b. cond b None (cells_in (first_section w))) missed.1.cut) ∙ ap header_cells all

pub returns : goal.returns
returns c =
    let opened = ok_taken _ _ c.section.result c.ok.result c.in_ok-ok.field-0 c.ok.ensures.value c.in_ok-ok.was c.section.ensures in
    let all = whole 0 c.args.image.now c.over.result c.over.ensures in
    let w = window c.over.result c.args.image.now in
    c.cells.ensures ∙ ap cells_in opened.marks ∙ sym (ap (λ b. cond b None (cells_in (first_section w))) opened.whole) ∙ ap header_cells all
