use Rattle.std.proofs.Common.{◌≡◌, ◌<◌, length, get_or, sym, ◌∙◌, arith, rules}
use Rattle.std.proofs.lemmas.List.{ext_get_or, get_or-map, length-map}
use Rattle.run_routines.specs.Routine.{cell_of, cells_of}
use Rattle.run_routines.proofs.routines.cells_of.Goals as goal

-- each cell is made of the pair at its place
pub returns : goal.returns
returns c =
    let items = c.map.ensures.items in
    let routine = c.args.routine in
    let blank = cell_of (0, 0) in
    let long : length c.map.result ≡ length (cells_of routine) = items.long ∙ omega (arith, length-map routine cell_of) in
    ext_get_or blank c.map.result (cells_of routine) long (λ i h.
    let below : i < 16 = omega (arith, items.long) in
    let call = (items.at i (0, 0) blank below).2 in
    let made : get_or c.map.result i blank ≡ cell_of (get_or routine i (0, 0)) = search rules in
    made ∙ sym (get_or-map cell_of routine i (0, 0) blank (omega (arith, items.long))))
