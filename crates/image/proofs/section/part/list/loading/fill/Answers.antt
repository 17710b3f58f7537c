use Rattle.std.proofs.Common.{◌≡◌, ◌^◌, ◌<◌, true, length, replicate, ap, ◌∙◌, arith}
use Rattle.std.proofs.lemmas.List.{length-replicate}
use Rattle.std.proofs.lemmas.Bool.Decides.{nat_tests}
use Rattle.std.proofs.lemmas.Result.{MatchResult-at_ok}
use Rattle.machine.specs.Calls.{in_limits}
use Rattle.machine.specs.Cells.{blank}
use Rattle.image.proofs.Exact.{loads, no_stop}
use Rattle.image.proofs.Outcomes.{ok_always}
use Rattle.image.proofs.section.part.list.loading.fill.Goals as goal

pub unwrap-broken-requires : goal.unwrap-broken-requires
unwrap-broken-requires c =
    let sized = c.requires.fits in
    let size = length c.args.cells.now in
    let small : size < 2 ^ 16 = grind (arith, nat_tests) in
    let same : length c.clear.new.cells ≡ size = ap length c.clear.ensures ∙ length-replicate size blank in
    let accepts = c.requires.accepts in
    ok_always _ _ c.obey.result c.obey.ensures.obeys (λ fault stops. no_stop size small c.args.image.now c.args.header accepts.parts accepts.is fault (rw same at stops))

pub returns-clause-loads : goal.returns-clause-loads
returns-clause-loads c =
    let sized = c.requires.fits in
    let size = length c.args.cells.now in
    let small : size < 2 ^ 16 = grind (arith, nat_tests) in
    let limits : in_limits size ≡ true = grind (arith, nat_tests) in
    let sixteen : length c.args.registers.now ≡ 16 = grind (arith, nat_tests) in
    let cleared = c.clear.ensures in
    let same : length c.clear.new.cells ≡ size = ap length cleared ∙ length-replicate size blank in
    let obeyed = MatchResult-at_ok _ _ c.unwrap-broken.result c.unwrap-broken.ensures c.obey.ensures.obeys in
    loads size small c.args.image.now c.args.header _ _ _ _ _ _ _ limits c.requires.accepts (rw (same, cleared) at obeyed)
    c.live-live.ensures (c.clear-2.ensures ∙ ap (λ n. replicate n blank) sixteen)
