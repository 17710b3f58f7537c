use Rattle.std.proofs.Common.{◌≡◌, ◌+◌, ◌-◌, ◌/◌, ◌%◌, ◌≤◌, length, take, drop, refl, arith}
use Rattle.std.proofs.ByRecursion.{All-drop}
use Rattle.std.proofs.lemmas.List.{length-drop, take_all}
use Rattle.std.proofs.lemmas.Bool.Decides.{nat_tests}
use Rattle.image.specs.Content.{all_words}
use Rattle.image.specs.Section.{marked}
use Rattle.image.proofs.Contents.{length_words_in, words_said, words_small}
use Rattle.image.proofs.section.Span.words.Goals as goal

pub returns-clause-says : goal.returns-clause-says
returns-clause-says c =
    let body = c.body-body.ensures in
    let bytes = c.body-body.result.now in
    let some : 10 ≤ length bytes = grind (arith, nat_tests) in
    let even : length bytes % 4 ≡ 2 = grind (arith, nat_tests) in
    let left : length (drop 6 bytes) ≡ length bytes - 6 = length-drop 6 bytes in
    let rest : take (length bytes - 6) (drop 6 bytes) ≡ drop 6 bytes = take_all (length bytes - 6) (drop 6 bytes) (omega arith) in
    let count = length (drop 6 bytes) / 4 in
    let reach : c.u16_at-address.result + count ≤ c.args.size = grind (arith, nat_tests, left) in
    rw rest (
      record {
        bytes = words_said (marked c.args.image.now c.args.self) bytes body.marked body.bytes 2 c.u16_at-address.result c.u32_at.result (all_words (drop 6 bytes)) c.requires.kind some even
            c.u16_at-address.ensures c.u32_at.ensures refl;
        fits = (rw length_words_in reach, rw length_words_in (omega arith), omega arith, omega arith, words_small count (drop 6 bytes) (omega arith) (All-drop _ 6 bytes body.bytes));
      },
      reach,
    )
