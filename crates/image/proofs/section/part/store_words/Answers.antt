use Rattle.std.proofs.Common.{refl, add-one, arith}
use Rattle.std.proofs.lemmas.List.{map-append, take_more_set}
use Rattle.image.specs.Content.{words_in}
use Rattle.image.proofs.Contents.{words_push}
use Rattle.image.proofs.section.part.store_words.Goals as goal

pub loop-i-init : goal.loop-i-init
unfolding words_in
loop-i-init c = refl

pub loop-i-preserved : goal.loop-i-preserved
loop-i-preserved c =
    let i = c.loop-i.i in
    rw (take_more_set c.loop-i.cells i c.store_word.new.cell (omega arith), c.loop-i.invariant, add-one, words_push i c.args.bytes.now, c.store_word.ensures, map-append)
