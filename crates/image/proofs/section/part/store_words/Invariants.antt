use Rattle.std.proofs.Common.{◌≡◌, map, take}
use Rattle.image.specs.Content.{words_in}
use Rattle.image.specs.Stored.{tagged}
use Rattle.image.proofs.section.part.store_words.Given as goal

abbrev pub invariant-loop-i : goal.invariant-loop-i
invariant-loop-i l = take l.i l.cells ≡ map (tagged l.tag) (words_in l.i l.bytes)
