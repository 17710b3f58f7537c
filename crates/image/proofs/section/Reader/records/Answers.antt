use Rattle.std.proofs.Common.{refl, ◌∙◌}
use Rattle.journal.specs.Journal.{elements, room}
use Rattle.image.proofs.NameLists.{progress_more, progress_none}
use Rattle.image.proofs.section.Reader.records.Goals as goal

pub loop-self-init : goal.loop-self-init
loop-self-init c = (progress_none c.args.size c.args.image.now c.args.self.now (elements c.args.names.now) (room c.args.names.now) c.requires, refl)

pub loop-self-preserved : goal.loop-self-preserved
loop-self-preserved c = (
  progress_more c.args.size c.args.image.now c.args.self.now _ _ _ _ _ _ _ _ c.loop-self.met c.in-Ok.name c.loop-self.invariant.0 c.in-Ok.ensures
      c.append.ensures.elements c.append.ensures.room,
  c.append.ensures.loan ∙ c.loop-self.invariant.1,
)
