use Rattle.std.proofs.Common.{refl}
use Rattle.image.specs.Bytes.{bytes_of}
use Rattle.image.specs.Stored.{retagged}
use Rattle.cases.proofs.sample.doubling_image.Goals as goal

pub returns-clause-loads : goal.returns-clause-loads
unfolding bytes_of retagged
returns-clause-loads c = record { bytes = refl; cells = refl }
