use Rattle.passes.proofs.Touching.{touching_passes}
use Rattle.passes.proofs.laws.touching_stands.Goals as goal

pub returns : goal.returns
returns c = touching_passes
