use Rattle.sensitivity.proofs.Bounds.{below_never}
use Rattle.sensitivity.proofs.laws.below_never_stands.Goals as goal

pub returns : goal.returns
returns c = below_never
