use Rattle.sensitivity.proofs.Stations.{difference}
use Rattle.sensitivity.proofs.laws.difference_stands.Goals as goal

pub returns : goal.returns
returns c = difference
