use Rattle.sensitivity.proofs.Stations.{lowered}
use Rattle.sensitivity.proofs.laws.lowered_stands.Goals as goal

pub returns : goal.returns
returns c = lowered
