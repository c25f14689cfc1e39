use Rattle.sensitivity.proofs.Stations.{only_one}
use Rattle.sensitivity.proofs.laws.only_one_stands.Goals as goal

pub returns : goal.returns
returns c = only_one
