use Rattle.sensitivity.proofs.Stations.{as_well}
use Rattle.sensitivity.proofs.laws.as_well_stands.Goals as goal

pub returns : goal.returns
returns c = as_well
