use Rattle.sensitivity.proofs.Stations.{leaves_as_well}
use Rattle.sensitivity.proofs.laws.leaves_as_well_stands.Goals as goal

pub returns : goal.returns
returns c = leaves_as_well
