use Rattle.sensitivity.proofs.Stations.{never_exactly}
use Rattle.sensitivity.proofs.laws.never_exactly_stands.Goals as goal

pub returns : goal.returns
returns c = never_exactly
