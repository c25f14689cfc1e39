use Rattle.planner.proofs.Stations.{each_is_night}
use Rattle.planner.proofs.laws.each_is_night_stands.Goals as goal

pub returns : goal.returns
returns c = each_is_night
