use Rattle.planner.proofs.Stations.{station_is_night}
use Rattle.planner.proofs.laws.station_is_night_stands.Goals as goal

pub returns : goal.returns
returns c = station_is_night
