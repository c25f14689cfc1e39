use Rattle.sensitivity.proofs.Stations.{no_dish}
use Rattle.sensitivity.proofs.laws.no_dish_stands.Goals as goal

pub returns : goal.returns
returns c = no_dish
