use Rattle.planner.proofs.Rounding.{rounding_up}
use Rattle.planner.proofs.laws.rounding_up_stands.Goals as goal

pub returns : goal.returns
returns c = rounding_up
