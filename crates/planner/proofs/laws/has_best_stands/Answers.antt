use Rattle.planner.proofs.Finite.{has_best}
use Rattle.planner.proofs.laws.has_best_stands.Goals as goal

pub returns : goal.returns
returns c = has_best
