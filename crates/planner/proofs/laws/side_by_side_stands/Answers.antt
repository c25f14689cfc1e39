use Rattle.planner.proofs.Apart.{side_by_side}
use Rattle.planner.proofs.laws.side_by_side_stands.Goals as goal

pub returns : goal.returns
returns c = side_by_side
