use Rattle.planner.proofs.More.{more_dishes}
use Rattle.planner.proofs.laws.more_dishes_stands.Goals as goal

pub returns : goal.returns
returns c = more_dishes
