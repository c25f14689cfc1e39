use Rattle.planner.proofs.More.{one_more}
use Rattle.planner.proofs.laws.one_more_stands.Goals as goal

pub returns : goal.returns
returns c = one_more
