use Rattle.slewing.proofs.Differs.{any_two_differs}
use Rattle.slewing.proofs.laws.any_two_differs_stands.Goals as goal

pub returns : goal.returns
returns c = any_two_differs
