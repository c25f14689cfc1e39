use Rattle.passes.proofs.Taking.{taken_if_checked}
use Rattle.passes.proofs.laws.taken_stands.Goals as goal

pub returns : goal.returns
returns c = taken_if_checked
