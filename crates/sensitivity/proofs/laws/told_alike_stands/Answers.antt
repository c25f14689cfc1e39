use Rattle.sensitivity.proofs.Alike.{told_alike}
use Rattle.sensitivity.proofs.laws.told_alike_stands.Goals as goal

pub returns : goal.returns
returns c = told_alike
