use Rattle.sensitivity.proofs.OnePass.{pass_rule_means}
use Rattle.sensitivity.proofs.laws.pass_rule_stands.Goals as goal

pub returns : goal.returns
returns c = pass_rule_means
