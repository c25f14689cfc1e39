use Rattle.slewing.proofs.Each.{test_is_rule}
use Rattle.slewing.proofs.laws.test_is_rule_stands.Goals as goal

pub returns : goal.returns
returns c = test_is_rule
