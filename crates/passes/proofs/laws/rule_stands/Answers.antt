use Rattle.passes.proofs.Goodness.{test_is_rule}
use Rattle.passes.proofs.laws.rule_stands.Goals as goal

pub returns : goal.returns
returns c = test_is_rule
