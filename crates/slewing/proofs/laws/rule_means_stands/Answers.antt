use Rattle.slewing.proofs.Meaning.{rule_means}
use Rattle.slewing.proofs.laws.rule_means_stands.Goals as goal

pub returns : goal.returns
returns c = rule_means
