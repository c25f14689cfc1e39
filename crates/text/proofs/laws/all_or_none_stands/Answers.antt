use Rattle.text.proofs.Fitting.{all_or_none}
use Rattle.text.proofs.laws.all_or_none_stands.Goals as goal

pub returns : goal.returns
returns c = all_or_none
