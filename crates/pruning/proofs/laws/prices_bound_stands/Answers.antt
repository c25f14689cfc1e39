use Rattle.pruning.proofs.TableBounds.{prices_bound}
use Rattle.pruning.proofs.laws.prices_bound_stands.Goals as goal

pub returns : goal.returns
returns c = prices_bound
