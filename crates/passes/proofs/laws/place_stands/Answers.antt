use Rattle.passes.proofs.Taking.{place_is_first}
use Rattle.passes.proofs.laws.place_stands.Goals as goal

pub returns : goal.returns
returns c = place_is_first
