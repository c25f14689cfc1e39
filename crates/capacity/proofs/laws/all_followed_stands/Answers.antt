use Rattle.capacity.proofs.Everyone.{all_can_be_followed}
use Rattle.capacity.proofs.laws.all_followed_stands.Goals as goal

pub returns : goal.returns
returns c = all_can_be_followed
