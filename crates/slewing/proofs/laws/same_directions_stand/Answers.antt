use Rattle.slewing.proofs.Alike.{same_directions, same_worth}
use Rattle.slewing.proofs.Next.{next_is_any}
use Rattle.slewing.proofs.laws.same_directions_stand.Goals as goal

pub returns-clause-next : goal.returns-clause-next
returns-clause-next c = same_directions

pub returns-clause-any : goal.returns-clause-any
returns-clause-any c = next_is_any

pub returns-clause-worth : goal.returns-clause-worth
returns-clause-worth c = same_worth
