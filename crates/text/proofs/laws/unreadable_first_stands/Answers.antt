use Rattle.text.proofs.FirstFault.{unreadable_first}
use Rattle.text.proofs.laws.unreadable_first_stands.Goals as goal

pub returns : goal.returns
returns c = unreadable_first
