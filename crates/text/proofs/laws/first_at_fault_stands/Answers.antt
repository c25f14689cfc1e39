use Rattle.text.proofs.FirstFault.{first_at_fault}
use Rattle.text.proofs.laws.first_at_fault_stands.Goals as goal

pub returns : goal.returns
returns c = first_at_fault
