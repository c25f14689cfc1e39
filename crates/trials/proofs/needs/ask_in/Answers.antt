use Rattle.trials.proofs.Asking.{no_refusal}
use Rattle.trials.proofs.needs.ask_in.Goals as goal

pub unwrap-requires : goal.unwrap-requires
unwrap-requires c =
    let told = rw c.as_slice-numbers.ensures.value at c.try_why.ensures.refusal in
    no_refusal _ _ _ _ _ c.try_why.result c.requires.tried.taken c.requires.one_each c.requires.second_too told
