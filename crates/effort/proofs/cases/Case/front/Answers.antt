use Rattle.effort.proofs.Fronts.{front_taken}
use Rattle.effort.proofs.cases.Case.front.Goals as goal

pub invariant_of-result : goal.invariant_of-result
invariant_of-result c =
    let self = c.args.self.now in
    record { taken = rw (c.in_ok-numbers.ensures, c.as_slice.ensures.value) (front_taken self.turn self.numbers.items self.taken c.args.passes) }
