use Rattle.std.proofs.Common.{arith}
use Rattle.std.proofs.lemmas.List.Sorted.{IsNonDecreasingBy-from_sort}
use Rattle.effort.proofs.Middles.{spread}
use Rattle.effort.proofs.spread.Spread.of.Goals as goal

pub returns : goal.returns
returns c =
    let sorted = c.sort_unstable.ensures in
    let item = (rw c.deref.ensures.value at c.in_ok-largest.ensures.item).3 in
    spread c.args.numbers.items _ sorted.permutation (IsNonDecreasingBy-from_sort (λ x. x) _ sorted.sorted)
    _ _ _ _ _ 0 c.index-median.ensures (item.1 0) (omega (arith, c.len.ensures)) (omega arith) item.0
