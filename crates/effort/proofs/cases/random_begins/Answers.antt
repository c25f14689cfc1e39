use Rattle.std.proofs.Common.{◌≤◌, arith}
use Rattle.std.proofs.lemmas.List.Sorted.{All-permutation, IsNonDecreasingBy-from_sort}
use Rattle.effort.specs.Shapes.{BeginOf}
use Rattle.effort.proofs.Sorting.{still_there}
use Rattle.effort.proofs.cases.random_begins.Goals as goal

pub returns : goal.returns
returns c =
    let so_far = c.loop-place.invariant in
    let sorted = c.sort_unstable.ensures in
    record {
      count = omega (arith, sorted.len, so_far.0, so_far.1, c.count-place-end.ensures.shape);
      last = c.span-last.result;
      span = c.span-last.ensures.shape;
      early = c.span-last.ensures.early;
      within = All-permutation (λ x. x ≤ c.span-last.result) _ _ sorted.permutation so_far.3;
      each = λ i l. still_there (BeginOf c.args.shape i) _ _ i sorted.permutation (omega (arith, l, sorted.len)) (so_far.2 i (omega (arith, l, so_far.0, sorted.len)));
      few = omega (arith, sorted.len, so_far.0, so_far.1);
      order = IsNonDecreasingBy-from_sort (λ x. x) _ sorted.sorted;
    }
