use Rattle.std.proofs.Common.{◌≡◌, ℕ, ◌-◌, ◌*◌, ◌^◌, ◌<◌, ◌≤◌, List, ◌++◌, length, get_or}
use Rattle.passes.specs.declared.model.Pass.{Pass}
use Rattle.passes.specs.Rule.{nth}
use Rattle.pruning.specs.Sums.{AddsUp}
use Rattle.planner.proofs.scheduling.add_up.Given as goal

-- the passes that are left stand before those that were seen, and the entries behind them are right, and small enough for one more
abbrev pub invariant-loop-i : goal.invariant-loop-i
invariant-loop-i l =
    let left = l.i-iterator.iter.iter.rest.now in record {
      count : l.i-iterator.iter.count ≡ 0;
      of_passes : (seen : List Pass) × (left ++ seen ≡ l.passes);
      long : length l.left ≡ 129;
      sums : AddsUp (λ p. p.worth) l.passes (length left) l.left;
      small : (k : ℕ) → length left ≤ k → k < length l.passes → (nth l.passes k).worth < 2 ^ 32;
      low : get_or l.left (length left) 0 ≤ (length l.passes - length left) * 2 ^ 32;
    }
