use Rattle.std.proofs.Common.{◌≡◌, ℕ, ◌<◌, [], length, get_or}
use Rattle.capacity.specs.Alone.{RightFrom}
use Rattle.pruning.specs.Prices.{station_of_dish}
use Rattle.pruning.proofs.prepared.Prepared.tables_of.Given as goal

-- the dishes looked at so far have their table
abbrev pub invariant-loop-dish : goal.invariant-loop-dish
invariant-loop-dish l =
    let r = l.self.night in
    (length l.tables ≡ 8) × ((d : ℕ) → d < l.dish → RightFrom 0 (station_of_dish r.turns.now d) d r.passes.now l.gains (get_or l.tables d []))
