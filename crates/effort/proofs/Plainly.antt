-- What is found in either way is what a best plan is worth. Assumes nothing.
use Rattle.std.proofs.Common.{◌≡◌, ℕ, List, replicate, Some, None, Option, sym, ap}
use Rattle.std.specs.Prelude.{IsSome, IfSome}
use Rattle.engine.specs.Gaining.{GainAnswered}
use Rattle.passes.specs.declared.model.Pass.{Pass}
use Rattle.passes.specs.declared.model.Station.{Station}
use Rattle.passes.specs.declared.nights.Night.{Night}
use Rattle.passes.specs.Nights.{NightOf, passes_of}
use Rattle.passes.specs.Plans.{Plan}
use Rattle.passes.specs.Statements.{BestWorth}
use Rattle.capacity.specs.Alone.{BestPlanWorth}
use Rattle.planner.specs.Nights.{night}
use Rattle.planner.proofs.Following.{some_gain}
use Rattle.planner.proofs.Stations.{planned_from_gain}
use Rattle.effort.specs.Comparisons.{BestOf}

-- what a best plan is worth, from one that is in a room
pub best_worth : (s : Station) (ps : List Pass) (room : Plan) (w : ℕ) → BestPlanWorth s ps room w → BestWorth s ps w
best_worth s ps room w h = (room, h.best, sym h.worth)

module _ (t : ℕ) (xs : List ℕ) (n : Night) (read : NightOf 4 t xs n) where
  -- what the plain search answers
  abbrev pub Answered : (room : Plan) → Option ℕ → (after : Plan) → Type 0
  Answered room gained after = GainAnswered (night (replicate 4 n.station.turn) (passes_of n)) room gained after

  pub some_found : (room : Plan) (gained : Option ℕ) (after : Plan) → Answered room gained after → IsSome gained
  some_found room gained after h = some_gain (replicate 4 n.station.turn) (passes_of n) room after gained h

  pub best_found : (room : Plan) (gained : Option ℕ) (after : Plan) → Answered room gained after → IfSome gained (BestOf t xs)
  best_found room None after h = tt
  best_found room (Some w) after h =
      let four : n.station.dishes ≡ 4 = ap (λ s. s.dishes) read.same_station in
      rw (← read.same_station, ← read.same_passes) (best_worth n.station (passes_of n) after w (planned_from_gain n.station (passes_of n) n.ok after w (rw four h)))
