-- Nights of a station whose dishes all take the same time to turn. Assumes nothing.
use Rattle.std.proofs.Common.{◌≡◌, ℕ, zero, suc, ◌-◌, ◌<◌, ◌≤◌, true, false, List, [], ◌∷◌, length, sym, refl, ap, ◌∙◌, ⊎_elim, arith}
use Rattle.std.proofs.lemmas.List.{get_or-replicate, length-replicate}
use Rattle.std.proofs.lemmas.Bool.{cases_lt}
use Rattle.std.proofs.lemmas.Bool.Decides.{nat_tests}
use Rattle.engine.specs.Runs.{Run}
use Rattle.engine.specs.Gaining.{BestGain}
use Rattle.passes.specs.declared.model.Pass.{Pass}
use Rattle.passes.specs.declared.model.Station.{Station}
use Rattle.passes.specs.Checks.{checked}
use Rattle.passes.specs.Plans.{Plan, fits_one, fits, Best}
use Rattle.passes.specs.Rule.{says}
use Rattle.passes.proofs.Checking.{few_dishes_from_checked}
use Rattle.capacity.specs.Alone.{BestPlanWorth}
use Rattle.capacity.specs.Order.{InTime}
use Rattle.capacity.proofs.Greedy.{all_zero}
use Rattle.capacity.proofs.Timing.{in_time_from_checked}
use Rattle.pruning.specs.declared.rounding.TheConstants.{WIDE_DISHES}
use Rattle.planner.specs.declared.scheduling.FreeFrom.{FreeFrom}
use Rattle.planner.specs.Dishes.{seen_by, fits_each, turns_of}
use Rattle.planner.specs.Nights.{night}
use Rattle.planner.specs.Statements.{PlansAreRuns, EachIsNight, StationIsNight}
use Rattle.planner.proofs.Following.{leads_follow, gained_worth}
use Rattle.planner.proofs.Bridge.{InReach, one_each, good_from_follow, follow_from_good}

module _ (turns : List ℕ) (ps : List Pass) (few : length turns ≤ WIDE_DISHES) (time : InTime ps) where
  run_follows : (ds : Plan) (e : FreeFrom) → Run (night turns ps).moves ds e → (fits_each turns ps ds ≡ true)
  run_follows ds e run =
      (good_from_follow turns WIDE_DISHES few ps ds (night turns ps).moves.start e refl time (omega (arith, run.one_each)) (sym (leads_follow turns ps ds 0 _ (omega (arith, run.one_each))) ∙ run.ends)).0

  good_runs : (ds : Plan) → fits_each turns ps ds ≡ true → (e : FreeFrom) × Run (night turns ps).moves ds e
  good_runs ds good =
      let long = one_each turns ps ds good in
      let reach : InReach (night turns ps).moves.start ps ds = λ j l some. omega (arith, all_zero WIDE_DISHES (says ds j - 1)) in
      let end = follow_from_good turns WIDE_DISHES few ps ds (night turns ps).moves.start refl time good reach in
      (end.0, record { one_each = omega arith; ends = leads_follow turns ps ds 0 _ (omega arith) ∙ end.1 })

pub each_is_night : EachIsNight
each_is_night turns ps few time = record {
  runs = good_runs turns ps few time;
  plans = run_follows turns ps few time;
  worth = λ ds e run. gained_worth turns ps ds 0 _ e (omega (arith, run.one_each)) run.ends;
}

-- a dish sees the station as it is
seen_same : (s : Station) (d : ℕ) → 0 < d → d ≤ s.dishes → seen_by (turns_of s) d ≡ s
seen_same s d some there =
    let count = length-replicate s.dishes s.turn in
    let time = get_or-replicate s.dishes (d - 1) s.turn 0 (omega arith) in
    λ t. record { dishes = count t; turn = time t }

module _ (p : Pass) (ps : List Pass) (ds : Plan) where
  absent_unfit : (s : Station) (d : ℕ) → 0 < d → s.dishes < d → fits_one s p d ps ds ≡ false
  unfolding fits_one
  absent_unfit s d some absent = grind (arith, nat_tests)

  one_same : (s : Station) (d : ℕ) → fits_one (seen_by (turns_of s) d) p d ps ds ≡ fits_one s p d ps ds
  unfolding fits_one
  one_same s zero = refl
  one_same s (suc c) =
      let d = suc c in
      let count = length-replicate s.dishes s.turn in
      ⊎_elim
      (λ (there : c < s.dishes). ap (λ u. fits_one u p d ps ds) (seen_same s d (omega arith) (omega arith)))
      (λ (absent : s.dishes ≤ c). absent_unfit (seen_by (turns_of s) d) d (omega arith) (omega arith) ∙ sym (absent_unfit s d (omega arith) (omega arith)))
      (cases_lt c s.dishes)

-- each dish by its own time to turn, which is the same for all, is the station's rule
pub fits_each_same : (s : Station) (ps : List Pass) (ds : Plan) → fits_each (turns_of s) ps ds ≡ fits s ps ds
unfolding fits_each fits
fits_each_same s [] [] = refl
fits_each_same s [] (d ∷ ds) = refl
fits_each_same s (p ∷ ps) [] = refl
fits_each_same s (p ∷ ps) (d ∷ ds) = rw (one_same p ps ds s d, fits_each_same s ps ds) refl

module _ (s : Station) (ps : List Pass) (ok : checked s ps ≡ true) where
  few_dishes : length (turns_of s) ≤ WIDE_DISHES
  few_dishes = omega (arith, few_dishes_from_checked s ps ok, length-replicate s.dishes s.turn)

  night_of_station : PlansAreRuns (fits s ps) ps (night (turns_of s) ps)
  night_of_station =
      let each = each_is_night (turns_of s) ps few_dishes (in_time_from_checked s ps ok) in
      record {
        runs = λ ds good. each.runs ds (fits_each_same s ps ds ∙ good);
        plans = λ ds e run. sym (fits_each_same s ps ds) ∙ each.plans ds e run;
        worth = each.worth;
      }

  -- a run that gains the most is a best plan
  pub planned_from_gain : (room : Plan) (n : ℕ) → BestGain (night (turns_of s) ps) room n → BestPlanWorth s ps room n
  unfolding Best
  planned_from_gain room n h =
      let same = night_of_station in
      let worth = h.gains ∙ same.worth room h.run.0 h.run.1 in
      record {
        best = (same.plans room h.run.0 h.run.1, λ es good. let run = same.runs es good in omega (arith, h.most es run.0 run.1, same.worth es run.0 run.1));
        worth = worth;
      }

pub station_is_night : StationIsNight
station_is_night = night_of_station
