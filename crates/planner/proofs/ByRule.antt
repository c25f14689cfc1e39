-- Why the best run that a rule accepts is a best plan by it. Assumes nothing.
use Rattle.std.proofs.Common.{List, None, Option, Some, ap, arith, false, length, refl, subst, sym, true, ℕ, ⊎_elim, ◌&&◌, ◌∙◌, ◌≡◌, ◌≤◌}
use Rattle.std.specs.Option.{is_some}
use Rattle.std.proofs.lemmas.Bool.{and_from, and_parts, both_ways, cases_Bool}
use Rattle.engine.specs.Mapping.{SameRuns}
use Rattle.engine.specs.Rules.{Automaton, anything, accepts, AcceptedAnswered}
use Rattle.engine.proofs.Ruling.{all_accepted}
use Rattle.passes.specs.declared.model.Pass.{Pass}
use Rattle.passes.specs.declared.model.Station.{Station}
use Rattle.passes.specs.Plans.{Plan, Best}
use Rattle.capacity.specs.Alone.{BestPlanWorth}
use Rattle.capacity.specs.Order.{InTime}
use Rattle.pruning.specs.declared.rounding.TheConstants.{WIDE_DISHES}
use Rattle.pruning.specs.Rounding.{rounded_night}
use Rattle.planner.specs.Dishes.{fits_each, turns_of}
use Rattle.planner.specs.Nights.{night}
use Rattle.planner.specs.Ruled.{good_by, fits_by, BestBy, PlannedBy}
use Rattle.planner.proofs.Rounding.{rounding_up}
use Rattle.planner.proofs.Stations.{each_is_night, fits_each_same}
use Rattle.planner.proofs.Finite.{has_best}

module _ {T : Type 0} (turns : List ℕ) (ps : List Pass) (few : length turns ≤ WIDE_DISHES) (time : InTime ps) (r : Automaton T) where
  runs : SameRuns (night turns ps) (rounded_night turns ps)
  runs = (rounding_up turns ps few time).runs

  pub planned_by : (room after : Plan) (o : Option ℕ) → AcceptedAnswered (rounded_night turns ps) r room o after → PlannedBy (good_by turns r) ps room o after
  planned_by room after None h = (λ ds. ⊎_elim (λ good. let parts = and_parts (fits_each turns ps ds) _ good in let run = (each_is_night turns ps few time).runs ds parts.0 in let there = runs.there ds run.0 run.1 in absurd (h.0 ds there.0 there.1 parts.1)) (λ bad. bad) (cases_Bool (good_by turns r ps ds)), h.1)
  planned_by room after (Some w) h =
      let back = runs.back after h.run.0 h.run.1 in
      let plans = each_is_night turns ps few time in
      record {
        is_good = and_from _ _ (plans.plans after back.0 back.1) h.accepted;
        worth = h.gains ∙ runs.gains after back.0 back.1 ∙ plans.worth after back.0 back.1;
        most = λ es good.
            let parts = and_parts (fits_each turns ps es) _ good in
            let run = plans.runs es parts.0 in
            let there = runs.there es run.0 run.1 in
            let low = h.most es there.0 there.1 parts.1 in
            omega (arith, runs.gains es run.0 run.1, plans.worth es run.0 run.1);
      }

  -- where there is a plan it is copied out
  pub copied_out : (given after room room₁ : Plan) (o : Option ℕ) → is_some o ≡ true → AcceptedAnswered (rounded_night turns ps) r given o after → room₁ ≡ after → PlannedBy (good_by turns r) ps room o room₁
  copied_out given after room room₁ None found h same = absurd (both_ways false refl found)
  copied_out given after room room₁ (Some w) found h same = rw same (planned_by given after (Some w) h)

  -- and where there is none the room is as it was
  pub left_alone : (given after room room₁ : Plan) (o : Option ℕ) → is_some o ≡ false → AcceptedAnswered (rounded_night turns ps) r given o after → room₁ ≡ room → PlannedBy (good_by turns r) ps room o room₁
  left_alone given after room room₁ None none h same = ((planned_by given after None h).0, same)
  left_alone given after room room₁ (Some w) none h same = absurd (both_ways true none refl)

-- the good plans of a station's dishes, each with its own time to turn, that a rule accepts are the station's that it accepts
same_by : {T : Type 0} (s : Station) (r : Automaton T) (ps : List Pass) (ds : Plan) → good_by (turns_of s) r ps ds ≡ fits_by s r ps ds
same_by s r ps ds = ap (λ b. b && accepts r ds) (fits_each_same s ps ds)

-- so planning by the one is planning by the other
pub planned_for_station : {T : Type 0} (s : Station) (r : Automaton T) (ps : List Pass) (room after : Plan) (o : Option ℕ) → PlannedBy (good_by (turns_of s) r) ps room o after → PlannedBy (fits_by s r) ps room o after
planned_for_station s r ps room after o h = subst (λ good. PlannedBy good ps room o after) (λ t qs ds. same_by s r qs ds t) h

module _ (s : Station) (ps : List Pass) (room after : Plan) where
  -- by the rule that refuses nothing there is always a plan, the one that follows nothing
  pub some_plan : (o : Option ℕ) → PlannedBy (good_by (turns_of s) anything) ps room o after → is_some o ≡ true
  unfolding Best
  some_plan None h = absurd (both_ways _ (h.0 (has_best s ps).0) (and_from _ _ (fits_each_same s ps _ ∙ (has_best s ps).1.0) (all_accepted _)))
  some_plan (Some w) h = refl

  -- and a best plan by it is a best plan
  pub planned_by_none : (w : ℕ) → BestBy (good_by (turns_of s) anything) ps after w → BestPlanWorth s ps after w
  unfolding Best
  planned_by_none w h = record {
    best = (sym (fits_each_same s ps after) ∙ (and_parts (fits_each (turns_of s) ps after) _ h.is_good).0, λ es good. (rw h.worth at (h.most es (and_from _ _ (fits_each_same s ps es ∙ good) (all_accepted es)))));
    worth = h.worth;
  }
