-- Why planning by the automaton is planning with directions. Assumes nothing.
use Rattle.std.proofs.Common.{◌≡◌, ℕ, ◌+◌, ◌≤◌, Bool, true, false, List, [], ◌∷◌, length, Some, None, Option, refl, sym, ◌∙◌, arith}
use Rattle.std.specs.Prelude.{replicate}
use Rattle.std.specs.Option.{is_some}
use Rattle.std.proofs.lemmas.Bool.{and_from, both_ways}
use Rattle.passes.specs.declared.model.Pass.{Pass}
use Rattle.passes.specs.declared.model.Station.{Station}
use Rattle.passes.specs.Plans.{Plan}
use Rattle.capacity.specs.Order.{InTime}
use Rattle.planner.specs.Ruled.{fits_by, BestBy, PlannedBy}
use Rattle.slewing.specs.declared.directions.Leg.{Leg}
use Rattle.slewing.specs.declared.directions.Sweep.{Sweep}
use Rattle.slewing.specs.Answers.{BestSlewed}
use Rattle.slewing.specs.Directions.{legs}
use Rattle.slewing.specs.Following.{slew_automaton}
use Rattle.slewing.specs.Slewed.{slews_one, slews}
use Rattle.slewing.proofs.Meaning.{rule_means}

-- to follow nothing is good
nothing_slews : (s : Station) (k : ℕ) (bs : List Leg) → slews s k bs (replicate (length bs) 0) ≡ true
unfolding slews slews_one
nothing_slews s k [] = refl
nothing_slews s k (b ∷ bs) = nothing_slews s k bs

module _ (s : Station) (k : ℕ) (vs : List Sweep) (ps : List Pass) (few : s.dishes ≤ 4) (time : InTime ps) (long : length vs ≡ length ps) where
  -- so the automaton accepts some good plan
  pub some_plan : (room after : Plan) (o : Option ℕ) → PlannedBy (fits_by s (slew_automaton s.turn k (legs ps vs))) ps room o after → is_some o ≡ true
  some_plan room after None h =
      let nothing = replicate (length (legs ps vs)) 0 in
      absurd (both_ways _ (h.0 nothing) (sym (rule_means s k vs ps nothing few time long) ∙ nothing_slews s k (legs ps vs)))
  some_plan room after (Some w) h = refl

  -- and a best one that it accepts is a best plan with directions
  pub best_slewed : (after : Plan) (w : ℕ) → BestBy (fits_by s (slew_automaton s.turn k (legs ps vs))) ps after w → BestSlewed s k vs ps after w
  best_slewed after w h = record {
    is_good = rule_means s k vs ps after few time long ∙ h.is_good;
    worth = h.worth;
    most = λ es good. h.most es (sym (rule_means s k vs ps es few time long) ∙ good);
  }
