-- Plans that a judge finds good: there are some, and each names dishes that are there. Assumes nothing.
use Rattle.std.proofs.Common.{◌≡◌, ℕ, true, List, [], ◌∷◌, length, replicate, Some, None, Option, refl, arith}
use Rattle.std.specs.Prelude.{option_map}
use Rattle.std.proofs.lemmas.Bool.Decides.{nat_tests}
use Rattle.passes.specs.declared.model.Pass.{Pass}
use Rattle.passes.specs.declared.model.Station.{Station}
use Rattle.passes.specs.Nights.{passes_of}
use Rattle.passes.specs.Plans.{Plan, fits}
use Rattle.passes.proofs.Goodness.{fits_says}
use Rattle.capacity.specs.Order.{InTime}
use Rattle.capacity.proofs.Timing.{in_time_from_checked}
use Rattle.planner.proofs.Finite.{Numbers, idle_fits}
use Rattle.slewing.specs.declared.directions.Sweep.{Sweep}
use Rattle.slewing.specs.declared.slewings.Slewing.{Slewing}
use Rattle.slewing.specs.Directions.{legs}
use Rattle.slewing.specs.Slewed.{slews, slews_one}
use Rattle.slewing.specs.Slewings.{directed_of, good_for, each_directed, sweeps_of}
use Rattle.slewing.proofs.Without.{fits_from_slews}
use Rattle.trials.specs.declared.judges.Judge.{Judge}
use Rattle.trials.specs.Numbered.{good_of}
use Rattle.trials.proofs.Numbering.{Choosable}

-- a good plan without directions names, for each pass, a dish that is there or no dish
named : (s : Station) (ps : List Pass) (ds : Plan) → fits s ps ds ≡ true → Numbers s.dishes (length ps) ds
named s ps ds fine =
    let plan = fits_says s ps ds fine in
    record { count = plan.one_each; each = λ i l. (plan.each i l).there }

-- to follow nothing is good with directions
nothing_slews : (s : Station) (k : ℕ) (ps : List Pass) (vs : List Sweep) → slews s k (legs ps vs) (replicate (length (legs ps vs)) 0) ≡ true
unfolding legs slews slews_one
nothing_slews s k [] vs = refl
nothing_slews s k (p ∷ ps) [] = refl
nothing_slews s k (p ∷ ps) (v ∷ vs) = nothing_slews s k ps vs

choosable_for : (s : Station) (ps : List Pass) → InTime ps → (o : Option Slewing) → each_directed (length ps) o ≡ true → Choosable s ps (good_for s (option_map directed_of o))
choosable_for s ps time None each = record { some = (_, idle_fits s ps); numbers = named s ps }
choosable_for s ps time (Some v) each =
    let long : length (sweeps_of v) ≡ length ps = grind (arith, nat_tests) in
    record {
      some = (_, nothing_slews s v.step ps (sweeps_of v));
      numbers = λ ds fine. named s ps ds (fits_from_slews s v.step (sweeps_of v) ps ds time long fine);
    }

pub choosable : (j : Judge) → Choosable j.night.station (passes_of j.night) (good_of j)
choosable j = choosable_for j.night.station (passes_of j.night) (in_time_from_checked _ _ j.night.ok) j.slewing j.directed
