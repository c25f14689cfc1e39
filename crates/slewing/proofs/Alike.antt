-- With all directions the same, plans are good and worth what they are without directions. Assumes nothing.
use Rattle.std.proofs.Common.{◌≡◌, ℕ, true, List, length, sym, ◌∙◌, arith}
use Rattle.passes.specs.declared.model.Pass.{Pass}
use Rattle.passes.specs.declared.model.Station.{Station}
use Rattle.passes.specs.Checks.{checked}
use Rattle.passes.specs.Plans.{Plan, fits, Best}
use Rattle.capacity.proofs.Timing.{in_time_from_checked}
use Rattle.slewing.specs.declared.directions.Sweep.{Sweep}
use Rattle.slewing.specs.Directions.{steps}
use Rattle.slewing.specs.Slewed.{slewed}
use Rattle.slewing.specs.Statements.{AllAt, SameDirections, SameWorth}
use Rattle.slewing.proofs.Next.{NoSteps, next_from_no_steps, next_is_any}

-- there is no step from a direction to itself
no_steps : (c : ℕ) → steps c c ≡ 0
no_steps c = grind arith

-- so no seconds for steps are needed
none_needed : (k c : ℕ) (vs : List Sweep) → AllAt c vs → NoSteps k vs
none_needed k c vs same i v at_i j w at_j = rw (same i v at_i, same j w at_j, no_steps c) (omega arith)

pub same_directions : SameDirections
same_directions s k c vs ps ds one_each same = next_from_no_steps k s vs ps ds one_each (none_needed k c vs same)

-- of a list that was checked, the good plans are the same with those directions and without
slewed_is_fits : (s : Station) (k c : ℕ) (vs : List Sweep) (ps : List Pass) (ds : Plan) → checked s ps ≡ true → length vs ≡ length ps → AllAt c vs → slewed s k vs ps ds ≡ fits s ps ds
slewed_is_fits s k c vs ps ds sound one_each same =
    same_directions s k c vs ps ds one_each same ∙ next_is_any s ps ds (in_time_from_checked s ps sound)

-- a plan that is best the one way is good the other way, and worth no more than what is best there
pub same_worth : SameWorth
unfolding Best
same_worth s k c w vs ps ds es sound one_each same best best_slewed =
    let above = best.1 es (sym (slewed_is_fits s k c vs ps es sound one_each same) ∙ best_slewed.is_good) in
    let below = best_slewed.most ds (slewed_is_fits s k c vs ps ds sound one_each same ∙ best.0) in
    omega (arith, best_slewed.worth)
