-- Plans by their numbers, and what the best of all is worth. Assumes nothing: these are definitions.
use Rattle.std.specs.Prelude.{ℕ, zero, suc, ◌+◌, ◌/◌, ◌%◌, ◌^◌, ◌≤◌, List, [], ◌∷◌, length, Option, option_map, MatchOption, Bool}
use Rattle.passes.specs.declared.model.Pass.{Pass}
use Rattle.passes.specs.declared.model.Station.{Station}
use Rattle.passes.specs.Plans.{Plan}
use Rattle.planner.specs.Ruled.{BestBy}
use Rattle.slewing.specs.Slewings.{directed_of, good_for}
use Rattle.trials.specs.declared.judges.Judge.{Judge}

-- the plan of n passes that a number stands for: its n last digits in a base, the last digit first
unfoldable pub plan_numbered : (base number : ℕ) → (n : ℕ) → Plan
plan_numbered base number zero = []
plan_numbered base number (suc n) = number % base ∷ plan_numbered base (number / base) n

-- how many plans of a list name, for each pass, a dish that is there or no dish
abbrev pub plans_of : Station → List Pass → ℕ
plans_of s ps = (s.dishes + 1) ^ length ps

-- some best plan is worth w, where it is given which plans of a list are good
abbrev pub BestWorthBy : (good : List Pass → Plan → Bool) → List Pass → ℕ → Type 0
BestWorthBy good ps w = (ds : Plan) × BestBy good ps ds w

-- what a best plan is worth, where it is given which are good; or there are more plans than 64 bits count
abbrev pub MostOfAll : (good : List Pass → Plan → Bool) → Station → List Pass → Option ℕ → Type 0
MostOfAll good s ps most = MatchOption most (2 ^ 64 ≤ plans_of s ps) (BestWorthBy good ps)

-- which plans are good by what a judge goes by: the night's rule, and directions if there are any
abbrev pub good_of : Judge → List Pass → Plan → Bool
good_of j = good_for j.night.station (option_map directed_of j.slewing)
