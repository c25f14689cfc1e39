-- Plans by a rule: good plans that the rule accepts, and the best of them. Assumes nothing: these are definitions.
use Rattle.std.specs.Prelude.{◌≡◌, ℕ, ◌≤◌, Bool, true, false, ◌&&◌, List, Some, None, Option, nat_lt}
use Rattle.engine.specs.Rules.{Automaton, accepts}
use Rattle.passes.specs.declared.model.Pass.{Pass}
use Rattle.passes.specs.declared.model.Station.{Station}
use Rattle.passes.specs.Plans.{Plan, fits, worth_of}
use Rattle.passes.specs.Rule.{says}
use Rattle.planner.specs.Dishes.{fits_each}

-- what a plan says of a pass is that it is followed, and not 0
abbrev pub is_followed : ℕ → Bool
is_followed d = nat_lt 0 d

-- the plan follows pass i
abbrev pub follows : Plan → ℕ → Bool
follows ds i = is_followed (says ds i)

-- the plan is good, where each dish takes its own time to turn, and the rule accepts it
abbrev pub good_by : {T : Type 0} → (turns : List ℕ) → Automaton T → List Pass → Plan → Bool
good_by turns r ps ds = fits_each turns ps ds && accepts r ds

-- the plan is good for the station, and the rule accepts it
abbrev pub fits_by : {T : Type 0} → Station → Automaton T → List Pass → Plan → Bool
fits_by s r ps ds = fits s ps ds && accepts r ds

-- of the good plans this is one of which none is worth more, and it is worth w, where it is given which plans of a list are good
pub record BestBy (good : List Pass → Plan → Bool) (ps : List Pass) (ds : Plan) (w : ℕ) : Type 0 where
  pub is_good : good ps ds ≡ true
  pub worth : w ≡ worth_of ps ds
  pub most : (es : Plan) → good ps es ≡ true → worth_of ps es ≤ w

-- what planning by a rule answers, and what is in the room then: no plan is good by it, and the room is as it was; or a best plan, and its worth
abbrev pub PlannedBy : (good : List Pass → Plan → Bool) → List Pass → (room : Plan) → Option ℕ → (after : Plan) → Type 0
PlannedBy good ps room None after = ((ds : Plan) → good ps ds ≡ false) × (after ≡ room)
PlannedBy good ps room (Some w) after = BestBy good ps after w
