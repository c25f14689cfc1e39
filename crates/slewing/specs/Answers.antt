-- What planning with directions answers, and what it leaves. Assumes nothing: these are definitions.
use Rattle.std.specs.Prelude.{◌≡◌, ℕ, List, Some, None, Option}
use Rattle.passes.specs.declared.model.Pass.{Pass}
use Rattle.passes.specs.declared.model.Station.{Station}
use Rattle.passes.specs.Plans.{Plan, worth_of}
use Rattle.planner.specs.declared.planning.Done.{Done}
use Rattle.planner.specs.declared.planning.Done.TheVariants.{Planned, Refused}
use Rattle.planner.specs.Ruled.{BestBy}
use Rattle.slewing.specs.declared.directions.Sweep.{Sweep}
use Rattle.slewing.specs.declared.refusals.SlewRefusal.{SlewRefusal}
use Rattle.slewing.specs.Refusals.{number_of}
use Rattle.slewing.specs.Slewed.{slewed}

-- a best plan where dishes take k seconds for each step, and it is worth w: it is good, and no good one is worth more
abbrev pub BestSlewed : Station → (k : ℕ) → List Sweep → List Pass → Plan → (w : ℕ) → Type 0
BestSlewed s k vs ps ds w = BestBy (slewed s k vs) ps ds w

-- THE PROMISE. Where no refusal applies, the room holds a best plan, and its worth is answered; where one does, its number is answered, and the room is as
-- it was
abbrev pub SlewingSays : Option SlewRefusal → Station → (k : ℕ) → List Sweep → List Pass → (room : Plan) → Done → (after : Plan) → Type 0
SlewingSays None s k vs ps room done after = BestSlewed s k vs ps after (worth_of ps after) × (done ≡ Planned (worth_of ps after))
SlewingSays (Some why) s k vs ps room done after = (done ≡ Refused (number_of why)) × (after ≡ room)
