-- What the entry answers, and what it leaves. Assumes nothing: these are definitions.
use Rattle.std.specs.Prelude.{◌≡◌, ℕ, List, Some, None, Option, Ok, Err, Result}
use Rattle.passes.specs.declared.model.Pass.{Pass}
use Rattle.passes.specs.declared.model.Station.{Station}
use Rattle.passes.specs.declared.refusals.Refusal.{Refusal}
use Rattle.passes.specs.Plans.{Plan, worth_of, Best}
use Rattle.passes.specs.Refusals.{number_of}
use Rattle.planner.specs.declared.planning.Done.{Done}
use Rattle.planner.specs.declared.planning.Done.TheVariants.{Planned, Refused}

-- what the entry answers where this came of planning
abbrev pub done_of : Result ℕ Refusal → Done
done_of (Ok worth) = Planned worth
done_of (Err why) = Refused (number_of why)

-- THE MAIN PROMISE. Where no refusal applies, the room holds a best plan, and its worth is answered; where one does, its number is answered, and the
-- room is as it was
abbrev pub DoneSays : Option Refusal → Station → List Pass → (room : Plan) → Done → (after : Plan) → Type 0
DoneSays None s ps room done after = Best s ps after × (done ≡ Planned (worth_of ps after))
DoneSays (Some why) s ps room done after = (done ≡ Refused (number_of why)) × (after ≡ room)
