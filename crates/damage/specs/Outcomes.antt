-- What is said of how a text was answered. Assumes nothing: these are definitions.
use Rattle.std.specs.Prelude.{◌≡◌, ℕ, Bool, true, false, List, ◌==◌, Ok, Err}
use Rattle.damage.specs.declared.outcomes.Outcome.{Outcome}
use Rattle.damage.specs.declared.outcomes.Outcome.TheVariants.{Good, Wrong, TurnedAway}
use Rattle.passes.specs.Plans.{Plan}
use Rattle.planner.specs.Ruled.{BestBy}
use Rattle.slewing.specs.Slewings.{good_for}
use Rattle.text.specs.declared.faults.TurnedAway as why
use Rattle.text.specs.Lists.{NamedList}
use Rattle.text.specs.Reading.{read_text}
use Rattle.text.specs.Refusals.{number_of, place_of}

-- this is what is to be said of a text: it stands for a list of which a best plan, by its directions if it has any, is worth so much, or it is turned away
-- with this number and place. No text is planned wrongly
abbrev pub OutcomeOf : List ℕ → Outcome → Type 0
OutcomeOf text (Good worth) = (l : NamedList) × (read_text text ≡ Ok l) × ((ds : Plan) × BestBy (good_for l.station l.directed) l.passes ds worth)
OutcomeOf text Wrong = ⊥
OutcomeOf text (TurnedAway number place) = (t : why.TurnedAway) × (read_text text ≡ Err t) × (number ≡ number_of t) × (place ≡ place_of t)

-- the text was planned well
abbrev pub is_good : Outcome → Bool
is_good (Good worth) = true
is_good Wrong = false
is_good (TurnedAway number place) = false

-- the text was planned otherwise
abbrev pub is_wrong : Outcome → Bool
is_wrong (Good worth) = false
is_wrong Wrong = true
is_wrong (TurnedAway number place) = false

-- the text was turned away with number n
abbrev pub has_number : ℕ → Outcome → Bool
has_number n (Good worth) = false
has_number n Wrong = false
has_number n (TurnedAway number place) = number == n
