-- Statements about the definitions. Each is proved: a function of src/laws.rt has it as its contract. Assumes nothing.
use Rattle.std.specs.Prelude.{◌≡◌, ℕ, ◌+◌, ◌-◌, ◌<◌, ◌≤◌, Bool, true, false, ◌&&◌, ◌||◌, List, [], ◌∷◌, length, ◌==◌, nat_le, slice_get, Some, if◌then◌else◌}
use Rattle.passes.specs.declared.model.Pass.{Pass}
use Rattle.passes.specs.declared.model.Station.{Station}
use Rattle.passes.specs.Checks.{checked}
use Rattle.passes.specs.Follow.{may}
use Rattle.passes.specs.Plans.{Plan, fits, worth_of, Best}
use Rattle.passes.specs.Rule.{says}
use Rattle.capacity.specs.Order.{InTime}
use Rattle.planner.specs.Ruled.{fits_by}
use Rattle.slewing.specs.declared.directions.Sweep.{Sweep}
use Rattle.slewing.specs.Answers.{BestSlewed}
use Rattle.slewing.specs.declared.directions.Leg.{Leg}
use Rattle.slewing.specs.Directions.{legs, in_time}
use Rattle.slewing.specs.Following.{slew_automaton, max_dishes}
use Rattle.slewing.specs.Slewed.{slews, slewed}

-- THE RULE AND THE AUTOMATON: of a list in order of time, the plans that are good with directions are the plans of a station of up to four dishes that are
-- good without and that the automaton accepts
abbrev pub RuleMeans : Type 0
RuleMeans =
    (s : Station) (k : ℕ) (vs : List Sweep) (ps : List Pass) (ds : Plan) → s.dishes ≤ max_dishes → InTime ps → length vs ≡ length ps →
    slewed s k vs ps ds ≡ fits_by s (slew_automaton s.turn k (legs ps vs)) ps ds

-- i is the pass of a plan before pass j that has the same dish
pub record IsBefore (ds : Plan) (i j : ℕ) : Type 0 where
  pub before : i < j
  pub followed : 0 < says ds i
  pub same_dish : says ds i ≡ says ds j
  pub none_between : (m : ℕ) → i < m → m < j → says ds m ≡ says ds i → ⊥

-- nothing is wrong with pass j of a plan: if it is followed, its dish is there and may follow it, and is in time from the pass before it that has that dish
pub record SlewsAt (s : Station) (k : ℕ) (bs : List Leg) (ds : Plan) (j : ℕ) (b : Leg) : Type 0 where
  pub there : says ds j ≤ s.dishes
  pub hears : 0 < says ds j → may b.pass (says ds j - 1) ≡ true
  pub on_time : (i : ℕ) (a : Leg) → slice_get bs i ≡ Some a → IsBefore ds i j → in_time s.turn k a b ≡ true

-- a good plan has a number for each pass, and nothing is wrong with any
pub record GoodSlewed (s : Station) (k : ℕ) (bs : List Leg) (ds : Plan) : Type 0 where
  pub one_each : length ds ≡ length bs
  pub each : (j : ℕ) (b : Leg) → slice_get bs j ≡ Some b → SlewsAt s k bs ds j b

-- the test for good plans says the rule pass by pass
abbrev pub TestIsRule : Type 0
TestIsRule =
    (s : Station) (k : ℕ) (bs : List Leg) (ds : Plan) →
    (slews s k bs ds ≡ true → GoodSlewed s k bs ds) × (GoodSlewed s k bs ds → slews s k bs ds ≡ true)

-- of a list in order of time, a plan that is good with directions is good without
abbrev pub GoodWithout : Type 0
GoodWithout =
    (s : Station) (k : ℕ) (vs : List Sweep) (ps : List Pass) (ds : Plan) → InTime ps → length vs ≡ length ps → slewed s k vs ps ds ≡ true → fits s ps ds ≡ true

-- all these passes begin and end at the direction c
abbrev pub AllAt : ℕ → List Sweep → Type 0
AllAt c vs = (i : ℕ) (v : Sweep) → slice_get vs i ≡ Some v → v ≡ record { begin = c; end = c }

-- the next of these passes that dish d follows, as plans call it, begins t seconds after the pass p ends, or later
unfoldable pub leaves_turning : (t : ℕ) → Pass → ℕ → List Pass → Plan → Bool
leaves_turning t p d [] ds = true
leaves_turning t p d (q ∷ qs) [] = true
leaves_turning t p d (q ∷ qs) (e ∷ ds) = if d == e then nat_le (p.to + t) q.from else leaves_turning t p d qs ds

-- a plan in which dishes are there and may follow their passes, and each pass and the next one of its dish leave the station's turning time
unfoldable pub each_and_next : Station → List Pass → Plan → Bool
each_and_next s [] [] = true
each_and_next s [] (d ∷ ds) = false
each_and_next s (p ∷ ps) [] = false
each_and_next s (p ∷ ps) (d ∷ ds) = (d == 0 || (nat_le d s.dishes && (may p (d - 1) && leaves_turning s.turn p d ps ds))) && each_and_next s ps ds

-- with all directions the same, a plan is good exactly if each pass and the next one of its dish leave the station's turning time
abbrev pub SameDirections : Type 0
SameDirections =
    (s : Station) (k c : ℕ) (vs : List Sweep) (ps : List Pass) (ds : Plan) → length vs ≡ length ps → AllAt c vs → slewed s k vs ps ds ≡ each_and_next s ps ds

-- and of a list in order of time, that are the plans that are good without directions
abbrev pub NextIsAny : Type 0
NextIsAny = (s : Station) (ps : List Pass) (ds : Plan) → InTime ps → each_and_next s ps ds ≡ fits s ps ds

-- so with all directions the same a best plan is worth what a best plan without directions is
abbrev pub SameWorth : Type 0
SameWorth =
    (s : Station) (k c w : ℕ) (vs : List Sweep) (ps : List Pass) (ds es : Plan) → checked s ps ≡ true → length vs ≡ length ps → AllAt c vs →
    Best s ps ds → BestSlewed s k vs ps es w → w ≡ worth_of ps ds

-- more seconds for a step never make a best plan worth more
abbrev pub MoreSeconds : Type 0
MoreSeconds =
    (s : Station) (k m w x : ℕ) (vs : List Sweep) (ps : List Pass) (ds es : Plan) → k ≤ m → BestSlewed s k vs ps ds w → BestSlewed s m vs ps es x → x ≤ w

-- the pass a leaves the time to turn to every one of these that dish d follows, and not to the next one alone
unfoldable pub reaches_all : (t k : ℕ) → Leg → ℕ → List Leg → Plan → Bool
reaches_all t k a d [] ds = true
reaches_all t k a d (b ∷ bs) [] = true
reaches_all t k a d (b ∷ bs) (e ∷ es) = (if d == e then in_time t k a b else true) && reaches_all t k a d bs es

-- another rule, which looks at any two passes of a dish
unfoldable pub any_two : (t k : ℕ) → List Leg → Plan → Bool
any_two t k [] ds = true
any_two t k (a ∷ bs) [] = true
any_two t k (a ∷ bs) (d ∷ ds) = (d == 0 || reaches_all t k a d bs ds) && any_two t k bs ds

-- to look at any two passes is not to look at each and the next: there is a list in order, with directions, and a plan that is good by the rule and not by
-- the other one
pub record AnyTwoDiffers : Type 0 where
  pub station : Station
  pub step : ℕ
  pub passes : List Pass
  pub sweeps : List Sweep
  pub plan : Plan
  pub sound : checked station passes ≡ true
  pub one_each : length sweeps ≡ length passes
  pub good : slewed station step sweeps passes plan ≡ true
  pub other : any_two station.turn step (legs passes sweeps) plan ≡ false
