-- What a pass has to be worth for a best plan to follow it. Assumes nothing: these are definitions, and that any two proofs of one of them are the same.
use Rattle.std.specs.Prelude.{◌≡◌, ℕ, ◌<◌, ◌≤◌, Bool, true, false, List, slice_set}
use Rattle.passes.specs.declared.model.Pass.{Pass}
use Rattle.passes.specs.declared.model.Station.{Station}
use Rattle.passes.specs.Plans.{Plan, fits, worth_of, Best}
use Rattle.passes.specs.Rule.{nth}
use Rattle.passes.specs.Follow.{may}
use Rattle.planner.specs.Ruled.{follows, BestBy}
use Rattle.std.proofs.Props.{props}
use Rattle.sensitivity.specs.declared.needed.Needed.{Needed}
use Rattle.sensitivity.specs.declared.needed.Needed.TheVariants.{Worth, Never}

-- a pass that is worth v, and as it is otherwise
abbrev pub worth_instead : Pass → (v : ℕ) → Pass
worth_instead p v = record { from = p.from; to = p.to; worth = v; marks = p.marks }

-- a list with the worth of pass i set to v, and all else as it is
abbrev pub with_worth : List Pass → (i v : ℕ) → List Pass
with_worth ps i v = slice_set ps i (worth_instead (nth ps i) v)

-- a best plan is a good one of which none is worth more, where it is given which plans of a list are good
abbrev pub BestOf : (good : List Pass → Plan → Bool) → List Pass → Plan → Type 0
BestOf good ps ds = (good ps ds ≡ true) × ((es : Plan) → good ps es ≡ true → worth_of ps es ≤ worth_of ps ds)

-- some best plan follows pass i, where it is given which plans of a list are best
abbrev pub SomeBestFollows : (best : List Pass → Plan → Type 0) → List Pass → ℕ → Type 0
SomeBestFollows best ps i = (ds : Plan) × best ps ds × (follows ds i ≡ true)

-- some best plan doesn't follow pass i, where it is given which plans of a list are best
abbrev pub SomeBestLeavesOf : (best : List Pass → Plan → Type 0) → List Pass → ℕ → Type 0
SomeBestLeavesOf best ps i = (ds : Plan) × best ps ds × (follows ds i ≡ false)

-- some best plan of a station's night doesn't follow pass i
abbrev pub SomeBestLeaves : Station → List Pass → ℕ → Type 0
SomeBestLeaves s ps i = SomeBestLeavesOf (Best s) ps i

-- v is the needed worth of pass i: with it or any higher worth some best plan follows the pass, and with no lower one does any
pub record NeededWorth (best : List Pass → Plan → Type 0) (ps : List Pass) (i v : ℕ) : Type 0 where
  pub from_there : (w : ℕ) → v ≤ w → SomeBestFollows best (with_worth ps i w) i
  pub none_below : (w : ℕ) → w < v → SomeBestFollows best (with_worth ps i w) i → ⊥

-- no dish that is there may follow the pass
abbrev pub NoneMay : Station → Pass → Type 0
NoneMay s p = (d : ℕ) → d < s.dishes → may p d ≡ false

-- whatever pass i is worth, no good plan follows it, where it is given which plans of a list are good
abbrev pub NoneFollows : (good : List Pass → Plan → Bool) → List Pass → ℕ → Type 0
NoneFollows good ps i = (v : ℕ) (ds : Plan) → good (with_worth ps i v) ds ≡ true → follows ds i ≡ false

-- what is said of pass i is true, where it is given which plans are good and which are best
abbrev pub TrueOf : (good : List Pass → Plan → Bool) → (best : List Pass → Plan → Type 0) → List Pass → ℕ → Needed → Type 0
TrueOf good best ps i (Worth v) = NeededWorth best ps i v
TrueOf good best ps i Never = NoneFollows good ps i

-- WHAT IS SAID OF A PASS of a station's night is true: its needed worth, or that no worth would do
abbrev pub Told : Station → List Pass → ℕ → Needed → Type 0
Told s ps i needed = TrueOf (fits s) (Best s) ps i needed

-- of the good plans that follow pass i (or, where `yes` is false, of those that don't) this is one of which none is worth more, where it is given which
-- plans of a list are good
pub record BestAsked (good : List Pass → Plan → Bool) (yes : Bool) (ps : List Pass) (i : ℕ) (ds : Plan) : Type 0 where
  pub is_good : good ps ds ≡ true
  pub asked : follows ds i ≡ yes
  pub most : (es : Plan) → good ps es ≡ true → follows es i ≡ yes → worth_of ps es ≤ worth_of ps ds

-- a best plan among the good plans of a station that follow pass i
abbrev pub BestWith : Station → List Pass → ℕ → Plan → Type 0
BestWith s ps i ds = BestAsked (fits s) true ps i ds

-- a best plan among the good plans of a station that don't follow pass i
abbrev pub BestWithout : Station → List Pass → ℕ → Plan → Type 0
BestWithout s ps i ds = BestAsked (fits s) false ps i ds

-- any two proofs that a plan is a best one by a rule, worth so much, are the same
pub BestBy-prop : (good : List Pass → Plan → Bool) (ps : List Pass) (ds : Plan) (w : ℕ) → IsProp (BestBy good ps ds w)
BestBy-prop good ps ds w a b =
    let is_good : IsProp (good ps ds ≡ true) = Prim.hlevel props in
    let worth : IsProp (w ≡ worth_of ps ds) = Prim.hlevel props in
    let most : IsProp ((es : Plan) → good ps es ≡ true → worth_of ps es ≤ w) = Prim.hlevel props in
    λ t. record { is_good = is_good a.is_good b.is_good t; worth = worth a.worth b.worth t; most = most a.most b.most t }
