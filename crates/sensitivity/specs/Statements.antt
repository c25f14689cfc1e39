-- Statements about the definitions. Each is proved: a function of src/laws.rt has it as its contract. Assumes nothing.
use Rattle.std.specs.Prelude.{◌≡◌, ℕ, ◌+◌, ◌-◌, ◌<◌, ◌≤◌, Bool, List, length, true}
use Rattle.passes.specs.declared.model.Pass.{Pass}
use Rattle.passes.specs.declared.model.Station.{Station}
use Rattle.passes.specs.Checks.{checked}
use Rattle.passes.specs.Plans.{Plan, fits, worth_of, Best}
use Rattle.passes.specs.Rule.{nth}
use Rattle.sensitivity.specs.declared.needed.Needed.{Needed}
use Rattle.sensitivity.specs.declared.needed.Needed.TheVariants.{Never}
use Rattle.sensitivity.specs.Needing.{with_worth, SomeBestFollows, Told, NeededWorth, NoneFollows, BestWith, BestWithout, NoneMay, SomeBestLeaves, TrueOf, BestOf}

-- the needed worth of a pass is the least with which some best plan follows it, so a pass has no two
abbrev pub OnlyOne : Type 0
OnlyOne = (s : Station) (ps : List Pass) (i v w : ℕ) → NeededWorth (Best s) ps i v → NeededWorth (Best s) ps i w → v ≡ w

-- the needed worth is at most what the pass is worth exactly if some best plan follows the pass
abbrev pub AsWell : Type 0
AsWell =
    (s : Station) (ps : List Pass) (i v : ℕ) → i < length ps → NeededWorth (Best s) ps i v →
    (v ≤ (nth ps i).worth → SomeBestFollows (Best s) ps i) × (SomeBestFollows (Best s) ps i → v ≤ (nth ps i).worth)

-- pass i can lose so much: lowered by it, it is still followed by some best plan; lowered by one more, where it is worth that much, by none
pub record CanLose (s : Station) (ps : List Pass) (i less : ℕ) : Type 0 where
  pub has_it : less ≤ (nth ps i).worth
  pub followed : SomeBestFollows (Best s) (with_worth ps i ((nth ps i).worth - less)) i
  pub no_more : less < (nth ps i).worth → SomeBestFollows (Best s) (with_worth ps i ((nth ps i).worth - (less + 1))) i → ⊥

-- a pass that some best plan follows can lose the difference between its worth and its needed worth
abbrev pub Lowered : Type 0
Lowered =
    (s : Station) (ps : List Pass) (i v : ℕ) → i < length ps → NeededWorth (Best s) ps i v → SomeBestFollows (Best s) ps i →
    CanLose s ps i ((nth ps i).worth - v)

-- whatever a pass is worth, no good plan follows it exactly if no dish that is there may
abbrev pub NoDish : Type 0
NoDish =
    (s : Station) (ps : List Pass) (i : ℕ) → i < length ps →
    (NoneFollows (fits s) ps i → NoneMay s (nth ps i)) × (NoneMay s (nth ps i) → NoneFollows (fits s) ps i)

-- what is said of a pass, and is true, is never exactly if no good plan follows the pass, whatever it is worth
abbrev pub NeverExactly : Type 0
NeverExactly =
    (s : Station) (ps : List Pass) (i : ℕ) (n : Needed) → Told s ps i n →
    (n ≡ Never → NoneFollows (fits s) ps i) × (NoneFollows (fits s) ps i → n ≡ Never)

-- where a pass needs just what it is worth, some best plan doesn't follow it
abbrev pub LeavesAsWell : Type 0
LeavesAsWell =
    (s : Station) (ps : List Pass) (i : ℕ) → i < length ps → NeededWorth (Best s) ps i (nth ps i).worth → SomeBestLeaves s ps i

-- what a pass needs is what a best plan without it is worth, less what a best plan among those that follow it earns with the others
abbrev pub Difference : Type 0
Difference =
    (s : Station) (ps : List Pass) (i v : ℕ) (ds es : Plan) → i < length ps → NeededWorth (Best s) ps i v → BestWithout s ps i ds → BestWith s ps i es →
    v + worth_of (with_worth ps i 0) es ≡ worth_of ps ds

-- a needed worth of a list that passes the checks is at most 48,000,000, and so below the number for never
abbrev pub BelowNever : Type 0
BelowNever = (s : Station) (ps : List Pass) (i v : ℕ) → checked s ps ≡ true → i < length ps → NeededWorth (Best s) ps i v → v ≤ 48000000

-- where two notions of good plans agree on a list, whatever its pass i is worth, what is true of the pass by the one is true by the other
abbrev pub ToldAlike : Type 0
ToldAlike =
    (good good₁ : List Pass → Plan → Bool) (ps : List Pass) (i : ℕ) →
    ((v : ℕ) (ds : Plan) → good (with_worth ps i v) ds ≡ good₁ (with_worth ps i v) ds) →
    (n : Needed) → TrueOf good (BestOf good) ps i n → TrueOf good₁ (BestOf good₁) ps i n
