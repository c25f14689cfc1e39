-- What the judge may answer of a plan that has a number for each pass. Assumes nothing: these are definitions.
use Rattle.std.specs.Prelude.{◌≡◌, ℕ, ◌-◌, ◌<◌, ◌≤◌, true, false, List, length, Ok, Err, Result}
use Rattle.passes.specs.declared.judging.Fault.{Fault}
use Rattle.passes.specs.declared.judging.Fault.TheVariants.{NoSuchDish, MayNotFollow, TooNear}
use Rattle.passes.specs.declared.judging.Flaw.{Flaw}
use Rattle.passes.specs.declared.model.Pass.{Pass}
use Rattle.passes.specs.declared.model.Station.{Station}
use Rattle.passes.specs.Follow.{may}
use Rattle.passes.specs.Plans.{Plan, fits, worth_of}
use Rattle.passes.specs.Rule.{nth, says, FirstClash, SoundAt}

-- this is what is wrong with pass i of a plan; of several faults it is the first in this order, and of several other passes that are too near the first
abbrev pub WrongWith : Station → List Pass → Plan → ℕ → Fault → Type 0
WrongWith s ps ds i NoSuchDish = s.dishes < says ds i
WrongWith s ps ds i MayNotFollow = (0 < says ds i) × (says ds i ≤ s.dishes) × (may (nth ps i) (says ds i - 1) ≡ false)
WrongWith s ps ds i (TooNear j) = (0 < says ds i) × (says ds i ≤ s.dishes) × (may (nth ps i) (says ds i - 1) ≡ true) × FirstClash s ps ds i j

-- this is wrong with a pass of a plan, and nothing is with those before it
abbrev pub FirstFlaw : Station → List Pass → Plan → Flaw → Type 0
FirstFlaw s ps ds flaw = (flaw.pass < length ps) × WrongWith s ps ds flaw.pass flaw.fault × ((k : ℕ) → k < flaw.pass → SoundAt s ps ds k)

-- a verdict says of a plan what it is worth, or what is wrong with it
abbrev pub Verdict : Type 0
Verdict = Result ℕ Flaw

-- the verdict is true: the plan is good and worth so much; or it isn't, this is wrong with that pass, and nothing is with those before it
abbrev pub TrueVerdict : Station → List Pass → Plan → Verdict → Type 0
TrueVerdict s ps ds (Ok w) = (fits s ps ds ≡ true) × (w ≡ worth_of ps ds)
TrueVerdict s ps ds (Err flaw) = (fits s ps ds ≡ false) × FirstFlaw s ps ds flaw
