-- Which directions are of a kind. Assumes nothing: these are definitions.
use Rattle.std.specs.Prelude.{◌≡◌, ℕ, ◌<◌, ◌≤◌, List, [], ◌∷◌, ⊤, All, Contains}
use Rattle.trials.specs.declared.kinds.Kind.{Kind}
use Rattle.trials.specs.declared.kinds.Kind.TheVariants.{SecondsApart, HoursApart}
use Rattle.trials.specs.declared.ways.Way.{Way}
use Rattle.trials.specs.declared.ways.Way.TheVariants.{LongSteps, HalfAround, AllTheSame}

-- of which kind the passes are
abbrev pub kind_of : Way → Kind
kind_of LongSteps = HoursApart
kind_of _ = SecondsApart

-- how many seconds a step may take
abbrev pub StepOf : Way → ℕ → Type 0
StepOf LongSteps k = 100 ≤ k
StepOf _ k = (1 ≤ k) × (k ≤ 5)

-- directions next to the first one, and next to the one half around from it
abbrev pub next_to : List ℕ
next_to = 0 ∷ (31 ∷ (32 ∷ (33 ∷ (63 ∷ []))))

-- which directions there may be in a list for which c was drawn beforehand
abbrev pub DirectionOf : Way → (c d : ℕ) → Type 0
DirectionOf HalfAround c d = Contains next_to d
DirectionOf AllTheSame c d = d ≡ c
DirectionOf _ c d = ⊤

-- the number is one of such a direction
abbrev pub Drawn : Way → (c d : ℕ) → Type 0
Drawn way c d = (d < 64) × DirectionOf way c d

-- k seconds for a step, and directions, are of the kind
pub record HeadingsOf (way : Way) (k : ℕ) (vs : List ℕ) : Type 0 where
  pub step : StepOf way k
  pub drawn : ℕ
  pub each : All (Drawn way drawn) vs
