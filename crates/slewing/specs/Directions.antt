-- Directions around, and the time that a dish needs from one pass to the next. Assumes nothing: these are definitions.
use Rattle.std.specs.Prelude.{ℕ, ◌+◌, ◌-◌, ◌*◌, Bool, List, [], ◌∷◌, min, nat_le}
use Rattle.passes.specs.declared.model.Pass.{Pass}
use Rattle.slewing.specs.declared.directions.Leg.{Leg}
use Rattle.slewing.specs.declared.directions.Sweep.{Sweep}

-- how many directions there are around, numbered from 0
abbrev pub all_around : ℕ
all_around = 64

-- how many steps lie between two directions by their numbers, which is one way round
abbrev pub one_way : ℕ → ℕ → ℕ
one_way a b = (a - b) + (b - a)

-- the steps between two directions, the shorter way round: so many one way, and the rest of all the other way
abbrev pub steps : ℕ → ℕ → ℕ
steps a b = min (one_way a b) (all_around - one_way a b)

-- passes with their directions, one after the other, up to the end of the shorter list
unfoldable pub legs : List Pass → List Sweep → List Leg
legs [] vs = []
legs (p ∷ ps) [] = []
legs (p ∷ ps) (v ∷ vs) = record { pass = p; sweep = v } ∷ legs ps vs

-- a dish that was at the direction `at` in the second x, and takes t seconds to turn and k more for each step, is there when the pass begins
abbrev pub arrives : (t k x at : ℕ) → Leg → Bool
arrives t k x at b = nat_le (x + (t + k * steps at b.sweep.begin)) b.pass.from

-- the same for a dish that comes from the end of another pass
abbrev pub in_time : (t k : ℕ) → (from to : Leg) → Bool
in_time t k a b = arrives t k a.pass.to a.sweep.end b
