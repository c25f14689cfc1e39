-- How long a dish turns after a pass that it follows. Assumes nothing: these are definitions.
use Rattle.std.specs.Prelude.{ℕ, ◌+◌, ◌*◌, cond, List, [], ◌∷◌, drop, Some, None, Option, ◌==◌, slice_index_or}
use Rattle.passes.specs.Plans.{Plan}
use Rattle.passes.specs.Rule.{says}
use Rattle.slewing.specs.declared.directions.Sweep.{Sweep}
use Rattle.slewing.specs.Directions.{steps}
use Rattle.slewing.specs.Slewings.{Directed}
use Rattle.drawing.specs.Shown.{Shown}

-- what stands for the directions of a pass that isn't there
abbrev pub no_sweep : Sweep
no_sweep = record { begin = 0; end = 0 }

-- the directions of pass i
abbrev pub sweep_of : List Sweep → ℕ → Sweep
sweep_of vs i = slice_index_or vs i no_sweep

-- the seconds that a dish takes from the direction `at` to where the first of these passes begins that it follows, d as plans call it; 0 if it follows
-- none of them
unfoldable pub to_next : (step d at : ℕ) → List Sweep → Plan → ℕ
to_next step d at [] ds = 0
to_next step d at (v ∷ vs) [] = 0
to_next step d at (v ∷ vs) (e ∷ es) = cond (e == d) (step * steps at v.begin) (to_next step d at vs es)

-- the seconds that the dish of pass i takes from where the pass ends to where the next one begins that the dish follows; without directions none
unfoldable pub slewing_after : Option Directed → Plan → ℕ → ℕ
slewing_after None ds i = 0
slewing_after (Some s) ds i = to_next s.step (says ds i) (sweep_of s.sweeps i).end (drop (i + 1) s.sweeps) (drop (i + 1) ds)

-- what is drawn as turning after pass i: the station's turning time, and besides what its dish takes to the next pass; nothing turns after a pass that
-- isn't followed
unfoldable pub turning_after : Shown → ℕ → ℕ
turning_after shown i = cond (says shown.plan i == 0) 0 (shown.station.turn + slewing_after shown.directed shown.plan i)
