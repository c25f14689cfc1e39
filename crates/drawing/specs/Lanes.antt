-- What both pictures say of a night: its heading, and its lanes. Assumes nothing: these are definitions.
use Rattle.std.specs.Prelude.{ℕ, ◌-◌, cond, List, [], ◌∷◌, ◌++◌, ◌==◌, length, codes, Some, None, Option}
use Rattle.std.specs.Fmt.{decimal}
use Rattle.std.specs.List.{range_with_len}
use Rattle.slewing.specs.Slewings.{Directed}
use Rattle.drawing.specs.Shown.{Shown}

-- what is told of the seconds for a step, if there are directions
unfoldable pub step_told : Option Directed → List ℕ
step_told None = []
step_told (Some s) = codes ", step " ++ decimal s.step

-- the heading of a picture: what the plan is worth, the station, with directions the seconds for a step, and how many passes there are
abbrev pub heading : Shown → List ℕ
heading shown =
    codes "worth " ++ (decimal shown.worth ++ (codes ", dishes " ++ (decimal shown.station.dishes ++
    (codes ", turn " ++ (decimal shown.station.turn ++
    (step_told shown.directed ++ (codes ", passes " ++ decimal (length shown.passes))))))))

-- what a lane is called
abbrev pub lane_name : ℕ → List ℕ
lane_name d = cond (d == 0) (codes "not followed") (codes "dish " ++ decimal (d - 1))

-- the lanes of a picture: one for each dish, and then the one of the passes that aren't followed
abbrev pub lanes : Shown → List ℕ
lanes shown = range_with_len 1 shown.station.dishes ++ 0 ∷ []
