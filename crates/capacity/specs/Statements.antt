-- Statements about the definitions. Each is proved: a function of src/laws.rt has it as its contract. Assumes nothing.
use Rattle.std.specs.Prelude.{ℕ, ◌≤◌, List}
use Rattle.passes.specs.declared.model.Pass.{Pass}
use Rattle.passes.specs.declared.model.Station.{Station}
use Rattle.passes.specs.Busy.{busy}
use Rattle.passes.specs.Plans.{Plan}
use Rattle.capacity.specs.Assignments.{AllOpen, FollowsAll}
use Rattle.capacity.specs.Order.{EachEnds}

-- passes that all dishes may follow, in whatever order they stand in the list, can all be followed exactly if in no second more of them hold a
-- dish, in progress or being turned from, than there are dishes
abbrev pub AllCanBeFollowed : Type 0
AllCanBeFollowed =
    (s : Station) (ps : List Pass) → EachEnds ps → AllOpen s.dishes ps →
    (((x : ℕ) → busy s.turn ps x ≤ s.dishes) → (ds : Plan) × FollowsAll s ps ds)
    × (((ds : Plan) × FollowsAll s ps ds) → (x : ℕ) → busy s.turn ps x ≤ s.dishes)
