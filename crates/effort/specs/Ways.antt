-- How many states are visited. Assumes nothing: these are definitions.
use Rattle.std.specs.Prelude.{◌≡◌, ℕ, ⊤}
use Rattle.effort.specs.declared.times.Way.{Way}
use Rattle.effort.specs.declared.times.Way.TheVariants.{OneDish}

-- so many states may be visited by the way of planning: none by the one that doesn't search
abbrev pub VisitsBy : Way → ℕ → Type 0
VisitsBy OneDish n = n ≡ 0
VisitsBy _ n = ⊤
