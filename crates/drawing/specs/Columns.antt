-- Where a second stands on a scale, as in a row of 64 columns or in a drawing. Assumes nothing: these are definitions.
use Rattle.std.specs.Prelude.{ℕ, ◌-◌, ◌*◌, ◌/◌, List, [], ◌∷◌, min, max}
use Rattle.std.specs.List.{fold}
use Rattle.passes.specs.declared.model.Pass.{Pass}
use Rattle.drawing.specs.declared.scale.Scale.{Scale}

-- how many columns a row has for time
abbrev pub columns : ℕ
columns = 64

-- the second in which the first pass begins, or 0 where there is none
abbrev pub first_second : List Pass → ℕ
first_second [] = 0
first_second (p ∷ ps) = p.from

-- the last second in which a pass ends, or 0 where there is none
abbrev pub last_second : List Pass → ℕ
last_second ps = fold (λ s p. max s p.to) 0 ps

-- the scale of a list of passes goes from the first begin to the last end
abbrev pub scale_of : List Pass → Scale
scale_of ps = record { first = first_second ps; last = last_second ps }

-- how many seconds a scale has, at least one
abbrev pub seconds_of : Scale → ℕ
seconds_of s = max 1 (s.last - s.first)

-- the column of the second t, of k columns that a scale has; k for what comes after its last second
abbrev pub place_on : ℕ → Scale → ℕ → ℕ
place_on k s t = min k ((t - s.first) * k / seconds_of s)
