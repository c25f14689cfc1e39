-- What is turned away where passes have directions, with its number and its place. Assumes nothing: these are definitions.
use Rattle.std.specs.Prelude.{ℕ, Bool, ◌&&◌, cond, List, length, Some, Option, nat_le}
use Rattle.std.specs.Option.{option_map, option_or}
use Rattle.passes.specs.Refusals as lists
use Rattle.passes.specs.Numbers.{passes_in}
use Rattle.slewing.specs.declared.directions.Sweep.{Sweep}
use Rattle.slewing.specs.declared.refusals.SlewRefusal.{SlewRefusal}
use Rattle.slewing.specs.declared.refusals.SlewRefusal.TheVariants.{Plain, BadStep, BadDirections}
use Rattle.slewing.specs.Numbers.{first_bad_sweep, are_around}

-- how many seconds a dish may take for a step
abbrev pub max_step : ℕ
max_step = 1000000

-- the number by which users know a refusal
abbrev pub number_of : SlewRefusal → ℕ
number_of (Plain why) = lists.number_of why
number_of BadStep = 5
number_of (BadDirections i) = 5

-- where the fault is: where it is without directions; 0 for the seconds for a step; or the pass
abbrev pub place_of : SlewRefusal → ℕ
place_of (Plain why) = lists.place_of why
place_of BadStep = 0
place_of (BadDirections i) = i

-- k seconds for a step, and directions of n passes as numbers, are turned away: the seconds are looked at before the directions
unfoldable pub slewing_refused : (n k : ℕ) → List ℕ → Option SlewRefusal
slewing_refused n k xs = cond (nat_le k max_step) (option_map BadDirections (first_bad_sweep n xs)) (Some BadStep)

-- the refusal that applies to all that the entry is lent: what would be refused without directions is looked at first
unfoldable pub refused_slewing : (dishes turn : ℕ) → (passes : List ℕ) → (room k : ℕ) → (sweeps : List ℕ) → Option SlewRefusal
refused_slewing dishes turn xs room k vs =
    option_or (option_map Plain (lists.refused_with_room dishes turn xs room)) (slewing_refused (length (passes_in xs)) k vs)

-- what is asked of the seconds for a step and of directions
unfoldable pub slewing_ok : (k : ℕ) → List Sweep → Bool
slewing_ok k vs = nat_le k max_step && are_around vs
