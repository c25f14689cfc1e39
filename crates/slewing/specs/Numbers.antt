-- Directions as a list of numbers, and which of them are at fault. Assumes nothing: these are definitions.
use Rattle.std.specs.Prelude.{ℕ, ◌+◌, ◌*◌, ◌/◌, Bool, true, ◌&&◌, List, [], ◌∷◌, length, max, Option, nat_le, nat_lt, slice_index}
use Rattle.passes.specs.Numbers.{first_failing}
use Rattle.slewing.specs.declared.directions.Sweep.{Sweep}
use Rattle.slewing.specs.Directions.{all_around}

-- the directions of passes that a list of numbers stands for, two to a pass: where it begins and where it ends
unfoldable pub sweeps_in : List ℕ → List Sweep
sweeps_in [] = []
sweeps_in (a ∷ []) = []
sweeps_in (a ∷ (b ∷ xs)) = record { begin = a; end = b } ∷ sweeps_in xs

-- the two numbers of pass i
abbrev pub sweep_at : List ℕ → ℕ → Sweep
sweep_at xs i = record { begin = slice_index xs (2 * i); end = slice_index xs (2 * i + 1) }

-- both are directions
unfoldable pub is_around : Sweep → Bool
is_around v = nat_lt v.begin all_around && nat_lt v.end all_around

-- nothing is wrong with the directions of pass i, where there are n passes: it is one of them, and has its two numbers, which are directions
unfoldable pub sound_sweep : ℕ → List ℕ → ℕ → Bool
sound_sweep n xs i = nat_lt i n && (nat_le (2 * i + 2) (length xs) && is_around (sweep_at xs i))

-- the first of n passes whose directions are at fault, if any are; one that isn't there has some if there are too many numbers
unfoldable pub first_bad_sweep : ℕ → List ℕ → Option ℕ
first_bad_sweep n xs = first_failing (sound_sweep n xs) 0 (max n ((length xs + 1) / 2))

-- all numbers in a list of directions are below 64
unfoldable pub are_around : List Sweep → Bool
are_around [] = true
are_around (v ∷ vs) = is_around v && are_around vs
