-- What is asked of a station and of a list of passes. Assumes nothing: these are definitions.
use Rattle.std.specs.Prelude.{ℕ, Bool, true, ◌&&◌, List, [], ◌∷◌, length, nat_le, nat_lt}
use Rattle.passes.specs.declared.model.Pass.{Pass}
use Rattle.passes.specs.declared.model.Station.{Station}

-- how many passes a list may have
abbrev pub max_passes : ℕ
max_passes = 48

-- the last second in which a pass may end
abbrev pub max_second : ℕ
max_second = 1000000

-- how much a pass may be worth
abbrev pub max_worth : ℕ
max_worth = 1000000

-- the marks of dishes 0 to 3 together
abbrev pub max_marks : ℕ
max_marks = 15

-- a station has 1 to 4 dishes
unfoldable pub dishes_ok : ℕ → Bool
dishes_ok k = nat_le 1 k && nat_le k 4

-- a dish takes at most 100,000 seconds to turn
unfoldable pub turning_ok : ℕ → Bool
turning_ok t = nat_le t 100000

-- the pass ends after it begins, and no later than it may, is worth no more than it may be, and has marks of dishes 0 to 3 alone
unfoldable pub in_range : Pass → Bool
in_range p = nat_lt p.from p.to && (nat_le p.to max_second && (nat_le p.worth max_worth && nat_le p.marks max_marks))

-- each pass of a list is in range
unfoldable pub all_in_range : List Pass → Bool
all_in_range [] = true
all_in_range (p ∷ ps) = in_range p && all_in_range ps

-- no pass of a list begins before the one before it
unfoldable pub sorted : List Pass → Bool
sorted [] = true
sorted (p ∷ []) = true
sorted (p ∷ (q ∷ ps)) = nat_le p.from q.from && sorted (q ∷ ps)

-- all that is asked of a station and its passes
unfoldable pub checked : Station → List Pass → Bool
checked s ps = dishes_ok s.dishes && (turning_ok s.turn && (nat_le (length ps) max_passes && (all_in_range ps && sorted ps)))
