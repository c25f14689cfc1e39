-- Good plans where dishes take time for each step between directions. Assumes nothing: these are definitions.
use Rattle.std.specs.Prelude.{ℕ, ◌-◌, Bool, true, false, ◌&&◌, ◌||◌, List, [], ◌∷◌, ◌==◌, nat_le, if◌then◌else◌}
use Rattle.passes.specs.declared.model.Pass.{Pass}
use Rattle.passes.specs.declared.model.Station.{Station}
use Rattle.passes.specs.Follow.{may}
use Rattle.passes.specs.Plans.{Plan}
use Rattle.slewing.specs.declared.directions.Sweep.{Sweep}
use Rattle.slewing.specs.declared.directions.Leg.{Leg}
use Rattle.slewing.specs.Directions.{legs, in_time}

-- the next of these passes that dish d follows, as plans call it, begins no sooner than the dish is there, from the pass a
unfoldable pub reaches_next : (t k : ℕ) → Leg → ℕ → List Leg → Plan → Bool
reaches_next t k a d [] ds = true
reaches_next t k a d (b ∷ bs) [] = true
reaches_next t k a d (b ∷ bs) (e ∷ es) = if d == e then in_time t k a b else reaches_next t k a d bs es

-- the pass a is not followed; or its dish is there, may follow it, and is in time for the next pass that it follows
unfoldable pub slews_one : Station → (k : ℕ) → Leg → ℕ → List Leg → Plan → Bool
slews_one s k a d bs ds = d == 0 || (nat_le d s.dishes && (may a.pass (d - 1) && reaches_next s.turn k a d bs ds))

-- THE RULE: the plan is good where dishes take k seconds for each step, besides the station's turning
unfoldable pub slews : Station → (k : ℕ) → List Leg → Plan → Bool
slews s k [] [] = true
slews s k [] (d ∷ ds) = false
slews s k (a ∷ bs) [] = false
slews s k (a ∷ bs) (d ∷ ds) = slews_one s k a d bs ds && slews s k bs ds

-- the same for a list of passes and a list of their directions
abbrev pub slewed : Station → (k : ℕ) → List Sweep → List Pass → Plan → Bool
slewed s k vs ps ds = slews s k (legs ps vs) ds
