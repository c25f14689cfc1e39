-- Passes with their directions, one by one. Assumes nothing.
use Rattle.std.proofs.Common.{◌≡◌, ℕ, zero, suc, ◌<◌, ◌≤◌, List, [], ◌∷◌, length, Some, None, Option, get_or, refl, sym, ap, ◌∙◌, arith}
use Rattle.std.proofs.lemmas.Option.{slice_get_within, get_or_from_slice_get}
use Rattle.passes.specs.Rule.{nth, no_pass}
use Rattle.capacity.specs.Order.{InTime}
use Rattle.std.specs.Prelude.{option_map, option_and_then, slice_get}
use Rattle.passes.specs.declared.model.Pass.{Pass}
use Rattle.slewing.specs.declared.directions.Sweep.{Sweep}
use Rattle.slewing.specs.declared.directions.Leg.{Leg}
use Rattle.slewing.specs.Directions.{legs}

-- a pass with its directions
abbrev pub leg : Pass → Sweep → Leg
leg p v = record { pass = p; sweep = v }

-- pass i with its directions, where both are there
pub leg_at :
    (ps : List Pass) (vs : List Sweep) (i : ℕ) →
    slice_get (legs ps vs) i ≡ option_and_then (λ p. option_map (leg p) (slice_get vs i)) (slice_get ps i)
unfolding legs
leg_at [] vs i = refl
leg_at (p ∷ ps) [] i = by (slice_get (p ∷ ps) i)
  where
    by : (o : Option Pass) → None ≡ option_and_then (λ q. option_map (leg q) (slice_get [] i)) o
    by None = refl
    by (Some q) = refl
leg_at (p ∷ ps) (v ∷ vs) zero = refl
leg_at (p ∷ ps) (v ∷ vs) (suc i) = leg_at ps vs i

-- what stands past the end of a list
no_leg : Leg
no_leg = record { pass = no_pass; sweep = record { begin = 0; end = 0 } }

legs_short : (ps : List Pass) (vs : List Sweep) → length (legs ps vs) ≤ length ps
unfolding legs
legs_short [] vs = omega arith
legs_short (p ∷ ps) [] = omega arith
legs_short (p ∷ ps) (v ∷ vs) = let rest = legs_short ps vs in omega arith

same_pass : (ps : List Pass) (vs : List Sweep) (j : ℕ) → j < length (legs ps vs) → (get_or (legs ps vs) j no_leg).pass ≡ nth ps j
unfolding legs
same_pass [] vs j l = absurd (omega arith)
same_pass (p ∷ ps) [] j l = absurd (omega arith)
same_pass (p ∷ ps) (v ∷ vs) zero l = refl
same_pass (p ∷ ps) (v ∷ vs) (suc j) l = same_pass ps vs j (omega arith)

-- a pass with its directions is the list's pass in its place
pub pass_of_leg : (ps : List Pass) (vs : List Sweep) (j : ℕ) (b : Leg) → slice_get (legs ps vs) j ≡ Some b → (j < length ps) × (b.pass ≡ nth ps j)
pass_of_leg ps vs j b is =
    let within = slice_get_within (legs ps vs) j b is in
    (omega (arith, legs_short ps vs), ap (λ c. c.pass) (sym (get_or_from_slice_get (legs ps vs) j b no_leg is)) ∙ same_pass ps vs j within)

-- of a list in order of time, passes from pass i on begin no sooner than it
pub late_from : (ps : List Pass) (vs : List Sweep) (i j : ℕ) (p : Pass) (b : Leg) → InTime ps → i < length ps → p ≡ nth ps i → i ≤ j → slice_get (legs ps vs) j ≡ Some b → p.from ≤ b.pass.from
late_from ps vs i j p b time l here later is =
    let there = pass_of_leg ps vs j b is in
    let order = time.order i j later there.0 in
    rw (here, there.1) order
