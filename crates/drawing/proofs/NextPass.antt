-- The next pass that a dish follows, one pass after the other. Assumes nothing.
use Rattle.std.proofs.Common.{◌≡◌, ℕ, ◌+◌, ◌*◌, ◌<◌, ◌≤◌, ◌≢◌, true, false, ◌==◌, List, [], length, drop, refl, add-one, arith, drop-cons, eq-eqb, ne_eqb}
use Rattle.std.proofs.lemmas.List.{length-drop, nil_from_length}
use Rattle.passes.specs.Plans.{Plan}
use Rattle.passes.specs.Rule.{says}
use Rattle.slewing.specs.declared.directions.Sweep.{Sweep}
use Rattle.slewing.specs.Directions.{steps}
use Rattle.drawing.specs.Turning.{no_sweep, sweep_of, to_next}

module _ (k d at i : ℕ) (vs : List Sweep) (ds : Plan) (each : length vs ≡ length ds) where
  module _ (lt : i < length ds) where
    in_vs : i < length vs
    in_vs = omega arith

    -- pass i is one that the dish follows
    pub next-here : says ds i ≡ d → to_next k d at (drop i vs) (drop i ds) ≡ k * steps at (sweep_of vs i).begin
    unfolding to_next
    next-here its =
        let test : (says ds i == d) ≡ true = eq-eqb (says ds i) d its in
        let there = in_vs in
        rw (drop-cons vs i no_sweep, drop-cons ds i 0, test) refl

    -- and where it isn't
    pub next-later : says ds i ≢ d → to_next k d at (drop i vs) (drop i ds) ≡ to_next k d at (drop (i + 1) vs) (drop (i + 1) ds)
    unfolding to_next
    next-later other =
        let test : (says ds i == d) ≡ false = ne_eqb (says ds i) d other in
        let there = in_vs in
        rw (add-one, drop-cons vs i no_sweep, drop-cons ds i 0, test) refl

  -- there is no pass any more
  pub next-none : length ds ≤ i → to_next k d at (drop i vs) (drop i ds) ≡ 0
  unfolding to_next
  next-none le =
      let none : drop i vs ≡ [] = nil_from_length (drop i vs) (omega (arith, length-drop i vs)) in
      rw none refl
