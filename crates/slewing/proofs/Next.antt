-- Plans where each pass and the next one of its dish leave the turning time: they are those where dishes need no time for steps, and of a list in order of
-- time they are those that are good without directions. Assumes nothing.
use Rattle.std.proofs.Common.{◌≡◌, ℕ, suc, ◌+◌, ◌*◌, ◌<◌, ◌≤◌, true, List, [], ◌∷◌, length, slice_get, Some, refl, arith}
use Rattle.std.proofs.lemmas.Bool.Decides.{nat_tests}
use Rattle.passes.specs.declared.model.Pass.{Pass}
use Rattle.passes.specs.declared.model.Station.{Station}
use Rattle.passes.specs.Plans.{Plan, free_for, fits_one, fits}
use Rattle.passes.specs.Rule.{nth}
use Rattle.capacity.specs.Order.{InTime}
use Rattle.planner.proofs.Bridge.{in_time_tail}
use Rattle.slewing.specs.declared.directions.Sweep.{Sweep}
use Rattle.slewing.specs.declared.directions.Leg.{Leg}
use Rattle.slewing.specs.Directions.{legs, steps}
use Rattle.slewing.specs.Slewed.{reaches_next, slews_one, slews}
use Rattle.slewing.specs.Statements.{leaves_turning, each_and_next, NextIsAny}

-- from where the pass with the directions u ends dishes need no time for steps to where any of these begins
abbrev pub NoStepsFrom : ℕ → Sweep → List Sweep → Type 0
NoStepsFrom k u vs = (j : ℕ) (w : Sweep) → slice_get vs j ≡ Some w → k * steps u.end w.begin ≡ 0

-- nor from where any of these ends
abbrev pub NoSteps : ℕ → List Sweep → Type 0
NoSteps k vs = (i : ℕ) (v : Sweep) → slice_get vs i ≡ Some v → NoStepsFrom k v vs

module _ (k : ℕ) where
  -- the next pass is reached if it leaves the turning time
  reaches_turning : (t : ℕ) (a : Leg) (d : ℕ) (vs : List Sweep) (ps : List Pass) (ds : Plan) → length vs ≡ length ps → NoStepsFrom k a.sweep vs → reaches_next t k a d (legs ps vs) ds ≡ leaves_turning t a.pass d ps ds
  unfolding reaches_next leaves_turning legs
  reaches_turning t a d vs [] ds l none = refl
  reaches_turning t a d [] (q ∷ ps) ds l none = absurd (omega arith)
  reaches_turning t a d (v ∷ vs) (q ∷ ps) [] l none = refl
  reaches_turning t a d (v ∷ vs) (q ∷ ps) (e ∷ ds) l none =
      let here = none 0 v refl in
      let rest = reaches_turning t a d vs ps ds (omega arith) (λ j. none (suc j)) in
      grind (arith, nat_tests)

  -- where dishes need no time for steps, the turning time is all that is asked of a pass and the next one
  pub next_from_no_steps : (s : Station) (vs : List Sweep) (ps : List Pass) (ds : Plan) → length vs ≡ length ps → NoSteps k vs → slews s k (legs ps vs) ds ≡ each_and_next s ps ds
  unfolding slews slews_one each_and_next legs
  next_from_no_steps s vs [] [] l none = refl
  next_from_no_steps s vs [] (d ∷ ds) l none = refl
  next_from_no_steps s [] (p ∷ ps) ds l none = absurd (omega arith)
  next_from_no_steps s (v ∷ vs) (p ∷ ps) [] l none = refl
  next_from_no_steps s (v ∷ vs) (p ∷ ps) (d ∷ ds) l none =
      let next = reaches_turning s.turn (record { pass = p; sweep = v }) d vs ps ds (omega arith) (λ j. none 0 v refl (suc j)) in
      let rest = next_from_no_steps s vs ps ds (omega arith) (λ i w h j. none (suc i) w h (suc j)) in
      rw (next, rest) refl

module _ (s : Station) (p : Pass) (d : ℕ) where
  -- a dish that has turned when each of these begins is free for the pass
  all_free : (qs : List Pass) (ds : Plan) → ((i : ℕ) → i < length qs → p.to + s.turn ≤ (nth qs i).from) → free_for s p d qs ds ≡ true
  unfolding free_for
  all_free [] ds h = refl
  all_free (q ∷ qs) [] h = refl
  all_free (q ∷ qs) (e ∷ ds) h =
      let here = h 0 (omega arith) in
      let rest = all_free qs ds (λ i l. h (suc i) (omega arith)) in
      grind (arith, nat_tests)

  -- where later passes begin no sooner, it is enough to look at the next one of the dish
  turning_is_free : (qs : List Pass) (ds : Plan) → InTime qs → ((i : ℕ) → i < length qs → p.from ≤ (nth qs i).from) → leaves_turning s.turn p d qs ds ≡ free_for s p d qs ds
  unfolding free_for leaves_turning
  turning_is_free [] ds time after = refl
  turning_is_free (q ∷ qs) [] time after = refl
  turning_is_free (q ∷ qs) (e ∷ ds) time after =
      let ends = time.ends 0 (omega arith) in
      let begun = after 0 (omega arith) in
      let rest = turning_is_free qs ds (in_time_tail q qs time) (λ i l. after (suc i) (omega arith)) in
      let all : p.to + s.turn ≤ q.from → free_for s p d qs ds ≡ true = λ turned. all_free qs ds (λ i l. omega (arith, time.order 0 (suc i) (omega arith) (omega arith))) in
      grind (arith, nat_tests)

-- so of a list in order of time a plan in which each pass and the next one of its dish leave the turning time is good
pub next_is_any : NextIsAny
unfolding fits fits_one each_and_next
next_is_any s [] [] time = refl
next_is_any s [] (d ∷ ds) time = refl
next_is_any s (p ∷ ps) [] time = refl
next_is_any s (p ∷ ps) (d ∷ ds) time =
    let here = turning_is_free s p d ps ds (in_time_tail p ps time) (λ i l. time.order 0 (suc i) (omega arith) (omega arith)) in
    rw (here, next_is_any s ps ds (in_time_tail p ps time)) refl
