-- Which plans are good with directions doesn't depend on what a pass is worth. Assumes nothing.
use Rattle.std.proofs.Common.{◌≡◌, ℕ, zero, suc, ◌-◌, Bool, true, ◌&&◌, List, [], ◌∷◌, length, refl, sym, ap, ◌∙◌}
use Rattle.std.specs.Prelude.{◌==◌, ◌||◌, nat_le, if◌then◌else◌}
use Rattle.passes.specs.declared.model.Pass.{Pass}
use Rattle.passes.specs.declared.model.Station.{Station}
use Rattle.passes.specs.Follow.{may}
use Rattle.passes.specs.Plans.{Plan}
use Rattle.passes.specs.Rule.{nth}
use Rattle.sensitivity.specs.Needing.{with_worth, worth_instead}
use Rattle.slewing.specs.declared.directions.Leg.{Leg}
use Rattle.slewing.specs.declared.directions.Sweep.{Sweep}
use Rattle.slewing.specs.Directions.{legs, in_time}
use Rattle.slewing.specs.Slewed.{reaches_next, slews_one, slews, slewed}

-- a pass with its directions
abbrev pub leg : Pass → Sweep → Leg
leg p v = record { pass = p; sweep = v }

module _ (t k : ℕ) (d : ℕ) where
  -- what a dish can follow next doesn't depend on what the pass is worth from which it comes
  from_any_worth : (p : Pass) (w : ℕ) (v : Sweep) (bs : List Leg) (ds : Plan) → reaches_next t k (leg (worth_instead p w) v) d bs ds ≡ reaches_next t k (leg p v) d bs ds
  unfolding reaches_next
  from_any_worth p w v [] ds = refl
  from_any_worth p w v (b ∷ bs) [] = refl
  from_any_worth p w v (b ∷ bs) (e ∷ es) = ap (λ r. if d == e then in_time t k (leg p v) b else r) (from_any_worth p w v bs es)

  -- nor on what another pass is worth
  to_any_worth : (a : Leg) (ps : List Pass) (vs : List Sweep) (i w : ℕ) (ds : Plan) → reaches_next t k a d (legs (with_worth ps i w) vs) ds ≡ reaches_next t k a d (legs ps vs) ds
  unfolding reaches_next legs
  to_any_worth a [] vs i w ds = refl
  to_any_worth a (p ∷ ps) [] zero w ds = refl
  to_any_worth a (p ∷ ps) [] (suc i) w ds = refl
  to_any_worth a (p ∷ ps) (v ∷ vs) zero w [] = refl
  to_any_worth a (p ∷ ps) (v ∷ vs) (suc i) w [] = refl
  to_any_worth a (p ∷ ps) (v ∷ vs) zero w (e ∷ es) = refl
  to_any_worth a (p ∷ ps) (v ∷ vs) (suc i) w (e ∷ es) = ap (λ r. if d == e then in_time t k a (leg p v) else r) (to_any_worth a ps vs i w es)

-- so neither does which plans are good
pub slewed_same : (s : Station) (k : ℕ) (vs : List Sweep) (ps : List Pass) (i w : ℕ) (ds : Plan) → slewed s k vs (with_worth ps i w) ds ≡ slewed s k vs ps ds
unfolding slews slews_one legs
slewed_same s k vs [] i w ds = refl
slewed_same s k [] (p ∷ ps) zero w ds = refl
slewed_same s k [] (p ∷ ps) (suc i) w ds = refl
slewed_same s k (v ∷ vs) (p ∷ ps) zero w [] = refl
slewed_same s k (v ∷ vs) (p ∷ ps) (suc i) w [] = refl
slewed_same s k (v ∷ vs) (p ∷ ps) zero w (d ∷ ds) =
    ap (λ r. (d == 0 || (nat_le d s.dishes && (may p (d - 1) && r))) && slews s k (legs ps vs) ds) (from_any_worth s.turn k d p w v (legs ps vs) ds)
slewed_same s k (v ∷ vs) (p ∷ ps) (suc i) w (d ∷ ds) =
    rw (to_any_worth s.turn k d (leg p v) ps vs i w ds, slewed_same s k vs ps i w ds) refl
