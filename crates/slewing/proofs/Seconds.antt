-- Plans that are good with more seconds for a step are good with fewer. Assumes nothing.
use Rattle.std.proofs.Common.{◌≡◌, ℕ, ◌≤◌, true, List, [], ◌∷◌, refl, arith}
use Rattle.std.proofs.Math.Nat.{mul-le-mul_right}
use Rattle.std.proofs.lemmas.Bool.{and_parts, and_from}
use Rattle.std.proofs.lemmas.Bool.Decides.{nat_tests}
use Rattle.passes.specs.declared.model.Station.{Station}
use Rattle.passes.specs.Plans.{Plan}
use Rattle.slewing.specs.declared.directions.Leg.{Leg}
use Rattle.slewing.specs.Directions.{legs, in_time, steps}
use Rattle.slewing.specs.Slewed.{reaches_next, slews_one, slews}
use Rattle.slewing.specs.Statements.{MoreSeconds}

module _ (k m : ℕ) (fewer : k ≤ m) where
  -- whoever is in time with more seconds is in time with fewer
  in_time_fewer : (t : ℕ) (a b : Leg) → in_time t m a b ≡ true → in_time t k a b ≡ true
  in_time_fewer t a b h = let less = mul-le-mul_right (steps a.sweep.end b.sweep.begin) fewer in grind (arith, nat_tests)

  reaches_fewer : (t : ℕ) (a : Leg) (d : ℕ) (bs : List Leg) (ds : Plan) → reaches_next t m a d bs ds ≡ true → reaches_next t k a d bs ds ≡ true
  unfolding reaches_next
  reaches_fewer t a d [] ds h = refl
  reaches_fewer t a d (b ∷ bs) [] h = refl
  reaches_fewer t a d (b ∷ bs) (e ∷ es) h =
      let here = in_time_fewer t a b in
      let rest = reaches_fewer t a d bs es in
      grind (arith, nat_tests)

  slews_one_fewer : (s : Station) (a : Leg) (d : ℕ) (bs : List Leg) (ds : Plan) → slews_one s m a d bs ds ≡ true → slews_one s k a d bs ds ≡ true
  unfolding slews_one
  slews_one_fewer s a d bs ds h = let next = reaches_fewer s.turn a d bs ds in grind (arith, nat_tests)

  pub slews_fewer : (s : Station) (bs : List Leg) (ds : Plan) → slews s m bs ds ≡ true → slews s k bs ds ≡ true
  unfolding slews
  slews_fewer s [] [] h = refl
  slews_fewer s [] (d ∷ ds) h = h
  slews_fewer s (a ∷ bs) [] h = h
  slews_fewer s (a ∷ bs) (d ∷ ds) h =
      let parts = and_parts (slews_one s m a d bs ds) (slews s m bs ds) h in
      and_from _ _ (slews_one_fewer s a d bs ds parts.0) (slews_fewer s bs ds parts.1)

pub more_seconds : MoreSeconds
more_seconds s k m w x vs ps ds es fewer best other = rw other.worth (best.most es (slews_fewer k m fewer s (legs ps vs) es other.is_good))
