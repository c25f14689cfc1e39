-- Why looking back from each pass tells which plans are good with directions. Assumes nothing.
use Rattle.std.proofs.Common.{◌≡◌, ℕ, zero, suc, ◌-◌, ◌<◌, true, List, [], ◌∷◌, length, Some, sym, refl, ap, ◌∙◌, arith}
use Rattle.std.specs.Prelude.{slice_get}
use Rattle.std.proofs.Math.Path.{subst}
use Rattle.std.proofs.lemmas.Bool.{le-leb}
use Rattle.std.proofs.lemmas.Bool.Decides.{nat_tests}
use Rattle.std.proofs.lemmas.Option.{slice_get_within, get_or_from_slice_get}
use Rattle.passes.specs.declared.model.Pass.{Pass}
use Rattle.passes.specs.declared.model.Station.{Station}
use Rattle.passes.specs.Follow.{may}
use Rattle.passes.specs.Plans.{Plan}
use Rattle.passes.specs.Rule.{nth, says}
use Rattle.slewing.specs.declared.directions.Sweep.{Sweep}
use Rattle.slewing.specs.Directions.{legs, in_time}
use Rattle.slewing.specs.Slewed.{slewed}
use Rattle.slewing.proofs.Each.{test_is_rule}
use Rattle.slewing.proofs.Legs.{leg}
use Rattle.trials.specs.Looking.{SlewsIn, nth_sweep}

-- there is a pass with its directions for each pass that has some
count : (ps : List Pass) (vs : List Sweep) → length vs ≡ length ps → length (legs ps vs) ≡ length ps
unfolding legs
count [] vs long = refl
count (p ∷ ps) [] long = absurd (omega arith)
count (p ∷ ps) (v ∷ vs) long = ap suc (count ps vs (omega arith))

-- pass i with its directions
here : (ps : List Pass) (vs : List Sweep) (i : ℕ) → length vs ≡ length ps → i < length ps → slice_get (legs ps vs) i ≡ Some (leg (nth ps i) (nth_sweep vs i))
unfolding legs
here [] vs i long l = absurd (omega arith)
here (p ∷ ps) [] i long l = absurd (omega arith)
here (p ∷ ps) (v ∷ vs) zero long l = refl
here (p ∷ ps) (v ∷ vs) (suc i) long l = here ps vs i (omega arith) (omega arith)

-- what stands in a place is one thing
one_at : {X : Type 0} (xs : List X) (i : ℕ) (a b : X) → slice_get xs i ≡ Some a → slice_get xs i ≡ Some b → a ≡ b
one_at xs i a b at at₁ = sym (get_or_from_slice_get xs i a a at) ∙ get_or_from_slice_get xs i b a at₁

module _ (s : Station) (k : ℕ) (vs : List Sweep) (ps : List Pass) (ds : Plan) (long : length vs ≡ length ps) where
  -- a pass that is there, with its directions, is the list's
  is_there : (i : ℕ) → i < length (legs ps vs) → slice_get (legs ps vs) i ≡ Some (leg (nth ps i) (nth_sweep vs i))
  is_there i l = here ps vs i long (omega (arith, count ps vs long))

  -- where nothing is wrong with any pass the plan is good
  pub good_from : length ds ≡ length ps → ((j : ℕ) → j < length ps → SlewsIn s k vs ps ds j) → slewed s k vs ps ds ≡ true
  good_from one_each all =
      let bs = legs ps vs in
      (test_is_rule s k bs ds).1
      (record {
        one_each = one_each ∙ sym (count ps vs long);
        each = λ j b at.
            let l = slice_get_within bs j b at in
            let h = all j (omega (arith, l, count ps vs long)) in
            let same = one_at bs j _ b (is_there j l) at in
            record {
              there = h.there;
              hears = λ more. subst (λ x. may x.pass (says ds j - 1) ≡ true) same (h.hears more);
              on_time = λ i a at_i before.
                  let same_i = one_at bs i _ a (is_there i (slice_get_within bs i a at_i)) at_i in
                  subst (λ x. in_time s.turn k x b ≡ true) same_i
                  (subst (λ x. in_time s.turn k (leg (nth ps i) (nth_sweep vs i)) x ≡ true) same (le-leb _ _ (h.on_time i before)));
            };
      })

  -- and of a good plan nothing is wrong with any
  pub good_says : slewed s k vs ps ds ≡ true → (j : ℕ) → j < length ps → SlewsIn s k vs ps ds j
  good_says good j l =
      let bs = legs ps vs in
      let r = ((test_is_rule s k bs ds).0 good).each j _ (here ps vs j long l) in
      record {
        there = r.there;
        hears = r.hears;
        on_time = λ i before.
            let on_time = r.on_time i _ (here ps vs i long (omega (arith, before.before))) before in
            grind (arith, nat_tests);
      }
