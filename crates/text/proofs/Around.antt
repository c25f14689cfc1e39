-- Directions that pass the checks are taken, and those that are turned away are at fault. Assumes nothing.
use Rattle.std.proofs.Common.{◌≡◌, ℕ, zero, suc, ◌+◌, ◌*◌, ◌/◌, ◌<◌, ◌≤◌, Bool, true, false, cond, leb, List, [], ◌∷◌, length, get_or, Some, None, Option, refl, sym, ap, ◌∙◌, arith}
use Rattle.std.specs.Prelude.{option_map}
use Rattle.std.proofs.lemmas.Bool.{both_ways}
use Rattle.std.proofs.lemmas.Bool.Decides.{nat_tests}
use Rattle.passes.proofs.Firsts.{first_says}
use Rattle.slewing.specs.declared.directions.Sweep.{Sweep}
use Rattle.slewing.specs.declared.refusals.SlewRefusal.TheVariants.{BadStep, BadDirections}
use Rattle.slewing.specs.Numbers.{sweeps_in, sweep_at, is_around, sound_sweep, first_bad_sweep, are_around}
use Rattle.slewing.specs.Refusals.{slewing_refused, slewing_ok}
use Rattle.slewing.proofs.Taking as taken
use Rattle.slewing.proofs.Taking.{looked_at, no_sweep, length-sweeps_in, get_or-sweeps_in, none_at_fault}

around_at : (vs : List Sweep) (k : ℕ) (d : Sweep) → are_around vs ≡ true → k < length vs → is_around (get_or vs k d) ≡ true
unfolding are_around
around_at [] k d h l = absurd (omega (arith, l))
around_at (v ∷ vs) zero d h l = grind (arith, nat_tests)
around_at (v ∷ vs) (suc k) d h l = around_at vs k d (grind (arith, nat_tests)) (omega (arith, l))

sound_from : (n : ℕ) (xs : List ℕ) (i : ℕ) → i < n → 2 * i + 2 ≤ length xs → is_around (sweep_at xs i) ≡ true → sound_sweep n xs i ≡ true
unfolding sound_sweep
sound_from n xs i there whole around = grind (arith, nat_tests)

-- where there are two numbers for each pass, as many passes are looked at as there are
module _ (n : ℕ) (xs : List ℕ) (twos : length xs ≡ 2 * n) where
  looked : looked_at n xs ≡ n
  looked = omega (arith, twos)

  all_sound : are_around (sweeps_in xs) ≡ true → (k : ℕ) → k < looked_at n xs → sound_sweep n xs k ≡ true
  all_sound around k l =
      let there : k < n = omega (arith, l, looked) in
      let half : k < length xs / 2 = omega (arith, there, twos) in
      let long : k < length (sweeps_in xs) = omega (arith, half, length-sweeps_in xs) in
      sound_from n xs k there (omega (arith, there, twos)) (ap is_around (sym (get_or-sweeps_in xs k no_sweep half)) ∙ around_at (sweeps_in xs) k no_sweep around long)

  pub taken_if_ok : (k : ℕ) → slewing_ok k (sweeps_in xs) ≡ true → slewing_refused n k xs ≡ None
  unfolding slewing_ok slewing_refused
  taken_if_ok k ok =
      let around : are_around (sweeps_in xs) ≡ true = grind (arith, nat_tests) in
      let few : leb k 1000000 ≡ true = grind (arith, nat_tests) in
      rw (few, none_at_fault n xs (all_sound around)) refl

  unsound_at : (i : ℕ) → first_bad_sweep n xs ≡ Some i → (i < n) × (sound_sweep n xs i ≡ false)
  unfolding first_bad_sweep
  unsound_at i e = let first = rw e at (first_says (sound_sweep n xs) 0 (looked_at n xs)) in (omega (arith, first.1, looked), first.2)

  no_around : (i : ℕ) → i < n → sound_sweep n xs i ≡ false → is_around (sweep_at xs i) ≡ false
  no_around i there bad = by_cases (is_around (sweep_at xs i)) refl
    where
      by_cases : (b : Bool) → is_around (sweep_at xs i) ≡ b → is_around (sweep_at xs i) ≡ false
      by_cases false e = e
      by_cases true e = absurd (both_ways (sound_sweep n xs i) bad (sound_from n xs i there (omega (arith, there, twos)) e))

  pub not_around : (k i : ℕ) → slewing_refused n k xs ≡ Some (BadDirections i) → (i < n) × (is_around (sweep_at xs i) ≡ false)
  unfolding slewing_refused
  not_around k i e =
      let bad = unsound_at i (bad_pass (leb k 1000000) (first_bad_sweep n xs) e) in
      (bad.0, no_around i bad.0 bad.1)
    where
      bad_pass : (b : Bool) (o : Option ℕ) → cond b (option_map BadDirections o) (Some BadStep) ≡ Some (BadDirections i) → o ≡ Some i
      bad_pass true (Some j) e = cc
      bad_pass true None e = absurd cc
      bad_pass false o e = absurd cc

-- where directions are taken, there are two for each pass
pub twos_if_taken : (n k : ℕ) (xs : List ℕ) → slewing_refused n k xs ≡ None → length xs ≡ 2 * n
unfolding slewing_refused first_bad_sweep
twos_if_taken n k xs e =
    let none = no_fault (leb k 1000000) (first_bad_sweep n xs) e in
    let all = rw none at (first_says (sound_sweep n xs) 0 (looked_at n xs)) in
    taken.twos n xs (λ i l. all i (omega arith) (omega (arith, l)))
  where
    no_fault : (b : Bool) (o : Option ℕ) → cond b (option_map BadDirections o) (Some BadStep) ≡ None → o ≡ None
    no_fault true None e = refl
    no_fault true (Some i) e = absurd cc
    no_fault false o e = absurd cc

pub length-taken : (n k : ℕ) (xs : List ℕ) → slewing_refused n k xs ≡ None → length (sweeps_in xs) ≡ n
length-taken n k xs e = omega (arith, length-sweeps_in xs, twos_if_taken n k xs e)
