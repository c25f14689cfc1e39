-- Why directions that are all sound are taken, and as what. Assumes nothing.
use Rattle.std.proofs.Common.{◌≡◌, ℕ, zero, suc, ◌+◌, ◌-◌, ◌*◌, ◌/◌, ◌<◌, ◌≤◌, true, false, List, [], ◌∷◌, length, get_or, take, Some, None, max, sym, refl, ap, ◌∙◌, ⊎_elim, arith}
use Rattle.std.proofs.lemmas.List.{same_lists, length-take-le, get_or-take, get_or_default}
use Rattle.std.proofs.lemmas.Bool.{and_from, cases_lt}
use Rattle.std.proofs.lemmas.Bool.Decides.{nat_tests}
use Rattle.std.proofs.Math.Nat.{le-max_left, le-max_right}
use Rattle.passes.proofs.Firsts.{first_says, one_first}
use Rattle.slewing.specs.declared.directions.Sweep.{Sweep}
use Rattle.slewing.specs.Numbers.{sweeps_in, sweep_at, is_around, sound_sweep, first_bad_sweep, are_around}

-- what stands past the end of a list
pub no_sweep : Sweep
no_sweep = record { begin = 0; end = 0 }

-- the two numbers of a pass further on
shifted : (a b : ℕ) (xs : List ℕ) (k : ℕ) → sweep_at (a ∷ (b ∷ xs)) (suc k) ≡ sweep_at xs k
shifted a b xs k =
    let e : 2 * suc k ≡ suc (suc (2 * k)) = omega arith in
    let e₁ : 2 * suc k + 1 ≡ suc (suc (2 * k + 1)) = omega arith in
    let ys = a ∷ (b ∷ xs) in
    λ t. record { begin = get_or ys (e t) 0; end = get_or ys (e₁ t) 0 }

pub length-sweeps_in : (xs : List ℕ) → length (sweeps_in xs) ≡ length xs / 2
unfolding sweeps_in
length-sweeps_in [] = refl
length-sweeps_in (a ∷ []) = refl
length-sweeps_in (a ∷ (b ∷ xs)) = let rest = length-sweeps_in xs in omega arith

pub get_or-sweeps_in : (xs : List ℕ) (k : ℕ) (d : Sweep) → k < length xs / 2 → get_or (sweeps_in xs) k d ≡ sweep_at xs k
unfolding sweeps_in
get_or-sweeps_in [] k d h = absurd (omega arith)
get_or-sweeps_in (a ∷ []) k d h = absurd (omega arith)
get_or-sweeps_in (a ∷ (b ∷ xs)) zero d h = refl
get_or-sweeps_in (a ∷ (b ∷ xs)) (suc k) d h = get_or-sweeps_in xs k d (omega arith) ∙ sym (shifted a b xs k)

-- what the checks of the numbers say of a pass
pub record SoundNumbers (n : ℕ) (xs : List ℕ) (i : ℕ) : Type 0 where
  pub there : i < n
  pub whole : 2 * i + 2 ≤ length xs
  pub around : is_around (sweep_at xs i) ≡ true

pub sound_says : (n : ℕ) (xs : List ℕ) (i : ℕ) → sound_sweep n xs i ≡ true → SoundNumbers n xs i
unfolding sound_sweep
sound_says n xs i h = record { there = grind (arith, nat_tests); whole = grind (arith, nat_tests); around = grind (arith, nat_tests) }

-- directions that are all some, by their places
all_around_from : (vs : List Sweep) → ((k : ℕ) → k < length vs → is_around (get_or vs k no_sweep) ≡ true) → are_around vs ≡ true
unfolding are_around
all_around_from [] each = refl
all_around_from (v ∷ vs) each = and_from _ _ (each 0 (omega arith)) (all_around_from vs (λ k l. each (suc k) (omega arith)))

-- how many passes are looked at
abbrev pub looked_at : ℕ → List ℕ → ℕ
looked_at n xs = max n ((length xs + 1) / 2)

module _ (n : ℕ) (xs : List ℕ) (all : (k : ℕ) → k < looked_at n xs → sound_sweep n xs k ≡ true) where
  -- the numbers come in twos, one for each pass
  pub twos : length xs ≡ 2 * n
  twos =
      let low = le-max_left n ((length xs + 1) / 2) in
      let high = le-max_right n ((length xs + 1) / 2) in
      ⊎_elim
      (λ (some : 0 < n).
      let last = sound_says n xs (n - 1) (all (n - 1) (omega arith)) in
      ⊎_elim
      (λ (more : n < (length xs + 1) / 2). absurd (omega (arith, (sound_says n xs n (all n (omega arith))).there)))
      (λ no_more. omega (arith, last.whole))
      (cases_lt n ((length xs + 1) / 2)))
      (λ none.
      ⊎_elim
      (λ (more : 0 < (length xs + 1) / 2). absurd (omega (arith, (sound_says n xs 0 (all 0 (omega arith))).there)))
      (λ no_more. omega arith)
      (cases_lt 0 ((length xs + 1) / 2)))
      (cases_lt 0 n)

  -- a room that holds these directions in front holds the list
  pub room_is : (room : List Sweep) → length room ≡ 48 → n ≤ 48 → ((k : ℕ) → k < n → get_or room k no_sweep ≡ sweep_at xs k) → take n room ≡ sweeps_in xs
  room_is room long few filled =
      let long_take = length-take-le n room (omega arith) in
      same_lists _ _
      (long_take ∙ omega (arith, twos, length-sweeps_in xs))
      (λ k d h.
      let l : k < n = omega arith in
      get_or-take n room k d l ∙ get_or_default room k d no_sweep (omega arith) ∙ filled k l ∙ sym (get_or-sweeps_in xs k d (omega (arith, twos))))

  -- and they are directions
  pub list_around : are_around (sweeps_in xs) ≡ true
  list_around =
      all_around_from (sweeps_in xs)
      (λ k l.
      let low = le-max_left n ((length xs + 1) / 2) in
      let within : k < n = omega (arith, twos, length-sweeps_in xs) in
      ap is_around (get_or-sweeps_in xs k no_sweep (omega (arith, twos))) ∙ (sound_says n xs k (all k (omega arith))).around)

  pub none_at_fault : first_bad_sweep n xs ≡ None
  unfolding first_bad_sweep
  none_at_fault = one_first (sound_sweep n xs) 0 (looked_at n xs) _ None (first_says (sound_sweep n xs) 0 (looked_at n xs)) (λ k low high. all k (omega arith))

-- a pass at fault after sound ones is the first
pub first_at_fault : (n : ℕ) (xs : List ℕ) (i : ℕ) → i < looked_at n xs → ((k : ℕ) → k < i → sound_sweep n xs k ≡ true) → sound_sweep n xs i ≡ false → first_bad_sweep n xs ≡ Some i
unfolding first_bad_sweep
first_at_fault n xs i l all fails =
    one_first (sound_sweep n xs) 0 (looked_at n xs) _ (Some i) (first_says (sound_sweep n xs) 0 (looked_at n xs)) (omega arith, omega arith, fails, λ k low high. all k high)
