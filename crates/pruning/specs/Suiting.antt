-- What holds of the next pass that suits a dish, and of a number for each dish. Assumes nothing.
use Rattle.std.proofs.Common.{◌≡◌, ℕ, ◌+◌, ◌-◌, ◌<◌, ◌≤◌, true, false, List, length, drop, ap, ◌∙◌, arith, not}
use Rattle.std.specs.List.{position_or_len}
use Rattle.std.proofs.lemmas.Bool.Decides.{nat_tests}
use Rattle.std.proofs.lemmas.List.{get_or-drop, length-drop}
use Rattle.std.proofs.lemmas.List.Sums.{position_or_len_is, fails_before_first, passes_at_first, prefix_len-le-length}
use Rattle.std.proofs.lemmas.List.FromFn.{get_or-map-range_with_len}
use Rattle.std.specs.Prelude.{slice_index}
use Rattle.passes.specs.declared.model.Pass.{Pass}
use Rattle.passes.specs.Rule.{no_pass, nth}
use Rattle.pruning.specs.declared.rounding.TheConstants.{WIDE_DISHES}
use Rattle.pruning.specs.Rounding.{suits, next_pass, each_dish, NextFor}

-- none of the passes from pass k up to pass m suits dish d from the second x on
abbrev pub NoneSuited : (turns : List ℕ) → List Pass → (d x k m : ℕ) → Type 0
NoneSuited turns ps d x k m = (j : ℕ) → k ≤ j → j < m → suits turns d x (nth ps j) ≡ false

module _ (turns : List ℕ) (ps : List Pass) (d x k : ℕ) (start : k ≤ length ps) where
  -- what lies behind pass k, and where
  behind : (j : ℕ) → nth (drop k ps) j ≡ nth ps (k + j)
  behind j = get_or-drop k ps j no_pass

  -- the pass from which none before it suits, and which suits unless it is none, is the next one
  pub next_is : (m : ℕ) → k ≤ m → m ≤ length ps → NoneSuited turns ps d x k m → (m < length ps → suits turns d x (nth ps m) ≡ true) → next_pass turns ps d k x ≡ m
  next_is m later within none suited =
      let here : k + (m - k) ≡ m = omega arith in
      ap (λ n. k + n)
      (position_or_len_is (suits turns d x) (drop k ps) (m - k) no_pass (omega (arith, length-drop k ps))
      (λ j l. rw (behind j) (none (k + j) (omega arith) (omega arith)))
      (λ l. rw (behind (m - k), here) (suited (omega (arith, length-drop k ps)))))
      ∙ here

  -- a dish's next pass lies among the passes, or behind all
  pub next_within : next_pass turns ps d k x ≤ length ps
  next_within = omega (arith, prefix_len-le-length (λ p. not (suits turns d x p)) (drop k ps), length-drop k ps)

  -- a dish's next pass suits the dish, unless it is behind all
  pub next_suits : next_pass turns ps d k x < length ps → suits turns d x (nth ps (next_pass turns ps d k x)) ≡ true
  next_suits l = rw (behind (position_or_len (suits turns d x) (drop k ps))) at (passes_at_first (suits turns d x) (drop k ps) no_pass (omega (arith, length-drop k ps)))

  -- no pass before a dish's next one suits the dish
  pub next_none : NoneSuited turns ps d x k (next_pass turns ps d k x)
  next_none j low high =
      let there : k + (j - k) ≡ j = omega arith in
      rw (behind (j - k), there) at (fails_before_first (suits turns d x) (drop k ps) (j - k) no_pass (omega arith))

  -- so it can be the next pass of the dish at pass k
  pub next_for : NextFor turns ps k d (next_pass turns ps d k x)
  next_for = record {
    later = omega arith;
    within = next_within;
    suited = λ l. let h = next_suits l in grind (arith, nat_tests);
  }

-- the number for dish d
pub each_dish_at : (f : ℕ → ℕ) (d : ℕ) → d < WIDE_DISHES → slice_index (each_dish f).next d ≡ f d
each_dish_at f d l = get_or-map-range_with_len f 0 WIDE_DISHES d d 0 l (omega arith)
