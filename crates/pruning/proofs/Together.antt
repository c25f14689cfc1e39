-- Numbers of several dishes together. Assumes nothing.
use Rattle.std.proofs.Common.{◌≡◌, ℕ, zero, suc, ◌+◌, ◌<◌, ◌≤◌, refl, ⊎_elim, arith}
use Rattle.std.proofs.lemmas.Bool.{cases_eq}
use Rattle.pruning.specs.Prices.{together}

module _ (f g : ℕ → ℕ) where
  -- no dish has more, so all together don't
  pub together_le : (k : ℕ) → ((d : ℕ) → d < k → f d ≤ g d) → together k f ≤ together k g
  unfolding together
  together_le zero h = omega arith
  together_le (suc k) h = let rest = together_le k (λ d l. h d (omega arith)) in omega (arith, h k (omega arith))

  -- one of them has less, by x but for y
  pub together_less : (k j x y : ℕ) → j < k → ((d : ℕ) → d < k → f d ≤ g d) → x + f j ≤ y + g j → x + together k f ≤ y + together k g
  unfolding together
  together_less zero j x y l h less = absurd (omega arith)
  together_less (suc k) j x y l h less =
      ⊎_elim
      (λ same. let rest = together_le k (λ d m. h d (omega arith)) in let here = rw same at less in omega (arith, rest, here))
      (λ other. let rest = together_less k j x y (omega arith) (λ d m. h d (omega arith)) less in omega (arith, rest, h k (omega arith)))
      (cases_eq j k)

pub together_none : (f : ℕ → ℕ) → together 0 f ≡ 0
unfolding together
together_none f = refl

-- one dish more
pub together_more : (k : ℕ) (f : ℕ → ℕ) → together (k + 1) f ≡ together k f + f k
unfolding together
together_more k f = let on : k + 1 ≡ suc k = omega arith in rw on refl
