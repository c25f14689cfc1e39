-- The middle and the largest of some numbers. Assumes nothing: these are definitions.
use Rattle.std.specs.Prelude.{ℕ, ◌*◌, ◌≤◌, List, length, count_by, nat_le, All, Contains}
use Rattle.effort.specs.declared.spread.Spread.{Spread}

-- median and largest are in the list; half of it is at most the median, half at least that, and all at most the largest
pub record SpreadOf (xs : List ℕ) (s : Spread) : Type 0 where
  pub median : Contains xs s.median
  pub half_below : length xs ≤ 2 * count_by (λ x. nat_le x s.median) xs
  pub half_above : length xs ≤ 2 * count_by (λ x. nat_le s.median x) xs
  pub largest : Contains xs s.largest
  pub none_above : All (λ x. x ≤ s.largest) xs
