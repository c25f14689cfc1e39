-- What holds of each element of a list, where one more is put behind it. Assumes nothing.
use Rattle.std.proofs.Common.{◌≡◌, ℕ, zero, suc, List, [], ◌∷◌, ◌++◌, length, slice_get, Some}
use Rattle.std.proofs.lemmas.Option.{none-some}

-- of each element something holds that may depend on its place, also of one more
pub each_more :
    {X : Type 0} (P : ℕ → X → Type 0) (xs : List X) (x : X) → ((i : ℕ) (y : X) → slice_get xs i ≡ Some y → P i y) → P (length xs) x →
    (i : ℕ) (y : X) → slice_get (xs ++ x ∷ []) i ≡ Some y → P i y
each_more P [] x each here zero y e = let same : x ≡ y = cc in rw (← same) here
each_more P [] x each here (suc i) y e = absurd (none-some y e)
each_more P (z ∷ zs) x each here zero y e = each zero y e
each_more P (z ∷ zs) x each here (suc i) y e = each_more (λ j. P (suc j)) zs x (λ j. each (suc j)) here i y e
