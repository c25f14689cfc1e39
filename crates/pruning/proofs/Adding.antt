-- The table of what the elements of a list from each on have together. Assumes nothing.
use Rattle.std.proofs.Common.{◌≡◌, ℕ, ◌+◌, ◌<◌, List, length, get_or, drop, set, replicate, sum_by, ap, ◌∙◌, ⊎_elim, arith}
use Rattle.std.proofs.lemmas.List.{drop_all, get_or-replicate, get_or-set_other, get_or-set_same}
use Rattle.std.proofs.lemmas.List.Sums.{sum_by-drop_more}
use Rattle.std.proofs.lemmas.Bool.{cases_eq}
use Rattle.pruning.specs.Sums.{AddsUp}

module _ {X : Type 0} (f : X → ℕ) (xs : List X) where
  -- behind all there is nothing
  pub adds_up_none : (n : ℕ) → length xs < n → AddsUp f xs (length xs) (replicate n 0)
  adds_up_none n room k low high =
      let end : k ≡ length xs = omega arith in
      rw (end, drop_all (length xs) xs (omega arith)) (get_or-replicate n (length xs) 0 0 room)

  -- one more
  pub adds_up_more : (table : List ℕ) (i n : ℕ) (d : X) → i < length xs → i < length table → n ≡ f (get_or xs i d) + get_or table (i + 1) 0 → AddsUp f xs (i + 1) table → AddsUp f xs i (set table i n)
  adds_up_more table i n d within room is sums k low high =
      ⊎_elim
      (λ same.
      let next = sums (i + 1) (omega arith) (omega arith) in
      let entry : get_or (set table i n) k 0 ≡ n = ap (λ x. get_or (set table i n) x 0) same ∙ get_or-set_same table i n 0 room in
      let more : sum_by f (drop k xs) ≡ f (get_or xs i d) + sum_by f (drop (i + 1) xs) = ap (λ x. sum_by f (drop x xs)) same ∙ sum_by-drop_more f xs i d within in
      omega arith)
      (λ other. get_or-set_other table i k n 0 other ∙ sums k (omega arith) high)
      (cases_eq k i)
