-- The labels of some of the passes, one place after the other. Assumes nothing.
use Rattle.std.proofs.Common.{◌≡◌, ℕ, ◌+◌, Bool, true, false, cond, not, ◌&&◌, List, [], ◌∷◌, ◌++◌, map, filter, slice_index_or, String, string_bytes, sym, ap, ◌∙◌, append-nil, arith}
use Rattle.std.specs.Prelude.{◌==◌}
use Rattle.std.specs.List.{range_with_len}
use Rattle.std.proofs.lemmas.List.{map-append}
use Rattle.std.proofs.lemmas.List.Elements.{filter-append}
use Rattle.text.proofs.Ends.{range_more}
use Rattle.passes.specs.Plans.{Plan}
use Rattle.planner.specs.Ruled.{follows}
use Rattle.reasons.specs.Others.{labels_at}

-- the plan ds follows pass k, which is not pass i, and the plan es doesn't
abbrev pub is_other : (i : ℕ) → (ds es : Plan) → ℕ → Bool
is_other i ds es k = not (k == i) && (follows ds k && not (follows es k))

module _ (ls : List (List ℕ)) (p : ℕ → Bool) where
  -- the labels of the places below n that pass the test p
  abbrev pub labels_below : ℕ → List (List ℕ)
  labels_below n = labels_at ls (filter p (range_with_len 0 n))

  -- and with one place more
  step : (n : ℕ) → labels_below (n + 1) ≡ labels_below n ++ labels_at ls (cond (p n) (n ∷ []) [])
  step n = let more = range_more 0 n n (omega arith) in rw (more, filter-append) (map-append (λ k. slice_index_or ls k []) _ _)

  -- a place that doesn't pass adds nothing
  pub one_out : (n : ℕ) → p n ≡ false → labels_below (n + 1) ≡ labels_below n
  one_out n e = step n ∙ ap (λ b. labels_below n ++ labels_at ls (cond b (n ∷ []) [])) e ∙ append-nil (labels_below n)

  -- and one that does adds its label
  pub label_in :
      {Z : Type 0} (n : ℕ) (xs : List (String Z)) (x : String Z) → p n ≡ true → string_bytes x ≡ slice_index_or ls n [] →
      map string_bytes xs ≡ labels_below n → map string_bytes (xs ++ x ∷ []) ≡ labels_below (n + 1)
  label_in n xs x e label so_far =
      let one = step n ∙ ap (λ b. labels_below n ++ labels_at ls (cond b (n ∷ []) [])) e in
      rw (map-append, so_far, label) (sym one)
