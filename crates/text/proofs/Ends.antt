-- What a loop over two lists has at its end, and what one more turn brings. Assumes nothing.
use Rattle.std.proofs.Common.{◌≡◌, ℕ, ◌+◌, List, [], ◌∷◌, ◌++◌, map, String, string_bytes, ◌⊎◌, inl, inr, append_assoc, sym, ap, ◌∙◌, refl}
use Rattle.std.specs.List.{range_with_len, zip}
use Rattle.std.proofs.lemmas.List.{map-id, map-append}
use Rattle.std.proofs.lemmas.List.FromFn.{map-range_with_len_more}
use Rattle.text.specs.PlanText.{row}

-- where one of two lists is at its end, no pairs are left
pub no_pairs : {A B C : Type 0} (f : A → B) (xs : List A) (ys : List C) → (xs ≡ []) ⊎ (ys ≡ []) → zip (map f xs) ys ≡ []
no_pairs f [] ys e = refl
no_pairs f (x ∷ xs) [] e = refl
no_pairs f (x ∷ xs) (y ∷ ys) e = elim e [ inl l ↦ cc | inr r ↦ cc ]

-- and no row
pub no_row : {Z : Type 0} (k : ℕ) (ls : List (String Z)) (ds : List ℕ) → (ls ≡ []) ⊎ (ds ≡ []) → row k (map string_bytes ls) ds ≡ []
unfolding row
no_row k [] ds e = refl
no_row k (l ∷ ls) [] e = refl
no_row k (l ∷ ls) (d ∷ ds) e = elim e [ inl x ↦ cc | inr x ↦ cc ]

-- one more, before what is left
pub one_more : {A B : Type 0} (f : A → B) (xs : List A) (x : A) (y : B) (rest : List B) → f x ≡ y → map f (xs ++ x ∷ []) ++ rest ≡ map f xs ++ y ∷ rest
one_more f xs x y rest e = rw (← e) (simp (map-append, append_assoc))

-- one number more
pub range_more : (a n j : ℕ) → a + n ≡ j → range_with_len a (n + 1) ≡ range_with_len a n ++ j ∷ []
range_more a n j e = sym (map-id (range_with_len a (n + 1))) ∙ map-range_with_len_more (λ (i : ℕ). i) a n j e ∙ ap (λ xs. xs ++ j ∷ []) (map-id (range_with_len a n))
