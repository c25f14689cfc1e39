-- What a loop writes of the dishes that may follow a pass. Assumes nothing.
use Rattle.std.proofs.Common.{◌≡◌, ℕ, ◌+◌, List, [], ◌∷◌, ◌++◌, map, filter, codes, refl, arith}
use Rattle.std.specs.List.{range_with_len, flat_map}
use Rattle.std.specs.Fmt.{decimal}
use Rattle.std.proofs.lemmas.List.{map-append}
use Rattle.std.proofs.lemmas.List.Elements.{filter-append}
use Rattle.std.proofs.lemmas.Grind.{flat_map-append}
use Rattle.passes.specs.declared.model.Pass.{Pass}
use Rattle.passes.specs.Follow.{may}
use Rattle.text.specs.Writing.{dish_words}
use Rattle.text.proofs.Ends.{range_more}

-- the dishes below n that may follow a pass, each behind a space
unfoldable pub marked : Pass → ℕ → List ℕ
marked p n = flat_map (λ v. codes " " ++ v) (map decimal (filter (may p) (range_with_len 0 n)))

-- one dish more
pub marked_more : (p : Pass) (n : ℕ) → marked p (n + 1) ≡ marked p n ++ flat_map (λ v. codes " " ++ v) (map decimal (filter (may p) (n ∷ [])))
unfolding marked
marked_more p n = rw (range_more 0 n n (omega arith), filter-append, map-append, flat_map-append) refl

-- all dishes are
pub marked_all : (p : Pass) → marked p 4 ≡ flat_map (λ v. codes " " ++ v) (dish_words p)
unfolding marked dish_words
marked_all p = refl

-- none yet
pub none_marked : (p : Pass) → marked p 0 ≡ []
unfolding marked
none_marked p = refl
