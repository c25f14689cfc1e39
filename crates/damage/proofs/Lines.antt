-- What is done to a list is done to what a function makes of it; and lines that are joined one by one. Assumes nothing.
use Rattle.std.proofs.Common.{◌≡◌, ◌<◌, ℕ, suc, List, [], ◌∷◌, ◌++◌, length, take, drop, get_or, map, refl, sym, ap, append-nil, arith}
use Rattle.std.specs.Prelude.{insert, remove, swap, flat_map}
use Rattle.std.specs.List.{join_with_byte}
use Rattle.std.proofs.Math.ListN.{get_or-map}
use Rattle.std.proofs.lemmas.List.{length-map, map-append, map-set, take-map, drop-map}

-- a first line, and each of the others behind a line feed, are the lines joined
pub joined_one_by_one : (l : List ℕ) (ls : List (List ℕ)) → l ++ flat_map (λ m. 10 ∷ m) ls ≡ join_with_byte 10 (l ∷ ls)
joined_one_by_one l [] = append-nil l
joined_one_by_one l (m ∷ ms) = ap (λ r. l ++ 10 ∷ r) (joined_one_by_one m ms)

module _ {X Y : Type 0} (f : X → Y) where
  pub within-map : (xs : List X) (ys : List Y) (i : ℕ) → map f xs ≡ ys → i < length xs → i < length ys
  within-map xs ys i same within = omega (arith, within, length-map xs f, ap length same)

  pub map-remove : (xs : List X) (i : ℕ) → map f (remove xs i) ≡ remove (map f xs) i
  map-remove xs i = rw (take-map f i xs, drop-map f (suc i) xs) (map-append f (take i xs) (drop (suc i) xs))

  pub map-insert : (xs : List X) (i : ℕ) (x : X) → map f (insert xs i x) ≡ insert (map f xs) i (f x)
  map-insert xs i x = rw (take-map f i xs, drop-map f i xs) (map-append f (take i xs) (x ∷ drop i xs))

  pub map-swap : (xs : List X) (i j : ℕ) → map f (swap xs i j) ≡ swap (map f xs) i j
  map-swap [] i j = refl
  map-swap (d ∷ ys) i j =
      rw (get_or-map f (d ∷ ys) i d, get_or-map f (d ∷ ys) j d, sym (map-set f (d ∷ ys) i (get_or (d ∷ ys) j d))) (map-set f _ j (get_or (d ∷ ys) i d))
