-- Text that a loop writes piece by piece. Assumes nothing.
use Rattle.std.proofs.Common.{◌≡◌, ℕ, ◌+◌, List, [], ◌∷◌, ◌++◌, map, append_assoc, arith}
use Rattle.std.proofs.lemmas.List.{append-nil}
use Rattle.std.proofs.lemmas.List.Concat.{flat_map-append}
use Rattle.std.proofs.lemmas.List.FromFn.{map-range_with_len_more}
use Rattle.std.specs.List.{flat_map, range_with_len}
use Rattle.text.proofs.Ends.{range_more}

-- a piece for one more element
pub one_more :
    {X : Type 0} (f : X → List ℕ) (xs : List X) (x : X) (old out new : List ℕ) →
    out ≡ old ++ flat_map f xs → new ≡ out ++ f x → new ≡ old ++ flat_map f (xs ++ x ∷ [])
one_more f xs x old out new before written =
    rw (written, before, flat_map-append f xs (x ∷ []), append-nil (f x)) (append_assoc old (flat_map f xs) (f x))

-- a piece for one more number
pub one_more_piece :
    (f : ℕ → List ℕ) (a n j : ℕ) (old out new : List ℕ) →
    a + n ≡ j → out ≡ old ++ flat_map f (range_with_len a n) → new ≡ out ++ f j → new ≡ old ++ flat_map f (range_with_len a (n + 1))
one_more_piece f a n j old out new e before written = rw (range_more a n j e) (one_more f (range_with_len a n) j old out new before written)

-- what was written after a first part
pub after_first_part : (first second old mid new : List ℕ) → mid ≡ old ++ first → new ≡ mid ++ second → new ≡ old ++ (first ++ second)
after_first_part first second old mid new before written = rw (written, before) (append_assoc old first second)

-- one more byte of those that a function of a number gives
pub one_more_byte :
    (f : ℕ → ℕ) (n : ℕ) (old out new : List ℕ) →
    out ≡ old ++ map f (range_with_len 0 n) → new ≡ out ++ f n ∷ [] → new ≡ old ++ map f (range_with_len 0 (n + 1))
one_more_byte f n old out new before written =
    rw (written, before, map-range_with_len_more f 0 n n (omega arith)) (append_assoc old (map f (range_with_len 0 n)) (f n ∷ []))
