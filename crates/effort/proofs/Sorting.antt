-- What is drawn for a place stays in the list when that is sorted. Assumes nothing.
use Rattle.std.proofs.Common.{ℕ, ◌<◌, List, length, slice_index}
use Rattle.std.specs.Prelude.{Any}
use Rattle.std.specs.List.Sorted.{IsPermutation}
use Rattle.std.proofs.lemmas.List.{get_or_default}
use Rattle.std.proofs.lemmas.List.Sorted.{Contains-permutation}

pub still_there : (P : ℕ → Type 0) (xs ys : List ℕ) (i : ℕ) → IsPermutation xs ys → i < length xs → P (slice_index xs i) → Any P ys
still_there P xs ys i moved l p =
    let x = slice_index xs i in
    let place = Contains-permutation xs ys x moved (i, l, get_or_default xs i x 0 l) in
    (place.0, x, place.1, place.2, p)
