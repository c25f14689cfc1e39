-- The directions of passes come in twos. Assumes nothing.
use Rattle.std.proofs.Common.{◌≡◌, ℕ, zero, suc, ◌+◌, ◌*◌, ◌<◌, true, List, [], ◌∷◌, length, get_or, Some, None, Option, refl, ap, ◌∙◌, arith, All}
use Rattle.std.specs.Prelude.{is_some, slice_index}
use Rattle.std.specs.List.{flat_map}
use Rattle.text.specs.declared.line.Ends.{Ends}
use Rattle.text.specs.Reading.{two_of}

-- each of these has directions
abbrev pub AllSome : List (Option Ends) → Type 0
AllSome vs = All (λ v. is_some v ≡ true) vs

pub twos : (vs : List (Option Ends)) → AllSome vs → length (flat_map two_of vs) ≡ 2 * length vs
twos [] all = refl
twos (None ∷ vs) all = let h = all 0 None (omega arith) in absurd cc
twos (Some v ∷ vs) all = let rest = twos vs (λ k d l. all (suc k) d (omega (arith, l))) in omega (arith, rest)

-- those of pass i
pub record StandsAt (vs : List (Option Ends)) (i : ℕ) : Type 0 where
  pub ends : Ends
  pub are : get_or vs i None ≡ Some ends
  pub begin : slice_index (flat_map two_of vs) (2 * i) ≡ ends.begin
  pub end : slice_index (flat_map two_of vs) (2 * i + 1) ≡ ends.end

pub stands_at : (vs : List (Option Ends)) (i : ℕ) → AllSome vs → i < length vs → StandsAt vs i
stands_at [] i all within = absurd (omega (arith, within))
stands_at (None ∷ vs) i all within = let h = all 0 None (omega arith) in absurd cc
stands_at (Some v ∷ vs) zero all within = record { ends = v; are = refl; begin = refl; end = refl }
stands_at (Some v ∷ vs) (suc i) all within =
    let rest = stands_at vs i (λ k d l. all (suc k) d (omega (arith, l))) (omega (arith, within)) in
    let at = slice_index (flat_map two_of (Some v ∷ vs)) in
    let first : 2 * suc i ≡ suc (suc (2 * i)) = omega arith in
    let second : 2 * suc i + 1 ≡ suc (suc (2 * i + 1)) = omega arith in
    record { ends = rest.ends; are = rest.are; begin = ap at first ∙ rest.begin; end = ap at second ∙ rest.end }
