-- The passes that a list of numbers stands for. Assumes nothing.
use Rattle.std.proofs.Common.{◌≡◌, ℕ, zero, suc, ◌+◌, ◌*◌, ◌/◌, ◌<◌, List, [], ◌∷◌, ◌++◌, length, get_or, slice_index, sym, refl, ◌∙◌, arith}
use Rattle.std.proofs.lemmas.List.{get_or_append_left, get_or-append-add}
use Rattle.passes.specs.declared.model.Pass.{Pass}
use Rattle.passes.specs.Numbers.{passes_in, pass_at}

-- the four numbers of a pass further on
shifted : (a b c m : ℕ) (xs : List ℕ) (k : ℕ) → pass_at (a ∷ (b ∷ (c ∷ (m ∷ xs)))) (suc k) ≡ pass_at xs k
shifted a b c m xs k =
    let e : 4 * suc k ≡ suc (suc (suc (suc (4 * k)))) = omega arith in
    let e₁ : 4 * suc k + 1 ≡ suc (suc (suc (suc (4 * k + 1)))) = omega arith in
    let e₂ : 4 * suc k + 2 ≡ suc (suc (suc (suc (4 * k + 2)))) = omega arith in
    let e₃ : 4 * suc k + 3 ≡ suc (suc (suc (suc (4 * k + 3)))) = omega arith in
    let ys = a ∷ (b ∷ (c ∷ (m ∷ xs))) in
    λ t. record { from = get_or ys (e t) 0; to = get_or ys (e₁ t) 0; worth = get_or ys (e₂ t) 0; marks = get_or ys (e₃ t) 0 }

pub length-passes_in : (xs : List ℕ) → length (passes_in xs) ≡ length xs / 4
unfolding passes_in
length-passes_in [] = refl
length-passes_in (a ∷ []) = refl
length-passes_in (a ∷ (b ∷ [])) = refl
length-passes_in (a ∷ (b ∷ (c ∷ []))) = refl
length-passes_in (a ∷ (b ∷ (c ∷ (m ∷ xs)))) = let rest = length-passes_in xs in omega arith

pub get_or-passes_in : (xs : List ℕ) (k : ℕ) (d : Pass) → k < length xs / 4 → get_or (passes_in xs) k d ≡ pass_at xs k
unfolding passes_in
get_or-passes_in [] k d h = absurd (omega arith)
get_or-passes_in (a ∷ []) k d h = absurd (omega arith)
get_or-passes_in (a ∷ (b ∷ [])) k d h = absurd (omega arith)
get_or-passes_in (a ∷ (b ∷ (c ∷ []))) k d h = absurd (omega arith)
get_or-passes_in (a ∷ (b ∷ (c ∷ (m ∷ xs)))) zero d h = refl
get_or-passes_in (a ∷ (b ∷ (c ∷ (m ∷ xs)))) (suc k) d h = get_or-passes_in xs k d (omega arith) ∙ sym (shifted a b c m xs k)

-- where two lists of numbers have the same in front, so have the passes that they stand for
pub same_pass : (xs ys : List ℕ) (n k : ℕ) → ((j : ℕ) → j < 4 * n → slice_index ys j ≡ slice_index xs j) → k < n → pass_at ys k ≡ pass_at xs k
same_pass xs ys n k same l =
    let at = same (4 * k) (omega arith) in
    let at₁ = same (4 * k + 1) (omega arith) in
    let at₂ = same (4 * k + 2) (omega arith) in
    let at₃ = same (4 * k + 3) (omega arith) in
    λ t. record { from = at t; to = at₁ t; worth = at₂ t; marks = at₃ t }

-- the four numbers of a pass
abbrev pub four : Pass → List ℕ
four p = p.from ∷ (p.to ∷ (p.worth ∷ (p.marks ∷ [])))

-- a pass behind so many others
module _ (xs : List ℕ) (count : ℕ) (long : length xs ≡ 4 * count) (p : Pass) where
  -- the numbers before its own stay
  pub number_before : (j : ℕ) → j < 4 * count → slice_index (xs ++ four p) j ≡ slice_index xs j
  number_before j l = get_or_append_left xs (four p) 0 j (omega (arith, l))

  behind : (j : ℕ) → slice_index (xs ++ four p) (4 * count + j) ≡ slice_index (four p) j
  behind j = let same : 4 * count ≡ length xs = sym long in rw same (get_or-append-add xs (four p) j 0)

  -- and it is the last
  pub pass_last : pass_at (xs ++ four p) count ≡ p
  pass_last =
      let at : 4 * count ≡ 4 * count + 0 = omega arith in
      let first = rw (sym at) at (behind 0) in
      let second = behind 1 in
      let third = behind 2 in
      let fourth = behind 3 in
      λ t. record { from = first t; to = second t; worth = third t; marks = fourth t }
