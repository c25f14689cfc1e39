-- The lines of the passes that are left to be written. Assumes nothing.
use Rattle.std.proofs.Common.{◌≡◌, ℕ, ◌≤◌, zero, suc, List, [], ◌∷◌, length, get_or, drop, map, String, string_bytes, None, Option, refl}
use Rattle.std.specs.List.{flat_map, zip}
use Rattle.std.proofs.lemmas.List.{at_drop_all}
use Rattle.passes.specs.declared.model.Pass.{Pass}
use Rattle.slewing.specs.declared.directions.Sweep.{Sweep}
use Rattle.text.specs.Writing.{line, pass_words}

-- the lines of passes by their names and directions
abbrev lines_of : List (List ℕ) → List Pass → List (Option Sweep) → List ℕ
lines_of ns ps vs = flat_map line (map (λ x. pass_words x.0 x.1.0 x.1.1) (zip ns (zip ps vs)))

-- those from pass i on
abbrev pub lines_from : {Z : Type 0} → ℕ → List (String Z) → List Pass → List (Option Sweep) → List ℕ
lines_from i ns ps vs = lines_of (map string_bytes (drop i ns)) (drop i ps) (drop i vs)

pub no_lines : {Z : Type 0} (i : ℕ) (ns : List (String Z)) (ps : List Pass) (vs : List (Option Sweep)) → length ns ≤ i → lines_from i ns ps vs ≡ []
no_lines i ns ps vs all = at_drop_all (λ ms. lines_of (map string_bytes ms) (drop i ps) (drop i vs)) ns i all

abbrev nothing : {B : Type 0} → Option B
nothing = None

-- without directions each pass has none
pub none_at : {A B : Type 0} (xs : List A) (i : ℕ) → get_or (map (λ x. nothing {B = B}) xs) i None ≡ None
none_at [] i = refl
none_at (x ∷ xs) zero = refl
none_at (x ∷ xs) (suc i) = none_at xs i
