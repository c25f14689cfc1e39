-- Labels put in a row, one after the other. Assumes nothing.
use Rattle.std.proofs.Common.{◌≡◌, ℕ, ◌+◌, ◌<◌, ◌≤◌, List, [], ◌∷◌, ◌++◌, map, length, drop, codes, get_or, String, string_bytes, append_assoc, append-nil, sym, ap, ◌∙◌, arith}
use Rattle.std.proofs.lemmas.List.{at_drop_more, at_drop_all}
use Rattle.reasons.specs.Words.{behind_first}

-- what is behind the labels before place i
abbrev pub behind : {Z : Type 0} → List (String Z) → ℕ → List ℕ
behind ls i = behind_first (map string_bytes (drop i ls))

-- behind the last label is nothing
pub at_end : {Z : Type 0} (ls : List (String Z)) (i : ℕ) → length ls ≤ i → behind ls i ≡ []
unfolding behind_first
at_end ls i past = at_drop_all (λ xs. behind_first (map string_bytes xs)) ls i past

-- the last label stands behind `and`
pub last_label :
    {Z : Type 0} (ls : List (String Z)) (i : ℕ) (d : String Z) → i + 1 ≡ length ls →
    behind ls i ≡ codes " and " ++ (string_bytes (get_or ls i d) ++ behind ls (i + 1))
unfolding behind_first
last_label ls i d last =
    let label = string_bytes (get_or ls i d) in
    let here = at_drop_more (λ xs. behind_first (map string_bytes xs)) ls i d (omega (arith, last)) in
    let alone = at_drop_all (λ xs. behind_first (label ∷ map string_bytes xs)) ls (i + 1) (omega (arith, last)) in
    let none = sym (at_end ls (i + 1) (omega (arith, last))) in
    here ∙ alone ∙ ap (λ t. codes " and " ++ t) (sym (append-nil label)) ∙ ap (λ t. codes " and " ++ (label ++ t)) none

-- one that isn't the last stands behind a comma
pub other_label :
    {Z : Type 0} (ls : List (String Z)) (i : ℕ) (d : String Z) → i + 1 < length ls →
    behind ls i ≡ codes ", " ++ (string_bytes (get_or ls i d) ++ behind ls (i + 1))
unfolding behind_first
other_label ls i d more =
    let label = string_bytes (get_or ls i d) in
    let here = at_drop_more (λ xs. behind_first (map string_bytes xs)) ls i d (omega (arith, more)) in
    let next = at_drop_more (λ xs. behind_first (label ∷ map string_bytes xs)) ls (i + 1) d more in
    let back = at_drop_more (λ xs. codes ", " ++ (label ++ behind_first (map string_bytes xs))) ls (i + 1) d more in
    here ∙ next ∙ sym back

-- a label that is written behind a word takes both from what is left
pub written : (t word label rest whole : List ℕ) → t ++ (word ++ (label ++ rest)) ≡ whole → ((t ++ word) ++ label) ++ rest ≡ whole
written t word label rest whole e = let assoc : ((t ++ word) ++ label) ++ rest ≡ t ++ (word ++ (label ++ rest)) = simp append_assoc in assoc ∙ e
