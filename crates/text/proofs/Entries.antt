-- The passes that are read, as the definitions see them. Assumes nothing.
use Rattle.std.proofs.Common.{◌≡◌, ℕ, ◌<◌, List, [], ◌∷◌, length, get_or, map, String, Vec, string_bytes, vec_items, Ok, Err, Result, IfOk, refl, ap, ◌∙◌}
use Rattle.std.proofs.lemmas.List.{get_or-map, length-map}
use Rattle.text.specs.declared.draft.Entry.{Entry}
use Rattle.text.specs.Drafts as plain
use Rattle.text.specs.Reading.{names_in}
use Rattle.text.specs.Views.{entry_of}

-- what is said of pass i
pub field_at : {B : Type 0} (f : plain.Entry → B) (none : B) (es : List Entry) (i : ℕ) (d : Entry) → i < length es → get_or (map f (map entry_of es)) i none ≡ f (entry_of (get_or es i d))
field_at f none es i d within =
    get_or-map f (map entry_of es) i (entry_of d) none (rw (length-map es entry_of) within) ∙ ap f (get_or-map entry_of es i d (entry_of d) within)

names_of_entries : (es : List Entry) → map (λ e. string_bytes e.name) es ≡ names_in (map entry_of es)
names_of_entries [] = refl
names_of_entries (e ∷ es) = ap (λ ws. string_bytes e.name ∷ ws) (names_of_entries es)

pub names_collected : {Z E : Type 0} (es : List Entry) (r : Result (Vec (String Z) Z) E) → IfOk r (λ v. map string_bytes (vec_items v) ≡ map (λ e. string_bytes e.name) es) → IfOk r (λ v. map string_bytes v.items ≡ names_in (map entry_of es))
names_collected es (Ok v) h = h ∙ names_of_entries es
names_collected es (Err e) h = tt
