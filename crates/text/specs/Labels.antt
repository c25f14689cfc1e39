-- What passes are called: their name, and where another has the same name their begin too.
-- Assumes nothing: these are definitions.
use Rattle.std.specs.Prelude.{ℕ, Bool, List, map, ◌++◌, codes, bytes_eq, nat_lt, if◌then◌else◌}
use Rattle.std.specs.List.{count_by, zip}
use Rattle.std.specs.Fmt.{decimal}
use Rattle.passes.specs.declared.model.Pass.{Pass}

-- more than one of the passes with these names has the name w
abbrev pub shared : List (List ℕ) → List ℕ → Bool
shared names w = nat_lt 1 (count_by (bytes_eq w) names)

-- a pass is called by its name, and by the second in which it begins too where another has the same name
abbrev pub label_of : List (List ℕ) → List ℕ → Pass → List ℕ
label_of names w p = if shared names w then w ++ (codes "@" ++ decimal p.from) else w

-- what each pass of a list is called
abbrev pub labels_of : List (List ℕ) → List Pass → List (List ℕ)
labels_of names ps = map (λ x. label_of names x.0 x.1) (zip names ps)
