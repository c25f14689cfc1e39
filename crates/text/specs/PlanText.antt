-- What is printed of a plan. Assumes nothing: these are definitions.
use Rattle.std.specs.Prelude.{ℕ, ◌+◌, cond, List, [], ◌∷◌, ◌++◌, codes, ◌==◌}
use Rattle.std.specs.List.{flat_map, range_with_len}
use Rattle.std.specs.Fmt.{decimal}
use Rattle.passes.specs.Nights.{passes_of}
use Rattle.passes.specs.Plans.{Plan}
use Rattle.text.specs.declared.planned.Planned.{Planned}
use Rattle.text.specs.Labels.{labels_of}
use Rattle.text.specs.Lists.{names_of}

-- what the passes are called of which a plan says k, each behind a space
unfoldable pub row : ℕ → List (List ℕ) → Plan → List ℕ
row k [] ds = []
row k (l ∷ ls) [] = []
row k (l ∷ ls) (d ∷ ds) = cond (d == k) (codes " " ++ l) [] ++ row k ls ds

-- the line of a dish: what the passes are called that it follows
abbrev pub dish_line : List (List ℕ) → Plan → ℕ → List ℕ
dish_line ls ds dish = codes "dish " ++ (decimal dish ++ (codes ":" ++ (row (dish + 1) ls ds ++ codes "\n")))

-- the line of the passes that are not followed
abbrev pub left_line : List (List ℕ) → Plan → List ℕ
left_line ls ds = codes "not followed:" ++ (row 0 ls ds ++ codes "\n")

-- the line that says what a plan is worth
abbrev pub worth_line : ℕ → List ℕ
worth_line worth = codes "worth " ++ (decimal worth ++ codes "\n")

-- what passes are called, and a plan for so many dishes, as text: what it is worth, a line for each dish, and one for
-- the passes that are not followed
abbrev pub plan_lines : List (List ℕ) → Plan → (dishes worth : ℕ) → List ℕ
plan_lines ls ds dishes worth = worth_line worth ++ (flat_map (dish_line ls ds) (range_with_len 0 dishes) ++ left_line ls ds)

-- a planned night as text
abbrev pub plan_text : Planned → List ℕ
plan_text p = plan_lines (labels_of (names_of p.night) (passes_of p.night.night)) p.plan.items p.night.night.station.dishes p.worth
