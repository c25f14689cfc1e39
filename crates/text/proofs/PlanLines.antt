-- The lines of a plan make up its text. Assumes nothing.
use Rattle.std.proofs.Common.{◌≡◌, ℕ, List, ◌++◌, codes, append_assoc, ap, ◌∙◌}
use Rattle.std.specs.List.{range_with_len, flat_map}
use Rattle.passes.specs.Plans.{Plan}
use Rattle.text.specs.PlanText.{row, dish_line, worth_line, plan_lines}

-- the same, put together from behind
regroup : (a b c d e : List ℕ) → (((a ++ b) ++ c) ++ d) ++ e ≡ a ++ (b ++ (c ++ (d ++ e)))
regroup a b c d e = simp append_assoc

-- behind the lines of the dishes, that of the passes that are not followed makes up the text
pub all_lines : (ls : List (List ℕ)) (ds : Plan) (n worth : ℕ) (t : List ℕ) → t ≡ worth_line worth ++ flat_map (dish_line ls ds) (range_with_len 0 n) → ((t ++ codes "not followed:") ++ row 0 ls ds) ++ codes "\n" ≡ plan_lines ls ds n worth
all_lines ls ds n worth t e =
    ap (λ x. ((x ++ codes "not followed:") ++ row 0 ls ds) ++ codes "\n") e ∙ regroup (worth_line worth) (flat_map (dish_line ls ds) (range_with_len 0 n)) (codes "not followed:") (row 0 ls ds) (codes "\n")
