-- What is said of the passes of a planned night. Assumes nothing: these are definitions.
use Rattle.std.specs.Prelude.{ℕ, List, [], ◌∷◌, ◌++◌, map, codes, string_bytes, ◌==◌, if◌then◌else◌}
use Rattle.std.specs.List.{flat_map, zip}
use Rattle.std.specs.Fmt.{decimal}
use Rattle.text.specs.declared.planned.Planned.{Planned}
use Rattle.text.specs.PlanText.{plan_text}
use Rattle.reasons.specs.declared.reason.Reason.{Reason}
use Rattle.reasons.specs.declared.reason.Reason.TheVariants.{Followed, WorthNothing, AsWell, Needs, NoDish}
use Rattle.reasons.specs.Others.{called}

-- labels behind the first: the last one behind `and`, those before it behind a comma
unfoldable pub behind_first : List (List ℕ) → List ℕ
behind_first [] = []
behind_first (l ∷ []) = codes " and " ++ l
behind_first (l ∷ (m ∷ ls)) = codes ", " ++ (l ++ behind_first (m ∷ ls))

-- labels between words, as `, and a, b and c would go`; nothing where there are none
abbrev pub change : (before after : List ℕ) → List (List ℕ) → List ℕ
change before after [] = []
change before after (l ∷ ls) = before ++ (l ++ (behind_first ls ++ after))

-- how much less a pass that is followed could be worth
abbrev pub spare_words : ℕ → List ℕ
spare_words spare =
    if spare == 0 then codes "followed; it could not be worth less: a plan without it is worth as much"
    else codes "followed; it could be worth " ++ (decimal spare ++ codes " less")

-- what a pass would have to be worth, and what the night is worth with it
abbrev pub worth_words : (worth needed with total : ℕ) → List ℕ
worth_words worth needed with total =
    codes "not followed; it is worth " ++ (decimal worth ++ (codes " and would have to be worth " ++ (decimal needed
    ++ (codes "; with it the night is worth " ++ (decimal with ++ (codes " instead of " ++ decimal total))))))

-- who would go, and who would come
abbrev pub change_words : (goes comes : List (List ℕ)) → List ℕ
change_words goes comes = change (codes ", and ") (codes " would go") goes ++ change (codes " and ") (codes " would come") comes

-- why a pass is followed or let go, where the plan is worth `total`
unfoldable pub words : (total : ℕ) → Reason → List ℕ
words total (Followed spare) = spare_words spare
words total WorthNothing = codes "followed; it is worth nothing, so it could not be worth less"
words total AsWell = codes "not followed; it could as well have been followed: another plan is worth as much"
words total (Needs worth needed with goes comes) = worth_words worth needed with total ++ change_words (map string_bytes goes.items) (map string_bytes comes.items)
words total NoDish = codes "not followed; no dish here can follow it"

-- the line of a pass: its label, and why it is followed or let go
abbrev pub reason_line : (total : ℕ) → List ℕ × Reason → List ℕ
reason_line total x = x.0 ++ (codes ": " ++ (words total x.1 ++ codes "\n"))

-- a planned night as text, with a line for each pass
abbrev pub reasons_text : Planned → List Reason → List ℕ
reasons_text p reasons = plan_text p ++ flat_map (reason_line p.worth) (zip (called p) reasons)
