-- Good plans, what they are worth, and best ones. Assumes nothing: these are definitions.
use Rattle.std.specs.Prelude.{◌≡◌, ℕ, ◌+◌, ◌-◌, ◌≤◌, Bool, true, false, cond, not, ◌&&◌, ◌||◌, List, [], ◌∷◌, ◌==◌, nat_le}
use Rattle.passes.specs.declared.model.Pass.{Pass}
use Rattle.passes.specs.declared.model.Station.{Station}
use Rattle.passes.specs.Follow.{may, one_after}

-- a plan says for each pass 0, for not followed, or one more than the number of the dish that follows it
abbrev pub Plan : Type 0
Plan = List ℕ

-- the dish that plans call d can follow the pass p beside those of the passes qs that the plan ds gives it
unfoldable pub free_for : Station → Pass → ℕ → List Pass → Plan → Bool
free_for s p d [] ds = true
free_for s p d (q ∷ qs) [] = true
free_for s p d (q ∷ qs) (e ∷ ds) = (not (d == e) || one_after s.turn p q) && free_for s p d qs ds

-- the pass p is not followed; or its dish is there, may follow it, and is free for it beside the passes after it
unfoldable pub fits_one : Station → Pass → ℕ → List Pass → Plan → Bool
fits_one s p d qs ds = d == 0 || (nat_le d s.dishes && (may p (d - 1) && free_for s p d qs ds))

-- THE RULE: the plan is good. `GoodPlan` in specs/Rule.antt says the same pass by pass
unfoldable pub fits : Station → List Pass → Plan → Bool
fits s [] [] = true
fits s [] (d ∷ ds) = false
fits s (p ∷ ps) [] = false
fits s (p ∷ ps) (d ∷ ds) = fits_one s p d ps ds && fits s ps ds

-- a plan is worth what the passes that are followed are worth together
unfoldable pub worth_of : List Pass → Plan → ℕ
worth_of [] ds = 0
worth_of (p ∷ ps) [] = 0
worth_of (p ∷ ps) (d ∷ ds) = cond (d == 0) 0 p.worth + worth_of ps ds

-- a best plan is a good one of which none is worth more
unfoldable pub Best : Station → List Pass → Plan → Type 0
Best s ps ds = (fits s ps ds ≡ true) × ((es : Plan) → fits s ps es ≡ true → worth_of ps es ≤ worth_of ps ds)
