-- What one dish alone can gain. Assumes nothing: these are definitions.
use Rattle.std.specs.Prelude.{◌≡◌, ℕ, suc, ◌+◌, ◌≤◌, Bool, true, cond, ◌&&◌, ◌||◌, List, [], ◌∷◌, map, length, drop, ◌==◌, slice_index}
use Rattle.passes.specs.declared.model.Pass.{Pass}
use Rattle.passes.specs.declared.model.Station.{Station}
use Rattle.passes.specs.Plans.{Plan, fits, worth_of, Best}

-- what dish d gains by a plan, where following a pass gains the number of gs at its place
unfoldable pub gain_of : ℕ → List ℕ → Plan → ℕ
gain_of d [] ds = 0
gain_of d (g ∷ gs) [] = 0
gain_of d (g ∷ gs) (e ∷ ds) = cond (e == suc d) g 0 + gain_of d gs ds

-- no dish but d follows a pass
unfoldable pub only : ℕ → Plan → Bool
only d [] = true
only d (e ∷ ds) = (e == 0 || e == suc d) && only d ds

-- a best plan of dish d alone: by no good plan, whatever the other dishes follow, does it gain more
pub record BestAlone (s : Station) (d : ℕ) (ps : List Pass) (gs : List ℕ) (ds : Plan) : Type 0 where
  pub good : fits s ps ds ≡ true
  pub alone : only d ds ≡ true
  pub most : (es : Plan) → fits s ps es ≡ true → gain_of d gs es ≤ gain_of d gs ds

-- a best plan of dish d alone gains n
abbrev pub GainsMost : Station → ℕ → List Pass → List ℕ → ℕ → Type 0
GainsMost s d ps gs n = (ds : Plan) × BestAlone s d ps gs ds × (gain_of d gs ds ≡ n)

-- from entry i on, entry k of the table is what a best plan of dish d alone gains from pass k on; the last one stands behind all passes
abbrev pub RightFrom : ℕ → Station → ℕ → List Pass → (gs table : List ℕ) → Type 0
RightFrom i s d ps gs table = (k : ℕ) → i ≤ k → k ≤ length ps → GainsMost s d (drop k ps) (drop k gs) (slice_index table k)

-- what each pass is worth
abbrev pub worths : List Pass → List ℕ
worths ps = map (λ p. p.worth) ps

-- the room holds a best plan, and w is what it is worth
pub record BestPlanWorth (s : Station) (ps : List Pass) (room : Plan) (w : ℕ) : Type 0 where
  pub best : Best s ps room
  pub worth : w ≡ worth_of ps room
