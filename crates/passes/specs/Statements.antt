-- Statements about the definitions. Each is proved: a function of src/laws.rt has it as its contract. Assumes nothing.
use Rattle.std.specs.Prelude.{◌≡◌, ℕ, ◌*◌, ◌<◌, true, false, List, [], ◌∷◌, length, None, MatchOption}
use Rattle.passes.specs.declared.model.Pass.{Pass}
use Rattle.passes.specs.declared.model.Station.{Station}
use Rattle.passes.specs.Checks.{checked}
use Rattle.passes.specs.Nights.{station_of}
use Rattle.passes.specs.Numbers.{passes_in, begun, sound, first_fault}
use Rattle.passes.specs.Plans.{Plan, fits, worth_of, Best}
use Rattle.passes.specs.Refusals.{refused}
use Rattle.passes.specs.Rule.{GoodPlan}
use Rattle.passes.specs.Verdicts.{Verdict, TrueVerdict}

-- the test for good plans says what the rule says, pass by pass
abbrev pub TestIsRule : Type 0
TestIsRule = (s : Station) (ps : List Pass) (ds : Plan) → (fits s ps ds ≡ true → GoodPlan s ps ds) × (GoodPlan s ps ds → fits s ps ds ≡ true)

-- of each plan at most one verdict is true
abbrev pub OneVerdict : Type 0
OneVerdict = (s : Station) (ps : List Pass) (ds : Plan) (v w : Verdict) → TrueVerdict s ps ds v → TrueVerdict s ps ds w → v ≡ w

-- a list is taken exactly if its numbers come in fours and it and its station pass the checks
abbrev pub TakenIfChecked : Type 0
TakenIfChecked =
    (k t : ℕ) (xs : List ℕ) →
    (refused k t xs ≡ None → (length xs ≡ 4 * length (passes_in xs)) × (checked (station_of k t) (passes_in xs) ≡ true))
    × (length xs ≡ 4 * length (passes_in xs) → checked (station_of k t) (passes_in xs) ≡ true → refused k t xs ≡ None)

-- the place of a fault is the first pass at fault of those that the numbers begin
abbrev pub PlaceIsFirst : Type 0
PlaceIsFirst =
    (xs : List ℕ) →
    MatchOption (first_fault xs)
    ((k : ℕ) → k < begun xs → sound xs k ≡ true)
    (λ i. (i < begun xs) × (sound xs i ≡ false) × ((k : ℕ) → k < i → sound xs k ≡ true))

-- a best plan is worth w
abbrev pub BestWorth : Station → List Pass → ℕ → Type 0
BestWorth s ps w = (ds : Plan) × Best s ps ds × (worth_of ps ds ≡ w)

-- two passes, one of which ends as the other begins
abbrev pub touching : List Pass
touching = record { from = 0; to = 10; worth = 5; marks = 15 } ∷ (record { from = 10; to = 20; worth = 5; marks = 15 } ∷ [])

-- one dish can follow both if it turns in no time, and only one of them if it takes a second
abbrev pub TouchingPasses : Type 0
TouchingPasses = BestWorth (station_of 1 0) touching 10 × BestWorth (station_of 1 1) touching 5
