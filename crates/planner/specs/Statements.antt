-- Statements about the definitions. Each is proved: a function of src/laws.rt has it as its contract. Assumes nothing.
use Rattle.std.specs.Prelude.{◌≡◌, ℕ, ◌+◌, ◌<◌, ◌≤◌, Bool, true, List, ◌∷◌, ◌++◌, length, slice_index}
use Rattle.engine.specs.Runs.{Run}
use Rattle.engine.specs.Gaining.{Gaining, gained_by}
use Rattle.engine.specs.Mapping.{Mapping, SameRuns}
use Rattle.passes.specs.declared.model.Pass.{Pass}
use Rattle.passes.specs.declared.model.Station.{Station}
use Rattle.passes.specs.Checks.{checked}
use Rattle.passes.specs.Plans.{Plan, fits, worth_of, Best}
use Rattle.passes.specs.Rule.{nth}
use Rattle.capacity.specs.Order.{InTime}
use Rattle.pruning.specs.declared.rounding.NextPasses.{NextPasses}
use Rattle.pruning.specs.Rounding.{next_pass, each_dish, max_wide_dishes, rounded_night}
use Rattle.planner.specs.declared.scheduling.FreeFrom.{FreeFrom}
use Rattle.planner.specs.Dishes.{fits_each, turns_of}
use Rattle.planner.specs.Nights.{night}

-- the good plans of a list are the runs of a sequence of decisions, and gain by it what they are worth
pub record PlansAreRuns {S : Type 0} (good : Plan → Bool) (ps : List Pass) (g : Gaining S) : Type 0 where
  pub runs : (ds : Plan) → good ds ≡ true → (e : S) × Run g.moves ds e
  pub plans : (ds : Plan) (e : S) → Run g.moves ds e → good ds ≡ true
  pub worth : (ds : Plan) (e : S) → Run g.moves ds e → gained_by g ds ≡ worth_of ps ds

-- for up to eight dishes, each of which takes its own time to turn, and passes in order of begin, the good plans are the runs of the night
abbrev pub EachIsNight : Type 0
EachIsNight = (turns : List ℕ) (ps : List Pass) → length turns ≤ max_wide_dishes → InTime ps → PlansAreRuns (fits_each turns ps) ps (night turns ps)

-- for a station and a list that pass the checks, the good plans are the runs of the night
abbrev pub StationIsNight : Type 0
StationIsNight = (s : Station) (ps : List Pass) → checked s ps ≡ true → PlansAreRuns (fits s ps) ps (night (turns_of s) ps)

-- a state of the night, rounded up at pass i: of each dish, in place of the second from which it is free, the next pass that it may still follow
abbrev pub rounded_up : (turns : List ℕ) → List Pass → (i : ℕ) → FreeFrom → NextPasses
rounded_up turns ps i s = each_dish (λ d. next_pass turns ps d i (slice_index s.seconds d))

-- rounding up changes no run, and nothing that is gained
pub record ChangesNoRun (turns : List ℕ) (ps : List Pass) : Type 0 where
  pub states : Mapping (night turns ps) (rounded_night turns ps) (rounded_up turns ps)
  pub runs : SameRuns (night turns ps) (rounded_night turns ps)

-- for up to eight dishes, each with its own time to turn, and passes in order of time, rounding up changes no run
abbrev pub RoundingUp : Type 0
RoundingUp = (turns : List ℕ) (ps : List Pass) → length turns ≤ max_wide_dishes → InTime ps → ChangesNoRun turns ps

-- every list of passes, sorted or not, has a best plan
abbrev pub HasBest : Type 0
HasBest = (s : Station) (ps : List Pass) → (ds : Plan) × Best s ps ds

-- more dishes, or less time to turn, never make a best plan worth less
abbrev pub MoreDishes : Type 0
MoreDishes =
    (s u : Station) (ps : List Pass) (ds es : Plan) → s.dishes ≤ u.dishes → u.turn ≤ s.turn → Best s ps ds → Best u ps es →
    worth_of ps ds ≤ worth_of ps es

-- a pass more, wherever in the list it is put, never makes a best plan worth less, nor more by more than it is worth
abbrev pub OneMore : Type 0
OneMore =
    (s : Station) (ps qs : List Pass) (p : Pass) (ds es : Plan) → Best s (ps ++ qs) ds → Best s (ps ++ p ∷ qs) es →
    (worth_of (ps ++ qs) ds ≤ worth_of (ps ++ p ∷ qs) es) × (worth_of (ps ++ p ∷ qs) es ≤ worth_of (ps ++ qs) ds + p.worth)

-- each pass of a list ends, with t seconds of turning after it, by the second x
abbrev pub EndsBefore : ℕ → ℕ → List Pass → Type 0
EndsBefore t x ps = (i : ℕ) → i < length ps → (nth ps i).to + t ≤ x

-- each pass of a list begins in the second x or later
abbrev pub BeginsAfter : ℕ → List Pass → Type 0
BeginsAfter x ps = (i : ℕ) → i < length ps → x ≤ (nth ps i).from

-- lists of which one ends, with turning, before the other begins are planned each for itself
abbrev pub SideBySide : Type 0
SideBySide =
    (s : Station) (ps qs : List Pass) (x : ℕ) (ds es : Plan) → EndsBefore s.turn x ps → BeginsAfter x qs → Best s ps ds → Best s qs es →
    Best s (ps ++ qs) (ds ++ es)
