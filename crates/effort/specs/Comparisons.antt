-- What may be said of a list that was planned in two ways. Assumes nothing: these are definitions.
use Rattle.std.specs.Prelude.{◌≡◌, ℕ, ◌*◌, Bool, true, false, List, Some, Option, IsSome, IfSome, Any, take}
use Rattle.passes.specs.Nights.{station_of}
use Rattle.passes.specs.Numbers.{passes_in}
use Rattle.passes.specs.Statements.{BestWorth}
use Rattle.effort.specs.declared.cases.TheConstants.{DISHES}
use Rattle.effort.specs.declared.cases.Case.{Case}
use Rattle.effort.specs.declared.comparing.TheConstants.{FRONT}
use Rattle.effort.specs.declared.comparing.Comparison.{Comparison}
use Rattle.effort.specs.declared.comparing.Comparison.TheVariants.{Same, Differs}
use Rattle.effort.specs.declared.shapes.Shape.{Shape}
use Rattle.effort.specs.Shapes.{ListOf}

-- a best plan of a list, whose dishes take t seconds to turn, is worth w
abbrev pub BestOf : (t : ℕ) → List ℕ → ℕ → Type 0
BestOf t xs w = BestWorth (station_of DISHES t) (passes_in xs) w

-- what is said of two worths, of which the other may be missing, is true
abbrev pub TrueOf : ℕ → Option ℕ → Comparison → Type 0
TrueOf w other Same = other ≡ Some w
TrueOf w other Differs = other ≡ Some w → ⊥

-- what is said of two worths is true, each of which is that of a best plan of the list
pub record Compared (t : ℕ) (xs : List ℕ) (c : Comparison) : Type 0 where
  pub planned : ℕ
  pub planned_best : BestOf t xs planned
  pub searched : Option ℕ
  pub searched_some : IsSome searched
  pub searched_best : IfSome searched (BestOf t xs)
  pub says : TrueOf planned searched c

-- the comparison is true of the front of one of these lists
abbrev pub ComparedIn : List Case → Comparison → Type 0
ComparedIn cases c = Any (λ case. Compared case.turn (take (4 * FRONT) case.numbers.items) c) cases

-- the list of a case is of the shape
abbrev pub CaseOf : Shape → Case → Type 0
CaseOf shape case = ListOf shape case.turn case.numbers.items

-- the worths differ
abbrev pub differs : Comparison → Bool
differs Same = false
differs Differs = true
