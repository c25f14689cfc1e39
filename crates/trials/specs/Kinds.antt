-- Which lists are of a kind. Assumes nothing: these are definitions.
use Rattle.std.specs.Prelude.{◌≡◌, ℕ, zero, suc, ◌-◌, ◌*◌, ◌%◌, ◌^◌, ◌<◌, ◌≤◌, List, ⊤, slice_index}
use Rattle.passes.specs.declared.model.Pass.{Pass}
use Rattle.passes.specs.Numbers.{pass_at, begun}
use Rattle.trials.specs.declared.kinds.Kind.{Kind}
use Rattle.trials.specs.declared.kinds.Kind.TheVariants.{NoPasses, NoTurning, LargeTurning, EqualBegins, Touching, OneDishHears, UnfitMarks, SecondsApart, HoursApart}

-- how many passes a list of the kind may have: none for `NoPasses`, else at least one
abbrev pub CountOf : Kind → ℕ → Type 0
CountOf NoPasses n = n ≡ 0
CountOf _ n = 0 < n

-- how long the dishes of a list of the kind may take to turn
abbrev pub TurnOf : Kind → ℕ → Type 0
TurnOf NoTurning t = t ≡ 0
TurnOf LargeTurning t = 50000 ≤ t
TurnOf Touching t = t ≤ 1
TurnOf _ t = ⊤

-- how long after the one before it a pass may begin, and how long it may last
abbrev pub TimesOf : Kind → (step length : ℕ) → Type 0
TimesOf EqualBegins step length = step ≤ 1
TimesOf Touching step length = (step ≤ 10) × (step % 10 ≡ 0) × (length ≤ 20) × (length % 10 ≡ 0)
TimesOf SecondsApart step length = (step ≤ 30) × (length ≤ 20)
TimesOf HoursApart step length = (step ≤ 7200) × (length ≤ 1200)
TimesOf _ step length = ⊤

-- which marks pass i may have, where there are k dishes: of one that is there; or, for every second pass, of none that is
abbrev pub MarksOf : Kind → (k i marks : ℕ) → Type 0
MarksOf OneDishHears k i marks = (d : ℕ) × (d < k) × (marks ≡ 2 ^ d)
MarksOf UnfitMarks k i marks = i % 2 ≡ 0 → marks % 2 ^ k ≡ 0
MarksOf _ k i marks = ⊤

-- pass i of a list of the kind, for k dishes, after one that begins in the second x
abbrev pub PassOf : Kind → (k i x : ℕ) → Pass → Type 0
PassOf kind k i x p = TimesOf kind (p.from - x) (p.to - p.from) × MarksOf kind k i p.marks

-- the second in which the pass before pass i begins; 0 for the first
unfoldable pub begin_before : List ℕ → ℕ → ℕ
begin_before xs zero = 0
begin_before xs (suc i) = slice_index xs (4 * i)

-- a list of the kind, for k dishes that take t seconds to turn
pub record ListOf (kind : Kind) (k t : ℕ) (xs : List ℕ) : Type 0 where
  pub count : CountOf kind (begun xs)
  pub turn : TurnOf kind t
  pub each : (i : ℕ) → i < begun xs → PassOf kind k i (begin_before xs i) (pass_at xs i)
