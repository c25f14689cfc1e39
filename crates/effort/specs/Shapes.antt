-- Which lists are of a shape. Assumes nothing: these are definitions.
use Rattle.std.specs.Prelude.{◌≡◌, ℕ, ◌+◌, ◌-◌, ◌*◌, ◌%◌, ◌^◌, ◌<◌, ◌≤◌, List, [], ◌∷◌, ◌==◌, length, Contains, MatchBool, ⊤, All, Any, slice_index}
use Rattle.std.specs.List.Sorted.{IsNonDecreasing}
use Rattle.passes.specs.declared.model.Pass.{Pass}
use Rattle.passes.specs.Numbers.{pass_at}
use Rattle.effort.specs.declared.shapes.Shape.{Shape}
use Rattle.effort.specs.declared.shapes.Shape.TheVariants.{Ordinary, Overlapping, LongAndShort, Staggered, AllMarks, HalfMarks, PairMarks, FewMarks, EqualWorths, SmallWorths, LargeWorths, WorthsByLength, NoTurning, HugeTurning}

-- the number is a or b, or one between them
abbrev pub Between : (a b : ℕ) → ℕ → Type 0
Between a b n = (a ≤ n) × (n ≤ b)

-- how many passes a list of the shape has
abbrev pub count_of : Shape → ℕ
count_of Ordinary = 40
count_of _ = 48

-- how long the dishes of a list of the shape may take to turn
abbrev pub TurnOf : Shape → ℕ → Type 0
TurnOf NoTurning t = t ≡ 0
TurnOf HugeTurning t = Between 2000 20000 t
TurnOf _ t = Between 60 120 t

-- which second may be the last in which a pass may begin: between 8 and 12 hours for an ordinary list, between 1 and 3 for a dense one
abbrev pub SpanOf : Shape → ℕ → Type 0
SpanOf Ordinary x = Between 28800 43200 x
SpanOf Overlapping x = x ≡ 600
SpanOf LongAndShort x = Between 3600 14400 x
SpanOf Staggered x = x ≡ 2880
SpanOf _ x = Between 3600 10800 x

-- in which second a pass may begin for place i: for a staggered list in the first ten of minute i, else in any
abbrev pub BeginOf : Shape → (i : ℕ) → ℕ → Type 0
BeginOf Staggered i x = Between (60 * i) (60 * i + 10) x
BeginOf _ i x = ⊤

-- how long pass i may last: longer than begins lie apart, where passes overlap
abbrev pub LengthOf : Shape → (i : ℕ) → ℕ → Type 0
LengthOf Overlapping i n = Between 601 900 n
LengthOf LongAndShort i n = MatchBool (i % 4 == 0) (Between 1800 5400 n) (Between 120 300 n)
LengthOf Staggered i n = n ≡ 1260
LengthOf _ i n = Between 300 900 n

-- what a pass may be worth that lasts n seconds
abbrev pub WorthOf : Shape → (n : ℕ) → ℕ → Type 0
WorthOf EqualWorths n w = w ≡ 50
WorthOf SmallWorths n w = Between 1 5 w
WorthOf LargeWorths n w = Between 1 1000000 w
WorthOf WorthsByLength n w = w ≡ n
WorthOf _ n w = Between 1 100 w

-- the marks of two dishes
abbrev pub IsPair : ℕ → Type 0
IsPair m = Contains (3 ∷ 5 ∷ 6 ∷ 9 ∷ 10 ∷ 12 ∷ []) m

-- the mark of one dish
abbrev pub IsOne : ℕ → Type 0
IsOne m = (d : ℕ) × (d < 4) × (m ≡ 2 ^ d)

-- which marks pass i may have: 15 are those of all dishes
abbrev pub MarksOf : Shape → (i : ℕ) → ℕ → Type 0
MarksOf AllMarks i m = m ≡ 15
MarksOf HalfMarks i m = m ≤ 15
MarksOf PairMarks i m = IsPair m
MarksOf FewMarks i m = MatchBool (i % 3 == 0) (m ≡ 15) (IsOne m)
MarksOf _ i m = MatchBool (i % 4 == 3) (m ≤ 15) (m ≡ 15)

-- pass i of a list of the shape
abbrev pub PassOf : Shape → (i : ℕ) → Pass → Type 0
PassOf shape i p = LengthOf shape i (p.to - p.from) × WorthOf shape (p.to - p.from) p.worth × MarksOf shape i p.marks

-- the seconds in which the passes of a list of the shape begin, in their order
pub record BeginsOf (shape : Shape) (xs : List ℕ) : Type 0 where
  pub count : length xs ≡ count_of shape
  pub last : ℕ
  pub span : SpanOf shape last
  pub early : last ≤ 43200
  pub within : All (λ x. x ≤ last) xs
  -- for each place there is one that may be drawn for it
  pub each : (i : ℕ) → i < length xs → Any (BeginOf shape i) xs
  pub few : length xs ≤ 48
  pub order : IsNonDecreasing xs

-- a list of the shape, whose dishes take t seconds to turn
pub record ListOf (shape : Shape) (t : ℕ) (xs : List ℕ) : Type 0 where
  pub turn : TurnOf shape t
  pub count : length xs ≡ 4 * count_of shape
  pub begins : List ℕ
  pub begin : BeginsOf shape begins
  pub each : (i : ℕ) → i < count_of shape → ((pass_at xs i).from ≡ slice_index begins i) × PassOf shape i (pass_at xs i)
