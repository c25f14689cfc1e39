-- What is written of a station and of a pass is no longer than a line may be. Assumes nothing.
use Rattle.std.proofs.Common.{◌≡◌, ℕ, ◌^◌, ◌<◌, ◌≤◌, true, leb, List, [], ◌∷◌, ◌++◌, length, Some, None, Option, ap, ◌∙◌, arith, length-append}
use Rattle.std.specs.Prelude.{codes}
use Rattle.std.specs.Fmt.{decimal}
use Rattle.std.proofs.lemmas.Bool.Decides.{nat_tests}
use Rattle.std.proofs.lemmas.Fmt.{length-decimal-le}
use Rattle.std.proofs.lemmas.Grind.{flat_map-append}
use Rattle.passes.specs.declared.model.Pass.{Pass}
use Rattle.passes.specs.declared.model.Station.{Station}
use Rattle.slewing.specs.declared.directions.Sweep.{Sweep}
use Rattle.text.specs.Names.{is_name}
use Rattle.text.specs.Writing.{behind, step_words, station_words, dish_words, direction_words, pass_words, spaced}
use Rattle.text.proofs.Spelled.{SmallStep, SmallSweep, marked}

number_short : (n : ℕ) → n < 2 ^ 32 → length (decimal n) ≤ 10
number_short n small = length-decimal-le 10 n (omega arith) (omega arith) (omega arith)

name_short : (w : List ℕ) → is_name w ≡ true → length w ≤ 32
unfolding is_name
name_short w h = grind (arith, nat_tests)

step_short : (k : Option ℕ) → SmallStep k → length (behind (step_words k)) ≤ 16
step_short None small = omega arith
step_short (Some k) small = omega (arith, length-append (decimal k) [], number_short k small)

pub station_short : (s : Station) (k : Option ℕ) → s.dishes < 2 ^ 32 → s.turn < 2 ^ 32 → SmallStep k → length (spaced (station_words s k)) ≤ 1000
station_short s k few fast small =
    let seconds = behind (codes "turn" ∷ (decimal s.turn ∷ step_words k)) in
    omega (
      arith,
      length-append (decimal s.dishes) seconds,
      length-append (decimal s.turn) (behind (step_words k)),
      number_short s.dishes few,
      number_short s.turn fast,
      step_short k small,
    )

directions_short : (v : Option Sweep) → SmallSweep v → length (behind (direction_words v)) ≤ 33
directions_short None small = omega arith
directions_short (Some v) small =
    omega (arith, length-append (decimal v.begin) (behind (decimal v.end ∷ [])), length-append (decimal v.end) [], number_short v.begin small.0, number_short v.end small.1)

-- the dishes and the directions of a pass
last_short : (p : Pass) (v : Option Sweep) → p.marks ≤ 15 → SmallSweep v → length (behind (dish_words p ++ direction_words v)) ≤ 41
last_short p v few small =
    let both = ap length (flat_map-append (λ w. codes " " ++ w) (dish_words p) (direction_words v)) ∙ length-append (behind (dish_words p)) (behind (direction_words v)) in
    omega (arith, both, eight (length (behind (dish_words p))) (marked p few).short, directions_short v small)
  where
    eight : (n : ℕ) → leb n 8 ≡ true → n ≤ 8
    eight n h = grind (arith, nat_tests)

pub pass_short : (name : List ℕ) (p : Pass) (v : Option Sweep) → is_name name ≡ true → p.from < 2 ^ 32 → p.to < 2 ^ 32 → p.worth < 2 ^ 32 → p.marks ≤ 15 → SmallSweep v → length (spaced (pass_words name p v)) ≤ 1000
pass_short name p v named from to worth few small =
    let dishes = codes "dishes" ∷ (dish_words p ++ direction_words v) in
    let worths = decimal p.worth ∷ dishes in
    let tos = decimal p.to ∷ (codes "worth" ∷ worths) in
    omega (
      arith,
      length-append name (behind (decimal p.from ∷ tos)),
      length-append (decimal p.from) (behind tos),
      length-append (decimal p.to) (behind (codes "worth" ∷ worths)),
      length-append (decimal p.worth) (behind dishes),
      name_short name named,
      number_short p.from from,
      number_short p.to to,
      number_short p.worth worth,
      last_short p v few small,
    )
