-- Two passes that touch, and one dish. Assumes nothing.
use Rattle.std.proofs.Common.{◌≡◌, ◌≤◌, true, [], ◌∷◌, refl, arith}
use Rattle.std.proofs.lemmas.Bool.Decides.{nat_tests}
use Rattle.passes.specs.Nights.{station_of}
use Rattle.passes.specs.Plans.{Plan, free_for, fits_one, fits, worth_of, Best}
use Rattle.passes.specs.Statements.{touching, TouchingPasses}

at_most_both : (es : Plan) → worth_of touching es ≤ 10
unfolding worth_of
at_most_both [] = omega arith
at_most_both (d ∷ []) = grind (arith, nat_tests)
at_most_both (d ∷ (e ∷ es)) = grind (arith, nat_tests)

at_most_one : (es : Plan) → fits (station_of 1 1) touching es ≡ true → worth_of touching es ≤ 5
unfolding worth_of fits fits_one free_for
at_most_one [] h = omega arith
at_most_one (d ∷ []) h = grind (arith, nat_tests)
at_most_one (d ∷ (e ∷ [])) h = grind (arith, nat_tests)
at_most_one (d ∷ (e ∷ (f ∷ es))) h = grind (arith, nat_tests)

pub touching_passes : TouchingPasses
unfolding worth_of fits fits_one free_for Best
touching_passes = (
  (1 ∷ (1 ∷ []), (refl, λ es h. at_most_both es), refl),
  (1 ∷ (0 ∷ []), (refl, λ es h. at_most_one es h), refl),
)
