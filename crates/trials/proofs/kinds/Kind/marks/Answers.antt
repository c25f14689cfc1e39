use Rattle.std.proofs.Common.{◌≡◌, ◌*◌, ◌/◌, ◌%◌, ◌^◌, ◌<◌, ◌≤◌, ◌∙◌, arith, one-mul, pow_mono}
use Rattle.std.proofs.Math.Nat.{div-mul-le_self, mod-eq_of_lt, mul-mod_left}
use Rattle.trials.proofs.kinds.Kind.marks.Goals as goal

pub returns-in-OneDishHears : goal.returns-in-OneDishHears
returns-in-OneDishHears g c =
    let d = c.random_range.result in
    let there : d < c.args.dishes = c.random_range.ensures.within.1 in
    let small : 2 ^ d ≤ 8 = pow_mono {j = 3} (omega (arith, there, c.requires.few_dishes)) in
    let same : 1 * 2 ^ d % 256 ≡ 2 ^ d = mod-eq_of_lt (omega (arith, small, one-mul (2 ^ d))) ∙ one-mul (2 ^ d) in
    record { small = omega (arith, small, same); kind = rw c.in-OneDishHears.is (d, there, same) }

pub returns-in-UnfitMarks-clause-kind : goal.returns-in-UnfitMarks-clause-kind
returns-in-UnfitMarks-clause-kind g c =
    let k = c.args.dishes in
    let m = c.random_range-marks.result in
    let same : m / 2 ^ k * 2 ^ k % 256 ≡ m / 2 ^ k * 2 ^ k = mod-eq_of_lt (omega (arith, div-mul-le_self m (2 ^ k), c.random_range-marks.ensures.within.1, c.new.ensures.end)) in
    rw (c.in-UnfitMarks.is, same) (λ _. mul-mod_left (m / 2 ^ k) (2 ^ k))
