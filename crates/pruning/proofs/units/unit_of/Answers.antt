use Rattle.std.proofs.Common.{◌≡◌, inl, inr, ⊎_elim, arith, below_more}
use Prim.Native.Nat.{◌∣◌}
use Rattle.std.proofs.Math.Nat.{mod-one, mod-zero}
use Rattle.std.proofs.lemmas.Bool.{cases_eq}
use Rattle.std.proofs.lemmas.Nat.Gcd.{dvd_trans, dvd-zero, dvd_of_mod-eq-zero, mod-eq-zero_of_dvd}
use Rattle.passes.specs.Rule.{nth}
use Rattle.pruning.proofs.units.unit_of.Goals as goal

pub loop-pass-init : goal.loop-pass-init
loop-pass-init c = (λ k l. absurd (omega arith), λ g h. dvd-zero g)

pub loop-pass-preserved : goal.loop-pass-preserved
loop-pass-preserved c =
    let i = c.loop-pass.pass-index in
    let both = c.greatest_common_divisor-unit.ensures in (
      below_more (λ k. c.greatest_common_divisor-unit.result ∣ (nth c.args.passes.now k).worth) i (λ k l. dvd_trans c.greatest_common_divisor-unit.result both.0 (c.loop-pass.invariant.0 k l)) both.1,
      λ g h. both.2 g (c.loop-pass.invariant.1 g (λ k l. h k (omega arith))) (h i (omega arith)),
    )

pub returns-clause-whole : goal.returns-clause-whole
returns-clause-whole c k l =
    let divides = c.loop-pass.invariant.0 k (omega arith) in
    ⊎_elim
    (λ none. let one : c.max.result ≡ 1 = omega (arith, c.max.ensures, none) in rw one (mod-one (nth c.args.passes.now k).worth))
    (λ some. let same : c.max.result ≡ c.loop-pass.unit = omega (arith, c.max.ensures) in rw same (mod-eq-zero_of_dvd c.loop-pass.unit divides))
    (cases_eq c.loop-pass.unit 0)

pub returns-clause-greatest : goal.returns-clause-greatest
returns-clause-greatest c g whole =
    let divides = c.loop-pass.invariant.1 g (λ k l. dvd_of_mod-eq-zero g (whole k (omega arith))) in
    ⊎_elim
    (λ none. inr (λ k l. let zero_divides = rw none at (c.loop-pass.invariant.0 k (omega arith)) in omega (arith, mod-eq-zero_of_dvd 0 zero_divides, mod-zero (nth c.args.passes.now k).worth)))
    (λ some. let same : c.max.result ≡ c.loop-pass.unit = omega (arith, c.max.ensures) in inl (rw same (mod-eq-zero_of_dvd g divides)))
    (cases_eq c.loop-pass.unit 0)
