use Rattle.std.proofs.Common.{◌-◌, ⊎_elim, arith}
use Rattle.std.proofs.lemmas.Bool.{cases_eq}
use Rattle.trials.proofs.looking_back.LookingBack.before.Goals as goal

pub loop-other-init : goal.loop-other-init
loop-other-init c = (omega arith, λ m low high. absurd (omega (arith, low, high)))

pub returns-then-self-other : goal.returns-then-self-other
returns-then-self-other c =
    let so_far = c.loop-other.invariant in
    record {
      before = omega (arith, so_far.0, c.loop-other-test.true);
      followed = omega (arith, c.if-self-other.true, c.requires.followed);
      same_dish = omega (arith, c.if-self-other.true);
      none_between = λ m low high same. so_far.1 m (omega (arith, low)) high (omega (arith, same, c.if-self-other.true));
    }

pub loop-other-preserved : goal.loop-other-preserved
loop-other-preserved c =
    let so_far = c.loop-other.invariant in (
      omega (arith, so_far.0),
      λ m low high same.
          ⊎_elim
          (λ here. c.if-self-other.false (rw here at same))
          (λ other. so_far.1 m (omega (arith, low, other, c.loop-other-test.true)) high same)
          (cases_eq m (c.loop-other.other - 1)),
    )

pub returns : goal.returns
returns c = λ i before. c.loop-other.invariant.1 i (omega (arith, c.loop-other-test.false)) before.before before.same_dish
