use Rattle.std.proofs.Common.{◌≡◌, length, Some, None, ◌∙◌, add-one, arith, length-set}
use Rattle.std.proofs.lemmas.List.{length-take, get_or-take}
use Rattle.std.proofs.lemmas.Option.{MatchOption-at_some, MatchOption-at_none}
use Rattle.std.proofs.lemmas.Result.{err_from_is_err_and}
use Rattle.passes.specs.Rule.{nth}
use Rattle.capacity.proofs.Giving.{all_given, too_many, give_one}
use Rattle.capacity.proofs.assigning.give_dishes.Goals as goal

pub returns-in_err-dish : goal.returns-in_err-dish
returns-in_err-dish c =
    let p = err_from_is_err_and c.from_residual.result c.from_residual.ensures.1 in
    let k = c.args.station.dishes in
    let dishes = length-take k c.loop-i.free in
    let none : c.first_free.result ≡ None = grind (arith, c.in_err-dish.ensures.value, c.in_err-dish.was) in
    let held = MatchOption-at_none _ _ none c.first_free.ensures in
    let over = too_many c.args.station c.args.passes.now c.requires.in_time c.loop-i.free c.loop-i.plan c.loop-i.i c.loop-i-test.true c.loop-i.invariant.1
    (λ d l. rw (get_or-take k c.loop-i.free d 0 (omega arith)) at (held d (omega arith))) in
    let second : c.in_err-dish.field-0.0 ≡ (nth c.args.passes.now c.loop-i.i).from = grind (arith, c.in_err-dish.ensures.value, c.in_err-dish.was) in
    rw (p.1, p.2, second) over

pub loop-i-preserved : goal.loop-i-preserved
loop-i-preserved c =
    let k = c.args.station.dishes in
    let d = c.in_ok-dish.dish in
    let dishes = length-take k c.loop-i.free in
    let some : c.first_free.result ≡ Some d = grind (arith, c.in_ok-dish.ensures.value, c.in_ok-dish.was) in
    let told = MatchOption-at_some _ _ d some c.first_free.ensures in
    let is_free = rw (get_or-take k c.loop-i.free d 0 (omega (arith, told.within))) at told.is_free in (
      length-set c.loop-i.free d _ ∙ c.loop-i.invariant.0,
      rw (add-one d) (give_one c.args.station c.args.passes.now c.requires.in_time c.loop-i.free c.loop-i.plan c.loop-i.i c.loop-i-test.true c.loop-i.invariant.1
          d (omega (arith, told.within)) (omega (arith, told.within)) (c.requires.open c.loop-i.i c.loop-i-test.true d (omega (arith, told.within))) is_free),
    )

pub returns : goal.returns
returns c =
    let all : c.loop-i.i ≡ length c.args.passes.now = omega arith in
    all_given c.args.station c.args.passes.now c.loop-i.free c.loop-i.plan (rw all at c.loop-i.invariant.1)
