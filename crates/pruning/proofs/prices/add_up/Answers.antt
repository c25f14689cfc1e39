use Rattle.std.proofs.Common.{◌≡◌, ◌+◌, ◌-◌, ◌<◌, length, refl, ◌∙◌, arith, length-set}
use Rattle.std.proofs.lemmas.List.{get_or-set_same}
use Rattle.capacity.proofs.Greedy.{all_zero}
use Rattle.pruning.proofs.Adding.{adds_up_none, adds_up_more}
use Rattle.pruning.proofs.prices.add_up.Goals as goal

pub loop-i-init : goal.loop-i-init
loop-i-init c = (refl, adds_up_none (λ x. x) c.args.prices.now 129 (omega arith), omega (arith, all_zero 129 (length c.args.prices.now)))

pub loop-i-preserved : goal.loop-i-preserved
loop-i-preserved c =
    let l = c.loop-i in
    let prices = c.args.prices.now in
    let j = l.i - 1 in
    let next : l.i ≡ j + 1 = omega arith in
    let within : j < length prices = omega arith in
    let room : j < length l.left = omega (arith, l.invariant.0) in (
      length-set l.left j _ ∙ l.invariant.0,
      adds_up_more (λ x. x) prices l.left j _ 0 within room refl (rw next at l.invariant.1),
      rw (get_or-set_same l.left j _ 0 room, ← next) (omega (arith, c.requires.moderate j within, l.invariant.2)),
    )
