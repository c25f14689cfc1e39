use Rattle.std.proofs.Common.{rules}
use Rattle.damage.proofs.Flipping.{flipped_at, left_empty}
use Rattle.damage.proofs.damaging.flipped.Goals as goal
use Rattle.damage.proofs.damaging.flipped.Goals.{then-not-is_empty, else-not-is_empty}

-- one bit is another, or there is none
pub returns : goal.returns
returns g c =
    elim c.if-not-is_empty.branch [
      | then-not-is_empty w ↦ flipped_at c.args.text.now _ w.random_range-at.result w.random_range-bit.result w.index.result.now w.with_bit_flipped.result (search rules) (search rules) (search rules) (search rules) (search rules)
      | else-not-is_empty w ↦ left_empty c.args.text.now _ (search rules) (search rules)
    ]
