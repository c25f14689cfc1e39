use Rattle.std.proofs.Common.{◌≡◌, arith}
use Rattle.std.proofs.lemmas.Grind.{common_steps}
use Rattle.text.proofs.Marked.{marked_more, marked_all, none_marked}
use Rattle.text.proofs.writing.write_dishes.Goals as goal
use Rattle.text.proofs.writing.write_dishes.Goals.{then-may_be_followed_by+in_ok-write, else-may_be_followed_by}

pub loop-dish-preserved : goal.loop-dish-preserved
loop-dish-preserved c =
    let more = marked_more c.args.pass c.loop-dish.dish-counter in
    elim c.if-may_be_followed_by.branch [ then-may_be_followed_by+in_ok-write w ↦ grind (arith, common_steps) | else-may_be_followed_by w ↦ grind (arith, common_steps) ]

pub loop-dish-init : goal.loop-dish-init
loop-dish-init c = rw (none_marked c.args.pass) (grind (arith, common_steps))

pub returns : goal.returns
returns c =
    let all = marked_all c.args.pass in
    let end : c.loop-dish.dish-counter ≡ 4 = omega arith in
    let made = rw (end, all) at c.loop-dish.invariant in
    grind (arith, common_steps, made)
