use Rattle.std.proofs.Common.{◌≡◌, length, get_or, add-one, arith}
use Rattle.capacity.proofs.Followed.{led_start, led_held, led_skip, led_follow, led_best}
use Rattle.capacity.proofs.alone.OneDish.follow_table.Goals as goal
use Rattle.capacity.proofs.alone.OneDish.follow_table.Goals.{then-next-i+then-table-i, else-next-i, else-next-i-via-then-next-i+else-table-i, else-next-i-via-else-next-i}

pub loop-i-init : goal.loop-i-init
loop-i-init c =
    let a = c.args.self.now in
    (omega arith, λ gs long right. led_start a.station a.dish a.passes.now gs c.args.table.now c.args.room.now)

pub loop-i-preserved : goal.loop-i-preserved
loop-i-preserved c =
    let a = c.args.self.now in
    let table = c.args.table.now in
    let l = c.loop-i in
    let within = c.loop-i-test.true in
    elim c.if-next-i.branch [
      | then-next-i+then-table-i w ↦
          let first = c.requires.successors.each l.i within in
          rw (w.room-is, w.next-is, add-one a.dish)
          (first.within, λ gs long right. led_follow a.station a.dish a.passes.now gs table a.in_time long right l.i within l.next (get_or c.args.after.now l.i 0) l.room first (omega arith) w.if-next-i.true w.if-table-i.true (l.invariant.1 gs long right))
      | else-next-i w ↦
          rw (w.room-is, w.next-is) (
            l.invariant.0,
            λ gs long right. elim w.else-next-i.branch [
              | else-next-i-via-then-next-i+else-table-i v ↦ led_skip a.station a.dish a.passes.now gs table a.in_time long right l.i within l.next l.room (omega arith) v.if-next-i.true v.if-table-i.false (l.invariant.1 gs long right)
              | else-next-i-via-else-next-i v ↦ led_held a.station a.dish a.passes.now gs table l.next l.i l.room (omega arith) v.if-next-i.false (l.invariant.1 gs long right)
            ],
          )
    ]

pub returns : goal.returns
returns c gs long right =
    let a = c.args.self.now in
    let end : c.loop-i.i ≡ length a.passes.now = omega arith in
    led_best a.station a.dish a.passes.now gs c.args.table.now long right c.loop-i.next c.loop-i.room (omega (arith, c.requires.one_each)) c.loop-i.invariant.0 (rw end at (c.loop-i.invariant.1 gs long right))
