use Rattle.std.proofs.Common.{◌≡◌, ◌+◌, drop}
use Rattle.passes.specs.Rule.{says}
use Rattle.slewing.specs.Slewings.{sweeps_of}
use Rattle.drawing.specs.Turning.{sweep_of, to_next}
use Rattle.drawing.proofs.turning.to_next.Given as goal

-- none of the passes so far is one that the dish follows
abbrev pub invariant-loop-next : goal.invariant-loop-next
invariant-loop-next l =
    let from = to_next l.slewing.step (says l.plan l.place) (sweep_of (sweeps_of l.slewing) l.place).end in
    from (drop l.next (sweeps_of l.slewing)) (drop l.next l.plan) ≡ from (drop (l.place + 1) (sweeps_of l.slewing)) (drop (l.place + 1) l.plan)
