use Rattle.std.proofs.Common.{arith}
use Rattle.trials.proofs.Varied.{in_fours, varied_passes, varied_can_be_tried}
use Rattle.trials.proofs.cases.Case.with_worth.Goals as goal

pub overflow_mul-place : goal.overflow_mul-place
overflow_mul-place c = omega (arith, in_fours _ _ _ c.requires.tried.taken)

pub overflow_add-place : goal.overflow_add-place
overflow_add-place c = omega (arith, in_fours _ _ _ c.requires.tried.taken)

pub index_mut-requires : goal.index_mut-requires
index_mut-requires c = omega (arith, in_fours _ _ _ c.requires.tried.taken, c.in_ok-numbers.ensures.len, c.as_slice.ensures.len)

pub returns-clause-tried : goal.returns-clause-tried
returns-clause-tried c =
    let a = c.args in
    rw (c.in_ok-numbers.ensures.items, c.as_slice.ensures.value)
    (varied_can_be_tried a.self.now.dishes a.self.now.turn a.self.now.numbers.items a.place a.worth c.requires.tried c.requires.within c.requires.small)

pub returns-clause-passes : goal.returns-clause-passes
returns-clause-passes c =
    let a = c.args in
    rw (c.in_ok-numbers.ensures.items, c.as_slice.ensures.value) (varied_passes a.self.now.numbers.items a.place a.worth c.requires.within)
