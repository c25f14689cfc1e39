use Rattle.std.proofs.Common.{◌≡◌, ◌-◌, ◌++◌, take}
use Rattle.trials.specs.Numbered.{plan_numbered}
use Rattle.trials.proofs.all_plans.write_plan.Given as goal

-- what is written goes on, by what is left of the number, to all of its plan
abbrev pub invariant-loop-named : goal.invariant-loop-named
invariant-loop-named l =
    plan_numbered l.base l.number l.named-index-end ≡ take l.named-index l.room ++ plan_numbered l.base l.rest (l.named-index-end - l.named-index)
