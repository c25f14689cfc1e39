use Rattle.std.proofs.Common.{◌≡◌, ◌+◌, ◌*◌, ◌^◌, ◌≤◌, length}
use Rattle.std.specs.Iterator.Adapters.{zip_first, zip_second}
use Rattle.std.specs.Slice.Iter.{iter_rest}
use Rattle.passes.specs.Plans.{worth_of}
use Rattle.trials.proofs.judging.worth.Given as goal

-- what is left makes up the worth
abbrev pub invariant-loop-pass : goal.invariant-loop-pass
invariant-loop-pass l =
    let passes = iter_rest (zip_first l.pass-iterator) in
    let plan = iter_rest (zip_second l.pass-iterator) in
    (length plan ≡ length passes) × (l.worth + worth_of passes plan ≡ worth_of l.passes l.plan) × (l.worth + length passes * 2 ^ 32 ≤ 48 * 2 ^ 32)
