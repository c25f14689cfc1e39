use Rattle.std.proofs.Common.{◌≡◌, ℕ, ◌<◌, ◌≤◌, true, ◌≢◌, length, take, refl, ap, ◌∙◌, arith, length-set, get_or-set_other, get_or-set_same, below_more}
use Rattle.std.proofs.lemmas.Result.{err_from_is_err_and}
use Rattle.std.proofs.lemmas.Bool.{and_from, le-leb}
use Rattle.std.proofs.lemmas.Bool.Decides.{nat_tests}
use Rattle.std.proofs.Math.Nat.{le-max_left}
use Rattle.passes.proofs.Checking.{checked_says}
use Rattle.slewing.specs.Numbers.{sound_sweep, sweeps_in}
use Rattle.slewing.specs.Refusals.{slewing_refused, slewing_ok}
use Rattle.slewing.proofs.Taking.{looked_at, sound_says, first_at_fault, none_at_fault, list_around, room_is, length-sweeps_in, twos}
use Rattle.slewing.proofs.slewings.Slewing.read.Goals as goal
use Rattle.slewing.proofs.slewings.Slewing.read.Goals.{After-loop-i}

pub returns-then-step-gt-MAX_STEP-clause-refusal : goal.returns-then-step-gt-MAX_STEP-clause-refusal
unfolding slewing_refused
returns-then-step-gt-MAX_STEP-clause-refusal c = grind (arith, nat_tests)

pub returns-in_err-sweeps-clause-refusal : goal.returns-in_err-sweeps-clause-refusal
unfolding slewing_refused
returns-in_err-sweeps-clause-refusal c =
    let p = err_from_is_err_and c.from_residual.result c.from_residual.ensures.1 in
    let fault = c.in_err-sweeps.ensures in
    let n = length c.passes-count.result.now in
    let first = first_at_fault n c.args.directions.now c.loop-i.i (omega (arith, c.div_ceil.ensures, c.max-i-end.ensures)) c.loop-i.invariant.1 fault.1 in
    let step_ok = le-leb c.args.step 1000000 (omega arith) in
    rw (p.1, p.2, fault.0, ← c.passes-count.ensures, step_ok, first) refl

pub bounds-sweeps-i : goal.bounds-sweeps-i
bounds-sweeps-i c =
    omega (arith, (sound_says _ _ _ c.in_ok-sweeps.ensures.0).there, ap length c.passes-count.ensures, (checked_says _ _ c.args.night.now.ok).few)

pub loop-i-preserved : goal.loop-i-preserved
loop-i-preserved c =
    let sound_here = c.in_ok-sweeps.ensures in
    let within : c.loop-i.i < length c.loop-i.sweeps =
    omega (arith, c.loop-i.invariant.0, (sound_says _ _ _ sound_here.0).there, ap length c.passes-count.ensures, (checked_says _ _ c.args.night.now.ok).few) in (
      simp length-set c.loop-i.invariant.0,
      below_more _ _ c.loop-i.invariant.1 sound_here.0,
      below_more _ _
          (λ k h. let ne : k ≢ c.loop-i.i = omega arith in rw get_or-set_other (c.loop-i.invariant.2 k h))
          (rw get_or-set_same sound_here.1),
    )

-- where the loop ends, it has looked at every pass
all_sound :
    (c : After-loop-i) (k : ℕ) → k < looked_at (length c.passes-count.result.now) c.args.directions.now →
    sound_sweep (length c.passes-count.result.now) c.args.directions.now k ≡ true
all_sound c k h = c.loop-i.invariant.1 k (omega (arith, c.div_ceil.ensures, c.max-i-end.ensures))

-- and the room holds the directions
filled : (c : After-loop-i) → take (length c.passes-count.result.now) c.loop-i.sweeps ≡ sweeps_in c.args.directions.now
filled c =
    let few : length c.passes-count.result.now ≤ 48 = omega (arith, ap length c.passes-count.ensures, (checked_says _ _ c.args.night.now.ok).few) in
    room_is _ _ (all_sound c) _ c.loop-i.invariant.0 few (λ k l. c.loop-i.invariant.2 k (omega (arith, le-max_left (length c.passes-count.result.now) c.div_ceil.result, c.max-i-end.ensures)))

pub invariant_of-result : goal.invariant_of-result
unfolding slewing_ok
invariant_of-result c = record {
  few = omega (arith, ap length c.passes-count.ensures, (checked_says _ _ c.args.night.now.ok).few);
  ok = rw (filled c) (and_from _ _ (le-leb c.args.step 1000000 (omega arith)) (list_around _ _ (all_sound c)));
}

pub returns-clause-refusal : goal.returns-clause-refusal
unfolding slewing_refused
returns-clause-refusal c =
    let after = (goal.at.returns-clause-refusal c).After-loop-i in
    rw (← c.passes-count.ensures, le-leb c.args.step 1000000 (omega arith), none_at_fault _ _ (all_sound after)) refl

pub returns-clause-slewing : goal.returns-clause-slewing
returns-clause-slewing c =
    let after = (goal.at.returns-clause-slewing c).After-loop-i in
    record { same_step = refl; same_sweeps = filled after; one_each = ap length (filled after) ∙ omega (arith, length-sweeps_in c.args.directions.now, twos _ _ (all_sound after), ap length c.passes-count.ensures) }
