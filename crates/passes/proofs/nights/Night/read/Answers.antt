use Rattle.std.proofs.Common.{◌≡◌, ℕ, ◌<◌, true, ◌≢◌, length, take, sym, refl, ap, ◌∙◌, arith, length-set, get_or-set_other, get_or-set_same, below_more}
use Rattle.std.proofs.lemmas.Result.{err_from_is_err_and}
use Rattle.passes.specs.Numbers.{sound, begun, passes_in}
use Rattle.passes.specs.Refusals.{refused, list_refused}
use Rattle.passes.proofs.Taking.{sound_says, first_at_fault, none_at_fault, list_checked, room_is, fours, station_ok}
use Rattle.passes.proofs.nights.Night.read.Goals as goal
use Rattle.passes.proofs.nights.Night.read.Goals.{After-loop-i}

pub returns-in_err-station : goal.returns-in_err-station
unfolding refused
returns-in_err-station c =
    let p = err_from_is_err_and c.from_residual.result c.from_residual.ensures.1 in
    let told = c.in_err-station.ensures.refusal in
    record { refusal = rw (p.1, p.2, ← told) refl; night = rw p.1 tt }

pub bounds-passes-i : goal.bounds-passes-i
bounds-passes-i c = (sound_says _ _ c.in_ok-passes.ensures.0).early

pub returns-in_err-passes : goal.returns-in_err-passes
unfolding refused list_refused
returns-in_err-passes c =
    let p = err_from_is_err_and c.from_residual-in_err-passes.result c.from_residual-in_err-passes.ensures.1 in
    let fault = c.in_err-passes.ensures in
    let first = first_at_fault c.args.numbers.now c.loop-i.i (omega (arith, c.div_ceil-count.ensures)) c.loop-i.invariant.1 fault.1 in
    record { refusal = rw (p.1, p.2, fault.0, ← c.in_ok-station.ensures.refusal, first) refl; night = rw p.1 tt }

pub loop-i-preserved : goal.loop-i-preserved
loop-i-preserved c =
    let sound_here = c.in_ok-passes.ensures in
    let within : c.loop-i.i < length c.loop-i.passes = omega (arith, c.loop-i.invariant.0, (sound_says _ _ sound_here.0).early) in (
      simp length-set c.loop-i.invariant.0,
      below_more _ _ c.loop-i.invariant.1 sound_here.0,
      below_more _ _
          (λ k h. let ne : k ≢ c.loop-i.i = omega arith in rw get_or-set_other (c.loop-i.invariant.2 k h))
          (rw get_or-set_same sound_here.1),
    )

-- where the loop ends, it has looked at every pass that the numbers begin
all_sound : (c : After-loop-i) (k : ℕ) → k < begun c.args.numbers.now → sound c.args.numbers.now k ≡ true
all_sound c k h = c.loop-i.invariant.1 k (omega (arith, c.div_ceil-count.ensures))

-- and the room holds the list
filled : (c : After-loop-i) → take c.div_ceil-count.result c.loop-i.passes ≡ passes_in c.args.numbers.now
filled c =
    let count : c.div_ceil-count.result ≡ begun c.args.numbers.now = omega (arith, c.div_ceil-count.ensures) in
    ap (λ n. take n c.loop-i.passes) count ∙ room_is _ (all_sound c) _ c.loop-i.invariant.0 (λ k h. c.loop-i.invariant.2 k (omega arith))

pub invariant_of-result : goal.invariant_of-result
invariant_of-result c =
    let told = c.in_ok-station.ensures in
    let ok = station_ok _ _ (sym told.refusal) in
    let good = list_checked _ (all_sound c) c.in_ok-station.station (rw told.station ok.0) (rw told.station ok.1) in
    record { few = omega (arith, c.div_ceil-count.ensures, fours _ (all_sound c)); ok = rw (filled c) good }

pub returns : goal.returns
unfolding refused list_refused
returns c =
    let told = c.in_ok-station.ensures in
    let after = (goal.at.returns c).After-loop-i in
    record {
      refusal = rw (← told.refusal, none_at_fault _ (all_sound after)) refl;
      night = record { same_station = told.station; same_passes = filled after };
    }
