use Rattle.std.proofs.Common.{◌≡◌, refl, arith, ◌∙◌, sym}
use Rattle.std.proofs.lemmas.Bool.{both_ways, false≢true}
use Rattle.passes.specs.Nights.{passes_of}
use Rattle.trials.proofs.Following.{found, none_found, none_yet, most_is_some}
use Rattle.trials.specs.Numbered.{good_of, BestWorthBy}
use Rattle.trials.proofs.Choosing.{choosable}
use Rattle.trials.proofs.Numbering.{nth_plan}
use Rattle.trials.proofs.followed.is_followed.Goals as goal
use Rattle.trials.proofs.followed.is_followed.Goals.{else-room-place-gt0-via-then-room-place-gt0+else-is_good_for, else-room-place-gt0-via-else-room-place-gt0}

pub unwrap-most-requires : goal.unwrap-most-requires
unwrap-most-requires c = most_is_some (good_of c.args.judge.now) c.args.judge.now.night.station (passes_of c.args.judge.now.night) c.most_worth.result c.requires.few c.most_worth.ensures

pub loop-number-preserved : goal.loop-number-preserved
loop-number-preserved c =
    let j = c.args.judge.now in
    let n = j.night in
    let written : c.write_plan.new.room ≡ nth_plan n.station (passes_of n) (good_of j) c.loop-number.number =
    rw (c.station.ensures, c.loop-number.invariant.1) at c.write_plan.ensures
    in (
      none_yet n.station (passes_of n) (good_of j) c.args.place c.unwrap-most.result c.loop-number.number _ written c.loop-number.invariant.0
          (λ good followed.
          elim c.else-room-place-gt0.branch [
            | else-room-place-gt0-via-then-room-place-gt0+else-is_good_for w ↦ both_ways _ w.if-is_good_for.false (w.is_good_for.ensures ∙ good)
            | else-room-place-gt0-via-else-room-place-gt0 w ↦ omega (arith, followed, w.if-room-place-gt0.false)
          ]),
      omega (arith, c.write_plan.auto.room, c.loop-number.invariant.1),
    )

pub returns-then-is_good_for : goal.returns-then-is_good_for
returns-then-is_good_for c =
    let j = c.args.judge.now in
    let n = j.night in
    let best : BestWorthBy (good_of j) (passes_of n) c.unwrap-most.result = rw c.unwrap-most.ensures at c.most_worth.ensures in (
      λ _.
          let good = sym c.is_good_for.ensures ∙ c.if-is_good_for.true in
          found n.station (passes_of n) (good_of j) c.args.place c.unwrap-most.result best c.write_plan.new.room good c.if-room-place-gt0.true,
      λ _. refl,
    )

pub returns : goal.returns
returns c =
    let j = c.args.judge.now in
    let n = j.night in
    let best : BestWorthBy (good_of j) (passes_of n) c.unwrap-most.result = rw c.unwrap-most.ensures at c.most_worth.ensures in
    let all = rw (c.pow-number-end.ensures, c.station.ensures, c.most_worth.auto.room, c.requires.one_each) at c.loop-number-test.false in (
      λ e. absurd (false≢true e),
      λ some.
          absurd (none_found n.station (passes_of n) (good_of j) c.args.place c.unwrap-most.result best (choosable j) c.loop-number.number all c.loop-number.invariant.0 some),
    )
