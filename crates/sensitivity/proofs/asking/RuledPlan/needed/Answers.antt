use Rattle.std.proofs.Common.{refl, arith}
use Rattle.std.proofs.lemmas.Bool.{and_parts}
use Rattle.passes.specs.Nights.{passes_of}
use Rattle.passes.specs.Plans.{fits}
use Rattle.sensitivity.specs.Needing.{with_worth}
use Rattle.sensitivity.proofs.Stations.{no_dish}
use Rattle.sensitivity.proofs.OnePass.{long_by}
use Rattle.sensitivity.proofs.asking.RuledPlan.needed.Goals as goal

pub bounds-self-place : goal.bounds-self-place
bounds-self-place g c =
    let n = c.args.self.now.night.now in
    omega (arith, long_by n.station (g.R.Rule.automaton c.args.self.now.rule) (passes_of n) c.args.self.now.plan.now c.requires.best.is_good, c.requires.within)

pub returns : goal.returns
returns g c =
    let n = c.args.self.now.night.now in
    let deaf = rw c.if-is_heard.false at c.is_heard.ensures in
    record {
      told = λ v ds good. (no_dish n.station (passes_of n) c.args.place c.requires.within).1 deaf v ds (and_parts (fits n.station (with_worth (passes_of n) c.args.place v) ds) _ good).0;
      left = refl {a = c.args.room.now};
    }
