use Rattle.std.proofs.Common.{◌≡◌, ◌<◌, ◌≤◌, ◌+◌, ℕ, true, false, cond, length, refl, sym, arith, rules}
use Rattle.std.specs.Prelude.{◌==◌}
use Rattle.std.proofs.lemmas.Bool.{cond_both}
use Rattle.std.proofs.lemmas.Bool.Decides.{nat_tests}
use Rattle.passes.specs.Nights.{passes_of}
use Rattle.passes.specs.Rule.{nth}
use Rattle.planner.specs.Ruled.{follows, fits_by}
use Rattle.sensitivity.specs.declared.needed.Needed.TheVariants.{Never, Worth}
use Rattle.sensitivity.specs.Needing.{TrueOf, BestOf}
use Rattle.sensitivity.proofs.Alike.{told_alike, asked_alike}
use Rattle.text.specs.Lists.{good_of}
use Rattle.reasons.specs.Others.{called}
use Rattle.reasons.proofs.Asked.{answered, as_well_followed, has_enough, followed_true, not_followed}
use Rattle.reasons.proofs.asking.Asking.reason.Goals as goal
use Rattle.reasons.proofs.asking.Asking.reason.Goals.{After-unwrap-needed, After-passes, Then-plan-place-gt0}

pub unwrap-needed-requires : goal.unwrap-needed-requires
unwrap-needed-requires g c =
    let a = c.args.self.now in
    let n = length (passes_of a.planned.now.night.night) in
    answered n c.args.place (length c.args.room.now) c.ask.result c.requires.within c.requires.one_each (rw a.same at c.ask.ensures.refusal)

pub returns-in-Never : goal.returns-in-Never
returns-in-Never g c =
    let a = c.args.self.now in
    let p = a.planned.now in
    let told = rw (c.unwrap-needed.ensures, a.same, c.in-Never.is) at c.ask.ensures.told in
    let none = told_alike (fits_by p.night.night.station (g.R.Rule.automaton a.inquiry.rule)) (good_of p.night) (passes_of p.night.night) c.args.place (a.agrees c.args.place) Never told in
    (not_followed (good_of p.night) (passes_of p.night.night) p.plan.items c.args.place c.requires.best.is_good none, none)

pub overflow_sub-worth : goal.overflow_sub-worth
overflow_sub-worth g c =
    let a = c.args.self.now in
    let p = a.planned.now in
    let told = rw (c.unwrap-needed.ensures, a.same, c.in-Worth.is) at c.ask.ensures.told in
    let needed = told_alike (fits_by p.night.night.station (g.R.Rule.automaton a.inquiry.rule)) (good_of p.night) (passes_of p.night.night) c.args.place (a.agrees c.args.place) (Worth c.in-Worth.needed) told in
    let followed : follows p.plan.items c.args.place ≡ true = rw (← c.plan-plan.ensures) (grind (arith, nat_tests)) in
    let same : c.passes.result.now ≡ passes_of p.night.night = search rules in
    rw same (has_enough (good_of p.night) (passes_of p.night.night) p.plan.items c.args.place c.in-Worth.needed p.worth c.requires.best followed needed)

pub returns-in-Worth : goal.returns-in-Worth
returns-in-Worth g c =
    let a = c.args.self.now in
    let p = a.planned.now in
    let good = good_of p.night in
    let by_rule = fits_by p.night.night.station (g.R.Rule.automaton a.inquiry.rule) in
    let told = rw (c.unwrap-needed.ensures, a.same, c.in-Worth.is) at c.ask.ensures.told in
    let needed = told_alike by_rule good (passes_of p.night.night) c.args.place (a.agrees c.args.place) (Worth c.in-Worth.needed) told in
    let followed : follows p.plan.items c.args.place ≡ true = rw (← c.plan-plan.ensures) (grind (arith, nat_tests)) in
    let same : c.passes.result.now ≡ passes_of p.night.night = search rules in
    let enough = has_enough good (passes_of p.night.night) p.plan.items c.args.place c.in-Worth.needed p.worth c.requires.best followed needed in
    rw (c.followed.ensures, same)
    (followed_true p.night.night.station (g.R.Rule.automaton a.inquiry.rule) good (passes_of p.night.night) p.plan.items (called p) c.args.place (a.agrees c.args.place) c.requires.within followed c.in-Worth.needed told enough)

pub returns-in-Worth-2 : goal.returns-in-Worth-2
returns-in-Worth-2 g c =
    let a = c.args.self.now in
    let p = a.planned.now in
    let ps = passes_of p.night.night in
    let told = rw (c.unwrap-needed.ensures, a.same, c.in-Worth-2.is) at c.ask.ensures.told in
    let needed = told_alike (fits_by p.night.night.station (g.R.Rule.automaton a.inquiry.rule)) (good_of p.night) ps c.args.place (a.agrees c.args.place) (Worth c.in-Worth-2.needed) told in
    let let_go : follows p.plan.items c.args.place ≡ false = rw (← c.plan-plan.ensures) (grind (arith, nat_tests)) in
    let same : c.passes.result.now ≡ ps = search rules in
    let enough : c.in-Worth-2.needed ≤ (nth ps c.args.place).worth = rw (← same) c.if-needed-worth.true in
    (let_go, (c.in-Worth-2.needed, needed, enough), as_well_followed (good_of p.night) ps c.args.place c.in-Worth-2.needed needed enough)

pub returns-in_ok-others_in-in-Worth-3-2 : goal.returns-in_ok-others_in-in-Worth-3-2
returns-in_ok-others_in-in-Worth-3-2 g c =
    let a = c.args.self.now in
    let p = a.planned.now in
    let ps = passes_of p.night.night in
    let by_rule = fits_by p.night.night.station (g.R.Rule.automaton a.inquiry.rule) in
    let told = rw (c.unwrap-needed.ensures, a.same, c.in-Worth-3.is) at c.ask.ensures.told in
    let left = rw (c.unwrap-needed.ensures, a.same, c.in-Worth-3.is) at c.ask.ensures.left in
    let needed = told_alike by_rule (good_of p.night) ps c.args.place (a.agrees c.args.place) (Worth c.in-Worth-3.needed) told in
    let let_go : follows p.plan.items c.args.place ≡ false = rw (← c.plan-plan.ensures) (grind (arith, nat_tests)) in
    let same : c.passes.result.now ≡ ps = search rules in (
      let_go,
      rw same refl,
      grind (arith, c.if-needed-worth.false),
      needed,
      record {
        plan = c.ask.new.room;
        best = asked_alike by_rule (good_of p.night) ps c.args.place (a.agrees c.args.place) true c.ask.new.room left;
        worth_with_it = search rules;
        go = search rules;
        come = search rules;
      },
    )
