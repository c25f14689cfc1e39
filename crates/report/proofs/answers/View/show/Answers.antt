use Rattle.std.proofs.Common.{◌≡◌, Ok, Err, Result, String, string_bytes, rules}
use Rattle.std.specs.Prelude.{IfOk}
use Rattle.passes.specs.Nights.{passes_of}
use Rattle.planner.specs.Ruled.{BestBy}
use Rattle.text.specs.declared.nights.NamedNight.{NamedNight}
use Rattle.text.specs.declared.planned.Planned.{Planned}
use Rattle.text.specs.Lists.{good_of}
use Rattle.report.specs.declared.answers.View.{View}
use Rattle.report.specs.Answers.{Shows, ShowsBest}
use Rattle.report.proofs.answers.View.show.Goals as goal

-- what shows a best plan for the night is what was asked for
shown :
    {Z E : Type 0} (view : View) (night : NamedNight) (p : Planned) (r : Result (String Z) E) → p.night ≡ night →
    BestBy (good_of night) (passes_of night.night) p.plan.items p.worth → IfOk r (λ t. Shows view p (string_bytes t)) → IfOk r (λ t. ShowsBest view night (string_bytes t))
shown view night p (Ok t) same best shows = record { planned = p; same = same; best = best; shows = shows }
shown view night p (Err e) same best shows = shows

pub returns-in_ok-plan-in-Plan : goal.returns-in_ok-plan-in-Plan
returns-in_ok-plan-in-Plan c =
    let made = c.in_ok-plan-in-Plan in
    shown _ _ made.field-0 _ made.ensures.same made.ensures.best (rw c.in-Plan.is (search rules))

pub returns-in_ok-plan-in-Timeline : goal.returns-in_ok-plan-in-Timeline
returns-in_ok-plan-in-Timeline c =
    let made = c.in_ok-plan-in-Timeline in
    shown _ _ made.field-0 _ made.ensures.same made.ensures.best (rw c.in-Timeline.is (search rules))

pub returns-in_ok-plan-in-Svg : goal.returns-in_ok-plan-in-Svg
returns-in_ok-plan-in-Svg c =
    let made = c.in_ok-plan-in-Svg in
    shown _ _ made.field-0 _ made.ensures.same made.ensures.best (rw c.in-Svg.is (search rules))

pub returns-in_ok-explain-in-Why : goal.returns-in_ok-explain-in-Why
returns-in_ok-explain-in-Why c =
    let made = c.in_ok-explain-in-Why in
    shown _ _ made.field-0.planned _ made.ensures.same made.ensures.best (rw c.in-Why.is (search rules))
