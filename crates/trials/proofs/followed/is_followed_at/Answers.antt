use Rattle.std.proofs.Common.{◌≡◌, ◌∙◌}
use Rattle.passes.specs.Nights.{NightOf, passes_of, station_of}
use Rattle.passes.specs.Numbers.{passes_in}
use Rattle.passes.specs.Plans.{Best}
use Rattle.sensitivity.specs.Needing.{with_worth}
use Rattle.trials.proofs.followed.is_followed_at.Goals as goal
use Rattle.trials.proofs.followed.is_followed_at.Goals.{After-is_followed}

-- the night is that of the case with this worth
read : (c : After-is_followed) → NightOf c.in_ok-varied.varied.dishes c.in_ok-varied.varied.turn c.in_ok-varied.varied.numbers.items c.unwrap-night.result
read c = rw (c.unwrap-night.ensures, c.as_slice.ensures.value) at c.read.ensures.night

pub returns : goal.returns
unfolding Best
returns c =
    let night = read (goal.at.returns c).After-is_followed in
    let varied = c.in_ok-varied.ensures in
    let passes : passes_of c.unwrap-night.result ≡ with_worth (passes_in c.args.case.now.numbers.items) c.args.place c.args.worth = night.same_passes ∙ varied.passes in
    let station : c.unwrap-night.result.station ≡ station_of c.args.case.now.dishes c.args.case.now.turn = night.same_station ∙ varied.station in
    rw (passes, station) at c.is_followed.ensures
