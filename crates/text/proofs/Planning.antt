-- Planning a night by its directions, if it has any. Assumes nothing.
use Rattle.std.proofs.Common.{◌≡◌, true}
use Rattle.passes.specs.Nights.{passes_of}
use Rattle.passes.specs.Plans.{Plan, fits}
use Rattle.slewing.proofs.Directed.{good_without}
use Rattle.text.specs.declared.nights.NamedNight.{NamedNight}
use Rattle.text.specs.Lists.{good_of}

-- a plan that is good by a night's directions is good
pub good_fits : (n : NamedNight) (ds : Plan) → good_of n (passes_of n.night) ds ≡ true → fits n.night.station (passes_of n.night) ds ≡ true
good_fits n ds good = good_without n.night n.slewing ds n.directed good
