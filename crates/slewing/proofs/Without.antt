-- Of a list in order of time a plan that is good with directions is good without. Assumes nothing.
use Rattle.std.proofs.Common.{◌≡◌, ℕ, true, List, length, sym, ◌∙◌, arith}
use Rattle.passes.specs.declared.model.Pass.{Pass}
use Rattle.passes.specs.declared.model.Station.{Station}
use Rattle.passes.specs.Plans.{Plan, fits}
use Rattle.capacity.specs.Order.{InTime}
use Rattle.slewing.specs.declared.directions.Sweep.{Sweep}
use Rattle.slewing.specs.Directions.{legs}
use Rattle.slewing.specs.Slewed.{slewed}
use Rattle.slewing.proofs.Seconds.{slews_fewer}
use Rattle.slewing.proofs.Next.{next_from_no_steps, next_is_any}

-- it is good with no seconds for a step, and then the turning time is all that is asked
pub fits_from_slews : (s : Station) (k : ℕ) (vs : List Sweep) (ps : List Pass) (ds : Plan) → InTime ps → length vs ≡ length ps → slewed s k vs ps ds ≡ true → fits s ps ds ≡ true
fits_from_slews s k vs ps ds time one_each h =
    let next = next_from_no_steps 0 s vs ps ds one_each (λ i v _ j w _. omega arith) in
    sym (next_is_any s ps ds time) ∙ (sym next ∙ slews_fewer 0 k (omega arith) s (legs ps vs) ds h)
