use Rattle.passes.proofs.Taking.{room_taken}
use Rattle.passes.specs.Nights.{passes_of}
use Rattle.sensitivity.proofs.OnePass.{best_by_anything}
use Rattle.sensitivity.proofs.inquiries.plan_into.Goals as goal

pub unwrap-requires : goal.unwrap-requires
unwrap-requires c = room_taken _ _ c.plan_taken.result c.requires.one_each c.plan_taken.ensures.refusal

pub returns : goal.returns
returns c =
    let n = c.args.night.now in
    best_by_anything n.station (passes_of n) _ _ (rw c.unwrap.ensures at c.plan_taken.ensures.planned)
