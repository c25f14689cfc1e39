use Rattle.std.proofs.Common.{[], length, take, set, get_or, sym, subst, ◌∙◌, ⊎_elim, arith, length-set}
use Rattle.std.proofs.lemmas.Bool.{cases_eq}
use Rattle.std.proofs.lemmas.List.{get_or-set_other, get_or-set_same}
use Rattle.capacity.specs.Order.{Successors}
use Rattle.pruning.proofs.prepared.all_successors.Goals as goal

pub loop-dish-preserved : goal.loop-dish-preserved
loop-dish-preserved c =
    let night = c.args.night in
    let l = c.loop-dish in
    let found = c.successors_of.result in
    let one = c.alone.ensures in
    let here = rw (one.station, one.same_passes) at c.successors_of.ensures in (
      length-set l.after l.dish found ∙ l.invariant.0,
      λ d h. ⊎_elim
          (λ same. subst (λ e. Successors (get_or night.turns.now e 0) night.passes.now (take (length night.passes.now) (get_or (set l.after l.dish found) e []))) (sym same) (rw (get_or-set_same l.after l.dish found [] (omega arith)) here))
          (λ other. rw (get_or-set_other l.after l.dish d found [] other) (l.invariant.1 d (omega arith)))
          (cases_eq d l.dish),
    )
