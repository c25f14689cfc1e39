use Rattle.std.proofs.Common.{[], set, get_or, sym, subst, ◌∙◌, ⊎_elim, arith, length-set}
use Rattle.std.proofs.lemmas.Bool.{cases_eq}
use Rattle.std.proofs.lemmas.List.{get_or-set_other, get_or-set_same}
use Rattle.capacity.specs.Alone.{RightFrom}
use Rattle.pruning.specs.Prices.{station_of_dish}
use Rattle.pruning.proofs.prepared.Prepared.tables_of.Goals as goal

pub loop-dish-preserved : goal.loop-dish-preserved
loop-dish-preserved c =
    let r = c.args.self.now.night in
    let l = c.loop-dish in
    let table = c.table_of.result in
    let tables = set l.tables l.dish table in (
      length-set l.tables l.dish table ∙ l.invariant.0,
      λ d h. ⊎_elim
          (λ same. subst (λ e. RightFrom 0 (station_of_dish r.turns.now e) e r.passes.now c.args.gains.now (get_or tables e [])) (sym same) (rw (get_or-set_same l.tables l.dish table [] (omega arith)) c.table_of.ensures))
          (λ other. rw (get_or-set_other l.tables l.dish d table [] other) (l.invariant.1 d (omega arith)))
          (cases_eq d l.dish),
    )
