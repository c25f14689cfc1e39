-- That the decisions of a night are lawful. Assumes nothing.
use Rattle.std.proofs.Common.{ℕ, ◌≤◌, List, length, refl, length-set, arith}
use Rattle.std.proofs.lemmas.Bool.Decides.{nat_tests}
use Rattle.engine.specs.Runs.{MoveLaws}
use Rattle.engine.specs.Gaining.{SumLaws}
use Rattle.passes.specs.declared.model.Pass.{Pass}
use Rattle.pruning.specs.declared.rounding.TheConstants.{WIDE_PASSES}
use Rattle.pruning.specs.Rounding.{Small}
use Rattle.planner.specs.Nights.{night}

-- steps keep a second for each dish, and no more is allowed than is offered
pub night_moves : (turns : List ℕ) (ps : List Pass) → MoveLaws (night turns ps).moves
night_moves turns ps = record {
  fine_start = refl;
  fine_step = λ i c s t l fine h. grind (arith, nat_tests, length-set);
  offered = λ i c s t l fine h. grind (arith, nat_tests);
}

-- no pass is worth more than is said of any, and all together fit
pub night_sums : (turns : List ℕ) (ps : List Pass) → Small ps → length ps ≤ WIDE_PASSES → SumLaws (night turns ps)
night_sums turns ps small few = record {
  at_most = λ i c s t l fine h. let one = small i l in grind (arith, nat_tests);
  fits = omega arith;
}
