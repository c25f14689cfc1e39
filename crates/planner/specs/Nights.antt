-- A night as a sequence of decisions. Assumes nothing: these are definitions.
use Rattle.std.specs.Prelude.{◌≡◌, ℕ, ◌+◌, ◌-◌, Bool, cond, ◌&&◌, List, length, replicate, Some, None, Option, ◌==◌, nat_le, slice_index, slice_set}
use Rattle.engine.specs.Gaining.{Gaining}
use Rattle.passes.specs.declared.model.Pass.{Pass}
use Rattle.passes.specs.Follow.{may}
use Rattle.passes.specs.Rule.{nth}
use Rattle.pruning.specs.declared.rounding.TheConstants.{WIDE_DISHES}
use Rattle.planner.specs.declared.scheduling.FreeFrom.{FreeFrom}

-- the dish that plans call d can follow the pass: it is there, may follow it, and is free when it begins
abbrev pub can_follow : (turns : List ℕ) → Pass → ℕ → FreeFrom → Bool
can_follow turns p d s = nat_le d (length turns) && (may p (d - 1) && nat_le (slice_index s.seconds (d - 1)) p.from)

-- once the dish that plans call d has followed the pass, it is free when it has turned
abbrev pub after_following : (turns : List ℕ) → Pass → ℕ → FreeFrom → FreeFrom
after_following turns p d s = record { seconds = slice_set s.seconds (d - 1) (p.to + slice_index turns (d - 1)) }

-- a decision on a pass: 0, for not followed, or the dish that follows it
abbrev pub decide : (turns : List ℕ) → Pass → ℕ → FreeFrom → Option FreeFrom
decide turns p d s = cond (d == 0) (Some s) (cond (can_follow turns p d s) (Some (after_following turns p d s)) None)

-- the night: a decision on each pass, in their order, by which the passes that are followed are gained
abbrev pub night : (turns : List ℕ) → List Pass → Gaining FreeFrom
night turns ps = record {
  moves = record {
    stages = length ps;
    choices = λ i. length turns + 1;
    start = record { seconds = replicate WIDE_DISHES 0 };
    step = λ i d s. decide turns (nth ps i) d s;
    fine = λ i s. length s.seconds ≡ WIDE_DISHES;
  };
  gain = λ i d s. cond (d == 0) 0 (nth ps i).worth;
  most = 4294967295;
}
