use Rattle.std.proofs.Common.{◌≡◌, ◌++◌, map, string_bytes}
use Rattle.std.specs.List.{flat_map, range_with_len}
use Rattle.text.specs.PlanText.{dish_line, worth_line}
use Rattle.text.proofs.planned.Planned.text.Given as goal

-- the dishes so far are written
abbrev pub invariant-loop-dish : goal.invariant-loop-dish
invariant-loop-dish l =
    string_bytes l.text ≡ worth_line l.self.worth ++ flat_map (dish_line (map string_bytes l.labels.items) l.self.plan.items) (range_with_len 0 l.dish-counter)
