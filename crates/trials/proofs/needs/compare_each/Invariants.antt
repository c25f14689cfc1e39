use Rattle.std.proofs.Common.{◌≡◌, ℕ, ◌<◌, get_or, vec_len}
use Rattle.passes.specs.Nights.{station_of}
use Rattle.passes.specs.Numbers.{passes_in}
use Rattle.trials.specs.declared.needs.Asked.TheVariants.{Mismatch}
use Rattle.trials.specs.Needs.{TrueAsked}
use Rattle.trials.proofs.needs.compare_each.Given as goal

-- something true is said of each pass so far
abbrev pub invariant-loop-place : goal.invariant-loop-place
invariant-loop-place l =
    (vec_len l.asked ≡ l.place)
    × ((i : ℕ) → i < l.place →
    TrueAsked (station_of l.case.dishes l.case.turn) (passes_in l.case.numbers.items) i (get_or l.needed i 0) (get_or l.asked.items i Mismatch))
