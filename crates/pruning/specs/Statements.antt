-- Statements about the definitions. Each is proved: a function of src/laws.rt has it as its contract. Assumes nothing.
use Rattle.std.specs.Prelude.{ℕ, ◌+◌, ◌*◌, ◌≤◌, List, length, drop, sum}
use Rattle.engine.specs.Runs.{Way}
use Rattle.engine.specs.Gaining.{gained}
use Rattle.passes.specs.declared.model.Pass.{Pass}
use Rattle.capacity.specs.Order.{InTime}
use Rattle.pruning.specs.declared.rounding.NextPasses.{NextPasses}
use Rattle.pruning.specs.Prices.{Fair, TablesAt, from_next}
use Rattle.pruning.specs.Rounding.{Upcoming, max_wide_dishes, rounded_night}

-- at any prices, no decisions from pass i on gain more than the prices of the passes that are left and what each dish alone can gain from its next
-- pass on, once prices are paid
abbrev pub PricesBound : Type 0
PricesBound =
    (turns : List ℕ) (ps : List Pass) (n : ℕ) (prices : List ℕ) (tables : List (List ℕ)) →
    length turns ≤ max_wide_dishes → InTime ps → Fair n ps prices → TablesAt n turns ps prices tables →
    (i : ℕ) (s : NextPasses) (cs : List ℕ) (e : NextPasses) → Upcoming turns ps i s → Way (rounded_night turns ps).moves i s cs e →
    n * gained (rounded_night turns ps).moves.step (rounded_night turns ps).gain i s cs ≤ sum (drop i prices) + from_next turns tables s
