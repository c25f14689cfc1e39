-- Prices of passes, and what they bound. Assumes nothing: these are definitions.
use Rattle.std.specs.Prelude.{◌≡◌, ℕ, suc, zero, ◌+◌, ◌-◌, ◌*◌, ◌^◌, ◌<◌, ◌≤◌, true, List, [], map, length, slice_index, slice_index_or}
use Rattle.std.specs.List.{range_with_len}
use Rattle.passes.specs.declared.model.Pass.{Pass}
use Rattle.passes.specs.declared.model.Station.{Station}
use Rattle.passes.specs.Rule.{nth}
use Rattle.capacity.specs.Alone.{RightFrom}
use Rattle.pruning.specs.declared.rounding.NextPasses.{NextPasses}
use Rattle.pruning.specs.Rounding.{suits, next_pass, free_after}

-- the station as dish d sees it: as if all its dishes took the time to turn that this one takes
abbrev pub station_of_dish : (turns : List ℕ) → ℕ → Station
station_of_dish turns d = record { dishes = length turns; turn = slice_index turns d }

-- no price is above what its pass is worth, in n-th parts
abbrev pub NoneAbove : ℕ → List Pass → (prices : List ℕ) → Type 0
NoneAbove n ps prices = (i : ℕ) → i < length ps → slice_index prices i ≤ n * (nth ps i).worth

-- no number is above what prices can be
abbrev pub Moderate : List ℕ → Type 0
Moderate xs = (i : ℕ) → i < length xs → slice_index xs i < 2 ^ 42

-- a price for each pass, and none above what it is worth
pub record Fair (n : ℕ) (ps : List Pass) (prices : List ℕ) : Type 0 where
  pub one_each : length prices ≡ length ps
  pub at_most : NoneAbove n ps prices

-- what is gained by following each pass, in n-th parts, once its price is paid
abbrev pub less_prices : ℕ → List Pass → (prices : List ℕ) → List ℕ
less_prices n ps prices = map (λ i. n * (nth ps i).worth - slice_index prices i) (range_with_len 0 (length ps))

-- what a dish's table has from pass k on
abbrev pub entry : (tables : List (List ℕ)) → (d k : ℕ) → ℕ
entry tables d k = slice_index (slice_index_or tables d []) k

-- each dish has a table of what it alone can gain at most from each pass on
abbrev pub Tables : (turns : List ℕ) → List Pass → (gains : List ℕ) → (tables : List (List ℕ)) → Type 0
Tables turns ps gains tables = (d : ℕ) → d < length turns → RightFrom 0 (station_of_dish turns d) d ps gains (slice_index_or tables d [])

-- each dish has a table of what it alone can gain at most from each pass on, in n-th parts, once prices are paid
abbrev pub TablesAt : ℕ → (turns : List ℕ) → List Pass → (prices : List ℕ) → (tables : List (List ℕ)) → Type 0
TablesAt n turns ps prices tables = Tables turns ps (less_prices n ps prices) tables

-- a number of each of the first k dishes, together
unfoldable pub together : ℕ → (ℕ → ℕ) → ℕ
together zero f = 0
together (suc k) f = together k f + f k

-- what each dish alone can gain from its next pass on, together
abbrev pub from_next : (turns : List ℕ) → (tables : List (List ℕ)) → NextPasses → ℕ
from_next turns tables s = together (length turns) (λ d. entry tables d (slice_index s.next d))

-- what is left of passes falls from each on to the next
abbrev pub LeftFalls : List Pass → (left : List ℕ) → Type 0
LeftFalls ps left = (k : ℕ) → k < length ps → slice_index left (k + 1) ≤ slice_index left k

-- what a dish's table has falls from each pass on to the next
abbrev pub TablesFall : (turns : List ℕ) → List Pass → (tables : List (List ℕ)) → Type 0
TablesFall turns ps tables = (d k : ℕ) → d < length turns → k < length ps → entry tables d (k + 1) ≤ entry tables d k

-- where a dish follows a pass, what is left and its table fall together by the pass's worth or more, in n-th parts
abbrev pub FallsPay : ℕ → (turns : List ℕ) → List Pass → (left : List ℕ) → (tables : List (List ℕ)) → Type 0
FallsPay n turns ps left tables =
    (d k : ℕ) → d < length turns → k < length ps → suits turns d 0 (nth ps k) ≡ true →
    n * (nth ps k).worth + slice_index left (k + 1) + entry tables d (next_pass turns ps d (k + 1) (free_after turns (nth ps k) d)) ≤ slice_index left k + entry tables d k

-- no entry of what is left of passes is too large for some few to be added up
abbrev pub LeftLow : List Pass → (left : List ℕ) → Type 0
LeftLow ps left = (k : ℕ) → k ≤ length ps → slice_index left k < 2 ^ 50

-- no entry of a dish's table is too large for some few to be added up
abbrev pub TablesLow : (turns : List ℕ) → List Pass → (tables : List (List ℕ)) → Type 0
TablesLow turns ps tables = (d k : ℕ) → d < length turns → k ≤ length ps → entry tables d k < 2 ^ 50
