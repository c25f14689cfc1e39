-- Passes whose neighbours are in order of time, and those that were checked, are in order of time. Assumes nothing.
use Rattle.std.proofs.Common.{◌≡◌, ℕ, ◌+◌, ◌<◌, ◌≤◌, true, List, length, arith}
use Rattle.std.proofs.lemmas.List.{get_or_default}
use Rattle.std.proofs.lemmas.List.Sorted.{IsNonDecreasingBy-from_all_adjacent}
use Rattle.std.proofs.lemmas.Bool.Decides.{nat_tests}
use Rattle.passes.specs.declared.model.Pass.{Pass}
use Rattle.passes.specs.declared.model.Station.{Station}
use Rattle.passes.specs.Checks.{in_range, checked}
use Rattle.passes.specs.Rule.{no_pass, nth}
use Rattle.passes.proofs.Checking.{checked_says}
use Rattle.capacity.specs.Order.{EachEnds, InTime}

-- a pass in range ends after it begins
in_range_ends : (p : Pass) → in_range p ≡ true → p.from < p.to
unfolding in_range
in_range_ends p h = grind (arith, nat_tests)

-- passes that each end after they begin, and of which none begins before the one before it, are in order of time
pub in_time_from_neighbours : (ps : List Pass) → EachEnds ps → ((i : ℕ) → i + 1 < length ps → (nth ps i).from ≤ (nth ps (i + 1)).from) → InTime ps
in_time_from_neighbours ps ends order = record {
  ends = ends;
  order = λ i j. IsNonDecreasingBy-from_all_adjacent (λ p. p.from) ps (λ k d l. rw (get_or_default ps k d no_pass (omega arith), get_or_default ps (k + 1) d no_pass l) (order k l)) i j no_pass;
}

pub in_time_from_checked : (s : Station) (ps : List Pass) → checked s ps ≡ true → InTime ps
in_time_from_checked s ps h = let ok = checked_says s ps h in in_time_from_neighbours ps (λ i l. in_range_ends (nth ps i) (ok.ranges i l)) ok.order
