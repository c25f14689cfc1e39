-- Passes as a list of numbers, and which of them are at fault. Assumes nothing: these are definitions.
use Rattle.std.specs.Prelude.{◌≡◌, ℕ, zero, suc, ◌+◌, ◌-◌, ◌*◌, ◌/◌, Bool, cond, ◌&&◌, ◌||◌, true, false, List, [], ◌∷◌, length, Some, None, Option, Result, MatchResult, ◌==◌, nat_le, nat_lt, slice_index}
use Rattle.passes.specs.declared.model.OutOfRange.{OutOfRange}
use Rattle.passes.specs.declared.model.Pass.{Pass}
use Rattle.passes.specs.Checks.{max_passes, in_range}

-- the passes that a list of numbers stands for, four to a pass: from, to, worth, marks
unfoldable pub passes_in : List ℕ → List Pass
passes_in [] = []
passes_in (a ∷ []) = []
passes_in (a ∷ (b ∷ [])) = []
passes_in (a ∷ (b ∷ (c ∷ []))) = []
passes_in (a ∷ (b ∷ (c ∷ (m ∷ xs)))) = record { from = a; to = b; worth = c; marks = m } ∷ passes_in xs

-- the four numbers of pass i
abbrev pub pass_at : List ℕ → ℕ → Pass
pass_at xs i = record { from = slice_index xs (4 * i); to = slice_index xs (4 * i + 1); worth = slice_index xs (4 * i + 2); marks = slice_index xs (4 * i + 3) }

-- four numbers are taken as the pass that they stand for exactly if that is in range
abbrev pub ReadAsPass : List ℕ → Result Pass OutOfRange → Type 0
ReadAsPass xs r = MatchResult r (λ p. (in_range (pass_at xs 0) ≡ true) × (p ≡ pass_at xs 0)) (λ _. in_range (pass_at xs 0) ≡ false)

-- how many passes the numbers begin: one that is cut off at the end counts
abbrev pub begun : List ℕ → ℕ
begun xs = (length xs + 3) / 4

-- pass i doesn't begin before the one before it
unfoldable pub in_order : List ℕ → ℕ → Bool
in_order xs i = i == 0 || nat_le (slice_index xs (4 * (i - 1))) (slice_index xs (4 * i))

-- pass i of a list is not at fault: it is among the first 48 (`max_passes`), has its four numbers, is in range and in order
unfoldable pub sound : List ℕ → ℕ → Bool
sound xs i = nat_lt i max_passes && (nat_le (4 * i + 4) (length xs) && (in_range (pass_at xs i) && in_order xs i))

-- the first of the n numbers from i on that fails a test
unfoldable pub first_failing : (ℕ → Bool) → ℕ → ℕ → Option ℕ
first_failing ok i zero = None
first_failing ok i (suc n) = cond (ok i) (first_failing ok (suc i) n) (Some i)

-- the first pass at fault of a list of numbers, reading from the front
unfoldable pub first_fault : List ℕ → Option ℕ
first_fault xs = first_failing (sound xs) 0 (begun xs)
