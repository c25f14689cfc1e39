-- A night as a sequence of decisions, over states rounded up. Assumes nothing: these are definitions.
use Rattle.std.specs.Prelude.{◌≡◌, ℕ, ◌+◌, ◌-◌, ◌^◌, ◌<◌, ◌≤◌, Bool, true, cond, ◌&&◌, ◌||◌, List, map, length, drop, Some, None, Option, ◌==◌, nat_le, nat_lt, slice_index}
use Rattle.std.specs.List.{position_or_len, range_with_len}
use Rattle.engine.specs.Gaining.{Gaining}
use Rattle.passes.specs.declared.model.Pass.{Pass}
use Rattle.passes.specs.Follow.{may}
use Rattle.passes.specs.Rule.{nth}
use Rattle.capacity.specs.Order.{InTime}
use Rattle.pruning.specs.declared.rounding.TheConstants.{WIDE_DISHES}
use Rattle.pruning.specs.declared.rounding.NextPasses.{NextPasses}

-- dish d is there and may follow the pass, which begins in the second x or later
abbrev pub suits : (turns : List ℕ) → (d x : ℕ) → Pass → Bool
suits turns d x p = nat_lt d (length turns) && (may p d && nat_le x p.from)

-- the first pass from pass k on that suits dish d from the second x on, or the number of passes if none does
abbrev pub next_pass : (turns : List ℕ) → List Pass → (d k x : ℕ) → ℕ
next_pass turns ps d k x = k + position_or_len (suits turns d x) (drop k ps)

-- a number for each dish
abbrev pub each_dish : (ℕ → ℕ) → NextPasses
each_dish f = record { next = map f (range_with_len 0 WIDE_DISHES) }

-- the second from which dish d is free again once it has followed the pass
abbrev pub free_after : (turns : List ℕ) → Pass → ℕ → ℕ
free_after turns p d = p.to + slice_index turns d

-- the next pass of dish d after the decision c on pass i: the dish that follows it has to turn, and one for which it was the next waits for another
abbrev pub next_then : (turns : List ℕ) → List Pass → (i c : ℕ) → NextPasses → ℕ → ℕ
next_then turns ps i c s d =
    cond (c == d + 1) (next_pass turns ps d (i + 1) (free_after turns (nth ps i) d))
    (cond (slice_index s.next d == i) (next_pass turns ps d (i + 1) 0) (slice_index s.next d))

-- a decision on pass i is allowed: 0, for not followed, or the dish that follows it, one for which it is the next pass
abbrev pub allowed : (turns : List ℕ) → (i c : ℕ) → NextPasses → Bool
allowed turns i c s = c == 0 || (nat_le c (length turns) && slice_index s.next (c - 1) == i)

-- where a decision on pass i leads, if it is allowed
abbrev pub go_on : (turns : List ℕ) → List Pass → (i c : ℕ) → NextPasses → Option NextPasses
go_on turns ps i c s = cond (allowed turns i c s) (Some (each_dish (next_then turns ps i c s))) None

-- k can be the next pass of dish d at pass i: it lies there or behind, and suits the dish, or there is none
pub record NextFor (turns : List ℕ) (ps : List Pass) (i d k : ℕ) : Type 0 where
  pub later : i ≤ k
  pub within : k ≤ length ps
  pub suited : k < length ps → suits turns d 0 (nth ps k) ≡ true

-- the state is one of passes from pass i on
pub record Upcoming (turns : List ℕ) (ps : List Pass) (i : ℕ) (s : NextPasses) : Type 0 where
  pub one_each : length s.next ≡ WIDE_DISHES
  pub each : (d : ℕ) → d < WIDE_DISHES → NextFor turns ps i d (slice_index s.next d)

-- no dish's next pass comes later in the state a than in b
abbrev pub NoLater : NextPasses → NextPasses → Type 0
NoLater a b = (d : ℕ) → d < WIDE_DISHES → slice_index a.next d ≤ slice_index b.next d

-- no pass is worth more than 32 bits hold
abbrev pub Small : List Pass → Type 0
Small ps = (i : ℕ) → i < length ps → (nth ps i).worth < 2 ^ 32

-- how many dishes a wide night may have
abbrev pub max_wide_dishes : ℕ
max_wide_dishes = 8

-- how many passes a wide night may have
abbrev pub max_wide_passes : ℕ
max_wide_passes = 128

-- so many dishes and passes as there can be, and passes in order of time
pub record FitsNight (turns : List ℕ) (ps : List Pass) : Type 0 where
  pub few_dishes : length turns ≤ max_wide_dishes
  pub few_passes : length ps ≤ max_wide_passes
  pub in_time : InTime ps

-- the night: a decision on each pass, in their order, by which the passes that are followed are gained
abbrev pub rounded_night : (turns : List ℕ) → List Pass → Gaining NextPasses
rounded_night turns ps = record {
  moves = record {
    stages = length ps;
    choices = λ i. length turns + 1;
    start = each_dish (λ d. next_pass turns ps d 0 0);
    step = λ i c s. go_on turns ps i c s;
    fine = λ i s. Upcoming turns ps i s;
  };
  gain = λ i c s. cond (c == 0) 0 (nth ps i).worth;
  most = 4294967295;
}
