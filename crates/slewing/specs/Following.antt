-- The rule that dishes are in time as an automaton. Assumes nothing: these are definitions.
use Rattle.std.specs.Prelude.{◌≡◌, ℕ, ◌+◌, ◌-◌, ◌*◌, ◌<◌, Bool, true, false, ◌&&◌, ◌||◌, cond, List, length, replicate, Some, None, Option, option_and_then, ◌==◌, nat_le, slice_get, slice_index_or, slice_set}
use Rattle.engine.specs.Rules.{Automaton, automaton_of}
use Rattle.slewing.specs.declared.following.Last.{Last}
use Rattle.slewing.specs.declared.following.LastPasses.{LastPasses}
use Rattle.slewing.specs.declared.directions.Leg.{Leg}
use Rattle.slewing.specs.Directions.{arrives}

-- how many dishes a station may have
abbrev pub max_dishes : ℕ
max_dishes = 4

-- no dish has followed a pass yet
abbrev pub none_followed : LastPasses
none_followed = record { of_dish = replicate max_dishes None }

-- the last pass that the dish followed that plans call d, if there is one
abbrev pub last_of : LastPasses → ℕ → Option Last
last_of s d = slice_index_or s.of_dish (d - 1) None

-- a dish is there when the pass begins, coming from its last pass, if it followed one
abbrev pub can_follow : (t k : ℕ) → Leg → Option Last → Bool
can_follow t k b None = true
can_follow t k b (Some l) = arrives t k l.to l.end b

-- once the dish that plans call d has followed the pass, that is its last one
abbrev pub once_followed : Leg → ℕ → LastPasses → LastPasses
once_followed b d s = record { of_dish = slice_set s.of_dish (d - 1) (Some (record { to = b.pass.to; end = b.sweep.end })) }

-- the dish that plans call d may follow the pass by the rule: it is one of four, and in time
abbrev pub is_in_time : (t k : ℕ) → Leg → ℕ → LastPasses → Bool
is_in_time t k b d s = nat_le d max_dishes && can_follow t k b (last_of s d)

-- what a plan says of a pass: 0, for not followed, or the dish that follows it, which has to be there in time
abbrev pub go_on : (t k : ℕ) → ℕ → LastPasses → Leg → Option LastPasses
go_on t k d s b = cond (d == 0) (Some s) (cond (is_in_time t k b d s) (Some (once_followed b d s)) None)

-- the rule for passes with their directions, in order of begin
abbrev pub slew_automaton : (t k : ℕ) → List Leg → Automaton LastPasses
slew_automaton t k bs = automaton_of none_followed (λ i d s. option_and_then (go_on t k d s) (slice_get bs i))

-- a dish with this last pass has had time for any turning by the second x, since the farthest direction is 32 steps away
abbrev pub had_time : (t k x : ℕ) → Last → Bool
had_time t k x l = nat_le (l.to + (t + k * 32)) x

-- this last pass ended at the same direction as the other one, and no later
abbrev pub no_later : Last → Option Last → Bool
no_later l None = false
no_later l (Some m) = l.end == m.end && nat_le l.to m.to

-- with the first last pass a dish can follow whatever it can with the second, from the second x on: it has followed none, or has had time for any
-- turning by then, or ended at the same direction no later
abbrev pub as_good : (t k x : ℕ) → Option Last → Option Last → Bool
as_good t k x None o = true
as_good t k x (Some l) o = had_time t k x l || no_later l o

-- of each dish the first state's last pass is as good as the second state's, from the second x on
pub record AllAsGood (t k x : ℕ) (a b : LastPasses) : Type 0 where
  pub places : length a.of_dish ≡ max_dishes
  pub same_places : length b.of_dish ≡ max_dishes
  pub each : (i : ℕ) → i < max_dishes → as_good t k x (slice_index_or a.of_dish i None) (slice_index_or b.of_dish i None) ≡ true
