-- What may be said of a list with directions that was tried. Assumes nothing: these are definitions.
use Rattle.std.specs.Prelude.{◌≡◌, ℕ, ◌*◌, ◌≤◌, Bool, false, List, length, None, nat_lt}
use Rattle.passes.specs.Nights.{station_of}
use Rattle.passes.specs.Numbers.{passes_in}
use Rattle.passes.specs.Plans.{Plan}
use Rattle.passes.specs.Refusals.{refused, refused_with_room}
use Rattle.planner.specs.declared.planning.Done.{Done}
use Rattle.planner.specs.declared.planning.Done.TheVariants.{Planned, Refused}
use Rattle.planner.specs.Answers.{DoneSays}
use Rattle.slewing.specs.Answers.{SlewingSays}
use Rattle.slewing.specs.Numbers.{sweeps_in}
use Rattle.slewing.specs.Refusals.{refused_slewing, slewing_refused}
use Rattle.slewing.specs.Slewed.{slewed}
use Rattle.trials.specs.declared.directed.DirectedTrial.{DirectedTrial}
use Rattle.trials.specs.declared.kinds.TheConstants.{TRIED_PASSES}
use Rattle.trials.specs.declared.ways.Way.{Way}
use Rattle.trials.specs.Headings.{kind_of, HeadingsOf}
use Rattle.trials.specs.Kinds.{ListOf}
use Rattle.trials.specs.Trials.{TrueTrial, lets_go, is_mismatch}

-- the first answer is of a plan worth less than that of the other
abbrev pub worth_less : Done → Done → Bool
worth_less (Planned w) (Planned v) = nat_lt w v
worth_less (Planned w) (Refused n) = false
worth_less (Refused n) other = false

-- what a trial says is true of an answer and a plan that planning with directions may come to, and of an answer of planning without, for k dishes that take
-- t seconds to turn and `step` more for each step, a list of numbers, directions, and two rooms with a number for each pass
pub record TriedWith (k t : ℕ) (xs : List ℕ) (step : ℕ) (vs : List ℕ) (tried : DirectedTrial) : Type 0 where
  pub room : Plan
  pub one_each : length room ≡ length (passes_in xs)
  pub done : Done
  pub plan : Plan
  pub came : SlewingSays (refused_slewing k t xs (length room) step vs) (station_of k t) step (sweeps_in vs) (passes_in xs) room done plan
  pub says : TrueTrial (slewed (station_of k t) step (sweeps_in vs)) (station_of k t) (passes_in xs) done plan tried.trial
  pub spare : Plan
  pub spare_long : length spare ≡ length (passes_in xs)
  pub without : Done
  pub plan_without : Plan
  pub came_without : DoneSays (refused_with_room k t xs (length spare)) (station_of k t) (passes_in xs) spare without plan_without
  pub compared : tried.is_less ≡ worth_less done without

-- what a trial says is true of some list with directions of a kind, to which no refusal applies and of which all plans can be tried
pub record TriedWithOf (way : Way) (tried : DirectedTrial) : Type 0 where
  pub dishes : ℕ
  pub turn : ℕ
  pub numbers : List ℕ
  pub step : ℕ
  pub directions : List ℕ
  pub taken : refused dishes turn numbers ≡ None
  pub few : length numbers ≤ 4 * TRIED_PASSES
  pub of_kind : ListOf (kind_of way) dishes turn numbers
  pub directed : slewing_refused (length (passes_in numbers)) step directions ≡ None
  pub of_way : HeadingsOf way step directions
  pub came : TriedWith dishes turn numbers step directions tried

-- the trial says that the plan, a best one, lets a pass go
abbrev pub directed_lets_go : DirectedTrial → Bool
directed_lets_go tried = lets_go tried.trial

-- the trial is a mismatch
abbrev pub directed_mismatch : DirectedTrial → Bool
directed_mismatch tried = is_mismatch tried.trial

-- the plan is worth less than without directions
abbrev pub is_less : DirectedTrial → Bool
is_less tried = tried.is_less
