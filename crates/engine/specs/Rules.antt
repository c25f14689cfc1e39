-- Rules that refuse some choices. Assumes nothing: these are definitions.
use Rattle.std.specs.Prelude.{◌≡◌, ℕ, ◌≤◌, Bool, true, false, ◌&&◌, List, Some, None, Option, option_map, option_and_then}
use Rattle.std.specs.Option.{is_some}
use Rattle.engine.specs.declared.rules.Both.{Both}
use Rattle.engine.specs.Runs.{Step, Moves, leads, Run}
use Rattle.engine.specs.Problems.{Model, Order, in_order, BestRun}
use Rattle.engine.specs.Gaining.{Gaining, gained_by}

-- a rule: a state to begin with, and a step from a stage, a choice and a state to the next state, or nowhere if the rule refuses the choice. It is what
-- the trait `Rule` answers
pub record Automaton (T : Type 0) : Type 0 where
  pub start : T
  pub step : Step T

-- a rule with this start and this step
abbrev pub automaton_of : {T : Type 0} → T → Step T → Automaton T
automaton_of start step = record { start = start; step = step }

-- the rule that refuses nothing
abbrev pub anything : Automaton (Unit {0})
anything = automaton_of tt (λ i c s. Some tt)

-- the rule accepts the choices: it refuses none of them
abbrev pub accepts : {T : Type 0} → Automaton T → List ℕ → Bool
accepts r cs = is_some (leads r.step 0 r.start cs)

-- whatever choices the rule accepts from the state b of stage i on, it accepts from the state a on too
abbrev pub Grants : {T : Type 0} → Automaton T → ℕ → T → T → Type 0
Grants r i a b = (cs : List ℕ) → is_some (leads r.step i b cs) ≡ true → is_some (leads r.step i a cs) ≡ true

-- two states at once
abbrev pub both : {S T : Type 0} → S → T → Both S T
both s t = record { one = s; other = t }

-- two steps at once: nowhere if one of them leads nowhere
abbrev pub both_steps : {S T : Type 0} → Step S → Step T → Step (Both S T)
both_steps step other_step i c b = option_and_then (λ s. option_map (both s) (other_step i c b.other)) (step i c b.one)

-- two rules at once, which are a rule
abbrev pub together : {S T : Type 0} → Automaton S → Automaton T → Automaton (Both S T)
together r q = record { start = both r.start q.start; step = both_steps r.step q.step }

-- decisions of which a rule refuses some are decisions again
abbrev pub ruled_moves : {S T : Type 0} → Moves S → Automaton T → Moves (Both S T)
ruled_moves v r = record {
  stages = v.stages;
  choices = v.choices;
  start = both v.start r.start;
  step = both_steps v.step r.step;
  fine = λ i b. v.fine i b.one;
}

-- which of two states is ahead, whatever the state of the rule
abbrev pub ruled_order : {S T : Type 0} → Order S → Order (Both S T)
ruled_order ahead a b = ahead a.one b.one

-- a problem of which a rule refuses some choices is a problem again
abbrev pub ruled : {S T : Type 0} → Model S → Automaton T → Model (Both S T)
ruled m r = in_order (ruled_moves m.moves r) (ruled_order m.ahead)

-- of the runs that the rule accepts, one that gains n, and none of them gains more
pub record BestAccepted {S T : Type 0} (g : Gaining S) (r : Automaton T) (cs : List ℕ) (n : ℕ) : Type 0 where
  pub run : (e : S) × Run g.moves cs e
  pub accepted : accepts r cs ≡ true
  pub gains : n ≡ gained_by g cs
  pub most : (ds : List ℕ) (e : S) → Run g.moves ds e → accepts r ds ≡ true → gained_by g ds ≤ n

-- what is answered, and what is in the room then: the rule accepts no run, and the room is as it was; or of the runs that it accepts one that gains the
-- most, and how much that is
abbrev pub AcceptedAnswered : {S T : Type 0} → Gaining S → Automaton T → (room : List ℕ) → Option ℕ → (after : List ℕ) → Type 0
AcceptedAnswered {S} g r room None after = ((cs : List ℕ) (e : S) → Run g.moves cs e → accepts r cs ≡ true → ⊥) × (after ≡ room)
AcceptedAnswered {S} g r room (Some n) after = BestAccepted g r after n

-- two rules together accept the choices that both accept
abbrev pub AcceptsBoth : {S T : Type 0} → Automaton S → Automaton T → Type 0
AcceptsBoth r q = (cs : List ℕ) → accepts (together r q) cs ≡ (accepts r cs && accepts q cs)

-- the runs of decisions of which a rule refuses some are the runs that the rule accepts
pub record RunsAccepted {S T : Type 0} (v : Moves S) (r : Automaton T) : Type 0 where
  pub runs : (cs : List ℕ) (b : Both S T) → Run (ruled_moves v r) cs b → Run v cs b.one × (accepts r cs ≡ true)
  pub back : (cs : List ℕ) (e : S) → Run v cs e → accepts r cs ≡ true → (f : T) × Run (ruled_moves v r) cs (both e f)

-- of the runs that the rule accepts, this is one that none of them ends ahead of
pub record BestOfAccepted {S T : Type 0} (m : Model S) (r : Automaton T) (cs : List ℕ) (e : S) : Type 0 where
  pub run : Run m.moves cs e
  pub accepted : accepts r cs ≡ true
  pub best : (ds : List ℕ) (f : S) → Run m.moves ds f → accepts r ds ≡ true → m.ahead f e ≡ false

-- a best run of a problem of which a rule refuses some choices is a best one of the runs that the rule accepts, whatever the order
abbrev pub BestIsAccepted : {S T : Type 0} → Model S → Automaton T → Type 0
BestIsAccepted {S} {T} m r = (cs : List ℕ) (b : Both S T) → BestRun (ruled m r) cs b → BestOfAccepted m r cs b.one
