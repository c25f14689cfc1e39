-- Decisions that gain something. Assumes nothing: these are definitions.
use Rattle.std.specs.Prelude.{◌≡◌, ℕ, ◌+◌, ◌*◌, ◌^◌, ◌<◌, ◌≤◌, List, [], ◌∷◌, Some, None, Option, nat_lt}
use Rattle.std.specs.Option.{option_map, option_map_or}
use Rattle.engine.specs.declared.summed.Tally.{Tally}
use Rattle.engine.specs.Runs.{Step, Moves, Way, Run}
use Rattle.engine.specs.Problems.{Model, Order, in_order}

-- what a choice gains, at a stage and in a state
abbrev pub Gain : Type 0 → Type 0
Gain S = ℕ → ℕ → S → ℕ

-- a sequence of decisions by which something is gained: what the trait `Gains` answers
pub record Gaining (S : Type 0) : Type 1 where
  pub moves : Moves S
  pub gain : Gain S
  -- no choice gains more
  pub most : ℕ

-- a sequence of decisions by which so much is gained, and by no choice more than the last number
abbrev pub gaining : {S : Type 0} → Moves S → Gain S → ℕ → Gaining S
gaining v gain most = record { moves = v; gain = gain; most = most }

-- what is asked of what is gained: all that can be gained together is below 2^64
pub record SumLaws {S : Type 0} (g : Gaining S) : Type 0 where
  pub at_most : (i c : ℕ) (s t : S) → i < g.moves.stages → g.moves.fine i s → g.moves.step i c s ≡ Some t → g.gain i c s ≤ g.most
  pub fits : g.moves.stages * g.most < 2 ^ 64

-- what choices gain together from the state s of stage i on
unfoldable pub gained : {S : Type 0} → Step S → Gain S → ℕ → S → List ℕ → ℕ
gained step gain i s [] = 0
gained step gain i s (c ∷ cs) = gain i c s + option_map_or (λ t. gained step gain (i + 1) t cs) (step i c s) 0

-- what the choices of a run gain together
abbrev pub gained_by : {S : Type 0} → Gaining S → List ℕ → ℕ
gained_by g cs = gained g.moves.step g.gain 0 g.moves.start cs

-- no way on from the state s of stage i gains more than n
abbrev pub Bound : {S : Type 0} → Gaining S → ℕ → S → ℕ → Type 0
Bound {S} g i s n = (cs : List ℕ) (e : S) → Way g.moves i s cs e → gained g.moves.step g.gain i s cs ≤ n

-- at stage i, whatever choices lead on from the state b lead on from the state a too, and gain no less there
abbrev pub KeepsUp : {S : Type 0} → Gaining S → ℕ → S → S → Type 0
KeepsUp {S} g i a b = (cs : List ℕ) (e : S) → Way g.moves i b cs e → (f : S) × Way g.moves i a cs f × (gained g.moves.step g.gain i b cs ≤ gained g.moves.step g.gain i a cs)

-- a run that gains n, and none gains more
pub record BestGain {S : Type 0} (g : Gaining S) (cs : List ℕ) (n : ℕ) : Type 0 where
  pub run : (e : S) × Run g.moves cs e
  pub gains : n ≡ gained_by g cs
  pub most : (ds : List ℕ) (e : S) → Run g.moves ds e → gained_by g ds ≤ n

-- what is answered, and what is in the room then: there is no run, and the room is as it was; or a run that gains the most, and how much that is
abbrev pub GainAnswered : {S : Type 0} → Gaining S → (room : List ℕ) → Option ℕ → (after : List ℕ) → Type 0
GainAnswered {S} g room None after = ((cs : List ℕ) (e : S) → Run g.moves cs e → ⊥) × (after ≡ room)
GainAnswered {S} g room (Some n) after = BestGain g after n

-- the start of the same decisions over states with what was gained so far
abbrev pub tally_start : {S : Type 0} → Gaining S → Tally S
tally_start g = record { state = g.moves.start; gained = 0 }

-- a step of the same decisions over states with what was gained so far
abbrev pub tally_step : {S : Type 0} → Gaining S → Step (Tally S)
tally_step g i c t = option_map (λ u. record { state = u; gained = t.gained + g.gain i c t.state }) (g.moves.step i c t.state)

-- the same decisions over states with what was gained so far
abbrev pub tally_moves : {S : Type 0} → Gaining S → Moves (Tally S)
tally_moves g = record {
  stages = g.moves.stages;
  choices = g.moves.choices;
  start = tally_start g;
  step = tally_step g;
  fine = λ i t. g.moves.fine i t.state × (t.gained ≤ i * g.most);
}

-- of states with what was gained so far, the one that has gained more is ahead
abbrev pub tally_order : {S : Type 0} → Order (Tally S)
tally_order t u = nat_lt u.gained t.gained

-- the same decisions over states with what was gained so far, in the order of what was gained
abbrev pub tallied : {S : Type 0} → Gaining S → Model (Tally S)
tallied g = in_order (tally_moves g) tally_order
