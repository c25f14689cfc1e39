-- Which runs are best. Assumes nothing: these are definitions.
use Rattle.std.specs.Prelude.{◌≡◌, ℕ, Bool, true, false, List, Some, None, Option}
use Rattle.engine.specs.Runs.{Moves, Way, Run}

-- which of two states is the better one
abbrev pub Order : Type 0 → Type 0
Order S = S → S → Bool

-- what is asked of an order: no state is ahead of itself, and who is ahead of one is ahead of all behind that one
pub record OrderLaws {S : Type 0} (ahead : Order S) : Type 0 where
  pub not_itself : (s : S) → ahead s s ≡ false
  pub onward : (s t u : S) → ahead s t ≡ true → ahead t u ≡ true → ahead s u ≡ true

-- a sequence of decisions, and which of two final states is the better one: what the trait `Problem` answers
pub record Model (S : Type 0) : Type 1 where
  pub moves : Moves S
  pub ahead : Order S

-- a sequence of decisions with an order of its final states
abbrev pub in_order : {S : Type 0} → Moves S → Order S → Model S
in_order v ahead = record { moves = v; ahead = ahead }

-- what holds of every final state
abbrev pub Final : {S : Type 0} → Model S → S → Type 0
Final m s = m.moves.fine m.moves.stages s

-- no way on from the state s of stage i ends ahead of the state b
abbrev pub Hopeless : {S : Type 0} → Model S → ℕ → S → S → Type 0
Hopeless {S} m i s b = (cs : List ℕ) (e : S) → Way m.moves i s cs e → m.ahead e b ≡ false

-- the state f is ahead of whatever the state e is ahead of
abbrev pub NoWorse : {S : Type 0} → Model S → S → S → Type 0
NoWorse {S} m f e = (s : S) → m.ahead e s ≡ true → m.ahead f s ≡ true

-- at stage i, whatever choices lead on from the state b lead on from the state a too, to an end that is no worse
abbrev pub Covers : {S : Type 0} → Model S → ℕ → S → S → Type 0
Covers {S} m i a b = (cs : List ℕ) (e : S) → Way m.moves i b cs e → (f : S) × Way m.moves i a cs f × NoWorse m f e

-- a best run is one that no run ends ahead of
pub record BestRun {S : Type 0} (m : Model S) (cs : List ℕ) (e : S) : Type 0 where
  pub run : Run m.moves cs e
  pub best : (ds : List ℕ) (f : S) → Run m.moves ds f → m.ahead f e ≡ false

-- what the search answers, and what is in the room then: there is no run, and the room is as it was; or a best run, and its final state
abbrev pub Answered : {S : Type 0} → Model S → (room : List ℕ) → Option S → (after : List ℕ) → Type 0
Answered {S} m room None after = ((cs : List ℕ) (e : S) → Run m.moves cs e → ⊥) × (after ≡ room)
Answered {S} m room (Some e) after = BestRun m after e
