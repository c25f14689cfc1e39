-- What holds while the search goes on. Assumes nothing: these are definitions.
use Rattle.std.specs.Prelude.{◌≡◌, ℕ, ◌<◌, ◌≤◌, Bool, true, false, List, length, take, Some, None, Option, IfSome, if◌then◌else◌, ◌==◌}
use Rattle.std.specs.List.{All}
use Rattle.engine.specs.declared.seen.Seen.{Seen}
use Rattle.engine.specs.Runs.{Moves, leads, Way, Run}
use Rattle.engine.specs.Problems.{Model}

-- the state e is ahead of the best so far: any is while there is none
abbrev pub beats : {S : Type 0} → Model S → S → Option S → Bool
beats m e None = true
beats m e (Some b) = m.ahead e b

-- no way on from the state s of stage i ends ahead of the best so far
abbrev pub Unbeaten : {S : Type 0} → Model S → ℕ → S → Option S → Type 0
Unbeaten {S} m i s best = (cs : List ℕ) (e : S) → Way m.moves i s cs e → beats m e best ≡ false

-- the room holds a run that ends in the best so far, if there is one
abbrev pub Holds : {S : Type 0} → Model S → Option S → (room : List ℕ) → Type 0
Holds m None room = Unit {0}
Holds m (Some b) room = Run m.moves room b

-- what stands at a place of the table is a state of a stage before the end, and no way on from it ends ahead of the best so far
pub record Exhausted {S : Type 0} (m : Model S) (best : Option S) (x : Seen S) : Type 0 where
  pub within : x.stage < m.moves.stages
  pub fine : m.moves.fine x.stage x.state
  pub unbeaten : Unbeaten m x.stage x.state best

-- no way on from whatever state stands in the table ends ahead of the best so far
abbrev pub Known : {S : Type 0} → Model S → (table : List (Option (Seen S))) → Option S → Type 0
Known m table best = All (λ o. IfSome o (Exhausted m best)) table

-- there is no best so far, and nothing stands in the table
abbrev pub Fresh : {S : Type 0} → Option S → (table : List (Option (Seen S))) → Type 0
Fresh best table = (best ≡ None) × All (λ o. o ≡ None) table

-- the choice whose turn it is: the one to try first has changed places with the choice 0
abbrev pub choice_at : (first turn : ℕ) → ℕ
choice_at first turn = if turn == 0 then first else if turn == first then 0 else turn

-- the choices made so far, one for each stage before stage i, lead to the state s, of which holds what does of all that are reached
pub record Came {S : Type 0} (v : Moves S) (i : ℕ) (s : S) (made : List ℕ) : Type 0 where
  pub within : i ≤ v.stages
  pub a_place_each : length made ≡ v.stages
  pub fine : v.fine i s
  pub leads_here : leads v.step 0 v.start (take i made) ≡ Some s

-- from one best so far to the next: whatever is ahead of the new one is ahead of the old one, and the room is as it was while there is none
pub record Improved {S : Type 0} (m : Model S) (best : Option S) (room : List ℕ) (best₁ : Option S) (room₁ : List ℕ) : Type 0 where
  pub holds : Holds m best₁ room₁
  pub no_worse : (e : S) → beats m e best₁ ≡ true → beats m e best ≡ true
  pub untouched : best₁ ≡ None → room₁ ≡ room
