-- Dishes given to passes that all of them may follow. Assumes nothing: these are definitions.
use Rattle.std.specs.Prelude.{◌≡◌, ℕ, ◌<◌, ◌≤◌, true, false, List, ◌++◌, length, Some, None, Option, Ok, Err, Result, ⊤, codes, slice_index, slice_index_or}
use Rattle.std.specs.Fmt.{decimal}
use Rattle.passes.specs.declared.model.Pass.{Pass}
use Rattle.passes.specs.declared.model.Station.{Station}
use Rattle.passes.specs.declared.refusals.Refusal.{Refusal}
use Rattle.passes.specs.Busy.{busy}
use Rattle.passes.specs.Follow.{may}
use Rattle.passes.specs.Plans.{Plan, fits}
use Rattle.passes.specs.Rule.{nth, says}
use Rattle.passes.specs.Texts.{refusal_text}
use Rattle.capacity.specs.declared.assigning.Unassigned.{Unassigned}
use Rattle.capacity.specs.declared.assigning.Unassigned.TheVariants.{TurnedAway, NotOpen, TooMany}

-- each of k dishes may follow the pass
abbrev pub Open : ℕ → Pass → Type 0
Open k p = (d : ℕ) → d < k → may p d ≡ true

-- each of k dishes may follow every pass of a list
abbrev pub AllOpen : ℕ → List Pass → Type 0
AllOpen k ps = (i : ℕ) → i < length ps → Open k (nth ps i)

-- i is the first pass of a list that not each of k dishes may follow
pub record FirstClosed (k : ℕ) (ps : List Pass) (i : ℕ) : Type 0 where
  pub within : i < length ps
  pub closed : (d : ℕ) × (d < k) × (may (nth ps i) d ≡ false)
  pub before : (j : ℕ) → j < i → Open k (nth ps j)

-- a good plan that follows every pass
pub record FollowsAll (s : Station) (ps : List Pass) (ds : Plan) : Type 0 where
  pub good : fits s ps ds ≡ true
  pub each : (i : ℕ) → i < length ps → 0 < says ds i

-- x is the first second in which more passes hold a dish than there are dishes
pub record FirstOverfull (s : Station) (ps : List Pass) (x : ℕ) : Type 0 where
  pub over : s.dishes < busy s.turn ps x
  pub before : (y : ℕ) → y < x → busy s.turn ps y ≤ s.dishes

-- none of the first n dishes is free in the second x, by the seconds from which each is
abbrev pub NoneFree : ℕ → (free : List ℕ) → (x : ℕ) → Type 0
NoneFree n free x = (d : ℕ) → d < n → x < slice_index free d

-- d is the first dish that is free in the second x, by the seconds from which each is
pub record FirstFree (free : List ℕ) (x d : ℕ) : Type 0 where
  pub within : d < length free
  pub is_free : slice_index_or free d 0 ≤ x
  pub before : NoneFree d free x

-- the refusal by which the room was turned away, if it was
abbrev pub turned_away : Result Unit Unassigned → Option Refusal
turned_away (Ok all) = None
turned_away (Err (TurnedAway refusal)) = Some refusal
turned_away (Err (NotOpen i)) = None
turned_away (Err (TooMany x)) = None

-- what is answered, unless the room was turned away, and what is then in the room: a plan that follows every pass; or why there is none, which
-- is that not every dish may follow every pass, or that in some second too many passes hold a dish
abbrev pub Assigned : Station → List Pass → Result Unit Unassigned → (after : Plan) → Type 0
Assigned s ps (Ok all) after = AllOpen s.dishes ps × FollowsAll s ps after
Assigned s ps (Err (TurnedAway refusal)) after = ⊤
Assigned s ps (Err (NotOpen i)) after = FirstClosed s.dishes ps i
Assigned s ps (Err (TooMany x)) after = AllOpen s.dishes ps × FirstOverfull s ps x

-- what is printed where not every pass is given a dish
abbrev pub unassigned_text : Unassigned → List ℕ
unassigned_text (TurnedAway refusal) = codes "turned away, " ++ refusal_text refusal
unassigned_text (NotOpen i) = codes "not every dish may follow pass " ++ decimal i
unassigned_text (TooMany x) = codes "too many in second " ++ decimal x
