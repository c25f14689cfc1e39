-- What doesn't depend on what a pass is worth, and what does. Assumes nothing.
use Rattle.std.proofs.Common.{◌≡◌, ℕ, zero, suc, ◌+◌, ◌<◌, cond, List, [], ◌∷◌, length, sym, refl, ap, ◌∙◌, arith}
use Rattle.std.proofs.lemmas.List.{length-set, set-get_or}
use Rattle.std.proofs.lemmas.Bool.Decides.{nat_tests}
use Rattle.passes.specs.declared.model.Pass.{Pass}
use Rattle.passes.specs.declared.model.Station.{Station}
use Rattle.passes.specs.Plans.{Plan, free_for, fits_one, fits, worth_of}
use Rattle.passes.specs.Rule.{no_pass, nth}
use Rattle.capacity.specs.Order.{InTime}
use Rattle.planner.specs.Dishes.{seen_by, fits_each, turns_of}
use Rattle.planner.proofs.Stations.{fits_each_same}
use Rattle.planner.specs.Ruled.{follows}
use Rattle.sensitivity.specs.Needing.{worth_instead, with_worth}

-- a list is as long after a worth was set
pub length_same : (ps : List Pass) (i v : ℕ) → length (with_worth ps i v) ≡ length ps
length_same ps i v = length-set ps i (worth_instead (nth ps i) v)

-- setting a pass's worth to what it is changes nothing
pub own_worth : (ps : List Pass) (i : ℕ) → with_worth ps i (nth ps i).worth ≡ ps
own_worth ps i = set-get_or ps i no_pass

-- of two worths that are set one after the other the second stays
pub again : (ps : List Pass) (i a b : ℕ) → with_worth (with_worth ps i a) i b ≡ with_worth ps i b
again [] i a b = refl
again (p ∷ ps) zero a b = refl
again (p ∷ ps) (suc i) a b = ap (λ qs. p ∷ qs) (again ps i a b)

-- each pass begins when it did, whatever worth was set
from_same : (ps : List Pass) (i v j : ℕ) → (nth (with_worth ps i v) j).from ≡ (nth ps j).from
from_same [] i v j = refl
from_same (p ∷ ps) zero v zero = refl
from_same (p ∷ ps) zero v (suc j) = refl
from_same (p ∷ ps) (suc i) v zero = refl
from_same (p ∷ ps) (suc i) v (suc j) = from_same ps i v j

-- each pass ends when it did, whatever worth was set
to_same : (ps : List Pass) (i v j : ℕ) → (nth (with_worth ps i v) j).to ≡ (nth ps j).to
to_same [] i v j = refl
to_same (p ∷ ps) zero v zero = refl
to_same (p ∷ ps) zero v (suc j) = refl
to_same (p ∷ ps) (suc i) v zero = refl
to_same (p ∷ ps) (suc i) v (suc j) = to_same ps i v j

-- passes in order of time stay so, whatever worth is set
pub in_time_same : (ps : List Pass) (i v : ℕ) → InTime ps → InTime (with_worth ps i v)
in_time_same ps i v time =
    let long = length_same ps i v in
    record {
      ends = λ j l. rw (from_same ps i v j, to_same ps i v j) (time.ends j (omega arith));
      order = λ j k l m. rw (from_same ps i v j, from_same ps i v k) (time.order j k l (omega arith));
    }

module _ (s : Station) (d : ℕ) (v : ℕ) where
  -- whether a dish is free for a pass doesn't depend on what that is worth
  free_own : (p : Pass) (qs : List Pass) (ds : Plan) → free_for s (worth_instead p v) d qs ds ≡ free_for s p d qs ds
  unfolding free_for
  free_own p [] ds = refl
  free_own p (q ∷ qs) [] = refl
  free_own p (q ∷ qs) (e ∷ ds) = rw (free_own p qs ds) refl

  -- whether a dish is free for a pass doesn't depend on what the others are worth
  free_others : (p : Pass) (qs : List Pass) (i : ℕ) (ds : Plan) → free_for s p d (with_worth qs i v) ds ≡ free_for s p d qs ds
  unfolding free_for
  free_others p [] i ds = refl
  free_others p (q ∷ qs) zero [] = refl
  free_others p (q ∷ qs) zero (e ∷ ds) = refl
  free_others p (q ∷ qs) (suc i) [] = refl
  free_others p (q ∷ qs) (suc i) (e ∷ ds) = rw (free_others p qs i ds) refl

  -- whether a dish can follow a pass doesn't depend on what that is worth
  one_own : (p : Pass) (qs : List Pass) (ds : Plan) → fits_one s (worth_instead p v) d qs ds ≡ fits_one s p d qs ds
  unfolding fits_one
  one_own p qs ds = rw (free_own p qs ds) refl

  -- whether a dish can follow a pass doesn't depend on what the others are worth
  one_others : (p : Pass) (qs : List Pass) (i : ℕ) (ds : Plan) → fits_one s p d (with_worth qs i v) ds ≡ fits_one s p d qs ds
  unfolding fits_one
  one_others p qs i ds = rw (free_others p qs i ds) refl

-- which plans are good doesn't depend on what a pass is worth, where each dish takes its own time to turn
pub fits_each_same_worth :
    (turns : List ℕ) (ps : List Pass) (i v : ℕ) (ds : Plan) → fits_each turns (with_worth ps i v) ds ≡ fits_each turns ps ds
unfolding fits_each
fits_each_same_worth turns [] i v ds = refl
fits_each_same_worth turns (p ∷ ps) zero v [] = refl
fits_each_same_worth turns (p ∷ ps) zero v (d ∷ ds) = rw (one_own (seen_by turns d) d v p ps ds) refl
fits_each_same_worth turns (p ∷ ps) (suc i) v [] = refl
fits_each_same_worth turns (p ∷ ps) (suc i) v (d ∷ ds) =
    rw (one_others (seen_by turns d) d v p ps i ds, fits_each_same_worth turns ps i v ds) refl

-- which plans are good doesn't depend on what a pass is worth, where all dishes take the same time to turn
pub fits_same : (s : Station) (ps : List Pass) (i v : ℕ) (ds : Plan) → fits s (with_worth ps i v) ds ≡ fits s ps ds
fits_same s ps i v ds =
    sym (fits_each_same s (with_worth ps i v) ds) ∙ fits_each_same_worth (turns_of s) ps i v ds ∙ fits_each_same s ps ds

-- a plan is worth what the others of its passes are worth, and what pass i is if it follows that
pub worth_split :
    (ps : List Pass) (i v : ℕ) (ds : Plan) → i < length ps → length ds ≡ length ps →
    worth_of (with_worth ps i v) ds ≡ worth_of (with_worth ps i 0) ds + cond (follows ds i) v 0
unfolding worth_of
worth_split [] i v ds within long = absurd (omega arith)
worth_split (p ∷ ps) i v [] within long = absurd (omega arith)
worth_split (p ∷ ps) zero v (d ∷ ds) within long = grind (arith, nat_tests)
worth_split (p ∷ ps) (suc i) v (d ∷ ds) within long = let rest = worth_split ps i v ds (omega arith) (omega arith) in omega arith
