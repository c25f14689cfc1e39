use Rattle.std.proofs.Common.{◌≡◌, ℕ, ◌<◌, Bool, true, false, length, MatchBool, refl, ◌∙◌, zero-add, arith, rules, tests}
use Rattle.std.specs.List.{AllWithin, HoldsAt, range_with_len}
use Rattle.std.proofs.lemmas.Iterator.{cases_from_all, YieldsList-from_range}
use Rattle.std.proofs.lemmas.List.FromFn.{get_or-range_with_len, length-range_with_len}
use Rattle.passes.specs.declared.model.Pass.{Pass}
use Rattle.passes.specs.Follow.{may}
use Rattle.capacity.specs.Assignments.{Open}
use Rattle.capacity.proofs.assigning.is_open.Goals as goal

-- what is said of each number of a range is said of each dish
each_dish : (k : ℕ) (p : Pass) (r : Bool) → MatchBool r (AllWithin (λ d. may p d ≡ true) (range_with_len 0 k) 0 (length (range_with_len 0 k))) ((j : ℕ) × (j < length (range_with_len 0 k)) × HoldsAt (λ d. may p d ≡ false) (range_with_len 0 k) j) → MatchBool r (Open k p) ((d : ℕ) × (d < k) × (may p d ≡ false))
each_dish k p true all = λ d l. rw (get_or-range_with_len 0 k d 0 l ∙ zero-add d) at (all d 0 (omega arith) (rw (length-range_with_len 0 k) l))
each_dish k p false some =
    let l : some.0 < k = rw (length-range_with_len 0 k) at some.1 in
    (some.0, l, rw (get_or-range_with_len 0 k some.0 0 l ∙ zero-add some.0) at (some.2 0))

pub returns : goal.returns
returns c =
    each_dish c.args.dishes c.args.pass _
    (cases_from_all _ _ _ (λ d. may c.args.pass d ≡ true) (λ d. may c.args.pass d ≡ false) c.all.ensures.ran (YieldsList-from_range 0 c.args.dishes c.args.dishes refl (omega arith)) (λ x q k. search (rules, tests)) (λ x q k. search (rules, tests)))
