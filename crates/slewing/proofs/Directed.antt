-- Nights with directions, or without. Assumes nothing.
use Rattle.std.proofs.Common.{◌≡◌, ℕ, true, List, length, Some, None, Option, Ok, Err, Result, refl, ◌∙◌, arith, rules}
use Rattle.std.specs.Prelude.{option_map}
use Rattle.std.specs.Result.{result_err, IsOk}
use Rattle.std.proofs.lemmas.Bool.{eq-eqb}
use Rattle.std.proofs.lemmas.Bool.Decides.{nat_tests}
use Rattle.passes.specs.declared.nights.Night.{Night}
use Rattle.passes.specs.Nights.{passes_of}
use Rattle.passes.specs.Plans.{Plan, fits}
use Rattle.passes.specs.Refusals.{room_refused}
use Rattle.capacity.proofs.Timing.{in_time_from_checked}
use Rattle.slewing.specs.declared.refusals.SlewRefusal.{SlewRefusal}
use Rattle.slewing.specs.declared.slewings.Slewing.{Slewing}
use Rattle.slewing.specs.Slewings.{sweeps_of, directed_of, each_directed, good_for, refused_directed}
use Rattle.slewing.proofs.Without.{fits_from_slews}

-- where a room has a number for each of n passes, and there are directions for each, if any, nothing is refused
nothing_refused : (n room : ℕ) (o : Option Slewing) → room ≡ n → each_directed n o ≡ true → refused_directed n o room ≡ None
unfolding refused_directed room_refused
nothing_refused n room o same each = rw (eq-eqb room n same, each) refl

pub not_refused : (n room : ℕ) (o : Option Slewing) (r : Result ℕ SlewRefusal) → room ≡ n → each_directed n o ≡ true → result_err r ≡ refused_directed n o room → IsOk r
not_refused n room o (Ok w) same each told = search rules
not_refused n room o (Err why) same each told = let none = told ∙ nothing_refused n room o same each in absurd (grind arith)

-- a plan that is good for a night with its directions, if it has any, is good without
pub good_without : (n : Night) (o : Option Slewing) (ds : Plan) → each_directed (length (passes_of n)) o ≡ true → good_for n.station (option_map directed_of o) (passes_of n) ds ≡ true → fits n.station (passes_of n) ds ≡ true
good_without n None ds each good = good
good_without n (Some s) ds each good =
    let long : length (sweeps_of s) ≡ length (passes_of n) = grind (arith, nat_tests) in
    fits_from_slews n.station s.step (sweeps_of s) (passes_of n) ds (in_time_from_checked _ _ n.ok) long good
