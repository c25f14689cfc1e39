-- That to look at any two passes of a dish is another rule than to look at each and the next, by an example. Assumes nothing.
use Rattle.std.proofs.Common.{ℕ, [], ◌∷◌, refl}
use Rattle.passes.specs.declared.model.Pass.{Pass}
use Rattle.passes.specs.Checks.{dishes_ok, turning_ok, in_range, all_in_range, sorted, checked}
use Rattle.slewing.specs.Directions.{legs}
use Rattle.slewing.specs.Slewed.{reaches_next, slews_one, slews}
use Rattle.slewing.specs.Statements.{reaches_all, any_two, AnyTwoDiffers}

-- a pass that dish 0 alone may follow
pass_of : (from to : ℕ) → Pass
pass_of x y = record { from = x; to = y; worth = 1; marks = 1 }

-- the second of three passes goes from one direction to the opposite one, where the third begins; from the first there is no time to turn there
pub any_two_differs : AnyTwoDiffers
unfolding dishes_ok turning_ok in_range all_in_range sorted checked legs reaches_next slews_one slews reaches_all any_two pass_of
any_two_differs = record {
  station = record { dishes = 1; turn = 0 };
  step = 4;
  passes = pass_of 0 10 ∷ (pass_of 10 11 ∷ (pass_of 11 20 ∷ []));
  sweeps = record { begin = 0; end = 0 } ∷ (record { begin = 0; end = 32 } ∷ (record { begin = 32; end = 32 } ∷ []));
  plan = 1 ∷ (1 ∷ (1 ∷ []));
  sound = refl;
  one_each = refl;
  good = refl;
  other = refl;
}
