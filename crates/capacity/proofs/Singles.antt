-- A station with one dish: a best plan of that dish alone is a best plan. Assumes nothing.
use Rattle.std.proofs.Common.{◌≡◌, ℕ, ◌*◌, ◌^◌, ◌<◌, ◌≤◌, true, List, [], ◌∷◌, length, sum, sym, refl, ap, ◌∙◌, arith}
use Rattle.std.proofs.lemmas.List.{length-map}
use Rattle.std.proofs.lemmas.List.Sums.{sum_by-cons}
use Rattle.std.proofs.lemmas.Bool.{and_parts}
use Rattle.std.proofs.lemmas.Bool.Decides.{nat_tests}
use Rattle.passes.specs.declared.model.Pass.{Pass}
use Rattle.passes.specs.declared.model.Station.{Station}
use Rattle.passes.specs.Checks.{in_range, all_in_range, checked}
use Rattle.passes.specs.Plans.{Plan, fits_one, fits, worth_of, Best}
use Rattle.passes.proofs.Goodness.{fits_one_says}
use Rattle.capacity.specs.Alone.{gain_of, worths, BestAlone, BestPlanWorth}

-- what a good plan of a station with one dish is worth, that dish gains
worth_gained : (s : Station) → s.dishes ≡ 1 → (ps : List Pass) (ds : Plan) → fits s ps ds ≡ true → worth_of ps ds ≡ gain_of 0 (worths ps) ds
unfolding worth_of gain_of fits
worth_gained s one [] ds h = refl
worth_gained s one (p ∷ ps) [] h = refl
worth_gained s one (p ∷ ps) (d ∷ ds) h =
    let parts = and_parts (fits_one s p d ps ds) (fits s ps ds) h in
    let there = (fits_one_says s p d ps ds parts.0).there in
    let rest = worth_gained s one ps ds parts.1 in
    grind (arith, nat_tests)

pub planned_alone : (s : Station) → s.dishes ≡ 1 → (ps : List Pass) (ds : Plan) (w : ℕ) → BestAlone s 0 ps (worths ps) ds → gain_of 0 (worths ps) ds ≡ w → BestPlanWorth s ps ds w
unfolding Best
planned_alone s one ps ds w h gain = record {
  best = (h.good, λ es good. let most = h.most es good in omega (arith, worth_gained s one ps es good, worth_gained s one ps ds h.good));
  worth = sym gain ∙ sym (worth_gained s one ps ds h.good);
}

-- there is a worth for each pass
pub worth_each : (ps : List Pass) (gs : List ℕ) → gs ≡ worths ps → length gs ≡ length ps
worth_each ps gs e = ap length e ∙ length-map ps (λ p. p.worth)

-- what passes that were checked are worth together
worths_small : (ps : List Pass) → all_in_range ps ≡ true → sum (worths ps) ≤ length ps * 1000000
unfolding all_in_range in_range
worths_small [] h = omega arith
worths_small (p ∷ ps) h =
    let parts = and_parts (in_range p) (all_in_range ps) h in
    let small : p.worth ≤ 1000000 = let own = parts.0 in grind (arith, nat_tests) in
    let rest = worths_small ps parts.1 in
    omega (arith, sum_by-cons (λ (x : ℕ). x) p.worth (worths ps))

pub worths_fit : (s : Station) (ps : List Pass) → checked s ps ≡ true → sum (worths ps) < 2 ^ 64
unfolding checked
worths_fit s ps h =
    let ranges : all_in_range ps ≡ true = grind (arith, nat_tests) in
    let few : length ps ≤ 48 = grind (arith, nat_tests) in
    omega (arith, worths_small ps ranges)
