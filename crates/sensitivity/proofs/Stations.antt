-- What the passes of a station's night need: the theorems about the definitions. Assumes nothing.
use Rattle.std.proofs.Common.{List, [], arith, false, get_or-set_other, get_or-set_same, length, length-set, replicate, set, suc, sym, true, zero, ℕ, ⊎_elim, ◌+◌, ◌-◌, ◌<◌, ◌∙◌, ◌∷◌, ◌≡◌, ◌≤◌}
use Rattle.std.proofs.lemmas.List.{length-replicate}
use Rattle.std.proofs.lemmas.Bool.{both_ways, cases_eq, cases_lt, false_from_ne_true, le-ltb, lt-ltb, ltb-true}
use Rattle.std.proofs.lemmas.Bool.Decides.{nat_tests}
use Rattle.passes.specs.declared.model.Pass.{Pass}
use Rattle.passes.specs.declared.model.Station.{Station}
use Rattle.passes.specs.Follow.{may}
use Rattle.passes.specs.Plans.{Plan, fits, worth_of, Best}
use Rattle.passes.specs.Rule.{nth, says}
use Rattle.passes.proofs.Goodness.{fits_says, fits_from}
use Rattle.capacity.proofs.Greedy.{all_zero, none_followed, given_good}
use Rattle.planner.specs.Ruled.{follows}
use Rattle.sensitivity.specs.Needing.{BestOf, NeededWorth, with_worth}
use Rattle.sensitivity.specs.Statements.{OnlyOne, AsWell, Lowered, NoDish, NeverExactly, LeavesAsWell, Difference}
use Rattle.sensitivity.proofs.Worths.{own_worth, fits_same}
use Rattle.sensitivity.proofs.Needs.{one_needed, enough_exactly, never_if_none, needed_of_both, split_own, some_best_leaves}
use Rattle.planner.proofs.Finite.{has_best}

-- a good plan has a number for each pass
pub fits_long : (s : Station) (ps : List Pass) (ds : Plan) → fits s ps ds ≡ true → length ds ≡ length ps
fits_long s ps ds good = (fits_says s ps ds good).one_each

module _ (s : Station) (ps : List Pass) (i v : ℕ) where
  -- what a pass needs where a station's good plans are given, it needs for the station
  pub needed_of_station : NeededWorth (BestOf (fits s)) ps i v → NeededWorth (Best s) ps i v
  unfolding Best
  needed_of_station h = record { from_there = h.from_there; none_below = h.none_below }

  -- what a pass needs for a station, it needs where the station's good plans are given
  pub needed_in_general : NeededWorth (Best s) ps i v → NeededWorth (BestOf (fits s)) ps i v
  unfolding Best
  needed_in_general h = record { from_there = h.from_there; none_below = h.none_below }

-- a pass of a station has one needed worth
pub only_one : OnlyOne
only_one s = one_needed (Best s)

-- what a pass needs is at most its worth exactly if some best plan follows it
pub as_well : AsWell
as_well s ps i v within needs = enough_exactly (Best s) ps i v needs

-- a pass that some best plan follows can lose what it is worth less what it needs, and no more
pub lowered : Lowered
lowered s ps i v within needs some =
    let enough = (as_well s ps i v within needs).1 some in
    record {
      has_it = omega arith;
      followed = needs.from_there ((nth ps i).worth - ((nth ps i).worth - v)) (omega arith);
      no_more = λ more. needs.none_below ((nth ps i).worth - ((nth ps i).worth - v + 1)) (omega arith);
    }

-- the plan that follows pass i alone, with dish d, is good
pub alone_fits :
    (s : Station) (ps : List Pass) (i d : ℕ) → i < length ps → d < s.dishes → may (nth ps i) d ≡ true →
    fits s ps (set (replicate (length ps) 0) i (suc d)) ≡ true
alone_fits s ps i d within there hears =
    let n = length ps in
    let idle = none_followed s ps (replicate n 0) (length-replicate n 0) (all_zero n) in
    fits_from s ps _ (given_good s ps (replicate n 0) idle i within d there hears (λ j given. absurd (omega (arith, all_zero n j))))

-- the plan that follows pass i alone follows that
pub alone_follows : (n i d : ℕ) → i < n → follows (set (replicate n 0) i (suc d)) i ≡ true
alone_follows n i d within = lt-ltb _ _ (omega (arith, get_or-set_same (replicate n 0) i (suc d) 0 (omega (arith, length-replicate {A = ℕ} n 0))))

-- no worth would do exactly if no dish that is there may follow the pass
pub no_dish : NoDish
no_dish s ps i within = (
  λ none d there. false_from_ne_true _ (λ hears.
      let alone = set (replicate (length ps) 0) i (suc d) in
      both_ways _ (none 0 alone (fits_same s ps i 0 alone ∙ alone_fits s ps i d within there hears)) (alone_follows (length ps) i d within)),
  λ deaf v ds good. false_from_ne_true _ (λ asked.
      let sound = (fits_says s ps ds (sym (fits_same s ps i v ds) ∙ good)).each i within in
      let some = ltb-true 0 (says ds i) asked in
      let there = sound.there in
      both_ways _ (deaf (says ds i - 1) (omega arith)) (sound.hears some)),
)

-- a true word on a pass is never exactly if no good plan follows it
pub never_exactly : NeverExactly
unfolding Best
never_exactly s ps i n told = never_if_none (fits s) ps i n told

-- a good plan stays good where it leaves out some of what it follows
fits_fewer :
    (s : Station) (ps : List Pass) (ds es : Plan) → length es ≡ length ds → ((j : ℕ) → 0 < says es j → says es j ≡ says ds j) →
    fits s ps ds ≡ true → fits s ps es ≡ true
fits_fewer s ps ds es long kept h =
    let good = fits_says s ps ds h in
    fits_from s ps es (record {
      one_each = long ∙ good.one_each;
      each = λ j l.
          let sound = good.each j l in
          record {
            there = ⊎_elim (λ more. let same = kept j more in omega (arith, sound.there)) (λ none. omega arith) (cases_lt 0 (says es j));
            hears = λ more. let same = kept j more in rw same (sound.hears (omega arith));
            no_clash = λ k c.
                let same = kept j c.followed in
                let same₁ = kept k (omega (arith, c.followed, c.same_dish)) in
                let followed : 0 < says ds j = omega (arith, c.followed) in
                let same_dish : says ds j ≡ says ds k = omega (arith, c.same_dish) in
                sound.no_clash k (record { two = c.two; within = c.within; followed = followed; same_dish = same_dish; too_near = c.too_near });
          };
    })

-- a good plan stays good with pass i left out
pub left_out_fits :
    (s : Station) (ps : List Pass) (i : ℕ) (ds : Plan) → i < length ds → fits s ps ds ≡ true → fits s ps (set ds i 0) ≡ true
left_out_fits s ps i ds within =
    fits_fewer s ps ds (set ds i 0) (length-set ds i 0) (λ j more.
    ⊎_elim
    (λ (same : j ≡ i). let none = get_or-set_same ds i 0 0 within in absurd (omega (arith, rw same at more)))
    (λ other. get_or-set_other ds i j 0 0 other)
    (cases_eq j i))

-- with pass i left out a plan is worth what it earns with the others
pub left_out_worth :
    (ps : List Pass) (i : ℕ) (ds : Plan) → i < length ps → length ds ≡ length ps →
    worth_of ps (set ds i 0) ≡ worth_of (with_worth ps i 0) ds
unfolding worth_of
left_out_worth [] i ds within long = absurd (omega arith)
left_out_worth (p ∷ ps) i [] within long = absurd (omega arith)
left_out_worth (p ∷ ps) zero (d ∷ ds) within long = grind (arith, nat_tests)
left_out_worth (p ∷ ps) (suc i) (d ∷ ds) within long = let rest = left_out_worth ps i ds (omega arith) (omega arith) in omega arith

-- a plan with pass i left out doesn't follow it
pub left_out_follows : (i : ℕ) (ds : Plan) → i < length ds → follows (set ds i 0) i ≡ false
left_out_follows i ds within = le-ltb _ _ (omega (arith, get_or-set_same ds i 0 0 within))

-- what a pass needs, with what the best plan with it earns with the others, is what the best plan without it is worth
pub difference : Difference
difference s ps i v ds es within needs without best =
    let long = fits_long s ps es best.is_good in
    let both = needed_of_both (fits s) ps i within (fits_same s ps i) (fits_long s ps) ds es without best in
    let same = only_one s ps i v _ needs (needed_of_station s ps i _ both) in
    let no_more = without.most (set es i 0) (left_out_fits s ps i es (omega arith) best.is_good) (left_out_follows i es (omega arith)) in
    omega (arith, left_out_worth ps i es within long)

-- where a pass needs just what it is worth, some best plan doesn't follow it
pub leaves_as_well : LeavesAsWell
unfolding Best
leaves_as_well s ps i within needs =
    ⊎_elim
    (λ (some : 0 < (nth ps i).worth).
    some_best_leaves (fits s) ps i within (fits_same s ps i) (fits_long s ps) (λ w. has_best s (with_worth ps i w)) some (needed_in_general s ps i _ needs))
    (λ (nothing : (nth ps i).worth ≤ 0).
    let (es, best, asked) = needs.from_there (nth ps i).worth (omega arith) in
    let good = sym (fits_same s ps i (nth ps i).worth es) ∙ best.0 in
    let long = fits_long s ps es good in
    let here : i < length es = omega arith in
    let more = rw (own_worth ps i) at best.1 in
    let now = split_own (fits s) ps i within (fits_same s ps i) (fits_long s ps) true es good asked in (
      set es i 0,
      (
        left_out_fits s ps i es here good,
        λ fs h. let most = more fs h in omega (arith, left_out_worth ps i es within long, now),
      ),
      left_out_follows i es here,
    ))
    (cases_lt 0 (nth ps i).worth)
