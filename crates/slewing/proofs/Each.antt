-- Why the test for good plans with directions and the rule for them, pass by pass, say the same. Assumes nothing.
use Rattle.std.proofs.Common.{◌≡◌, ℕ, zero, suc, ◌-◌, ◌<◌, ◌≤◌, true, false, List, [], ◌∷◌, length, slice_get, Some, sym, refl, ap, arith}
use Rattle.std.proofs.Math.Path.{subst}
use Rattle.std.proofs.lemmas.Bool.{and_parts, and_from, both_ways}
use Rattle.std.proofs.lemmas.Option.{slice_get_within, get_or_from_slice_get}
use Rattle.std.proofs.lemmas.Bool.Decides.{nat_tests}
use Rattle.passes.specs.declared.model.Station.{Station}
use Rattle.passes.specs.Follow.{may}
use Rattle.passes.specs.Plans.{Plan}
use Rattle.passes.specs.Rule.{says}
use Rattle.slewing.specs.declared.directions.Leg.{Leg}
use Rattle.slewing.specs.Directions.{in_time}
use Rattle.slewing.specs.Slewed.{reaches_next, slews_one, slews}
use Rattle.slewing.specs.Statements.{IsBefore, SlewsAt, GoodSlewed, TestIsRule}

-- what stands in place 0 is the front
is_front : (a : Leg) (bs : List Leg) (b : Leg) → slice_get (a ∷ bs) 0 ≡ Some b → a ≡ b
is_front a bs b at = get_or_from_slice_get (a ∷ bs) 0 b a at

-- j is the first pass of a list that dish d follows
record IsFirst (d : ℕ) (ds : Plan) (j : ℕ) : Type 0 where
  pub same_dish : d ≡ says ds j
  pub none_before : (m : ℕ) → m < j → says ds m ≡ d → ⊥

module _ (d e : ℕ) (ds : Plan) (j : ℕ) where
  -- it is so in the list behind the front, and in one with a front that the dish doesn't follow
  first_less : IsFirst d (e ∷ ds) (suc j) → IsFirst d ds j
  first_less h = record { same_dish = h.same_dish; none_before = λ m l. h.none_before (suc m) (omega arith) }

  first_more : (d ≡ e → ⊥) → IsFirst d ds j → IsFirst d (e ∷ ds) (suc j)
  first_more other h = record { same_dish = h.same_dish; none_before = none }
    where
      none : (m : ℕ) → m < suc j → says (e ∷ ds) m ≡ d → ⊥
      none zero l same = other (sym same)
      none (suc m) l same = h.none_before m (omega arith) same

module _ (t k : ℕ) (a : Leg) (d : ℕ) where
  -- from a pass whose dish reaches the next one it is in time for the first one that it follows
  reaches_says : (bs : List Leg) (ds : Plan) → length ds ≡ length bs → reaches_next t k a d bs ds ≡ true → (j : ℕ) (b : Leg) → slice_get bs j ≡ Some b → IsFirst d ds j → in_time t k a b ≡ true
  unfolding reaches_next
  reaches_says [] ds one_each h j b at first = absurd (omega (arith, slice_get_within [] j b at))
  reaches_says (c ∷ bs) [] one_each h j b at first = absurd (omega arith)
  reaches_says (c ∷ bs) (e ∷ ds) one_each h zero b at first =
      let same = first.same_dish in
      let here : in_time t k a c ≡ true = grind (arith, nat_tests) in
      subst (λ x. in_time t k a x ≡ true) (is_front c bs b at) here
  reaches_says (c ∷ bs) (e ∷ ds) one_each h (suc j) b at first =
      let other = first.none_before 0 (omega arith) in
      let rest : reaches_next t k a d bs ds ≡ true = grind (arith, nat_tests) in
      reaches_says bs ds (omega arith) rest j b at (first_less d e ds j first)

  reaches_from : (bs : List Leg) (ds : Plan) → length ds ≡ length bs → ((j : ℕ) (b : Leg) → slice_get bs j ≡ Some b → IsFirst d ds j → in_time t k a b ≡ true) → reaches_next t k a d bs ds ≡ true
  unfolding reaches_next
  reaches_from [] ds one_each h = refl
  reaches_from (c ∷ bs) [] one_each h = refl
  reaches_from (c ∷ bs) (e ∷ ds) one_each h =
      let here : d ≡ e → in_time t k a c ≡ true = λ same. h 0 c refl (record { same_dish = same; none_before = λ m l. absurd (omega arith) }) in
      let rest : (d ≡ e → ⊥) → reaches_next t k a d bs ds ≡ true = λ other. reaches_from bs ds (omega arith) (λ j b at first. h (suc j) b at (first_more d e ds j other first)) in
      grind (arith, nat_tests)

-- what the test of one pass says
record SlewsOne (s : Station) (k : ℕ) (a : Leg) (d : ℕ) (bs : List Leg) (ds : Plan) : Type 0 where
  pub there : d ≤ s.dishes
  pub hears : 0 < d → may a.pass (d - 1) ≡ true
  pub reaches : 0 < d → reaches_next s.turn k a d bs ds ≡ true

module _ (s : Station) (k : ℕ) (a : Leg) (d : ℕ) (bs : List Leg) (ds : Plan) where
  slews_one_says : slews_one s k a d bs ds ≡ true → SlewsOne s k a d bs ds
  unfolding slews_one
  slews_one_says h = record { there = grind (arith, nat_tests); hears = λ more. grind (arith, nat_tests); reaches = λ more. grind (arith, nat_tests) }

  slews_one_from : SlewsOne s k a d bs ds → slews_one s k a d bs ds ≡ true
  unfolding slews_one
  slews_one_from h = grind (arith, nat_tests)

  module _ (i j : ℕ) where
    -- a pass is the one before with its dish as it is in a list with one more in front
    before_more : IsBefore ds i j → IsBefore (d ∷ ds) (suc i) (suc j)
    before_more h = record { before = omega (arith, h.before); followed = h.followed; same_dish = h.same_dish; none_between = none }
      where
        none : (m : ℕ) → suc i < m → m < suc j → says (d ∷ ds) m ≡ says ds i → ⊥
        none zero l n same = omega arith
        none (suc m) l n same = h.none_between m (omega arith) (omega arith) same

    before_less : IsBefore (d ∷ ds) (suc i) (suc j) → IsBefore ds i j
    before_less h = record {
      before = omega (arith, h.before);
      followed = h.followed;
      same_dish = h.same_dish;
      none_between = λ m l n. h.none_between (suc m) (omega arith) (omega arith);
    }

  module _ (j : ℕ) where
    -- the front is the pass before the first one that its dish follows behind it
    first_behind : IsBefore (d ∷ ds) 0 (suc j) → IsFirst d ds j
    first_behind h = record { same_dish = h.same_dish; none_before = λ m l. h.none_between (suc m) (omega arith) (omega arith) }

    front_before : 0 < d → IsFirst d ds j → IsBefore (d ∷ ds) 0 (suc j)
    front_before more h = record { before = omega arith; followed = more; same_dish = h.same_dish; none_between = none }
      where
        none : (m : ℕ) → 0 < m → m < suc j → says (d ∷ ds) m ≡ d → ⊥
        none zero l n same = omega arith
        none (suc m) l n same = h.none_before m (omega arith) same

  module _ (here : SlewsOne s k a d bs ds) (rest : GoodSlewed s k bs ds) where
    -- a dish is in time for a pass behind the front, from the pass before it that has that dish
    later_on_time : (j : ℕ) (b : Leg) → slice_get bs j ≡ Some b → (i : ℕ) (c : Leg) → slice_get (a ∷ bs) i ≡ Some c → IsBefore (d ∷ ds) i (suc j) → in_time s.turn k c b ≡ true
    later_on_time j b at zero c at_front before =
        let in_time_here = reaches_says s.turn k a d bs ds rest.one_each (here.reaches before.followed) j b at (first_behind j before) in
        subst (λ x. in_time s.turn k x b ≡ true) (is_front a bs c at_front) in_time_here
    later_on_time j b at (suc i) c at_i before = (rest.each j b at).on_time i c at_i (before_less i j before)

    -- nothing is wrong with a list whose first pass and whose others are sound
    all_slew : (j : ℕ) (b : Leg) → slice_get (a ∷ bs) j ≡ Some b → SlewsAt s k (a ∷ bs) (d ∷ ds) j b
    all_slew zero b at = record {
      there = here.there;
      hears = λ more. subst (λ x. may x.pass (d - 1) ≡ true) (is_front a bs b at) (here.hears more);
      on_time = λ i c at_i before. absurd (omega (arith, before.before));
    }
    all_slew (suc j) b at =
        let r = rest.each j b at in
        record { there = r.there; hears = r.hears; on_time = later_on_time j b at }

  module _ (good : GoodSlewed s k (a ∷ bs) (d ∷ ds)) where
    front_slews : SlewsOne s k a d bs ds
    front_slews =
        let r = good.each 0 a refl in
        record {
          there = r.there;
          hears = r.hears;
          reaches = λ more. reaches_from s.turn k a d bs ds (omega (arith, good.one_each)) (λ j b at first. (good.each (suc j) b at).on_time 0 a refl (front_before j more first));
        }

    rest_slews : GoodSlewed s k bs ds
    rest_slews = record {
      one_each = omega (arith, good.one_each);
      each = λ j b at.
          let r = good.each (suc j) b at in
          record { there = r.there; hears = r.hears; on_time = λ i c at_i before. r.on_time (suc i) c at_i (before_more i j before) };
    }

-- a plan that passes the test is good
slews_says : (s : Station) (k : ℕ) (bs : List Leg) (ds : Plan) → slews s k bs ds ≡ true → GoodSlewed s k bs ds
unfolding slews
slews_says s k [] [] h = record { one_each = refl; each = λ j b at. absurd (omega (arith, slice_get_within [] j b at)) }
slews_says s k [] (d ∷ ds) h = absurd (both_ways false refl h)
slews_says s k (a ∷ bs) [] h = absurd (both_ways false refl h)
slews_says s k (a ∷ bs) (d ∷ ds) h =
    let parts = and_parts (slews_one s k a d bs ds) (slews s k bs ds) h in
    let rest = slews_says s k bs ds parts.1 in
    record { one_each = ap suc rest.one_each; each = all_slew s k a d bs ds (slews_one_says s k a d bs ds parts.0) rest }

-- and a good plan passes it
slews_from : (s : Station) (k : ℕ) (bs : List Leg) (ds : Plan) → GoodSlewed s k bs ds → slews s k bs ds ≡ true
unfolding slews
slews_from s k [] [] h = refl
slews_from s k [] (d ∷ ds) h = absurd (omega (arith, h.one_each))
slews_from s k (a ∷ bs) [] h = absurd (omega (arith, h.one_each))
slews_from s k (a ∷ bs) (d ∷ ds) h =
    and_from _ _ (slews_one_from s k a d bs ds (front_slews s k a d bs ds h)) (slews_from s k bs ds (rest_slews s k a d bs ds h))

pub test_is_rule : TestIsRule
test_is_rule s k bs ds = (slews_says s k bs ds, slews_from s k bs ds)
