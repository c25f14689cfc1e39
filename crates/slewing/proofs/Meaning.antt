-- What the automaton accepts: the plans in which dishes are in time. Assumes nothing.
use Rattle.std.proofs.Common.{◌≡◌, ◌≢◌, ℕ, zero, suc, ◌+◌, ◌-◌, ◌*◌, ◌<◌, ◌≤◌, Bool, true, false, ◌&&◌, List, [], ◌∷◌, length, Some, None, Option, get_or, sym, refl, ap, ◌∙◌, ⊎_elim, arith, length-set, get_or-set_other, get_or-set_same}
use Rattle.std.specs.Prelude.{cond, nat_le, slice_get, slice_index_or, slice_set, ◌==◌, ◌||◌, option_and_then, if◌then◌else◌}
use Rattle.std.specs.Option.{is_some}
use Rattle.std.proofs.lemmas.Bool.{and_from, and_parts, both_ways, cases_Bool, cases_lt, cases_order, le-leb, or_cases, or_left, or_right}
use Rattle.std.proofs.lemmas.Bool.Decides.{nat_tests}
use Rattle.std.proofs.lemmas.List.{get_or-replicate}
use Rattle.engine.specs.Rules.{accepts}
use Rattle.engine.specs.Runs.{leads}
use Rattle.passes.specs.declared.model.Pass.{Pass}
use Rattle.passes.specs.declared.model.Station.{Station}
use Rattle.passes.specs.Plans.{Plan, fits, fits_one}
use Rattle.slewing.specs.declared.directions.Leg.{Leg}
use Rattle.slewing.specs.declared.directions.Sweep.{Sweep}
use Rattle.slewing.specs.declared.following.Last.{Last}
use Rattle.slewing.specs.declared.following.LastPasses.{LastPasses}
use Rattle.slewing.specs.Directions.{legs}
use Rattle.slewing.specs.Following.{last_of, can_follow, once_followed, is_in_time, go_on, slew_automaton, none_followed}
use Rattle.slewing.specs.Statements.{RuleMeans}
use Rattle.slewing.proofs.Without.{fits_from_slews}
use Rattle.slewing.specs.Slewed.{reaches_next, slews_one, slews, slewed}

-- what is kept of a pass that is followed
abbrev pub last : Leg → Last
last b = record { to = b.pass.to; end = b.sweep.end }

module _ (t k : ℕ) where
  -- the next of these passes that dish d follows is one for which it is there, coming from its last pass, if it followed one
  pub from_last : Option Last → ℕ → List Leg → Plan → Bool
  from_last o d [] ds = true
  from_last o d (b ∷ bs) [] = true
  from_last o d (b ∷ bs) (e ∷ es) = if d == e then can_follow t k b o else from_last o d bs es

  from_none : (d : ℕ) (bs : List Leg) (ds : Plan) → from_last None d bs ds ≡ true
  unfolding from_last
  from_none d [] ds = refl
  from_none d (b ∷ bs) [] = refl
  from_none d (b ∷ bs) (e ∷ es) = either (d == e) (from_none d bs es)
    where
      either : {r : Bool} → (z : Bool) → r ≡ true → (if z then true else r) ≡ true
      either true is = refl
      either false is = is

  -- from the end of a pass, that is what good plans are asked
  from_pass : (a : Leg) (d : ℕ) (bs : List Leg) (ds : Plan) → from_last (Some (last a)) d bs ds ≡ reaches_next t k a d bs ds
  unfolding from_last reaches_next
  from_pass a d [] ds = refl
  from_pass a d (b ∷ bs) [] = refl
  from_pass a d (b ∷ bs) (e ∷ es) = ap (λ r. if d == e then can_follow t k b (Some (last a)) else r) (from_pass a d bs es)

  -- each pass that is followed reaches the next one of its dish
  pub chain : List Leg → Plan → Bool
  chain [] ds = true
  chain (b ∷ bs) [] = true
  chain (b ∷ bs) (d ∷ ds) = (d == 0 || from_last (Some (last b)) d bs ds) && chain bs ds

  chain_tail : (b : Leg) (bs : List Leg) (d : ℕ) (ds : Plan) → chain (b ∷ bs) (d ∷ ds) ≡ true → chain bs ds ≡ true
  unfolding chain
  chain_tail b bs d ds h = (and_parts (d == 0 || from_last (Some (last b)) d bs ds) _ h).1

  -- where decisions lead, pass by pass
  pub goes : List Leg → LastPasses → Plan → Option LastPasses
  goes bs s [] = Some s
  goes [] s (d ∷ ds) = None
  goes (b ∷ bs) s (d ∷ ds) = option_and_then (λ e. goes bs e ds) (go_on t k d s b)

  pub leads_goes :
      (all bs : List Leg) (i : ℕ) (s : LastPasses) (ds : Plan) → ((j : ℕ) → slice_get all (i + j) ≡ slice_get bs j) →
      leads (slew_automaton t k all).step i s ds ≡ goes bs s ds
  unfolding leads goes
  leads_goes all bs i s [] same = refl
  leads_goes all [] i s (d ∷ ds) same =
      let here : slice_get all i ≡ None = ap (slice_get all) (omega arith) ∙ same 0 in
      rw here refl
  leads_goes all (b ∷ bs) i s (d ∷ ds) same =
      let here : slice_get all i ≡ Some b = ap (slice_get all) (omega arith) ∙ same 0 in
      rw here (λ u. option_and_then (λ e. leads_goes all bs (i + 1) e ds (λ j. ap (slice_get all) (omega arith) ∙ same (suc j)) u) (go_on t k d s b))

  -- each dish is in time for the next pass that it follows, coming from its last one
  abbrev pub AllReach : LastPasses → List Leg → Plan → Type 0
  AllReach s bs ds = (e : ℕ) → 0 < e → e ≤ 4 → from_last (last_of s e) e bs ds ≡ true

  -- another dish's last pass stays
  others_stay : (b : Leg) (d e : ℕ) (s : LastPasses) → 0 < d → 0 < e → e ≢ d → last_of (once_followed b d s) e ≡ last_of s e
  others_stay b d e s some some₁ other = get_or-set_other s.of_dish (d - 1) (e - 1) _ None (λ same. other (omega arith))

  -- and its own is the one that it followed
  own_is_last : (b : Leg) (d : ℕ) (s : LastPasses) → 0 < d → d ≤ length s.of_dish → last_of (once_followed b d s) d ≡ Some (last b)
  own_is_last b d s some there = get_or-set_same s.of_dish (d - 1) _ None (omega arith)

  -- a pass that is not followed is passed over
  past_it : (o : Option Last) (e : ℕ) (b : Leg) (bs : List Leg) (ds : Plan) (d : ℕ) → e ≢ d → from_last o e (b ∷ bs) (d ∷ ds) ≡ from_last o e bs ds
  unfolding from_last
  past_it o e b bs ds d other = let no : (e == d) ≡ false = grind (arith, nat_tests) in rw no refl

  at_it : (o : Option Last) (b : Leg) (bs : List Leg) (ds : Plan) (d : ℕ) → from_last o d (b ∷ bs) (d ∷ ds) ≡ can_follow t k b o
  unfolding from_last
  at_it o b bs ds d = let same : (d == d) ≡ true = grind (arith, nat_tests) in rw same refl

  -- dishes are in time once one more pass is put in front
  module _ (b : Leg) (bs : List Leg) (s : LastPasses) (d : ℕ) (ds : Plan) (room : length s.of_dish ≡ 4) where
    -- what is known of the dishes once it is followed
    behind : 0 < d → d ≤ 4 → can_follow t k b (last_of s d) ≡ true → AllReach (once_followed b d s) bs ds → AllReach s (b ∷ bs) (d ∷ ds)
    behind some few can rest e some₁ there =
        ⊎_elim
        (λ same. rw same (at_it (last_of s d) b bs ds d ∙ can))
        (λ other.
        let ne : e ≢ d = λ same. ⊎_elim (λ l. omega arith) (λ l. omega arith) other in
        past_it (last_of s e) e b bs ds d ne ∙ ap (λ o. from_last o e bs ds) (sym (others_stay b d e s some some₁ ne)) ∙ rest e some₁ there)
        (cases_order e d)

    -- and before
    ahead : 0 < d → d ≤ 4 → from_last (Some (last b)) d bs ds ≡ true → AllReach s (b ∷ bs) (d ∷ ds) → AllReach (once_followed b d s) bs ds
    ahead some few reach rest e some₁ there =
        ⊎_elim
        (λ same. rw same (ap (λ o. from_last o d bs ds) (own_is_last b d s some (omega arith)) ∙ reach))
        (λ other.
        let ne : e ≢ d = λ same. ⊎_elim (λ l. omega arith) (λ l. omega arith) other in
        ap (λ o. from_last o e bs ds) (others_stay b d e s some some₁ ne) ∙ sym (past_it (last_of s e) e b bs ds d ne) ∙ rest e some₁ there)
        (cases_order e d)

    -- a pass that is not followed says nothing
    passed : d ≡ 0 → AllReach s bs ds → AllReach s (b ∷ bs) (d ∷ ds)
    passed none rest e some there = past_it (last_of s e) e b bs ds d (λ same. omega arith) ∙ rest e some there

    passed_back : d ≡ 0 → AllReach s (b ∷ bs) (d ∷ ds) → AllReach s bs ds
    passed_back none rest e some there = sym (past_it (last_of s e) e b bs ds d (λ same. omega arith)) ∙ rest e some there

    one_good :
        ((u : LastPasses) → length u.of_dish ≡ 4 → is_some (goes bs u ds) ≡ true → (chain bs ds ≡ true) × AllReach u bs ds) →
        is_some (goes (b ∷ bs) s (d ∷ ds)) ≡ true → (chain (b ∷ bs) (d ∷ ds) ≡ true) × AllReach s (b ∷ bs) (d ∷ ds)
    unfolding goes chain
    one_good more h = by (d == 0) (is_in_time t k b d s) refl refl h
      where
        by :
            (z y : Bool) → (d == 0) ≡ z → is_in_time t k b d s ≡ y →
            is_some (option_and_then (λ e. goes bs e ds) (cond z (Some s) (cond y (Some (once_followed b d s)) None))) ≡ true →
            ((d == 0 || from_last (Some (last b)) d bs ds) && chain bs ds ≡ true) × AllReach s (b ∷ bs) (d ∷ ds)
        by true y is is₁ h =
            let rest = more s room h in
            let none : d ≡ 0 = grind (arith, nat_tests) in
            (and_from _ _ (or_left _ _ is) rest.0, passed none rest.1)
        by false true is is₁ h =
            let rest = more (once_followed b d s) (length-set s.of_dish (d - 1) _ ∙ room) h in
            let some : 0 < d = grind (arith, nat_tests) in
            let parts = and_parts (nat_le d 4) _ is₁ in
            let few : d ≤ 4 = grind (arith, nat_tests) in
            let reach = ap (λ o. from_last o d bs ds) (sym (own_is_last b d s some (omega arith))) ∙ rest.1 d some few in
            (and_from _ _ (or_right _ _ reach) rest.0, behind some few parts.1 rest.1)
        by false false is is₁ h = absurd (both_ways false refl h)

    good_one :
        ((u : LastPasses) → length u.of_dish ≡ 4 → AllReach u bs ds → is_some (goes bs u ds) ≡ true) →
        d ≤ 4 → chain (b ∷ bs) (d ∷ ds) ≡ true → AllReach s (b ∷ bs) (d ∷ ds) → is_some (goes (b ∷ bs) s (d ∷ ds)) ≡ true
    unfolding goes chain
    good_one more few h all = ⊎_elim followed_not followed (cases_Bool (d == 0))
      where
        followed_not : (d == 0) ≡ true → is_some (option_and_then (λ e. goes bs e ds) (go_on t k d s b)) ≡ true
        followed_not is =
            let none : d ≡ 0 = grind (arith, nat_tests) in
            rw is (more s room (passed_back none all))

        followed : (d == 0) ≡ false → is_some (option_and_then (λ e. goes bs e ds) (go_on t k d s b)) ≡ true
        followed is =
            let some : 0 < d = grind (arith, nat_tests) in
            let can = sym (at_it (last_of s d) b bs ds d) ∙ all d some few in
            let on_time : is_in_time t k b d s ≡ true = and_from _ _ (le-leb d 4 few) can in
            let reach : from_last (Some (last b)) d bs ds ≡ true =
            ⊎_elim (λ no. absurd (both_ways (d == 0) is no)) (λ reach. reach) (or_cases (d == 0) _ (and_parts (d == 0 || from_last (Some (last b)) d bs ds) _ h).0) in
            rw (is, on_time) (more (once_followed b d s) (length-set s.of_dish (d - 1) _ ∙ room) (ahead some few reach all))

  -- where decisions lead somewhere, dishes are in time
  pub good_from_goes : (bs : List Leg) (s : LastPasses) (ds : Plan) → length s.of_dish ≡ 4 → is_some (goes bs s ds) ≡ true → (chain bs ds ≡ true) × AllReach s bs ds
  unfolding chain from_last
  good_from_goes [] s ds room h = (refl, λ e some there. refl)
  good_from_goes (b ∷ bs) s [] room h = (refl, λ e some there. refl)
  good_from_goes (b ∷ bs) s (d ∷ ds) room h = one_good b bs s d ds room (λ u. good_from_goes bs u ds) h

  -- where dishes are in time, decisions lead somewhere
  pub goes_from_good :
      (bs : List Leg) (s : LastPasses) (ds : Plan) → length s.of_dish ≡ 4 → length ds ≡ length bs → ((i : ℕ) → i < length ds → get_or ds i 0 ≤ 4) →
      chain bs ds ≡ true → AllReach s bs ds → is_some (goes bs s ds) ≡ true
  unfolding goes
  goes_from_good [] s [] room long few h all = refl
  goes_from_good [] s (d ∷ ds) room long few h all = absurd (omega arith)
  goes_from_good (b ∷ bs) s [] room long few h all = refl
  goes_from_good (b ∷ bs) s (d ∷ ds) room long few h all =
      good_one b bs s d ds room
      (λ u room₁ all₁. goes_from_good bs u ds room₁ (omega arith) (λ i l. few (suc i) (omega arith)) (chain_tail b bs d ds h) all₁)
      (few 0 (omega arith)) h all

-- of what is asked of a pass, the part about the next one can be taken out, and put in
one_parts : (d n : ℕ) (m r : Bool) → (d == 0 || (nat_le d n && (m && r))) ≡ true → (d ≤ n) × ((d == 0 || r) ≡ true)
one_parts d n m r h = (grind (arith, nat_tests), grind (arith, nat_tests))

one_joined : (d n : ℕ) (m f r : Bool) → (d == 0 || (nat_le d n && (m && f))) ≡ true → (d == 0 || r) ≡ true → (d == 0 || (nat_le d n && (m && r))) ≡ true
one_joined d n m f r h on_time = grind (arith, nat_tests)

-- what holds of the first number and of all others holds of each
each_front : (d : ℕ) (ds : Plan) (n : ℕ) → d ≤ n → ((i : ℕ) → i < length ds → get_or ds i 0 ≤ n) → (i : ℕ) → i < length (d ∷ ds) → get_or (d ∷ ds) i 0 ≤ n
each_front d ds n low rest zero l = low
each_front d ds n low rest (suc i) l = rest i (omega arith)

module _ (s : Station) (k : ℕ) where
  -- what a good plan says of each pass
  pub chain_from_slews :
      (bs : List Leg) (ds : Plan) → slews s k bs ds ≡ true →
      (length ds ≡ length bs) × (chain s.turn k bs ds ≡ true) × ((i : ℕ) → i < length ds → get_or ds i 0 ≤ s.dishes)
  unfolding slews slews_one chain
  chain_from_slews [] [] h = (refl, refl, λ i l. absurd (omega arith))
  chain_from_slews [] (d ∷ ds) h = absurd (both_ways false refl h)
  chain_from_slews (b ∷ bs) [] h = absurd (both_ways false refl h)
  chain_from_slews (b ∷ bs) (d ∷ ds) h =
      let parts = and_parts (slews_one s k b d bs ds) _ h in
      let one = one_parts d s.dishes _ (reaches_next s.turn k b d bs ds) parts.0 in
      let rest = chain_from_slews bs ds parts.1 in (
        ap suc rest.0,
        and_from _ _ (ap (λ r. d == 0 || r) (from_pass s.turn k b d bs ds) ∙ one.1) rest.1,
        λ i. each_front d ds s.dishes one.0 rest.2 i,
      )

  -- a plan that is good without directions, and in which dishes are in time, is good with them
  pub slews_from_chain :
      (ps : List Pass) (vs : List Sweep) (ds : Plan) → length vs ≡ length ps → fits s ps ds ≡ true → chain s.turn k (legs ps vs) ds ≡ true →
      slews s k (legs ps vs) ds ≡ true
  unfolding fits fits_one legs slews slews_one chain
  slews_from_chain [] vs [] long h ch = refl
  slews_from_chain [] vs (d ∷ ds) long h ch = absurd (both_ways false refl h)
  slews_from_chain (p ∷ ps) [] ds long h ch = absurd (omega arith)
  slews_from_chain (p ∷ ps) (v ∷ vs) [] long h ch = absurd (both_ways false refl h)
  slews_from_chain (p ∷ ps) (v ∷ vs) (d ∷ ds) long h ch =
      let b : Leg = record { pass = p; sweep = v } in
      let parts = and_parts (fits_one s p d ps ds) _ h in
      let reach = and_parts (d == 0 || from_last s.turn k (Some (last b)) d (legs ps vs) ds) _ ch in
      let next = ap (λ r. d == 0 || r) (sym (from_pass s.turn k b d (legs ps vs) ds)) ∙ reach.0 in
      and_from _ _ (one_joined d s.dishes _ _ _ parts.0 next) (slews_from_chain ps vs ds (omega arith) parts.1 reach.1)

-- at the start no dish has followed anything, so each is in time for its first pass
none_reach : (t k : ℕ) (bs : List Leg) (ds : Plan) → AllReach t k none_followed bs ds
none_reach t k bs ds e some there = ap (λ o. from_last t k o e bs ds) (get_or-replicate 4 (e - 1) None None (omega arith)) ∙ from_none t k e bs ds

-- what the automaton accepts is where decisions lead somewhere
accepts_goes : (t k : ℕ) (bs : List Leg) (ds : Plan) → accepts (slew_automaton t k bs) ds ≡ is_some (goes t k bs none_followed ds)
accepts_goes t k bs ds = ap is_some (leads_goes t k bs bs 0 none_followed ds (λ j. ap (slice_get bs) (omega arith)))

-- two tests that hold of the same are the same
same_test : (x y : Bool) → (x ≡ true → y ≡ true) → (y ≡ true → x ≡ true) → x ≡ y
same_test true y there back = sym (there refl)
same_test false true there back = back refl
same_test false false there back = refl

pub rule_means : RuleMeans
rule_means s k vs ps ds few time long =
    same_test _ _
    (λ good.
    let chained = chain_from_slews s k (legs ps vs) ds good in
    let accepted = goes_from_good s.turn k (legs ps vs) none_followed ds refl chained.0 (λ i l. let there = chained.2 i l in omega arith) chained.1 (none_reach s.turn k (legs ps vs) ds) in
    and_from _ _ (fits_from_slews s k vs ps ds time long good) (accepts_goes s.turn k (legs ps vs) ds ∙ accepted))
    (λ good.
    let parts = and_parts (fits s ps ds) _ good in
    let chained = good_from_goes s.turn k (legs ps vs) none_followed ds refl (sym (accepts_goes s.turn k (legs ps vs) ds) ∙ parts.1) in
    slews_from_chain s k ps vs ds long parts.0 chained.0)
