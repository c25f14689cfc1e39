-- Why following the table leaves a best plan of the dish alone. Assumes nothing.
use Rattle.std.proofs.Common.{◌≡◌, ℕ, suc, ◌+◌, ◌-◌, ◌<◌, ◌≤◌, List, [], ◌∷◌, ◌++◌, length, get_or, take, drop, set, replicate, sym, refl, ap, ◌∙◌, subst, ⊎_elim, arith}
use Rattle.std.proofs.lemmas.List.{append_assoc, append-nil, drop_all, take_all, take_more_set}
use Rattle.std.proofs.lemmas.Bool.{cases_Bool}
use Rattle.passes.specs.declared.model.Pass.{Pass}
use Rattle.passes.specs.declared.model.Station.{Station}
use Rattle.passes.specs.Plans.{Plan, fits}
use Rattle.passes.specs.Rule.{nth}
use Rattle.capacity.specs.Alone.{gain_of, only, BestAlone, RightFrom}
use Rattle.capacity.specs.Order.{InTime, FirstFrom}
use Rattle.capacity.proofs.Chains.{Alone, able, gain_none}
use Rattle.capacity.proofs.Tables.{one_most, entry_past, entry_falls, entry_unable, entry_able, skip_at, skip_gain, follow_at, follow_gain, gap_reaches, comes_later}

-- the front of a room, one number on
front_more : (room : Plan) (i e k : ℕ) → i < length room → take (i + 1) (set room i e) ++ replicate k 0 ≡ take i room ++ (e ∷ replicate k 0)
front_more room i e k l = ap (λ xs. xs ++ replicate k 0) (take_more_set room i e l) ∙ append_assoc (take i room) (e ∷ []) (replicate k 0)

module _ (s : Station) (d : ℕ) (ps : List Pass) (gs table : List ℕ) where
  -- whatever plan of the dish goes on from pass i makes, behind the front, a plan of all passes, and gains there what the table says
  pub Leads : Plan → ℕ → Type 0
  Leads front i = (qs : Plan) → Alone s d (drop i ps) qs → Alone s d ps (front ++ qs) × (gain_of d gs (front ++ qs) + get_or table i 0 ≡ get_or table 0 0 + gain_of d (drop i gs) qs)

  -- the first i numbers of the room, with nothing followed up to the pass `next`, lead on from there
  pub Led : ℕ → ℕ → Plan → Type 0
  Led next i room = Leads (take i room ++ replicate (next - i) 0) (i + (next - i))

  leads_at : (f h : Plan) (i j : ℕ) → f ≡ h → i ≡ j → Leads f i → Leads h j
  leads_at f h i j e e₁ l = subst (λ x. Leads x j) e (subst (λ x. Leads f x) e₁ l)

  pub led_start : (room : Plan) → Led 0 0 room
  unfolding Led Leads
  led_start room qs h = (h, omega arith)

  -- where the dish has turned, the room alone leads on
  led_turned : (next i : ℕ) (room : Plan) → next ≤ i → Led next i room → Leads (take i room) i
  unfolding Led
  led_turned next i room turned l =
      let none : next - i ≡ 0 = omega arith in
      leads_at _ _ _ _ (ap (λ n. take i room ++ replicate n 0) none ∙ append-nil (take i room)) (omega arith) l

  -- a pass more that is not followed, while the dish is still held
  pub led_held : (next i : ℕ) (room : Plan) → i < length room → i < next → Led next i room → Led next (i + 1) (set room i 0)
  unfolding Led
  led_held next i room l held h =
      let one_less : suc (next - (i + 1)) ≡ next - i = omega arith in
      leads_at _ _ _ _ (sym (front_more room i 0 (next - (i + 1)) l ∙ ap (λ n. take i room ++ replicate n 0) one_less)) (omega arith) h

  module _ (timed : InTime ps) (long : length gs ≡ length ps) (right : RightFrom 0 s d ps gs table) (i : ℕ) (within : i < length ps) where
    -- a pass that there is nothing to gain by is left out
    leads_skip : (front : Plan) → get_or table i 0 ≤ get_or table (i + 1) 0 → Leads front i → Leads (front ++ (0 ∷ [])) (i + 1)
    unfolding Leads
    leads_skip front level l qs h =
        let falls = entry_falls s d ps gs long i within _ _ (right i (omega arith) (omega arith)) (right (i + 1) (omega arith) (omega arith)) in
        let on = l (0 ∷ qs) (skip_at s d ps gs long i within qs h) in
        rw (append_assoc front (0 ∷ []) qs) (on.0, omega (arith, on.1, skip_gain s d ps gs long i within qs))

    -- a pass by which there is, is followed
    leads_follow : (next : ℕ) → FirstFrom ps ((nth ps i).to + s.turn) next → (front : Plan) → get_or table (i + 1) 0 < get_or table i 0 → Leads front i → Leads (front ++ (suc d ∷ replicate (next - (i + 1)) 0)) next
    unfolding Leads
    leads_follow next first front more l qs h =
        let this = right i (omega arith) (omega arith) in
        let rest = right (i + 1) (omega arith) (omega arith) in
        let later = right next (omega arith) first.within in
        ⊎_elim
        (λ can.
        let is = one_most s d _ _ _ _ this (entry_able s ps timed i next within first d gs long can _ _ rest later) in
        let on = l _ (follow_at s ps timed i next within first d gs long can qs h) in
        rw (append_assoc front (suc d ∷ replicate (next - (i + 1)) 0) qs) (on.0, omega (arith, on.1, follow_gain s ps timed i next within first d gs long qs)))
        (λ cannot.
        let is = one_most s d _ _ _ _ this (entry_unable s d ps gs long i within cannot _ rest) in
        absurd (omega arith))
        (cases_Bool (able s d (nth ps i)))

    -- the same of the room
    pub led_skip : (next : ℕ) (room : Plan) → i < length room → next ≤ i → get_or table i 0 ≤ get_or table (i + 1) 0 → Led next i room → Led next (i + 1) (set room i 0)
    unfolding Led
    led_skip next room l turned level h =
        let none : next - (i + 1) ≡ 0 = omega arith in
        leads_at _ _ _ _ (sym (front_more room i 0 (next - (i + 1)) l ∙ ap (λ n. take i room ++ (0 ∷ replicate n 0)) none)) (omega arith) (leads_skip (take i room) level (led_turned next i room turned h))

    pub led_follow : (next after : ℕ) (room : Plan) → FirstFrom ps ((nth ps i).to + s.turn) after → i < length room → next ≤ i → get_or table (i + 1) 0 < get_or table i 0 → Led next i room → Led after (i + 1) (set room i (suc d))
    unfolding Led
    led_follow next after room first l turned more h =
        let later = comes_later s ps timed i after within first in
        leads_at _ _ _ _ (sym (front_more room i (suc d) (after - (i + 1)) l)) (sym (gap_reaches i after later)) (leads_follow after first (take i room) more (led_turned next i room turned h))

  -- at the end the room holds a best plan
  pub led_best : length gs ≡ length ps → RightFrom 0 s d ps gs table → (next : ℕ) (room : Plan) → length room ≡ length ps → next ≤ length ps → Led next (length ps) room → BestAlone s d ps gs room
  unfolding Leads fits only gain_of
  led_best long right next room same done h = record {
    good = whole.0.good;
    alone = whole.0.alone;
    most = λ es good. let all = right 0 (omega arith) (omega arith) in let most = all.1.most es good in omega (arith, all.2, whole.1);
  }
    where
      n : ℕ
      n = length ps

      nothing : Alone s d (drop n ps) []
      nothing = rw (drop_all n ps (omega arith)) (record { good = refl; alone = refl })

      on : Alone s d ps (take n room ++ []) × (gain_of d gs (take n room ++ []) + get_or table n 0 ≡ get_or table 0 0 + gain_of d (drop n gs) [])
      on = led_turned next n room done h [] nothing

      is_room : take n room ++ [] ≡ room
      is_room = append-nil (take n room) ∙ take_all n room (omega arith)

      last : get_or table n 0 ≡ 0
      last = one_most s d _ _ _ _ (right n (omega arith) (omega arith)) (entry_past s d ps gs long n (omega arith))

      whole : Alone s d ps room × (gain_of d gs room ≡ get_or table 0 0)
      whole = (rw is_room at on.0, omega (arith, rw is_room at on.1, last, gain_none d (drop n gs)))
