-- The table of what one dish can gain from each pass on. Assumes nothing.
use Rattle.std.proofs.Common.{◌≡◌, ℕ, suc, ◌+◌, ◌-◌, ◌<◌, ◌≤◌, max, true, false, ◌≢◌, List, [], ◌∷◌, ◌++◌, length, get_or, drop, set, replicate, sum, sym, refl, ap, ◌∙◌, subst, ⊎_elim, add-zero, arith}
use Rattle.std.specs.List.{push}
use Rattle.std.proofs.lemmas.List.{append_assoc, length-append, get_or-append-add, drop_all, drop-drop, drop_more, get_or-drop, get_or-set_other, get_or-set_same, length-drop}
use Rattle.std.proofs.lemmas.List.Sums.{sum_by-drop_more, sum_by-take-drop}
use Rattle.std.proofs.lemmas.Bool.{and_from, and_parts, both_ways, cases_eq, cases_lt, lt-ltb}
use Rattle.std.proofs.lemmas.Bool.Decides.{nat_tests}
use Rattle.passes.specs.declared.model.Pass.{Pass}
use Rattle.passes.specs.declared.model.Station.{Station}
use Rattle.passes.specs.Follow.{one_after}
use Rattle.passes.specs.Plans.{Plan, fits_one, fits}
use Rattle.passes.specs.Rule.{no_pass, nth}
use Rattle.passes.proofs.Goodness.{FitsOne, fits_one_says}
use Rattle.capacity.specs.Alone.{gain_of, only, GainsMost, RightFrom}
use Rattle.capacity.specs.Order.{InTime, FirstFrom}
use Rattle.capacity.proofs.Chains.{fits_drop, gain_other, gain_followed, gain_idle, gain_bound, Alone, able, alone_skip, alone_follow}

-- from one place to a later one, and the list from there
pub gap_reaches : (i next : ℕ) → i < next → i + 1 + (next - (i + 1)) ≡ next
gap_reaches i next later = omega arith

drop-gap : {X : Type 0} (xs : List X) (i next : ℕ) → i < next → drop (next - (i + 1)) (drop (i + 1) xs) ≡ drop next xs
drop-gap xs i next later = drop-drop (next - (i + 1)) (i + 1) xs ∙ ap (λ n. drop n xs) (gap_reaches i next later)

module _ (s : Station) (d : ℕ) where
  -- a plan that gains the most is one of the dish alone
  alone_of : (ps : List Pass) (gs : List ℕ) (n : ℕ) (h : GainsMost s d ps gs n) → Alone s d ps h.0
  alone_of ps gs n h = record { good = h.1.good; alone = h.1.alone }

  -- a best plan of the dish gains one number only
  pub one_most : (ps : List Pass) (gs : List ℕ) (n m : ℕ) → GainsMost s d ps gs n → GainsMost s d ps gs m → n ≡ m
  one_most ps gs n m h g =
      let up = g.1.most h.0 h.1.good in
      let down = h.1.most g.0 g.1.good in
      omega (arith, h.2, g.2)

  -- past the last pass there is nothing to gain
  pub gains_none : GainsMost s d [] [] 0
  unfolding fits only gain_of
  gains_none = ([], record { good = refl; alone = refl; most = λ es h. omega arith }, refl)

  module _ (p : Pass) (ps : List Pass) (g : ℕ) (gs : List ℕ) (b : ℕ) (rest : GainsMost s d ps gs b) where
    -- a plan that is best so far, and the bound that shows it to be best
    gains_from : (n : ℕ) (ds : Plan) → Alone s d (p ∷ ps) ds → gain_of d (g ∷ gs) ds ≡ n → ((e : ℕ) (es : Plan) → fits_one s p e ps es ≡ true → fits s ps es ≡ true → gain_of d (g ∷ gs) (e ∷ es) ≤ n) → GainsMost s d (p ∷ ps) (g ∷ gs) n
    unfolding fits
    gains_from n ds h gain bound = (ds, record { good = h.good; alone = h.alone; most = λ es good. rw gain (each es good) }, gain)
      where
        each : (es : Plan) → fits s (p ∷ ps) es ≡ true → gain_of d (g ∷ gs) es ≤ n
        each [] good = absurd (both_ways false refl good)
        each (e ∷ es) good = let parts = and_parts (fits_one s p e ps es) (fits s ps es) good in bound e es parts.0 parts.1

    -- the plan that leaves p out, and what it gains
    skips : Alone s d (p ∷ ps) (0 ∷ rest.0)
    skips = alone_skip s d p ps rest.0 (alone_of ps gs b rest)

    skips_gain : gain_of d (g ∷ gs) (0 ∷ rest.0) ≡ b
    skips_gain = gain_other d g gs 0 rest.0 (λ e. omega arith) ∙ rest.2

    pub gains_less : (a : ℕ) → GainsMost s d (p ∷ ps) (g ∷ gs) a → b ≤ a
    gains_less a this = let most = this.1.most (0 ∷ rest.0) skips.good in omega (arith, skips_gain, this.2)

    -- a plan by which the dish doesn't follow p gains no more than one without it
    other_bound : (e : ℕ) (es : Plan) → e ≢ suc d → fits s ps es ≡ true → gain_of d (g ∷ gs) (e ∷ es) ≤ b
    other_bound e es other good = let most = rest.1.most es good in omega (arith, gain_other d g gs e es other, rest.2)

    -- a dish that isn't able to follow p leaves it out
    pub gains_unable : able s d p ≡ false → GainsMost s d (p ∷ ps) (g ∷ gs) b
    gains_unable cannot = gains_from b (0 ∷ rest.0) skips skips_gain (λ e es here good. other_bound e es (λ same. unable (fits_one_says s p e ps es here) same) good)
      where
        unable : {e : ℕ} {es : Plan} → FitsOne s p e ps es → e ≡ suc d → ⊥
        unable {e} h same =
            let back : e - 1 ≡ d = omega arith in
            both_ways _ cannot (and_from _ _ (lt-ltb _ _ (omega (arith, h.there))) (rw back at (h.hears (omega arith))))

    -- one that is able either leaves it out, or follows it and goes on at m, the first pass that it can follow then
    module _ (m : ℕ) (within : m ≤ length ps) (c : ℕ) (later : GainsMost s d (drop m ps) (drop m gs) c) where
      follows : able s d p ≡ true → ((j : ℕ) → m ≤ j → j < length ps → p.to + s.turn ≤ (nth ps j).from) → Alone s d (p ∷ ps) (suc d ∷ (replicate m 0 ++ later.0))
      follows can far = alone_follow s d p ps m within can far later.0 (alone_of (drop m ps) (drop m gs) c later)

      follows_gain : gain_of d (g ∷ gs) (suc d ∷ (replicate m 0 ++ later.0)) ≡ g + c
      follows_gain = gain_followed d g gs (replicate m 0 ++ later.0) ∙ ap (λ n. g + n) (gain_idle d m gs later.0 ∙ later.2)

      pub gains_able : able s d p ≡ true → ((j : ℕ) → m ≤ j → j < length ps → p.to + s.turn ≤ (nth ps j).from) → ((j : ℕ) → j < m → one_after s.turn p (nth ps j) ≡ false) → GainsMost s d (p ∷ ps) (g ∷ gs) (max b (g + c))
      gains_able can far near =
          ⊎_elim
          (λ (more : b < g + c). gains_from (max b (g + c)) _ (follows can far) (follows_gain ∙ omega arith) bound)
          (λ (less : g + c ≤ b). gains_from (max b (g + c)) _ skips (skips_gain ∙ omega arith) bound)
          (cases_lt b (g + c))
        where
          bound : (e : ℕ) (es : Plan) → fits_one s p e ps es ≡ true → fits s ps es ≡ true → gain_of d (g ∷ gs) (e ∷ es) ≤ max b (g + c)
          bound e es here good =
              ⊎_elim
              (λ same.
              let here₁ = subst (λ x. fits_one s p x ps es ≡ true) same here in
              let gain = gain_bound s d p ps m within near g gs es here₁ good in
              let most = later.1.most (drop m es) (fits_drop s m ps es good) in
              subst (λ x. gain_of d (g ∷ gs) (x ∷ es) ≤ max b (g + c)) (sym same) (omega (arith, later.2)))
              (λ other. let most = other_bound e es other good in omega arith)
              (cases_eq e (suc d))

-- where those that are left stand before those that were seen, and p is the last of those that are left, p is the element i that follows the
-- others
pub last_left : {X : Type 0} (xs left less seen : List X) (p : X) (i : ℕ) → left ++ seen ≡ xs → left ≡ push less p → i ≡ length less → (less ++ (p ∷ seen) ≡ xs) × (length left ≡ i + 1) × (i < length xs) × ((d : X) → get_or xs i d ≡ p)
last_left xs left less seen p i all more here =
    let on : less ++ (p ∷ seen) ≡ xs = sym (append_assoc less (p ∷ []) seen) ∙ rw (sym more) all in (
      on,
      omega (arith, ap length more, length-append less (p ∷ [])),
      omega (arith, sym (ap length on), length-append less (p ∷ seen)),
      λ d. rw (here, ← on) (rw add-zero at (get_or-append-add less (p ∷ seen) 0 d)),
    )

-- one pass and those from a later one on gain no more than all
pub sum_later : (gs : List ℕ) (i next : ℕ) → i < length gs → i < next → get_or gs i 0 + sum (drop next gs) ≤ sum gs
sum_later gs i next l later =
    let own : ℕ → ℕ = λ x. x in
    omega (
      arith,
      sum_by-take-drop own gs i,
      sum_by-drop_more own gs i 0 l,
      sum_by-take-drop own (drop (i + 1) gs) (next - (i + 1)),
      ap sum (drop-gap gs i next later),
    )

module _ (s : Station) (d : ℕ) (ps : List Pass) (gs : List ℕ) (long : length gs ≡ length ps) where
  -- past the last pass an entry is 0
  pub entry_past : (k : ℕ) → length ps ≤ k → GainsMost s d (drop k ps) (drop k gs) 0
  entry_past k past = rw (drop_all k ps past, drop_all k gs (omega arith)) (gains_none s d)

  -- one entry more
  pub right_more : (table : List ℕ) (i r : ℕ) → i < length table → RightFrom (i + 1) s d ps gs table → GainsMost s d (drop i ps) (drop i gs) r → RightFrom i s d ps gs (set table i r)
  right_more table i r l rest here k from to =
      ⊎_elim
      (λ same. subst (λ j. GainsMost s d (drop j ps) (drop j gs) (get_or (set table i r) j 0)) (sym same) (rw (get_or-set_same table i r 0 l) here))
      (λ other. rw (get_or-set_other table i k r 0 other) (rest k (omega arith) to))
      (cases_eq k i)

module _ (s : Station) (d : ℕ) (ps : List Pass) (gs : List ℕ) (long : length gs ≡ length ps) (i : ℕ) (within : i < length ps) where
  -- an entry is no less than the next one
  pub entry_falls : (a b : ℕ) → GainsMost s d (drop i ps) (drop i gs) a → GainsMost s d (drop (i + 1) ps) (drop (i + 1) gs) b → b ≤ a
  entry_falls a b this rest =
      let in_gains : i < length gs = omega arith in
      gains_less s d (nth ps i) (drop (i + 1) ps) (get_or gs i 0) (drop (i + 1) gs) b rest a (rw (drop_more ps i no_pass within, drop_more gs i 0 in_gains) at this)

  -- the plan that leaves this pass out and goes on with one from the next, and what it gains
  pub skip_at : (qs : Plan) → Alone s d (drop (i + 1) ps) qs → Alone s d (drop i ps) (0 ∷ qs)
  skip_at qs h = rw (drop_more ps i no_pass within) (alone_skip s d (nth ps i) (drop (i + 1) ps) qs h)

  pub skip_gain : (qs : Plan) → gain_of d (drop i gs) (0 ∷ qs) ≡ gain_of d (drop (i + 1) gs) qs
  skip_gain qs =
      let in_gains : i < length gs = omega arith in
      rw (drop_more gs i 0 in_gains) (gain_other d (get_or gs i 0) (drop (i + 1) gs) 0 qs (λ e. omega arith))

  -- an entry from the next one, where the dish isn't able to follow the pass
  pub entry_unable : able s d (nth ps i) ≡ false → (b : ℕ) → GainsMost s d (drop (i + 1) ps) (drop (i + 1) gs) b → GainsMost s d (drop i ps) (drop i gs) b
  entry_unable cannot b rest =
      let in_gains : i < length gs = omega arith in
      rw (drop_more ps i no_pass within, drop_more gs i 0 in_gains) (gains_unable s d (nth ps i) (drop (i + 1) ps) (get_or gs i 0) (drop (i + 1) gs) b rest cannot)

-- next is the first pass that begins late enough after pass i for one dish to follow both
module _ (s : Station) (ps : List Pass) (timed : InTime ps) (i next : ℕ) (within : i < length ps) (first : FirstFrom ps ((nth ps i).to + s.turn) next) where
  pub comes_later : i < next
  comes_later = ⊎_elim (λ later. later) (λ not. absurd (omega (arith, first.after i not within, timed.ends i within))) (cases_lt i next)

  -- how many passes lie between
  abbrev gap : ℕ
  gap = next - (i + 1)

  gap_within : gap ≤ length (drop (i + 1) ps)
  gap_within = omega (arith, length-drop (i + 1) ps, comes_later, first.within)

  -- the passes behind them can be followed after pass i
  far : (j : ℕ) → gap ≤ j → j < length (drop (i + 1) ps) → (nth ps i).to + s.turn ≤ (nth (drop (i + 1) ps) j).from
  far j l h = rw (get_or-drop (i + 1) ps j no_pass) (first.after (i + 1 + j) (omega (arith, comes_later)) (omega (arith, length-drop (i + 1) ps)))

  -- and they cannot
  near : (j : ℕ) → j < gap → one_after s.turn (nth ps i) (nth (drop (i + 1) ps) j) ≡ false
  near j l =
      let short = first.before (i + 1 + j) (omega (arith, comes_later)) in
      let after = timed.order i (i + 1 + j) (omega arith) (omega (arith, comes_later, first.within)) in
      let ends = timed.ends (i + 1 + j) (omega (arith, comes_later, first.within)) in
      rw (get_or-drop (i + 1) ps j no_pass) (grind (arith, nat_tests))

  module _ (d : ℕ) (gs : List ℕ) (long : length gs ≡ length ps) where
    this_gain : drop i gs ≡ get_or gs i 0 ∷ drop (i + 1) gs
    this_gain = drop_more gs i 0 (omega arith)

    -- an entry from the next one and from that of the first pass that still goes after this one, where the dish is able to follow the pass
    pub entry_able : able s d (nth ps i) ≡ true → (b c : ℕ) → GainsMost s d (drop (i + 1) ps) (drop (i + 1) gs) b → GainsMost s d (drop next ps) (drop next gs) c → GainsMost s d (drop i ps) (drop i gs) (max b (get_or gs i 0 + c))
    entry_able can b c rest later =
        rw (drop_more ps i no_pass within, this_gain)
        (gains_able s d (nth ps i) (drop (i + 1) ps) (get_or gs i 0) (drop (i + 1) gs) b rest gap gap_within c (rw (drop-gap ps i next comes_later, drop-gap gs i next comes_later) later) can far near)

    -- the plan that follows this pass and goes on with one from there, and what it gains
    pub follow_at : able s d (nth ps i) ≡ true → (qs : Plan) → Alone s d (drop next ps) qs → Alone s d (drop i ps) (suc d ∷ (replicate gap 0 ++ qs))
    follow_at can qs h = rw (drop_more ps i no_pass within) (alone_follow s d (nth ps i) (drop (i + 1) ps) gap gap_within can far qs (rw (drop-gap ps i next comes_later) h))

    pub follow_gain : (qs : Plan) → gain_of d (drop i gs) (suc d ∷ (replicate gap 0 ++ qs)) ≡ get_or gs i 0 + gain_of d (drop next gs) qs
    follow_gain qs =
        let rest = gain_idle d gap (drop (i + 1) gs) qs ∙ ap (λ l. gain_of d l qs) (drop-gap gs i next comes_later) in
        rw this_gain (gain_followed d (get_or gs i 0) (drop (i + 1) gs) (replicate gap 0 ++ qs) ∙ ap (λ n. get_or gs i 0 + n) rest)
