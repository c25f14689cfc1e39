-- What the rule on one pass accepts, and what planning by it answers. Assumes nothing.
use Rattle.std.proofs.Common.{◌≡◌, ◌≢◌, ℕ, zero, suc, ◌+◌, ◌<◌, Bool, true, false, not, ◌&&◌, List, [], ◌∷◌, length, Some, None, Option, sym, refl, ap, subst, ◌∙◌, arith}
use Rattle.std.specs.Prelude.{nat_lt}
use Rattle.std.specs.Option.{is_some}
use Rattle.std.proofs.lemmas.Bool.{and_from, and_parts, both_ways}
use Rattle.std.proofs.lemmas.Bool.Decides.{nat_tests}
use Rattle.engine.specs.Rules.{Automaton, accepts, anything, together}
use Rattle.engine.specs.Runs.{leads}
use Rattle.engine.proofs.Ruling.{accepted_together, all_accepted}
use Rattle.passes.specs.declared.model.Pass.{Pass}
use Rattle.passes.specs.declared.model.Station.{Station}
use Rattle.passes.specs.Plans.{Plan, fits, Best}
use Rattle.passes.specs.Rule.{says}
use Rattle.capacity.specs.Alone.{BestPlanWorth}
use Rattle.planner.specs.Ruled.{BestBy, PlannedBy, fits_by, follows}
use Rattle.sensitivity.specs.declared.pass_rules.PassRule.{PassRule}
use Rattle.sensitivity.specs.declared.pass_rules.PassRule.TheVariants.{Forced, Forbidden}
use Rattle.sensitivity.specs.declared.needed.Needed.{Needed}
use Rattle.sensitivity.specs.declared.needed.Needed.TheVariants.{Worth, Never}
use Rattle.sensitivity.specs.Answers.{LeftBy}
use Rattle.sensitivity.specs.Needing.{with_worth, BestAsked, BestOf, NeededWorth, NoneFollows, TrueOf, Told}
use Rattle.sensitivity.specs.PassRules.{ruled_pass, forces, refuses, pass_automaton, PassRuleMeans, AskedAnswered}
use Rattle.sensitivity.proofs.Needs.{asked_at}
use Rattle.sensitivity.proofs.Stations.{fits_long, needed_of_station}
use Rattle.sensitivity.proofs.Worths.{fits_same}

-- the rule refuses nothing of other passes
elsewhere : (w : PassRule) (i d : ℕ) → i ≢ ruled_pass w → refuses w i d ≡ false
elsewhere (Forced j) i d other = grind (arith, nat_tests)
elsewhere (Forbidden j) i d other = grind (arith, nat_tests)

-- of its own pass it refuses what goes against it
says_asked : (w : PassRule) (d : ℕ) → not (refuses w (ruled_pass w) d) ≡ true → nat_lt 0 d ≡ forces w
says_asked (Forced j) d accepted = grind (arith, nat_tests)
says_asked (Forbidden j) d accepted = grind (arith, nat_tests)

-- and nothing else
asked_says : (w : PassRule) (d : ℕ) → nat_lt 0 d ≡ forces w → not (refuses w (ruled_pass w) d) ≡ true
asked_says (Forced j) d does = grind (arith, nat_tests)
asked_says (Forbidden j) d does = grind (arith, nat_tests)

module _ (w : PassRule) where
  -- behind its pass the rule refuses nothing
  past : (ds : Plan) (i : ℕ) → ruled_pass w < i → is_some (leads (pass_automaton w).step i tt ds) ≡ true
  unfolding leads
  past [] i l = refl
  past (d ∷ ds) i l = rw (elsewhere w i d (omega arith)) (past ds (i + 1) (omega arith))

  -- up to its pass all rests on what the plan says of that
  up_to : (ds : Plan) (i k : ℕ) → ruled_pass w ≡ i + k → k < length ds → is_some (leads (pass_automaton w).step i tt ds) ≡ not (refuses w (ruled_pass w) (says ds k))
  unfolding leads
  up_to [] i k is l = absurd (omega arith)
  up_to (d ∷ ds) i zero is l =
      let here : i ≡ ruled_pass w = omega arith in
      rw here (by (refuses w (ruled_pass w) d) refl)
    where
      by : (b : Bool) → refuses w (ruled_pass w) d ≡ b → is_some (leads (pass_automaton w).step (ruled_pass w) tt (d ∷ ds)) ≡ not b
      by true is = rw is refl
      by false is = rw is (past ds (ruled_pass w + 1) (omega arith))
  up_to (d ∷ ds) i (suc k) is l = rw (elsewhere w i d (omega arith)) (up_to ds (i + 1) k (omega arith) (omega arith))

-- the rule accepts the plans that do with the pass as the rule asks, and no others
pub pass_rule_means : PassRuleMeans
pass_rule_means w ds l =
    let all = up_to w ds 0 (ruled_pass w) (omega arith) l in
    (λ accepted. says_asked w _ (sym all ∙ accepted), λ does. all ∙ asked_says w _ does)

module _ {T : Type 0} (s : Station) (r : Automaton T) (ps : List Pass) where
  -- which plans are good and accepted doesn't depend on what a pass is worth
  pub steady_by : (i v : ℕ) (ds : Plan) → fits_by s r (with_worth ps i v) ds ≡ fits_by s r ps ds
  steady_by i v ds = ap (λ b. b && accepts r ds) (fits_same s ps i v ds)

  -- and they have a number for each pass
  pub long_by : (ds : Plan) → fits_by s r ps ds ≡ true → length ds ≡ length ps
  long_by ds good = fits_long s ps ds (and_parts (fits s ps ds) _ good).0

-- the plans among which a search by the rule and another looks are the good plans that the other accepts, and that do with the pass as the rule asks
module _ {T : Type 0} (s : Station) (r : Automaton T) (ps : List Pass) (w : PassRule) (within : ruled_pass w < length ps) (v : ℕ) where
  looked_at : (ds : Plan) → fits_by s r ps ds ≡ true → follows ds (ruled_pass w) ≡ forces w → fits_by s (together r (pass_automaton w)) (with_worth ps (ruled_pass w) v) ds ≡ true
  looked_at ds good does =
      let parts = and_parts (fits s ps ds) _ good in
      let long = fits_long s ps ds parts.0 in
      and_from _ _ (fits_same s ps (ruled_pass w) v ds ∙ parts.0)
      (accepted_together r (pass_automaton w) ds ∙ and_from _ _ parts.1 ((pass_rule_means w ds (omega (arith, long))).1 does))

  found_is : (ds : Plan) → fits_by s (together r (pass_automaton w)) (with_worth ps (ruled_pass w) v) ds ≡ true → (fits_by s r ps ds ≡ true) × (follows ds (ruled_pass w) ≡ forces w)
  found_is ds found =
      let parts = and_parts (fits s (with_worth ps (ruled_pass w) v) ds) _ found in
      let good : fits s ps ds ≡ true = sym (fits_same s ps (ruled_pass w) v ds) ∙ parts.0 in
      let long = fits_long s ps ds good in
      let both = and_parts (accepts r ds) _ (sym (accepted_together r (pass_automaton w) ds) ∙ parts.1) in
      (and_from _ _ good both.0, (pass_rule_means w ds (omega (arith, long))).0 both.1)

  -- so what planning by both answers is what was asked for
  pub asked_answered : (room after : Plan) (o : Option ℕ) → PlannedBy (fits_by s (together r (pass_automaton w))) (with_worth ps (ruled_pass w) v) room o after → AskedAnswered (fits_by s r) (forces w) ps (ruled_pass w) v room o after
  asked_answered room after None h = (λ ds good does. both_ways _ (h.0 ds) (looked_at ds good does), h.1)
  asked_answered room after (Some n) h =
      let found = found_is after h.is_good in
      let best : BestAsked (fits_by s r) (forces w) (with_worth ps (ruled_pass w) v) (ruled_pass w) after = record {
        is_good = steady_by s r ps (ruled_pass w) v after ∙ found.0;
        asked = found.1;
        most = λ es good does. rw h.worth at (h.most es (looked_at es (sym (steady_by s r ps (ruled_pass w) v es) ∙ good) does));
      } in
      (asked_at (fits_by s r) ps (ruled_pass w) within (steady_by s r ps (ruled_pass w)) (long_by s r ps) (forces w) v after best, h.worth)

-- the plans that are good by the rule that refuses nothing are the good ones
pub by_anything : (s : Station) → fits_by s anything ≡ fits s
by_anything s = λ t ps ds. same ps ds t
  where
    both : (b : Bool) → (b && true) ≡ b
    both true = refl
    both false = refl

    same : (ps : List Pass) (ds : Plan) → fits_by s anything ps ds ≡ fits s ps ds
    same ps ds = ap (λ b. fits s ps ds && b) (all_accepted ds) ∙ both (fits s ps ds)

module _ (s : Station) (ps : List Pass) where
  -- so a best plan is a best one by that rule
  pub best_by_anything : (ds : Plan) (w : ℕ) → BestPlanWorth s ps ds w → BestBy (fits_by s anything) ps ds w
  unfolding Best
  best_by_anything ds w h =
      subst (λ good. BestBy good ps ds w) (sym (by_anything s)) (record { is_good = h.best.0; worth = h.worth; most = λ es good. rw h.worth (h.best.1 es good) })

  -- and a best one by that rule is a best plan
  pub best_of_all : (ds : Plan) (w : ℕ) → BestBy (fits_by s anything) ps ds w → BestPlanWorth s ps ds w
  unfolding Best
  best_of_all ds w h =
      let best = subst (λ good. BestBy good ps ds w) (by_anything s) h in
      record { best = (best.is_good, λ es good. rw best.worth at (best.most es good)); worth = best.worth }

  -- and what is said of a pass by that rule is the word on it
  pub told_by_anything : (i : ℕ) (n : Needed) → TrueOf (fits_by s anything) (BestOf (fits_by s anything)) ps i n → Told s ps i n
  told_by_anything i (Worth v) h = needed_of_station s ps i v (subst (λ good. NeededWorth (BestOf good) ps i v) (by_anything s) h)
  told_by_anything i Never h = subst (λ good. NoneFollows good ps i) (by_anything s) h

  -- and what is left in the room is what is left there for the good plans
  pub left_by_anything : (i : ℕ) (n : Needed) (room after : Plan) → LeftBy (fits_by s anything) ps i room n after → LeftBy (fits s) ps i room n after
  left_by_anything i n room after h = subst (λ good. LeftBy good ps i room n after) (by_anything s) h
