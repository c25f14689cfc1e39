-- Decisions of which a rule refuses some: their runs are those that the rule accepts. Assumes nothing.
use Rattle.std.proofs.Common.{◌≡◌, ℕ, ◌+◌, true, false, ◌&&◌, List, [], ◌∷◌, Some, None, Option, sym, refl, ap, ◌∙◌, arith}
use Rattle.std.specs.Option.{is_some, option_map}
use Rattle.std.proofs.lemmas.Bool.{ltb-false, and_from, and_parts, both_ways}
use Rattle.engine.specs.declared.rules.Both.{Both}
use Rattle.engine.specs.declared.summed.Tally.{Tally}
use Rattle.engine.specs.Runs.{Step, Moves, leads, Way, Run}
use Rattle.engine.specs.Problems.{Model, Hopeless, Covers, Answered}
use Rattle.engine.specs.Gaining.{Gaining, gained_by, tally_start, tally_step, tallied}
use Rattle.engine.specs.Rules.{Automaton, anything, accepts, Grants, both, both_steps, together, ruled, AcceptedAnswered, RunsAccepted, BestIsAccepted}
use Rattle.engine.specs.RuledLaws.{both_some}
use Rattle.engine.proofs.Leading.{leads_first}
use Rattle.engine.proofs.Tallies.{with_gain, way_of_tally, tally_of_way}

-- there is a value where a test says so
pub some_value : {X : Type 0} (o : Option X) → is_some o ≡ true → (x : X) × (o ≡ Some x)
some_value None there = absurd (both_ways false refl there)
some_value (Some x) there = (x, refl)

-- and none where there is none to be found
no_value : {X : Type 0} (o : Option X) → ((x : X) → o ≡ Some x → ⊥) → is_some o ≡ false
no_value None none = refl
no_value (Some x) none = absurd (none x refl)

module _ {S T : Type 0} (step : Step S) (other : Step T) where
  -- where both steps at once lead, each leads
  pub leads_parts : (cs : List ℕ) (i : ℕ) (b e : Both S T) → leads (both_steps step other) i b cs ≡ Some e → (leads step i b.one cs ≡ Some e.one) × (leads other i b.other cs ≡ Some e.other)
  unfolding leads
  leads_parts [] i b e h = let same : b ≡ e = grind arith in (ap (λ x. Some x.one) same, ap (λ x. Some x.other) same)
  leads_parts (c ∷ cs) i b e h =
      let first = leads_first (both_steps step other) i c cs b e h in
      let here = both_some step other i c b first.0 first.1 in
      let rest = leads_parts cs (i + 1) first.0 e first.2 in
      (rw here.0 rest.0, rw here.1 rest.1)

  -- and where each leads, both at once lead
  pub leads_joined : (cs : List ℕ) (i : ℕ) (b : Both S T) (e : S) (f : T) → leads step i b.one cs ≡ Some e → leads other i b.other cs ≡ Some f → leads (both_steps step other) i b cs ≡ Some (both e f)
  unfolding leads
  leads_joined [] i b e f h k = let here : b.one ≡ e = grind arith in let there : b.other ≡ f = grind arith in λ t. Some (record { one = here t; other = there t })
  leads_joined (c ∷ cs) i b e f h k =
      let first = leads_first step i c cs b.one e h in
      let second = leads_first other i c cs b.other f k in
      rw (first.1, second.1) (leads_joined cs (i + 1) (both first.0 second.0) e f first.2 second.2)

  -- so both at once lead somewhere exactly if each does
  pub some_both : (cs : List ℕ) (i : ℕ) (b : Both S T) → is_some (leads (both_steps step other) i b cs) ≡ (is_some (leads step i b.one cs) && is_some (leads other i b.other cs))
  some_both cs i b = by (leads step i b.one cs) (leads other i b.other cs) refl refl
    where
      by : (o : Option S) (p : Option T) → leads step i b.one cs ≡ o → leads other i b.other cs ≡ p → is_some (leads (both_steps step other) i b cs) ≡ (is_some o && is_some p)
      by None p is is₁ = no_value _ (λ e h. let there : None ≡ Some e.one = sym is ∙ (leads_parts cs i b e h).0 in absurd (grind arith))
      by (Some e) None is is₁ = no_value _ (λ f h. let there : None ≡ Some f.other = sym is₁ ∙ (leads_parts cs i b f h).1 in absurd (grind arith))
      by (Some e) (Some f) is is₁ = ap is_some (leads_joined cs i b e f is is₁)

-- nothing is refused by the rule that refuses nothing
pub all_accepted : (cs : List ℕ) → accepts anything cs ≡ true
unfolding leads
all_accepted cs = from cs 0
  where
    from : (cs : List ℕ) (i : ℕ) → is_some (leads anything.step i tt cs) ≡ true
    from [] i = refl
    from (c ∷ cs) i = from cs (i + 1)

-- two rules together accept what both accept
pub accepted_together : {S T : Type 0} (r : Automaton S) (q : Automaton T) (cs : List ℕ) → accepts (together r q) cs ≡ (accepts r cs && accepts q cs)
accepted_together r q cs = some_both r.step q.step cs 0 (both r.start q.start)

-- and grant what both grant
pub granted_together : {S T : Type 0} (r : Automaton S) (q : Automaton T) (i : ℕ) (a b : Both S T) → Grants r i a.one b.one → Grants q i a.other b.other → Grants (together r q) i a b
granted_together r q i a b one other cs granted =
    let parts = and_parts (is_some (leads r.step i b.one cs)) _ (sym (some_both r.step q.step cs i b) ∙ granted) in
    some_both r.step q.step cs i a ∙ and_from _ _ (one cs parts.0) (other cs parts.1)

module _ {S T : Type 0} (m : Model S) (r : Automaton T) where
  -- a way of the decisions that are left is a way of all
  way_of_ruled : (i : ℕ) (b : Both S T) (cs : List ℕ) (e : Both S T) → Way (ruled m r).moves i b cs e → Way m.moves i b.one cs e.one
  way_of_ruled i b cs e w = record { one_each = w.one_each; ends = (leads_parts m.moves.step r.step cs i b e w.ends).0 }

  -- so where there is no hope for one of all there is none for those that are left
  pub ruled_hopeless : (i : ℕ) (a b : Both S T) → Hopeless m i a.one b.one → Hopeless (ruled m r) i a b
  ruled_hopeless i a b none cs e w = none cs e.one (way_of_ruled i a cs e w)

  -- a state covers another if it does so with all choices, and the rule grants it
  pub ruled_covers : (i : ℕ) (a b : Both S T) → Covers m i a.one b.one → Grants r i a.other b.other → Covers (ruled m r) i a b
  ruled_covers i a b covers grants cs e w =
      let parts = leads_parts m.moves.step r.step cs i b e w.ends in
      let on = covers cs e.one (way_of_ruled i b cs e w) in
      let end = some_value _ (grants cs (ap is_some parts.1)) in
      (both on.0 end.0, record { one_each = w.one_each; ends = leads_joined m.moves.step r.step cs i a on.0 end.0 on.1.ends end.1 }, λ s h. on.2 s.one h)

-- a run that the rule accepts is one of what is left, with what it gained
accepted_run : {S T : Type 0} (g : Gaining S) (r : Automaton T) (cs : List ℕ) (e : S) → Run g.moves cs e → (accepted : accepts r cs ≡ true) → Run (ruled (tallied g) r).moves cs (both (with_gain g (0 + gained_by g cs) e) (some_value (leads r.step 0 r.start cs) accepted).0)
accepted_run g r cs e run accepted =
    let end = some_value (leads r.step 0 r.start cs) accepted in
    let way = tally_of_way g 0 (tally_start g) cs e run in
    record { one_each = run.one_each; ends = leads_joined (tally_step g) r.step cs 0 (both (tally_start g) r.start) _ end.0 way.ends end.1 }

-- the best run of what is left gains the most of the runs that the rule accepts
pub accepted_answered : {S T : Type 0} (g : Gaining S) (r : Automaton T) (room after : List ℕ) (o : Option (Both (Tally S) T)) → Answered (ruled (tallied g) r) room o after → AcceptedAnswered g r room (option_map (λ b. b.one.gained) o) after
accepted_answered g r room after None h = (λ cs e run accepted. h.0 cs _ (accepted_run g r cs e run accepted), h.1)
accepted_answered g r room after (Some e) h =
    let parts = leads_parts (tally_step g) r.step after 0 _ e h.run.ends in
    let way = way_of_tally g 0 _ after e.one (record { one_each = h.run.one_each; ends = parts.0 }) in
    record {
      run = (e.one.state, way.0);
      accepted = ap is_some parts.1;
      gains = way.1 ∙ omega arith;
      most = λ ds f run accepted. let other = ltb-false _ _ (h.best ds _ (accepted_run g r ds f run accepted)) in omega arith;
    }

-- the runs of what is left are the runs that the rule accepts
pub runs_accepted : {S T : Type 0} (v : Moves S) (r : Automaton T) → RunsAccepted v r
runs_accepted v r = record {
  runs = λ cs b run.
      let parts = leads_parts v.step r.step cs 0 (both v.start r.start) b run.ends in
      (record { one_each = run.one_each; ends = parts.0 }, ap is_some parts.1);
  back = λ cs e run accepted.
      let end = some_value (leads r.step 0 r.start cs) accepted in
      (end.0, record { one_each = run.one_each; ends = leads_joined v.step r.step cs 0 (both v.start r.start) e end.0 run.ends end.1 });
}

-- so the best run of what is left is a best one of the runs that the rule accepts
pub best_is_accepted : {S T : Type 0} (m : Model S) (r : Automaton T) → BestIsAccepted m r
best_is_accepted m r cs b best =
    let same = runs_accepted m.moves r in
    let run = same.runs cs b best.run in
    record {
      run = run.0;
      accepted = run.1;
      best = λ ds f other accepted. let there = same.back ds f other accepted in best.best ds (both f there.0) there.1;
    }
