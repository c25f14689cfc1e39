-- What is gained along a run, and the same over states that carry it. Assumes nothing.
use Rattle.std.proofs.Common.{◌≡◌, ℕ, ◌+◌, ◌-◌, ◌*◌, ◌≤◌, List, [], ◌∷◌, length, Some, None, Option, sym, refl, ap, ◌∙◌, add-zero, add_assoc, add-mul, arith}
use Rattle.std.proofs.lemmas.Bool.{le-ltb, lt-ltb, ltb-false, ltb-true}
use Rattle.std.specs.Option.{option_map, option_map_or, option_and_then}
use Rattle.engine.specs.declared.summed.Tally.{Tally}
use Rattle.engine.specs.Runs.{MoveLaws, leads, Way}
use Rattle.engine.specs.Problems.{Hopeless, Covers, Answered}
use Rattle.engine.specs.Lawful.{mapped_some, tally_move_laws}
use Rattle.engine.proofs.Ways.{fine_along}
use Rattle.engine.specs.Gaining.{Gaining, SumLaws, gained, Bound, KeepsUp, GainAnswered, tally_step, tallied}

module _ {S : Type 0} (g : Gaining S) where
  -- the state with what choices have gained on the way to it
  abbrev pub with_gain : ℕ → S → Tally S
  with_gain n s = record { state = s; gained = n }

  -- choices lead to the same states, with what they gained
  pub tally_leads : (cs : List ℕ) (i : ℕ) (t : Tally S) → leads (tally_step g) i t cs ≡ option_map (with_gain (t.gained + gained g.moves.step g.gain i t.state cs)) (leads g.moves.step i t.state cs)
  unfolding leads gained
  tally_leads [] i t = ap (λ n. Some (with_gain n t.state)) (sym (add-zero t.gained))
  tally_leads (c ∷ cs) i t = by_step (g.moves.step i c t.state) (λ u. tally_leads cs (i + 1) (with_gain (t.gained + g.gain i c t.state) u))
    where
      by_step :
          (o : Option S) →
          ((u : S) → leads (tally_step g) (i + 1) (with_gain (t.gained + g.gain i c t.state) u) cs ≡ option_map (with_gain (t.gained + g.gain i c t.state + gained g.moves.step g.gain (i + 1) u cs)) (leads g.moves.step (i + 1) u cs)) →
          option_and_then (λ u. leads (tally_step g) (i + 1) u cs) (option_map (with_gain (t.gained + g.gain i c t.state)) o)
          ≡ option_map (with_gain (t.gained + (g.gain i c t.state + option_map_or (λ u. gained g.moves.step g.gain (i + 1) u cs) o 0))) (option_and_then (λ u. leads g.moves.step (i + 1) u cs) o)
      by_step None rest = refl
      by_step (Some u) rest = rest u ∙ ap (λ n. option_map (with_gain n) (leads g.moves.step (i + 1) u cs)) (add_assoc t.gained (g.gain i c t.state) (gained g.moves.step g.gain (i + 1) u cs))

  -- a way over states with gains is a way, and ends with what it gained
  pub way_of_tally : (i : ℕ) (t : Tally S) (cs : List ℕ) (e : Tally S) → Way (tallied g).moves i t cs e → Way g.moves i t.state cs e.state × (e.gained ≡ t.gained + gained g.moves.step g.gain i t.state cs)
  way_of_tally i t cs e w =
      let end = mapped_some _ (leads g.moves.step i t.state cs) e (sym (tally_leads cs i t) ∙ w.ends) in
      (record { one_each = w.one_each; ends = end.1 ∙ ap (λ u. Some u.state) (sym end.2) }, ap (λ u. u.gained) end.2)

  pub tally_of_way : (i : ℕ) (t : Tally S) (cs : List ℕ) (e : S) → Way g.moves i t.state cs e → Way (tallied g).moves i t cs (with_gain (t.gained + gained g.moves.step g.gain i t.state cs) e)
  tally_of_way i t cs e w = record { one_each = w.one_each; ends = tally_leads cs i t ∙ ap (option_map _) w.ends }

  -- a bound by which nothing can be gained on the best so far
  pub bound_hopeless : (i : ℕ) (t b : Tally S) (n : ℕ) → Bound g i t.state n → t.gained + n ≤ b.gained → Hopeless (tallied g) i t b
  bound_hopeless i t b n bound low cs e w =
      let way = way_of_tally i t cs e w in
      le-ltb _ _ (omega (arith, bound cs e.state way.0, way.1))

  -- no way on gains more than the most that a choice does, for each stage that is left
  pub most_bound : MoveLaws g.moves → SumLaws g → (i : ℕ) (s : S) → g.moves.fine i s → Bound g i s ((g.moves.stages - i) * g.most)
  most_bound moves sums i s fine cs e w =
      let t = with_gain (i * g.most) s in
      let end = tally_of_way i t cs e w in
      let along = fine_along (tallied g).moves (tally_move_laws g moves sums) cs i t _ (omega (arith, w.one_each)) (fine, omega arith) end.ends in
      let left : g.moves.stages - i ≡ length cs = omega (arith, w.one_each) in
      rw left (omega (arith, along.1, add-mul i (length cs) g.most))

  -- a state with gains covers another if it gains no less from there on, and has gained no less
  pub keeps_up_covers : (i : ℕ) (t u : Tally S) → KeepsUp g i t.state u.state → u.gained ≤ t.gained → Covers (tallied g) i t u
  keeps_up_covers i t u keeps more cs e w =
      let way = way_of_tally i u cs e w in
      let up = keeps cs e.state way.0 in
      (with_gain (t.gained + gained g.moves.step g.gain i t.state cs) up.0, tally_of_way i t cs up.0 up.1, λ s h. lt-ltb _ _ (omega (arith, ltb-true _ _ h, way.1, up.2)))

  -- the best run over states with gains gains the most
  pub gain_answered : (room after : List ℕ) (o : Option (Tally S)) → Answered (tallied g) room o after → GainAnswered g room (option_map (λ t. t.gained) o) after
  gain_answered room after None h = (λ cs e run. h.0 cs _ (tally_of_way 0 _ cs e run), h.1)
  gain_answered room after (Some e) h =
      let way = way_of_tally 0 _ after e h.run in
      record {
        run = (e.state, way.0);
        gains = way.1 ∙ omega arith;
        most = λ ds f run. let other = ltb-false _ _ (h.best ds _ (tally_of_way 0 _ ds f run)) in omega arith;
      }
