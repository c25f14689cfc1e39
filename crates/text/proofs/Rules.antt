-- The rule that is named is one that the pass breaks. Assumes nothing.
use Rattle.std.proofs.Common.{◌≡◌, ℕ, zero, suc, ◌+◌, ◌-◌, ◌*◌, ◌<◌, ◌≤◌, Bool, true, false, cond, leb, ltb, List, [], ◌∷◌, length, Some, None, Option, Ok, Err, inl, inr, ⊎_elim, refl, sym, ap, subst, ◌∙◌, arith}
use Rattle.std.specs.Prelude.{is_some, option_map, slice_index}
use Rattle.std.proofs.lemmas.Bool.{cases_lt}
use Rattle.std.proofs.lemmas.Bool.Decides.{nat_tests}
use Rattle.std.proofs.lemmas.List.{length-map}
use Rattle.std.proofs.lemmas.Option.{MatchOption-at_some}
use Rattle.passes.specs.declared.refusals.Refusal.TheVariants.{BadDishes, BadTurning, BadPass}
use Rattle.passes.specs.Checks.{dishes_ok, turning_ok, in_range}
use Rattle.passes.specs.Numbers.{begun, in_order, sound, first_fault}
use Rattle.passes.specs.Refusals.{or_else, station_refused, list_refused, refused}
use Rattle.passes.proofs.Taking.{place_is_first}
use Rattle.slewing.specs.declared.refusals.SlewRefusal.TheVariants.{Plain, BadDirections}
use Rattle.slewing.specs.Numbers.{is_around}
use Rattle.slewing.specs.Refusals.{slewing_refused}
use Rattle.text.specs.declared.faults.ListRule.{ListRule}
use Rattle.text.specs.declared.faults.ListRule.TheVariants.{Count, Span, End, Worth, Marks, Order}
use Rattle.text.specs.declared.faults.TurnedAway.TheVariants.{Refused}
use Rattle.text.specs.declared.line.Ends.{Ends}
use Rattle.text.specs.declared.line.Numbers.{Numbers}
use Rattle.text.specs.Drafts.{Draft, Entry, draft_of}
use Rattle.text.specs.Blame.{rule_of_pass, numbers_at, rule_about}
use Rattle.text.specs.Reading.{numbers_of, ends_in, directions_of, read_text}
use Rattle.text.specs.Statements.{RefusedFor, Beyond, Breaks, EachDirected, RuleIsBroken}
use Rattle.text.proofs.Around.{not_around}
use Rattle.text.proofs.FirstFault.{turned}
use Rattle.text.proofs.Fitting.{each_directed}
use Rattle.text.proofs.Refusing.{refused_for_what_it_says, refused_plainly, refused_for_directions}
use Rattle.text.proofs.TakingLists.{fours}
use Rattle.text.proofs.Twos.{twos, stands_at}

-- pass i of what a text says breaks a rule
abbrev Broken : List ℕ → ℕ → ListRule → Type 0
Broken text i rule = (d : Draft) × (draft_of text ≡ Ok d) × (i < length d.entries) × Breaks d.entries i rule

-- the refusal that is for a pass is for the first at fault
pass_of : (a b : Bool) (o : Option ℕ) (i : ℕ) → or_else (cond a (cond b None (Some BadTurning)) (Some BadDishes)) (option_map BadPass o) ≡ Some (BadPass i) → o ≡ Some i
pass_of true true None i e = absurd cc
pass_of true true (Some j) i e = cc
pass_of true false o i e = absurd cc
pass_of false b o i e = absurd cc

fault_of_pass : (k t i : ℕ) (xs : List ℕ) → refused k t xs ≡ Some (BadPass i) → first_fault xs ≡ Some i
unfolding refused station_refused list_refused
fault_of_pass k t i xs e = pass_of (dishes_ok k) (turning_ok t) (first_fault xs) i e

unsound : (xs : List ℕ) (i : ℕ) → first_fault xs ≡ Some i → (i < begun xs) × (sound xs i ≡ false)
unsound xs i e = let first = MatchOption-at_some _ _ i e (place_is_first xs) in (first.0, first.1)

-- the numbers of pass i stand in fours
record Stands (xs : List ℕ) (i : ℕ) (p : Numbers) : Type 0 where
  from : slice_index xs (4 * i) ≡ p.from
  to : slice_index xs (4 * i + 1) ≡ p.to
  worth : slice_index xs (4 * i + 2) ≡ p.worth
  marks : slice_index xs (4 * i + 3) ≡ p.marks

stands : (es : List Entry) (i : ℕ) → i < length es → Stands (numbers_of es) i (numbers_at es i)
stands [] i within = absurd (omega (arith, within))
stands (e ∷ es) zero within = record { from = refl; to = refl; worth = refl; marks = refl }
stands (e ∷ es) (suc i) within =
    let rest = stands es i (omega (arith, within)) in
    let four : (j : ℕ) → slice_index (numbers_of (e ∷ es)) (4 * suc i + j) ≡ slice_index (numbers_of es) (4 * i + j) = λ j. ap (slice_index (numbers_of (e ∷ es))) (next j) in
    record { from = ap (slice_index (numbers_of (e ∷ es))) first ∙ rest.from; to = four 1 ∙ rest.to; worth = four 2 ∙ rest.worth; marks = four 3 ∙ rest.marks }
  where
    next : (j : ℕ) → 4 * suc i + j ≡ suc (suc (suc (suc (4 * i + j))))
    next j = omega arith

    first : 4 * suc i ≡ suc (suc (suc (suc (4 * i))))
    first = omega arith

-- where the numbers of a pass that is at fault break no rule, it begins before the one before it
out_of_order : (xs : List ℕ) (i n : ℕ) (p q : Numbers) → sound xs i ≡ false → i < 48 → i < n → length xs ≡ 4 * n → Stands xs i p → slice_index xs (4 * (i - 1)) ≡ q.from
    → p.from < p.to → p.to ≤ 1000000 → p.worth ≤ 1000000 → p.marks ≤ 15 → (0 < i) × (p.from < q.from)
unfolding sound in_range in_order
out_of_order xs i n p q bad few within long here before span end worth marks =
    let e0 = here.from in
    let e1 = here.to in
    let e2 = here.worth in
    let e3 = here.marks in
    let fits : 4 * i + 4 ≤ length xs = omega (arith, within, long) in
    (grind (arith, nat_tests, bad, few, fits, e0, e1, e2, e3, before, span, end, worth, marks), grind (arith, nat_tests, bad, few, fits, e0, e1, e2, e3, before, span, end, worth, marks))

module _ (es : List Entry) (i : ℕ) (within : i < length es) (bad : sound (numbers_of es) i ≡ false) where
  p : Numbers
  p = numbers_at es i

  by_numbers : i < 48 → (a b c d : Bool) → leb p.to p.from ≡ a → ltb 1000000 p.to ≡ b → ltb 1000000 p.worth ≡ c → ltb 15 p.marks ≡ d → Breaks es i (cond a Span (cond b End (cond c Worth (cond d Marks Order))))
  unfolding p
  by_numbers few true b c d span end worth marks = grind (arith, nat_tests, span)
  by_numbers few false true c d span end worth marks = grind (arith, nat_tests, end)
  by_numbers few false false true d span end worth marks = grind (arith, nat_tests, worth)
  by_numbers few false false false true span end worth marks = grind (arith, nat_tests, marks)
  by_numbers few false false false false span end worth marks =
      let before = (stands es (i - 1) (omega (arith, within))).from in
      out_of_order (numbers_of es) i (length es) (numbers_at es i) (numbers_at es (i - 1)) bad few within (fours es) (stands es i within) before (grind (arith, nat_tests, span)) (grind (arith, nat_tests, end)) (grind (arith, nat_tests, worth)) (grind (arith, nat_tests, marks))

  by_place : (b : Bool) → ltb i 48 ≡ b → Breaks es i (cond b (rule_of_pass (numbers_at es i)) Count)
  unfolding rule_of_pass p
  by_place false far = grind (arith, nat_tests, far)
  by_place true few = by_numbers (grind (arith, nat_tests, few)) _ _ _ _ refl refl refl refl

  broken : Breaks es i (rule_about es (Plain (BadPass i)))
  unfolding rule_about
  broken = by_place (ltb i 48) refl

-- a pass that is refused without directions
plain_broken : (text : List ℕ) (i line : ℕ) (rule : ListRule) → read_text text ≡ Err (Refused (Plain (BadPass i)) line rule) → Broken text i rule
plain_broken text i line rule e =
    let found = refused_for_what_it_says text (Plain (BadPass i)) line rule e in
    let es = found.all.entries in
    let plainly = refused_plainly found.station es (BadPass i) found.applies in
    let fault = unsound (numbers_of es) i (fault_of_pass found.station.dishes found.station.turn i (numbers_of es) plainly) in
    let within : i < length es = omega (arith, fault.0, fours es) in
    (found.all, found.read, within, subst (Breaks es i) (sym found.about) (broken es i within fault.1))

-- numbers that aren't both directions
beyond : (v : Ends) → is_around (record { begin = v.begin; end = v.end }) ≡ false → Beyond (Some v)
unfolding is_around
beyond v h = ⊎_elim (λ (low : v.begin < 64). inr (grind (arith, nat_tests))) (λ high. inl high) (cases_lt v.begin 64)

-- where the station has a step, a pass whose directions are refused has some, and they are beyond
directions_broken : (d : Draft) (k i : ℕ) → EachDirected true d → slewing_refused (length d.entries) k (directions_of d.entries) ≡ Some (BadDirections i)
    → (i < length d.entries) × Breaks d.entries i (rule_about d.entries (BadDirections i))
unfolding rule_about
directions_broken d k i each e =
    let vs = ends_in d.entries in
    let long : length vs ≡ length d.entries = length-map d.entries (λ e. e.pass.directions) in
    let found = not_around (length d.entries) (directions_of d.entries) (twos vs each ∙ ap (λ n. 2 * n) long) k i e in
    let here = stands_at vs i each (omega (arith, found.0, long)) in
    (found.0, subst Beyond (sym here.are) (beyond here.ends (rw (here.begin, here.end) at found.1)))

directed_broken : (text : List ℕ) (i line : ℕ) (rule : ListRule) → read_text text ≡ Err (Refused (BadDirections i) line rule) → Broken text i rule
directed_broken text i line rule e =
    let found = refused_for_what_it_says text (BadDirections i) line rule e in
    by_step found found.station.step refl
  where
    by_step : (found : RefusedFor text (BadDirections i) line rule) (k : Option ℕ) → found.station.step ≡ k → Broken text i rule
    by_step found None is = let f = rw is at (refused_for_directions found.station found.all.entries i found.applies) in absurd cc
    by_step found (Some k) is =
        let f = rw is at (refused_for_directions found.station found.all.entries i found.applies) in
        let each = subst (λ b. EachDirected b found.all) (ap is_some is) (each_directed text found.all found.station found.read found.says) in
        let here = directions_broken found.all k i each f in
        (found.all, found.read, here.0, subst (Breaks found.all.entries i) (sym found.about) here.1)

pub rule_is_broken : RuleIsBroken
rule_is_broken text why i line rule (inl plain) e = plain_broken text i line rule (e ∙ ap (λ w. turned (Refused w line rule)) plain)
rule_is_broken text why i line rule (inr directed) e = directed_broken text i line rule (e ∙ ap (λ w. turned (Refused w line rule)) directed)
