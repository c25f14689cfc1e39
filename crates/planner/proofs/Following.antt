-- The decisions of a night, pass by pass, and what they gain. Assumes nothing.
use Rattle.std.proofs.Common.{◌≡◌, ℕ, zero, suc, ◌+◌, ◌≤◌, cond, eqb, List, [], ◌∷◌, length, drop, replicate, sum_by, Some, None, Option, sym, refl, ap, arith}
use Rattle.std.proofs.lemmas.List.{drop_more, length-replicate}
use Rattle.std.proofs.lemmas.Option.{option_and_then_some}
use Rattle.std.specs.Option.{option_and_then, IsSome}
use Rattle.std.proofs.lemmas.List.Sums.{sum_by-cons}
use Rattle.std.proofs.lemmas.Bool.Decides.{nat_tests}
use Rattle.engine.specs.Runs.{leads, Run}
use Rattle.engine.specs.Gaining.{gained, Bound, GainAnswered}
use Rattle.engine.proofs.Leading.{leads_first}
use Rattle.passes.specs.declared.model.Pass.{Pass}
use Rattle.passes.specs.Plans.{Plan, worth_of}
use Rattle.passes.specs.Rule.{no_pass, nth}
use Rattle.planner.specs.declared.scheduling.FreeFrom.{FreeFrom}
use Rattle.planner.specs.Nights.{decide, night}

worth_none : (ps : List Pass) → worth_of ps [] ≡ 0
unfolding worth_of
worth_none [] = refl
worth_none (p ∷ ps) = refl

module _ (turns : List ℕ) where
  -- where the numbers of a plan lead, over a list of passes
  unfoldable pub follow : List Pass → FreeFrom → Plan → Option FreeFrom
  follow ps s [] = Some s
  follow [] s (d ∷ ds) = None
  follow (p ∷ ps) s (d ∷ ds) = option_and_then (λ t. follow ps t ds) (decide turns p d s)

  -- the first number, and where the others lead from there
  pub follow_first : (p : Pass) (ps : List Pass) (d : ℕ) (ds : Plan) (s e : FreeFrom) → follow (p ∷ ps) s (d ∷ ds) ≡ Some e → (t : FreeFrom) × (decide turns p d s ≡ Some t) × (follow ps t ds ≡ Some e)
  unfolding follow
  follow_first p ps d ds s e h = option_and_then_some _ (decide turns p d s) e h (λ t is then. (t, is, then))

  -- the night's choices lead there too
  pub leads_follow : (ps : List Pass) (ds : Plan) (i : ℕ) (s : FreeFrom) → i + length ds ≤ length ps → leads (night turns ps).moves.step i s ds ≡ follow (drop i ps) s ds
  unfolding leads follow
  leads_follow ps [] i s l = refl
  leads_follow ps (d ∷ ds) i s l = rw (drop_more ps i no_pass (omega arith)) (by_decision (decide turns (nth ps i) d s) (λ t. leads_follow ps ds (i + 1) t (omega arith)))
    where
      by_decision : (o : Option FreeFrom) → ((t : FreeFrom) → leads (night turns ps).moves.step (i + 1) t ds ≡ follow (drop (i + 1) ps) t ds) → option_and_then (λ t. leads (night turns ps).moves.step (i + 1) t ds) o ≡ option_and_then (λ t. follow (drop (i + 1) ps) t ds) o
      by_decision None rest = refl
      by_decision (Some t) rest = rest t

  -- nothing need be followed
  idle : (ps : List Pass) (n i : ℕ) (s : FreeFrom) → leads (night turns ps).moves.step i s (replicate n 0) ≡ Some s
  unfolding leads
  idle ps zero i s = refl
  idle ps (suc n) i s = idle ps n (i + 1) s

  pub idle_run : (ps : List Pass) → Run (night turns ps).moves (replicate (length ps) 0) (night turns ps).moves.start
  idle_run ps = record { one_each = omega (arith, length-replicate {A = ℕ} (length ps) 0); ends = idle ps (length ps) 0 (night turns ps).moves.start }

  -- so something is answered
  pub some_gain : (ps : List Pass) (room after : List ℕ) (gain : Option ℕ) → GainAnswered (night turns ps) room gain after → IsSome gain
  some_gain ps room after None h = absurd (h.0 _ _ (idle_run ps))
  some_gain ps room after (Some n) h = refl

  -- a plan gains what it is worth
  pub gained_worth : (ps : List Pass) (ds : Plan) (i : ℕ) (s e : FreeFrom) → i + length ds ≤ length ps → leads (night turns ps).moves.step i s ds ≡ Some e → gained (night turns ps).moves.step (night turns ps).gain i s ds ≡ worth_of (drop i ps) ds
  unfolding gained worth_of
  gained_worth ps [] i s e l h = sym (worth_none (drop i ps))
  gained_worth ps (d ∷ ds) i s e l h =
      let first = leads_first (night turns ps).moves.step i d ds s e h in
      rw (first.1, drop_more ps i no_pass (omega arith)) (ap (λ n. cond (eqb d 0) 0 (nth ps i).worth + n) (gained_worth ps ds (i + 1) first.0 e (omega arith) first.2))

-- what the passes of a list are worth together
abbrev all_worth : List Pass → ℕ
all_worth ps = sum_by (λ p. p.worth) ps

-- no plan is worth more than all passes together
pub worth_at_most : (ps : List Pass) (ds : Plan) → worth_of ps ds ≤ all_worth ps
unfolding worth_of
worth_at_most [] ds = omega arith
worth_at_most (p ∷ ps) [] = omega arith
worth_at_most (p ∷ ps) (d ∷ ds) =
    let rest = worth_at_most ps ds in
    let all = sum_by-cons (λ (q : Pass). q.worth) p ps in
    grind (arith, nat_tests)

-- so that is a bound
pub bound_all : (turns : List ℕ) (ps : List Pass) (i : ℕ) (s : FreeFrom) (n : ℕ) → n ≡ all_worth (drop i ps) → Bound (night turns ps) i s n
bound_all turns ps i s n is cs e w = omega (arith, gained_worth turns ps cs i s e (omega (arith, w.one_each)) w.ends, worth_at_most (drop i ps) cs)
