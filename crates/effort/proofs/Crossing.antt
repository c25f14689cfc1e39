-- Why lists with such directions are taken. Assumes nothing.
use Rattle.std.proofs.Common.{◌≡◌, ℕ, ◌+◌, ◌*◌, ◌/◌, ◌<◌, ◌≤◌, true, List, length, None, Ok, Err, Result, refl, arith}
use Rattle.std.specs.Prelude.{IsOk, is_none}
use Rattle.std.specs.Result.{result_err}
use Rattle.std.proofs.lemmas.Bool.{le-leb}
use Rattle.std.proofs.lemmas.Bool.Decides.{nat_tests}
use Rattle.passes.specs.Refusals.{refused}
use Rattle.passes.proofs.Fours.{length-passes_in}
use Rattle.slewing.specs.declared.refusals.SlewRefusal.{SlewRefusal}
use Rattle.slewing.specs.Numbers.{sound_sweep, is_around, sweep_at}
use Rattle.slewing.specs.Refusals.{slewing_refused, refused_slewing}
use Rattle.slewing.proofs.Taking.{looked_at, none_at_fault}
use Rattle.effort.specs.Crossings.{CrossingsOf}
use Rattle.effort.proofs.Fronts.{room_taken}

module _ (n : ℕ) (vs : List ℕ) (h : CrossingsOf n vs) where
  -- no more passes are looked at than there are
  as_many : looked_at n vs ≡ n
  as_many = let half : (length vs + 1) / 2 ≡ n = omega (arith, h.count) in rw half (grind (arith, nat_tests))

  sound : (i : ℕ) → i < looked_at n vs → sound_sweep n vs i ≡ true
  unfolding sound_sweep is_around
  sound i l =
      let there : i < n = rw as_many at l in
      let crosses = h.each i there in
      let begin : (sweep_at vs i).begin < 64 = crosses.around in
      let end : (sweep_at vs i).end < 64 = rw crosses.ends (omega arith) in
      let whole : 2 * i + 2 ≤ length vs = omega (arith, h.count) in
      grind (arith, nat_tests)

  pub none_refused : (k : ℕ) → k ≤ 1000000 → slewing_refused n k vs ≡ None
  unfolding slewing_refused
  none_refused k small = rw (le-leb k 1000000 small, none_at_fault n vs sound) refl

-- what is answered there is no refusal
pub no_refusal : {X : Type 0} (turn : ℕ) (xs : List ℕ) (taken : is_none (refused 4 turn xs) ≡ true) (k room : ℕ) (vs : List ℕ) (r : Result X SlewRefusal) →
    CrossingsOf (length xs / 4) vs → k ≤ 1000000 → room ≡ length xs / 4 → result_err r ≡ refused_slewing 4 turn xs room k vs → IsOk r
unfolding refused_slewing
no_refusal turn xs taken k room vs (Ok x) h small one_each told = refl
no_refusal turn xs taken k room vs (Err why) h small one_each told =
    let plain = room_taken turn xs taken room one_each in
    let directed = none_refused (length xs / 4) vs h k small in
    absurd (grind (arith, rw (plain, length-passes_in xs, directed) at told))
