use Rattle.std.proofs.Common.{◌≡◌, refl, ℕ, ◌+◌, ◌-◌, ◌<◌, length, drop, take, get_or, ⊎_elim, ltb, arith, rules}
use Rattle.std.proofs.lemmas.Bool.{cases_lt, ltb-true, ltb-false}
use Rattle.std.proofs.lemmas.List.{take_rest, length-drop, get_or-drop}
use Rattle.std.proofs.lemmas.List.Sorted.{IsNonDecreasingBy-from_default, IsNonDecreasingBy-drop, IsPartitionPoint-from_clause, IsPartitionedBy-ltb}
use Rattle.passes.specs.Rule.{no_pass, nth}
use Rattle.capacity.proofs.alone.OneDish.next_after.Goals as goal

pub returns : goal.returns
returns c =
    let ps = c.args.self.now.passes.now in
    let in_time = c.args.self.now.in_time in
    let i = c.args.i in
    let n = i + 1 in
    let turned = (nth ps i).to + c.args.self.now.station.turn in
    let ordered = IsNonDecreasingBy-from_default (λ p. p.from) ps no_pass in_time.order in
    let parted = IsPartitionedBy-ltb (λ p. p.from) (drop n ps) turned (IsNonDecreasingBy-drop (λ p. p.from) n ps ordered) in
    let point = IsPartitionPoint-from_clause (λ p. ltb p.from turned) (take (length ps - n) (drop n ps)) _ c.partition_point.ensures.partitioned (rw (take_rest ps n) parted) (λ a r q k. search rules) in
    let point = rw (take_rest ps n) at point in
    let within = rw (take_rest ps n, length-drop n ps) at c.partition_point.ensures.bound in
    let is_behind : (k : ℕ) → i < k → get_or (drop n ps) (k - n) no_pass ≡ nth ps k = (λ k l. let back : n + (k - n) ≡ k = omega (arith, l) in rw (get_or-drop n ps (k - n) no_pass, back) refl) in
    record {
      within = omega (arith, within, c.requires.within);
      before = λ k l. ⊎_elim
          (λ later. rw (is_behind k later) at (ltb-true _ _ (point.0 (k - n) no_pass (omega arith) (omega (arith, l, later)))))
          (λ earlier. omega (arith, in_time.order k i earlier c.requires.within, in_time.ends i c.requires.within))
          (cases_lt i k);
      after = λ k l m. rw (is_behind k (omega (arith, l))) at (ltb-false _ _ (point.1 (k - n) no_pass (omega (arith, l)) (rw (length-drop n ps) (omega (arith, l, m)))));
    }
