use Rattle.std.proofs.Common.{◌≡◌, true, false, [], ◌∷◌, ◌++◌, ◌∙◌, slice_index_or, string_bytes, sym, ap, arith, rules}
use Rattle.std.proofs.lemmas.Bool.Decides.{nat_tests}
use Rattle.std.proofs.lemmas.List.{get_or-map}
use Rattle.reasons.specs.Others.{called}
use Rattle.reasons.proofs.Places.{is_other, label_in, one_out}
use Rattle.reasons.proofs.asking.Asking.others_in.Goals as goal
use Rattle.reasons.proofs.asking.Asking.others_in.Goals.{then-k-place+then-plan-k-gt0+then-other-k-eq0+in_ok-from_str+in_ok-push, else-k-place, else-k-place-via-then-k-place+then-plan-k-gt0+else-other-k-eq0, else-k-place-via-then-k-place+else-plan-k-gt0, else-k-place-via-else-k-place}

pub loop-k-preserved : goal.loop-k-preserved
loop-k-preserved g c =
    let a = c.args.self.now in
    let ls = called a.planned.now in
    let p = is_other c.args.place c.args.plan.now c.args.other.now in
    let k = c.loop-k.k in
    elim c.if-k-place.branch [
      | then-k-place+then-plan-k-gt0+then-other-k-eq0+in_ok-from_str+in_ok-push w ↦
          let yes : p k ≡ true = grind (arith, nat_tests) in
          let read = get_or-map string_bytes a.labels.now k w.index-self-k.result [] (omega arith) in
          let label = w.in_ok-from_str.ensures.ok ∙ w.deref.ensures ∙ sym read ∙ ap (λ xs. slice_index_or xs k []) a.labelled in
          let now : w.push.new.self.items ≡ c.loop-k.names.items ++ w.in_ok-from_str.field-0 ∷ [] = search rules in
          rw (w.names-is, now) (label_in ls p k c.loop-k.names.items w.in_ok-from_str.field-0 yes label c.loop-k.invariant)
      | else-k-place w ↦
          let no : p k ≡ false = elim w.else-k-place.branch [
            | else-k-place-via-then-k-place+then-plan-k-gt0+else-other-k-eq0 v ↦ grind (arith, nat_tests)
            | else-k-place-via-then-k-place+else-plan-k-gt0 v ↦ grind (arith, nat_tests)
            | else-k-place-via-else-k-place v ↦ grind (arith, nat_tests)
          ] in
          rw w.names-is (c.loop-k.invariant ∙ sym (one_out ls p k no))
    ]
