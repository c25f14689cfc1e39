use Rattle.std.proofs.Common.{◌≡◌, ℕ, ◌+◌, List, ◌++◌, append-nil, codes, string_bytes, sym, ap, ◌∙◌, arith, rules}
use Rattle.std.proofs.lemmas.Grind.{common_steps}
use Rattle.reasons.proofs.Joining.{behind, at_end, last_label, other_label, written}
use Rattle.reasons.proofs.wording.write_change.Goals as goal
use Rattle.reasons.proofs.wording.write_change.Goals.{then-i-others, else-i-others}

pub loop-i-preserved : goal.loop-i-preserved
loop-i-preserved c =
    let ls = c.in-Some.others.now in
    let i = c.loop-i.i in
    let t = string_bytes c.loop-i.text in
    let word = c.if-i-others.push_str.now in
    let label = string_bytes c.index-others-i.result in
    let at = c.index-others-i.result in
    let read = λ (w : List ℕ). ap (λ l. w ++ (string_bytes l ++ behind ls (i + 1))) (sym c.index-others-i.is) in
    let added : string_bytes c.push_str-in-loop-i.new.self ≡ (t ++ word) ++ label = search rules in
    let step : behind ls i ≡ word ++ (label ++ behind ls (i + 1)) = elim c.if-i-others.branch [
      | then-i-others w ↦ last_label ls i at (omega arith) ∙ read (codes " and ") ∙ ap (λ b. b.now ++ (label ++ behind ls (i + 1))) (sym w.push_str-is)
      | else-i-others w ↦ other_label ls i at (omega arith) ∙ read (codes ", ") ∙ ap (λ b. b.now ++ (label ++ behind ls (i + 1))) (sym w.push_str-is)
    ] in
    rw added (written t word label (behind ls (i + 1)) _ (rw (← step) c.loop-i.invariant))

pub returns : goal.returns
returns c =
    let ls = c.in-Some.others.now in
    let t = string_bytes c.loop-i.text in
    let so_far = sym (append-nil t) ∙ ap (λ rest. t ++ rest) (sym (at_end ls c.loop-i.i (omega arith))) ∙ c.loop-i.invariant in
    let head : string_bytes c.write.new.self ≡ string_bytes c.args.text.now ++ (c.args.before.now ++ string_bytes c.in-Some.first.now) = search rules in
    rw c.in-Some.ensures.cases.0 (grind (arith, common_steps, so_far, head))
