use Rattle.std.proofs.Common.{◌≡◌, [], ◌∷◌, ◌++◌, map, drop, length, string_bytes, ap, ◌∙◌, rules, arith}
use Rattle.std.proofs.lemmas.List.{take_at, length-append}
use Rattle.reasons.specs.Others.{called}
use Rattle.reasons.specs.TrueReasons.{TrueReason}
use Rattle.reasons.proofs.Lengths.{labels_long}
use Rattle.reasons.proofs.OneByOne.{each_more}
use Rattle.reasons.proofs.explaining.reasons_by.Goals as goal

pub invariant_of-asking : goal.invariant_of-asking
invariant_of-asking g c =
    let p = c.args.planned.now in
    let labelled : map string_bytes c.deref.result.now ≡ called p = search rules in
    record { same = search rules; labelled = labelled; agrees = c.requires.agrees; one_each = labels_long p c.deref.result.now labelled }

pub loop-place-preserved : goal.loop-place-preserved
loop-place-preserved g c =
    let before = c.loop-place.reasons.items in
    let now : c.push.new.self.items ≡ before ++ c.in_ok-reason.field-0 ∷ [] = search rules in
    let kept = take_at c.reason.new.room (drop (length c.reason.new.room) c.loop-place.room.items) c.loop-place.room.len (search rules) in
    record {
      so_far = rw (now, length-append) (omega (arith, c.loop-place.invariant.so_far));
      each =
          rw now (each_more (TrueReason c.args.planned.now) before c.in_ok-reason.field-0 c.loop-place.invariant.each
          (rw c.loop-place.invariant.so_far c.in_ok-reason.ensures));
      room = ap length kept ∙ c.reason.auto.room ∙ ap length c.deref_mut.ensures.value ∙ c.loop-place.invariant.room;
    }
