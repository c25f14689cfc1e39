use Rattle.std.proofs.Common.{◌≡◌, ℕ, ◌+◌, ◌++◌, arith, subst}
use Rattle.std.specs.Prelude.{string_bytes}
use Rattle.passes.specs.Rule.{says}
use Rattle.drawing.specs.Shown.{view}
use Rattle.drawing.specs.Drawings.{pass_group, pass_drawn}
use Rattle.drawing.proofs.Pieces.{one_more_piece}
use Rattle.drawing.proofs.picture.Picture.push_passes.Goals as goal

pub loop-place-preserved : goal.loop-place-preserved
loop-place-preserved c =
    let shown = view c.args.self.now in
    let place = c.loop-place.place in
    let same : 0 + place ≡ place = omega arith in
    let drawn : string_bytes c.push_pass.new.out ≡ string_bytes c.loop-place.out ++ pass_drawn shown c.args.levels.now place =
    subst (λ (row : ℕ). string_bytes c.push_pass.new.out ≡ string_bytes c.loop-place.out ++ pass_group shown (says shown.plan place) row place) c.row_of-row.ensures.value c.in_ok-push_pass.ensures in
    one_more_piece (pass_drawn shown c.args.levels.now) 0 place place _ _ _ same c.loop-place.invariant drawn
