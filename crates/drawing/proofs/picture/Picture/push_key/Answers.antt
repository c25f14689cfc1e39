use Rattle.std.proofs.Common.{◌≡◌, ℕ, ◌+◌, ◌++◌, arith, length, subst}
use Rattle.std.specs.Prelude.{string_bytes}
use Rattle.std.specs.List.{flat_map, range_with_len}
use Rattle.drawing.specs.Shown.{view}
use Rattle.drawing.specs.Timelines.{key_head, key_line}
use Rattle.drawing.proofs.Pieces.{one_more_piece, after_first_part}
use Rattle.drawing.proofs.picture.Picture.push_key.Goals as goal

pub loop-place-preserved : goal.loop-place-preserved
loop-place-preserved c =
    let same : 0 + c.loop-place.place ≡ c.loop-place.place = omega arith in
    one_more_piece (key_line (view c.args.self.now) c.label_width-width.result) 0 c.loop-place.place c.loop-place.place _ _ _ same c.loop-place.invariant c.in_ok-push_key_line.ensures

pub returns : goal.returns
returns c =
    let width = c.label_width-width.result in
    let line = key_line (view c.args.self.now) width in
    let all : c.loop-place.place ≡ length c.args.self.now.passes.now = omega arith in
    let lines = subst (λ (k : ℕ). string_bytes c.loop-place.out ≡ string_bytes c.push_key_head.new.out ++ flat_map line (range_with_len 0 k)) all c.loop-place.invariant in
    subst
    (λ (w : ℕ). string_bytes c.loop-place.out ≡ string_bytes c.args.out.now ++ (key_head w ++ flat_map (key_line (view c.args.self.now) w) (range_with_len 0 (length c.args.self.now.passes.now))))
    c.label_width-width.ensures
    (after_first_part (key_head width) (flat_map line (range_with_len 0 (length c.args.self.now.passes.now))) _ _ _ c.in_ok-push_key_head.ensures lines)
