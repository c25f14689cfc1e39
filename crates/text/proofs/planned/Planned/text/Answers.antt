use Rattle.std.proofs.Common.{◌≡◌, ◌++◌, ◌∙◌, map, codes, string_bytes, ap, refl, arith, rules}
use Rattle.std.proofs.lemmas.Grind.{common_steps}
use Rattle.std.proofs.lemmas.Slice.{pushed}
use Rattle.text.specs.PlanText.{row}
use Rattle.text.proofs.Ends.{range_more}
use Rattle.text.proofs.PlanLines.{all_lines}
use Rattle.text.proofs.planned.Planned.text.Goals as goal

pub loop-dish-preserved : goal.loop-dish-preserved
loop-dish-preserved c =
    let more = range_more 0 c.loop-dish.dish-counter c.loop-dish.dish-counter (omega arith) in
    grind (arith, common_steps)

pub returns : goal.returns
returns c =
    let labels = c.in_ok-labels.labels.items in
    let plan = c.args.self.now.plan.items in
    let end : c.loop-dish.dish-counter ≡ c.args.self.now.night.night.station.dishes = search rules in
    let told = rw end at c.loop-dish.invariant in
    let head : string_bytes c.push_str.new.self ≡ string_bytes c.loop-dish.text ++ codes "not followed:" = pushed (codes "not followed:") refl c.in_ok-push_str.was c.push_str.ensures.bytes in
    let left : string_bytes c.write_row-2.new.text ≡ string_bytes c.push_str.new.self ++ row 0 (map string_bytes labels) plan = search rules in
    let all : string_bytes c.push-2.new.self ≡ string_bytes c.write_row-2.new.text ++ codes "\n" = search rules in
    let lines = all ∙ ap (λ t. t ++ codes "\n") (left ∙ ap (λ t. t ++ row 0 (map string_bytes labels) plan) head) in
    rw (← c.in_ok-labels.ensures) (lines ∙ all_lines (map string_bytes labels) plan _ c.args.self.now.worth _ told)
