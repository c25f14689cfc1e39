use Rattle.std.proofs.Common.{◌≡◌, ◌∷◌, map, rules}
use Rattle.damage.proofs.Lines.{joined_one_by_one}
use Rattle.damage.proofs.damaging.joined.Goals as goal

-- the first line is written
pub loop-line-init : goal.loop-line-init
loop-line-init c =
    let all : c.args.lines.now ≡ c.in-Some.first.now ∷ c.in-Some.others.now = search rules in
    let first : c.extend_from_slice.new.self.items ≡ c.in-Some.first.now.now = search rules in
    rw (all, first) (joined_one_by_one c.in-Some.first.now.now (map (λ b. b.now) c.in-Some.others.now))
