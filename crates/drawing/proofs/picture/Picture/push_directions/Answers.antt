use Rattle.drawing.specs.Drawings.{directions_told}
use Rattle.drawing.proofs.picture.Picture.push_directions.Goals as goal

pub returns-in-Some : goal.returns-in-Some
unfolding directions_told
returns-in-Some c = rw (c.in-Some.is, ← c.sweeps.ensures) c.write.ensures.bytes
