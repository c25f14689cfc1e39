use Rattle.std.proofs.Common.{arith}
use Rattle.std.proofs.Math.Nat.{div-le_self}
use Rattle.pruning.proofs.auction.mean_price.Goals as goal

pub returns : goal.returns
returns c = omega (arith, div-le_self c.loop-pass.total c.max.result, c.loop-pass.invariant, c.requires.few_passes)
