use Rattle.std.proofs.Common.{◌≡◌, ℕ, ◌<◌, true, length, get_or}
use Rattle.slewing.specs.Numbers.{sound_sweep, sweep_at}
use Rattle.slewing.proofs.Taking.{no_sweep}
use Rattle.slewing.proofs.slewings.Slewing.read.Given as goal

-- the directions of the passes so far are sound, and stand in the room
abbrev pub invariant-loop-i : goal.invariant-loop-i
invariant-loop-i l = (length l.sweeps ≡ 48) × ((k : ℕ) → k < l.i → sound_sweep l.count l.directions k ≡ true) × ((k : ℕ) → k < l.i → get_or l.sweeps k no_sweep ≡ sweep_at l.directions k)
