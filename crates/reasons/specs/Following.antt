-- Why a plan follows a pass. Assumes nothing: these are definitions.
use Rattle.std.specs.Prelude.{ℕ, cond, ◌==◌}
use Rattle.reasons.specs.declared.reason.Reason.{Reason}
use Rattle.reasons.specs.declared.reason.Reason.TheVariants.{Followed, WorthNothing}

-- why a plan follows a pass that is worth so much, and so much more than it needs
abbrev pub followed_reason : (worth spare : ℕ) → Reason
followed_reason worth spare = cond (worth == 0) WorthNothing (Followed spare)
