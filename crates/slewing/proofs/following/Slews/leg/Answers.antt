use Rattle.std.proofs.Common.{refl}
use Rattle.std.proofs.lemmas.Option.{slice_get_past, slice_get_read}
use Rattle.slewing.proofs.Legs.{leg_at}
use Rattle.slewing.proofs.following.Slews.leg.Goals as goal

pub returns-in_err-pass : goal.returns-in_err-pass
returns-in_err-pass c =
    let r = c.args.self.now in
    let none = slice_get_past r.passes.now c.args.place c.in_err-pass.ensures.lookup.3 in
    rw (leg_at r.passes.now r.sweeps.now c.args.place, none, c.from_residual.ensures) refl

pub returns-in_err-sweep : goal.returns-in_err-sweep
returns-in_err-sweep c =
    let r = c.args.self.now in
    let pass = c.in_ok-pass.ensures.lookup in
    let there = slice_get_read r.passes.now _ c.args.place c.in_ok-pass.field-0.now refl pass.3.0 pass.1 in
    let none = slice_get_past r.sweeps.now c.args.place c.in_err-sweep.ensures.lookup.3 in
    rw (leg_at r.passes.now r.sweeps.now c.args.place, there, none, c.from_residual-in_err-sweep.ensures) refl

pub returns : goal.returns
returns c =
    let r = c.args.self.now in
    let pass = c.in_ok-pass.ensures.lookup in
    let sweep = c.in_ok-sweep.ensures.lookup in
    let there = slice_get_read r.passes.now _ c.args.place c.in_ok-pass.field-0.now refl pass.3.0 pass.1 in
    let there₁ = slice_get_read r.sweeps.now _ c.args.place c.in_ok-sweep.field-0.now refl sweep.3.0 sweep.1 in
    rw (leg_at r.passes.now r.sweeps.now c.args.place, there, there₁) refl
