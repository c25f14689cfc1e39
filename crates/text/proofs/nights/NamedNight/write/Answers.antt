use Rattle.std.proofs.Common.{string_bytes, append-nil, sym, ap, ◌∙◌}
use Rattle.std.specs.Prelude.{option_map}
use Rattle.passes.specs.Nights.{passes_of}
use Rattle.slewing.specs.Slewings.{directed_of}
use Rattle.text.specs.Reading.{read_text}
use Rattle.text.specs.Writing.{sweeps_each}
use Rattle.text.proofs.RoundTrip.{night_back}
use Rattle.text.proofs.Written.{no_lines}
use Rattle.text.proofs.nights.NamedNight.write.Goals as goal

pub returns-clause-written : goal.returns-clause-written
returns-clause-written c =
    let passes = passes_of c.args.self.now.night in
    let sweeps = sweeps_each (option_map directed_of c.args.self.now.slewing) passes in
    let made = rw (no_lines c.loop-pass.pass c.deref-name-items.result.now passes sweeps c.loop-pass-test.false) at c.loop-pass.invariant in
    sym (append-nil (string_bytes c.loop-pass.text)) ∙ made

pub returns-clause-again : goal.returns-clause-again
returns-clause-again c = ap read_text (returns-clause-written c) ∙ night_back c.args.self.now
