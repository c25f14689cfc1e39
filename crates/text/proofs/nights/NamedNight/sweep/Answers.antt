use Rattle.std.proofs.Common.{None, get_or, sym, ap, ◌∙◌}
use Rattle.std.specs.Prelude.{option_map}
use Rattle.passes.specs.Nights.{passes_of}
use Rattle.slewing.specs.Slewings.{directed_of}
use Rattle.text.specs.Writing.{sweeps_each}
use Rattle.text.proofs.Written.{none_at}
use Rattle.text.proofs.nights.NamedNight.sweep.Goals as goal

pub returns-in-None : goal.returns-in-None
returns-in-None c =
    let passes = passes_of c.args.self.now.night in
    sym (ap (λ v. get_or (sweeps_each (option_map directed_of v) passes) c.args.pass None) c.in-None.is ∙ none_at passes c.args.pass)
