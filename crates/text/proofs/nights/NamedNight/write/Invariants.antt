use Rattle.std.proofs.Common.{◌≡◌, ◌++◌, string_bytes}
use Rattle.passes.specs.Nights.{passes_of}
use Rattle.slewing.specs.Slewings.{directed_of}
use Rattle.std.specs.Prelude.{option_map}
use Rattle.text.specs.Lists.{list_of}
use Rattle.text.specs.Writing.{sweeps_each, written}
use Rattle.text.proofs.Written.{lines_from}
use Rattle.text.proofs.nights.NamedNight.write.Given as goal

-- what is left makes up the text
abbrev pub invariant-loop-pass : goal.invariant-loop-pass
invariant-loop-pass l =
    let passes = passes_of l.self.night in
    string_bytes l.text ++ lines_from l.pass l.name-items passes (sweeps_each (option_map directed_of l.self.slewing) passes) ≡ written (list_of l.self)
