use Rattle.std.proofs.Common.{length, replicate, refl, arith}
use Rattle.std.proofs.lemmas.List.{length-replicate}
use Rattle.passes.specs.Numbers.{passes_in}
use Rattle.passes.specs.Refusals.{number_of}
use Rattle.passes.proofs.Taking.{refused_anyway}
use Rattle.planner.specs.declared.planning.Done.TheVariants.{Refused}
use Rattle.trials.proofs.trying.try_case.Goals as goal

pub returns-in_default : goal.returns-in_default
returns-in_default c =
    let why = c.in_default.field-0 in
    let told = rw c.as_slice.ensures.value at c.in_default.ensures.refusal in
    let count = length (passes_in c.args.case.now.numbers.items) in
    let room = replicate count 0 in
    record {
      room = room;
      one_each = length-replicate count 0;
      done = Refused (number_of why);
      plan = room;
      came = rw (← refused_anyway _ _ _ (length room) why told) (refl, refl);
      says = λ _ right. absurd (grind (arith, right.1));
    }
