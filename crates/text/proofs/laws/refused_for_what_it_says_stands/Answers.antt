use Rattle.text.proofs.Refusing.{refused_for_what_it_says, no_room}
use Rattle.text.proofs.Rules.{rule_is_broken}
use Rattle.text.proofs.laws.refused_for_what_it_says_stands.Goals as goal

pub returns-clause-says : goal.returns-clause-says
returns-clause-says c = refused_for_what_it_says

pub returns-clause-broken : goal.returns-clause-broken
returns-clause-broken c = rule_is_broken

pub returns-clause-no_room : goal.returns-clause-no_room
returns-clause-no_room c = no_room
