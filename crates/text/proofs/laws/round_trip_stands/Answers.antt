use Rattle.text.proofs.RoundTrip.{round_trip}
use Rattle.text.proofs.laws.round_trip_stands.Goals as goal

pub returns : goal.returns
returns c = round_trip
