use Rattle.slewing.proofs.Without.{fits_from_slews}
use Rattle.slewing.proofs.laws.good_without_stands.Goals as goal

pub returns : goal.returns
returns c = fits_from_slews
