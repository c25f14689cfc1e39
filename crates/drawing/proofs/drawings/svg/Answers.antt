use Rattle.drawing.specs.Shown.{shown_of}
use Rattle.drawing.proofs.Plans.{lanes_there}
use Rattle.drawing.proofs.Within.{in_lanes}
use Rattle.drawing.proofs.drawings.svg.Goals as goal

pub returns-in_err-labels-clause-there : goal.returns-in_err-labels-clause-there
returns-in_err-labels-clause-there c = lanes_there c.args.planned.now

pub returns-clause-there : goal.returns-clause-there
returns-clause-there c = lanes_there c.args.planned.now

pub returns-in_err-labels-clause-lane : goal.returns-in_err-labels-clause-lane
returns-in_err-labels-clause-lane c = in_lanes (shown_of c.args.planned.now)

pub returns-clause-lane : goal.returns-clause-lane
returns-clause-lane c = in_lanes (shown_of c.args.planned.now)
