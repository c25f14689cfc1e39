use Rattle.drawing.proofs.Plans.{lanes_there, planned_letters, planned_fits}
use Rattle.drawing.proofs.timelines.timeline.Goals as goal

pub returns-in_err-labels-clause-drawn : goal.returns-in_err-labels-clause-drawn
returns-in_err-labels-clause-drawn c = planned_letters c.args.planned.now

pub returns-in_err-labels-clause-fit : goal.returns-in_err-labels-clause-fit
returns-in_err-labels-clause-fit c = planned_fits c.args.planned.now

pub returns-clause-drawn : goal.returns-clause-drawn
returns-clause-drawn c = planned_letters c.args.planned.now

pub returns-clause-fit : goal.returns-clause-fit
returns-clause-fit c = planned_fits c.args.planned.now

pub returns-in_err-labels-clause-there : goal.returns-in_err-labels-clause-there
returns-in_err-labels-clause-there c = lanes_there c.args.planned.now

pub returns-clause-there : goal.returns-clause-there
returns-clause-there c = lanes_there c.args.planned.now
