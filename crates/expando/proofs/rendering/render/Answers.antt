use Rattle.expando.proofs.Fitting.{line_fits, line_plain}
use Rattle.expando.proofs.rendering.render.Goals as goal

pub returns-clause-fits : goal.returns-clause-fits
returns-clause-fits g c =
    line_fits c.args.cols (g.V.Values.texts c.args.values.now) c.args.format.now

pub returns-clause-plain : goal.returns-clause-plain
returns-clause-plain g c =
    line_plain c.args.cols (g.V.Values.texts c.args.values.now) c.args.format.now
