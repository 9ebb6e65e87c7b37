use Rattle.cluster_world.proofs.OwedRows.{reports_rows}
use Rattle.cluster_world.proofs.steps.report.reports_at.Goals as goal

pub returns : goal.returns
returns c = reports_rows c.args.to c.args.room c.args.life.now c.in-Up.node c.in-Up.is c.report.result c.report.ensures
