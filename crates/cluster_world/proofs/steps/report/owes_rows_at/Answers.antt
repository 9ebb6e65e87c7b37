use Rattle.cluster_world.proofs.OwedRows.{owes_rows}
use Rattle.cluster_world.proofs.steps.report.owes_rows_at.Goals as goal

pub returns : goal.returns
returns c = owes_rows c.args.to c.args.life.now c.in-Up.node c.in-Up.is c.owes_rows.result c.owes_rows.ensures
