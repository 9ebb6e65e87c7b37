use Rattle.std.proofs.Common.{◌↔◌, Bool, sym, subst}
use Rattle.std.specs.Prelude.{IsTrue}
use Rattle.map_rebuild.specs.Rows.{ManagesMarked}
use Rattle.map_rebuild.proofs.Listed.{due_is}
use Rattle.map_rebuild.proofs.reports.Reports.is_due.Goals as goal

pub returns-clause-due : goal.returns-clause-due
returns-clause-due c = subst (λ (b : Bool). IsTrue b ↔ ManagesMarked c.args.map.now c.args.to c.args.self.now) (sym c.any_due_in.ensures) (due_is c.args.map.now c.args.to c.args.self.now)
