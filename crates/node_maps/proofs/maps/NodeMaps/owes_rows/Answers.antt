use Rattle.std.proofs.Common.{◌≡◌, ◌↔◌, None, sym, ap, ◌∙◌, subst}
use Rattle.std.specs.Prelude.{IsTrue}
use Rattle.std.specs.Option.{option_copied}
use Rattle.object_model.specs.Letters.{Membership}
use Rattle.map_rebuild.specs.Rows.{ManagesMarked}
use Rattle.node_maps.proofs.Named.{rows_for, no_rows}
use Rattle.node_maps.proofs.maps.NodeMaps.owes_rows.Goals as goal

pub returns-in-Some : goal.returns-in-Some
returns-in-Some c = rows_for c.args.self.now c.in-Some.install.now c.args.to c.is_due.result (sym c.in-Some.ensures)
    (subst (λ (m : Membership). IsTrue c.is_due.result ↔ ManagesMarked m.map c.args.to c.args.self.now.reports) c.install.view_is c.is_due.ensures.due)

pub returns-in-None : goal.returns-in-None
returns-in-None c =
    let none : c.args.self.now.group.installed ≡ None = sym c.installed.ensures ∙ ap option_copied c.in-None.is in
    no_rows c.args.self.now c.args.to none
