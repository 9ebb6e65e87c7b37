use Rattle.std.proofs.Common.{◌≡◌, None, sym, ap, ◌∙◌}
use Rattle.std.specs.Option.{option_copied}
use Rattle.node_maps.proofs.Calls.{reports_as}
use Rattle.node_maps.proofs.Named.{not_both}
use Rattle.node_maps.proofs.maps.NodeMaps.report.Goals as goal

pub returns-in-Some-clause-reports : goal.returns-in-Some-clause-reports
returns-in-Some-clause-reports c = reports_as c.args.self.now c.in-Some.install.now c.args.to c.args.most c.reports_in.result (sym c.in-Some.ensures) c.requires c.reports_in.ensures.letters

pub returns-in-Some-clause-in_order : goal.returns-in-Some-clause-in_order
returns-in-Some-clause-in_order c = λ membership installed. c.reports_in.ensures.in_order

pub returns-in-None-clause-in_order : goal.returns-in-None-clause-in_order
returns-in-None-clause-in_order c =
    let none : c.args.self.now.group.installed ≡ None = sym c.installed.ensures ∙ ap option_copied c.in-None.is in
    λ membership installed. not_both c.args.self.now.group.installed membership none installed
