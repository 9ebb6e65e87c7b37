use Rattle.std.proofs.Common.{◌∙◌, sym, refl}
use Rattle.std.proofs.lemmas.Result.{err_from_is_err_and}
use Rattle.node_tickets.specs.Seen.{kind_seen}
use Rattle.whole_node.specs.declared.node.WholeNode.{WholeNode}
use Rattle.whole_node.proofs.LoggedIn.{refused_so, refused_not, refused_works}
use Rattle.whole_node.proofs.node.WholeNode.refuse_read.Goals as goal

pub returns-in_err-ticket-clause-works : goal.returns-in_err-ticket-clause-works
returns-in_err-ticket-clause-works c seen w =
    let old = c.args.self.now in
    let new : WholeNode = record old { mail = c.refuse_read.new.self } in
    refused_works (kind_seen c.args.kind) old new refl refl refl c.in_err-ticket.field-0.0 c.in_err-ticket.ensures seen w
