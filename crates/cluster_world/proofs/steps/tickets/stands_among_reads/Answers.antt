use Rattle.std.proofs.Common.{◌≡◌, ◌∙◌, ℕ, true, sym, ap, is_some, Some}
use Rattle.login_model.specs.Rules.{read_at}
use Rattle.joint_model.specs.Joint.{read_node}
use Rattle.object_model.specs.Letters.{Number}
use Rattle.whole_node.specs.Nodes.{joint_seen}
use Rattle.whole_node.specs.ReadTickets.{reading_standing}
use Rattle.whole_node.specs.declared.node.WholeNode.{WholeNode}
use Rattle.cluster_world.specs.Telling.{reading_on}
use Rattle.cluster_world.specs.declared.life.Life.{Life}
use Rattle.cluster_world.proofs.Turning.{up_same}
use Rattle.cluster_world.proofs.steps.tickets.stands_among_reads.Goals as goal

pub returns : goal.returns
returns c =
    let node = c.in-Up.node in
    let same : c.requires.up.node ≡ node = up_same c.requires.up.node node (sym c.requires.up.up ∙ c.in-Up.is) in
    let own : node.mail.store.own ≡ c.args.ticket.now.node = ap (λ (n : WholeNode). n.mail.store.own) (sym same) ∙ c.requires.up.own_is in
    c.reads_stand.ensures
    ∙ ap (λ (t : Number). is_some (reading_standing node t)) c.ticket_of.ensures
    ∙ ap (λ (n : ℕ). is_some (read_at n (read_node true (joint_seen node)) (Some c.args.ticket.now))) own
    ∙ ap (λ (l : Life). is_some (reading_on (Some l) c.args.ticket.now)) (sym c.in-Up.is)
