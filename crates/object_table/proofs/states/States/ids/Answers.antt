use Rattle.std.proofs.lemmas.Result.{IfOk-weaker}
use Rattle.object_table.specs.Mailboxes.{AreHere, least_id, greatest_id}
use Rattle.object_table.proofs.Mailboxes.{are_here, forward_at, message_is}
use Rattle.object_table.proofs.states.States.ids.Goals as goal

pub here_between-requires : goal.here_between-requires
here_between-requires c =
    forward_at c.args.user.now _ _ (message_is c.in_ok-copy.field-0 c.args.user.now c.id_of.result least_id c.in_ok-copy.ensures c.id_of.ensures)
    (message_is c.in_ok-copy-2.field-0 c.args.user.now c.id_of-2.result greatest_id c.in_ok-copy-2.ensures c.id_of-2.ensures)

pub returns : goal.returns
returns c = IfOk-weaker c.here_between.result _ (λ ids. AreHere c.args.user.now c.args.self.now ids)
    (λ ids is. are_here c.self.inside.held c.args.self.now c.args.user.now _ _ ids c.self.view_is c.here_between.ensures.ordered
    (message_is c.in_ok-copy.field-0 c.args.user.now c.id_of.result least_id c.in_ok-copy.ensures c.id_of.ensures)
    (message_is c.in_ok-copy-2.field-0 c.args.user.now c.id_of-2.result greatest_id c.in_ok-copy-2.ensures c.id_of-2.ensures) is) c.here_between.ensures.ids
