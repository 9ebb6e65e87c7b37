use Rattle.std.proofs.Common.{sym, ap, ◌∙◌, subst}
use Rattle.mail_base.specs.declared.item.Item.{Item}
use Rattle.call_tickets.specs.declared.call.Call.{Call}
use Rattle.call_tickets.specs.declared.call.Call.TheVariants.{Strike}
use Rattle.node_store.specs.Disks.{view_of}
use Rattle.node_core.specs.Beginning.{NodeBegins, IsTextEnded, call_seen}
use Rattle.whole_node.proofs.node.WholeNode.begin_mail.Goals as goal

pub returns-in-Deliver-clause-begins : goal.returns-in-Deliver-clause-begins
returns-in-Deliver-clause-begins g c = λ plan own is.
    subst (λ (k : Call). NodeBegins (view_of g.D.Disk.seen g.D.Disk.faults g.D.Disk.clock) plan own c.args.seconds (call_seen k) c.args.self.now.mail c.args.disk.now c.deliver.new.self c.deliver.new.disk c.deliver.result) (sym c.in-Deliver.is)
    (c.deliver.ensures.begins plan own is (subst (λ (k : Call). IsTextEnded (call_seen k)) c.in-Deliver.is c.requires.ended))

pub returns-in-Strike-clause-begins : goal.returns-in-Strike-clause-begins
returns-in-Strike-clause-begins g c = λ plan own is.
    subst (λ (k : Call). NodeBegins (view_of g.D.Disk.seen g.D.Disk.faults g.D.Disk.clock) plan own c.args.seconds (call_seen k) c.args.self.now.mail c.args.disk.now c.strike.new.self c.strike.new.disk c.strike.result)
    (ap (Strike c.in-Strike.user) c.as_slice.ensures ∙ sym c.in-Strike.is)
    (c.strike.ensures.begins plan own c.args.seconds is)
