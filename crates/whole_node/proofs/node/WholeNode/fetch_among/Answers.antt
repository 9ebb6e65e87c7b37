use Rattle.std.proofs.Common.{ℕ, sym, ap, ◌∙◌}
use Rattle.object_model.specs.Sets.{has}
use Rattle.node_store.specs.Disks.{view_of}
use Rattle.whole_node.proofs.Fetched.{asked_there}
use Rattle.whole_node.proofs.node.WholeNode.fetch_among.Goals as goal

pub returns-clause-fetches : goal.returns-clause-fetches
returns-clause-fetches g c =
    let on = view_of g.D.Disk.seen g.D.Disk.faults g.D.Disk.clock in
    asked_there on c.args.user c.args.id c.args.from c.args.most c.args.asked c.args.ticket c.args.self.now c.args.disk.now c.ask_holder.new.self c.in_ok-letters.letters
    (ap (λ (n : ℕ). has c.args.asked n) (sym c.own.ensures) ∙ sym c.has.ensures ∙ c.if-has.false) c.in_ok-letters.ensures.ok
