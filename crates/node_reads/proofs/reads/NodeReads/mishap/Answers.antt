use Rattle.std.proofs.Common.{◌≡◌, ℕ, refl, sym, ap, subst}
use Rattle.std.specs.FinMap as fin
use Rattle.object_model.specs.Letters.{Number}
use Rattle.node_tickets.specs.Seen.{kind_of_mishap}
use Rattle.node_reads.specs.Readings.{listed}
use Rattle.node_reads.specs.Tickets.{did_if_stands, ticket_befell}
use Rattle.node_reads.specs.Tables.{reads_in}
use Rattle.node_reads.proofs.Lifts.{befalls_own, befalls_other}
use Rattle.node_reads.proofs.reads.NodeReads.mishap.Goals as goal

pub returns-then-not-is_own-clause-did : goal.returns-then-not-is_own-clause-did
returns-then-not-is_own-clause-did c = befalls_other c.args.self.now c.args.epoch c.args.ticket (sym c.if-not-is_own.ensures) (kind_of_mishap c.args.kind) c.args.at

pub returns-clause-did : goal.returns-clause-did
returns-clause-did c =
    let old = c.args.self.now in
    befalls_own old (record old { entries = c.befell_at.new.entries }) refl c.args.epoch c.args.ticket (sym c.if-not-is_own.ensures) (kind_of_mishap c.args.kind) c.args.at (listed c.befell_at.result)
    (subst (λ (s : ℕ). did_if_stands (ticket_befell (record { own = old.own; epoch = c.args.epoch; number = c.args.ticket }) (kind_of_mishap c.args.kind) c.args.at) (reads_in old) s (fin.get (reads_in old) s) ≡ record { reads = reads_in (record old { entries = c.befell_at.new.entries }); out = listed c.befell_at.result })
    (ap (λ (n : Number). n.seq) c.ticket.view_is) c.befell_at.ensures)
