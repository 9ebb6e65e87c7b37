use Rattle.std.proofs.Common.{◌≡◌, ℕ, [], refl, sym, ap, subst}
use Rattle.mail_base.specs.Bodies.{part_seen}
use Rattle.std.specs.FinMap as fin
use Rattle.object_model.specs.Letters.{Number}
use Rattle.object_model.specs.Letters.Body.{FetchTold}
use Rattle.node_reads.specs.Tickets.{did_if_stands, ticket_told}
use Rattle.node_reads.specs.Tables.{reads_in}
use Rattle.node_reads.proofs.Lifts.{hears_own, hears_other}
use Rattle.node_reads.proofs.reads.NodeReads.hear_part.Goals as goal

pub returns-then-not-is_own-clause-did : goal.returns-then-not-is_own-clause-did
returns-then-not-is_own-clause-did c = λ epoch mine. hears_other c.args.self.now epoch c.args.ticket (sym c.if-not-is_own.ensures) c.args.from (FetchTold (part_seen c.args.part)) mine

pub returns-clause-did : goal.returns-clause-did
returns-clause-did c = λ epoch mine.
    let old = c.args.self.now in
    hears_own old (record old { entries = c.part_at.new.entries }) refl epoch c.args.ticket (sym c.if-not-is_own.ensures) c.args.from (FetchTold (part_seen c.args.part)) mine []
    (subst (λ (s : ℕ). did_if_stands (ticket_told (record { own = old.own; epoch = epoch; number = c.args.ticket }) c.args.from mine (FetchTold (part_seen c.args.part))) (reads_in old) s (fin.get (reads_in old) s) ≡ record { reads = reads_in (record old { entries = c.part_at.new.entries }); out = [] })
    (ap (λ (n : Number). n.seq) c.ticket.view_is) (c.part_at.ensures (record { own = old.own; epoch = epoch; number = c.args.ticket }) mine))
