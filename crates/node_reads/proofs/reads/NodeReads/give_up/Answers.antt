use Rattle.std.proofs.Common.{◌≡◌, ℕ, refl, sym, ap, subst}
use Rattle.std.specs.FinMap as fin
use Rattle.object_model.specs.Letters.{Number}
use Rattle.node_reads.specs.Tickets.{taken_if_stands, letters_given_up}
use Rattle.node_reads.specs.Tables.{reads_in}
use Rattle.node_reads.specs.Readings.{listed}
use Rattle.node_reads.proofs.Lifts.{gives_up_own, gives_up_other}
use Rattle.node_reads.proofs.reads.NodeReads.give_up.Goals as goal

pub returns-then-not-is_own-clause-did : goal.returns-then-not-is_own-clause-did
returns-then-not-is_own-clause-did c = gives_up_other c.args.self.now c.args.epoch c.args.ticket (sym c.if-not-is_own.ensures)

pub returns-clause-did : goal.returns-clause-did
returns-clause-did c =
    let old = c.args.self.now in
    gives_up_own old (record old { entries = c.give_up_at.new.entries }) refl c.args.epoch c.args.ticket (sym c.if-not-is_own.ensures) (listed c.give_up_at.result)
    (subst (λ (s : ℕ). listed c.give_up_at.result ≡ letters_given_up (record { own = old.own; epoch = c.args.epoch; number = c.args.ticket }) (fin.get (reads_in old) s)) (ap (λ (n : Number). n.seq) c.ticket.view_is) c.give_up_at.ensures.out)
    (subst (λ (s : ℕ). reads_in (record old { entries = c.give_up_at.new.entries }) ≡ taken_if_stands (reads_in old) s (fin.get (reads_in old) s)) (ap (λ (n : Number). n.seq) c.ticket.view_is) c.give_up_at.ensures.tickets)
