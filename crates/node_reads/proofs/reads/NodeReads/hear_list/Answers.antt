use Rattle.std.proofs.Common.{◌≡◌, ℕ, [], refl, sym, ap, subst}
use Rattle.std.proofs.lemmas.Result.{on_ok_weaker}
use Rattle.std.specs.FinMap as fin
use Rattle.object_model.specs.Letters.{Number}
use Rattle.object_model.specs.Letters.Body.{ListTold}
use Rattle.node_reads.specs.Tickets.{did_if_stands, ticket_told}
use Rattle.node_reads.specs.Tables.{reads_in}
use Rattle.node_reads.proofs.Lifts.{hears_own, hears_other}
use Rattle.node_reads.proofs.reads.NodeReads.hear_list.Goals as goal

pub returns-then-not-is_own-clause-ok : goal.returns-then-not-is_own-clause-ok
returns-then-not-is_own-clause-ok c = λ epoch mine. hears_other c.args.self.now epoch c.args.ticket (sym c.if-not-is_own.ensures) c.args.from (ListTold c.args.items) mine

pub returns-clause-ok : goal.returns-clause-ok
returns-clause-ok c =
    let old = c.args.self.now in
    on_ok_weaker c.list_at.result
    (λ did epoch mine. hears_own old (record old { entries = c.list_at.new.entries }) refl epoch c.args.ticket (sym c.if-not-is_own.ensures) c.args.from (ListTold c.args.items) mine []
    (subst (λ (s : ℕ). did_if_stands (ticket_told (record { own = old.own; epoch = epoch; number = c.args.ticket }) c.args.from mine (ListTold c.args.items)) (reads_in old) s (fin.get (reads_in old) s) ≡ record { reads = reads_in (record old { entries = c.list_at.new.entries }); out = [] })
    (ap (λ (n : Number). n.seq) c.ticket.view_is) (did (record { own = old.own; epoch = epoch; number = c.args.ticket }) mine)))
    c.list_at.ensures.ok
