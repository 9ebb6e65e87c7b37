use Rattle.std.proofs.Common.{◌≡◌, ℕ, List, refl, sym, ap, subst}
use Rattle.std.proofs.lemmas.Result.{IfOk-weaker}
use Rattle.mail_base.specs.Bodies.{word_seen}
use Rattle.std.specs.FinMap as fin
use Rattle.object_model.specs.Letters.{Number, Letter}
use Rattle.object_model.specs.Letters.Body.{LoginTold}
use Rattle.node_reads.specs.Tickets.{did_if_stands, ticket_told}
use Rattle.node_reads.specs.Tables.{reads_in, Hears}
use Rattle.node_reads.proofs.Lifts.{hears_own, hears_other}
use Rattle.node_reads.proofs.reads.NodeReads.hear_word.Goals as goal

pub returns-then-not-is_own-clause-ok : goal.returns-then-not-is_own-clause-ok
returns-then-not-is_own-clause-ok c =
    let old = c.args.self.now in
    subst (λ (l : List Letter). Hears c.args.epoch c.args.ticket c.args.from (LoginTold (word_seen c.args.word)) c.args.mine l old old) (sym c.no_letters.ensures)
    (hears_other old c.args.epoch c.args.ticket (sym c.if-not-is_own.ensures) c.args.from (LoginTold (word_seen c.args.word)) c.args.mine)

pub returns-clause-ok : goal.returns-clause-ok
returns-clause-ok c =
    let old = c.args.self.now in
    IfOk-weaker c.word_at.result _ _
    (λ letters did. hears_own old (record old { entries = c.word_at.new.entries }) refl c.args.epoch c.args.ticket (sym c.if-not-is_own.ensures) c.args.from (LoginTold (word_seen c.args.word)) c.args.mine letters
    (subst (λ (s : ℕ). did_if_stands (ticket_told (record { own = old.own; epoch = c.args.epoch; number = c.args.ticket }) c.args.from c.args.mine (LoginTold (word_seen c.args.word))) (reads_in old) s (fin.get (reads_in old) s) ≡ record { reads = reads_in (record old { entries = c.word_at.new.entries }); out = letters })
    (ap (λ (n : Number). n.seq) c.ticket.view_is) did))
    c.word_at.ensures.ok
