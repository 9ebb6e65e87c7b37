use Rattle.std.proofs.Common.{ap, ◌∙◌}
use Rattle.login_model.specs.Readings.{Fetch}
use Rattle.login_model.specs.Readings.FetchStage.{AsksHolder}
use Rattle.login_model.specs.Readings.Reading.{Fetches}
use Rattle.login_model.specs.Rules.{Under, ask_next, begin_fetch}
use Rattle.node_reads.specs.Readings.{listed}
use Rattle.node_reads.proofs.Lifts.{begins, asks_holders}
use Rattle.node_reads.proofs.reads.NodeReads.begin_fetch.Goals as goal

pub returns-clause-ok : goal.returns-clause-ok
returns-clause-ok c = λ part.
    let old = c.args.self.now in
    let u : Under = record { own = old.own; epoch = c.args.epoch; number = record { node = old.own; boot = old.boot; seq = c.args.seq } } in
    begins old c.put.new.self c.put.ensures.whose.boot_is c.args.epoch c.args.seq (λ v. begin_fetch v c.args.user c.args.id c.args.from c.args.most c.args.holders part) (Fetches c.ask_next-letter.new.self) (listed c.ask_next-letter.result)
    (c.ask_next-letter.ensures
    ∙ ap (λ (v : Under). ask_next v c.in_ok-fetch.fetch c.args.holders) c.next_under-u.ensures
    ∙ ap (λ (f : Fetch). ask_next u f c.args.holders) c.in_ok-fetch.ensures
    ∙ asks_holders u c.args.user c.args.id c.args.from c.args.most c.args.holders part (AsksHolder old.own c.args.holders) c.requires)
    c.in_ok-put.ensures.ok
