use Rattle.std.proofs.Common.{[], ap, ◌∙◌}
use Rattle.std.proofs.lemmas.Result.{on_ok_weaker}
use Rattle.mail_base.specs.Bodies.{part_seen}
use Rattle.login_model.specs.Readings.{Fetch}
use Rattle.login_model.specs.Readings.Reading.{Fetches}
use Rattle.login_model.specs.Rules.{Under, begin_fetch}
use Rattle.node_reads.specs.Readings.{fetch_did}
use Rattle.node_reads.proofs.Lifts.{begins, answers_itself}
use Rattle.node_reads.proofs.reads.NodeReads.begin_own_fetch.Goals as goal

pub returns-clause-ok : goal.returns-clause-ok
returns-clause-ok c =
    let old = c.args.self.now in
    on_ok_weaker c.put.result
    (λ put epoch holders own.
    let u : Under = record { own = old.own; epoch = epoch; number = record { node = old.own; boot = old.boot; seq = c.args.seq } } in
    begins old c.put.new.self c.put.ensures.whose.boot_is epoch c.args.seq (λ v. begin_fetch v c.args.user c.args.id c.args.from c.args.most holders (part_seen c.args.part)) (Fetches c.answered-fetch.result) []
    (ap (λ (f : Fetch). fetch_did f []) c.answered-fetch.ensures
    ∙ answers_itself u c.args.user c.args.id c.args.from c.args.most holders (part_seen c.args.part) own)
    put)
    c.put.ensures.ok
