use Rattle.std.proofs.Common.{List, ℕ, [], ◌∷◌, ap, ◌∙◌}
use Rattle.std.specs.FinMap as fin
use Rattle.object_model.specs.Letters.{Letter}
use Rattle.object_model.specs.Letters.Body.{LoginAsk}
use Rattle.object_model.specs.Mishaps.{no_mishaps}
use Rattle.mail_base.specs.Bodies.{proof_seen}
use Rattle.login_model.specs.Readings.{Login}
use Rattle.login_model.specs.Readings.Reading.{LogsIn}
use Rattle.login_model.specs.Readings.LoginStage.{AsksManager}
use Rattle.login_model.specs.Rules.{Under, ask, begin_login}
use Rattle.node_reads.specs.Readings.{login_did}
use Rattle.node_reads.specs.Tables.{reads_in}
use Rattle.node_reads.proofs.Lifts.{begins, asks_other}
use Rattle.node_reads.proofs.reads.NodeReads.begin_login.Goals as goal

pub returns-clause-ok : goal.returns-clause-ok
returns-clause-ok c = λ word mine.
    let old = c.args.self.now in
    let proof = proof_seen c.args.proof in
    let u : Under = record { own = old.own; epoch = c.args.epoch; number = record { node = old.own; boot = old.boot; seq = c.args.seq } } in
    let login : Login = record { user = c.args.user; manager = c.args.manager; stage = AsksManager } in
    begins old c.put.new.self c.put.ensures.whose.boot_is c.args.epoch c.args.seq (λ v. begin_login v c.args.user proof c.args.manager word mine) (LogsIn login) (c.ask.result ∷ [])
    (ap (λ (l : Letter). login_did login (l ∷ []))
    (c.ask.ensures
    ∙ ap (λ (v : Under). ask v c.args.manager (LoginAsk c.in_ok-copy.field-0 proof)) c.next_under-u.ensures
    ∙ ap (λ (n : List ℕ). ask u c.args.manager (LoginAsk n proof)) c.in_ok-copy.ensures)
    ∙ asks_other u c.args.user proof c.args.manager word mine c.requires)
    (c.in_ok-put.ensures.ok ∙ ap (λ (l : Login). fin.insert (reads_in old) c.args.seq (record { reading = LogsIn l; mishaps = no_mishaps })) c.in_ok-new.ensures)
