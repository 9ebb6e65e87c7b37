use Rattle.std.proofs.Common.{ap, ◌∙◌}
use Rattle.mail_base.specs.Bodies.{word_seen}
use Rattle.login_model.specs.Readings.{Login}
use Rattle.login_model.specs.Readings.Reading.{LogsIn}
use Rattle.login_model.specs.Rules.{Under, take_word, begin_login}
use Rattle.node_reads.proofs.Lifts.{begins, takes_own_word}
use Rattle.node_reads.proofs.reads.NodeReads.begin_own_login.Goals as goal

pub returns-clause-ok : goal.returns-clause-ok
returns-clause-ok c = λ proof.
    let old = c.args.self.now in
    let word = word_seen c.args.word in
    let u : Under = record { own = old.own; epoch = c.args.epoch; number = record { node = old.own; boot = old.boot; seq = c.args.seq } } in
    begins old c.put.new.self c.put.ensures.whose.boot_is c.args.epoch c.args.seq (λ v. begin_login v c.args.user proof old.own word c.args.mine) (LogsIn c.take_word.new.self) c.in_ok-letters.letters
    (c.in_ok-letters.ensures.ok
    ∙ ap (λ (v : Under). take_word v c.in_ok-login.login c.args.mine word) c.next_under-u.ensures
    ∙ ap (λ (l : Login). take_word u l c.args.mine word) c.in_ok-login.ensures
    ∙ takes_own_word u c.args.user proof word c.args.mine)
    c.in_ok-put.ensures.ok
