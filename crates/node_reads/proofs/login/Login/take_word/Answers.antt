use Rattle.std.proofs.Common.{◌≡◌, List, [], sym, ap, ◌∙◌}
use Rattle.mail_base.specs.Bodies.{word_seen}
use Rattle.object_model.specs.Letters.{Letter}
use Rattle.login_model.specs.Readings.{Login}
use Rattle.login_model.specs.Rules.{take_word}
use Rattle.node_reads.specs.Readings.{login_did}
use Rattle.node_reads.proofs.login.Login.take_word.Goals.{in-Wrong, in-InUse, in-NoProfile}
use Rattle.node_reads.proofs.login.Login.take_word.Goals as goal

pub returns-clause-ok : goal.returns-clause-ok
returns-clause-ok c =
    let denied : login_did c.match-word.self [] ≡ take_word c.args.u.now c.args.self.now c.args.mine (word_seen c.args.word) =
    elim c.match-word.branch [
      | in-Wrong w ↦ ap (λ (l : Login). login_did l []) w.self-is ∙ w.deny.ensures c.args.u.now c.args.mine ∙ ap (λ x. take_word c.args.u.now c.args.self.now c.args.mine (word_seen x)) (sym w.in-Wrong.is)
      | in-InUse w ↦ ap (λ (l : Login). login_did l []) w.self-is ∙ w.deny-in-InUse.ensures c.args.u.now c.args.mine ∙ ap (λ x. take_word c.args.u.now c.args.self.now c.args.mine (word_seen x)) (sym w.in-InUse.is)
      | in-NoProfile w ↦ ap (λ (l : Login). login_did l []) w.self-is ∙ w.deny-in-NoProfile.ensures c.args.u.now c.args.mine ∙ ap (λ x. take_word c.args.u.now c.args.self.now c.args.mine (word_seen x)) (sym w.in-NoProfile.is)
    ] in
    ap (λ (letters : List Letter). login_did c.match-word.self letters) c.no_letters.ensures ∙ denied
