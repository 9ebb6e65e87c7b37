use Rattle.std.proofs.Common.{◌≡◌, ℕ, Bool, true, not, List, refl, sym, ap, ◌∙◌, subst}
use Rattle.std.specs.Prelude.{is_some}
use Rattle.std.specs.FinMap as fin
use Rattle.object_model.specs.Letters.{LoginWord}
use Rattle.object_model.specs.Locks.{Held}
use Rattle.mail_base.specs.Bodies.{proof_seen, word_seen}
use Rattle.joint_world.specs.Rules.{Judged, judged}
use Rattle.whole_node.specs.declared.node.WholeNode.{WholeNode}
use Rattle.whole_node.proofs.Called.{plan_for, has_users}
use Rattle.whole_node.proofs.Reacting.{seen_by}
use Rattle.whole_node.proofs.LoggedIn.{logs_here}
use Rattle.whole_node.proofs.node.WholeNode.log_in_here.Goals as goal

pub returns-in-Ok-clause-ok : goal.returns-in-Ok-clause-ok
returns-in-Ok-clause-ok c plan users =
    let old = c.args.self.now in
    let new = c.take_own_word.new.self in
    let proof = proof_seen c.args.proof.now in
    let word = word_seen c.in_ok-word.word in
    let t = c.in-Ok.ensures.ok in
    logs_here old new (record { mail = c.in-Ok.ensures.halves.mail; maps = c.in-Ok.ensures.halves.maps }) c.requires.reads.maps c.requires.reads.reads plan c.args.user proof word c.in-Ok.letters c.args.ticket
    c.requires.managed c.requires.number
    (λ tells. c.in_ok-word.ensures.ok plan (seen_by tells old) users (sym c.named-named.ensures.seen) ∙ ap (λ (l : Held). record { word = word; locks = l }) (sym c.in-Ok.ensures.locks))
    t.mine t.lists (t.begins proof)

pub returns-clause-locks : goal.returns-clause-locks
returns-clause-locks c =
    let old = c.args.self.now in
    let proof = proof_seen c.args.proof.now in
    let plan = plan_for c.args.users.now old.mail in
    let node = seen_by true old in
    let back = c.in_ok-back.ensures in
    c.give_back.ensures plan node proof old.locks
    (c.is_free-was_free.ensures ∙ ap (λ (u : List ℕ). not (is_some (fin.get old.locks u))) (sym back))
    (ap (λ (u : List ℕ). (judged plan node u proof c.args.ticket old.locks).locks) back
    ∙ ap (λ (j : Judged). j.locks) (c.in_ok-word.ensures.ok plan node (has_users c.args.users.now old.mail) (sym c.named-named.ensures.seen)) ∙ sym c.in-Err.ensures.locks)
