use Rattle.std.proofs.Common.{List, sym, ap, ◌∙◌, subst, refl}
use Rattle.std.specs.Option.{option_copied_mut, IsSome}
use Rattle.std.proofs.lemmas.Result.{IfOk-weaker, on_err_weaker}
use Rattle.mail_base.specs.Bodies.{word_seen}
use Rattle.object_model.specs.Letters.{Letter}
use Rattle.object_model.specs.Letters.Body.{LoginTold}
use Rattle.node_reads.specs.Tickets.{ticket_told}
use Rattle.node_reads.specs.Tables.{seen}
use Rattle.node_reads.proofs.Changes.{changed, unchanged, same_entries}
use Rattle.node_reads.proofs.reads.word_at.Goals as goal

pub returns-in-Some-clause-ok : goal.returns-in-Some-clause-ok
returns-in-Some-clause-ok c =
    let found = sym (ap option_copied_mut c.in-Some.is) ∙ c.get_mut.ensures.value in
    IfOk-weaker c.hear_word.result _ _
    (λ letters did. changed (ticket_told c.args.u.now c.args.from c.args.mine (LoginTold (word_seen c.args.word))) _ _ c.args.seq _ c.hear_word.new.self letters found did ((c.get_mut.follows.holds c.hear_word.new.self).3 (subst IsSome found refl)).0)
    c.hear_word.ensures.ok

pub returns-in-Some-clause-err : goal.returns-in-Some-clause-err
returns-in-Some-clause-err c =
    let found = sym (ap option_copied_mut c.in-Some.is) ∙ c.get_mut.ensures.value in
    on_err_weaker c.hear_word.result
    (λ same. same_entries _ _ c.args.seq _ c.hear_word.new.self found same ((c.get_mut.follows.holds c.hear_word.new.self).3 (subst IsSome found refl)).0)
    c.hear_word.ensures.err

pub returns-in-None-clause-ok : goal.returns-in-None-clause-ok
returns-in-None-clause-ok c =
    unchanged (ticket_told c.args.u.now c.args.from c.args.mine (LoginTold (word_seen c.args.word))) _ c.args.seq (sym (ap option_copied_mut c.in-None.is) ∙ c.get_mut.ensures.value)
    ∙ ap (λ (letters : List Letter). record { reads = seen c.args.entries.now.entries; out = letters }) (sym c.no_letters.ensures)
    ∙ ap (λ m. record { reads = seen m.entries; out = c.no_letters.result }) (sym c.get_mut.follows.holds-at-none)
