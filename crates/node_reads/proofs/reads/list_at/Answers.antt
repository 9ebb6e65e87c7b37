use Rattle.std.proofs.Common.{[], sym, ap, ◌∙◌, subst, refl}
use Rattle.std.specs.Option.{option_copied_mut, IsSome}
use Rattle.std.proofs.lemmas.Result.{on_ok_weaker, on_err_weaker}
use Rattle.object_model.specs.Letters.Body.{ListTold}
use Rattle.node_reads.specs.Tickets.{ticket_told}
use Rattle.node_reads.specs.Tables.{seen}
use Rattle.node_reads.proofs.Changes.{changed, unchanged, same_entries}
use Rattle.node_reads.proofs.reads.list_at.Goals as goal

pub returns-in-Some-clause-ok : goal.returns-in-Some-clause-ok
returns-in-Some-clause-ok c =
    let found = sym (ap option_copied_mut c.in-Some.is) ∙ c.get_mut.ensures.value in
    on_ok_weaker c.hear_list.result
    (λ did u mine. changed (ticket_told u c.args.from mine (ListTold c.args.items)) _ _ c.args.seq _ c.hear_list.new.self [] found (did u mine) ((c.get_mut.follows.holds c.hear_list.new.self).3 (subst IsSome found refl)).0)
    c.hear_list.ensures.ok

pub returns-in-Some-clause-err : goal.returns-in-Some-clause-err
returns-in-Some-clause-err c =
    let found = sym (ap option_copied_mut c.in-Some.is) ∙ c.get_mut.ensures.value in
    on_err_weaker c.hear_list.result
    (λ same. same_entries _ _ c.args.seq _ c.hear_list.new.self found same ((c.get_mut.follows.holds c.hear_list.new.self).3 (subst IsSome found refl)).0)
    c.hear_list.ensures.err

pub returns-in-None-clause-ok : goal.returns-in-None-clause-ok
returns-in-None-clause-ok c = λ u mine.
    unchanged (ticket_told u c.args.from mine (ListTold c.args.items)) _ c.args.seq (sym (ap option_copied_mut c.in-None.is) ∙ c.get_mut.ensures.value)
    ∙ ap (λ m. record { reads = seen m.entries; out = [] }) (sym c.get_mut.follows.holds-at-none)
