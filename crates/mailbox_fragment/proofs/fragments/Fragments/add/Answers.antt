use Rattle.std.proofs.Common.{Option, Some, true, sym, ap, ◌∙◌, subst, refl}
use Rattle.std.proofs.lemmas.Result.{on_ok_weaker, on_err_weaker}
use Rattle.std.specs.Option.{option_copied_mut, IsSome}
use Rattle.std.specs.Ordering.{nat_cmp}
use Rattle.std.specs.Cmp.Lexicographic.{slice_cmp}
use Rattle.std.specs.BTreeMap as tree
use Rattle.std.specs.BTreeSet.{BTreeSet}
use Rattle.mail_model.specs.Identity.{Id}
use Rattle.mailbox_fragment.specs.Here.{ids_at}
use Rattle.mailbox_fragment.proofs.OneUser.{IsSetAt, set_one, kept_one}
use Rattle.mailbox_fragment.proofs.fragments.Fragments.add.Goals as goal

pub returns-in-Some-clause-ok : goal.returns-in-Some-clause-ok
returns-in-Some-clause-ok c =
    let found = sym (ap option_copied_mut c.in-Some.is) ∙ c.get_mut.ensures.value in
    on_ok_weaker c.add_id.result (λ added.
    set_one (tree.get (slice_cmp nat_cmp) c.args.self.now.users) (tree.get (slice_cmp nat_cmp) (c.get_mut.follows.lender c.add_id.new.ids)) c.args.user.now c.args.id true (Some c.add_id.new.ids)
    ((c.get_mut.follows.holds c.add_id.new.ids).3 (subst IsSome found refl)).0
    (subst (λ (o : Option (BTreeSet Id)). IsSetAt c.args.id true true o (Some c.add_id.new.ids)) found added.0)) c.add_id.ensures.added

pub returns-in-Some-clause-err : goal.returns-in-Some-clause-err
returns-in-Some-clause-err c =
    let found = sym (ap option_copied_mut c.in-Some.is) ∙ c.get_mut.ensures.value in
    on_err_weaker c.add_id.result (λ same.
    kept_one (tree.get (slice_cmp nat_cmp) c.args.self.now.users) (tree.get (slice_cmp nat_cmp) (c.get_mut.follows.lender c.add_id.new.ids)) c.args.user.now (Some c.add_id.new.ids)
    ((c.get_mut.follows.holds c.add_id.new.ids).3 (subst IsSome found refl)).0
    (same ∙ ap ids_at found)) c.add_id.ensures.err
