use Rattle.std.proofs.Common.{Option, Some, true, false, sym, ap, ◌∙◌, subst, refl}
use Rattle.std.specs.Option.{option_copied_mut, IsSome}
use Rattle.std.specs.Ordering.{nat_cmp}
use Rattle.std.specs.Cmp.Lexicographic.{slice_cmp}
use Rattle.std.specs.BTreeMap as tree
use Rattle.std.specs.BTreeSet.{BTreeSet}
use Rattle.mail_model.specs.Identity.{Id}
use Rattle.mailbox_fragment.proofs.OneUser.{IsSetAt, set_one, none_set}
use Rattle.mailbox_fragment.proofs.fragments.Fragments.take_out.Goals as goal

pub returns-in-Some : goal.returns-in-Some
returns-in-Some c =
    let found = sym (ap option_copied_mut c.in-Some.is) ∙ c.get_mut.ensures.value in
    set_one (tree.get (slice_cmp nat_cmp) c.args.self.now.users) (tree.get (slice_cmp nat_cmp) (c.get_mut.follows.lender c.take_id.new.ids)) c.args.user.now c.args.id false (Some c.take_id.new.ids)
    ((c.get_mut.follows.holds c.take_id.new.ids).3 (subst IsSome found refl)).0
    (subst (λ (o : Option (BTreeSet Id)). IsSetAt c.args.id false true o (Some c.take_id.new.ids)) found c.take_id.ensures.0)

pub returns-in_default : goal.returns-in_default
returns-in_default c = rw c.get_mut.follows.holds-at-none (none_set (tree.get (slice_cmp nat_cmp) c.args.self.now.users) c.args.user.now c.args.id (sym (ap option_copied_mut c.in_default.is) ∙ c.get_mut.ensures.value))
