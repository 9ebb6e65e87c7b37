use Rattle.std.proofs.Common.{None, sym, ◌∙◌}
use Rattle.std.specs.Ordering.{nat_cmp}
use Rattle.std.specs.Cmp.Lexicographic.{slice_cmp}
use Rattle.std.specs.BTreeMap as tree
use Rattle.mailbox_fragment.specs.Here.{ids_of}
use Rattle.mailbox_fragment.proofs.OneUser.{kept_one, nothing_left}
use Rattle.mailbox_fragment.proofs.fragments.Fragments.forget_empty.Goals as goal

pub returns-then-is_empty : goal.returns-then-is_empty
returns-then-is_empty c =
    kept_one (tree.get (slice_cmp nat_cmp) c.args.self.now.users) (tree.get (slice_cmp nat_cmp) c.remove.new.self) c.args.user.now None c.remove.ensures.updates.0
    (nothing_left (ids_of c.args.self.now c.args.user.now) (sym c.is_empty.ensures ∙ c.if-is_empty.true))
