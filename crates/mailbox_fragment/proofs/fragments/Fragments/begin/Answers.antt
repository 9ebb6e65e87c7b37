use Rattle.std.proofs.Common.{◌≡◌, List, ℕ, Option, Some, None, true, cond, sym, ap, ◌∙◌, subst}
use Rattle.std.specs.Ordering.{nat_cmp}
use Rattle.std.specs.Cmp.Lexicographic.{slice_cmp}
use Rattle.std.specs.BTreeMap as tree
use Rattle.std.specs.BTreeSet.{BTreeSet}
use Rattle.mail_model.specs.Identity.{Id}
use Rattle.mail_base.specs.Orders.{id_cmp}
use Rattle.mailbox_fragment.specs.Here.{has_id}
use Rattle.mailbox_fragment.proofs.OneUser.{IsSetAt, set_one}
use Rattle.mailbox_fragment.proofs.fragments.Fragments.begin.Goals as goal

pub returns-clause-ok : goal.returns-clause-ok
returns-clause-ok c =
    let up = subst (λ (u : List ℕ). (q : List ℕ) → tree.get (slice_cmp nat_cmp) c.insert-2.new.self q ≡ cond (tree.is_at (slice_cmp nat_cmp u) q) (Some c.insert.new.self) (tree.get (slice_cmp nat_cmp) c.args.self.now.users q)) c.in_ok-copy.ensures c.in_ok-insert-2.ensures.updates.0 in
    let first : IsSetAt c.args.id true true None (Some c.insert.new.self) = λ message. c.in_ok-insert.ensures.updates.0 message ∙ ap (λ ids. cond (tree.is_at (id_cmp c.args.id) message) true (has_id ids message)) c.new-first.ensures.empty in
    set_one (tree.get (slice_cmp nat_cmp) c.args.self.now.users) (tree.get (slice_cmp nat_cmp) c.insert-2.new.self) c.args.user.now c.args.id true (Some c.insert.new.self) up
    (subst (λ (o : Option (BTreeSet Id)). IsSetAt c.args.id true true o (Some c.insert.new.self)) (sym c.requires) first)
