use Rattle.std.proofs.Common.{◌≡◌, List, ℕ, Option, Some, None, true, cond, sym, ap, ◌∙◌, subst, nat_eq, ◌&&◌}
use Rattle.std.specs.Ordering.{nat_cmp}
use Rattle.std.specs.Cmp.Lexicographic.{slice_cmp}
use Rattle.std.specs.BTreeMap as tree
use Rattle.std.specs.BTreeMap.{BTreeMap}
use Rattle.std.specs.Map.{lookup}
use Rattle.object_model.specs.Letters.{Row}
use Rattle.mail_map.specs.Tellers.{Teller, teller_cmp}
use Rattle.mail_map.proofs.OneUser.{IsToldAt, set_one}
use Rattle.mail_map.proofs.map.MailMap.begin.Goals as goal

pub returns-clause-ok : goal.returns-clause-ok
returns-clause-ok c =
    let user_is = c.in_ok-user.ensures ∙ ap (λ (r : Row). r.user) c.row.view_is in
    let up = subst (λ (u : List ℕ). (q : List ℕ) → tree.get (slice_cmp nat_cmp) c.insert.new.self q ≡ cond (tree.is_at (slice_cmp nat_cmp u) q) (Some c.put.new.rows) (tree.get (slice_cmp nat_cmp) c.args.self.now.users q)) user_is c.in_ok-insert.ensures.updates.0 in
    let first : IsToldAt c.args.row true None (Some c.put.new.rows) = λ n boot. c.in_ok-put.ensures.ok n boot
    ∙ ap (λ (es : List (Teller × Row)). cond (nat_eq n c.args.row.node && nat_eq boot c.args.row.boot) (Some c.args.row) (lookup (tree.is_at (teller_cmp (record { node = n; boot = boot }))) es)) c.new-first.ensures.empty in
    set_one (tree.get (slice_cmp nat_cmp) c.args.self.now.users) (tree.get (slice_cmp nat_cmp) c.insert.new.self) c.args.row.user c.args.row (Some c.put.new.rows) up
    (subst (λ (o : Option (BTreeMap Teller Row)). IsToldAt c.args.row true o (Some c.put.new.rows)) (sym c.requires) first)
