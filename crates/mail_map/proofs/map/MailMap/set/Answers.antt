use Rattle.std.proofs.Common.{List, ℕ, Option, Some, true, sym, ap, ◌∙◌, subst, refl}
use Rattle.std.proofs.lemmas.Result.{on_ok_weaker, on_err_weaker}
use Rattle.std.specs.Option.{option_copied_mut, IsSome}
use Rattle.std.specs.Ordering.{nat_cmp}
use Rattle.std.specs.Cmp.Lexicographic.{slice_cmp}
use Rattle.std.specs.BTreeMap as tree
use Rattle.std.specs.BTreeMap.{BTreeMap}
use Rattle.std.specs.Map.{lookup}
use Rattle.object_model.specs.Letters.{Row}
use Rattle.maps_model.specs.Rules.{set_row}
use Rattle.mail_map.specs.Tellers.{Teller, teller_cmp}
use Rattle.mail_map.specs.Rows.{row_of_teller}
use Rattle.mail_map.proofs.OneUser.{IsToldAt, set_one, kept_one}
use Rattle.mail_map.proofs.map.MailMap.set.Goals as goal

pub returns-in-Some-clause-ok : goal.returns-in-Some-clause-ok
returns-in-Some-clause-ok c =
    let found = sym (ap option_copied_mut c.in-Some.is) ∙ c.get_mut.ensures.value in
    on_ok_weaker c.put.result (λ up n boot q.
    set_one (tree.get (slice_cmp nat_cmp) c.args.self.now.users) (tree.get (slice_cmp nat_cmp) (c.get_mut.follows.lender c.put.new.rows)) c.row.inside.user c.in_ok-copy.copy (Some c.put.new.rows)
    ((c.get_mut.follows.holds c.put.new.rows).3 (subst IsSome found refl)).0
    (subst (λ (o : Option (BTreeMap Teller Row)). IsToldAt c.in_ok-copy.copy true o (Some c.put.new.rows)) found up) n boot q
    ∙ ap (λ (u : List ℕ). set_row (λ m k v. row_of_teller (tree.get (slice_cmp nat_cmp) c.args.self.now.users v) m k) c.in_ok-copy.copy.node c.in_ok-copy.copy.boot u c.in_ok-copy.copy n boot q) (ap (λ (r : Row). r.user) c.row.view_is)
    ∙ ap (λ (r : Row). set_row (λ m k v. row_of_teller (tree.get (slice_cmp nat_cmp) c.args.self.now.users v) m k) r.node r.boot c.args.row.now.user r n boot q) c.in_ok-copy.ensures) c.put.ensures.ok

pub returns-in-Some-clause-err : goal.returns-in-Some-clause-err
returns-in-Some-clause-err c =
    let found = sym (ap option_copied_mut c.in-Some.is) ∙ c.get_mut.ensures.value in
    on_err_weaker c.put.result (λ same.
    kept_one (tree.get (slice_cmp nat_cmp) c.args.self.now.users) (tree.get (slice_cmp nat_cmp) (c.get_mut.follows.lender c.put.new.rows)) c.row.inside.user (Some c.put.new.rows)
    ((c.get_mut.follows.holds c.put.new.rows).3 (subst IsSome found refl)).0
    (λ n boot. ap (λ (es : List (Teller × Row)). lookup (tree.is_at (teller_cmp (record { node = n; boot = boot }))) es) same ∙ ap (λ (o : Option (BTreeMap Teller Row)). row_of_teller o n boot) found)) c.put.ensures.err
