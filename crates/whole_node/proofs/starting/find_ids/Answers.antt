use Rattle.std.proofs.Common.{◌≡◌, ℕ, Bool, true, cond, List, ◌+◌, ◌∷◌, ◌∙◌, ap, sym, drop}
use Rattle.std.specs.Prelude.{◌&&◌, ◌||◌}
use Rattle.std.specs.Ordering.{nat_cmp, eq_by_cmp}
use Rattle.std.specs.Cmp.Lexicographic.{slice_cmp}
use Rattle.std.proofs.lemmas.List.{drop_more}
use Rattle.mail_model.specs.Identity.{Id}
use Rattle.mail_base.specs.Orders.{id_cmp}
use Rattle.mailbox_fragment.specs.Here.{is_here_in, has_id}
use Rattle.whole_node.proofs.Found.{id_turned, one_id}
use Rattle.whole_node.proofs.starting.find_ids.Goals as goal

pub loop-id-preserved : goal.loop-id-preserved
loop-id-preserved c =
    let ids = c.args.ids.now in
    let one = c.id-item.result in
    let rest = drop (c.loop-id.id-index + 1) ids in
    let user = c.args.user.now in
    let now = c.loop-id.maps in
    let is : drop c.loop-id.id-index ids ≡ one ∷ rest = drop_more ids c.loop-id.id-index one c.loop-id-test.true ∙ ap (λ (i : Id). i ∷ rest) (sym c.id-item.is) in
    record {
      here = λ other id.
          ap (λ (b : Bool). b || (eq_by_cmp (slice_cmp nat_cmp) user other && has_id rest id)) (c.in_ok-find.ensures.here other id)
          ∙ ap (λ (f : Bool). cond (eq_by_cmp (slice_cmp nat_cmp) user other && f) true (is_here_in now.fragments other id) || (eq_by_cmp (slice_cmp nat_cmp) user other && has_id rest id)) (id_turned one id)
          ∙ one_id (eq_by_cmp (slice_cmp nat_cmp) user other) (eq_by_cmp id_cmp id one) (is_here_in now.fragments other id) (has_id rest id)
          ∙ ap (λ (l : List Id). is_here_in now.fragments other id || (eq_by_cmp (slice_cmp nat_cmp) user other && has_id l id)) (sym is)
          ∙ c.loop-id.invariant.here other id;
      node = c.find.ensures.node ∙ c.loop-id.invariant.node;
      own = c.find.ensures.own ∙ c.loop-id.invariant.own;
    }
