use Rattle.std.proofs.Common.{◌≡◌, ℕ, Bool, List, ◌+◌, ◌∷◌, ◌∙◌, ap, sym, drop}
use Rattle.std.specs.Prelude.{◌&&◌, ◌||◌}
use Rattle.std.specs.Ordering.{nat_cmp, eq_by_cmp}
use Rattle.std.specs.Cmp.Lexicographic.{slice_cmp}
use Rattle.std.proofs.lemmas.List.{drop_more}
use Rattle.mail_model.specs.Identity.Key.{Message}
use Rattle.object_model.specs.Said.{said}
use Rattle.cluster_model.specs.Reads.{is_here_held}
use Rattle.mailbox_fragment.specs.Here.{is_here_in}
use Rattle.map_rebuild.specs.Users.{has_user}
use Rattle.whole_node.proofs.Found.{user_turned, one_user}
use Rattle.whole_node.proofs.starting.find_users.Goals as goal

pub loop-user-preserved : goal.loop-user-preserved
loop-user-preserved c =
    let users = c.args.users.now in
    let user = c.user-item.result in
    let rest = drop (c.loop-user.user-index + 1) users in
    let now = c.loop-user.maps in
    let is : drop c.loop-user.user-index users ≡ user ∷ rest = drop_more users c.loop-user.user-index user c.loop-user-test.true ∙ ap (λ (u : List ℕ). u ∷ rest) (sym c.user-item.is) in
    record {
      here = λ records keeps other id.
          ap (λ (b : Bool). b || (has_user rest other && is_here_held (said (Message other id) records))) (c.in_ok-find_user.ensures.here records keeps other id)
          ∙ ap (λ (t : Bool). (is_here_in now.fragments other id || (t && is_here_held (said (Message other id) records))) || (has_user rest other && is_here_held (said (Message other id) records))) (user_turned user other)
          ∙ one_user (is_here_in now.fragments other id) (eq_by_cmp (slice_cmp nat_cmp) other user) (has_user rest other) (is_here_held (said (Message other id) records))
          ∙ ap (λ (l : List (List ℕ)). is_here_in now.fragments other id || (has_user l other && is_here_held (said (Message other id) records))) (sym is)
          ∙ c.loop-user.invariant.here records keeps other id;
      node = c.find_user.ensures.node ∙ c.loop-user.invariant.node;
      own = c.find_user.ensures.own ∙ c.loop-user.invariant.own;
    }
