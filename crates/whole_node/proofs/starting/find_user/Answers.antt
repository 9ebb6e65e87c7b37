use Rattle.std.proofs.Common.{List, ◌∙◌, ap}
use Rattle.std.specs.Prelude.{◌&&◌, ◌||◌}
use Rattle.std.specs.Ordering.{nat_cmp, eq_by_cmp}
use Rattle.std.specs.Cmp.Lexicographic.{slice_cmp}
use Rattle.mail_model.specs.Identity.{Id}
use Rattle.mailbox_fragment.specs.Here.{is_here_in, has_id}
use Rattle.whole_node.proofs.Found.{found_user}
use Rattle.whole_node.proofs.starting.find_user.Goals as goal

pub returns-clause-here : goal.returns-clause-here
returns-clause-here c =
    let user = c.args.user.now in
    let now = c.args.maps.now in
    λ records keeps other id.
    c.in_ok-find_ids.ensures.here other id
    ∙ ap (λ (l : List Id). is_here_in now.fragments other id || (eq_by_cmp (slice_cmp nat_cmp) user other && has_id l id)) c.as_slice.ensures
    ∙ found_user user records c.in_ok-ids.ids keeps.fit (c.in_ok-ids.ensures records keeps) (is_here_in now.fragments other id) other id
