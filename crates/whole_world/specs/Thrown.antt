-- Which letters a node that is up throws: the whole order.
use Rattle.std.specs.Prelude.{ℕ, Bool, false, not, ◌&&◌, ◌||◌, nat_eq, nat_lt, Option, Some, None, if◌then◌else◌}
use Rattle.mail_model.specs.Identity.{EpochId}
use Rattle.mail_model.specs.Tape.{or_else}
use Rattle.object_model.specs.Letters.{Member, Body, Letter}
use Rattle.object_model.specs.Letters.Body.{Group, Join, Install}
use Rattle.object_model.specs.Keys.{is_same_epoch}
use Rattle.cluster_model.specs.Thrown.{Why, is_stale, is_late}
use Rattle.cluster_model.specs.Thrown.Why.{Stale, Old, NotPromised, NotMember, Late}
use Rattle.maps_model.specs.Cluster as maps
use Rattle.whole_model.specs.Whole.{Node}

-- epochs by count, and then by node
abbrev pub is_before : EpochId → EpochId → Bool
is_before a b = nat_lt a.count b.count || (nat_eq a.count b.count && nat_lt a.node b.node)

abbrev pub is_open_for : Option maps.OpenGroup → EpochId → Bool
is_open_for None epoch = false
is_open_for (Some group) epoch = is_same_epoch group.epoch epoch

abbrev pub is_in_boot : Option Member → ℕ → Bool
is_in_boot None boot = false
is_in_boot (Some member) boot = nat_eq member.boot boot

-- why a letter of membership is refused, if it is: a Group below the promise is old, and a Join answers a group; the first that applies to an Install
abbrev pub refused_by : ℕ → maps.Node → Body → Option Why
refused_by own node (Group epoch) = if is_before epoch node.promise then Some Old else None
refused_by own node (Join epoch promise boot was claims) = if is_open_for node.group epoch then None else Some Late
refused_by own node (Install membership) =
    if is_before membership.epoch node.promise || not (is_before (maps.epoch_of node) membership.epoch) then Some Old
    else if is_before node.promise membership.epoch then Some NotPromised
    else if is_in_boot (maps.member_of membership.members own) node.boot then None
    else Some NotMember
refused_by own node body = None

-- Why the node throws the letter, if it does: the first that applies. It is of another epoch; it is a letter of membership that is refused; it answers a ticket that stands no more.
abbrev pub thrown_by : ℕ → Node → Letter → Option Why
thrown_by own node letter =
    or_else (if is_stale letter node.mail.installed then Some Stale else None)
    (or_else (refused_by own node.maps letter.body) (if is_late own node.mail letter then Some Late else None))
