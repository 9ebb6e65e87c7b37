-- Whether a node still owes what it holds to another member of its epoch.
use Rattle.std.specs.Prelude.{◌≡◌, ◌≢◌, ℕ, Bool, true, false, not, ◌&&◌, nat_eq, Option, Some, None}
use Rattle.std.specs.FinMap as fin
use Rattle.std.specs.List.{list_any}
use Rattle.mail_model.specs.Identity.{Key}
use Rattle.object_model.specs.Lists.{Among}
use Rattle.object_model.specs.Letters.{Member, Membership}
use Rattle.object_model.specs.Sets.{has}
use Rattle.object_model.specs.UpdateLog.{Log, Logged, owes}
use Rattle.cluster_model.specs.Cluster as plain

-- whether the member is another than the node, and remains in some entry of the log
abbrev pub is_owed : ℕ → Log → Member → Bool
is_owed own log member = not (nat_eq member.node own) && owes log member.node

abbrev pub owes_another_of : ℕ → Log → Option Membership → Bool
owes_another_of own log None = false
owes_another_of own log (Some membership) = list_any (is_owed own log) membership.members

-- whether some member of the epoch that messages go by is
abbrev pub owes_another : ℕ → plain.Node → Bool
owes_another own node = owes_another_of own node.log node.installed

-- the same in words
pub record OwesAnother (own : ℕ) (node : plain.Node) : Type 0 where
  pub membership : Membership
  pub installed : node.installed ≡ Some membership
  pub member : Member
  pub inside : Among member membership.members
  pub other : member.node ≢ own
  pub key : Key
  pub entry : Logged
  pub stands : fin.get node.log key ≡ Some entry
  pub remains : has entry.remaining member.node ≡ true
