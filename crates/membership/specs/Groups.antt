-- What a node keeps of the epochs that it promises, forms and enters.
use Rattle.std.specs.Prelude.{ℕ, ◌+◌, max, Bool, nat_eq, List, [], ◌∷◌, map, flat_map, length, Option, Some, None}
use Rattle.std.specs.List.{list_any}
use Rattle.mail_model.specs.Identity.{EpochId}
use Rattle.object_model.specs.Letters.{Claim, Member, Membership, Row}
use Rattle.maps_model.specs.Cluster.{Joined, OpenGroup, Node, epoch_in}
use Rattle.maps_model.specs.Rules.{claims_in, with_join}

-- `heard` is the greatest count of an epoch that the node promised or heard
pub record Group : Type 0 where
  pub own : ℕ
  pub boot : ℕ
  pub promise : EpochId
  pub heard : ℕ
  pub opened : Option OpenGroup
  pub installed : Option Membership

-- a node that starts
abbrev pub new_group : ℕ → ℕ → EpochId → Group
new_group own boot promise = record { own = own; boot = boot; promise = promise; heard = promise.count; opened = None; installed = None }

-- the epoch of the next group, and how the node joins it
abbrev pub next_epoch : Group → EpochId
next_epoch group = record { count = group.heard + 1; node = group.own }

abbrev pub own_join : Group → Joined
own_join group = record { member = record { node = group.own; boot = group.boot; was = epoch_in group.installed }; claims = claims_in group.own group.installed }

-- A promise closes the open group.
abbrev pub promised : Group → EpochId → Group
promised group epoch = record group { promise = epoch; heard = max group.heard epoch.count; opened = None }

abbrev pub started : Group → Group
started group = record (promised group (next_epoch group)) { opened = Some (record { epoch = next_epoch group; joins = own_join group ∷ [] }) }

-- all claims of those who joined, and the members that they become
abbrev pub all_claims : OpenGroup → List Claim
all_claims group = flat_map (λ join. join.claims) group.joins

abbrev pub all_members : OpenGroup → List Member
all_members group = map (λ join. join.member) group.joins

-- an open group with one join more
abbrev pub with_one_joined : Joined → OpenGroup → OpenGroup
with_one_joined join group = record { epoch = group.epoch; joins = with_join join group.joins }

abbrev pub has_joined : ℕ → OpenGroup → Bool
has_joined node group = list_any (λ join. nat_eq join.member.node node) group.joins

-- how many nodes have joined it
abbrev pub joins_in : OpenGroup → ℕ
joins_in group = length group.joins

-- A node of the cluster keeps this. It also has versions, marks and rows, which a group knows nothing of.
abbrev pub node_of_group : Group → (List ℕ → ℕ) → (List ℕ → Bool) → (ℕ → ℕ → List ℕ → Option Row) → Node
node_of_group group version marked rows = record {
  boot = group.boot;
  promise = group.promise;
  heard = group.heard;
  group = group.opened;
  installed = group.installed;
  version = version;
  marked = marked;
  rows = rows;
}
