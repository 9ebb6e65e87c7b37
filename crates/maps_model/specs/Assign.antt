-- Which member manages each bucket of users.
use Rattle.std.specs.Prelude.{◌≡◌, ◌⊎◌, ◌≤◌, ℕ, suc, ◌+◌, Bool, ◌&&◌, ◌||◌, nat_eq, nat_lt, List, [], ◌∷◌, length, slice_get, Some, if◌then◌else◌}
use Rattle.std.specs.List.{list_any}
use Rattle.mail_model.specs.Identity.{EpochId}
use Rattle.object_model.specs.Lists.{Among}
use Rattle.object_model.specs.Letters.{Member, Claim, MapRow}
use Rattle.maps_model.specs.Epochs.{IsAtMost}

-- a node is one of the members
pub record IsOfMembers (members : List Member) (node : ℕ) : Type 0 where
  pub member : Member
  pub inside : Among member members
  pub is : member.node ≡ node

-- A claim of a bucket counts where its node is a member.
pub record Counts (claims : List Claim) (members : List Member) (bucket : ℕ) (claim : Claim) : Type 0 where
  pub inside : Among claim claims
  pub of_bucket : claim.bucket ≡ bucket
  pub of_member : IsOfMembers members claim.node

-- the claim of greatest `since`, of the lowest node among equals
pub record IsBest (claims : List Claim) (members : List Member) (bucket : ℕ) (claim : Claim) : Type 0 where
  pub counts : Counts claims members bucket claim
  pub greatest : (other : Claim) → Counts claims members bucket other → IsAtMost other.since claim.since
  pub lowest : (other : Claim) → Counts claims members bucket other → other.since ≡ claim.since → claim.node ≤ other.node

-- whether a claim of the bucket counts
abbrev pub is_claimed : List Claim → List Member → ℕ → Bool
is_claimed claims members bucket = list_any (λ claim. nat_eq claim.bucket bucket && list_any (λ member. nat_eq member.node claim.node) members) claims

-- how many buckets a node has of those that are claimed, and of those below a bucket
abbrev pub counts_for : List Claim → List Member → ℕ → ℕ → ℕ → MapRow → Bool
counts_for claims members node bucket at row = nat_eq row.manager node && (nat_lt at bucket || is_claimed claims members at)

abbrev pub count_rows : List Claim → List Member → ℕ → ℕ → ℕ → List MapRow → ℕ
count_rows claims members node bucket at [] = 0
count_rows claims members node bucket at (row ∷ rows) = (if counts_for claims members node bucket at row then 1 else 0) + count_rows claims members node bucket (suc at) rows

abbrev pub load : List Claim → List Member → List MapRow → ℕ → ℕ → ℕ
load claims members map bucket node = count_rows claims members node bucket 0 map

-- the member with the fewest buckets so far, the lowest node among equals
pub record IsLeast (claims : List Claim) (members : List Member) (map : List MapRow) (bucket node : ℕ) : Type 0 where
  pub of_member : IsOfMembers members node
  pub fewest : (other : ℕ) → IsOfMembers members other → load claims members map bucket node ≤ load claims members map bucket other
  pub lowest : (other : ℕ) → IsOfMembers members other → load claims members map bucket other ≡ load claims members map bucket node → node ≤ other

-- a claimed bucket goes to its best claimant, who keeps its `since`
pub record ClaimedRow (claims : List Claim) (members : List Member) (bucket : ℕ) (row : MapRow) : Type 0 where
  pub claim : Claim
  pub best : IsBest claims members bucket claim
  pub same_node : row.manager ≡ claim.node
  pub same_since : row.since ≡ claim.since

-- a bucket that nobody claims goes to the member with the fewest so far
pub record FreeRow (claims : List Claim) (members : List Member) (epoch : EpochId) (map : List MapRow) (bucket : ℕ) (row : MapRow) : Type 0 where
  pub unclaimed : (claim : Claim) → Counts claims members bucket claim → ⊥
  pub least : IsLeast claims members map bucket row.manager
  pub new : row.since ≡ epoch

-- the map of an epoch: each bucket with its manager
pub record IsAssigned (claims : List Claim) (members : List Member) (buckets : ℕ) (epoch : EpochId) (map : List MapRow) : Type 0 where
  pub size : length map ≡ buckets
  pub each : (bucket : ℕ) (row : MapRow) → slice_get map bucket ≡ Some row → ClaimedRow claims members bucket row ⊎ FreeRow claims members epoch map bucket row
