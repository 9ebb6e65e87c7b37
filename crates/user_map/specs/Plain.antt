-- A map of buckets made step by step: first the best claim of each bucket, then a member for each bucket that nobody claims.
use Rattle.std.specs.Prelude.{ℕ, ◌+◌, Bool, ◌&&◌, ◌||◌, nat_eq, nat_lt, List, [], ◌∷◌, length, fold, get_or, slice_set, Option, Some, None, if◌then◌else◌}
use Rattle.std.specs.Prelude.{replicate}
use Rattle.std.specs.List.{list_any}
use Rattle.mail_model.specs.Identity.{EpochId}
use Rattle.object_model.specs.Keys.{is_same_epoch}
use Rattle.object_model.specs.Letters.{Member, Claim, MapRow}

abbrev pub is_before : EpochId → EpochId → Bool
is_before a b = nat_lt a.count b.count || (nat_eq a.count b.count && nat_lt a.node b.node)

abbrev pub is_member : List Member → ℕ → Bool
is_member members node = list_any (λ member. nat_eq member.node node) members

-- the row of a claim that is granted
abbrev pub row_of : Claim → MapRow
row_of claim = record { manager = claim.node; since = claim.since }

-- a claim goes before a row where its `since` is greater, or the same and its node lower
abbrev pub beats : Claim → MapRow → Bool
beats claim row = is_before row.since claim.since || (is_same_epoch row.since claim.since && nat_lt claim.node row.manager)

-- the better of what stands and a claim
abbrev pub better : Option MapRow → Claim → MapRow
better None claim = row_of claim
better (Some row) claim = if beats claim row then row_of claim else row

-- The best claims so far, a cell for each bucket, with one claim more. Where its node is no member or its bucket no bucket, it counts for nothing.
abbrev pub with_claim : List Member → List (Option MapRow) → Claim → List (Option MapRow)
with_claim members cells claim =
    if nat_lt claim.bucket (length cells) && is_member members claim.node
    then slice_set cells claim.bucket (Some (better (get_or cells claim.bucket None) claim))
    else cells

abbrev pub claimed_cells : List Claim → List Member → ℕ → List (Option MapRow)
claimed_cells claims members buckets = fold (with_claim members) (replicate buckets None) claims

-- how many buckets each node has, with one more for a node
abbrev pub raised : (ℕ → ℕ) → ℕ → ℕ → ℕ
raised loads node n = if nat_eq node n then loads n + 1 else loads n

abbrev pub with_cell : (ℕ → ℕ) → Option MapRow → ℕ → ℕ
with_cell loads None = loads
with_cell loads (Some row) = raised loads row.manager

abbrev pub claimed_loads : List (Option MapRow) → ℕ → ℕ
claimed_loads cells = fold with_cell (λ n. 0) cells

-- the one of the lower load, or of the same load and the lower number
abbrev pub is_less : (ℕ → ℕ) → ℕ → ℕ → Bool
is_less loads a b = nat_lt (loads a) (loads b) || (nat_eq (loads a) (loads b) && nat_lt a b)

abbrev pub lesser : (ℕ → ℕ) → ℕ → Member → ℕ
lesser loads node member = if is_less loads member.node node then member.node else node

abbrev pub first_member : List Member → ℕ
first_member [] = 0
first_member (member ∷ members) = member.node

abbrev pub least : (ℕ → ℕ) → List Member → ℕ
least loads members = fold (lesser loads) (first_member members) members

-- The row of a cell: its claim, or with nobody's claim the least of the members; and the loads with that bucket placed. Claimed buckets are in the loads from the start.
abbrev pub row_at : EpochId → List Member → (ℕ → ℕ) → Option MapRow → MapRow
row_at epoch members loads (Some row) = row
row_at epoch members loads None = record { manager = least loads members; since = epoch }

abbrev pub loads_after : List Member → (ℕ → ℕ) → Option MapRow → ℕ → ℕ
loads_after members loads (Some row) = loads
loads_after members loads None = raised loads (least loads members)

abbrev pub placed : EpochId → List Member → (ℕ → ℕ) → List (Option MapRow) → List MapRow
placed epoch members loads [] = []
placed epoch members loads (cell ∷ cells) = row_at epoch members loads cell ∷ placed epoch members (loads_after members loads cell) cells

abbrev pub assigned : List Claim → List Member → ℕ → EpochId → List MapRow
assigned claims members buckets epoch =
    let cells = claimed_cells claims members buckets in
    placed epoch members (claimed_loads cells) cells
