-- The stores of a plan's nodes, as they were taken from the yard and given back, in order of node.
use Rattle.std.specs.Prelude.{◌≡◌, ◌≢◌, ◌⊎◌, ℕ, ◌+◌, List, [], ◌∷◌, ◌++◌, length, ⊤, Option, Some, None, IfSome, Result, Ok, Err}
use Rattle.io_edge.specs.Causes.{Rose}
use Rattle.io_edge.specs.Yards.{TellsOneMore, with_last}
use Rattle.yard_stores.specs.declared.stores.TakeFault.{TakeFault}
use Rattle.yard_stores.specs.declared.stores.TakeFault.TheVariants.{Store, NoMemory}

-- a told list with these at its end
abbrev pub with_all : {X : Type 0} → Option (List X) → List X → Option (List X)
with_all None more = None
with_all (Some xs) more = Some (xs ++ more)

-- the stores of the nodes from this one on, each with its shard and node
abbrev pub numbered_stores : {D : Type 0} → ℕ → List D → List (ℕ × ℕ × D)
numbered_stores node [] = []
numbered_stores node (disk ∷ disks) = (0, node, disk) ∷ numbered_stores (node + 1) disks

-- the told list grew by these, one after another, or is told no more
abbrev pub TellsAll : {X : Type 0} → Option (List X) → Option (List X) → List X → Type 0
TellsAll old new [] = new ≡ old
TellsAll {X} old new (x ∷ more) = (mid : Option (List X)) × TellsOneMore old mid x × TellsAll mid new more

-- the disk was looked at, and is empty
pub record Looked {D : Type 0} (seen : D → Option (List ℕ)) (faults : D → ℕ) (old new : D) : Type 0 where
  pub same : seen new ≡ seen old
  pub quiet : faults new ≡ faults old
  pub empty : IfSome (seen new) (λ held. held ≡ [])

abbrev pub AllLooked : {D : Type 0} → (D → Option (List ℕ)) → (D → ℕ) → List D → List D → Type 0
AllLooked seen faults [] [] = ⊤
AllLooked seen faults (old ∷ olds) (new ∷ news) = Looked seen faults old new × AllLooked seen faults olds news
AllLooked seen faults olds news = ⊥

-- the disk failed in this time, or was not empty
abbrev pub DiskFailed : {D : Type 0} → (D → Option (List ℕ)) → (D → ℕ) → D → D → Type 0
DiskFailed seen faults old new = Rose (faults old) (faults new) ⊎ IfSome (seen old) (λ held. held ≢ [])

-- the last of them failed, or was not empty; and it is left as it was
pub record LastFailed {D : Type 0} (seen : D → Option (List ℕ)) (faults : D → ℕ) (node : ℕ) (taken disks : List D) : Type 0 where
  pub front : List D
  pub looked : List D
  pub last : D
  pub after : D
  pub taken_are : taken ≡ front ++ last ∷ []
  pub disks_are : disks ≡ looked ++ after ∷ []
  pub each : AllLooked seen faults front looked
  pub number : length front + 1 ≡ node
  pub same : seen after ≡ seen last
  pub failed : DiskFailed seen faults last after

-- one more was taken, and is empty; or the yard failed at it, or it did
abbrev pub TakesOne : {D T : Type 0} → (D → Option (List ℕ)) → (D → ℕ) → ℕ → ℕ → ℕ → Option (List (ℕ × ℕ × D)) → Option (List (ℕ × ℕ × D)) → List D → List D → Result T TakeFault → Type 0
TakesOne {D} seen faults node before now handed0 handed1 old new (Ok _) =
    (last : D) × (after : D) × (handed1 ≡ with_last handed0 (0, node, last)) × (new ≡ old ++ after ∷ []) × Looked seen faults last after
TakesOne {D} seen faults node before now handed0 handed1 old new (Err (Store number)) =
    (number ≡ node) × ((Rose before now × (handed1 ≡ handed0) × (new ≡ old))
    ⊎ ((last : D) × (after : D) × (handed1 ≡ with_last handed0 (0, node, last)) × (new ≡ old ++ after ∷ []) × (seen after ≡ seen last) × DiskFailed seen faults last after))
TakesOne {D} seen faults node before now handed0 handed1 old new (Err NoMemory) = (handed1 ≡ handed0) × (new ≡ old)

-- these were taken, are empty, and are kept
pub record HasTaken {D : Type 0} (seen : D → Option (List ℕ)) (faults : D → ℕ) (handed0 handed1 : Option (List (ℕ × ℕ × D))) (disks : List D) : Type 0 where
  pub taken : List D
  pub out : handed1 ≡ with_all handed0 (numbered_stores 1 taken)
  pub looked : AllLooked seen faults taken disks

-- what taking them came to: all are there and empty; or the yard failed at the store of the next node, or the last of them did
abbrev pub TakesSo : {D T : Type 0} → (D → Option (List ℕ)) → (D → ℕ) → ℕ → ℕ → ℕ → List D → List D → Result T TakeFault → Type 0
TakesSo seen faults nodes before now taken disks (Ok _) = AllLooked seen faults taken disks × (length disks ≡ nodes)
TakesSo seen faults nodes before now taken disks (Err (Store node)) = (Rose before now × AllLooked seen faults taken disks × (length disks + 1 ≡ node)) ⊎ LastFailed seen faults node taken disks
TakesSo seen faults nodes before now taken disks (Err NoMemory) = AllLooked seen faults taken disks
