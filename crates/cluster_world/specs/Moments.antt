-- What a stop of the machine may leave of a node's disk, at any moment of a step.
use Rattle.std.specs.Prelude.{◌≡◌, ◌⊎◌, ℕ, List, [], ◌++◌, IfSome}
use Rattle.io_edge.specs.Moments.{Passed}
use Rattle.mail_model.specs.Record.{Record, IsJournal, payloads_of}
use Rattle.cluster_model.specs.Cluster.{Slot, pending_of}
use Rattle.cluster_model.specs.Claims.{all_records}
use Rattle.node_store.specs.Disks.{View}

-- the journal of the records that stood, of what was pending or nothing, and of the first of those that were added
pub record IsStopOf (own : ℕ) (slot : Slot) (added : List Record) (c : List ℕ) : Type 0 where
  pub kept : List Record
  pub pending_is : (kept ≡ []) ⊎ (kept ≡ pending_of slot.life)
  pub front : List Record
  pub rest : List Record
  pub split : front ++ rest ≡ added
  pub is : IsJournal own c (payloads_of ((slot.disk ++ kept) ++ front))

-- Records were added to a slot. Where the disk tells what it holds, each stop at each moment leaves those that stood, at most what was pending, and the first of them.
pub record StopsKeep {D : Type 0} (on : View D) (own : ℕ) (before after : D) (old new : Slot) : Type 0 where
  pub kept : List Record
  pub pending_is : (kept ≡ []) ⊎ (kept ≡ pending_of old.life)
  pub added : List Record
  pub grew : all_records new ≡ (old.disk ++ kept) ++ added
  pub stops : IfSome (on.seen before) (λ _. Passed on.clock before after (IsStopOf own old added))
