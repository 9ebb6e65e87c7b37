-- The tickets of calls that read and the locks of nodes, in steps that are none of calls that read.
use Rattle.std.proofs.Common.{◌≡◌, ◌≢◌, ⊎_elim, ℕ, true, false, List, Option, Result, Ok, Err, refl, sym, ap, ◌∙◌, subst}
use Rattle.std.specs.Prelude.{if◌then◌else◌}
use Rattle.object_model.specs.Keys.{is_same_epoch}
use Rattle.object_model.specs.Locks.{no_locks}
use Rattle.cluster_model.specs.Cluster as plain
use Rattle.maps_model.specs.Cluster as maps
use Rattle.maps_model.specs.Cluster.{epoch_of}
use Rattle.joint_model.specs.Joint as joint
use Rattle.joint_world.specs.Staying.{KeepsReads}
use Rattle.node_maps.specs.Nodes.{node_of}
use Rattle.node_core.specs.Works.{LeavesUp}
use Rattle.node_core.specs.declared.fault.NodeFault.{NodeFault}
use Rattle.node_core.specs.declared.fault.NodeFault.TheVariants.{Disk, Worn, NoMemory}
use Rattle.node_core.specs.declared.node.Node.{Node}
use Rattle.node_store.specs.Disks.{View}
use Rattle.whole_node.specs.Nodes.{joint_seen}
use Rattle.whole_node.specs.declared.node.WholeNode.{WholeNode}
use Rattle.cluster_world.specs.Changes.{ChangesNode}
use Rattle.cluster_world.specs.Keeping.{joint_life, HasSameReads, ReadsKept}
use Rattle.cluster_world.specs.Lives.{of_node}
use Rattle.cluster_world.specs.Missing.{OnlyTickets}
use Rattle.cluster_world.specs.Turning.{life_left, TurnsBy}
use Rattle.cluster_world.specs.declared.life.Life.{Life}
use Rattle.cluster_world.specs.declared.life.Life.TheVariants.{Up, Down}
use Rattle.cluster_world.specs.declared.nodes.Nodes.{Nodes}
use Rattle.cluster_world.proofs.Befallen.{up_too}
use Rattle.cluster_world.proofs.Lifting.{locks_by}
use Rattle.cluster_world.proofs.SameReads.{same_reads, kept_reads}
use Rattle.cluster_world.proofs.Still.{some_same}
use Rattle.cluster_world.proofs.Turned.{same_or, life_there, life_else}
use Rattle.cluster_world.proofs.Turning.{up_same}

-- Whoever keeps tickets and locks from a node goes on so where both stay in its epoch.
pub kept_more : (life : joint.Life) (b c : WholeNode) → KeepsReads life (joint_seen b) → HasSameReads b c → node_of c.maps ≡ node_of b.maps → KeepsReads life (joint_seen c)
kept_more (joint.Life.Up a) b c kept same maps_are = (
  same.reads ∙ kept.0,
  same.locks ∙ kept.1 ∙ ap (λ (m : maps.Node). if is_same_epoch (epoch_of a.whole.maps) (epoch_of m) then a.locks else no_locks) (sym maps_are),
)
kept_more (joint.Life.Down pending) b c kept same maps_are = (same.reads ∙ kept.0, same.locks ∙ kept.1)
kept_more joint.Life.Lost b c kept same maps_are = (same.reads ∙ kept.0, same.locks ∙ kept.1)

pub kept_same : (a b : WholeNode) → HasSameReads a b → node_of b.maps ≡ node_of a.maps → KeepsReads (joint.Life.Up (joint_seen a)) (joint_seen b)
kept_same a b same maps_are = (same.reads, same.locks ∙ sym (locks_by (epoch_of (node_of a.maps)) (epoch_of (node_of b.maps)) (joint_seen a).locks (sym (ap epoch_of maps_are))))

-- Tickets of messages alone may have changed.
pub tickets_keep : {D : Type 0} (on : View D) (change : List plain.Slot → List plain.Slot) (old new : Nodes D) → OnlyTickets on change old new → ReadsKept old.lives.items new.lives.items
tickets_keep on change old new only = record {
  each = λ n life b e f.
      let (a, was) = up_too (of_node new.lives.items n) (of_node old.lives.items n) b f (sym (only.lives n)) in
      subst (λ l. KeepsReads (joint_life l) (joint_seen b)) (some_same (Up a) life (sym was ∙ e)) (kept_same a b (only.beside n a b was f) (ap node_of (only.maps n a b was f)));
}

module _ {D : Type 0} (n : ℕ) (P : Life → D → Life → D → Type 0) (old mid : Nodes D) (ch : ChangesNode n P old mid) (own : (b : WholeNode) → ch.life' ≡ Up b → KeepsReads (joint_life ch.life) (joint_seen b)) where
  -- One node was changed, and none besides.
  pub alone_keeps : ReadsKept old.lives.items mid.lives.items
  alone_keeps = record {
    each = λ m life b e f. ⊎_elim
        (λ (same : m ≡ n).
        let was : ch.life ≡ life = some_same ch.life life (sym ch.was ∙ ap (of_node old.lives.items) (sym same) ∙ e) in
        let is : ch.life' ≡ Up b = some_same ch.life' (Up b) (sym (life_there n P old mid ch) ∙ ap (of_node mid.lives.items) (sym same) ∙ f) in
        subst (λ l. KeepsReads (joint_life l) (joint_seen b)) was (own b is))
        (λ (other : m ≢ n).
        subst (λ l. KeepsReads (joint_life l) (joint_seen b)) (some_same (Up b) life (sym f ∙ life_else n P old mid ch m other ∙ e))
        (kept_same b b (same_reads b b refl) refl))
        (same_or m n);
  }

  -- and after it tickets of messages may have changed
  pub one_keeps : (on : View D) (change : List plain.Slot → List plain.Slot) (new : Nodes D) → OnlyTickets on change mid new → ReadsKept old.lives.items new.lives.items
  one_keeps on change new only = record {
    each = λ m life c e g.
        let (b, f) = up_too (of_node new.lives.items m) (of_node mid.lives.items m) c g (sym (only.lives m)) in
        kept_more (joint_life life) b c (alone_keeps.each m life b e f) (only.beside m b c f g) (ap node_of (only.maps m b c f g));
  }

-- what a node that stays up keeps
abbrev pub OwnKept : Life → Life → Type 0
OwnKept life life' = (b : WholeNode) → life' ≡ Up b → KeepsReads (joint_life life) (joint_seen b)

-- what a call that leaves the node up keeps
pub turns_keep : {T D : Type 0} (seen : D → Option (List ℕ)) (Did : Result T NodeFault → Node → D → Node → D → Type 0) (Maps : Result T NodeFault → WholeNode → D → WholeNode → D → Type 0)
    (result : Result T NodeFault) (life : Life) (before : D) (life' : Life) (after : D) → TurnsBy seen Did Maps result life before life' after
    → (b : WholeNode) → life' ≡ Up b → KeepsReads (joint_life life) (joint_seen b)
turns_keep {T} {D} seen Did Maps result life before life' after t b is = by result (sym t.is ∙ is) t.beside
  where
    so : KeepsReads (joint.Life.Up (joint_seen t.old)) (joint_seen t.new) → t.new ≡ b → KeepsReads (joint_life life) (joint_seen b)
    so kept same = subst (λ l. KeepsReads (joint_life l) (joint_seen b)) (sym t.was) (subst (λ (x : WholeNode). KeepsReads (joint.Life.Up (joint_seen t.old)) (joint_seen x)) same kept)

    by : (r : Result T NodeFault) → life_left r t.new ≡ Up b → (LeavesUp r → KeepsReads (joint.Life.Up (joint_seen t.old)) (joint_seen t.new)) → KeepsReads (joint_life life) (joint_seen b)
    by (Ok x) up kept = so (kept tt) (up_same t.new b up)
    by (Err Disk) up kept = absurd (let never : Down ≡ Up b = up in cc)
    by (Err Worn) up kept = so (kept tt) (up_same t.new b up)
    by (Err (NoMemory true)) up kept = absurd (let never : Down ≡ Up b = up in cc)
    by (Err (NoMemory false)) up kept = so (kept tt) (up_same t.new b up)

-- and in its epoch the node has the same
pub turns_same : (life life' : Life) → ((b : WholeNode) → life' ≡ Up b → KeepsReads (joint_life life) (joint_seen b)) → (a b : WholeNode) → life ≡ Up a → life' ≡ Up b → node_of b.maps ≡ node_of a.maps → HasSameReads a b
turns_same life life' own a b was is maps_are = kept_reads a b maps_are (subst (λ l. KeepsReads (joint_life l) (joint_seen b)) was (own b is))
