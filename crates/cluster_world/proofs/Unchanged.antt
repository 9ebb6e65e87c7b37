-- What a step leaves that was refused.
use Rattle.std.proofs.Common.{◌≡◌, ◌≢◌, ⊎_elim, ℕ, Some, None, Err, refl, sym, ap, ◌∙◌, subst}
use Rattle.node_store.specs.Disks.{View}
use Rattle.node_core.specs.Nodes.{IsAsBefore}
use Rattle.node_core.specs.Works.{IsOnlyRead}
use Rattle.whole_node.specs.declared.node.WholeNode.{WholeNode}
use Rattle.world_book.specs.declared.book.Book.{Book}
use Rattle.cluster_world.specs.Books.{booked_by}
use Rattle.cluster_world.specs.Changes.{ChangesNode}
use Rattle.cluster_world.specs.Flights.{InFlight}
use Rattle.cluster_world.specs.Lives.{of_node}
use Rattle.cluster_world.specs.Worlds.{WorldState, state_with, memory_of_life}
use Rattle.cluster_world.specs.Steps.{IsUnchanged, ChangesNothing, reader_in}
use Rattle.cluster_world.specs.declared.life.Life.{Life}
use Rattle.cluster_world.specs.declared.life.Life.TheVariants.{Up}
use Rattle.cluster_world.specs.declared.nodes.Nodes.{Nodes}
use Rattle.cluster_world.specs.declared.step.Step.{Step}
use Rattle.cluster_world.specs.declared.step.Step.TheVariants.{Start}
use Rattle.cluster_world.specs.declared.fault.StepFault.{StepFault}
use Rattle.cluster_world.specs.declared.fault.StepFault.TheVariants as fault
use Rattle.cluster_world.proofs.Still.{some_same, nothing_read}
use Rattle.cluster_world.proofs.Turned.{same_or, life_there, disk_there, life_else, disk_else, each_disk}
use Rattle.node_maps.specs.Nodes.{node_of}
use Rattle.cluster_world.specs.Keeping.{HasSameReads}
use Rattle.cluster_world.proofs.SameReads.{memory_same}

-- a node is as it was
pub memory_kept : (l l' : Life) (a b : WholeNode) → l ≡ Up a → l' ≡ Up b → IsAsBefore a.mail b.mail → node_of b.maps ≡ node_of a.maps → HasSameReads a b → memory_of_life (Some l') ≡ memory_of_life (Some l)
memory_kept l l' a b was is same maps reads =
    ap (λ (x : Life). memory_of_life (Some x)) is ∙ ap Some (memory_same a b same.seen maps reads) ∙ sym (ap (λ (x : Life). memory_of_life (Some x)) was)

-- whatever it is refused for
pub changes_none : {D : Type 0} (on : View D) (why : StepFault) (step : Step) (old new : WorldState D) → IsUnchanged on step old new → ChangesNothing on (Err why) step old new
changes_none on fault.NoSuchNode step old new same = same
changes_none on fault.NodeLost step old new same = same
changes_none on fault.NodeDown step old new same = same
changes_none on fault.NodeUp step old new same = same
changes_none on fault.NoSuchLetter step old new same = same
changes_none on fault.NoSuchTicket step old new same = same
changes_none on fault.NotAGroup step old new same = same
changes_none on fault.Worn step old new same = same
changes_none on fault.NoRoom step old new same = same
changes_none on (fault.NoMemory None) step old new same = same
changes_none on (fault.NoMemory (Some failed)) step old new same = tt

module _ {D : Type 0} (n : ℕ) (P : Life → D → Life → D → Type 0) (old new : Nodes D) (ch : ChangesNode n P old new) (flying flying' : InFlight) (seconds seconds' : ℕ) (book book' : Book) where
  -- all is as it was, where this node is, and its disk
  pub unchanged_by : (on : View D) (step : Step) → memory_of_life (Some ch.life') ≡ memory_of_life (Some ch.life) → ((reader_in flying.flights step ≡ Some n → ⊥) → ch.disk' ≡ ch.disk)
      → (((node : ℕ) → step ≡ Start node → ⊥) → IsOnlyRead on ch.disk ch.disk' × (on.faults ch.disk' ≡ on.faults ch.disk)) → flying' ≡ flying → seconds' ≡ seconds → booked_by book' ≡ booked_by book
      → IsUnchanged on step (state_with old flying seconds book) (state_with new flying' seconds' book')
  unchanged_by on step node_is disk_is read flies clock wrote = record {
    nodes = λ m. ⊎_elim
        (λ (same : m ≡ n). subst (λ k. memory_of_life (of_node new.lives.items k) ≡ memory_of_life (of_node old.lives.items k)) (sym same)
        (ap memory_of_life (life_there n P old new ch) ∙ node_is ∙ sym (ap memory_of_life ch.was)))
        (λ (other : m ≢ n). ap memory_of_life (life_else n P old new ch m other))
        (same_or m n);
    disks = λ m d d' e f away. ⊎_elim
        (λ (same : m ≡ n).
        let was : ch.disk ≡ d = some_same ch.disk d (sym ch.held ∙ ap (of_node old.disks.items) (sym same) ∙ e) in
        let now : ch.disk' ≡ d' = some_same ch.disk' d' (sym (disk_there n P old new ch) ∙ ap (of_node new.disks.items) (sym same) ∙ f) in
        sym now ∙ disk_is (λ reads. away (reads ∙ ap Some (sym same))) ∙ was)
        (λ (other : m ≢ n). some_same d' d (sym f ∙ disk_else n P old new ch m other ∙ e))
        (same_or m n);
    reads = λ m d d' e f other. each_disk n P old new ch (λ x x'. IsOnlyRead on x x' × (on.faults x' ≡ on.faults x)) (λ x. (nothing_read on x x refl, refl)) (read other) m d d' e f;
    flying = flies;
    seconds = clock;
    book = wrote;
  }
