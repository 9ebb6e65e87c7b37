-- A promise is recorded, and the node is as it was.
use Rattle.std.proofs.Common.{◌∷◌, [], refl}
use Rattle.std.proofs.lemmas.List.Elements.{All-nil, All-cons, All-append}
use Rattle.mail_model.specs.Identity.{EpochId}
use Rattle.mail_model.specs.Grammar.{IsEpoch, IsRecord}
use Rattle.mail_model.specs.Record.Record.{Promise}
use Rattle.node_store.specs.Disks.{View}
use Rattle.node_store.specs.Changes.{with_promise}
use Rattle.node_store.specs.Writes.{Done, WorkIsCutShort}
use Rattle.node_store.specs.declared.store.NodeStore.{NodeStore}
use Rattle.node_core.specs.Nodes.{IsWhole}
use Rattle.node_core.specs.Works.{NodeDid, NodeStopped}
use Rattle.node_core.specs.Promising.{promising}
use Rattle.node_core.specs.declared.node.Node.{Node}
use Rattle.node_core.proofs.Doing.{did_by, stopped_by}
use Rattle.node_core.proofs.Sending.{none_fit}

module _ {D : Type 0} (on : View D) (epoch : EpochId) (old : Node) (before after : D) where
  abbrev stored : NodeStore → Node
  stored store = record { shape = old.shape; numbers = old.numbers; store = store; tickets = old.tickets }

  pub promise_did : (store : NodeStore) → Done on (with_promise epoch) old.store before store after → IsWhole old → NodeDid on (promising epoch) old before (stored store) after []
  promise_did store d whole = did_by on (promising epoch) (with_promise epoch) old before (stored store) after [] d (λ records k. refl) (λ records k. refl) (λ records k. refl)
      (record { boot = refl; shape = refl; tickets = λ own boot confirm is. is }) whole none_fit

  pub promise_stopped : IsEpoch epoch → WorkIsCutShort on (with_promise epoch) old.store before after → NodeStopped on (promising epoch) old before after
  promise_stopped fits d = stopped_by on (promising epoch) (with_promise epoch) old before after d (λ records k. refl)
      (λ records k. All-append IsRecord records (Promise epoch ∷ []) k.fit (All-cons IsRecord (Promise epoch) [] fits (All-nil IsRecord)))
