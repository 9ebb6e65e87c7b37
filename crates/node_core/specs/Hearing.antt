-- What a node does with a letter.
use Rattle.std.specs.Prelude.{◌≡◌, ℕ, List, [], Option, Some, None, Result, Ok, Err}
use Rattle.object_model.specs.Letters.{Letter}
use Rattle.cluster_model.specs.Thrown as plain
use Rattle.cluster_model.specs.Thrown.{thrown_by}
use Rattle.cluster_model.specs.Deeds.{hear}
use Rattle.node_store.specs.Disks.{View}
use Rattle.node_core.specs.Nodes.{node_seen, IsAsBefore}
use Rattle.node_core.specs.Works.{NodeDid, NodeFailed}
use Rattle.node_core.specs.declared.fault.NodeFault.{NodeFault}
use Rattle.node_core.specs.declared.outbox.Why.{Why}
use Rattle.node_core.specs.declared.outbox.Why.TheVariants.{Down, Stale, Old, NotPromised, NotMember, Late}
use Rattle.node_core.specs.declared.outbox.Outbox.{Outbox}
use Rattle.node_core.specs.declared.node.Node.{Node}

abbrev pub why_seen : Why → plain.Why
why_seen Down = plain.Why.WhileDown
why_seen Stale = plain.Why.Stale
why_seen Old = plain.Why.Old
why_seen NotPromised = plain.Why.NotPromised
why_seen NotMember = plain.Why.NotMember
why_seen Late = plain.Why.Late

module _ {D : Type 0} (on : View D) (own nodes : ℕ) (letter : Letter) (old : Node) (before : D) (new : Node) (after : D) where
  -- the letter was heard
  pub record LetterHeard (sent : List Letter) : Type 0 where
    pub taken : thrown_by own (node_seen old) letter ≡ None
    pub did : NodeDid on (λ node disk. hear own nodes node disk letter) old before new after sent

  -- it was thrown, and changed nothing
  pub record LetterThrown (why : plain.Why) (sent : List Letter) : Type 0 where
    pub thrown : thrown_by own (node_seen old) letter ≡ Some why
    pub none : sent ≡ []
    pub as_before : IsAsBefore old new
    pub untouched : after ≡ before

  abbrev pub HeardOrThrown : Option Why → List Letter → Type 0
  HeardOrThrown None sent = LetterHeard sent
  HeardOrThrown (Some why) sent = LetterThrown (why_seen why) sent

  -- A letter is heard, or thrown for the first reason that applies. Its work stops only where it is heard.
  abbrev pub HearsLetter : Result Outbox NodeFault → Type 0
  HearsLetter (Ok outbox) = HeardOrThrown outbox.thrown outbox.letters
  HearsLetter (Err fault) = NodeFailed on (λ node disk. hear own nodes node disk letter) (thrown_by own (node_seen old) letter ≡ None) fault old before new after
