-- A letter of any kind that is heard, and which letters can be.
use Rattle.std.specs.Prelude.{◌≡◌, ℕ, List, All, false, Option, Some, Result, Ok, Err}
use Rattle.object_model.specs.Letters.{Letter}
use Rattle.cluster_model.specs.Forms.{IsMapsBody}
use Rattle.cluster_model.specs.Thrown as plain
use Rattle.cluster_model.specs.Thrown.{is_stale, with_stamps}
use Rattle.whole_model.specs.Rules.{IsMailBody}
use Rattle.node_store.specs.Disks.{View}
use Rattle.node_core.specs.Hearing.{HearsLetter, LetterThrown}
use Rattle.node_core.specs.Nodes.{node_seen}
use Rattle.node_core.specs.Spelling.{CanBeTaken}
use Rattle.node_core.specs.declared.fault.NodeFault.{NodeFault}
use Rattle.node_core.specs.declared.node.Node.{Node}
use Rattle.node_core.specs.declared.outbox.Outbox.{Outbox}
use Rattle.node_core.specs.declared.outbox.Why.{Why}
use Rattle.node_core.specs.declared.outbox.Why.TheVariants.{Stale}
use Rattle.cluster_model.specs.Deeds.{hear}
use Rattle.whole_node.specs.Following.{FollowsLetter}
use Rattle.whole_node.specs.Hearing.{FitsMaps, HearsOfMaps}
use Rattle.whole_node.specs.declared.node.WholeNode.{WholeNode}
use Rattle.cluster_world.specs.Forming.{HasFormed, StopsForming}

-- its receiver can take what it says, and one of membership or maps fits
pub record CanBeHeard (letter : Letter) : Type 0 where
  pub taken : CanBeTaken letter.body
  pub fits : FitsMaps letter

abbrev pub AllCanBeHeard : List Letter → Type 0
AllCanBeHeard letters = All (λ letter. CanBeHeard letter) letters

module _ {D : Type 0} (on : View D) (own nodes : ℕ) (letter : Letter) (old : Node) (before : D) (new : Node) (after : D) where
  -- One of membership or maps was looked at: it was heard, or refused. One that is old is answered all the same.
  pub record IsLookedAt (sent : List Letter) : Type 0 where
    pub within : is_stale letter (node_seen old).installed ≡ false
    pub formed : HasFormed on (with_stamps letter.body) old before new after sent

  abbrev pub LookedAtOrStale : Option Why → List Letter → Type 0
  LookedAtOrStale (Some Stale) sent = LetterThrown on own nodes letter old before new after plain.Why.Stale sent
  LookedAtOrStale thrown sent = IsLookedAt sent

  abbrev pub HearsForMaps : Result Outbox NodeFault → Type 0
  HearsForMaps (Ok outbox) = LookedAtOrStale outbox.thrown outbox.letters
  HearsForMaps (Err fault) = StopsForming on (with_stamps letter.body) old before new after (is_stale letter (node_seen old).installed ≡ false) fault

  -- the letter is of messages, or of membership and maps, and heard so
  pub data HearsAny (result : Result Outbox NodeFault) : Type 0 where
    OfMessages : IsMailBody letter.body → HearsLetter on own nodes letter old before new after result → HearsAny result
    OfMaps : IsMapsBody letter.body → HearsForMaps result → HearsAny result

-- The maps of a node that heard a letter: they follow the records that one of messages made it append, and one of membership or maps is heard by the machine's rule.
pub record HearsWhole {D : Type 0} (on : View D) (own nodes : ℕ) (letter : Letter) (result : Result Outbox NodeFault) (old : WholeNode) (before : D) (new : WholeNode) (after : D) : Type 0 where
  pub mail : IsMailBody letter.body → FollowsLetter (λ node disk. hear own nodes node disk letter) result old new
  pub maps : IsMapsBody letter.body → HearsOfMaps on letter old before new after result
