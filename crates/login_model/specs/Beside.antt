-- What a cluster does otherwise, in one step: any of its nodes may work, fall, stop or start in it, and each keeps its tickets of calls that read as long as it is up.
use Rattle.std.specs.Prelude.{◌≡◌, ◌≤◌, ◌<◌, ◌⊎◌, ℕ, List, ◌∷◌, Some}
use Rattle.std.specs.FinMap as map
use Rattle.object_model.specs.Lists.{Among}
use Rattle.object_model.specs.Letters.{Letter}
use Rattle.cluster_model.specs.Claims.{boot_of}
use Rattle.login_model.specs.Cluster.{Node, Slot, Cluster, slot_at}
use Rattle.login_model.specs.Cluster.Life.{Up}
use Rattle.login_model.specs.Parts.{Sound}
use Rattle.login_model.specs.NodeLaws.{IsOtherLetter}

-- What becomes of a node: it stays up with its tickets; it is not up any more, or was not; or it starts in a later boot, without tickets.
pub data TurnsBeside (before after : Slot) : Type 0 where
  Works : (old new : Node) → before.life ≡ Up old → after.life ≡ Up new → new.boot ≡ old.boot → old.calls ≤ new.calls → new.reads ≡ old.reads → boot_of after.disk ≡ boot_of before.disk
      → TurnsBeside before after
  IsOff : ((node : Node) → after.life ≡ Up node → ⊥) → boot_of before.disk ≤ boot_of after.disk → TurnsBeside before after
  Starts : (new : Node) → ((node : Node) → before.life ≡ Up node → ⊥) → after.life ≡ Up new → new.boot ≡ boot_of after.disk → boot_of before.disk < new.boot → new.reads ≡ map.empty
      → TurnsBeside before after

-- No letter that asks or tells comes or goes. The step is one moment of the story.
pub record IsBeside (old new : Cluster) : Type 0 where
  pub turns : (n : ℕ) (after : Slot) → slot_at new.slots n ≡ Some after → (before : Slot) × (slot_at old.slots n ≡ Some before) × TurnsBeside before after
  pub stays : (n : ℕ) (before : Slot) → slot_at old.slots n ≡ Some before → (after : Slot) × (slot_at new.slots n ≡ Some after)
  pub kept : (letter : Letter) → Among letter old.flying → IsOtherLetter letter ⊎ Among letter new.flying
  pub came : (letter : Letter) → Among letter new.flying → IsOtherLetter letter ⊎ Among letter old.flying
  pub story : new.story ≡ new.slots ∷ old.story

-- A sound cluster stays sound in it.
abbrev pub BesideKeepsSound : Type 0
BesideKeepsSound = (old new : Cluster) → IsBeside old new → Sound old → Sound new
