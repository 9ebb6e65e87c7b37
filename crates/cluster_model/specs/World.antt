-- A world: a cluster with numbers for its letters, and the seconds. What befalls its letters, and when a cluster leads to another by moves.
use Rattle.std.specs.Prelude.{◌≡◌, ◌⊎◌, ℕ, ◌+◌, Bool, true, false, nat_eq, List, [], ◌∷◌, ◌++◌, map, Option, Some, None, if◌then◌else◌}
use Rattle.mail_model.specs.Identity.{Id}
use Rattle.mail_model.specs.Record.{Record}
use Rattle.mail_model.specs.Book.{BookEntry}
use Rattle.object_model.specs.Letters.{Number, Letter}
use Rattle.object_model.specs.Mishaps.{MishapKind}
use Rattle.object_model.specs.Mishaps.MishapKind.{Crowded}
use Rattle.cluster_model.specs.Cluster.{Life, Slot, Cluster, slot_at, with_slot}
use Rattle.cluster_model.specs.Cluster.Life.{Up, Down, Lost}
use Rattle.cluster_model.specs.Moves.{Move, after_moves, MayMoves}
use Rattle.cluster_model.specs.Parts.{IsHeldSomewhere, Sound}
use Rattle.cluster_model.specs.Rules.{mishap}
use Rattle.cluster_model.specs.Deeds.{slot_up}
use Rattle.cluster_model.specs.Room.{Flight}

-- `sent` is the number of the last letter, and `seconds` are those of the last Tick.
pub record World : Type 0 where
  pub slots : List Slot
  pub flying : List Flight
  pub sent : ℕ
  pub seconds : ℕ
  pub book : List BookEntry

abbrev pub letters_of : List Flight → List Letter
letters_of flying = map (λ flight. flight.letter) flying

-- the machine sees letters without numbers
abbrev pub cluster_of : World → Cluster
cluster_of w = record { slots = w.slots; flying = letters_of w.flying; book = w.book }

-- One cluster comes from another by moves that may be made. What it holds it held, or `May` allows.
pub record Leads (confirm : ℕ) (May : Id → List ℕ → Type 0) (old new : Cluster) : Type 0 where
  pub moves : List Move
  pub may : MayMoves confirm moves old
  pub is : new ≡ after_moves moves old
  pub brings : Sound confirm old → (id : Id) (octets : List ℕ) → IsHeldSomewhere new.slots new.flying id octets → IsHeldSomewhere old.slots old.flying id octets ⊎ May id octets

-- the end of a letter that is not the node of its ticket
abbrev pub other_end : Letter → Number → ℕ
other_end letter number = if nat_eq letter.from number.node then letter.to else letter.from

abbrev pub missed_by : MishapKind → List Slot → ℕ → Number → List Record → Life → List Slot
missed_by kind slots at number disk (Up node) =
    if nat_eq number.boot node.boot
    then with_slot slots number.node (slot_up (mishap kind number.seq at node disk).node (mishap kind number.seq at node disk).disk)
    else slots
missed_by kind slots at number disk (Down pending) = slots
missed_by kind slots at number disk Lost = slots

abbrev pub missed_at : MishapKind → List Slot → ℕ → Number → Option Slot → List Slot
missed_at kind slots at number None = slots
missed_at kind slots at number (Some slot) = missed_by kind slots at number slot.disk slot.life

abbrev pub missed_under : MishapKind → List Slot → Letter → Option Number → List Slot
missed_under kind slots letter None = slots
missed_under kind slots letter (Some number) = missed_at kind slots (other_end letter number) number (slot_at slots number.node)

-- the mishap of a letter is noted at its ticket, if that stands
abbrev pub missed : MishapKind → List Slot → Letter → List Slot
missed kind slots letter = missed_under kind slots letter letter.ticket

-- Letters are put in flight one by one, in their order. One that finds no room has a mishap, and no number.
abbrev pub put : (List Flight → Letter → Bool) → List Letter → World → World
put room [] w = w
put room (letter ∷ letters) w =
    if room w.flying letter
    then put room letters (record w { flying = w.flying ++ record { number = w.sent + 1; letter = letter } ∷ []; sent = w.sent + 1 })
    else put room letters (record w { slots = missed Crowded w.slots letter })

-- a letter is put in flight, under the next number
abbrev pub with_letter : World → Letter → World
with_letter w letter = record w { flying = w.flying ++ record { number = w.sent + 1; letter = letter } ∷ []; sent = w.sent + 1 }

-- where a letter is in flight
pub record Flies (w : World) (number : ℕ) : Type 0 where
  pub front : List Flight
  pub letter : Letter
  pub back : List Flight
  pub is : w.flying ≡ front ++ record { number = number; letter = letter } ∷ back

-- what flies on: a letter that is posted and kept does
abbrev pub flies_on : (w : World) (number : ℕ) → Flies w number → Bool → List Flight
flies_on w number f true = w.flying
flies_on w number f false = f.front ++ f.back
