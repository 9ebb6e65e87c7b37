-- The moves that a step is made of: a node acts, or a letter is taken out.
use Rattle.std.specs.Prelude.{◌≡◌, ◌⊎◌, ◌≤◌, true, ℕ, List, [], ◌∷◌, ◌++◌, Option, Some}
use Rattle.std.specs.FinMap as map
use Rattle.object_model.specs.Lists.{Among}
use Rattle.object_model.specs.Letters.{Number, Letter}
use Rattle.cluster_model.specs.Claims.{boot_of}
use Rattle.login_model.specs.Readings.{Reading, ReadTicket, Subject, subject_of}
use Rattle.login_model.specs.Cluster.{Node, Slot, Cluster, slot_at, with_slot, LifeReads}
use Rattle.login_model.specs.Cluster.Life.{Up}
use Rattle.login_model.specs.Facts.{Fact, SlotShows, DrawnAt, subject_asked, is_told, fact_told, ReadingClaims, ReadingIsWhole, CountsMishap, AnswerAwaited, Covers, Covered, LifeWaits, NodesWait}

-- what a node did, or what befell it: the letter that it heard, and those that it sends
pub record NodeAct : Type 0 where
  pub node : ℕ
  pub before : Slot
  pub after : Slot
  pub heard : Option Letter
  pub out : List Letter

pub data Move : Type 0 where
  Acted : (act : NodeAct) → Move
  Taken : (letter : Letter) (left : List Letter) → Move

-- each act is a moment of the story
abbrev pub after_move : Move → Cluster → Cluster
after_move (Acted act) w = record { slots = with_slot w.slots act.node act.after; flying = w.flying ++ act.out; story = with_slot w.slots act.node act.after ∷ w.story }
after_move (Taken letter left) w = record w { flying = left }

-- What holds of a node alone: its boot is on its disk, its tickets have numbers that it drew, their readings are whole, and one that has failed counts a mishap.
pub record NodeInOrder (node : Node) (boot : ℕ) : Type 0 where
  pub booted : node.boot ≡ boot
  pub numbered : (seq : ℕ) (ticket : ReadTicket) → map.get node.reads seq ≡ Some ticket → seq ≤ node.calls
  pub whole : (seq : ℕ) (ticket : ReadTicket) → map.get node.reads seq ≡ Some ticket → ReadingIsWhole ticket.reading
  pub counts : (seq : ℕ) (ticket : ReadTicket) → map.get node.reads seq ≡ Some ticket → CountsMishap ticket

pub record IsInOrder (slot : Slot) : Type 0 where
  pub each : (node : Node) → slot.life ≡ Up node → NodeInOrder node (boot_of slot.disk)

-- the letter that was heard is such a letter
pub record Heard (act : NodeAct) (P : Letter → Type 0) : Type 0 where
  pub letter : Letter
  pub is : act.heard ≡ Some letter
  pub holds : P letter

-- What a reading counts on it counted on before, or it is true of the own node now, or the letter that was heard tells it.
abbrev pub IsBacked : NodeAct → Number → Reading → Reading → ℕ → Fact → Type 0
IsBacked act number old reading m fact = ReadingClaims act.node old m fact ⊎ ((m ≡ act.node) × SlotShows act.after fact)
    ⊎ Heard act (λ one. (one.from ≡ m) × (one.ticket ≡ Some number) × (fact_told one.body (subject_of reading) ≡ Some fact))

-- where the reading of a ticket comes from
pub data ReadFrom (act : NodeAct) (number : Number) (reading : Reading) : Type 0 where
  Moved : (old : Reading) → LifeReads act.before.life number old → subject_of old ≡ subject_of reading
      → ((m : ℕ) (fact : Fact) → ReadingClaims act.node reading m fact → IsBacked act number old reading m fact)
      → ReadFrom act number reading
  Begun : (DrawnAt act.before number → ⊥)
      → ((m : ℕ) (fact : Fact) → ReadingClaims act.node reading m fact → (m ≡ act.node) × SlotShows act.after fact)
      → ReadFrom act number reading

-- a letter asks for a ticket of the node, about its subject
pub record AsksOwn (act : NodeAct) (letter : Letter) (number : Number) (subject : Subject) : Type 0 where
  pub own : number.node ≡ act.node
  pub reading : Reading
  pub reads : LifeReads act.after.life number reading
  pub same : subject ≡ subject_of reading

-- A letter answers the letter that was heard, and tells what is true of the node now.
pub record AnswersHeard (act : NodeAct) (letter : Letter) : Type 0 where
  pub from : letter.from ≡ act.node
  pub subject : Subject
  pub heard : Heard act (λ one. (one.ticket ≡ letter.ticket) × (subject_asked one.body ≡ Some subject))
  pub true_ : (fact : Fact) → fact_told letter.body subject ≡ Some fact → SlotShows act.after fact

-- what a node may count on
pub record IsReady (n : ℕ) (before : Slot) (heard : Option Letter) : Type 0 where
  pub order : IsInOrder before
  pub came : (letter : Letter) → heard ≡ Some letter → letter.to ≡ n

-- what a node may do
pub record IsAct (act : NodeAct) : Type 0 where
  pub order : IsInOrder act.after
  pub drawn : (number : Number) → number.node ≡ act.node → DrawnAt act.before number → DrawnAt act.after number
  pub reads : (number : Number) (reading : Reading) → number.node ≡ act.node → LifeReads act.after.life number reading → ReadFrom act number reading
  pub asks : (letter : Letter) → Among letter act.out → (subject : Subject) → subject_asked letter.body ≡ Some subject → (number : Number) → letter.ticket ≡ Some number → AsksOwn act letter number subject
  pub tells : (letter : Letter) → Among letter act.out → is_told letter.body ≡ true → AnswersHeard act letter
  pub waits : (number : Number) → number.node ≡ act.node → (m : ℕ) (what : AnswerAwaited) → LifeWaits act.after.life number m what → LifeWaits act.before.life number m what ⊎ Covered act.out number m what

-- A letter that a call has heard is answered, or its ticket waits for it no more.
pub record SettlesLetter (act : NodeAct) : Type 0 where
  pub settled : (letter : Letter) → act.heard ≡ Some letter → (number : Number) (m : ℕ) (what : AnswerAwaited) → Covers letter number m what
      → Covered act.out number m what ⊎ ((number.node ≡ act.node) × (LifeWaits act.after.life number m what → ⊥))

pub record IsCallDone (act : NodeAct) : Type 0 where
  pub is : IsAct act
  pub settles : SettlesLetter act

-- where a move may be made
abbrev pub MayMove : Move → Cluster → Type 0
MayMove (Acted act) w = (slot_at w.slots act.node ≡ Some act.before) × (IsReady act.node act.before act.heard → IsAct act)
    × ((letter : Letter) → act.heard ≡ Some letter → Among letter w.flying × (letter.to ≡ act.node))
MayMove (Taken letter left) w = ((one : Letter) → Among one left → Among one w.flying)
    × ((one : Letter) → Among one w.flying → Among one left ⊎ (one ≡ letter))
    × ((number : Number) (m : ℕ) (what : AnswerAwaited) → Covers letter number m what → NodesWait w.slots number m what → Covered left number m what)

-- a list of moves
abbrev pub after_moves : List Move → Cluster → Cluster
after_moves [] w = w
after_moves (move ∷ moves) w = after_moves moves (after_move move w)

abbrev pub MayMoves : List Move → Cluster → Type 0
MayMoves [] w = Unit {0}
MayMoves (move ∷ moves) w = MayMove move w × MayMoves moves (after_move move w)
