-- The moves that a step is made of: a node acts, a letter is taken out, an entry is added to the book.
use Rattle.std.specs.Prelude.{◌≡◌, ◌≢◌, ◌⊎◌, ◌≤◌, ℕ, true, List, [], ◌∷◌, ◌++◌, Option, Some}
use Rattle.std.specs.FinMap as fin
use Rattle.mail_model.specs.Identity.{Id, Key, State}
use Rattle.mail_model.specs.Lines.{ends_in_crlf}
use Rattle.mail_model.specs.Record.{Record}
use Rattle.mail_model.specs.Record.Record.{Boot, Stated}
use Rattle.mail_model.specs.Book.{BookEntry}
use Rattle.mail_model.specs.Book.BookEntry.{Acknowledged, Struck, Dropped, WentDown, CameUp, WasLost}
use Rattle.object_model.specs.Sets.{has, count_in}
use Rattle.object_model.specs.Lists.{Among}
use Rattle.mail_model.specs.Grammar.{IsOfKind}
use Rattle.object_model.specs.Said.{said}
use Rattle.object_model.specs.Letters.{Number, Body, Letter}
use Rattle.object_model.specs.Letters.Body.{File, Filed, Push}
use Rattle.object_model.specs.UpdateLog.{Logged}
use Rattle.cluster_model.specs.Cluster.{NodeFiling, AskedOfNodes, Want, Node, Life, Slot, Cluster, slot_at, with_slot}
use Rattle.cluster_model.specs.Cluster.AskedOfNodes.{Copies, Deletion}
use Rattle.cluster_model.specs.Cluster.Life.{Up, Lost}
use Rattle.cluster_model.specs.Claims.{Fact, SaysFact, SlotClaims, LetterClaims, IsFile, Wants, SlotHolds, LetterHolds, AreOf, boot_of, DrawnAt, SlotSpeaks, LetterSpeaks, LifeWaits, NodesWait, Covers, Covered, all_records}
use Rattle.cluster_model.specs.Claims.Fact.{HasCopies}

-- a message that a call files
pub record Content : Type 0 where
  pub id : Id
  pub users : List (List ℕ)
  pub octets : List ℕ

-- What a node did, or what befell it: the letter that it heard, those that it sends, the message that the call files and the copies that it begins to delete.
pub record NodeAct : Type 0 where
  pub node : ℕ
  pub before : Slot
  pub after : Slot
  pub heard : Option Letter
  pub out : List Letter
  pub files : Option Content
  pub strikes : List (List ℕ × Id)

-- A letter that a node sent flies until it is taken out: where it found no room, at once, after its mishap.
pub data Move : Type 0 where
  Acted : (act : NodeAct) → Move
  Taken : (letter : Letter) (left : List Letter) → Move
  Entered : (entry : BookEntry) → Move

abbrev pub after_move : Move → Cluster → Cluster
after_move (Acted act) w = record w { slots = with_slot w.slots act.node act.after; flying = w.flying ++ act.out }
after_move (Taken letter left) w = record w { flying = left }
after_move (Entered entry) w = record w { book = w.book ++ entry ∷ [] }

-- what holds of a node alone: its boot is on its disk, and its log is of states that its disk says
pub record IsInOrder (slot : Slot) : Type 0 where
  pub booted : (node : Node) → slot.life ≡ Up node → node.boot ≡ boot_of slot.disk
  pub rises : boot_of slot.disk ≤ boot_of (all_records slot)
  pub logged : (node : Node) → slot.life ≡ Up node → (key : Key) (entry : Logged) → fin.get node.log key ≡ Some entry → said key slot.disk ≡ Some entry.state
  pub owed : (node : Node) → slot.life ≡ Up node → (key : Key) (entry : Logged) → fin.get node.log key ≡ Some entry → (m : ℕ) → has entry.remaining m ≡ true → has entry.state.targets m ≡ true

-- node n is among the targets of all states on its disk
pub record SlotFits (n : ℕ) (slot : Slot) : Type 0 where
  pub target : (key : Key) (state : State) → Among (Stated key state) (all_records slot) → has state.targets n ≡ true
  pub kind : (key : Key) (state : State) → Among (Stated key state) (all_records slot) → IsOfKind key state.value

-- and of those that it is sent
abbrev pub BodyFits : ℕ → Body → Type 0
BodyFits to (File id stamp targets users octets) = has targets to ≡ true
BodyFits to (Push key state octets) = (has state.targets to ≡ true) × IsOfKind key state.value
BodyFits to body = Unit {0}

abbrev pub LetterFits : Letter → Type 0
LetterFits letter = BodyFits letter.to letter.body

-- the letter that was heard is such a letter
pub record Heard (act : NodeAct) (P : Letter → Type 0) : Type 0 where
  pub letter : Letter
  pub is : act.heard ≡ Some letter
  pub holds : P letter

-- these octets are of the message that the call files
pub record Brings (act : NodeAct) (id : Id) (octets : List ℕ) : Type 0 where
  pub content : Content
  pub is : act.files ≡ Some content
  pub same_id : content.id ≡ id
  pub same_octets : content.octets ≡ octets

-- where octets come from: the disk, the letter that was heard, or the call
abbrev pub ComesFrom : NodeAct → Id → List ℕ → Type 0
ComesFrom act id octets = SlotHolds act.before id octets ⊎ Heard act (λ letter. LetterHolds letter id octets) ⊎ Brings act id octets

-- the filing of the message that the call files
pub record Opens (act : NodeAct) (filing : NodeFiling) : Type 0 where
  pub content : Content
  pub is : act.files ≡ Some content
  pub same_id : content.id ≡ filing.id
  pub same_users : content.users ≡ filing.users
  pub octets : AreOf filing.size filing.digest content.octets

-- a ticket of this life asks for copies
pub record LifeWants (life : Life) (filing : NodeFiling) : Type 0 where
  pub seq : ℕ
  pub want : Want
  pub stands : Wants life seq want
  pub is : want.asked ≡ Copies filing

-- One id has one content, and is drawn once.
pub record KeepsContents (act : NodeAct) : Type 0 where
  pub drawn : (id : Id) → DrawnAt act.before id → DrawnAt act.after id
  pub fresh : (content : Content) → act.files ≡ Some content → (content.id.node ≡ act.node) × (DrawnAt act.before content.id → ⊥) × DrawnAt act.after content.id
  pub ended : (content : Content) → act.files ≡ Some content → ends_in_crlf content.octets ≡ true
  pub held : (id : Id) (octets : List ℕ) → SlotHolds act.after id octets → ComesFrom act id octets
  pub sent : (letter : Letter) → Among letter act.out → (id : Id) (octets : List ℕ) → LetterHolds letter id octets → ComesFrom act id octets
  pub wanted : (filing : NodeFiling) → LifeWants act.after.life filing → LifeWants act.before.life filing ⊎ Opens act filing

-- a File that goes out is of the message that the call files, and a Filed answers the File that was heard
pub record AnswersFiles (act : NodeAct) : Type 0 where
  pub file : (letter : Letter) → Among letter act.out → (id : Id) (users : List (List ℕ)) → IsFile letter id users
      → (content : Content) × (act.files ≡ Some content) × (content.id ≡ id) × (content.users ≡ users)
  pub filed : (letter : Letter) → Among letter act.out → (id : Id) → letter.body ≡ Filed id
      → (letter.from ≡ act.node) × ((users : List (List ℕ)) × Heard act (λ one. IsFile one id users) × SaysFact act.after.disk (HasCopies users id))

-- What is claimed was claimed before, or by the letter that was heard, or the node's own disk says it.
abbrev pub IsBacked : NodeAct → ℕ → Fact → Type 0
IsBacked act m fact = SlotClaims act.node act.before m fact ⊎ ((m ≡ act.node) × SaysFact act.after.disk fact) ⊎ Heard act (λ letter. LetterClaims letter m fact)

-- or a Filed was heard for a ticket that stood
pub record IsFactConfirmed (act : NodeAct) (m : ℕ) (fact : Fact) : Type 0 where
  pub filing : NodeFiling
  pub stood : LifeWants act.before.life filing
  pub heard : Heard act (λ letter. (letter.from ≡ m) × (letter.body ≡ Filed filing.id))
  pub is : HasCopies filing.users filing.id ≡ fact

pub record BacksClaims (act : NodeAct) : Type 0 where
  pub claimed : (m : ℕ) (fact : Fact) → SlotClaims act.node act.after m fact → IsBacked act m fact ⊎ IsFactConfirmed act m fact
  pub sent : (letter : Letter) → Among letter act.out → (m : ℕ) (fact : Fact) → LetterClaims letter m fact → IsBacked act m fact

-- what speaks of a deletion did so before, or was heard, or is begun by the call
abbrev pub IsSpoken : NodeAct → List ℕ → Id → Type 0
IsSpoken act user id = SlotSpeaks act.before user id ⊎ Heard act (λ letter. LetterSpeaks letter user id) ⊎ Among (user, id) act.strikes

pub record SpeaksAsStruck (act : NodeAct) : Type 0 where
  pub spoken : (user : List ℕ) (id : Id) → SlotSpeaks act.after user id → IsSpoken act user id
  pub sent : (letter : Letter) → Among letter act.out → (user : List ℕ) (id : Id) → LetterSpeaks letter user id → IsSpoken act user id

-- the receiver is a target
pub record KeepsFit (act : NodeAct) : Type 0 where
  pub slot : SlotFits act.node act.after
  pub sent : (letter : Letter) → Among letter act.out → LetterFits letter

-- Who is waited for was waited for, or is sent a letter.
pub record KeepsWaits (act : NodeAct) : Type 0 where
  pub waits : (number : Number) → number.node ≡ act.node → (m : ℕ) (asked : AskedOfNodes) → LifeWaits act.after.life number m asked
      → LifeWaits act.before.life number m asked ⊎ Covered act.out number m asked

-- what a node may count on: that it is in order, and that it and the letter that it hears fit
pub record IsReady (n : ℕ) (before : Slot) (heard : Option Letter) : Type 0 where
  pub order : IsInOrder before
  pub fits : SlotFits n before
  pub heard_fits : (letter : Letter) → heard ≡ Some letter → LetterFits letter

-- What a node may do. The disk only grows, and whoever is lost does nothing.
pub record IsAct (act : NodeAct) : Type 0 where
  pub was : act.before.life ≢ Lost
  pub grows : (added : List Record) × (act.after.disk ≡ act.before.disk ++ added)
  -- a node that is up begins no other boot
  pub bootless : (node : Node) → act.before.life ≡ Up node → (boot : ℕ) → Among (Boot boot) grows.0 → ⊥
  pub order : IsInOrder act.after
  pub contents : KeepsContents act
  pub files : AnswersFiles act
  pub claims : BacksClaims act
  pub deletions : SpeaksAsStruck act
  pub fit : KeepsFit act
  pub waits : KeepsWaits act

-- A letter that a call has heard is answered, or its ticket waits for it no more.
pub record SettlesLetter (act : NodeAct) : Type 0 where
  pub settled : (letter : Letter) → act.heard ≡ Some letter → (number : Number) (m : ℕ) (asked : AskedOfNodes) → Covers letter number m asked
      → Covered act.out number m asked ⊎ ((number.node ≡ act.node) × (LifeWaits act.after.life number m asked → ⊥))

-- a call that was done to its end
pub record IsCallDone (act : NodeAct) : Type 0 where
  pub is : IsAct act
  pub settles : SettlesLetter act

-- which entries may be added
abbrev pub MayEnter : ℕ → BookEntry → List Slot → Type 0
MayEnter confirm (Acknowledged copy) slots = (filing : NodeFiling) × (node : ℕ) × (slot : Slot) × (seq : ℕ) × (want : Want)
    × (slot_at slots node ≡ Some slot) × Wants slot.life seq want × (want.asked ≡ Copies filing) × Among copy.user filing.users
    × (copy.id ≡ filing.id) × (copy.size ≡ filing.size) × (copy.digest ≡ filing.digest) × (copy.confirmers ≡ want.confirmed) × (confirm ≤ count_in want.confirmed)
MayEnter confirm (Struck user id) slots = Unit {0}
MayEnter confirm (Dropped user id confirmers) slots = (node : ℕ) × (slot : Slot) × (seq : ℕ) × (want : Want)
    × (slot_at slots node ≡ Some slot) × Wants slot.life seq want × (want.asked ≡ Deletion user id) × (confirmers ≡ want.confirmed) × (confirm ≤ count_in want.confirmed)
MayEnter confirm (WentDown node) slots = Unit {0}
MayEnter confirm (CameUp node boot) slots = Unit {0}
MayEnter confirm (WasLost node) slots = Unit {0}

-- where a move may be made; F is `confirm`
abbrev pub MayMove : ℕ → Move → Cluster → Type 0
MayMove confirm (Acted act) w = (slot_at w.slots act.node ≡ Some act.before) × (IsReady act.node act.before act.heard → IsAct act)
    × ((letter : Letter) → act.heard ≡ Some letter → Among letter w.flying)
    × ((user : List ℕ) (id : Id) → Among (user, id) act.strikes → Among (Struck user id) w.book)
MayMove confirm (Taken letter left) w = ((one : Letter) → Among one left → Among one w.flying)
    × ((one : Letter) → Among one w.flying → Among one left ⊎ (one ≡ letter))
    × ((number : Number) (m : ℕ) (asked : AskedOfNodes) → Covers letter number m asked → NodesWait w.slots number m asked → Covered left number m asked)
MayMove confirm (Entered entry) w = MayEnter confirm entry w.slots

-- a list of moves
abbrev pub after_moves : List Move → Cluster → Cluster
after_moves [] w = w
after_moves (move ∷ moves) w = after_moves moves (after_move move w)

abbrev pub MayMoves : ℕ → List Move → Cluster → Type 0
MayMoves confirm [] w = Unit {0}
MayMoves confirm (move ∷ moves) w = MayMove confirm move w × MayMoves confirm moves (after_move move w)
