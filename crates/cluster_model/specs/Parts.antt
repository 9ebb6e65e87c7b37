-- The parts of the invariant, each over the fields that it reads.
use Rattle.std.specs.Prelude.{◌≡◌, ◌⊎◌, ◌≤◌, true, ℕ, List, Some}
use Rattle.mail_model.specs.Identity.{Id}
use Rattle.mail_model.specs.Lines.{ends_in_crlf}
use Rattle.mail_model.specs.Book.{Acked, BookEntry}
use Rattle.mail_model.specs.Book.BookEntry.{Acknowledged, Struck, Dropped}
use Rattle.object_model.specs.Sets.{count_in}
use Rattle.object_model.specs.Lists.{Among}
use Rattle.object_model.specs.Letters.{Number, Letter}
use Rattle.object_model.specs.Letters.Body.{Filed}
use Rattle.cluster_model.specs.Cluster.{NodeFiling, AskedOfNodes, Slot, Cluster, slot_at}
use Rattle.cluster_model.specs.Claims.{Fact, FactStands, NodesClaim, LetterClaims, EntryClaims, IsFile, NodesWant, SlotHolds, LetterHolds, AreOf, IsIdDrawn, SlotSpeaks, LetterSpeaks, NodesWait, Covered}
use Rattle.cluster_model.specs.Claims.Fact.{HasCopies}
use Rattle.cluster_model.specs.Moves.{IsInOrder, SlotFits, LetterFits}

-- each node is in order
pub record AllInOrder (slots : List Slot) : Type 0 where
  pub each : (n : ℕ) (slot : Slot) → slot_at slots n ≡ Some slot → IsInOrder slot

-- some disk holds these octets of the id, or a letter in flight does
pub record IsHeldSomewhere (slots : List Slot) (flying : List Letter) (id : Id) (octets : List ℕ) : Type 0 where
  pub where_ : ((n : ℕ) × (slot : Slot) × (slot_at slots n ≡ Some slot) × SlotHolds slot id octets)
      ⊎ ((letter : Letter) × Among letter flying × LetterHolds letter id octets)

-- One id has one content, which ends in CRLF and is that of its ticket and of the book; and its node drew it.
pub record Contents (slots : List Slot) (flying : List Letter) (book : List BookEntry) : Type 0 where
  pub one : (id : Id) (octets others : List ℕ) → IsHeldSomewhere slots flying id octets → IsHeldSomewhere slots flying id others → octets ≡ others
  pub ended : (id : Id) (octets : List ℕ) → IsHeldSomewhere slots flying id octets → ends_in_crlf octets ≡ true
  pub wanted : (filing : NodeFiling) (octets : List ℕ) → NodesWant slots filing → IsHeldSomewhere slots flying filing.id octets → AreOf filing.size filing.digest octets
  pub acked : (copy : Acked) (octets : List ℕ) → Among (Acknowledged copy) book → IsHeldSomewhere slots flying copy.id octets → AreOf copy.size copy.digest octets
  pub held_drawn : (id : Id) (octets : List ℕ) → IsHeldSomewhere slots flying id octets → IsIdDrawn slots id
  pub wanted_drawn : (filing : NodeFiling) → NodesWant slots filing → IsIdDrawn slots filing.id
  pub acked_drawn : (copy : Acked) → Among (Acknowledged copy) book → IsIdDrawn slots copy.id
  pub filed_drawn : (letter : Letter) → Among letter flying → (id : Id) → letter.body ≡ Filed id → IsIdDrawn slots id

-- what speaks of a deletion was struck by the book
pub record Deletions (slots : List Slot) (flying : List Letter) (book : List BookEntry) : Type 0 where
  pub disks : (n : ℕ) (slot : Slot) → slot_at slots n ≡ Some slot → (user : List ℕ) (id : Id) → SlotSpeaks slot user id → Among (Struck user id) book
  pub letters : (letter : Letter) → Among letter flying → (user : List ℕ) (id : Id) → LetterSpeaks letter user id → Among (Struck user id) book

-- what is claimed of a node stands
pub record Claims (slots : List Slot) (flying : List Letter) (book : List BookEntry) : Type 0 where
  pub nodes : (m : ℕ) (fact : Fact) → NodesClaim slots m fact → FactStands slots m fact
  pub letters : (letter : Letter) → Among letter flying → (m : ℕ) (fact : Fact) → LetterClaims letter m fact → FactStands slots m fact
  -- a File in flight is for the users of the ticket that asks for it, and so is the Filed that answers it
  pub files : (letter : Letter) → Among letter flying → (filing : NodeFiling) (users : List (List ℕ)) → NodesWant slots filing → IsFile letter filing.id users → users ≡ filing.users
  pub filed : (letter : Letter) → Among letter flying → (filing : NodeFiling) → NodesWant slots filing → letter.body ≡ Filed filing.id → FactStands slots letter.from (HasCopies filing.users filing.id)
  pub booked : (entry : BookEntry) → Among entry book → (m : ℕ) (fact : Fact) → EntryClaims entry m fact → FactStands slots m fact

-- each holder of a state is among its targets
pub record AllFit (slots : List Slot) (flying : List Letter) : Type 0 where
  pub slots_fit : (n : ℕ) (slot : Slot) → slot_at slots n ≡ Some slot → SlotFits n slot
  pub letters_fit : (letter : Letter) → Among letter flying → LetterFits letter

-- who is waited for has a letter of the ticket in flight, to it or from it
pub record WaitsForLetters (slots : List Slot) (flying : List Letter) : Type 0 where
  pub each : (number : Number) (m : ℕ) (asked : AskedOfNodes) → NodesWait slots number m asked → Covered flying number m asked

-- enough nodes confirmed what the book says
pub record Enough (confirm : ℕ) (book : List BookEntry) : Type 0 where
  pub acked : (copy : Acked) → Among (Acknowledged copy) book → confirm ≤ count_in copy.confirmers
  pub dropped : (user : List ℕ) (id : Id) (confirmers : ℕ) → Among (Dropped user id confirmers) book → confirm ≤ count_in confirmers

pub record Sound (confirm : ℕ) (w : Cluster) : Type 0 where
  pub order : AllInOrder w.slots
  pub contents : Contents w.slots w.flying w.book
  pub deletions : Deletions w.slots w.flying w.book
  pub claims : Claims w.slots w.flying w.book
  pub fit : AllFit w.slots w.flying
  pub waits : WaitsForLetters w.slots w.flying
  pub enough : Enough confirm w.book
