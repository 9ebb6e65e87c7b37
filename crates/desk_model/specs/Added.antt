-- What each call of a desk adds to the book, by the step of the machine that it makes.
use Rattle.std.specs.Prelude.{◌≡◌, ℕ, List, [], ◌++◌, length, map, Option, Some}
use Rattle.sha2.specs.Sha256.{sha256}
use Rattle.mail_model.specs.Identity.{Id}
use Rattle.mail_model.specs.Mail.{IsStored}
use Rattle.mail_model.specs.Told.{Mail}
use Rattle.mail_model.specs.Book.{BookEntry, Acked, acked_in, struck_in}
use Rattle.cluster_model.specs.Cluster.{NodeFiling}
use Rattle.cluster_model.specs.Progress.{NodeAnswer}
use Rattle.cluster_model.specs.Progress.NodeAnswer.{Stored, Dropped, Read, Failed}

-- The book has what it had, and after that what was added, of which this holds.
pub record Adds (P : List BookEntry → Type 0) (old new : List BookEntry) : Type 0 where
  pub added : List BookEntry
  pub book : new ≡ old ++ added
  pub is : P added

-- the same, where nothing is said of what was added
abbrev pub IsLonger : List BookEntry → List BookEntry → Type 0
IsLonger old new = (added : List BookEntry) × (new ≡ old ++ added)

-- nothing was acknowledged, and nothing struck
pub record AreQuiet (added : List BookEntry) : Type 0 where
  pub acked : acked_in added ≡ []
  pub struck : struck_in added ≡ []

-- nothing was acknowledged, and these copies are struck
pub record AreStrikes (strikes : List (List ℕ × Id)) (added : List BookEntry) : Type 0 where
  pub acked : acked_in added ≡ []
  pub struck : struck_in added ≡ strikes

-- one copy for each user of what was filed
abbrev pub copies_filed : NodeFiling → ℕ → List Acked
copies_filed filing confirmers =
    map (λ user. record { user = user; id = filing.id; seconds = filing.seconds; size = filing.size; digest = filing.digest; confirmers = confirmers }) filing.users

-- a message is stored: it was filed, and its copies are acknowledged
pub record AreCopiesOf (filed : Option NodeFiling) (id : Id) (acked : List Acked) : Type 0 where
  pub filing : NodeFiling
  pub was : filed ≡ Some filing
  pub same_id : filing.id ≡ id
  pub confirmers : ℕ
  pub are : acked ≡ copies_filed filing confirmers

-- what an answer acknowledges: of no other answer anything
abbrev pub AcknowledgesFor : Option NodeFiling → NodeAnswer → List Acked → Type 0
AcknowledgesFor filed (Stored id confirmers) acked = AreCopiesOf filed id acked
AcknowledgesFor filed (Dropped confirmers) acked = acked ≡ []
AcknowledgesFor filed (Read found) acked = acked ≡ []
AcknowledgesFor filed (Failed mishaps) acked = acked ≡ []

-- the answer to a ticket that filed this
pub record AreForAnswer (filed : Option NodeFiling) (answer : NodeAnswer) (added : List BookEntry) : Type 0 where
  pub acked : AcknowledgesFor filed answer (acked_in added)
  pub struck : struck_in added ≡ []

-- the message is filed as it was told, with its trace lines
pub record IsFiledAs (mail : Mail) (filing : NodeFiling) : Type 0 where
  pub octets : List ℕ
  pub stored : IsStored mail filing.id filing.seconds octets
  pub users : filing.users ≡ mail.mailboxes
  pub size : filing.size ≡ length octets
  pub digest : filing.digest ≡ sha256 octets
