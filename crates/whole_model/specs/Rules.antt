-- How what a node does for messages changes what it says in mail maps, and what membership appends to its disk.
use Rattle.std.specs.Prelude.{◌≡◌, ◌≢◌, ℕ, Bool, true, false, not, List, [], ◌∷◌, ◌++◌, Option, if◌then◌else◌}
use Rattle.mail_model.specs.Identity.{EpochId}
use Rattle.mail_model.specs.Identity.Key.{Message}
use Rattle.mail_model.specs.Record.{Record}
use Rattle.mail_model.specs.Record.Record.{Boot, Promise, Stated}
use Rattle.object_model.specs.Lists.{Among}
use Rattle.object_model.specs.Letters.{Body, Letter}
use Rattle.object_model.specs.Letters.Body.{Group, Join, Install, Report, ReportAck}
use Rattle.cluster_model.specs.Forms as forms
use Rattle.maps_model.specs.Cluster as maps
use Rattle.maps_model.specs.Rules.{change}
use Rattle.whole_model.specs.Whole.{maps_disk_of, holds_of}

abbrev pub differ : Bool → Bool → Bool
differ true other = not other
differ false other = other

-- A user comes to have a copy here, or has none any more: the node's row of the user changes.
abbrev pub turned_for : ℕ → maps.Node → List Record → List ℕ → Bool → maps.Node
turned_for own node seen user full = if differ (holds_of seen user) full then (change own node (maps_disk_of seen) user full).node else node

-- what a record that is appended after those that were seen makes of it
abbrev pub followed : ℕ → maps.Node → List Record → Record → maps.Node
followed own node seen (Stated (Message user id) state) = turned_for own node seen user (holds_of (seen ++ Stated (Message user id) state ∷ []) user)
followed own node seen other = node

-- and these records, one after another
abbrev pub follows : ℕ → maps.Node → List Record → List Record → maps.Node
follows own node seen [] = node
follows own node seen (record_ ∷ records) = follows own (followed own node seen record_) (seen ++ record_ ∷ []) records

-- records that a node appends for messages
abbrev pub IsOfMessages : Record → Type 0
IsOfMessages (Boot boot) = ⊥
IsOfMessages (Promise epoch) = ⊥
IsOfMessages record_ = Unit {0}

abbrev pub AreOfMessages : List Record → Type 0
AreOfMessages records = (one : Record) → Among one records → IsOfMessages one

-- letters that speak of messages, and not of membership or maps
abbrev pub IsMailBody : Body → Type 0
IsMailBody (Group epoch) = ⊥
IsMailBody (Join epoch promise boot was claims) = ⊥
IsMailBody (Install membership) = ⊥
IsMailBody (Report row) = ⊥
IsMailBody (ReportAck user version) = ⊥
IsMailBody body = Unit {0}

-- what a node sends for messages: from itself, to others
pub record IsMail (own : ℕ) (letter : Letter) : Type 0 where
  pub from : letter.from ≡ own
  pub to : letter.to ≢ own
  pub body : IsMailBody letter.body

-- letters that speak of membership and maps, and not of messages
abbrev pub IsMapsBody : Body → Type 0
IsMapsBody body = forms.IsMapsBody body

-- what a rule of membership appends: the record of a promise, or nothing
abbrev pub promise_records : Option EpochId → List Record
promise_records promise = forms.promise_records promise
