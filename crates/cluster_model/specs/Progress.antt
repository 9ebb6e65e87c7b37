-- How far a call has come: what an ask of its ticket answers.
use Rattle.std.specs.Prelude.{ℕ, Bool, true, not, nat_le, List, [], ◌∷◌, ◌++◌, length, map, bit_or, if◌then◌else◌}
use Rattle.std.specs.List.{filter, list_all}
use Rattle.mail_model.specs.Identity.{Id}
use Rattle.mail_model.specs.Book.{BookEntry}
use Rattle.mail_model.specs.Book.BookEntry.{Acknowledged, Dropped as DroppedEntry}
use Rattle.object_model.specs.Sets.{count_in}
use Rattle.object_model.specs.Mishaps.{Mishaps}
use Rattle.cluster_model.specs.Reads.{Found}
use Rattle.cluster_model.specs.Cluster.{AskedOfNodes, Want, Ticket}
use Rattle.cluster_model.specs.Cluster.AskedOfNodes.{Copies, Deletion}

-- what a call comes to
pub data NodeAnswer : Type 0 where
  -- the message is stored under this id, and these nodes confirmed it
  Stored : (id : Id) (confirmers : ℕ) → NodeAnswer
  -- each copy is deleted, and these nodes confirmed it
  Dropped : (confirmers : List ℕ) → NodeAnswer
  -- what a call that reads found
  Read : (found : Found) → NodeAnswer
  -- too few nodes can confirm it any more
  Failed : (mishaps : Mishaps) → NodeAnswer

-- What an ask finds: so much is done of so much that is wanted, or the answer.
pub data Ask : Type 0 where
  Pending : (got wanted : ℕ) → Ask
  Done : (answer : NodeAnswer) → Ask

-- F nodes confirmed it at least
abbrev pub is_confirmed : ℕ → Want → Bool
is_confirmed confirm want = nat_le confirm (count_in want.confirmed)

-- F nodes confirmed it or may still do so
abbrev pub can_be_confirmed : ℕ → Want → Bool
can_be_confirmed confirm want = nat_le confirm (count_in (bit_or want.confirmed want.waiting))

-- A call has failed where it wants nothing, since it failed at once, or where something that it wants has too few nodes left.
abbrev pub has_failed : ℕ → List Want → Bool
has_failed confirm [] = true
has_failed confirm wants = not (list_all (can_be_confirmed confirm) wants)

-- the answer to a call of which all is confirmed
abbrev pub answer_once_confirmed : List Want → Want → AskedOfNodes → NodeAnswer
answer_once_confirmed wants want (Copies filing) = Stored filing.id want.confirmed
answer_once_confirmed wants want (Deletion user id) = Dropped (map (λ one. one.confirmed) wants)

-- how much of it is done: of a message its confirmations, of deletions those that have F confirmations
abbrev pub pending_of_call : ℕ → List Want → Want → AskedOfNodes → Ask
pending_of_call confirm wants want (Copies filing) = Pending (count_in want.confirmed) confirm
pending_of_call confirm wants want (Deletion user id) = Pending (length (filter (is_confirmed confirm) wants)) (length wants)

abbrev pub ask_of_wants : ℕ → Mishaps → List Want → Ask
ask_of_wants confirm mishaps [] = Done (Failed mishaps)
ask_of_wants confirm mishaps (want ∷ wants) =
    if list_all (is_confirmed confirm) (want ∷ wants) then Done (answer_once_confirmed (want ∷ wants) want want.asked)
    else (if has_failed confirm (want ∷ wants) then Done (Failed mishaps) else pending_of_call confirm (want ∷ wants) want want.asked)

-- what an ask of the ticket answers
abbrev pub ask_of : ℕ → Ticket → Ask
ask_of confirm ticket = ask_of_wants confirm ticket.mishaps ticket.wants

-- the entries of what is confirmed: of a message one for each user
abbrev pub confirmed_entries : Want → AskedOfNodes → List BookEntry
confirmed_entries want (Copies filing) = map (λ user. Acknowledged (record {
  user = user;
  id = filing.id;
  seconds = filing.seconds;
  size = filing.size;
  digest = filing.digest;
  confirmers = want.confirmed;
})) filing.users
confirmed_entries want (Deletion user id) = DroppedEntry user id want.confirmed ∷ []

abbrev pub wants_entries : List Want → List BookEntry
wants_entries [] = []
wants_entries (want ∷ wants) = confirmed_entries want want.asked ++ wants_entries wants

-- the entries that an answer adds to the book
abbrev pub entries_with : NodeAnswer → Ticket → List BookEntry
entries_with (Stored id confirmers) ticket = wants_entries ticket.wants
entries_with (Dropped confirmers) ticket = wants_entries ticket.wants
entries_with (Read found) ticket = []
entries_with (Failed mishaps) ticket = []
