-- Messages of which a node notes whether they are here, one after another.
use Rattle.std.specs.Prelude.{◌≡◌, ◌≢◌, ℕ, List, [], ◌∷◌, map, flat_map, Option, Some, None, if◌then◌else◌}
use Rattle.mail_model.specs.Identity.{Id, Key}
use Rattle.mail_model.specs.Identity.Key.{Profile, Message}
use Rattle.mail_model.specs.Record.{Record}
use Rattle.object_model.specs.Sets.{has}
use Rattle.object_model.specs.Said.{said}
use Rattle.object_model.specs.Letters.{Number, Body}
use Rattle.object_model.specs.Letters.Body.{File, Strike, Push}
use Rattle.cluster_model.specs.Reads.{is_here_held}
use Rattle.cluster_model.specs.Cluster.{AskedOfNodes, Want}
use Rattle.cluster_model.specs.Cluster.AskedOfNodes.{Copies, Deletion}
use Rattle.node_tickets.specs.Standing.{wants_at}
use Rattle.node_core.specs.Nodes.{NodeKeeps}
use Rattle.node_core.specs.Standing.{ticket_standing}
use Rattle.node_core.specs.declared.node.Node.{Node}
use Rattle.node_maps.specs.Rounds.{NotesMessage}
use Rattle.node_maps.specs.declared.maps.NodeMaps.{NodeMaps}

-- a user's copy of a message
abbrev pub Copy : Type 0
Copy = List ℕ × Id

-- of each of these copies is noted what the records say
abbrev pub NotesCopies : List Record → List Copy → NodeMaps → NodeMaps → Type 0
NotesCopies records [] old new = new ≡ old
NotesCopies records (copy ∷ copies) old new =
    (mid : NodeMaps) × NotesMessage copy.0 copy.1 (is_here_held (said (Message copy.0 copy.1) records)) old mid × NotesCopies records copies mid new

abbrev pub copies_of_key : Key → List Copy
copies_of_key (Profile user) = []
copies_of_key (Message user id) = (user, id) ∷ []

-- the copies of which a letter may change whether they are here
abbrev pub copies_named : Body → List Copy
copies_named (File id stamp targets users octets) = map (λ user. (user, id)) users
copies_named (Strike user marks) = map (λ mark. (user, mark.id)) marks
copies_named (Push key state octets) = copies_of_key key
copies_named body = []

abbrev pub copies_asked : AskedOfNodes → List Copy
copies_asked (Copies filing) = map (λ user. (user, filing.id)) filing.users
copies_asked (Deletion user id) = (user, id) ∷ []

-- of what a call asks, the copies that the node itself has confirmed
abbrev pub copies_confirmed : ℕ → Want → List Copy
copies_confirmed own want = if has want.confirmed own then copies_asked want.asked else []

-- what the node noted as a call began: under a ticket the copies that it has confirmed itself
abbrev pub NotesBegun : Option Number → Node → NodeMaps → NodeMaps → Type 0
NotesBegun None mail old new = new ≡ old
NotesBegun (Some number) mail old new =
    (records : List Record) → NodeKeeps records mail → NotesCopies records (flat_map (copies_confirmed mail.store.own) (wants_at (ticket_standing mail number))) old new

-- under this ticket something is wanted of nodes
abbrev pub WantsSome : Option Number → Node → Type 0
WantsSome None mail = ⊥
WantsSome (Some number) mail = wants_at (ticket_standing mail number) ≢ []
