-- Tapes that end in a new session behind a settled epoch, or in a mail map, and what is promised of them.
use Rattle.std.specs.Prelude.{◌≡◌, ℕ, ◌+◌, false, List, [], ◌∷◌, ◌++◌, length, map, flat_map, Option, Some, None, Ok, codes}
use Rattle.mail_model.specs.Plan.{Plan}
use Rattle.mail_model.specs.Names.{lower}
use Rattle.mail_model.specs.Tape.{Order, tape_order}
use Rattle.mail_model.specs.Tape.Protocol.{Pop}
use Rattle.mail_model.specs.Tape.Order.{Open, Say, Moves}
use Rattle.mail_model.specs.Tape.ClusterOrder.{Flow, Settle, Maps}
use Rattle.mail_model.specs.Stored.{opened}
use Rattle.mail_model.specs.Record.{Record}
use Rattle.mail_model.specs.Transcript.{Entry}
use Rattle.mail_model.specs.Session.{is_long_line}
use Rattle.mail_model.specs.Session.Unit.{Line}
use Rattle.mail_model.specs.Pop.{pop_command_of}
use Rattle.mail_model.specs.Pop.Command.{User, Pass, Uidl}
use Rattle.mail_model.specs.PopReplies.{Item, one_line, id_line, listing_reply, listed_slots}
use Rattle.mail_model.specs.Maildrop.{entered_text}
use Rattle.object_model.specs.Lists.{Among}
use Rattle.session_model.specs.Talk.{Exchange}
use Rattle.session_model.specs.Sessions.{Session, session_at}
use Rattle.session_model.specs.Events.ClusterEvent.{HasSettled, HasMapped}
use Rattle.session_model.specs.Acts.{Act}
use Rattle.session_model.specs.Acts.Act.{Makes}
use Rattle.session_model.specs.Lives.{failed_in}
use Rattle.session_model.specs.Run.{AreHandled, count_on}
use Rattle.standing_model.specs.Standing.{AreStanding, NamesFragments, MembersAgree}
use Rattle.fresh_sessions.specs.Acts.{ShowsMembers}

-- the run line is this order
abbrev pub IsLine : List ℕ → Order → Type 0
IsLine line order = tape_order line ≡ Some order

-- The line behind these was a settle that settled the cluster while no session was open, and since then no disk failed. The members of its epoch are these.
pub record IsSettledBehind (plan : Plan) (before : List (List ℕ)) (acts : List (List Act)) (members : List ℕ) (since : List (List Act)) : Type 0 where
  pub front : List (List Act)
  pub split : acts ≡ front ++ (Makes Settle HasSettled ∷ []) ∷ since
  pub outputs : List (List (List Entry))
  pub sessions : List Session
  pub handled : AreHandled plan [] [] before front outputs sessions
  pub none_open : count_on sessions ≡ 0
  pub faultless : failed_in (flat_map (λ a. a) since) ≡ []
  pub shown : ShowsMembers plan (flat_map (λ a. a) front) members

-- The run lines end so: the cluster settles; session k is opened at this node, says two lines, the letters flow, and it says a third.
pub record EndsFresh (lines : List (List ℕ)) (k node : ℕ) (naming proving asking : List ℕ) : Type 0 where
  pub before : List (List ℕ)
  pub settles : List ℕ
  pub opens : List ℕ
  pub names : List ℕ
  pub proves : List ℕ
  pub flows : List ℕ
  pub asks : List ℕ
  pub are : lines ≡ before ++ settles ∷ opens ∷ names ∷ proves ∷ flows ∷ asks ∷ []
  pub settle : IsLine settles (Moves Settle)
  pub opening : IsLine opens (Open Pop node)
  pub name : IsLine names (Say k naming)
  pub prove : IsLine proves (Say k proving)
  pub flow : IsLine flows (Moves Flow)
  pub ask : IsLine asks (Say k asking)
  pub number : k ≡ length (opened before) + 1

-- A tape is freshly ended: so its lines end, at a member of the epoch that has settled, and the three are USER, PASS, which was answered `+OK maildrop open`, and UIDL.
-- The client got the three replies.
pub record IsFreshlyEnded (plan : Plan) (lines : List (List ℕ)) (acts : List (List Act)) (members : List ℕ) (k : ℕ) (name : List ℕ) (session : Session) (asked : Exchange) : Type 0 where
  pub node : ℕ
  pub member : Among node members
  pub naming : List ℕ
  pub proving : List ℕ
  pub asking : List ℕ
  pub ends : EndsFresh lines k node naming proving asking
  pub since : List (List Act)
  pub settled : IsSettledBehind plan ends.before acts members since
  pub named : Exchange
  pub proved : Exchange
  pub are : session.whole ≡ named ∷ proved ∷ asked ∷ []
  pub units : (named.unit ≡ Line naming) × (proved.unit ≡ Line proving) × (asked.unit ≡ Line asking)
  pub secret : List ℕ
  pub commands : (pop_command_of naming ≡ Ok (User name)) × (pop_command_of proving ≡ Ok (Pass secret)) × (pop_command_of asking ≡ Ok (Uidl None))
  pub short : is_long_line asking ≡ false
  pub entered : proved.reply ≡ one_line entered_text

-- Where a tape is freshly ended, the reply to its UIDL shows exactly the messages that stand, each once, in rising order of stamps.
abbrev pub FreshListsAll : Plan → List (List ℕ) → List (List Act) → List (List Record) → List Session → Type 0
FreshListsAll plan lines acts disks sessions = (members : List ℕ) (k : ℕ) (name : List ℕ) (session : Session) (asked : Exchange)
    → session_at sessions k ≡ Some session → IsFreshlyEnded plan lines acts members k name session asked
    → (items : List Item) × AreStanding disks members (lower name) (map (λ (item : Item). item.id) items) × (asked.reply ≡ listing_reply (codes "+OK unique ids") id_line (listed_slots items))

-- The run lines end in a settle, and in a line that asks for the map of this user and was told this.
pub record EndsInMaps (plan : Plan) (lines : List (List ℕ)) (acts : List (List Act)) (members : List ℕ) (user : List ℕ) (told : Option (ℕ × List ℕ)) : Type 0 where
  pub before : List (List ℕ)
  pub settles : List ℕ
  pub asks : List ℕ
  pub are : lines ≡ before ++ settles ∷ asks ∷ []
  pub settle : IsLine settles (Moves Settle)
  pub ask : IsLine asks (Moves (Maps user))
  pub settled : IsSettledBehind plan before acts members ((Makes (Maps user) (HasMapped user told) ∷ []) ∷ [])

-- Where a tape ends so, the map names a member as manager, and exactly the members that hold a fragment of the mailbox; and members agree.
abbrev pub SettledAgrees : Plan → List (List ℕ) → List (List Act) → List (List Record) → Type 0
SettledAgrees plan lines acts disks = (members : List ℕ) (user : List ℕ) (told : Option (ℕ × List ℕ)) → EndsInMaps plan lines acts members user told
    → NamesFragments disks members user told × MembersAgree disks members
