-- What the exchanges of a session that reads mail show and mark.
use Rattle.std.specs.Prelude.{◌≡◌, ◌≢◌, ℕ, false, List, [], ◌∷◌, ◌++◌, map, ⊤, Some, Ok, AllPairs, slice_get}
use Rattle.mail_model.specs.Identity.{Id}
use Rattle.mail_model.specs.Grammar.{IsId}
use Rattle.mail_model.specs.Plan.{Plan}
use Rattle.mail_model.specs.Tape.Protocol.{Pop}
use Rattle.mail_model.specs.Session.{Unit, is_long_line}
use Rattle.mail_model.specs.Session.Unit.{Line, Text}
use Rattle.mail_model.specs.Pop.{pop_command_of}
use Rattle.mail_model.specs.Pop.Command.{Quit}
use Rattle.mail_model.specs.PopReplies.{Item}
use Rattle.mail_model.specs.Shown as reader
use Rattle.mail_model.specs.Deleted.{Enters, IsMarked, Mark, AreMarks}
use Rattle.mail_model.specs.Maildrop.{Given}
use Rattle.session_model.specs.Calls.Call.{Login, Strike}
use Rattle.session_model.specs.Calls.Answer.{Listed}
use Rattle.session_model.specs.Talk.{Exchange, Standing, TalkGoes, opening_state}
use Rattle.session_model.specs.Talk.Standing.{Hearing}

-- the line of a unit
abbrev pub line_of : Unit → List ℕ
line_of (Line line) = line
line_of (Text lines) = []

-- a command line with its reply, which is all that its client knows of an exchange
abbrev pub seen_exchange : Exchange → reader.SeenExchange
seen_exchange one = record { line = line_of one.unit; reply = one.reply }

-- of each
abbrev pub all_seen : List Exchange → List reader.SeenExchange
all_seen exchanges = map seen_exchange exchanges

-- each of the exchanges has this
abbrev pub Each : (Exchange → Type 0) → List Exchange → Type 0
Each P [] = ⊤
Each P (one ∷ more) = P one × Each P more

-- where a login was answered with a listing, this has each id once
abbrev pub ListsOnce : Exchange → Type 0
ListsOnce one = (user : List ℕ) (given : Given) (items : List Item) → one.call ≡ Some (Login user given) → one.answer ≡ Some (Listed items)
    → AllPairs (λ (a b : Id). a ≢ b) (map (λ (item : Item). item.id) items)

-- and only ids that a journal can spell
abbrev pub ListsNamed : Exchange → Type 0
ListsNamed one = (user : List ℕ) (given : Given) (items : List Item) → one.call ≡ Some (Login user given) → one.answer ≡ Some (Listed items)
    → (i : ℕ) (item : Item) → slice_get items i ≡ Some item → IsId item.id

-- the unit is QUIT
pub record IsQuitUnit (unit : Unit) : Type 0 where
  pub line : List ℕ
  pub is : unit ≡ Line line
  pub short : is_long_line line ≡ false
  pub quits : pop_command_of line ≡ Ok Quit

-- After these exchanges the client said QUIT, as this user, and had marked the messages of these ids, some at least.
pub record QuitsMarked (before : List Exchange) (one : Exchange) (user : List ℕ) (ids : List Id) : Type 0 where
  pub quit : IsQuitUnit one.unit
  pub enters : Enters (all_seen before) user
  pub marks : List Mark
  pub are : AreMarks (all_seen before) marks
  pub ids_are : map (λ mark. mark.id) marks ≡ ids
  pub some : ids ≢ []

-- A deletion is asked for only by the QUIT of a session that marked messages, for exactly these, and it is the last that the session asks.
abbrev pub StrikesAtQuit : Type 0
StrikesAtQuit = (plan : Plan) (node : ℕ) (octets : List ℕ) (exchanges : List Exchange) (last : Standing) (rest : List ℕ)
    → TalkGoes plan node (Hearing (opening_state Pop)) octets exchanges last rest → Each ListsOnce exchanges
    → (before behind : List Exchange) (one : Exchange) (user : List ℕ) (ids : List Id) → exchanges ≡ before ++ one ∷ behind → one.call ≡ Some (Strike user ids)
    → (behind ≡ []) × QuitsMarked before one user ids

-- And each such QUIT asks for one.
abbrev pub QuitStrikes : Type 0
QuitStrikes = (plan : Plan) (node : ℕ) (octets : List ℕ) (exchanges : List Exchange) (last : Standing) (rest : List ℕ)
    → TalkGoes plan node (Hearing (opening_state Pop)) octets exchanges last rest → Each ListsOnce exchanges
    → (before behind : List Exchange) (one : Exchange) (n : ℕ) → exchanges ≡ before ++ one ∷ behind → IsQuitUnit one.unit → IsMarked n (all_seen before)
    → (user : List ℕ) × (ids : List Id) × (one.call ≡ Some (Strike user ids))
