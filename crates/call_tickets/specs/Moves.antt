-- What a session's next move does, for each kind of session.
use Rattle.std.specs.Prelude.{◌≡◌, ℕ, List, [], ◌∷◌, ◌++◌, flat_map, ⊤, Option, Some, None, All}
use Rattle.mail_model.specs.Lines.{HasNoCrlf, sent_line}
use Rattle.mail_model.specs.Plan.{Plan}
use Rattle.mail_model.specs.Told.{HasNoUnit}
use Rattle.session_model.specs.Calls as model
use Rattle.session_model.specs.Talk.{Exchange, Standing, in_text, down_line}
use Rattle.session_model.specs.Talk.Standing.{Hearing, Waiting, EndedByQuit, EndedDown, EndedClosed}
use Rattle.session_model.specs.Sessions.{Session}
use Rattle.session_model.specs.Acts.{Did}
use Rattle.session_model.specs.Acts.Deed.{Hears, IsAnswered, Falls}
use Rattle.call_tickets.specs.declared.step.Move.{Move}
use Rattle.call_tickets.specs.declared.step.Move.TheVariants.{Said, Begin, Wait, Idle, End}
use Rattle.call_tickets.specs.Seen.{call_seen}

-- What a session has to say before it hears on: nothing, its greeting, or the reply to the answer of its call.
pub data Due : Type 0 where
  Nothing : Due
  Greeting : Due
  Reply : (answer : model.Answer) → Due

-- One unit was heard, asks this and was replied to with these octets, and the session goes on so. A line of a reply has no CRLF in it.
pub record HeardUnit (follows : Session → Due → Type 0) (plan : Plan) (plain : Session) (call : Option model.Call) (octets : List ℕ) : Type 0 where
  pub one : Exchange
  pub after : Session
  pub did : Did plan plain (Hears one) one.reply after
  pub asks : one.call ≡ call
  pub says : octets ≡ flat_map sent_line one.reply
  pub lines : All HasNoCrlf one.reply
  pub goes_on : follows after Nothing

-- The answer to its call was replied to with these octets.
pub record Replied (follows : Session → Due → Type 0) (plan : Plan) (plain : Session) (answer : model.Answer) (octets : List ℕ) : Type 0 where
  pub call : model.Call
  pub reply : List (List ℕ)
  pub after : Session
  pub did : Did plan plain (IsAnswered call answer reply) reply after
  pub says : octets ≡ flat_map sent_line reply
  pub lines : All HasNoCrlf reply
  pub goes_on : follows after Nothing

-- the greeting was said
pub record Greeted (follows : Session → Due → Type 0) (greeting : List ℕ) (plain : Session) (octets : List ℕ) : Type 0 where
  pub says : octets ≡ sent_line greeting
  pub line : HasNoCrlf greeting
  pub goes_on : follows plain Nothing

-- a session that waits for the answer to its call
abbrev pub IsWaiting : Standing → Type 0
IsWaiting (Hearing state) = ⊥
IsWaiting (Waiting state call) = ⊤
IsWaiting EndedByQuit = ⊥
IsWaiting EndedDown = ⊥
IsWaiting EndedClosed = ⊥

-- one that has ended
abbrev pub HasEnded : Standing → Type 0
HasEnded (Hearing state) = ⊥
HasEnded (Waiting state call) = ⊥
HasEnded EndedByQuit = ⊤
HasEnded EndedDown = ⊤
HasEnded EndedClosed = ⊤

-- and one that hears, but was fed no whole unit
abbrev pub HearsNothing : Standing → List ℕ → Type 0
HearsNothing (Hearing state) rest = HasNoUnit (in_text state) rest
HearsNothing (Waiting state call) rest = ⊥
HearsNothing EndedByQuit rest = ⊥
HearsNothing EndedDown rest = ⊥
HearsNothing EndedClosed rest = ⊥

-- The move of a session that had this to say, with the octets that it said. `follows` ties the session that it then is to one of the definitions.
abbrev pub Moves : (Session → Due → Type 0) → List ℕ → Plan → Session → Due → Move → List ℕ → Type 0
Moves follows greeting plan plain Greeting Said octets = Greeted follows greeting plain octets
Moves follows greeting plan plain (Reply answer) Said octets = Replied follows plan plain answer octets
Moves follows greeting plan plain Nothing Said octets = HeardUnit follows plan plain None octets
Moves follows greeting plan plain Nothing (Begin call) octets = (asked : model.Call) × (call_seen call ≡ Some asked) × HeardUnit follows plan plain (Some asked) octets
Moves follows greeting plan plain Nothing Wait octets = IsWaiting plain.standing × (octets ≡ []) × follows plain Nothing
Moves follows greeting plan plain Nothing Idle octets = HearsNothing plain.standing plain.rest × (octets ≡ []) × follows plain Nothing
Moves follows greeting plan plain Nothing End octets = HasEnded plain.standing × (octets ≡ []) × follows plain Nothing
Moves follows greeting plan plain due move octets = ⊥

-- octets more were fed to it; one that has ended takes none
abbrev pub Fed : (Session → Due → Type 0) → Session → Due → List ℕ → Type 0
Fed follows plain due octets = follows (record plain { octets = plain.octets ++ octets; rest = plain.rest ++ octets }) due

-- whether a move was made after which another may come at once
abbrev pub IsBusy : Move → Type 0
IsBusy Said = ⊤
IsBusy (Begin call) = ⊤
IsBusy Wait = ⊥
IsBusy Idle = ⊥
IsBusy End = ⊥

-- The node went down: the last line was said, and the session has ended.
pub record Fell (follows : Session → Due → Type 0) (plain : Session) (octets : List ℕ) : Type 0 where
  pub after : Session
  pub did : (plan : Plan) → Did plan plain Falls (down_line plain.protocol plain.node ∷ []) after
  pub says : octets ≡ sent_line (down_line plain.protocol plain.node)
  pub line : HasNoCrlf (down_line plain.protocol plain.node)
  pub goes_on : follows after Nothing
