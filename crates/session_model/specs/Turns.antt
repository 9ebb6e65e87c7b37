-- What each line of a tape leads to: which acts, one after another, and where they end.
use Rattle.std.specs.Prelude.{◌≡◌, ◌⊎◌, ℕ, ◌+◌, ◌<◌, ◌≤◌, List, [], ◌∷◌, length, ⊤, Option, Some, None}
use Rattle.mail_model.specs.Plan.{Plan}
use Rattle.mail_model.specs.Lines.{sent_line}
use Rattle.mail_model.specs.Tape.{Order}
use Rattle.mail_model.specs.Tape.Order.{Open, Say, Feed, Close, GiveUp, Moves, End}
use Rattle.mail_model.specs.Transcript.{Entry}
use Rattle.session_model.specs.Calls.{Call}
use Rattle.session_model.specs.Talk.{TalkState, Standing, IsIdle, IsOn, leave_of}
use Rattle.session_model.specs.Sessions.{Session, session_at, exchanges_of}
use Rattle.session_model.specs.Events.{ClusterEvent, IsEventOf}
use Rattle.session_model.specs.Events.ClusterEvent.{WentDown, WasLost, HasFaulted}
use Rattle.session_model.specs.Events.NodeLife.{Up}
use Rattle.session_model.specs.Acts.{Act, Acted, greeting_of}
use Rattle.session_model.specs.Acts.Act.{Opens, Does, Faults, StillWaits, Leaves, Makes, Abandons}
use Rattle.session_model.specs.Acts.Deed.{IsFed, Hears, IsAnswered, IsGivenUp, Falls, Closes}
use Rattle.session_model.specs.Lives.{life_after}
use Rattle.session_model.specs.Clocks.{seconds_after}

-- What is under way: session k hears; its call has just begun; it is to be closed, since its call was given up; the sessions of a node that went down fall, from
-- number k on; or the sessions that wait are asked, from number k on. After the first four they are asked from number `onward` on.
pub data Turn : Type 0 where
  Hearing : (k onward : ℕ) → Turn
  Beginning : (k onward : ℕ) → Turn
  Closing : (k onward : ℕ) → Turn
  Falling : (k node onward : ℕ) → Turn
  Asking : (k : ℕ) → Turn

-- the session waits for an answer
abbrev pub Waits : Option Session → Type 0
Waits None = ⊥
Waits (Some session) = (state : TalkState) × (call : Call) × (session.standing ≡ Standing.Waiting state call)

-- it is at this node
abbrev pub IsAtNode : ℕ → Option Session → Type 0
IsAtNode node None = ⊥
IsAtNode node (Some session) = session.node ≡ node

-- it is at this node and has not ended
abbrev pub StandsAt : ℕ → Option Session → Type 0
StandsAt node None = ⊥
StandsAt node (Some session) = (session.node ≡ node) × IsOn session.standing

-- whose leave it still has to ask
abbrev pub to_leave : Option Session → Option (List ℕ)
to_leave None = None
to_leave (Some session) = leave_of (exchanges_of session) session.standing

-- it has nothing to do before it is fed or answered
abbrev pub IsAtRest : Option Session → Type 0
IsAtRest None = ⊤
IsAtRest (Some session) = IsIdle session.standing session.rest

-- session k is the first of them, from this number on, of which this is so
pub record IsFirst (is_so : Option Session → Type 0) (sessions : List Session) (from k : ℕ) : Type 0 where
  pub later : from ≤ k
  pub here : is_so (session_at sessions k)
  pub none : (j : ℕ) → from ≤ j → j < k → is_so (session_at sessions j) → ⊥

-- it is so of none of them, from this number on
abbrev pub IsNone : (Option Session → Type 0) → List Session → ℕ → Type 0
IsNone is_so sessions from = (j : ℕ) → from ≤ j → is_so (session_at sessions j) → ⊥

-- what was under way is done, and sessions that wait are to be asked from this number on
abbrev pub IsReadyToAsk : Turn → List Session → ℕ → Type 0
IsReadyToAsk (Hearing k onward) sessions from = (from ≡ onward) × IsAtRest (session_at sessions k) × (to_leave (session_at sessions k) ≡ None)
IsReadyToAsk (Beginning k onward) sessions from = from ≡ onward
IsReadyToAsk (Closing k onward) sessions from = ⊥
IsReadyToAsk (Falling k node onward) sessions from = (from ≡ onward) × IsNone (StandsAt node) sessions k
IsReadyToAsk (Asking k) sessions from = from ≡ k

-- what is under way once session k heard a unit
abbrev pub turn_after_unit : ℕ → ℕ → Option Call → Turn
turn_after_unit k onward None = Hearing k onward
turn_after_unit k onward (Some call) = Beginning k onward

-- The next act, and what is under way after it. A session hears until it rests or waits, and leaves once it has ended by QUIT or its client closed it. Its node
-- may fail as a call begins: then all sessions of the node fall, those that wait too. The sessions that wait are asked in rising order, and one that is answered
-- hears on.
abbrev pub Next : Turn → List Session → Act → Turn → Type 0
Next (Hearing k onward) sessions (Does j (Hears one)) next = (j ≡ k) × (next ≡ turn_after_unit k onward one.call)
Next (Hearing k onward) sessions (Leaves j user) next = (j ≡ k) × (to_leave (session_at sessions k) ≡ Some user) × (next ≡ Asking onward)
Next (Beginning k onward) sessions (Faults node) next = IsAtNode node (session_at sessions k) × (next ≡ Falling 1 node onward)
Next (Closing k onward) sessions (Does j Closes) next = (j ≡ k) × (next ≡ Hearing k onward)
Next (Falling k node onward) sessions (Does j Falls) next = IsFirst (StandsAt node) sessions k j × (next ≡ Falling (j + 1) node onward)
Next turn sessions (StillWaits j) next = (from : ℕ) × IsReadyToAsk turn sessions from × IsFirst Waits sessions from j × (next ≡ Asking (j + 1))
Next turn sessions (Does j (IsAnswered call answer reply)) next = (from : ℕ) × IsReadyToAsk turn sessions from × IsFirst Waits sessions from j × (next ≡ Hearing j j)
Next turn sessions act next = ⊥

-- acts, one after another, with what each writes
abbrev pub ActsGo : Plan → Turn → List Session → List Act → List (List Entry) → Turn → List Session → Type 0
ActsGo plan turn old [] [] last new = (last ≡ turn) × (new ≡ old)
ActsGo plan turn old (act ∷ acts) (entries ∷ outputs) last new =
    (next : Turn) × (mid : List Session) × Next turn old act next × Acted plan old act entries mid × ActsGo plan next mid acts outputs last new
ActsGo plan turn old [] (entries ∷ outputs) last new = ⊥
ActsGo plan turn old (act ∷ acts) [] last new = ⊥

-- nothing is under way, and nobody is left to be asked
abbrev pub IsDone : Turn → List Session → Type 0
IsDone turn sessions = (from : ℕ) × IsReadyToAsk turn sessions from × IsNone Waits sessions from

-- the sessions of a node that went down fall
abbrev pub turn_after_event : ClusterEvent → Turn
turn_after_event (WentDown node) = Falling 1 node 1
turn_after_event (WasLost node) = Falling 1 node 1
turn_after_event (HasFaulted node) = Falling 1 node 1
turn_after_event event = Asking 1

-- a client closes its session; the call of one that waits is given up first
abbrev pub StartsToClose : ℕ → List Session → Act → Turn → Type 0
StartsToClose k sessions act turn =
    ((act ≡ Does k Closes) × (Waits (session_at sessions k) → ⊥) × (turn ≡ Hearing k 1))
    ⊎ ((act ≡ Abandons k) × Waits (session_at sessions k) × (turn ≡ Closing k 1))

-- What a line begins with after the acts so far, and what is under way after it. A POP3 greeting names the boot of its node and the seconds
-- of the clock. A session whose call is given up is told so in the line.
abbrev pub Starts : Plan → List Act → Order → List Session → Act → Turn → Type 0
Starts plan been (Open protocol node) sessions act turn =
    (boot : ℕ) × (life_after been node ≡ Up boot) × (act ≡ Opens protocol node (greeting_of protocol node boot (length sessions + 1) (seconds_after been))) × (turn ≡ Asking 1)
Starts plan been (Say k text) sessions act turn = (act ≡ Does k (IsFed (sent_line text))) × (turn ≡ Hearing k 1)
Starts plan been (Feed k octets) sessions act turn = (act ≡ Does k (IsFed octets)) × (turn ≡ Hearing k 1)
Starts plan been (Close k) sessions act turn = StartsToClose k sessions act turn
Starts plan been (GiveUp k) sessions act turn = (call : Call) × (reply : List (List ℕ)) × (act ≡ Does k (IsGivenUp call reply)) × (turn ≡ Hearing k 1)
Starts plan been (Moves order) sessions act turn =
    (event : ClusterEvent) × IsEventOf plan (life_after been) order event × (act ≡ Makes order event) × (turn ≡ turn_after_event event)
Starts plan been End sessions act turn = ⊥
