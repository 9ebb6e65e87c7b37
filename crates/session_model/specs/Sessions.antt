-- The sessions of a tape, as the tape and the transcript show them. All promises to clients are read off these.
use Rattle.std.specs.Prelude.{◌≡◌, ◌≢◌, ℕ, ◌-◌, List, [], ◌∷◌, ◌++◌, drop, map, nat_eq, Option, Some, None, slice_get, if◌then◌else◌}
use Rattle.mail_model.specs.Plan.{Plan}
use Rattle.mail_model.specs.Tape.{Protocol}
use Rattle.mail_model.specs.Transcript.{Entry}
use Rattle.mail_model.specs.Told.{sent}
use Rattle.mail_model.specs.Stored.{opened}
use Rattle.mail_model.specs.Shown.{lines_to}
use Rattle.session_model.specs.Talk.{Exchange, Standing, IsTalk, IsIdle, farewell, replies}

-- A session: its protocol and its node, what it was fed, the exchanges whose whole reply its client got, the one that is not so, where there is one, how it
-- stands, and what was not heard.
pub record Session : Type 0 where
  pub protocol : Protocol
  pub node : ℕ
  pub octets : List ℕ
  pub whole : List Exchange
  pub others : List Exchange
  pub standing : Standing
  pub rest : List ℕ

-- all its exchanges
abbrev pub exchanges_of : Session → List Exchange
exchanges_of session = session.whole ++ session.others

-- What is left out of the transcript of a session, which may be cut anywhere: lines of what it says as its node goes down, or of its last reply. Whatever came
-- before that was written before the session went on.
abbrev pub IsCut : List Exchange → List (List ℕ) → List (List ℕ) → List (List ℕ) → Type 0
IsCut [] last part missing = last ≡ part ++ missing
IsCut (one ∷ []) last part missing = (one.reply ≡ part ++ missing) × (missing ≢ [])
IsCut (one ∷ other ∷ more) last part missing = ⊥

-- the client got these lines after the greeting
pub record Gets (session : Session) (got : List (List ℕ)) : Type 0 where
  pub part : List (List ℕ)
  pub missing : List (List ℕ)
  pub are : got ≡ replies session.whole ++ part
  pub cut : IsCut session.others (farewell session.protocol session.node session.standing) part missing

-- session k, numbered from 1
abbrev pub session_at : List Session → ℕ → Option Session
session_at sessions k = if nat_eq k 0 then None else slice_get sessions (k - 1)

-- Session k is as the run lines that were handled fed it, and as the transcript shows it.
pub record IsSession (plan : Plan) (lines : List (List ℕ)) (entries : List Entry) (k : ℕ) (session : Session) : Type 0 where
  pub talk : IsTalk plan session.node session.protocol session.octets (exchanges_of session) session.standing session.rest
  pub fed : session.octets ≡ sent k lines
  pub gets : Gets session (drop 1 (lines_to k entries))

-- These are the sessions of the run lines that were handled, in order of `open`.
pub record AreSessions (plan : Plan) (lines : List (List ℕ)) (entries : List Entry) (sessions : List Session) : Type 0 where
  pub kinds : opened lines ≡ map (λ session. (session.protocol, session.node)) sessions
  pub each : (k : ℕ) (session : Session) → session_at sessions k ≡ Some session → IsSession plan lines entries k session

-- Each unit that a session has reached is replied to: its client got all replies whole, and it waits for an answer, has ended, or has no whole unit left.
abbrev pub AreAnswered : List Session → Type 0
AreAnswered sessions = (k : ℕ) (session : Session) → session_at sessions k ≡ Some session → (session.others ≡ []) × IsIdle session.standing session.rest
