-- What the acts of a tape asked of nodes, and what these answered, in order. A cluster is spoken of by these two lists alone.
use Rattle.std.specs.Prelude.{◌≡◌, ℕ, List, [], ◌∷◌, flat_map, nat_eq, Option, Some, None, if◌then◌else◌}
use Rattle.session_model.specs.Calls.{Call, Answer}
use Rattle.session_model.specs.Talk.{Exchange}
use Rattle.session_model.specs.Sessions.{Session, session_at, exchanges_of}
use Rattle.session_model.specs.Acts.{Act}
use Rattle.session_model.specs.Calls.Answer.{Failed}
use Rattle.session_model.specs.Acts.Act.{Opens, Does, Faults, StillWaits, Leaves, Makes, Abandons}
use Rattle.session_model.specs.Acts.Deed.{Hears, IsAnswered, IsGivenUp}

-- a call that session k asked
pub record Asked : Type 0 where
  pub session : ℕ
  pub call : Call

-- and one that was answered
pub record Answered : Type 0 where
  pub session : ℕ
  pub call : Call
  pub answer : Answer

-- the call of an exchange, where it has one
abbrev pub call_in : Option Call → List Call
call_in None = []
call_in (Some call) = call ∷ []

-- a call with its answer
abbrev pub answer_in : Option Call → Option Answer → List (Call × Answer)
answer_in None answer = []
answer_in (Some call) None = []
answer_in (Some call) (Some answer) = (call, answer) ∷ []

-- the calls of a session, and those that were answered
abbrev pub calls_of : List Exchange → List Call
calls_of exchanges = flat_map (λ one. call_in one.call) exchanges

abbrev pub answers_of : List Exchange → List (Call × Answer)
answers_of exchanges = flat_map (λ one. answer_in one.call one.answer) exchanges

-- what an act asks
abbrev pub asked_by : Act → List Asked
asked_by (Opens protocol node greeting) = []
asked_by (Does k (Hears one)) = flat_map (λ call. record { session = k; call = call } ∷ []) (call_in one.call)
asked_by (Does k deed) = []
asked_by (Faults node) = []
asked_by (StillWaits session) = []
asked_by (Leaves session user) = []
asked_by (Makes order event) = []
asked_by (Abandons session) = []

-- and what it answers; a call that is given up is answered as one that failed
abbrev pub answered_by : Act → List Answered
answered_by (Opens protocol node greeting) = []
answered_by (Does k (IsAnswered call answer reply)) = record { session = k; call = call; answer = answer } ∷ []
answered_by (Does k (IsGivenUp call reply)) = record { session = k; call = call; answer = Failed } ∷ []
answered_by (Does k deed) = []
answered_by (Faults node) = []
answered_by (StillWaits session) = []
answered_by (Leaves session user) = []
answered_by (Makes order event) = []
answered_by (Abandons session) = []

-- those of session k
abbrev pub asked_in : ℕ → List Asked → List Call
asked_in k [] = []
asked_in k (one ∷ more) = if nat_eq one.session k then one.call ∷ asked_in k more else asked_in k more

abbrev pub answered_in : ℕ → List Answered → List (Call × Answer)
answered_in k [] = []
answered_in k (one ∷ more) = if nat_eq one.session k then (one.call, one.answer) ∷ answered_in k more else answered_in k more

-- What was asked in a session, and what was answered, are the calls and the answers of its exchanges, in order.
abbrev pub IsLogged : List Call → List (Call × Answer) → Option Session → Type 0
IsLogged calls answers None = (calls ≡ []) × (answers ≡ [])
IsLogged calls answers (Some session) = (calls ≡ calls_of (exchanges_of session)) × (answers ≡ answers_of (exchanges_of session))

-- so it is in all sessions
abbrev pub AreLogged : List Asked → List Answered → List Session → Type 0
AreLogged asked answered sessions = (k : ℕ) → IsLogged (asked_in k asked) (answered_in k answered) (session_at sessions k)
