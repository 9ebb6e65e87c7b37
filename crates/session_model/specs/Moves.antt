-- The moves of a session, each of which keeps a talk a talk; and that octets and answers fix it.
use Rattle.std.specs.Prelude.{◌≡◌, ℕ, List, [], ◌∷◌, ◌++◌, flat_map, Option, Some, None}
use Rattle.mail_model.specs.Plan.{Plan}
use Rattle.mail_model.specs.Tape.{Protocol}
use Rattle.session_model.specs.Calls.{Call, Answer, RepliesTo}
use Rattle.session_model.specs.Talk.{TalkState, Exchange, Standing, IsNext, IsTalk, IsOn, IsIdle, TalkGoes, opening_state, stands_by, answered}
use Rattle.session_model.specs.Talk.Standing.{Hearing, Waiting, EndedDown, EndedClosed}

-- a session that hears, and was fed nothing
abbrev pub Begins : Type 0
Begins = (plan : Plan) (node : ℕ) (protocol : Protocol) → IsTalk plan node protocol [] [] (Hearing (opening_state protocol)) []

-- it is fed
abbrev pub IsFed : Type 0
IsFed = (plan : Plan) (node : ℕ) (protocol : Protocol) (octets more rest : List ℕ) (exchanges : List Exchange) (standing : Standing)
    → IsTalk plan node protocol octets exchanges standing rest → IsTalk plan node protocol (octets ++ more) exchanges standing (rest ++ more)

-- it hears its next unit, and replies or asks its node
abbrev pub HearsNext : Type 0
HearsNext = (plan : Plan) (node : ℕ) (protocol : Protocol) (octets rest left : List ℕ) (exchanges : List Exchange) (state : TalkState) (one : Exchange)
    → IsTalk plan node protocol octets exchanges (Hearing state) rest → IsNext plan node state rest one left
    → IsTalk plan node protocol octets (exchanges ++ one ∷ []) (stands_by plan node state one) left

-- the exchange once its call was answered
abbrev pub with_answer : Exchange → Answer → List (List ℕ) → Exchange
with_answer one answer reply = record one { answer = Some answer; reply = reply }

-- its node answers, or the call is given up
abbrev pub IsAnswered : Type 0
IsAnswered = (plan : Plan) (node : ℕ) (protocol : Protocol) (octets rest : List ℕ) (exchanges : List Exchange) (state : TalkState) (call : Call) (one : Exchange)
    (answer : Answer) (reply : List (List ℕ))
    → IsTalk plan node protocol octets (exchanges ++ one ∷ []) (Waiting state call) rest → RepliesTo one.unit call answer reply
    → IsTalk plan node protocol octets (exchanges ++ with_answer one answer reply ∷ []) (answered state call answer) rest

-- its node goes down
abbrev pub FallsDown : Type 0
FallsDown = (plan : Plan) (node : ℕ) (protocol : Protocol) (octets rest : List ℕ) (exchanges : List Exchange) (standing : Standing)
    → IsTalk plan node protocol octets exchanges standing rest → IsOn standing → IsTalk plan node protocol octets exchanges EndedDown rest

-- its client closes it
abbrev pub IsClosed : Type 0
IsClosed = (plan : Plan) (node : ℕ) (protocol : Protocol) (octets rest : List ℕ) (exchanges : List Exchange) (standing : Standing)
    → IsTalk plan node protocol octets exchanges standing rest → IsOn standing → IsTalk plan node protocol octets exchanges EndedClosed rest

-- the answer to a call, where there is a call
abbrev pub answer_to : Option Call → Option Answer → List (Option Answer)
answer_to None answer = []
answer_to (Some call) answer = answer ∷ []

-- the answers to all calls
abbrev pub answers : List Exchange → List (Option Answer)
answers exchanges = flat_map (λ one. answer_to one.call one.answer) exchanges

-- what a session was fed and was answered fixes its exchanges, how it stands, and what is left
abbrev pub OneTalk : Type 0
OneTalk = (plan : Plan) (node : ℕ) (first : Standing) (octets : List ℕ) (xs ys : List Exchange) (last_x last_y : Standing) (rest_x rest_y : List ℕ)
    → TalkGoes plan node first octets xs last_x rest_x → TalkGoes plan node first octets ys last_y rest_y → answers xs ≡ answers ys
    → IsIdle last_x rest_x → IsIdle last_y rest_y → (xs ≡ ys) × (last_x ≡ last_y) × (rest_x ≡ rest_y)
