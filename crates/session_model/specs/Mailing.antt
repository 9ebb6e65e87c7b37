-- What the exchanges of a session that takes mail tell its client.
use Rattle.std.specs.Prelude.{◌≡◌, ◌≢◌, ℕ, ◌+◌, Bool, false, List, [], ◌∷◌, ◌++◌, AllPairs, length, map, flat_map, nat_eq, Option, Some, if◌then◌else◌}
use Rattle.std.specs.Cmp.Lexicographic.{pointwise}
use Rattle.mail_model.specs.Identity.{Id}
use Rattle.mail_model.specs.Plan.{Plan}
use Rattle.mail_model.specs.Tape.{Protocol}
use Rattle.mail_model.specs.Tape.Protocol.{Smtp}
use Rattle.mail_model.specs.Smtp.{stored_text}
use Rattle.mail_model.specs.Session.{Unit, Told, silent}
use Rattle.mail_model.specs.Told.{Mail, Answers, told_from, mail_of}
use Rattle.session_model.specs.Calls.{Call, Answer}
use Rattle.session_model.specs.Calls.Call.{Deliver}
use Rattle.session_model.specs.Calls.Answer.{Stored}
use Rattle.session_model.specs.Talk.{Exchange, Standing, TalkGoes, opening_state, closing_line, replies}
use Rattle.session_model.specs.Talk.Standing.{Hearing}

-- a message that a node says is stored, under this id
pub record StoredMail : Type 0 where
  pub mail : Mail
  pub id : Id

-- the message of a call that was answered so
abbrev pub filing_of : Option Call → Option Answer → List StoredMail
filing_of (Some (Deliver mail)) (Some (Stored id)) = record { mail = mail; id = id } ∷ []
filing_of call answer = []

-- the messages that were stored, in order
abbrev pub filings : List Exchange → List StoredMail
filings exchanges = flat_map (λ one. filing_of one.call one.answer) exchanges

-- each unit with the last line of its reply
abbrev pub pairs : List Exchange → List (Unit × List ℕ)
pairs exchanges = map (λ one. (one.unit, closing_line one.reply)) exchanges

-- how many of these lines are `250 stored`
abbrev pub stored_lines : List (List ℕ) → ℕ
stored_lines [] = 0
stored_lines (line ∷ lines) = (if pointwise nat_eq line stored_text then 1 else 0) + stored_lines lines

-- A message that a session asks to be stored is that of a transaction, with each mailbox once, and the session takes mail.
abbrev pub AsksAsTold : Type 0
AsksAsTold = (plan : Plan) (node : ℕ) (protocol : Protocol) (octets : List ℕ) (exchanges : List Exchange) (last : Standing) (rest : List ℕ)
    → TalkGoes plan node (Hearing (opening_state protocol)) octets exchanges last rest
    → (before behind : List Exchange) (one : Exchange) (mail : Mail) → exchanges ≡ before ++ one ∷ behind → one.call ≡ Some (Deliver mail)
    → (protocol ≡ Smtp) × ((talk : Told) × (lines : List (List ℕ)) × (mail ≡ mail_of talk lines)) × AllPairs (λ a b. a ≢ b) mail.mailboxes

-- The messages that were stored are those that the client was told to be, in order, and each has one line `250 stored`.
abbrev pub StoredAsTold : Type 0
StoredAsTold = (plan : Plan) (node : ℕ) (octets : List ℕ) (exchanges : List Exchange) (last : Standing) (rest : List ℕ)
    → TalkGoes plan node (Hearing (opening_state Smtp)) octets exchanges last rest
    → ((in_text : Bool) × Answers false octets (pairs exchanges) in_text rest)
    × (map (λ filing. filing.mail) (filings exchanges) ≡ told_from plan silent (pairs exchanges))
    × (stored_lines (replies exchanges) ≡ length (filings exchanges))
