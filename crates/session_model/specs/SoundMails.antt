-- A message that is asked to be stored is sound.
use Rattle.std.specs.Prelude.{◌≡◌, ◌≢◌, List, ℕ, ⊤, AllPairs}
use Rattle.mail_model.specs.Session.{Told}
use Rattle.mail_model.specs.Told.{mail_of}
use Rattle.session_model.specs.Calls.{Call}
use Rattle.session_model.specs.Calls.Call.{Deliver, Login, Fetch, Strike}

-- it is a message as a session tells it, with each mailbox once
abbrev pub IsSoundMail : Call → Type 0
IsSoundMail (Deliver mail) = (talk : Told) × (lines : List (List ℕ)) × (mail ≡ mail_of talk lines) × AllPairs (λ one other. one ≢ other) mail.mailboxes
IsSoundMail (Login user given) = ⊤
IsSoundMail (Fetch user id) = ⊤
IsSoundMail (Strike user ids) = ⊤
