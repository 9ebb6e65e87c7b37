-- What rules make of one ticket, and of all tickets with it.
use Rattle.std.specs.Prelude.{ℕ, List, [], Option, Some, None}
use Rattle.std.specs.FinMap as fin
use Rattle.object_model.specs.Letters.{ToldItem, Body, Letter}
use Rattle.object_model.specs.Mishaps.{MishapKind, Mishaps, counted}
use Rattle.login_model.specs.Readings.{ReadTicket, Reads}
use Rattle.login_model.specs.Rules.{ReadDid, Under, hear_for, befell, give_up}

-- a ticket once a rule was done with it, and the letters
pub record TicketDid : Type 0 where
  pub ticket : ReadTicket
  pub out : List Letter

abbrev pub ticket_did : Mishaps → ReadDid → TicketDid
ticket_did mishaps did = record { ticket = record { reading = did.reading; mishaps = mishaps }; out = did.out }

abbrev pub ticket_told : Under → ℕ → List ToldItem → Body → ReadTicket → TicketDid
ticket_told u from mine body ticket = ticket_did ticket.mishaps (hear_for u from mine ticket.reading body)

abbrev pub ticket_befell : Under → MishapKind → ℕ → ReadTicket → TicketDid
ticket_befell u kind at ticket = ticket_did (counted kind ticket.mishaps) (befell u at ticket.reading)

-- all tickets once it was, and the letters
pub record TableDid : Type 0 where
  pub reads : Reads
  pub out : List Letter

abbrev pub put_back : Reads → ℕ → TicketDid → TableDid
put_back reads seq did = record { reads = fin.insert reads seq did.ticket; out = did.out }

abbrev pub did_if_stands : (ReadTicket → TicketDid) → Reads → ℕ → Option ReadTicket → TableDid
did_if_stands rule reads seq None = record { reads = reads; out = [] }
did_if_stands rule reads seq (Some ticket) = put_back reads seq (rule ticket)

-- a ticket that stands is taken out
abbrev pub taken_if_stands : Reads → ℕ → Option ReadTicket → Reads
taken_if_stands reads seq None = reads
taken_if_stands reads seq (Some ticket) = fin.remove reads seq

abbrev pub letters_given_up : Under → Option ReadTicket → List Letter
letters_given_up u None = []
letters_given_up u (Some ticket) = give_up u ticket.reading
