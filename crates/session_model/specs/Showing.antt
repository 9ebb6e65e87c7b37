-- What a session that reads mail shows of the messages that its login was answered with.
use Rattle.std.specs.Prelude.{◌≡◌, ◌⊎◌, ℕ, zero, suc, ◌<◌, ◌^◌, List, [], ◌∷◌, ◌++◌, Option, Some, None, slice_get}
use Rattle.std.specs.Fmt.{decimal}
use Rattle.mail_model.specs.Identity.{id_text}
use Rattle.mail_model.specs.Plan.{Plan}
use Rattle.mail_model.specs.Lines.{closed}
use Rattle.mail_model.specs.Tape.Protocol.{Pop}
use Rattle.mail_model.specs.PopReplies.{Item, shown_part}
use Rattle.mail_model.specs.Shown.{ShowsId, ShowsSize, ShowsOctets, ShowsTop}
use Rattle.mail_model.specs.Maildrop.{Given}
use Rattle.session_model.specs.Calls.Call.{Login, Fetch}
use Rattle.session_model.specs.Calls.Answer.{Listed, Part}
use Rattle.session_model.specs.Talk.{Exchange, Standing, TalkGoes, opening_state}
use Rattle.session_model.specs.Talk.Standing.{Hearing}
use Rattle.session_model.specs.Reading.{seen_exchange, Each}

-- the message of this number, the first being 1
abbrev pub numbered : List Item → ℕ → Option Item
numbered items zero = None
numbered items (suc n) = slice_get items n

-- These octets are shown of the message of this number: they are what RETR, or TOP with so many lines, shows of the octets that were fetched under the id that the
-- listing has for the number, with CRLF after them where they are not closed
pub record IsFetched (items : List Item) (n : ℕ) (lines : Option ℕ) (octets : List ℕ) (one : Exchange) : Type 0 where
  pub item : Item
  pub is : numbered items n ≡ Some item
  pub user : List ℕ
  pub part : List ℕ
  pub asked : one.call ≡ Some (Fetch user item.id)
  pub told : one.answer ≡ Some (Part part)
  pub same : octets ≡ closed (shown_part lines part)

-- The exchange shows of each number what this listing has for it.
pub record ShowsListed (items : List Item) (one : Exchange) : Type 0 where
  pub listed : (others : List Item) → one.answer ≡ Some (Listed others) → others ≡ items
  pub ids : (n : ℕ) (text : List ℕ) → n < 10 ^ 63 → ShowsId n text (seen_exchange one) → (item : Item) × (numbered items n ≡ Some item) × (text ≡ id_text item.id)
  pub sizes : (n : ℕ) (text : List ℕ) → n < 10 ^ 63 → ShowsSize n text (seen_exchange one) → (item : Item) × (numbered items n ≡ Some item) × (text ≡ decimal item.size)
  pub texts : (n : ℕ) (octets : List ℕ) → ShowsOctets n octets (seen_exchange one) → IsFetched items n None octets one
  pub tops : (n count : ℕ) (octets : List ℕ) → ShowsTop n count octets (seen_exchange one) → IsFetched items n (Some count) octets one

-- a login was answered with this listing
pub record WasListed (items : List Item) (exchanges : List Exchange) : Type 0 where
  pub before : List Exchange
  pub behind : List Exchange
  pub login : Exchange
  pub user : List ℕ
  pub given : Given
  pub are : exchanges ≡ before ++ login ∷ behind
  pub asked : login.call ≡ Some (Login user given)
  pub told : login.answer ≡ Some (Listed items)

-- All exchanges of a session show what one listing has; it is that with which a login was answered, or it is empty.
abbrev pub ShownAsListed : Type 0
ShownAsListed = (plan : Plan) (node : ℕ) (octets : List ℕ) (exchanges : List Exchange) (last : Standing) (rest : List ℕ)
    → TalkGoes plan node (Hearing (opening_state Pop)) octets exchanges last rest → (items : List Item) × ((items ≡ []) ⊎ WasListed items exchanges) × Each (ShowsListed items) exchanges
