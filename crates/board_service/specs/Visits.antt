-- Connections that were served in the name of a pass, and what its entries of the book came of.
use Rattle.std.specs.Prelude.{◌≡◌, ◌⊎◌, ◌&&◌, ℕ, ◌+◌, ⊤, List, [], ◌∷◌, length, false, nat_le, Option, Some}
use Rattle.std.specs.Option.{option_map}
use Rattle.io_edge.specs.declared.yard.Protocol.{Protocol}
use Rattle.io_edge.specs.declared.yard.Protocol.TheVariants.{Smtp, Pop}
use Rattle.mail_model.specs.Book.{BookEntry, acked_in, struck_in}
use Rattle.mail_model.specs.Plan.{Plan}
use Rattle.call_tickets.specs.Tells.{TellsMore}
use Rattle.call_tickets.specs.Passes.{PassKnows, known_to}
use Rattle.call_tickets.specs.declared.tally.Tally.{Tally}
use Rattle.session_gate.specs.Connections.{ServesSmtp, ServesPop}
use Rattle.session_gate.specs.declared.stop.Served.{Served}
use Rattle.mail_service.specs.declared.backend.Line.{Line}
use Rattle.board_service.specs.Disks.{EachTells}

-- A connection of this number was served at this node, as its protocol is spoken.
abbrev pub ServedBy : Protocol → Plan → (node number : ℕ) → Served → (left0 left1 held0 held1 : Option (List ℕ)) → PassKnows → PassKnows → Type 0
ServedBy Smtp plan node number ended left0 left1 held0 held1 old new = ServesSmtp plan node ended left0 left1 held0 held1 old new
ServedBy Pop plan node number ended left0 left1 held0 held1 old new = ServesPop plan node number ended left0 left1 held0 held1 old new

-- No plan has a node of this number: nothing was read or written, and nothing done.
pub record IsPassedOver (node : ℕ) (left0 left1 held0 held1 : Option (List ℕ)) (told0 told1 : Option (List BookEntry)) : Type 0 where
  pub nowhere : (nat_le 1 node && nat_le node 16) ≡ false
  pub left : left1 ≡ left0
  pub held : held1 ≡ held0
  pub told : told1 ≡ told0

-- A connection: which it is, and how it ended; what its source had left and its sink held, before and after; and the entries that the pass told as its own, where told, with its
-- counts, before and after.
pub record Visit : Type 0 where
  pub line : Line
  pub ended : Served
  pub left0 : Option (List ℕ)
  pub left1 : Option (List ℕ)
  pub held0 : Option (List ℕ)
  pub held1 : Option (List ℕ)
  pub told0 : Option (List BookEntry)
  pub told1 : Option (List BookEntry)
  pub counts0 : Tally
  pub counts1 : Tally

-- it was served so, or it is at no node
abbrev pub WasServed : Plan → Visit → Type 0
WasServed plan v =
    IsPassedOver v.line.node v.left0 v.left1 v.held0 v.held1 v.told0 v.told1
    ⊎ ServedBy v.line.protocol plan v.line.node v.line.number v.ended v.left0 v.left1 v.held0 v.held1 (known_to v.told0 v.counts0) (known_to v.told1 v.counts1)

-- nothing was acknowledged and nothing struck, by what is told still
pub record IsStill (old new : Option (List BookEntry)) : Type 0 where
  pub acked : TellsMore (option_map acked_in old) [] (option_map acked_in new)
  pub struck : TellsMore (option_map struck_in old) [] (option_map struck_in new)

-- What is told came of these connections, the latest first: each found what those before it had left, and between them nothing was acknowledged or struck.
abbrev pub ComesOf : Plan → List Visit → Option (List BookEntry) → Type 0
ComesOf plan [] told = IsStill (Some []) told
ComesOf plan (visit ∷ earlier) told = IsStill visit.told1 told × WasServed plan visit × ComesOf plan earlier visit.told0

-- so it is of each of these connections
abbrev pub AllServed : Plan → List Visit → Type 0
AllServed plan [] = ⊤
AllServed plan (visit ∷ earlier) = WasServed plan visit × AllServed plan earlier

-- So many connections were served. Where each disk tells what it holds, the entries are what they came to know.
pub record IsEarned {D : Type 0} (seen : D → Option (List ℕ)) (plan : Plan) (entries : List BookEntry) (count : ℕ) : Type 0 where
  pub visits : List Visit
  pub count_is : count ≡ length visits
  pub served : AllServed plan visits
  pub comes : EachTells seen → ComesOf plan visits (Some entries)

-- and so it is of each of these lists, which so many came to know together
abbrev pub AllEarned : {D : Type 0} → (D → Option (List ℕ)) → Plan → List (List BookEntry) → ℕ → Type 0
AllEarned seen plan [] count = count ≡ 0
AllEarned seen plan (entries ∷ more) count = (here : ℕ) × (rest : ℕ) × (count ≡ here + rest) × IsEarned seen plan entries here × AllEarned seen plan more rest
