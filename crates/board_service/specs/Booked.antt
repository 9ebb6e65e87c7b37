-- What clients were told is stored stands in the book.
use mathlib.Core.Logic.{inl, inr}
use Rattle.std.specs.Prelude.{◌≡◌, ℕ, List, [], ◌∷◌, ◌++◌, map, ⊤, Option, Some}
use Rattle.io_edge.specs.declared.yard.Protocol.{Protocol}
use Rattle.io_edge.specs.declared.yard.Protocol.TheVariants.{Smtp, Pop}
use Rattle.mail_model.specs.Book.{BookEntry, Acked, acked_in}
use Rattle.mail_model.specs.Identity.{Id}
use Rattle.mail_model.specs.Plan.{Plan}
use Rattle.mail_model.specs.Told.{Mail}
use Rattle.object_model.specs.Lists.{Among}
use Rattle.session_model.specs.Calls.Call.{Deliver}
use Rattle.session_model.specs.Calls.Answer.{Stored}
use Rattle.session_model.specs.Talk.{Exchange}
use Rattle.call_tickets.specs.Passes.{PassKnows, known_to}
use Rattle.session_gate.specs.Connections.{ServesSmtp, ServesPop}
use Rattle.session_gate.specs.Deals.{AreMessageCopies}
use Rattle.session_gate.specs.declared.stop.Served.{Served}
use Rattle.node_store.specs.Disks.{View}
use Rattle.cluster_world.specs.Worlds.{book_of}
use Rattle.cluster_world.specs.declared.world.World.{World}
use Rattle.shard_board.specs.Pages.{all_on}
use Rattle.board_service.specs.Visits.{Visit, ServedBy, WasServed, ComesOf, AllEarned}
use Rattle.board_service.specs.Disks.{EachTells}
use Rattle.board_service.specs.Served.{HasServed}

-- the exchanges of the session of a connection; none, where it had no session
abbrev pub smtp_exchanges : {plan : Plan} {node : ℕ} {ended : Served} {left0 left1 held0 held1 : Option (List ℕ)} {old new : PassKnows} → ServesSmtp plan node ended left0 left1 held0 held1 old new → List Exchange
smtp_exchanges (inl refused) = []
smtp_exchanges (inr (inl silent)) = []
smtp_exchanges (inr (inr (start, quiet, served))) = served.come.at.plain.whole

abbrev pub pop_exchanges : {plan : Plan} {node number : ℕ} {ended : Served} {left0 left1 held0 held1 : Option (List ℕ)} {old new : PassKnows} → ServesPop plan node number ended left0 left1 held0 held1 old new → List Exchange
pop_exchanges (inl refused) = []
pop_exchanges (inr (inl silent)) = []
pop_exchanges (inr (inr (start, quiet, served))) = served.serves.come.at.plain.whole

abbrev pub exchanges_by : (protocol : Protocol) (plan : Plan) (node number : ℕ) (ended : Served) (left0 left1 held0 held1 : Option (List ℕ)) (old new : PassKnows)
    → ServedBy protocol plan node number ended left0 left1 held0 held1 old new → List Exchange
exchanges_by Smtp plan node number ended left0 left1 held0 held1 old new served = smtp_exchanges {plan = plan} {node = node} {ended = ended} {left0 = left0} {left1 = left1} {held0 = held0} {held1 = held1} {old = old} {new = new} served
exchanges_by Pop plan node number ended left0 left1 held0 held1 old new served =
    pop_exchanges {plan = plan} {node = node} {number = number} {ended = ended} {left0 = left0} {left1 = left1} {held0 = held0} {held1 = held1} {old = old} {new = new} served

abbrev pub exchanges_in : (plan : Plan) (visit : Visit) → WasServed plan visit → List Exchange
exchanges_in plan visit (inl passed) = []
exchanges_in plan visit (inr served) =
    exchanges_by visit.line.protocol plan visit.line.node visit.line.number visit.ended visit.left0 visit.left1 visit.held0 visit.held1 (known_to visit.told0 visit.counts0) (known_to visit.told1 visit.counts1) served

-- those of all the connections that a list came of, and of all lists
abbrev pub exchanges_of_list : (plan : Plan) (visits : List Visit) (told : Option (List BookEntry)) → ComesOf plan visits told → List Exchange
exchanges_of_list plan [] told comes = []
exchanges_of_list plan (visit ∷ earlier) told (last, served, before) = exchanges_in plan visit served ++ exchanges_of_list plan earlier visit.told0 before

abbrev pub exchanges_of_all : {D : Type 0} (seen : D → Option (List ℕ)) (each : EachTells seen) (plan : Plan) (lists : List (List BookEntry)) (count : ℕ) → AllEarned seen plan lists count → List Exchange
exchanges_of_all seen each plan [] count none = []
exchanges_of_all seen each plan (entries ∷ more) count (here, rest, sum, is, others) =
    exchanges_of_list plan is.visits (Some entries) (is.comes each) ++ exchanges_of_all seen each plan more rest others

-- A message that was answered as stored has its copies here, one for each mailbox, with the length and the digest of exactly what was told.
abbrev pub IsKept : List Acked → Exchange → Type 0
IsKept acked one = (mail : Mail) (id : Id) → one.call ≡ Some (Deliver mail) → one.answer ≡ Some (Stored id) → (copies : List Acked) × AreMessageCopies mail id copies × ((copy : Acked) → Among copy copies → Among copy acked)

abbrev pub AreKept : List Acked → List Exchange → Type 0
AreKept acked [] = ⊤
AreKept acked (one ∷ more) = IsKept acked one × AreKept acked more

-- So it is of all that a service told its clients, and the book of the world that it leaves, where each disk tells what it holds.
abbrev pub ToldIsBooked : {D : Type 0} → View D → Type 0
ToldIsBooked {D} on = (each : EachTells on.seen) (plan : Plan) (old new : World D) (served : HasServed on plan old new)
    → AreKept (acked_in (book_of new)) (exchanges_of_all on.seen each plan (map all_on served.pages) served.count served.earned)
