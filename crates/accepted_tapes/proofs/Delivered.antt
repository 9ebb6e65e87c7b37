-- What a delivery at the first of three nodes puts in flight.
use Rattle.std.proofs.Common.{◌≡◌, ◌⊎◌, inl, inr, ◌+◌, ◌≤◌, ℕ, zero, suc, Bool, true, false, nat_le, List, [], ◌∷◌, ◌++◌, length, take, map, Option, Some, None, refl, sym, ap, ◌∙◌, subst, arith, codes, length-append, if◌then◌else◌}
use Rattle.std.proofs.lemmas.Option.{none-some, same_Some}
use Rattle.std.proofs.lemmas.List.{length-take}
use Rattle.std.proofs.lemmas.Bool.Decides.{nat_tests}
use Rattle.httpdate.specs.Date.{date_text}
use Rattle.object_model.specs.Sets.{count_below}
use Rattle.mail_model.specs.Identity.{Id, Stamp, id_text}
use Rattle.std.specs.Fmt.{decimal, digits}
use Rattle.mail_model.specs.Mail.{IsStored, protocol_of}
use Rattle.mail_model.specs.Lines.{sent_line}
use Rattle.mail_model.specs.Record.{Record}
use Rattle.mail_model.specs.Record.Record.{Boot, Promise}
use Rattle.object_model.specs.Letters.{Number, MapRow, Letter}
use Rattle.session_model.specs.Calls.{Call, given_of}
use Rattle.session_model.specs.Calls.Call.{Deliver as DeliverCall}
use Rattle.cluster_model.specs.Cluster.{Node, Life, Slot, with_slot}
use Rattle.cluster_model.specs.Cluster.Life.{Up, Down, Lost}
use Rattle.cluster_model.specs.Starts.{first_epoch, fresh_node}
use Rattle.cluster_model.specs.Deeds.{slot_up}
use Rattle.cluster_model.specs.Rules.{Reaction}
use Rattle.cluster_model.specs.Room.{Flight, has_room}
use Rattle.cluster_model.specs.World.{World}
use Rattle.cluster_model.specs.WorldLaws.{opening_world}
use Rattle.cluster_model.specs.Steps.{NodeCall, fails_at_once}
use Rattle.cluster_model.specs.Steps.NodeCall.{Deliver, Login, Fetch, Strike, Leave}
use Rattle.cluster_model.specs.Steps.Said.{Begun, Noted, Faulted}
use Rattle.cluster_model.specs.Makes.{IsUp, BeginsCall, BeginsRead, DrawsTicket, IsFiled, after, with_struck, begun_by}
use Rattle.cluster_model.specs.Makes.BeginsCall.{FailsAtOnce, Goes, FailsInIt}
use Rattle.cluster_model.specs.Makes.BeginsRead.{HasNoManager, Draws, FailsReading, Leaves}
use Rattle.cluster_owes.specs.Seen.{call_made, is_whole}
use Rattle.worked_sessions.specs.OneMessage.{small_mail}
use Rattle.worked_sessions.specs.ThreeNodes.{three_nodes}
use Rattle.accepted_tapes.proofs.Flown.{AreFirstUp, Holds, stay_up, file_of, filed_of}

-- each node as it is opened
abbrev pub fresh : List MapRow → Node
fresh managers = fresh_node 3 managers

abbrev pub fresh_disk : List Record
fresh_disk = Boot 1 ∷ Promise first_epoch ∷ []

all_fresh : (managers : List MapRow) → AreFirstUp 3 (opening_world 3 managers).slots
all_fresh managers zero above within = absurd (omega (arith, above))
all_fresh managers (suc zero) above within = record { node = fresh managers; disk = fresh_disk; up = refl; managers = managers; first = refl }
all_fresh managers (suc (suc zero)) above within = record { node = fresh managers; disk = fresh_disk; up = refl; managers = managers; first = refl }
all_fresh managers (suc (suc (suc zero))) above within = record { node = fresh managers; disk = fresh_disk; up = refl; managers = managers; first = refl }
all_fresh managers (suc (suc (suc (suc n)))) above within = absurd (omega (arith, within))

abbrev node_in : List MapRow → Life → Node
node_in managers (Up node) = node
node_in managers (Down pending) = fresh managers
node_in managers Lost = fresh managers

is_fresh : (managers : List MapRow) (node : Node) (disk : List Record) → IsUp (opening_world 3 managers) 1 node disk → node ≡ fresh managers
is_fresh managers node disk up = ap (λ (slot : Slot). node_in managers slot.life) (same_Some (slot_up node disk) (slot_up (fresh managers) fresh_disk) (sym up))

-- the call of the message
same_mail : (call : NodeCall) → call_made call ≡ Some (DeliverCall small_mail) → call ≡ Deliver small_mail
same_mail (Deliver mail) is = let e : DeliverCall mail ≡ DeliverCall small_mail = same_Some (DeliverCall mail) (DeliverCall small_mail) is in let m : mail ≡ small_mail = cc in ap Deliver m
same_mail (Login user proof) is = let e : Call.Login user (given_of proof) ≡ DeliverCall small_mail = same_Some (Call.Login user (given_of proof)) (DeliverCall small_mail) is in absurd (cc e)
same_mail (Fetch user id from most holders) is = by (is_whole from most) is
  where
    by : (b : Bool) → (if b then Some (Call.Fetch user id) else None) ≡ Some (DeliverCall small_mail) → Fetch user id from most holders ≡ Deliver small_mail
    by true e = let clash : Call.Fetch user id ≡ DeliverCall small_mail = same_Some (Call.Fetch user id) (DeliverCall small_mail) e in absurd (cc clash)
    by false e = absurd (none-some (DeliverCall small_mail) e)
same_mail (Strike user items) is = let e : Call.Strike user (map (λ item. item.id) items) ≡ DeliverCall small_mail = same_Some (Call.Strike user (map (λ item. item.id) items)) (DeliverCall small_mail) is in absurd (cc e)
same_mail (Leave user login manager) is = absurd (none-some (DeliverCall small_mail) is)

-- the octets of the message are few
abbrev pub first_id : Id
first_id = record { node = 1; boot = 1; seq = 1 }

abbrev before_date : List ℕ
before_date =
    sent_line (codes "Return-Path: <" ++ small_mail.sender ++ codes ">")
    ++ sent_line (codes "Received: from " ++ small_mail.helo)
    ++ sent_line (codes " by node" ++ decimal first_id.node ++ codes " with " ++ protocol_of small_mail.extended ++ codes " id <" ++ id_text first_id ++ codes "@node" ++ decimal first_id.node ++ codes ">;")

within : (size most : ℕ) → nat_le size most ≡ true → size ≤ most
within size most is = grind (arith, nat_tests, is)

short_octets : (octets : List ℕ) → IsStored small_mail first_id 0 octets → length octets ≤ 4096
unfolding digits
short_octets octets stored =
    let date = stored.date in
    let front = take 26 (date_text stored.dated.0) in
    let whole : length octets ≡ length (before_date ++ sent_line (codes " " ++ date) ++ small_mail.text) = ap length stored.whole in
    omega (
      arith,
      whole,
      length-append (before_date ++ sent_line (codes " " ++ date)) small_mail.text,
      length-append before_date (sent_line (codes " " ++ date)),
      length-append (codes " " ++ date) (13 ∷ 10 ∷ []),
      length-append (codes " ") date,
      ap length stored.dated.2,
      length-append front (codes "+0000"),
      length-take 26 (date_text stored.dated.0),
      within (length before_date) 200 refl,
      within (length small_mail.text) 200 refl,
    )

-- the first stamp, and the ticket
abbrev pub first_stamp : Stamp
first_stamp = record { count = 1; boot = 1; node = 1 }

abbrev pub first_ticket : Option Number
first_ticket = Some (record { node = 1; boot = 1; seq = 1 })

-- the letter to a node, and its answer
abbrev pub file_to : ℕ → List ℕ → Letter
file_to to octets = file_of 1 to first_ticket first_id first_stamp 7 small_mail.mailboxes octets

abbrev pub told_by : ℕ → Letter
told_by from = filed_of from 1 first_ticket first_id

abbrev pub two_files : List ℕ → List Flight
two_files octets = record { number = 1; letter = file_to 2 octets } ∷ record { number = 2; letter = file_to 3 octets } ∷ []

sends_two : (w : World) (own : ℕ) (did : Reaction) (one two : Letter) → did.out ≡ one ∷ two ∷ [] → has_room w.flying one ≡ true → has_room (w.flying ++ record { number = w.sent + 1; letter = one } ∷ []) two ≡ true
    → after w own did ≡ record w {
      slots = with_slot w.slots own (slot_up did.node did.disk);
      flying = (w.flying ++ record { number = w.sent + 1; letter = one } ∷ []) ++ record { number = (w.sent + 1) + 1; letter = two } ∷ [];
      sent = (w.sent + 1) + 1;
    }
sends_two w own did one two out first second = rw out (rw first (rw second refl))

pub fits_in : (size most : ℕ) → size ≤ most → nat_le size most ≡ true
fits_in size most fits = grind (arith, nat_tests, fits)

began : (managers : List MapRow) (octets : List ℕ) → length octets ≤ 4096 → (new : World) → new ≡ after (with_struck (opening_world 3 managers) (Deliver small_mail)) 1 (begun_by three_nodes (opening_world 3 managers) 1 (fresh managers) fresh_disk (Deliver small_mail) octets)
    → Holds 3 (two_files octets) 2 new
unfolding count_below
began managers octets short new is =
    let did : Reaction = begun_by three_nodes (opening_world 3 managers) 1 (fresh managers) fresh_disk (Deliver small_mail) octets in
    let to = is ∙ sends_two (opening_world 3 managers) 1 did (file_to 2 octets) (file_to 3 octets) refl (fits_in _ 536870912 (omega (arith, short))) (fits_in _ 536870912 (omega (arith, short))) in
    record {
      flying_is = ap (λ (w : World). w.flying) to;
      sent_is = ap (λ (w : World). w.sent) to;
      up = subst (AreFirstUp 3) (sym (ap (λ (w : World). w.slots) to)) (stay_up 3 (opening_world 3 managers).slots 1 (fresh managers) did.node fresh_disk did.disk (all_fresh managers) refl refl);
    }

-- the message has begun to be delivered
pub delivered : (managers : List MapRow) (call : NodeCall) (ticket : Number) (new : World) → call_made call ≡ Some (DeliverCall small_mail) → BeginsCall three_nodes true (opening_world 3 managers) 1 call (Begun ticket) new ⊎ BeginsRead three_nodes (opening_world 3 managers) 1 call (Begun ticket) new
    → (octets : List ℕ) × (length octets ≤ 4096) × Holds 3 (two_files octets) 2 new
unfolding count_below
delivered managers call ticket new made begins = by call begins (same_mail call made)
  where
    fails_not : (node : Node) (disk : List Record) → IsUp (opening_world 3 managers) 1 node disk → fails_at_once three_nodes 0 node (Deliver small_mail) ≡ true → ⊥
    fails_not node disk up fails = let clash : false ≡ true = subst (λ (n : Node). fails_at_once three_nodes 0 n (Deliver small_mail) ≡ true) (is_fresh managers node disk up) fails in cc

    by : (c : NodeCall) → BeginsCall three_nodes true (opening_world 3 managers) 1 c (Begun ticket) new ⊎ BeginsRead three_nodes (opening_world 3 managers) 1 c (Begun ticket) new → c ≡ Deliver small_mail → (octets : List ℕ) × (length octets ≤ 4096) × Holds 3 (two_files octets) 2 new
    by c (inl (FailsAtOnce node disk kind up kind_is fails said is)) same = absurd (fails_not node disk up (subst (λ (x : NodeCall). fails_at_once three_nodes 0 node x ≡ true) same fails))
    by c (inl (Goes node disk octets up fine filed said is)) same =
        let here : IsFiled (opening_world 3 managers) 1 (fresh managers) (Deliver small_mail) octets = subst (λ (n : Node). IsFiled (opening_world 3 managers) 1 n (Deliver small_mail) octets) (is_fresh managers node disk up) (subst (λ (x : NodeCall). IsFiled (opening_world 3 managers) 1 node x octets) same filed) in
        let short = short_octets octets here.0 in
        let on : disk ≡ fresh_disk = ap (λ (slot : Slot). slot.disk) (same_Some (slot_up node disk) (slot_up (fresh managers) fresh_disk) (sym up)) in (
          octets,
          short,
          began managers octets short new (subst (λ (d : List Record). new ≡ after (with_struck (opening_world 3 managers) (Deliver small_mail)) 1 (begun_by three_nodes (opening_world 3 managers) 1 (fresh managers) d (Deliver small_mail) octets)) on
              (subst (λ (n : Node). new ≡ after (with_struck (opening_world 3 managers) (Deliver small_mail)) 1 (begun_by three_nodes (opening_world 3 managers) 1 n disk (Deliver small_mail) octets)) (is_fresh managers node disk up)
              (subst (λ (x : NodeCall). new ≡ after (with_struck (opening_world 3 managers) x) 1 (begun_by three_nodes (opening_world 3 managers) 1 node disk x octets)) same is))),
        )
    by c (inl (FailsInIt node disk octets up filed said goes_down)) same = absurd (let clash : Begun ticket ≡ Faulted 1 = said in cc)
    by c (inr (HasNoManager node disk user proof up logs_in goes said is)) same = absurd (let clash : Login user proof ≡ Deliver small_mail = sym logs_in ∙ same in cc)
    by c (inr (Draws node disk up draws goes said on)) same = absurd (subst DrawsTicket same draws)
    by c (inr (FailsReading node disk user id from most holders up fetches reads said is)) same = absurd (let clash : Begun ticket ≡ Faulted 1 = said in cc)
    by c (inr (Leaves node disk user login manager up leaves said on)) same = absurd (let clash : Begun ticket ≡ Noted = said in cc)
