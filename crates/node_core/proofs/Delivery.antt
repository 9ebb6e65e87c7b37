-- A delivery that a node begins.
use Rattle.std.proofs.Common.{◌≡◌, ◌≤◌, ◌+◌, ℕ, List, [], ◌++◌, length, Bool, true, false, cond, Some, None, refl, sym, ap, subst, ◌∙◌, arith, length-append}
use Rattle.std.specs.Prelude.{All, Ok, Err}
use Rattle.sha2.specs.Sha256.{sha256}
use Rattle.mail_model.specs.Names.{IsLowerName}
use Rattle.mail_model.specs.Identity.{Id, Stamp}
use Rattle.mail_model.specs.Grammar.{IsId, IsStamp, IsCount, IsRecord}
use Rattle.mail_model.specs.Told.{Mail}
use Rattle.mail_model.specs.Mail.{IsDate, IsStored, trace_lines}
use Rattle.object_model.specs.Sets.{has}
use Rattle.object_model.specs.UpdateLog.{Log}
use Rattle.object_model.specs.Letters.{Letter}
use Rattle.object_model.specs.Letters.Body.{File}
use Rattle.cluster_model.specs.Cluster as plain
use Rattle.cluster_model.specs.Cluster.{epoch_of}
use Rattle.cluster_model.specs.Store.{Store, here_updates}
use Rattle.cluster_model.specs.Rules.{receivers, letters_to, new_number}
use Rattle.cluster_model.specs.TicketLaws.{delivery_ticket}
use Rattle.std.specs.FinMap as fin
use Rattle.node_store.specs.Disks.{View}
use Rattle.node_store.specs.Appends.{Fails}
use Rattle.node_store.specs.Keeps.{seen_with}
use Rattle.node_store.specs.Changes.{with_stored}
use Rattle.node_store.specs.Writes.{Done, WorkIsCutShort}
use Rattle.node_store.specs.declared.fault.KeepFault.{KeepFault}
use Rattle.node_store.specs.declared.fault.KeepFault.TheVariants as keep
use Rattle.node_store.specs.declared.store.NodeStore.{NodeStore}
use Rattle.node_tickets.specs.declared.tickets.Tickets.{Tickets}
use Rattle.node_tickets.specs.Standing.{IsOf, tickets_in}
use Rattle.node_core.specs.Nodes.{node_seen, IsWhole}
use Rattle.node_core.specs.Spelling.{AllCanBeTaken, IsShort}
use Rattle.node_core.specs.Works.{fault_of}
use Rattle.node_core.specs.Filed.{with_filed}
use Rattle.node_core.specs.Delivering.{next_id, next_stamp, next_targets, filed_where, delivering, DeliveryStopped, BeginsDelivery}
use Rattle.node_core.specs.declared.outbox.Outbox.{Outbox}
use Rattle.node_core.specs.declared.numbers.Numbers.{Numbers}
use Rattle.node_core.specs.declared.node.Node.{Node}
use Rattle.trace_lines.proofs.Short.{short_lines}
use Rattle.node_core.proofs.Doing.{did_by, stopped_by}
use Rattle.node_core.proofs.Fitting.{all_fit, octets_fit, here_objects}
use Rattle.node_core.proofs.Sending.{letters_fit}

-- the trace lines with the sender and the argument, and the text
pub stored_is : (mail : Mail) (id : Id) (seconds : ℕ) (date sender helo text lines octets : List ℕ) → IsDate seconds date → sender ≡ mail.sender → helo ≡ mail.helo → text ≡ mail.text
    → lines ≡ trace_lines (record { sender = sender; helo = helo; extended = mail.extended; mailboxes = []; text = [] }) id date → octets ≡ lines ++ text → IsStored mail id seconds octets
stored_is mail id seconds date sender helo text lines octets dated same_sender same_helo same_text traced whole = record {
  date = date;
  dated = dated;
  whole = whole ∙ ap (λ (l : List ℕ). l ++ text) traced ∙ ap (λ (t : List ℕ). trace_lines (record { sender = sender; helo = helo; extended = mail.extended; mailboxes = []; text = [] }) id date ++ t) same_text
      ∙ ap (λ (s : List ℕ). trace_lines (record { sender = s; helo = helo; extended = mail.extended; mailboxes = []; text = [] }) id date ++ mail.text) same_sender
      ∙ ap (λ (h : List ℕ). trace_lines (record { sender = mail.sender; helo = h; extended = mail.extended; mailboxes = []; text = [] }) id date ++ mail.text) same_helo;
}

pub stored_short : (mail : Mail) (id : Id) (seconds : ℕ) (octets : List ℕ) → IsId id → length mail.sender ≤ 512 → length mail.helo ≤ 255 → length mail.text ≤ 16777216
    → IsStored mail id seconds octets → IsShort octets
stored_short mail id seconds octets fits sender helo text stored =
    omega (arith, ap length stored.whole, length-append (trace_lines mail id stored.date) mail.text, short_lines mail id seconds stored.date fits stored.dated sender helo, text)

-- where the own node is no target nothing is filed
pub unfiled : (own : ℕ) (id : Id) (stamp : Stamp) (targets : ℕ) (users : List (List ℕ)) (octets : List ℕ) → has targets own ≡ false → (s : Store) → s ≡ filed_where own id stamp targets users octets s
unfiled own id stamp targets users octets none s = ap (λ (b : Bool). cond b (with_filed own id stamp targets users octets s) s) (sym none)

pub filed : (own : ℕ) (id : Id) (stamp : Stamp) (targets : ℕ) (users : List (List ℕ)) (octets : List ℕ) → has targets own ≡ true → (s : Store)
    → with_filed own id stamp targets users octets s ≡ filed_where own id stamp targets users octets s
filed own id stamp targets users octets is s = ap (λ (b : Bool). cond b (with_filed own id stamp targets users octets s) s) (sym is)

filed_fit : (own : ℕ) (id : Id) (stamp : Stamp) (targets : ℕ) (users : List (List ℕ)) (octets : List ℕ) (s : Store) → IsId id → IsStamp stamp → IsCount 16 targets → All IsLowerName users
    → All IsRecord s.disk → All IsRecord (filed_where own id stamp targets users octets s).disk
filed_fit own id stamp targets users octets s i t c n fit = by (has targets own)
  where
    by : (b : Bool) → All IsRecord ((λ (x : Store). x.disk) (cond b (with_filed own id stamp targets users octets s) s))
    by true = all_fit own (here_updates id stamp targets users) (with_stored id users octets s) (octets_fit id users octets s.disk i fit) (here_objects id stamp targets users i t c n)
    by false = fit

module _ {D : Type 0} (on : View D) (mail : Mail) (seconds : ℕ) (old : Node) (before : D) (after : D) (octets : List ℕ) where
  abbrev own : ℕ
  own = old.store.own

  abbrev pub change : Store → Store
  change = filed_where own (next_id old) (next_stamp old) (next_targets old) mail.mailboxes octets

  -- its work stopped
  pub delivery_stopped : (new : Node) (fault : KeepFault) → IsStored mail (next_id old) seconds octets → IsId (next_id old) → IsStamp (next_stamp old) → IsCount 16 (next_targets old)
      → All IsLowerName mail.mailboxes → WorkIsCutShort on change old.store before after → Fails fault (on.faults before) (on.faults after)
      → BeginsDelivery on mail seconds old before new after (Err (fault_of fault))
  delivery_stopped new fault stored i t c n cut fails = by fault (record {
    octets = octets;
    stored = stored;
    stopped = stopped_by on (delivering on mail seconds old before new after octets) change old before after cut (λ records k. refl)
        (λ records k. filed_fit own (next_id old) (next_stamp old) (next_targets old) mail.mailboxes octets (seen_with old.store records) i t c n k.fit);
    fails = fails;
  })
    where
      by : (f : KeepFault) → DeliveryStopped on mail seconds old before new after f → BeginsDelivery on mail seconds old before new after (Err (fault_of f))
      by keep.Disk stopped = stopped
      by keep.NoMemory stopped = stopped

  -- it was done
  module _ (store : NodeStore) (numbers : Numbers) (tickets : Tickets) where
    abbrev now : Node
    now = record old { store = store; numbers = numbers; tickets = tickets }

    abbrev filing : plain.NodeFiling
    filing = record { id = next_id old; users = mail.mailboxes; seconds = seconds; size = length octets; digest = sha256 octets }

    abbrev pub sent_letters : List Letter
    sent_letters = letters_to old.store.own (epoch_of (node_seen old)) (Some (new_number old.store.own (node_seen old))) (receivers old.store.own (next_targets old) old.shape.nodes)
        (File (next_id old) (next_stamp old) (next_targets old) mail.mailboxes octets)

    pub delivery_begun : (letters : List Letter) (outbox : Outbox) → IsStored mail (next_id old) seconds octets → IsStamp (next_stamp old) → IsCount 16 (next_targets old) → IsShort octets
        → Done on change old.store before store after
        → numbers ≡ record old.numbers { drawn = old.numbers.drawn + 1; count = old.numbers.count + 1; calls = old.numbers.calls + 1 }
        → tickets_in tickets ≡ fin.insert (tickets_in old.tickets) (old.numbers.calls + 1)
        (delivery_ticket old.store.own (record { id = next_id old; users = mail.mailboxes; seconds = seconds; size = length octets; digest = sha256 octets }) (next_targets old))
        → ((o b f : ℕ) → IsOf o b f old.tickets → IsOf o b f tickets) → IsWhole old
        → letters ≡ sent_letters → outbox.letters ≡ letters → outbox.thrown ≡ None
        → BeginsDelivery on mail seconds old before now after (Ok (Some (new_number old.store.own (node_seen old)), outbox))
    delivery_begun letters outbox stored t c short d same_numbers same_tickets whose whole are put thrown = record {
      octets = octets;
      stored = stored;
      ticket_is = refl;
      none_thrown = thrown;
      did = did_by on (delivering on mail seconds old before now after octets) change old before now after outbox.letters d (λ records k. refl)
          (λ records k. node_is (change (seen_with old.store records)).log) (λ records k. sym are ∙ sym put)
          (record { boot = ap (λ (n : Numbers). n.boot) same_numbers; shape = refl; tickets = whose }) whole
          (subst AllCanBeTaken (sym (put ∙ are)) (letters_fit old.store.own (epoch_of (node_seen old)) (Some (new_number old.store.own (node_seen old))) (receivers old.store.own (next_targets old) old.shape.nodes)
          (File (next_id old) (next_stamp old) (next_targets old) mail.mailboxes octets) (t, c, short)));
    }
      where
        desk : plain.Tickets
        desk = fin.insert (tickets_in old.tickets) (old.numbers.calls + 1) (delivery_ticket old.store.own filing (next_targets old))

        node_is : (log : Log) → record (node_seen old) { drawn = old.numbers.drawn + 1; count = old.numbers.count + 1; calls = old.numbers.calls + 1; log = log; tickets = desk } ≡ record (node_seen now) { log = log }
        node_is log =
            ap (λ (t : plain.Tickets). record (node_seen old) { drawn = old.numbers.drawn + 1; count = old.numbers.count + 1; calls = old.numbers.calls + 1; log = log; tickets = t }) (sym same_tickets)
            ∙ ap (λ (n : Numbers). record (node_seen old) { boot = n.boot; drawn = n.drawn; count = n.count; calls = n.calls; log = log; tickets = tickets_in tickets }) (sym same_numbers)
