-- A deletion that a node begins.
use Rattle.std.proofs.Common.{◌≡◌, ℕ, suc, ◌+◌, List, [], ◌∷◌, ◌++◌, length, map, Bool, false, cond, nat_eq, Some, None, refl, sym, ap, subst, ◌∙◌, arith}
use Rattle.std.specs.Prelude.{All, Ok, Err}
use Rattle.std.specs.FinMap as fin
use Rattle.std.proofs.lemmas.List.{length-map}
use Rattle.mail_model.specs.Identity.{Id, EpochId}
use Rattle.mail_model.specs.Grammar.{IsObject}
use Rattle.object_model.specs.Sets.{all_nodes, nodes_in}
use Rattle.object_model.specs.UpdateLog.{Log}
use Rattle.object_model.specs.Letters.{Number, DeletionMark, Letter}
use Rattle.cluster_model.specs.Cluster as plain
use Rattle.cluster_model.specs.Cluster.AskedOfNodes.{Deletion}
use Rattle.cluster_model.specs.Cluster.{epoch_of, members_of}
use Rattle.cluster_model.specs.Store.{Store, Update, take_all, gone_updates}
use Rattle.cluster_model.specs.Rules.{StrikeItem, dated, marks_for, strike_to, strikes_to, new_want, new_number, drawn_past}
use Rattle.cluster_model.specs.Steps.{Struck}
use Rattle.cluster_model.specs.Targets.{strike_asks}
use Rattle.cluster_model.specs.TicketLaws.{deletion_ticket}
use Rattle.node_store.specs.Disks.{View}
use Rattle.node_store.specs.Appends.{Fails}
use Rattle.node_store.specs.Keeps.{seen_with}
use Rattle.node_store.specs.Writes.{Done, WorkIsCutShort}
use Rattle.node_store.specs.declared.fault.KeepFault.{KeepFault}
use Rattle.node_store.specs.declared.fault.KeepFault.TheVariants as keep
use Rattle.node_store.specs.declared.store.NodeStore.{NodeStore}
use Rattle.node_tickets.specs.declared.tickets.Tickets.{Tickets}
use Rattle.node_tickets.specs.Standing.{IsOf, tickets_in, ticket_of_deletion}
use Rattle.node_core.specs.Nodes.{node_seen, IsWhole}
use Rattle.node_core.specs.Spelling.{AllCanBeTaken}
use Rattle.node_core.specs.Works.{fault_of}
use Rattle.node_core.specs.Striking.{next_dated, asked_of_members, striking, StrikeStopped, BeginsStrike}
use Rattle.node_core.specs.declared.outbox.Outbox.{Outbox}
use Rattle.node_core.specs.declared.numbers.Numbers.{Numbers}
use Rattle.node_core.specs.declared.node.Node.{Node}
use Rattle.node_core.proofs.Doing.{did_by, stopped_by}
use Rattle.node_core.proofs.Fitting.{all_fit}

-- the last of the letters
pub strikes_last : (own : ℕ) (epoch : EpochId) (number : Number) (user : List ℕ) (items : List StrikeItem) (n below to : ℕ) (letters all : List Letter) → suc below ≡ n → to ≡ n → nat_eq to own ≡ false
    → letters ≡ strikes_to own epoch number user items below → all ≡ letters ++ strike_to own epoch number user to (marks_for to items) → all ≡ strikes_to own epoch number user items n
strikes_last own epoch number user items n below to letters all next is apart before whole =
    whole
    ∙ ap (λ (ls : List Letter). ls ++ strike_to own epoch number user to (marks_for to items)) before
    ∙ ap (λ (m : ℕ). strikes_to own epoch number user items below ++ strike_to own epoch number user m (marks_for m items)) same
    ∙ ap (λ (b : Bool). strikes_to own epoch number user items below ++ cond b [] (strike_to own epoch number user (suc below) (marks_for (suc below) items))) (sym (ap (λ (m : ℕ). nat_eq m own) (sym same) ∙ apart))
    ∙ ap (strikes_to own epoch number user items) next
  where
    same : to ≡ suc below
    same = is ∙ sym next

-- the wants of a ticket are those of the deletions with their stamps
pub dated_wants : (own : ℕ) (user : List ℕ) (node : plain.Node) (count : ℕ) (asks : List (Id × ℕ))
    → map (λ item. new_want own (Deletion user item.mark.id) item.asks) (dated own node count asks) ≡ map (λ pair. new_want own (Deletion user pair.0) pair.1) asks
dated_wants own user node count [] = refl
dated_wants own user node count (pair ∷ asks) = ap (λ (ws : List plain.Want). new_want own (Deletion user pair.0) pair.1 ∷ ws) (dated_wants own user node (count + 1) asks)

pub whose_stay : (old new : Tickets) → IsOf old.own old.boot old.confirm new → (own boot confirm : ℕ) → IsOf own boot confirm old → IsOf own boot confirm new
whose_stay old new now own boot confirm was = record { own_is = now.own_is ∙ was.own_is; boot_is = now.boot_is ∙ was.boot_is; confirm_is = now.confirm_is ∙ was.confirm_is }

-- as many as there are items
pub asked_count : (items : List Struck) (old : Node) → length (asked_of_members items old) ≡ length items
asked_count items old = length-map items (λ (item : Struck). (item.id, strike_asks old.shape.confirm old.store.own item.targets (nodes_in (members_of (node_seen old)) old.shape.nodes)))

-- a ticket and stamps were drawn, and then deletions are known of
pub numbers_are : (own count whole : ℕ) (updates : List Update) (old drawn new : Numbers) → drawn ≡ record old { drawn = old.drawn + 0; count = old.count + count; calls = old.calls + 1 }
    → new ≡ record drawn { drawn = drawn_past own drawn.boot drawn.drawn updates } → count ≡ whole
    → new ≡ record old { drawn = drawn_past own old.boot old.drawn updates; count = old.count + whole; calls = old.calls + 1 }
numbers_are own count whole updates old drawn new draws knows same =
    knows ∙ ap (λ (n : Numbers). record n { drawn = drawn_past own n.boot n.drawn updates }) draws
    ∙ ap (λ (n : ℕ). record old { drawn = drawn_past own old.boot n updates; count = old.count + count; calls = old.calls + 1 }) zero_more
    ∙ ap (λ (n : ℕ). record old { drawn = drawn_past own old.boot old.drawn updates; count = old.count + n; calls = old.calls + 1 }) same
  where
    zero_more : old.drawn + 0 ≡ old.drawn
    zero_more = omega arith

module _ {D : Type 0} (on : View D) (user : List ℕ) (items : List Struck) (old : Node) (before after : D) (marks : List DeletionMark)
    (marked : marks ≡ marks_for old.store.own (next_dated old (asked_of_members items old))) where
  abbrev updates : List DeletionMark → List Update
  updates ms = gone_updates user (all_nodes old.shape.nodes) ms

  abbrev own_marks : List DeletionMark
  own_marks = marks_for old.store.own (next_dated old (asked_of_members items old))

  abbrev change : List DeletionMark → Store → Store
  change ms = take_all old.store.own (updates ms)

  -- its work stopped
  pub strike_stopped : (new : Node) (fault : KeepFault) → All (λ u. IsObject u.key u.state) (gone_updates user (all_nodes old.shape.nodes) marks)
      → WorkIsCutShort on (take_all old.store.own (gone_updates user (all_nodes old.shape.nodes) marks)) old.store before after → Fails fault (on.faults before) (on.faults after)
      → BeginsStrike on user items old before new after (Err (fault_of fault))
  strike_stopped new fault fits cut fails = by fault (record {
    stopped = stopped_by on (striking user items old) (change own_marks) old before after (subst (λ (ms : List DeletionMark). WorkIsCutShort on (change ms) old.store before after) marked cut) (λ records k. refl)
        (λ records k. all_fit old.store.own (updates own_marks) (seen_with old.store records) k.fit (subst (λ (ms : List DeletionMark). All (λ u. IsObject u.key u.state) (updates ms)) marked fits));
    fails = fails;
  })
    where
      by : (f : KeepFault) → StrikeStopped on user items old before new after f → BeginsStrike on user items old before new after (Err (fault_of f))
      by keep.Disk stopped = stopped
      by keep.NoMemory stopped = stopped

  -- it was done
  module _ (store : NodeStore) (numbers : Numbers) (tickets : Tickets) where
    abbrev now : Node
    now = record old { store = store; numbers = numbers; tickets = tickets }

    pub strike_begun : (outbox : Outbox) → Done on (take_all old.store.own (gone_updates user (all_nodes old.shape.nodes) marks)) old.store before store after
        → numbers ≡ record old.numbers {
          drawn = drawn_past old.store.own old.numbers.boot old.numbers.drawn (gone_updates user (all_nodes old.shape.nodes) marks);
          count = old.numbers.count + length items;
          calls = old.numbers.calls + 1;
        }
        → tickets_in tickets ≡ fin.insert (tickets_in old.tickets) (old.numbers.calls + 1) (ticket_of_deletion old.store.own user (asked_of_members items old))
        → IsOf old.tickets.own old.tickets.boot old.tickets.confirm tickets → IsWhole old
        → outbox.letters ≡ strikes_to old.store.own (epoch_of (node_seen old)) (new_number old.store.own (node_seen old)) user (next_dated old (asked_of_members items old)) old.shape.nodes
        → AllCanBeTaken outbox.letters → outbox.thrown ≡ None
        → BeginsStrike on user items old before now after (Ok (Some (new_number old.store.own (node_seen old)), outbox))
    strike_begun outbox d same_numbers same_tickets whose whole sent fits thrown = record {
      ticket_is = refl;
      none_thrown = thrown;
      did = did_by on (striking user items old) (change own_marks) old before now after outbox.letters (subst (λ (ms : List DeletionMark). Done on (change ms) old.store before store after) marked d)
          (λ records k. refl) (λ records k. node_is (change own_marks (seen_with old.store records)).log) (λ records k. sym sent)
          (record { boot = ap (λ (n : Numbers). n.boot) same_numbers; shape = refl; tickets = whose_stay old.tickets tickets whose }) whole fits;
    }
      where
        asks : List (Id × ℕ)
        asks = asked_of_members items old

        drawn_for : List DeletionMark → ℕ
        drawn_for ms = drawn_past old.store.own old.numbers.boot old.numbers.drawn (updates ms)

        desk_with : List plain.Want → plain.Tickets
        desk_with wants = fin.insert (tickets_in old.tickets) (old.numbers.calls + 1) (record (deletion_ticket old.store.own user (next_dated old asks)) { wants = wants })

        wants : List plain.Want
        wants = map (λ pair. new_want old.store.own (Deletion user pair.0) pair.1) asks

        node_with : ℕ → ℕ → plain.Tickets → Log → plain.Node
        node_with drawn count desk log = record (node_seen old) { drawn = drawn; count = old.numbers.count + count; calls = old.numbers.calls + 1; log = log; tickets = desk }

        node_is : (log : Log) → node_with (drawn_for own_marks) (length asks) (desk_with (map (λ item. new_want old.store.own (Deletion user item.mark.id) item.asks) (next_dated old asks))) log
            ≡ record (node_seen now) { log = log }
        node_is log =
            ap (λ (ms : List DeletionMark). node_with (drawn_for ms) (length asks) (desk_with (map (λ item. new_want old.store.own (Deletion user item.mark.id) item.asks) (next_dated old asks))) log) (sym marked)
            ∙ ap (λ (n : ℕ). node_with (drawn_for marks) n (desk_with (map (λ item. new_want old.store.own (Deletion user item.mark.id) item.asks) (next_dated old asks))) log) (asked_count items old)
            ∙ ap (λ (ws : List plain.Want). node_with (drawn_for marks) (length items) (desk_with ws) log) (dated_wants old.store.own user (node_seen old) old.numbers.count asks)
            ∙ ap (λ (t : plain.Tickets). node_with (drawn_for marks) (length items) t log) (sym same_tickets)
            ∙ ap (λ (n : Numbers). record (node_seen old) { boot = n.boot; drawn = n.drawn; count = n.count; calls = n.calls; log = log; tickets = tickets_in tickets }) (sym same_numbers)
