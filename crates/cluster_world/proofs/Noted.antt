-- A mishap that is noted is the machine's, and nothing else has changed.
use Rattle.std.proofs.Common.{◌≡◌, ℕ, zero, suc, Bool, true, false, List, Option, Some, None, refl, sym, ap, ◌∙◌, subst, arith, if◌then◌else◌}
use Rattle.std.specs.Prelude.{nat_eq, ◌&&◌}
use Rattle.std.specs.FinMap as fin
use Rattle.std.specs.Prelude.{IfSome}
use Rattle.mail_model.specs.Record.{Record, payloads_of}
use Rattle.disk_journal.specs.Journal.{EndsAt, TellsJournal}
use Rattle.object_model.specs.Letters.{Number}
use Rattle.object_model.specs.Mishaps.{MishapKind}
use Rattle.cluster_model.specs.Cluster as plain
use Rattle.cluster_model.specs.Cluster.{slot_at, with_slot}
use Rattle.cluster_model.specs.Rules.{mishap, ticket_at, failed_at}
use Rattle.cluster_model.specs.Deeds.{slot_up}
use Rattle.cluster_model.specs.World.{missed_at, missed_by}
use Rattle.node_store.specs.Disks.{View}
use Rattle.node_tickets.specs.Standing.{befell_in}
use Rattle.node_core.specs.Nodes.{node_seen, ChangesTickets}
use Rattle.node_core.specs.Standing.{ticket_standing}
use Rattle.whole_node.specs.declared.node.WholeNode.{WholeNode}
use Rattle.cluster_world.specs.Stands.{StandsUp, SlotStands}
use Rattle.cluster_world.specs.Noting.{LifeNoted}
use Rattle.cluster_world.proofs.Changing.{set_same}
use Rattle.cluster_world.specs.declared.life.Life.{Life}
use Rattle.cluster_world.specs.declared.life.Life.TheVariants.{Up, Down, Lost}

-- the slot once a mishap was noted at a ticket of the node
abbrev pub noted_slot : MishapKind → ℕ → Number → plain.Node → List Record → plain.Slot
noted_slot kind at number node records =
    if nat_eq number.boot node.boot then slot_up (mishap kind number.seq at node records).node (mishap kind number.seq at node records).disk else slot_up node records

module _ {D : Type 0} (on : View D) (own : ℕ) (kind : MishapKind) (at : ℕ) (number : Number) where
  -- what the code's node then is
  noted_node : (node : plain.Node) (records : List Record) → number.node ≡ own
      → noted_slot kind at number node records ≡ slot_up (record node { tickets = befell_in kind at number.seq (ticket_at own node (Some number)) node.tickets }) records
  noted_node node records same = by (nat_eq number.node own) (grind (arith, same)) (nat_eq number.boot node.boot) (fin.get node.tickets number.seq) refl
    where
      by : (a : Bool) → a ≡ true → (b : Bool) (o : Option plain.Ticket) → fin.get node.tickets number.seq ≡ o
          → (if b then slot_up (failed_at kind node records number.seq at o).node (failed_at kind node records number.seq at o).disk else slot_up node records)
          ≡ slot_up (record node { tickets = befell_in kind at number.seq (if a && b then o else None) node.tickets }) records
      by true e true None f = refl
      by true e true (Some ticket) f = refl
      by true e false o f = refl
      by false e b o f = absurd (let never : false ≡ true = e in cc)

  -- a node whose tickets alone changed stands for its slot with those
  noted_stands : (old new : WholeNode) (disk : D) (seen : plain.Node) (records : List Record) → number.node ≡ own → old.mail.store.own ≡ own → StandsUp on own old.mail disk seen records
      → ChangesTickets (befell_in kind at number.seq (ticket_standing old.mail number) (node_seen old.mail).tickets) old.mail new.mail → SlotStands on own (Up new) disk (noted_slot kind at number seen records)
  noted_stands old new disk seen records same own_is st ct =
      let seen_now : node_seen new.mail ≡ record seen { tickets = befell_in kind at number.seq (ticket_at own seen (Some number)) seen.tickets } =
      ct.seen ∙ ap (λ n. record (node_seen old.mail) { tickets = befell_in kind at number.seq (ticket_at n (node_seen old.mail) (Some number)) (node_seen old.mail).tickets }) own_is
      ∙ ap (λ (n : plain.Node). record n { tickets = befell_in kind at number.seq (ticket_at own n (Some number)) n.tickets }) st.seen_is in
      subst (λ slot. SlotStands on own (Up new) disk slot) (sym (noted_node seen records same)) (
        _,
        refl,
        record {
          seen_is = seen_now;
          keeps = ct.keeps records st.keeps;
          tells = subst (λ n. TellsJournal (on.seen disk) own (payloads_of records) n) (sym ct.end_is) st.tells;
          images = subst (λ n. IfSome (on.seen disk) (λ _. (c : List ℕ) → on.clock.is_image disk c → EndsAt own c (payloads_of records) n)) (sym ct.end_is) st.images;
        },
      )

  with_same : (slots : List plain.Slot) (n : ℕ) (slot : plain.Slot) → slot_at slots n ≡ Some slot → with_slot slots n slot ≡ slots
  with_same slots zero slot e = refl
  with_same slots (suc k) slot e = set_same slots k slot e

  missed_is : (slots : List plain.Slot) (node : plain.Node) (records : List Record) → number.node ≡ own → slot_at slots own ≡ Some (slot_up node records)
      → missed_at kind slots at number (Some (slot_up node records)) ≡ with_slot slots own (noted_slot kind at number node records)
  missed_is slots node records same here = by (nat_eq number.boot node.boot)
    where
      did : plain.Slot
      did = slot_up (mishap kind number.seq at node records).node (mishap kind number.seq at node records).disk

      by : (b : Bool) → (if b then with_slot slots number.node did else slots) ≡ with_slot slots own (if b then did else slot_up node records)
      by true = ap (λ n. with_slot slots n did) same
      by false = sym (with_same slots own (slot_up node records) here)

  -- what became of the slot, whatever its life
  pub record SlotNoted (life' : Life) (disk : D) (slots : List plain.Slot) (slot : plain.Slot) : Type 0 where
    pub to : plain.Slot
    pub is : missed_at kind slots at number (Some slot) ≡ with_slot slots own to
    pub stands : SlotStands on own life' disk to

  pub life_noted : (life life' : Life) (disk : D) (slots : List plain.Slot) (slot : plain.Slot) → number.node ≡ own → ((node : WholeNode) → life ≡ Up node → node.mail.store.own ≡ own)
      → slot_at slots own ≡ Some slot → SlotStands on own life disk slot → LifeNoted kind at number life life' → SlotNoted life' disk slots slot
  life_noted (Up old) (Up new) disk slots slot same own_is here (seen, is, st) ct =
      let slot_is : slot ≡ slot_up seen slot.disk = ap (λ l. record { life = l; disk = slot.disk }) is in
      record {
        to = noted_slot kind at number seen slot.disk;
        is = ap (λ s. missed_at kind slots at number (Some s)) slot_is ∙ missed_is slots seen slot.disk same (here ∙ ap Some slot_is);
        stands = noted_stands old new disk seen slot.disk same (own_is old refl) st ct.mail;
      }
  life_noted Down Down disk slots slot same own_is here (pending, is, fit, holds) n = record {
    to = slot;
    is = ap (λ l. missed_by kind slots at number slot.disk l) is ∙ sym (with_same slots own slot here);
    stands = (pending, is, fit, holds);
  }
  life_noted Lost Lost disk slots slot same own_is here (is, fit, holds) n = record {
    to = slot;
    is = ap (λ l. missed_by kind slots at number slot.disk l) is ∙ sym (with_same slots own slot here);
    stands = (is, fit, holds);
  }
  life_noted (Up old) Down disk slots slot same own_is here st n = absurd n
  life_noted (Up old) Lost disk slots slot same own_is here st n = absurd n
  life_noted Down (Up new) disk slots slot same own_is here st n = absurd n
  life_noted Down Lost disk slots slot same own_is here st n = absurd n
  life_noted Lost (Up new) disk slots slot same own_is here st n = absurd n
  life_noted Lost Down disk slots slot same own_is here st n = absurd n
