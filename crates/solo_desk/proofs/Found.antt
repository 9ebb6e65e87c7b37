-- What a world tells under a ticket is what stands there in the machine's world.
use Rattle.std.proofs.Common.{◌≡◌, ℕ, zero, suc, Bool, true, false, ◌&&◌, nat_eq, eqb-true, eq-eqb, List, [], ◌∷◌, Option, Some, None, refl, sym, ap, ◌∙◌, arith, if◌then◌else◌}
use Rattle.std.specs.Prelude.{length, slice_get}
use Rattle.std.specs.FinMap as fin
use Rattle.std.proofs.lemmas.Bool.{and_parts}
use Rattle.mail_model.specs.Record.{Record}
use Rattle.object_model.specs.Letters.{Number}
use Rattle.mail_base.specs.declared.filing.Begun.{Begun}
use Rattle.cluster_model.specs.Cluster as plain
use Rattle.cluster_model.specs.Cluster.{AskedOfNodes, NodeFiling, Slot, Ticket, Want, slot_at}
use Rattle.cluster_model.specs.Cluster.AskedOfNodes.{Copies, Deletion}
use Rattle.cluster_model.specs.Deeds.{slot_up}
use Rattle.cluster_model.specs.World as machine
use Rattle.node_store.specs.Disks.{View}
use Rattle.node_core.specs.Nodes.{node_seen}
use Rattle.node_tickets.specs.Standing as tickets
use Rattle.node_tickets.specs.Standing.{filing_wanted}
use Rattle.whole_node.specs.declared.node.WholeNode.{WholeNode}
use Rattle.cluster_world.specs.Lives.{of_node}
use Rattle.cluster_world.specs.Stands.{SlotStands, SlotsStand}
use Rattle.cluster_world.specs.Telling.{standing_on, standing_in}
use Rattle.cluster_world.specs.Worlds.{lives_of, disks_of, CanMakeSteps, StandsFor}
use Rattle.cluster_world.specs.declared.life.Life.{Life}
use Rattle.cluster_world.specs.declared.life.Life.TheVariants.{Up, Down, Lost}
use Rattle.cluster_world.specs.declared.world.World.{World}
use Rattle.desk_model.specs.Tickets.{StandsUnder, filing_in}
use Rattle.solo_desk.specs.Standing.{is_kind, is_filed, may_file, is_as_begun}

-- two lists of one length
same_place : {X Y : Type 0} (xs : List X) (ys : List Y) (k : ℕ) (x : X) → length ys ≡ length xs → slice_get xs k ≡ Some x → (y : Y) × (slice_get ys k ≡ Some y)
same_place [] ys k x even here = absurd (let never : None ≡ Some x = here in cc)
same_place (x ∷ xs) [] k z even here = absurd (omega (arith, even))
same_place (x ∷ xs) (y ∷ ys) zero z even here = (y, refl)
same_place (x ∷ xs) (y ∷ ys) (suc k) z even here = same_place xs ys k z (omega (arith, even)) here

-- a ticket that a node finds is one of its own
found_here : (own : ℕ) (node : plain.Node) (number : Number) (ticket : Ticket) → (if nat_eq number.node own && nat_eq number.boot node.boot then fin.get node.tickets number.seq else None) ≡ Some ticket
    → (number.boot ≡ node.boot) × (fin.get node.tickets number.seq ≡ Some ticket)
found_here own node number ticket e = by (nat_eq number.node own && nat_eq number.boot node.boot) refl e
  where
    by : (b : Bool) → (nat_eq number.node own && nat_eq number.boot node.boot) ≡ b → (if b then fin.get node.tickets number.seq else None) ≡ Some ticket
        → (number.boot ≡ node.boot) × (fin.get node.tickets number.seq ≡ Some ticket)
    by true t g = (eqb-true number.boot node.boot (and_parts (nat_eq number.node own) (nat_eq number.boot node.boot) t).1, g)
    by false t g = absurd (let never : None ≡ Some ticket = g in cc)

-- and it finds each of its own
own_found : (own : ℕ) (node : plain.Node) (number : Number) (ticket : Ticket) → number.node ≡ own → number.boot ≡ node.boot → fin.get node.tickets number.seq ≡ Some ticket
    → (if nat_eq number.node own && nat_eq number.boot node.boot then fin.get node.tickets number.seq else None) ≡ Some ticket
own_found own node number ticket at boot here = rw (eq-eqb number.node own at, eq-eqb number.boot node.boot boot) here

up_alike : (a b : plain.Node) → plain.Life.Up a ≡ plain.Life.Up b → a ≡ b
up_alike a b e = cc

module _ {D : Type 0} (on : View D) where
  -- the slot of a node that is up
  up_there : (n : ℕ) (node : WholeNode) (lives : List Life) (disks : List D) (slots : List Slot) → length disks ≡ length lives → SlotsStand on lives disks slots → of_node lives n ≡ Some (Up node)
      → (disk : List Record) × (slot_at slots n ≡ Some (slot_up (node_seen node.mail) disk))
  up_there zero node lives disks slots even s e = absurd (let never : None ≡ Some (Up node) = e in cc)
  up_there (suc k) node lives disks slots even s e =
      let (slot, here) = same_place lives slots k (Up node) s.count e in
      let (d, held) = same_place lives disks k (Up node) even e in
      let (seen, is, stood) = s.each k (Up node) d slot e held here in
      (slot.disk, here ∙ ap (λ l. Some (record { life = l; disk = slot.disk })) (is ∙ ap plain.Life.Up (sym stood.seen_is)))

  pub stands_under : (world : World D) (w : machine.World) → StandsFor on world w → (number : Number) (ticket : Ticket) → standing_in world number ≡ Some ticket → StandsUnder w.slots number ticket
  stands_under world w stands number ticket found = by (of_node (lives_of world) number.node) refl found
    where
      by : (o : Option Life) → of_node (lives_of world) number.node ≡ o → standing_on o number ≡ Some ticket → StandsUnder w.slots number ticket
      by None here f = absurd (let never : None ≡ Some ticket = f in cc)
      by (Some Down) here f = absurd (let never : None ≡ Some ticket = f in cc)
      by (Some Lost) here f = absurd (let never : None ≡ Some ticket = f in cc)
      by (Some (Up node)) here f =
          let up = up_there number.node node (lives_of world) (disks_of world) w.slots (world.nodes.disk_each ∙ sym world.nodes.all) stands.slots here in
          let at = found_here node.mail.store.own (node_seen node.mail) number ticket f in
          record { node = node_seen node.mail; disk = up.0; up = up.1; boot = at.0; here = at.1 }

  -- the node of a slot that is up
  node_there : (n : ℕ) (seen : plain.Node) (held : List Record) (lives : List Life) (disks : List D) (slots : List Slot) → length disks ≡ length lives → SlotsStand on lives disks slots
      → slot_at slots n ≡ Some (slot_up seen held) → (node : WholeNode) × (of_node lives n ≡ Some (Up node)) × (node_seen node.mail ≡ seen)
  node_there zero seen held lives disks slots even s e = absurd (let never : None ≡ Some (slot_up seen held) = e in cc)
  node_there (suc k) seen held lives disks slots even s e =
      let (life, here) = same_place slots lives k (slot_up seen held) (sym s.count) e in
      let (d, there) = same_place lives disks k life even here in
      by life d here (s.each k life d (slot_up seen held) here there e)
    where
      by : (life : Life) (d : D) → slice_get lives k ≡ Some life → SlotStands on (suc k) life d (slot_up seen held) → (node : WholeNode) × (of_node lives (suc k) ≡ Some (Up node)) × (node_seen node.mail ≡ seen)
      by (Up node) d here (known, is, stood) = (node, here, stood.seen_is ∙ sym (up_alike seen known is))
      by Down d here (pending, is, all, holds) = absurd (let never : plain.Life.Up seen ≡ plain.Life.Down pending = is in cc)
      by Lost d here (is, all, held) = absurd (let never : plain.Life.Up seen ≡ plain.Life.Lost = is in cc)

  own_of : (world : World D) (n : ℕ) (node : WholeNode) → CanMakeSteps on.seen world → of_node (lives_of world) n ≡ Some (Up node) → node.mail.store.own ≡ n
  own_of world zero node ready e = absurd (let never : None ≡ Some (Up node) = e in cc)
  own_of world (suc k) node ready e =
      let d = same_place (lives_of world) (disks_of world) k (Up node) (world.nodes.disk_each ∙ sym world.nodes.all) e in
      (ready.each k node d.0 e d.1).0.own_is

  -- what stands there in the machine's world is told
  pub stands_there : (world : World D) (w : machine.World) → CanMakeSteps on.seen world → StandsFor on world w → (number : Number) (ticket : Ticket) → StandsUnder w.slots number ticket → standing_in world number ≡ Some ticket
  stands_there world w ready stands number ticket under =
      let (node, there, same) = node_there number.node under.node under.disk (lives_of world) (disks_of world) w.slots (world.nodes.disk_each ∙ sym world.nodes.all) stands.slots under.up in
      ap (λ (o : Option Life). standing_on o number) there
      ∙ own_found node.mail.store.own (node_seen node.mail) number ticket (sym (own_of world number.node node ready there)) (under.boot ∙ ap (λ (x : plain.Node). x.boot) (sym same))
      (ap (λ (x : plain.Node). fin.get x.tickets number.seq) same ∙ under.here)

-- what was filed is asked for first
asked_same : (asked : AskedOfNodes) → tickets.filing_asked asked ≡ filing_in (record { asked = asked; confirmed = 0; waiting = 0; failed = 0 } ∷ [])
asked_same (Copies filing) = refl
asked_same (Deletion user id) = refl

pub wanted_same : (wants : List Want) → filing_wanted wants ≡ filing_in wants
wanted_same [] = refl
wanted_same (want ∷ wants) = asked_same want.asked

-- What stands there is what was begun: it has filed this.
pub record IsFound (filed : Option NodeFiling) (begun : Begun) : Type 0 where
  pub is : is_filed filed begun.filing ≡ true
  pub may : may_file begun.kind begun.filing ≡ true

pub as_found : (kind : Option plain.CallKind) (filed : Option NodeFiling) (begun : Begun) → is_as_begun kind filed begun ≡ true → IsFound filed begun
as_found kind filed begun e =
    let outer = and_parts (is_kind kind begun.kind && is_filed filed begun.filing) (may_file begun.kind begun.filing) e in
    record { is = (and_parts (is_kind kind begun.kind) (is_filed filed begun.filing) outer.0).1; may = outer.1 }
