-- A world of the machine for messages, and the maps of nodes that are up, as one whole world.
use Rattle.std.proofs.Common.{◌≡◌, ℕ, zero, suc, List, [], ◌∷◌, length, map, Some, None, refl, sym, ap, ◌∙◌}
use Rattle.std.specs.Prelude.{slice_get}
use Rattle.cluster_model.specs.Cluster as plain
use Rattle.cluster_model.specs.World as machine
use Rattle.maps_model.specs.Cluster as maps
use Rattle.maps_model.specs.Rules as maps_rules
use Rattle.whole_model.specs.Whole as whole
use Rattle.whole_model.specs.Whole.{mail_life, mail_slot, maps_disk_of}
use Rattle.whole_world.specs.World as whole_world
use Rattle.whole_world.specs.World.{mail_world_of}
use Rattle.node_store.specs.Disks.{View}
use Rattle.node_maps.specs.Nodes.{node_of}
use Rattle.whole_node.specs.declared.node.WholeNode.{WholeNode}
use Rattle.cluster_world.specs.Lives.{of_node}
use Rattle.cluster_world.specs.Maps.{AreMaps}
use Rattle.cluster_world.specs.Stands.{SlotStands}
use Rattle.cluster_world.specs.Worlds.{WorldState, StateStandsFor}
use Rattle.cluster_world.specs.declared.life.Life.{Life}
use Rattle.cluster_world.specs.declared.life.Life.TheVariants.{Up, Down, Lost}
use Rattle.cluster_world.proofs.Still.{some_same, both_at}

-- the maps of a node that is up; else it does not matter
abbrev pub maps_with : Life → maps.Node
maps_with (Up node) = node_of node.maps
maps_with Down = maps_rules.started (maps_disk_of [])
maps_with Lost = maps_rules.started (maps_disk_of [])

abbrev pub joined_life : maps.Node → plain.Life → whole.Life
joined_life with_maps (plain.Life.Up seen) = whole.Life.Up (record { mail = seen; maps = with_maps })
joined_life with_maps (plain.Life.Down pending) = whole.Life.Down pending
joined_life with_maps plain.Life.Lost = whole.Life.Lost

abbrev pub joined_slot : Life → plain.Slot → whole.Slot
joined_slot life slot = record { life = joined_life (maps_with life) slot.life; disk = slot.disk }

-- one for one, and whoever has no life has the maps of none
abbrev pub joined : List Life → List plain.Slot → List whole.Slot
joined lives [] = []
joined [] (slot ∷ slots) = joined_slot Lost slot ∷ joined [] slots
joined (life ∷ lives) (slot ∷ slots) = joined_slot life slot ∷ joined lives slots

abbrev pub joined_world : List Life → machine.World → whole_world.World
joined_world lives w = record { slots = joined lives w.slots; flying = w.flying; sent = w.sent; seconds = w.seconds; book = w.book }

life_seen_back : (with_maps : maps.Node) (life : plain.Life) → mail_life (joined_life with_maps life) ≡ life
life_seen_back with_maps (plain.Life.Up seen) = refl
life_seen_back with_maps (plain.Life.Down pending) = refl
life_seen_back with_maps plain.Life.Lost = refl

slot_seen_back : (life : Life) (slot : plain.Slot) → mail_slot (joined_slot life slot) ≡ slot
slot_seen_back life slot = ap (λ (l : plain.Life). record slot { life = l }) (life_seen_back (maps_with life) slot.life)

-- messages see the world that was
pub joined_seen : (lives : List Life) (slots : List plain.Slot) → map mail_slot (joined lives slots) ≡ slots
joined_seen lives [] = refl
joined_seen [] (slot ∷ slots) = ap (λ (s : plain.Slot). s ∷ map mail_slot (joined [] slots)) (slot_seen_back Lost slot) ∙ ap (λ (ss : List plain.Slot). slot ∷ ss) (joined_seen [] slots)
joined_seen (life ∷ lives) (slot ∷ slots) =
    ap (λ (s : plain.Slot). s ∷ map mail_slot (joined lives slots)) (slot_seen_back life slot) ∙ ap (λ (ss : List plain.Slot). slot ∷ ss) (joined_seen lives slots)

pub world_seen : (lives : List Life) (w : machine.World) → mail_world_of (joined_world lives w) ≡ w
world_seen lives w = ap (λ (slots : List plain.Slot). record w { slots = slots }) (joined_seen lives w.slots)

-- what stands at a place
pub record JoinedAt (lives : List Life) (slots : List plain.Slot) (k : ℕ) (z : whole.Slot) : Type 0 where
  pub slot : plain.Slot
  pub here : slice_get slots k ≡ Some slot
  pub is : (life : Life) → slice_get lives k ≡ Some life → z ≡ joined_slot life slot

pub joined_at : (lives : List Life) (slots : List plain.Slot) (k : ℕ) (z : whole.Slot) → slice_get (joined lives slots) k ≡ Some z → JoinedAt lives slots k z
joined_at lives [] k z e = absurd (let never : None ≡ Some z = e in cc)
joined_at [] (slot ∷ slots) zero z e = record { slot = slot; here = refl; is = λ life none. absurd (let never : None ≡ Some life = none in cc) }
joined_at [] (slot ∷ slots) (suc k) z e =
    let j = joined_at [] slots k z e in
    record { slot = j.slot; here = j.here; is = λ life none. absurd (let never : None ≡ Some life = none in cc) }
joined_at (life ∷ lives) (slot ∷ slots) zero z e = record {
  slot = slot;
  here = refl;
  is = λ one same. some_same z (joined_slot life slot) (sym e) ∙ ap (λ l. joined_slot l slot) (some_same life one same);
}
joined_at (life ∷ lives) (slot ∷ slots) (suc k) z e =
    let j = joined_at lives slots k z e in
    record { slot = j.slot; here = j.here; is = j.is }

maps_up : (node : WholeNode) (life : plain.Life) (seen : whole.Node) → joined_life (maps_with (Up node)) life ≡ whole.Life.Up seen → seen.maps ≡ node_of node.maps
maps_up node (plain.Life.Up mail) seen e = sym (ap (λ (x : whole.Node). x.maps) (up_is (record { mail = mail; maps = node_of node.maps }) seen e))
  where
    up_is : (x y : whole.Node) → whole.Life.Up x ≡ whole.Life.Up y → x ≡ y
    up_is x y h = cc
maps_up node (plain.Life.Down pending) seen e = absurd (let never : whole.Life.Down pending ≡ whole.Life.Up seen = e in cc)
maps_up node plain.Life.Lost seen e = absurd (let never : whole.Life.Lost ≡ whole.Life.Up seen = e in cc)

-- nodes that are up have their maps there
pub joined_maps : (lives : List Life) (slots : List plain.Slot) → AreMaps lives (joined lives slots)
joined_maps lives slots = record { each = at }
  where
    at : (n : ℕ) (node : WholeNode) (slot : whole.Slot) (seen : whole.Node) → of_node lives n ≡ Some (Up node) → whole.slot_at (joined lives slots) n ≡ Some slot → slot.life ≡ whole.Life.Up seen
        → seen.maps ≡ node_of node.maps
    at zero node slot seen up here is = absurd (let never : None ≡ Some (Up node) = up in cc)
    at (suc k) node slot seen up here is =
        let j = joined_at lives slots k slot here in
        maps_up node j.slot.life seen (sym (ap (λ (s : whole.Slot). s.life) (j.is (Up node) up)) ∙ is)

-- a life whose slot is up is up
pub life_up : {D : Type 0} (on : View D) (own : ℕ) (life : Life) (disk : D) (slot : plain.Slot) → SlotStands on own life disk slot → (seen : plain.Node) → slot.life ≡ plain.Life.Up seen
    → (node : WholeNode) × (life ≡ Up node)
life_up on own (Up node) disk slot stood seen up = (node, refl)
life_up on own Down disk slot (pending, is, fit, holds) seen up = absurd (let never : plain.Life.Down pending ≡ plain.Life.Up seen = sym is ∙ up in cc)
life_up on own Lost disk slot (is, fit, holds) seen up = absurd (let never : plain.Life.Lost ≡ plain.Life.Up seen = sym is ∙ up in cc)

-- So it is of a node of a world.
pub node_up : {D : Type 0} (on : View D) (state : WorldState D) → length state.disks ≡ length state.lives → (w : machine.World) → StateStandsFor on state w
    → (n : ℕ) (slot : plain.Slot) (seen : plain.Node) → plain.slot_at w.slots n ≡ Some slot → slot.life ≡ plain.Life.Up seen → (node : WholeNode) × (of_node state.lives n ≡ Some (Up node))
node_up on state even w st zero slot seen here up = absurd (let never : None ≡ Some slot = here in cc)
node_up on state even w st (suc k) slot seen here up =
    let (life, l) = both_at state.lives w.slots k slot st.slots.count here in
    let (disk, d) = both_at state.disks state.lives k life (sym even) l in
    let (node, is) = life_up on (suc k) life disk slot (st.slots.each k life disk slot l d here) seen up in
    (node, l ∙ ap Some is)
