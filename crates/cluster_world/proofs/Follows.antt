-- The maps of nodes that are up, as records are appended in a step for messages.
use Rattle.std.proofs.Common.{◌≡◌, ◌≢◌, ⊎_elim, ℕ, zero, suc, List, [], ◌∷◌, ◌++◌, length, drop, Option, Some, None, refl, sym, ap, ◌∙◌}
use Rattle.std.specs.Prelude.{Bool, true, false, nat_eq, if◌then◌else◌}
use Rattle.std.specs.FinMap as fin
use Rattle.mail_model.specs.Record.{Record}
use Rattle.object_model.specs.Letters.{Number, Letter}
use Rattle.object_model.specs.Mishaps.{MishapKind}
use Rattle.cluster_model.specs.Cluster as plain
use Rattle.cluster_model.specs.Cluster.{Slot, slot_at, with_slot}
use Rattle.cluster_model.specs.Deeds.{slot_up}
use Rattle.cluster_model.specs.Rules.{failed_at, mishap}
use Rattle.cluster_model.specs.World.{missed, missed_under, missed_at, missed_by, other_end}
use Rattle.cluster_model.proofs.Slots.{at_same}
use Rattle.whole_model.specs.Rules.{follows}
use Rattle.node_core.specs.Nodes.{node_seen, NodeKeeps}
use Rattle.node_core.specs.Works.{Rule}
use Rattle.node_maps.specs.Nodes.{node_of, own_of}
use Rattle.node_store.specs.Disks.{View}
use Rattle.whole_node.specs.Following as node_follows
use Rattle.whole_node.specs.declared.node.WholeNode.{WholeNode}
use Rattle.cluster_world.specs.Changes.{ChangesNode}
use Rattle.cluster_world.specs.Lives.{of_node}
use Rattle.cluster_world.specs.Missing.{all_missed, OnlyTickets}
use Rattle.cluster_world.specs.declared.life.Life.{Life}
use Rattle.cluster_world.specs.declared.life.Life.TheVariants.{Up}
use Rattle.cluster_world.specs.declared.nodes.Nodes.{Nodes}
use Rattle.cluster_world.proofs.SameReads.{same_reads}
use Rattle.cluster_world.proofs.Still.{some_same}
use Rattle.cluster_world.proofs.Turning.{up_same}
use Rattle.cluster_world.proofs.Turned.{same_or, slot_other, life_there, life_else}
use Rattle.cluster_world.proofs.Befallen.{up_too}
use Rattle.cluster_world.proofs.Changing.{set_same}

-- The maps of each node that is up before and after follow what the disk of its slot grew by.
pub record MapsFollow (old new : List Life) (before after : List Slot) : Type 0 where
  pub each : (n : ℕ) (a b : WholeNode) (slot slot' : Slot) → of_node old n ≡ Some (Up a) → of_node new n ≡ Some (Up b) → slot_at before n ≡ Some slot → slot_at after n ≡ Some slot'
      → node_of b.maps ≡ follows n (node_of a.maps) slot.disk (drop (length slot.disk) slot'.disk)

pub drop_front : (xs ys : List Record) → drop (length xs) (xs ++ ys) ≡ ys
drop_front [] ys = refl
drop_front (x ∷ xs) ys = drop_front xs ys

pub drop_all : (xs : List Record) → drop (length xs) xs ≡ []
drop_all [] = refl
drop_all (x ∷ xs) = drop_all xs

-- with no record more they stay
pub follows_none : (n : ℕ) (a b : WholeNode) (xs ys : List Record) → node_of b.maps ≡ node_of a.maps → ys ≡ xs → node_of b.maps ≡ follows n (node_of a.maps) xs (drop (length xs) ys)
follows_none n a b xs ys same more = same ∙ sym (ap (follows n (node_of a.maps) xs) (ap (drop (length xs)) more ∙ drop_all xs))

-- the records of slots
abbrev pub disk_at : Option Slot → Option (List Record)
disk_at None = None
disk_at (Some slot) = Some slot.disk

pub disks_same : (before after : List Slot) (n : ℕ) (slot slot' : Slot) → disk_at (slot_at after n) ≡ disk_at (slot_at before n) → slot_at before n ≡ Some slot → slot_at after n ≡ Some slot' → slot'.disk ≡ slot.disk
disks_same before after n slot slot' same e f = some_same slot'.disk slot.disk (sym (ap disk_at f) ∙ same ∙ ap disk_at e)

-- No node's maps changed that is up, and no record was appended.
pub maps_same : (old new : List Life) (before after : List Slot) → ((n : ℕ) (a b : WholeNode) → of_node old n ≡ Some (Up a) → of_node new n ≡ Some (Up b) → node_of b.maps ≡ node_of a.maps)
    → ((n : ℕ) (a b : WholeNode) → of_node old n ≡ Some (Up a) → of_node new n ≡ Some (Up b) → disk_at (slot_at after n) ≡ disk_at (slot_at before n)) → MapsFollow old new before after
maps_same old new before after stay disks = record {
  each = λ n a b slot slot' e f g h. follows_none n a b slot.disk slot'.disk (stay n a b e f) (disks_same before after n slot slot' (disks n a b e f) g h);
}

pub lives_same : (lives : List Life) (n : ℕ) (a b : WholeNode) → of_node lives n ≡ Some (Up a) → of_node lives n ≡ Some (Up b) → b.maps ≡ a.maps
lives_same lives n a b e f = ap (λ (x : WholeNode). x.maps) (up_same b a (some_same (Up b) (Up a) (sym f ∙ e)))

pub nothing_follows : (lives : List Life) (slots : List Slot) → MapsFollow lives lives slots slots
nothing_follows lives slots = maps_same lives lives slots slots (λ n a b e f. ap node_of (lives_same lives n a b e f)) (λ n a b e f. refl)

-- A mishap leaves each disk's records.
disk_kept : (kind : MishapKind) (node : plain.Node) (disk : List Record) (seq at : ℕ) (o : Option plain.Ticket) → (failed_at kind node disk seq at o).disk ≡ disk
disk_kept kind node disk seq at None = refl
disk_kept kind node disk seq at (Some ticket) = refl

module _ (kind : MishapKind) (slots : List Slot) (n : ℕ) where
  put_disk : (m : ℕ) (x y : Slot) → slot_at slots m ≡ Some x → y.disk ≡ x.disk → disk_at (slot_at (with_slot slots m y) n) ≡ disk_at (slot_at slots n)
  put_disk m x y here same = ⊎_elim
      (λ (e : n ≡ m).
      ap (λ k. disk_at (slot_at (with_slot slots m y) k)) e ∙ ap disk_at (at_same slots m x y here) ∙ ap Some same ∙ sym (ap disk_at here) ∙ ap (λ k. disk_at (slot_at slots k)) (sym e))
      (λ (e : n ≢ m). ap disk_at (slot_other slots m n y e))
      (same_or n m)

  by_disk : (at : ℕ) (number : Number) (disk : List Record) (life : plain.Life) → slot_at slots number.node ≡ Some (record { life = life; disk = disk })
      → disk_at (slot_at (missed_by kind slots at number disk life) n) ≡ disk_at (slot_at slots n)
  by_disk at number disk (plain.Life.Up node) here = by (nat_eq number.boot node.boot)
    where
      did : Slot
      did = slot_up (mishap kind number.seq at node disk).node (mishap kind number.seq at node disk).disk

      by : (b : Bool) → disk_at (slot_at (if b then with_slot slots number.node did else slots) n) ≡ disk_at (slot_at slots n)
      by true = put_disk number.node (slot_up node disk) did here (disk_kept kind node disk number.seq at (fin.get node.tickets number.seq))
      by false = refl
  by_disk at number disk (plain.Life.Down pending) here = refl
  by_disk at number disk plain.Life.Lost here = refl

  at_disk : (at : ℕ) (number : Number) (o : Option Slot) → slot_at slots number.node ≡ o → disk_at (slot_at (missed_at kind slots at number o) n) ≡ disk_at (slot_at slots n)
  at_disk at number None here = refl
  at_disk at number (Some slot) here = by_disk at number slot.disk slot.life here

  under_disk : (letter : Letter) (o : Option Number) → disk_at (slot_at (missed_under kind slots letter o) n) ≡ disk_at (slot_at slots n)
  under_disk letter None = refl
  under_disk letter (Some number) = at_disk (other_end letter number) number (slot_at slots number.node) refl

  pub missed_disk : (letter : Letter) → disk_at (slot_at (missed kind slots letter) n) ≡ disk_at (slot_at slots n)
  missed_disk letter = under_disk letter letter.ticket

pub all_disk : (kind : MishapKind) (slots : List Slot) (n : ℕ) (letters : List Letter) → disk_at (slot_at (all_missed kind slots letters) n) ≡ disk_at (slot_at slots n)
all_disk kind slots n [] = refl
all_disk kind slots n (letter ∷ letters) = all_disk kind (missed kind slots letter) n letters ∙ missed_disk kind slots n letter

-- Tickets may have changed, and no records.
pub tickets_follow : {D : Type 0} (on : View D) (change : List Slot → List Slot) (old new : Nodes D) → OnlyTickets on change old new → (before after : List Slot)
    → ((n : ℕ) → disk_at (slot_at after n) ≡ disk_at (slot_at before n)) → MapsFollow old.lives.items new.lives.items before after
tickets_follow on change old new only before after disks = maps_same old.lives.items new.lives.items before after (λ n a b e f. ap node_of (only.maps n a b e f)) (λ n a b e f. disks n)

-- Nodes are as they were, and so are disks.
pub nodes_follow : (lives : List Life) (before after : List Slot) → ((n : ℕ) → disk_at (slot_at after n) ≡ disk_at (slot_at before n)) → MapsFollow lives lives before after
nodes_follow lives before after disks = maps_same lives lives before after (λ n a b e f. ap node_of (lives_same lives n a b e f)) (λ n a b e f. disks n)

module _ {D : Type 0} (n : ℕ) (P : Life → D → Life → D → Type 0) (old mid new : Nodes D) (ch : ChangesNode n P old mid) (on : View D) (change : List Slot → List Slot) (only : OnlyTickets on change mid new)
    (before : List Slot) (slot slot' : Slot) (here : slot_at before n ≡ Some slot) (after : List Slot)
    (kept : (m : ℕ) → disk_at (slot_at after m) ≡ disk_at (slot_at (with_slot before n slot') m)) where
  -- One node worked, or went down, and after it tickets may have changed.
  pub one_follows : ((a b : WholeNode) → ch.life ≡ Up a → ch.life' ≡ Up b → node_of b.maps ≡ follows n (node_of a.maps) slot.disk (drop (length slot.disk) slot'.disk))
      → MapsFollow old.lives.items new.lives.items before after
  one_follows own = record {
    each = λ m a b s s' e f g h.
        let (c, there) = up_between m b f in
        let stays : b.maps ≡ c.maps = only.maps m c b there f in
        ⊎_elim
        (λ (same : m ≡ n).
        let was : ch.life ≡ Up a = some_same ch.life (Up a) (sym ch.was ∙ ap (of_node old.lives.items) (sym same) ∙ e) in
        let is : ch.life' ≡ Up c = some_same ch.life' (Up c) (sym (life_there n P old mid ch) ∙ ap (of_node mid.lives.items) (sym same) ∙ there) in
        let s_is : slot ≡ s = some_same slot s (sym here ∙ ap (slot_at before) (sym same) ∙ g) in
        let at : disk_at (Some s') ≡ disk_at (Some slot') =
        sym (ap disk_at h) ∙ kept m ∙ ap (λ k. disk_at (slot_at (with_slot before n slot') k)) same ∙ ap disk_at (at_same before n slot slot' here) in
        let d_is : s'.disk ≡ slot'.disk = some_same s'.disk slot'.disk at in
        ap node_of stays ∙ own a c was is ∙ ap (λ k. follows k (node_of a.maps) slot.disk (drop (length slot.disk) slot'.disk)) (sym same)
        ∙ ap (λ (x : Slot). follows m (node_of a.maps) x.disk (drop (length x.disk) slot'.disk)) s_is
        ∙ ap (λ xs. follows m (node_of a.maps) s.disk (drop (length s.disk) xs)) (sym d_is))
        (λ (other : m ≢ n).
        let still : c.maps ≡ a.maps = ap (λ (x : WholeNode). x.maps) (up_same c a (some_same (Up c) (Up a) (sym there ∙ life_else n P old mid ch m other ∙ e))) in
        let d_is : s'.disk ≡ s.disk = some_same s'.disk s.disk (sym (ap disk_at h) ∙ kept m ∙ ap disk_at (slot_other before n m slot' other) ∙ ap disk_at g) in
        follows_none m a b s.disk s'.disk (ap node_of (stays ∙ still)) d_is)
        (same_or m n);
  }
    where
      up_between : (m : ℕ) (b : WholeNode) → of_node new.lives.items m ≡ Some (Up b) → (c : WholeNode) × (of_node mid.lives.items m ≡ Some (Up c))
      up_between m b f = up_too (of_node new.lives.items m) (of_node mid.lives.items m) b f (sym (only.lives m))

-- What the contract of a node says of a rule that it did, where the machine has the slot.
pub rule_follows : (rule : Rule) (n : ℕ) (a b : WholeNode) (records added : List Record) → own_of a.maps ≡ n → node_follows.MapsFollow rule a b → NodeKeeps records a.mail
    → (rule (node_seen a.mail) records).disk ≡ records ++ added
    → node_of b.maps ≡ follows n (node_of a.maps) records (drop (length records) (rule (node_seen a.mail) records).disk)
rule_follows rule n a b records added own follow keeps grew =
    follow records added keeps grew
    ∙ ap (λ k. follows k (node_of a.maps) records added) own
    ∙ sym (ap (follows n (node_of a.maps) records) (ap (drop (length records)) grew ∙ drop_front records added))

-- nothing is noted
pub only_none : {D : Type 0} (on : View D) (nodes : Nodes D) → OnlyTickets on (λ slots. slots) nodes nodes
only_none on nodes = record { plan = refl; disks = refl; lives = λ n. refl; maps = lives_same nodes.lives.items; beside = λ n a b e f. same_reads a b (up_same b a (some_same (Up b) (Up a) (sym f ∙ e))); falls = refl; slots = λ slots s. s }

-- One node was changed, and none besides.
pub alone_follows : {D : Type 0} (on : View D) (n : ℕ) (P : Life → D → Life → D → Type 0) (old new : Nodes D) (ch : ChangesNode n P old new) (before : List Slot) (slot slot' : Slot) → slot_at before n ≡ Some slot
    → ((a b : WholeNode) → ch.life ≡ Up a → ch.life' ≡ Up b → node_of b.maps ≡ follows n (node_of a.maps) slot.disk (drop (length slot.disk) slot'.disk))
    → MapsFollow old.lives.items new.lives.items before (with_slot before n slot')
alone_follows on n P old new ch before slot slot' here own = one_follows n P old new new ch on (λ slots. slots) (only_none on new) before slot slot' here (with_slot before n slot') (λ m. refl) own

-- It is not up any more.
pub fall_follows : {D : Type 0} (on : View D) (n : ℕ) (P : Life → D → Life → D → Type 0) (old new : Nodes D) (ch : ChangesNode n P old new) (before : List Slot) (slot slot' : Slot) → slot_at before n ≡ Some slot
    → ((b : WholeNode) → ch.life' ≡ Up b → ⊥) → MapsFollow old.lives.items new.lives.items before (with_slot before n slot')
fall_follows on n P old new ch before slot slot' here never = alone_follows on n P old new ch before slot slot' here (λ a b was is. absurd (never b is))

-- it is as it was
pub idle_follows : {D : Type 0} (on : View D) (n : ℕ) (P : Life → D → Life → D → Type 0) (old mid new : Nodes D) (ch : ChangesNode n P old mid) (change : List Slot → List Slot) → OnlyTickets on change mid new
    → (before : List Slot) (slot : Slot) → slot_at before n ≡ Some slot → (after : List Slot) → ((m : ℕ) → disk_at (slot_at after m) ≡ disk_at (slot_at before m))
    → (a b : WholeNode) → ch.life ≡ Up a → ch.life' ≡ Up b → node_of b.maps ≡ node_of a.maps → MapsFollow old.lives.items new.lives.items before after
idle_follows on n P old mid new ch change only before slot here after disks a b was is same =
    one_follows n P old mid new ch on change only before slot slot here after
    (λ m. disks m ∙ ap (λ (xs : List Slot). disk_at (slot_at xs m)) (sym (again before n slot here)))
    (λ x y was' is'. follows_none n x y slot.disk slot.disk
    (ap (λ (z : WholeNode). node_of z.maps) (up_same y b (sym is' ∙ is)) ∙ same ∙ ap (λ (z : WholeNode). node_of z.maps) (up_same a x (sym was ∙ was'))) refl)
  where
    again : (slots : List Slot) (n : ℕ) (slot : Slot) → slot_at slots n ≡ Some slot → with_slot slots n slot ≡ slots
    again slots zero slot e = refl
    again slots (suc k) slot e = set_same slots k slot e

-- a rule that appends nothing leaves the maps as they are
pub stay_follows : (rule : Rule) (a b : WholeNode) → ((node : plain.Node) (disk : List Record) → (rule node disk).disk ≡ disk) → b.maps ≡ a.maps → node_follows.MapsFollow rule a b
stay_follows rule a b idle same records added keeps grew =
    let none : added ≡ [] = sym (drop_front records added) ∙ ap (drop (length records)) (sym grew ∙ idle (node_seen a.mail) records) ∙ drop_all records in
    ap node_of same ∙ sym (ap (follows (own_of a.maps) (node_of a.maps) records) none)
