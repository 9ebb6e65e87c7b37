-- Where disks tell what they hold, the records that they are journals of are those of the machine's slots: of each node that is up.
use Rattle.std.proofs.Common.{◌≡◌, ℕ, zero, suc, ◌+◌, true, false, List, [], ◌∷◌, length, map, Option, Some, None, refl, sym, ap, ◌∙◌, subst, arith}
use Rattle.std.specs.Prelude.{All, IfSome, is_some, slice_get}
use Rattle.std.specs.List.{list_all}
use Rattle.std.proofs.lemmas.Bool.{and_parts}
use Rattle.mail_model.specs.Plan.{Plan}
use Rattle.mail_model.specs.Record.{Record, IsJournal, payloads_of}
use Rattle.mail_model.specs.Grammar.{IsRecord}
use Rattle.mail_model.proofs.OneRecord.{one_reading}
use Rattle.object_model.specs.Letters.{Membership}
use Rattle.session_model.specs.Copies.{AreDisks}
use Rattle.cluster_model.specs.Cluster.{set_of_members}
use Rattle.joint_model.specs.Joint as joint_model
use Rattle.joint_world.specs.World.{whole_world_of}
use Rattle.whole_world.specs.Settled.{IsSettled}
use Rattle.standing_model.specs.Standing.{HasExactly, disk_at}
use Rattle.settled_logins.specs.Reading.{disks_of as slots_disks}
use Rattle.disk_journal.specs.Journal.{EndsAt}
use Rattle.node_store.specs.Disks.{View}
use Rattle.whole_node.specs.declared.node.WholeNode.{WholeNode}
use Rattle.cluster_world.specs.Lives.{of_node}
use Rattle.cluster_world.specs.Sound.{IsWhole}
use Rattle.cluster_world.specs.Worlds.{disks_of, lives_of, disks_tell}
use Rattle.cluster_world.specs.declared.life.Life.TheVariants.{Up}
use Rattle.cluster_world.specs.declared.world.World.{World}
use Rattle.cluster_world.proofs.AtOpening.{up_here}
use Rattle.cluster_world.proofs.ReadSlots.{up_for}
use Rattle.cluster_world.proofs.Still.{some_same, both_at}
use Rattle.cluster_world.proofs.Wholes.{as_whole}
use Rattle.settled_worlds.proofs.Alike.{AreAlike}
use Rattle.settled_worlds.proofs.Members.{member_in}

-- what a disk tells that does
told_octets : {D : Type 0} (seen : D → Option (List ℕ)) (disks : List D) (k : ℕ) (disk : D) → list_all (λ d. is_some (seen d)) disks ≡ true → slice_get disks k ≡ Some disk → (octets : List ℕ) × (seen disk ≡ Some octets)
told_octets seen [] k disk all here = absurd (let never : None ≡ Some disk = here in cc)
told_octets seen (d ∷ disks) zero disk all here =
    let is : d ≡ disk = some_same d disk here in
    by (seen disk) refl (ap (λ x. is_some (seen x)) (sym is) ∙ (and_parts (is_some (seen d)) (list_all (λ x. is_some (seen x)) disks) all).0)
  where
    by : (o : Option (List ℕ)) → seen disk ≡ o → is_some (seen disk) ≡ true → (octets : List ℕ) × (seen disk ≡ Some octets)
    by None e some = absurd (let never : false ≡ true = ap is_some (sym e) ∙ some in cc)
    by (Some octets) e some = (octets, e)
told_octets seen (d ∷ disks) (suc k) disk all here = told_octets seen disks k disk (and_parts (is_some (seen d)) (list_all (λ x. is_some (seen x)) disks) all).1 here

-- the records of one node
pub record HeldAt (node : ℕ) (told : Option (List ℕ)) (disks : List (List Record)) (k : ℕ) : Type 0 where
  pub records : List Record
  pub here : slice_get disks k ≡ Some records
  pub fit : All IsRecord records
  pub tells : IfSome told (λ octets. IsJournal node octets (payloads_of records))

held_at : {D : Type 0} (seen : D → Option (List ℕ)) (node own k : ℕ) (disks : List D) (all : List (List Record)) (disk : D) → AreDisks node (map seen disks) all → slice_get disks k ≡ Some disk → own ≡ node + k
    → HeldAt own (seen disk) all k
held_at seen node own k [] all disk are here at = absurd (let never : None ≡ Some disk = here in cc)
held_at seen node own k (d ∷ disks) [] disk are here at = absurd are
held_at seen node own zero (d ∷ disks) (records ∷ all) disk are here at =
    let is : d ≡ disk = some_same d disk here in
    let number : node ≡ own = omega (arith, at) in
    record {
      records = records;
      here = refl;
      fit = are.0;
      tells = subst (λ x. IfSome (seen x) (λ octets. IsJournal own octets (payloads_of records))) is (subst (λ n. IfSome (seen d) (λ octets. IsJournal n octets (payloads_of records))) number are.1);
    }
held_at seen node own (suc k) (d ∷ disks) (records ∷ all) disk are here at =
    let more = held_at seen (node + 1) own k disks all disk are.2 here (omega (arith, at)) in
    record { records = more.records; here = more.here; fit = more.fit; tells = more.tells }

-- two lists of records of one journal
one_list : (own : ℕ) (told : Option (List ℕ)) (octets : List ℕ) (a b : List Record) → told ≡ Some octets → All IsRecord a → All IsRecord b → IfSome told (λ o. IsJournal own o (payloads_of a)) → IfSome told (λ o. IsJournal own o (payloads_of b)) → a ≡ b
one_list own told octets a b is fit_a fit_b tells_a tells_b =
    one_reading own octets a b fit_a fit_b
    (subst (λ t. IfSome t (λ o. IsJournal own o (payloads_of a))) is tells_a)
    (subst (λ t. IfSome t (λ o. IsJournal own o (payloads_of b))) is tells_b)

ends_journal : (own end : ℕ) (records : List Record) (told : Option (List ℕ)) → IfSome told (λ held. EndsAt own held (payloads_of records) end) → IfSome told (λ octets. IsJournal own octets (payloads_of records))
ends_journal own end records None tells = tt
ends_journal own end records (Some octets) tells = tells.journal

map_here : {X Y : Type 0} (f : X → Y) (xs : List X) (k : ℕ) (x : X) → slice_get xs k ≡ Some x → slice_get (map f xs) k ≡ Some (f x)
map_here f [] k x e = absurd (let never : None ≡ Some x = e in cc)
map_here f (y ∷ xs) zero x e = ap (λ z. Some (f z)) (some_same y x e)
map_here f (y ∷ xs) (suc k) x e = map_here f xs k x e

module _ {D : Type 0} (on : View D) (plan : Plan) (world : World D) (h : IsWhole on plan world) (tells : disks_tell on.seen world ≡ true) (disks : List (List Record)) (are : AreDisks 1 (map on.seen (disks_of world)) disks) where
  even : length (disks_of world) ≡ length (lives_of world)
  even = world.nodes.disk_each ∙ sym world.nodes.all

  same_up : (n : ℕ) (node : WholeNode) → of_node (lives_of world) n ≡ Some (Up node) → disk_at (slots_disks h.v) n ≡ disk_at disks n
  same_up zero node here = absurd (let never : None ≡ Some (Up node) = here in cc)
  same_up (suc k) node here =
      let (disk, held) = both_at (disks_of world) (lives_of world) k (Up node) (sym even) here in
      let up = up_for on (lives_of world) (disks_of world) h.v.slots (record { mail = h.stands.mail.slots; maps = h.stands.maps; reads = h.stands.reads }) (suc k) node disk here held in
      let (octets, told) = told_octets on.seen (disks_of world) k disk tells held in
      let at = held_at on.seen 1 (suc k) k (disks_of world) disks disk are held (omega arith) in
      map_here (λ (slot : joint_model.Slot). slot.disk) h.v.slots k (joint_model.slot_up _ up.records) up.here
      ∙ ap Some (one_list (suc k) (on.seen disk) octets up.records at.records told up.stands.keeps.fit at.fit (ends_journal (suc k) _ up.records (on.seen disk) up.stands.tells) at.tells)
      ∙ sym at.here

  -- so it is of the members of a settled epoch
  pub members_alike : (g : Membership) → IsSettled (whole_world_of h.v) g → (members : List ℕ) → HasExactly (set_of_members g.members) members → AreAlike members (slots_disks h.v) disks
  members_alike g settled members exactly n inside =
      let (member, m, is) = member_in g.members n ((exactly n).1 inside) in
      let live = (settled member m).live in
      let up = up_here on plan world (whole_world_of h.v) h.sound.whole (as_whole on plan world h) member.node live.node live.disk live.up in
      subst (λ k. disk_at (slots_disks h.v) k ≡ disk_at disks k) is (same_up member.node up.node up.up)
