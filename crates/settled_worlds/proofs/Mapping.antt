-- What a world tells of a map behind a settle: the manager, and exactly the members that hold a fragment.
use Rattle.std.proofs.Common.{◌≡◌, ◌≢◌, inl, inr, ℕ, ◌≤◌, ◌<◌, Bool, true, false, nat_eq, List, [], ◌∷◌, length, Some, None, refl, sym, ap, ◌∙◌, subst, arith, if◌then◌else◌}
use Rattle.std.proofs.Math.Nat.{mod-lt}
use Rattle.std.proofs.lemmas.Bool.{eqb-true}
use Rattle.std.proofs.lemmas.Bool.Decides.{nat_tests}
use Rattle.mail_model.specs.Plan.{Plan}
use Rattle.mail_model.specs.Record.{Record}
use Rattle.mail_base.specs.Buckets.{bucket_at, hash_of}
use Rattle.object_model.specs.Letters.{Member, Membership}
use Rattle.object_model.specs.Lists.{Among}
use Rattle.object_model.specs.Sets.{with_node}
use Rattle.maps_model.specs.Cluster as maps
use Rattle.maps_model.specs.Cluster.{manager_of, member_of}
use Rattle.maps_model.specs.Laws.{named}
use Rattle.whole_model.specs.Whole as whole
use Rattle.whole_world.specs.World as whole_world
use Rattle.whole_world.proofs.Quieting.{place_found}
use Rattle.joint_model.specs.Joint as joint_model
use Rattle.joint_model.specs.Joint.{user_named_in}
use Rattle.joint_world.specs.World.{whole_world_of, IsUp}
use Rattle.settled_logins.specs.Reading.{disks_of as slots_disks}
use Rattle.settled_logins.specs.Laws.{TellsFragments}
use Rattle.settled_logins.proofs.Maps.{tells_fragments, agrees}
use Rattle.standing_model.specs.Standing.{NamesFragments, MembersAgree}
use Rattle.node_maps.specs.Naming as naming
use Rattle.node_maps.specs.Naming.{named_by, named_within}
use Rattle.node_maps.specs.Nodes.{node_of}
use Rattle.node_store.specs.Disks.{View}
use Rattle.whole_node.specs.declared.node.WholeNode.{WholeNode}
use Rattle.cluster_world.specs.Lives.{of_node}
use Rattle.cluster_world.specs.Outcomes.{map_seen}
use Rattle.cluster_world.specs.Settling.{latest_in, is_live_member, named_at, told_by, told_of, maps_in, IsSettledMember}
use Rattle.cluster_world.specs.Worlds.{state_of, lives_of}
use Rattle.cluster_world.specs.declared.life.Life.{Life}
use Rattle.cluster_world.specs.declared.life.Life.TheVariants.{Up}
use Rattle.cluster_world.specs.declared.world.World.{World}
use Rattle.cluster_world.proofs.AtRest.{live_test}
use Rattle.cluster_world.proofs.ReadSlots.{whole_there}
use Rattle.cluster_world.proofs.Righted.{latest_known}
use Rattle.cluster_world.proofs.Still.{some_same}
use Rattle.cluster_world.proofs.Wholes.{as_whole, whole_up}
use Rattle.settled_worlds.proofs.Arriving.{Showing, SettledAt}
use Rattle.settled_worlds.proofs.Carrying.{sound_at}

-- a user has a manager, where there is a row for each bucket
has_manager : (g : Membership) (user : List ℕ) → 0 < length g.map → (manager : ℕ) × (manager_of g user ≡ Some manager)
has_manager g user some = let p = place_found g.map (bucket_at user (length g.map)) (mod-lt (hash_of user) some) in (p.0.manager, ap maps.manager_in p.1)

length_positive : {a b : ℕ} → (a ≡ b) × (0 < b) → 0 < a
length_positive (e, p) = subst (λ k. 0 < k) (sym e) p

-- who is a member is found by its node
record Found (members : List Member) (n : ℕ) : Type 0 where
  member : Member
  inside : Among member members
  is : member_of members n ≡ Some member
  node_is : member.node ≡ n

found : (members : List Member) (n : ℕ) (member : Member) → Among member members → member.node ≡ n → Found members n
found [] n member m is = absurd m
found (x ∷ xs) n member m is = by (λ more. found xs n member more is) (nat_eq x.node n) refl m
  where
    by : (Among member xs → Found xs n) → (b : Bool) → nat_eq x.node n ≡ b → Among member (x ∷ xs) → Found (x ∷ xs) n
    by rest true e k = record { member = x; inside = inl refl; is = ap (λ t. if t then Some x else member_of xs n) e; node_is = eqb-true x.node n e }
    by rest false e (inl same) = absurd (let apart : x.node ≢ n = grind (arith, nat_tests, e) in apart (ap (λ (y : Member). y.node) same ∙ is))
    by rest false e (inr more) =
        let f = rest more in
        record { member = f.member; inside = inr f.inside; is = ap (λ t. if t then Some x else member_of xs n) e ∙ f.is; node_is = f.node_is }

-- sets of nodes are built alike
same_set : (nodes : List ℕ) → naming.nodes_as_set nodes ≡ joint_model.nodes_as_set nodes
same_set [] = refl
same_set (n ∷ nodes) = ap (λ s. with_node s n) (same_set nodes)

-- whom a node names that has installed it
named_so : (node : WholeNode) (user : List ℕ) (g : Membership) → (node_of node.maps).installed ≡ Some g → naming.nodes_as_set (named_by (node_of node.maps) user) ≡ joint_model.nodes_as_set (named (node_of node.maps) user g.members)
named_so node user g installed = ap (λ o. naming.nodes_as_set (named_within (node_of node.maps) user o)) installed ∙ same_set (named (node_of node.maps) user g.members)

module _ {D : Type 0} (on : View D) (plan : Plan) (told : Bool) (few : plan.nodes ≤ 16) (lines : List (List ℕ)) (members : List ℕ) (world : World D) (s : SettledAt on plan told few lines members world) where
  abbrev lives : List Life
  lives = lives_of world

  abbrev g : Membership
  g = s.g

  latest : latest_in lives ≡ Some g
  latest = s.rests.latest ∙ ap Some s.same

  settled_member : (member : Member) → Among member g.members → IsSettledMember (state_of world) g member
  settled_member member m = subst (λ (x : Membership). IsSettledMember (state_of world) x member) s.same (s.rests.members member (subst (λ (x : Membership). Among member x.members) (sym s.same) m))

  pub agree : MembersAgree (slots_disks s.stood.whole.v) members
  agree = agrees plan told s.stood.whole.story s.stood.whole.v (sound_at on plan told (Showing plan g) world s.stood) g s.settled members s.exactly

  -- the set that a node names which is up
  set_at : (user : List ℕ) (manager : ℕ) (node : WholeNode) (seen : joint_model.Node) (disk : List Record) → of_node lives manager ≡ Some (Up node) → IsUp s.stood.whole.v manager seen disk → seen.whole.maps.installed ≡ Some g
      → naming.nodes_as_set (named_by (node_of node.maps) user) ≡ user_named_in seen.whole.maps user (Some g)
  set_at user manager node seen disk up there installed =
      let v = s.stood.whole.v in
      let u = whole_up on (state_of world) (whole_world_of v) manager node (world.nodes.disk_each ∙ sym world.nodes.all) (as_whole on plan world s.stood.whole) up in
      let same : whole_world.slot_up u.seen u.disk ≡ whole_world.slot_up seen.whole disk =
      some_same (whole_world.slot_up u.seen u.disk) (whole_world.slot_up seen.whole disk) (sym u.up ∙ whole_there v.slots manager (joint_model.slot_up seen disk) there) in
      let maps_same : seen.whole.maps ≡ node_of node.maps = ap (λ (y : whole.Node). y.maps) (sym (same_up u.seen seen.whole (ap (λ (y : whole.Slot). y.life) same))) ∙ u.maps in
      named_so node user g (ap (λ (y : maps.Node). y.installed) (sym maps_same) ∙ installed) ∙ ap (λ (y : maps.Node). user_named_in y user (Some g)) (sym maps_same)
    where
      same_up : (a b : whole.Node) → whole.Life.Up a ≡ whole.Life.Up b → a ≡ b
      same_up a b e = cc

  -- what the world tells where the manager is live
  told_at : (user : List ℕ) (manager set : ℕ) (node : WholeNode) → manager_of g user ≡ Some manager → of_node lives manager ≡ Some (Up node) → is_live_member lives g.epoch (member_of g.members manager) ≡ true
      → naming.nodes_as_set (named_by (node_of node.maps) user) ≡ set → maps_in (state_of world) user ≡ Some (manager, set)
  told_at user manager set node managed up live is =
      ap (told_of lives user) latest ∙ ap (told_by lives g user) managed ∙ ap (λ b. if b then Some (manager, named_at (of_node lives manager) user) else None) live
      ∙ ap (λ n. Some (manager, n)) (ap (λ o. named_at o user) up ∙ is)

  -- a member is live
  live_at : (manager : ℕ) (member : Member) → Among member g.members → member_of g.members manager ≡ Some member → is_live_member lives g.epoch (member_of g.members manager) ≡ true
  live_at manager member m is =
      let x = settled_member member m in
      ap (is_live_member lives g.epoch) is ∙ live_test (of_node lives member.node) g.epoch member.boot x.node x.own x.up x.boot x.installed x.epoch

  names_at : (user : List ℕ) (manager : ℕ) → manager_of g user ≡ Some manager → TellsFragments plan s.stood.whole.v g members user manager → NamesFragments (slots_disks s.stood.whole.v) members user (map_seen (maps_in (state_of world) user))
  names_at user manager managed f =
      let here = found g.members manager f.member f.among f.same in
      let x = settled_member here.member here.inside in
      let up : of_node lives manager ≡ Some (Up x.node) = ap (of_node lives) (sym here.node_is) ∙ x.up in
      let is = told_at user manager (user_named_in f.node.whole.maps user (Some g)) x.node managed up (live_at manager here.member here.inside here.is) (set_at user manager x.node f.node f.disk up f.up f.installed) in
      subst (λ o. NamesFragments (slots_disks s.stood.whole.v) members user (map_seen o)) (sym is) (f.names 16 few)

  -- what the world tells of the user
  pub names : (user : List ℕ) → NamesFragments (slots_disks s.stood.whole.v) members user (map_seen (maps_in (state_of world) user))
  names user =
      let (manager, managed) = has_manager g user (length_positive (s.stood.whole.charted.mapped g (latest_known on plan world s.stood.whole g latest))) in
      names_at user manager managed
      (tells_fragments plan told s.stood.whole.story s.stood.whole.v (sound_at on plan told (Showing plan g) world s.stood) g s.settled members s.exactly (omega (arith, few)) s.some.0 s.some.1 user manager managed)
