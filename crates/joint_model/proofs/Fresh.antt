-- A login that is fresh in a settled epoch lists exactly what stands.
use Rattle.std.proofs.Common.{◌≡◌, ◌≢◌, inl, inr, ⊎_elim, ◌≤◌, ℕ, zero, suc, true, List, [], ◌++◌, map, Option, Some, None, refl, sym, ap, ◌∙◌, subst, true≢false, le_trans}
use Rattle.std.proofs.lemmas.Bool.{cases_eq}
use Rattle.mail_model.specs.Identity.{Id, Value, State}
use Rattle.mail_model.specs.Identity.Key.{Message}
use Rattle.mail_model.specs.Identity.Value.{Here, Gone, Secret}
use Rattle.mail_model.specs.Record.{Record}
use Rattle.mail_model.specs.Record.Record.{Octets, Stated}
use Rattle.mail_model.specs.Listing.{is_gone, octets_in}
use Rattle.object_model.specs.Sets.{has}
use Rattle.object_model.specs.Said.{said, is_gone_held}
use Rattle.object_model.specs.Letters.{Number, Membership}
use Rattle.object_model.proofs.Lists.{among_front, same_some}
use Rattle.cluster_model.specs.Reads.{is_here_held}
use Rattle.cluster_model.specs.Cluster as mail
use Rattle.cluster_model.specs.Cluster.{set_of_members}
use Rattle.cluster_model.specs.Claims.{SaysFact, FactStands}
use Rattle.cluster_model.specs.Claims.Fact.{IsAtLeast}
use Rattle.cluster_model.proofs.Filing.{octets_stand}
use Rattle.maps_model.specs.Cluster as maps
use Rattle.maps_model.specs.Words.{Known}
use Rattle.maps_model.specs.Laws.{named, holds_at, fragments}
use Rattle.maps_model.proofs.Settled.{named_are}
use Rattle.whole_model.specs.Whole as whole
use Rattle.whole_model.proofs.Seen.{get_seen}
use Rattle.login_model.specs.Cluster as login
use Rattle.login_model.specs.Readings.{Login}
use Rattle.login_model.specs.Listing.{LoginItem, ListsItems, IsFreshLogin, AgreesOn, NamesHolders, ListsStanding}
use Rattle.login_model.proofs.Listing.{fresh_lists}
use Rattle.joint_model.specs.Joint.{Node, Life, Slot, Cluster, slot_at, slot_up, whole_slot, whole_of, nodes_as_set, user_named_in, user_manager_in, read_node, read_slot, reads_of}
use Rattle.joint_model.specs.Joint.Life.{Up, Down, Lost}
use Rattle.joint_model.specs.Moves.{Sound}
use Rattle.joint_model.specs.Fresh.{IsSettled, GoneIsForAll, AreOfPlan}
use Rattle.joint_model.proofs.Kept.{whole_here, read_here}
use Rattle.joint_model.proofs.Settled.{read_back, whole_back, maps_back, set_has, has_set, members_have, have_members, fragment_is, is_fragment, held_back, holds_it, gone_covers}

maps_there : (slots : List whole.Slot) (n : ℕ) (slot : whole.Slot) → whole.slot_at slots n ≡ Some slot → maps.slot_at (map whole.maps_slot slots) n ≡ Some (whole.maps_slot slot)
maps_there slots zero slot e = absurd (cc e)
maps_there slots (suc k) slot e = get_seen whole.maps_slot slots k slot e

pub mail_there : (slots : List whole.Slot) (n : ℕ) (slot : whole.Slot) → whole.slot_at slots n ≡ Some slot → mail.slot_at (map whole.mail_slot slots) n ≡ Some (whole.mail_slot slot)
mail_there slots zero slot e = absurd (cc e)
mail_there slots (suc k) slot e = get_seen whole.mail_slot slots k slot e

-- whoever is up to maps is up
pub record UpAs (slot : Slot) (n : maps.Node) : Type 0 where
  pub node : Node
  pub is : slot ≡ slot_up node slot.disk
  pub same : node.whole.maps ≡ n

pub up_as : (slot : Slot) (n : maps.Node) (d : maps.Disk) → whole.maps_slot (whole_slot slot) ≡ maps.slot_up n d → UpAs slot n
up_as slot n d e = by slot.life refl
  where
    lives : whole.maps_life slot.disk (whole_slot slot).life ≡ maps.Life.Up n
    lives = ap (λ (s : maps.Slot). s.life) e

    up_is : (a : maps.Node) → maps.Life.Up a ≡ maps.Life.Up n → a ≡ n
    up_is a p = cc

    not_down : (might : maps.Disk) → maps.Life.Down might ≡ maps.Life.Up n → ⊥
    not_down might p = cc

    not_lost : maps.Life.Lost ≡ maps.Life.Up n → ⊥
    not_lost p = cc

    by : (l : Life) → slot.life ≡ l → UpAs slot n
    by (Up node) is = record { node = node; is = λ i. record { life = is i; disk = slot.disk }; same = up_is node.whole.maps (subst (λ l. whole.maps_life slot.disk (whole_slot (record { life = l; disk = slot.disk })).life ≡ maps.Life.Up n) is lives) }
    by (Down pending) is = absurd (not_down (whole.maps_disk_of (slot.disk ++ pending)) (subst (λ l. whole.maps_life slot.disk (whole_slot (record { life = l; disk = slot.disk })).life ≡ maps.Life.Up n) is lives))
    by Lost is = absurd (not_lost (subst (λ l. whole.maps_life slot.disk (whole_slot (record { life = l; disk = slot.disk })).life ≡ maps.Life.Up n) is lives))

-- a copy that is gone
gone_state : (o : Option State) → is_gone_held o ≡ true → (state : State) × (o ≡ Some state) × (state.value ≡ Gone)
gone_state None g = absurd (true≢false (sym g))
gone_state (Some state) g = (state, refl, by state.value refl)
  where
    by : (v : Value) → state.value ≡ v → state.value ≡ Gone
    by Here e = absurd (true≢false (sym g ∙ ap is_gone e))
    by Gone e = e
    by (Secret octets) e = absurd (true≢false (sym g ∙ ap is_gone e))

module _ (confirm nodes : ℕ) (w : Cluster) (s : Sound confirm w) (few : nodes ≤ 64) (g : Membership) (settled : IsSettled w g) (plan : AreOfPlan nodes g) where
  abbrev members : ℕ
  members = set_of_members g.members

  abbrev wholes : List whole.Slot
  wholes = map whole_slot w.slots

  -- a member is up in the epoch
  record IsUp (m : ℕ) : Type 0 where
    node : Node
    disk : List Record
    here : slot_at w.slots m ≡ Some (slot_up node disk)
    installed : node.whole.maps.installed ≡ Some g
    some : m ≢ 0
    within : m ≤ nodes

  member_up : (m : ℕ) → has members m ≡ true → IsUp m
  member_up m h =
      let member = members_have g.members m h in
      let q = settled.quiet member.0 member.1 in
      let seen = maps_back wholes member.0.node (maps.slot_up q.node q.disk) q.here in
      let one = whole_back w.slots member.0.node seen.0 seen.1 in
      let up = up_as one.0 q.node q.disk (ap whole.maps_slot one.2 ∙ seen.2) in
      let p = plan member.0 member.1 in
      record {
        node = up.node;
        disk = one.0.disk;
        here = subst (λ k. slot_at w.slots k ≡ Some (slot_up up.node one.0.disk)) member.2 (one.1 ∙ ap Some up.is);
        installed = ap (λ (n : maps.Node). n.installed) up.same ∙ q.installed;
        some = λ e. p.0 (member.2 ∙ e);
        within = subst (λ k. k ≤ nodes) member.2 p.1;
      }

  -- the slot that calls that read see is of a slot with the same disk
  record Seen (m : ℕ) (slot : login.Slot) : Type 0 where
    one : Slot
    here : slot_at w.slots m ≡ Some one
    disk : one.disk ≡ slot.disk

  seen_at : (m : ℕ) (slot : login.Slot) → login.slot_at (reads_of w).slots m ≡ Some slot → Seen m slot
  seen_at m slot at = let r = read_back w.tells w.slots m slot at in record { one = r.0; here = r.1; disk = ap (λ (x : login.Slot). x.disk) r.2 }

  -- what one member says to be gone all do
  gone_to : GoneIsForAll nodes w.slots → (user : List ℕ) (a b : ℕ) → has members a ≡ true → has members b ≡ true → (one other : Slot) → slot_at w.slots a ≡ Some one → slot_at w.slots b ≡ Some other → (id : Id)
      → is_gone_held (said (Message user id) one.disk) ≡ true → is_gone_held (said (Message user id) other.disk) ≡ true
  gone_to all user a b ha hb one other at_a at_b id g_ = ⊎_elim
      (λ same. let is = same_some (slot_at w.slots b) one other (subst (λ k. slot_at w.slots k ≡ Some one) same at_a) at_b in subst (λ (x : Slot). is_gone_held (said (Message user id) x.disk) ≡ true) is g_)
      (λ apart. far apart)
      (cases_eq a b)
    where
      far : a ≢ b → is_gone_held (said (Message user id) other.disk) ≡ true
      far apart =
          let up = member_up a ha in
          let is : one ≡ slot_up up.node up.disk = same_some (slot_at w.slots a) one (slot_up up.node up.disk) at_a up.here in
          let there = member_up b hb in
          let is_b : other ≡ slot_up there.node there.disk = same_some (slot_at w.slots b) other (slot_up there.node there.disk) at_b there.here in
          let st = gone_state (said (Message user id) one.disk) g_ in
          let says : said (Message user id) up.disk ≡ Some st.0 = subst (λ (x : Slot). said (Message user id) x.disk ≡ Some st.0) is st.1 in
          let stands : FactStands (map whole.mail_slot wholes) b (IsAtLeast (Message user id) st.0) = s.whole.mail.claims.nodes b (IsAtLeast (Message user id) st.0) (record {
            node = a;
            slot = whole.mail_slot (whole_slot (slot_up up.node up.disk));
            here = mail_there wholes a (whole_slot (slot_up up.node up.disk)) (whole_here w.slots a (slot_up up.node up.disk) up.here);
            claims = inr (inl (record {
              node = up.node.whole.mail;
              up = refl;
              key = Message user id;
              state = st.0;
              says = says;
              target = all a (slot_up up.node up.disk) up.here user id st.0 says st.2 b there.some there.within;
              other = λ e. apart (sym e);
              told = λ entry h. settled.logs a b ha hb apart up.node up.disk up.here (Message user id) entry h;
              is = refl;
            }));
          }) in
          let its = mail_there wholes b (whole_slot (slot_up there.node there.disk)) (whole_here w.slots b (slot_up there.node there.disk) there.here) in
          let slot_is : stands.slot ≡ whole.mail_slot (whole_slot (slot_up there.node there.disk)) = same_some (mail.slot_at (map whole.mail_slot wholes) b) stands.slot (whole.mail_slot (whole_slot (slot_up there.node there.disk))) stands.here its in
          let covers : SaysFact there.disk (IsAtLeast (Message user id) st.0) = subst (λ (x : mail.Slot). SaysFact x.disk (IsAtLeast (Message user id) st.0)) slot_is stands.stands in
          let fits = s.whole.mail.fit.slots_fit b (whole.mail_slot (whole_slot (slot_up there.node there.disk))) its in
          subst (λ (x : Slot). is_gone_held (said (Message user id) x.disk) ≡ true) (sym is_b)
          (gone_covers user id there.disk (λ key state m. fits.kind key state (among_front (Stated key state) there.disk [] m)) st.0 st.2 covers)

  -- octets of one id are the same everywhere
  same_octets : (a b : ℕ) (one other : Slot) → slot_at w.slots a ≡ Some one → slot_at w.slots b ≡ Some other → (id : Id) (octets others : List ℕ)
      → octets_in id one.disk ≡ Some octets → octets_in id other.disk ≡ Some others → octets ≡ others
  same_octets a b one other at_a at_b id octets others e f = s.whole.mail.contents.one id octets others
      (record { where_ = inl (a, whole.mail_slot (whole_slot one), mail_there wholes a (whole_slot one) (whole_here w.slots a one at_a), among_front (Octets id octets) one.disk _ (octets_stand id octets one.disk e)) })
      (record { where_ = inl (b, whole.mail_slot (whole_slot other), mail_there wholes b (whole_slot other) (whole_here w.slots b other at_b), among_front (Octets id others) other.disk _ (octets_stand id others other.disk f)) })

  agrees : GoneIsForAll nodes w.slots → (user : List ℕ) → AgreesOn (reads_of w).slots members user
  agrees all user = record {
    gone = λ a b one other ha hb at_a at_b id g_.
        let x = seen_at a one at_a in
        let y = seen_at b other at_b in
        subst (λ d. is_gone_held (said (Message user id) d) ≡ true) y.disk (gone_to all user a b ha hb x.one y.one x.here y.here id (subst (λ d. is_gone_held (said (Message user id) d) ≡ true) (sym x.disk) g_));
    contents = λ a b one other at_a at_b id octets others e f.
        let x = seen_at a one at_a in
        let y = seen_at b other at_b in
        same_octets a b x.one y.one x.here y.here id octets others (subst (λ d. octets_in id d ≡ Some octets) (sym x.disk) e) (subst (λ d. octets_in id d ≡ Some others) (sym y.disk) f);
  }

  -- a node that holds a copy of the user, as maps see it, says so of some id
  held_at : (m : ℕ) (user : List ℕ) → holds_at (maps.slot_at (map whole.maps_slot wholes) m) user ≡ true
      → (slot : login.Slot) × (login.slot_at (reads_of w).slots m ≡ Some slot) × ((id : Id) × (is_here_held (said (Message user id) slot.disk) ≡ true))
  held_at m user h = by (maps.slot_at (map whole.maps_slot wholes) m) refl h
    where
      by : (o : Option maps.Slot) → maps.slot_at (map whole.maps_slot wholes) m ≡ o → holds_at o user ≡ true
          → (slot : login.Slot) × (login.slot_at (reads_of w).slots m ≡ Some slot) × ((id : Id) × (is_here_held (said (Message user id) slot.disk) ≡ true))
      by None e k = absurd (true≢false (sym k))
      by (Some slot) e k =
          let seen = maps_back wholes m slot e in
          let one = whole_back w.slots m seen.0 seen.1 in
          let disk : whole.maps_slot (whole_slot one.0) ≡ slot = ap whole.maps_slot one.2 ∙ seen.2 in
          (read_slot w.tells one.0, read_here w.tells w.slots m one.0 one.1, held_back user one.0.disk one.0.disk (ap (λ (x : maps.Slot). x.disk.holds user) disk ∙ k))

  -- the manager names exactly the members that hold a copy
  pub names : (n : ℕ) (proxy : Node) (disk : List Record) → slot_at w.slots n ≡ Some (slot_up proxy disk) → proxy.whole.maps.installed ≡ Some g → (user : List ℕ) (manager : ℕ) → maps.manager_of g user ≡ Some manager
      → NamesHolders (reads_of w).slots members user manager
  names n proxy disk at installed user manager managed =
      let known : Known (map whole.maps_slot wholes) w.flying g =
      inl (record { n = n; node = proxy.whole.maps; disk = whole.maps_disk_of disk; here = maps_there wholes n (whole_slot (slot_up proxy disk)) (whole_here w.slots n (slot_up proxy disk) at); is = installed }) in
      let managing = s.whole.maps.one.managers g known user manager managed in
      let p = plan managing.member managing.inside in
      let up = member_up manager (subst (λ k. has members k ≡ true) managing.is (have_members g.members managing.member p.0 (le_trans p.1 few) managing.inside)) in
      let nf = named_are (whole.maps_of (whole_of w)) s.whole.maps g settled.quiet managing.member managing.inside user manager managed in
      let same_node : nf.node ≡ up.node.whole.maps = up_same nf.node up.node.whole.maps (ap (λ (x : maps.Slot). x.life)
      (same_some (maps.slot_at (map whole.maps_slot wholes) manager) (maps.slot_up nf.node nf.disk) (whole.maps_slot (whole_slot (slot_up up.node up.disk))) nf.here
      (maps_there wholes manager (whole_slot (slot_up up.node up.disk)) (whole_here w.slots manager (slot_up up.node up.disk) up.here)))) in
      let is : user_named_in up.node.whole.maps user up.node.whole.maps.installed ≡ nodes_as_set (fragments (map whole.maps_slot wholes) user g.members) =
      ap (λ o. user_named_in up.node.whole.maps user o) up.installed ∙ ap nodes_as_set (subst (λ (x : maps.Node). named x user g.members ≡ fragments (map whole.maps_slot wholes) user g.members) same_node nf.same) in
      record {
        node = read_node w.tells up.node;
        disk = up.disk;
        here = read_here w.tells w.slots manager (slot_up up.node up.disk) up.here;
        members_only = λ m h.
            let f = fragment_is (map whole.maps_slot wholes) user g.members m (set_has (fragments (map whole.maps_slot wholes) user g.members) m (subst (λ k. has k m ≡ true) is h)) in
            let q = plan f.0 f.1 in
            subst (λ k. has members k ≡ true) f.2 (have_members g.members f.0 q.0 (le_trans q.1 few) f.1);
        holds = λ m h.
            let f = fragment_is (map whole.maps_slot wholes) user g.members m (set_has (fragments (map whole.maps_slot wholes) user g.members) m (subst (λ k. has k m ≡ true) is h)) in
            held_at m user f.3;
        holders = λ m slot member at_m id here.
            let x = seen_at m slot at_m in
            let f = members_have g.members m member in
            let q = plan f.0 f.1 in
            let there = maps_there wholes m (whole_slot x.one) (whole_here w.slots m x.one x.here) in
            let holds : holds_at (maps.slot_at (map whole.maps_slot wholes) f.0.node) user ≡ true = subst (λ k. holds_at (maps.slot_at (map whole.maps_slot wholes) k) user ≡ true) (sym f.2)
            (ap (λ o. holds_at o user) there ∙ holds_it user id x.one.disk (subst (λ d. is_here_held (said (Message user id) d) ≡ true) (sym x.disk) here)) in
            subst (λ k. has k m ≡ true) (sym is) (subst (λ k. has (nodes_as_set (fragments (map whole.maps_slot wholes) user g.members)) k ≡ true) f.2
            (has_set (fragments (map whole.maps_slot wholes) user g.members) f.0.node q.0 (le_trans q.1 few) (is_fragment (map whole.maps_slot wholes) user g.members f.0 f.1 holds)));
      }
    where
      up_same : (a b : maps.Node) → maps.Life.Up a ≡ maps.Life.Up b → a ≡ b
      up_same a b e = cc

  pub lists : GoneIsForAll nodes w.slots → (number : Number) (login_ : Login) (items : List LoginItem) → ListsItems (reads_of w) number login_ items → IsFreshLogin (reads_of w) number login_.user
      → (proxy : Node) (disk : List Record) → slot_at w.slots number.node ≡ Some (slot_up proxy disk) → proxy.whole.maps.installed ≡ Some g
      → (manager : ℕ) → maps.manager_of g login_.user ≡ Some manager → ListsStanding (reads_of w).slots members login_.user items
  lists all number login_ items l fresh proxy disk at installed manager managed = fresh_lists (reads_of w) s.reads number login_ items l fresh (read_node w.tells proxy) disk
      (read_here w.tells w.slots number.node (slot_up proxy disk) at) manager (ap (λ o. user_manager_in login_.user o) installed ∙ managed) members
      (names number.node proxy disk at installed login_.user manager managed) (agrees all login_.user)
