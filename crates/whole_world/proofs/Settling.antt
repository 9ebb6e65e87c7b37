-- What holds in settled epochs.
use Rattle.std.proofs.Common.{◌≡◌, ◌≢◌, ◌⊎◌, ◌↔◌, inl, inr, ⊎_elim, ℕ, zero, suc, Bool, true, false, ◌&&◌, ◌||◌, List, [], ◌∷◌, ◌++◌, map, Option, Some, None, refl, sym, ap, ◌∙◌, subst, nat_eq, true≢false, if◌then◌else◌}
use Rattle.std.specs.Prelude.{slice_get}
use Rattle.std.specs.Cmp.Lexicographic.{pointwise, bytes_decides}
use Rattle.std.specs.declared.cmp.Ordering.{Ordering}
use Rattle.std.specs.declared.cmp.Ordering.TheVariants.{Less, Equal, Greater}
use Rattle.std.specs.Ordering.{is_lt, ordering_reverse}
use Rattle.mail_model.specs.Identity.{Id, Key, State}
use Rattle.mail_model.specs.Identity.Key.{Profile, Message}
use Rattle.mail_model.specs.Plan.{Plan}
use Rattle.mail_model.specs.Listing.{is_here}
use Rattle.mail_model.specs.Record.{Record}
use Rattle.mail_model.specs.Record.Record.{Boot, Promise, Octets, Stated, Retired}
use Rattle.object_model.specs.Keys.{is_same_key}
use Rattle.object_model.specs.Lists.{Among}
use Rattle.object_model.specs.Sets.{has}
use Rattle.object_model.specs.States.{state_cmp, is_below}
use Rattle.object_model.specs.Merge.{IsMerge}
use Rattle.object_model.specs.Said.{said, states_in, CoversAtLeast}
use Rattle.object_model.specs.Letters.{Member, Membership}
use Rattle.object_model.proofs.StateLaws.{key_self, state_total}
use Rattle.object_model.proofs.Lists.{among_front}
use Rattle.object_model.proofs.Merges.{join_comes, tied, join_is_merge, says_join}
use Rattle.object_model.proofs.SaidLaws.{said_backed, said_has}
use Rattle.cluster_model.specs.Cluster as mail
use Rattle.cluster_model.specs.Claims.Fact.{IsAtLeast}
use Rattle.maps_model.specs.Cluster as maps
use Rattle.maps_model.specs.Words as words
use Rattle.maps_model.specs.Epochs.{IsAtMost}
use Rattle.maps_model.specs.Laws as maps_laws
use Rattle.maps_model.proofs.Lists.{same_or_apart}
use Rattle.maps_model.proofs.Making.{epoch_promised}
use Rattle.maps_model.proofs.Settled.{named_are}
use Rattle.whole_model.specs.Whole.{Node, Slot, slot_at, mail_slot, maps_slot, maps_disk_of, holds_of, some_here, shows_here, is_held_here, promise_of}
use Rattle.whole_model.specs.Whole.Life.{Up}
use Rattle.whole_world.specs.World.{World, maps_world_of, slot_up, IsUp}
use Rattle.whole_world.specs.Laws.{Stands}
use Rattle.whole_world.specs.Settled.{IsSettled, holds_at, fragments, HasHere, Names, IsSameState, SaysIt, IsKnownEpoch}
use Rattle.whole_world.proofs.Along.{maps_here, mail_here}

-- the join of states, or nothing of none
abbrev Comes : List State → Option State → Type 0
Comes states None = states ≡ []
Comes states (Some join) = IsMerge states join

some_same : {X : Type 0} (o : Option X) (a b : X) → o ≡ Some a → o ≡ Some b → a ≡ b
some_same o a b p q = cc

-- all memberships of one epoch are equal
known_maps : (w : World) (g : Membership) → IsKnownEpoch w g → words.Known (maps_world_of w).slots (maps_world_of w).flying g
known_maps w g (inl (n, node, disk, up, is)) = inl (record { n = n; node = node.maps; disk = maps_disk_of disk; here = maps_here w.slots n (slot_up node disk) up; is = is })
known_maps w g (inr (letter, m, is)) = inr (record { letter = letter; inside = m; is = is })

pub one_map_per_epoch : (plan : Plan) (w : World) → Stands plan w → (a b : Membership) → IsKnownEpoch w a → IsKnownEpoch w b → a.epoch ≡ b.epoch → a ≡ b
one_map_per_epoch plan w s a b x y e = s.sound.maps.one.one a b (known_maps w a x) (known_maps w b y) e

pub promises_stand : (plan : Plan) (w : World) → Stands plan w → (n : ℕ) (node : Node) (disk : List Record) → IsUp w n node disk
    → IsAtMost (maps.epoch_of node.maps) node.maps.promise × (node.maps.promise ≡ promise_of disk) × (node.mail.installed ≡ node.maps.installed)
promises_stand plan w s n node disk up =
    let o = s.sound.maps.order.each n (maps_slot (slot_up node disk)) (maps_here w.slots n (slot_up node disk) up) in
    (epoch_promised n node.maps (maps_disk_of disk) o, o.promised, s.one_epoch.each n (slot_up node disk) up node refl)

-- a manager names the fragments
quiet_maps : (w : World) (g : Membership) → IsSettled w g → maps_laws.IsEpochSettled (maps_world_of w).slots g
quiet_maps w g settled member m = let q = settled member m in record {
  node = q.live.node.maps;
  disk = maps_disk_of q.live.disk;
  here = maps_here w.slots member.node (slot_up q.live.node q.live.disk) q.live.up;
  boot = q.live.boot;
  installed = q.live.installed;
  unmarked = q.unmarked;
}

module _ (w : World) where
  seen_at : (n : ℕ) (user : List ℕ) → maps_laws.holds_at (maps.slot_at (map maps_slot w.slots) n) user ≡ holds_at (slot_at w.slots n) user
  seen_at zero user = refl
  seen_at (suc k) user = by w.slots k
    where
      by : (slots : List Slot) (k : ℕ) → maps_laws.holds_at (slice_get (map maps_slot slots) k) user ≡ holds_at (slice_get slots k) user
      by [] k = refl
      by (s ∷ slots) zero = refl
      by (s ∷ slots) (suc k) = by slots k

  same_fragments : (user : List ℕ) (members : List Member) → maps_laws.fragments (map maps_slot w.slots) user members ≡ fragments w.slots user members
  same_fragments user [] = refl
  same_fragments user (member ∷ members) = let first = seen_at member.node user in let rest = same_fragments user members in
      λ i. if first i then member.node ∷ rest i else rest i

-- the node that maps see at a place
up_maps : (slots : List Slot) (n : ℕ) (node : maps.Node) (disk : maps.Disk) → maps.slot_at (map maps_slot slots) n ≡ Some (maps.slot_up node disk)
    → (x : Node) × (d : List Record) × (slot_at slots n ≡ Some (slot_up x d)) × (x.maps ≡ node)
up_maps slots zero node disk e = absurd (cc e)
up_maps slots (suc k) node disk e = found slots k e
  where
    of_slot : (s : Slot) → maps_slot s ≡ maps.slot_up node disk → (x : Node) × (d : List Record) × (s ≡ slot_up x d) × (x.maps ≡ node)
    of_slot s h = by s.life refl
      where
        lives : (s : Slot) → maps_slot s ≡ maps.slot_up node disk → (maps_slot s).life ≡ maps.Life.Up node
        lives s h = ap (λ (x : maps.Slot). x.life) h

        by : (life : Rattle.whole_model.specs.Whole.Life) → s.life ≡ life → (x : Node) × (d : List Record) × (s ≡ slot_up x d) × (x.maps ≡ node)
        by (Up x) is = (x, s.disk, (λ i. record { life = is i; disk = s.disk }), same x.maps (sym (ap (λ (l : Rattle.whole_model.specs.Whole.Life). (maps_slot (record { life = l; disk = s.disk })).life) is) ∙ lives s h))
          where
            same : (a : maps.Node) → maps.Life.Up a ≡ maps.Life.Up node → a ≡ node
            same a e = cc
        by (Rattle.whole_model.specs.Whole.Life.Down p) is = absurd (clash (maps_disk_of (s.disk ++ p)) (sym (ap (λ (l : Rattle.whole_model.specs.Whole.Life). (maps_slot (record { life = l; disk = s.disk })).life) is) ∙ lives s h))
          where
            clash : (a : maps.Disk) → maps.Life.Down a ≡ maps.Life.Up node → ⊥
            clash a e = cc
        by Rattle.whole_model.specs.Whole.Life.Lost is = absurd (clash (sym (ap (λ (l : Rattle.whole_model.specs.Whole.Life). (maps_slot (record { life = l; disk = s.disk })).life) is) ∙ lives s h))
          where
            clash : maps.Life.Lost ≡ maps.Life.Up node → ⊥
            clash e = cc

    found : (slots : List Slot) (k : ℕ) → slice_get (map maps_slot slots) k ≡ Some (maps.slot_up node disk) → (x : Node) × (d : List Record) × (slice_get slots k ≡ Some (slot_up x d)) × (x.maps ≡ node)
    found [] k e = absurd (cc e)
    found (s ∷ slots) zero e = let o = of_slot s (some (maps_slot s) (maps.slot_up node disk) e) in (o.0, o.1, ap Some o.2, o.3)
      where
        some : (a b : maps.Slot) → Some a ≡ Some b → a ≡ b
        some a b h = cc
    found (s ∷ slots) (suc k) e = found slots k e

pub names : (plan : Plan) (w : World) → Stands plan w → (g : Membership) → IsSettled w g → (member : Member) → Among member g.members
    → (user : List ℕ) (manager : ℕ) → maps.manager_of g user ≡ Some manager → Names w g user manager
names plan w s g settled member m user manager managed =
    let n = named_are (maps_world_of w) s.sound.maps g (quiet_maps w g settled) member m user manager managed in
    let up = up_maps w.slots manager n.node n.disk n.here in
    record { node = up.0; disk = up.1; up = up.2; same = ap (λ (x : maps.Node). maps_laws.named x user g.members) up.3 ∙ n.same ∙ same_fragments w user g.members }

-- what a disk holds of a user is a copy that is here
shown : (user : List ℕ) (all records : List Record) → some_here user all records ≡ true → HasHere all user
shown user all [] e = absurd (true≢false (sym e))
shown user all (Stated (Profile name) state ∷ records) e = shown user all records e
shown user all (Stated (Message name id) state ∷ records) e = by (λ f. shown user all records f) (pointwise nat_eq name user) (said (Message name id) all) refl refl e
  where
    by : (some_here user all records ≡ true → HasHere all user) → (b : Bool) (o : Option State) → pointwise nat_eq name user ≡ b → said (Message name id) all ≡ o → ((b && is_held_here o) || some_here user all records) ≡ true → HasHere all user
    by rest true None p q h = rest h
    by rest true (Some held) p q h = here (is_here held.value) refl h
      where
        here : (c : Bool) → is_here held.value ≡ c → (c || some_here user all records) ≡ true → HasHere all user
        here true k _ = record { id = id; state = held; says = subst (λ n. said (Message n id) all ≡ Some held) ((bytes_decides name user).0 p) q; here = k }
        here false k f = rest f
    by rest false o p q h = rest h
shown user all (Boot boot ∷ records) e = shown user all records e
shown user all (Promise epoch ∷ records) e = shown user all records e
shown user all (Octets id octets ∷ records) e = shown user all records e
shown user all (Retired key state ∷ records) e = shown user all records e

shows : (user : List ℕ) (all records : List Record) (id : Id) (one state : State) → said (Message user id) all ≡ Some state → is_here state.value ≡ true → Among (Stated (Message user id) one) records → some_here user all records ≡ true
shows user all [] id one state e here m = absurd m
shows user all (Stated key other ∷ records) id one state e here m = by (λ b. shows user all records id one state e here b) (shows_here user all key) refl m
  where
    same_key : Stated key other ≡ Stated (Message user id) one → key ≡ Message user id
    same_key h = cc

    first : key ≡ Message user id → shows_here user all key ≡ true
    first k = ap (shows_here user all) k ∙ ap (λ b. b && is_held_here (said (Message user id) all)) ((bytes_decides user user).1 refl) ∙ ap is_held_here e ∙ here

    by : (Among (Stated (Message user id) one) records → some_here user all records ≡ true) → (b : Bool) → shows_here user all key ≡ b → (Stated key other ≡ Stated (Message user id) one) ⊎ Among (Stated (Message user id) one) records → (b || some_here user all records) ≡ true
    by behind true p a = refl
    by behind false p (inl h) = absurd (true≢false (sym (first (same_key h)) ∙ p))
    by behind false p (inr b) = behind b
shows user all (Boot boot ∷ records) id one state e here m = shows user all records id one state e here (⊎_elim (λ h. absurd (cc h)) (λ b. b) m)
shows user all (Promise epoch ∷ records) id one state e here m = shows user all records id one state e here (⊎_elim (λ h. absurd (cc h)) (λ b. b) m)
shows user all (Octets other octets ∷ records) id one state e here m = shows user all records id one state e here (⊎_elim (λ h. absurd (cc h)) (λ b. b) m)
shows user all (Retired key other ∷ records) id one state e here m = shows user all records id one state e here (⊎_elim (λ h. absurd (cc h)) (λ b. b) m)

pub holds_here : (disk : List Record) (user : List ℕ) → (holds_of disk user ≡ true) ↔ HasHere disk user
holds_here disk user = (
  λ e. shown user disk disk e,
  λ h. let b = said_backed (Message user h.id) disk h.state h.says in shows user disk disk h.id b.top h.state h.says h.here b.inside,
)

-- a state that stands among the records is not above what is said
member_in : (key : Key) (state : State) (records : List Record) → Among (Stated key state) records → Among state (states_in key records)
member_in key state [] m = absurd m
member_in key state (Stated other one ∷ records) m = by (λ k. member_in key state records k) (is_same_key other key) refl m
  where
    key_of : Stated other one ≡ Stated key state → is_same_key other key ≡ true
    key_of h = subst (λ (k : Key). is_same_key k key ≡ true) (sym keys) (key_self key)
      where
        keys : other ≡ key
        keys = cc

    state_of : Stated other one ≡ Stated key state → one ≡ state
    state_of h = cc

    by : (Among (Stated key state) records → Among state (states_in key records)) → (b : Bool) → is_same_key other key ≡ b → (Stated other one ≡ Stated key state) ⊎ Among (Stated key state) records
        → Among state ((if b then one ∷ [] else []) ++ states_in key records)
    by rest true p (inl h) = inl (state_of h)
    by rest true p (inr k) = inr (rest k)
    by rest false p (inl h) = absurd (true≢false (sym (key_of h) ∙ p))
    by rest false p (inr k) = rest k
member_in key state (Boot boot ∷ records) m = member_in key state records (⊎_elim (λ h. absurd (cc h)) (λ b. b) m)
member_in key state (Promise epoch ∷ records) m = member_in key state records (⊎_elim (λ h. absurd (cc h)) (λ b. b) m)
member_in key state (Octets id octets ∷ records) m = member_in key state records (⊎_elim (λ h. absurd (cc h)) (λ b. b) m)
member_in key state (Retired other one ∷ records) m = member_in key state records (⊎_elim (λ h. absurd (cc h)) (λ b. b) m)

-- what is not below what is not below something, is not below it
above_above : (a b c : State) → is_below a b ≡ false → is_below b c ≡ false → is_below a c ≡ false
above_above a b c p q = by (state_cmp a c) (state_cmp b c) refl refl
  where
    lower : state_cmp a b ≡ Less → ⊥
    lower e = true≢false (sym (ap is_lt e) ∙ p)

    by : (x y : Ordering) → state_cmp a c ≡ x → state_cmp b c ≡ y → is_below a c ≡ false
    by Less Less e f = absurd (true≢false (sym (ap is_lt f) ∙ q))
    by Less Equal e f = absurd (lower (state_total.antisymm a b ∙ ap ordering_reverse (state_total.congr b c a f ∙ state_total.antisymm c a ∙ ap ordering_reverse e)))
    by Less Greater e f = absurd (lower (state_total.trans a c b e (state_total.antisymm c b ∙ ap ordering_reverse f)))
    by Equal y e f = ap is_lt e
    by Greater y e f = ap is_lt e

-- what a disk says is not below what it covers, and has its targets
covers_said : (key : Key) (disk : List Record) (held state : State) → said key disk ≡ Some held → CoversAtLeast key state disk
    → (is_below held state ≡ false) × ((m : ℕ) → has state.targets m ≡ true → has held.targets m ≡ true)
covers_said key disk held state e c = (
  above_above held c.top state ((join_is_merge (states_in key disk) held (sym (says_join key disk) ∙ e)).greatest c.top (member_in key c.top disk c.inside)) c.not_below,
  λ m h. let t = c.targets m h in said_has key None disk t.0 held m e t.1 t.2,
)

same_of : (a b : State) → is_below a b ≡ false → is_below b a ≡ false → ((m : ℕ) → has a.targets m ≡ true → has b.targets m ≡ true) → ((m : ℕ) → has b.targets m ≡ true → has a.targets m ≡ true) → IsSameState a b
same_of a b p q f g = let t = tied a b (equal (state_cmp a b) refl) in record { value = t.0; stamp = t.1; targets = λ m. both (has a.targets m) (has b.targets m) refl refl m }
  where
    equal : (x : Ordering) → state_cmp a b ≡ x → state_cmp a b ≡ Equal
    equal Less e = absurd (true≢false (sym (ap is_lt e) ∙ p))
    equal Equal e = e
    equal Greater e = absurd (true≢false (sym (ap is_lt (state_total.antisymm b a ∙ ap ordering_reverse e)) ∙ q))

    both : (x y : Bool) → x ≡ x → y ≡ y → (m : ℕ) → has a.targets m ≡ has b.targets m
    both x y r s m = by (has a.targets m) (has b.targets m) refl refl
      where
        by : (u v : Bool) → has a.targets m ≡ u → has b.targets m ≡ v → has a.targets m ≡ has b.targets m
        by true v h k = h ∙ sym (f m h)
        by false true h k = g m k ∙ sym k
        by false false h k = h ∙ sym k

module _ (plan : Plan) (w : World) (s : Stands plan w) (g : Membership) (settled : IsSettled w g) where
  -- a member's disk covers what another says
  covered : (a b : Member) → Among a g.members → Among b g.members → (slot : Slot) → slot_at w.slots a.node ≡ Some slot → (key : Key) (state : State) → said key slot.disk ≡ Some state
      → has state.targets b.node ≡ true → b.node ≢ a.node → (other : Slot) → slot_at w.slots b.node ≡ Some other → CoversAtLeast key state other.disk
  covered a b ma mb slot here key state says target apart other there =
      let q = settled a ma in
      let p = settled b mb in
      let slots : slot ≡ slot_up q.live.node q.live.disk = some_same (slot_at w.slots a.node) slot (slot_up q.live.node q.live.disk) here q.live.up in
      let f = s.sound.mail.claims.nodes b.node (IsAtLeast key state) (record {
        node = a.node;
        slot = mail_slot (slot_up q.live.node q.live.disk);
        here = mail_here w.slots a.node (slot_up q.live.node q.live.disk) q.live.up;
        claims = inr (inl (record {
          node = q.live.node.mail;
          up = refl;
          key = key;
          state = state;
          says = subst (λ (x : Slot). said key x.disk ≡ Some state) slots says;
          target = target;
          other = apart;
          told = λ entry h. q.owes key entry h b mb apart;
          is = refl;
        }));
      }) in
      let its : f.slot ≡ mail_slot (slot_up p.live.node p.live.disk) = some_same (mail.slot_at (map mail_slot w.slots) b.node) f.slot (mail_slot (slot_up p.live.node p.live.disk)) f.here (mail_here w.slots b.node (slot_up p.live.node p.live.disk) p.live.up) in
      let mine : other ≡ slot_up p.live.node p.live.disk = some_same (slot_at w.slots b.node) other (slot_up p.live.node p.live.disk) there p.live.up in
      subst (λ (x : Slot). CoversAtLeast key state x.disk) (sym mine) (subst (λ (x : mail.Slot). CoversAtLeast key state x.disk) its f.stands)

  by_number : (a b : ℕ) → (a ≡ b) ⊎ (a ≢ b)
  by_number a b = ⊎_elim (λ h. inl h.1) (λ h. inr h.1) (same_or_apart a b)

  pub agree : (a b : Member) → Among a g.members → Among b g.members → (slot : Slot) → slot_at w.slots a.node ≡ Some slot → (key : Key) (state : State) → said key slot.disk ≡ Some state
      → has state.targets b.node ≡ true → SaysIt w b.node key state
  agree a b ma mb slot here key state says target = ⊎_elim
      (λ same. record { slot = slot; here = subst (λ n. slot_at w.slots n ≡ Some slot) (sym same) here; held = state; says = says; same = record { value = refl; stamp = refl; targets = λ m. refl } })
      (λ apart. other apart)
      (by_number b.node a.node)
    where
      its : Slot
      its = slot_up (settled b mb).live.node (settled b mb).live.disk

      there : slot_at w.slots b.node ≡ Some its
      there = (settled b mb).live.up

      -- the node that says it is among its targets
      own : has state.targets a.node ≡ true
      own = let top = said_backed key slot.disk state says in
          said_has key None slot.disk top.top state a.node says top.inside
          ((s.sound.mail.fit.slots_fit a.node (mail_slot slot) (mail_here w.slots a.node slot here)).target key top.top (among_front (Stated key top.top) slot.disk (mail.pending_of (mail_slot slot).life) top.inside))

      nothing : CoversAtLeast key state its.disk → said key its.disk ≡ None → SaysIt w b.node key state
      nothing c e = absurd (subst (Among c.top) (subst (Comes (states_in key its.disk)) (sym (says_join key its.disk) ∙ e) (join_comes (states_in key its.disk))) (member_in key c.top its.disk c.inside))

      by : b.node ≢ a.node → CoversAtLeast key state its.disk → (o : Option State) → said key its.disk ≡ o → SaysIt w b.node key state
      by apart c None e = nothing c e
      by apart c (Some held) e =
          let up = covers_said key its.disk held state e c in
          let back = covered b a mb ma its there key held e (up.1 a.node own) (λ same. apart (sym same)) slot here in
          let down = covers_said key slot.disk state held says back in
          record { slot = its; here = there; held = held; says = e; same = same_of held state up.0 down.0 down.1 up.1 }

      other : b.node ≢ a.node → SaysIt w b.node key state
      other apart = by apart (covered a b ma mb slot here key state says target apart its there) (said key its.disk) refl
