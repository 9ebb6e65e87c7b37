-- In a settled epoch managers name exactly the members that hold a copy, and what one member says to be gone all do.
use Rattle.std.proofs.Common.{◌≡◌, ◌≢◌, inl, inr, ⊎_elim, ◌≤◌, ℕ, zero, suc, Bool, true, false, ◌||◌, List, [], ◌∷◌, map, Option, Some, None, refl, sym, ap, ◌∙◌, subst, arith, true≢false, nat_eq, if◌then◌else◌}
use Rattle.std.specs.Prelude.{slice_get}
use Rattle.std.proofs.lemmas.Bool.{and_from, and_parts, or_cases}
use Rattle.std.specs.Cmp.Lexicographic.{pointwise, bytes_decides}
use Rattle.mail_model.specs.Identity.{Id, Key, Value, State}
use Rattle.mail_model.specs.Identity.Key.{Profile, Message}
use Rattle.mail_model.specs.Identity.Value.{Here, Gone, Secret}
use Rattle.mail_model.specs.Record.{Record}
use Rattle.mail_model.specs.Record.Record.{Boot, Promise, Octets, Stated, Retired}
use Rattle.mail_model.specs.Grammar.{IsOfKind}
use Rattle.mail_model.specs.Listing.{is_gone}
use Rattle.object_model.specs.Sets.{has, with_node, one_node}
use Rattle.object_model.specs.Lists.{Among}
use Rattle.object_model.specs.Keys.{is_same_key}
use Rattle.object_model.specs.States.{is_below, joined, join_with}
use Rattle.object_model.specs.Said.{said, held_after, is_gone_held, CoversAtLeast}
use Rattle.object_model.specs.Letters.{Member}
use Rattle.object_model.proofs.SetLaws.{has_with, has_none, has_left, has_right, one_has}
use Rattle.object_model.proofs.SaidLaws.{said_backed}
use Rattle.object_model.proofs.Merges.{gone_stays}
use Rattle.object_model.proofs.StateLaws.{key_is, key_self}
use Rattle.cluster_model.specs.Reads.{is_here_held}
use Rattle.cluster_model.specs.Cluster.{set_of_members}
use Rattle.maps_model.specs.Cluster as maps
use Rattle.maps_model.specs.Laws.{holds_at, fragments}
use Rattle.whole_model.specs.Whole as whole
use Rattle.login_model.specs.Cluster as login
use Rattle.joint_model.specs.Joint.{Slot, slot_at, whole_slot, nodes_as_set, read_slot}

pub some_is : {X : Type 0} (a b : X) → Some a ≡ Some b → a ≡ b
some_is a b p = cc

-- what a view of slots has at a place comes from a slot there
get_back : {X Y : Type 0} (f : X → Y) (xs : List X) (k : ℕ) (y : Y) → slice_get (map f xs) k ≡ Some y → (x : X) × (slice_get xs k ≡ Some x) × (f x ≡ y)
get_back f [] k y e = absurd (cc e)
get_back f (x ∷ xs) zero y e = (x, refl, some_is (f x) y e)
get_back f (x ∷ xs) (suc k) y e = get_back f xs k y e

pub read_back : (tells : Bool) (slots : List Slot) (n : ℕ) (slot : login.Slot) → login.slot_at (map (read_slot tells) slots) n ≡ Some slot → (one : Slot) × (slot_at slots n ≡ Some one) × (read_slot tells one ≡ slot)
read_back tells slots zero slot e = absurd (cc e)
read_back tells slots (suc k) slot e = get_back (read_slot tells) slots k slot e

pub whole_back : (slots : List Slot) (n : ℕ) (slot : whole.Slot) → whole.slot_at (map whole_slot slots) n ≡ Some slot → (one : Slot) × (slot_at slots n ≡ Some one) × (whole_slot one ≡ slot)
whole_back slots zero slot e = absurd (cc e)
whole_back slots (suc k) slot e = get_back whole_slot slots k slot e

pub maps_back : (slots : List whole.Slot) (n : ℕ) (slot : maps.Slot) → maps.slot_at (map whole.maps_slot slots) n ≡ Some slot → (one : whole.Slot) × (whole.slot_at slots n ≡ Some one) × (whole.maps_slot one ≡ slot)
maps_back slots zero slot e = absurd (cc e)
maps_back slots (suc k) slot e = get_back whole.maps_slot slots k slot e

-- sets of nodes
bound : (n : ℕ) → n ≢ 0 → n ≤ 64 → has (one_node n) n ≡ true
bound zero some le = absurd (some refl)
bound (suc k) some le = one_has k (omega (arith, le))

pub set_has : (xs : List ℕ) (m : ℕ) → has (nodes_as_set xs) m ≡ true → Among m xs
set_has [] m h = absurd (true≢false (sym h ∙ has_none m))
set_has (x ∷ xs) m h = ⊎_elim (λ old. inr (set_has xs m old)) (λ is. inl (sym is)) (has_with (nodes_as_set xs) x m h)

pub has_set : (xs : List ℕ) (m : ℕ) → m ≢ 0 → m ≤ 64 → Among m xs → has (nodes_as_set xs) m ≡ true
has_set [] m some le h = absurd h
has_set (x ∷ xs) m some le h = ⊎_elim
    (λ is. subst (λ k. has (with_node (nodes_as_set xs) k) m ≡ true) (sym is) (has_right (nodes_as_set xs) (one_node m) m (bound m some le)))
    (λ more. has_left (nodes_as_set xs) (one_node x) m (has_set xs m some le more))
    h

pub members_have : (members : List Member) (m : ℕ) → has (set_of_members members) m ≡ true → (member : Member) × Among member members × (member.node ≡ m)
members_have [] m h = absurd (true≢false (sym h ∙ has_none m))
members_have (x ∷ xs) m h = ⊎_elim
    (λ old. let r = members_have xs m old in (r.0, inr r.1, r.2))
    (λ is. (x, inl refl, sym is))
    (has_with (set_of_members xs) x.node m h)

pub have_members : (members : List Member) (member : Member) → member.node ≢ 0 → member.node ≤ 64 → Among member members → has (set_of_members members) member.node ≡ true
have_members [] member some le h = absurd h
have_members (x ∷ xs) member some le h = ⊎_elim
    (λ is. subst (λ (k : Member). has (with_node (set_of_members xs) k.node) member.node ≡ true) (sym is) (has_right (set_of_members xs) (one_node member.node) member.node (bound member.node some le)))
    (λ more. has_left (set_of_members xs) (one_node x.node) member.node (have_members xs member some le more))
    h

-- who is among the fragments is a member that holds a copy, and the other way round
pub fragment_is : (slots : List maps.Slot) (user : List ℕ) (members : List Member) (m : ℕ) → Among m (fragments slots user members)
    → (member : Member) × Among member members × (member.node ≡ m) × (holds_at (maps.slot_at slots m) user ≡ true)
fragment_is slots user [] m h = absurd h
fragment_is slots user (x ∷ xs) m h = by (fragment_is slots user xs m) (holds_at (maps.slot_at slots x.node) user) refl h
  where
    by : (Among m (fragments slots user xs) → (member : Member) × Among member xs × (member.node ≡ m) × (holds_at (maps.slot_at slots m) user ≡ true)) → (b : Bool) → holds_at (maps.slot_at slots x.node) user ≡ b
        → Among m (if b then x.node ∷ fragments slots user xs else fragments slots user xs) → (member : Member) × Among member (x ∷ xs) × (member.node ≡ m) × (holds_at (maps.slot_at slots m) user ≡ true)
    by rest true e k = ⊎_elim (λ is. (x, inl refl, is, subst (λ n. holds_at (maps.slot_at slots n) user ≡ true) is e)) (λ more. let r = rest more in (r.0, inr r.1, r.2, r.3)) k
    by rest false e k = let r = rest k in (r.0, inr r.1, r.2, r.3)

-- a disk that holds a copy of the user says so of some id
pub held_back : (user : List ℕ) (all records : List Record) → whole.some_here user all records ≡ true → (id : Id) × (is_here_held (said (Message user id) all) ≡ true)
held_back user all [] e = absurd (cc e)
held_back user all (Boot boot ∷ records) e = held_back user all records e
held_back user all (Promise epoch ∷ records) e = held_back user all records e
held_back user all (Octets id octets ∷ records) e = held_back user all records e
held_back user all (Retired key state ∷ records) e = held_back user all records e
held_back user all (Stated key state ∷ records) e = ⊎_elim (λ here. shown key here) (λ more. held_back user all records more) (or_cases (whole.shows_here user all key) (whole.some_here user all records) e)
  where
    same_held : (o : Option State) → whole.is_held_here o ≡ is_here_held o
    same_held None = refl
    same_held (Some s) = refl

    shown : (k : Key) → whole.shows_here user all k ≡ true → (id : Id) × (is_here_held (said (Message user id) all) ≡ true)
    shown (Profile name) h = absurd (cc h)
    shown (Message name id) h =
        let parts = and_parts (pointwise nat_eq name user) (whole.is_held_here (said (Message name id) all)) h in
        (id, subst (λ n. is_here_held (said (Message n id) all) ≡ true) ((bytes_decides name user).0 parts.0) (sym (same_held (said (Message name id) all)) ∙ parts.1))

pub is_fragment : (slots : List maps.Slot) (user : List ℕ) (members : List Member) (member : Member) → Among member members → holds_at (maps.slot_at slots member.node) user ≡ true
    → Among member.node (fragments slots user members)
is_fragment slots user [] member inside h = absurd inside
is_fragment slots user (x ∷ xs) member inside h = ⊎_elim
    (λ is. subst (λ (k : Member). Among member.node (if holds_at (maps.slot_at slots k.node) user then k.node ∷ fragments slots user xs else fragments slots user xs)) (sym is)
    (subst (λ b. Among member.node (if b then member.node ∷ fragments slots user xs else fragments slots user xs)) (sym h) (inl refl)))
    (λ more. by (holds_at (maps.slot_at slots x.node) user) (is_fragment slots user xs member more h))
    inside
  where
    by : (b : Bool) → Among member.node (fragments slots user xs) → Among member.node (if b then x.node ∷ fragments slots user xs else fragments slots user xs)
    by true k = inr k
    by false k = k

-- a copy that is said to be here is one of a record, so its user is one of those of whom the disk holds a copy
here_held : (user : List ℕ) (id : Id) (all records : List Record) (top : State) → is_here_held (said (Message user id) all) ≡ true → Among (Stated (Message user id) top) records → whole.some_here user all records ≡ true
here_held user id all [] top here m = absurd m
here_held user id all (Stated key state ∷ records) top here m = ⊎_elim
    (λ is. subst (λ k. (whole.shows_here user all k || whole.some_here user all records) ≡ true) (sym (key_of key state is)) (front (whole.some_here user all records)))
    (λ more. behind (whole.shows_here user all key) (here_held user id all records top here more))
    m
  where
    key_of : (k : Key) (s : State) → Stated k s ≡ Stated (Message user id) top → k ≡ Message user id
    key_of k s e = cc

    same_held : (o : Option State) → is_here_held o ≡ whole.is_held_here o
    same_held None = refl
    same_held (Some s) = refl

    front : (b : Bool) → (whole.shows_here user all (Message user id) || b) ≡ true
    front b = ap (λ x. x || b) (and_from (pointwise nat_eq user user) (whole.is_held_here (said (Message user id) all)) ((bytes_decides user user).1 refl) (sym (same_held (said (Message user id) all)) ∙ here))

    behind : (b : Bool) {c : Bool} → c ≡ true → (b || c) ≡ true
    behind true e = refl
    behind false e = e
here_held user id all (Boot boot ∷ records) top here m = here_held user id all records top here (⊎_elim (λ is. absurd (cc is)) (λ b. b) m)
here_held user id all (Promise epoch ∷ records) top here m = here_held user id all records top here (⊎_elim (λ is. absurd (cc is)) (λ b. b) m)
here_held user id all (Octets other octets ∷ records) top here m = here_held user id all records top here (⊎_elim (λ is. absurd (cc is)) (λ b. b) m)
here_held user id all (Retired key state ∷ records) top here m = here_held user id all records top here (⊎_elim (λ is. absurd (cc is)) (λ b. b) m)

pub holds_it : (user : List ℕ) (id : Id) (disk : List Record) → is_here_held (said (Message user id) disk) ≡ true → whole.holds_of disk user ≡ true
holds_it user id disk here = by (said (Message user id) disk) refl
  where
    by : (o : Option State) → said (Message user id) disk ≡ o → whole.holds_of disk user ≡ true
    by None e = absurd (true≢false (sym here ∙ ap is_here_held e))
    by (Some state) e =
        let b = said_backed (Message user id) disk state e in here_held user id disk disk b.top here b.inside

-- Records of which one says that a copy is gone say so together.
abbrev pub AreOfKind : List Record → Type 0
AreOfKind records = (key : Key) (state : State) → Among (Stated key state) records → IsOfKind key state.value

module _ (user : List ℕ) (id : Id) where
  gone_on : (held : State) (records : List Record) → AreOfKind records → IsOfKind (Message user id) held.value → held.value ≡ Gone → is_gone_held (held_after (Message user id) (Some held) records) ≡ true
  gone_on held [] kinds kind gone = ap is_gone gone
  gone_on held (Boot boot ∷ records) kinds kind gone = gone_on held records (λ k s m. kinds k s (inr m)) kind gone
  gone_on held (Promise epoch ∷ records) kinds kind gone = gone_on held records (λ k s m. kinds k s (inr m)) kind gone
  gone_on held (Octets other octets ∷ records) kinds kind gone = gone_on held records (λ k s m. kinds k s (inr m)) kind gone
  gone_on held (Retired key state ∷ records) kinds kind gone = gone_on held records (λ k s m. kinds k s (inr m)) kind gone
  gone_on held (Stated other state ∷ records) kinds kind gone = by (λ h. gone_on h records (λ k s m. kinds k s (inr m))) (is_same_key other (Message user id)) refl
    where
      by : ((h : State) → IsOfKind (Message user id) h.value → h.value ≡ Gone → is_gone_held (held_after (Message user id) (Some h) records) ≡ true) → (b : Bool) → is_same_key other (Message user id) ≡ b → is_gone_held (held_after (Message user id) (if b then Some (join_with (Some held) state) else Some held) records) ≡ true
      by rest true e =
          let key : other ≡ Message user id = key_is other (Message user id) e in
          let of : IsOfKind (Message user id) state.value = subst (λ k. IsOfKind k state.value) key (kinds other state (inl refl)) in
          let stays : (joined held state).value ≡ Gone = gone_stays user id held state kind of gone in
          rest (joined held state) (subst (IsOfKind (Message user id)) (sym stays) tt) stays
      by rest false e = rest held kind gone

  gone_joins : (held : Option State) (state : State) → ((h : State) → held ≡ Some h → IsOfKind (Message user id) h.value) → IsOfKind (Message user id) state.value → state.value ≡ Gone → (join_with held state).value ≡ Gone
  gone_joins None state of kind gone = gone
  gone_joins (Some h) state of kind gone = by h.value refl (of h refl)
    where
      by : (v : Value) → h.value ≡ v → IsOfKind (Message user id) v → (joined h state).value ≡ Gone
      by Gone e k = gone_stays user id h state (subst (IsOfKind (Message user id)) (sym e) k) kind e
      by Here e k = rw (e, gone) refl
      by (Secret octets) e k = absurd k

  kind_joins : (held : Option State) (state : State) → ((h : State) → held ≡ Some h → IsOfKind (Message user id) h.value) → IsOfKind (Message user id) state.value → IsOfKind (Message user id) (join_with held state).value
  kind_joins None state of kind = kind
  kind_joins (Some h) state of kind = by (is_below h state)
    where
      by : (b : Bool) → IsOfKind (Message user id) (if b then state else h).value
      by true = kind
      by false = of h refl

  gone_said_from : (held : Option State) (records : List Record) → AreOfKind records → ((h : State) → held ≡ Some h → IsOfKind (Message user id) h.value) → (one : State) → Among (Stated (Message user id) one) records
      → one.value ≡ Gone → is_gone_held (held_after (Message user id) held records) ≡ true
  gone_said_from held [] kinds of one m gone = absurd m
  gone_said_from held (Boot boot ∷ records) kinds of one m gone = gone_said_from held records (λ k s h. kinds k s (inr h)) of one (⊎_elim (λ is. absurd (cc is)) (λ b. b) m) gone
  gone_said_from held (Promise epoch ∷ records) kinds of one m gone = gone_said_from held records (λ k s h. kinds k s (inr h)) of one (⊎_elim (λ is. absurd (cc is)) (λ b. b) m) gone
  gone_said_from held (Octets other octets ∷ records) kinds of one m gone = gone_said_from held records (λ k s h. kinds k s (inr h)) of one (⊎_elim (λ is. absurd (cc is)) (λ b. b) m) gone
  gone_said_from held (Retired key state ∷ records) kinds of one m gone = gone_said_from held records (λ k s h. kinds k s (inr h)) of one (⊎_elim (λ is. absurd (cc is)) (λ b. b) m) gone
  gone_said_from held (Stated other state ∷ records) kinds of one m gone = ⊎_elim
      (λ is. first (parts other state is).0 (parts other state is).1)
      (λ more. by (λ h of_h. gone_said_from h records (λ k s x. kinds k s (inr x)) of_h one more gone) (is_same_key other (Message user id)) refl)
      m
    where
      parts : (k : Key) (s : State) → Stated k s ≡ Stated (Message user id) one → (k ≡ Message user id) × (s ≡ one)
      parts k s e = (cc, cc)

      first : other ≡ Message user id → state ≡ one → is_gone_held (held_after (Message user id) (if is_same_key other (Message user id) then Some (join_with held state) else held) records) ≡ true
      first key same =
          let kind : IsOfKind (Message user id) state.value = subst (λ k. IsOfKind k state.value) key (kinds other state (inl refl)) in
          let g : (join_with held state).value ≡ Gone = gone_joins held state of kind (ap (λ (x : State). x.value) same ∙ gone) in
          subst (λ b. is_gone_held (held_after (Message user id) (if b then Some (join_with held state) else held) records) ≡ true) (sym (subst (λ k. is_same_key k (Message user id) ≡ true) (sym key) (key_self (Message user id))))
          (gone_on (join_with held state) records (λ k s h. kinds k s (inr h)) (kind_joins held state of kind) g)

      by : ((h : Option State) → ((x : State) → h ≡ Some x → IsOfKind (Message user id) x.value) → is_gone_held (held_after (Message user id) h records) ≡ true) → (b : Bool) → is_same_key other (Message user id) ≡ b
          → is_gone_held (held_after (Message user id) (if b then Some (join_with held state) else held) records) ≡ true
      by rest true e =
          let key : other ≡ Message user id = key_is other (Message user id) e in
          let kind : IsOfKind (Message user id) state.value = subst (λ k. IsOfKind k state.value) key (kinds other state (inl refl)) in
          rest (Some (join_with held state)) (λ x is. subst (λ (y : State). IsOfKind (Message user id) y.value) (some_is (join_with held state) x is) (kind_joins held state of kind))
      by rest false e = rest held of

  pub gone_said : (records : List Record) → AreOfKind records → (one : State) → Among (Stated (Message user id) one) records → one.value ≡ Gone → is_gone_held (said (Message user id) records) ≡ true
  gone_said records kinds one m gone = gone_said_from None records kinds (λ h e. absurd (cc e)) one m gone

  -- whoever says at least that it is gone says that it is gone
  pub gone_covers : (records : List Record) → AreOfKind records → (state : State) → state.value ≡ Gone → CoversAtLeast (Message user id) state records → is_gone_held (said (Message user id) records) ≡ true
  gone_covers records kinds state gone c = by c.top.value refl (kinds (Message user id) c.top c.inside)
    where
      by : (v : Value) → c.top.value ≡ v → IsOfKind (Message user id) v → is_gone_held (said (Message user id) records) ≡ true
      by Gone e k = gone_said records kinds c.top c.inside e
      by Here e k = absurd (true≢false (sym (above e) ∙ c.not_below))
        where
          above : c.top.value ≡ Here → is_below c.top state ≡ true
          above h = rw (h, gone) refl
      by (Secret octets) e k = absurd k
