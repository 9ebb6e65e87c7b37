-- What a step sends: where it sends nothing, all is as it was, and nothing was due.
use Rattle.std.proofs.Common.{◌≡◌, ◌⊎◌, inl, inr, ⊎_elim, ℕ, zero, suc, ◌+◌, ◌≤◌, ◌<◌, Bool, true, false, cond, List, [], ◌∷◌, ◌++◌, map, length, drop, Some, None, refl, sym, ap, ◌∙◌, subst, nat_eq, true≢false, if◌then◌else◌}
use Rattle.std.specs.Prelude.{slice_get}
use Rattle.mail_model.specs.Plan.{Plan}
use Rattle.mail_model.specs.Record.{Record}
use Rattle.object_model.specs.Lists.{Among}
use Rattle.object_model.specs.Letters.{Body, Letter}
use Rattle.object_model.specs.Letters.Body.{Report}
use Rattle.cluster_model.specs.Cluster as mail_cluster
use Rattle.cluster_model.specs.Room.{Flight}
use Rattle.cluster_model.specs.World as mail
use Rattle.cluster_model.specs.Steps as mail_steps
use Rattle.cluster_model.specs.Steps.Step.{Start, Post}
use Rattle.maps_model.specs.Rules as maps_rules
use Rattle.whole_model.specs.Whole.{Node, Slot, slot_at, with_slot, mail_slot, maps_disk_of}
use Rattle.whole_model.specs.Whole.Life.{Up}
use Rattle.whole_model.specs.Rules.{follows}
use Rattle.whole_world.specs.World.{World, mail_world_of, slot_up, IsUp, FollowsAlong, Reaction, put}
use Rattle.whole_world.specs.Steps.{Said, HasNoneDue, step_fault}
use Rattle.whole_world.specs.Steps.StepOutcome.{Says}
use Rattle.whole_world.specs.Makes.{done_for_maps, Reports, MakesStep}
use Rattle.whole_world.specs.Makes.Reports.{Sends, HasNone}
use Rattle.whole_world.specs.Makes.HearsMaps.{Hears, FailsHearing}
use Rattle.whole_world.specs.Makes.DoesStep.{ForMessages, PostsMaps, Starts, OpensGroup, ConcludesGroup, SendsReports}
use Rattle.whole_world.specs.Laws.{Stands}
use Rattle.whole_world.proofs.Along.{mail_here}
use Rattle.object_model.specs.Mishaps.MishapKind.{Crowded}
use Rattle.cluster_model.specs.Deeds as mail_deeds
use Rattle.cluster_model.specs.Rules as mail_rules
use Rattle.cluster_model.specs.Room.{has_room}
use Rattle.cluster_model.specs.Makes as mail_makes
use Rattle.cluster_model.specs.Makes.Posts.{NobodyUp, OfOtherEpoch, TooLate, IsHeard, FailsHearing as MailFails, IsForMaps, FailsForMaps}
use Rattle.cluster_model.specs.Makes.Pushes.{Sends as MailSends, FailsPushing}
use Rattle.cluster_model.specs.Steps.Step.{PushTo}
use Rattle.whole_world.specs.Steps.Step.{OfMessages, ReportTo}
use Rattle.whole_world.specs.Steps.StepFault.{Fault}
use Rattle.std.specs.Option.{option_map}
use Rattle.whole_world.specs.Steps.Said.{Told}
use Rattle.whole_world.specs.Sweeps.{IsFine}
use Rattle.whole_world.proofs.Along.{up_slot}
use Rattle.cluster_model.proofs.Reading.{SeesOne, posts_seen}
use Rattle.cluster_model.proofs.Reading.SeesOne.{Turns as SeesTurn, Refuses, Sends as SendsOne, Takes as TakesOut}
use Rattle.std.proofs.Common.{arith, le_refl, le_trans, ◌&&◌, nat_lt, take, flat_map, T, Option}
use Rattle.std.proofs.lemmas.Bool.{and_parts, lt-ltb}
use Rattle.std.specs.Cmp.{tied_itself, Equal-is}
use Rattle.std.specs.FinMap as fin
use Rattle.std.specs.FinMap.Entries.{find, is_sorted, below_all}
use Rattle.std.specs.List.{filter}
use Rattle.std.specs.Ordering.{eq_by_cmp, ordering_reverse, is_lt}
use Rattle.std.specs.declared.cmp.Ordering.{Ordering}
use Rattle.std.specs.declared.cmp.Ordering.TheVariants.{Less, Equal, Greater}
use Rattle.mail_model.specs.Identity.{Key}
use Rattle.object_model.specs.Keys.{key_cmp}
use Rattle.object_model.specs.Sets.{has}
use Rattle.object_model.specs.UpdateLog.{Logged, due, all_due}
use Rattle.object_model.proofs.MapLaws.{key_total}
use Rattle.cluster_model.specs.Room.{octets_of, octets_of_all, fits, fitting, due_to, keys_pushed, most_pushes}

-- numbers of letters only rise
pub mail_sent : (letters : List Letter) (w : mail.World) → w.sent ≤ (mail.put has_room letters w).sent
mail_sent [] w = le_itself w.sent
  where
    le_itself : (a : ℕ) → a ≤ a
    le_itself a = omega arith
mail_sent (letter ∷ letters) w = by (λ v. mail_sent letters v) (has_room w.flying letter)
  where
    flown : mail.World
    flown = record w { flying = w.flying ++ record { number = w.sent + 1; letter = letter } ∷ []; sent = w.sent + 1 }

    by : ((v : mail.World) → v.sent ≤ (mail.put has_room letters v).sent) → (b : Bool)
        → w.sent ≤ ((λ (v : mail.World). v.sent) (if b then mail.put has_room letters flown else mail.put has_room letters (record w { slots = mail.missed Crowded w.slots letter })))
    by rest true = omega (arith, rest flown)
    by rest false = rest (record w { slots = mail.missed Crowded w.slots letter })

pub mail_sends : (letter : Letter) (letters : List Letter) (w : mail.World) → has_room w.flying letter ≡ true → w.sent < (mail.put has_room (letter ∷ letters) w).sent
mail_sends letter letters w room = by (has_room w.flying letter) room
  where
    flown : mail.World
    flown = record w { flying = w.flying ++ record { number = w.sent + 1; letter = letter } ∷ []; sent = w.sent + 1 }

    by : (b : Bool) → b ≡ true → w.sent < ((λ (v : mail.World). v.sent) (if b then mail.put has_room letters flown else mail.put has_room letters (record w { slots = mail.missed Crowded w.slots letter })))
    by true e = omega (arith, mail_sent letters flown)
    by false e = absurd (true≢false (sym e))

pub whole_sent : (letters : List Letter) (w : World) → w.sent ≤ (put letters w).sent
whole_sent [] w = le_itself w.sent
  where
    le_itself : (a : ℕ) → a ≤ a
    le_itself a = omega arith
whole_sent (letter ∷ letters) w = by (λ v. whole_sent letters v) (has_room w.flying letter)
  where
    flown : World
    flown = record w { flying = w.flying ++ record { number = w.sent + 1; letter = letter } ∷ []; sent = w.sent + 1 }

    by : ((v : World) → v.sent ≤ (put letters v).sent) → (b : Bool) → w.sent ≤ ((λ (v : World). v.sent) (if b then put letters flown else put letters w))
    by rest true = omega (arith, rest flown)
    by rest false = rest w

pub whole_sends : (letter : Letter) (letters : List Letter) (w : World) → has_room w.flying letter ≡ true → w.sent < (put (letter ∷ letters) w).sent
whole_sends letter letters w room = by (has_room w.flying letter) room
  where
    flown : World
    flown = record w { flying = w.flying ++ record { number = w.sent + 1; letter = letter } ∷ []; sent = w.sent + 1 }

    by : (b : Bool) → b ≡ true → w.sent < ((λ (v : World). v.sent) (if b then put letters flown else put letters w))
    by true e = omega (arith, whole_sent letters flown)
    by false e = absurd (true≢false (sym e))

-- an entry of a log is found under its key
pub is_less : (o : Ordering) → is_lt o ≡ true → o ≡ Less
is_less Less e = refl
is_less Equal e = absurd (true≢false (sym e))
is_less Greater e = absurd (true≢false (sym e))

pub less_than : (key : Key) (entries : List (Key × Logged)) (one : Key × Logged) → below_all key_cmp key entries ≡ true → Among one entries → key_cmp key one.0 ≡ Less
less_than key [] one b m = absurd m
less_than key (first ∷ entries) one b m =
    let parts = and_parts (is_lt (key_cmp key first.0)) (below_all key_cmp key entries) b in
    ⊎_elim (λ is. subst (λ (x : Key × Logged). key_cmp key x.0 ≡ Less) is (is_less (key_cmp key first.0) parts.0)) (λ later. less_than key entries one parts.1 later) m

pub entry_found : (entries : List (Key × Logged)) (one : Key × Logged) → is_sorted key_cmp entries ≡ true → Among one entries → find key_cmp one.0 entries ≡ Some one.1
entry_found [] one s m = absurd m
entry_found (first ∷ entries) one s m =
    let parts = and_parts (below_all key_cmp first.0 entries) (is_sorted key_cmp entries) s in
    ⊎_elim
    (λ is. subst (λ (x : Key × Logged). find key_cmp x.0 (first ∷ entries) ≡ Some x.1) is (ap (λ b. cond b (Some first.1) (find key_cmp first.0 entries)) ((Equal-is (key_cmp first.0 first.0)).1 (tied_itself key_total first.0))))
    (λ later. by (entry_found entries one parts.1 later) (less_than first.0 entries one parts.0 later) (eq_by_cmp key_cmp one.0 first.0) refl)
    m
  where
    clash : Greater ≡ Equal → ⊥
    clash e = cc

    by : find key_cmp one.0 entries ≡ Some one.1 → key_cmp first.0 one.0 ≡ Less → (b : Bool) → eq_by_cmp key_cmp one.0 first.0 ≡ b → cond b (Some first.1) (find key_cmp one.0 entries) ≡ Some one.1
    by rest less true e = absurd (clash (sym (key_total.antisymm one.0 first.0 ∙ ap ordering_reverse less) ∙ (Equal-is (key_cmp one.0 first.0)).0 e))
    by rest less false e = rest

pub t_true : (b : Bool) → T b → b ≡ true
t_true true t = refl
t_true false t = absurd t

-- the first key that is due is of an entry in which the node remains
pub take_first : {X : Type 0} (k : ℕ) (xs : List X) (x : X) (more : List X) → take k xs ≡ x ∷ more → (rest : List X) × (xs ≡ x ∷ rest)
take_first zero xs x more e = absurd (cc e)
take_first (suc k) [] x more e = absurd (cc e)
take_first (suc k) (y ∷ xs) x more e = (xs, ap (λ z. z ∷ xs) (head e))
  where
    head : y ∷ take k xs ≡ x ∷ more → y ≡ x
    head h = cc

pub map_first : (xs : List (Key × Logged)) (key : Key) (more : List Key) → map (λ one. one.0) xs ≡ key ∷ more → (one : Key × Logged) × (rest : List (Key × Logged)) × (xs ≡ one ∷ rest) × (one.0 ≡ key)
map_first [] key more e = absurd (cc e)
map_first (one ∷ xs) key more e = (one, xs, refl, head e)
  where
    head : one.0 ∷ map (λ (x : Key × Logged). x.0) xs ≡ key ∷ more → one.0 ≡ key
    head h = cc

pub filter_first : (to : ℕ) (xs : List (Key × Logged)) (one : Key × Logged) (rest : List (Key × Logged)) → filter (λ x. has x.1.remaining to) xs ≡ one ∷ rest → Among one xs × (has one.1.remaining to ≡ true)
filter_first to [] one rest e = absurd (cc e)
filter_first to (x ∷ xs) one rest e = by (λ a. filter_first to xs one rest a) (has x.1.remaining to) refl e
  where
    head : x ∷ filter (λ (y : Key × Logged). has y.1.remaining to) xs ≡ one ∷ rest → x ≡ one
    head h = cc

    by : (filter (λ (y : Key × Logged). has y.1.remaining to) xs ≡ one ∷ rest → Among one xs × (has one.1.remaining to ≡ true)) → (b : Bool) → has x.1.remaining to ≡ b
        → (if b then x ∷ filter (λ (y : Key × Logged). has y.1.remaining to) xs else filter (λ (y : Key × Logged). has y.1.remaining to) xs) ≡ one ∷ rest → Among one (x ∷ xs) × (has one.1.remaining to ≡ true)
    by more true h p = (inl (head p), subst (λ (y : Key × Logged). has y.1.remaining to ≡ true) (head p) h)
    by more false h p = let r = more p in (inr r.0, r.1)

pub first_due : (to : ℕ) (log : _) (key : Key) (keys : List Key) → due log to most_pushes ≡ key ∷ keys → (entry : Logged) × (fin.get log key ≡ Some entry) × (has entry.remaining to ≡ true)
first_due to log key keys e =
    let t = take_first most_pushes (all_due log to) key keys e in
    let m = map_first (filter (λ one. has one.1.remaining to) (fin.entries log)) key t.0 t.1 in
    let f = filter_first to (fin.entries log) m.0 m.1 m.2 in
    (m.0.1, fin.get-entries log key ∙ ap (λ k. find key_cmp k (fin.entries log)) (sym m.3) ∙ entry_found (fin.entries log) m.0 (t_true (is_sorted key_cmp (fin.entries log)) (fin.entries_sorted log)) f.0, f.1)

-- nothing is pushed, or a letter that finds room
module _ (own to : ℕ) (node : mail_cluster.Node) (disk : List Record) where
  abbrev pub pushes_of : Key → List Letter
  pushes_of key = mail_rules.push_of own to (mail_cluster.epoch_of node) disk key (fin.get node.log key)

  pub one_letter : (key : Key) (entry : Logged) → fin.get node.log key ≡ Some entry → has entry.remaining to ≡ true → (l : Letter) × (pushes_of key ≡ l ∷ [])
  one_letter key entry h r = (_, ap (mail_rules.push_of own to (mail_cluster.epoch_of node) disk key) h ∙ ap (λ b. if b then record { from = own; to = to; epoch = mail_cluster.epoch_of node; ticket = None; body = Rattle.object_model.specs.Letters.Body.Push key entry.state (mail_rules.pushed_octets key entry.state.value disk) } ∷ [] else []) r)

  abbrev pub Pushed : List Key → Type 0
  Pushed keys = (keys ≡ []) ⊎ ((l : Letter) × (more : List Letter) × ((mail_rules.push own to keys node disk).out ≡ l ∷ more) × (has_room [] l ≡ true))

  pub due_of : (key : Key) (keys : List Key) → due_to own to node ≡ key ∷ keys → due node.log to most_pushes ≡ key ∷ keys
  due_of key keys e = by (has (mail_cluster.members_of node) to && Rattle.std.specs.Prelude.not (nat_eq to own)) e
    where
      by : (b : Bool) → (if b then due node.log to most_pushes else []) ≡ key ∷ keys → due node.log to most_pushes ≡ key ∷ keys
      by true h = h
      by false h = absurd (cc h)

  pub pushed : Pushed (keys_pushed [] own to node disk)
  pushed = by (due_to own to node) refl
    where
      nothing : (l : Letter) → octets_of l + 0 ≡ octets_of l
      nothing l = plus (octets_of l)
        where
          plus : (a : ℕ) → a + 0 ≡ a
          plus a = omega arith

      by : (keys : List Key) → due_to own to node ≡ keys → Pushed (fitting pushes_of 0 0 keys)
      by [] e = inl refl
      by (key ∷ keys) e =
          let d = first_due to node.log key keys (due_of key keys e) in
          let l = one_letter key d.0 d.1 d.2 in
          pick l.0 l.1 (fits 0 0 (octets_of_all (pushes_of key))) refl
        where
          pick : (l : Letter) → pushes_of key ≡ l ∷ [] → (b : Bool) → fits 0 0 (octets_of_all (pushes_of key)) ≡ b → Pushed (if b then key ∷ fitting pushes_of (0 + 1) (0 + octets_of_all (pushes_of key)) keys else [])
          pick l is true h = inr (
            l,
            flat_map pushes_of (fitting pushes_of (0 + 1) (0 + octets_of_all (pushes_of key)) keys),
            ap (λ (x : List Letter). x ++ flat_map pushes_of (fitting pushes_of (0 + 1) (0 + octets_of_all (pushes_of key)) keys)) is,
            ap (fits 0 0) (sym (nothing l) ∙ ap octets_of_all (sym is)) ∙ h,
          )
          pick l is false h = inl refl

-- all is as it was
pub record IsSame (w new : World) : Type 0 where
  pub still : new.flying ≡ []
  pub ups : (n : ℕ) (x : Node) (d : List Record) → IsUp w n x d → IsUp new n x d

pub same_on : (a b c : World) → IsSame a b → IsSame b c → IsSame a c
same_on a b c p q = record { still = q.still; ups = λ n x d u. q.ups n x d (p.ups n x d u) }

pub not_below : (a b : ℕ) → a < b → b ≡ a → ⊥
not_below a b l e = omega (arith, l, e)

pub set_same_slot : (xs : List mail_cluster.Slot) (k : ℕ) (a : mail_cluster.Slot) → slice_get xs k ≡ Some a → Rattle.std.specs.Prelude.slice_set xs k a ≡ xs
set_same_slot [] k a e = refl
set_same_slot (x ∷ xs) zero a e = ap (λ (s : mail_cluster.Slot). s ∷ xs) (some a x e)
  where
    some : (p q : mail_cluster.Slot) → Some q ≡ Some p → p ≡ q
    some p q h = cc
set_same_slot (x ∷ xs) (suc k) a e = ap (λ (l : List mail_cluster.Slot). x ∷ l) (set_same_slot xs k a e)

pub mail_same : (slots : List mail_cluster.Slot) (n : ℕ) (a : mail_cluster.Slot) → mail_cluster.slot_at slots n ≡ Some a → mail_cluster.with_slot slots n a ≡ slots
mail_same slots zero a e = refl
mail_same slots (suc k) a e = set_same_slot slots k a e

-- where messages see the same slots, and maps follow, each node is as it was
pub ups_same : (w new : World) → map mail_slot new.slots ≡ map mail_slot w.slots → FollowsAlong w new → (n : ℕ) (x : Node) (d : List Record) → IsUp w n x d → IsUp new n x d
ups_same w new same follow n x d up =
    let u = up_slot new.slots n x.mail d (ap (λ (l : List mail_cluster.Slot). mail_cluster.slot_at l n) same ∙ mail_here w.slots n (slot_up x d) up) in
    let e = follow.each n (slot_up x d) (slot_up u.0 d) up u.1 x u.0 refl refl in
    let maps_are : u.0.maps ≡ x.maps = e ∙ ap (follows n x.maps d) (nothing_more d) in
    let node : u.0 ≡ x = (λ i. record { mail = u.2 i; maps = maps_are i }) in
    u.1 ∙ ap (λ (y : Node). Some (slot_up y d)) node
  where
    nothing_more : (xs : List Record) → drop (length xs) xs ≡ []
    nothing_more [] = refl
    nothing_more (y ∷ xs) = nothing_more xs

pub le_same : (a b : ℕ) → b ≡ a → a ≤ b
le_same a b e = omega (arith, e)

-- a push that is not refused, and sends nothing where none flies, finds nothing due
rest_none : (a : Option mail_steps.StepFault) (rest : List (Option mail_steps.StepFault)) → mail_steps.first_fault (a ∷ rest) ≡ None → mail_steps.first_fault rest ≡ None
rest_none None rest e = e
rest_none (Some f) rest e = absurd (cc e)

last_none : (a b c d e : Option mail_steps.StepFault) → mail_steps.first_fault (a ∷ b ∷ c ∷ d ∷ e ∷ []) ≡ None → e ≡ None
last_none a b c d e none = at e (rest_none d (e ∷ []) (rest_none c (d ∷ e ∷ []) (rest_none b (c ∷ d ∷ e ∷ []) (rest_none a (b ∷ c ∷ d ∷ e ∷ []) none))))
  where
    at : (f : Option mail_steps.StepFault) → mail_steps.first_fault (f ∷ []) ≡ None → f ≡ None
    at None e = refl
    at (Some f) e = absurd (cc e)

not_due : (plan : Plan) (w : World) (from to : ℕ) (node : mail_cluster.Node) (disk : List Record) → mail_cluster.slot_at (mail_world_of w).slots from ≡ Some (mail_deeds.slot_up node disk)
    → step_fault plan (OfMessages (PushTo from to)) w ≡ None → w.flying ≡ [] → keys_pushed [] from to node disk ≡ [] → due_to from to node ≡ []
not_due plan w from to node disk up goes still none = by (due_to from to node) (ap (λ (k : List Key). nat_lt 0 (length (due_to from to node)) && nat_eq (length k) 0) (sym none) ∙ uncrowded)
  where
    unfaulted : (o : Option mail_steps.StepFault) → option_map Fault o ≡ None → o ≡ None
    unfaulted None e = refl
    unfaulted (Some f) e = absurd (cc e)

    room : mail_steps.room_fault (PushTo from to) (mail_world_of w) ≡ None
    room = last_none (mail_steps.node_name_fault plan (PushTo from to)) (mail_steps.actor_fault (PushTo from to) (mail_world_of w).slots (Some from)) (mail_steps.letter_fault (PushTo from to) w.flying)
        (mail_steps.worn_fault plan (PushTo from to) (mail_world_of w)) (mail_steps.room_fault (PushTo from to) (mail_world_of w))
        (unfaulted (mail_steps.step_fault plan (PushTo from to) (mail_world_of w)) goes)

    if_none : (b : Bool) → (if b then Some mail_steps.StepFault.NoRoom else None) ≡ None → b ≡ false
    if_none true e = absurd (cc e)
    if_none false e = refl

    uncrowded : mail_steps.is_crowded_slot [] from to (mail_deeds.slot_up node disk) (mail_cluster.Life.Up node) ≡ false
    uncrowded = ap (λ (f : List Flight). mail_steps.is_crowded_slot f from to (mail_deeds.slot_up node disk) (mail_cluster.Life.Up node)) (sym still)
        ∙ ap (mail_steps.is_crowded_at w.flying from to) (sym up) ∙ if_none (mail_steps.is_crowded_at w.flying from to (mail_cluster.slot_at (mail_world_of w).slots from)) room

    by : (keys : List Key) → (nat_lt 0 (length keys) && nat_eq 0 0) ≡ false → keys ≡ []
    by [] e = refl
    by (key ∷ keys) e = absurd (true≢false (sym (ap (λ b. b && true) (lt-ltb 0 (suc (length keys)) (omega arith))) ∙ e))

module _ (plan : Plan) (tells : Bool) (w new : World) (stands : Stands plan w) where
  -- a push
  pub push_sent : (from to : ℕ) (said : Said) → MakesStep plan tells w (OfMessages (PushTo from to)) (Says said) new → IsFine said → w.flying ≡ []
      → (w.sent ≤ new.sent) × (new.sent ≡ w.sent → IsSame w new × ((node : Node) (disk : List Record) → IsUp w from node disk → due_to from to node.mail ≡ []))
  push_sent from to said (fits, ForMessages one step answer says for_mail does follow) fine still =
      by (subst (λ (k : mail_steps.Step). mail_makes.DoesStep plan tells (mail_world_of w) k answer (mail_world_of new)) (inside one step) does)
    where
      inside : (k : mail_steps.Step) → OfMessages (PushTo from to) ≡ OfMessages k → k ≡ PushTo from to
      inside k e = cc

      by : mail_makes.Pushes (mail_world_of w) from to answer (mail_world_of new)
          → (w.sent ≤ new.sent) × (new.sent ≡ w.sent → IsSame w new × ((node : Node) (disk : List Record) → IsUp w from node disk → due_to from to node.mail ≡ []))
      by (FailsPushing node disk up told is) = absurd (fine from (says ∙ ap Told told))
      by (MailSends node disk up told is) =
          let written : mail.World = record (mail_world_of w) { slots = mail_cluster.with_slot (mail_world_of w).slots from (mail_deeds.slot_up node disk) } in
          let out_is : (mail_rules.push from to (keys_pushed w.flying from to node disk) node disk).out ≡ (mail_rules.push from to (keys_pushed [] from to node disk) node disk).out =
          ap (λ (f : List Flight). (mail_rules.push from to (keys_pushed f from to node disk) node disk).out) still in
          let sent_is : new.sent ≡ (mail.put has_room (mail_rules.push from to (keys_pushed [] from to node disk) node disk).out written).sent = ap (λ (v : mail.World). v.sent) is ∙ ap (λ (l : List Letter). (mail.put has_room l written).sent) out_is in (
            subst (λ k. w.sent ≤ k) (sym sent_is) (mail_sent (mail_rules.push from to (keys_pushed [] from to node disk) node disk).out written),
            λ quiet. ⊎_elim
                (λ none.
                let nothing : (mail_rules.push from to (keys_pushed [] from to node disk) node disk).out ≡ [] = ap (λ (k : List Key). (mail_rules.push from to k node disk).out) none in
                let world_is : mail_world_of new ≡ written = is ∙ ap (λ (l : List Letter). mail.put has_room l written) (out_is ∙ nothing) in (
                  record {
                    still = ap (λ (v : mail.World). v.flying) world_is ∙ still;
                    ups = ups_same w new (ap (λ (v : mail.World). v.slots) world_is ∙ mail_same (mail_world_of w).slots from (mail_deeds.slot_up node disk) up) follow;
                  },
                  λ x d there. let same = slots_are (mail_slot (slot_up x d)) (mail_deeds.slot_up node disk) (mail_here w.slots from (slot_up x d) there) up in
                      let nodes : x.mail ≡ node = up_is x.mail node (ap (λ (s : mail_cluster.Slot). s.life) same) in
                      ap (due_to from to) nodes ∙ not_due plan w from to node disk up fits still none,
                ))
                (λ (l, more, e, room). absurd (not_below w.sent new.sent (subst (λ k. w.sent < k) (sym (sent_is ∙ ap (λ (x : List Letter). (mail.put has_room x written).sent) e)) (mail_sends l more written (ap (λ (f : List Flight). has_room f l) still ∙ room))) quiet))
                (pushed from to node disk),
          )
        where
          slots_are : (a b : mail_cluster.Slot) → mail_cluster.slot_at (mail_world_of w).slots from ≡ Some a → mail_cluster.slot_at (mail_world_of w).slots from ≡ Some b → a ≡ b
          slots_are a b p q = cc

          up_is : (a b : mail_cluster.Node) → mail_cluster.Life.Up a ≡ mail_cluster.Life.Up b → a ≡ b
          up_is a b e = cc
  push_sent from to said (fits, PostsMaps number keep step h) fine still = absurd (clash number keep step)
    where
      clash : (number : ℕ) (keep : Bool) → OfMessages (PushTo from to) ≡ OfMessages (Post number keep) → ⊥
      clash number keep e = cc
  push_sent from to said (fits, Starts n step h) fine still = absurd (clash n step)
    where
      clash : (n : ℕ) → OfMessages (PushTo from to) ≡ OfMessages (Start n) → ⊥
      clash n e = cc
  push_sent from to said (fits, OpensGroup n step h) fine still = absurd (cc step)
  push_sent from to said (fits, ConcludesGroup n step h) fine still = absurd (cc step)
  push_sent from to said (fits, SendsReports a b step h) fine still = absurd (cc step)

  -- a report
  pub report_sent : (from to : ℕ) (said : Said) → MakesStep plan tells w (ReportTo from to) (Says said) new → IsFine said → w.flying ≡ []
      → (w.sent ≤ new.sent) × (new.sent ≡ w.sent → IsSame w new × ((node : Node) (disk : List Record) → IsUp w from node disk → HasNoneDue from to node.maps))
  report_sent from to said (fits, SendsReports a b step h) fine still = by (subst (λ k. Reports w k to said new) (inside a b step).0 (subst (λ k. Reports w a k said new) (inside a b step).1 h))
    where
      inside : (a b : ℕ) → ReportTo from to ≡ ReportTo a b → (a ≡ from) × (b ≡ to)
      inside a b e = (cc, cc)

      node_is : (x y : Node) (d e : List Record) → IsUp w from x d → IsUp w from y e → x ≡ y
      node_is x y d e p q = up_is x y (ap (λ (s : Slot). s.life) (slots_are (slot_up x d) (slot_up y e) p q))
        where
          slots_are : (a b : Slot) → slot_at w.slots from ≡ Some a → slot_at w.slots from ≡ Some b → a ≡ b
          slots_are a b p q = cc

          up_is : (a b : Node) → Up a ≡ Up b → a ≡ b
          up_is a b e = cc

      by : Reports w from to said new → (w.sent ≤ new.sent) × (new.sent ≡ w.sent → IsSame w new × ((node : Node) (disk : List Record) → IsUp w from node disk → HasNoneDue from to node.maps))
      by (HasNone node disk up none says is) = (
        le_same w.sent new.sent (ap (λ (v : World). v.sent) is),
        λ quiet. (
          record { still = ap (λ (v : World). v.flying) is ∙ still; ups = λ n x d u. subst (λ (v : World). IsUp v n x d) (sym is) u },
          λ x d there. subst (λ (k : Node). HasNoneDue from to k.maps) (sym (node_is x node d disk there up)) none,
        ),
      )
      by (Sends node disk up users first some did r says is) =
          let rises : w.sent < new.sent = sends users refl in (before w.sent new.sent rises, λ quiet. absurd (not_below w.sent new.sent rises quiet))
        where
          now : Reaction
          now = done_for_maps node disk did None did.out

          written_world : World
          written_world = record w { slots = with_slot w.slots from (slot_up now.node now.disk) }

          report_to : List ℕ → Letter
          report_to user = record { from = from; to = to; epoch = r.membership.epoch; ticket = None; body = Report (maps_rules.own_row from node.maps (maps_disk_of disk) user) }

          sent_is : new.sent ≡ (put (map report_to users) written_world).sent
          sent_is = ap (λ (v : World). v.sent) is ∙ ap (λ (d : maps_rules.Reaction). (put d.out written_world).sent) r.is

          before : (a b : ℕ) → a < b → a ≤ b
          before a b l = omega (arith, l)

          sends : (us : List (List ℕ)) → users ≡ us → w.sent < new.sent
          sends [] e = absurd (some e)
          sends (user ∷ us) e = subst (λ k. w.sent < k) (sym (sent_is ∙ ap (λ (l : List (List ℕ)). (put (map report_to l) written_world).sent) e))
              (whole_sends (report_to user) (map report_to us) written_world (ap (λ (f : List Flight). has_room f (report_to user)) still))
  report_sent from to said (fits, ForMessages one step answer says for_mail does follow) fine still = absurd (cc step)
  report_sent from to said (fits, PostsMaps number keep step h) fine still = absurd (cc step)
  report_sent from to said (fits, Starts n step h) fine still = absurd (cc step)
  report_sent from to said (fits, OpensGroup n step h) fine still = absurd (cc step)
  report_sent from to said (fits, ConcludesGroup n step h) fine still = absurd (cc step)

  -- a post
  pub post_sent : (number : ℕ) (said : Said) → MakesStep plan tells w (OfMessages (Post number false)) (Says said) new → IsFine said → w.sent ≤ new.sent
  post_sent number said (fits, ForMessages one step answer says for_mail does follow) fine =
      either (subst (λ (k : mail_steps.Step). mail_makes.DoesStep plan tells (mail_world_of w) k answer (mail_world_of new)) (inside one step) does)
    where
      inside : (k : mail_steps.Step) → OfMessages (Post number false) ≡ OfMessages k → k ≡ Post number false
      inside k e = cc

      by : mail_makes.Posts plan (mail_world_of w) number false answer (mail_world_of new) → w.sent ≤ new.sent
      by (NobodyUp f nobody told is) = le_same w.sent new.sent (ap (λ (v : mail.World). v.sent) is)
      by (OfOtherEpoch f node disk up thrown told is) = le_same w.sent new.sent (ap (λ (v : mail.World). v.sent) is)
      by (TooLate f node disk up thrown told is) = le_same w.sent new.sent (ap (λ (v : mail.World). v.sent) is)
      by (IsHeard f node disk up thrown told is) = subst (λ k. w.sent ≤ k) (sym (ap (λ (v : mail.World). v.sent) is)) (mail_sent (mail_deeds.hear f.letter.to plan.nodes node disk f.letter).out _)
      by (IsForMaps f node disk up of fresh told did forms is) = subst (λ k. w.sent ≤ k) (sym (ap (λ (v : mail.World). v.sent) is)) (mail_sent did.out _)
      by (FailsForMaps f node disk promise up of fresh told down g is) = absurd (fine f.letter.to (says ∙ ap Told told))
      by (MailFails f node disk up thrown told down g is) = absurd (fine f.letter.to (says ∙ ap Told told))

      -- of calls that read letters may be sent, and none is sent back
      rises : (a b : mail.World) → SeesOne a b → a.sent ≤ b.sent
      rises a b (SeesTurn own node disk calls count up e) = le_same a.sent b.sent (ap (λ (v : mail.World). v.sent) e)
      rises a b (Refuses own node disk kind mishaps up e) = le_same a.sent b.sent (ap (λ (v : mail.World). v.sent) e)
      rises a b (SendsOne letter l e) = more a.sent b.sent (ap (λ (v : mail.World). v.sent) e)
        where
          more : (x y : ℕ) → y ≡ x + 1 → x ≤ y
          more x y is = omega (arith, is)
      rises a b (TakesOut letter flies keep of e) = le_same a.sent b.sent (ap (λ (v : mail.World). v.sent) e)

      either : mail_makes.DoesStep plan tells (mail_world_of w) (Post number false) answer (mail_world_of new) → w.sent ≤ new.sent
      either (inl d) = by d.0
      either (inr d) = posts_seen (λ (a b : mail.World). a.sent ≤ b.sent) (λ v. le_refl v.sent) (λ a b c p q. le_trans p q) rises number false answer (mail_world_of w) (mail_world_of new) (λ n e a b f. absurd (fine n (says ∙ ap Told e))) d
  post_sent number said (fits, PostsMaps other keep step (Hears f node disk up of fresh did h says is)) fine = subst (λ k. w.sent ≤ k) (sym (ap (λ (v : World). v.sent) is)) (whole_sent did.out _)
  post_sent number said (fits, PostsMaps other keep step (FailsHearing f node disk up of fresh says down g is)) fine = absurd (fine f.letter.to says)
  post_sent number said (fits, Starts n step h) fine = absurd (clash n step)
    where
      clash : (n : ℕ) → OfMessages (Post number false) ≡ OfMessages (Start n) → ⊥
      clash n e = cc
  post_sent number said (fits, OpensGroup n step h) fine = absurd (cc step)
  post_sent number said (fits, ConcludesGroup n step h) fine = absurd (cc step)
  post_sent number said (fits, SendsReports a b step h) fine = absurd (cc step)
