-- A step for messages leads the maps along.
use Rattle.std.proofs.Common.{◌≡◌, ◌≢◌, ◌⊎◌, inl, inr, ⊎_elim, ℕ, zero, suc, ◌+◌, ◌≤◌, List, [], ◌∷◌, ◌++◌, map, length, drop, append-nil, Some, None, refl, sym, ap, ◌∙◌, subst, le_of_eq, arith}
use Rattle.std.specs.Prelude.{slice_get, slice_set}
use Rattle.mail_model.specs.Identity.{EpochId}
use Rattle.mail_model.specs.Record.{Record}
use Rattle.mail_model.specs.Record.Record.{Boot, Promise, Octets, Stated, Retired}
use Rattle.object_model.specs.Lists.{Among}
use Rattle.object_model.specs.Letters.{Letter}
use Rattle.object_model.proofs.Lists.{among_front, among_behind}
use Rattle.cluster_model.specs.Cluster as mail
use Rattle.cluster_model.specs.Claims.{boot_of, boot_after}
use Rattle.cluster_model.specs.Deeds as mail_deeds
use Rattle.cluster_model.proofs.StoreSteps.{boot_both}
use Rattle.maps_model.specs.Cluster as maps
use Rattle.maps_model.specs.Moves as maps_moves
use Rattle.maps_model.specs.Epochs.{IsAtMost}
use Rattle.maps_model.proofs.Lives.{gone}
use Rattle.whole_model.specs.Whole.{Node, Life, Slot, slot_at, mail_life, mail_slot, maps_slot, maps_disk_of, promise_after, promise_of}
use Rattle.whole_model.specs.Whole.Life.{Up, Down, Lost}
use Rattle.whole_model.specs.Moves.{LeadsMaps}
use Rattle.whole_model.specs.Rules.{follows, AreOfMessages, IsMail}
use Rattle.whole_model.proofs.Seen.{get_seen}
use Rattle.whole_model.proofs.Following.{promise_both}
use Rattle.whole_model.proofs.Leading.{stays_led, act_leads, messages_led, falls_led}
use Rattle.whole_world.specs.World.{World, mail_world_of, maps_world_of, slot_up, FollowsAlong}
use Rattle.cluster_model.specs.World.{letters_of}
use Rattle.whole_world.proofs.Plain.{Turns, IsMailOf, IsPlain}
use Rattle.whole_world.proofs.Plain.Turns.{Rests, Works, Falls, Stops, IsLost}

-- one cluster of maps comes from another by moves that may be made
pub record LeadsTo (a b : maps.Cluster) : Type 0 where
  pub moves : List maps_moves.Move
  pub may : maps_moves.MayMoves moves a
  pub is : maps_moves.after_moves moves a ≡ b

after_both : (first second : List maps_moves.Move) (c : maps.Cluster) → maps_moves.after_moves (first ++ second) c ≡ maps_moves.after_moves second (maps_moves.after_moves first c)
after_both [] second c = refl
after_both (move ∷ first) second c = after_both first second (maps_moves.after_move move c)

may_both : (first second : List maps_moves.Move) (c : maps.Cluster) → maps_moves.MayMoves first c → maps_moves.MayMoves second (maps_moves.after_moves first c) → maps_moves.MayMoves (first ++ second) c
may_both [] second c p q = q
may_both (move ∷ first) second c p q = (p.0, may_both first second (maps_moves.after_move move c) p.1 q)

pub to_itself : (a b : maps.Cluster) → a ≡ b → LeadsTo a b
to_itself a b e = record { moves = []; may = tt; is = e }

pub to_on : (a b c : maps.Cluster) → LeadsTo a b → LeadsTo b c → LeadsTo a c
to_on a b c p q = record {
  moves = p.moves ++ q.moves;
  may = may_both p.moves q.moves a p.may (subst (maps_moves.MayMoves q.moves) (sym p.is) q.may);
  is = after_both p.moves q.moves a ∙ ap (maps_moves.after_moves q.moves) p.is ∙ q.is;
}

-- letters may be taken out, and stand in another order
pub taken_to : (slots : List maps.Slot) (flying left : List Letter) → ((letter : Letter) → Among letter left → Among letter flying)
    → LeadsTo (record { slots = slots; flying = flying }) (record { slots = slots; flying = left })
taken_to slots flying left inside = record { moves = maps_moves.Move.Taken left ∷ []; may = (inside, tt); is = refl }

-- what messages see of a life
up_of : (life : Life) (a : mail.Node) → mail_life life ≡ mail.Life.Up a → (x : Node) × (life ≡ Up x)
up_of (Up x) a e = (x, refl)
up_of (Down p) a e = absurd (cc e)
up_of Lost a e = absurd (cc e)

down_of : (life : Life) (p : List Record) → mail_life life ≡ mail.Life.Down p → life ≡ Down p
down_of (Up x) p e = absurd (cc e)
down_of (Down q) p e = ap Down (same q p e)
  where
    same : (a b : List Record) → mail.Life.Down a ≡ mail.Life.Down b → a ≡ b
    same a b h = cc
down_of Lost p e = absurd (cc e)

lost_of : (life : Life) → mail_life life ≡ mail.Life.Lost → life ≡ Lost
lost_of (Up x) e = absurd (cc e)
lost_of (Down q) e = absurd (cc e)
lost_of Lost e = refl

-- records of messages leave boot and promise
boot_stays : (boot : ℕ) (records : List Record) → AreOfMessages records → boot_after boot records ≡ boot
boot_stays boot [] of = refl
boot_stays boot (Boot other ∷ records) of = absurd (of (Boot other) (inl refl))
boot_stays boot (Promise epoch ∷ records) of = absurd (of (Promise epoch) (inl refl))
boot_stays boot (Octets id octets ∷ records) of = boot_stays boot records (λ one m. of one (inr m))
boot_stays boot (Stated key state ∷ records) of = boot_stays boot records (λ one m. of one (inr m))
boot_stays boot (Retired key state ∷ records) of = boot_stays boot records (λ one m. of one (inr m))

promise_stays : (promise : EpochId) (records : List Record) → AreOfMessages records → promise_after promise records ≡ promise
promise_stays promise [] of = refl
promise_stays promise (Boot other ∷ records) of = absurd (of (Boot other) (inl refl))
promise_stays promise (Promise epoch ∷ records) of = absurd (of (Promise epoch) (inl refl))
promise_stays promise (Octets id octets ∷ records) of = promise_stays promise records (λ one m. of one (inr m))
promise_stays promise (Stated key state ∷ records) of = promise_stays promise records (λ one m. of one (inr m))
promise_stays promise (Retired key state ∷ records) of = promise_stays promise records (λ one m. of one (inr m))

boot_with : (disk more : List Record) → AreOfMessages more → boot_of (disk ++ more) ≡ boot_of disk
boot_with disk more of = boot_both 0 disk more ∙ boot_stays (boot_of disk) more of

promise_with : (disk more : List Record) → AreOfMessages more → promise_of (disk ++ more) ≡ promise_of disk
promise_with disk more of = promise_both _ disk more ∙ promise_stays (promise_of disk) more of

drop_front : (xs ys : List Record) → drop (length xs) (xs ++ ys) ≡ ys
drop_front [] ys = refl
drop_front (x ∷ xs) ys = drop_front xs ys

module _ (n : ℕ) (s t : Slot) where
  abbrev Led : Type 0
  Led = LeadsMaps n (maps_slot s) (maps_slot t) None []

  between : (u v : Slot) → s ≡ u → t ≡ v → LeadsMaps n (maps_slot u) (maps_slot v) None [] → Led
  between u v e f led = subst (λ (x : Slot). LeadsMaps n (maps_slot x) (maps_slot t) None []) (sym e) (subst (λ (x : Slot). LeadsMaps n (maps_slot u) (maps_slot x) None []) (sym f) led)

  slot_is : (x : Slot) (life : Life) (disk : List Record) → x.life ≡ life → x.disk ≡ disk → x ≡ record { life = life; disk = disk }
  slot_is x life disk e f = λ i. record { life = e i; disk = f i }

  worked : ((a b : Node) → s.life ≡ Up a → t.life ≡ Up b → b.maps ≡ follows n a.maps s.disk (drop (length s.disk) t.disk))
      → (a b : mail.Node) (disk added : List Record) → mail_slot s ≡ mail_deeds.slot_up a disk → mail_slot t ≡ mail_deeds.slot_up b (disk ++ added) → AreOfMessages added → Led
  worked follow a b disk added ea eb of =
      let from = up_of s.life a (ap (λ (x : mail.Slot). x.life) ea) in
      let to = up_of t.life b (ap (λ (x : mail.Slot). x.life) eb) in
      let before : s.disk ≡ disk = ap (λ (x : mail.Slot). x.disk) ea in
      let now : t.disk ≡ disk ++ added = ap (λ (x : mail.Slot). x.disk) eb in
      let same : follows n from.0.maps s.disk (drop (length s.disk) t.disk) ≡ follows n from.0.maps disk added =
      (λ i. follows n from.0.maps (before i) (drop (length (before i)) (now i))) ∙ ap (follows n from.0.maps disk) (drop_front disk added) in
      between (slot_up from.0 disk) (slot_up to.0 (disk ++ added)) (slot_is s (Up from.0) disk from.1 before) (slot_is t (Up to.0) (disk ++ added) to.1 now)
      (messages_led n from.0 to.0 disk added None [] of (λ letter m. absurd m) (follow from.0 to.0 from.1 to.1 ∙ same))

  goes_down : (life : Life) (kept : List Record) → s.life ≢ Lost → t ≡ record { life = life; disk = s.disk ++ kept } → ((x : Node) → life ≡ Up x → ⊥)
      → (maps_moves.IsInOrder n (maps_disk_of s.disk) (maps_slot s).life → (boot_of s.disk ≤ boot_of (s.disk ++ kept)) × IsAtMost (promise_of s.disk) (promise_of (s.disk ++ kept))
      × maps_moves.IsInOrder n (maps_disk_of (s.disk ++ kept)) (maps_slot (record { life = life; disk = s.disk ++ kept })).life)
      → Led
  goes_down life kept was is down grows = between s (record { life = life; disk = s.disk ++ kept }) refl is (act_leads n (maps_slot s) (maps_slot (record { life = life; disk = s.disk ++ kept })) None []
      (λ ready. let g = grows ready.order in gone n (maps_slot s) (maps_slot (record { life = life; disk = s.disk ++ kept })) None (not_lost s.life was) g.0 g.1 g.2 (λ new e. not_up life down new e)))
    where
      not_lost : (l : Life) → l ≢ Lost → ((maps_slot (record { life = l; disk = s.disk })).life ≡ maps.Life.Lost → ⊥)
      not_lost (Up x) w e = cc
      not_lost (Down p) w e = cc
      not_lost Lost w e = w refl

      not_up : (l : Life) → ((x : Node) → l ≡ Up x → ⊥) → (new : maps.Node) → (maps_slot (record { life = l; disk = s.disk ++ kept })).life ≡ maps.Life.Up new → ⊥
      not_up (Up x) d new e = d x refl
      not_up (Down p) d new e = cc
      not_up Lost d new e = cc

  -- what a node may find of what was pending, it may have for good
  module _ (disk pending : List Record) (down : s ≡ record { life = Down pending; disk = disk }) where
    order : maps_moves.IsInOrder n (maps_disk_of s.disk) (maps_slot s).life → (boot_of disk ≤ boot_of (disk ++ pending)) × IsAtMost (promise_of disk) (promise_of (disk ++ pending))
    order o = subst (λ (x : Slot). maps_moves.IsInOrder n (maps_disk_of x.disk) (maps_slot x).life) down o

    found : (kept : List Record) → (kept ≡ []) ⊎ (kept ≡ pending) → maps_moves.IsInOrder n (maps_disk_of s.disk) (maps_slot s).life
        → (boot_of s.disk ≤ boot_of (s.disk ++ kept)) × IsAtMost (promise_of s.disk) (promise_of (s.disk ++ kept))
    found kept (inl none) o =
        let same : s.disk ++ kept ≡ s.disk = ap (λ k. s.disk ++ k) none ∙ append-nil s.disk in
        (le_of_eq (sym (ap boot_of same)), inr (sym (ap promise_of same)))
    found kept (inr all) o = subst (λ (d : List Record). (boot_of d ≤ boot_of (d ++ kept)) × IsAtMost (promise_of d) (promise_of (d ++ kept))) (sym (ap (λ (x : Slot). x.disk) down))
        (subst (λ (k : List Record). (boot_of disk ≤ boot_of (disk ++ k)) × IsAtMost (promise_of disk) (promise_of (disk ++ k))) (sym all) (order o))

  pub turned_led : ((a b : Node) → s.life ≡ Up a → t.life ≡ Up b → b.maps ≡ follows n a.maps s.disk (drop (length s.disk) t.disk)) → Turns (mail_slot s) (mail_slot t) → Led
  turned_led follow (Works a b disk added ea eb of installed) = worked follow a b disk added ea eb of
  turned_led follow (Rests e) = by s.life refl
    where
      by : (life : Life) → s.life ≡ life → Led
      by (Up x) is = worked follow x.mail x.mail s.disk [] (ap (λ (l : Life). mail_slot (record { life = l; disk = s.disk })) is)
          (sym e ∙ ap (λ (l : Life). mail_slot (record { life = l; disk = s.disk })) is ∙ ap (mail_deeds.slot_up x.mail) (sym (append-nil s.disk))) (λ one m. absurd m)
      by (Down p) is = between s s refl (slot_is t (Down p) s.disk (down_of t.life p (ap (λ (x : mail.Slot). x.life) (sym e) ∙ ap mail_life is)) (ap (λ (x : mail.Slot). x.disk) (sym e)) ∙ sym (slot_is s (Down p) s.disk is refl)) (stays_led n (maps_slot s))
      by Lost is = between s s refl (slot_is t Lost s.disk (lost_of t.life (ap (λ (x : mail.Slot). x.life) (sym e) ∙ ap mail_life is)) (ap (λ (x : mail.Slot). x.disk) (sym e)) ∙ sym (slot_is s Lost s.disk is refl)) (stays_led n (maps_slot s))
  turned_led follow (Falls a disk front pending ea eb front_of pending_of) =
      let from = up_of s.life a (ap (λ (x : mail.Slot). x.life) ea) in
      between (slot_up from.0 disk) (record { life = Down pending; disk = disk ++ front }) (slot_is s (Up from.0) disk from.1 (ap (λ (x : mail.Slot). x.disk) ea))
      (slot_is t (Down pending) (disk ++ front) (down_of t.life pending (ap (λ (x : mail.Slot). x.life) eb)) (ap (λ (x : mail.Slot). x.disk) eb))
      (falls_led n from.0 disk front pending None (le_of_eq (sym (boot_with disk front front_of))) (le_of_eq (sym (boot_with (disk ++ front) pending pending_of)))
      (inr (sym (promise_with disk front front_of))) (inr (sym (promise_with (disk ++ front) pending pending_of))))
  turned_led follow (Stops disk pending next new ea stops eb) =
      let down : s ≡ record { life = Down pending; disk = disk } = slot_is s (Down pending) disk (down_of s.life pending (ap (λ (x : mail.Slot). x.life) ea)) (ap (λ (x : mail.Slot). x.disk) ea) in
      goes_down (Down next) stops.kept (λ e. down_lost pending (ap (λ (x : Slot). x.life) (sym down) ∙ e))
      (slot_is t (Down next) (s.disk ++ stops.kept) (down_of t.life next (ap (λ (x : mail.Slot). x.life) eb)) (ap (λ (x : mail.Slot). x.disk) eb ∙ stops.records ∙ ap (λ d. d ++ stops.kept) (sym (ap (λ (x : Slot). x.disk) down))))
      (λ x e. cc e)
      (λ o. let f = found disk pending down stops.kept stops.pending_is o in (f.0, f.1, later disk pending down stops.kept next stops.next_is o))
    where
      down_lost : (p : List Record) → Down p ≡ Lost → ⊥
      down_lost p e = cc

      later : (disk pending : List Record) (down : s ≡ record { life = Down pending; disk = disk }) (kept next : List Record)
          → (next ≡ []) ⊎ (next ≡ Boot (boot_of (disk ++ kept) + 1) ∷ []) ⊎ ((kept ≡ []) × (next ≡ pending)) → maps_moves.IsInOrder n (maps_disk_of s.disk) (maps_slot s).life
          → (boot_of (s.disk ++ kept) ≤ boot_of ((s.disk ++ kept) ++ next)) × IsAtMost (promise_of (s.disk ++ kept)) (promise_of ((s.disk ++ kept) ++ next))
      later disk pending down kept next (inl none) o =
          let same : (s.disk ++ kept) ++ next ≡ s.disk ++ kept = ap (λ k. (s.disk ++ kept) ++ k) none ∙ append-nil (s.disk ++ kept) in
          (le_of_eq (sym (ap boot_of same)), inr (sym (ap promise_of same)))
      later disk pending down kept next (inr (inl boot)) o = subst (λ (d : List Record). (boot_of (d ++ kept) ≤ boot_of ((d ++ kept) ++ next)) × IsAtMost (promise_of (d ++ kept)) (promise_of ((d ++ kept) ++ next)))
          (sym (ap (λ (x : Slot). x.disk) down))
          (subst (λ (k : List Record). (boot_of (disk ++ kept) ≤ boot_of ((disk ++ kept) ++ k)) × IsAtMost (promise_of (disk ++ kept)) (promise_of ((disk ++ kept) ++ k))) (sym boot) (
            subst (λ b. boot_of (disk ++ kept) ≤ b) (sym (boot_both 0 (disk ++ kept) (Boot (boot_of (disk ++ kept) + 1) ∷ []))) (omega arith),
            inr (sym (promise_both _ (disk ++ kept) (Boot (boot_of (disk ++ kept) + 1) ∷ []))),
          ))
      later disk pending down kept next (inr (inr (none, same))) o = subst (λ (d : List Record). (boot_of (d ++ kept) ≤ boot_of ((d ++ kept) ++ next)) × IsAtMost (promise_of (d ++ kept)) (promise_of ((d ++ kept) ++ next)))
          (sym (ap (λ (x : Slot). x.disk) down))
          (subst (λ (d : List Record). (boot_of d ≤ boot_of (d ++ next)) × IsAtMost (promise_of d) (promise_of (d ++ next))) (sym (ap (λ k. disk ++ k) none ∙ append-nil disk))
          (subst (λ (k : List Record). (boot_of disk ≤ boot_of (disk ++ k)) × IsAtMost (promise_of disk) (promise_of (disk ++ k))) (sym same) (order disk pending down o)))
  turned_led follow (IsLost was kept is eb) = goes_down Lost kept (λ e. was (ap mail_life e))
      (slot_is t Lost (s.disk ++ kept) (lost_of t.life (ap (λ (x : mail.Slot). x.life) eb)) (ap (λ (x : mail.Slot). x.disk) eb)) (λ x e. cc e)
      (λ o. let g = by s.life refl o in (g.0, g.1, tt))
    where
      by : (life : Life) → s.life ≡ life → maps_moves.IsInOrder n (maps_disk_of s.disk) (maps_slot s).life → (boot_of s.disk ≤ boot_of (s.disk ++ kept)) × IsAtMost (promise_of s.disk) (promise_of (s.disk ++ kept))
      by (Up x) e o =
          let none : kept ≡ [] = ⊎_elim (λ h. h) (λ h. h ∙ ap (λ (l : Life). mail.pending_of (mail_life l)) e) is in
          let same : s.disk ++ kept ≡ s.disk = ap (λ k. s.disk ++ k) none ∙ append-nil s.disk in
          (le_of_eq (sym (ap boot_of same)), inr (sym (ap promise_of same)))
      by (Down p) e o = found s.disk p (slot_is s (Down p) s.disk e refl) kept (⊎_elim (λ h. inl h) (λ h. inr (h ∙ ap (λ (l : Life). mail.pending_of (mail_life l)) e)) is) o
      by Lost e o = absurd (was (ap mail_life e))

-- slots, one after another
get_mid : (xs : List maps.Slot) (x : maps.Slot) (ys : List maps.Slot) → slice_get (xs ++ x ∷ ys) (length xs) ≡ Some x
get_mid [] x ys = refl
get_mid (z ∷ xs) x ys = get_mid xs x ys

set_mid : (xs : List maps.Slot) (x y : maps.Slot) (ys : List maps.Slot) → slice_set (xs ++ x ∷ ys) (length xs) y ≡ xs ++ y ∷ ys
set_mid [] x y ys = refl
set_mid (z ∷ xs) x y ys = ap (λ (l : List maps.Slot). z ∷ l) (set_mid xs x y ys)

last_front : (xs : List maps.Slot) (y : maps.Slot) (ys : List maps.Slot) → (xs ++ y ∷ []) ++ ys ≡ xs ++ y ∷ ys
last_front [] y ys = refl
last_front (z ∷ xs) y ys = ap (λ (l : List maps.Slot). z ∷ l) (last_front xs y ys)

length_last : (xs : List maps.Slot) (y : maps.Slot) → length (xs ++ y ∷ []) ≡ suc (length xs)
length_last [] y = refl
length_last (z ∷ xs) y = ap suc (length_last xs y)

all_slots : (flying : List Letter) (k : ℕ) (front : List maps.Slot) (olds news : List Slot) → length front ≡ k → length news ≡ length olds
    → ((i : ℕ) (t : Slot) → slice_get news i ≡ Some t → (s : Slot) × (slice_get olds i ≡ Some s) × LeadsMaps (suc (k + i)) (maps_slot s) (maps_slot t) None [])
    → LeadsTo (record { slots = front ++ map maps_slot olds; flying = flying }) (record { slots = front ++ map maps_slot news; flying = flying })
all_slots flying k front [] [] at size each = to_itself _ _ refl
all_slots flying k front [] (t ∷ news) at size each = absurd (cc size)
all_slots flying k front (s ∷ olds) [] at size each = absurd (cc size)
all_slots flying k front (s ∷ olds) (t ∷ news) at size each =
    to_on first middle last (led_one (each 0 t refl)) (subst (λ (x : List maps.Slot). LeadsTo middle (record { slots = x; flying = flying })) (last_front front (maps_slot t) (map maps_slot news))
    (subst (λ (x : List maps.Slot). LeadsTo (record { slots = x; flying = flying }) (record { slots = (front ++ maps_slot t ∷ []) ++ map maps_slot news; flying = flying })) (last_front front (maps_slot t) (map maps_slot olds))
    (all_slots flying (suc k) (front ++ maps_slot t ∷ []) olds news (length_last front (maps_slot t) ∙ ap suc at) (sizes size)
    (λ i u h. let e = each (suc i) u h in (e.0, e.1, subst (λ j. LeadsMaps (suc j) (maps_slot e.0) (maps_slot u) None []) (one_more k i) e.2)))))
  where
    first : maps.Cluster
    first = record { slots = front ++ maps_slot s ∷ map maps_slot olds; flying = flying }

    middle : maps.Cluster
    middle = record { slots = front ++ maps_slot t ∷ map maps_slot olds; flying = flying }

    last : maps.Cluster
    last = record { slots = front ++ maps_slot t ∷ map maps_slot news; flying = flying }

    sizes : suc (length news) ≡ suc (length olds) → length news ≡ length olds
    sizes e = cc

    one_more : (k i : ℕ) → k + suc i ≡ suc k + i
    one_more k i = omega arith

    led_one : (x : Slot) × (Some s ≡ Some x) × LeadsMaps (suc (k + 0)) (maps_slot x) (maps_slot t) None [] → LeadsTo first middle
    led_one (x, e, led) =
        let same : x ≡ s = some x s e in
        let here : LeadsMaps (suc (length front)) (maps_slot s) (maps_slot t) None [] =
        subst (λ (y : Slot). LeadsMaps (suc (length front)) (maps_slot y) (maps_slot t) None []) same (subst (λ j. LeadsMaps (suc j) (maps_slot x) (maps_slot t) None []) (zero_more k ∙ sym at) led) in
        let done = here first (get_mid front (maps_slot s) (map maps_slot olds)) (λ letter h. absurd (cc h)) in
        let slots : maps.with_slot first.slots (suc (length front)) (maps_slot t) ≡ middle.slots = set_mid front (maps_slot s) (maps_slot t) (map maps_slot olds) in
        record { moves = done.moves; may = done.may; is = done.is ∙ (λ i. record { slots = slots i; flying = append-nil flying i }) }
      where
        zero_more : (k : ℕ) → k + 0 ≡ k
        zero_more k = omega arith

        some : (a b : Slot) → Some b ≡ Some a → a ≡ b
        some a b h = cc

-- a slot that is written with what it was
set_same_slot : (xs : List maps.Slot) (k : ℕ) (a : maps.Slot) → slice_get xs k ≡ Some a → slice_set xs k a ≡ xs
set_same_slot [] k a e = refl
set_same_slot (x ∷ xs) zero a e = ap (λ (s : maps.Slot). s ∷ xs) (some a x e)
  where
    some : (p q : maps.Slot) → Some q ≡ Some p → p ≡ q
    some p q h = cc
set_same_slot (x ∷ xs) (suc k) a e = ap (λ (l : List maps.Slot). x ∷ l) (set_same_slot xs k a e)

pub slot_same : (slots : List maps.Slot) (n : ℕ) (a : maps.Slot) → maps.slot_at slots n ≡ Some a → maps.with_slot slots n a ≡ slots
slot_same slots zero a e = refl
slot_same slots (suc k) a e = set_same_slot slots k a e

pub maps_here : (slots : List Slot) (n : ℕ) (slot : Slot) → slot_at slots n ≡ Some slot → maps.slot_at (map maps_slot slots) n ≡ Some (maps_slot slot)
maps_here slots zero slot e = absurd (cc e)
maps_here slots (suc k) slot e = get_seen maps_slot slots k slot e

pub mail_here : (slots : List Slot) (n : ℕ) (slot : Slot) → slot_at slots n ≡ Some slot → mail.slot_at (map mail_slot slots) n ≡ Some (mail_slot slot)
mail_here slots zero slot e = absurd (cc e)
mail_here slots (suc k) slot e = get_seen mail_slot slots k slot e

-- what messages see at a place stands there
unseen : (slots : List Slot) (k : ℕ) (m : mail.Slot) → slice_get (map mail_slot slots) k ≡ Some m → (s : Slot) × (slice_get slots k ≡ Some s) × (mail_slot s ≡ m)
unseen [] k m e = absurd (cc e)
unseen (s ∷ slots) zero m e = (s, refl, some (mail_slot s) m e)
  where
    some : (a b : mail.Slot) → Some a ≡ Some b → a ≡ b
    some a b h = cc
unseen (s ∷ slots) (suc k) m e = unseen slots k m e

pub unseen_at : (slots : List Slot) (n : ℕ) (m : mail.Slot) → mail.slot_at (map mail_slot slots) n ≡ Some m → (s : Slot) × (slot_at slots n ≡ Some s) × (mail_slot s ≡ m)
unseen_at slots zero m e = absurd (cc e)
unseen_at slots (suc k) m e = unseen slots k m e

pub up_slot : (slots : List Slot) (n : ℕ) (a : mail.Node) (disk : List Record) → mail.slot_at (map mail_slot slots) n ≡ Some (mail_deeds.slot_up a disk)
    → (x : Node) × (slot_at slots n ≡ Some (slot_up x disk)) × (x.mail ≡ a)
up_slot slots n a disk e =
    let u = unseen_at slots n (mail_deeds.slot_up a disk) e in
    let from = up_of u.0.life a (ap (λ (x : mail.Slot). x.life) u.2) in
    let disks : u.0.disk ≡ disk = ap (λ (x : mail.Slot). x.disk) u.2 in
    let life : u.0.life ≡ Up from.0 = from.1 in
    (from.0, u.1 ∙ ap Some (λ i. record { life = life i; disk = disks i }), same from.0.mail a (ap mail_life (sym life) ∙ ap (λ (x : mail.Slot). x.life) u.2))
  where
    same : (p q : mail.Node) → mail.Life.Up p ≡ mail.Life.Up q → p ≡ q
    same p q h = cc

-- a letter flew, or a node that is up sent it for messages
abbrev Comes : List Slot → List Letter → Letter → Type 0
Comes slots flew letter = Among letter flew ⊎ ((own : ℕ) × (x : Node) × (disk : List Record) × (slot_at slots own ≡ Some (slot_up x disk)) × IsMail own letter)

record Put (slots : List Slot) (letters flew : List Letter) : Type 0 where
  flying : List Letter
  stay : (letter : Letter) → Among letter flew → Among letter flying
  new : (letter : Letter) → Among letter letters → Among letter flying
  leads : LeadsTo (record { slots = map maps_slot slots; flying = flew }) (record { slots = map maps_slot slots; flying = flying })

puts : (slots : List Slot) (letters flew : List Letter) → ((letter : Letter) → Among letter letters → Comes slots flew letter) → Put slots letters flew
puts slots [] flew comes = record { flying = flew; stay = λ letter m. m; new = λ letter m. absurd m; leads = to_itself _ _ refl }
puts slots (letter ∷ letters) flew comes = ⊎_elim
    (λ stood. let rest = puts slots letters flew (λ one m. comes one (inr m)) in record {
      flying = rest.flying;
      stay = rest.stay;
      new = λ one m. ⊎_elim (λ e. subst (λ (l : Letter). Among l rest.flying) e (rest.stay letter stood)) (λ more. rest.new one more) m;
      leads = rest.leads;
    })
    (λ (own, x, disk, here, mail). let rest = puts slots letters (flew ++ letter ∷ []) (λ one m. ⊎_elim (λ stood. inl (among_front one flew (letter ∷ []) stood)) (λ sent. inr sent) (comes one (inr m))) in record {
      flying = rest.flying;
      stay = λ one m. rest.stay one (among_front one flew (letter ∷ []) m);
      new = λ one m. ⊎_elim (λ e. rest.stay one (among_behind one flew (letter ∷ []) (inl e))) (λ more. rest.new one more) m;
      leads = to_on _ (record { slots = map maps_slot slots; flying = flew ++ letter ∷ [] }) _ (sends own x disk here mail) rest.leads;
    })
    (comes letter (inl refl))
  where
    sends : (own : ℕ) (x : Node) (disk : List Record) → slot_at slots own ≡ Some (slot_up x disk) → IsMail own letter
        → LeadsTo (record { slots = map maps_slot slots; flying = flew }) (record { slots = map maps_slot slots; flying = flew ++ letter ∷ [] })
    sends own x disk here mail =
        let led : LeadsMaps own (maps_slot (slot_up x disk)) (maps_slot (slot_up x disk)) None (letter ∷ []) =
        subst (λ d. LeadsMaps own (maps_slot (slot_up x disk)) (maps_slot (slot_up x d)) None (letter ∷ [])) (append-nil disk)
        (messages_led own x x disk [] None (letter ∷ []) (λ one m. absurd m) (λ one m. ⊎_elim (λ e. subst (IsMail own) e mail) (λ none. absurd none) m) refl) in
        let done = led (record { slots = map maps_slot slots; flying = flew }) (maps_here slots own (slot_up x disk) here) (λ one h. absurd (cc h)) in
        let same = slot_same (map maps_slot slots) own (maps_slot (slot_up x disk)) (maps_here slots own (slot_up x disk) here) in
        record { moves = done.moves; may = done.may; is = done.is ∙ (λ i. record { slots = same i; flying = flew ++ letter ∷ [] }) }

-- what is plain for messages is a list of moves for maps
pub plain_led : (old new : World) → IsPlain (mail_world_of old) (mail_world_of new) → FollowsAlong old new → LeadsTo (maps_world_of old) (maps_world_of new)
plain_led old new plain follow =
    let put = puts old.slots (letters_of new.flying) (letters_of old.flying) (λ letter m. ⊎_elim
    (λ flew. inl flew)
    (λ (sent : IsMailOf (mail_world_of old) letter). let up = up_slot old.slots sent.own sent.node sent.disk sent.up in inr (sent.own, up.0, sent.disk, up.1, sent.mail))
    (plain.letters letter m)) in
    to_on (maps_world_of old) (record { slots = map maps_slot new.slots; flying = put.flying }) (maps_world_of new)
    (to_on (maps_world_of old) (record { slots = map maps_slot old.slots; flying = put.flying }) (record { slots = map maps_slot new.slots; flying = put.flying }) put.leads
    (all_slots put.flying 0 [] old.slots new.slots refl (seen_size new.slots old.slots plain.size) each))
    (taken_to (map maps_slot new.slots) put.flying (letters_of new.flying) put.new)
  where
    size_seen : (xs : List Slot) → length (map mail_slot xs) ≡ length xs
    size_seen [] = refl
    size_seen (x ∷ xs) = ap suc (size_seen xs)

    seen_size : (xs ys : List Slot) → length (map mail_slot xs) ≡ length (map mail_slot ys) → length xs ≡ length ys
    seen_size xs ys e = sym (size_seen xs) ∙ e ∙ size_seen ys

    zero_front : (i : ℕ) → i ≡ 0 + i
    zero_front i = omega arith

    each : (i : ℕ) (t : Slot) → slice_get new.slots i ≡ Some t → (s : Slot) × (slice_get old.slots i ≡ Some s) × LeadsMaps (suc (0 + i)) (maps_slot s) (maps_slot t) None []
    each i t h =
        let turn = plain.turns (suc i) (mail_slot t) (get_seen mail_slot new.slots i t h) in
        let u = unseen old.slots i turn.0 turn.1 in (
          u.0,
          u.1,
          subst (λ j. LeadsMaps (suc j) (maps_slot u.0) (maps_slot t) None []) (zero_front i)
              (turned_led (suc i) u.0 t (λ a b e f. follow.each (suc i) u.0 t u.1 h a b e f) (subst (λ (x : mail.Slot). Turns x (mail_slot t)) (sym u.2) turn.2)),
        )
