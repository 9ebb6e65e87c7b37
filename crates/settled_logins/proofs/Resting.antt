-- What stays of nodes in steps of readers: their disks, who is up, and of each that is up its maps and its log of updates.
use Rattle.std.proofs.Common.{◌≡◌, ℕ, zero, suc, Bool, List, [], ◌∷◌, length, drop, map, Option, Some, None, refl, sym, ap, ◌∙◌, subst}
use Rattle.std.specs.Prelude.{slice_get, slice_set}
use Rattle.mail_model.specs.Record.{Record}
use Rattle.object_model.specs.UpdateLog.{Log}
use Rattle.object_model.proofs.Lists.{same_some}
use Rattle.cluster_model.specs.Cluster as mail
use Rattle.maps_model.specs.Cluster as maps
use Rattle.whole_model.specs.Whole as whole
use Rattle.whole_model.specs.Rules.{follows}
use Rattle.whole_world.specs.World.{FollowsAlong}
use Rattle.login_model.specs.Cluster as login
use Rattle.login_model.specs.Listing.{IsStillSlot, AreStill}
use Rattle.login_model.proofs.Reacts.{same_up}
use Rattle.joint_model.specs.Joint.{Node, Life, Slot, slot_at, with_slot, slot_up, whole_slot, user_named_in, user_manager_in, read_node, read_life, read_slot}
use Rattle.joint_model.specs.Joint.Life.{Up, Down, Lost}
use Rattle.joint_model.proofs.Kept.{whole_here, read_here}
use Rattle.joint_model.proofs.Settled.{read_back}
use Rattle.joint_world.specs.World.{World, whole_world_of, mail_world_of}
use Rattle.settled_logins.specs.Settled.{IsStill}

-- what stays of a slot
abbrev pub life_stays : whole.Life → Option (maps.Node × Log)
life_stays (whole.Life.Up node) = Some (node.maps, node.mail.log)
life_stays (whole.Life.Down pending) = None
life_stays whole.Life.Lost = None

abbrev pub rest_of : whole.Slot → Option (maps.Node × Log) × List Record
rest_of slot = (life_stays slot.life, slot.disk)

abbrev pub rest : Slot → Option (maps.Node × Log) × List Record
rest slot = rest_of (whole_slot slot)

abbrev pub Rests : World → World → Type 0
Rests old new = map rest new.slots ≡ map rest old.slots

some_pair : {X Y : Type 0} (a b : X × Y) → Some a ≡ Some b → a ≡ b
some_pair a b e = cc

-- lists that are mapped
module _ {X Y : Type 0} (f : X → Y) where
  pub get_view : (xs : List X) (k : ℕ) (x : X) → slice_get xs k ≡ Some x → slice_get (map f xs) k ≡ Some (f x)
  get_view [] k x e = absurd (cc e)
  get_view (y ∷ xs) zero x e = ap (λ (z : X). Some (f z)) (same_some (Some y) y x refl e)
  get_view (y ∷ xs) (suc k) x e = get_view xs k x e

  pub get_back : (xs : List X) (k : ℕ) (y : Y) → slice_get (map f xs) k ≡ Some y → (x : X) × (slice_get xs k ≡ Some x) × (f x ≡ y)
  get_back [] k y e = absurd (cc e)
  get_back (x ∷ xs) zero y e = (x, refl, same_some (Some (f x)) (f x) y refl e)
  get_back (x ∷ xs) (suc k) y e = get_back xs k y e

  set_view : (xs : List X) (k : ℕ) (a b : X) → slice_get xs k ≡ Some a → f b ≡ f a → map f (slice_set xs k b) ≡ map f xs
  set_view [] k a b here same = refl
  set_view (x ∷ xs) zero a b here same = ap (λ (z : Y). z ∷ map f xs) (same ∙ ap f (sym (same_some (Some x) x a refl here)))
  set_view (x ∷ xs) (suc k) a b here same = ap (λ (l : List Y). f x ∷ l) (set_view xs k a b here same)

pub fuse : {X Y Z : Type 0} (f : X → Y) (g : Y → Z) (xs : List X) → map g (map f xs) ≡ map (λ x. g (f x)) xs
fuse f g [] = refl
fuse {Z = Z} f g (x ∷ xs) = ap (λ (l : List Z). g (f x) ∷ l) (fuse f g xs)

-- what looks the same in one way looks the same in another
both : {X Y Z : Type 0} (f : X → Y) (h : X → Z) (xs ys : List X) → map f ys ≡ map f xs → ((k : ℕ) (a b : X) → slice_get xs k ≡ Some a → slice_get ys k ≡ Some b → f b ≡ f a → h b ≡ h a) → map h ys ≡ map h xs
both f h [] [] e each = refl
both f h [] (y ∷ ys) e each = absurd (cc e)
both f h (x ∷ xs) [] e each = absurd (cc e)
both {X} {Y} {Z} f h (x ∷ xs) (y ∷ ys) e each =
    let one : h y ≡ h x = each 0 x y refl refl (head (f y) (f x) (map f ys) (map f xs) e) in
    let more : map h ys ≡ map h xs = both f h xs ys (tail (f y) (f x) (map f ys) (map f xs) e) (λ k a b p q r. each (suc k) a b p q r) in
    λ i. one i ∷ more i
  where
    head : (a b : Y) (ps qs : List Y) → a ∷ ps ≡ b ∷ qs → a ≡ b
    head a b ps qs h = cc

    tail : (a b : Y) (ps qs : List Y) → a ∷ ps ≡ b ∷ qs → ps ≡ qs
    tail a b ps qs h = cc

pub rests_same : (old new : World) → new.slots ≡ old.slots → Rests old new
rests_same old new is = ap (map rest) is

pub rests_then : (a b c : World) → Rests a b → Rests b c → Rests a c
rests_then a b c first second = second ∙ first

-- the whole machine sees no change
pub rests_whole : (old new : World) → map whole_slot new.slots ≡ map whole_slot old.slots → Rests old new
rests_whole old new same = sym (fuse whole_slot rest_of new.slots) ∙ ap (map rest_of) same ∙ fuse whole_slot rest_of old.slots

-- a slot is written that looks the same
pub rests_set : (old new : World) (n : ℕ) (before after : Slot) → slot_at old.slots n ≡ Some before → new.slots ≡ with_slot old.slots n after → rest after ≡ rest before → Rests old new
rests_set old new zero before after here is same = absurd (cc here)
rests_set old new (suc k) before after here is same = ap (map rest) is ∙ set_view rest old.slots k before after here same

pub rests_at : (old new : World) → Rests old new → (n : ℕ) (before : Slot) → slot_at old.slots n ≡ Some before → (now : Slot) × (slot_at new.slots n ≡ Some now) × (rest now ≡ rest before)
rests_at old new r zero before at = absurd (cc at)
rests_at old new r (suc k) before at = get_back rest new.slots k (rest before) (ap (λ l. slice_get l k) r ∙ get_view rest old.slots k before at)

-- maps follow along, and messages see the same logs and disks
abbrev log_stays : mail.Life → Option Log
log_stays (mail.Life.Up node) = Some node.log
log_stays (mail.Life.Down pending) = None
log_stays mail.Life.Lost = None

abbrev pub log_rest : mail.Slot → Option Log × List Record
log_rest slot = (log_stays slot.life, slot.disk)

-- a slot of messages is written that looks the same
pub log_set : (slots : List mail.Slot) (n : ℕ) (before after : mail.Slot) → mail.slot_at slots n ≡ Some before → log_rest after ≡ log_rest before → map log_rest (mail.with_slot slots n after) ≡ map log_rest slots
log_set slots zero before after here same = refl
log_set slots (suc k) before after here same = set_view log_rest slots k before after here same

abbrev mail_rest : Slot → Option Log × List Record
mail_rest slot = log_rest (whole.mail_slot (whole_slot slot))

nothing_more : (xs : List Record) → drop (length xs) xs ≡ []
nothing_more [] = refl
nothing_more (x ∷ xs) = nothing_more xs

mail_fused : (w : World) → map log_rest (mail_world_of w).slots ≡ map mail_rest w.slots
mail_fused w = fuse whole.mail_slot log_rest (map whole_slot w.slots) ∙ fuse whole_slot (λ (s : whole.Slot). log_rest (whole.mail_slot s)) w.slots

pub rests_follow : (old new : World) → map log_rest (mail_world_of new).slots ≡ map log_rest (mail_world_of old).slots → FollowsAlong (whole_world_of old) (whole_world_of new) → Rests old new
rests_follow old new same follow = both mail_rest rest old.slots new.slots (sym (mail_fused new) ∙ same ∙ mail_fused old)
    (λ k a b p q r. by k a b p q a.life refl b.life refl (ap (λ (x : Option Log × List Record). x.0) r) (ap (λ (x : Option Log × List Record). x.1) r))
  where
    some_log : (a b : Log) → Some a ≡ Some b → a ≡ b
    some_log a b e = cc

    stays_as : (slot : Slot) (life : Life) → slot.life ≡ life → log_stays (whole.mail_slot (whole_slot (record { life = life; disk = slot.disk }))).life ≡ log_stays (whole.mail_slot (whole_slot slot)).life
    stays_as slot life is = ap (λ (l : Life). log_stays (whole.mail_slot (whole_slot (record { life = l; disk = slot.disk }))).life) (sym is)

    rest_as : (slot : Slot) (life : Life) → slot.life ≡ life → rest slot ≡ rest (record { life = life; disk = slot.disk })
    rest_as slot life is = ap (λ (l : Life). rest (record { life = l; disk = slot.disk })) is

    by : (k : ℕ) (a b : Slot) → slice_get old.slots k ≡ Some a → slice_get new.slots k ≡ Some b → (la : Life) → a.life ≡ la → (lb : Life) → b.life ≡ lb
        → log_stays (whole.mail_slot (whole_slot b)).life ≡ log_stays (whole.mail_slot (whole_slot a)).life → b.disk ≡ a.disk → rest b ≡ rest a
    by k a b p q (Up x) ea (Up y) eb logs disks =
        let log : y.whole.mail.log ≡ x.whole.mail.log = some_log y.whole.mail.log x.whole.mail.log (stays_as b (Up y) eb ∙ logs ∙ sym (stays_as a (Up x) ea)) in
        let maps_ : y.whole.maps ≡ x.whole.maps = follow.each (suc k) (whole_slot a) (whole_slot b) (whole_here old.slots (suc k) a p) (whole_here new.slots (suc k) b q) x.whole y.whole
        (ap (λ (l : Life). (whole_slot (record { life = l; disk = a.disk })).life) ea) (ap (λ (l : Life). (whole_slot (record { life = l; disk = b.disk })).life) eb)
        ∙ ap (λ (d : List Record). follows (suc k) x.whole.maps a.disk (drop (length a.disk) d)) disks ∙ ap (follows (suc k) x.whole.maps a.disk) (nothing_more a.disk) in
        rest_as b (Up y) eb ∙ (λ i. (Some (maps_ i, log i), disks i)) ∙ sym (rest_as a (Up x) ea)
    by k a b p q (Up x) ea (Down pending) eb logs disks = absurd (cc (stays_as b (Down pending) eb ∙ logs ∙ sym (stays_as a (Up x) ea)))
    by k a b p q (Up x) ea Lost eb logs disks = absurd (cc (stays_as b Lost eb ∙ logs ∙ sym (stays_as a (Up x) ea)))
    by k a b p q (Down pending) ea (Up y) eb logs disks = absurd (cc (stays_as b (Up y) eb ∙ logs ∙ sym (stays_as a (Down pending) ea)))
    by k a b p q (Down pending) ea (Down other) eb logs disks = rest_as b (Down other) eb ∙ (λ i. (None, disks i)) ∙ sym (rest_as a (Down pending) ea)
    by k a b p q (Down pending) ea Lost eb logs disks = rest_as b Lost eb ∙ (λ i. (None, disks i)) ∙ sym (rest_as a (Down pending) ea)
    by k a b p q Lost ea (Up y) eb logs disks = absurd (cc (stays_as b (Up y) eb ∙ logs ∙ sym (stays_as a Lost ea)))
    by k a b p q Lost ea (Down other) eb logs disks = rest_as b (Down other) eb ∙ (λ i. (None, disks i)) ∙ sym (rest_as a Lost ea)
    by k a b p q Lost ea Lost eb logs disks = rest_as b Lost eb ∙ (λ i. (None, disks i)) ∙ sym (rest_as a Lost ea)

-- who was up is, with its maps and its log
pub record UpSo (slot : Slot) (m : maps.Node) (log : Log) (disk : List Record) : Type 0 where
  pub node : Node
  pub is : slot ≡ slot_up node disk
  pub maps_is : node.whole.maps ≡ m
  pub log_is : node.whole.mail.log ≡ log

pub up_so : (slot : Slot) (m : maps.Node) (log : Log) (disk : List Record) → rest slot ≡ (Some (m, log), disk) → UpSo slot m log disk
up_so slot m log disk e = by slot.life refl
  where
    disks : slot.disk ≡ disk
    disks = ap (λ (x : Option (maps.Node × Log) × List Record). x.1) e

    life_is : (life : Life) → slot.life ≡ life → life_stays (whole_slot (record { life = life; disk = slot.disk })).life ≡ Some (m, log)
    life_is life is = ap (λ (l : Life). life_stays (whole_slot (record { life = l; disk = slot.disk })).life) (sym is) ∙ ap (λ (x : Option (maps.Node × Log) × List Record). x.0) e

    by : (life : Life) → slot.life ≡ life → UpSo slot m log disk
    by (Up node) is =
        let p = some_pair (node.whole.maps, node.whole.mail.log) (m, log) (life_is (Up node) is) in
        record { node = node; is = λ i. record { life = is i; disk = disks i }; maps_is = ap (λ (x : maps.Node × Log). x.0) p; log_is = ap (λ (x : maps.Node × Log). x.1) p }
    by (Down pending) is = absurd (cc (life_is (Down pending) is))
    by Lost is = absurd (cc (life_is Lost is))

pub rests_still : (old new : World) → Rests old new → IsStill old new
rests_still old new r = record {
  disks = sym (fuse rest (λ (x : Option (maps.Node × Log) × List Record). x.1) new.slots) ∙ ap (map (λ (x : Option (maps.Node × Log) × List Record). x.1)) r ∙ fuse rest (λ (x : Option (maps.Node × Log) × List Record). x.1) old.slots;
  up = λ n node disk at.
      let now = rests_at old new r n (slot_up node disk) at in
      let u = up_so now.0 node.whole.maps node.whole.mail.log disk now.2 in
      (u.node, now.1 ∙ ap Some u.is, record { maps = u.maps_is; log = u.log_is });
  was = λ n now disk at.
      let before = rests_at new old (sym r) n (slot_up now disk) at in
      let u = up_so before.0 now.whole.maps now.whole.mail.log disk before.2 in
      (u.node, before.1 ∙ ap Some u.is, record { maps = sym u.maps_is; log = sym u.log_is });
}

-- so calls that read see slots that are still
module _ (tells : Bool) where
  none_up : (life : Life) → ((node : login.Node) → read_life tells life ≡ login.Life.Up node → ⊥) → (disk : List Record) (now : login.Slot) → disk ≡ now.disk → IsStillSlot (read_slot tells (record { life = life; disk = disk })) now
  none_up life none disk now same = record { disk = same; maps = λ old new a b. absurd (none old a); up = λ old a. absurd (none old a) }

  abbrev names : maps.Node → List ℕ → ℕ
  names m user = user_named_in m user m.installed

  abbrev managers : maps.Node → List ℕ → Option ℕ
  managers m user = user_manager_in user m.installed

  still_of : (la lb : Life) (da db : List Record) → rest (record { life = lb; disk = db }) ≡ rest (record { life = la; disk = da })
      → IsStillSlot (read_slot tells (record { life = la; disk = da })) (read_slot tells (record { life = lb; disk = db }))
  still_of (Up x) lb da db e = by lb (ap (λ (p : Option (maps.Node × Log) × List Record). p.0) e)
    where
      disks : db ≡ da
      disks = ap (λ (p : Option (maps.Node × Log) × List Record). p.1) e

      by : (lb : Life) → life_stays (whole_slot (record { life = lb; disk = db })).life ≡ Some (x.whole.maps, x.whole.mail.log) → IsStillSlot (read_slot tells (slot_up x da)) (read_slot tells (record { life = lb; disk = db }))
      by (Up y) k =
          let same : y.whole.maps ≡ x.whole.maps = ap (λ (p : maps.Node × Log). p.0) (some_pair (y.whole.maps, y.whole.mail.log) (x.whole.maps, x.whole.mail.log) k) in
          record {
            disk = sym disks;
            maps = λ old new a b.
                let p = same_up (read_node tells x) old a in
                let q = same_up (read_node tells y) new b in (
                  sym (ap (λ (n : login.Node). n.named) p) ∙ ap names (sym same) ∙ ap (λ (n : login.Node). n.named) q,
                  sym (ap (λ (n : login.Node). n.manager) p) ∙ ap managers (sym same) ∙ ap (λ (n : login.Node). n.manager) q,
                );
            up = λ old a. (read_node tells y, refl);
          }
      by (Down pending) k = absurd (cc k)
      by Lost k = absurd (cc k)
  still_of (Down pending) lb da db e = none_up (Down pending) clash da (read_slot tells (record { life = lb; disk = db })) (sym (ap (λ (p : Option (maps.Node × Log) × List Record). p.1) e))
    where
      clash : (node : login.Node) → login.Life.Down ≡ login.Life.Up node → ⊥
      clash node k = cc
  still_of Lost lb da db e = none_up Lost clash da (read_slot tells (record { life = lb; disk = db })) (sym (ap (λ (p : Option (maps.Node × Log) × List Record). p.1) e))
    where
      clash : (node : login.Node) → login.Life.Lost ≡ login.Life.Up node → ⊥
      clash node k = cc

  pub rests_seen : (old new : World) → Rests old new → AreStill (map (read_slot tells) old.slots) (map (read_slot tells) new.slots)
  rests_seen old new r n slot at =
      let one = read_back tells old.slots n slot at in
      let now = rests_at old new r n one.0 one.1 in
      (read_slot tells now.0, read_here tells new.slots n now.0 now.1, subst (λ (s : login.Slot). IsStillSlot s (read_slot tells now.0)) one.2 (still_of one.0.life now.0.life one.0.disk now.0.disk now.2))

  -- and so the other way
  pub rests_back : (old new : World) → Rests old new → (n : ℕ) (before now : login.Slot) → login.slot_at (map (read_slot tells) old.slots) n ≡ Some before → login.slot_at (map (read_slot tells) new.slots) n ≡ Some now
      → IsStillSlot now before
  rests_back old new r n before now at there =
      let back = rests_seen new old (sym r) n now there in
      subst (IsStillSlot now) (same_some (login.slot_at (map (read_slot tells) old.slots) n) back.0 before back.1 at) back.2
