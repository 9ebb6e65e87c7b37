-- What a manager was and had, where the node whose row it is goes on in its epoch.
use Rattle.std.proofs.Common.{◌≡◌, inl, inr, ⊎_elim, ℕ, ◌<◌, ◌≤◌, List, Option, Some, None, refl, sym, ap, ◌∙◌, subst, arith}
use Rattle.mail_model.specs.Identity.{EpochId, no_epoch}
use Rattle.object_model.specs.Letters.{Membership, Row, Letter}
use Rattle.object_model.specs.Lists.{Among}
use Rattle.maps_model.specs.Epochs.{IsBefore}
use Rattle.maps_model.specs.Cluster.{Node, Disk, Slot, slot_at, slot_up, epoch_in, epoch_of, NamesNode, Comes, manager_of}
use Rattle.maps_model.specs.Cluster.Life.{Up}
use Rattle.maps_model.specs.Words.{Known, IsOneOf, IsReport, IsAck, RowFor}
use Rattle.maps_model.specs.Words.RowFor.{Stands, WillDrop, WillKeep, Ahead}
use Rattle.maps_model.specs.Moves.{NodeAct, IsAct, WasUp, BeginsBoot, RowFrom}
use Rattle.maps_model.specs.Moves.RowFrom.{Stood, Kept, Fell, Took, Told}
use Rattle.maps_model.specs.Rules.{own_row, KeepsAny, IsRowKept}
use Rattle.maps_model.specs.Parts.{AllInOrder, OneEach, Joins, Spoken}
use Rattle.maps_model.proofs.Order.{before_same, same_before, before_not_same, none_before}
use Rattle.maps_model.proofs.Lists.{same_some, some_none, at_same, read_after}
use Rattle.maps_model.proofs.Acting.{After, Flying, was_here, is_in_order}
use Rattle.maps_model.proofs.Memberships.{stood_before}
use Rattle.maps_model.proofs.Speaking.{known_now, comes_from}
use Rattle.maps_model.proofs.Telling.{names_of, up_life, same_up, same_disk, not_past, none_reported, none_acked}
use Rattle.maps_model.proofs.Agreeing.{RowOn}
use Rattle.maps_model.proofs.Agreeing.RowOn.{Stays, Takes, Tells}

-- a membership of some epoch is installed
pub some_installed : (node : Node) (x : Option Membership) → node.installed ≡ x → 0 < (epoch_in x).count → (g : Membership) × (node.installed ≡ Some g)
some_installed node None e lt = absurd (omega (arith, lt))
some_installed node (Some g) e lt = (g, e)

pub installed_of : (node : Node) (epoch : EpochId) → epoch_of node ≡ epoch → 0 < epoch.count → (g : Membership) × (node.installed ≡ Some g) × (g.epoch ≡ epoch)
installed_of node epoch same lt =
    let s = some_installed node node.installed refl (subst (λ (e : EpochId). 0 < e.count) (sym same) lt) in
    (s.0, s.1, sym (ap epoch_in s.1) ∙ same)

module _ (slots : List Slot) (flying : List Letter) (act : NodeAct) (here : slot_at slots act.node ≡ Some act.before) (is : IsAct act)
    (flew : (letter : Letter) → act.heard ≡ Some letter → Among letter flying × (letter.to ≡ act.node)) (order : AllInOrder slots) (one : OneEach slots flying)
    (joins : Joins slots flying) (spoken : Spoken slots flying) where
  abbrev Slots : List Slot
  Slots = After slots flying act here is flew order

  abbrev Letters : List Letter
  Letters = Flying slots flying act here is flew order

  was : (old : Node) → act.before.life ≡ Up old → slot_at slots act.node ≡ Some (slot_up old act.before.disk)
  was = was_here slots flying act here is flew order

  -- the node that acted, as another reads it
  pub at_act : (n : ℕ) (node : Node) (disk : Disk) → slot_at Slots n ≡ Some (slot_up node disk) → n ≡ act.node → slot_up node disk ≡ act.after
  at_act n node disk at e = same_some (slot_at Slots act.node) (slot_up node disk) act.after (subst (λ k. slot_at Slots k ≡ Some (slot_up node disk)) e at) (at_same slots act.node act.before act.after here)

  pub life_of : (node : Node) (disk : Disk) → slot_up node disk ≡ act.after → act.after.life ≡ Up node
  life_of = up_life slots flying act here is flew order one joins spoken

  pub same_node : (x y : Node) → act.after.life ≡ Up x → act.after.life ≡ Up y → x ≡ y
  same_node = same_up slots flying act here is flew order one joins spoken

  pub disk_of : (node : Node) (disk : Disk) → slot_up node disk ≡ act.after → act.after.disk ≡ disk
  disk_of = same_disk slots flying act here is flew order one joins spoken

  -- whoever joined has begun that boot
  begins_not : (g : Membership) → Known Slots Letters g → (n : ℕ) (new : Node) → n ≡ act.node → (w : EpochId) → Comes g n new.boot w → BeginsBoot act new → ⊥
  begins_not g known n new mine w comes b =
      let h = (stood_before slots flying act here is flew order one joins g known n new.boot w comes).0 in
      let at : h.slot ≡ act.before = same_some (slot_at slots act.node) h.slot act.before (subst (λ k. slot_at slots k ≡ Some h.slot) mine h.here) here in
      omega (arith, subst (λ (s : Slot). new.boot ≤ s.disk.boot) at h.begun, b.later)

  module _ (n : ℕ) (node : Node) (disk : Disk) (at : slot_at Slots n ≡ Some (slot_up node disk)) (g : Membership) (installed : node.installed ≡ Some g) (user : List ℕ) (manager : ℕ) (managed : manager_of g user ≡ Some manager) where
    -- what the manager was, and had
    pub record ManagerWas (epoch : EpochId) (row : Option Row) : Type 0 where
      pub old : Node
      pub its : Disk
      pub at0 : slot_at slots manager ≡ Some (slot_up old its)
      pub had : Option Row
      pub epoch0 : EpochId
      pub counts : RowFor manager old g n node.boot user had epoch0
      pub on : RowOn flying n node.boot user g.epoch epoch0 had row (node.version user) (disk.holds user)
      pub reports_in : (letter : Letter) → Among letter flying → letter.from ≡ n → IsOneOf g.epoch epoch letter.epoch → (boot : ℕ) (told : Row) → IsReport letter user boot told → IsOneOf g.epoch epoch0 letter.epoch
      pub acks_in : (letter : Letter) → Among letter flying → letter.to ≡ n → IsOneOf g.epoch epoch letter.epoch → (told : ℕ) → IsAck letter user told → IsOneOf g.epoch epoch0 letter.epoch

    known : Known Slots Letters g
    known = inl (record { n = n; node = node; disk = disk; here = at; is = installed })

    module _ (old : Node) (disk0 : Disk) (at0 : slot_at slots n ≡ Some (slot_up old disk0)) (inst : old.installed ≡ Some g) (booted : old.boot ≡ node.boot) where
      known0 : Known slots flying g
      known0 = inl (record { n = n; node = old; disk = disk0; here = at0; is = inst })

      module _ (other : Node) (f : act.after.life ≡ Up other) (mine : manager ≡ act.node) (row : Option Row) (epoch : EpochId) (w : WasUp act other) where
        at_before : slot_at slots manager ≡ Some (slot_up w.old act.before.disk)
        at_before = subst (λ k. slot_at slots k ≡ Some (slot_up w.old act.before.disk)) (sym mine) (was w.old w.is)

        own_is : n ≡ act.node → ((own_row act.node other act.after.disk user).version ≡ node.version user) × ((own_row act.node other act.after.disk user).full ≡ disk.holds user)
        own_is e =
            let s = at_act n node disk at e in
            let same : other ≡ node = same_node other node f (life_of node disk s) in
            (λ i. (same i).version user, λ i. (disk_of node disk s i).holds user)

        -- a manager that keeps its membership
        module _ (stays : w.old.installed ≡ other.installed) where
          same_epoch : epoch_of w.old ≡ epoch_of other
          same_epoch = ap epoch_in stays

          stays_on : row ≡ other.rows n node.boot user → IsOneOf g.epoch epoch (epoch_of other) → RowFrom act w.old other n node.boot user
              → RowOn flying n node.boot user g.epoch epoch (w.old.rows n node.boot user) row (node.version user) (disk.holds user)
          stays_on e in_ (Stood i stood) = Stays (e ∙ stood)
          stays_on e in_ (Kept x i before k stood) = absurd (before_not_same (epoch_of w.old) (epoch_of other) before same_epoch)
          stays_on e in_ (Fell x i before never none) = absurd (before_not_same (epoch_of w.old) (epoch_of other) before same_epoch)
          stays_on e in_ (Took t) = Takes t.row (record {
            letter = t.heard.letter;
            inside = (flew t.heard.letter t.heard.is).0;
            from = t.heard.holds.0;
            same = subst (λ x. IsOneOf g.epoch epoch x) (sym t.heard.holds.1) in_;
            is = t.heard.holds.2;
          }) (e ∙ t.is) t.newer
          stays_on e in_ (Told m b tells) = Tells (own_row act.node other act.after.disk user) (e ∙ tells) (own_is m).0 (own_is m).1

          whole : (had : Option Row) → RowFor manager w.old g n node.boot user had epoch → RowOn flying n node.boot user g.epoch epoch had row (node.version user) (disk.holds user) → ManagerWas epoch row
          whole had counts on = record {
            old = w.old;
            its = act.before.disk;
            at0 = at_before;
            had = had;
            epoch0 = epoch;
            counts = counts;
            on = on;
            reports_in = λ letter m from x boot told h. x;
            acks_in = λ letter m to x told h. x;
          }

          before_too : (x : EpochId) → IsBefore (epoch_of other) x → IsBefore (epoch_of w.old) x
          before_too x h = same_before (epoch_of w.old) (epoch_of other) x same_epoch h

          comes_too : (x : Membership) (e : EpochId) → Comes x manager other.boot e → Comes x manager w.old.boot e
          comes_too x e c = subst (λ b. Comes x manager b e) (sym w.boot) c

          came_too : Comes g manager other.boot (epoch_of other) → Comes g manager w.old.boot (epoch_of w.old)
          came_too c = comes_too g (epoch_of w.old) (subst (λ e. Comes g manager other.boot e) (sym same_epoch) c)

          kept_too : (x y : Node) → x.installed ≡ y.installed → IsRowKept manager x g n node.boot user → IsRowKept manager y g n node.boot user
          kept_too x y e k = record { old = k.old; installed = sym e ∙ k.installed; managed = k.managed; manages = k.manages; comes = k.comes; allowed = k.allowed }

          goes : RowFor manager other g n node.boot user row epoch → RowFrom act w.old other n node.boot user → ManagerWas epoch row
          goes (Stands e r same) from = whole (w.old.rows n node.boot user) (Stands (stays ∙ e) refl same) (stays_on r (inl (ap epoch_in e)) from)
          goes (WillDrop before comes never r same) from =
              whole None (WillDrop (before_too g.epoch before) (came_too comes) (λ k. never (kept_too w.old other stays k)) refl same) (Stays r)
          goes (WillKeep before comes k r same) from =
              whole (w.old.rows n node.boot user) (WillKeep (before_too g.epoch before) (came_too comes) (kept_too other w.old (sym stays) k) refl (same ∙ sym same_epoch)) (stays_on r (inr (sym same)) from)
          goes (Ahead may next e before c d m r same) from =
              whole (w.old.rows n node.boot user) (Ahead may next (stays ∙ e) before (comes_too next g.epoch c) d m refl same) (stays_on r (inr (ap epoch_in e ∙ sym same)) from)

        -- a manager that enters an epoch
        module _ (before : IsBefore (epoch_of w.old) (epoch_of other)) (promised : epoch_of other ≡ other.promise) where
          enters_now : (x : Membership) → other.installed ≡ Some x → (e : EpochId) → Comes x manager other.boot e → epoch_of w.old ≡ e
          enters_now x i e c = comes_from slots flying act here is flew order one joins spoken w.old other w.is f w.boot before promised x i other.boot e refl (subst (λ k. Comes x k other.boot e) mine c)

          not_stays : w.old.installed ≡ other.installed → ⊥
          not_stays e = before_not_same (epoch_of w.old) (epoch_of other) before (ap epoch_in e)

          -- the node is another
          another : n ≡ act.node → ⊥
          another e =
              let a : slot_up old disk0 ≡ slot_up w.old act.before.disk = same_some (slot_at slots act.node) (slot_up old disk0) (slot_up w.old act.before.disk) (subst (λ k. slot_at slots k ≡ Some (slot_up old disk0)) e at0) (was w.old w.is) in
              let b : other ≡ node = same_node other node f (life_of node disk (at_act n node disk at e)) in
              not_stays (up_installed w.old old act.before.disk disk0 (sym a) ∙ inst ∙ sym installed ∙ ap (λ (x : Node). x.installed) (sym b))
            where
              up_installed : (x y : Node) (d e : Disk) → slot_up x d ≡ slot_up y e → x.installed ≡ y.installed
              up_installed x y d e h = ap (λ (z : Node). z.installed) (by x y (ap (λ (s : Slot). s.life) h))
                where
                  by : (x y : Node) → Up x ≡ Up y → x ≡ y
                  by x y h = cc

          entering : (epoch0 : EpochId) (had : Option Row) → RowFor manager w.old g n node.boot user had epoch0 → row ≡ had
              → ((letter : Letter) → Among letter flying → letter.from ≡ n → IsOneOf g.epoch epoch letter.epoch → (boot : ℕ) (told : Row) → IsReport letter user boot told → IsOneOf g.epoch epoch0 letter.epoch)
              → ((letter : Letter) → Among letter flying → letter.to ≡ n → IsOneOf g.epoch epoch letter.epoch → (told : ℕ) → IsAck letter user told → IsOneOf g.epoch epoch0 letter.epoch)
              → ManagerWas epoch row
          entering epoch0 had counts same reports acks = record {
            old = w.old;
            its = act.before.disk;
            at0 = at_before;
            had = had;
            epoch0 = epoch0;
            counts = counts;
            on = Stays same;
            reports_in = reports;
            acks_in = acks;
          }

          only : (x y : EpochId) → epoch ≡ g.epoch → IsOneOf g.epoch epoch x → IsOneOf g.epoch y x
          only x y same (inl e) = inl e
          only x y same (inr e) = inl (e ∙ same)

          -- the manager enters the node's epoch
          joins_it : other.installed ≡ Some g → row ≡ other.rows n node.boot user → epoch ≡ g.epoch → RowFrom act w.old other n node.boot user → ManagerWas epoch row
          joins_it i r same from =
              let names = ((is_in_order slots flying act here is flew order other f).installed g i).1 in
              let comes0 : Comes g manager other.boot names.member.was = subst (λ k. Comes g k other.boot names.member.was) (sym mine) (record { member = names.member; is = names.is; same = names.same; from = refl }) in
              let from_ : epoch_of w.old ≡ names.member.was = enters_now g i names.member.was comes0 in
              let comes : Comes g manager w.old.boot (epoch_of w.old) = subst (λ b. Comes g manager b (epoch_of w.old)) (sym w.boot) (subst (λ e. Comes g manager other.boot e) (sym from_) comes0) in
              let early : IsBefore (epoch_of w.old) g.epoch = before_same (epoch_of w.old) (epoch_of other) g.epoch before (ap epoch_in i) in
              by early comes from
            where
              by : IsBefore (epoch_of w.old) g.epoch → Comes g manager w.old.boot (epoch_of w.old) → RowFrom act w.old other n node.boot user → ManagerWas epoch row
              by early comes (Stood e stood) = absurd (not_stays e)
              by early comes (Took t) = absurd (not_stays t.within)
              by early comes (Told m b tells) = absurd (another m)
              by early comes (Kept x j lt k stood) =
                  let its : x ≡ g = same_some other.installed x g j i in
                  let kept : IsRowKept manager w.old g n node.boot user = subst (λ k. IsRowKept k w.old g n node.boot user) (sym mine) (subst (λ (y : Membership). IsRowKept act.node w.old y n node.boot user) its k) in
                  entering (epoch_of w.old) (w.old.rows n node.boot user) (WillKeep early comes kept refl refl) (r ∙ stood)
                  (λ letter m from z boot told h. only letter.epoch (epoch_of w.old) same z)
                  (λ letter m to z told h. only letter.epoch (epoch_of w.old) same z)
              by early comes (Fell x j lt never none) =
                  let its : x ≡ g = same_some other.installed x g j i in
                  entering g.epoch None
                  (WillDrop early comes (λ k. never (subst (λ k. IsRowKept k w.old x n node.boot user) mine (subst (λ (y : Membership). IsRowKept manager w.old y n node.boot user) (sym its) k))) refl refl) (r ∙ none)
                  (λ letter m from z boot told h. only letter.epoch g.epoch same z)
                  (λ letter m to z told h. only letter.epoch g.epoch same z)

          -- it has still to enter the node's epoch: then it joined that one before it entered this one, which can't be
          not_behind : Comes g manager other.boot (epoch_of other) → ⊥
          not_behind comes = ⊎_elim
              (λ none. none_before (epoch_of w.old) (before_same (epoch_of w.old) (epoch_of other) no_epoch before none))
              (λ h. not_past slots flying act here is flew order one joins spoken manager w.old act.before.disk at_before other.boot (epoch_of other) (sym w.boot) before h.1)
              (joins.named g known0 manager other.boot (epoch_of other) comes).1

          -- it goes ahead of the node
          ahead : KeepsAny → (next : Membership) → other.installed ≡ Some next → IsBefore g.epoch next.epoch → Comes next manager other.boot g.epoch → Comes next n node.boot g.epoch → manager_of next user ≡ Some manager
              → row ≡ other.rows n node.boot user → epoch ≡ next.epoch → RowFrom act w.old other n node.boot user → ManagerWas epoch row
          ahead may next i later c d m r same from =
              let came : epoch_of w.old ≡ g.epoch = enters_now next i g.epoch c in
              let o = installed_of w.old g.epoch came (one.counted g known0) in
              let its : o.0 ≡ g = one.one o.0 g (inl (record { n = manager; node = w.old; disk = act.before.disk; here = at_before; is = o.1 })) known0 o.2 in
              let inst0 : w.old.installed ≡ Some g = o.1 ∙ ap Some its in
              let next_known : Known Slots Letters next = known_now slots flying act here is flew order one joins other f next i in
              let names : NamesNode next n old.boot = subst (λ b. NamesNode next n b) (sym booted) (names_of next n node.boot g.epoch d) in
              let early : IsBefore (epoch_of old) next.epoch = same_before (epoch_of old) g.epoch next.epoch (ap epoch_in inst) later in
              by inst0
              (λ letter f_ from_ z boot told h. ⊎_elim
              (λ e. inl e)
              (λ e. absurd (none_reported slots flying act here is flew order one joins spoken n old disk0 at0 next next_known names early letter f_ from_ (e ∙ same) user boot told h))
              z)
              (λ letter f_ to_ z told h. ⊎_elim
              (λ e. inl e)
              (λ e. absurd (none_acked slots flying act here is flew order one joins spoken n old disk0 at0 next next_known names early letter f_ to_ (e ∙ same) user told h))
              z)
              from
            where
              by : w.old.installed ≡ Some g
                  → ((letter : Letter) → Among letter flying → letter.from ≡ n → IsOneOf g.epoch epoch letter.epoch → (boot : ℕ) (told : Row) → IsReport letter user boot told → IsOneOf g.epoch g.epoch letter.epoch)
                  → ((letter : Letter) → Among letter flying → letter.to ≡ n → IsOneOf g.epoch epoch letter.epoch → (told : ℕ) → IsAck letter user told → IsOneOf g.epoch g.epoch letter.epoch)
                  → RowFrom act w.old other n node.boot user → ManagerWas epoch row
              by inst0 reports acks (Stood e stood) = absurd (not_stays e)
              by inst0 reports acks (Took t) = absurd (not_stays t.within)
              by inst0 reports acks (Told x b tells) = absurd (another x)
              by inst0 reports acks (Kept x j lt k stood) = entering g.epoch (w.old.rows n node.boot user) (Stands inst0 refl refl) (r ∙ stood) reports acks
              by inst0 reports acks (Fell x j lt never none) = absurd (never (record {
                old = g;
                installed = inst0;
                managed = managed ∙ ap Some mine;
                manages = subst (λ (y : Membership). manager_of y user ≡ Some act.node) (same_some other.installed next x i j) (m ∙ ap Some mine);
                comes = subst (λ (y : Membership). Comes y n node.boot g.epoch) (same_some other.installed next x i j) d;
                allowed = may;
              }))

          goes_in : RowFor manager other g n node.boot user row epoch → RowFrom act w.old other n node.boot user → ManagerWas epoch row
          goes_in (Stands e r same) from = joins_it e r same from
          goes_in (WillDrop lt comes never r same) from = absurd (not_behind comes)
          goes_in (WillKeep lt comes k r same) from = absurd (not_behind comes)
          goes_in (Ahead may next e later c d m r same) from = ahead may next e later c d m r same from

      pub manager_was : (other : Node) (its : Disk) → slot_at Slots manager ≡ Some (slot_up other its) → (row : Option Row) (epoch : EpochId) → RowFor manager other g n node.boot user row epoch → ManagerWas epoch row
      manager_was other its atm row epoch counts = ⊎_elim
          (λ mine. let f = life_of other its mine.1 in ⊎_elim
          (λ (w : WasUp act other). let from = is.maps.rows w.old other w.is f n node.boot user in ⊎_elim
          (λ stays. goes other f mine.0 row epoch w stays counts from)
          (λ enters. goes_in other f mine.0 row epoch w enters.0 enters.1 counts from)
          w.epochs)
          (λ (b : BeginsBoot act other). absurd (begun other mine.0 b counts))
          (is.lives other f))
          (λ apart. record {
            old = other;
            its = its;
            at0 = apart.1;
            had = row;
            epoch0 = epoch;
            counts = counts;
            on = Stays refl;
            reports_in = λ letter m from x boot told h. x;
            acks_in = λ letter m to x told h. x;
          })
          (read_after slots act.node manager act.before act.after (slot_up other its) here atm)
        where
          begun : (other : Node) → manager ≡ act.node → BeginsBoot act other → RowFor manager other g n node.boot user row epoch → ⊥
          begun other mine b (Stands e r same) = some_none other.installed g e b.without
          begun other mine b (WillDrop lt comes never r same) = begins_not g known manager other mine (epoch_of other) comes b
          begun other mine b (WillKeep lt comes k r same) = begins_not g known manager other mine (epoch_of other) comes b
          begun other mine b (Ahead may next e later c d m r same) = some_none other.installed next e b.without
