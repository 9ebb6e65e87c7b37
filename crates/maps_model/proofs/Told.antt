-- A node that enters an epoch: what its manager has of it, or will have, agrees with what it says.
use Rattle.std.proofs.Common.{◌≡◌, ◌⊎◌, inl, inr, ⊎_elim, ℕ, Bool, true, false, List, Option, Some, None, refl, sym, ap, ◌∙◌, subst, true≢false, arith}
use Rattle.mail_model.specs.Identity.{EpochId}
use Rattle.object_model.specs.Letters.{Member, Membership, Row, Letter}
use Rattle.object_model.specs.Lists.{Among}
use Rattle.maps_model.specs.Epochs.{IsBefore}
use Rattle.maps_model.specs.Cluster.{Node, Disk, Slot, slot_at, slot_up, epoch_in, epoch_of, member_of, NamesNode, Comes, manager_of}
use Rattle.maps_model.specs.Cluster.Life.{Up}
use Rattle.maps_model.specs.Words.{Known, HasEntered, IsKeptRow, IsOneOf, IsReport, IsAck, RowFits, IsUntold, IsLatest, Agrees, RowFor}
use Rattle.maps_model.specs.Words.RowFor.{Stands, WillDrop, WillKeep, Ahead}
use Rattle.maps_model.specs.Moves.{NodeAct, IsAct, WasUp, BeginsBoot, RowFrom, TellsItself, Unmarked}
use Rattle.maps_model.specs.Moves.RowFrom.{Stood, Kept, Fell, Took, Told}
use Rattle.maps_model.specs.Moves.Unmarked.{Still, Cleared, Own, Spared}
use Rattle.maps_model.specs.Rules.{own_row, KeepsAny, IsRowKept, IsSpared}
use Rattle.maps_model.specs.Parts.{AllInOrder, OneEach, Joins, Spoken, Reported}
use Rattle.maps_model.specs.Parts as parts
use Rattle.maps_model.proofs.Order.{before_same, same_before, before_not_same}
use Rattle.maps_model.proofs.Lists.{among_either, same_some, some_none, read_after}
use Rattle.maps_model.proofs.Acting.{After, Flying, is_in_order}
use Rattle.maps_model.proofs.Memberships.{one_acted}
use Rattle.maps_model.proofs.Speaking.{comes_from}
use Rattle.maps_model.proofs.Telling.{up_life, same_up, same_disk, not_past, none_reported, none_acked}
use Rattle.maps_model.proofs.Rows.{installed_of}
use Rattle.maps_model.proofs.Going.{told_itself, stood, due_now, same_full, at_old, says_now, on}
use Rattle.maps_model.proofs.Agreeing.{QuietOn, agrees_on}
use Rattle.maps_model.proofs.Agreeing.RowOn.{Stays}
use Rattle.maps_model.proofs.Agreeing.QuietOn.{Was, Latest}

module _ (slots : List Slot) (flying : List Letter) (act : NodeAct) (here : slot_at slots act.node ≡ Some act.before) (is : IsAct act)
    (flew : (letter : Letter) → act.heard ≡ Some letter → Among letter flying × (letter.to ≡ act.node)) (order : AllInOrder slots) (one : OneEach slots flying)
    (joins : Joins slots flying) (spoken : Spoken slots flying) (reported : Reported slots flying) (told : parts.RowsAgree slots flying) where
  abbrev Slots : List Slot
  Slots = After slots flying act here is flew order

  abbrev Letters : List Letter
  Letters = Flying slots flying act here is flew order

  later : OneEach Slots Letters
  later = one_acted slots flying act here is flew order one

  module _ (n : ℕ) (node : Node) (disk : Disk) (at : slot_at Slots n ≡ Some (slot_up node disk)) (g : Membership) (installed : node.installed ≡ Some g) (user : List ℕ) (manager : ℕ)
      (managed : manager_of g user ≡ Some manager) (other : Node) (its : Disk) (atm : slot_at Slots manager ≡ Some (slot_up other its))
      (row : Option Row) (epoch : EpochId) (counts : RowFor manager other g n node.boot user row epoch) where
    known : Known Slots Letters g
    known = inl (record { n = n; node = node; disk = disk; here = at; is = installed })

    module _ (mine : n ≡ act.node) (f : act.after.life ≡ Up node) (d : act.after.disk ≡ disk) (w : WasUp act node) (before : IsBefore (epoch_of w.old) (epoch_of node)) (promised : epoch_of node ≡ node.promise) where
      abbrev Agreement : Type 0
      Agreement = Agrees Letters n user g.epoch epoch row (node.version user) (disk.holds user) (node.marked user)

      early : IsBefore (epoch_of w.old) g.epoch
      early = before_same (epoch_of w.old) (epoch_of node) g.epoch before (ap epoch_in installed)

      not_stays : w.old.installed ≡ node.installed → ⊥
      not_stays e = before_not_same (epoch_of w.old) (epoch_of node) before (ap epoch_in e)

      at0 : slot_at slots n ≡ Some (slot_up w.old act.before.disk)
      at0 = at_old slots flying act here is flew order one joins spoken reported told n node disk at g installed user manager managed other its atm row epoch counts mine f d w

      names : NamesNode g n node.boot
      names = subst (λ k. NamesNode g k node.boot) (sym mine) ((is_in_order slots flying act here is flew order node f).installed g installed).1

      -- the node comes from the epoch in which it was
      came : (e : EpochId) → Comes g n node.boot e → epoch_of w.old ≡ e
      came e c = comes_from slots flying act here is flew order one joins spoken w.old node w.is f w.boot before promised g installed node.boot e refl (subst (λ k. Comes g k node.boot e) mine c)

      comes : Comes g n node.boot (epoch_of w.old)
      comes = record { member = names.member; is = names.is; same = names.same; from = sym (came names.member.was (record { member = names.member; is = names.is; same = names.same; from = refl })) }

      names_old : NamesNode g n w.old.boot
      names_old = subst (λ b. NamesNode g n b) (sym w.boot) names

      no_report : (letter : Letter) → Among letter flying → letter.from ≡ n → letter.epoch ≡ g.epoch → (boot : ℕ) (r : Row) → IsReport letter user boot r → ⊥
      no_report letter m from same boot r h = none_reported slots flying act here is flew order one joins spoken n w.old act.before.disk at0 g known names_old early letter m from same user boot r h

      no_ack : (letter : Letter) → Among letter flying → letter.to ≡ n → letter.epoch ≡ g.epoch → (version : ℕ) → IsAck letter user version → ⊥
      no_ack letter m to same version h = none_acked slots flying act here is flew order one joins spoken n w.old act.before.disk at0 g known names_old early letter m to same user version h

      no_new_ack : (letter : Letter) → Among letter act.out → letter.to ≡ n → ⊥
      no_new_ack letter m to = (is.membership.sent letter m).1 (to ∙ mine)

      due : (letter : Letter) → Among letter act.out → (boot : ℕ) (r : Row) → IsReport letter user boot r → node.marked user ≡ true
      due = due_now slots flying act here is flew order one joins spoken reported told n node disk at g installed user manager managed other its atm row epoch counts mine f d

      full_is : (x : Bool) → act.after.disk.holds user ≡ x → disk.holds user ≡ x
      full_is = same_full slots flying act here is flew order one joins spoken reported told n node disk at g installed user manager managed other its atm row epoch counts mine f d w

      itself : TellsItself act node user → IsLatest row (node.version user)
      itself t = told_itself slots flying act here is flew order one joins spoken reported told n node disk at g installed user manager managed other its atm row epoch counts mine f d t

      -- a membership in which the node was
      old_known : (x : Membership) → w.old.installed ≡ Some x → Known slots flying x
      old_known x e = inl (record { n = n; node = w.old; disk = act.before.disk; here = at0; is = e })

      quiet : (a b : EpochId) → Unmarked act w.old node user → QuietOn flying n node.boot user a b row (w.old.version user) (node.version user) (act.before.disk.holds user) (disk.holds user) (w.old.marked user)
      quiet a b (Still e none same) = absurd (not_stays e)
      quiet a b (Cleared e heard same) = absurd (not_stays e)
      quiet a b (Own t) = Latest (itself t)
      quiet a b (Spared x e lt none same why) = Was none same.version (full_is (act.before.disk.holds user) same.full)

      -- Where the row counted in the node's old epoch, it agreed there.
      from_old : (g0 : Membership) → w.old.installed ≡ Some g0 → manager_of g0 user ≡ Some manager → (m_old : Node) (m_its : Disk) → slot_at slots manager ≡ Some (slot_up m_old m_its)
          → (had : Option Row) (epoch0 : EpochId) → RowFor manager m_old g0 n node.boot user had epoch0 → row ≡ had
          → ((letter : Letter) → Among letter flying → letter.from ≡ n → IsOneOf g.epoch epoch letter.epoch → (boot : ℕ) (r : Row) → IsReport letter user boot r → IsOneOf g0.epoch epoch0 letter.epoch)
          → ((letter : Letter) → Among letter flying → letter.to ≡ n → IsOneOf g.epoch epoch letter.epoch → (version : ℕ) → IsAck letter user version → IsOneOf g0.epoch epoch0 letter.epoch)
          → Agreement
      from_old g0 inst0 managed0 m_old m_its at_m had epoch0 counts0 same reports acks =
          agrees_on flying act.out n node.boot user g0.epoch epoch0 g.epoch epoch had row (w.old.version user) (node.version user) (act.before.disk.holds user) (disk.holds user) (w.old.marked user) (node.marked user)
          (told.each n w.old act.before.disk at0 g0 inst0 user manager managed0 m_old m_its at_m had epoch0 (subst (λ b. RowFor manager m_old g0 n b user had epoch0) (sym w.boot) counts0))
          reports acks
          (λ r way. reported.fits n w.old act.before.disk at0 way.letter way.inside way.from user node.boot r way.is (sym w.boot))
          (says_now slots flying act here is flew order one joins spoken reported told n node disk at g installed user manager managed other its atm row epoch counts mine f d w)
          (Stays same)
          (λ none. quiet g0.epoch epoch0 (is.maps.unmarked w.old node w.is f user none))
          (λ letter m from in_ boot r h. due letter m boot r h)
          (λ letter m to in_ version h. absurd (no_new_ack letter m to))

      -- no letter of the new epoch is on its way
      module _ (within : epoch ≡ g.epoch) where
        in_new : (x : EpochId) → IsOneOf g.epoch epoch x → x ≡ g.epoch
        in_new x (inl e) = e
        in_new x (inr e) = e ∙ within

        untold : row ≡ None → disk.holds user ≡ false → node.marked user ≡ false → IsUntold Letters n user g.epoch epoch row (disk.holds user)
        untold none empty unmarked = record {
          missing = none;
          empty = empty;
          silent = λ letter m from in_ boot r h. ⊎_elim
              (λ old. no_report letter old from (in_new letter.epoch in_) boot r h)
              (λ new. true≢false (sym (due letter new boot r h) ∙ unmarked))
              (among_either letter flying act.out m);
        }

        new_ack_none : (letter : Letter) → Among letter Letters → letter.to ≡ n → IsOneOf g.epoch epoch letter.epoch → (version : ℕ) → IsAck letter user version → ⊥
        new_ack_none letter m to in_ version h = ⊎_elim
            (λ old. no_ack letter old to (in_new letter.epoch in_) version h)
            (λ new. no_new_ack letter new to)
            (among_either letter flying act.out m)

        -- The manager has no row of the node.
        without_row : row ≡ None → (IsSpared w.old g user → Agreement) → Agreement
        without_row none spared = record {
          fits = λ r e. absurd (some_none row r e none);
          acked = λ letter m to in_ version h. absurd (new_ack_none letter m to in_ version h);
          unmarked = λ unmarked. by unmarked (is.maps.unmarked w.old node w.is f user unmarked);
        }
          where
            by : node.marked user ≡ false → Unmarked act w.old node user → IsUntold Letters n user g.epoch epoch row (disk.holds user) ⊎ IsLatest row (node.version user)
            by unmarked (Still e x same) = absurd (not_stays e)
            by unmarked (Cleared e heard same) = absurd (not_stays e)
            by unmarked (Own t) = inr (itself t)
            by unmarked (Spared x e lt y same (inl empty)) = inl (untold none (full_is false empty) unmarked)
            by unmarked (Spared x e lt y same (inr s)) = (spared (subst (λ (z : Membership). IsSpared w.old z user) (same_some node.installed x g e installed) s)).unmarked unmarked

        own_now : (own : Row) → own.version ≡ node.version user → own.full ≡ disk.holds user → row ≡ Some own → Agreement
        own_now own v f is_own = record {
          fits = λ r e. subst (λ x. RowFits x (node.version user) (disk.holds user)) (same_some row own r is_own e) (record { bounded = omega (arith, v); same = λ _. f });
          acked = λ letter m to in_ version h. absurd (new_ack_none letter m to in_ version h);
          unmarked = λ unmarked. inr (record { found = own; is = is_own; latest = v });
        }

      -- the node's manager is another node
      module _ (at_m : slot_at slots manager ≡ Some (slot_up other its)) where
        m_known : (x : Membership) → other.installed ≡ Some x → Known slots flying x
        m_known x e = inl (record { n = manager; node = other; disk = its; here = at_m; is = e })

        -- it has gone ahead into the epoch that the node enters now
        gone_ahead : KeepsAny → other.installed ≡ Some g → row ≡ other.rows n node.boot user → epoch ≡ g.epoch → (g0 : Membership) → w.old.installed ≡ Some g0 → manager_of g0 user ≡ Some manager
            → Comes g manager other.boot g0.epoch → Comes g n node.boot g0.epoch → Agreement
        gone_ahead may e r same g0 inst0 managed0 own_comes its_comes = from_old g0 inst0 managed0 other its at_m (other.rows n node.boot user) g.epoch
            (Ahead may g e (same_before g0.epoch (epoch_of w.old) g.epoch (sym (ap epoch_in inst0)) early) own_comes its_comes managed refl refl) r
            (λ letter m from in_ boot x h. inr (in_new same letter.epoch in_))
            (λ letter m to in_ version h. inr (in_new same letter.epoch in_))

        kept_row : other.installed ≡ Some g → row ≡ other.rows n node.boot user → epoch ≡ g.epoch → IsKeptRow slots flying manager other n node.boot user → Agreement
        kept_row e r same k =
            let k_is : k.membership ≡ g = same_some other.installed k.membership g k.installed e in
            let its_comes : Comes g n node.boot k.was = subst (λ (x : Membership). Comes x n node.boot k.was) k_is k.comes in
            let own_comes : Comes g manager other.boot k.was = subst (λ (x : Membership). Comes x manager other.boot k.was) k_is k.own_comes in
            let o = installed_of w.old k.was (came k.was its_comes) k.counted in
            gone_ahead k.allowed e r same o.0 o.1 (k.managed o.0 (old_known o.0 o.1) o.2)
            (subst (λ x. Comes g manager other.boot x) (sym o.2) own_comes) (subst (λ x. Comes g n node.boot x) (sym o.2) its_comes)

        -- the node spares the user, so that its manager came from the same epoch
        same_manager : (s : IsSpared w.old g user) → manager_of s.old user ≡ Some manager
        same_manager s = s.before ∙ ap Some (same_some (manager_of g user) s.manager manager s.after managed)

        same_member : (s : IsSpared w.old g user) → member_of g.members manager ≡ Some s.member
        same_member s = subst (λ k. member_of g.members k ≡ Some s.member) (same_some (manager_of g user) s.manager manager s.after managed) s.is

        its_comes_from : (s : IsSpared w.old g user) → Comes g n node.boot s.old.epoch
        its_comes_from s = subst (λ e. Comes g n node.boot e) (ap epoch_in s.installed) comes

        in_it : other.installed ≡ Some g → row ≡ other.rows n node.boot user → epoch ≡ g.epoch → Agreement
        in_it e r same = by (other.rows n node.boot user) refl
          where
            spared : IsSpared w.old g user → Agreement
            spared s =
                let m_names = ((order.each manager (slot_up other its) at_m).installed g e).1 in
                let booted : s.member.boot ≡ other.boot = ap (λ (m : Member). m.boot) (same_some (member_of g.members manager) s.member m_names.member (same_member s) m_names.is) ∙ m_names.same in
                gone_ahead s.allowed e r same s.old s.installed (same_manager s) (record { member = s.member; is = same_member s; same = booted; from = s.from }) (its_comes_from s)

            by : (x : Option Row) → other.rows n node.boot user ≡ x → Agreement
            by None none = without_row same (r ∙ none) spared
            by (Some found) some = ⊎_elim
                (λ entered. absurd (not_past slots flying act here is flew order one joins spoken n w.old act.before.disk at0 node.boot g.epoch (sym w.boot) early
                (subst (HasEntered slots n node.boot) (ap epoch_in e) entered)))
                (λ k. kept_row e r same k)
                (spoken.rows manager other its at_m n node.boot user found some)

        will_drop : Comes g manager other.boot (epoch_of other) → (IsRowKept manager other g n node.boot user → ⊥) → row ≡ None → epoch ≡ g.epoch → Agreement
        will_drop c never r same = without_row same r (λ s.
            let was_in : epoch_of other ≡ s.old.epoch = sym c.from ∙ ap (λ (m : Member). m.was) (same_some (member_of g.members manager) c.member s.member c.is (same_member s)) ∙ s.from in
            let s_known = old_known s.old s.installed in
            let o = installed_of other s.old.epoch was_in (one.counted s.old s_known) in
            let o_is : o.0 ≡ s.old = one.one o.0 s.old (m_known o.0 o.1) s_known o.2 in
            absurd (never (record {
              old = s.old;
              installed = o.1 ∙ ap Some o_is;
              managed = same_manager s;
              manages = managed;
              comes = its_comes_from s;
              allowed = s.allowed;
            })))

        will_keep : IsRowKept manager other g n node.boot user → row ≡ other.rows n node.boot user → epoch ≡ epoch_of other → Agreement
        will_keep k r same =
            let k_known = m_known k.old k.installed in
            let o = installed_of w.old k.old.epoch (came k.old.epoch k.comes) (one.counted k.old k_known) in
            let o_is : o.0 ≡ k.old = one.one o.0 k.old (old_known o.0 o.1) k_known o.2 in
            let then_in : epoch ≡ k.old.epoch = same ∙ ap epoch_in k.installed in
            from_old k.old (o.1 ∙ ap Some o_is) k.managed other its at_m (other.rows n node.boot user) k.old.epoch (Stands k.installed refl refl) r
            (λ letter m from in_ boot x h. ⊎_elim (λ e. absurd (no_report letter m from e boot x h)) (λ e. inl (e ∙ then_in)) in_)
            (λ letter m to in_ version h. ⊎_elim (λ e. absurd (no_ack letter m to e version h)) (λ e. inl (e ∙ then_in)) in_)

        not_ahead : (next : Membership) → other.installed ≡ Some next → Comes next n node.boot g.epoch → ⊥
        not_ahead next e c = ⊎_elim
            (λ none. omega (arith, later.counted g known, ap (λ (x : EpochId). x.count) none))
            (λ h. not_past slots flying act here is flew order one joins spoken n w.old act.before.disk at0 node.boot g.epoch (sym w.boot) early h.1)
            (joins.named next (m_known next e) n node.boot g.epoch c).1

        other_manages : RowFor manager other g n node.boot user row epoch → Agreement
        other_manages (Stands e r same) = in_it e r same
        other_manages (WillDrop lt c never r same) = will_drop c never r same
        other_manages (WillKeep lt c k r same) = will_keep k r same
        other_manages (Ahead may next e after c its_c m r same) = absurd (not_ahead next e its_c)

      -- the node manages the user itself
      module _ (managing : manager ≡ act.node) (same_one : other ≡ node) where
        itself_manages : row ≡ node.rows n node.boot user → epoch ≡ g.epoch → RowFrom act w.old node n node.boot user → Agreement
        itself_manages r same (Stood e x) = absurd (not_stays e)
        itself_manages r same (Took t) = absurd (not_stays t.within)
        itself_manages r same (Told a b tells) = own_now same (own_row act.node node act.after.disk user) refl (λ i. (d i).holds user) (r ∙ tells)
        itself_manages r same (Kept x e lt k kept) = from_old k.old k.installed (k.managed ∙ ap Some (sym managing)) w.old act.before.disk
            (subst (λ j. slot_at slots j ≡ Some (slot_up w.old act.before.disk)) (mine ∙ sym managing) at0)
            (w.old.rows n node.boot user) k.old.epoch (Stands k.installed refl refl) (r ∙ kept)
            (λ letter m from in_ boot y h. absurd (no_report letter m from (in_new same letter.epoch in_) boot y h))
            (λ letter m to in_ version h. absurd (no_ack letter m to (in_new same letter.epoch in_) version h))
        itself_manages r same (Fell x e lt never none) = without_row same (r ∙ none) (λ s.
            let x_is : g ≡ x = same_some node.installed g x installed e in
            let the_manager : s.manager ≡ act.node = same_some (manager_of g user) s.manager manager s.after managed ∙ managing in
            absurd (never (subst (λ (y : Membership). IsRowKept act.node w.old y n node.boot user) x_is (record {
              old = s.old;
              installed = s.installed;
              managed = s.before ∙ ap Some the_manager;
              manages = managed ∙ ap Some managing;
              comes = subst (λ z. Comes g n node.boot z) (ap epoch_in s.installed) comes;
              allowed = s.allowed;
            }))))

        self_manages : RowFor manager other g n node.boot user row epoch → Agreement
        self_manages (Stands e r same) = itself_manages (r ∙ ap (λ (x : Node). x.rows n node.boot user) same_one) same (is.maps.rows w.old node w.is f n node.boot user)
        self_manages (WillDrop lt c never r same) = absurd (before_not_same (epoch_of other) g.epoch lt (ap epoch_of same_one ∙ ap epoch_in installed))
        self_manages (WillKeep lt c k r same) = absurd (before_not_same (epoch_of other) g.epoch lt (ap epoch_of same_one ∙ ap epoch_in installed))
        self_manages (Ahead may next e after c its_c m r same) = absurd (before_not_same g.epoch next.epoch after (sym (ap epoch_in installed) ∙ sym (ap epoch_of same_one) ∙ ap epoch_in e))

      enters : Agreement
      enters = ⊎_elim
          (λ m. self_manages m.0 (same_up slots flying act here is flew order one joins spoken other node (up_life slots flying act here is flew order one joins spoken other its m.1) f) counts)
          (λ apart. other_manages apart.1 counts)
          (read_after slots act.node manager act.before act.after (slot_up other its) here atm)

    each : Agrees Letters n user g.epoch epoch row (node.version user) (disk.holds user) (node.marked user)
    each = ⊎_elim
        (λ mine.
        let f = up_life slots flying act here is flew order one joins spoken node disk mine.1 in
        let d = same_disk slots flying act here is flew order one joins spoken node disk mine.1 in
        ⊎_elim
        (λ (w : WasUp act node). ⊎_elim
        (λ inst. on slots flying act here is flew order one joins spoken reported told n node disk at g installed user manager managed other its atm row epoch counts mine.0 f d w inst)
        (λ e. enters mine.0 f d w e.0 e.1)
        w.epochs)
        (λ (b : BeginsBoot act node). absurd (some_none node.installed g installed b.without))
        (is.lives node f))
        (λ apart. stood slots flying act here is flew order one joins spoken reported told n node disk at g installed user manager managed other its atm row epoch counts apart.0 apart.1)
        (read_after slots act.node n act.before act.after (slot_up node disk) here at)

  pub told_acted : parts.RowsAgree Slots Letters
  told_acted = record { each = each }
