-- A node that goes on in its epoch: rows agree with what it says.
use Rattle.std.proofs.Common.{◌≡◌, ◌≢◌, inl, ⊎_elim, ℕ, Bool, true, false, List, Option, Some, refl, sym, ap, ◌∙◌, subst, arith}
use Rattle.mail_model.specs.Identity.{EpochId}
use Rattle.object_model.specs.Letters.{Membership, Row, Letter}
use Rattle.object_model.specs.Lists.{Among}
use Rattle.maps_model.specs.Epochs.{IsBefore}
use Rattle.maps_model.specs.Cluster.{Node, Disk, Slot, slot_at, slot_up, epoch_in, epoch_of, NamesNode, manager_of}
use Rattle.maps_model.specs.Cluster.Life.{Up}
use Rattle.maps_model.specs.Words.{Known, IsOver, IsOneOf, IsReport, IsAck, HasAtLeast, IsLatest, Agrees, RowFor}
use Rattle.maps_model.specs.Words.RowFor.{Stands, WillDrop, WillKeep, Ahead}
use Rattle.maps_model.specs.Moves.{NodeAct, IsAct, WasUp, TellsItself, Unmarked, SendsAck}
use Rattle.maps_model.specs.Moves.Unmarked.{Still, Cleared, Own, Spared}
use Rattle.maps_model.specs.Rules.{own_row}
use Rattle.maps_model.specs.Parts.{AllInOrder, OneEach, Joins, Spoken, Reported}
use Rattle.maps_model.specs.Parts as parts
use Rattle.maps_model.proofs.Order.{before_not_same}
use Rattle.maps_model.proofs.Lists.{same_some}
use Rattle.maps_model.proofs.Acting.{After, Flying, known_after, was_here, formed_not_over}
use Rattle.maps_model.proofs.Memberships.{one_acted}
use Rattle.maps_model.proofs.Telling.{one_boot, names_of, says_on, none_reported}
use Rattle.maps_model.proofs.Rows.{at_act, life_of, same_node, manager_was}
use Rattle.maps_model.proofs.Agreeing.{SaysOn, QuietOn, agrees_on}
use Rattle.maps_model.proofs.Agreeing.QuietOn.{Was, Acked, Latest}

-- where the manager is in the epoch too, its row counts
pub row_now : (own : ℕ) (other : Node) (g : Membership) (n boot : ℕ) (user : List ℕ) (row : Option Row) (epoch : EpochId) → RowFor own other g n boot user row epoch → epoch_of other ≡ g.epoch → row ≡ other.rows n boot user
row_now own other g n boot user row epoch (Stands e r same) h = r
row_now own other g n boot user row epoch (WillDrop lt comes never r same) h = absurd (before_not_same (epoch_of other) g.epoch lt h)
row_now own other g n boot user row epoch (WillKeep lt comes k r same) h = r
row_now own other g n boot user row epoch (Ahead may next e later c d m r same) h = r

module _ (slots : List Slot) (flying : List Letter) (act : NodeAct) (here : slot_at slots act.node ≡ Some act.before) (is : IsAct act)
    (flew : (letter : Letter) → act.heard ≡ Some letter → Among letter flying × (letter.to ≡ act.node)) (order : AllInOrder slots) (one : OneEach slots flying)
    (joins : Joins slots flying) (spoken : Spoken slots flying) (reported : Reported slots flying) (told : parts.RowsAgree slots flying) where
  abbrev Slots : List Slot
  Slots = After slots flying act here is flew order

  abbrev Letters : List Letter
  Letters = Flying slots flying act here is flew order

  later : OneEach Slots Letters
  later = one_acted slots flying act here is flew order one

  module _ (n : ℕ) (node : Node) (disk : Disk) (at : slot_at Slots n ≡ Some (slot_up node disk)) (g : Membership) (installed : node.installed ≡ Some g) (user : List ℕ) (manager : ℕ)
      (managed : manager_of g user ≡ Some manager) (other : Node) (its : Disk) (atm : slot_at Slots manager ≡ Some (slot_up other its))
      (row : Option Row) (epoch : EpochId) (counts : RowFor manager other g n node.boot user row epoch) where
    the_other : manager ≡ act.node → (new : Node) → act.after.life ≡ Up new → new ≡ other
    the_other mine new e = same_node slots flying act here is flew order one joins spoken new other e
        (life_of slots flying act here is flew order one joins spoken other its (at_act slots flying act here is flew order one joins spoken manager other its atm mine))

    -- where the node tells its own row, that is what the manager has
    pub told_itself : n ≡ act.node → act.after.life ≡ Up node → act.after.disk ≡ disk → TellsItself act node user → IsLatest row (node.version user)
    told_itself mine f d t =
        let managing : manager ≡ act.node = same_some (manager_of g user) manager act.node managed (t.manager g installed) in
        let same : node ≡ other = the_other managing node f in
        let its_row : row ≡ other.rows n node.boot user = row_now manager other g n node.boot user row epoch counts (ap epoch_of (sym same) ∙ ap epoch_in installed) in
        let moved : node.rows act.node node.boot user ≡ other.rows n node.boot user = λ i. (same i).rows ((sym mine) i) node.boot user in
        record { found = own_row act.node node act.after.disk user; is = its_row ∙ sym moved ∙ t.told; latest = refl }

    module _ (old : Node) (disk0 : Disk) (at0 : slot_at slots n ≡ Some (slot_up old disk0)) (inst : old.installed ≡ Some g) (booted : old.boot ≡ node.boot) where
      known0 : Known slots flying g
      known0 = inl (record { n = n; node = old; disk = disk0; here = at0; is = inst })

      names0 : NamesNode g n node.boot
      names0 = subst (λ b. NamesNode g n b) booted ((order.each n (slot_up old disk0) at0).installed g inst).1

      other_known : (x : Membership) → other.installed ≡ Some x → Known Slots Letters x
      other_known x e = inl (record { n = manager; node = other; disk = its; here = atm; is = e })

      -- an acknowledgement that goes out is of what the row says by now
      module _ (letter : Letter) (m : Among letter act.out) (to : letter.to ≡ n) (version : ℕ) (h : IsAck letter user version) where
        abbrev s : SendsAck act letter user version
        s = is.maps.acks letter m user version h

        abbrev report : Letter
        report = s.heard.letter

        heard_in : Among report flying
        heard_in = (flew report s.heard.is).0

        from_n : report.from ≡ n
        from_n = s.heard.holds.0 ∙ to

        -- the membership of a Report that was heard was known before
        known_before : (x : Membership) → Known Slots Letters x → x.epoch ≡ letter.epoch → Known slots flying x
        known_before x known same = ⊎_elim
            (λ before. before)
            (λ forms. absurd (formed_not_over slots flying act here is flew order x forms (subst (IsOver slots) (s.heard.holds.1 ∙ sym same) (spoken.report_over report heard_in user s.boot s.row s.heard.holds.2))))
            (known_after slots flying act here is flew order x known)

        -- a manager of the Report's epoch sent the acknowledgement
        sender : (x : Membership) → Known slots flying x → x.epoch ≡ letter.epoch → manager_of x user ≡ Some manager → manager ≡ act.node
        sender x known same m_of = same_some (manager_of x user) manager report.to m_of
            (reported.to report heard_in user s.boot s.row s.heard.holds.2 x known (same ∙ sym s.heard.holds.1)) ∙ (flew report s.heard.is).1

        -- in the boot in which the node is
        its_boot : (x : Membership) → Known slots flying x → x.epoch ≡ letter.epoch → NamesNode x n node.boot → s.boot ≡ node.boot
        its_boot x known same names =
            let all = (spoken.reported report heard_in user s.boot s.row s.heard.holds.2).1 in
            one_boot x n s.boot node.boot (subst (λ k. NamesNode x k s.boot) from_n (all x known (same ∙ sym s.heard.holds.1))) names

        answers : (x : Membership) → Known slots flying x → x.epoch ≡ letter.epoch → manager_of x user ≡ Some manager → NamesNode x n node.boot → row ≡ other.rows n node.boot user → HasAtLeast row version
        answers x known same m_of names r =
            let mine = sender x known same m_of in
            let new_is : s.new ≡ other = the_other mine s.new s.is in
            let moved : s.new.rows letter.to s.boot user ≡ other.rows n node.boot user = λ i. (new_is i).rows (to i) ((its_boot x known same names) i) user in
            subst (λ y. HasAtLeast y version) (moved ∙ sym r) s.has

        -- the sender's epoch
        sent_in : manager ≡ act.node → epoch_of other ≡ letter.epoch
        sent_in mine = ap epoch_of (sym (the_other mine s.new s.is)) ∙ ap epoch_in s.installed ∙ s.epoch

        now : letter.epoch ≡ g.epoch → HasAtLeast row version
        now same =
            let mine = sender g known0 (sym same) managed in
            answers g known0 (sym same) managed names0 (row_now manager other g n node.boot user row epoch counts (sent_in mine ∙ same))

        by : RowFor manager other g n node.boot user row epoch → letter.epoch ≡ epoch → HasAtLeast row version
        by (Stands e r same) h = now (h ∙ same)
        by (WillDrop lt comes never r same) h = now (h ∙ same)
        by (WillKeep lt comes k r same) h =
            let in_k : k.old.epoch ≡ letter.epoch = sym (ap epoch_in k.installed) ∙ sym same ∙ sym h in
            let known = known_before k.old (other_known k.old k.installed) in_k in
            let names : NamesNode k.old n node.boot = ⊎_elim
            (λ none. absurd (omega (arith, one.counted k.old known, ap (λ (e : EpochId). e.count) none)))
            (λ w. w.2 k.old known refl)
            (joins.named g known0 n node.boot k.old.epoch k.comes).1 in
            answers k.old known in_k k.managed names r
        by (Ahead may next e after c d m_of r same) h = absurd (none_reported slots flying act here is flew order one joins spoken n old disk0 at0 next (other_known next e)
            (subst (λ b. NamesNode next n b) (sym booted) (names_of next n node.boot g.epoch d))
            (subst (λ x. IsBefore x next.epoch) (sym (ap epoch_in inst)) after)
            report heard_in from_n (s.heard.holds.1 ∙ h ∙ same) user s.boot s.row s.heard.holds.2)

        pub acks_now : IsOneOf g.epoch epoch letter.epoch → HasAtLeast row version
        acks_now in_ = ⊎_elim (λ e. now e) (λ e. by counts e) in_

      module _ (says : SaysOn (old.version user) (node.version user) (disk0.holds user) (disk.holds user))
          (quiet : (epoch0 : EpochId) → node.marked user ≡ false → QuietOn flying n node.boot user g.epoch epoch0 row (old.version user) (node.version user) (disk0.holds user) (disk.holds user) (old.marked user))
          (due : (letter : Letter) → Among letter act.out → letter.from ≡ n → (boot : ℕ) (told : Row) → IsReport letter user boot told → node.marked user ≡ true) where
        pub goes_on : Agrees Letters n user g.epoch epoch row (node.version user) (disk.holds user) (node.marked user)
        goes_on =
            let m = manager_was slots flying act here is flew order one joins spoken n node disk at g installed user manager managed old disk0 at0 inst booted other its atm row epoch counts in
            agrees_on flying act.out n node.boot user g.epoch m.epoch0 g.epoch epoch m.had row (old.version user) (node.version user) (disk0.holds user) (disk.holds user) (old.marked user) (node.marked user)
            (told.each n old disk0 at0 g inst user manager managed m.old m.its m.at0 m.had m.epoch0 (subst (λ b. RowFor manager m.old g n b user m.had m.epoch0) (sym booted) m.counts))
            m.reports_in m.acks_in
            (λ r way. reported.fits n old disk0 at0 way.letter way.inside way.from user node.boot r way.is (sym booted))
            says m.on (quiet m.epoch0)
            (λ letter m_in from in_ boot r h. due letter m_in from boot r h)
            (λ letter m_in to in_ version h. acks_now letter m_in to version h in_)

    -- a node that did not act
    pub stood : n ≢ act.node → slot_at slots n ≡ Some (slot_up node disk) → Agrees Letters n user g.epoch epoch row (node.version user) (disk.holds user) (node.marked user)
    stood apart at0 = goes_on node disk at0 installed refl (inl (refl, refl)) (λ epoch0 none. Was none refl refl)
        (λ letter m from boot r h. absurd (apart (sym from ∙ (is.membership.sent letter m).0)))

    module _ (mine : n ≡ act.node) (f : act.after.life ≡ Up node) (d : act.after.disk ≡ disk) where
      -- a Report goes out of what is marked
      pub due_now : (letter : Letter) → Among letter act.out → (boot : ℕ) (r : Row) → IsReport letter user boot r → node.marked user ≡ true
      due_now letter m boot r h =
          let s = is.maps.reports letter m user boot r h in
          subst (λ (x : Node). x.marked user ≡ true) (same_node slots flying act here is flew order one joins spoken s.new node s.is f) s.due

      module _ (w : WasUp act node) where
        pub same_full : (x : Bool) → act.after.disk.holds user ≡ x → disk.holds user ≡ x
        same_full x e = sym (ap (λ (k : Disk). k.holds user) d) ∙ e

        pub at_old : slot_at slots n ≡ Some (slot_up w.old act.before.disk)
        at_old = subst (λ k. slot_at slots k ≡ Some (slot_up w.old act.before.disk)) (sym mine) (was_here slots flying act here is flew order w.old w.is)

        pub says_now : SaysOn (w.old.version user) (node.version user) (act.before.disk.holds user) (disk.holds user)
        says_now = subst (λ (k : Disk). SaysOn (w.old.version user) (node.version user) (act.before.disk.holds user) (k.holds user)) d (says_on slots flying act here is flew order one joins spoken w.old node w.is f user)

        quiet_now : w.old.installed ≡ node.installed → (epoch0 : EpochId) → Unmarked act w.old node user
            → QuietOn flying n node.boot user g.epoch epoch0 row (w.old.version user) (node.version user) (act.before.disk.holds user) (disk.holds user) (w.old.marked user)
        quiet_now inst epoch0 (Still e none same) = Was none same.version (same_full (act.before.disk.holds user) same.full)
        quiet_now inst epoch0 (Cleared e heard same) = Acked (record {
          letter = heard.letter;
          inside = (flew heard.letter heard.is).0;
          to = (flew heard.letter heard.is).1 ∙ sym mine;
          same = inl (heard.holds.0 ∙ ap epoch_in installed);
          is = heard.holds.1;
        }) same.version (same_full (act.before.disk.holds user) same.full)
        quiet_now inst epoch0 (Own t) = Latest (told_itself mine f d t)
        quiet_now inst epoch0 (Spared x e before none same why) = absurd (before_not_same (epoch_of w.old) (epoch_of node) before (ap epoch_in inst))

        pub on : w.old.installed ≡ node.installed → Agrees Letters n user g.epoch epoch row (node.version user) (disk.holds user) (node.marked user)
        on inst = goes_on w.old act.before.disk at_old (inst ∙ installed) w.boot says_now
            (λ epoch0 none. quiet_now inst epoch0 (is.maps.unmarked w.old node w.is f user none))
            (λ letter m from boot r h. due_now letter m boot r h)
