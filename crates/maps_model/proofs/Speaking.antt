-- What a node does keeps what Reports, their acknowledgements and rows speak of.
use Rattle.std.proofs.Common.{◌≡◌, ◌⊎◌, inl, inr, ⊎_elim, ℕ, List, Some, refl, sym, ap, ◌∙◌, subst}
use Rattle.mail_model.specs.Identity.{EpochId}
use Rattle.object_model.specs.Letters.{Membership, Row, Letter}
use Rattle.object_model.specs.Lists.{Among}
use Rattle.maps_model.specs.Epochs.{IsBefore, IsAtMost}
use Rattle.maps_model.specs.Cluster.{Node, Slot, slot_at, slot_up, epoch_in, epoch_of, NamesNode, Comes, manager_of}
use Rattle.maps_model.specs.Cluster.Life.{Up}
use Rattle.maps_model.specs.Words.{Known, IsOver, HasEntered, IsPast, AllName, IsStillIn, IsKeptRow, IsReport}
use Rattle.maps_model.specs.Moves.{NodeAct, IsAct, WasUp, BeginsBoot, RowFrom, SendsReport, SendsAck}
use Rattle.maps_model.specs.Moves.RowFrom.{Stood, Kept, Fell, Took, Told}
use Rattle.maps_model.specs.Rules.{IsRowKept}
use Rattle.maps_model.specs.Parts.{AllInOrder, OneEach, Joins, Spoken}
use Rattle.maps_model.proofs.Order.{before_same, before_not_same, most_same}
use Rattle.maps_model.proofs.Lists.{among_either, same_some, some_none, at_same, read_after}
use Rattle.maps_model.proofs.Acting.{After, Flying, known_after, over_more, entered_more, all_name_more, formed_not_over, was_here, is_here, was_in_order, is_in_order}
use Rattle.maps_model.proofs.Memberships.{one_acted, stood_before}

module _ (slots : List Slot) (flying : List Letter) (act : NodeAct) (here : slot_at slots act.node ≡ Some act.before) (is : IsAct act)
    (flew : (letter : Letter) → act.heard ≡ Some letter → Among letter flying × (letter.to ≡ act.node)) (order : AllInOrder slots) (one : OneEach slots flying) (joins : Joins slots flying) where
  abbrev Slots : List Slot
  Slots = After slots flying act here is flew order

  abbrev Letters : List Letter
  Letters = Flying slots flying act here is flew order

  later : OneEach Slots Letters
  later = one_acted slots flying act here is flew order one

  over : (epoch : EpochId) → IsOver slots epoch → IsOver Slots epoch
  over = over_more slots flying act here is flew order

  entered : (n boot : ℕ) (epoch : EpochId) → HasEntered slots n boot epoch → HasEntered Slots n boot epoch
  entered = entered_more slots flying act here is flew order

  -- what the node has installed is known, and it has entered it
  pub known_now : (new : Node) → act.after.life ≡ Up new → (g : Membership) → new.installed ≡ Some g → Known Slots Letters g
  known_now new e g h = inl (record { n = act.node; node = new; disk = act.after.disk; here = is_here slots flying act here is flew order new e; is = h })

  entered_now : (new : Node) → act.after.life ≡ Up new → HasEntered Slots act.node new.boot (epoch_of new)
  entered_now new e = record {
    slot = act.after;
    here = at_same slots act.node act.before act.after here;
    past = inr ((is_in_order slots flying act here is flew order new e).booted, subst (λ l. IsPast l (epoch_of new)) (sym e) (inr refl));
  }

  epoch_now : (new : Node) (g : Membership) → new.installed ≡ Some g → epoch_of new ≡ g.epoch
  epoch_now new g h = ap epoch_in h

  over_now : (new : Node) → act.after.life ≡ Up new → (g : Membership) → new.installed ≡ Some g → (epoch : EpochId) → g.epoch ≡ epoch → IsOver Slots epoch
  over_now new e g h epoch same = subst (IsOver Slots) same (later.over g (known_now new e g h))

  reports_enter : (letter : Letter) → Among letter act.out → (user : List ℕ) (boot : ℕ) (row : Row) → SendsReport act letter user boot row
      → HasEntered Slots letter.from boot letter.epoch × AllName Slots Letters letter.epoch letter.from boot
  reports_enter letter m user boot row s =
      let from = (is.membership.sent letter m).0 in (
        subst (λ n. HasEntered Slots n boot letter.epoch) (sym from)
            (subst (λ b. HasEntered Slots act.node b letter.epoch) (sym s.booted)
            (subst (HasEntered Slots act.node s.new.boot) (epoch_now s.new s.membership s.installed ∙ s.epoch) (entered_now s.new s.is))),
        λ g known same.
            let mine : g ≡ s.membership = later.one g s.membership known (known_now s.new s.is s.membership s.installed) (same ∙ sym s.epoch) in
            let names : NamesNode s.membership act.node s.new.boot = ((is_in_order slots flying act here is flew order s.new s.is).installed s.membership s.installed).1 in
            subst (λ (k : Membership). NamesNode k letter.from boot) (sym mine)
            (subst (λ n. NamesNode s.membership n boot) (sym from) (subst (λ b. NamesNode s.membership act.node b) (sym s.booted) names)),
      )

  module _ (p : Spoken slots flying) where
    old_report : (letter : Letter) → Among letter flying → (user : List ℕ) (boot : ℕ) (row : Row) → IsReport letter user boot row
        → HasEntered Slots letter.from boot letter.epoch × AllName Slots Letters letter.epoch letter.from boot
    old_report letter m user boot row h = let r = p.reported letter m user boot row h in
        (entered letter.from boot letter.epoch r.0, all_name_more slots flying act here is flew order letter.epoch letter.from boot (p.report_over letter m user boot row h) r.1)

    -- an acknowledgement is to the sender of the Report that was heard
    new_ack : (letter : Letter) (user : List ℕ) (version : ℕ) → SendsAck act letter user version
        → (boot : ℕ) × HasEntered Slots letter.to boot letter.epoch × AllName Slots Letters letter.epoch letter.to boot
    new_ack letter user version s =
        let h = s.heard in
        let r = old_report h.letter (flew h.letter h.is).0 user s.boot s.row h.holds.2 in (
          s.boot,
          subst (HasEntered Slots letter.to s.boot) h.holds.1 (subst (λ n. HasEntered Slots n s.boot h.letter.epoch) h.holds.0 r.0),
          subst (λ e. AllName Slots Letters e letter.to s.boot) h.holds.1 (subst (λ n. AllName Slots Letters h.letter.epoch n s.boot) h.holds.0 r.1),
        )

    -- a row that was kept before is kept still
    kept_more : (n : ℕ) (node other : Node) (m boot : ℕ) (user : List ℕ) → node.installed ≡ other.installed → node.boot ≡ other.boot → IsKeptRow slots flying n node m boot user → IsKeptRow Slots Letters n other m boot user
    kept_more n node other m boot user inst booted k = record {
      membership = k.membership;
      installed = sym inst ∙ k.installed;
      was = k.was;
      over = over k.was k.over;
      own_comes = subst (λ b. Comes k.membership n b k.was) booted k.own_comes;
      comes = k.comes;
      managed = λ g known same. ⊎_elim
          (λ old. k.managed g old same)
          (λ forms. absurd (formed_not_over slots flying act here is flew order g forms (subst (IsOver slots) (sym same) k.over)))
          (known_after slots flying act here is flew order g known);
      counted = k.counted;
      allowed = k.allowed;
    }

    -- a node that enters an epoch comes from the one in which it was
    pub comes_from : (old new : Node) → act.before.life ≡ Up old → act.after.life ≡ Up new → old.boot ≡ new.boot → IsBefore (epoch_of old) (epoch_of new) → epoch_of new ≡ new.promise
        → (g : Membership) → new.installed ≡ Some g → (boot : ℕ) (was : EpochId) → boot ≡ new.boot → Comes g act.node boot was → epoch_of old ≡ was
    comes_from old new e f booted before promised g installed boot was same comes =
        let stands = stood_before slots flying act here is flew order one joins g (known_now new f g installed) act.node boot was comes in
        let h = stands.0 in
        let at : h.slot ≡ slot_up old act.before.disk = same_some (slot_at slots act.node) h.slot (slot_up old act.before.disk) h.here (was_here slots flying act here is flew order old e) in
        let o = was_in_order slots flying act here is flew order old e in
        let now : epoch_of new ≡ g.epoch = epoch_now new g installed in
        let after : act.after.disk.promise ≡ g.epoch = sym (is_in_order slots flying act here is flew order new f).promised ∙ sym promised ∙ now in
        let below : IsAtMost g.epoch act.before.disk.promise = subst (λ (s : Slot). IsAtMost g.epoch s.disk.promise) at h.promised in
        let stood : act.before.disk.promise ≡ g.epoch = most_same act.before.disk.promise g.epoch (subst (λ x. IsAtMost act.before.disk.promise x) after is.promises) below in
        let still : IsStillIn (Up old) boot g.epoch was = subst (λ (s : Slot). IsStillIn s.life boot g.epoch was) at h.still in
        still (booted ∙ sym same) (o.promised ∙ stood) (before_same (epoch_of old) (epoch_of new) g.epoch before now)

    -- the same membership, where both are known and of one epoch
    same_one : (a b : Membership) → Known Slots Letters a → Known slots flying b → a.epoch ≡ b.epoch → a ≡ b
    same_one a b x y e = ⊎_elim
        (λ old. one.one a b old y e)
        (λ forms. absurd (formed_not_over slots flying act here is flew order a forms (subst (IsOver slots) (sym e) (one.over b y))))
        (known_after slots flying act here is flew order a x)

    known_old : (old : Node) → act.before.life ≡ Up old → (g : Membership) → old.installed ≡ Some g → Known slots flying g
    known_old old e g h = inl (record { n = act.node; node = old; disk = act.before.disk; here = was_here slots flying act here is flew order old e; is = h })

    -- a row that is kept now
    kept_now : (old new : Node) → act.before.life ≡ Up old → act.after.life ≡ Up new → (w : WasUp act new) → w.old ≡ old → (m boot : ℕ) (user : List ℕ) (g : Membership) → new.installed ≡ Some g
        → IsBefore (epoch_of old) (epoch_of new) → IsRowKept act.node old g m boot user → IsKeptRow Slots Letters act.node new m boot user
    kept_now old new e f w is_old m boot user g installed before k =
        let names = ((is_in_order slots flying act here is flew order new f).installed g installed).1 in
        let booted : old.boot ≡ new.boot = ap (λ (x : Node). x.boot) (sym is_old) ∙ w.boot in
        let promised : epoch_of new ≡ new.promise = ⊎_elim
        (λ inst. absurd (before_not_same (epoch_of old) (epoch_of new) before (ap epoch_of (sym is_old) ∙ ap epoch_in inst)))
        (λ enters. enters.1)
        w.epochs in
        let own : Comes g act.node new.boot names.member.was = record { member = names.member; is = names.is; same = names.same; from = refl } in
        let from : names.member.was ≡ k.old.epoch = sym (comes_from old new e f booted before promised g installed new.boot names.member.was refl own) ∙ ap epoch_in k.installed in
        let known = known_old old e k.old k.installed in
        record {
          membership = g;
          installed = installed;
          was = k.old.epoch;
          over = over k.old.epoch (one.over k.old known);
          own_comes = record { member = names.member; is = names.is; same = names.same; from = from };
          comes = k.comes;
          managed = λ one_old one_known same. subst (λ (x : Membership). manager_of x user ≡ Some act.node) (sym (same_one one_old k.old one_known known same)) k.managed;
          counted = one.counted k.old known;
          allowed = k.allowed;
        }

    row_from : (old new : Node) → act.before.life ≡ Up old → act.after.life ≡ Up new → (w : WasUp act new) → w.old ≡ old → (m boot : ℕ) (user : List ℕ) (row : Row) → new.rows m boot user ≡ Some row
        → RowFrom act old new m boot user → HasEntered Slots m boot (epoch_of new) ⊎ IsKeptRow Slots Letters act.node new m boot user
    row_from old new e f w is_old m boot user row h (Stood same stood) = ⊎_elim
        (λ past. inl (subst (HasEntered Slots m boot) (ap epoch_in same) (entered m boot (epoch_of old) past)))
        (λ k. inr (kept_more act.node old new m boot user same (ap (λ (x : Node). x.boot) (sym is_old) ∙ w.boot) k))
        (p.rows act.node old act.before.disk (was_here slots flying act here is flew order old e) m boot user row (sym stood ∙ h))
    row_from old new e f w is_old m boot user row h (Kept g installed before k stood) = inr (kept_now old new e f w is_old m boot user g installed before k)
    row_from old new e f w is_old m boot user row h (Fell g installed before k none) = absurd (some_none (new.rows m boot user) row h none)
    row_from old new e f w is_old m boot user row h (Took t) =
        let k = t.heard in
        let r = old_report k.letter (flew k.letter k.is).0 user boot t.row k.holds.2 in
        inl (subst (HasEntered Slots m boot) k.holds.1 (subst (λ n. HasEntered Slots n boot k.letter.epoch) k.holds.0 r.0))
    row_from old new e f w is_old m boot user row h (Told mine its told) =
        inl (subst (λ n. HasEntered Slots n boot (epoch_of new)) (sym mine) (subst (λ b. HasEntered Slots act.node b (epoch_of new)) (sym its) (entered_now new f)))

    rows_now : (new : Node) → act.after.life ≡ Up new → (m boot : ℕ) (user : List ℕ) (row : Row) → new.rows m boot user ≡ Some row → HasEntered Slots m boot (epoch_of new) ⊎ IsKeptRow Slots Letters act.node new m boot user
    rows_now new f m boot user row h = ⊎_elim
        (λ (w : WasUp act new). row_from w.old new w.is f w refl m boot user row h (is.maps.rows w.old new w.is f m boot user))
        (λ (b : BeginsBoot act new). absurd (some_none (new.rows m boot user) row h (b.rowless m boot user)))
        (is.lives new f)

    pub spoken_acted : Spoken Slots Letters
    spoken_acted = record {
      report_over = λ letter m user boot row h. ⊎_elim
          (λ old. over letter.epoch (p.report_over letter old user boot row h))
          (λ new. let s = is.maps.reports letter new user boot row h in over_now s.new s.is s.membership s.installed letter.epoch s.epoch)
          (among_either letter flying act.out m);
      ack_over = λ letter m user version h. ⊎_elim
          (λ old. over letter.epoch (p.ack_over letter old user version h))
          (λ new. let s = is.maps.acks letter new user version h in over_now s.new s.is s.membership s.installed letter.epoch s.epoch)
          (among_either letter flying act.out m);
      reported = λ letter m user boot row h. ⊎_elim
          (λ old. old_report letter old user boot row h)
          (λ new. reports_enter letter new user boot row (is.maps.reports letter new user boot row h))
          (among_either letter flying act.out m);
      acked = λ letter m user version h. ⊎_elim
          (λ old. let a = p.acked letter old user version h in (
            a.0,
            entered letter.to a.0 letter.epoch a.1,
            all_name_more slots flying act here is flew order letter.epoch letter.to a.0 (p.ack_over letter old user version h) a.2,
          ))
          (λ new. new_ack letter user version (is.maps.acks letter new user version h))
          (among_either letter flying act.out m);
      rows = λ n node disk at m boot user row h. ⊎_elim
          (λ new. subst (λ k. HasEntered Slots m boot (epoch_of node) ⊎ IsKeptRow Slots Letters k node m boot user) (sym new.0) (rows_now node (sym (ap (λ (s : Slot). s.life) new.1)) m boot user row h))
          (λ old. ⊎_elim
          (λ past. inl (entered m boot (epoch_of node) past))
          (λ k. inr (kept_more n node node m boot user refl refl k))
          (p.rows n node disk old.1 m boot user row h))
          (read_after slots act.node n act.before act.after (slot_up node disk) here at);
    }
