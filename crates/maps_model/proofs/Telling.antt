-- What a node does keeps that Reports fit what their senders say.
use Rattle.std.proofs.Common.{◌≡◌, ◌⊎◌, inl, inr, ⊎_elim, ℕ, ◌<◌, List, Some, sym, ap, ◌∙◌, subst, arith}
use Rattle.mail_model.specs.Identity.{EpochId}
use Rattle.object_model.specs.Letters.{Membership, Row, Letter}
use Rattle.object_model.specs.Lists.{Among}
use Rattle.maps_model.specs.Epochs.{IsBefore}
use Rattle.maps_model.specs.Cluster.{Node, Disk, Slot, slot_at, slot_up, epoch_of, NamesNode, Comes, manager_of}
use Rattle.maps_model.specs.Cluster.Life.{Up}
use Rattle.maps_model.specs.Words.{Known, IsOver, HasEntered, IsPast, IsReport, IsAck, RowFits}
use Rattle.maps_model.specs.Moves.{NodeAct, IsAct, WasUp, BeginsBoot, SaysSame, SendsReport}
use Rattle.maps_model.specs.Rules.{own_row}
use Rattle.maps_model.specs.Parts.{AllInOrder, OneEach, Joins, Spoken, Reported}
use Rattle.maps_model.proofs.Order.{before_not_most}
use Rattle.maps_model.proofs.Lists.{among_either, same_some, read_after}
use Rattle.maps_model.proofs.Acting.{After, Flying, known_after, all_name_more, formed_not_over, was_here}
use Rattle.maps_model.proofs.Memberships.{one_acted}
use Rattle.maps_model.proofs.Speaking.{known_now}
use Rattle.maps_model.proofs.Agreeing.{SaysOn, fits_on}

-- a membership names a node in one boot
pub one_boot : (g : Membership) (n a b : ℕ) → NamesNode g n a → NamesNode g n b → a ≡ b
one_boot g n a b x y = sym x.same ∙ ap (λ (m : _). m.boot) (same_some _ x.member y.member x.is y.is) ∙ y.same

pub names_of : (g : Membership) (n boot : ℕ) (was : EpochId) → Comes g n boot was → NamesNode g n boot
names_of g n boot was c = record { member = c.member; is = c.is; same = c.same }

module _ (slots : List Slot) (flying : List Letter) (act : NodeAct) (here : slot_at slots act.node ≡ Some act.before) (is : IsAct act)
    (flew : (letter : Letter) → act.heard ≡ Some letter → Among letter flying × (letter.to ≡ act.node)) (order : AllInOrder slots) (one : OneEach slots flying)
    (joins : Joins slots flying) (spoken : Spoken slots flying) where
  abbrev Slots : List Slot
  Slots = After slots flying act here is flew order

  abbrev Letters : List Letter
  Letters = Flying slots flying act here is flew order

  was : (old : Node) → act.before.life ≡ Up old → slot_at slots act.node ≡ Some (slot_up old act.before.disk)
  was = was_here slots flying act here is flew order

  pub up_life : (node : Node) (disk : Disk) → slot_up node disk ≡ act.after → act.after.life ≡ Up node
  up_life node disk e = sym (ap (λ (s : Slot). s.life) e)

  pub same_up : (x y : Node) → act.after.life ≡ Up x → act.after.life ≡ Up y → x ≡ y
  same_up x y h k = by act.after.life x y h k
    where
      by : (l : _) (x y : Node) → l ≡ Up x → l ≡ Up y → x ≡ y
      by l x y h k = cc

  pub same_disk : (node : Node) (disk : Disk) → slot_up node disk ≡ act.after → act.after.disk ≡ disk
  same_disk node disk e = sym (ap (λ (s : Slot). s.disk) e)

  -- whoever is up and has not come to an epoch has not entered it
  pub not_past : (n : ℕ) (node : Node) (disk : Disk) → slot_at slots n ≡ Some (slot_up node disk) → (boot : ℕ) (epoch : EpochId) → boot ≡ node.boot → IsBefore (epoch_of node) epoch → HasEntered slots n boot epoch → ⊥
  not_past n node disk at boot epoch same before h =
      let its : h.slot ≡ slot_up node disk = same_some (slot_at slots n) h.slot (slot_up node disk) h.here at in
      ⊎_elim
      (λ lt. omega (arith, subst (λ (s : Slot). boot < s.disk.boot) its lt, same, (order.each n (slot_up node disk) at).booted))
      (λ p. before_not_most (epoch_of node) epoch before (subst (λ (s : Slot). IsPast s.life epoch) its p.1))
      h.past

  -- No Report of an epoch to which its node has not come is on its way,
  pub none_reported : (n : ℕ) (node : Node) (disk : Disk) → slot_at slots n ≡ Some (slot_up node disk) → (g : Membership) → Known Slots Letters g → NamesNode g n node.boot → IsBefore (epoch_of node) g.epoch
      → (letter : Letter) → Among letter flying → letter.from ≡ n → letter.epoch ≡ g.epoch → (user : List ℕ) (boot : ℕ) (row : Row) → IsReport letter user boot row → ⊥
  none_reported n node disk at g known names before letter m from epoch user boot row r =
      let p = spoken.reported letter m user boot row r in
      let all = all_name_more slots flying act here is flew order letter.epoch letter.from boot (spoken.report_over letter m user boot row r) p.1 in
      let b = one_boot g n boot node.boot (subst (λ k. NamesNode g k boot) from (all g known (sym epoch))) names in
      not_past n node disk at boot g.epoch b before (subst (HasEntered slots n boot) epoch (subst (λ k. HasEntered slots k boot letter.epoch) from p.0))

  -- and no acknowledgement of one.
  pub none_acked : (n : ℕ) (node : Node) (disk : Disk) → slot_at slots n ≡ Some (slot_up node disk) → (g : Membership) → Known Slots Letters g → NamesNode g n node.boot → IsBefore (epoch_of node) g.epoch
      → (letter : Letter) → Among letter flying → letter.to ≡ n → letter.epoch ≡ g.epoch → (user : List ℕ) (told : ℕ) → IsAck letter user told → ⊥
  none_acked n node disk at g known names before letter m to epoch user told r =
      let p = spoken.acked letter m user told r in
      let all = all_name_more slots flying act here is flew order letter.epoch letter.to p.0 (spoken.ack_over letter m user told r) p.2 in
      let b = one_boot g n p.0 node.boot (subst (λ k. NamesNode g k p.0) to (all g known (sym epoch))) names in
      not_past n node disk at p.0 g.epoch b before (subst (HasEntered slots n p.0) epoch (subst (λ k. HasEntered slots k p.0 letter.epoch) to p.1))

  pub says_on : (old new : Node) → act.before.life ≡ Up old → act.after.life ≡ Up new → (user : List ℕ) → SaysOn (old.version user) (new.version user) (act.before.disk.holds user) (act.after.disk.holds user)
  says_on old new e f user = ⊎_elim (λ (s : SaysSame act old new user). inl (s.version, s.full)) (λ lt. inr lt) (is.maps.versions old new e f user)

  -- a Report that the node sends fits
  new_fits : (new : Node) → act.after.life ≡ Up new → (letter : Letter) (user : List ℕ) (boot : ℕ) (row : Row) → SendsReport act letter user boot row → RowFits row (new.version user) (act.after.disk.holds user)
  new_fits new e letter user boot row s =
      let mine : s.new ≡ new = same_up s.new new s.is e in
      let same : row ≡ own_row act.node new act.after.disk user = subst (λ (x : Node). row ≡ own_row act.node x act.after.disk user) mine s.says in
      record { bounded = omega (arith, ap (λ (r : Row). r.version) same); same = λ _. ap (λ (r : Row). r.full) same }

  module _ (p : Reported slots flying) where
    now_fits : (new : Node) → act.after.life ≡ Up new → (letter : Letter) → Among letter flying → letter.from ≡ act.node → (user : List ℕ) (boot : ℕ) (row : Row) → IsReport letter user boot row → boot ≡ new.boot
        → WasUp act new ⊎ BeginsBoot act new → RowFits row (new.version user) (act.after.disk.holds user)
    now_fits new f letter m from user boot row r booted (inl w) =
        fits_on row (w.old.version user) (new.version user) (act.before.disk.holds user) (act.after.disk.holds user) (says_on w.old new w.is f user)
        (p.fits act.node w.old act.before.disk (was w.old w.is) letter m from user boot row r (booted ∙ sym w.boot))
    now_fits new f letter m from user boot row r booted (inr b) =
        let h = subst (λ k. HasEntered slots k boot letter.epoch) from (spoken.reported letter m user boot row r).0 in
        let at : h.slot ≡ act.before = same_some (slot_at slots act.node) h.slot act.before h.here here in
        absurd (⊎_elim
        (λ lt. omega (arith, subst (λ (s : Slot). boot < s.disk.boot) at lt, booted, b.later))
        (λ q. omega (arith, subst (λ (s : Slot). boot ≡ s.disk.boot) at q.0, booted, b.later))
        h.past)

    pub reported_acted : Reported Slots Letters
    reported_acted = record {
      to = λ letter m user boot row h g known same. ⊎_elim
          (λ old. ⊎_elim
          (λ before. p.to letter old user boot row h g before same)
          (λ forms. absurd (formed_not_over slots flying act here is flew order g forms (subst (IsOver slots) (sym same) (spoken.report_over letter old user boot row h))))
          (known_after slots flying act here is flew order g known))
          (λ new.
          let s = is.maps.reports letter new user boot row h in
          let mine : g ≡ s.membership = (one_acted slots flying act here is flew order one).one g s.membership known (known_now slots flying act here is flew order one joins s.new s.is s.membership s.installed) (same ∙ sym s.epoch) in
          subst (λ (x : Membership). manager_of x user ≡ Some letter.to) (sym mine) s.to)
          (among_either letter flying act.out m);
      fits = λ n node disk at letter m from user boot row h booted. ⊎_elim
          (λ mine.
          let f = up_life node disk mine.1 in
          subst (λ (d : Disk). RowFits row (node.version user) (d.holds user)) (same_disk node disk mine.1)
          (⊎_elim
          (λ old. now_fits node f letter old (from ∙ mine.0) user boot row h booted (is.lives node f))
          (λ new. new_fits node f letter user boot row (is.maps.reports letter new user boot row h))
          (among_either letter flying act.out m)))
          (λ other. ⊎_elim
          (λ old. p.fits n node disk other.1 letter old from user boot row h booted)
          (λ new. absurd (other.0 (sym from ∙ (is.membership.sent letter new).0)))
          (among_either letter flying act.out m))
          (read_after slots act.node n act.before act.after (slot_up node disk) here at);
    }
