-- What stood stands after a node has acted.
use Rattle.std.proofs.Common.{◌≡◌, ◌⊎◌, inl, inr, ⊎_elim, ℕ, ◌<◌, ◌≤◌, List, ◌++◌, Option, Some, None, refl, sym, ap, ◌∙◌, subst, arith}
use Rattle.mail_model.specs.Identity.{EpochId}
use Rattle.object_model.specs.Letters.{Membership, Letter}
use Rattle.object_model.specs.Lists.{Among}
use Rattle.maps_model.specs.Epochs.{IsBefore, IsAtMost}
use Rattle.maps_model.specs.Cluster.{OpenGroup, Node, Life, Slot, slot_at, with_slot, slot_up, epoch_in, epoch_of}
use Rattle.maps_model.specs.Cluster.Life.{Up, Down, Lost}
use Rattle.maps_model.specs.Words.{Known, OpensLater, IsOver, IsPast, HasEntered, AllName, IsStillIn, HasJoined, WasIn, JoinStands}
use Rattle.maps_model.specs.Moves.{NodeInOrder, IsInOrder, NodeAct, WasUp, BeginsBoot, WasOpen, Forms, HadInstalled, IsAct}
use Rattle.maps_model.specs.Parts.{AllInOrder}
use Rattle.maps_model.proofs.Lists.{among_either, same_some, at_same, read_after, read_before}
use Rattle.maps_model.proofs.Order.{before_not_same, most_same, before_itself, before_same, most_before, most_most}

-- a slot whose life is up
pub up_slot : (slot : Slot) (node : Node) → slot.life ≡ Up node → slot ≡ slot_up node slot.disk
up_slot slot node e = λ i. record { life = e i; disk = slot.disk }

pub least_or : (a b : ℕ) → a ≤ b → (a < b) ⊎ (a ≡ b)
least_or a b h = grind (arith, h)

-- whoever keeps its membership or goes to a later epoch goes back to none
pub epochs_rise : (old new : Node) → (old.installed ≡ new.installed) ⊎ (IsBefore (epoch_of old) (epoch_of new) × (epoch_of new ≡ new.promise)) → IsAtMost (epoch_of old) (epoch_of new)
epochs_rise old new (inl e) = inr (ap epoch_in e)
epochs_rise old new (inr h) = inl h.0

module _ (slots : List Slot) (flying : List Letter) (act : NodeAct) (here : slot_at slots act.node ≡ Some act.before) (is : IsAct act)
    (flew : (letter : Letter) → act.heard ≡ Some letter → Among letter flying × (letter.to ≡ act.node)) (order : AllInOrder slots) where
  abbrev pub After : List Slot
  After = with_slot slots act.node act.after

  abbrev pub Flying : List Letter
  Flying = flying ++ act.out

  pub was_in_order : (old : Node) → act.before.life ≡ Up old → NodeInOrder act.node old act.before.disk
  was_in_order old e = subst (IsInOrder act.node act.before.disk) e (order.each act.node act.before here)

  pub is_in_order : (new : Node) → act.after.life ≡ Up new → NodeInOrder act.node new act.after.disk
  is_in_order new e = subst (IsInOrder act.node act.after.disk) e is.order

  pub was_here : (old : Node) → act.before.life ≡ Up old → slot_at slots act.node ≡ Some (slot_up old act.before.disk)
  was_here old e = here ∙ ap Some (up_slot act.before old e)

  pub is_here : (new : Node) → act.after.life ≡ Up new → slot_at After act.node ≡ Some (slot_up new act.after.disk)
  is_here new e = at_same slots act.node act.before act.after here ∙ ap Some (up_slot act.after new e)

  -- a membership was known before, or is formed
  from_installed : (g : Membership) → HadInstalled act g → Known slots flying g
  from_installed g h = inl (record { n = act.node; node = h.old; disk = act.before.disk; here = was_here h.old h.is; is = h.installed })

  pub known_after : (g : Membership) → Known After Flying g → Known slots flying g ⊎ Forms act g
  known_after g (inl h) = ⊎_elim
      (λ new. ⊎_elim
      (λ old. inl (from_installed g old))
      (λ rest. ⊎_elim
      (λ heard. inl (inr (record { letter = heard.letter; inside = (flew heard.letter heard.is).0; is = heard.holds })))
      (λ forms. inr forms)
      rest)
      (is.membership.installed h.node (sym (ap (λ (s : Slot). s.life) new.1)) g h.is))
      (λ old. inl (inl (record { n = h.n; node = h.node; disk = h.disk; here = old.1; is = h.is })))
      (read_after slots act.node h.n act.before act.after (slot_up h.node h.disk) here h.here)
  known_after g (inr h) = ⊎_elim
      (λ old. inl (inr (record { letter = h.letter; inside = old; is = h.is })))
      (λ new. inr (is.membership.sent_installs h.letter new g h.is))
      (among_either h.letter flying act.out h.inside)

  -- what is over stays so
  opens_later : (epoch : EpochId) → IsAtMost epoch act.before.disk.promise → OpensLater act.before.life epoch → (life : Life) → act.after.life ≡ life → OpensLater life epoch
  opens_later epoch promised closed (Up new) e = λ group opened. ⊎_elim
      (λ (w : WasOpen act group.epoch). before_same epoch w.group.epoch group.epoch (subst (λ l. OpensLater l epoch) w.is closed w.group w.opened) w.same)
      (λ later. most_before epoch act.before.disk.promise group.epoch promised later)
      (is.membership.group new e group opened)
  opens_later epoch promised closed (Down might) e = tt
  opens_later epoch promised closed Lost e = tt

  pub over_more : (epoch : EpochId) → IsOver slots epoch → IsOver After epoch
  over_more epoch h = ⊎_elim
      (λ at. record {
        slot = act.after;
        here = at.2;
        promised = most_most epoch act.before.disk.promise act.after.disk.promise (subst (λ (s : Slot). IsAtMost epoch s.disk.promise) at.1 h.promised) is.promises;
        closed = opens_later epoch (subst (λ (s : Slot). IsAtMost epoch s.disk.promise) at.1 h.promised) (subst (λ (s : Slot). OpensLater s.life epoch) at.1 h.closed) act.after.life refl;
      })
      (λ other. record { slot = h.slot; here = other.1; promised = h.promised; closed = h.closed })
      (read_before slots act.node epoch.node act.before act.after h.slot here h.here)

  -- what is formed is over then, and was not over before
  formed_by : (g : Membership) → Forms act g → g.epoch.node ≡ act.node
  formed_by g f = let w = f.opened in ap (λ (e : EpochId). e.node) (sym w.same) ∙ ((was_in_order w.old w.is).group w.group w.opened).1

  closed_now : (g : Membership) (f : Forms act g) → OpensLater (Up f.new) g.epoch
  closed_now g f = λ group opened. absurd (none_there f.new.group group opened f.closed)
    where
      none_there : (a : Option OpenGroup) (x : OpenGroup) → a ≡ Some x → a ≡ None → ⊥
      none_there a x p q = cc

  pub formed_over : (g : Membership) → Forms act g → IsOver After g.epoch
  formed_over g f = let w = f.opened in record {
    slot = act.after;
    here = subst (λ n. slot_at After n ≡ Some act.after) (sym (formed_by g f)) (at_same slots act.node act.before act.after here);
    promised = most_most g.epoch act.before.disk.promise act.after.disk.promise
        (inr (sym w.same ∙ ((was_in_order w.old w.is).group w.group w.opened).0 ∙ (was_in_order w.old w.is).promised)) is.promises;
    closed = subst (λ l. OpensLater l g.epoch) (sym f.is) (closed_now g f);
  }

  pub formed_not_over : (g : Membership) → Forms act g → IsOver slots g.epoch → ⊥
  formed_not_over g f h =
      let w = f.opened in
      let at : slot_at slots act.node ≡ Some h.slot = subst (λ n. slot_at slots n ≡ Some h.slot) (formed_by g f) h.here in
      let same : h.slot ≡ act.before = same_some (slot_at slots act.node) h.slot act.before at here in
      let closed : OpensLater (Up w.old) g.epoch = subst (λ l. OpensLater l g.epoch) w.is (subst (λ (s : Slot). OpensLater s.life g.epoch) same h.closed) in
      before_itself g.epoch (before_same g.epoch w.group.epoch g.epoch (closed w.group w.opened) w.same)

  -- whoever has joined an epoch, and may still install it, stays where it was until then
  still_in : (boot : ℕ) (epoch was : EpochId) → boot ≤ act.before.disk.boot → IsAtMost epoch act.before.disk.promise → IsStillIn act.before.life boot epoch was
      → (life : Life) → act.after.life ≡ life → IsStillIn life boot epoch was
  still_in boot epoch was begun promised still (Up new) e = λ booted same before. ⊎_elim
      (λ (w : WasUp act new).
      let was_promised = (was_in_order w.old w.is).promised in
      let now_promised : act.after.disk.promise ≡ epoch = sym (is_in_order new e).promised ∙ same in
      let stood : act.before.disk.promise ≡ epoch = most_same act.before.disk.promise epoch (subst (λ x. IsAtMost act.before.disk.promise x) now_promised is.promises) promised in
      ⊎_elim
      (λ inst. sym (ap epoch_in inst) ∙ subst (λ l. IsStillIn l boot epoch was) w.is still (w.boot ∙ booted) (was_promised ∙ stood)
      (subst (λ x. IsBefore x epoch) (sym (ap epoch_in inst)) before))
      (λ enters. absurd (before_not_same (epoch_of new) epoch before (enters.1 ∙ same)))
      w.epochs)
      (λ (b : BeginsBoot act new). absurd (omega (arith, begun, booted, b.later)))
      (is.lives new e)
  still_in boot epoch was begun promised still (Down might) e = tt
  still_in boot epoch was begun promised still Lost e = tt

  pub joined_more : (n boot : ℕ) (epoch was : EpochId) → HasJoined slots n boot epoch was → HasJoined After n boot epoch was
  joined_more n boot epoch was h = ⊎_elim
      (λ at.
      let begun : boot ≤ act.before.disk.boot = subst (λ (s : Slot). boot ≤ s.disk.boot) at.1 h.begun in
      let promised : IsAtMost epoch act.before.disk.promise = subst (λ (s : Slot). IsAtMost epoch s.disk.promise) at.1 h.promised in
      record {
        slot = act.after;
        here = at.2;
        begun = omega (arith, begun, is.boots);
        promised = most_most epoch act.before.disk.promise act.after.disk.promise promised is.promises;
        still = still_in boot epoch was begun promised (subst (λ (s : Slot). IsStillIn s.life boot epoch was) at.1 h.still) act.after.life refl;
      })
      (λ other. record { slot = h.slot; here = other.1; begun = h.begun; promised = h.promised; still = h.still })
      (read_before slots act.node n act.before act.after h.slot here h.here)

  -- whoever has entered an epoch has done so for good
  past_after : (boot : ℕ) (epoch : EpochId) → boot ≡ act.before.disk.boot → IsPast act.before.life epoch → (life : Life) → act.after.life ≡ life
      → (boot < act.after.disk.boot) ⊎ ((boot ≡ act.after.disk.boot) × IsPast life epoch)
  past_after boot epoch same past (Up new) e = ⊎_elim
      (λ (w : WasUp act new). inr (
        same ∙ sym (was_in_order w.old w.is).booted ∙ w.boot ∙ (is_in_order new e).booted,
        most_most epoch (epoch_of w.old) (epoch_of new) (subst (λ l. IsPast l epoch) w.is past) (epochs_rise w.old new w.epochs),
      ))
      (λ (b : BeginsBoot act new). inl (omega (arith, same, b.later, (is_in_order new e).booted)))
      (is.lives new e)
  past_after boot epoch same past (Down might) e = ⊎_elim (λ lt. inl (omega (arith, same, lt))) (λ eq. inr (same ∙ eq, tt)) (least_or act.before.disk.boot act.after.disk.boot is.boots)
  past_after boot epoch same past Lost e = ⊎_elim (λ lt. inl (omega (arith, same, lt))) (λ eq. inr (same ∙ eq, tt)) (least_or act.before.disk.boot act.after.disk.boot is.boots)

  past_at : (boot : ℕ) (epoch : EpochId) → (boot < act.before.disk.boot) ⊎ ((boot ≡ act.before.disk.boot) × IsPast act.before.life epoch)
      → (boot < act.after.disk.boot) ⊎ ((boot ≡ act.after.disk.boot) × IsPast act.after.life epoch)
  past_at boot epoch (inl lt) = inl (omega (arith, lt, is.boots))
  past_at boot epoch (inr p) = past_after boot epoch p.0 p.1 act.after.life refl

  pub entered_more : (n boot : ℕ) (epoch : EpochId) → HasEntered slots n boot epoch → HasEntered After n boot epoch
  entered_more n boot epoch h = ⊎_elim
      (λ at. record {
        slot = act.after;
        here = at.2;
        past = past_at boot epoch (subst (λ (s : Slot). (boot < s.disk.boot) ⊎ ((boot ≡ s.disk.boot) × IsPast s.life epoch)) at.1 h.past);
      })
      (λ other. record { slot = h.slot; here = other.1; past = h.past })
      (read_before slots act.node n act.before act.after h.slot here h.here)

  pub all_name_more : (epoch : EpochId) (n boot : ℕ) → IsOver slots epoch → AllName slots flying epoch n boot → AllName After Flying epoch n boot
  all_name_more epoch n boot over h = λ g known same. ⊎_elim
      (λ old. h g old same)
      (λ forms. absurd (formed_not_over g forms (subst (IsOver slots) (sym same) over)))
      (known_after g known)

  pub was_in_more : (n boot : ℕ) (was : EpochId) → WasIn slots flying n boot was → WasIn After Flying n boot was
  was_in_more n boot was (inl none) = inl none
  was_in_more n boot was (inr h) = inr (over_more was h.0, entered_more n boot was h.1, all_name_more was n boot h.0 h.2)

  pub stands_more : (n boot : ℕ) (epoch was : EpochId) → JoinStands slots flying n boot epoch was → JoinStands After Flying n boot epoch was
  stands_more n boot epoch was h = (joined_more n boot epoch was h.0, was_in_more n boot was h.1)
