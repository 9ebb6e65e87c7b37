-- What a node does keeps the parts on membership.
use Rattle.std.proofs.Common.{◌≡◌, ◌⊎◌, inl, inr, ⊎_elim, ℕ, ◌<◌, List, Option, Some, None, refl, sym, ap, ◌∙◌, subst, arith}
use Rattle.mail_model.specs.Identity.{EpochId}
use Rattle.object_model.specs.Letters.{Membership, Letter}
use Rattle.object_model.specs.Lists.{Among}
use Rattle.maps_model.specs.Epochs.{IsAtMost}
use Rattle.maps_model.specs.Cluster.{Joined, OpenGroup, Node, Slot, slot_at, slot_up, epoch_in, epoch_of, NamesNode, Comes}
use Rattle.maps_model.specs.Cluster.Life.{Up}
use Rattle.maps_model.specs.Words.{Known, IsOver, WasIn, JoinStands}
use Rattle.maps_model.specs.Moves.{NodeAct, IsAct, NodeInOrder, IsInOrder, Forms, HadJoin, Heard, IsJoin, SendsJoin}
use Rattle.maps_model.specs.Parts.{AllInOrder, Apart, OneEach, Joins}
use Rattle.maps_model.proofs.Order.{before_not_same}
use Rattle.maps_model.proofs.Lists.{among_either, same_some, read_after}
use Rattle.maps_model.proofs.Acting.{After, Flying, known_after, over_more, formed_over, formed_not_over, stands_more, was_here, is_here, was_in_order, is_in_order}

module _ (slots : List Slot) (flying : List Letter) (act : NodeAct) (here : slot_at slots act.node ≡ Some act.before) (is : IsAct act)
    (flew : (letter : Letter) → act.heard ≡ Some letter → Among letter flying × (letter.to ≡ act.node)) (order : AllInOrder slots) where
  abbrev Slots : List Slot
  Slots = After slots flying act here is flew order

  abbrev Letters : List Letter
  Letters = Flying slots flying act here is flew order

  pub order_acted : AllInOrder Slots
  order_acted = record {
    each = λ n slot at. ⊎_elim
        (λ new. subst (λ m. IsInOrder m slot.disk slot.life) (sym new.0) (subst (λ (s : Slot). IsInOrder act.node s.disk s.life) (sym new.1) is.order))
        (λ old. order.each n slot old.1)
        (read_after slots act.node n act.before act.after slot here at);
  }

  pub apart_acted : Apart flying → Apart Letters
  apart_acted p = record {
    each = λ letter m. ⊎_elim
        (λ old. p.each letter old)
        (λ new same. (is.membership.sent letter new).1 (sym same ∙ (is.membership.sent letter new).0))
        (among_either letter flying act.out m);
  }

  module _ (p : OneEach slots flying) where
    one_formed : (a b : Membership) → Forms act a → Forms act b → a ≡ b
    one_formed a b f g = same_membership f.new g.new (same_up act.after.life f.new g.new f.is g.is) a b f.installed g.installed
      where
        same_up : (l : _) (x y : Node) → l ≡ Up x → l ≡ Up y → x ≡ y
        same_up l x y h k = cc

        same_membership : (x y : Node) → x ≡ y → (c d : Membership) → x.installed ≡ Some c → y.installed ≡ Some d → c ≡ d
        same_membership x y e c d h k = same_some y.installed c d (subst (λ (z : Node). z.installed ≡ Some c) e h) k

    one : (a b : Membership) → Known slots flying a ⊎ Forms act a → Known slots flying b ⊎ Forms act b → a.epoch ≡ b.epoch → a ≡ b
    one a b (inl x) (inl y) e = p.one a b x y e
    one a b (inl x) (inr y) e = absurd (formed_not_over slots flying act here is flew order b y (subst (IsOver slots) e (p.over a x)))
    one a b (inr x) (inl y) e = absurd (formed_not_over slots flying act here is flew order a x (subst (IsOver slots) (sym e) (p.over b y)))
    one a b (inr x) (inr y) e = one_formed a b x y

    pub one_acted : OneEach Slots Letters
    one_acted = record {
      one = λ a b x y e. one a b (known_after slots flying act here is flew order a x) (known_after slots flying act here is flew order b y) e;
      over = λ g known. ⊎_elim
          (λ old. over_more slots flying act here is flew order g.epoch (p.over g old))
          (λ forms. formed_over slots flying act here is flew order g forms)
          (known_after slots flying act here is flew order g known);
      counted = λ g known. ⊎_elim
          (λ old. p.counted g old)
          (λ (forms : Forms act g). let w = forms.opened in
          subst (λ (e : EpochId). 0 < e.count) w.same ((was_in_order slots flying act here is flew order w.old w.is).counted w.group w.opened))
          (known_after slots flying act here is flew order g known);
      managers = λ g known. ⊎_elim
          (λ old. p.managers g old)
          (λ (forms : Forms act g). forms.managers)
          (known_after slots flying act here is flew order g known);
    }

  module _ (one : OneEach slots flying) (p : Joins slots flying) where
    later : OneEach Slots Letters
    later = one_acted one

    more : (n boot : ℕ) (epoch was : EpochId) → JoinStands slots flying n boot epoch was → JoinStands Slots Letters n boot epoch was
    more = stands_more slots flying act here is flew order

    -- a join that was there stands
    pub had : (epoch : EpochId) (join : Joined) → HadJoin act epoch join → JoinStands slots flying join.member.node join.member.boot epoch join.member.was
    had epoch join h = subst (λ e. JoinStands slots flying join.member.node join.member.boot e join.member.was) h.same
        (p.joined act.node h.old act.before.disk (was_here slots flying act here is flew order h.old h.is) h.group h.opened join h.inside)

    -- so does a member's, before its membership was formed
    pub stood_before : (g : Membership) → Known Slots Letters g → (n boot : ℕ) (was : EpochId) → Comes g n boot was → JoinStands slots flying n boot g.epoch was
    stood_before g known n boot was comes = ⊎_elim
        (λ old. p.named g old n boot was comes)
        (λ (f : Forms act g).
        let j = f.names n boot was comes in
        let w = f.opened in
        let h = had g.epoch j.0 (record { old = w.old; is = w.is; group = w.group; opened = w.opened; same = w.same; inside = j.1 }) in
        subst (λ x. JoinStands slots flying n boot g.epoch x) j.4 (subst (λ b. JoinStands slots flying n b g.epoch j.0.member.was) j.3
        (subst (λ m. JoinStands slots flying m j.0.member.boot g.epoch j.0.member.was) j.2 h)))
        (known_after slots flying act here is flew order g known)

    heard : (epoch : EpochId) (join : Joined) → Heard act (λ letter. IsJoin letter epoch join) → JoinStands slots flying join.member.node join.member.boot epoch join.member.was
    heard epoch join h = let j = h.holds in
        subst (λ n. JoinStands slots flying n join.member.boot epoch join.member.was) j.from
        (p.joining h.letter (flew h.letter h.is).0 epoch j.promise join.member.boot join.member.was j.claims j.is)

    -- a join of the node itself
    sends : (epoch : EpochId) (boot : ℕ) (was : EpochId) → SendsJoin act epoch boot was → JoinStands Slots Letters act.node boot epoch was
    sends epoch boot was s =
        let o = is_in_order slots flying act here is flew order s.new s.is in
        let at : slot_at Slots act.node ≡ Some (slot_up s.new act.after.disk) = is_here slots flying act here is flew order s.new s.is in (
          record {
            slot = slot_up s.new act.after.disk;
            here = at;
            begun = omega (arith, s.booted, o.booted);
            promised = subst (λ x. IsAtMost epoch x) o.promised s.promised;
            still = λ booted same before. ⊎_elim (λ none. absurd (before_not_same epoch s.new.promise none.1 (sym same))) (λ mine. sym mine) s.from;
          },
          ⊎_elim (λ none. inl none.0) (λ mine. was_own s.new.installed refl mine o at) s.from,
        )
      where
        was_own : (x : Option Membership) → s.new.installed ≡ x → was ≡ epoch_of s.new → NodeInOrder act.node s.new act.after.disk → slot_at Slots act.node ≡ Some (slot_up s.new act.after.disk)
            → WasIn Slots Letters act.node boot was
        was_own None e mine o at = inl (mine ∙ ap epoch_in e)
        was_own (Some g) e mine o at =
            let known : Known Slots Letters g = inl (record { n = act.node; node = s.new; disk = act.after.disk; here = at; is = e }) in
            let same : was ≡ g.epoch = mine ∙ ap epoch_in e in
            let names : NamesNode g act.node boot = subst (λ b. NamesNode g act.node b) (sym s.booted) (o.installed g e).1 in
            inr (
              subst (IsOver Slots) (sym same) (later.over g known),
              record { slot = slot_up s.new act.after.disk; here = at; past = inr (s.booted ∙ o.booted, inr mine) },
              λ one known_one e_one. subst (λ (x : Membership). NamesNode x act.node boot) (sym (later.one one g known_one known (e_one ∙ same))) names,
            )

    joined_now : (new : Node) → act.after.life ≡ Up new → (group : OpenGroup) → new.group ≡ Some group → (join : Joined) → Among join group.joins
        → JoinStands Slots Letters join.member.node join.member.boot group.epoch join.member.was
    joined_now new e group opened join m = ⊎_elim
        (λ old. more join.member.node join.member.boot group.epoch join.member.was (had group.epoch join old))
        (λ rest. ⊎_elim
        (λ mine. subst (λ n. JoinStands Slots Letters n join.member.boot group.epoch join.member.was) (sym mine.0) (sends group.epoch join.member.boot join.member.was mine.1))
        (λ came. more join.member.node join.member.boot group.epoch join.member.was (heard group.epoch join came))
        rest)
        (is.membership.joins new e group opened join m)

    pub joins_acted : Joins Slots Letters
    joins_acted = record {
      named = λ g known n boot was comes. more n boot g.epoch was (stood_before g known n boot was comes);
      joined = λ n node disk at group opened join m. ⊎_elim
          (λ new. joined_now node (sym (ap (λ (s : Slot). s.life) new.1)) group opened join m)
          (λ old. more join.member.node join.member.boot group.epoch join.member.was (p.joined n node disk old.1 group opened join m))
          (read_after slots act.node n act.before act.after (slot_up node disk) here at);
      joining = λ letter m epoch promise boot was claims e. ⊎_elim
          (λ old. more letter.from boot epoch was (p.joining letter old epoch promise boot was claims e))
          (λ new. subst (λ n. JoinStands Slots Letters n boot epoch was) (sym (is.membership.sent letter new).0)
          (sends epoch boot was (is.membership.sent_joins letter new epoch promise boot was claims e)))
          (among_either letter flying act.out m);
    }
