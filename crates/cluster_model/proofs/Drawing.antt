-- What stood stands and what was drawn is drawn, after one slot is written.
use Rattle.std.proofs.Common.{◌≡◌, ◌⊎◌, inl, inr, ⊎_elim, ℕ, List, ◌++◌, Some, sym, subst}
use Rattle.mail_model.specs.Identity.{Id}
use Rattle.mail_model.specs.Record.{Record}
use Rattle.mail_model.specs.Record.Record.{Octets, Stated}
use Rattle.mail_model.specs.Identity.Key.{Message}
use Rattle.cluster_model.specs.Cluster.{Slot, slot_at, with_slot, NodeFiling, AskedOfNodes}
use Rattle.object_model.specs.Letters.{Number}
use Rattle.cluster_model.specs.Claims.{Fact, SaysFact, FactStands, StoresMessage, NodesClaim, SlotClaims, NodesWant, NodesWait, LifeWaits, Covered, IsIdDrawn, DrawnAt}
use Rattle.cluster_model.specs.Claims.Fact.{HasCopies, IsGone, IsAtLeast}
use Rattle.cluster_model.specs.Moves.{NodeAct, IsAct, LifeWants, Opens, Content}
use Rattle.object_model.proofs.Lists.{among_front, same_some}
use Rattle.cluster_model.proofs.Slots.{at_same, read_after, read_before}

-- what records say they say with more after them
pub says_more : (disk added : List Record) (fact : Fact) → SaysFact disk fact → SaysFact (disk ++ added) fact
says_more disk added (HasCopies users id) says = λ user m. let c = says user m in record {
  state = c.state;
  inside = among_front (Stated (Message user id) c.state) disk added c.inside;
  stored = ⊎_elim (λ gone. inl gone) (λ (s : StoresMessage id disk). inr (record { octets = s.octets; inside = among_front (Octets id s.octets) disk added s.inside })) c.stored;
}
says_more disk added (IsGone user id) says = record { state = says.state; inside = among_front (Stated (Message user id) says.state) disk added says.inside; gone = says.gone }
says_more disk added (IsAtLeast key state) says = record {
  top = says.top;
  inside = among_front (Stated key says.top) disk added says.inside;
  not_below = says.not_below;
  targets = λ m h. let t = says.targets m h in (t.0, among_front (Stated key t.0) disk added t.1, t.2);
}

module _ (slots : List Slot) (act : NodeAct) (here : slot_at slots act.node ≡ Some act.before) (is : IsAct act) where
  abbrev pub written : List Slot
  written = with_slot slots act.node act.after

  slot_grows : (fact : Fact) → SaysFact act.before.disk fact → SaysFact act.after.disk fact
  slot_grows fact says = subst (λ d. SaysFact d fact) (sym is.grows.1) (says_more act.before.disk is.grows.0 fact says)

  -- what stood stands
  pub still : (m : ℕ) (fact : Fact) → FactStands slots m fact → FactStands written m fact
  still m fact h = ⊎_elim
      (λ at. record { slot = act.after; here = at.2; stands = slot_grows fact (subst (λ (s : Slot). SaysFact s.disk fact) at.1 h.stands) })
      (λ other. record { slot = h.slot; here = other; stands = h.stands })
      (read_before slots act.node m act.before act.after h.slot here h.here)

  -- what the node's own disk says stands
  pub own_says : (m : ℕ) (fact : Fact) → m ≡ act.node → SaysFact act.after.disk fact → FactStands written m fact
  own_says m fact e says = subst (λ k. FactStands written k fact) (sym e) (record { slot = act.after; here = at_same slots act.node act.before act.after here; stands = says })

  -- a claim was made before, or by the node that acted
  pub claims_after : (m : ℕ) (fact : Fact) → NodesClaim written m fact → NodesClaim slots m fact ⊎ SlotClaims act.node act.after m fact
  claims_after m fact h = ⊎_elim
      (λ at. inr (subst (λ k. SlotClaims k act.after m fact) at.0 (subst (λ (s : Slot). SlotClaims h.node s m fact) at.1 h.claims)))
      (λ other. inl (record { node = h.node; slot = h.slot; here = other; claims = h.claims }))
      (read_after slots act.node h.node act.before act.after h.slot here h.here)

  pub wants_before : (filing : NodeFiling) → LifeWants act.before.life filing → NodesWant slots filing
  wants_before filing h = record { node = act.node; slot = act.before; here = here; seq = h.seq; want = h.want; stands = h.stands; is = h.is }

  -- copies were wanted before, or the call files them
  pub wants_after : (filing : NodeFiling) → NodesWant written filing → NodesWant slots filing ⊎ Opens act filing
  wants_after filing h = ⊎_elim
      (λ at. ⊎_elim (λ old. inl (wants_before filing old)) (λ new. inr new)
      (is.contents.wanted filing (subst (λ (s : Slot). LifeWants s.life filing) at.1 (record { seq = h.seq; want = h.want; stands = h.stands; is = h.is }))))
      (λ other. inl (record { node = h.node; slot = h.slot; here = other; seq = h.seq; want = h.want; stands = h.stands; is = h.is }))
      (read_after slots act.node h.node act.before act.after h.slot here h.here)

  pub waits_after : (number : Number) (m : ℕ) (asked : AskedOfNodes) → NodesWait written number m asked
      → NodesWait slots number m asked ⊎ Covered act.out number m asked
  waits_after number m asked h = ⊎_elim
      (λ at. ⊎_elim
      (λ old. inl (record { slot = act.before; here = subst (λ k. slot_at slots k ≡ Some act.before) (sym at.0) here; waits = old }))
      (λ new. inr new)
      (is.waits.waits number at.0 m asked (subst (λ (s : Slot). LifeWaits s.life number m asked) at.1 h.waits)))
      (λ other. inl (record { slot = h.slot; here = other; waits = h.waits }))
      (read_after slots act.node number.node act.before act.after h.slot here h.here)

  -- what was drawn is drawn
  pub drawn_more : (id : Id) → IsIdDrawn slots id → IsIdDrawn written id
  drawn_more id h = ⊎_elim
      (λ at. record { slot = act.after; here = at.2; drawn = is.contents.drawn id (subst (λ s. DrawnAt s id) at.1 h.drawn) })
      (λ other. record { slot = h.slot; here = other; drawn = h.drawn })
      (read_before slots act.node id.node act.before act.after h.slot here h.here)

  -- the id of the message that a call files is drawn by it, and was not drawn before
  pub new_drawn : (content : Content) → act.files ≡ Some content → IsIdDrawn written content.id
  new_drawn content e = let fresh = is.contents.fresh content e in record {
    slot = act.after;
    here = subst (λ k. slot_at written k ≡ Some act.after) (sym fresh.0) (at_same slots act.node act.before act.after here);
    drawn = fresh.2;
  }

  pub not_drawn : (content : Content) → act.files ≡ Some content → (id : Id) → content.id ≡ id → IsIdDrawn slots id → ⊥
  not_drawn content e id same h =
      let fresh = is.contents.fresh content e in
      let d : IsIdDrawn slots content.id = subst (IsIdDrawn slots) (sym same) h in
      let at : slot_at slots act.node ≡ Some d.slot = subst (λ k. slot_at slots k ≡ Some d.slot) fresh.0 d.here in
      fresh.1 (subst (λ s. DrawnAt s content.id) (same_some (slot_at slots act.node) d.slot act.before at here) d.drawn)
