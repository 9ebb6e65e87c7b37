-- What a reaction does to tickets, want by want.
use Rattle.std.proofs.Common.{◌≡◌, ◌≢◌, ◌⊎◌, inl, inr, ⊎_elim, ℕ, true, List, map, Option, Some, refl, sym, ap, ◌∙◌, subst}
use Rattle.std.specs.FinMap as fin
use Rattle.std.specs.Cmp.{nat_cmp_total}
use Rattle.std.proofs.lemmas.Map.Lookups.{exact_unsigned}
use Rattle.mail_model.specs.Identity.{Id}
use Rattle.mail_model.specs.Record.{Record}
use Rattle.object_model.specs.Sets.{has}
use Rattle.object_model.specs.Lists.{Among}
use Rattle.object_model.specs.Letters.{Number, Letter}
use Rattle.cluster_model.specs.Cluster.{AskedOfNodes, Want, Ticket, NodeFiling, Node}
use Rattle.cluster_model.specs.Cluster.AskedOfNodes.{Copies, Deletion}
use Rattle.cluster_model.specs.Cluster.Life.{Up}
use Rattle.cluster_model.specs.Claims.{Fact, fact_of, Wants, TicketClaims, TicketSpeaks, LifeWaits, Covers, Covered}
use Rattle.cluster_model.specs.Moves.{Content, NodeAct, Opens, LifeWants, IsBacked, IsFactConfirmed}
use Rattle.cluster_model.specs.Rules.{Reaction, with_ticket}
use Rattle.object_model.proofs.MapLaws.{found}
use Rattle.cluster_model.proofs.Filing.{among_map}
use Rattle.cluster_model.specs.Deeds.{act_of}
use Rattle.cluster_model.proofs.Reacts.{TicketsReact}
use Rattle.cluster_model.proofs.Quiet.{up_node}
use Rattle.object_model.specs.Mishaps.{Mishaps}

-- a want that was there before, under the same number
pub record Came (act : NodeAct) (seq : ℕ) (want : Want) : Type 0 where
  pub old : Want
  pub stood : Wants act.before.life seq old
  pub asked : old.asked ≡ want.asked
  pub waits : (m : ℕ) → has want.waiting m ≡ true → has old.waiting m ≡ true
  pub confirmed : (m : ℕ) → has want.confirmed m ≡ true → (has old.confirmed m ≡ true) ⊎ IsBacked act m (fact_of want.asked) ⊎ IsFactConfirmed act m (fact_of want.asked)

-- a want of the call that begins
pub record Begins (act : NodeAct) (number : Number) (want : Want) : Type 0 where
  pub opens : (filing : NodeFiling) → want.asked ≡ Copies filing → Opens act filing
  pub strikes : (user : List ℕ) (id : Id) → want.asked ≡ Deletion user id → Among (user, id) act.strikes
  pub confirmed : (m : ℕ) → has want.confirmed m ≡ true → IsBacked act m (fact_of want.asked)
  pub waits : (m : ℕ) → has want.waiting m ≡ true → Covered act.out number m want.asked

module _ (own : ℕ) (node : Node) (disk : List Record) (did : Reaction) (heard : Option Letter) (files : Option Content) (strikes : List (List ℕ × Id)) (boots : did.node.boot ≡ node.boot) where
  abbrev act : NodeAct
  act = act_of own node disk did heard files strikes

  abbrev pub numbered : ℕ → Number
  numbered seq = record { node = own; boot = node.boot; seq = seq }

  module _ (came : (seq : ℕ) (want : Want) → Wants (Up did.node) seq want → Came act seq want ⊎ Begins act (numbered seq) want)
      (settled : (letter : Letter) → heard ≡ Some letter → (number : Number) (m : ℕ) (asked : AskedOfNodes) → Covers letter number m asked
      → Covered did.out number m asked ⊎ ((number.node ≡ own) × (LifeWaits (Up did.node) number m asked → ⊥))) where
    claimed : (m : ℕ) (fact : Fact) → TicketClaims (Up did.node) m fact → IsBacked act m fact ⊎ IsFactConfirmed act m fact
    claimed m fact c = subst (λ f. IsBacked act m f ⊎ IsFactConfirmed act m f) c.is (⊎_elim
        (λ (o : Came act c.seq c.want). ⊎_elim
        (λ old. inl (inl (inl (record { seq = c.seq; want = o.old; stands = o.stood; counts = old; is = ap fact_of o.asked }))))
        (λ new. new)
        (o.confirmed m c.counts))
        (λ (b : Begins act (numbered c.seq) c.want). inl (b.confirmed m c.counts))
        (came c.seq c.want c.stands))

    wanted : (filing : NodeFiling) → LifeWants (Up did.node) filing → LifeWants (Up node) filing ⊎ Opens act filing
    wanted filing w = ⊎_elim
        (λ (o : Came act w.seq w.want). inl (record { seq = w.seq; want = o.old; stands = o.stood; is = o.asked ∙ w.is }))
        (λ (b : Begins act (numbered w.seq) w.want). inr (b.opens filing w.is))
        (came w.seq w.want w.stands)

    speaks : (user : List ℕ) (id : Id) → TicketSpeaks (Up did.node) user id → TicketSpeaks (Up node) user id ⊎ Among (user, id) strikes
    speaks user id w = ⊎_elim
        (λ (o : Came act w.seq w.want). inl (record { seq = w.seq; want = o.old; stands = o.stood; is = o.asked ∙ w.is }))
        (λ (b : Begins act (numbered w.seq) w.want). inr (b.strikes user id w.is))
        (came w.seq w.want w.stands)

    waits : (number : Number) → number.node ≡ own → (m : ℕ) (asked : AskedOfNodes) → LifeWaits (Up did.node) number m asked → LifeWaits (Up node) number m asked ⊎ Covered did.out number m asked
    waits number here m asked w =
        let boot : number.boot ≡ node.boot = w.boot ∙ ap (λ (x : Node). x.boot) (sym (up_node did.node w.node w.up)) ∙ boots in
        ⊎_elim
        (λ (o : Came act number.seq w.want). inl (record { node = node; up = refl; boot = boot; want = o.old; stands = o.stood; waits = o.waits m w.waits; is = o.asked ∙ w.is }))
        (λ (b : Begins act (numbered number.seq) w.want). inr (subst (Covered did.out number m) w.is
        (subst (λ k. Covered did.out k m w.want.asked) (λ i. record { node = sym here i; boot = sym boot i; seq = number.seq }) (b.waits m w.waits))))
        (came number.seq w.want w.stands)

    pub tickets_react : TicketsReact act
    tickets_react = record { claimed = claimed; wanted = wanted; speaks = speaks; waits = waits; settled = settled }

-- each want of a ticket changed in one way
pub rewanted : (node : Node) (seq : ℕ) (ticket : Ticket) (f : Want → Want) (mishaps : Mishaps) → fin.get node.tickets seq ≡ Some ticket → (other : ℕ) (want : Want)
    → Wants (Up (with_ticket node seq (record ticket { wants = map f ticket.wants; mishaps = mishaps }))) other want
    → ((other ≡ seq) × ((old : Want) × Wants (Up node) other old × (f old ≡ want))) ⊎ ((other ≢ seq) × Wants (Up node) other want)
rewanted node seq ticket f mishaps here other want w = ⊎_elim
    (λ (e, is).
    let r = among_map f want ticket.wants (subst (λ (t : Ticket). Among want t.wants) is w.inside) in
    inl (e, (r.0, record { ticket = ticket; here = subst (λ k. fin.get node.tickets k ≡ Some ticket) (sym e) here; inside = r.1 }, r.2)))
    (λ (apart, old). inr (apart, record { ticket = w.ticket; here = old; inside = w.inside }))
    (found nat_cmp_total exact_unsigned node.tickets seq (record ticket { wants = map f ticket.wants; mishaps = mishaps }) other w.ticket w.here)

-- a want that stayed as it was
pub as_it_was : (deed : NodeAct) (seq : ℕ) (want : Want) → Wants deed.before.life seq want → Came deed seq want
as_it_was deed seq want w = record { old = want; stood = w; asked = refl; waits = λ m h. h; confirmed = λ m h. inl h }
