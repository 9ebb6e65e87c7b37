-- A reaction of a node is an act, where its tickets and its letters are each as the invariant asks.
use Rattle.std.proofs.Common.{◌≡◌, ◌⊎◌, inl, inr, ⊎_elim, ◌<◌, ◌≤◌, ℕ, true, List, Option, Some, refl, sym, ap, ◌∙◌, subst, arith, le_trans, le_refl}
use Rattle.std.specs.FinMap as map
use Rattle.std.specs.Cmp.{nat_cmp_total}
use Rattle.std.proofs.lemmas.Map.Lookups.{exact_unsigned}
use Rattle.mail_model.specs.Record.{Record}
use Rattle.object_model.specs.Lists.{Among}
use Rattle.object_model.specs.Letters.{Number, Letter}
use Rattle.object_model.proofs.MapLaws.{found, written}
use Rattle.cluster_model.specs.Claims.{boot_of}
use Rattle.login_model.specs.Readings.{Reading, ReadTicket, Subject, subject_of}
use Rattle.login_model.specs.Cluster.{Node, Life, slot_up, LifeReads}
use Rattle.login_model.specs.Cluster.Life.{Up}
use Rattle.login_model.specs.Rules.{with_reading}
use Rattle.login_model.specs.Facts.{Fact, SlotShows, subject_asked, is_told, fact_told, ReadingClaims, ReadingIsWhole, CountsMishap, AnswerAwaited, ReadingWaits, Covers, Covered, LifeWaits}
use Rattle.login_model.specs.Moves.{NodeAct, NodeInOrder, Heard, ReadFrom, AsksOwn, AnswersHeard, IsReady, IsCallDone}
use Rattle.login_model.specs.Moves.ReadFrom.{Moved, Begun}
use Rattle.login_model.proofs.Steps.{ReadStep}

pub same_up : (a b : Node) → ◌≡◌ {A = Life} (Up a) (Up b) → a ≡ b
same_up a b e = cc

module _ (own : ℕ) (node new : Node) (disk after : List Record) (heard : Option Letter) (out : List Letter) where
  abbrev pub act : NodeAct
  act = record { node = own; before = slot_up node disk; after = slot_up new after; heard = heard; out = out }

  abbrev pub numbered : ℕ → Number
  numbered seq = record { node = own; boot = node.boot; seq = seq }

  -- what backs a claim beyond what was claimed before
  abbrev pub Backs : Number → Subject → ℕ → Fact → Type 0
  Backs number subject m fact = ((m ≡ own) × SlotShows (slot_up new after) fact) ⊎ Heard act (λ one. (one.from ≡ m) × (one.ticket ≡ Some number) × (fact_told one.body subject ≡ Some fact))

  -- where a ticket of the node comes from
  pub data TicketFrom (seq : ℕ) (ticket : ReadTicket) : Type 0 where
    Stays : map.get node.reads seq ≡ Some ticket → TicketFrom seq ticket
    Changes : (was : ReadTicket) → map.get node.reads seq ≡ Some was → subject_of was.reading ≡ subject_of ticket.reading
        → ((m : ℕ) (fact : Fact) → ReadingClaims own ticket.reading m fact → ReadingClaims own was.reading m fact ⊎ Backs (numbered seq) (subject_of ticket.reading) m fact)
        → (ReadingIsWhole was.reading → ReadingIsWhole ticket.reading) → (CountsMishap was → CountsMishap ticket)
        → ((m : ℕ) (what : AnswerAwaited) → ReadingWaits ticket.reading m what → ReadingWaits was.reading m what ⊎ Covered out (numbered seq) m what)
        → TicketFrom seq ticket
    Begins : node.calls < seq → seq ≤ new.calls → ((m : ℕ) (fact : Fact) → ReadingClaims own ticket.reading m fact → (m ≡ own) × SlotShows (slot_up new after) fact)
        → ReadingIsWhole ticket.reading → CountsMishap ticket → ((m : ℕ) (what : AnswerAwaited) → ReadingWaits ticket.reading m what → Covered out (numbered seq) m what)
        → TicketFrom seq ticket

  module _ (ready : IsReady own (slot_up node disk) heard) (boot : new.boot ≡ node.boot) (calls : node.calls ≤ new.calls) (boots : boot_of after ≡ boot_of disk)
      (tickets : (seq : ℕ) (ticket : ReadTicket) → map.get new.reads seq ≡ Some ticket → TicketFrom seq ticket)
      (asks : (letter : Letter) → Among letter out → (subject : Subject) → subject_asked letter.body ≡ Some subject → (number : Number) → letter.ticket ≡ Some number → AsksOwn act letter number subject)
      (tells : (letter : Letter) → Among letter out → is_told letter.body ≡ true → AnswersHeard act letter)
      (settled : (letter : Letter) → heard ≡ Some letter → (number : Number) (m : ℕ) (what : AnswerAwaited) → Covers letter number m what
      → Covered out number m what ⊎ ((number.node ≡ own) × (LifeWaits (Up new) number m what → ⊥))) where
    abbrev old_order : NodeInOrder node (boot_of disk)
    old_order = ready.order.each node refl

    order_after : NodeInOrder new (boot_of after)
    order_after = record {
      booted = boot ∙ old_order.booted ∙ sym boots;
      numbered = λ seq ticket h. within seq ticket (tickets seq ticket h);
      whole = λ seq ticket h. whole seq ticket (tickets seq ticket h);
      counts = λ seq ticket h. counts seq ticket (tickets seq ticket h);
    }
      where
        within : (seq : ℕ) (ticket : ReadTicket) → TicketFrom seq ticket → seq ≤ new.calls
        within seq ticket (Stays h) = le_trans (old_order.numbered seq ticket h) calls
        within seq ticket (Changes was h subject claims whole counts waits) = le_trans (old_order.numbered seq was h) calls
        within seq ticket (Begins above le claims whole counts waits) = le

        whole : (seq : ℕ) (ticket : ReadTicket) → TicketFrom seq ticket → ReadingIsWhole ticket.reading
        whole seq ticket (Stays h) = old_order.whole seq ticket h
        whole seq ticket (Changes was h subject claims keeps counts waits) = keeps (old_order.whole seq was h)
        whole seq ticket (Begins above le claims is counts waits) = is

        counts : (seq : ℕ) (ticket : ReadTicket) → TicketFrom seq ticket → CountsMishap ticket
        counts seq ticket (Stays h) = old_order.counts seq ticket h
        counts seq ticket (Changes was h subject claims whole keeps waits) = keeps (old_order.counts seq was h)
        counts seq ticket (Begins above le claims whole is waits) = is

    -- a number of this node and boot
    number_is : (number : Number) → number.node ≡ own → number.boot ≡ node.boot → numbered number.seq ≡ number
    number_is number at b = λ i. record { node = sym at i; boot = sym b i; seq = number.seq }

    came : (number : Number) (reading : Reading) → number.node ≡ own → LifeReads (Up new) number reading → ReadFrom act number reading
    came number reading at r =
        let same = same_up new r.node r.up in
        let b : number.boot ≡ node.boot = r.boot ∙ ap (λ (n : Node). n.boot) (sym same) ∙ boot in
        subst (ReadFrom act number) r.is (by r.ticket b (tickets number.seq r.ticket (subst (λ (n : Node). map.get n.reads number.seq ≡ Some r.ticket) (sym same) r.here)))
      where
        by : (ticket : ReadTicket) → number.boot ≡ node.boot → TicketFrom number.seq ticket → ReadFrom act number ticket.reading
        by ticket b (Stays h) = Moved ticket.reading (record { node = node; up = refl; boot = b; ticket = ticket; here = h; is = refl }) refl (λ m fact c. inl c)
        by ticket b (Changes was h subject claims whole counts waits) = Moved was.reading (record { node = node; up = refl; boot = b; ticket = was; here = h; is = refl }) subject
            (λ m fact c. ⊎_elim
            (λ old. inl old)
            (λ new_. inr (subst (λ n. Backs n (subject_of ticket.reading) m fact) (number_is number at b) new_))
            (claims m fact c))
        by ticket b (Begins above le claims whole counts waits) = Begun
            (λ drawn. ⊎_elim (λ below. omega (arith, below, b)) (λ (same, within). omega (arith, within, above)) drawn)
            claims

    waits_on : (number : Number) → number.node ≡ own → (m : ℕ) (what : AnswerAwaited) → LifeWaits (Up new) number m what → LifeWaits (Up node) number m what ⊎ Covered out number m what
    waits_on number at m what w =
        let r = w.reads in
        let same = same_up new r.node r.up in
        let b : number.boot ≡ node.boot = r.boot ∙ ap (λ (n : Node). n.boot) (sym same) ∙ boot in
        by r.ticket b (subst (λ g. ReadingWaits g m what) (sym r.is) w.waits) (tickets number.seq r.ticket (subst (λ (n : Node). map.get n.reads number.seq ≡ Some r.ticket) (sym same) r.here))
      where
        stood : (ticket : ReadTicket) → number.boot ≡ node.boot → map.get node.reads number.seq ≡ Some ticket → ReadingWaits ticket.reading m what → LifeWaits (Up node) number m what
        stood ticket b h waits = record { reading = ticket.reading; reads = record { node = node; up = refl; boot = b; ticket = ticket; here = h; is = refl }; waits = waits }

        by : (ticket : ReadTicket) → number.boot ≡ node.boot → ReadingWaits ticket.reading m what → TicketFrom number.seq ticket → LifeWaits (Up node) number m what ⊎ Covered out number m what
        by ticket b waits (Stays h) = inl (stood ticket b h waits)
        by ticket b waits (Changes was h subject claims whole counts on) = ⊎_elim
            (λ old. inl (stood was b h old))
            (λ new_. inr (subst (λ n. Covered out n m what) (number_is number at b) new_))
            (on m what waits)
        by ticket b waits (Begins above le claims whole counts on) = inr (subst (λ n. Covered out n m what) (number_is number at b) (on m what waits))

    pub is_act : IsCallDone act
    is_act = record {
      is = record {
        order = record { each = λ other up. subst (λ (n : Node). NodeInOrder n (boot_of after)) (same_up new other up) order_after };
        drawn = λ number at d. ⊎_elim (λ below. inl (subst (λ b. number.boot < b) (sym boot) below)) (λ (same, le). inr (same ∙ sym boot, le_trans le calls)) d;
        reads = came;
        asks = asks;
        tells = tells;
        waits = waits_on;
      };
      settles = record { settled = settled };
    }

-- a ticket of the node is changed, and no other
module _ (own : ℕ) (node : Node) (disk : List Record) (heard : Option Letter) (seq : ℕ) (was ticket : ReadTicket) (here : map.get node.reads seq ≡ Some was) (out : List Letter)
    (ready : IsReady own (slot_up node disk) heard) (counts : CountsMishap was → CountsMishap ticket)
    (step : ReadStep (record { own = own; epoch = node.epoch; number = record { node = own; boot = node.boot; seq = seq } })
    (Backs own node (with_reading node seq ticket) disk disk heard out (record { node = own; boot = node.boot; seq = seq }) (subject_of was.reading)) was.reading (record { reading = ticket.reading; out = out })) where
  abbrev number : Number
  number = record { node = own; boot = node.boot; seq = seq }

  changed : (q : ℕ) (one : ReadTicket) → map.get (map.insert node.reads seq ticket) q ≡ Some one → TicketFrom own node (with_reading node seq ticket) disk disk heard out q one
  changed q one h = ⊎_elim
      (λ (same, is). subst (λ (t : ReadTicket). TicketFrom own node (with_reading node seq ticket) disk disk heard out q t) (sym is)
      (subst (λ k. TicketFrom own node (with_reading node seq ticket) disk disk heard out k ticket) (sym same)
      (Changes was here step.subject
      (λ m fact c. ⊎_elim (λ old. inl old)
      (λ b. inr (subst (λ s. Backs own node (with_reading node seq ticket) disk disk heard out number s m fact) step.subject b))
      (step.claims m fact c))
      step.whole counts step.waits)))
      (λ (apart, old). Stays old)
      (found nat_cmp_total exact_unsigned node.reads seq ticket q one h)

  pub changed_asks : (letter : Letter) → Among letter out → (subject : Subject) → subject_asked letter.body ≡ Some subject → (n : Number) → letter.ticket ≡ Some n
      → AsksOwn (act own node (with_reading node seq ticket) disk disk heard out) letter n subject
  changed_asks letter m subject e n t =
      let s = (step.sent letter m).asks subject e in
      let same : number ≡ n = number_same number n (sym s.0 ∙ t) in
      record {
        own = ap (λ (k : Number). k.node) (sym same);
        reading = ticket.reading;
        reads = record { node = with_reading node seq ticket; up = refl; boot = ap (λ (k : Number). k.boot) (sym same); ticket = ticket; here = subst (λ (k : Number). map.get (map.insert node.reads seq ticket) k.seq ≡ Some ticket) same stands; is = refl };
        same = s.1;
      }
    where
      number_same : (a b : Number) → Some a ≡ Some b → a ≡ b
      number_same a b p = cc

      stands : map.get (map.insert node.reads seq ticket) seq ≡ Some ticket
      stands = written nat_cmp_total exact_unsigned node.reads seq ticket

  pub changes_act : ((letter : Letter) → heard ≡ Some letter → (n : Number) (m : ℕ) (what : AnswerAwaited) → Covers letter n m what
      → Covered out n m what ⊎ ((n.node ≡ own) × (LifeWaits (Up (with_reading node seq ticket)) n m what → ⊥)))
      → IsCallDone (act own node (with_reading node seq ticket) disk disk heard out)
  changes_act settled = is_act own node (with_reading node seq ticket) disk disk heard out ready refl (le_refl node.calls) refl changed changed_asks
      (λ letter m told. absurd ((step.sent letter m).untold told)) settled
