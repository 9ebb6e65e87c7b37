-- A node that begins a Strike acts as the invariant asks.
use Rattle.std.proofs.Common.{◌≡◌, ◌≢◌, ◌⊎◌, inl, inr, ⊎_elim, ◌≤◌, ℕ, zero, suc, ◌+◌, Bool, true, false, List, [], ◌∷◌, map, Some, None, refl, sym, ap, ◌∙◌, subst, true≢false, nat_eq, if◌then◌else◌, arith, ne_eqb}
use Rattle.std.specs.Cmp.{nat_cmp_total}
use Rattle.std.proofs.lemmas.Map.Lookups.{exact_unsigned}
use Rattle.std.proofs.lemmas.Bool.{cases_eq}
use Rattle.mail_model.specs.Identity.{Id, EpochId}
use Rattle.mail_model.specs.Identity.Key.{Message}
use Rattle.mail_model.specs.Identity.Value.{Gone}
use Rattle.mail_model.specs.Record.{Record}
use Rattle.object_model.specs.Sets.{has, one_node, without_node, all_nodes}
use Rattle.object_model.specs.Lists.{Among}
use Rattle.object_model.specs.Letters.{Number, DeletionMark, Letter}
use Rattle.object_model.specs.Letters.Body.{Strike}
use Rattle.cluster_model.specs.Cluster.{Want, Ticket, Node, epoch_of}
use Rattle.cluster_model.specs.Cluster.AskedOfNodes.{Deletion}
use Rattle.cluster_model.specs.Cluster.Life.{Up}
use Rattle.cluster_model.specs.Store.{Update, take_all, gone_updates}
use Rattle.cluster_model.specs.Claims.{Wants, Covered, ShowsGone}
use Rattle.cluster_model.specs.Claims.Fact.{IsGone}
use Rattle.cluster_model.specs.Moves.{NodeAct, IsCallDone, IsReady, IsBacked}
use Rattle.cluster_model.specs.Rules.{Reaction, StrikeItem, store_of, dated, marks_for, strike_to, strikes_to, new_want, new_number, begin_strike}
use Rattle.object_model.proofs.Lists.{among_front, among_behind, among_either}
use Rattle.object_model.proofs.SetLaws.{has_one, has_none, left_in, all_has}
use Rattle.object_model.proofs.MapLaws.{found}
use Rattle.cluster_model.proofs.StoreSteps.{StoreStep, UpdatesFit}
use Rattle.cluster_model.proofs.Takes.{took_all, all_cover}
use Rattle.cluster_model.proofs.Filing.{among_map, map_among}
use Rattle.cluster_model.specs.Deeds.{act_of, slot_up}
use Rattle.cluster_model.proofs.Reacts.{fits_of, BroughtBy, AckedBy, LetterReacts, is_act}
use Rattle.cluster_model.proofs.Quiet.{drawn_rises}
use Rattle.cluster_model.proofs.Tickets.{Came, Begins, numbered, tickets_react, as_it_was}
use Rattle.cluster_model.proofs.HearCopies.{gone_fit, struck, covers_gone}
use Rattle.cluster_model.proofs.Closing.{unheard}
use Rattle.cluster_model.specs.Cluster.CallKind.{Striking}
use Rattle.object_model.specs.Mishaps.{no_mishaps}

-- what a node is asked for is an item that asks it
item_of : (m : ℕ) (items : List StrikeItem) (mark : DeletionMark) → Among mark (marks_for m items) → (item : StrikeItem) × Among item items × (item.mark ≡ mark)
item_of m [] mark inside = absurd inside
item_of m (item ∷ items) mark inside = ⊎_elim
    (λ front. by (has item.asks m) front)
    (λ behind. let r = item_of m items mark behind in (r.0, inr r.1, r.2))
    (among_either mark (if has item.asks m then item.mark ∷ [] else []) (marks_for m items) inside)
  where
    by : (b : Bool) → Among mark (if b then item.mark ∷ [] else []) → (one : StrikeItem) × Among one (item ∷ items) × (one.mark ≡ mark)
    by true f = ⊎_elim (λ e. (item, inl refl, e)) (λ none. absurd none) f
    by false f = absurd f

mark_among : (m : ℕ) (items : List StrikeItem) (item : StrikeItem) → Among item items → has item.asks m ≡ true → Among item.mark (marks_for m items)
mark_among m [] item inside h = absurd inside
mark_among m (one ∷ items) item inside h = ⊎_elim
    (λ is. among_front item.mark (if has one.asks m then one.mark ∷ [] else []) (marks_for m items)
    (subst (λ b. Among item.mark (if b then one.mark ∷ [] else [])) (sym (subst (λ (x : StrikeItem). has x.asks m ≡ true) (sym is) h)) (inl (ap (λ (x : StrikeItem). x.mark) is))))
    (λ behind. among_behind item.mark (if has one.asks m then one.mark ∷ [] else []) (marks_for m items) (mark_among m items item behind h))
    inside

-- each item is one of those that were asked for
asked_of : (own : ℕ) (node : Node) (count : ℕ) (asked : List (Id × ℕ)) (item : StrikeItem) → Among item (dated own node count asked) → (pair : Id × ℕ) × Among pair asked × (pair.0 ≡ item.mark.id) × (pair.1 ≡ item.asks)
asked_of own node count [] item inside = absurd inside
asked_of own node count (pair ∷ asked) item inside = ⊎_elim
    (λ is. (pair, inl refl, ap (λ (x : StrikeItem). x.mark.id) is, ap (λ (x : StrikeItem). x.asks) is))
    (λ behind. let r = asked_of own node (count + 1) asked item behind in (r.0, inr r.1, r.2, r.3))
    inside

-- a letter of a Strike
record IsStrike (own : ℕ) (epoch : EpochId) (number : Number) (user : List ℕ) (m : ℕ) (marks : List DeletionMark) (letter : Letter) : Type 0 where
  is : letter ≡ (record { from = own; to = m; epoch = epoch; ticket = Some number; body = Strike user marks })

strike_is : (own : ℕ) (epoch : EpochId) (number : Number) (user : List ℕ) (m : ℕ) (marks : List DeletionMark) (letter : Letter) → Among letter (strike_to own epoch number user m marks) → IsStrike own epoch number user m marks letter
strike_is own epoch number user m [] letter inside = absurd inside
strike_is own epoch number user m (mark ∷ marks) letter inside = ⊎_elim (λ e. record { is = sym e }) (λ none. absurd none) inside

strike_among : (own : ℕ) (epoch : EpochId) (number : Number) (user : List ℕ) (m : ℕ) (marks : List DeletionMark) (mark : DeletionMark) → Among mark marks
    → Among (record { from = own; to = m; epoch = epoch; ticket = Some number; body = Strike user marks }) (strike_to own epoch number user m marks)
strike_among own epoch number user m [] mark inside = absurd inside
strike_among own epoch number user m (one ∷ marks) mark inside = inl refl

module _ (own : ℕ) (epoch : EpochId) (number : Number) (user : List ℕ) (items : List StrikeItem) where
  strikes_are : (nodes : ℕ) (letter : Letter) → Among letter (strikes_to own epoch number user items nodes) → (m : ℕ) × IsStrike own epoch number user m (marks_for m items) letter
  strikes_are zero letter inside = absurd inside
  strikes_are (suc k) letter inside = ⊎_elim
      (λ front. strikes_are k letter front)
      (λ last. by (nat_eq (suc k) own) last)
      (among_either letter (strikes_to own epoch number user items k) _ inside)
    where
      by : (b : Bool) → Among letter (if b then [] else strike_to own epoch number user (suc k) (marks_for (suc k) items)) → (m : ℕ) × IsStrike own epoch number user m (marks_for m items) letter
      by true l = absurd l
      by false l = (suc k, strike_is own epoch number user (suc k) (marks_for (suc k) items) letter l)

  strikes_among : (nodes m : ℕ) (mark : DeletionMark) → Among mark (marks_for m items) → m ≢ own → m ≢ 0 → m ≤ nodes
      → Among (record { from = own; to = m; epoch = epoch; ticket = Some number; body = Strike user (marks_for m items) }) (strikes_to own epoch number user items nodes)
  strikes_among zero m mark inside apart some le = absurd (some (omega (arith, le)))
  strikes_among (suc k) m mark inside apart some le = ⊎_elim
      (λ is. among_behind (letter m) (strikes_to own epoch number user items k) _ (subst (λ b. Among (letter m) (if b then [] else strike_to own epoch number user (suc k) (marks_for (suc k) items)))
      (sym (ne_eqb (suc k) own (λ e. apart (is ∙ e))))
      (subst (λ j. Among (letter m) (strike_to own epoch number user j (marks_for j items))) is (strike_among own epoch number user m (marks_for m items) mark inside))))
      (λ other. among_front (letter m) (strikes_to own epoch number user items k) _ (strikes_among k m mark inside apart some (omega (arith, le, other))))
      (cases_eq m (suc k))
    where
      letter : ℕ → Letter
      letter j = record { from = own; to = j; epoch = epoch; ticket = Some number; body = Strike user (marks_for j items) }

module _ (own nodes : ℕ) (numbered_ : own ≢ 0) (within : own ≤ nodes) (few : nodes ≤ 64) (node : Node) (disk : List Record) (user : List ℕ) (asked : List (Id × ℕ))
    (in_plan : (pair : Id × ℕ) → Among pair asked → (m : ℕ) → has pair.1 m ≡ true → m ≤ nodes) (ready : IsReady own (slot_up node disk) None) where
  abbrev items : List StrikeItem
  items = dated own node node.count asked

  abbrev marks : List DeletionMark
  marks = marks_for own items

  abbrev updates : List Update
  updates = gone_updates user (all_nodes nodes) marks

  abbrev did : Reaction
  did = begin_strike own nodes node disk user asked

  abbrev pub strikes : List (List ℕ × Id)
  strikes = map (λ (pair : Id × ℕ). (user, pair.0)) asked

  abbrev deed : NodeAct
  deed = act_of own node disk did None None strikes

  step : StoreStep own updates (BroughtBy deed) (AckedBy deed) (store_of node disk) (take_all own updates (store_of node disk))
  step = took_all own updates (BroughtBy deed) (AckedBy deed) updates (λ u m. m) (store_of node disk)

  -- what is marked is begun
  begun : (id : Id) (m : ℕ) (mark : DeletionMark) → Among mark (marks_for m items) → mark.id ≡ id → Among (user, id) strikes
  begun id m mark inside same =
      let item = item_of m items mark inside in
      let pair = asked_of own node node.count asked item.0 item.1 in
      subst (λ i. Among (user, i) strikes) (pair.2 ∙ ap (λ (x : DeletionMark). x.id) item.2 ∙ same) (map_among (λ (p : Id × ℕ). (user, p.0)) pair.0 asked pair.1)

  fits : UpdatesFit own updates
  fits = gone_fit own user (all_nodes nodes) marks (all_has nodes own numbered_ within few)

  -- and so is what an item is of
  asked_for : (item : StrikeItem) → Among item items → Among (user, item.mark.id) strikes
  asked_for item inside =
      let pair = asked_of own node node.count asked item inside in
      subst (λ i. Among (user, i) strikes) pair.2 (map_among (λ (p : Id × ℕ). (user, p.0)) pair.0 asked pair.1)

  -- the own node says what it is asked for
  shows : (item : StrikeItem) → Among item items → has item.asks own ≡ true → ShowsGone user item.mark.id did.disk
  shows item inside h =
      let d = step.fits fits (fits_of own node disk ready.fits) in
      covers_gone user item.mark.id item.mark.stamp (all_nodes nodes) did.disk d.kind (all_cover own updates (λ i o. ⊥) (λ k s n. ⊥) updates (λ v k. k) (store_of node disk)
      (record { key = Message user item.mark.id; state = record { value = Gone; stamp = item.mark.stamp; targets = all_nodes nodes } })
      (map_among (λ (mark : DeletionMark). record { key = Message user mark.id; state = record { value = Gone; stamp = mark.stamp; targets = all_nodes nodes } }) item.mark marks (mark_among own items item inside h)))

  own_confirms : (item : StrikeItem) → Among item items → (m : ℕ) → has (new_want own (Deletion user item.mark.id) item.asks).confirmed m ≡ true → IsBacked deed m (IsGone user item.mark.id)
  own_confirms item inside m h = by (has item.asks own) refl h
    where
      by : (b : Bool) → has item.asks own ≡ b → has (if b then one_node own else 0) m ≡ true → IsBacked deed m (IsGone user item.mark.id)
      by true e g = inr (inl (has_one own m g, shows item inside e))
      by false e g = absurd (true≢false (sym g ∙ has_none m))

  covered : (seq m : ℕ) (item : StrikeItem) → Among item items → seq ≡ node.calls + 1 → has (without_node item.asks own) m ≡ true
      → Covered did.out (numbered own node disk did None None strikes refl seq) m (Deletion user item.mark.id)
  covered seq m item inside same h =
      let l = left_in item.asks own m h in
      let pair = asked_of own node node.count asked item inside in
      let mark = mark_among m items item inside l.0 in
      record {
        letter = record { from = own; to = m; epoch = epoch_of node; ticket = Some (new_number own node); body = Strike user (marks_for m items) };
        inside = strikes_among own (epoch_of node) (new_number own node) user items nodes m item.mark mark l.1 (λ z. true≢false (sym l.0 ∙ ap (has item.asks) z))
            (in_plan pair.0 pair.1 m (subst (λ a. has a m ≡ true) (sym pair.3) l.0));
        covers = (ap (λ s. Some (record { node = own; boot = node.boot; seq = s })) (sym same), inl (refl, refl, (refl, (item.mark, mark, refl))));
      }

  came : (seq : ℕ) (want : Want) → Wants (Up did.node) seq want → Came deed seq want ⊎ Begins deed (numbered own node disk did None None strikes refl seq) want
  came seq want w = ⊎_elim
      (λ (at, is).
      let r = among_map (λ (item : StrikeItem). new_want own (Deletion user item.mark.id) item.asks) want items (subst (λ (t : Ticket). Among want t.wants) is w.inside) in
      inr (subst (Begins deed (numbered own node disk did None None strikes refl seq)) r.2 (record {
        opens = λ f g. absurd (cc g);
        strikes = λ name other g. let e = same_deletion r.0 name other g in subst (λ u. Among (u, other) strikes) e.0 (subst (λ i. Among (user, i) strikes) e.1 (asked_for r.0 r.1));
        confirmed = own_confirms r.0 r.1;
        waits = λ m h. covered seq m r.0 r.1 at h;
      })))
      (λ (apart, old). inl (as_it_was deed seq want (record { ticket = w.ticket; here = old; inside = w.inside })))
      (found nat_cmp_total exact_unsigned node.tickets (node.calls + 1) (record { kind = Striking; wants = map (λ item. new_want own (Deletion user item.mark.id) item.asks) items; mishaps = no_mishaps }) seq w.ticket w.here)
    where
      same_deletion : (item : StrikeItem) (name : List ℕ) (other : Id) → Deletion user item.mark.id ≡ Deletion name other → (user ≡ name) × (item.mark.id ≡ other)
      same_deletion item name other g = (cc, cc)

  letter_out : (letter : Letter) → Among letter did.out → LetterReacts deed letter
  letter_out letter m =
      let r = strikes_are own (epoch_of node) (new_number own node) user items nodes letter m in
      subst (LetterReacts deed) (sym r.1.is) (record {
        holds = λ other o h. absurd h;
        file = λ other us f. absurd (cc f.is);
        filed = λ other e. absurd (cc e);
        claims = λ k fact c. absurd c;
        speaks = λ name other (same, some). inr (inr (subst (λ u. Among (u, other) strikes) same (begun other r.0 some.0 some.1 some.2)));
        fit = tt;
      })

  pub strike_begins : IsCallDone deed
  strike_begins = is_act own node disk did None None strikes updates ready
      (record {
        step = step;
        fits = fits;
        speaks = λ name other s. let r = struck user (all_nodes nodes) marks name other s in inr (subst (λ u. Among (u, other) strikes) r.0 (begun other own r.1.0 r.1.1 r.1.2));
      })
      (record { boot = refl; drawn = drawn_rises own node.boot node.drawn updates; fresh = λ c e. absurd (cc e); ended = λ c e. absurd (cc e) })
      (tickets_react own node disk did None None strikes refl came (unheard own node disk ready did.out (Up did.node)))
      letter_out
