-- A node that hears Filed or StrikeTold, notes a mishap or ends a ticket acts as the invariant asks.
use Rattle.std.proofs.Common.{◌≡◌, ◌⊎◌, inl, inr, ⊎_elim, ◌≤◌, ℕ, Bool, true, false, cond, ◌&&◌, ◌||◌, List, [], ◌∷◌, Option, Some, None, refl, sym, ap, ◌∙◌, subst, true≢false, nat_eq, eq-eqb, if◌then◌else◌, le_refl}
use Rattle.std.specs.FinMap as fin
use Rattle.std.specs.Cmp.Lexicographic.{pointwise, bytes_decides}
use Rattle.std.specs.List.{list_any}
use Rattle.std.proofs.lemmas.Bool.{and_parts, and_from, or_left}
use Rattle.mail_model.specs.Identity.{Id}
use Rattle.mail_model.specs.Record.{Record}
use Rattle.mail_model.specs.Listing.{is_same_id}
use Rattle.object_model.specs.Sets.{has, with_node, without_node}
use Rattle.object_model.specs.Lists.{Among}
use Rattle.object_model.specs.Letters.{Number, Body, Letter}
use Rattle.object_model.specs.Letters.Body.{Filed, StrikeTold}
use Rattle.cluster_model.specs.Cluster.{AskedOfNodes, Want, Ticket, Node}
use Rattle.cluster_model.specs.Cluster.AskedOfNodes.{Copies, Deletion}
use Rattle.cluster_model.specs.Cluster.Life.{Up}
use Rattle.cluster_model.specs.Claims.{fact_of, Wants, LifeWaits, Asks, Tells, Covers, Covered, BodyClaims}
use Rattle.cluster_model.specs.Claims.Fact.{IsGone}
use Rattle.cluster_model.specs.Moves.{NodeAct, IsCallDone, IsReady, IsBacked, IsFactConfirmed}
use Rattle.cluster_model.specs.Rules.{Reaction, store_of, idle, tells, told_want, told_ticket, ticket_at, seq_at, with_ticket, told_at, hear_told}
use Rattle.object_model.proofs.SetLaws.{has_with, left_in}
use Rattle.object_model.proofs.StateLaws.{id_is, id_self}
use Rattle.cluster_model.proofs.StoreSteps.{StoreStep, stays}
use Rattle.cluster_model.proofs.Filing.{any_among}
use Rattle.cluster_model.specs.Deeds.{act_of, slot_up}
use Rattle.cluster_model.proofs.Reacts.{BroughtBy, AckedBy, TicketsReact, is_act}
use Rattle.cluster_model.proofs.Quiet.{up_node}
use Rattle.cluster_model.proofs.Tickets.{Came, Begins, numbered, tickets_react, rewanted, as_it_was}

-- a reaction that leaves log and disk alone, and sends nothing
module _ (own : ℕ) (node : Node) (disk : List Record) (heard : Option Letter) (after : Node) (log : after.log ≡ node.log) (boot : after.boot ≡ node.boot) (drawn : node.drawn ≤ after.drawn) where
  abbrev still_did : Reaction
  still_did = record { node = after; disk = disk; out = [] }

  pub still_acts : IsReady own (slot_up node disk) heard → TicketsReact (act_of own node disk still_did heard None []) → IsCallDone (act_of own node disk still_did heard None [])
  still_acts ready tickets = is_act own node disk still_did heard None [] [] ready
      (record {
        step = subst (λ l. StoreStep own [] (BroughtBy act) (AckedBy act) (store_of node disk) (record { log = l; disk = disk })) (sym log) (stays own [] (BroughtBy act) (AckedBy act) (store_of node disk));
        fits = λ u m. absurd m;
        speaks = λ user id s. absurd s.inside;
      })
      (record { boot = boot; drawn = drawn; fresh = λ content e. absurd (cc e); ended = λ content e. absurd (cc e) })
      tickets (λ letter m. absurd m)
    where
      act : NodeAct
      act = act_of own node disk still_did heard None []

-- the test decides whether a letter tells
pub tells_true : (body : Body) (asked : AskedOfNodes) → Tells body asked → tells body asked ≡ true
tells_true (Filed id) (Copies filing) t = subst (λ i. is_same_id id i ≡ true) t (id_self id)
tells_true (StrikeTold user ids) (Deletion name id) (same, inside) =
    and_from (pointwise nat_eq user name) (list_any (λ one. is_same_id one id) ids) ((bytes_decides user name).1 same) (any_among (λ one. is_same_id one id) id ids inside (id_self id))
tells_true (Filed id) (Deletion name other) t = absurd t
tells_true (StrikeTold user ids) (Copies filing) t = absurd t
tells_true body asked t = absurd t

any_is : (id : Id) (ids : List Id) → list_any (λ one. is_same_id one id) ids ≡ true → Among id ids
any_is id [] e = absurd (true≢false (sym e))
any_is id (one ∷ ids) e = by (λ f. any_is id ids f) (is_same_id one id) refl e
  where
    by : ((list_any (λ one. is_same_id one id) ids ≡ true) → Among id ids) → (t : Bool) → is_same_id one id ≡ t → (t || list_any (λ one. is_same_id one id) ids) ≡ true → (one ≡ id) ⊎ Among id ids
    by rest true same f = inl (id_is one id same)
    by rest false same f = inr (rest f)

pub tells_is : (body : Body) (asked : AskedOfNodes) → tells body asked ≡ true → Tells body asked
tells_is (Filed id) (Copies filing) e = id_is id filing.id e
tells_is (StrikeTold user ids) (Deletion name id) e =
    let parts = and_parts (pointwise nat_eq user name) (list_any (λ one. is_same_id one id) ids) e in
    ((bytes_decides user name).0 parts.0, any_is id ids parts.1)
tells_is (Filed id) (Deletion name other) e = absurd (true≢false (sym e))
tells_is (StrikeTold user ids) (Copies filing) e = absurd (true≢false (sym e))
tells_is body asked e = absurd (true≢false (sym e))

-- what becomes of a want that is told
record Told (body : Body) (from : ℕ) (old new : Want) : Type 0 where
  asked : old.asked ≡ new.asked
  confirmed : (m : ℕ) → has new.confirmed m ≡ true → (has old.confirmed m ≡ true) ⊎ ((m ≡ from) × Tells body old.asked)
  waits : (m : ℕ) → has new.waiting m ≡ true → has old.waiting m ≡ true
  settled : (m : ℕ) → has new.waiting m ≡ true → Tells body old.asked → m ≡ from → ⊥

told_is : (body : Body) (from : ℕ) (want : Want) → Told body from want (told_want body from want)
told_is body from want = by (tells body want.asked && (has want.waiting from || has want.failed from)) refl
  where
    by : (b : Bool) → (tells body want.asked && (has want.waiting from || has want.failed from)) ≡ b → Told body from want
        (if b then record want { confirmed = with_node want.confirmed from; waiting = without_node want.waiting from; failed = without_node want.failed from } else want)
    by true e = record {
      asked = refl;
      confirmed = λ m h. ⊎_elim (λ old. inl old) (λ is. inr (is, tells_is body want.asked (and_parts (tells body want.asked) (has want.waiting from || has want.failed from) e).0)) (has_with want.confirmed from m h);
      waits = λ m h. (left_in want.waiting from m h).0;
      settled = λ m h t is. (left_in want.waiting from m h).1 is;
    }
    by false e = record {
      asked = refl;
      confirmed = λ m h. inl h;
      waits = λ m h. h;
      settled = λ m h t is. true≢false (sym (and_from (tells body want.asked) (has want.waiting from || has want.failed from) (tells_true body want.asked t)
          (or_left (has want.waiting from) (has want.failed from) (subst (λ k. has want.waiting k ≡ true) is h))) ∙ e);
    }

-- the ticket that a letter answers
pub record Answers (own : ℕ) (node : Node) (ticket : Option Number) (found : Ticket) : Type 0 where
  pub number : Number
  pub is : ticket ≡ Some number
  pub here : fin.get node.tickets number.seq ≡ Some found

pub answers_of : (own : ℕ) (node : Node) (ticket : Option Number) (found : Ticket) → ticket_at own node ticket ≡ Some found → Answers own node ticket found
answers_of own node None found e = absurd (cc e)
answers_of own node (Some number) found e = by (nat_eq number.node own && nat_eq number.boot node.boot) e
  where
    by : (b : Bool) → cond b (fin.get node.tickets number.seq) None ≡ Some found → Answers own node (Some number) found
    by true f = record { number = number; is = refl; here = f }
    by false f = absurd (cc f)

-- a ticket that stands is found
pub stands_at : (own : ℕ) (node : Node) (number : Number) → number.node ≡ own → number.boot ≡ node.boot → ticket_at own node (Some number) ≡ fin.get node.tickets number.seq
stands_at own node number here boot = ap (λ b. cond b (fin.get node.tickets number.seq) None)
    (and_from (nat_eq number.node own) (nat_eq number.boot node.boot) (eq-eqb number.node own here) (eq-eqb number.boot node.boot boot))

module _ (own : ℕ) (node : Node) (disk : List Record) (letter : Letter) (to : letter.to ≡ own) (ready : IsReady own (slot_up node disk) (Some letter))
    (answers : (asked : AskedOfNodes) → Asks letter.body asked → ⊥) where
  -- what the letter tells backs what is confirmed by it
  tell_backs : (did : Reaction) (m : ℕ) (seq : ℕ) (want : Want) → Wants (Up node) seq want → m ≡ letter.from → Tells letter.body want.asked
      → IsBacked (act_of own node disk did (Some letter) None []) m (fact_of want.asked) ⊎ IsFactConfirmed (act_of own node disk did (Some letter) None []) m (fact_of want.asked)
  tell_backs did m seq want stands from told = by letter.body refl want.asked refl told
    where
      act : NodeAct
      act = act_of own node disk did (Some letter) None []

      by : (body : Body) → letter.body ≡ body → (asked : AskedOfNodes) → want.asked ≡ asked → Tells body asked → IsBacked act m (fact_of asked) ⊎ IsFactConfirmed act m (fact_of asked)
      by (Filed id) is (Copies filing) e t = inr (record {
        filing = filing;
        stood = record { seq = seq; want = want; stands = stands; is = e };
        heard = record { letter = letter; is = refl; holds = (sym from, is ∙ ap Filed t) };
        is = refl;
      })
      by (StrikeTold user ids) is (Deletion name id) e (same, inside) = inl (inr (inr (record {
        letter = letter;
        is = refl;
        holds = subst (λ b. BodyClaims letter.from b m (IsGone name id)) (sym is) (sym from, (id, inside, ap (λ u. IsGone u id) same));
      })))
      by (Filed id) is (Deletion name other) e t = absurd t
      by (StrikeTold user ids) is (Copies filing) e t = absurd t
      by body is asked e t = absurd t

  told_react : (found : Option Ticket) → ticket_at own node letter.ticket ≡ found → IsCallDone (act_of own node disk (told_at node disk letter found) (Some letter) None [])
  told_react None e = still_acts own node disk (Some letter) node refl refl (le_refl node.drawn) ready (tickets_react own node disk did (Some letter) None [] refl
      (λ seq want w. inl (as_it_was act seq want w))
      settled)
    where
      did : Reaction
      did = idle node disk

      act : NodeAct
      act = act_of own node disk did (Some letter) None []

      not_here : (number : Number) (m : ℕ) (asked : AskedOfNodes) → letter.ticket ≡ Some number → number.node ≡ own → LifeWaits (Up node) number m asked → ⊥
      not_here number m asked is here w =
          let boot : number.boot ≡ node.boot = w.boot ∙ ap (λ (x : Node). x.boot) (sym (up_node node w.node w.up)) in
          let none : fin.get node.tickets number.seq ≡ None = sym (stands_at own node number here boot) ∙ ap (ticket_at own node) (sym is) ∙ e in
          clash (fin.get node.tickets number.seq) w.stands.ticket none w.stands.here
        where
          clash : (o : Option Ticket) (t : Ticket) → o ≡ None → o ≡ Some t → ⊥
          clash o t p q = cc

      settled : (one : Letter) → Some letter ≡ Some one → (number : Number) (m : ℕ) (asked : AskedOfNodes) → Covers one number m asked
          → Covered [] number m asked ⊎ ((number.node ≡ own) × (LifeWaits (Up node) number m asked → ⊥))
      settled one is number m asked c =
          let d : Covers letter number m asked = subst (λ (l : Letter). Covers l number m asked) (sym (same one is)) c in
          ⊎_elim
          (λ (from, at, asks). absurd (answers asked asks))
          (λ (at, from, told). let here : number.node ≡ own = sym at ∙ to in inr (here, not_here number m asked d.0 here))
          d.1
        where
          same : (one : Letter) → Some letter ≡ Some one → letter ≡ one
          same one e = cc
  told_react (Some ticket) e = still_acts own node disk (Some letter) (with_ticket node (seq_at letter.ticket) (told_ticket letter.body letter.from ticket)) refl refl (le_refl node.drawn) ready
      (tickets_react own node disk did (Some letter) None [] refl came settled)
    where
      f : Want → Want
      f = told_want letter.body letter.from

      did : Reaction
      did = record { node = with_ticket node (seq_at letter.ticket) (told_ticket letter.body letter.from ticket); disk = disk; out = [] }

      act : NodeAct
      act = act_of own node disk did (Some letter) None []

      here : fin.get node.tickets (seq_at letter.ticket) ≡ Some ticket
      here = let a = answers_of own node letter.ticket ticket e in subst (λ o. fin.get node.tickets (seq_at o) ≡ Some ticket) (sym a.is) a.here

      came : (seq : ℕ) (want : Want) → Wants (Up did.node) seq want → Came act seq want ⊎ Begins act (numbered own node disk did (Some letter) None [] refl seq) want
      came seq want w = inl (⊎_elim
          (λ (at, (old, stood, is)). let t = told_is letter.body letter.from old in record {
            old = old;
            stood = stood;
            asked = t.asked ∙ ap (λ (x : Want). x.asked) is;
            waits = λ m h. t.waits m (subst (λ (x : Want). has x.waiting m ≡ true) (sym is) h);
            confirmed = λ m h. ⊎_elim
                (λ before. inl before)
                (λ (from, told). inr (subst (λ a. IsBacked act m (fact_of a) ⊎ IsFactConfirmed act m (fact_of a)) (t.asked ∙ ap (λ (x : Want). x.asked) is) (tell_backs did m seq old stood from told)))
                (t.confirmed m (subst (λ (x : Want). has x.confirmed m ≡ true) (sym is) h));
          })
          (λ (apart, old). as_it_was act seq want old)
          (rewanted node (seq_at letter.ticket) ticket f ticket.mishaps here seq want w))

      settled : (one : Letter) → Some letter ≡ Some one → (number : Number) (m : ℕ) (asked : AskedOfNodes) → Covers one number m asked
          → Covered [] number m asked ⊎ ((number.node ≡ own) × (LifeWaits (Up did.node) number m asked → ⊥))
      settled one is number m asked c =
          let d : Covers letter number m asked = subst (λ (l : Letter). Covers l number m asked) (sym (same one is)) c in
          ⊎_elim
          (λ (from, at, asks). absurd (answers asked asks))
          (λ (at, from, told). inr (
            sym at ∙ to,
            λ w. ⊎_elim
                (λ (seq, (old, stood, was)). let t = told_is letter.body letter.from old in
                t.settled m (subst (λ (x : Want). has x.waiting m ≡ true) (sym was) w.waits)
                (subst (Tells letter.body) (sym (t.asked ∙ ap (λ (x : Want). x.asked) was ∙ w.is)) told) (sym from))
                (λ (apart, old). apart (ap seq_at (sym d.0)))
                (rewanted node (seq_at letter.ticket) ticket f ticket.mishaps here number.seq w.want w.stands),
          ))
          d.1
        where
          same : (one : Letter) → Some letter ≡ Some one → letter ≡ one
          same one e = cc

  pub told_acts : IsCallDone (act_of own node disk (hear_told own node disk letter) (Some letter) None [])
  told_acts = told_react (ticket_at own node letter.ticket) refl
