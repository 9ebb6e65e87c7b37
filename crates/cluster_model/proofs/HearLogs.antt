-- A node that hears PushAck or Retire, pushes or widens acts as the invariant asks.
use Rattle.std.proofs.Common.{◌≡◌, ◌≢◌, ◌⊎◌, inl, inr, ⊎_elim, ◌≤◌, ℕ, Bool, true, false, ◌&&◌, List, [], ◌∷◌, ◌++◌, flat_map, Option, Some, None, refl, sym, ap, ◌∙◌, subst, true≢false, nat_eq, eqb-true, if◌then◌else◌, le_refl}
use Rattle.std.specs.FinMap as fin
use Rattle.std.proofs.lemmas.Bool.{and_parts, cases_eq, false_from_ne_true}
use Rattle.mail_model.specs.Identity.{Id, Key, State}
use Rattle.mail_model.specs.Identity.Key.{Message}
use Rattle.mail_model.specs.Identity.Value.{Gone}
use Rattle.mail_model.specs.Record.{Record}
use Rattle.mail_model.specs.Record.Record.{Stated, Retired}
use Rattle.object_model.specs.Sets.{has, without_node}
use Rattle.object_model.specs.Lists.{Among}
use Rattle.object_model.specs.States.{is_same_state}
use Rattle.object_model.specs.Said.{said}
use Rattle.object_model.specs.Letters.{Number, Letter}
use Rattle.object_model.specs.Letters.Body.{PushAck, Retire}
use Rattle.object_model.specs.UpdateLog.{Logged, cleared}
use Rattle.cluster_model.specs.Cluster.{AskedOfNodes, Node, epoch_of}
use Rattle.cluster_model.specs.Cluster.AskedOfNodes.{Copies, Deletion}
use Rattle.cluster_model.specs.Claims.{Fact, SaysFact, BodyClaims, SlotSpeaks, Asks, Tells, Covers, Covered}
use Rattle.cluster_model.specs.Claims.Fact.{IsAtLeast}
use Rattle.cluster_model.specs.Moves.{NodeAct, IsCallDone, IsReady, IsBacked}
use Rattle.cluster_model.specs.Rules.{Reaction, store_of, idle, receivers, letters_to, shrunk, acked_at, hear_ack, retired_at, hear_retired}
use Rattle.object_model.proofs.Lists.{among_front, among_either}
use Rattle.object_model.proofs.SetLaws.{left_in, still_in, has_none}
use Rattle.object_model.proofs.StateLaws.{state_is, not_below_self}
use Rattle.object_model.proofs.SaidLaws.{said_retired, said_backed, said_covers}
use Rattle.cluster_model.proofs.StoreSteps.{InLog, Settled, StoreStep, stays}
use Rattle.cluster_model.specs.Deeds.{act_of, slot_up}
use Rattle.cluster_model.proofs.Reacts.{backs, in_log, BroughtBy, AckedBy, LetterReacts, is_act}
use Rattle.cluster_model.proofs.Quiet.{same_tickets}
use Rattle.cluster_model.proofs.Logs.{sent_to, trim_step, retire_step}

-- a member of lists that were joined
pub among_flat : {X Y : Type 0} (f : X → List Y) (y : Y) (xs : List X) → Among y (flat_map f xs) → (x : X) × Among y (f x)
among_flat f y [] m = absurd m
among_flat f y (x ∷ xs) m = ⊎_elim (λ front. (x, front)) (λ behind. among_flat f y xs behind) (among_either y (f x) (flat_map f xs) m)

-- a disk that says that a copy is gone speaks of it
pub speaks_said : (own : ℕ) (node : Node) (disk : List Record) (key : Key) (state : State) → said key disk ≡ Some state → (user : List ℕ) (id : Id) → key ≡ Message user id → state.value ≡ Gone
    → SlotSpeaks (slot_up node disk) user id
speaks_said own node disk key state says user id same gone = let b = said_backed key disk state says in inl (record {
  one = Stated key b.top;
  inside = among_front (Stated key b.top) disk [] b.inside;
  speaks = record { state = b.top; is = inl (ap (λ k. Stated k b.top) same); gone = b.same_value ∙ gone };
})

module _ (own : ℕ) (node : Node) (disk : List Record) (letter : Letter) (ready : IsReady own (slot_up node disk) (Some letter)) where
  abbrev log_act : Reaction → NodeAct
  log_act did = act_of own node disk did (Some letter) None []

  same_letter : (one : Letter) → Some letter ≡ Some one → letter ≡ one
  same_letter one e = cc

  -- the letter is under no ticket's want
  unasked : (out : List Letter) → ((asked : AskedOfNodes) → Asks letter.body asked → ⊥) → ((asked : AskedOfNodes) → Tells letter.body asked → ⊥)
      → (one : Letter) → Some letter ≡ Some one → (number : Number) (m : ℕ) (asked : AskedOfNodes) → Covers one number m asked → Covered out number m asked
  unasked out asks tells one is number m asked c =
      let d : Covers letter number m asked = subst (λ (l : Letter). Covers l number m asked) (sym (same_letter one is)) c in
      ⊎_elim (λ (from, at, a). absurd (asks asked a)) (λ (at, from, t). absurd (tells asked t)) d.1

  -- a reaction that changes log and disk alone
  logs_act : (did : Reaction) → did.node.tickets ≡ node.tickets → did.node.boot ≡ node.boot → did.node.drawn ≡ node.drawn
      → ((asked : AskedOfNodes) → Asks letter.body asked → ⊥) → ((asked : AskedOfNodes) → Tells letter.body asked → ⊥)
      → StoreStep own [] (BroughtBy (log_act did)) (AckedBy (log_act did)) (store_of node disk) (store_of did.node did.disk)
      → ((one : Letter) → Among one did.out → LetterReacts (log_act did) one) → IsCallDone (log_act did)
  logs_act did tickets boot drawn asks tells step sent = is_act own node disk did (Some letter) None [] [] ready
      (record { step = step; fits = λ u m. absurd m; speaks = λ user id s. absurd s.inside })
      (record { boot = boot; drawn = subst (λ d. node.drawn ≤ d) (sym drawn) (le_refl node.drawn); fresh = λ content e. absurd (cc e); ended = λ content e. absurd (cc e) })
      (same_tickets own node disk did (Some letter) None [] tickets boot (unasked did.out asks tells))
      sent

  ok : InLog (store_of node disk)
  ok = in_log node disk ready.order

  quiet : ((asked : AskedOfNodes) → Asks letter.body asked → ⊥) → ((asked : AskedOfNodes) → Tells letter.body asked → ⊥) → IsCallDone (log_act (idle node disk))
  quiet asks tells = logs_act (idle node disk) refl refl refl asks tells (stays own [] (BroughtBy (log_act (idle node disk))) (AckedBy (log_act (idle node disk))) (store_of node disk)) (λ one m. absurd m)

  module _ (nodes : ℕ) (key : Key) (state : State) (is : letter.body ≡ PushAck key state) where
    ack_asks : (asked : AskedOfNodes) → Asks letter.body asked → ⊥
    ack_asks asked a = by asked (subst (λ b. Asks b asked) is a)
      where
        by : (asked : AskedOfNodes) → Asks (PushAck key state) asked → ⊥
        by (Copies filing) a = a
        by (Deletion user id) a = a

    ack_tells : (asked : AskedOfNodes) → Tells letter.body asked → ⊥
    ack_tells asked a = by asked (subst (λ b. Tells b asked) is a)
      where
        by : (asked : AskedOfNodes) → Tells (PushAck key state) asked → ⊥
        by (Copies filing) a = a
        by (Deletion user id) a = a

    -- an entry of that state, without the sender
    module _ (entry : Logged) (here : fin.get node.log key ≡ Some entry) (same : entry.state ≡ state) where
      abbrev left : ℕ
      left = without_node entry.remaining letter.from

      abbrev trimmed : Logged
      trimmed = record { state = entry.state; remaining = left }

      done : (did : Reaction) (m : ℕ) → has entry.state.targets m ≡ true → m ≢ own → has left m ≡ false → Settled own (store_of node disk) key entry.state m ⊎ AckedBy (log_act did) key entry.state m
      done did m target other gone = ⊎_elim
          (λ from. inr (record { letter = letter; is = refl; holds = subst (λ b. BodyClaims letter.from b m (IsAtLeast key entry.state)) (sym is) (sym from, ap (IsAtLeast key) (sym same)) }))
          (λ apart. inl (record {
            says = ok.logged key entry here;
            target = target;
            other = other;
            told = λ e h. false_from_ne_true (has e.remaining m) (λ r.
                true≢false (sym (still_in entry.remaining letter.from m (subst (λ (x : Logged). has x.remaining m ≡ true) (entry_same e h) r) apart) ∙ gone));
          }))
          (cases_eq m letter.from)
        where
          entry_same : (e : Logged) → fin.get node.log key ≡ Some e → e ≡ entry
          entry_same e h = some_same e entry (sym h ∙ here)
            where
              some_same : (a b : Logged) → Some a ≡ Some b → a ≡ b
              some_same a b e = cc

      abbrev retire_did : Reaction
      retire_did = record {
        node = record node { log = fin.remove node.log key };
        disk = disk ++ Retired key entry.state ∷ [];
        out = letters_to own (epoch_of node) None (receivers own entry.state.targets nodes) (Retire key entry.state);
      }

      abbrev trim_did : Reaction
      trim_did = record { node = record node { log = fin.insert node.log key trimmed }; disk = disk; out = [] }

      none_left : nat_eq left 0 ≡ true → (m : ℕ) → has left m ≡ false
      none_left e m = ap (λ s. has s m) (eqb-true left 0 e) ∙ has_none m

      says_after : said key (disk ++ Retired key entry.state ∷ []) ≡ Some entry.state
      says_after = said_retired key key disk entry.state ∙ ok.logged key entry here

      -- the Retire that goes to another target is true of all targets
      retire_claims : nat_eq left 0 ≡ true → (m : ℕ) (fact : Fact) → (has entry.state.targets m ≡ true) × (IsAtLeast key entry.state ≡ fact) → IsBacked (log_act retire_did) m fact
      retire_claims e m fact (target, same_fact) = ⊎_elim
          (λ own_is. inr (inl (own_is, subst (SaysFact retire_did.disk) same_fact (said_covers key retire_did.disk entry.state entry.state says_after (not_below_self entry.state) (λ k h. h)))))
          (λ apart. backs own node disk retire_did (Some letter) None [] [] m fact key entry.state same_fact (done retire_did m target apart (none_left e m)))
          (cases_eq m own)

      retire_letter : nat_eq left 0 ≡ true → (one : Letter) → Among one retire_did.out → LetterReacts (log_act retire_did) one
      retire_letter e one m =
          let r = sent_to own (epoch_of node) None (receivers own entry.state.targets nodes) (Retire key entry.state) one m in
          subst (LetterReacts (log_act retire_did)) r.2 (record {
            holds = λ id o h. absurd h;
            file = λ id users f. absurd (cc f.is);
            filed = λ id f. absurd (cc f);
            claims = λ k fact c. retire_claims e k fact c;
            speaks = λ user id (k, gone). inl (speaks_said own node disk key entry.state (ok.logged key entry here) user id k gone);
            fit = tt;
          })

      acked_by : (b : Bool) → nat_eq left 0 ≡ b → IsCallDone (log_act (if b then retire_did else trim_did))
      acked_by true e = logs_act retire_did refl refl refl ack_asks ack_tells
          (retire_step own [] (BroughtBy (log_act retire_did)) (AckedBy (log_act retire_did)) (store_of node disk) key entry here ok (λ m target other. done retire_did m target other (none_left e m)))
          (retire_letter e)
      acked_by false e = logs_act trim_did refl refl refl ack_asks ack_tells
          (trim_step own [] (BroughtBy (log_act trim_did)) (AckedBy (log_act trim_did)) (store_of node disk) key entry here ok left (λ m h. (left_in entry.remaining letter.from m h).0) (done trim_did))
          (λ one m. absurd m)

    ack_by : (found : Option Logged) → fin.get node.log key ≡ found → IsCallDone (log_act (acked_at own nodes node disk key state letter.from found))
    ack_by None e = quiet ack_asks ack_tells
    ack_by (Some entry) e = by (is_same_state entry.state state && has entry.remaining letter.from) refl
      where
        by : (b : Bool) → (is_same_state entry.state state && has entry.remaining letter.from) ≡ b
            → IsCallDone (log_act (if b then shrunk own nodes node disk key (cleared letter.from entry) else idle node disk))
        by true t = acked_by entry e (state_is entry.state state (and_parts (is_same_state entry.state state) (has entry.remaining letter.from) t).0) (nat_eq (without_node entry.remaining letter.from) 0) refl
        by false t = quiet ack_asks ack_tells

    pub ack_acts : IsCallDone (log_act (hear_ack own nodes node disk key state letter.from))
    ack_acts = ack_by (fin.get node.log key) refl

  module _ (key : Key) (state : State) (is : letter.body ≡ Retire key state) where
    retire_asks : (asked : AskedOfNodes) → Asks letter.body asked → ⊥
    retire_asks asked a = by asked (subst (λ b. Asks b asked) is a)
      where
        by : (asked : AskedOfNodes) → Asks (Retire key state) asked → ⊥
        by (Copies filing) a = a
        by (Deletion user id) a = a

    retire_tells : (asked : AskedOfNodes) → Tells letter.body asked → ⊥
    retire_tells asked a = by asked (subst (λ b. Tells b asked) is a)
      where
        by : (asked : AskedOfNodes) → Tells (Retire key state) asked → ⊥
        by (Copies filing) a = a
        by (Deletion user id) a = a

    retired_by : (found : Option Logged) → fin.get node.log key ≡ found → IsCallDone (log_act (retired_at node disk key state found))
    retired_by None e = quiet retire_asks retire_tells
    retired_by (Some entry) e = by (is_same_state entry.state state) refl
      where
        did : Reaction
        did = record { node = record node { log = fin.remove node.log key }; disk = disk ++ Retired key entry.state ∷ []; out = [] }

        by : (b : Bool) → is_same_state entry.state state ≡ b → IsCallDone (log_act (if b then did else idle node disk))
        by true t = let same = state_is entry.state state t in logs_act did refl refl refl retire_asks retire_tells
            (retire_step own [] (BroughtBy (log_act did)) (AckedBy (log_act did)) (store_of node disk) key entry e ok
            (λ m target other. inr (record {
              letter = letter;
              is = refl;
              holds = subst (λ b. BodyClaims letter.from b m (IsAtLeast key entry.state)) (sym is) (subst (λ (x : State). has x.targets m ≡ true) same target, ap (IsAtLeast key) (sym same));
            })))
            (λ one m. absurd m)
        by false t = quiet retire_asks retire_tells

    pub retired_acts : IsCallDone (log_act (hear_retired node disk key state))
    retired_acts = retired_by (fin.get node.log key) refl
