-- A reaction of a node is an act, where its store, its tickets and its letters are each as the invariant asks.
use Rattle.std.proofs.Common.{true, ◌≡◌, ◌⊎◌, inl, inr, ⊎_elim, ◌<◌, ◌≤◌, ℕ, List, [], ◌∷◌, ◌++◌, Option, Some, refl, sym, ap, ◌∙◌, subst, arith, le_trans, le_refl}
use Rattle.std.specs.FinMap as fin
use Rattle.mail_model.specs.Identity.{Id, Key, State}
use Rattle.mail_model.specs.Lines.{ends_in_crlf}
use Rattle.mail_model.specs.Record.{Record}
use Rattle.mail_model.specs.Record.Record.{Octets, Stated, Retired}
use Rattle.object_model.specs.Lists.{Among}
use Rattle.object_model.specs.Letters.{Number, Letter}
use Rattle.object_model.specs.Letters.Body.{Filed}
use Rattle.cluster_model.specs.Cluster.{AskedOfNodes, NodeFiling, Node, Life}
use Rattle.cluster_model.specs.Cluster.Life.{Up}
use Rattle.cluster_model.specs.Store.{Store, Update}
use Rattle.cluster_model.specs.Claims.{Fact, SaysFact, LetterHolds, LetterClaims, LetterSpeaks, IsFile, DrawnAt, TicketClaims, LogClaims, SlotClaims, TicketSpeaks, SlotSpeaks, LifeWaits, Covers, Covered, boot_of}
use Rattle.cluster_model.specs.Claims.Fact.{HasCopies, IsAtLeast}
use Rattle.cluster_model.specs.Moves.{Content, NodeAct, IsInOrder, IsReady, SlotFits, LetterFits, Heard, Brings, ComesFrom, Opens, LifeWants, IsBacked, IsFactConfirmed, IsSpoken, IsAct, IsCallDone}
use Rattle.cluster_model.specs.Rules.{Reaction, store_of}
use Rattle.cluster_model.specs.Deeds.{slot_up, act_of}
use Rattle.object_model.proofs.Lists.{among_front, among_either}
use Rattle.cluster_model.proofs.StoreSteps.{InLog, Settled, DiskFits, UpdatesFit, UpdatesSpeak, StoreStep}

-- what a step of the store may take from: the letter that was heard, and the message that is filed
abbrev pub BroughtBy : NodeAct → Id → List ℕ → Type 0
BroughtBy act id octets = Heard act (λ letter. LetterHolds letter id octets) ⊎ Brings act id octets

abbrev pub AckedBy : NodeAct → Key → State → ℕ → Type 0
AckedBy act key state m = Heard act (λ letter. LetterClaims letter m (IsAtLeast key state))

-- the store
pub record StoreReacts (act : NodeAct) (old new : Store) (updates : List Update) : Type 0 where
  pub step : StoreStep act.node updates (BroughtBy act) (AckedBy act) old new
  pub fits : UpdatesFit act.node updates
  pub speaks : (user : List ℕ) (id : Id) → UpdatesSpeak updates user id → Heard act (λ letter. LetterSpeaks letter user id) ⊎ Among (user, id) act.strikes

-- the numbers that are drawn
pub record NumbersReact (act : NodeAct) (old new : Node) : Type 0 where
  pub boot : new.boot ≡ old.boot
  pub drawn : old.drawn ≤ new.drawn
  pub fresh : (content : Content) → act.files ≡ Some content
      → (content.id.node ≡ act.node) × (content.id.boot ≡ old.boot) × (old.drawn < content.id.seq) × (content.id.seq ≤ new.drawn)
  pub ended : (content : Content) → act.files ≡ Some content → ends_in_crlf content.octets ≡ true

-- the tickets
pub record TicketsReact (act : NodeAct) : Type 0 where
  pub claimed : (m : ℕ) (fact : Fact) → TicketClaims act.after.life m fact → IsBacked act m fact ⊎ IsFactConfirmed act m fact
  pub wanted : (filing : NodeFiling) → LifeWants act.after.life filing → LifeWants act.before.life filing ⊎ Opens act filing
  pub speaks : (user : List ℕ) (id : Id) → TicketSpeaks act.after.life user id → TicketSpeaks act.before.life user id ⊎ Among (user, id) act.strikes
  pub waits : (number : Number) → number.node ≡ act.node → (m : ℕ) (asked : AskedOfNodes) → LifeWaits act.after.life number m asked
      → LifeWaits act.before.life number m asked ⊎ Covered act.out number m asked
  pub settled : (letter : Letter) → act.heard ≡ Some letter → (number : Number) (m : ℕ) (asked : AskedOfNodes) → Covers letter number m asked
      → Covered act.out number m asked ⊎ ((number.node ≡ act.node) × (LifeWaits act.after.life number m asked → ⊥))

-- a letter that goes out
pub record LetterReacts (act : NodeAct) (letter : Letter) : Type 0 where
  pub holds : (id : Id) (octets : List ℕ) → LetterHolds letter id octets → ComesFrom act id octets
  pub file : (id : Id) (users : List (List ℕ)) → IsFile letter id users → (content : Content) × (act.files ≡ Some content) × (content.id ≡ id) × (content.users ≡ users)
  pub filed : (id : Id) → letter.body ≡ Filed id
      → (letter.from ≡ act.node) × ((users : List (List ℕ)) × Heard act (λ one. IsFile one id users) × SaysFact act.after.disk (HasCopies users id))
  pub claims : (m : ℕ) (fact : Fact) → LetterClaims letter m fact → IsBacked act m fact
  pub speaks : (user : List ℕ) (id : Id) → LetterSpeaks letter user id → IsSpoken act user id
  pub fit : LetterFits letter

-- nothing is pending
of_disk : {X : Type 0} (x : X) (xs : List X) → Among x (xs ++ []) → Among x xs
of_disk x xs m = ⊎_elim (λ a. a) (λ none. absurd none) (among_either x xs [] m)

pub fits_of : (own : ℕ) (node : Node) (disk : List Record) → SlotFits own (slot_up node disk) → DiskFits own disk
fits_of own node disk f = record {
  target = λ key state m. f.target key state (among_front (Stated key state) disk [] m);
  kind = λ key state m. f.kind key state (among_front (Stated key state) disk [] m);
}

nothing_more : (xs : List Record) → xs ++ [] ≡ xs
nothing_more [] = refl
nothing_more (x ∷ xs) = ap (λ (l : List Record). x ∷ l) (nothing_more xs)

pub in_log : (node : Node) (disk : List Record) → IsInOrder (slot_up node disk) → InLog (store_of node disk)
in_log node disk o = record { logged = o.logged node refl; owed = o.owed node refl }

up_same : (a b : Node) → ◌≡◌ {A = Life} (Up a) (Up b) → a ≡ b
up_same a b e = cc

module _ (own : ℕ) (node : Node) (disk : List Record) (did : Reaction) (heard : Option Letter) (files : Option Content) (strikes : List (List ℕ × Id)) (updates : List Update) where
  abbrev act : NodeAct
  act = act_of own node disk did heard files strikes

  claims_of : (m : ℕ) (key : Key) (state : State) → Settled own (store_of node disk) key state m → LogClaims own (slot_up node disk) m (IsAtLeast key state)
  claims_of m key state c = record { node = node; up = refl; key = key; state = state; says = c.says; target = c.target; other = c.other; told = c.told; is = refl }

  -- what the log had settled, or an acknowledgement that was heard, backs the claim
  pub backs : (m : ℕ) (fact : Fact) (key : Key) (state : State) → IsAtLeast key state ≡ fact → Settled own (store_of node disk) key state m ⊎ AckedBy act key state m → IsBacked act m fact
  backs m fact key state is h = subst (IsBacked act m) is (⊎_elim
      (λ old. inl (inr (inl (claims_of m key state old))))
      (λ acked. inr (inr acked)) h)

  module _ (ready : IsReady own (slot_up node disk) heard) (s : StoreReacts act (store_of node disk) (store_of did.node did.disk) updates) (n : NumbersReact act node did.node)
      (t : TicketsReact act) (l : (letter : Letter) → Among letter did.out → LetterReacts act letter) where
    order_after : IsInOrder (slot_up did.node did.disk)
    order_after =
        let o = s.step.order (in_log node disk ready.order) in
        record {
          booted = λ other up. let e = up_same did.node other up in subst (λ (x : Node). x.boot ≡ boot_of did.disk) e (n.boot ∙ ready.order.booted node refl ∙ sym s.step.boots);
          rises = subst (λ d. boot_of did.disk ≤ boot_of d) (sym (nothing_more did.disk)) (le_refl (boot_of did.disk));
          logged = λ other up key entry h. o.logged key entry (subst (λ (x : Node). fin.get x.log key ≡ Some entry) (sym (up_same did.node other up)) h);
          owed = λ other up key entry h. o.owed key entry (subst (λ (x : Node). fin.get x.log key ≡ Some entry) (sym (up_same did.node other up)) h);
        }

    settled_of : (m : ℕ) (fact : Fact) (c : LogClaims own (slot_up did.node did.disk) m fact) → Settled own (store_of did.node did.disk) c.key c.state m
    settled_of m fact c = record {
      says = c.says;
      target = c.target;
      other = c.other;
      told = λ entry h. c.told entry (subst (λ (x : Node). fin.get x.log c.key ≡ Some entry) (up_same did.node c.node c.up) h);
    }

    claimed : (m : ℕ) (fact : Fact) → SlotClaims own (slot_up did.node did.disk) m fact → IsBacked act m fact ⊎ IsFactConfirmed act m fact
    claimed m fact (inl c) = t.claimed m fact c
    claimed m fact (inr (inl c)) = inl (backs m fact c.key c.state c.is (s.step.settled c.key c.state m (settled_of m fact c)))
    claimed m fact (inr (inr c)) = inl (⊎_elim
        (λ old. inl (inr (inr (record { key = c.key; state = c.state; inside = among_front (Retired c.key c.state) disk [] old; target = c.target; other = c.other; is = c.is }))))
        (λ new. backs m fact c.key c.state c.is (new m c.target c.other))
        (s.step.retired c.key c.state (of_disk (Retired c.key c.state) did.disk c.inside)))

    spoken : (user : List ℕ) (id : Id) → SlotSpeaks (slot_up did.node did.disk) user id → IsSpoken act user id
    spoken user id (inl d) = ⊎_elim
        (λ old. inl (inl (record { one = old.one; inside = among_front old.one disk [] old.inside; speaks = old.speaks })))
        (λ new. ⊎_elim (λ h. inr (inl h)) (λ k. inr (inr k)) (s.speaks user id new))
        (s.step.gone user id (record { one = d.one; inside = of_disk d.one did.disk d.inside; speaks = d.speaks }))
    spoken user id (inr k) = ⊎_elim (λ old. inl (inr old)) (λ new. inr (inr new)) (t.speaks user id k)

    -- a boot that goes on
    drawn : (id : Id) → DrawnAt (slot_up node disk) id → DrawnAt (slot_up did.node did.disk) id
    drawn id (inl below) = inl (subst (λ b. id.boot < b) (sym n.boot) below)
    drawn id (inr (same, le)) = inr (same ∙ sym n.boot, le_trans le n.drawn)

    acts : IsAct act
    acts = record {
      was = λ e. cc;
      grows = s.step.grows;
      bootless = λ other up. s.step.bootless;
      order = order_after;
      contents = record {
        drawn = drawn;
        ended = n.ended;
        fresh = λ content e. let f = n.fresh content e in (
          f.0,
          λ old. ⊎_elim (λ below. omega (arith, below, f.1)) (λ (same, le). omega (arith, le, f.2)) old,
          inr (f.1 ∙ sym n.boot, f.3),
        );
        held = λ id octets m. ⊎_elim
            (λ old. inl (among_front (Octets id octets) disk [] old))
            (λ new. ⊎_elim (λ h. inr (inl h)) (λ b. inr (inr b)) new)
            (s.step.octets id octets (of_disk (Octets id octets) did.disk m));
        sent = λ letter m. (l letter m).holds;
        wanted = t.wanted;
      };
      files = record { file = λ letter m. (l letter m).file; filed = λ letter m. (l letter m).filed };
      claims = record { claimed = claimed; sent = λ letter m. (l letter m).claims };
      deletions = record { spoken = spoken; sent = λ letter m. (l letter m).speaks };
      fit = record {
        slot = let f = s.step.fits s.fits (fits_of own node disk ready.fits) in record {
          target = λ key state m. f.target key state (of_disk (Stated key state) did.disk m);
          kind = λ key state m. f.kind key state (of_disk (Stated key state) did.disk m);
        };
        sent = λ letter m. (l letter m).fit;
      };
      waits = record { waits = t.waits };
    }

    pub is_act : IsCallDone act
    is_act = record { is = acts; settles = record { settled = t.settled } }
