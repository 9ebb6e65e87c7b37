-- What a node does for membership and maps is an act of the machine, and a list of moves.
use Rattle.std.proofs.Common.{◌≡◌, ◌⊎◌, inl, inr, ⊎_elim, ℕ, List, [], ◌∷◌, ◌++◌, Option, Some, None, refl, sym, ap, ◌∙◌, subst, le_refl}
use Rattle.mail_model.specs.Identity.{Id, Stamp, EpochId, Key, State}
use Rattle.mail_model.specs.Record.{Record}
use Rattle.mail_model.specs.Record.Record.{Promise, Octets, Stated, Retired}
use Rattle.object_model.specs.Lists.{Among}
use Rattle.object_model.specs.Said.{said}
use Rattle.object_model.specs.Letters.{Number, Membership, Body, Letter}
use Rattle.object_model.specs.Letters.Body.{File, Filed, Group, Join, Install, Report, ReportAck}
use Rattle.object_model.proofs.Lists.{among_either}
use Rattle.object_model.proofs.SaidLaws.{held_both}
use Rattle.cluster_model.specs.Cluster.{AskedOfNodes, Node}
use Rattle.cluster_model.specs.Store.{Store}
use Rattle.cluster_model.specs.Claims.{Fact, BodyHolds, BodyClaims, BodySpeaks, Asks, Tells, Covers}
use Rattle.cluster_model.specs.Moves.{NodeAct, BodyFits, IsReady, IsCallDone}
use Rattle.cluster_model.specs.Rules.{Reaction, store_of}
use Rattle.cluster_model.specs.Forms.{IsMapsBody, promise_records, FormsEpoch}
use Rattle.cluster_model.specs.Deeds.{act_of, slot_up}
use Rattle.cluster_model.specs.World.{World, Leads, cluster_of}
use Rattle.cluster_model.specs.Steps.{Said}
use Rattle.cluster_model.specs.Makes.{IsUp, after, NodeGoesDown, FormsAt}
use Rattle.cluster_model.specs.Makes.FormsAt.{Does, HasNone, FailsForming}
use Rattle.cluster_model.proofs.StoreSteps.{StoreStep, stays, boot_both}
use Rattle.cluster_model.proofs.Reacts.{BroughtBy, AckedBy, is_act}
use Rattle.cluster_model.proofs.Quiet.{same_tickets}
use Rattle.cluster_model.proofs.Leading.{no_move}
use Rattle.cluster_model.proofs.Stepping.{unheard_leads, down_leads}

no_records : (xs : List Record) → xs ++ [] ≡ xs
no_records [] = refl
no_records (x ∷ xs) = ap (λ (l : List Record). x ∷ l) (no_records xs)

-- the record of a promise changes nothing that is said
said_promised : (key : Key) (disk : List Record) (epoch : EpochId) → said key (disk ++ Promise epoch ∷ []) ≡ said key disk
said_promised key disk epoch = held_both key None disk (Promise epoch ∷ [])

pub said_with_promise : (key : Key) (disk : List Record) (promise : Option EpochId) → said key (disk ++ promise_records promise) ≡ said key disk
said_with_promise key disk None = ap (said key) (no_records disk)
said_with_promise key disk (Some epoch) = said_promised key disk epoch

promise_step : (own : ℕ) (Brought : Id → List ℕ → Type 0) (Acks : Key → State → ℕ → Type 0) (store : Store) (epoch : EpochId)
    → StoreStep own [] Brought Acks store (record store { disk = store.disk ++ Promise epoch ∷ [] })
promise_step own Brought Acks store epoch = record {
  grows = (Promise epoch ∷ [], refl);
  bootless = λ boot m. ⊎_elim (λ is. cc is) (λ none. none) m;
  boots = boot_both 0 store.disk (Promise epoch ∷ []);
  order = λ o. record { logged = λ key entry h. said_promised key store.disk epoch ∙ o.logged key entry h; owed = o.owed };
  octets = λ id octets m. ⊎_elim (λ front. inl front) (λ is. absurd (cc is)) (place (Octets id octets) m);
  settled = λ key state m s. inl (record { says = sym (said_promised key store.disk epoch) ∙ s.says; target = s.target; other = s.other; told = s.told });
  retired = λ key state m. ⊎_elim (λ front. inl front) (λ is. absurd (cc is)) (place (Retired key state) m);
  fits = λ u d. record {
    target = λ key state m. ⊎_elim (λ front. d.target key state front) (λ is. absurd (cc is)) (place (Stated key state) m);
    kind = λ key state m. ⊎_elim (λ front. d.kind key state front) (λ is. absurd (cc is)) (place (Stated key state) m);
  };
  gone = λ user id s. ⊎_elim
      (λ front. inl (record { one = s.one; inside = front; speaks = s.speaks }))
      (λ is. absurd (⊎_elim (λ e. clash is e) (λ e. clash_retired is e) s.speaks.is))
      (place s.one s.inside);
}
  where
    place : (one : Record) → Among one (store.disk ++ Promise epoch ∷ []) → Among one store.disk ⊎ (Promise epoch ≡ one)
    place one m = ⊎_elim (λ front. inl front) (λ b. ⊎_elim (λ e. inr e) (λ none. absurd none) b) (among_either one store.disk (Promise epoch ∷ []) m)

    clash : {one : Record} {a : Key} {x : State} → Promise epoch ≡ one → one ≡ Stated a x → ⊥
    clash p q = cc

    clash_retired : {one : Record} {a : Key} {x : State} → Promise epoch ≡ one → one ≡ Retired a x → ⊥
    clash_retired p q = cc

step_of : (own : ℕ) (Brought : Id → List ℕ → Type 0) (Acks : Key → State → ℕ → Type 0) (store : Store) (promise : Option EpochId)
    → StoreStep own [] Brought Acks store (record store { disk = store.disk ++ promise_records promise })
step_of own Brought Acks store None = subst (λ d. StoreStep own [] Brought Acks store (record store { disk = d })) (sym (no_records store.disk)) (stays own [] Brought Acks store)
step_of own Brought Acks store (Some epoch) = promise_step own Brought Acks store epoch

-- what letters of membership and maps say of messages: nothing
pub record SaysNothing (to : ℕ) (body : Body) : Type 0 where
  pub holds : (id : Id) (octets : List ℕ) → BodyHolds body id octets → ⊥
  pub file : (id : Id) (stamp : Stamp) (targets : ℕ) (users : List (List ℕ)) (octets : List ℕ) → body ≡ File id stamp targets users octets → ⊥
  pub filed : (id : Id) → body ≡ Filed id → ⊥
  pub claims : (from m : ℕ) (fact : Fact) → BodyClaims from body m fact → ⊥
  pub speaks : (user : List ℕ) (id : Id) → BodySpeaks body user id → ⊥
  pub fit : BodyFits to body
  pub asks : (asked : AskedOfNodes) → Asks body asked → ⊥
  pub tells : (asked : AskedOfNodes) → Tells body asked → ⊥

says_nothing : (to : ℕ) (body : Body) → IsMapsBody body → SaysNothing to body
says_nothing to (Group epoch) of = record { holds = λ id o h. h; file = λ id s t u o e. cc; filed = λ id e. cc; claims = λ f m fact c. c; speaks = λ u id s. s; fit = tt; asks = λ a k. k; tells = λ a k. k }
says_nothing to (Join epoch promise boot was claims) of = record { holds = λ id o h. h; file = λ id s t u o e. cc; filed = λ id e. cc; claims = λ f m fact c. c; speaks = λ u id s. s; fit = tt; asks = λ a k. k; tells = λ a k. k }
says_nothing to (Install membership) of = record { holds = λ id o h. h; file = λ id s t u o e. cc; filed = λ id e. cc; claims = λ f m fact c. c; speaks = λ u id s. s; fit = tt; asks = λ a k. k; tells = λ a k. k }
says_nothing to (Report row) of = record { holds = λ id o h. h; file = λ id s t u o e. cc; filed = λ id e. cc; claims = λ f m fact c. c; speaks = λ u id s. s; fit = tt; asks = λ a k. k; tells = λ a k. k }
says_nothing to (ReportAck user version) of = record { holds = λ id o h. h; file = λ id s t u o e. cc; filed = λ id e. cc; claims = λ f m fact c. c; speaks = λ u id s. s; fit = tt; asks = λ a k. k; tells = λ a k. k }
says_nothing to body of = absurd of

-- so what a node does for membership is an act for messages
pub membership_acts : (own : ℕ) (node : Node) (disk : List Record) (installed : Option Membership) (promise : Option EpochId) (heard : Option Letter) (out : List Letter)
    → ((letter : Letter) → heard ≡ Some letter → IsMapsBody letter.body) → ((letter : Letter) → Among letter out → IsMapsBody letter.body)
    → IsReady own (slot_up node disk) heard
    → IsCallDone (act_of own node disk (record { node = record node { installed = installed }; disk = disk ++ promise_records promise; out = out }) heard None [])
membership_acts own node disk installed promise heard out of_heard of_out ready = is_act own node disk did heard None [] [] ready
    (record { step = step_of own (BroughtBy act) (AckedBy act) (store_of node disk) promise; fits = λ u m. absurd m; speaks = λ user id s. absurd s.inside })
    (record { boot = refl; drawn = le_refl node.drawn; fresh = λ content e. absurd (cc e); ended = λ content e. absurd (cc e) })
    (same_tickets own node disk did heard None [] refl refl (λ letter e number m asked c. absurd (⊎_elim
    (λ (from, to, a). (says_nothing letter.to letter.body (of_heard letter e)).asks asked a)
    (λ (to, from, t). (says_nothing letter.to letter.body (of_heard letter e)).tells asked t)
    c.1)))
    (λ letter m. let s = says_nothing letter.to letter.body (of_out letter m) in record {
      holds = λ id octets h. absurd (s.holds id octets h);
      file = λ id users f. absurd (s.file id f.stamp f.targets users f.octets f.is);
      filed = λ id e. absurd (s.filed id e);
      claims = λ k fact c. absurd (s.claims letter.from k fact c);
      speaks = λ user id k. absurd (s.speaks user id k);
      fit = s.fit;
    })
  where
    did : Reaction
    did = record { node = record node { installed = installed }; disk = disk ++ promise_records promise; out = out }

    act : NodeAct
    act = act_of own node disk did heard None []

-- such a letter covers no wait
pub none_covered : (letter : Letter) → IsMapsBody letter.body → (n : Number) (m : ℕ) (asked : AskedOfNodes) → Covers letter n m asked → ⊥
none_covered letter of n m asked c = ⊎_elim
    (λ (from, to, a). (says_nothing letter.to letter.body of).asks asked a)
    (λ (to, from, t). (says_nothing letter.to letter.body of).tells asked t)
    c.1

-- a node that hears nothing of messages
pub forms_acts : (own : ℕ) (node : Node) (disk : List Record) (did : Reaction) → FormsEpoch node disk did → IsReady own (slot_up node disk) None → IsCallDone (act_of own node disk did None None [])
forms_acts own node disk did f ready = subst (λ (r : Reaction). IsCallDone (act_of own node disk r None None [])) (λ i. record { node = sym f.node_is i; disk = sym f.disk_is i; out = did.out })
    (membership_acts own node disk f.installed f.promise None did.out (λ letter e. absurd (cc e)) (λ letter m. (f.sends letter m).body) ready)

module _ (confirm : ℕ) (May : Id → List ℕ → Type 0) (old : World) where
  pub turned_leads : (own : ℕ) (node : Node) (disk : List Record) → IsUp old own node disk → (did : Reaction) → FormsEpoch node disk did → Leads confirm May (cluster_of old) (cluster_of (after old own did))
  turned_leads own node disk up did f = unheard_leads confirm May old own node disk did None [] up (λ ready. forms_acts own node disk did f ready) (λ user id m. absurd m) (λ content e. absurd (cc e))

  -- its disk fails as it promises, or memory runs out
  pub cut_forming : (own : ℕ) (node : Node) (disk : List Record) → IsUp old own node disk → (promise : Option EpochId) (new : World) → NodeGoesDown old own disk (disk ++ promise_records promise) new
      → Leads confirm May (cluster_of old) (cluster_of new)
  cut_forming own node disk up promise new g = down_leads confirm May old new own node disk (record { node = record node { installed = node.installed }; disk = disk ++ promise_records promise; out = [] }) None None [] up
      (λ ready. membership_acts own node disk node.installed promise None [] (λ letter e. absurd (cc e)) (λ letter m. absurd m) ready)
      (λ letter e. absurd (cc e)) (λ user id m. absurd m) (λ content e. absurd (cc e)) g

  pub forms_lead : (own : ℕ) (said : Said) (new : World) → FormsAt old own said new → Leads confirm May (cluster_of old) (cluster_of new)
  forms_lead own said new (Does node disk up is did f new_world) = subst (λ (w : World). Leads confirm May (cluster_of old) (cluster_of w)) (sym new_world) (turned_leads own node disk up did f)
  forms_lead own said new (HasNone is new_world) = no_move confirm May (cluster_of old) (cluster_of new) (ap cluster_of new_world)
  forms_lead own said new (FailsForming node disk promise up is g) = cut_forming own node disk up promise new g
