-- What a node does for calls that read is an act for messages, and leads its maps along.
use Rattle.std.proofs.Common.{◌≡◌, ⊎_elim, ◌≤◌, ℕ, List, [], append-nil, Option, Some, None, refl, sym, subst, le_refl}
use Rattle.mail_model.specs.Identity.{Id, Stamp}
use Rattle.mail_model.specs.Record.{Record}
use Rattle.object_model.specs.Lists.{Among}
use Rattle.object_model.specs.Letters.{Body, Letter}
use Rattle.object_model.specs.Letters.Body.{File, Filed, LoginAsk, LoginTold, ListAsk, ListTold, FetchAsk, FetchTold, Unlock}
use Rattle.cluster_model.specs.Claims.{boot_of, Fact, BodyHolds, BodyClaims, BodySpeaks, Asks, Tells}
use Rattle.cluster_model.specs.Cluster as mail
use Rattle.cluster_model.specs.Cluster.{AskedOfNodes}
use Rattle.cluster_model.specs.Moves as mail_moves
use Rattle.cluster_model.specs.Moves.{BodyFits}
use Rattle.cluster_model.specs.Rules as mail_rules
use Rattle.cluster_model.specs.Deeds as mail_deeds
use Rattle.cluster_model.proofs.StoreSteps.{stays}
use Rattle.cluster_model.proofs.Reacts.{BroughtBy, AckedBy, is_act}
use Rattle.cluster_model.proofs.Quiet.{same_tickets}
use Rattle.whole_model.specs.Whole as whole
use Rattle.whole_model.specs.Moves as whole_moves
use Rattle.whole_model.specs.Rules.{IsMail, IsMailBody}
use Rattle.whole_model.proofs.Leading.{messages_led}
use Rattle.login_model.specs.Cluster as login
use Rattle.object_model.specs.Locks.{Held}
use Rattle.login_model.specs.Rules as login_rules
use Rattle.login_model.specs.Facts.{IsReadBody, GoesOut}
use Rattle.login_model.specs.Moves as login_moves
use Rattle.login_model.specs.NodeLaws as login_laws
use Rattle.login_model.proofs.Others.{other_acts}
use Rattle.joint_model.specs.Joint.{Node, Cluster, slot_at, slot_up, whole_of, read_node}
use Rattle.joint_model.specs.Moves.{MayAct}
use Rattle.joint_model.specs.Laws.{with_reaction, ChangesTicketsAlone}
use Rattle.joint_model.proofs.Kept.{whole_here}

-- what letters of calls that read say of messages: nothing
pub record SaysNothing (to : ℕ) (body : Body) : Type 0 where
  pub holds : (id : Id) (octets : List ℕ) → BodyHolds body id octets → ⊥
  pub file : (id : Id) (stamp : Stamp) (targets : ℕ) (users : List (List ℕ)) (octets : List ℕ) → body ≡ File id stamp targets users octets → ⊥
  pub filed : (id : Id) → body ≡ Filed id → ⊥
  pub claims : (from m : ℕ) (fact : Fact) → BodyClaims from body m fact → ⊥
  pub speaks : (user : List ℕ) (id : Id) → BodySpeaks body user id → ⊥
  pub fit : BodyFits to body
  pub asks : (asked : AskedOfNodes) → Asks body asked → ⊥
  pub tells : (asked : AskedOfNodes) → Tells body asked → ⊥

pub says_nothing : (to : ℕ) (body : Body) → IsReadBody body → SaysNothing to body
says_nothing to (LoginAsk user proof) of = record { holds = λ id o h. h; file = λ id s t u o e. cc; filed = λ id e. cc; claims = λ f m fact c. c; speaks = λ u id s. s; fit = tt; asks = λ a k. k; tells = λ a k. k }
says_nothing to (LoginTold word) of = record { holds = λ id o h. h; file = λ id s t u o e. cc; filed = λ id e. cc; claims = λ f m fact c. c; speaks = λ u id s. s; fit = tt; asks = λ a k. k; tells = λ a k. k }
says_nothing to (ListAsk user) of = record { holds = λ id o h. h; file = λ id s t u o e. cc; filed = λ id e. cc; claims = λ f m fact c. c; speaks = λ u id s. s; fit = tt; asks = λ a k. k; tells = λ a k. k }
says_nothing to (ListTold items) of = record { holds = λ id o h. h; file = λ id s t u o e. cc; filed = λ id e. cc; claims = λ f m fact c. c; speaks = λ u id s. s; fit = tt; asks = λ a k. k; tells = λ a k. k }
says_nothing to (FetchAsk user id_ at most) of = record { holds = λ id o h. h; file = λ id s t u o e. cc; filed = λ id e. cc; claims = λ f m fact c. c; speaks = λ u id s. s; fit = tt; asks = λ a k. k; tells = λ a k. k }
says_nothing to (FetchTold part) of = record { holds = λ id o h. h; file = λ id s t u o e. cc; filed = λ id e. cc; claims = λ f m fact c. c; speaks = λ u id s. s; fit = tt; asks = λ a k. k; tells = λ a k. k }
says_nothing to (Unlock user login_) of = record { holds = λ id o h. h; file = λ id s t u o e. cc; filed = λ id e. cc; claims = λ f m fact c. c; speaks = λ u id s. s; fit = tt; asks = λ a k. k; tells = λ a k. k }
says_nothing to body of = absurd of

pub reading_acts : (own : ℕ) (node : mail.Node) (disk : List Record) (calls : ℕ) (heard : Option Letter) (out : List Letter)
    → ((letter : Letter) → heard ≡ Some letter → IsReadBody letter.body) → ((letter : Letter) → Among letter out → IsReadBody letter.body)
    → mail_moves.IsReady own (mail_deeds.slot_up node disk) heard
    → mail_moves.IsCallDone (mail_deeds.act_of own node disk (record { node = record node { calls = calls }; disk = disk; out = out }) heard None [])
reading_acts own node disk calls heard out of_heard of_out ready = is_act own node disk did heard None [] [] ready
    (record { step = stays own [] (BroughtBy act) (AckedBy act) (mail_rules.store_of node disk); fits = λ u m. absurd m; speaks = λ user id s. absurd s.inside })
    (record { boot = refl; drawn = le_refl node.drawn; fresh = λ content e. absurd (cc e); ended = λ content e. absurd (cc e) })
    (same_tickets own node disk did heard None [] refl refl (λ letter e number m asked c. absurd (⊎_elim
    (λ (from, to, a). (says_nothing letter.to letter.body (of_heard letter e)).asks asked a)
    (λ (to, from, t). (says_nothing letter.to letter.body (of_heard letter e)).tells asked t)
    c.1)))
    (λ letter m. let s = says_nothing letter.to letter.body (of_out letter m) in record {
      holds = λ id octets h. absurd (s.holds id octets h);
      file = λ id users f. absurd (s.file id f.stamp f.targets users f.octets f.is);
      filed = λ id e. absurd (s.filed id e);
      claims = λ k fact c. absurd (s.claims letter.from k fact c);
      speaks = λ user id k. absurd (s.speaks user id k);
      fit = s.fit;
    })
  where
    did : mail_rules.Reaction
    did = record { node = record node { calls = calls }; disk = disk; out = out }

    act : mail_moves.NodeAct
    act = mail_deeds.act_of own node disk did heard None []

-- such letters are letters of messages to maps
mail_body : (body : Body) → IsReadBody body → IsMailBody body
mail_body (LoginAsk user proof) of = tt
mail_body (LoginTold word) of = tt
mail_body (ListAsk user) of = tt
mail_body (ListTold items) of = tt
mail_body (FetchAsk user id at most) of = tt
mail_body (FetchTold part) of = tt
mail_body (Unlock user login_) of = tt
mail_body body of = absurd of

pub is_mail : (own : ℕ) (letter : Letter) → GoesOut own letter → IsMail own letter
is_mail own letter g = record { from = g.from; to = g.to; body = mail_body letter.body g.body }

module _ (own : ℕ) (node : Node) (disk : List Record) (did : login_rules.Reaction) (locks : Held) (heard : Option Letter) (w : Cluster) (here : slot_at w.slots own ≡ Some (slot_up node disk))
    (flew : (letter : Letter) → heard ≡ Some letter → IsReadBody letter.body × Among letter w.flying × (letter.to ≡ own)) (same : ChangesTicketsAlone (read_node w.tells node) did.node)
    (goes : (letter : Letter) → Among letter did.out → GoesOut own letter)
    (acts : login_moves.IsReady own (login.slot_up (read_node w.tells node) disk) heard → login_moves.IsAct (login_laws.act_of own (read_node w.tells node) disk did heard)) where
  abbrev new : Node
  new = with_reaction node did locks

  led : whole_moves.LeadsMaps own (whole.maps_slot (record { life = whole.Life.Up node.whole; disk = disk })) (whole.maps_slot (record { life = whole.Life.Up new.whole; disk = disk })) heard did.out
  led = subst (λ d. whole_moves.LeadsMaps own (whole.maps_slot (record { life = whole.Life.Up node.whole; disk = disk })) (whole.maps_slot (record { life = whole.Life.Up new.whole; disk = d })) heard did.out) (append-nil disk)
      (messages_led own node.whole new.whole disk [] heard did.out (λ one m. absurd m) (λ letter m. is_mail own letter (goes letter m)) refl)

  seen : read_node w.tells new ≡ did.node
  seen = λ i. record { boot = sym same.boot i; calls = did.node.calls; epoch = sym same.epoch i; manager = sym same.manager i; named = sym same.named i; reads = did.node.reads; tells = sym same.tells i }

  pub may_read : MayAct (record { node = own; before = slot_up node disk; after = slot_up new disk; heard = heard; out = did.out; files = None; strikes = [] }) w
  may_read = record {
    here = here;
    whole = record {
      here = whole_here w.slots own (slot_up node disk) here;
      mail = λ ready. (reading_acts own node.whole.mail disk did.node.calls heard did.out (λ letter e. (flew letter e).0) (λ letter m. (goes letter m).body) ready).is;
      maps = led;
      heard = λ letter e. ((flew letter e).1, (flew letter e).2);
      struck = λ user id m. absurd m;
    };
    reads = λ ready. subst (λ (n : login.Node). login_moves.IsAct (record { node = own; before = login.slot_up (read_node w.tells node) disk; after = login.slot_up n disk; heard = heard; out = did.out })) (sym seen) (acts ready);
  }

-- all else leaves the tickets of calls that read
pub may_do_other : (own : ℕ) (node : Node) (new : whole.Node) (locks : Held) (disk after : List Record) (act : whole_moves.NodeAct) (w : Cluster) → slot_at w.slots own ≡ Some (slot_up node disk)
    → act.node ≡ own → act.before ≡ record { life = whole.Life.Up node.whole; disk = disk } → act.after ≡ record { life = whole.Life.Up new; disk = after }
    → new.mail.boot ≡ node.whole.mail.boot → node.whole.mail.calls ≤ new.mail.calls → boot_of after ≡ boot_of disk
    → ((letter : Letter) → act.heard ≡ Some letter → login_laws.IsOtherLetter letter) → ((letter : Letter) → Among letter act.out → login_laws.IsOtherLetter letter)
    → whole_moves.MayAct act (whole_of w)
    → MayAct (record { node = own; before = slot_up node disk; after = slot_up (record { whole = new; reads = node.reads; locks = locks }) after; heard = act.heard; out = act.out; files = act.files; strikes = act.strikes }) w
may_do_other own node new locks disk after act w here at before behind boot calls boots of_heard of_out may = record {
  here = here;
  whole = subst (λ (a : whole_moves.NodeAct). whole_moves.MayAct a (whole_of w)) is may;
  reads = λ ready. (other_acts own (read_node w.tells node) (read_node w.tells (record { whole = new; reads = node.reads; locks = locks })) disk after act.heard act.out boot calls refl boots of_heard of_out ready).is;
}
  where
    is : act ≡ record { node = own; before = record { life = whole.Life.Up node.whole; disk = disk }; after = record { life = whole.Life.Up new; disk = after }; heard = act.heard; out = act.out; files = act.files; strikes = act.strikes }
    is = λ i. record { node = at i; before = before i; after = behind i; heard = act.heard; out = act.out; files = act.files; strikes = act.strikes }
