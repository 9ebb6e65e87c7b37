-- A login and a fetch that begin, by what the code did for them.
use Rattle.std.proofs.Common.{◌≡◌, ℕ, ◌+◌, nat_eq, Bool, true, false, List, [], Option, Some, None, refl, sym, ap, ◌∙◌, subst, eq-eqb, eqb-true, true≢false, if◌then◌else◌}
use Rattle.std.specs.Prelude.{is_some, Result, Ok, Err, IfOk}
use Rattle.mail_model.specs.Plan.{Plan, Proof}
use Rattle.mail_model.specs.Record.{Record}
use Rattle.object_model.specs.Sets.{has}
use Rattle.object_model.specs.Letters.{Number, LoginWord, ToldItem, Letter}
use Rattle.object_model.specs.Letters.LoginWord.{Named}
use Rattle.object_model.specs.Locks.{Held}
use Rattle.cluster_model.specs.Cluster as mail
use Rattle.cluster_model.specs.Cluster.{CallKind}
use Rattle.cluster_model.specs.Cluster.CallKind.{LoggingIn}
use Rattle.cluster_model.specs.Rules.{refuse, new_number}
use Rattle.cluster_model.specs.Steps.NodeCall.{Login}
use Rattle.object_model.specs.Mishaps.{no_mishaps, counted}
use Rattle.object_model.specs.Mishaps.MishapKind.{FewMembers}
use Rattle.login_model.specs.Cluster as login
use Rattle.login_model.specs.Facts.{IsToldList}
use Rattle.login_model.specs.Rules.{Under, under, next_number, begin_read, begin_login}
use Rattle.joint_model.specs.Joint.{Node, read_node, user_manager_in}
use Rattle.joint_world.specs.Rules as rules
use Rattle.joint_world.specs.Rules.{Reaction, Judged, judged, judged_here, reacted}
use Rattle.node_maps.specs.Nodes.{node_of}
use Rattle.node_core.specs.Nodes.{node_seen, NodeKeeps, IsAsBefore, Becomes}
use Rattle.node_core.specs.Drawing.{with_call, lacks_ticket, RefusesRead}
use Rattle.node_core.specs.declared.fault.NodeFault.{NodeFault}
use Rattle.node_core.specs.declared.fault.NodeFault.TheVariants.{Disk, Worn, NoMemory}
use Rattle.node_core.specs.declared.outbox.Outbox.{Outbox}
use Rattle.node_core.specs.declared.node.Node as half
use Rattle.node_reads.specs.Tables.{reads_in, Begins}
use Rattle.node_reads.specs.declared.reads.NodeReads.{NodeReads}
use Rattle.whole_node.specs.Nodes.{joint_seen, HasMaps, AreReadsOf, WholeWorks}
use Rattle.whole_node.specs.Reading.{KeepsMail, KeepsHalves, ReadDid, BeginsBy, refuses, BeginsLogin}
use Rattle.whole_node.specs.Beginning.{with_number, AreWorn, HasRefused, RefusesAs, TakesOwnWord, LogsInAs}
use Rattle.whole_node.specs.declared.node.WholeNode.{WholeNode}
use Rattle.whole_node.proofs.Reacting.{seen_by, begins_so}
use Rattle.whole_node.proofs.ReadLetters.{FewRead, are_read, none_read, login_read}
use Rattle.whole_node.proofs.Called.{same_own, has_same}

module _ (old new : WholeNode) (halves : KeepsHalves old new) (its : HasMaps old) (of : AreReadsOf old.mail old.reads) where
  own : ℕ
  own = old.mail.store.own

  -- another node manages the user, and is asked
  pub logs_elsewhere : (plan : Plan) (user : List ℕ) (proof : Proof) (manager : ℕ) (letters : List Letter) (ticket : Number) → user_manager_in user (node_of old.maps).installed ≡ Some manager
      → (manager ≡ old.mail.store.own → ⊥) → ticket ≡ new_number old.mail.store.own (node_seen old.mail) → new.locks ≡ old.locks → nat_eq manager old.mail.store.own ≡ false
      → ((word : LoginWord) (mine : List ToldItem) → Begins (mail.epoch_of (node_seen old.mail)) ticket.seq (λ u. begin_login u user proof manager word mine) letters old.reads new.reads) → LogsInAs plan user proof letters old new
  unfolding own
  logs_elsewhere plan user proof manager letters ticket managed other number locks apart began tells records keeps = record {
    manager = manager;
    managed = managed;
    mine = [];
    lists = λ named here. absurd (other here);
    is = sym (begins_so tells old new halves ticket.seq (λ u. begin_login u user proof manager j.word []) letters _ its of (ap (λ (n : Number). n.seq) number)
        (ap (λ (b : Bool). if b then j.locks else old.locks) apart ∙ sym locks) (began j.word []));
  }
    where
      j : Judged
      j = judged_here plan tells own (joint_seen old) user proof

  -- the node manages the user itself
  pub logs_here : (plan : Plan) (user : List ℕ) (proof : Proof) (word : LoginWord) (letters : List Letter) (ticket : Number) → user_manager_in user (node_of old.maps).installed ≡ Some old.mail.store.own
      → ticket ≡ new_number old.mail.store.own (node_seen old.mail)
      → ((tells : Bool) → judged plan (seen_by tells old) user proof ticket old.locks ≡ record { word = word; locks = new.locks }) → (mine : List ToldItem)
      → ((records : List Record) → NodeKeeps records old.mail → (named : ℕ) → word ≡ Named named → has named old.mail.store.own ≡ true → IsToldList user records mine)
      → Begins (mail.epoch_of (node_seen old.mail)) ticket.seq (λ u. begin_login u user proof old.reads.own word mine) letters old.reads new.reads → LogsInAs plan user proof letters old new
  unfolding own
  logs_here plan user proof word letters ticket managed number was mine lists began tells records keeps = record {
    manager = own;
    managed = managed;
    mine = mine;
    lists = λ named here is. lists records keeps named (sym (ap (λ (j : Judged). j.word) judged_is) ∙ is);
    is = sym (begins_so tells old new halves ticket.seq (λ u. begin_login u user proof own j.word mine) letters _ its of (ap (λ (n : Number). n.seq) number)
        (ap (λ (b : Bool). if b then j.locks else old.locks) (eq-eqb own own refl) ∙ ap (λ (k : Judged). k.locks) judged_is)
        (subst (λ (w : LoginWord). Begins (mail.epoch_of (node_seen old.mail)) ticket.seq (λ u. begin_login u user proof own w mine) letters old.reads new.reads) (sym (ap (λ (k : Judged). k.word) judged_is))
        (subst (λ (o : ℕ). Begins (mail.epoch_of (node_seen old.mail)) ticket.seq (λ u. begin_login u user proof o word mine) letters old.reads new.reads) of.own_is began)));
  }
    where
      j : Judged
      j = judged_here plan tells own (joint_seen old) user proof

      judged_is : j ≡ record { word = word; locks = new.locks }
      judged_is = ap (λ (n : Number). judged plan (seen_by tells old) user proof n old.locks) (sym number) ∙ was tells

-- what was told of itself is taken
pub takes_own : {E : Type 0} (old new : WholeNode) (user : List ℕ) (ticket : Number) (word : LoginWord) (mine : List ToldItem) (r : Result (List Letter) E)
    → ((records : List Record) → NodeKeeps records old.mail → (named : ℕ) → word ≡ Named named → has named old.mail.store.own ≡ true → IsToldList user records mine)
    → IfOk r (λ letters. (proof : Proof) → Begins (mail.epoch_of (node_seen old.mail)) ticket.seq (λ u. begin_login u user proof old.reads.own word mine) letters old.reads new.reads)
    → IfOk r (λ letters. TakesOwnWord user ticket word letters old new)
takes_own old new user ticket word mine (Ok letters) lists begins = record { mine = mine; lists = lists; begins = begins }
takes_own old new user ticket word mine (Err refused) lists begins = tt

-- numbers are two or one
pub apart_eq : (a b : ℕ) → (a ≡ b → ⊥) → nat_eq a b ≡ false
apart_eq a b other = by (nat_eq a b) refl
  where
    by : (t : Bool) → nat_eq a b ≡ t → t ≡ false
    by true e = absurd (other (eqb-true a b e))
    by false e = refl

-- the node drew the number of a ticket
pub numbered : (mid new : WholeNode) → Becomes (with_call (node_seen mid.mail)) mid.mail new.mail → new.maps ≡ mid.maps → new.reads ≡ mid.reads → new.locks ≡ mid.locks → joint_seen new ≡ with_number (joint_seen mid)
numbered mid new drawn maps reads locks = λ i. record { whole = record { mail = drawn.seen_is i; maps = node_of (maps i) }; reads = reads_in (reads i); locks = locks i }

pub kept_by : (seen : mail.Node) (old new : half.Node) → Becomes seen old new → KeepsMail old new
kept_by seen old new b = record { same = b.same; keeps = b.keeps; works = b.works; end_is = b.end_is }

pub kept_from : (old mid new : half.Node) → mid ≡ old → KeepsMail mid new → KeepsMail old new
kept_from old mid new e k = subst (λ (m : half.Node). KeepsMail m new) e k

-- A login has begun.
pub login_begun : (plan : Plan) (at : ℕ) (user : List ℕ) (proof : Proof) (letters : List Letter) (old mid new : WholeNode) → at ≡ old.mail.store.own → KeepsHalves old mid → KeepsMail mid.mail new.mail
    → joint_seen new ≡ with_number (joint_seen mid) → new.maps ≡ mid.maps → LogsInAs plan user proof letters old mid → (records : List Record) → NodeKeeps records old.mail
    → ReadDid (BeginsBy plan at user proof) old new letters
login_begun plan at user proof letters old mid new same halves kept number maps did records k = record {
  did = λ tells other l. BeginsBy.LogsIn (subst (λ (o : ℕ). rules.LogsIn plan tells o (joint_seen old) other user proof (record { node = joint_seen new; out = letters })) (sym same)
      (subst (λ (n : Node). rules.LogsIn plan tells old.mail.store.own (joint_seen old) other user proof (record { node = n; out = letters })) (sym number) (did tells other l)));
  mail = kept_from old.mail mid.mail new.mail halves.mail kept;
  maps = maps ∙ halves.maps;
  letters = are_read letters (subst FewRead (sym (ap (λ (d : Reaction). d.out) (did true records k).is)) (login_read (under old.mail.store.own (seen_by true old) (next_number old.mail.store.own (seen_by true old))) user proof (did true records k).manager
      (judged_here plan true old.mail.store.own (joint_seen old) user proof).word (did true records k).mine));
}

-- The call fails at once.
module _ (kind : CallKind) (old new : WholeNode) (maps : new.maps ≡ old.maps) (reads : new.reads ≡ old.reads) (locks : new.locks ≡ old.locks) where
  refused_did : Becomes (refuse kind (counted FewMembers no_mishaps) 0 (node_seen old.mail) []).node old.mail new.mail → ReadDid (λ tells node disk did. did ≡ refuses kind node disk) old new []
  refused_did b = record {
    did = λ tells records k i. record { node = record { whole = record { mail = b.seen_is i; maps = node_of (maps i) }; reads = reads_in (reads i); locks = locks i }; out = [] };
    mail = kept_by _ old.mail new.mail b;
    maps = maps;
    letters = are_read [] none_read;
  }

  pub refused_so : (number : Number) (outbox : Outbox) → AreWorn old false → outbox.letters ≡ [] → outbox.thrown ≡ None → RefusesRead kind (Ok number) old.mail new.mail → HasRefused kind old (Some number) outbox new
  refused_so number outbox fresh none thrown r = record {
    fresh = fresh;
    ticket_is = ap Some r.1;
    none_thrown = thrown;
    did = subst (ReadDid (λ tells node disk did. did ≡ refuses kind node disk) old new) (sym none) (refused_did r.2);
  }

  pub refused_not : (fault : NodeFault) → AreWorn old false → RefusesRead kind (Err fault) old.mail new.mail → lacks_ticket (node_seen old.mail) ≡ false → RefusesAs kind (Err fault) old new
  refused_not Disk fresh r few = r
  refused_not Worn fresh r few = absurd (true≢false (sym r.0 ∙ few))
  refused_not (NoMemory true) fresh r few = r
  refused_not (NoMemory false) fresh r few = record { mail = r; maps = maps; reads = ap reads_in reads; locks = locks }

  pub refused_works : (fault : NodeFault) → RefusesRead kind (Err fault) old.mail new.mail → (seen : Option (List ℕ)) → WholeWorks seen old → WholeWorks seen new
  refused_works fault r seen w = by fault r
    where
      before : IsAsBefore old.mail new.mail → WholeWorks seen new
      before b = record {
        mail = b.works seen w.mail;
        maps = has_same old w.maps new b.same (ap (λ (n : mail.Node). n.boot) b.seen) (ap (λ (n : mail.Node). n.installed) b.seen) b.keeps maps;
        reads = record { own_is = ap (λ (t : NodeReads). t.own) reads ∙ w.reads.own_is ∙ sym (same_own old.mail new.mail b.same); boot_is = ap (λ (t : NodeReads). t.boot) reads ∙ w.reads.boot_is ∙ sym (ap (λ (n : mail.Node). n.boot) b.seen) };
      }

      by : (f : NodeFault) → RefusesRead kind (Err f) old.mail new.mail → WholeWorks seen new
      by Disk r = absurd r
      by Worn r = before r.1
      by (NoMemory true) r = absurd r
      by (NoMemory false) r = before r

-- so a login fails at once
pub login_refused : (plan : Plan) (at seconds : ℕ) (user : List ℕ) (proof : Proof) (r : Result (Option Number × Outbox) NodeFault) (old new : WholeNode) → at ≡ old.mail.store.own
    → user_manager_in user (node_of old.maps).installed ≡ None → RefusesAs LoggingIn r old new → BeginsLogin plan at seconds user proof r old new
login_refused plan at seconds user proof (Ok begun) old new same none r = (
  record { fresh = r.fresh plan seconds (Login user proof) tt; ticket_is = r.ticket_is ∙ ap (λ (o : ℕ). Some (new_number o (node_seen old.mail))) (sym same); none_thrown = r.none_thrown },
  record { did = λ tells records k. BeginsBy.HasNoManager none (r.did.did tells records k); mail = r.did.mail; maps = r.did.maps; letters = r.did.letters },
)
login_refused plan at seconds user proof (Err Disk) old new same none r = r
login_refused plan at seconds user proof (Err Worn) old new same none r = (r.0 plan seconds (Login user proof) tt, r.1)
login_refused plan at seconds user proof (Err (NoMemory true)) old new same none r = r
login_refused plan at seconds user proof (Err (NoMemory false)) old new same none r = r
