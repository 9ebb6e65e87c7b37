-- Letters of calls that read, as the code heard them.
use Rattle.std.proofs.Common.{◌≡◌, ℕ, Bool, true, false, List, [], ◌∷◌, ◌++◌, Option, Some, None, refl, sym, ap, ◌∙◌, subst, true≢false}
use Rattle.std.specs.Prelude.{Result, Ok, Err, IfOk, is_some}
use Rattle.io_edge.proofs.Passing.{keeps_none}
use Rattle.mail_model.specs.Plan.{Plan, Users, Proof}
use Rattle.mail_model.specs.Record.{Record, payloads_of}
use Rattle.object_model.specs.Sets.{has}
use Rattle.object_model.specs.Locks.{Held, released}
use Rattle.object_model.specs.Letters.{Number, LoginWord, ToldItem, ToldPart, Body, Letter, is_read_body}
use Rattle.object_model.specs.Letters.LoginWord.{Named}
use Rattle.object_model.specs.Letters.Body.{LoginAsk, LoginTold, ListAsk, ListTold, FetchAsk, FetchTold, Unlock}
use Rattle.cluster_model.specs.Cluster as mail
use Rattle.cluster_model.specs.Makes.{IsFetchAsk}
use Rattle.cluster_model.specs.Thrown.{is_stale, with_stamps}
use Rattle.login_model.specs.Cluster as login
use Rattle.login_model.specs.Facts.{IsToldList, IsToldPart}
use Rattle.login_model.specs.NodeLaws.{HasMine}
use Rattle.login_model.specs.Readings.{Login, ReadTicket}
use Rattle.login_model.specs.Readings.Reading.{LogsIn}
use Rattle.login_model.specs.Rules as login_rules
use Rattle.login_model.specs.Rules.{answering, hear_told, read_at}
use Rattle.joint_model.specs.Joint.{Node, read_node}
use Rattle.joint_world.specs.Rules.{Reaction, Judged, judged_for, reacted, Hears}
use Rattle.joint_world.specs.Makes.{learnt, is_late_read}
use Rattle.disk_journal.specs.Journal.{TellsJournal}
use Rattle.node_store.specs.Disks.{View}
use Rattle.disk_journal.specs.Journal.{end_of}
use Rattle.node_store.specs.Keeps.{KeepsRecords, CanGoOn}
use Rattle.node_store.specs.declared.store.NodeStore.{NodeStore}
use Rattle.node_maps.specs.Nodes.{node_of}
use Rattle.node_core.specs.Nodes.{node_seen, NodeKeeps, end_in, IsNodeOf, CanWork}
use Rattle.node_core.specs.Works.{IsOnlyRead, ReadFailed, HasLearned, LeavesUp}
use Rattle.node_core.specs.declared.fault.NodeFault.{NodeFault}
use Rattle.node_core.specs.declared.fault.NodeFault.TheVariants.{Disk, Worn, NoMemory}
use Rattle.node_core.specs.declared.node.Node as half
use Rattle.node_reads.specs.Readings.{user_of_login, user_at}
use Rattle.node_reads.specs.Tables as tables
use Rattle.node_reads.specs.Tables.{reads_in, ticket_at}
use Rattle.node_reads.specs.declared.reads.NodeReads.{NodeReads}
use Rattle.whole_node.specs.Nodes.{joint_seen, HasMaps, AreReadsOf, WholeWorks}
use Rattle.whole_node.specs.Reading.{KeepsMail, KeepsHalves, AreReadLetters, ReadDone, RanShort, ReadHeard, HearsRead}
use Rattle.whole_node.specs.HearingReads.{HasOwnList, HearsAtRest, HeardAs, HearingRanShort, HearsAs}
use Rattle.whole_node.specs.declared.node.WholeNode.{WholeNode}
use Rattle.whole_node.proofs.Called.{same_own, has_same}
use Rattle.whole_node.proofs.Reacting.{seen_by, hears_so}
use Rattle.whole_node.proofs.ReadLetters.{FewRead, OnlyRead, are_read, none_read, one_read, told_read}
use Rattle.whole_node.proofs.ReadDids.{standing_is, unchanged}
use Rattle.whole_node.proofs.LoggedIn.{kept_from}

-- a letter is answered by one
pub answers_so : (tells : Bool) (old new : WholeNode) (body : Body) (letter answered : Letter) (letters : List Letter) (locks : Held) → KeepsHalves old new → new.reads ≡ old.reads → locks ≡ new.locks
    → answering (seen_by tells old) letter body ≡ record { node = seen_by tells old; out = answered ∷ [] } → letters ≡ answered ∷ []
    → reacted (joint_seen old) (answering (seen_by tells old) letter body) locks ≡ record { node = joint_seen new; out = letters }
answers_so tells old new body letter answered letters locks halves reads held is out = ap (λ (d : login_rules.Reaction). reacted (joint_seen old) d locks) is
    ∙ (λ i. record { node = record { whole = record { mail = node_seen (sym halves.mail i); maps = node_of (sym halves.maps i) }; reads = reads_in (sym reads i); locks = held i }; out = sym out i })

-- a word, for the login of its ticket
has_mine : (tells : Bool) (old : WholeNode) (of : AreReadsOf old.mail old.reads) (letter : Letter) (ticket : Number) (records : List Record) (word : LoginWord) (mine : List ToldItem) → letter.ticket ≡ Some ticket
    → HasOwnList old.mail.store.own records (user_at (ticket_at old.reads ticket)) word mine → HasMine old.mail.store.own (seen_by tells old) records letter word mine
has_mine tells old of letter ticket records word mine t lists login one stands is named named_is inside =
    lists login.user (ap user_at (standing_is tells old of ticket ∙ ap (read_at old.mail.store.own (seen_by tells old)) (sym t) ∙ stands) ∙ ap user_of_login is) named named_is inside

module _ (old new : WholeNode) (halves : KeepsHalves old new) (its : HasMaps old) (of : AreReadsOf old.mail old.reads) (locks : new.locks ≡ old.locks) where
  pub word_heard : {E : Type 0} (letter : Letter) (word : LoginWord) (ticket : Number) (from : ℕ) (mine : List ToldItem) (r : Result (List Letter) E) → letter.ticket ≡ Some ticket → letter.from ≡ from → letter.body ≡ LoginTold word
      → ((records : List Record) → NodeKeeps records old.mail → HasOwnList old.mail.store.own records (user_at (ticket_at old.reads ticket)) word mine)
      → IfOk r (λ letters. tables.Hears (mail.epoch_of (node_seen old.mail)) ticket from (LoginTold word) mine letters old.reads new.reads)
      → IfOk r (λ letters. (plan : Plan) → HearsAtRest plan letter (LoginTold word) letters old new)
  word_heard letter word ticket from mine (Ok letters) t f b lists heard = λ plan tells records k. (
    mine,
    has_mine tells old of letter ticket records word mine t (lists records k),
    sym (hears_so tells old new halves ticket from (LoginTold word) mine letters letter old.locks its of t f b (sym locks) heard),
  )
  word_heard letter word ticket from mine (Err refused) t f b lists heard = tt

  -- what another node told, of a list or of a part
  pub told_heard : (tells : Bool) (letter : Letter) (body : Body) (ticket : Number) (from : ℕ) (letters : List Letter) → letter.ticket ≡ Some ticket → letter.from ≡ from → letter.body ≡ body → letters ≡ []
      → tables.Hears (mail.epoch_of (node_seen old.mail)) ticket from body [] [] old.reads new.reads
      → record { node = joint_seen new; out = letters } ≡ reacted (joint_seen old) (hear_told old.mail.store.own (seen_by tells old) letter []) old.locks
  told_heard tells letter body ticket from letters t f b none heard = ap (λ (l : List Letter). record { node = joint_seen new; out = l }) none
      ∙ sym (hears_so tells old new halves ticket from body [] [] letter old.locks its of t f b (sym locks) heard)

-- the body of the letter in other words
pub rest_ok : {E : Type 0} (old new : WholeNode) (letter : Letter) (body : Body) (users : Users) (r : Result (List Letter) E) → letter.body ≡ body
    → IfOk r (λ letters. (plan : Plan) → HearsAtRest plan letter body letters old new) → IfOk r (λ letters. (plan : Plan) → users ≡ plan.users → HearsAtRest plan letter letter.body letters old new)
rest_ok old new letter body users (Ok letters) b heard = λ plan is. subst (λ (x : Body). HearsAtRest plan letter x letters old new) (sym b) (heard plan)
rest_ok old new letter body users (Err refused) b heard = tt

-- what rules of such letters send
sent_read : (plan : Plan) (tells : Bool) (own : ℕ) (node : Node) (disk : List Record) (letter : Letter) (body : Body) (did : Reaction) → Hears plan tells own node disk letter body did → FewRead did.out
sent_read plan tells own node disk letter (LoginAsk user proof) did h = subst FewRead (sym (ap (λ (d : Reaction). d.out) h)) (one_read _ refl)
sent_read plan tells own node disk letter (ListAsk user) did h = subst FewRead (sym (ap (λ (d : Reaction). d.out) h.2)) (one_read _ refl)
sent_read plan tells own node disk letter (FetchAsk user id at most) did h = subst FewRead (sym (ap (λ (d : Reaction). d.out) h.2)) (one_read _ refl)
sent_read plan tells own node disk letter (LoginTold word) did h = subst FewRead (sym (ap (λ (d : Reaction). d.out) h.2)) (told_read own (read_node tells node) letter h.0)
sent_read plan tells own node disk letter (ListTold items) did h = subst FewRead (sym (ap (λ (d : Reaction). d.out) h)) (told_read own (read_node tells node) letter [])
sent_read plan tells own node disk letter (FetchTold part) did h = subst FewRead (sym (ap (λ (d : Reaction). d.out) h)) (told_read own (read_node tells node) letter [])
sent_read plan tells own node disk letter (Unlock user number) did h = subst FewRead (sym (ap (λ (d : Reaction). d.out) h)) none_read
sent_read plan tells own node disk letter body did h = absurd h

module _ {D : Type 0} (on : View D) (plan : Plan) (letter : Letter) (old : WholeNode) (its : HasMaps old) where
  -- heard without a look at the disk
  pub heard_at_rest : (disk : D) (new : WholeNode) (letters : List Letter) → HearsAtRest plan letter letter.body letters old new → HeardAs on plan letter old disk new disk letters
  heard_at_rest disk new letters h = record {
    did = λ records k t. h (is_some (on.seen disk)) records k;
    sent = are_read letters (sent_read plan true old.mail.store.own (joint_seen old) its.records letter letter.body _ (h true its.records its.keeps));
    read = record { seen = refl; images = keeps_none on.clock disk };
    quiet = refl;
  }

  -- a holder told a part
  pub heard_part : (before after : D) (user : List ℕ) (id : _) (from most : ℕ) (part : ToldPart) (answered : Letter) (letters : List Letter) → letter.body ≡ FetchAsk user id from most
      → ((records : List Record) → NodeKeeps records old.mail → TellsJournal (on.seen before) old.mail.store.own (payloads_of records) (end_in old.mail) → IsToldPart (is_some (on.seen before)) user id from most records part)
      → ((node : login.Node) → answering node letter (FetchTold part) ≡ record { node = node; out = answered ∷ [] }) → letters ≡ answered ∷ [] → IsOnlyRead on before after → on.faults after ≡ on.faults before
      → HeardAs on plan letter old before old after letters
  heard_part before after user id from most part answered letters b those is out read quiet = record {
    did = λ records k t. subst (λ (x : Body). Hears plan (is_some (on.seen before)) old.mail.store.own (joint_seen old) records letter x (record { node = joint_seen old; out = letters })) (sym b)
        (part, those records k t, sym (answers_so (is_some (on.seen before)) old old (FetchTold part) letter answered letters old.locks (record { mail = refl; maps = refl }) refl refl (is (seen_by (is_some (on.seen before)) old)) out));
    sent = are_read letters (subst FewRead (sym (out ∙ sym (ap (λ (d : login_rules.Reaction). d.out) (is (seen_by true old))))) (one_read _ refl));
    read = read;
    quiet = quiet;
  }

-- The node learns the stamps, whenever it does so.
learns_too : (plan : Plan) (tells : Bool) (own : ℕ) (node : Node) (disk : List Record) (letter : Letter) (body : Body) (did : Reaction) → Hears plan tells own node disk letter body did → (by : Body)
    → Hears plan tells own (learnt node by) disk letter body (record { node = learnt did.node by; out = did.out })
learns_too plan tells own node disk letter (LoginAsk user proof) did h by = ap (λ (d : Reaction). record { node = learnt d.node by; out = d.out }) h
learns_too plan tells own node disk letter (ListAsk user) did h by = (h.0, h.1, ap (λ (d : Reaction). record { node = learnt d.node by; out = d.out }) h.2)
learns_too plan tells own node disk letter (FetchAsk user id at most) did h by = (h.0, h.1, ap (λ (d : Reaction). record { node = learnt d.node by; out = d.out }) h.2)
learns_too plan tells own node disk letter (LoginTold word) did h by = (h.0, h.1, ap (λ (d : Reaction). record { node = learnt d.node by; out = d.out }) h.2)
learns_too plan tells own node disk letter (ListTold items) did h by = ap (λ (d : Reaction). record { node = learnt d.node by; out = d.out }) h
learns_too plan tells own node disk letter (FetchTold part) did h by = ap (λ (d : Reaction). record { node = learnt d.node by; out = d.out }) h
learns_too plan tells own node disk letter (Unlock user number) did h by = ap (λ (d : Reaction). record { node = learnt d.node by; out = d.out }) h
learns_too plan tells own node disk letter body did h by = absurd h

-- what it leaves of the half for messages
learned_keeps : (body : Body) (old new : half.Node) → HasLearned body old new → KeepsMail old new
learned_keeps body old new l = record {
  same = l.same;
  keeps = λ records k. subst (λ (s : NodeStore). KeepsRecords records s) (sym l.store) k;
  works = λ seen w. record { store = subst (λ (s : NodeStore). CanGoOn seen s) (sym l.store) w.store; whole = l.whole w.whole };
  end_is = ap (λ (s : NodeStore). end_of s.journal) l.store;
}

module _ {D : Type 0} (on : View D) (old : WholeNode) (before : D) (mid new : WholeNode) (after : D) (letter : Letter) (halves : KeepsHalves old mid) (learned : HasLearned letter.body mid.mail new.mail) (maps : new.maps ≡ mid.maps)
    (reads : new.reads ≡ mid.reads) (locks : new.locks ≡ mid.locks) where
  learnt_is : joint_seen new ≡ learnt (joint_seen mid) letter.body
  learnt_is = λ i. record { whole = record { mail = learned.seen i; maps = node_of (maps i) }; reads = reads_in (reads i); locks = locks i }

  pub read_heard : (plan : Plan) (own : ℕ) (letters : List Letter) → own ≡ old.mail.store.own → is_stale letter (node_seen old.mail).installed ≡ false → is_late_read old.mail.store.own (joint_seen old) letter ≡ false
      → HeardAs on plan letter old before mid after letters → ReadHeard on plan own old before new after letter letters
  read_heard plan own letters same within in_time h = record {
    within = within;
    in_time = subst (λ (o : ℕ). is_late_read o (joint_seen old) letter ≡ false) (sym same) in_time;
    did = record {
      did = λ records k t. subst (λ (o : ℕ). Hears plan (is_some (on.seen before)) o (learnt (joint_seen old) letter.body) records letter letter.body (record { node = joint_seen new; out = letters })) (sym same)
          (subst (λ (n : Node). Hears plan (is_some (on.seen before)) old.mail.store.own (learnt (joint_seen old) letter.body) records letter letter.body (record { node = n; out = letters })) (sym learnt_is)
          (learns_too plan (is_some (on.seen before)) old.mail.store.own (joint_seen old) records letter letter.body _ (h.did records k t) letter.body));
      mail = kept_from old.mail mid.mail new.mail halves.mail (learned_keeps letter.body mid.mail new.mail learned);
      maps = maps ∙ halves.maps;
      letters = h.sent;
      read = h.read;
      quiet = h.quiet;
    };
  }

  -- and the node works on
  pub heard_works : IsOnlyRead on before after → WholeWorks (on.seen before) old → AreReadsOf mid.mail mid.reads → WholeWorks (on.seen after) new
  heard_works read w of = record {
    mail = subst (λ (s : Option (List ℕ)). CanWork s new.mail) (sym read.seen) (kept.works (on.seen before) w.mail);
    maps = has_same old w.maps new kept.same (ap (λ (n : mail.Node). n.boot) learned.seen ∙ ap (λ (m : half.Node). (node_seen m).boot) halves.mail) (ap (λ (n : mail.Node). n.installed) learned.seen ∙ ap (λ (m : half.Node). (node_seen m).installed) halves.mail)
        kept.keeps (maps ∙ halves.maps);
    reads = record {
      own_is = ap (λ (t : NodeReads). t.own) reads ∙ of.own_is ∙ sym (same_own mid.mail new.mail learned.same);
      boot_is = ap (λ (t : NodeReads). t.boot) reads ∙ of.boot_is ∙ sym (ap (λ (n : mail.Node). n.boot) learned.seen);
    };
  }
    where
      kept : KeepsMail old.mail new.mail
      kept = kept_from old.mail mid.mail new.mail halves.mail (learned_keeps letter.body mid.mail new.mail learned)

-- the tickets are still the node's own
pub still_own : (old new : WholeNode) → KeepsHalves old new → AreReadsOf old.mail old.reads → tables.IsOf old.reads.own old.reads.boot new.reads → AreReadsOf new.mail new.reads
still_own old new halves of same = record {
  own_is = same.own_is ∙ of.own_is ∙ sym (ap (λ (m : half.Node). m.store.own) halves.mail);
  boot_is = same.boot_is ∙ of.boot_is ∙ sym (ap (λ (m : half.Node). (node_seen m).boot) halves.mail);
}

module _ {D : Type 0} (on : View D) (plan : Plan) (letter : Letter) (old : WholeNode) (before : D) (new : WholeNode) (after : D) (halves : KeepsHalves old new) where
  -- it was not heard
  pub read_unheard : (own : ℕ) (fault : NodeFault) → own ≡ old.mail.store.own → is_stale letter (node_seen old.mail).installed ≡ false → HearsAs on plan letter old before new after (Err fault)
      → HearsRead on plan own old before new after letter (Err fault)
  read_unheard own Disk same within h = (h.0, within, subst (λ (o : ℕ). ReadFailed on o old.mail before new.mail after) (sym same) h.1)
  read_unheard own Worn same within h = h
  read_unheard own (NoMemory true) same within h = h
  read_unheard own (NoMemory false) same within h = (record { unchanged = unchanged old new halves h.reads h.locks; read = h.read; quiet = h.quiet }, h.untouched)

  pub unheard_works : (T : Type 0) (fault : NodeFault) → HearsAs on plan letter old before new after (Err fault) → WholeWorks (on.seen before) old → AreReadsOf new.mail new.reads → LeavesUp {T = T} (Err fault) → WholeWorks (on.seen after) new
  unheard_works T Disk h w of up = absurd up
  unheard_works T Worn h w of up = absurd h
  unheard_works T (NoMemory true) h w of up = absurd up
  unheard_works T (NoMemory false) h w of up = record {
    mail = subst (λ (s : Option (List ℕ)). CanWork s new.mail) (sym h.read.seen) (subst (CanWork (on.seen before)) (sym halves.mail) w.mail);
    maps = has_same old w.maps new (λ plan own is. subst (IsNodeOf plan own) (sym halves.mail) is) (ap (λ (m : half.Node). (node_seen m).boot) halves.mail) (ap (λ (m : half.Node). (node_seen m).installed) halves.mail)
        (λ records k. subst (NodeKeeps records) (sym halves.mail) k) halves.maps;
    reads = of;
  }
