-- What a call that reads leaves of the whole node, where the code changed tickets and locks alone.
use Rattle.std.proofs.Common.{◌≡◌, ℕ, nat_eq, ◌&&◌, Bool, true, false, List, [], Option, Some, None, refl, sym, ap, ◌∙◌, subst, if◌then◌else◌}
use Rattle.std.specs.Prelude.{Result, Ok, Err, IfOk, OnErr}
use Rattle.std.specs.FinMap as fin
use Rattle.mail_model.specs.Record.{Record}
use Rattle.object_model.specs.Sets.{has}
use Rattle.object_model.specs.Letters.{Number, Letter}
use Rattle.object_model.specs.Locks.{Held, released}
use Rattle.object_model.specs.Mishaps.{MishapKind}
use Rattle.call_tickets.specs.declared.answer.Ask.{Ask}
use Rattle.cluster_model.specs.Cluster as mail
use Rattle.login_model.specs.Cluster as login
use Rattle.login_model.specs.Readings.{LoginStage, Login, Reading, ReadTicket, Reads}
use Rattle.login_model.specs.Readings.LoginStage.{AsksManager, IsDenied, AsksNodes, HasFailed}
use Rattle.login_model.specs.Readings.Reading.{LogsIn, Fetches}
use Rattle.login_model.specs.Progress.{ReadAsk, ask_read}
use Rattle.login_model.specs.Progress.ReadAsk.{Pending, Done}
use Rattle.login_model.specs.Rules as rules
use Rattle.login_model.specs.Rules.{read_at, end_read, mishap, give_up_read, idle, under}
use Rattle.joint_model.specs.Joint.{Node, read_node}
use Rattle.joint_world.specs.Rules.{Reaction, reacted, ended, befallen, given_up, left, let_go, locks_befallen, login_fails, fails_by, login_may_hold, may_hold}
use Rattle.node_core.specs.Nodes as core
use Rattle.node_core.specs.Nodes.{node_seen, NodeKeeps, end_in, CanWork, IsSameNode, IsAsBefore}
use Rattle.node_core.specs.declared.node.Node as half
use Rattle.node_maps.specs.Nodes.{node_of}
use Rattle.node_reads.specs.Asking.{user_befallen, user_befallen_at, user_held, user_held_at, managed_user, done_at}
use Rattle.node_reads.specs.Readings.{listed, login_waits, may_hold_lock}
use Rattle.node_reads.specs.Tables.{reads_in, ticket_at, node_with, left_by, Befalls, GivesUp, given_up_at, Asks, AskedAt, AnswersFrom}
use Rattle.node_reads.specs.declared.reads.NodeReads.{NodeReads}
use Rattle.whole_node.specs.Nodes.{joint_seen, HasMaps, AreReadsOf}
use Rattle.whole_node.specs.Reading.{KeepsMail, IsUnchanged, KeepsHalves, ReadDid}
use Rattle.whole_node.specs.ReadTickets.{reading_standing, AnswersBy, AsksUnder, AsksRead, let_go_for, GivesUpUnder, GivesUpRead, BefallsRead, LeavesLogin}
use Rattle.whole_node.specs.declared.node.WholeNode.{WholeNode}
use Rattle.whole_node.proofs.Reacting.{seen_by, epoch_is, with_own, left_so}
use Rattle.whole_node.proofs.ReadLetters.{FewRead, are_read, none_read, mishap_read, leave_read, give_up_read as gives_up_read}

-- the half for messages is the same
pub mail_kept : (old new : half.Node) → new ≡ old → KeepsMail old new
mail_kept old new e = subst (KeepsMail old) (sym e) (record { same = λ plan own is. is; keeps = λ records k. k; works = λ seen w. w; end_is = refl })

pub as_before : (old new : half.Node) → new ≡ old → IsAsBefore old new
as_before old new e = subst (IsAsBefore old) (sym e) (record { seen = refl; same = λ plan own is. is; keeps = λ records k. k; works = λ seen w. w; end_is = refl })

-- the code finds the machine's ticket
pub standing_is : (tells : Bool) (old : WholeNode) → AreReadsOf old.mail old.reads → (number : Number) → ticket_at old.reads number ≡ read_at old.mail.store.own (seen_by tells old) (Some number)
standing_is tells old of number = λ i. if nat_eq number.node (of.own_is i) && nat_eq number.boot (of.boot_is i) then fin.get (reads_in old.reads) number.seq else None

-- the locks that go back are those of the rules
let_managed : (own : ℕ) (number : Number) (locks : Held) (login : Login) → let_go_for (managed_user own (LogsIn login)) number locks ≡ let_go own number (LogsIn login) locks
let_managed own number locks login = by (nat_eq login.manager own)
  where
    by : (b : Bool) → let_go_for (if b then Some login.user else None) number locks ≡ (if b then released login.user number locks else locks)
    by true = refl
    by false = refl

let_if : (own : ℕ) (number : Number) (locks : Held) (login : Login) (b : Bool) → let_go_for (if b then managed_user own (LogsIn login) else None) number locks ≡ (if b then let_go own number (LogsIn login) locks else locks)
let_if own number locks login true = let_managed own number locks login
let_if own number locks login false = refl

pub befallen_locks : (own at : ℕ) (number : Number) (locks : Held) (t : Option ReadTicket) → let_go_for (user_befallen_at own at t) number locks ≡ locks_befallen own at number locks t
befallen_locks own at number locks None = refl
befallen_locks own at number locks (Some ticket) = by ticket.reading
  where
    by : (reading : Reading) → let_go_for (user_befallen own at reading) number locks ≡ (if fails_by at reading then let_go own number reading locks else locks)
    by (LogsIn login) = stage login.stage
      where
        stage : (s : LoginStage) → let_go_for (if login_waits at login s then managed_user own (LogsIn login) else None) number locks ≡ (if login_fails at login s then let_go own number (LogsIn login) locks else locks)
        stage AsksManager = let_if own number locks login (nat_eq at login.manager)
        stage (IsDenied word) = refl
        stage (AsksNodes named waiting told) = let_if own number locks login (has waiting at)
        stage HasFailed = refl
    by (Fetches fetch) = refl

held_locks : (own : ℕ) (number : Number) (locks : Held) (reading : Reading) → let_go_for (user_held own reading) number locks ≡ (if may_hold reading then let_go own number reading locks else locks)
held_locks own number locks (LogsIn login) = stage login.stage
  where
    stage : (s : LoginStage) → let_go_for (if may_hold_lock s then managed_user own (LogsIn login) else None) number locks ≡ (if login_may_hold s then let_go own number (LogsIn login) locks else locks)
    stage AsksManager = let_managed own number locks login
    stage (IsDenied word) = refl
    stage (AsksNodes named waiting told) = let_managed own number locks login
    stage HasFailed = refl
held_locks own number locks (Fetches fetch) = refl

no_letter : (letter : Option Letter) → [] ≡ listed letter → letter ≡ None
no_letter None e = refl
no_letter (Some letter) e = absurd (cc e)

module _ (old new : WholeNode) (halves : KeepsHalves old new) where
  pub unchanged : reads_in new.reads ≡ reads_in old.reads → new.locks ≡ old.locks → IsUnchanged old new
  unchanged reads locks = record { mail = as_before old.mail new.mail halves.mail; maps = halves.maps; reads = reads; locks = locks }

  pub did_so : (rule : Bool → Node → List Record → Reaction → Type 0) (sent : List Letter) → FewRead sent
      → ((tells : Bool) (records : List Record) → NodeKeeps records old.mail → rule tells (joint_seen old) records (record { node = joint_seen new; out = sent })) → ReadDid rule old new sent
  did_so rule sent few did = record { did = did; mail = mail_kept old.mail new.mail halves.mail; maps = halves.maps; letters = are_read sent few }

  module _ (of : AreReadsOf old.mail old.reads) where
    own_seen : login.Node
    own_seen = seen_by true old

    -- an ask of a ticket
    asks_under : (number : Number) (ask : Option Ask) (t : Option ReadTicket) → new.locks ≡ old.locks → AskedAt own_seen number t ask (node_with new.reads own_seen) → AsksUnder number t ask old new
    unfolding own_seen
    asks_under number ask None locks a = (a.0, unchanged (ap (λ (n : login.Node). n.reads) a.1) locks)
    asks_under number ask (Some ticket) locks a = by (ask_read ticket ticket.reading) a
      where
        by : (r : ReadAsk) → AnswersFrom own_seen number r ask (node_with new.reads own_seen) → AnswersBy number r ask old new
        by (Pending got wanted) a = (a.0, unchanged (ap (λ (n : login.Node). n.reads) a.1) locks)
        by (Done answer) a = (
          a.0,
          a.1,
          a.2,
          did_so (λ tells node disk did. did ≡ ended tells node number.seq) [] none_read
              (λ tells records k i. record { node = record { whole = record { mail = node_seen (halves.mail i); maps = node_of (halves.maps i) }; reads = (a.3 i).reads; locks = locks i }; out = [] }),
        )

    pub asks_so : (number : Number) (ask : Option Ask) → new.locks ≡ old.locks → Asks number ask old.reads new.reads → AsksUnder number (reading_standing old number) ask old new
    unfolding own_seen
    asks_so number ask locks a = asks_under number ask (reading_standing old number) locks
        (subst (λ (o : ℕ). AskedAt own_seen number (read_at o own_seen (Some number)) ask (node_with new.reads own_seen)) of.own_is
        (subst (λ (n : login.Node). AskedAt n number (read_at old.reads.own n (Some number)) ask (node_with new.reads own_seen)) (with_own true old of) (a.did own_seen)))

    pub asks_result : {E : Type 0} (number : Number) (r : Result (Option Ask) E) → new.locks ≡ old.locks → IfOk r (λ ask. Asks number ask old.reads new.reads) → OnErr r (done_at (ticket_at old.reads number) ≡ true)
        → OnErr r (reads_in new.reads ≡ reads_in old.reads) → AsksRead number r old new
    asks_result number (Ok ask) locks a done same = asks_so number ask locks a
    asks_result number (Err refused) locks a done same = (ap done_at (sym (standing_is true old of number)) ∙ done, unchanged same locks)

    -- a mishap
    pub befalls_so : (kind : MishapKind) (at : ℕ) (number : Number) (letter : Option Letter) → HasMaps old → new.locks ≡ let_go_for (user_befallen_at old.reads.own at (ticket_at old.reads number)) number old.locks
        → Befalls (mail.epoch_of (node_seen old.mail)) number kind at (listed letter) old.reads new.reads → BefallsRead kind at number letter old new
    befalls_so kind at number letter has locks b = did_so (λ tells node disk did. did ≡ befallen tells old.mail.store.own kind at node number) (listed letter)
        (subst FewRead (ap (λ (d : rules.Reaction). d.out) (did true)) (mishap_read old.mail.store.own kind at (seen_by true old) number))
        (λ tells records k. sym (left_so tells old new halves _ (listed letter) _ (did tells) (held tells)))
      where
        did : (tells : Bool) → mishap old.mail.store.own kind at (seen_by tells old) number ≡ left_by new.reads (seen_by tells old) (listed letter)
        did tells = subst (λ (o : ℕ). mishap o kind at (seen_by tells old) number ≡ left_by new.reads (seen_by tells old) (listed letter)) of.own_is
            (subst (λ (n : login.Node). mishap old.reads.own kind at n number ≡ left_by new.reads (seen_by tells old) (listed letter)) (with_own tells old of) (b.did (seen_by tells old) (epoch_is tells old has)))

        held : (tells : Bool) → locks_befallen old.mail.store.own at number old.locks (read_at old.mail.store.own (seen_by tells old) (Some number)) ≡ new.locks
        held tells = ap (locks_befallen old.mail.store.own at number old.locks) (sym (standing_is tells old of number)) ∙ sym (befallen_locks old.mail.store.own at number old.locks (ticket_at old.reads number))
            ∙ ap (λ (o : ℕ). let_go_for (user_befallen_at o at (ticket_at old.reads number)) number old.locks) (sym of.own_is) ∙ sym locks

    -- a ticket that is given up
    gives_up_under : (number : Number) (letter : Option Letter) (t : Option ReadTicket) → new.locks ≡ let_go_for (user_held_at old.mail.store.own t) number old.locks
        → ((tells : Bool) → given_up_at old.mail.store.own (seen_by tells old) number t ≡ left_by new.reads (seen_by tells old) (listed letter)) → GivesUpUnder number t letter old new
    gives_up_under number letter None locks did = (no_letter letter (ap (λ (d : rules.Reaction). d.out) (did true)), unchanged (sym (ap (λ (d : rules.Reaction). d.node.reads) (did true))) locks)
    gives_up_under number letter (Some ticket) locks did = did_so (λ tells node disk d. d ≡ given_up tells old.mail.store.own node number ticket.reading) (listed letter)
        (subst FewRead (ap (λ (d : rules.Reaction). d.out) (did true)) (gives_up_read (under old.mail.store.own (seen_by true old) number) ticket.reading))
        (λ tells records k. sym (left_so tells old new halves _ (listed letter) _ (did tells) (sym (held_locks old.mail.store.own number old.locks ticket.reading) ∙ sym locks)))

    pub gives_up_so : (number : Number) (letter : Option Letter) → HasMaps old → new.locks ≡ let_go_for (user_held_at old.reads.own (ticket_at old.reads number)) number old.locks
        → GivesUp (mail.epoch_of (node_seen old.mail)) number (listed letter) old.reads new.reads → GivesUpRead number letter old new
    gives_up_so number letter has locks g = gives_up_under number letter (reading_standing old number)
        (locks ∙ ap (λ (o : ℕ). let_go_for (user_held_at o (ticket_at old.reads number)) number old.locks) of.own_is ∙ ap (λ (t : Option ReadTicket). let_go_for (user_held_at old.mail.store.own t) number old.locks) (standing_is true old of number))
        (λ tells. subst (λ (o : ℕ). given_up_at o (seen_by tells old) number (read_at o (seen_by tells old) (Some number)) ≡ left_by new.reads (seen_by tells old) (listed letter)) of.own_is
        (subst (λ (n : login.Node). given_up_at old.reads.own n number (read_at old.reads.own n (Some number)) ≡ left_by new.reads (seen_by tells old) (listed letter)) (with_own tells old of)
        (g.did (seen_by tells old) (epoch_is tells old has))))

    -- the end of a login
    pub leaves_so : (user : List ℕ) (number : Number) (manager : ℕ) (letter : Option Letter) → new.reads ≡ old.reads
        → new.locks ≡ (if nat_eq manager old.mail.store.own then released user number old.locks else old.locks)
        → ((tells : Bool) → rules.leave old.mail.store.own (seen_by tells old) user number manager ≡ record { node = seen_by tells old; out = listed letter }) → LeavesLogin user number manager letter old new
    leaves_so user number manager letter reads locks did = did_so (λ tells node disk d. d ≡ left tells old.mail.store.own node user number manager) (listed letter)
        (subst FewRead (ap (λ (d : rules.Reaction). d.out) (did true)) (leave_read old.mail.store.own (seen_by true old) user number manager))
        (λ tells records k. sym (left_so tells old new halves _ (listed letter) _ (same tells) (sym locks)))
      where
        same : (tells : Bool) → rules.leave old.mail.store.own (seen_by tells old) user number manager ≡ left_by new.reads (seen_by tells old) (listed letter)
        same tells = did tells ∙ ap (λ (n : login.Node). record { node = n; out = listed letter }) (sym (with_own tells old of))
            ∙ ap (λ (r : NodeReads). left_by r (seen_by tells old) (listed letter)) (sym reads)
