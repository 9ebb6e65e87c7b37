-- The whole machine sees each step as the very same step.
use Rattle.std.proofs.Common.{◌≡◌, inl, inr, ℕ, ◌+◌, Bool, true, false, not, nat_lt, nat_eq, List, Option, Some, None, is_some, refl, sym, ap, ◌∙◌, subst, true≢false, if◌then◌else◌}
use Rattle.std.proofs.lemmas.Bool.{and_parts}
use Rattle.mail_model.specs.Plan.{Plan}
use Rattle.mail_model.specs.Record.{Record}
use Rattle.object_model.specs.Sets.{count_in}
use Rattle.object_model.specs.Mishaps.{Mishaps, no_mishaps, counted, mishaps_of}
use Rattle.object_model.specs.Mishaps.MishapKind.{FewMembers, Dropped, Stale as StaleKind, Down as DownKind, Disk}
use Rattle.object_model.specs.Letters.{Number, Membership}
use Rattle.cluster_model.specs.Cluster as mail_cluster
use Rattle.cluster_model.specs.Cluster.{CallKind, Ticket}
use Rattle.cluster_model.specs.Cluster.CallKind.{LoggingIn, Fetching}
use Rattle.cluster_model.specs.Progress.{NodeAnswer, Ask}
use Rattle.cluster_model.specs.Rules.{refuse, new_number, ticket_at}
use Rattle.cluster_model.specs.Thrown.{answers_ticket, with_stamps}
use Rattle.cluster_model.specs.Thrown.Why.{WhileDown, Stale, Late}
use Rattle.cluster_model.specs.Deeds as mail_deeds
use Rattle.cluster_model.specs.World as mail
use Rattle.cluster_model.specs.Steps as mail_steps
use Rattle.cluster_model.specs.Steps.{NodeCall, asked_of, fails_at_once}
use Rattle.cluster_model.specs.Steps.NodeCall.{Deliver, Login, Fetch, Strike, Leave}
use Rattle.cluster_model.specs.Steps.Step.{Begin, AskFor, GiveUp, Post, DropLetter}
use Rattle.cluster_model.specs.Steps.Said.{Begun, Noted, Asked, Heard, Thrown, Finished, Faulted}
use Rattle.cluster_model.specs.Makes as mail_makes
use Rattle.cluster_model.specs.Makes.{GoesOnReading, DrawsTicket, IsForReads, IsSaidOfReads}
use Rattle.cluster_model.proofs.Stepping.{flew}
use Rattle.whole_model.specs.Whole as whole_model
use Rattle.whole_world.specs.Steps.{Step, Said, StepOutcome}
use Rattle.whole_world.specs.Steps.Step.{OfMessages}
use Rattle.whole_world.specs.Steps.Said.{Told}
use Rattle.whole_world.specs.Steps.StepOutcome.{Says, Refused, NoMemory}
use Rattle.whole_world.specs.World.{FollowsAlong}
use Rattle.whole_world.specs.Makes as whole
use Rattle.whole_world.specs.Makes.DoesStep.{ForMessages}
use Rattle.whole_world.proofs.Keeping.{apart}
use Rattle.login_model.specs.Cluster as login
use Rattle.login_model.specs.Rules.{under, next_number, begin_read, begin_login, begin_fetch, end_read, give_up_read, leave}
use Rattle.login_model.specs.Progress.{ReadAnswer, ask_read}
use Rattle.login_model.specs.Progress.ReadAnswer.{Lists, Denies, Gives, Fails}
use Rattle.login_model.specs.Progress.ReadAsk.{Done}
use Rattle.login_model.proofs.Chances.{failures_count}
use Rattle.login_model.proofs.Hears as login_hears
use Rattle.login_model.proofs.Going.{login_goes, fetch_goes, give_up_goes, leave_goes, hears_goes}
use Rattle.joint_model.specs.Joint.{Node, Slot, slot_at, with_slot, slot_up, whole_slot, read_node, user_manager_in}
use Rattle.joint_model.proofs.Kept.{whole_here, read_here}
use Rattle.joint_world.specs.World.{World, reads_of, IsUp}
use Rattle.joint_world.specs.Rules.{Reaction, judged_here, ended}
use Rattle.joint_world.specs.Putting.{missed}
use Rattle.joint_world.specs.Asking.{AnswersAs}
use Rattle.joint_world.specs.Steps.{is_read_ticket, is_mail_ticket, stands_at}
use Rattle.joint_world.specs.Makes.{Does, refused, FailsFor, HasTicket, learnt, IsOfReads, BeginsRead, AnswersRead, GivesUpRead, PostsRead, DropsRead, DoesStep, MakesStep}
use Rattle.joint_world.specs.Makes.BeginsRead.{FailsAtOnce, BeginsLogin, BeginsFetch, FailsReading, Leaves}
use Rattle.joint_world.specs.Makes.AnswersRead.{Waits, Ends}
use Rattle.joint_world.specs.Makes.PostsRead.{NobodyUp, OfOtherEpoch, TooLate, IsHeard, FailsHearing}
use Rattle.joint_world.specs.Makes.DoesStep.{ForWhole, Begins, Asks, GivesUp, Posts, Drops}
use Rattle.joint_world.specs.Laws.{Stands}
use Rattle.joint_world.proofs.Along.{along_same, along_turn}
use Rattle.joint_world.proofs.Bodies.{read_is_mail}
use Rattle.joint_world.proofs.Holders.{counts_none, counts_some}
use Rattle.joint_world.proofs.Refusing.{fits_whole, refused_whole}
use Rattle.joint_world.proofs.Rules.{heard_by}
use Rattle.joint_world.proofs.Seeing.{W, M, nobody_seen, up_seen, written_seen, unwritten, Goes, does_goes, missed_goes, loses_goes, fallen_seen, fallen_follows}
use Rattle.joint_world.proofs.Views.{whole_set}

-- no mishap makes a call fail that reads, where there is an epoch and a holder
epoch_fits : (epoch : Bool) → epoch ≡ true → nat_lt 0 (mishaps_of (if epoch then no_mishaps else counted FewMembers no_mishaps)) ≡ false
epoch_fits epoch e = ap (λ (b : Bool). nat_lt 0 (mishaps_of (if b then no_mishaps else counted FewMembers no_mishaps))) e

module _ (plan : Plan) (tells : Bool) (story : List (List login.Slot)) (old : World) (stands : Stands plan tells story old) where
  abbrev Seen : Step → Said → World → Type 0
  Seen step said new = whole.DoesStep plan tells (W old) step said (W new)

  -- who has a manager of a user has an epoch
  epoch_known : (own : ℕ) (node : Node) (disk : List Record) → IsUp old own node disk → (user : List ℕ) (manager : ℕ) → (read_node tells node).manager user ≡ Some manager → is_some node.whole.mail.installed ≡ true
  epoch_known own node disk up user manager managed = ap is_some (stands.whole.one_epoch.each own (whole_slot (slot_up node disk)) (whole_here old.slots own (slot_up node disk) up) node.whole refl) ∙ by node.whole.maps.installed managed
    where
      by : (o : Option Membership) → user_manager_in user o ≡ Some manager → is_some o ≡ true
      by None e = absurd (cc e)
      by (Some g) e = refl

  module _ (own : ℕ) (new : World) where
    -- a call that fails at once
    module _ (node : Node) (disk : List Record) (kind : CallKind) (up : IsUp old own node disk) (is : new ≡ record old { slots = with_slot old.slots own (slot_up (refused kind node disk) disk) }) where
      abbrev now : Slot
      now = slot_up (refused kind node disk) disk

      mail_is : M new ≡ mail_makes.after (M old) own (refuse kind (counted FewMembers no_mishaps) 0 node.whole.mail disk)
      mail_is = ap M is ∙ written_seen old own now

      with_kind : (other : CallKind) → kind ≡ other → M new ≡ mail_makes.after (M old) own (refuse other (counted FewMembers no_mishaps) 0 node.whole.mail disk)
      with_kind other same = mail_is ∙ ap (λ (k : CallKind). mail_makes.after (M old) own (refuse k (counted FewMembers no_mishaps) 0 node.whole.mail disk)) same

      with_mishaps : (mishaps : Mishaps) → mishaps ≡ counted FewMembers no_mishaps → M new ≡ mail_makes.after (M old) own (refuse kind mishaps 0 node.whole.mail disk)
      with_mishaps mishaps same = mail_is ∙ ap (λ (m : Mishaps). mail_makes.after (M old) own (refuse kind m 0 node.whole.mail disk)) (sym same)

      follows : FollowsAlong (W old) (W new)
      follows = along_turn (W old) (W new) own node.whole disk (whole_here old.slots own (slot_up node disk) up) (whole_slot now) (ap (λ (w : World). (W w).slots) is ∙ whole_set old.slots own now)
          (λ b e. (ap (λ (n : whole_model.Node). n.maps) (sym (same (refused kind node disk).whole b e)), refl))
        where
          same : (a b : whole_model.Node) → whole_model.Life.Up a ≡ whole_model.Life.Up b → a ≡ b
          same a b e = cc

      fails_seen : (call : NodeCall) (said : Said) → FailsFor tells node call kind → said ≡ Told (Begun (new_number own node.whole.mail)) → Seen (OfMessages (Begin own call)) said new
      fails_seen (Login user proof) said (nobody, of) says = by node.whole.mail.installed refl
        where
          by : (o : Option Membership) → node.whole.mail.installed ≡ o → Seen (OfMessages (Begin own (Login user proof))) said new
          by None e = ForMessages (Begin own (Login user proof)) refl (Begun (new_number own node.whole.mail)) says tt
              (inl (mail_makes.BeginsCall.FailsAtOnce node.whole.mail disk kind (up_seen old own node disk up) (ap Some (sym of))
              (ap (λ (o : Option Membership). nat_lt 0 (mishaps_of (if is_some o then no_mishaps else counted FewMembers no_mishaps))) e) refl
              (with_mishaps (mail_steps.epoch_mishaps node.whole.mail) (ap (λ (o : Option Membership). if is_some o then no_mishaps else counted FewMembers no_mishaps) e))))
              follows
          by (Some g) e = ForMessages (Begin own (Login user proof)) refl (Begun (new_number own node.whole.mail)) says tt
              (inr (mail_makes.BeginsRead.HasNoManager node.whole.mail disk user proof (up_seen old own node disk up) refl (epoch_fits (is_some node.whole.mail.installed) (ap is_some e)) refl (with_kind LoggingIn of)))
              follows
      fails_seen (Fetch user id at most holders) said (nobody, of) says = ForMessages (Begin own (Fetch user id at most holders)) refl (Begun (new_number own node.whole.mail)) says tt
          (inl (mail_makes.BeginsCall.FailsAtOnce node.whole.mail disk kind (up_seen old own node disk up) (ap Some (sym of))
          (ap (λ (b : Bool). nat_lt 0 (mishaps_of (if b then counted FewMembers no_mishaps else no_mishaps))) none) refl
          (with_mishaps (mail_steps.holder_mishaps node.whole.mail holders) (ap (λ (b : Bool). if b then counted FewMembers no_mishaps else no_mishaps) none))))
          follows
        where
          none : nat_eq (count_in (asked_of node.whole.mail holders)) 0 ≡ true
          none = counts_none (asked_of node.whole.mail holders) nobody
      fails_seen call said fails says = absurd fails

    -- a ticket begins
    draws : (node : Node) (disk : List Record) → IsUp old own node disk → (call : NodeCall) → DrawsTicket call → fails_at_once plan old.seconds node.whole.mail call ≡ false → (said : Said) → said ≡ Told (Begun (new_number own node.whole.mail))
        → Goes old new (record (M old) { slots = mail_cluster.with_slot (M old).slots own (mail_deeds.slot_up (record node.whole.mail { calls = node.whole.mail.calls + 1 }) disk) })
        → Seen (OfMessages (Begin own call)) said new
    draws node disk up call of fits said says g = ForMessages (Begin own call) refl (Begun (new_number own node.whole.mail)) says tt
        (inr (mail_makes.BeginsRead.Draws node.whole.mail disk (up_seen old own node disk up) of fits refl g.goes)) g.follows

    begins_seen : (call : NodeCall) (said : Said) → BeginsRead plan tells old own call said new → Seen (OfMessages (Begin own call)) said new
    begins_seen call said (FailsAtOnce node disk kind up fails says is) = fails_seen node disk kind up is call said fails says
    begins_seen call said (BeginsLogin node disk user proof up is did l says does) = draws node disk up call (subst DrawsTicket (sym is) tt)
        (subst (λ (c : NodeCall). fails_at_once plan old.seconds node.whole.mail c ≡ false) (sym is) (epoch_fits (is_some node.whole.mail.installed) (epoch_known own node disk up user l.manager l.managed))) said says
        (does_goes tells old old refl own node node disk up refl
        (begin_read own (read_node tells node) (begin_login (under own (read_node tells node) (next_number own (read_node tells node))) user proof l.manager (judged_here plan tells own node user proof).word l.mine)) _
        (λ letter m. login_goes (under own (read_node tells node) (next_number own (read_node tells node))) user proof l.manager (judged_here plan tells own node user proof).word l.mine letter m)
        new (subst (λ (r : Reaction). Does tells old own disk r new) l.is does))
    begins_seen call said (BeginsFetch node disk user id at most holders up is did f says does) = draws node disk up call (subst DrawsTicket (sym is) tt)
        (subst (λ (c : NodeCall). fails_at_once plan old.seconds node.whole.mail c ≡ false) (sym is)
        (ap (λ (b : Bool). nat_lt 0 (mishaps_of (if b then counted FewMembers no_mishaps else no_mishaps))) (counts_some (asked_of node.whole.mail holders) f.some))) said says
        (does_goes tells old old refl own node node disk up refl
        (begin_read own (read_node tells node) (begin_fetch (under own (read_node tells node) (next_number own (read_node tells node))) user id at most (asked_of node.whole.mail holders) f.part)) _
        (λ letter m. fetch_goes (under own (read_node tells node) (next_number own (read_node tells node))) user id at most (asked_of node.whole.mail holders) f.part letter m)
        new (subst (λ (r : Reaction). Does tells old own disk r new) f.is does))
    begins_seen call said (FailsReading node disk user id at most holders up is own_holds says is_new) = ForMessages (Begin own call) refl (Faulted own) says tt
        (inr (mail_makes.BeginsRead.FailsReading node.whole.mail disk user id at most holders (up_seen old own node disk up) is own_holds refl (ap M is_new ∙ fallen_seen old own disk)))
        (fallen_follows old new own node disk up (ap (λ (w : World). (W w).slots) is_new))
    begins_seen call said (Leaves node disk user number manager up is says does) =
        let g = does_goes tells old old refl own node node disk up refl (leave own (read_node tells node) user number manager) _ (λ letter m. leave_goes own (read_node tells node) user number manager letter m) new does in
        ForMessages (Begin own call) refl Noted says tt
        (inr (mail_makes.BeginsRead.Leaves node.whole.mail disk user number manager (up_seen old own node disk up) is refl
        (subst (λ (v : mail.World). GoesOnReading v (M new)) (unwritten (M old) own node.whole.mail disk (up_seen old own node disk up)) g.goes)))
        g.follows

  -- a ticket of calls that read is none of messages
  for_reads : (number : Number) → is_read_ticket old number ≡ true → HasTicket old number → IsForReads (M old) number
  for_reads number of one = record {
    node = one.node.whole.mail;
    disk = one.disk;
    up = up_seen old number.node one.node one.disk one.up;
    boot = (login_hears.read_here number.node (read_node true one.node) number one.ticket one.here).boot;
    none = none_of (ticket_at number.node one.node.whole.mail (Some number)) (ap is_not (sym (ap (mail_steps.stands_at number) (up_seen old number.node one.node one.disk one.up)))
        ∙ (and_parts (stands_at number (slot_at old.slots number.node)) (not (is_mail_ticket old number)) of).1);
  }
    where
      is_not : Bool → Bool
      is_not b = not b

      none_of : (t : Option Ticket) → not (is_some t) ≡ true → t ≡ None
      none_of None e = refl
      none_of (Some ticket) e = absurd (true≢false (sym e))

  -- what an ask says that ends such a call
  said_of : (number : Number) (one : HasTicket old number) (answer : ReadAnswer) → ask_read one.ticket one.ticket.reading ≡ Done answer → (says : NodeAnswer) → AnswersAs number answer says → IsSaidOfReads (Asked (Ask.Done says))
  said_of number one (Lists manager named told) e says (items, merge, is) = subst (λ (a : NodeAnswer). IsSaidOfReads (Asked (Ask.Done a))) (sym is) tt
  said_of number one (Denies manager word) e says (found, denies, is) = subst (λ (a : NodeAnswer). IsSaidOfReads (Asked (Ask.Done a))) (sym is) tt
  said_of number one (Gives part) e says is = subst (λ (a : NodeAnswer). IsSaidOfReads (Asked (Ask.Done a))) (sym is) tt
  said_of number one (Fails mishaps) e says is = subst (λ (a : NodeAnswer). IsSaidOfReads (Asked (Ask.Done a))) (sym is)
      (failures_count (reads_of tells story old) stands.reads number.node (read_node tells one.node) one.disk (read_here tells old.slots number.node (slot_up one.node one.disk) one.up) number.seq one.ticket
      (login_hears.read_here number.node (read_node true one.node) number one.ticket one.here).here mishaps e)

  answers_seen : (number : Number) (said : Said) (new : World) → is_read_ticket old number ≡ true → AnswersRead tells old number said new → Seen (OfMessages (AskFor number)) said new
  answers_seen number said new of (Waits one got wanted e says is) = ForMessages (AskFor number) refl (Asked (Ask.Pending got wanted)) says tt
      (inr (record { of = for_reads number of one; said_is = tt; new_world = ap M is })) (along_same (W old) (W new) (ap (λ (w : World). (W w).slots) is))
  answers_seen number said new of (Ends one answer e what answers says does) = ForMessages (AskFor number) refl (Asked (Ask.Done what)) says tt
      (inr (record {
        of = for_reads number of one;
        said_is = said_of number one answer e what answers;
        new_world = ap M (sym (some_is turned new does.1)) ∙ written_seen old number.node now ∙ unwritten (M old) number.node one.node.whole.mail one.disk (up_seen old number.node one.node one.disk one.up);
      })) along
    where
      now : Slot
      now = slot_up (ended tells one.node number.seq).node one.disk

      turned : World
      turned = record old { slots = with_slot old.slots number.node now }

      some_is : (a b : World) → Some a ≡ Some b → a ≡ b
      some_is a b p = cc

      along : FollowsAlong (W old) (W new)
      along = (does_goes tells old old refl number.node one.node one.node one.disk one.up refl (end_read (read_node tells one.node) number.seq) _ (λ letter m. absurd m) new does).follows

  gives_up_seen : (number : Number) (said : Said) (new : World) → is_read_ticket old number ≡ true → GivesUpRead tells old number said new → Seen (OfMessages (GiveUp number)) said new
  gives_up_seen number said new of g =
      let one = g.one in
      let up = up_seen old number.node one.node one.disk one.up in
      let goes = does_goes tells old old refl number.node one.node one.node one.disk one.up refl (give_up_read number.node (read_node tells one.node) number one.ticket.reading) _
      (λ letter m. give_up_goes (under number.node (read_node tells one.node) number) one.ticket.reading letter m) new g.does in
      ForMessages (GiveUp number) refl Finished g.said_is tt
      (inr (record { of = for_reads number of one; said_is = refl; goes_on = subst (λ (v : mail.World). GoesOnReading v (M new)) (unwritten (M old) number.node one.node.whole.mail one.disk up) goes.goes })) goes.follows

  posts_seen : (number : ℕ) (keep : Bool) (said : Said) (new : World) → IsOfReads old number → PostsRead plan tells old number keep said new → Seen (OfMessages (Post number keep)) said new
  posts_seen number keep said new of_reads (NobodyUp flies of nobody says loses) =
      let g = loses_goes tells old DownKind number flies keep new loses in
      ForMessages (Post number keep) refl (Thrown WhileDown) says (λ f node disk up fresh. read_is_mail f.letter.body (of_reads f))
      (inr (mail_makes.PostsRead.NobodyUp flies of (nobody_seen old flies.letter.to nobody) refl g.goes)) g.follows
  posts_seen number keep said new of_reads (OfOtherEpoch flies node disk of up stale says loses) =
      let g = loses_goes tells old StaleKind number flies keep new loses in
      ForMessages (Post number keep) refl (Thrown Stale) says (λ f node disk up fresh. read_is_mail f.letter.body (of_reads f))
      (inr (mail_makes.PostsRead.OfOtherEpoch flies node.whole.mail disk of (up_seen old flies.letter.to node disk up) stale refl g.goes)) g.follows
  posts_seen number keep said new of_reads (TooLate flies node disk of up fresh late says is) =
      ForMessages (Post number keep) refl (Thrown Late) says (λ f node disk up fresh. read_is_mail f.letter.body (of_reads f))
      (inr (mail_makes.PostsRead.TooLate flies node.whole.mail disk of (up_seen old flies.letter.to node disk up) fresh (and_parts (answers_ticket flies.letter.body) _ late).0 refl (ap M is)))
      (along_same (W old) (W new) (ap (λ (w : World). (W w).slots) is))
  posts_seen number keep said new of_reads (IsHeard flies node disk of up fresh in_time says did hears does) =
      let h = heard_by plan tells flies.letter.to (learnt node flies.letter.body) disk flies.letter flies.letter.body did hears in
      let less : World = record old { flying = mail.flies_on (M old) number flies keep } in
      let g = does_goes tells old less refl flies.letter.to node (learnt node flies.letter.body) disk up refl h.rule h.locks
      (λ letter m. hears_goes plan flies.letter.to (read_node tells (learnt node flies.letter.body)) disk flies.letter h.rule refl (apart plan (W old) stands.whole flies.letter (flew (M old) number flies)) h.hears letter m)
      new (subst (λ (r : Reaction). Does tells less flies.letter.to disk r new) h.is does) in
      ForMessages (Post number keep) refl Heard says (λ f node disk up fresh. read_is_mail f.letter.body (of_reads f))
      (inr (mail_makes.PostsRead.IsHeard flies node.whole.mail disk of (up_seen old flies.letter.to node disk up) fresh refl
      (subst (λ (c : ℕ). GoesOnReading (record (M less) { slots = mail_cluster.with_slot (M old).slots flies.letter.to (mail_deeds.slot_up (record (with_stamps flies.letter.body node.whole.mail) { calls = c }) disk) }) (M new)) h.calls g.goes)))
      g.follows
  posts_seen number keep said new of_reads (FailsHearing flies node disk of up fresh says down is puts) =
      let m = missed_goes tells Disk down.slots flies.letter (record down { slots = (missed tells Disk down.slots flies.letter).slots }) new refl puts in
      ForMessages (Post number keep) refl (Faulted flies.letter.to) says (λ f node disk up fresh. read_is_mail f.letter.body (of_reads f))
      (inr (mail_makes.PostsRead.FailsForReads flies node.whole.mail disk of (up_seen old flies.letter.to node disk up) fresh refl
      (subst (λ (v : mail.World). GoesOnReading v (M new)) (ap M is ∙ ap (λ (v : mail.World). record v { flying = mail.flies_on (M old) number flies keep }) (fallen_seen old flies.letter.to disk)) m.0)))
      (fallen_follows old new flies.letter.to node disk up (m.1 ∙ ap (λ (w : World). (W w).slots) is))

  drops_seen : (number : ℕ) (said : Said) (new : World) → DropsRead tells old number said new → Seen (OfMessages (DropLetter number)) said new
  drops_seen number said new d =
      let g = loses_goes tells old Dropped number d.flies false new d.loses in
      ForMessages (DropLetter number) refl Finished d.said_is tt (inr (record { flies = d.flies; read = d.read; said_is = refl; goes_on = g.goes })) g.follows

  at_step : (step one : Step) (said : Said) (new : World) → step ≡ one → Seen one said new → Seen step said new
  at_step step one said new is s = subst (λ (x : Step). Seen x said new) (sym is) s

  does_seen : (step : Step) (said : Said) (new : World) → DoesStep plan tells old step said new → Seen step said new
  does_seen step said new (ForWhole of made stay) = made.1
  does_seen step said new (Begins n call is b) = at_step step (OfMessages (Begin n call)) said new is (begins_seen n new call said b)
  does_seen step said new (Asks number is of a) = at_step step (OfMessages (AskFor number)) said new is (answers_seen number said new of a)
  does_seen step said new (GivesUp number is of g) = at_step step (OfMessages (GiveUp number)) said new is (gives_up_seen number said new of g)
  does_seen step said new (Posts number keep is of p) = at_step step (OfMessages (Post number keep)) said new is (posts_seen number keep said new of p)
  does_seen step said new (Drops number is d) = at_step step (OfMessages (DropLetter number)) said new is (drops_seen number said new d)

  pub makes_same : (step : Step) (outcome : StepOutcome) (new : World) → MakesStep plan tells old step outcome new → whole.MakesStep plan tells (W old) step outcome (W new)
  makes_same step (Says said) new m = (fits_whole plan old step m.0, does_seen step said new m.1)
  makes_same step (Refused fault) new m = (refused_whole plan old step fault m.0, ap W m.1)
  makes_same step (NoMemory None) new m = ap W m
  makes_same step (NoMemory (Some n)) new m = m.runs
