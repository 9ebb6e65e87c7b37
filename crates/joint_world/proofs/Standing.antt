-- Whatever steps are made, all that stands goes on standing.
use Rattle.std.proofs.Common.{◌≡◌, inl, inr, ⊎_elim, ℕ, arith, Bool, true, false, not, ◌&&◌, List, [], ◌∷◌, ◌++◌, append-nil, append_assoc, map, Option, Some, None, is_some, refl, sym, ap, ◌∙◌, subst, true≢false}
use Rattle.mail_model.specs.Plan.{Plan}
use Rattle.mail_model.specs.Record.{Record}
use Rattle.object_model.specs.Lists.{Among}
use Rattle.object_model.specs.Mishaps.{MishapKind}
use Rattle.object_model.specs.Mishaps.MishapKind.{Dropped, Stale as StaleKind, Down as DownKind, Disk}
use Rattle.object_model.specs.Letters.{Number, ToldItem, Body, Letter, is_read_body}
use Rattle.object_model.specs.Letters.Body.{LoginAsk, LoginTold, ListAsk, ListTold, FetchAsk, FetchTold, Unlock}
use Rattle.object_model.proofs.Lists.{same_some}
use Rattle.cluster_model.specs.Cluster as mail_cluster
use Rattle.cluster_model.specs.Cluster.{CallKind}
use Rattle.cluster_model.specs.Steps.{NodeCall, asked_of}
use Rattle.cluster_model.specs.Thrown.{answers_ticket}
use Rattle.cluster_model.specs.World as mail
use Rattle.cluster_model.specs.World.{letters_of}
use Rattle.cluster_model.proofs.Stepping.{flew}
use Rattle.whole_model.specs.Whole as whole_model
use Rattle.whole_world.specs.World as whole_world
use Rattle.whole_world.specs.Steps.{Step, Said, StepOutcome}
use Rattle.whole_world.specs.Steps.Step.{OfMessages, OpenGroup, ConcludeGroup, ReportTo}
use Rattle.whole_world.specs.Steps.StepOutcome.{Says, Refused, NoMemory}
use Rattle.whole_world.specs.Makes as whole_makes
use Rattle.whole_world.specs.Makes.{MadeStep}
use Rattle.whole_world.specs.Seen.{step_seen, outcome_seen}
use Rattle.whole_world.proofs.Keeping.{apart}
use Rattle.whole_world.proofs.Stepping.{makes_stand}
use Rattle.whole_world.proofs.Projecting.{makes_seen}
use Rattle.login_model.specs.Cluster as login
use Rattle.login_model.specs.Readings.{ReadTicket}
use Rattle.login_model.specs.Rules.{idle, under, next_number, begin_read, begin_login, begin_fetch, hear_told, told_at, read_at, end_read, give_up_read, leave}
use Rattle.login_model.specs.Progress.{ask_read}
use Rattle.login_model.specs.Progress.ReadAsk.{Pending}
use Rattle.login_model.specs.Facts.{IsReadBody, NodesWait}
use Rattle.login_model.specs.Moves as login_moves
use Rattle.login_model.specs.NodeLaws as login_laws
use Rattle.login_model.specs.NodeLaws.{HasMine}
use Rattle.login_model.proofs.Asking.{pending_waits}
use Rattle.login_model.proofs.Hears as login_hears
use Rattle.login_model.proofs.Hears.{hears_acts}
use Rattle.login_model.proofs.Begins.{login_acts, fetch_acts, end_acts, give_up_acts, leave_acts}
use Rattle.login_model.proofs.Others.{other_acts}
use Rattle.login_model.proofs.Lost.{heard_may}
use Rattle.joint_model.specs.Joint.{Node, Slot, slot_at, with_slot, slot_up, whole_slot, read_node, read_slot}
use Rattle.joint_model.specs.Moves as joint_moves
use Rattle.joint_model.proofs.Kept.{read_here, read_set}
use Rattle.joint_model.proofs.Settled.{read_back}
use Rattle.joint_world.specs.World.{World, cluster_of, whole_world_of, mail_world_of, reads_of, IsUp}
use Rattle.joint_world.specs.Rules.{Reaction, judged_here}
use Rattle.joint_world.specs.Putting.{missed, Puts}
use Rattle.joint_world.specs.Staying.{IsForMail, IsForWhole, ReadsStay}
use Rattle.joint_world.specs.Makes.{Does, Loses, refused, fallen, HasTicket, learnt, is_late_read, BeginsRead, AnswersRead, GivesUpRead, PostsRead, DoesStep, MakesStep, MakesAll}
use Rattle.joint_world.specs.Makes.BeginsRead.{FailsAtOnce, BeginsLogin, BeginsFetch, FailsReading, Leaves}
use Rattle.joint_world.specs.Makes.AnswersRead.{Waits, Ends}
use Rattle.joint_world.specs.Makes.PostsRead.{NobodyUp, OfOtherEpoch, TooLate, IsHeard, FailsHearing}
use Rattle.joint_world.specs.Makes.DoesStep.{ForWhole, Begins, Asks, GivesUp, Posts, Drops}
use Rattle.joint_world.specs.Laws.{TellAlike, IsFront, HasFronts, Stands, HasGrown}
use Rattle.joint_world.proofs.Bodies.{read_body}
use Rattle.joint_world.proofs.Calm.{IsCalm, grows_in}
use Rattle.joint_world.proofs.CalmSteps.{makes_calm}
use Rattle.joint_world.proofs.Views.{mail_at, mail_back, login_same, alike_more, SameDisks, disks_self, disks_on, disks_write, OfDisks, of_disks, of_disks_on}
use Rattle.joint_world.proofs.Beside.{is_beside, besides}
use Rattle.joint_world.proofs.Rules.{alone_self, begins_alone, ends_alone, word_here, heard_by}
use Rattle.joint_world.proofs.Reading.{Kept, left_of, others_of, does_sound, heard_sound, lost_sound, fell_sound}
use Rattle.joint_world.proofs.SameStep.{makes_same}
use Rattle.joint_world.proofs.Since.{Keeps, Going, going_self, going_on, all_going, beside_keeps}

-- a letter that is late is heard by the rule that does nothing
module _ (plan : Plan) (tells : Bool) (own : ℕ) (node : Node) (disk : List Record) (letter : Letter) where
  abbrev seen : login.Node
  seen = read_node tells node

  read_same : (t : Option Number) → read_at own (read_node true node) t ≡ read_at own seen t
  read_same None = refl
  read_same (Some number) = refl

  told_none : (mine : List ToldItem) → read_at own seen letter.ticket ≡ None → hear_told own seen letter mine ≡ idle seen
  told_none mine none = ap (told_at own seen letter mine letter.ticket) none ∙ by letter.ticket
    where
      by : (t : Option Number) → told_at own seen letter mine t None ≡ idle seen
      by None = refl
      by (Some number) = refl

  none_of : (r : Option ReadTicket) → not (is_some r) ≡ true → r ≡ None
  none_of None e = refl
  none_of (Some ticket) e = absurd (true≢false (sym e))

  late_none : (b : Bool) → (b && not (is_some (read_at own (read_node true node) letter.ticket))) ≡ true → read_at own seen letter.ticket ≡ None
  late_none true e = sym (read_same letter.ticket) ∙ none_of (read_at own (read_node true node) letter.ticket) e
  late_none false e = absurd (true≢false (sym e))

  unanswered : false ≡ true → ⊥
  unanswered e = true≢false (sym e)

  pub late_hears : (body : Body) → IsReadBody body → (answers_ticket body && not (is_some (read_at own (read_node true node) letter.ticket))) ≡ true → login_laws.Hears plan own seen disk letter body (idle seen)
  late_hears (LoginTold word) of late =
      let none = late_none true late in
      ([], (λ login_ ticket e. absurd (none_some (read_at own seen letter.ticket) ticket none e)), sym (told_none [] none))
    where
      none_some : (o : Option ReadTicket) (x : ReadTicket) → o ≡ None → o ≡ Some x → ⊥
      none_some o x p q = cc
  late_hears (ListTold items) of late = sym (told_none [] (late_none true late))
  late_hears (FetchTold part) of late = sym (told_none [] (late_none true late))
  late_hears (LoginAsk user proof) of late = absurd (unanswered late)
  late_hears (ListAsk user) of late = absurd (unanswered late)
  late_hears (FetchAsk user id at most) of late = absurd (unanswered late)
  late_hears (Unlock user number) of late = absurd (unanswered late)
  late_hears body of late = absurd of

module _ (plan : Plan) (tells : Bool) (old : World) where
  abbrev W : World → whole_world.World
  W w = whole_world_of w

  module _ (story : List (List login.Slot)) (stands : Stands plan tells story old) where
    abbrev R : List (List login.Slot) → World → login.Cluster
    R s w = reads_of tells s w

    abbrev pub Base : List login.Slot
    Base = map (read_slot tells) old.slots

    starts : Going Base (R story old)
    starts = going_self (R story old) stands.reads

    abbrev Goal : World → Type 0
    Goal new = Kept Base tells story old new

    same_sound : (new : World) → new ≡ old → Goal new
    same_sound new is = record {
      grown = record { now = story; alike = stands.alike; grows = λ moment m. m; disks = λ moment m. inl m; holds = subst (λ (w : World). Going Base (R story w)) (sym is) starts };
      disks = subst (λ (w : World). SameDisks old.slots w.slots) (sym is) (disks_self old.slots);
    }

    -- a call that fails at once
    refused_sound : (own : ℕ) (node : Node) (disk : List Record) (kind : CallKind) → IsUp old own node disk → Goal (record old { slots = with_slot old.slots own (slot_up (refused kind node disk) disk) })
    refused_sound own node disk kind up = record {
      grown = record {
        now = map (read_slot tells) turned ∷ story;
        alike = alike_more tells story turned stands.alike;
        grows = λ moment m. inr m;
        disks = λ moment m. ⊎_elim (λ e. inr (subst (OfDisks old.slots) e (of_disks tells old.slots turned same))) (λ stood. inl stood) m;
        holds = subst (λ (x : List login.Slot). Going Base (record { slots = x; flying = letters_of old.flying; story = x ∷ story })) (sym (read_set tells old.slots own now))
            (subst (λ (f : List Letter). Going Base (record { slots = login.with_slot (map (read_slot tells) old.slots) own (read_slot tells now); flying = f; story = login.with_slot (map (read_slot tells) old.slots) own (read_slot tells now) ∷ story }))
            (append-nil (letters_of old.flying))
            (going_on Base (login_moves.Move.Acted act) (R story old) (read_here tells old.slots own (slot_up node disk) up, (λ ready. (acts ready).is), λ letter e. absurd (cc e)) starts));
      };
      disks = same;
    }
      where
        now : Slot
        now = slot_up (refused kind node disk) disk

        turned : List Slot
        turned = with_slot old.slots own now

        same : SameDisks old.slots turned
        same = disks_write old.slots own (slot_up node disk) now up refl

        act : login_moves.NodeAct
        act = record { node = own; before = login.slot_up (read_node tells node) disk; after = login.slot_up (read_node tells (refused kind node disk)) disk; heard = None; out = [] }

        acts : login_moves.IsReady own (login.slot_up (read_node tells node) disk) None → login_moves.IsCallDone act
        acts ready = other_acts own (read_node tells node) (read_node tells (refused kind node disk)) disk disk None [] refl (omega arith) refl refl (λ letter e. absurd (cc e)) (λ letter m. absurd m) ready

    begins_sound : (own : ℕ) (call : NodeCall) (said : Said) (new : World) → BeginsRead plan tells old own call said new → Goal new
    begins_sound own call said new (FailsAtOnce node disk kind up fails says is) = subst Goal (sym is) (refused_sound own node disk kind up)
    begins_sound own call said new (BeginsLogin node disk user proof up is did l says does) = does_sound tells Base story old stands.alike starts own node disk up
        (begin_read own (read_node tells node) (begin_login (under own (read_node tells node) (next_number own (read_node tells node))) user proof l.manager (judged_here plan tells own node user proof).word l.mine)) _
        (begins_alone own (read_node tells node) (begin_login (under own (read_node tells node) (next_number own (read_node tells node))) user proof l.manager (judged_here plan tells own node user proof).word l.mine))
        (λ ready. login_acts plan own (read_node tells node) disk user proof l.manager (judged_here plan tells own node user proof).word l.mine l.managed
        (λ at. word_here plan (read_node tells node) user proof (next_number own (read_node tells node)) node.locks) l.lists ready)
        new (subst (λ (r : Reaction). Does tells old own disk r new) l.is does)
    begins_sound own call said new (BeginsFetch node disk user id at most holders up is did f says does) = does_sound tells Base story old stands.alike starts own node disk up
        (begin_read own (read_node tells node) (begin_fetch (under own (read_node tells node) (next_number own (read_node tells node))) user id at most (asked_of node.whole.mail holders) f.part)) _
        (begins_alone own (read_node tells node) (begin_fetch (under own (read_node tells node) (next_number own (read_node tells node))) user id at most (asked_of node.whole.mail holders) f.part))
        (λ ready. fetch_acts own (read_node tells node) disk user id at most (asked_of node.whole.mail holders) f.part f.some f.says ready)
        new (subst (λ (r : Reaction). Does tells old own disk r new) f.is does)
    begins_sound own call said new (FailsReading node disk user id at most holders up is own_holds says is_new) = subst Goal (sym is_new) (fell_sound tells Base story old stands.alike starts own node disk up)
    begins_sound own call said new (Leaves node disk user number manager up is says does) = does_sound tells Base story old stands.alike starts own node disk up
        (leave own (read_node tells node) user number manager) _ (alone_self (read_node tells node)) (λ ready. leave_acts own (read_node tells node) disk ready user number manager) new does

    answers_sound : (number : Number) (said : Said) (new : World) → AnswersRead tells old number said new → Goal new
    answers_sound number said new (Waits one got wanted e says is) = same_sound new is
    answers_sound number said new (Ends one answer e what answers says does) = does_sound tells Base story old stands.alike starts number.node one.node one.disk one.up
        (end_read (read_node tells one.node) number.seq) _ (ends_alone (read_node tells one.node) number.seq) (λ ready. end_acts number.node (read_node tells one.node) one.disk ready number.seq) new does

    pub answers_disks : (number : Number) (said : Said) (new : World) → AnswersRead tells old number said new → SameDisks old.slots new.slots
    answers_disks number said new a = (answers_sound number said new a).disks

    gives_up_sound : (number : Number) (said : Said) (new : World) → GivesUpRead tells old number said new → Goal new
    gives_up_sound number said new g = does_sound tells Base story old stands.alike starts number.node g.one.node g.one.disk g.one.up
        (give_up_read number.node (read_node tells g.one.node) number g.one.ticket.reading) _ (ends_alone (read_node tells g.one.node) number.seq)
        (λ ready. give_up_acts number.node (read_node tells g.one.node) g.one.disk ready number g.one.ticket.reading) new g.does

    loses_sound : (kind : MishapKind) (number : ℕ) (flies : mail.Flies (mail_world_of old) number) (keep : Bool) (new : World) → Loses tells kind old number flies keep new → Goal new
    loses_sound kind number flies keep new loses = lost_sound tells Base story old stands.alike starts kind flies.letter (letters_of (mail.flies_on (mail_world_of old) number flies keep))
        (flew (mail_world_of old) number flies) (λ one m. left_of old number flies keep one m) (λ one m. others_of old number flies keep one m)
        (record old { slots = (missed tells kind old.slots flies.letter).slots; flying = mail.flies_on (mail_world_of old) number flies keep }) refl refl new loses

    -- a letter that is late
    late_sound : (number : ℕ) (flies : mail.Flies (mail_world_of old) number) (keep : Bool) (node : Node) (disk : List Record) → IsUp old flies.letter.to node disk → is_read_body flies.letter.body ≡ true
        → is_late_read flies.letter.to node flies.letter ≡ true → Goal (record old { flying = mail.flies_on (mail_world_of old) number flies keep })
    late_sound number flies keep node disk up of late = record {
      grown = record {
        now = map (read_slot tells) old.slots ∷ story;
        alike = alike_more tells story old.slots stands.alike;
        grows = λ moment m. inr m;
        disks = λ moment m. ⊎_elim (λ e. inr (subst (OfDisks old.slots) e (of_disks tells old.slots old.slots (disks_self old.slots)))) (λ stood. inl stood) m;
        holds = subst (λ (x : List login.Slot). Going Base (record { slots = x; flying = flying; story = x ∷ story })) (login_same (map (read_slot tells) old.slots) own (login.slot_up (read_node tells node) disk) there)
            (subst (λ (f : List Letter). Going Base (record {
              slots = login.with_slot (map (read_slot tells) old.slots) own (login.slot_up (read_node tells node) disk);
              flying = f;
              story = login.with_slot (map (read_slot tells) old.slots) own (login.slot_up (read_node tells node) disk) ∷ story;
            })) (append-nil flying)
            (all_going Base (R story old) (login_moves.Move.Acted act ∷ login_moves.Move.Taken flies.letter (flying ++ []) ∷ [])
            (heard_may (R story old) stands.reads act flies.letter flying there refl (flew (mail_world_of old) number flies) refl
            (λ ready. hears_acts plan own (read_node tells node) disk flies.letter (idle (read_node tells node)) (late_hears plan tells own node disk flies.letter flies.letter.body (read_body flies.letter.body of) late) ready)
            (λ one m. left_of old number flies keep one m) (λ one m. others_of old number flies keep one m)) starts));
      };
      disks = disks_self old.slots;
    }
      where
        own : ℕ
        own = flies.letter.to

        flying : List Letter
        flying = letters_of (mail.flies_on (mail_world_of old) number flies keep)

        there : login.slot_at (map (read_slot tells) old.slots) own ≡ Some (login.slot_up (read_node tells node) disk)
        there = read_here tells old.slots own (slot_up node disk) up

        act : login_moves.NodeAct
        act = login_laws.act_of own (read_node tells node) disk (idle (read_node tells node)) (Some flies.letter)

    posts_sound : (number : ℕ) (keep : Bool) (said : Said) (new : World) → PostsRead plan tells old number keep said new → Goal new
    posts_sound number keep said new (NobodyUp flies of nobody says loses) = loses_sound DownKind number flies keep new loses
    posts_sound number keep said new (OfOtherEpoch flies node disk of up stale says loses) = loses_sound StaleKind number flies keep new loses
    posts_sound number keep said new (TooLate flies node disk of up fresh late says is) = subst Goal (sym is) (late_sound number flies keep node disk up of late)
    posts_sound number keep said new (IsHeard flies node disk of up fresh in_time says did hears does) =
        let h = heard_by plan tells flies.letter.to (learnt node flies.letter.body) disk flies.letter flies.letter.body did hears in
        heard_sound tells Base story old stands.alike starts number flies keep node disk up flies.letter.body h.rule h.locks h.alone
        (λ ready. hears_acts plan flies.letter.to (read_node tells node) disk flies.letter h.rule h.hears ready)
        new (subst (λ (r : Reaction). Does tells (record old { flying = mail.flies_on (mail_world_of old) number flies keep }) flies.letter.to disk r new) h.is does)
    posts_sound number keep said new (FailsHearing flies node disk of up fresh says down is puts) =
        let fell = fell_sound tells Base story old stands.alike starts flies.letter.to node disk up in
        let first : World = fallen old flies.letter.to disk in
        let slots : down.slots ≡ first.slots = ap (λ (w : World). w.slots) is in
        let g = lost_sound tells Base fell.grown.now first fell.grown.alike fell.grown.holds Disk flies.letter (letters_of (mail.flies_on (mail_world_of old) number flies keep))
        (flew (mail_world_of old) number flies) (λ one m. left_of old number flies keep one m) (λ one m. others_of old number flies keep one m)
        (record down { slots = (missed tells Disk down.slots flies.letter).slots }) (ap (λ (s : List Slot). (missed tells Disk s flies.letter).slots) slots) (ap (λ (w : World). letters_of w.flying) is) new
        (subst (λ (s : List Slot). Puts tells (missed tells Disk s flies.letter).out (record down { slots = (missed tells Disk down.slots flies.letter).slots }) new) slots puts) in
        record {
          grown = record {
            now = g.grown.now;
            alike = g.grown.alike;
            grows = λ moment m. g.grown.grows moment (fell.grown.grows moment m);
            disks = λ moment m. ⊎_elim (λ inside. fell.grown.disks moment inside) (λ of_. inr (of_disks_on old.slots first.slots moment fell.disks of_)) (g.grown.disks moment m);
            holds = g.grown.holds;
          };
          disks = disks_on old.slots first.slots new.slots fell.disks g.disks;
        }

    -- a step of the whole machine
    for_seen : (one : Step) → IsForWhole old one → IsForMail (mail_world_of old) (step_seen one)
    for_seen (OfMessages step) of = of
    for_seen (OpenGroup n) of = tt
    for_seen (ConcludeGroup n) of = tt
    for_seen (ReportTo from to) of = tt

    -- a longer story of the new world
    record Story (new : World) : Type 0 where
      now : List (List login.Slot)
      alike : TellAlike tells now
      grows : HasGrown story now
      holds : Going Base (R now new)
      fronts : HasFronts now new.slots

    kept_story : (new : World) → Goal new → Story new
    kept_story new k = record {
      now = k.grown.now;
      alike = k.grown.alike;
      grows = k.grown.grows;
      holds = k.grown.holds;
      fronts = λ moment m n slot at. ⊎_elim
          (λ was.
          let f = stands.fronts moment was n slot at in
          let there = k.disks.stays n f.0 f.1 in
          (there.0, there.1, record { rest = f.2.rest; is = there.2 ∙ f.2.is }))
          (λ of_.
          let was = of_ n slot at in
          let there = k.disks.stays n was.0 was.1 in
          (there.0, there.1, record { rest = []; is = there.2 ∙ sym was.2 ∙ sym (append-nil slot.disk) }))
          (k.grown.disks moment m);
    }

    whole_sound : (one : Step) (outcome : StepOutcome) (new : World) → IsForWhole old one → whole_makes.MakesStep plan tells (W old) one outcome (W new) → ReadsStay old new → Story new
    whole_sound one outcome new of made stay = record {
      now = map (read_slot tells) new.slots ∷ story;
      alike = alike_more tells story new.slots stands.alike;
      grows = λ moment m. inr m;
      holds = record {
        sound = besides tells story old new calm stay stands.reads;
        since = beside_keeps (R story old) (R (map (read_slot tells) new.slots ∷ story) new) stands.reads.order (is_beside tells story old new calm stay);
      };
      fronts = λ moment m n slot at. ⊎_elim
          (λ e. itself n slot (subst (λ (s : List login.Slot). login.slot_at s n ≡ Some slot) (sym e) at))
          (λ was. grown n slot (stands.fronts moment was n slot at))
          m;
    }
      where
        calm : IsCalm (mail_world_of old) (mail_world_of new)
        calm = makes_calm (mail_world_of old) (λ n slot at. stands.whole.sound.mail.order.each n slot at) (λ letter m same. apart plan (W old) stands.whole letter m same) (mail_world_of new)
            plan tells (step_seen one) (outcome_seen outcome) (for_seen one of) (makes_seen plan tells (W old) (W new) one outcome made)

        itself : (n : ℕ) (slot : login.Slot) → login.slot_at (map (read_slot tells) new.slots) n ≡ Some slot → (now : Slot) × (slot_at new.slots n ≡ Some now) × IsFront slot.disk now.disk
        itself n slot at =
            let r = read_back tells new.slots n slot at in
            (r.0, r.1, record { rest = []; is = ap (λ (x : login.Slot). x.disk) r.2 ∙ sym (append-nil slot.disk) })

        grown : (n : ℕ) (slot : login.Slot) → (was : Slot) × (slot_at old.slots n ≡ Some was) × IsFront slot.disk was.disk → (now : Slot) × (slot_at new.slots n ≡ Some now) × IsFront slot.disk now.disk
        grown n slot (was, here, front) =
            let there = calm.stays n (whole_model.mail_slot (whole_slot was)) (mail_at old n was here) in
            let now = mail_back new n there.0 there.1 in
            let t = calm.turns n there.0 there.1 in
            let same : t.0 ≡ whole_model.mail_slot (whole_slot was) = same_some (mail_cluster.slot_at (mail_world_of old).slots n) t.0 (whole_model.mail_slot (whole_slot was)) t.1 (mail_at old n was here) in
            let g = grows_in t.0 there.0 t.2 in
            let disk : now.0.disk ≡ was.disk ++ g.rest = ap (λ (x : mail_cluster.Slot). x.disk) now.2 ∙ g.is ∙ ap (λ (x : mail_cluster.Slot). x.disk ++ g.rest) same in
            (now.0, now.1, record { rest = front.rest ++ g.rest; is = disk ∙ ap (λ (d : List Record). d ++ g.rest) front.is ∙ append_assoc slot.disk front.rest g.rest })

    does_step_sound : (step : Step) (said : Said) (new : World) → DoesStep plan tells old step said new → Story new
    does_step_sound step said new (ForWhole for_whole made stay) = whole_sound step (Says said) new for_whole made stay
    does_step_sound step said new (Begins n call is b) = kept_story new (begins_sound n call said new b)
    does_step_sound step said new (Asks number is stands_ a) = kept_story new (answers_sound number said new a)
    does_step_sound step said new (GivesUp number is stands_ g) = kept_story new (gives_up_sound number said new g)
    does_step_sound step said new (Posts number keep is of p) = kept_story new (posts_sound number keep said new p)
    does_step_sound step said new (Drops number is d) = kept_story new (loses_sound Dropped number d.flies false new d.loses)

    makes_sound : (step : Step) (outcome : StepOutcome) (new : World) → MakesStep plan tells old step outcome new → Story new
    makes_sound step (Says said) new m = does_step_sound step said new m.1
    makes_sound step (Refused fault) new m = kept_story new (same_sound new m.1)
    makes_sound step (NoMemory None) new m = kept_story new (same_sound new m)
    makes_sound step (NoMemory (Some n)) new m = whole_sound step (NoMemory (Some n)) new m.for_whole m.runs m.stay

    -- each ticket that was drawn is one of the same subject
    pub makes_since : (step : Step) (outcome : StepOutcome) (new : World) → MakesStep plan tells old step outcome new → Keeps (map (read_slot tells) old.slots) (map (read_slot tells) new.slots)
    makes_since step outcome new m = (makes_sound step outcome new m).holds.since

    pub makes_all_stand : (step : Step) (outcome : StepOutcome) (new : World) → MakesStep plan tells old step outcome new → (grown : List (List login.Slot)) × Stands plan tells grown new × HasGrown story grown
    makes_all_stand step outcome new m =
        let g = makes_sound step outcome new m in
        (g.now, record { whole = makes_stand plan (W old) stands.whole tells step outcome (W new) (makes_same plan tells story old stands step outcome new m); reads = g.holds.sound; alike = g.alike; fronts = g.fronts }, g.grows)

pub all_stand : (plan : Plan) (tells : Bool) (old new : World) (steps : List MadeStep) (story : List (List login.Slot)) → MakesAll plan tells old steps new → Stands plan tells story old
    → (grown : List (List login.Slot)) × Stands plan tells grown new × HasGrown story grown
all_stand plan tells old new [] story is stands = (story, subst (Stands plan tells story) (sym is) stands, λ moment m. m)
all_stand plan tells old new (made ∷ steps) story (mid, first, more) stands =
    let a = makes_all_stand plan tells old story stands made.step made.outcome mid first in
    let b = all_stand plan tells mid new steps a.0 more a.1 in
    (b.0, b.1, λ moment m. b.2 moment (a.2 moment m))

pub all_same : (plan : Plan) (tells : Bool) (story : List (List login.Slot)) (old new : World) (steps : List MadeStep) → MakesAll plan tells old steps new → Stands plan tells story old
    → whole_makes.MakesAll plan tells (whole_world_of old) steps (whole_world_of new)
all_same plan tells story old new [] is stands = ap whole_world_of is
all_same plan tells story old new (made ∷ steps) (mid, first, more) stands =
    let a = makes_all_stand plan tells old story stands made.step made.outcome mid first in
    (whole_world_of mid, makes_same plan tells story old stands made.step made.outcome mid first, all_same plan tells a.0 mid new steps more a.1)

pub is_sound : (plan : Plan) (tells : Bool) (story : List (List login.Slot)) (w : World) → Stands plan tells story w → joint_moves.Sound plan.confirm (cluster_of tells story w)
is_sound plan tells story w stands = record { whole = stands.whole.sound; reads = stands.reads }

-- a call that is pending waits for somebody, and a letter of it flies
pub pending_flies : (plan : Plan) (tells : Bool) (story : List (List login.Slot)) (w : World) → Stands plan tells story w → (number : Number) (one : HasTicket w number)
    → (got wanted : ℕ) → ask_read one.ticket one.ticket.reading ≡ Pending got wanted → (letter : Letter) × Among letter (letters_of w.flying) × (letter.ticket ≡ Some number)
pending_flies plan tells story w stands number one got wanted e =
    let h = login_hears.read_here number.node (read_node true one.node) number one.ticket one.here in
    let waits = pending_waits one.ticket got wanted e in
    let there : NodesWait (map (read_slot tells) w.slots) number waits.0 waits.1 = record {
      slot = login.slot_up (read_node tells one.node) one.disk;
      here = read_here tells w.slots number.node (slot_up one.node one.disk) one.up;
      waits = record {
        reading = one.ticket.reading;
        reads = record { node = read_node tells one.node; up = refl; boot = h.boot; ticket = one.ticket; here = h.here; is = refl };
        waits = waits.2;
      };
    } in
    let c = stands.reads.waits.each number waits.0 waits.1 there in
    (c.letter, c.inside, c.covers.0)
