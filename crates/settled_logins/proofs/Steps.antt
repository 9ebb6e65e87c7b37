-- In each step of a reader, what is known of calls that read is known with a story that is still, and disks, maps and logs stay.
use Rattle.std.proofs.Common.{◌≡◌, inl, inr, ℕ, arith, Bool, true, List, [], ◌∷◌, ◌++◌, append-nil, map, Some, None, refl, sym, ap, ◌∙◌, subst}
use Rattle.mail_model.specs.Plan.{Plan}
use Rattle.mail_model.specs.Record.{Record}
use Rattle.object_model.specs.Lists.{Among}
use Rattle.object_model.specs.Locks.{Held}
use Rattle.object_model.specs.Mishaps.{MishapKind}
use Rattle.object_model.specs.Mishaps.MishapKind.{Stale as StaleKind, Down as DownKind}
use Rattle.object_model.specs.Letters.{Number, Letter, is_read_body}
use Rattle.cluster_model.specs.Cluster.{CallKind}
use Rattle.cluster_model.specs.Deeds as mail_deeds
use Rattle.cluster_model.specs.Makes as mail_makes
use Rattle.cluster_model.specs.Rules.{end_ticket}
use Rattle.cluster_model.specs.Steps as mail_steps
use Rattle.cluster_model.specs.Steps.{asked_of}
use Rattle.cluster_model.specs.Steps.Step.{AskFor, Post}
use Rattle.cluster_model.specs.Steps.Said.{Faulted}
use Rattle.cluster_model.specs.World as mail
use Rattle.cluster_model.specs.World.{letters_of}
use Rattle.cluster_model.proofs.Stepping.{flew}
use Rattle.whole_world.specs.Laws as whole_laws
use Rattle.whole_world.specs.Makes as whole_makes
use Rattle.whole_world.specs.Makes.DoesStep.{ForMessages, PostsMaps, Starts, OpensGroup, ConcludesGroup, SendsReports}
use Rattle.whole_world.specs.Steps.{Said, StepOutcome}
use Rattle.whole_world.specs.Steps.Step.{OfMessages}
use Rattle.whole_world.specs.Steps.Said.{Told}
use Rattle.whole_world.specs.Steps.StepOutcome.{Says}
use Rattle.whole_world.specs.Seen.{outcome_seen}
use Rattle.whole_world.proofs.Keeping.{apart}
use Rattle.whole_world.proofs.Projecting.{makes_seen}
use Rattle.login_model.specs.Cluster as login
use Rattle.login_model.specs.Rules as login_rules
use Rattle.login_model.specs.Rules.{idle, under, next_number, begin_read, begin_login, begin_fetch, end_read, give_up_read, leave}
use Rattle.login_model.specs.Facts.{IsReadBody}
use Rattle.login_model.specs.Moves as login_moves
use Rattle.login_model.specs.Moves.{NodeAct, after_move}
use Rattle.login_model.specs.Moves.Move.{Acted, Taken}
use Rattle.login_model.specs.NodeLaws as login_laws
use Rattle.login_model.proofs.Begins.{login_acts, fetch_acts, end_acts, give_up_acts, leave_acts}
use Rattle.login_model.proofs.Going.{login_goes, fetch_goes, give_up_goes, leave_goes, hears_goes}
use Rattle.login_model.proofs.Hears.{hears_acts}
use Rattle.login_model.proofs.Lost.{heard_may}
use Rattle.login_model.proofs.Others.{other_acts}
use Rattle.login_model.proofs.Still.{since_more}
use Rattle.joint_model.specs.Joint.{Node, Slot, with_slot, slot_up, read_node, read_slot}
use Rattle.joint_model.proofs.Kept.{read_here, read_set}
use Rattle.joint_world.specs.World.{World, whole_world_of, mail_world_of, reads_of, IsUp}
use Rattle.joint_world.specs.Rules.{Reaction, reacted, judged_here}
use Rattle.joint_world.specs.Putting.{missed, Puts}
use Rattle.joint_world.specs.Staying.{IsForWhole, ReadsStay}
use Rattle.joint_world.specs.Makes.{Does, Loses, refused, learnt, is_late_read, BeginsRead, AnswersRead, GivesUpRead, PostsRead}
use Rattle.joint_world.specs.Makes.BeginsRead.{FailsAtOnce, BeginsLogin, BeginsFetch, FailsReading, Leaves}
use Rattle.joint_world.specs.Makes.AnswersRead.{Waits, Ends}
use Rattle.joint_world.specs.Makes.PostsRead.{NobodyUp, OfOtherEpoch, TooLate, IsHeard, FailsHearing}
use Rattle.joint_world.proofs.Beside.{besides}
use Rattle.joint_world.proofs.Bodies.{read_body}
use Rattle.joint_world.proofs.Calm.{IsCalm}
use Rattle.joint_world.proofs.CalmSteps.{makes_calm}
use Rattle.joint_world.proofs.Putting.{missed_seen}
use Rattle.joint_world.proofs.Reading.{left_of, others_of}
use Rattle.joint_world.proofs.Rules.{Alone, alone_self, begins_alone, ends_alone, word_here, heard_by}
use Rattle.joint_world.proofs.Single.{puts_keep}
use Rattle.joint_world.proofs.Standing.{late_hears}
use Rattle.joint_world.proofs.Views.{login_same}
use Rattle.settled_logins.proofs.Going.{Goes, goes_acted, goes_taken, rule_still, GoesOn, does_go, heard_go, loses_go}
use Rattle.settled_logins.proofs.Resting.{Rests, rests_then, rests_whole, rests_set, rests_follow, rests_seen, log_rest, log_set}

puts_rest : (tells : Bool) (queue : List Letter) (w new : World) → Puts tells queue w new → Rests w new
puts_rest tells queue w new (fuel, e) = rests_whole w new (puts_keep tells fuel queue w new e).0

-- what is known since these moments, with this story
module _ (plan : Plan) (tells : Bool) (base story : List (List login.Slot)) (old : World) (stands : whole_laws.Stands plan (whole_world_of old)) (g : Goes base (reads_of tells story old)) where
  abbrev R : World → login.Cluster
  R w = reads_of tells story w

  pub record StepGoes (new : World) : Type 0 where
    pub goes : GoesOn tells base new
    pub rests : Rests old new

  pub same_go : (new : World) → new ≡ old → StepGoes new
  same_go new is = subst StepGoes (sym is) (record { goes = record { story = story; goes = g }; rests = refl })

  -- a node does something, and its letters are put in flight
  does_all : (own : ℕ) (node : Node) (disk : List Record) → IsUp old own node disk → (did : login_rules.Reaction) (locks : Held) → Alone (read_node tells node) did.node
      → (login_moves.IsReady own (login.slot_up (read_node tells node) disk) None → login_moves.IsCallDone (login_laws.act_of own (read_node tells node) disk did None))
      → ((one : Letter) → Among one did.out → IsReadBody one.body) → (new : World) → Does tells old own disk (reacted node did locks) new → StepGoes new
  does_all own node disk up did locks same acts reads new puts = record {
    goes = does_go tells base story old g own node disk up did locks same acts reads new puts;
    rests = rests_then old turned new (rests_set old turned own (slot_up node disk) (slot_up (reacted node did locks).node disk) up refl refl) (puts_rest tells did.out turned new puts);
  }
    where
      turned : World
      turned = record old { slots = with_slot old.slots own (slot_up (reacted node did locks).node disk) }

  -- a call that fails at once
  refused_go : (own : ℕ) (node : Node) (disk : List Record) (kind : CallKind) → IsUp old own node disk → StepGoes (record old { slots = with_slot old.slots own (slot_up (refused kind node disk) disk) })
  refused_go own node disk kind up = record {
    goes = record {
      story = map (read_slot tells) turned.slots ∷ story;
      goes = subst (λ (x : List login.Slot). Goes base (record { slots = x; flying = letters_of old.flying; story = x ∷ story })) (sym (read_set tells old.slots own now))
          (subst (λ (f : List Letter). Goes base (record { slots = login.with_slot (map (read_slot tells) old.slots) own (read_slot tells now); flying = f; story = login.with_slot (map (read_slot tells) old.slots) own (read_slot tells now) ∷ story }))
          (append-nil (letters_of old.flying))
          (goes_acted base (R old) act (read_here tells old.slots own (slot_up node disk) up, (λ ready. (acts ready).is), λ letter e. absurd (cc e))
          (rule_still (read_node tells node) (read_node tells (refused kind node disk)) disk (record { boot = refl; epoch = refl; manager = refl; named = refl; tells = refl })) (λ one m. absurd m) g));
    };
    rests = rests_set old turned own (slot_up node disk) now up refl refl;
  }
    where
      now : Slot
      now = slot_up (refused kind node disk) disk

      turned : World
      turned = record old { slots = with_slot old.slots own now }

      act : NodeAct
      act = record { node = own; before = login.slot_up (read_node tells node) disk; after = login.slot_up (read_node tells (refused kind node disk)) disk; heard = None; out = [] }

      acts : login_moves.IsReady own (login.slot_up (read_node tells node) disk) None → login_moves.IsCallDone act
      acts ready = other_acts own (read_node tells node) (read_node tells (refused kind node disk)) disk disk None [] refl (omega arith) refl refl (λ letter e. absurd (cc e)) (λ letter m. absurd m) ready

  pub begins_go : (own : ℕ) (call : mail_steps.NodeCall) (said : Said) (new : World) → BeginsRead plan tells old own call said new → ((n : ℕ) → said ≡ Told (Faulted n) → ⊥) → StepGoes new
  begins_go own call said new (FailsAtOnce node disk kind up fails says is) well = subst StepGoes (sym is) (refused_go own node disk kind up)
  begins_go own call said new (BeginsLogin node disk user proof up is did l says does) well =
      let seen = read_node tells node in
      let word = (judged_here plan tells own node user proof).word in
      does_all own node disk up (begin_read own seen (begin_login (under own seen (next_number own seen)) user proof l.manager word l.mine)) _
      (begins_alone own seen (begin_login (under own seen (next_number own seen)) user proof l.manager word l.mine))
      (λ ready. login_acts plan own seen disk user proof l.manager word l.mine l.managed (λ at. word_here plan seen user proof (next_number own seen) node.locks) l.lists ready)
      (λ one m. (login_goes (under own seen (next_number own seen)) user proof l.manager word l.mine one m).body)
      new (subst (λ (r : Reaction). Does tells old own disk r new) l.is does)
  begins_go own call said new (BeginsFetch node disk user id at most holders up is did f says does) well =
      let seen = read_node tells node in
      does_all own node disk up (begin_read own seen (begin_fetch (under own seen (next_number own seen)) user id at most (asked_of node.whole.mail holders) f.part)) _
      (begins_alone own seen (begin_fetch (under own seen (next_number own seen)) user id at most (asked_of node.whole.mail holders) f.part))
      (λ ready. fetch_acts own seen disk user id at most (asked_of node.whole.mail holders) f.part f.some f.says ready)
      (λ one m. (fetch_goes (under own seen (next_number own seen)) user id at most (asked_of node.whole.mail holders) f.part one m).body)
      new (subst (λ (r : Reaction). Does tells old own disk r new) f.is does)
  begins_go own call said new (FailsReading node disk user id at most holders up is own_holds says is_new) well = absurd (well own says)
  begins_go own call said new (Leaves node disk user number manager up is says does) well = does_all own node disk up (leave own (read_node tells node) user number manager) _
      (alone_self (read_node tells node)) (λ ready. leave_acts own (read_node tells node) disk ready user number manager) (λ one m. (leave_goes own (read_node tells node) user number manager one m).body) new does

  pub answers_go : (number : Number) (said : Said) (new : World) → AnswersRead tells old number said new → StepGoes new
  answers_go number said new (Waits one got wanted e says is) = same_go new is
  answers_go number said new (Ends one answer e what answers says does) = does_all number.node one.node one.disk one.up (end_read (read_node tells one.node) number.seq) _
      (ends_alone (read_node tells one.node) number.seq) (λ ready. end_acts number.node (read_node tells one.node) one.disk ready number.seq) (λ one m. absurd m) new does

  pub gives_up_go : (number : Number) (said : Said) (new : World) → GivesUpRead tells old number said new → StepGoes new
  gives_up_go number said new u = does_all number.node u.one.node u.one.disk u.one.up (give_up_read number.node (read_node tells u.one.node) number u.one.ticket.reading) _
      (ends_alone (read_node tells u.one.node) number.seq) (λ ready. give_up_acts number.node (read_node tells u.one.node) u.one.disk ready number u.one.ticket.reading)
      (λ one m. (give_up_goes (under number.node (read_node tells u.one.node) number) u.one.ticket.reading one m).body) new u.does

  pub loses_all : (kind : MishapKind) (number : ℕ) (flies : mail.Flies (mail_world_of old) number) (keep : Bool) (new : World) → Loses tells kind old number flies keep new → StepGoes new
  loses_all kind number flies keep new loses = record {
    goes = loses_go tells base story old g kind number flies keep new loses;
    rests = rests_then old lost new (rests_whole old lost (missed_seen tells kind old.slots flies.letter).same) (puts_rest tells (missed tells kind old.slots flies.letter).out lost new loses);
  }
    where
      lost : World
      lost = record old { slots = (missed tells kind old.slots flies.letter).slots; flying = mail.flies_on (mail_world_of old) number flies keep }

  -- a letter that is late
  late_go : (number : ℕ) (flies : mail.Flies (mail_world_of old) number) (keep : Bool) (node : Node) (disk : List Record) → IsUp old flies.letter.to node disk → is_read_body flies.letter.body ≡ true
      → is_late_read flies.letter.to node flies.letter ≡ true → StepGoes (record old { flying = mail.flies_on (mail_world_of old) number flies keep })
  late_go number flies keep node disk up of late = record {
    goes = record {
      story = map (read_slot tells) old.slots ∷ story;
      goes = subst (λ (x : List login.Slot). Goes base (record { slots = x; flying = flying; story = x ∷ story })) (login_same (map (read_slot tells) old.slots) own (login.slot_up (read_node tells node) disk) there)
          (subst (λ (f : List Letter). Goes base (record {
            slots = login.with_slot (map (read_slot tells) old.slots) own (login.slot_up (read_node tells node) disk);
            flying = f;
            story = login.with_slot (map (read_slot tells) old.slots) own (login.slot_up (read_node tells node) disk) ∷ story;
          })) (append-nil flying)
          (goes_taken base (after_move (Acted act) (R old)) flies.letter (flying ++ []) may.1.0
          (goes_acted base (R old) act may.0 (rule_still (read_node tells node) (read_node tells node) disk (alone_self (read_node tells node)).alone) (λ one m. absurd m) g)));
    };
    rests = refl;
  }
    where
      own : ℕ
      own = flies.letter.to

      flying : List Letter
      flying = letters_of (mail.flies_on (mail_world_of old) number flies keep)

      there : login.slot_at (map (read_slot tells) old.slots) own ≡ Some (login.slot_up (read_node tells node) disk)
      there = read_here tells old.slots own (slot_up node disk) up

      act : NodeAct
      act = login_laws.act_of own (read_node tells node) disk (idle (read_node tells node)) (Some flies.letter)

      may : login_moves.MayMoves (Acted act ∷ Taken flies.letter (flying ++ []) ∷ []) (R old)
      may = heard_may (R old) g.sound act flies.letter flying there refl (flew (mail_world_of old) number flies) refl
          (λ ready. hears_acts plan own (read_node tells node) disk flies.letter (idle (read_node tells node)) (late_hears plan tells own node disk flies.letter flies.letter.body (read_body flies.letter.body of) late) ready)
          (λ one m. left_of old number flies keep one m) (λ one m. others_of old number flies keep one m)

  pub posts_go : (number : ℕ) (keep : Bool) (said : Said) (new : World) → PostsRead plan tells old number keep said new → ((n : ℕ) → said ≡ Told (Faulted n) → ⊥) → StepGoes new
  posts_go number keep said new (NobodyUp flies of nobody says loses) well = loses_all DownKind number flies keep new loses
  posts_go number keep said new (OfOtherEpoch flies node disk of up stale says loses) well = loses_all StaleKind number flies keep new loses
  posts_go number keep said new (TooLate flies node disk of up fresh late says is) well = subst StepGoes (sym is) (late_go number flies keep node disk up of late)
  posts_go number keep said new (IsHeard flies node disk of up fresh in_time says did hears does) well =
      let h = heard_by plan tells flies.letter.to (learnt node flies.letter.body) disk flies.letter flies.letter.body did hears in
      let puts = subst (λ (r : Reaction). Does tells less flies.letter.to disk r new) h.is does in
      let now : Slot = slot_up (reacted (learnt node flies.letter.body) h.rule h.locks).node disk in
      let turned : World = record less { slots = with_slot old.slots flies.letter.to now } in
      record {
        goes = heard_go tells base story old g number flies keep node disk up flies.letter.body h.rule h.locks h.alone
            (λ ready. hears_acts plan flies.letter.to (read_node tells node) disk flies.letter h.rule h.hears ready)
            (λ one m. (hears_goes plan flies.letter.to (read_node tells (learnt node flies.letter.body)) disk flies.letter h.rule refl (apart plan (whole_world_of old) stands flies.letter (flew (mail_world_of old) number flies)) h.hears one m).body)
            new puts;
        rests = rests_then old turned new (rests_set old turned flies.letter.to (slot_up node disk) now up refl refl) (puts_rest tells h.rule.out turned new puts);
      }
    where
      less : World
      less = record old { flying = mail.flies_on (mail_world_of old) number flies keep }
  posts_go number keep said new (FailsHearing flies node disk of up fresh says down is puts) well = absurd (well flies.letter.to says)

  -- a step for messages in which disks, maps and logs stay, and no letter comes
  whole_go : (step : mail_steps.Step) (outcome : StepOutcome) (new : World) → IsForWhole old (OfMessages step) → whole_makes.MakesStep plan tells (whole_world_of old) (OfMessages step) outcome (whole_world_of new) → ReadsStay old new
      → Rests old new → new.flying ≡ old.flying → StepGoes new
  whole_go step outcome new of made stay rests flying = record {
    goes = record {
      story = map (read_slot tells) new.slots ∷ story;
      goes = record {
        sound = besides tells story old new calm stay g.sound;
        since = since_more base story (map (read_slot tells) old.slots) (map (read_slot tells) new.slots) g.since (rests_seen tells old new rests);
        letters = λ letter m. g.letters letter (subst (λ f. Among letter (letters_of f)) flying m);
      };
    };
    rests = rests;
  }
    where
      calm : IsCalm (mail_world_of old) (mail_world_of new)
      calm = makes_calm (mail_world_of old) (λ n slot at. stands.sound.mail.order.each n slot at) (λ letter m same. apart plan (whole_world_of old) stands letter m same) (mail_world_of new)
          plan tells step (outcome_seen outcome) of (makes_seen plan tells (whole_world_of old) (whole_world_of new) (OfMessages step) outcome made)

  -- a ticket of messages is asked, which may end, and the book may change
  record AsksOnly (new : World) : Type 0 where
    slots : map log_rest (mail_world_of new).slots ≡ map log_rest (mail_world_of old).slots
    flying : new.flying ≡ old.flying

  asks_same : (new : World) → mail_world_of new ≡ mail_world_of old → AsksOnly new
  asks_same new is = record { slots = ap (λ (w : mail.World). map log_rest w.slots) is; flying = ap (λ (w : mail.World). w.flying) is }

  mail_asks : (number : Number) (said : mail_steps.Said) (new : World) → mail_makes.DoesStep plan tells (mail_world_of old) (AskFor number) said (mail_world_of new) → AsksOnly new
  mail_asks number said new (inl (mail_makes.AnswersAsk.Waits node disk ticket up stands_ got wanted e says is)) = asks_same new is
  mail_asks number said new (inl (mail_makes.AnswersAsk.Ends node disk ticket up stands_ answer e says is)) = record {
    slots = ap (λ (w : mail.World). map log_rest w.slots) is ∙ log_set (mail_world_of old).slots number.node (mail_deeds.slot_up node disk) (mail_deeds.slot_up (end_ticket number.seq node disk).node disk) up refl;
    flying = ap (λ (w : mail.World). w.flying) is;
  }
  mail_asks number said new (inr a) = asks_same new a.new_world

  pub asks_go : (number : Number) (said : Said) (new : World) → IsForWhole old (OfMessages (AskFor number)) → whole_makes.MakesStep plan tells (whole_world_of old) (OfMessages (AskFor number)) (Says said) (whole_world_of new)
      → ReadsStay old new → StepGoes new
  asks_go number said new of made stay = by made.1
    where
      step_is : (s : mail_steps.Step) → OfMessages (AskFor number) ≡ OfMessages s → s ≡ AskFor number
      step_is s e = cc

      by : whole_makes.DoesStep plan tells (whole_world_of old) (OfMessages (AskFor number)) said (whole_world_of new) → StepGoes new
      by (ForMessages one is answer says for does follow) =
          let a = mail_asks number answer new (subst (λ (s : mail_steps.Step). mail_makes.DoesStep plan tells (mail_world_of old) s answer (mail_world_of new)) (step_is one is) does) in
          whole_go (AskFor number) (Says said) new of made stay (rests_follow old new a.slots follow) a.flying
      by (PostsMaps k keep is h) = absurd (cc is)
      by (Starts n is s) = absurd (cc is)
      by (OpensGroup n is o) = absurd (cc is)
      by (ConcludesGroup n is f) = absurd (cc is)
      by (SendsReports a b is r) = absurd (cc is)
