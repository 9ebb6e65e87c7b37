-- Whatever steps a cluster of one node makes, no call that reads comes to wait.
use Rattle.std.proofs.Common.{◌≡◌, ◌⊎◌, inl, inr, ⊎_elim, ℕ, zero, suc, Bool, true, false, List, [], ◌∷◌, ◌++◌, Option, Some, None, refl, sym, ◌∙◌, subst, if◌then◌else◌}
use Rattle.std.specs.Prelude.{slice_get, slice_set}
use Rattle.mail_model.specs.Plan.{Plan, Proof, proves}
use Rattle.mail_model.specs.Record.{Record}
use Rattle.object_model.specs.Locks.{Held, holder_beside}
use Rattle.object_model.specs.Mishaps.{MishapKind}
use Rattle.object_model.specs.Mishaps.MishapKind.{Crowded, Dropped, Stale as StaleKind, Down as DownKind, Disk}
use Rattle.object_model.specs.Sets.{has}
use Rattle.object_model.specs.Letters.{Number, MapRow, Body, Letter}
use Rattle.object_model.specs.Letters.LoginWord.{Named, Wrong}
use Rattle.object_model.specs.Letters.Body.{LoginAsk, LoginTold, ListAsk, ListTold, FetchAsk, FetchTold, Unlock}
use Rattle.cluster_model.specs.Steps.{NodeCall, asked_of}
use Rattle.cluster_model.specs.Room.{has_room}
use Rattle.cluster_model.specs.World.{flies_on}
use Rattle.whole_world.specs.Steps.{Step, Said, StepOutcome}
use Rattle.whole_world.specs.Steps.StepOutcome.{Says, Refused, NoMemory}
use Rattle.login_model.specs.Cluster as login
use Rattle.login_model.specs.Rules.{first_stamp, next_number, under, begin_login, begin_fetch}
use Rattle.login_model.specs.Facts.{far_end}
use Rattle.joint_model.specs.Joint.{Node, Life, Slot, slot_at, with_slot, slot_up, read_node}
use Rattle.joint_model.specs.Joint.Life.{Up, Down, Lost}
use Rattle.joint_world.specs.World.{World, mail_world_of, IsUp, with_letter}
use Rattle.joint_world.specs.First.{first_slot, first_slots, first_world}
use Rattle.joint_world.specs.Laws.{Stands}
use Rattle.joint_world.specs.Rules.{Reaction, Judged, judged, judged_beside, judged_here, Hears, befallen, ended, given_up, left}
use Rattle.joint_world.specs.Putting.{missed, missed_by, missed_at, missed_under, put, Puts}
use Rattle.joint_world.specs.Staying.{KeepsReads, ReadsStay}
use Rattle.joint_world.specs.Makes.{refused, learnt, BeginsRead, AnswersRead, GivesUpRead, PostsRead, DropsRead, DoesStep, MakesStep}
use Rattle.joint_world.specs.Makes.BeginsRead.{FailsAtOnce, BeginsLogin, BeginsFetch, FailsReading, Leaves}
use Rattle.joint_world.specs.Makes.AnswersRead.{Waits, Ends}
use Rattle.joint_world.specs.Makes.PostsRead.{NobodyUp, OfOtherEpoch, TooLate, IsHeard, FailsHearing}
use Rattle.joint_world.specs.Makes.DoesStep.{ForWhole, Begins, Asks, GivesUp, Posts, Drops}
use Rattle.cluster_owes.proofs.Done.{AreDone, none_done, told_done, mishap_done, begun_done, ended_done, begun_login, begun_fetch}
use Rattle.cluster_owes.proofs.Alone.{only_one, manager_one, named_one, asked_one}

-- no call that reads waits, at any node that is up
abbrev pub LifeIsDone : Life → Type 0
LifeIsDone (Up node) = AreDone node.reads
LifeIsDone (Down pending) = Unit {0}
LifeIsDone Lost = Unit {0}

abbrev pub AllDone : List Slot → Type 0
AllDone slots = (n : ℕ) (slot : Slot) → slot_at slots n ≡ Some slot → LifeIsDone slot.life

-- a slot is written
got_after : (xs : List Slot) (k j : ℕ) (y z : Slot) → slice_get (slice_set xs k y) j ≡ Some z → (z ≡ y) ⊎ (slice_get xs j ≡ Some z)
got_after [] k j y z e = inr e
got_after (x ∷ xs) zero zero y z e = inl (cc e)
got_after (x ∷ xs) zero (suc j) y z e = inr e
got_after (x ∷ xs) (suc k) zero y z e = inr e
got_after (x ∷ xs) (suc k) (suc j) y z e = got_after xs k j y z e

slot_after : (slots : List Slot) (own n : ℕ) (y z : Slot) → slot_at (with_slot slots own y) n ≡ Some z → (z ≡ y) ⊎ (slot_at slots n ≡ Some z)
slot_after slots zero n y z e = inr e
slot_after slots (suc k) zero y z e = absurd (cc e)
slot_after slots (suc k) (suc j) y z e = got_after slots k j y z e

written_done : (slots : List Slot) (own : ℕ) (slot : Slot) → AllDone slots → LifeIsDone slot.life → AllDone (with_slot slots own slot)
written_done slots own slot all done n now e = ⊎_elim
    (λ same. subst (λ (s : Slot). LifeIsDone s.life) (sym same) done)
    (λ old. all n now old)
    (slot_after slots own n slot now e)

-- a letter is lost
module _ (tells : Bool) (kind : MishapKind) (slots : List Slot) (letter : Letter) (all : AllDone slots) where
  missed_done : AllDone (missed tells kind slots letter).slots
  missed_done = by letter.ticket
    where
      at_life : (number : Number) (disk : List Record) (life : Life) → LifeIsDone life → AllDone (missed_by tells kind slots letter number disk life).slots
      at_life number disk (Up node) done = written_done slots number.node (slot_up (befallen tells number.node kind (far_end letter number) node number).node disk) all
          (mishap_done number.node (read_node tells node) done kind (far_end letter number) number)
      at_life number disk (Down pending) done = all
      at_life number disk Lost done = all

      at_slot : (number : Number) (found : Option Slot) → slot_at slots number.node ≡ found → AllDone (missed_at tells kind slots letter number found).slots
      at_slot number None e = all
      at_slot number (Some slot) e = at_life number slot.disk slot.life (all number.node slot e)

      by : (ticket : Option Number) → AllDone (missed_under tells kind slots letter ticket).slots
      by None = all
      by (Some number) = at_slot number (slot_at slots number.node) refl

-- letters are put in flight
put_done : (tells : Bool) (fuel : ℕ) (queue : List Letter) (w new : World) → AllDone w.slots → put tells fuel queue w ≡ Some new → AllDone new.slots
put_done tells fuel [] w new all e = subst (λ (v : World). AllDone v.slots) (let same : w ≡ new = cc e in same) all
put_done tells zero (letter ∷ queue) w new all e = absurd (cc e)
put_done tells (suc fuel) (letter ∷ queue) w new all e =
    by (λ more v kept. put_done tells fuel more v new kept) (has_room w.flying letter) e
  where
    by : ((more : List Letter) (v : World) → AllDone v.slots → put tells fuel more v ≡ Some new → AllDone new.slots) → (b : Bool)
        → (if b
        then put tells fuel queue (with_letter w letter)
        else put tells fuel (queue ++ (missed tells Crowded w.slots letter).out) (record w { slots = (missed tells Crowded w.slots letter).slots })) ≡ Some new
        → AllDone new.slots
    by rest true g = rest queue (with_letter w letter) all g
    by rest false g = rest (queue ++ (missed tells Crowded w.slots letter).out) (record w { slots = (missed tells Crowded w.slots letter).slots }) (missed_done tells Crowded w.slots letter all) g

puts_done : (tells : Bool) (queue : List Letter) (w new : World) → AllDone w.slots → Puts tells queue w new → AllDone new.slots
puts_done tells queue w new all (fuel, e) = put_done tells fuel queue w new all e

-- a node does something and sends letters
does_done : (tells : Bool) (old : World) (own : ℕ) (disk : List Record) (did : Reaction) (new : World) → AllDone old.slots → AreDone did.node.reads
    → Puts tells did.out (record old { slots = with_slot old.slots own (slot_up did.node disk) }) new → AllDone new.slots
does_done tells old own disk did new all done puts = puts_done tells did.out _ new (written_done old.slots own (slot_up did.node disk) all done) puts

-- what a node does with a letter of a call that reads
hears_done : (plan : Plan) (tells : Bool) (own : ℕ) (node : Node) (disk : List Record) (letter : Letter) (body : Body) (did : Reaction) → Hears plan tells own node disk letter body did → AreDone node.reads → AreDone did.node.reads
hears_done plan tells own node disk letter (LoginAsk user proof) did is done = subst (λ (d : Reaction). AreDone d.node.reads) (sym is) done
hears_done plan tells own node disk letter (ListAsk user) did (mine, lists, is) done = subst (λ (d : Reaction). AreDone d.node.reads) (sym is) done
hears_done plan tells own node disk letter (FetchAsk user id at most) did (part, says, is) done = subst (λ (d : Reaction). AreDone d.node.reads) (sym is) done
hears_done plan tells own node disk letter (LoginTold word) did (mine, has_mine, is) done =
    subst (λ (d : Reaction). AreDone d.node.reads) (sym is) (told_done own (read_node tells node) done letter mine)
hears_done plan tells own node disk letter (ListTold items) did is done = subst (λ (d : Reaction). AreDone d.node.reads) (sym is) (told_done own (read_node tells node) done letter [])
hears_done plan tells own node disk letter (FetchTold part) did is done = subst (λ (d : Reaction). AreDone d.node.reads) (sym is) (told_done own (read_node tells node) done letter [])
hears_done plan tells own node disk letter (Unlock user number) did is done = subst (λ (d : Reaction). AreDone d.node.reads) (sym is) done
hears_done plan tells own node disk letter body did is done = absurd is

-- the word of a manager names nobody but those that it knows of
judged_names : (plan : Plan) (node : login.Node) (user : List ℕ) (proof : Proof) (number : Number) (locks : Held) (named : ℕ) → (judged plan node user proof number locks).word ≡ Named named → node.named user ≡ named
judged_names plan node user proof number locks named = by (proves plan user proof) (holder_beside user number locks)
  where
    beside : (o : Option Number) → (judged_beside node user number locks o).word ≡ Named named → node.named user ≡ named
    beside None e = cc e
    beside (Some other) e = absurd (cc e)

    by : (b : Bool) (o : Option Number) → (λ (j : Judged). j.word) (if b then judged_beside node user number locks o else record { word = Wrong first_stamp; locks = locks }) ≡ Named named → node.named user ≡ named
    by true o e = beside o e
    by false o e = absurd (cc e)

module _ (plan : Plan) (tells : Bool) (one : plan.nodes ≡ 1) (story : List (List login.Slot)) (old new : World) (stands : Stands plan tells story old) (all : AllDone old.slots) where
  up_done : (n : ℕ) (node : Node) (disk : List Record) → IsUp old n node disk → AreDone node.reads
  up_done n node disk up = all n (slot_up node disk) up

  same_done : new ≡ old → AllDone new.slots
  same_done same = subst (λ (w : World). AllDone w.slots) (sym same) all

  -- a step of the whole machine leaves the tickets
  stay_done : ReadsStay old new → ((n : ℕ) (slot : Slot) → slot_at new.slots n ≡ Some slot → (before : Slot) × (slot_at old.slots n ≡ Some before)) → AllDone new.slots
  stay_done stay back n slot here = by slot.life refl
    where
      kept : (node : Node) (life : Life) → LifeIsDone life → KeepsReads life node → AreDone node.reads
      kept node (Up before) done keeps = subst AreDone (sym keeps.0) done
      kept node (Down pending) done keeps = subst AreDone (sym keeps.0) none_done
      kept node Lost done keeps = subst AreDone (sym keeps.0) none_done

      by : (life : Life) → slot.life ≡ life → LifeIsDone life
      by (Up node) e = let before = back n slot here in kept node before.0.life (all n before.0 before.1) (stay.each n before.0 slot before.1 here node e)
      by (Down pending) e = tt
      by Lost e = tt

  begins_done : (own : ℕ) (call : NodeCall) (said : Said) → BeginsRead plan tells old own call said new → AllDone new.slots
  begins_done own call said (FailsAtOnce node disk kind up fails is new_world) = subst (λ (w : World). AllDone w.slots) (sym new_world)
      (written_done old.slots own (slot_up (refused kind node disk) disk) all (up_done own node disk up))
  begins_done own call said (BeginsLogin node disk user proof up is_call did logs is does) = does_done tells old own disk did new all
      (subst (λ (d : Reaction). AreDone d.node.reads) (sym logs.is)
      (begun_done own (read_node tells node) (up_done own node disk up)
      (begin_login (under own (read_node tells node) (next_number own (read_node tells node))) user proof logs.manager (judged_here plan tells own node user proof).word logs.mine)
      (begun_login (under own (read_node tells node) (next_number own (read_node tells node))) user proof logs.manager (judged_here plan tells own node user proof).word logs.mine
      (manager_one plan tells one story old stands own node disk up user logs.manager logs.managed ∙ sym (own_is own node disk up))
      (λ named word m h. named_one plan tells one story old stands own node disk up user m
      (subst (λ k. has k m ≡ true) (sym (judged_names plan (read_node tells node) user proof (next_number own (read_node tells node)) node.locks named word)) h)
      ∙ sym (own_is own node disk up))))) does
    where
      own_is : (own : ℕ) (node : Node) (disk : List Record) → IsUp old own node disk → own ≡ 1
      own_is own node disk up = only_one plan tells one story old stands own (slot_up node disk) up
  begins_done own call said (BeginsFetch node disk user id at most holders up is_call did fetches is does) = does_done tells old own disk did new all
      (subst (λ (d : Reaction). AreDone d.node.reads) (sym fetches.is)
      (begun_done own (read_node tells node) (up_done own node disk up)
      (begin_fetch (under own (read_node tells node) (next_number own (read_node tells node))) user id at most (asked_of node.whole.mail holders) fetches.part)
      (begun_fetch (under own (read_node tells node) (next_number own (read_node tells node))) user id at most (asked_of node.whole.mail holders) fetches.part
      (subst (λ k. has (asked_of node.whole.mail holders) k ≡ true)
      (asked_one plan tells one story old stands own node disk up holders fetches.some.0 fetches.some.1 ∙ sym (only_one plan tells one story old stands own (slot_up node disk) up))
      fetches.some.1)))) does
  begins_done own call said (FailsReading node disk user id at most holders up is_call reads is new_world) = subst (λ (w : World). AllDone w.slots) (sym new_world)
      (written_done old.slots own (record { life = Down []; disk = disk }) all tt)
  begins_done own call said (Leaves node disk user login manager up is_call is does) = does_done tells old own disk (left tells own node user login manager) new all (up_done own node disk up) does

  answers_done : (number : Number) (said : Said) → AnswersRead tells old number said new → AllDone new.slots
  answers_done number said (Waits ticket got wanted e is same) = same_done same
  answers_done number said (Ends ticket answer e says fits is does) = does_done tells old number.node ticket.disk (ended tells ticket.node number.seq) new all
      (ended_done number.node (read_node tells ticket.node) (up_done number.node ticket.node ticket.disk ticket.up) number.seq) does

  gives_up_done : (number : Number) (said : Said) → GivesUpRead tells old number said new → AllDone new.slots
  gives_up_done number said g = does_done tells old number.node g.one.disk (given_up tells number.node g.one.node number g.one.ticket.reading) new all
      (ended_done number.node (read_node tells g.one.node) (up_done number.node g.one.node g.one.disk g.one.up) number.seq) g.does

  posts_done : (number : ℕ) (keep : Bool) (said : Said) → PostsRead plan tells old number keep said new → AllDone new.slots
  posts_done number keep said (NobodyUp flies body nobody is loses) = puts_done tells (missed tells DownKind old.slots flies.letter).out _ new (missed_done tells DownKind old.slots flies.letter all) loses
  posts_done number keep said (OfOtherEpoch flies node disk body up stale is loses) = puts_done tells (missed tells StaleKind old.slots flies.letter).out _ new (missed_done tells StaleKind old.slots flies.letter all) loses
  posts_done number keep said (TooLate flies node disk body up fresh late is new_world) = subst (λ (w : World). AllDone w.slots) (sym new_world) all
  posts_done number keep said (IsHeard flies node disk body up fresh late is did hears does) =
      does_done tells (record old { flying = flies_on (mail_world_of old) number flies keep }) flies.letter.to disk did new all
      (hears_done plan tells flies.letter.to (learnt node flies.letter.body) disk flies.letter flies.letter.body did hears (up_done flies.letter.to node disk up)) does
  posts_done number keep said (FailsHearing flies node disk asks up fresh is down down_is puts) =
      puts_done tells (missed tells Disk down.slots flies.letter).out _ new (missed_done tells Disk down.slots flies.letter fell) puts
    where
      fell : AllDone down.slots
      fell = subst (λ (w : World). AllDone w.slots) (sym down_is) (written_done old.slots flies.letter.to (record { life = Down []; disk = disk }) all tt)

  drops_done : (number : ℕ) (said : Said) → DropsRead tells old number said new → AllDone new.slots
  drops_done number said d = puts_done tells (missed tells Dropped old.slots d.flies.letter).out _ new (missed_done tells Dropped old.slots d.flies.letter all) d.loses

  module _ (back : (n : ℕ) (slot : Slot) → slot_at new.slots n ≡ Some slot → (before : Slot) × (slot_at old.slots n ≡ Some before)) where
    does_step : (step : Step) (said : Said) → DoesStep plan tells old step said new → AllDone new.slots
    does_step step said (ForWhole for made stay) = stay_done stay back
    does_step step said (Begins n call is begins) = begins_done n call said begins
    does_step step said (Asks number is reads answers) = answers_done number said answers
    does_step step said (GivesUp number is reads gives) = gives_up_done number said gives
    does_step step said (Posts number keep is of posts) = posts_done number keep said posts
    does_step step said (Drops number is drops) = drops_done number said drops

    pub step_done : (step : Step) (outcome : StepOutcome) → MakesStep plan tells old step outcome new → AllDone new.slots
    step_done step (Says said) made = does_step step said made.1
    step_done step (Refused fault) made = same_done made.1
    step_done step (NoMemory None) made = same_done made
    step_done step (NoMemory (Some n)) made = stay_done made.stay back

-- where a cluster opens there are no tickets of such calls
pub opens_done : (nodes : ℕ) (rows : List MapRow) → AllDone (first_world nodes rows).slots
opens_done nodes rows zero slot e = absurd (cc e)
opens_done nodes rows (suc n) slot e = at nodes n slot e
  where
    at : (k n : ℕ) (slot : Slot) → slice_get (first_slots nodes rows k) n ≡ Some slot → LifeIsDone slot.life
    at zero n slot e = absurd (cc e)
    at (suc k) zero slot e = subst (λ (s : Slot). LifeIsDone s.life) (let same : first_slot nodes rows ≡ slot = cc e in same) none_done
    at (suc k) (suc n) slot e = at k n slot e
