-- The listing that a login is answered with has exactly what stands.
use Rattle.std.proofs.Common.{◌≡◌, inl, inr, ◌≤◌, ℕ, Bool, true, false, List, [], ◌∷◌, map, Some, refl, sym, ap, ◌∙◌, subst, if◌then◌else◌}
use Rattle.std.specs.List.{list_all}
use Rattle.mail_model.specs.Identity.{Id}
use Rattle.mail_model.specs.Plan.{Plan}
use Rattle.mail_model.specs.Record.{Record}
use Rattle.object_model.specs.Letters.{Number, LoginWord, ToldPart, Membership}
use Rattle.object_model.specs.Letters.LoginWord.{Named, Wrong, InUse as IsInUse, NoProfile as HasNoProfile}
use Rattle.object_model.specs.Letters.ToldPart.{Octets, Gone}
use Rattle.object_model.proofs.Lists.{same_some}
use Rattle.cluster_model.specs.Cluster.{AskedOfNodes, Want, Ticket, set_of_members}
use Rattle.cluster_model.specs.Cluster.AskedOfNodes.{Copies, Deletion}
use Rattle.cluster_model.specs.Reads.{ListedCopy, Found}
use Rattle.cluster_model.specs.Reads.Found.{Listed}
use Rattle.cluster_model.specs.Progress.{NodeAnswer, Ask, has_failed, is_confirmed, answer_once_confirmed, pending_of_call, ask_of_wants, ask_of}
use Rattle.cluster_model.specs.Progress.NodeAnswer.{Read}
use Rattle.cluster_model.specs.Steps as mail_steps
use Rattle.cluster_model.specs.Steps.Step.{AskFor}
use Rattle.cluster_model.specs.Steps.Said.{Asked}
use Rattle.cluster_model.specs.Makes as mail_makes
use Rattle.whole_world.specs.Steps.Step.{OfMessages}
use Rattle.whole_world.specs.Steps.Said.{Told}
use Rattle.whole_world.specs.Steps.StepOutcome.{Says}
use Rattle.whole_world.specs.Makes as whole
use Rattle.whole_world.specs.Makes.DoesStep.{ForMessages, PostsMaps, Starts, OpensGroup, ConcludesGroup, SendsReports}
use Rattle.maps_model.specs.Cluster as maps
use Rattle.login_model.specs.Cluster as login
use Rattle.login_model.specs.Readings as readings
use Rattle.login_model.specs.Readings.{Reading, ToldList, Subject, subject_of}
use Rattle.login_model.specs.Readings.Reading.{LogsIn, Fetches}
use Rattle.login_model.specs.Readings.Subject.{OfUser}
use Rattle.login_model.specs.Facts.{Fact}
use Rattle.login_model.specs.Listing.{LoginItem, IsMergeOfTold, as_copy, ListsItems, IsFreshLogin}
use Rattle.login_model.specs.Progress.{ReadAnswer, ask_read}
use Rattle.login_model.specs.Progress.ReadAnswer.{Lists, Denies, Gives, Fails}
use Rattle.login_model.specs.Progress.ReadAsk.{Done}
use Rattle.login_model.proofs.Asking.{lists_all}
use Rattle.joint_model.specs.Joint.{Node, slot_at, slot_up, user_manager_in, read_node, read_slot}
use Rattle.joint_model.proofs.Fresh.{lists}
use Rattle.joint_model.proofs.Kept.{read_here}
use Rattle.joint_model.proofs.Premises.{gone_seen}
use Rattle.joint_world.specs.World.{World, whole_world_of, mail_world_of, reads_of, cluster_of}
use Rattle.joint_world.specs.Asking.{DeniesAs, part_found, AnswersAs}
use Rattle.joint_world.specs.Staying.{HasMailTicket}
use Rattle.joint_world.specs.Makes.{HasTicket, AnswersRead, DoesStep, MakesStep}
use Rattle.joint_world.specs.Makes.AnswersRead.{Waits, Ends}
use Rattle.joint_world.specs.Makes.DoesStep.{ForWhole, Begins, Asks, GivesUp, Posts, Drops}
use Rattle.joint_world.specs.Laws.{Stands}
use Rattle.joint_world.proofs.Apart.{reads_none}
use Rattle.joint_world.proofs.Subjects.{ticket_reads}
use Rattle.kept_parts.specs.Kept.{PartsHold}
use Rattle.standing_model.specs.Standing.{HasExactly, AreStanding}
use Rattle.settled_logins.specs.Reading.{disks_of}
use Rattle.settled_logins.specs.Settled.{ReadersStand, BeganSettled}
use Rattle.settled_logins.proofs.Epochs.{member_up, in_epoch, as_joint, members_of_plan}
use Rattle.settled_logins.proofs.Resting.{fuse}
use Rattle.settled_logins.proofs.Shown.{shown}

-- Messages find nothing: a ticket of theirs answers nothing that is read.
module _ (confirm : ℕ) (found : Found) where
  once_none : (wants : List Want) (want : Want) (asked : AskedOfNodes) → Ask.Done (answer_once_confirmed wants want asked) ≡ Ask.Done (Read found) → ⊥
  once_none wants want (Copies filing) e = absurd (cc e)
  once_none wants want (Deletion user id) e = absurd (cc e)

  pending_none : (wants : List Want) (want : Want) (asked : AskedOfNodes) → pending_of_call confirm wants want asked ≡ Ask.Done (Read found) → ⊥
  pending_none wants want (Copies filing) e = absurd (cc e)
  pending_none wants want (Deletion user id) e = absurd (cc e)

  mail_none : (ticket : Ticket) → ask_of confirm ticket ≡ Ask.Done (Read found) → ⊥
  mail_none ticket e = by ticket.wants e
    where
      either : (want : Want) (wants : List Want) (all failed : Bool)
          → (if all then Ask.Done (answer_once_confirmed (want ∷ wants) want want.asked) else (if failed then Ask.Done (NodeAnswer.Failed ticket.mishaps) else pending_of_call confirm (want ∷ wants) want want.asked)) ≡ Ask.Done (Read found) → ⊥
      either want wants true failed k = once_none (want ∷ wants) want want.asked k
      either want wants false true k = absurd (cc k)
      either want wants false false k = pending_none (want ∷ wants) want want.asked k

      by : (wants : List Want) → ask_of_wants confirm ticket.mishaps wants ≡ Ask.Done (Read found) → ⊥
      by [] k = absurd (cc k)
      by (want ∷ wants) k = either want wants (list_all (is_confirmed confirm) (want ∷ wants)) (has_failed confirm (want ∷ wants)) k

-- what a step of messages says that asks
asks_none : (plan : Plan) (tells : Bool) (old new : World) (number : Number) (found : Found) → HasMailTicket (mail_world_of old) number
    → mail_makes.DoesStep plan tells (mail_world_of old) (AskFor number) (Asked (Ask.Done (Read found))) (mail_world_of new) → ⊥
asks_none plan tells old new number found of (inl a) = by a
  where
    inside : (a b : Ask) → Asked a ≡ Asked b → a ≡ b
    inside a b e = cc

    by : mail_makes.AnswersAsk plan (mail_world_of old) number (Asked (Ask.Done (Read found))) (mail_world_of new) → ⊥
    by (mail_makes.AnswersAsk.Waits node disk ticket up stands got wanted e says is) = absurd (cc says)
    by (mail_makes.AnswersAsk.Ends node disk ticket up stands answer e says is) = mail_none plan.confirm found ticket (e ∙ sym (inside (Ask.Done (Read found)) (Ask.Done answer) says))
asks_none plan tells old new number found of (inr a) = reads_none (mail_world_of old) number of a.of

whole_none : (plan : Plan) (tells : Bool) (old new : World) (number : Number) (found : Found) → HasMailTicket (mail_world_of old) number
    → whole.DoesStep plan tells (whole_world_of old) (OfMessages (AskFor number)) (Told (Asked (Ask.Done (Read found)))) (whole_world_of new) → ⊥
whole_none plan tells old new number found of (ForMessages one is answer says for does follow) = asks_none plan tells old new number found of
    (subst (λ (s : mail_steps.Step). mail_makes.DoesStep plan tells (mail_world_of old) s (Asked (Ask.Done (Read found))) (mail_world_of new)) (step_is one is)
    (subst (λ (a : mail_steps.Said). mail_makes.DoesStep plan tells (mail_world_of old) one a (mail_world_of new)) (said_is answer says) does))
  where
    step_is : (s : mail_steps.Step) → OfMessages (AskFor number) ≡ OfMessages s → s ≡ AskFor number
    step_is s e = cc

    said_is : (a : mail_steps.Said) → Told (Asked (Ask.Done (Read found))) ≡ Told a → a ≡ Asked (Ask.Done (Read found))
    said_is a e = cc
whole_none plan tells old new number found of (PostsMaps k keep is h) = absurd (cc is)
whole_none plan tells old new number found of (Starts n is s) = absurd (cc is)
whole_none plan tells old new number found of (OpensGroup n is g) = absurd (cc is)
whole_none plan tells old new number found of (ConcludesGroup n is f) = absurd (cc is)
whole_none plan tells old new number found of (SendsReports a b is r) = absurd (cc is)

-- a ticket of a call that reads ends with this listing
pub record EndsListed (old : World) (number : Number) (copies : List ListedCopy) : Type 0 where
  pub one : HasTicket old number
  pub manager : ℕ
  pub named : ℕ
  pub told : List ToldList
  pub done : ask_read one.ticket one.ticket.reading ≡ Done (Lists manager named told)
  pub items : List LoginItem
  pub merge : IsMergeOfTold told items
  pub are : copies ≡ map as_copy items

module _ (number login_ : Number) (manager asked : ℕ) (copies : List ListedCopy) where
  abbrev told_listing : Found
  told_listing = Listed login_ manager asked copies

  copies_are : (other : Number) (by m : ℕ) (others : List ListedCopy) → Read told_listing ≡ Read (Listed other by m others) → copies ≡ others
  copies_are other by m others e = cc

  found_is : (found : Found) → Read told_listing ≡ Read found → found ≡ told_listing
  found_is found e = cc

  denies_none : (by : ℕ) (word : LoginWord) (found : Found) → DeniesAs by word found → found ≡ told_listing → ⊥
  denies_none by (Named nodes) found denies e = denies
  denies_none by (Wrong stamp) found denies e = absurd (cc (sym denies ∙ e))
  denies_none by (IsInUse who) found denies e = absurd (cc (sym denies ∙ e))
  denies_none by HasNoProfile found denies e = absurd (cc (sym denies ∙ e))

  gives_none : (part : ToldPart) → Read told_listing ≡ Read (part_found part) → ⊥
  gives_none (Octets octets whole_) e = absurd (cc e)
  gives_none (Gone stamp) e = absurd (cc e)

  of_answer : (old : World) (one : HasTicket old number) (answer : ReadAnswer) → ask_read one.ticket one.ticket.reading ≡ Done answer → AnswersAs number answer (Read told_listing) → EndsListed old number copies
  of_answer old one (Lists by named told) e (items, merge, is) = record {
    one = one;
    manager = by;
    named = named;
    told = told;
    done = e;
    items = items;
    merge = merge;
    are = copies_are number by named (map as_copy items) is;
  }
  of_answer old one (Denies by word) e (found, denies, is) = absurd (denies_none by word found denies (found_is found is))
  of_answer old one (Gives part) e is = absurd (gives_none part is)
  of_answer old one (Fails mishaps) e is = absurd (cc is)

  ends_listed : (plan : Plan) (tells : Bool) (old new : World) → DoesStep plan tells old (OfMessages (AskFor number)) (Told (Asked (Ask.Done (Read told_listing)))) new → EndsListed old number copies
  ends_listed plan tells old new does = by does
    where
      answer_is : (x : NodeAnswer) → Told (Asked (Ask.Done (Read told_listing))) ≡ Told (Asked (Ask.Done x)) → x ≡ Read told_listing
      answer_is x e = cc

      answers : AnswersRead tells old number (Told (Asked (Ask.Done (Read told_listing)))) new → EndsListed old number copies
      answers (Waits one got wanted e says is) = absurd (cc says)
      answers (Ends one answer e what gives says does_) = of_answer old one answer e (subst (λ (x : NodeAnswer). AnswersAs number answer x) (answer_is what says) gives)

      inside : (k : Number) → OfMessages (AskFor number) ≡ OfMessages (AskFor k) → k ≡ number
      inside k e = cc

      by : DoesStep plan tells old (OfMessages (AskFor number)) (Told (Asked (Ask.Done (Read told_listing)))) new → EndsListed old number copies
      by (ForWhole of made stay) = absurd (whole_none plan tells old new number told_listing of made.1)
      by (Begins n call is b) = absurd (cc is)
      by (Asks k is of a) = answers (subst (λ (n : Number). AnswersRead tells old n (Told (Asked (Ask.Done (Read told_listing)))) new) (inside k is) a)
      by (GivesUp k is of g) = absurd (cc is)
      by (Posts k keep is of p) = absurd (cc is)
      by (Drops k is d) = absurd (cc is)

-- a ticket that reads a mailbox is one of a login of its user
record LoginOf (reading : Reading) (user : List ℕ) : Type 0 where
  one : readings.Login
  is : reading ≡ LogsIn one
  same : one.user ≡ user

login_of : (reading : Reading) (user : List ℕ) → subject_of reading ≡ OfUser user → LoginOf reading user
login_of (LogsIn one) user e = record { one = one; is = refl; same = user_is one.user user e }
  where
    user_is : (a b : List ℕ) → OfUser a ≡ OfUser b → a ≡ b
    user_is a b h = cc
login_of (Fetches fetch) user e = absurd (cc e)

module _ (plan : Plan) (tells : Bool) (story : List (List login.Slot)) (old : World) (stands : Stands plan tells story old) (few : plan.nodes ≤ 64) (parts : PartsHold plan (mail_world_of old)) (g : Membership)
    (r : ReadersStand old g) (number : Number) (user : List ℕ) (began : BeganSettled tells old g number user) (copies : List ListedCopy) (ends : EndsListed old number copies) where
  l : LoginOf ends.one.ticket.reading user
  l = login_of ends.one.ticket.reading user (began.about.reads ends.one)

  lists_it : ListsItems (reads_of tells began.story old) number l.one ends.items
  lists_it = let stage = lists_all ends.one.ticket l.one l.is ends.manager ends.named ends.told ends.done in record {
    reads = subst (λ (x : Reading). login.NodesRead (map (read_slot tells) old.slots) number x) l.is (ticket_reads tells old number ends.one);
    named = ends.named;
    waiting = stage.1.0;
    told = ends.told;
    stage = stage.1.1;
    nobody = stage.1.2;
    merge = ends.merge;
  }

  -- the node of the ticket is a member
  record Proxy : Type 0 where
    node : Node
    disk : List Record
    up : slot_at old.slots number.node ≡ Some (slot_up node disk)
    installed : node.whole.maps.installed ≡ Some g

  proxy : Proxy
  proxy =
      let u = member_up old g r.settled began.member.0 began.member.1 in
      record { node = u.node; disk = u.disk; up = subst (λ n. slot_at old.slots n ≡ Some (slot_up u.node u.disk)) began.member.2 u.up; installed = in_epoch old g began.member.0 u }

  fresh : IsFreshLogin (reads_of tells began.story old) number l.one.user
  fresh = subst (IsFreshLogin (reads_of tells began.story old) number) (sym l.same) began.fresh

  -- what its map said of the manager as the login began its map says now
  managed : maps.manager_of g l.one.user ≡ Some l.one.manager
  managed =
      let was = began.sound.knows.reads number (LogsIn l.one) lists_it.reads number.node (Fact.Manages l.one.user l.one.manager) (inl (refl, refl)) in
      let now = fresh was.moment was.inside was.since number.node was.slot was.here in
      let same : now.0 ≡ read_slot tells (slot_up proxy.node proxy.disk) = same_some (login.slot_at (map (read_slot tells) old.slots) number.node) now.0 (read_slot tells (slot_up proxy.node proxy.disk)) now.1
      (read_here tells old.slots number.node (slot_up proxy.node proxy.disk) proxy.up) in
      let managers = now.2.named was.shows.node (read_node tells proxy.node) was.shows.up (ap (λ (s : login.Slot). s.life) same) in
      ap (user_manager_in l.one.user) (sym proxy.installed) ∙ sym managers.1 ∙ was.shows.shows

  pub listed_standing : (nodes : List ℕ) → HasExactly (set_of_members g.members) nodes → AreStanding (disks_of old) nodes user (map (λ (item : ListedCopy). item.id) copies)
  listed_standing nodes exactly =
      let standing = lists plan.confirm plan.nodes (cluster_of tells began.story old) (record { whole = stands.whole.sound; reads = began.sound }) few g (as_joint old g r.settled tells began.story)
      (members_of_plan old g r.settled plan stands.whole) (gone_seen plan.nodes (cluster_of tells began.story old) parts.gone) number l.one ends.items lists_it fresh proxy.node proxy.disk proxy.up proxy.installed l.one.manager managed in
      let all = shown (map (read_slot tells) old.slots) (set_of_members g.members) nodes l.one.user ends.items exactly standing in
      subst (λ (x : List Id). AreStanding (disks_of old) nodes user x) (sym (ap (map (λ (c : ListedCopy). c.id)) ends.are ∙ fuse as_copy (λ (c : ListedCopy). c.id) ends.items))
      (subst (λ (d : List (List Record)). AreStanding d nodes user (map (λ (item : LoginItem). item.id) ends.items)) (fuse (read_slot tells) (λ (s : login.Slot). s.disk) old.slots)
      (subst (λ (u : List ℕ). AreStanding (map (λ (s : login.Slot). s.disk) (map (read_slot tells) old.slots)) nodes u (map (λ (item : LoginItem). item.id) ends.items)) l.same all))

pub began_lists : (plan : Plan) (tells : Bool) (story : List (List login.Slot)) (old new : World) → Stands plan tells story old → plan.nodes ≤ 64 → PartsHold plan (mail_world_of old)
    → (g : Membership) → ReadersStand old g → (number : Number) (user : List ℕ) → BeganSettled tells old g number user
    → (login_ : Number) (manager asked : ℕ) (items : List ListedCopy) → MakesStep plan tells old (OfMessages (AskFor number)) (Says (Told (Asked (Ask.Done (Read (Listed login_ manager asked items)))))) new
    → (nodes : List ℕ) → HasExactly (set_of_members g.members) nodes → AreStanding (disks_of old) nodes user (map (λ (item : ListedCopy). item.id) items)
began_lists plan tells story old new stands few parts g r number user began login_ manager asked items makes nodes exactly =
    listed_standing plan tells story old stands few parts g r number user began items (ends_listed number login_ manager asked items plan tells old new makes.1) nodes exactly
