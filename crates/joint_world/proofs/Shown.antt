-- What an ask says that a call found is of the call's subject, and on disks.
use Rattle.std.proofs.Common.{◌≡◌, ◌≢◌, inl, inr, ℕ, zero, suc, ◌<◌, arith, Bool, true, false, List, [], ◌∷◌, length, map, refl, sym, ap, ◌∙◌, subst, slice_index_or, if◌then◌else◌}
use Rattle.std.specs.Prelude.{AllPairs}
use Rattle.std.specs.List.{list_all}
use Rattle.mail_model.specs.Identity.{Id}
use Rattle.mail_model.specs.Plan.{Plan}
use Rattle.object_model.specs.Lists.{Among}
use Rattle.object_model.specs.Letters.{Number, LoginWord, ToldPart}
use Rattle.object_model.specs.Letters.LoginWord.{Named, Wrong, InUse as IsInUse, NoProfile as HasNoProfile}
use Rattle.object_model.specs.Letters.ToldPart.{Octets, Gone}
use Rattle.cluster_model.specs.Cluster.{AskedOfNodes, Want, Ticket}
use Rattle.cluster_model.specs.Cluster.AskedOfNodes.{Copies, Deletion}
use Rattle.cluster_model.specs.Reads.{ListedCopy, Found}
use Rattle.cluster_model.specs.Reads.Found.{Listed}
use Rattle.cluster_model.specs.Progress.{NodeAnswer, Ask, has_failed, is_confirmed, answer_once_confirmed, pending_of_call, ask_of_wants, ask_of}
use Rattle.cluster_model.specs.Progress.NodeAnswer.{Read}
use Rattle.cluster_model.specs.Steps as mail_steps
use Rattle.cluster_model.specs.Steps.Step.{AskFor}
use Rattle.cluster_model.specs.Steps.Said.{Asked}
use Rattle.cluster_model.specs.Makes as mail_makes
use Rattle.cluster_model.proofs.Filing.{among_map}
use Rattle.whole_world.specs.Steps.Step.{OfMessages}
use Rattle.whole_world.specs.Steps.Said.{Told}
use Rattle.whole_world.specs.Steps.StepOutcome.{Says}
use Rattle.whole_world.specs.Makes as whole
use Rattle.whole_world.specs.Makes.DoesStep.{ForMessages, PostsMaps, Starts, OpensGroup, ConcludesGroup, SendsReports}
use Rattle.login_model.specs.Cluster as login
use Rattle.login_model.specs.Readings as readings
use Rattle.login_model.specs.Readings.{Reading, ReadTicket, ToldList, LoginStage, FetchStage, Subject, subject_of}
use Rattle.login_model.specs.Readings.LoginStage.{AsksManager, IsDenied, AsksNodes, HasFailed}
use Rattle.login_model.specs.Readings.FetchStage.{AsksHolder, IsAnswered, NobodyLeft}
use Rattle.login_model.specs.Readings.Reading.{LogsIn, Fetches}
use Rattle.login_model.specs.Listing.{LoginItem, IsMergeOfTold, as_copy}
use Rattle.login_model.specs.Progress.{ReadAnswer, ask_of_nodes, login_ask, fetch_ask, ask_read}
use Rattle.login_model.specs.Progress.ReadAnswer.{Lists, Denies, Gives, Fails}
use Rattle.login_model.specs.Progress.ReadAsk.{Done}
use Rattle.login_model.proofs.Asking.{lists_all}
use Rattle.object_model.specs.Sets.{nodes_in}
use Rattle.joint_model.specs.Joint.{read_slot}
use Rattle.joint_world.specs.World.{World, whole_world_of, mail_world_of, reads_of}
use Rattle.joint_world.specs.Asking.{DeniesAs, part_found, AnswersAs}
use Rattle.joint_world.specs.Staying.{HasMailTicket}
use Rattle.joint_world.specs.Makes.{HasTicket, AnswersRead, DoesStep, MakesStep}
use Rattle.joint_world.specs.Makes.AnswersRead.{Waits, Ends}
use Rattle.joint_world.specs.Makes.DoesStep.{ForWhole, Begins, Asks, GivesUp, Posts, Drops}
use Rattle.joint_world.specs.Laws.{Stands}
use Rattle.joint_world.specs.Told.{HasCopy, IsPartOf}
use Rattle.joint_world.specs.Subjects.{IsAbout, IsCopySomewhere, ShowsFound}
use Rattle.joint_world.proofs.Apart.{reads_none}
use Rattle.joint_world.proofs.Standing.{answers_disks}
use Rattle.joint_world.proofs.Subjects.{ticket_reads}
use Rattle.joint_world.proofs.Told.{listed_kept, part_kept}
use Rattle.joint_world.proofs.Views.{SameDisks}

-- pairs of a list that is mapped
module _ {X Y : Type 0} (f : X → Y) where
  index_map : (xs : List X) (i : ℕ) (d : Y) (x : X) → i < length xs → slice_index_or (map f xs) i d ≡ f (slice_index_or xs i x)
  index_map [] i d x lt = absurd (omega (arith, lt))
  index_map (y ∷ xs) zero d x lt = refl
  index_map (y ∷ xs) (suc i) d x lt = index_map xs i d x (omega (arith, lt))

  map_long : (xs : List X) → length (map f xs) ≡ length xs
  map_long [] = refl
  map_long (x ∷ xs) = ap suc (map_long xs)

pairs_map : {X Y : Type 0} (f : X → Y) (P : X → X → Type 0) (Q : Y → Y → Type 0) (xs : List X) → AllPairs P xs → ((a b : X) → P a b → Q (f a) (f b)) → AllPairs Q (map f xs)
pairs_map f P Q [] all step i j d lt within = absurd (omega (arith, within))
pairs_map f P Q (x ∷ xs) all step i j d lt within =
    let long : j < length (x ∷ xs) = subst (λ n. j < n) (map_long f (x ∷ xs)) within in
    let short : i < length (x ∷ xs) = omega (arith, lt, long) in
    subst (λ y. Q y (slice_index_or (map f (x ∷ xs)) j d)) (sym (index_map f (x ∷ xs) i d x short))
    (subst (Q (f (slice_index_or (x ∷ xs) i x))) (sym (index_map f (x ∷ xs) j d x long))
    (step (slice_index_or (x ∷ xs) i x) (slice_index_or (x ∷ xs) j x) (all i j x lt long)))

-- Messages find nothing: a ticket of theirs answers nothing that is read.
module _ (confirm : ℕ) (found : Found) where
  once_none : (wants : List Want) (want : Want) (asked : AskedOfNodes) → Ask.Done (answer_once_confirmed wants want asked) ≡ Ask.Done (Read found) → ⊥
  once_none wants want (Copies filing) e = absurd (cc e)
  once_none wants want (Deletion user id) e = absurd (cc e)

  pending_none : (wants : List Want) (want : Want) (asked : AskedOfNodes) → pending_of_call confirm wants want asked ≡ Ask.Done (Read found) → ⊥
  pending_none wants want (Copies filing) e = absurd (cc e)
  pending_none wants want (Deletion user id) e = absurd (cc e)

  mail_none : (ticket : Ticket) → ask_of confirm ticket ≡ Ask.Done (Read found) → ⊥
  mail_none ticket e = by ticket.wants e
    where
      either : (want : Want) (wants : List Want) (all failed : Bool)
          → (if all then Ask.Done (answer_once_confirmed (want ∷ wants) want want.asked) else (if failed then Ask.Done (NodeAnswer.Failed ticket.mishaps) else pending_of_call confirm (want ∷ wants) want want.asked)) ≡ Ask.Done (Read found) → ⊥
      either want wants true failed k = once_none (want ∷ wants) want want.asked k
      either want wants false true k = absurd (cc k)
      either want wants false false k = pending_none (want ∷ wants) want want.asked k

      by : (wants : List Want) → ask_of_wants confirm ticket.mishaps wants ≡ Ask.Done (Read found) → ⊥
      by [] k = absurd (cc k)
      by (want ∷ wants) k = either want wants (list_all (is_confirmed confirm) (want ∷ wants)) (has_failed confirm (want ∷ wants)) k

-- what a step of messages says that asks
asks_none : (plan : Plan) (tells : Bool) (old new : World) (number : Number) (found : Found) → HasMailTicket (mail_world_of old) number
    → mail_makes.DoesStep plan tells (mail_world_of old) (AskFor number) (Asked (Ask.Done (Read found))) (mail_world_of new) → ⊥
asks_none plan tells old new number found of (inl a) = by a
  where
    inside : (a b : Ask) → Asked a ≡ Asked b → a ≡ b
    inside a b e = cc

    by : mail_makes.AnswersAsk plan (mail_world_of old) number (Asked (Ask.Done (Read found))) (mail_world_of new) → ⊥
    by (mail_makes.AnswersAsk.Waits node disk ticket up stands got wanted e says is) = absurd (cc says)
    by (mail_makes.AnswersAsk.Ends node disk ticket up stands answer e says is) = mail_none plan.confirm found ticket (e ∙ sym (inside (Ask.Done (Read found)) (Ask.Done answer) says))
asks_none plan tells old new number found of (inr a) = reads_none (mail_world_of old) number of a.of

whole_none : (plan : Plan) (tells : Bool) (old new : World) (number : Number) (found : Found) → HasMailTicket (mail_world_of old) number
    → whole.DoesStep plan tells (whole_world_of old) (OfMessages (AskFor number)) (Told (Asked (Ask.Done (Read found)))) (whole_world_of new) → ⊥
whole_none plan tells old new number found of (ForMessages one is answer says for does follow) = asks_none plan tells old new number found of
    (subst (λ (s : mail_steps.Step). mail_makes.DoesStep plan tells (mail_world_of old) s (Asked (Ask.Done (Read found))) (mail_world_of new)) (step_is one is)
    (subst (λ (a : mail_steps.Said). mail_makes.DoesStep plan tells (mail_world_of old) one a (mail_world_of new)) (said_is answer says) does))
  where
    step_is : (s : mail_steps.Step) → OfMessages (AskFor number) ≡ OfMessages s → s ≡ AskFor number
    step_is s e = cc

    said_is : (a : mail_steps.Said) → Told (Asked (Ask.Done (Read found))) ≡ Told a → a ≡ Asked (Ask.Done (Read found))
    said_is a e = cc
whole_none plan tells old new number found of (PostsMaps k keep is h) = absurd (cc is)
whole_none plan tells old new number found of (Starts n is s) = absurd (cc is)
whole_none plan tells old new number found of (OpensGroup n is g) = absurd (cc is)
whole_none plan tells old new number found of (ConcludesGroup n is f) = absurd (cc is)
whole_none plan tells old new number found of (SendsReports a b is r) = absurd (cc is)

found_same : (a b : Found) → Read a ≡ Read b → a ≡ b
found_same a b e = cc

module _ (plan : Plan) (tells : Bool) (story : List (List login.Slot)) (old new : World) (stands : Stands plan tells story old) (disks : SameDisks old.slots new.slots) (number : Number) (one : HasTicket old number) where
  abbrev Shows : Subject → Found → Type 0
  Shows subject found = ShowsFound tells new number subject found

  -- a listing
  module _ (login_ : readings.Login) (is : one.ticket.reading ≡ LogsIn login_) where
    reads_it : login.NodesRead (reads_of tells story old).slots number (LogsIn login_)
    reads_it = subst (λ (r : Reading). login.NodesRead (map (read_slot tells) old.slots) number r) is (ticket_reads tells old number one)

    lists_show : (manager named : ℕ) (told : List ToldList) → ask_read one.ticket one.ticket.reading ≡ Done (Lists manager named told) → (items : List LoginItem) → IsMergeOfTold told items
        → Shows (subject_of (LogsIn login_)) (Listed number manager named (map as_copy items))
    lists_show manager named told e items merge = (
      refl,
      λ copy m. copies copy m,
      pairs_map (λ (c : ListedCopy). c.id) (λ (a b : ListedCopy). a.id ≢ b.id) (λ (a b : Id). a ≢ b) (map as_copy items)
          (pairs_map as_copy (λ (a b : LoginItem). a.id ≢ b.id) (λ (a b : ListedCopy). a.id ≢ b.id) items merge.once (λ a b apart. apart)) (λ a b apart. apart),
    )
      where
        copies : (copy : ListedCopy) → Among copy (map as_copy items) → IsCopySomewhere new login_.user copy
        copies copy m =
            let item = among_map as_copy copy items m in
            let t = (merge.each item.0 item.1).latest in
            let stage = (lists_all one.ticket login_ is manager named told e).1 in
            let old_slot = listed_kept plan tells story old stands number login_ reads_it named stage.0 told stage.1 t.is.list t.is.inside t.one t.is.item in
            let now = disks.stays t.is.list.node old_slot.0 old_slot.1 in
            let has : HasCopy login_.user t.one.id t.one.size now.0.disk = subst (λ d. HasCopy login_.user t.one.id t.one.size d) (sym now.2) old_slot.2 in
            record {
              node = t.is.list.node;
              slot = now.0;
              here = now.1;
              has = subst (λ (c : ListedCopy). HasCopy login_.user c.id c.size now.0.disk) item.2
                  (subst (λ (id : Id). HasCopy login_.user id item.0.size now.0.disk) t.is.same (subst (λ (size : ℕ). HasCopy login_.user t.one.id size now.0.disk) t.holds.1 has));
            }

    denies_show : (manager : ℕ) (word : LoginWord) (found : Found) → DeniesAs manager word found → Shows (subject_of (LogsIn login_)) found
    denies_show manager (Named nodes) found denies = absurd denies
    denies_show manager (Wrong stamp) found denies = subst (Shows (subject_of (LogsIn login_))) (sym denies) tt
    denies_show manager (IsInUse by) found denies = subst (Shows (subject_of (LogsIn login_))) (sym denies) tt
    denies_show manager HasNoProfile found denies = subst (Shows (subject_of (LogsIn login_))) (sym denies) tt

    -- a login gives no part
    gives_none : (part : ToldPart) (stage : LoginStage) → login_ask login_ one.ticket.mishaps stage ≡ Done (Gives part) → ⊥
    gives_none part AsksManager e = absurd (cc e)
    gives_none part (IsDenied word) e = absurd (cc e)
    gives_none part (AsksNodes named waiting told) e = by (nodes_in waiting 64) e
      where
        by : (nodes : List ℕ) → ask_of_nodes login_ named told nodes ≡ Done (Gives part) → ⊥
        by [] k = absurd (cc k)
        by (n ∷ others) k = absurd (cc k)
    gives_none part HasFailed e = absurd (cc e)

    login_shows : (answer : ReadAnswer) → ask_read one.ticket one.ticket.reading ≡ Done answer → (found : Found) → AnswersAs number answer (Read found) → Shows (subject_of (LogsIn login_)) found
    login_shows (Lists manager named told) e found (items, merge, says) =
        subst (Shows (subject_of (LogsIn login_))) (sym (found_same found (Listed number manager named (map as_copy items)) says)) (lists_show manager named told e items merge)
    login_shows (Denies manager word) e found (given, denies, says) = subst (Shows (subject_of (LogsIn login_))) (sym (found_same found given says)) (denies_show manager word given denies)
    login_shows (Gives part) e found says = absurd (gives_none part login_.stage (subst (λ (r : Reading). ask_read one.ticket r ≡ Done (Gives part)) is e))
    login_shows (Fails mishaps) e found says = absurd (cc says)

  -- a part
  module _ (fetch : readings.Fetch) (is : one.ticket.reading ≡ Fetches fetch) where
    part_shows : (by : ℕ) (part : ToldPart) → fetch.stage ≡ IsAnswered by part → Shows (subject_of (Fetches fetch)) (part_found part)
    part_shows by (Octets octets whole_) stage =
        let was = part_kept plan tells story old stands number fetch (subst (λ (r : Reading). login.NodesRead (map (read_slot tells) old.slots) number r) is (ticket_reads tells old number one)) by octets whole_ stage in
        let now = disks.stays by was.0 was.1 in
        record { node = by; slot = now.0; here = now.1; part = subst (λ d. IsPartOf tells fetch.id fetch.at fetch.most octets whole_ d) (sym now.2) was.2 }
    part_shows by (Gone stamp) stage = tt

    by_stage : (stage : FetchStage) → fetch.stage ≡ stage → (answer : ReadAnswer) → fetch_ask one.ticket.mishaps stage ≡ Done answer → (found : Found) → AnswersAs number answer (Read found) → Shows (subject_of (Fetches fetch)) found
    by_stage (AsksHolder holder left) at answer e found says = absurd (cc e)
    by_stage (IsAnswered by part) at answer e found says =
        let given : Read found ≡ Read (part_found part) = subst (λ (a : ReadAnswer). AnswersAs number a (Read found)) (sym (answer_is answer e)) says in
        subst (Shows (subject_of (Fetches fetch))) (sym (found_same found (part_found part) given)) (part_shows by part at)
      where
        answer_is : (a : ReadAnswer) → Done (Gives part) ≡ Done a → Gives part ≡ a
        answer_is a k = cc
    by_stage NobodyLeft at answer e found says = absurd (clash (subst (λ (a : ReadAnswer). AnswersAs number a (Read found)) (sym (answer_is answer e)) says))
      where
        answer_is : (a : ReadAnswer) → Done (Fails one.ticket.mishaps) ≡ Done a → Fails one.ticket.mishaps ≡ a
        answer_is a k = cc

        clash : Read found ≡ NodeAnswer.Failed one.ticket.mishaps → ⊥
        clash k = cc

    fetch_shows : (answer : ReadAnswer) → ask_read one.ticket one.ticket.reading ≡ Done answer → (found : Found) → AnswersAs number answer (Read found) → Shows (subject_of (Fetches fetch)) found
    fetch_shows answer e found says = by_stage fetch.stage refl answer (subst (λ (r : Reading). ask_read one.ticket r ≡ Done answer) is e) found says

  found_shows : (answer : ReadAnswer) → ask_read one.ticket one.ticket.reading ≡ Done answer → (found : Found) → AnswersAs number answer (Read found) → Shows (subject_of one.ticket.reading) found
  found_shows answer e found says = by one.ticket.reading refl
    where
      by : (reading : Reading) → one.ticket.reading ≡ reading → Shows (subject_of one.ticket.reading) found
      by (LogsIn login_) is = subst (λ (r : Reading). Shows (subject_of r) found) (sym is) (login_shows login_ is answer e found says)
      by (Fetches fetch) is = subst (λ (r : Reading). Shows (subject_of r) found) (sym is) (fetch_shows fetch is answer e found says)

pub subject_is_shown : (plan : Plan) (tells : Bool) (story : List (List login.Slot)) (old new : World) (number : Number) (subject : Subject) (found : Found)
    → MakesStep plan tells old (OfMessages (AskFor number)) (Says (Told (Asked (Ask.Done (Read found))))) new → Stands plan tells story old → IsAbout tells old number subject → ShowsFound tells new number subject found
subject_is_shown plan tells story old new number subject found made stands about = by made.1
  where
    answers : (k : Number) → k ≡ number → AnswersRead tells old k (Told (Asked (Ask.Done (Read found)))) new → ShowsFound tells new number subject found
    answers k same a = at (subst (λ (n : Number). AnswersRead tells old n (Told (Asked (Ask.Done (Read found)))) new) same a)
      where
        answer_is : (x : NodeAnswer) → Told (Asked (Ask.Done (Read found))) ≡ Told (Asked (Ask.Done x)) → x ≡ Read found
        answer_is x e = cc

        at : AnswersRead tells old number (Told (Asked (Ask.Done (Read found)))) new → ShowsFound tells new number subject found
        at (Waits one got wanted e says is) = absurd (cc says)
        at (Ends one answer e what gives says does) = subst (λ (s : Subject). ShowsFound tells new number s found) (about.reads one)
            (found_shows plan tells story old new stands (answers_disks plan tells old story stands number (Told (Asked (Ask.Done (Read found)))) new (Ends one answer e what gives says does)) number one answer e found
            (subst (λ (x : NodeAnswer). AnswersAs number answer x) (answer_is what says) gives))

    inside : (k : Number) → OfMessages (AskFor number) ≡ OfMessages (AskFor k) → k ≡ number
    inside k e = cc

    by : DoesStep plan tells old (OfMessages (AskFor number)) (Told (Asked (Ask.Done (Read found)))) new → ShowsFound tells new number subject found
    by (ForWhole of does stay) = absurd (whole_none plan tells old new number found of does.1)
    by (Begins n call is b) = absurd (cc is)
    by (Asks k is of a) = answers k (inside k is) a
    by (GivesUp k is of g) = absurd (cc is)
    by (Posts k keep is of p) = absurd (cc is)
    by (Drops k is d) = absurd (cc is)
