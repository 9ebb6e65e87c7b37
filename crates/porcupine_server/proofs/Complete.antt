-- A good tape is handled through its line `end`.
use Rattle.std.proofs.Common.{◌≡◌, ◌≤◌, ℕ, Bool, true, false, List, [], ◌∷◌, ◌++◌, length, flat_map, All, Option, Some, Err, refl, sym, ap, ◌∙◌, subst, arith, inl, inr, ⊎_elim}
use Rattle.std.specs.Prelude.{◌⊎◌, ⊤}
use Rattle.std.specs.Io.KnownBytes.{Appends}
use Rattle.std.proofs.lemmas.List.{append-nil}
use Rattle.std.proofs.lemmas.Option.{same_Some}
use Rattle.joint_world.specs.First.{first_world}
use Rattle.accepted_tapes.specs.Follows.{FollowsAll}
use Rattle.porcupine_server.proofs.Followed.{Followed}
use Rattle.std.proofs.lemmas.List.Concat.{flat_map-append}
use Rattle.io_edge.specs.Causes.{Rose}
use Rattle.mail_model.specs.Lines.{HasNoLf, ended}
use Rattle.mail_model.specs.Plan.{Plan}
use Rattle.mail_model.specs.Transcript.{Entry, written_of}
use Rattle.object_model.specs.Lists.{Among}
use Rattle.object_model.proofs.Lists.{among_front}
use Rattle.session_model.specs.Sessions.{Session}
use Rattle.session_model.specs.Acts.{Act}
use Rattle.session_model.specs.Acts.Act.{StillWaits}
use Rattle.session_model.specs.Lives.{failed_by, failed_in}
use Rattle.session_model.specs.Run.{Made, Stop, AreHandled, IsLeftOff, is_no_node}
use Rattle.session_model.specs.Run.Stop.{Denied}
use Rattle.yard_stores.proofs.Taking.{as_many}
use Rattle.node_store.specs.Disks.{View}
use Rattle.whole_node.specs.Starting.{first_map}
use Rattle.cluster_world.specs.Worlds.{plan_of, disks_of, disks_tell}
use Rattle.cluster_world.specs.declared.world.World.{World}
use Rattle.cluster_world.proofs.Chained.{plan_stays}
use Rattle.cluster_world.proofs.AtFirst.{first_managers}
use Rattle.drive_tape.specs.declared.drove.Drove.{Drove}
use Rattle.drive_tape.specs.declared.drove.Drove.TheVariants as drove
use Rattle.drive_tape.specs.declared.drove.TapeFault.{TapeFault}
use Rattle.drive_tape.specs.Parts.{IsCutEntry}
use Rattle.drive_tape.specs.Worlds.{HasFailed}
use Rattle.drive_tape.specs.Drive.{Drives, StopsAt}
use Rattle.drive_tape.specs.Plans.{ReadsHead}
use Rattle.porcupine_server.specs.declared.ending.Ending.{Ending}
use Rattle.porcupine_server.specs.declared.ending.Ending.TheVariants.{Done, Line, Read, Write, Store, NoMemory}
use Rattle.mail_model.specs.Tape.{tape_order}
use Rattle.mail_model.specs.Tape.Order.{End}
use Rattle.session_model.specs.Run.{FirstStep}
use Rattle.session_model.specs.Run.Stop.{BehindLine, OutOfMemory}
use Rattle.cluster_world.specs.Opens.{IsAtBeginning}
use Rattle.drive_tape.specs.Drive.{EndsDenied}
use Rattle.accepted_tapes.specs.Accepted.{NobodyWaits}
use Rattle.porcupine_server.specs.Complete.{IsGoodTape}
use Rattle.porcupine_server.specs.Endings.{ending_of, status_of, last_entries, Finishes}
use Rattle.serve_word.specs.Stores.{NodeStoreFailed, StoreFailed}
use Rattle.porcupine_server.specs.Works.{SourceAndSink, Stores, Works, NoPlan, NoStores, ServedStores, NotOpened, Ran, IsBeforeRun}
use Rattle.porcupine_server.proofs.GoodPlan.{run_part, no_plan_fault, reads_good_plan}
use Rattle.porcupine_server.proofs.GoodRun.{Managed, first_lines, no_end_handled, no_end_next, read_first, no_run_fault, granted}
use Rattle.porcupine_server.proofs.Granted.{followed, refuses}
use Rattle.porcupine_server.proofs.Placed.{untold_store, fell}
use Rattle.porcupine_server.proofs.Within.{failed_within, node_ends}

-- the ending names no line of the tape
abbrev NamesNone : Ending → Type 0
NamesNone Done = ⊤
NamesNone (Line number fault) = ⊥
NamesNone Read = ⊤
NamesNone Write = ⊤
NamesNone (Store node) = ⊤
NamesNone NoMemory = ⊤

before_run : (ending : Ending) → IsBeforeRun ending → NamesNone ending
before_run Done before = absurd before
before_run (Line number fault) before = absurd before
before_run Read before = absurd before
before_run Write before = absurd before
before_run (Store node) before = tt
before_run NoMemory before = tt

-- where no line was left, nothing was done after the last
none_left : (plan : Plan) (been : List Act) (stop : Stop) (old : List Session) (left : List (List ℕ)) (acts : List (List Act)) (entries : List Entry) (extra : List Made) (new : List Session)
    → left ≡ [] → IsLeftOff plan been stop old left acts entries extra new → new ≡ old
none_left plan been stop old [] [] entries extra new none off = off.2
none_left plan been stop old [] (a ∷ acts) entries extra new none off = absurd off
none_left plan been stop old (line ∷ left) acts entries extra new none off = absurd (omega (arith, ap length none))

-- a list of which nothing is one
none_of : (xs : List ℕ) → ((n : ℕ) → Among n xs → ⊥) → xs ≡ []
none_of [] never = refl
none_of (x ∷ xs) never = absurd (never x (inl refl))

module _ (tape : List ℕ) (good : IsGoodTape tape) where
  -- the plan was not read
  unread : (left0 left1 : Option (List ℕ)) (answer : Drove) → left0 ≡ Some tape → ReadsHead left0 left1 (Err answer) → NamesNone (ending_of answer)
  unread left0 left1 drove.Ended told reads = tt
  unread left0 left1 drove.ReadFault told reads = tt
  unread left0 left1 (drove.WriteFault n) told reads = tt
  unread left0 left1 (drove.BadTape n fault) told reads =
      absurd (no_plan_fault tape good left0 left1 fault reads.lines reads.draft reads.others reads.room told reads.took reads.each reads.drafts reads.limit reads.did.0)
  unread left0 left1 (drove.NoMemory n) told reads = tt

  -- the run lines were handled, at nodes that did not fail, and in a plan of one node nobody waits
  module _ {D : Type 0} (on : View D) (start last : World D) (between left1 held0 held1 : Option (List ℕ)) (answer : Drove) (from : ℕ) (same : plan_of start ≡ good.plan)
      (told : between ≡ Some (run_part tape good)) (d : Drives on start between left1 held0 held1 answer from last)
      (never : (n : ℕ) → is_no_node (plan_of start) n ≡ false → HasFailed on start last n → ⊥)
      (alone : (plan_of start).nodes ≡ 1 → NobodyWaits (flat_map (λ a. a) (d.acts ++ d.behind))) (begins : IsAtBeginning on (plan_of start) start) (tells : disks_tell on.seen start ≡ true) where
    abbrev been : List Act
    been = flat_map (λ a. a) d.acts

    managed : Managed tape good
    managed = first_managers good.plan (subst (λ (p : Plan). 1 ≤ p.nodes) same begins.some)

    all_acts : flat_map (λ a. a) (d.acts ++ d.behind) ≡ been ++ flat_map (λ a. a) d.behind
    all_acts = flat_map-append (λ (a : List Act). a) d.acts d.behind

    up : failed_in been ≡ []
    up = none_of (failed_in been) (λ n among. never n (failed_within (plan_of start) d.handled d.acts d.driven.outputs d.driven.mid d.driven.are n among)
        (d.fallen n (subst (Among n) (sym (ap failed_in all_acts ∙ flat_map-append failed_by been (flat_map (λ a. a) d.behind)))
        (among_front n (failed_in been) (failed_in (flat_map (λ a. a) d.behind)) among))))

    calm : good.plan.nodes ≡ 1 → NobodyWaits been
    calm one k among = alone (ap (λ (p : Plan). p.nodes) same ∙ one) k
        (subst (λ (acts : List Act). Among (StillWaits k) acts) (sym all_acts) (among_front (StillWaits k) been (flat_map (λ a. a) d.behind) among))

    runs : AreHandled good.plan [] [] d.handled d.acts d.driven.outputs d.driven.mid
    runs = subst (λ (p : Plan). AreHandled p [] [] d.handled d.acts d.driven.outputs d.driven.mid) same d.driven.are

    -- what was read begins the run part
    began_with : (more : List ℕ) × (run_part tape good ≡ flat_map ended (d.handled ++ d.midst) ++ more)
    began_with = read_first tape good between left1 d.read d.others (d.handled ++ d.midst) told d.took d.tape

    -- no act is left of a line that was not handled
    quiet_behind : (midst : List (List ℕ)) (behind : List (List Act)) → (flat_map (λ a. a) behind ≡ []) → flat_map (λ a. a) (d.acts ++ behind) ≡ been
    quiet_behind midst behind none = flat_map-append (λ (a : List Act). a) d.acts behind ∙ ap (λ (l : List Act). been ++ l) none ∙ append-nil been

    module _ (others : List (List ℕ)) (first : good.lines ≡ (d.handled ++ d.midst) ++ others) (ample : d.stop ≡ OutOfMemory → ⊥) (none : flat_map (λ a. a) d.behind ≡ []) where
      f : Followed on good.plan good.lines (flat_map (λ a. a) (d.acts ++ d.behind)) d.led.rest [] (first_world good.plan.nodes (first_map good.plan)) d.awaited last
      f = followed on start last begins tells good.plan same d.stop d.handled d.midst d.acts d.behind d.outcomes d.entries d.sessions d.driven d.awaited d.steps d.at_nodes d.lacking d.led good.lines others first ample

      follows : FollowsAll good.plan good.lines been [] (first_world good.plan.nodes (first_map good.plan)) f.now f.whole.v
      follows = subst (λ (l : List Act). FollowsAll good.plan good.lines l [] (first_world good.plan.nodes (first_map good.plan)) f.now f.whole.v) (quiet_behind d.midst d.behind none) f.follows

    nothing_behind : (midst : List (List ℕ)) (behind : List (List Act)) → midst ≡ [] → IsLeftOff (plan_of start) been d.stop d.driven.mid midst behind d.driven.tail d.driven.extra d.sessions → flat_map (λ a. a) behind ≡ []
    nothing_behind [] [] none off = refl
    nothing_behind [] (a ∷ acts) none off = absurd off
    nothing_behind (line ∷ midst) behind none off = absurd (omega (arith, ap length none))

    not_refused : (fault : TapeFault) → d.stop ≡ BehindLine → d.midst ≡ [] → StopsAt fault (plan_of start) been d.sessions left1 d.others d.room → ⊥
    not_refused fault stopped none why =
        let off = none_left (plan_of start) been d.stop d.driven.mid d.midst d.behind d.driven.tail d.driven.extra d.sessions none d.driven.off in
        let all : d.handled ++ d.midst ≡ d.handled = ap (λ (ls : List (List ℕ)). d.handled ++ ls) none ∙ append-nil d.handled in
        let first = first_lines tape good (d.handled ++ d.midst) began_with.0 d.each
        (λ front rest is. no_end_handled tape good d.handled d.acts d.driven.outputs d.driven.mid runs front rest (sym all ∙ is)) began_with.1 in
        let quiet = nothing_behind d.midst d.behind none d.driven.off in
        let ample : d.stop ≡ OutOfMemory → ⊥ = λ is. (let clash : BehindLine ≡ OutOfMemory = sym stopped ∙ is in cc) in
        no_run_fault tape good between left1 fault d.read d.others d.room d.handled d.acts d.driven.outputs d.driven.mid (f first.0 first.1 ample quiet).now (f first.0 first.1 ample quiet).whole.v managed told d.took
        (d.tape ∙ ap (λ (ls : List (List ℕ)). flat_map ended ls ++ d.others) all) (subst (All HasNoLf) all d.each) runs (follows first.0 first.1 ample quiet) up calm d.limit
        (subst (λ (ss : List Session). StopsAt fault good.plan been ss left1 d.others d.room) off
        (subst (λ (p : Plan). StopsAt fault p been d.sessions left1 d.others d.room) same why))

    not_denied : (fault : TapeFault) → d.stop ≡ Denied → EndsDenied fault d.outcomes → ⊥
    unfolding f
    not_denied fault is denied = by d.midst d.behind refl refl (subst (λ (s : Stop). IsLeftOff (plan_of start) been s d.driven.mid d.midst d.behind d.driven.tail d.driven.extra d.sessions) is d.driven.off)
      where
        ample : d.stop ≡ OutOfMemory → ⊥
        ample out = let clash : Denied ≡ OutOfMemory = sym is ∙ out in cc

        by : (midst : List (List ℕ)) (behind : List (List Act)) → d.midst ≡ midst → d.behind ≡ behind → IsLeftOff (plan_of start) been Denied d.driven.mid midst behind d.driven.tail d.driven.extra d.sessions → ⊥
        by [] [] here after off = off.4 refl
        by (line ∷ []) ([] ∷ []) here after (tried, stays) =
            let quiet : flat_map (λ a. a) d.behind ≡ [] = ap (λ (b : List (List Act)). flat_map (λ a. a) b) after in
            let other : tape_order line ≡ Some End → ⊥ = λ ends. subst (λ o. FirstStep o d.driven.mid tried.step) (same_Some tried.order End (sym tried.spelled ∙ ends)) tried.first in
            let first = first_lines tape good (d.handled ++ d.midst) began_with.0 d.each
            (λ front rest e. no_end_next tape good d.handled line d.acts d.driven.outputs d.driven.mid runs other front rest (sym (ap (λ (ms : List (List ℕ)). d.handled ++ ms) here) ∙ e)) began_with.1 in
            let grants = granted tape good between left1 d.read d.others d.handled line d.acts d.driven.outputs d.driven.mid tried.order (f first.0 first.1 ample quiet).now (f first.0 first.1 ample quiet).whole.v managed told d.took
            (d.tape ∙ ap (λ (ms : List (List ℕ)). flat_map ended (d.handled ++ ms) ++ d.others) here)
            (subst (λ (ms : List (List ℕ)). All HasNoLf (d.handled ++ ms)) here d.each) runs (follows first.0 first.1 ample quiet) up calm tried.spelled (tried.step, tried.first) in
            refuses on start last begins tells good.plan same d.stop d.handled d.midst d.acts d.behind d.outcomes d.entries d.sessions d.driven d.awaited d.steps d.at_nodes d.lacking d.led good.lines first.0 first.1 ample
            tried.order tried.step fault denied tried.extra_is (subst (λ (ss : List Session). FirstStep tried.order ss tried.step) (sym stays) tried.first) grants
        by (line ∷ []) ((act ∷ acts) ∷ []) here after (turn, cut, more) = absurd cut.may
        by midst behind here after off = absurd off

  handled : {D : Type 0} (on : View D) (start last : World D) (between left1 held0 held1 : Option (List ℕ)) (answer : Drove) (from : ℕ) → plan_of start ≡ good.plan
      → between ≡ Some (run_part tape good) → (d : Drives on start between left1 held0 held1 answer from last)
      → ((n : ℕ) → is_no_node (plan_of start) n ≡ false → HasFailed on start last n → ⊥)
      → ((plan_of start).nodes ≡ 1 → NobodyWaits (flat_map (λ a. a) (d.acts ++ d.behind))) → IsAtBeginning on (plan_of start) start → disks_tell on.seen start ≡ true → NamesNone (ending_of answer)
  handled on start last between left1 held0 held1 drove.Ended from same told d never alone begins tells = tt
  handled on start last between left1 held0 held1 drove.ReadFault from same told d never alone begins tells = tt
  handled on start last between left1 held0 held1 (drove.WriteFault n) from same told d never alone begins tells = tt
  handled on start last between left1 held0 held1 (drove.BadTape n fault) from same told d never alone begins tells = absurd (⊎_elim
      (λ refused. not_refused on start last between left1 held0 held1 (drove.BadTape n fault) from same told d never alone begins tells fault refused.0 refused.1 refused.2)
      (λ denied. not_denied on start last between left1 held0 held1 (drove.BadTape n fault) from same told d never alone begins tells fault denied.0 denied.2)
      d.why)
  handled on start last between left1 held0 held1 (drove.NoMemory n) from same told d never alone begins tells = tt

  -- whatever the work did, with stores that do not fail
  module _ {D : Type 0} (on : View D) (is_settled : D → Type 0) (stores : Stores D) (ends : SourceAndSink) (ending : Ending) (before now : ℕ) (told : ends.left0 ≡ Some tape)
      (stands : (node : ℕ) → StoreFailed on.seen on.faults stores.handed0 stores.handed1 stores.returned0 stores.returned1 before now node → ⊥) where
    by_run : (served : ServedStores on is_settled stores ends ending) → Ran on is_settled (record ends { left0 = served.between }) served.plan served.count ending served.disks served.given → NamesNone ending
    by_run served ran =
        let plan = reads_good_plan tape good ends.left0 served.between served.plan served.count told served.reads in
        subst NamesNone (sym ran.is) (handled on ran.start ran.last served.between ends.left1 ends.held0 ends.held1 ran.answer served.count (ran.opened.begins.plan_is ∙ plan.1) plan.0 ran.drives never alone
        (subst (λ (p : Plan). IsAtBeginning on p ran.start) (sym ran.opened.begins.plan_is) ran.opened.begins) (all_told (disks_tell on.seen ran.start) refl))
      where
        stays : (plan_of ran.last ≡ plan_of ran.start) × (length (disks_of ran.last) ≡ length (disks_of ran.start)) × (disks_tell on.seen ran.last ≡ disks_tell on.seen ran.start)
        stays = plan_stays on ran.drives.outcomes [] ran.drives.awaited ran.start ran.last ran.drives.steps

        no_failure : (node : ℕ) × NodeStoreFailed on.seen on.faults node served.taken served.given → ⊥
        no_failure one = stands one.0 (record { taken = served.taken; given = served.given; are = served.are; cause = inr one.1 })

        all_told : (b : Bool) → disks_tell on.seen ran.start ≡ b → b ≡ true
        all_told true is = refl
        all_told false is = absurd (no_failure (untold_store on is_settled served.plan served.taken served.disks served.given ran.start ran.last served.looked ran.opened ran.stores stays.1 is))

        never : (n : ℕ) → is_no_node (plan_of ran.start) n ≡ false → HasFailed on ran.start ran.last n → ⊥
        never n of_plan cause =
            let ends_at = node_ends (plan_of ran.start) n of_plan in
            let many = as_many on.seen on.faults served.taken served.disks served.looked in
            no_failure (fell on is_settled served.plan served.taken served.disks served.given ran.start ran.last served.looked ran.opened ran.stores stays.1 n ends_at.0
            (omega (arith, ends_at.1, ap (λ (p : Plan). p.nodes) ran.opened.begins.plan_is, served.one_each, many, ran.opened.handed.count)) cause)

        alone : (plan_of ran.start).nodes ≡ 1 → NobodyWaits (flat_map (λ a. a) (ran.drives.acts ++ ran.drives.behind))
        alone one = ran.drives.none_waits (inl (all_told (disks_tell on.seen ran.start) refl)) one
            (omega (arith, one, nodes_are, confirm_is, served.fits.confirmed, served.fits.copied, served.fits.spread))
            (omega (arith, one, nodes_are, copies_are, served.fits.confirmed, served.fits.copied, served.fits.spread))
          where
            nodes_are : (plan_of ran.start).nodes ≡ served.plan.nodes
            nodes_are = ap (λ (p : Plan). p.nodes) ran.opened.begins.plan_is

            confirm_is : (plan_of ran.start).confirm ≡ served.plan.confirm
            confirm_is = ap (λ (p : Plan). p.confirm) ran.opened.begins.plan_is

            copies_are : (plan_of ran.start).copies ≡ served.plan.copies
            copies_are = ap (λ (p : Plan). p.copies) ran.opened.begins.plan_is

    no_line_named : Works on is_settled stores ends ending → NamesNone ending
    no_line_named works = ⊎_elim
        (λ (none : NoPlan stores ends ending). subst NamesNone (sym none.is) (unread ends.left0 ends.left1 none.answer told none.reads))
        (λ (some : NoStores on stores ends ending ⊎ ServedStores on is_settled stores ends ending). ⊎_elim
        (λ (none : NoStores on stores ends ending). before_run ending none.is)
        (λ (served : ServedStores on is_settled stores ends ending). ⊎_elim
        (λ (none : NotOpened on (record ends { left0 = served.between }) ending served.disks served.given). before_run ending none.before)
        (λ (ran : Ran on is_settled (record ends { left0 = served.between }) served.plan served.count ending served.disks served.given). by_run served ran)
        served.serves)
        some)
        works

-- the status of an ending that names no line, where nothing of the outside fails
fine_status : (ending : Ending) (status : ℕ) → NamesNone ending → status ≡ status_of ending → (ending ≡ Read → ⊥) → (ending ≡ Write → ⊥) → ((node : ℕ) → ending ≡ Store node → ⊥) → (status ≡ 0) ⊎ (status ≡ 7)
fine_status Done status none is read write store = inl is
fine_status (Line number fault) status none is read write store = absurd none
fine_status Read status none is read write store = absurd (read refl)
fine_status Write status none is read write store = absurd (write refl)
fine_status (Store node) status none is read write store = absurd (store node refl)
fine_status NoMemory status none is read write store = inr is

-- the last line changes it only where the sink failed or memory ran out
finish_fine : (held0 held1 : Option (List ℕ)) (ending : Ending) (status : ℕ) → Finishes held0 held1 ending status → NamesNone ending
    → (ending ≡ Read → ⊥) → (ending ≡ Write → ⊥) → ((node : ℕ) → ending ≡ Store node → ⊥) → (status ≡ 5 → ⊥) → (status ≡ 0) ⊎ (status ≡ 7)
finish_fine held0 held1 ending status finishes none read write store failed = ⊎_elim
    (λ (whole : (status ≡ status_of ending) × Appends held0 held1 (written_of (last_entries ending))). fine_status ending status none whole.0 read write store)
    (λ (part : ((status ≡ 5) ⊎ (status ≡ 7)) × ((front : List Entry) × (missing : List Entry) × (cut : List ℕ)
    × (last_entries ending ≡ front ++ missing) × IsCutEntry missing cut × Appends held0 held1 (written_of front ++ cut))).
    ⊎_elim (λ (five : status ≡ 5). absurd (failed five)) (λ (seven : status ≡ 7). inr seven) part.0)
    finishes

-- a good tape, over a source, a sink and stores that do not fail
pub complete : {D : Type 0} (on : View D) (is_settled : D → Type 0) (stores : Stores D) (ends : SourceAndSink) (middle : Option (List ℕ))
    (ending : Ending) (status before now reads0 reads1 writes0 writes1 writes2 : ℕ) (tape : List ℕ)
    → Works on is_settled stores (record ends { held1 = middle }) ending → Finishes middle ends.held1 ending status
    → (ending ≡ Read → Rose reads0 reads1) → (ending ≡ Write → Rose writes0 writes1)
    → ((node : ℕ) → ending ≡ Store node → StoreFailed on.seen on.faults stores.handed0 stores.handed1 stores.returned0 stores.returned1 before now node)
    → writes0 ≤ writes1 → writes1 ≤ writes2 → (status ≡ 5 → (ending ≡ Write) ⊎ Rose writes1 writes2)
    → ends.left0 ≡ Some tape → IsGoodTape tape → (Rose reads0 reads1 → ⊥) → (Rose writes0 writes2 → ⊥)
    → ((node : ℕ) → StoreFailed on.seen on.faults stores.handed0 stores.handed1 stores.returned0 stores.returned1 before now node → ⊥)
    → (status ≡ 0) ⊎ (status ≡ 7)
complete on is_settled stores ends middle ending status before now reads0 reads1 writes0 writes1 writes2 tape works finishes read write store first second failed told good reads writes stands =
    finish_fine middle ends.held1 ending status finishes
    (no_line_named tape good on is_settled stores (record ends { held1 = middle }) ending before now told stands works)
    (λ is. reads (read is)) no_write (λ node is. stands node (store node is))
    (λ five. ⊎_elim no_write (λ (rose : Rose writes1 writes2). writes (omega (arith, rose, first))) (failed five))
  where
    no_write : ending ≡ Write → ⊥
    no_write is = writes (omega (arith, write is, second))
