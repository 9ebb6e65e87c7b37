-- What the statuses of `serve` say, read off what was done.
use Rattle.std.proofs.Common.{◌≡◌, ◌≢◌, ◌⊎◌, inl, inr, ⊎_elim, ◌≤◌, ◌||◌, ℕ, true, false, List, [], ◌∷◌, ◌++◌, length, map, Option, Some, None, refl, sym, ap, ap₂, ◌∙◌, subst, arith, append_assoc, append-nil}
use Rattle.std.specs.Prelude.{IfSome, All, flat_map}
use Rattle.std.specs.List.{list_any}
use Rattle.std.specs.Io.KnownBytes.{Appends}
use Rattle.std.proofs.lemmas.List.Elements.{All-head, All-tail}
use Rattle.std.proofs.lemmas.Option.{none-some}
use Rattle.io_edge.specs.Causes.{Rose}
use Rattle.io_edge.specs.declared.yard.Protocol.{Protocol}
use Rattle.mail_model.specs.Lines.{HasNoLf, ended}
use Rattle.mail_model.specs.Plan.{Plan}
use Rattle.node_store.specs.Disks.{View}
use Rattle.cluster_config.specs.Rules.{first_broken}
use Rattle.cluster_config.proofs.Valid.{one_value}
use Rattle.word_works.specs.Checks.{KeepsRules, BreaksRule, NamesRule}
use Rattle.yard_stores.specs.Taken.{AllLooked}
use Rattle.mail_service.specs.Consoles.{is_stop, GoesOn, HasListened}
use Rattle.mail_service.specs.Services.{HasRun, RunsTo, console_end}
use Rattle.mail_service.specs.declared.console.ConsoleEnd.{ConsoleEnd}
use Rattle.mail_service.specs.declared.console.ConsoleEnd.TheVariants as console
use Rattle.mail_service.specs.declared.doors.DoorEnd.TheVariants as doors
use Rattle.mail_service.specs.declared.service.ServiceEnd.{ServiceEnd}
use Rattle.mail_service.specs.declared.service.ServiceEnd.TheVariants as service
use Rattle.mail_service.specs.declared.yards.Port.{Port}
use Rattle.serve_word.specs.declared.ending.ServeEnd.{ServeEnd}
use Rattle.serve_word.specs.declared.ending.ServeEnd.TheVariants.{Done, Broken, Early, Unread, ReadFault, Store, Doors}
use Rattle.cluster_config.specs.declared.plan_file.ServePlan.{ServePlan}
use Rattle.cluster_world.specs.Opens.{Opened, OpenFails, Refused}
use Rattle.cluster_world.specs.Worlds.{disks_of}
use Rattle.cluster_world.specs.declared.fault.OpenFault.{OpenFault}
use Rattle.cluster_world.specs.declared.world.World.{World}
use Rattle.board_service.specs.Served.{LeavesWorld, CountsServed}
use Rattle.serve_word.specs.Endings.{ending_of, ending_unopened, status_of, line_of, Finishes}
use Rattle.serve_word.specs.Plans.{IsPlanFile, IsUnread, ports_of}
use Rattle.serve_word.specs.Stores.{store_line, AreStores, NodeStoreFailed}
use Rattle.serve_word.specs.Serving.{Outside, outside, WasSilent, IsBeforeDoors, NoPlan, NoStores, NotOpened, Ran, ServesStores, ServedStores, ServesPlan}
use Rattle.serve_word.specs.Causes.{IsServeStatus, HasStop, HasStopped, DoorsFailed}
use Rattle.serve_word.proofs.Storing.{failed_opening}
use Rattle.serve_word.proofs.Ended.{store_unopened, done_end, early_end, doors_end, no_store, no_broken, broken_only, unread_plainly, zero_is, two_is, three_is, four_is, six_is, eight_is, whole_line, status_so}

-- two cuts of the same octets at their first LF are one
same_first : (l m xs ys : List ℕ) → HasNoLf l → HasNoLf m → l ++ 10 ∷ xs ≡ m ++ 10 ∷ ys → (l ≡ m) × (xs ≡ ys)
same_first [] [] xs ys one other is = (refl, let e : xs ≡ ys = cc in e)
same_first [] (y ∷ m) xs ys one other is = absurd (All-head (λ x. x ≢ 10) y m other (let e : y ≡ 10 = cc in e))
same_first (x ∷ l) [] xs ys one other is = absurd (All-head (λ x. x ≢ 10) x l one (let e : x ≡ 10 = cc in e))
same_first (x ∷ l) (y ∷ m) xs ys one other is =
    let first : x ≡ y = cc in
    let rest : l ++ 10 ∷ xs ≡ m ++ 10 ∷ ys = cc in
    let more = same_first l m xs ys (All-tail (λ x. x ≢ 10) x l one) (All-tail (λ x. x ≢ 10) y m other) rest in
    (ap₂ (λ z zs. z ∷ zs) first more.0, more.1)

-- a line with its LF is no octets without one
lf_within : (l xs taken : List ℕ) → HasNoLf taken → l ++ 10 ∷ xs ≡ taken → ⊥
lf_within [] xs [] none is = let never : 10 ∷ xs ≡ [] = is in cc
lf_within [] xs (t ∷ taken) none is = All-head (λ x. x ≢ 10) t taken none (let e : t ≡ 10 = cc in e)
lf_within (x ∷ l) xs [] none is = let never : x ∷ (l ++ 10 ∷ xs) ≡ [] = is in cc
lf_within (x ∷ l) xs (t ∷ taken) none is = lf_within l xs taken (All-tail (λ x. x ≢ 10) t taken none) (let e : l ++ 10 ∷ xs ≡ taken = cc in e)

-- lines that do not end a console, and a rest without an LF, have no line that ends it
no_stop : (ls ms : List (List ℕ)) (xs taken : List ℕ) → All HasNoLf ls → All GoesOn ms → HasNoLf taken → flat_map ended ls ++ xs ≡ flat_map ended ms ++ taken → list_any is_stop ls ≡ true → ⊥
no_stop [] ms xs taken each goes none is one = let never : false ≡ true = one in cc
no_stop (l ∷ ls) [] xs taken each goes none is one =
    lf_within l (flat_map ended ls ++ xs) taken none (sym (append_assoc l (10 ∷ []) (flat_map ended ls ++ xs)) ∙ sym (append_assoc (ended l) (flat_map ended ls) xs) ∙ is)
no_stop (l ∷ ls) (m ∷ ms) xs taken each goes none is one =
    let line = All-head GoesOn m ms goes in
    let cut = same_first l m (flat_map ended ls ++ xs) (flat_map ended ms ++ taken) (All-head HasNoLf l ls each) line.one
    (sym (append_assoc l (10 ∷ []) (flat_map ended ls ++ xs)) ∙ sym (append_assoc (ended l) (flat_map ended ls) xs) ∙ is
    ∙ append_assoc (ended m) (flat_map ended ms) taken ∙ append_assoc m (10 ∷ []) (flat_map ended ms ++ taken)) in
    let here : is_stop l ≡ false = ap is_stop cut.0 ∙ line.no_stop in
    no_stop ls ms xs taken (All-tail HasNoLf l ls each) (All-tail GoesOn m ms goes) none cut.1
    (sym (ap (λ b. b || list_any is_stop ls) here) ∙ one)

-- a console that has a line `stop` does not end early
pub no_early : (octets : List ℕ) (left : Option (List ℕ)) (line : ℕ) → HasStop octets → HasListened (Some octets) left (console.Early line) → ⊥
no_early octets None line stop listened = listened.took
no_early octets (Some rest) line stop listened =
    let at_end : rest ≡ [] = listened.ends.2 in
    let whole : octets ≡ flat_map ended listened.lines ++ listened.taken =
    listened.took ∙ ap (λ l. (flat_map ended listened.lines ++ listened.taken) ++ l) at_end ∙ append-nil (flat_map ended listened.lines ++ listened.taken) in
    no_stop stop.lines listened.lines stop.rest listened.taken stop.each listened.each listened.ends.1 (sym stop.whole ∙ whole) stop.one

-- octets that keep all rules break none
pub not_both : (octets : List ℕ) (rule : ℕ) → KeepsRules octets → BreaksRule octets rule → ⊥
not_both octets rule keeps breaks = ⊎_elim (λ none. none.1 keeps.0 keeps.1)
    (λ some. none-some rule (sym keeps.2 ∙ ap first_broken (one_value octets some.0 keeps.0 some.1 keeps.1) ∙ some.2)) breaks

-- how the console ended is told
heard : (answer : ServiceEnd) (end : ConsoleEnd) (left0 left1 : Option (List ℕ)) → IfSome (console_end answer) (λ console. HasListened left0 left1 console) → console_end answer ≡ Some end → HasListened left0 left1 end
heard answer end left0 left1 told is = subst (λ (e : Option ConsoleEnd). IfSome e (λ console. HasListened left0 left1 console)) is told

module _ {D G X : Type 0} (on : View D) (is_settled : D → Type 0) (left : G → Option (List X)) (quiets faults : G → ℕ) (told : Option (List ℕ)) (out : Outside D G) where
  -- what was done, where the ending is one that only a service comes to
  ran_only : (ending : ServeEnd) → ServesPlan on is_settled left quiets faults told out ending → (IsBeforeDoors ending → ⊥) → (status_of ending ≡ 2 → ⊥) → (status_of ending ≡ 4 → ⊥) → (status_of ending ≡ 7 → ⊥)
      → (served : ServedStores on is_settled left quiets faults told out ending) × Ran on is_settled left quiets faults served.plan out ending served.disks served.given
  ran_only ending works later two four seven = ⊎_elim
      (λ (none : NoPlan told out ending). absurd (unread_plainly none.fault ending (sym none.is) two four seven))
      (λ some. ⊎_elim (λ (none : NoStores on told out ending). absurd (later none.is))
      (λ (served : ServedStores on is_settled left quiets faults told out ending). ⊎_elim
      (λ (none : NotOpened on out ending served.disks served.given). absurd (later none.is))
      (λ (ran : Ran on is_settled left quiets faults served.plan out ending served.disks served.given). (served, ran)) served.serves) some) works

  -- status 0
  pub stopped : (ending : ServeEnd) → ServesPlan on is_settled left quiets faults told out ending → ending ≡ Done
      → HasStopped left quiets faults told out.left0 out.left1 out.opened0 out.opened1 out.closed0 out.closed1
  stopped ending works is =
      let only = ran_only ending works (λ before. subst IsBeforeDoors is before) (λ e. omega (arith, e, ap status_of is)) (λ e. omega (arith, e, ap status_of is)) (λ e. omega (arith, e, ap status_of is)) in
      let ran = only.1 in
      let answer = done_end ran.end (sym ran.is ∙ is) in
      let ends : RunsTo left quiets faults (ports_of only.0.plan) (service.Served console.Stopped doors.Quiet) ran.doors.before ran.doors.after =
      subst (λ (a : ServiceEnd). RunsTo left quiets faults (ports_of only.0.plan) a ran.doors.before ran.doors.after) answer ran.doors.ends in
      record {
        plan = only.0.plan;
        reads = only.0.reads;
        listened = heard ran.end console.Stopped out.left0 out.left1 ran.listened (ap console_end answer);
        before = ran.doors.before;
        after = ran.doors.after;
        places = ends.0;
        opened = ran.doors.opened;
        later = ran.doors.later;
        quiet = ends.1;
        closed = ran.doors.closed;
      }

  -- status 3
  pub early : (ending : ServeEnd) (line : ℕ) → ServesPlan on is_settled left quiets faults told out ending → ending ≡ Early line → HasListened out.left0 out.left1 (console.Early line)
  early ending line works is =
      let only = ran_only ending works (λ before. subst IsBeforeDoors is before) (λ e. omega (arith, e, ap status_of is)) (λ e. omega (arith, e, ap status_of is)) (λ e. omega (arith, e, ap status_of is)) in
      heard only.1.end (console.Early line) out.left0 out.left1 only.1.listened (early_end only.1.end line (sym only.1.is ∙ is))

  -- status 2: nothing was written before the last line
  pub broken : (ending : ServeEnd) (rule : ℕ) → ServesPlan on is_settled left quiets faults told out ending → ending ≡ Broken rule
      → (out.held1 ≡ out.held0) × ((octets : List ℕ) × IfSome told (λ held. octets ≡ held) × BreaksRule octets rule)
  broken ending rule works is = ⊎_elim
      (λ (none : NoPlan told out ending). (none.silent.held, subst (IsUnread told) (broken_only none.fault rule (sym none.is ∙ is)) none.unread))
      (λ some. absurd (⊎_elim (λ (none : NoStores on told out ending). subst IsBeforeDoors is none.is)
      (λ (served : ServedStores on is_settled left quiets faults told out ending). ⊎_elim
      (λ (none : NotOpened on out ending served.disks served.given). subst IsBeforeDoors is none.is)
      (λ (ran : Ran on is_settled left quiets faults served.plan out ending served.disks served.given). no_broken ran.end rule (sym ran.is ∙ is)) served.serves) some)) works

  -- status 6: so it is there
  pub unwritten : (ending : ServeEnd) (node : ℕ) → ServesPlan on is_settled left quiets faults told out ending → ending ≡ Store node → out.held1 ≡ out.held0
  unwritten ending node works is = ⊎_elim
      (λ (none : NoPlan told out ending). none.silent.held)
      (λ some. ⊎_elim (λ (none : NoStores on told out ending). none.silent.held)
      (λ (served : ServedStores on is_settled left quiets faults told out ending). ⊎_elim
      (λ (none : NotOpened on out ending served.disks served.given). none.silent.held)
      (λ (ran : Ran on is_settled left quiets faults served.plan out ending served.disks served.given). absurd (no_store ran.end node (sym ran.is ∙ is))) served.serves) some) works

-- one of the doors failed
pub doors_failed : {G X : Type 0} (left : G → Option (List X)) (quiets faults : G → ℕ) (ports : List Port) (answer : ServiceEnd) (before now : ℕ) (opened0 opened1 closed0 closed1 : Option (List (ℕ × Protocol × G)))
    → HasRun left quiets faults ports answer opened0 opened1 closed0 closed1 → (answer ≡ service.Unopened → Rose before now) → ending_of answer ≡ Doors → DoorsFailed left quiets faults before now opened0 opened1 closed0 closed1
doors_failed left quiets faults ports answer before now opened0 opened1 closed0 closed1 ran unopened is = ⊎_elim (λ none. inl (unopened none))
    (λ some.
    let ends : RunsTo left quiets faults ports (service.Served some.0 doors.Failed) ran.before ran.after = subst (λ (a : ServiceEnd). RunsTo left quiets faults ports a ran.before ran.after) some.1 ran.ends in
    inr (record { before = ran.before; after = ran.after; opened = ran.opened; failed = ends.1; closed = ran.closed })) (doors_end answer is)

-- Each clause by the status, of what was done up to the last line, and of that line.
module _ {D G X : Type 0} (on : View D) (is_settled : D → Type 0) (left : G → Option (List X)) (quiets faults : G → ℕ) (told : Option (List ℕ)) (out : Outside D G) (last : Option (List ℕ)) (ending : ServeEnd) (status : ℕ)
    (works : ServesPlan on is_settled left quiets faults told out ending) (finishes : Finishes out.held1 last ending status) where
  -- the ending where the status is neither 5 nor 7
  ended_so : (n : ℕ) → status ≡ n → (n ≡ 5 → ⊥) → (n ≡ 7 → ⊥) → (status_of ending ≡ n) × Appends out.held1 last (line_of ending)
  ended_so n is five seven = let whole = whole_line out.held1 last ending status finishes (λ e. five (sym is ∙ e)) (λ e. seven (sym is ∙ e)) in (sym whole.0 ∙ is, whole.1)

  pub has_stopped : status ≡ 0 → HasStopped left quiets faults told out.left0 out.left1 out.opened0 out.opened1 out.closed0 out.closed1
  has_stopped is = stopped on is_settled left quiets faults told out ending works (zero_is ending (ended_so 0 is (λ e. omega (arith, e)) (λ e. omega (arith, e))).0)

  pub names_rule : status ≡ 2 → (rule : ℕ) × NamesRule told out.held0 last rule
  names_rule is =
      let so = ended_so 2 is (λ e. omega (arith, e)) (λ e. omega (arith, e)) in
      let rule = two_is ending so.0 in
      let was = broken on is_settled left quiets faults told out ending rule.0 works rule.1 in
      (rule.0, (subst (λ (held : Option (List ℕ)). Appends held last (line_of (Broken rule.0))) was.0 (subst (λ (e : ServeEnd). Appends out.held1 last (line_of e)) rule.1 so.1), was.1))

  pub ended_early : status ≡ 3 → (line : ℕ) × HasListened out.left0 out.left1 (console.Early line)
  ended_early is =
      let line = three_is ending (ended_so 3 is (λ e. omega (arith, e)) (λ e. omega (arith, e))).0 in
      (line.0, early on is_settled left quiets faults told out ending line.0 works line.1)

  pub four_ended : status ≡ 4 → (ending ≡ Unread) ⊎ (ending ≡ ReadFault)
  four_ended is = four_is ending (ended_so 4 is (λ e. omega (arith, e)) (λ e. omega (arith, e))).0

  pub names_store : (failed : ℕ → Type 0) → ((node : ℕ) → ending ≡ Store node → failed node) → status ≡ 6 → (node : ℕ) × Appends out.held0 last (store_line node) × failed node
  names_store failed cause is =
      let so = ended_so 6 is (λ e. omega (arith, e)) (λ e. omega (arith, e)) in
      let node = six_is ending so.0 in
      let unsaid = unwritten on is_settled left quiets faults told out ending node.0 works node.1 in
      (node.0, subst (λ (held : Option (List ℕ)). Appends held last (store_line node.0)) unsaid (subst (λ (e : ServeEnd). Appends out.held1 last (line_of e)) node.1 so.1), cause node.0 node.1)

  pub eight_ended : status ≡ 8 → ending ≡ Doors
  eight_ended is = eight_is ending (ended_so 8 is (λ e. omega (arith, e)) (λ e. omega (arith, e))).0

  pub one_of : IsServeStatus status
  one_of = status_so out.held1 last ending status finishes

-- Where nothing failed, a good plan file and a console with a line `stop` come to status 0 or 7.
pub completes : (status : ℕ) (told left0 left1 held0 held1 : Option (List ℕ)) (octets input : List ℕ) (failed : ℕ → Type 0) (unseen read write shut : Type 0) → IsServeStatus status
    → (status ≡ 2 → (rule : ℕ) × NamesRule told held0 held1 rule) → (status ≡ 3 → (line : ℕ) × HasListened left0 left1 (console.Early line))
    → (status ≡ 4 → unseen ⊎ read) → (status ≡ 5 → write) → (status ≡ 6 → (node : ℕ) × failed node) → (status ≡ 8 → shut)
    → told ≡ Some octets → KeepsRules octets → left0 ≡ Some input → HasStop input → (unseen → ⊥) → (read → ⊥) → (write → ⊥) → ((node : ℕ) → failed node → ⊥) → (shut → ⊥)
    → (status ≡ 0) ⊎ (status ≡ 7)
completes status told left0 left1 held0 held1 octets input failed unseen read write shut some two three four five six eight is keeps left stop no_unseen no_read no_write no_failed no_shut =
    ⊎_elim (λ e. inl e)
    (λ a. ⊎_elim (λ e. absurd (broke (two e)))
    (λ b. ⊎_elim (λ e. absurd (cut (three e)))
    (λ c. ⊎_elim (λ e. absurd (⊎_elim no_unseen no_read (four e)))
    (λ d. ⊎_elim (λ e. absurd (no_write (five e)))
    (λ f. ⊎_elim (λ e. absurd (no_failed (six e).0 (six e).1))
    (λ g. ⊎_elim (λ e. inr e) (λ e. absurd (no_shut (eight e))) g) f) d) c) b) a) some
  where
    broke : (rule : ℕ) × NamesRule told held0 held1 rule → ⊥
    broke (rule, named) =
        let read = named.1 in
        let same : read.0 ≡ octets = subst (λ (t : Option (List ℕ)). IfSome t (λ held. read.0 ≡ held)) is read.1 in
        not_both octets rule keeps (subst (λ (o : List ℕ). BreaksRule o rule) same read.2)

    cut : (line : ℕ) × HasListened left0 left1 (console.Early line) → ⊥
    cut (line, listened) = no_early input left1 line stop (subst (λ (l : Option (List ℕ)). HasListened l left1 (console.Early line)) left listened)

-- the cluster was opened over its stores, and served
pub ran : {D G X : Type 0} (on : View D) (is_settled : D → Type 0) (left : G → Option (List X)) (quiets faults : G → ℕ) (out : Outside D G) (plan names : Plan) (ports : List Port) (file : ServePlan) (ending : ServeEnd) (disks given : List D)
    (answer : ServiceEnd) (start last : World D) → plan ≡ file.plan → names ≡ file.plan → ports ≡ ports_of file → ending ≡ ending_of answer → Opened on is_settled plan disks start
    → LeavesWorld on names (console_end answer) start last → CountsServed left on names answer start last out.opened0 out.opened1 → given ≡ disks_of last → HasRun left quiets faults ports answer out.opened0 out.opened1 out.closed0 out.closed1
    → IfSome (console_end answer) (λ console. HasListened out.left0 out.left1 console) → (console_end answer ≡ None → (out.left1 ≡ out.left0) × (out.held1 ≡ out.held0))
    → ServesStores on is_settled left quiets faults file out ending disks given
ran on is_settled left quiets faults out plan names ports file ending disks given answer start last plan_is names_are ports_are is opened leaves counted closed run heard unserved = inr (record {
  end = answer;
  is = is;
  start = start;
  last = last;
  opened = subst (λ (p : Plan). Opened on is_settled p disks start) plan_is opened;
  leaves = subst (λ (p : Plan). LeavesWorld on p (console_end answer) start last) names_are leaves;
  counted = subst (λ (p : Plan). CountsServed left on p answer start last out.opened0 out.opened1) names_are counted;
  stores = closed;
  doors = subst (λ (p : List Port). HasRun left quiets faults p answer out.opened0 out.opened1 out.closed0 out.closed1) ports_are run;
  listened = heard;
  unserved = unserved;
})

-- the store of a node failed as the cluster was opened
pub refused_store : {D : Type 0} (on : View D) (fault : OpenFault) (old new : List D) (node : ℕ) → Refused on fault old new → ending_unopened fault ≡ Store node → NodeStoreFailed on.seen on.faults node old new
refused_store on fault old new node refused is =
    failed_opening on.seen on.faults node old new (subst (λ (f : OpenFault). OpenFails on.faults f old new) (store_unopened fault node is) refused.cause)

module _ {D G X : Type 0} (on : View D) (is_settled : D → Type 0) (left : G → Option (List X)) (quiets faults : G → ℕ) (file : ServePlan) (ending : ServeEnd) where
  -- not all stores were there
  pub not_stored : (told : Option (List ℕ)) (out : Outside D G) (taken given : List D) → IsPlanFile told file → IsBeforeDoors ending → WasSilent out → AreStores out.handed0 out.handed1 out.returned0 out.returned1 taken given
      → map on.seen given ≡ map on.seen taken → ServesPlan on is_settled left quiets faults told out ending
  not_stored told out taken given reads before silent are kept = inr (inl (record { plan = file; reads = reads; is = before; silent = silent; taken = taken; given = given; are = are; kept = kept }))

  -- they were
  pub stored : (told : Option (List ℕ)) (out : Outside D G) (taken disks given : List D) → IsPlanFile told file → length taken ≡ file.plan.nodes → AllLooked on.seen on.faults taken disks
      → ServesStores on is_settled left quiets faults file out ending disks given → AreStores out.handed0 out.handed1 out.returned0 out.returned1 taken given → ServesPlan on is_settled left quiets faults told out ending
  stored told out taken disks given reads one_each looked serves are =
      inr (inr (record { plan = file; reads = reads; taken = taken; disks = disks; given = given; one_each = one_each; looked = looked; serves = serves; are = are }))

  -- stores that are handed out before and given back afterwards are nothing to what is done between
  other_stores : (h0 h1 r0 r1 k0 k1 s0 s1 : Option (List (ℕ × ℕ × D))) (o0 o1 c0 c1 : Option (List (ℕ × Protocol × G))) (l0 l1 w0 w1 : Option (List ℕ)) (disks given : List D)
      → ServesStores on is_settled left quiets faults file (outside h0 h1 r0 r1 o0 o1 c0 c1 l0 l1 w0 w1) ending disks given → ServesStores on is_settled left quiets faults file (outside k0 k1 s0 s1 o0 o1 c0 c1 l0 l1 w0 w1) ending disks given
  other_stores h0 h1 r0 r1 k0 k1 s0 s1 o0 o1 c0 c1 l0 l1 w0 w1 disks given serves = ⊎_elim
      (λ (none : NotOpened on (outside h0 h1 r0 r1 o0 o1 c0 c1 l0 l1 w0 w1) ending disks given).
      inl (record { is = none.is; silent = record { opened = none.silent.opened; closed = none.silent.closed; left = none.silent.left; held = none.silent.held }; handed = none.handed }))
      (λ (run : Ran on is_settled left quiets faults file (outside h0 h1 r0 r1 o0 o1 c0 c1 l0 l1 w0 w1) ending disks given).
      inr (record {
        end = run.end;
        is = run.is;
        start = run.start;
        last = run.last;
        opened = run.opened;
        leaves = run.leaves;
        counted = run.counted;
        stores = run.stores;
        doors = run.doors;
        listened = run.listened;
        unserved = run.unserved;
      })) serves

  pub carried : (h0 h1 r0 r1 k0 k1 s0 s1 : Option (List (ℕ × ℕ × D))) (o0 o1 c0 c1 p0 p1 d0 d1 : Option (List (ℕ × Protocol × G))) (l0 l1 w0 w1 : Option (List ℕ)) (disks given : List D)
      → o0 ≡ p0 → o1 ≡ p1 → c0 ≡ d0 → c1 ≡ d1
      → ServesStores on is_settled left quiets faults file (outside h0 h1 r0 r1 o0 o1 c0 c1 l0 l1 w0 w1) ending disks given → ServesStores on is_settled left quiets faults file (outside k0 k1 s0 s1 p0 p1 d0 d1 l0 l1 w0 w1) ending disks given
  carried h0 h1 r0 r1 k0 k1 s0 s1 o0 o1 c0 c1 p0 p1 d0 d1 l0 l1 w0 w1 disks given a b e f serves =
      subst (λ x. ServesStores on is_settled left quiets faults file (outside k0 k1 s0 s1 p0 p1 d0 x l0 l1 w0 w1) ending disks given) f
      (subst (λ x. ServesStores on is_settled left quiets faults file (outside k0 k1 s0 s1 p0 p1 x c1 l0 l1 w0 w1) ending disks given) e
      (subst (λ x. ServesStores on is_settled left quiets faults file (outside k0 k1 s0 s1 p0 x c0 c1 l0 l1 w0 w1) ending disks given) b
      (subst (λ x. ServesStores on is_settled left quiets faults file (outside k0 k1 s0 s1 x o1 c0 c1 l0 l1 w0 w1) ending disks given) a
      (other_stores h0 h1 r0 r1 k0 k1 s0 s1 o0 o1 c0 c1 l0 l1 w0 w1 disks given serves))))

-- what is said from a later beginning on, where nothing was taken until then
pub begun : {D G X : Type 0} (on : View D) (is_settled : D → Type 0) (left : G → Option (List X)) (quiets faults : G → ℕ) (told : Option (List ℕ)) (ending : ServeEnd) (h0 k0 h1 r0 s0 r1 : Option (List (ℕ × ℕ × D)))
    (o0 p0 o1 c0 d0 c1 : Option (List (ℕ × Protocol × G))) (l0 l1 w0 w1 : Option (List ℕ)) → h0 ≡ k0 → r0 ≡ s0 → o0 ≡ p0 → c0 ≡ d0
    → ServesPlan on is_settled left quiets faults told (outside h0 h1 r0 r1 o0 o1 c0 c1 l0 l1 w0 w1) ending → ServesPlan on is_settled left quiets faults told (outside k0 h1 s0 r1 p0 o1 d0 c1 l0 l1 w0 w1) ending
begun on is_settled left quiets faults told ending h0 k0 h1 r0 s0 r1 o0 p0 o1 c0 d0 c1 l0 l1 w0 w1 a b e f serves =
    subst (λ x. ServesPlan on is_settled left quiets faults told (outside k0 h1 s0 r1 p0 o1 x c1 l0 l1 w0 w1) ending) f
    (subst (λ x. ServesPlan on is_settled left quiets faults told (outside k0 h1 s0 r1 x o1 c0 c1 l0 l1 w0 w1) ending) e
    (subst (λ x. ServesPlan on is_settled left quiets faults told (outside k0 h1 x r1 o0 o1 c0 c1 l0 l1 w0 w1) ending) b
    (subst (λ x. ServesPlan on is_settled left quiets faults told (outside x h1 r0 r1 o0 o1 c0 c1 l0 l1 w0 w1) ending) a serves)))

pub doors_begun : {G X : Type 0} (left : G → Option (List X)) (quiets faults : G → ℕ) (n m now : ℕ) (o0 p0 o1 c0 d0 c1 : Option (List (ℕ × Protocol × G))) → n ≡ m → o0 ≡ p0 → c0 ≡ d0
    → DoorsFailed left quiets faults n now o0 o1 c0 c1 → DoorsFailed left quiets faults m now p0 o1 d0 c1
doors_begun left quiets faults n m now o0 p0 o1 c0 d0 c1 a b e failed =
    subst (λ x. DoorsFailed left quiets faults m now p0 o1 x c1) e (subst (λ x. DoorsFailed left quiets faults m now x o1 c0 c1) b (subst (λ x. DoorsFailed left quiets faults x now o0 o1 c0 c1) a failed))

-- a count that rose before, or afterwards
pub rose_on : (before mid now : ℕ) → Rose before mid → mid ≤ now → Rose before now
rose_on before mid now rose later = omega (arith, rose, later)

pub rose_since : (before mid now : ℕ) → before ≤ mid → Rose mid now → Rose before now
rose_since before mid now later rose = omega (arith, rose, later)
