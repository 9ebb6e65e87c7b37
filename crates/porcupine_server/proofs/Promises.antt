-- All promises are kept, over the octets that the program read and wrote and the stores that it gave back.
use Rattle.std.proofs.Common.{◌≡◌, ◌≢◌, ◌⊎◌, inl, inr, ⊎_elim, ◌<◌, ℕ, true, List, [], ◌∷◌, ◌++◌, length, drop, map, flat_map, All, Option, Some, Result, Ok, Err, refl, sym, ap, ◌∙◌, subst, arith, append_assoc, length-append, codes}
use Rattle.std.specs.List.{slice_index}
use Rattle.std.specs.Fmt.{decimal}
use Rattle.std.specs.Io.KnownBytes.{Appends}
use Rattle.std.proofs.lemmas.List.{append-nil, map-append}
use Rattle.std.proofs.lemmas.List.Concat.{flat_map-append}
use Rattle.std.proofs.lemmas.List.Elements.{All-nil, All-cons, All-head, All-tail, All-append}
use Rattle.yard_stores.specs.Taken.{numbered_stores, TellsAll}
use Rattle.io_edge.proofs.Known.{consumes_more, appends_more}
use Rattle.mail_model.specs.Lines.{HasNoLf, ended}
use Rattle.mail_model.specs.Plan.{Plan}
use Rattle.mail_model.specs.Transcript.{Entry, entry_line, written_of}
use Rattle.mail_model.specs.Transcript.Entry.{Said, Event, Refused}
use Rattle.mail_model.specs.Site.{TapeFault, fault_name}
use Rattle.mail_model.specs.Shown.{lines_to}
use Rattle.mail_model.proofs.OneLine.{by_test, decimal_no_lf}
use Rattle.mail_model.specs.Tape.{Draft, Order, tape_order}
use Rattle.mail_model.specs.Tape.Order.{Open, Say, Feed, Close, GiveUp, Moves, End}
use Rattle.session_model.specs.Sessions.{Session}
use Rattle.session_model.specs.Acts.{Act}
use Rattle.session_model.specs.Kept.{IsEnding}
use Rattle.session_model.specs.Run.{Stop, Made, FirstStep, IsLeftOff, MayMiss, IsCutShort}
use Rattle.session_model.specs.Run.Stop.{BehindLine, Denied}
use Rattle.fresh_sessions.specs.Kept.{IsRun}
use Rattle.node_store.specs.Disks.{View}
use Rattle.cluster_world.specs.Outcomes.{made_of}
use Rattle.cluster_world.specs.Worlds.{plan_of, disks_tell}
use Rattle.cluster_world.proofs.Chained.{plan_stays}
use Rattle.drive_tape.specs.declared.drove.Drove.{Drove}
use Rattle.drive_tape.specs.declared.drove.Drove.TheVariants as drove
use Rattle.drive_tape.specs.Faults.{tape_fault_seen}
use Rattle.drive_tape.specs.Parts.{IsCutEntry, IsPartOfLine}
use Rattle.drive_tape.specs.Drive.{Stops, stop_of}
use Rattle.drive_tape.specs.Plans.{ReadsHead, PlanStops}
use Rattle.drive_tape.specs.Kept.{AreBlindLines}
use Rattle.drive_tape.proofs.Settled.{whole_run}
use Rattle.porcupine_server.specs.declared.ending.Ending.{Ending}
use Rattle.porcupine_server.specs.declared.ending.Ending.TheVariants.{Done, Line, Read, Write, Store, NoMemory}
use Rattle.porcupine_server.specs.Endings.{ending_of, status_of, last_entries, Finishes}
use Rattle.porcupine_server.specs.Works.{SourceAndSink, Stores, Works, NoPlan, NoStores, ServedStores, NotOpened, Ran, IsBeforeRun}
use Rattle.porcupine_server.specs.Promises.{HasKept, KeepsOver, IsStatusOf, IsLeft, IsRefused, HasFaultBehind, IsDeniable, IsCut, all_tell}
use Rattle.porcupine_server.proofs.LeftOut.{fault_in_line, has_fault_behind}

abbrev IsNoLf : ℕ → Type 0
IsNoLf x = x ≢ 10

abbrev AreLines : List Entry → Type 0
AreLines entries = All HasNoLf (map entry_line entries)

name_none : (why : TapeFault) → HasNoLf (fault_name why)
name_none TapeFault.BadPlan = by_test (codes "BadPlan") refl
name_none TapeFault.BadLine = by_test (codes "BadLine") refl
name_none TapeFault.NoSuchSession = by_test (codes "NoSuchSession") refl
name_none TapeFault.TooManySessions = by_test (codes "TooManySessions") refl
name_none TapeFault.NoSuchNode = by_test (codes "NoSuchNode") refl
name_none TapeFault.NodeLost = by_test (codes "NodeLost") refl
name_none TapeFault.NodeDown = by_test (codes "NodeDown") refl
name_none TapeFault.NodeUp = by_test (codes "NodeUp") refl
name_none TapeFault.NoSuchLetter = by_test (codes "NoSuchLetter") refl
name_none TapeFault.NoSuchTicket = by_test (codes "NoSuchTicket") refl
name_none TapeFault.NotAGroup = by_test (codes "NotAGroup") refl
name_none TapeFault.Worn = by_test (codes "Worn") refl
name_none TapeFault.NoRoom = by_test (codes "NoRoom") refl
name_none TapeFault.TapeTooLong = by_test (codes "TapeTooLong") refl

refused_line : (text : List ℕ) → HasNoLf text → AreLines (Refused text ∷ [])
refused_line text none = All-cons HasNoLf (33 ∷ 32 ∷ text) [] (All-cons IsNoLf 33 (32 ∷ text) (λ e. omega (arith, e)) (All-cons IsNoLf 32 text (λ e. omega (arith, e)) none)) (All-nil HasNoLf)

line_none : (n : ℕ) (why : TapeFault) → HasNoLf (codes "line " ++ decimal n ++ 32 ∷ fault_name why)
line_none n why = All-append IsNoLf (codes "line ") (decimal n ++ 32 ∷ fault_name why) (by_test (codes "line ") refl)
    (All-append IsNoLf (decimal n) (32 ∷ fault_name why) (decimal_no_lf n) (All-cons IsNoLf 32 (fault_name why) (λ e. omega (arith, e)) (name_none why)))

-- the last line is a line
last_lines : (ending : Ending) → AreLines (last_entries ending)
last_lines Done = All-nil HasNoLf
last_lines (Line number why) = refused_line _ (line_none number (tape_fault_seen why))
last_lines Read = refused_line (codes "read") (by_test (codes "read") refl)
last_lines Write = All-nil HasNoLf
last_lines (Store node) = refused_line _ (All-append IsNoLf (codes "disk 0 ") (decimal node) (by_test (codes "disk 0 ") refl) (decimal_no_lf node))
last_lines NoMemory = All-nil HasNoLf

last_is_ending : (ending : Ending) → IsEnding (last_entries ending)
last_is_ending Done = tt
last_is_ending (Line number why) = tt
last_is_ending Read = tt
last_is_ending Write = tt
last_is_ending (Store node) = tt
last_is_ending NoMemory = tt

-- a prefix of a last line is one
front_ends : (front missing : List Entry) → IsEnding (front ++ missing) → IsEnding front
front_ends [] missing ends = tt
front_ends (Refused text ∷ []) missing ends = tt
front_ends (Refused text ∷ entry ∷ front) missing ends = absurd ends
front_ends (Said session text ∷ front) missing ends = absurd ends
front_ends (Event text ∷ front) missing ends = absurd ends

-- it is said to no session
ending_unsaid : (entries : List Entry) → IsEnding entries → (k : ℕ) → lines_to k entries ≡ []
ending_unsaid [] ends k = refl
ending_unsaid (Refused text ∷ []) ends k = refl
ending_unsaid (Refused text ∷ entry ∷ entries) ends k = absurd ends
ending_unsaid (Said session text ∷ entries) ends k = absurd ends
ending_unsaid (Event text ∷ entries) ends k = absurd ends

-- what is said of lines is said of each part of them
front_lines : (front missing : List Entry) → All HasNoLf (map entry_line (front ++ missing)) → All HasNoLf (map entry_line front)
front_lines [] missing all = All-nil _
front_lines (entry ∷ front) missing all =
    All-cons HasNoLf (entry_line entry) (map entry_line front) (All-head HasNoLf (entry_line entry) (map entry_line (front ++ missing)) all)
    (front_lines front missing (All-tail HasNoLf (entry_line entry) (map entry_line (front ++ missing)) all))

missing_lines : (front missing : List Entry) → All HasNoLf (map entry_line (front ++ missing)) → All HasNoLf (map entry_line missing)
missing_lines [] missing all = all
missing_lines (entry ∷ front) missing all = missing_lines front missing (All-tail HasNoLf (entry_line entry) (map entry_line (front ++ missing)) all)

-- a prefix of a line with its LF that is not the whole of it
front_of_line : (line cut rest : List ℕ) → HasNoLf line → 0 < length rest → ended line ≡ cut ++ rest → HasNoLf cut
front_of_line line [] rest none some parts = All-nil _
front_of_line [] (y ∷ cut) rest none some parts = absurd (omega (arith, some, ap length parts, length-append cut rest))
front_of_line (x ∷ line) (y ∷ cut) rest none some parts =
    All-cons (λ (z : ℕ). z ≢ 10) y cut (subst (λ (z : ℕ). z ≢ 10) (ap (λ (l : List ℕ). slice_index l 0) parts) (All-head (λ (z : ℕ). z ≢ 10) x line none))
    (front_of_line line cut rest (All-tail (λ (z : ℕ). z ≢ 10) x line none) some (ap (drop 1) parts))

cut_line : (missing : List Entry) (cut : List ℕ) → IsCutEntry missing cut → All HasNoLf (map entry_line missing) → HasNoLf cut
cut_line missing cut part all = ⊎_elim (λ (none : cut ≡ []). subst HasNoLf (sym none) (All-nil _))
    (λ (some : IsPartOfLine missing cut). front_of_line (entry_line some.entry) cut some.rest
    (All-head HasNoLf (entry_line some.entry) (map entry_line some.more) (subst (λ (es : List Entry). All HasNoLf (map entry_line es)) some.are all)) some.some some.whole)
    part

-- what the last line, or the part of it that was written, is
pub record Last (held0 held1 : Option (List ℕ)) (ending : Ending) (status : ℕ) : Type 0 where
  pub says : (status ≡ status_of ending) ⊎ ((status ≡ 5) ⊎ (status ≡ 7))
  pub front : List Entry
  pub cut : List ℕ
  pub gave : Appends held0 held1 (written_of front ++ cut)
  pub each : AreLines front
  pub rest : HasNoLf cut
  pub ends : IsEnding front
  pub none : last_entries ending ≡ [] → (front ≡ []) × (cut ≡ [])

lasts : (held0 held1 : Option (List ℕ)) (ending : Ending) (status : ℕ) → Finishes held0 held1 ending status → Last held0 held1 ending status
lasts held0 held1 ending status finishes = ⊎_elim
    (λ (whole : (status ≡ status_of ending) × Appends held0 held1 (written_of (last_entries ending))). record {
      says = inl whole.0;
      front = last_entries ending;
      cut = [];
      gave = subst (Appends held0 held1) (sym (append-nil (written_of (last_entries ending)))) whole.1;
      each = last_lines ending;
      rest = All-nil IsNoLf;
      ends = last_is_ending ending;
      none = λ none. (none, refl);
    })
    (λ (part : ((status ≡ 5) ⊎ (status ≡ 7)) × ((front : List Entry) × (missing : List Entry) × (cut : List ℕ)
    × (last_entries ending ≡ front ++ missing) × IsCutEntry missing cut × Appends held0 held1 (written_of front ++ cut))).
    let p = part.1 in record {
      says = inr part.0;
      front = p.0;
      cut = p.2;
      gave = p.5;
      each = front_lines p.0 p.1 (subst AreLines p.3 (last_lines ending));
      rest = cut_line p.1 p.2 p.4 (missing_lines p.0 p.1 (subst AreLines p.3 (last_lines ending)));
      ends = front_ends p.0 p.1 (subst IsEnding p.3 (last_is_ending ending));
      none = λ none. nothing p.0 p.1 p.2 (sym p.3 ∙ none) p.4;
    })
    finishes
  where
    nothing : (front missing : List Entry) (cut : List ℕ) → front ++ missing ≡ [] → IsCutEntry missing cut → (front ≡ []) × (cut ≡ [])
    nothing [] [] cut is part = (refl, ⊎_elim (λ (none : cut ≡ []). none) (λ (some : IsPartOfLine [] cut). absurd (omega (arith, ap length some.are))) part)
    nothing [] (entry ∷ missing) cut is part = absurd (omega (arith, ap length is))
    nothing (entry ∷ front) missing cut is part = absurd (omega (arith, ap length is))

written_more : (xs ys : List Entry) → written_of (xs ++ ys) ≡ written_of xs ++ written_of ys
written_more xs ys = flat_map-append (λ (entry : Entry). ended (entry_line entry)) xs ys

lines_more : (xs ys : List Entry) → AreLines xs → AreLines ys → AreLines (xs ++ ys)
lines_more xs ys all more = subst (All HasNoLf) (sym (map-append entry_line xs ys)) (All-append HasNoLf (map entry_line xs) (map entry_line ys) all more)

-- the status is none of these
not_it : (status own other : ℕ) → (status ≡ own) ⊎ ((status ≡ 5) ⊎ (status ≡ 7)) → status ≡ other → (own ≡ other → ⊥) → (5 ≡ other → ⊥) → (7 ≡ other → ⊥) → ⊥
not_it status own other says is a b c = ⊎_elim (λ e. a (sym e ∙ is)) (λ cut. ⊎_elim (λ e. b (sym e ∙ is)) (λ e. c (sym e ∙ is)) cut) says

-- the work was not done
not_done : (ending : Ending) (status : ℕ) → (ending ≡ Done → ⊥) → (status ≡ status_of ending) ⊎ ((status ≡ 5) ⊎ (status ≡ 7)) → status ≡ 0 → ⊥
not_done Done status other says is = other refl
not_done (Line number why) status other says is = not_it status 3 0 says is (λ e. absurd (omega (arith, e))) (λ e. absurd (omega (arith, e))) (λ e. absurd (omega (arith, e)))
not_done Read status other says is = not_it status 4 0 says is (λ e. absurd (omega (arith, e))) (λ e. absurd (omega (arith, e))) (λ e. absurd (omega (arith, e)))
not_done Write status other says is = not_it status 5 0 says is (λ e. absurd (omega (arith, e))) (λ e. absurd (omega (arith, e))) (λ e. absurd (omega (arith, e)))
not_done (Store node) status other says is = not_it status 6 0 says is (λ e. absurd (omega (arith, e))) (λ e. absurd (omega (arith, e))) (λ e. absurd (omega (arith, e)))
not_done NoMemory status other says is = not_it status 7 0 says is (λ e. absurd (omega (arith, e))) (λ e. absurd (omega (arith, e))) (λ e. absurd (omega (arith, e)))

-- nor was it where there is no plan, or it ended before the run lines
no_plan_done : (answer : Drove) (left : Option (List ℕ)) (octets : List ℕ) (room : ℕ) (draft : Draft) → PlanStops (stop_of answer) left octets room draft → ending_of answer ≡ Done → ⊥
no_plan_done drove.Ended left octets room draft stops is = stops
no_plan_done drove.ReadFault left octets room draft stops is = cc is
no_plan_done (drove.WriteFault n) left octets room draft stops is = cc is
no_plan_done (drove.BadTape n fault) left octets room draft stops is = cc is
no_plan_done (drove.NoMemory n) left octets room draft stops is = cc is

before_done : (ending : Ending) → IsBeforeRun ending → ending ≡ Done → ⊥
before_done Done before is = before
before_done (Line number why) before is = before
before_done Read before is = before
before_done Write before is = before
before_done (Store node) before is = cc is
before_done NoMemory before is = cc is

-- the status says so
head_says : (ending : Ending) (answer : Drove) (status : ℕ) → ending ≡ ending_of answer → (status ≡ status_of ending) ⊎ ((status ≡ 5) ⊎ (status ≡ 7)) → (status ≡ status_of (ending_of answer)) ⊎ IsCut status
head_says ending answer status is says = ⊎_elim (λ e. inl (e ∙ ap status_of is)) (λ cut. inr cut) says

before_says : (ending : Ending) (status : ℕ) → IsBeforeRun ending → (status ≡ status_of ending) ⊎ ((status ≡ 5) ⊎ (status ≡ 7)) → (status ≡ 6) ⊎ IsCut status
before_says Done status before says = absurd before
before_says (Line number why) status before says = absurd before
before_says Read status before says = absurd before
before_says Write status before says = absurd before
before_says (Store node) status before says = says
before_says NoMemory status before says = inr (⊎_elim (λ e. inr e) (λ cut. cut) says)

-- no run line was handled
kept_nothing : {D : Type 0} (seen : D → Option (List ℕ)) (stores : Stores D) (ends : SourceAndSink) (middle : Option (List ℕ)) (ending : Ending) (status : ℕ) (head : Result (Plan × ℕ) Drove)
    → ReadsHead ends.left0 ends.left1 head → (ending ≡ Done → ⊥) → IsStatusOf head status → middle ≡ ends.held0 → Last middle ends.held1 ending status → HasKept seen stores ends status
kept_nothing seen stores ends middle ending status head reads other why none last = record {
  read = flat_map ended reads.lines ++ reads.others;
  written = written_of last.front ++ last.cut;
  entries = last.front;
  took = reads.took;
  gave = subst (λ (held : Option (List ℕ)). Appends held ends.held1 (written_of last.front ++ last.cut)) none last.gave;
  transcript = record { cut = last.cut; whole = refl; lines = last.each; rest = last.rest };
  promise = inl (record { not_done = not_done ending status other last.says; head = head; reads = reads; why = why; unsaid = ending_unsaid last.front last.ends });
}

-- a line that the cluster refused is one that it may
deniable : (order : Order) (sessions : List Session) (step : Made) → FirstStep order sessions step → IsDeniable order
deniable (Close k) sessions step first = tt
deniable (GiveUp k) sessions step first = tt
deniable (Moves order) sessions step first = tt
deniable (Open protocol node) sessions step first = first
deniable (Say k text) sessions step first = first
deniable (Feed k octets) sessions step first = first
deniable End sessions step first = first

denied_line : (plan : Plan) (been : List Act) (stop : Stop) (old : List Session) (left : List (List ℕ)) (by_line : List (List Act)) (tail : List Entry) (extra : List Made) (new : List Session)
    → stop ≡ Denied → IsLeftOff plan been stop old left by_line tail extra new → (line : List ℕ) × (left ≡ line ∷ []) × (order : Order) × (tape_order line ≡ Some order) × IsDeniable order
denied_line plan been stop old [] [] tail extra new denied off = absurd (off.4 denied)
denied_line plan been stop old [] (acts ∷ by_line) tail extra new denied off = absurd off
denied_line plan been stop old (line ∷ []) [] tail extra new denied off = absurd off
denied_line plan been stop old (line ∷ []) ([] ∷ []) tail extra new denied (tried, is) = (line, refl, tried.order, tried.spelled, deniable tried.order old tried.step tried.first)
denied_line plan been stop old (line ∷ []) ([] ∷ (acts ∷ by_line)) tail extra new denied off = absurd off
denied_line plan been stop old (line ∷ []) ((act ∷ acts) ∷ []) tail extra new denied (turn, cut, may) = absurd (subst (λ (s : Stop). MayMiss s cut.missing) denied cut.may)
denied_line plan been stop old (line ∷ []) ((act ∷ acts) ∷ (other ∷ by_line)) tail extra new denied off = absurd off
denied_line plan been stop old (line ∷ (other ∷ left)) by_line tail extra new denied off = absurd off

-- run lines were handled
module _ {D : Type 0} (on : View D) (is_settled : D → Type 0) (stores : Stores D) (ends : SourceAndSink) (between middle : Option (List ℕ)) (plan : Plan) (count : ℕ) (ending : Ending) (status : ℕ)
    (disks given : List D) (reads : ReadsHead ends.left0 between (Ok (plan, count))) (back : TellsAll stores.returned0 stores.returned1 (numbered_stores 1 given))
    (ran : Ran on is_settled (record ends { left0 = between; held1 = middle }) plan count ending disks given) (last : Last middle ends.held1 ending status) where
  abbrev lines : List (List ℕ)
  lines = ran.drives.handled ++ ran.drives.midst

  -- all stores told what they held at first, if they do at last
  told : all_tell on.seen given ≡ true → disks_tell on.seen ran.start ≡ true
  told all = sym (plan_stays on ran.drives.outcomes [] ran.drives.awaited ran.start ran.last ran.drives.steps).2 ∙ ap (all_tell on.seen) (sym ran.stores) ∙ all

  -- where the work was not cut short, it stopped between two lines
  whole : (answer : Drove) → ending ≡ ending_of answer
      → Stops (stop_of answer) ran.drives.stop (plan_of ran.start) (flat_map (λ a. a) ran.drives.acts) ran.drives.sessions ran.drives.midst ends.left1 ran.drives.others ran.drives.room ran.drives.outcomes
      → (IsCut status → ⊥) → IsCutShort ran.drives.stop → ⊥
  whole drove.Ended is why uncut short = subst IsCutShort why.0 short
  whole drove.ReadFault is why uncut short = subst IsCutShort why.0 short
  whole (drove.BadTape n fault) is why uncut short = ⊎_elim (λ bad. subst IsCutShort bad.0 short) (λ denied. subst IsCutShort denied.0 short) why
  whole (drove.WriteFault n) is why uncut short = uncut (⊎_elim (λ e. inl (e ∙ ap status_of is)) (λ cut. cut) last.says)
  whole (drove.NoMemory n) is why uncut short = uncut (⊎_elim (λ e. inr (e ∙ ap status_of is)) (λ cut. cut) last.says)

  -- what was taken and is none of the lines
  left_over : (answer : Drove) → ending ≡ ending_of answer
      → Stops (stop_of answer) ran.drives.stop (plan_of ran.start) (flat_map (λ a. a) ran.drives.acts) ran.drives.sessions ran.drives.midst ends.left1 ran.drives.others ran.drives.room ran.drives.outcomes
      → IsLeft status (plan_of ran.start) lines (ran.drives.entries ++ last.front) ran.drives.others ends.left1
  left_over drove.Ended is why =
      let says : (status ≡ 0) ⊎ ((status ≡ 5) ⊎ (status ≡ 7)) = ⊎_elim (λ e. inl (e ∙ ap status_of is)) (λ cut. inr cut) last.says in
      record {
        some_status = ⊎_elim (λ e. inl e) (λ cut. ⊎_elim (λ e. inr (inr (inr (inl e)))) (λ e. inr (inr (inr (inr e)))) cut) says;
        ended_so = λ at. why.2;
        refused = λ at. absurd (not_it status 0 3 says at (λ e. absurd (omega (arith, e))) (λ e. absurd (omega (arith, e))) (λ e. absurd (omega (arith, e))));
        in_line = λ at. absurd (not_it status 0 4 says at (λ e. absurd (omega (arith, e))) (λ e. absurd (omega (arith, e))) (λ e. absurd (omega (arith, e))));
        at_most_one = inr (why.2.line, why.2.whole, why.2.one);
      }
  left_over drove.ReadFault is why =
      let says : (status ≡ 4) ⊎ ((status ≡ 5) ⊎ (status ≡ 7)) = ⊎_elim (λ e. inl (e ∙ ap status_of is)) (λ cut. inr cut) last.says in
      record {
        some_status = ⊎_elim (λ e. inr (inr (inl e))) (λ cut. ⊎_elim (λ e. inr (inr (inr (inl e)))) (λ e. inr (inr (inr (inr e)))) cut) says;
        ended_so = λ at. absurd (not_it status 4 0 says at (λ e. absurd (omega (arith, e))) (λ e. absurd (omega (arith, e))) (λ e. absurd (omega (arith, e))));
        refused = λ at. absurd (not_it status 4 3 says at (λ e. absurd (omega (arith, e))) (λ e. absurd (omega (arith, e))) (λ e. absurd (omega (arith, e))));
        in_line = λ at. why.2;
        at_most_one = inl why.2;
      }
  left_over (drove.WriteFault n) is why =
      let says : (status ≡ 5) ⊎ ((status ≡ 5) ⊎ (status ≡ 7)) = ⊎_elim (λ e. inl (e ∙ ap status_of is)) (λ cut. inr cut) last.says in
      record {
        some_status = ⊎_elim (λ e. inr (inr (inr (inl e)))) (λ cut. ⊎_elim (λ e. inr (inr (inr (inl e)))) (λ e. inr (inr (inr (inr e)))) cut) says;
        ended_so = λ at. absurd (not_it status 5 0 says at (λ e. absurd (omega (arith, e))) (λ e. absurd (omega (arith, e))) (λ e. absurd (omega (arith, e))));
        refused = λ at. absurd (not_it status 5 3 says at (λ e. absurd (omega (arith, e))) (λ e. absurd (omega (arith, e))) (λ e. absurd (omega (arith, e))));
        in_line = λ at. absurd (not_it status 5 4 says at (λ e. absurd (omega (arith, e))) (λ e. absurd (omega (arith, e))) (λ e. absurd (omega (arith, e))));
        at_most_one = inl (subst HasNoLf (sym why.1) (All-nil IsNoLf));
      }
  left_over (drove.NoMemory n) is why =
      let says : (status ≡ 7) ⊎ ((status ≡ 5) ⊎ (status ≡ 7)) = ⊎_elim (λ e. inl (e ∙ ap status_of is)) (λ cut. inr cut) last.says in
      record {
        some_status = ⊎_elim (λ e. inr (inr (inr (inr e)))) (λ cut. ⊎_elim (λ e. inr (inr (inr (inl e)))) (λ e. inr (inr (inr (inr e)))) cut) says;
        ended_so = λ at. absurd (not_it status 7 0 says at (λ e. absurd (omega (arith, e))) (λ e. absurd (omega (arith, e))) (λ e. absurd (omega (arith, e))));
        refused = λ at. absurd (not_it status 7 3 says at (λ e. absurd (omega (arith, e))) (λ e. absurd (omega (arith, e))) (λ e. absurd (omega (arith, e))));
        in_line = λ at. absurd (not_it status 7 4 says at (λ e. absurd (omega (arith, e))) (λ e. absurd (omega (arith, e))) (λ e. absurd (omega (arith, e))));
        at_most_one = why.1;
      }
  left_over (drove.BadTape n fault) is why =
      let says : (status ≡ 3) ⊎ ((status ≡ 5) ⊎ (status ≡ 7)) = ⊎_elim (λ e. inl (e ∙ ap status_of is)) (λ cut. inr cut) last.says in
      let fault_so = refused_so fault why in
      record {
        some_status = ⊎_elim (λ e. inr (inl e)) (λ cut. ⊎_elim (λ e. inr (inr (inr (inl e)))) (λ e. inr (inr (inr (inr e)))) cut) says;
        ended_so = λ at. absurd (not_it status 3 0 says at (λ e. absurd (omega (arith, e))) (λ e. absurd (omega (arith, e))) (λ e. absurd (omega (arith, e))));
        refused = λ at. fault_so;
        in_line = λ at. absurd (not_it status 3 4 says at (λ e. absurd (omega (arith, e))) (λ e. absurd (omega (arith, e))) (λ e. absurd (omega (arith, e))));
        at_most_one = ⊎_elim (λ (behind : HasFaultBehind (plan_of ran.start) lines (ran.drives.entries ++ last.front) ran.drives.others ends.left1).
            fault_in_line behind.fault (plan_of ran.start) (flat_map (λ a. a) behind.acts) behind.sessions ends.left1 ran.drives.others behind.room behind.why)
            (λ none. inl (subst HasNoLf (sym none.0) (All-nil IsNoLf))) fault_so;
      }
    where
      refused_so : (fault : _) → Stops (stop_of (drove.BadTape n fault)) ran.drives.stop (plan_of ran.start) (flat_map (λ a. a) ran.drives.acts) ran.drives.sessions ran.drives.midst ends.left1
          ran.drives.others ran.drives.room ran.drives.outcomes → IsRefused (plan_of ran.start) lines (ran.drives.entries ++ last.front) ran.drives.others ends.left1
      refused_so fault why = ⊎_elim
          (λ bad. inl (has_fault_behind (plan_of ran.start) ran.drives.stop ran.drives.handled ran.drives.midst ran.drives.acts ran.drives.behind (map made_of ran.drives.outcomes) ran.drives.entries last.front
          ran.drives.sessions ends.left1 ran.drives.read ran.drives.others ran.drives.room fault ran.drives.driven ran.drives.tape ran.drives.limit last.ends bad.1 bad.2))
          (λ denied.
          let found = denied_line (plan_of ran.start) (flat_map (λ a. a) ran.drives.acts) ran.drives.stop ran.drives.driven.mid ran.drives.midst ran.drives.behind ran.drives.driven.tail ran.drives.driven.extra
          ran.drives.sessions denied.0 ran.drives.driven.off in
          inr (denied.1, (ran.drives.handled, found.0, found.2, ap (λ (l : List (List ℕ)). ran.drives.handled ++ l) found.1, found.3, found.4)))
          why

  -- at status 0 the work stopped behind a line, and there is no last line
  ends_at_end : (answer : Drove) → ending ≡ ending_of answer
      → Stops (stop_of answer) ran.drives.stop (plan_of ran.start) (flat_map (λ a. a) ran.drives.acts) ran.drives.sessions ran.drives.midst ends.left1 ran.drives.others ran.drives.room ran.drives.outcomes
      → status ≡ 0 → (ran.drives.stop ≡ BehindLine) × (last.front ≡ [])
  ends_at_end drove.Ended is why zero = (why.0, (last.none (ap last_entries is)).0)
  ends_at_end drove.ReadFault is why zero = absurd (not_done ending status (λ done. let never : Read ≡ Done = sym is ∙ done in cc) last.says zero)
  ends_at_end (drove.WriteFault n) is why zero = absurd (not_done ending status (λ done. let never : Write ≡ Done = sym is ∙ done in cc) last.says zero)
  ends_at_end (drove.BadTape n fault) is why zero = absurd (not_done ending status (λ done. let never : Line n fault ≡ Done = sym is ∙ done in cc) last.says zero)
  ends_at_end (drove.NoMemory n) is why zero = absurd (not_done ending status (λ done. let never : NoMemory ≡ Done = sym is ∙ done in cc) last.says zero)

  -- then all lines were handled, and what was written is theirs
  is_run : status ≡ 0 → IsRun (plan_of ran.start) lines (ran.drives.entries ++ last.front) (ran.drives.acts ++ ran.drives.behind)
  is_run zero =
      let at_end = ends_at_end ran.answer ran.is ran.drives.why zero in
      let run = whole_run (plan_of ran.start) ran.drives.stop ran.drives.handled ran.drives.midst ran.drives.acts ran.drives.behind (map made_of ran.drives.outcomes) ran.drives.entries ran.drives.sessions
      ran.drives.driven at_end.0 in
      record {
        outputs = run.outputs;
        last = ran.drives.sessions;
        handled = run.handled;
        wrote = ap (λ (es : List Entry). ran.drives.entries ++ es) at_end.1 ∙ append-nil ran.drives.entries ∙ run.wrote;
      }

  -- the promises, with the last line
  kept_with : (all_tell on.seen given ≡ true) ⊎ AreBlindLines (plan_of ran.start).nodes lines
      → KeepsOver (plan_of ran.start) (all_tell on.seen given) status lines (ran.drives.entries ++ last.front) (map on.seen given)
  kept_with which =
      let kept = ran.drives.kept (⊎_elim (λ all. inl (told all)) (λ blind. inr blind) which) last.front last.ends in
      subst (λ (l : List D). KeepsOver (plan_of ran.start) (all_tell on.seen l) status lines (ran.drives.entries ++ last.front) (map on.seen l)) (sym ran.stores) (record {
        records = kept.records;
        holds = kept.promises.holds;
        sessions = kept.promises.sessions;
        acks = kept.promises.acks;
        confirmers = kept.promises.confirmers;
        clients = kept.promises.clients;
        answered = λ uncut. kept.promises.answered (whole ran.answer ran.is ran.drives.why uncut);
        settled = λ zero tells. record {
          acts = ran.drives.acts ++ ran.drives.behind;
          run = is_run zero;
          keeps = kept.settled (ends_at_end ran.answer ran.is ran.drives.why zero).0 tells;
        };
      })

  -- where a line was cut, nothing follows it
  uncut : (answer : Drove) → ending ≡ ending_of answer
      → Stops (stop_of answer) ran.drives.stop (plan_of ran.start) (flat_map (λ a. a) ran.drives.acts) ran.drives.sessions ran.drives.midst ends.left1 ran.drives.others ran.drives.room ran.drives.outcomes
      → (ran.drives.cut ≡ []) ⊎ ((last.front ≡ []) × (last.cut ≡ []))
  uncut drove.Ended is why = inl (ran.drives.whole (λ short. subst IsCutShort why.0 short))
  uncut drove.ReadFault is why = inl (ran.drives.whole (λ short. subst IsCutShort why.0 short))
  uncut (drove.BadTape n fault) is why = inl (ran.drives.whole (λ short. ⊎_elim (λ bad. subst IsCutShort bad.0 short) (λ denied. subst IsCutShort denied.0 short) why))
  uncut (drove.WriteFault n) is why = inr (last.none (ap last_entries is))
  uncut (drove.NoMemory n) is why = inr (last.none (ap last_entries is))

  -- what was written
  all_written : ((ran.drives.cut ≡ []) ⊎ ((last.front ≡ []) × (last.cut ≡ [])))
      → (cut : List ℕ) × ((written_of ran.drives.entries ++ ran.drives.cut) ++ (written_of last.front ++ last.cut) ≡ written_of (ran.drives.entries ++ last.front) ++ cut) × HasNoLf cut
  all_written which = ⊎_elim
      (λ none. (
        last.cut,
        ap (λ (l : List ℕ). l ++ (written_of last.front ++ last.cut)) (ap (λ (l : List ℕ). written_of ran.drives.entries ++ l) none ∙ append-nil (written_of ran.drives.entries))
            ∙ sym (append_assoc (written_of ran.drives.entries) (written_of last.front) last.cut) ∙ ap (λ (l : List ℕ). l ++ last.cut) (sym (written_more ran.drives.entries last.front)),
        last.rest,
      ))
      (λ none. (
        ran.drives.cut,
        ap (λ (l : List ℕ). (written_of ran.drives.entries ++ ran.drives.cut) ++ l) (ap (λ (es : List Entry). written_of es ++ last.cut) none.0 ∙ none.1)
            ∙ append-nil (written_of ran.drives.entries ++ ran.drives.cut)
            ∙ ap (λ (es : List Entry). written_of es ++ ran.drives.cut) (sym (append-nil ran.drives.entries) ∙ ap (λ (es : List Entry). ran.drives.entries ++ es) (sym none.0)),
        ran.drives.rest,
      ))
      which

  pub kept_run : HasKept on.seen stores ends status
  kept_run =
      let wrote = all_written (uncut ran.answer ran.is ran.drives.why) in
      let go = reads.did in
      record {
        read = (flat_map ended reads.lines ++ reads.others) ++ ran.drives.read;
        written = (written_of ran.drives.entries ++ ran.drives.cut) ++ (written_of last.front ++ last.cut);
        entries = ran.drives.entries ++ last.front;
        took = consumes_more _ _ _ _ _ reads.took ran.drives.took;
        gave = appends_more _ _ _ _ _ ran.drives.gave last.gave;
        transcript = record { cut = wrote.0; whole = wrote.1; lines = lines_more ran.drives.entries last.front ran.drives.lines last.each; rest = wrote.2 };
        promise = inr (
          given,
          back,
          record {
            plan = plan_of ran.start;
            lines = lines;
            others = ran.drives.others;
            tape = record {
              head = reads.lines;
              draft = reads.draft;
              go = go.0;
              whole = ap (λ (l : List ℕ). (flat_map ended reads.lines ++ l) ++ ran.drives.read) go.1 ∙ append_assoc (flat_map ended reads.lines) (ended go.0) ran.drives.read
                  ∙ ap (λ (l : List ℕ). flat_map ended reads.lines ++ (ended go.0 ++ l)) ran.drives.tape;
              head_each = reads.each;
              go_one = go.2;
              each = ran.drives.each;
              drafts = reads.drafts;
              goes = go.3;
              plan_is = go.4 ∙ ap Some (sym ran.opened.begins.plan_is);
            };
            behind = left_over ran.answer ran.is ran.drives.why;
            promises = kept_with;
          },
        );
      }

-- whatever the work did
pub has_kept : {D : Type 0} (on : View D) (is_settled : D → Type 0) (stores : Stores D) (ends : SourceAndSink) (middle : Option (List ℕ)) (ending : Ending) (status : ℕ)
    → Works on is_settled stores (record ends { held1 = middle }) ending → Finishes middle ends.held1 ending status → HasKept on.seen stores ends status
has_kept on is_settled stores ends middle ending status works finishes = ⊎_elim
    (λ (none : NoPlan stores (record ends { held1 = middle }) ending). kept_nothing on.seen stores ends middle ending status (Err none.answer) none.reads
    (λ done. no_plan_done none.answer ends.left1 none.reads.others none.reads.room none.reads.draft none.reads.did.0 (sym none.is ∙ done)) (head_says ending none.answer status none.is last.says) none.none last)
    (λ (some : NoStores on stores (record ends { held1 = middle }) ending ⊎ ServedStores on is_settled stores (record ends { held1 = middle }) ending). ⊎_elim
    (λ (none : NoStores on stores (record ends { held1 = middle }) ending). kept_nothing on.seen stores ends middle ending status (Ok (none.plan, none.count)) none.reads (before_done ending none.is) (before_says ending status none.is last.says) none.none last)
    (λ (served : ServedStores on is_settled stores (record ends { held1 = middle }) ending). by_serving served) some)
    works
  where
    last : Last middle ends.held1 ending status
    last = lasts middle ends.held1 ending status finishes

    by_serving : ServedStores on is_settled stores (record ends { held1 = middle }) ending → HasKept on.seen stores ends status
    by_serving served = ⊎_elim
        (λ (none : NotOpened on (record ends { left0 = served.between; held1 = middle }) ending served.disks served.given).
        kept_nothing on.seen stores ends middle ending status (Ok (served.plan, served.count))
        (subst (λ (left : Option (List ℕ)). ReadsHead ends.left0 left (Ok (served.plan, served.count))) (sym none.nothing_read) served.reads) (before_done ending none.before) (before_says ending status none.before last.says) none.nothing_written last)
        (λ (ran : Ran on is_settled (record ends { left0 = served.between; held1 = middle }) served.plan served.count ending served.disks served.given).
        kept_run on is_settled stores ends served.between middle served.plan served.count ending status served.disks served.given served.reads served.are.back ran last)
        served.serves
