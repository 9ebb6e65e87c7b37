-- One line after another, and why the work stopped.
use Rattle.std.proofs.Common.{◌≡◌, ◌≢◌, ◌⊎◌, inl, inr, ⊎_elim, ◌+◌, ◌<◌, ◌^◌, ℕ, List, [], ◌∷◌, ◌++◌, length, drop, map, flat_map, All, Option, Some, None, Ok, Err, refl, sym, ap, ◌∙◌, subst, arith, append_assoc, length-append}
use Rattle.std.specs.List.{slice_index}
use Rattle.std.specs.Io.KnownBytes.{Consumes, Appends}
use Rattle.std.proofs.lemmas.List.{append-nil}
use Rattle.std.proofs.lemmas.List.Concat.{flat_map-append}
use Rattle.std.proofs.lemmas.List.Elements.{All-nil, All-cons, All-head, All-tail, All-push, All-append}
use Rattle.io_edge.proofs.Known.{consumes_more, consumes_none, appends_more, appends_none}
use Rattle.object_model.specs.Lists.{Among}
use Rattle.mail_model.specs.Lines.{HasNoLf, ended}
use Rattle.mail_model.specs.Plan.{Plan}
use Rattle.mail_model.specs.Tape.{Order, tape_order}
use Rattle.mail_model.specs.Transcript.{Entry, entry_line, written_of, all_of}
use Rattle.session_model.specs.Sessions.{Session}
use Rattle.session_model.specs.Acts.{Act}
use Rattle.session_model.specs.Lives.{failed_in}
use Rattle.session_model.specs.Logs.{Asked}
use Rattle.session_model.specs.Turns.Turn.{Asking}
use Rattle.session_model.specs.Run.{Made, Stop, IsDriven, IsHandled, AreHandled, IsLeftOff, IsCutShort, made_by, refusal}
use Rattle.session_model.specs.Run.Stop.{BehindLine, Denied, SinkFailed, OutOfMemory}
use Rattle.session_model.proofs.Driven.{begun_made}
use Rattle.session_model.proofs.Written.{driven_writes_lines}
use Rattle.node_store.specs.Disks.{View}
use Rattle.cluster_world.specs.Outcomes.{Outcome, made_of}
use Rattle.cluster_world.specs.Worlds.{plan_of, life_of}
use Rattle.cluster_world.specs.Opens.{IsAtBeginning}
use Rattle.cluster_world.specs.Owing.{WorldOwes}
use Rattle.settled_worlds.specs.Settled.{WorldOwesSettled}
use Rattle.cluster_world.specs.declared.world.World.{World}
use Rattle.cluster_world.proofs.Chained.{plan_stays, later_after}
use Rattle.cluster_world.proofs.Leading.{opens_whole}
use Rattle.drive_tape.specs.declared.cluster.Cluster.{Cluster}
use Rattle.drive_tape.specs.declared.drove.Drove.{Drove}
use Rattle.drive_tape.specs.declared.drove.TapeFault.{TapeFault}
use Rattle.drive_tape.specs.declared.drove.TapeFault.TheVariants.{BadLine}
use Rattle.drive_tape.specs.declared.drove.Stop.{Stop as Why}
use Rattle.drive_tape.specs.declared.drove.Stop.TheVariants as why
use Rattle.drive_tape.specs.declared.reader.LineStop.{LineStop}
use Rattle.drive_tape.specs.declared.reader.LineStop.TheVariants as line
use Rattle.drive_tape.specs.Drive.{Stops, NamesLine, Drives, EndsDenied, stop_of}
use Rattle.drive_tape.specs.Faults.{tape_fault_seen}
use Rattle.drive_tape.specs.Lines.{IsWhy, LineStopped}
use Rattle.drive_tape.specs.Parts.{IsCutEntry, IsPartOfLine}
use Rattle.drive_tape.specs.Led.{AreLed, AreLedTo}
use Rattle.drive_tape.specs.Points.{Point, AreAtOwnNodes, IsAtPoint}
use Rattle.drive_tape.specs.Reads.{ReadsLine}
use Rattle.drive_tape.specs.Runs.{Progress, Turned}
use Rattle.drive_tape.specs.Stops.{of_line}
use Rattle.drive_tape.specs.Talks.{Converse}
use Rattle.drive_tape.specs.Worlds.{WorldIsAt, IsSince, AreLives, HasCauses}
use Rattle.drive_tape.proofs.AtFirst.{first_lives, node_within}
use Rattle.drive_tape.proofs.Kept.{kept_in, none_waits, letters_in, whole_in, one_map_in, names_in, maps_right_in}
use Rattle.drive_tape.proofs.OwnNodes.{NodesStay, all_stay, at_nodes_more}
use Rattle.drive_tape.proofs.Wholes.{stays_whole}
use Rattle.drive_tape.proofs.Led.{AreLinked, MayLackOne, led_more, to_none, to_more, to_linked, to_waits}

abbrev IsNoLf : ℕ → Type 0
IsNoLf x = x ≢ 10

abbrev joined : List (List Act) → List Act
joined by_line = flat_map (λ a. a) by_line

flat_last : {X Y : Type 0} (f : X → List Y) (xs : List X) (x : X) → flat_map f (xs ++ x ∷ []) ≡ flat_map f xs ++ f x
flat_last f xs x = flat_map-append f xs (x ∷ []) ∙ ap (λ l. flat_map f xs ++ l) (append-nil (f x))

-- ---- before the first line

at_start : {D : Type 0} (on : View D) (world : World D) → IsAtBeginning on (plan_of world) world → WorldIsAt on world [] [] world
at_start on world begins = record { stands = (opens_whole on (plan_of world) world begins).0; made = (refl, refl); whole = tt }

pub progress_start : {D : Type 0} (on : View D) (world : World D) (left held : Option (List ℕ)) (cluster : Cluster D)
    → IsAtBeginning on (plan_of world) world → cluster.world ≡ world → cluster.sessions.talkers.items ≡ [] → cluster.sessions.nodes.items ≡ [] → cluster.sessions.standing ≡ 0
    → Progress on world left left held held cluster 0 (2 ^ 40)
progress_start {D} on world left held cluster begins is talkers nodes standing = record {
  handled = [];
  took = consumes_none left;
  each = All-nil _;
  counted = refl;
  size = refl;
  acts = [];
  outputs = [];
  point = record { turn = Asking 1; sessions = []; been = []; outcomes = []; awaited = []; held = held };
  are = refl;
  linked = refl;
  at_nodes = tt;
  been = refl;
  gave = appends_none held;
  held_is = refl;
  shows = record {
    at = subst (WorldIsAt on world [] []) (sym is) (at_start on world begins);
    talks = subst (λ ts. Converse ts []) (sym talkers) tt;
    nodes = nodes;
    tickets = λ place session here. none session here;
    count = standing;
    lives = λ n there. let w = node_within (plan_of world) n there in ap (λ (x : World D). life_of x n) is ∙ first_lives on (plan_of world) world begins n w.0 w.1;
    up = λ place session here. none session here;
    causes = λ n among. absurd among;
  };
}
  where
    none : {X : Type 0} (session : Session) → ◌≡◌ {A = Option Session} None (Some session) → X
    none session here = absurd (let never : ◌≡◌ {A = Option Session} None (Some session) = here in cc)

-- ---- one line more

handled_more : (plan : Plan) (been : List Act) (old : List Session) (lines : List (List ℕ)) (acts : List (List Act)) (outputs : List (List (List Entry))) (mid : List Session)
    (line : List ℕ) (a : List Act) (o : List (List Entry)) (new : List Session)
    → AreHandled plan been old lines acts outputs mid → IsHandled plan (been ++ joined acts) mid line a o new
    → AreHandled plan been old (lines ++ line ∷ []) (acts ++ a ∷ []) (outputs ++ o ∷ []) new
handled_more plan been old [] [] [] mid line a o new are one =
    (new, subst (λ (s : List Session). IsHandled plan been s line a o new) are (subst (λ (d : List Act). IsHandled plan d mid line a o new) (append-nil been) one), refl)
handled_more plan been old [] [] (y ∷ outputs) mid line a o new are one = absurd are
handled_more plan been old [] (x ∷ acts) [] mid line a o new are one = absurd are
handled_more plan been old [] (x ∷ acts) (y ∷ outputs) mid line a o new are one = absurd are
handled_more plan been old (l ∷ lines) [] outputs mid line a o new are one = absurd are
handled_more plan been old (l ∷ lines) (x ∷ acts) [] mid line a o new are one = absurd are
handled_more plan been old (l ∷ lines) (x ∷ acts) (y ∷ outputs) mid line a o new are one = (
  are.0,
  are.1,
  handled_more plan (been ++ x) are.0 lines acts outputs mid line a o new are.2
      (subst (λ (d : List Act). IsHandled plan d mid line a o new) (sym (append_assoc been x (joined acts))) one),
)

written_more : (xs ys : List Entry) → written_of (xs ++ ys) ≡ written_of xs ++ written_of ys
written_more xs ys = flat_map-append (λ (entry : Entry). ended (entry_line entry)) xs ys

-- the sessions stay where they are
line_stays : (plan : Plan) (been : List Act) (old new : List Session) (line : List ℕ) (acts : List Act) (outputs : List (List Entry)) → IsHandled plan been old line acts outputs new → NodesStay old new
line_stays plan been old new line acts outputs handled = all_stay plan old new acts outputs (begun_made plan been old new line acts outputs handled.last handled.begun).done

left_stays : (plan : Plan) (been : List Act) (stop : Stop) (old new : List Session) (left : List (List ℕ)) (by_line : List (List Act)) (tail : List Entry) (extra : List Made)
    → IsLeftOff plan been stop old left by_line tail extra new → NodesStay old new
left_stays plan been stop old new [] [] tail extra off = subst (NodesStay old) (sym off.2) (λ k n at. at)
left_stays plan been stop old new (line ∷ []) ([] ∷ []) tail extra off = subst (NodesStay old) (sym off.1) (λ k n at. at)
left_stays plan been stop old new (line ∷ []) ((act ∷ acts) ∷ []) tail extra (turn, cut, may) =
    all_stay plan old new (act ∷ acts) (cut.before ++ cut.says ∷ []) (begun_made plan been old new line (act ∷ acts) (cut.before ++ cut.says ∷ []) turn cut.begun).done
left_stays plan been stop old new left by_line tail extra off = absurd off

pub goes_on : {D T : Type 0} (on : View D) (start : World D) (left0 left1 left2 held0 held1 held2 : Option (List ℕ)) (old new : Cluster D) (count room1 room2 : ℕ) (r : T)
    (p : Progress on start left0 left1 held0 held1 old count room1)
    → (plan : Plan) → plan ≡ plan_of start → Turned on start plan p.point (Ok r) left1 left2 room1 room2 held2 old new
    → Progress on start left0 left2 held0 held2 new (count + 1) room2
goes_on on start left0 left1 left2 held0 held1 held2 old new count room1 room2 r p plan same turned =
    let t = subst (λ (pl : Plan). Turned on start pl p.point (Ok r) left1 left2 room1 room2 held2 old new) same turned in
    let step = t.did in
    let went = step.3 in
    let all : flat_map ended (p.handled ++ step.0 ∷ []) ≡ flat_map ended p.handled ++ t.taken = flat_last ended p.handled step.0 ∙ ap (λ (l : List ℕ). flat_map ended p.handled ++ l) (sym step.1) in
    record {
      handled = p.handled ++ step.0 ∷ [];
      took = subst (Consumes left0 left2) (sym all) (consumes_more _ _ _ _ _ p.took t.took);
      each = All-push HasNoLf p.handled step.0 p.each step.2;
      counted = omega (arith, p.counted, length-append p.handled (step.0 ∷ []));
      size = omega (arith, p.size, t.size, ap length all, length-append (flat_map ended p.handled) t.taken);
      acts = p.acts ++ went.acts ∷ [];
      outputs = p.outputs ++ went.outputs ∷ [];
      point = went.q;
      are = handled_more (plan_of start) [] [] p.handled p.acts p.outputs p.point.sessions step.0 went.acts went.outputs went.q.sessions p.are
          (subst (λ (d : List Act). IsHandled (plan_of start) d p.point.sessions step.0 went.acts went.outputs went.q.sessions) p.been went.handled);
      linked = subst (λ (by : List Act). AreLed (plan_of start) [] [] by went.q.outcomes) (sym (flat_last (λ a. a) p.acts went.acts))
          (subst (λ (os : List Outcome). AreLed (plan_of start) [] [] (joined p.acts ++ went.acts) os) (sym went.came)
          (led_more (plan_of start) [] [] (joined p.acts) p.point.outcomes went.acts went.outcomes p.linked
          (subst (λ (d : List Act). AreLed (plan_of start) d p.point.outcomes went.acts went.outcomes) p.been went.linked)));
      at_nodes = subst (AreAtOwnNodes went.q.sessions) (sym went.came)
          (at_nodes_more p.point.sessions went.q.sessions (line_stays (plan_of start) p.point.been p.point.sessions went.q.sessions step.0 went.acts went.outputs went.handled) p.point.outcomes went.outcomes p.at_nodes went.at_nodes);
      been = went.been ∙ ap (λ (l : List Act). l ++ went.acts) p.been ∙ sym (flat_last (λ a. a) p.acts went.acts);
      gave = subst (Appends held0 held2)
          (sym (ap written_of (flat_last all_of p.outputs went.outputs) ∙ written_more (flat_map all_of p.outputs) (all_of went.outputs)))
          (appends_more _ _ _ _ _ p.gave (subst (λ (h : Option (List ℕ)). Appends h held2 (written_of (all_of went.outputs))) p.held_is (subst (λ (h : Option (List ℕ)). Appends p.point.held h (written_of (all_of went.outputs))) went.held_is went.gave)));
      held_is = went.held_is;
      shows = went.shows;
    }

-- ---- the stop

-- what became of the line at which the work stopped
pub record Halt {D : Type 0} (on : View D) (start : World D) (plan : Plan) (p : Point) (held : Option (List ℕ)) (world : World D) (stop : Stop) (midst : List (List ℕ)) (sessions : List Session) (new : List Outcome) : Type 0 where
  pub behind : List (List Act)
  pub tail : List Entry
  pub extra : List Made
  pub off : IsLeftOff plan p.been stop p.sessions midst behind tail extra sessions
  pub lacking : List Asked
  pub linked : AreLedTo stop plan p.been p.outcomes (joined behind) new lacking extra
  pub at_nodes : AreAtOwnNodes sessions new
  pub since : IsSince on start (p.outcomes ++ new) world
  pub lives : (stop ≡ OutOfMemory → ⊥) → AreLives plan (p.been ++ joined behind) world
  pub causes : HasCauses on start (failed_in (p.been ++ joined behind)) world
  pub missing : List Entry
  pub all : (missing ≡ []) ⊎ ((more : List Made) × IsLeftOff plan p.been OutOfMemory p.sessions midst behind (tail ++ missing) more sessions)
  pub cut : List ℕ
  pub is_cut : IsCutEntry missing cut
  pub whole : stop ≡ BehindLine → cut ≡ []
  pub gave : Appends p.held held (written_of tail ++ cut)

-- nothing was done
pub halt_none : {D : Type 0} (on : View D) (start : World D) (plan : Plan) (p : Point) (held : Option (List ℕ)) (cluster : Cluster D) (stop : Stop)
    → IsAtPoint on start plan cluster p → p.held ≡ held → stop ≢ SinkFailed → stop ≢ Denied → Halt on start plan p held cluster.world stop [] p.sessions []
halt_none on start plan p held cluster stop shows same other undenied = record {
  behind = [];
  tail = [];
  extra = [];
  off = (refl, refl, refl, other, undenied);
  lacking = [];
  linked = to_none stop plan p.been p.outcomes;
  at_nodes = tt;
  since = (p.awaited, subst (λ (os : List Outcome). WorldIsAt on start os p.awaited cluster.world) (sym (append-nil p.outcomes)) shows.at);
  lives = λ not. subst (λ (d : List Act). AreLives plan d cluster.world) (sym (append-nil p.been)) shows.lives;
  causes = subst (λ (d : List Act). HasCauses on start (failed_in d) cluster.world) (sym (append-nil p.been)) shows.causes;
  missing = [];
  all = inl refl;
  cut = [];
  is_cut = inl refl;
  whole = λ _. refl;
  gave = subst (λ (h : Option (List ℕ)). Appends p.held h []) same (appends_none p.held);
}

pub halt_line : {D : Type 0} (on : View D) (start : World D) (plan : Plan) (p : Point) (line : List ℕ) (reason : Why) (held : Option (List ℕ)) (world : World D)
    (s : LineStopped on start plan p line reason held world) → Halt on start plan p held world s.stop s.midst s.sessions s.new
halt_line on start plan p line reason held world s = record {
  behind = s.behind;
  tail = s.tail;
  extra = s.extra;
  off = s.off;
  lacking = s.lacking;
  linked = s.linked;
  at_nodes = s.at_nodes;
  since = s.since;
  lives = s.lives;
  causes = s.causes;
  missing = s.missing;
  all = s.all;
  cut = s.cut;
  is_cut = s.is_cut;
  whole = s.whole;
  gave = s.gave;
}

-- where the cluster denied an order, nothing of it was written
none_part : (missing : List Entry) (cut : List ℕ) → missing ≡ [] → IsCutEntry missing cut → cut ≡ []
none_part missing cut none part = ⊎_elim (λ (empty : cut ≡ []). empty)
    (λ (some : IsPartOfLine missing cut). absurd (let never : some.entry ∷ some.more ≡ [] = sym some.are ∙ none in cc)) part

none_behind : (xs ys : List Entry) → xs ++ ys ≡ [] → ys ≡ []
none_behind [] ys none = none
none_behind (x ∷ xs) ys none = absurd (let never : x ∷ (xs ++ ys) ≡ [] = none in cc)

denied_whole : (plan : Plan) (been : List Act) (old new : List Session) (left : List (List ℕ)) (by_line : List (List Act)) (tail missing : List Entry) (extra more : List Made) (cut : List ℕ)
    → IsLeftOff plan been Denied old left by_line tail extra new → IsLeftOff plan been OutOfMemory old left by_line (tail ++ missing) more new → IsCutEntry missing cut → cut ≡ []
denied_whole plan been old new [] [] tail missing extra more cut off all part = absurd (off.4 refl)
denied_whole plan been old new (line ∷ []) ([] ∷ []) tail missing extra more cut off all part = none_part missing cut (none_behind tail missing all.0.none) part
denied_whole plan been old new (line ∷ []) ((act ∷ acts) ∷ []) tail missing extra more cut (turn, done, may) all part = absurd done.may
denied_whole plan been old new left by_line tail missing extra more cut off all part = absurd off

uncut : {D : Type 0} (on : View D) (start : World D) (plan : Plan) (p : Point) (held : Option (List ℕ)) (world : World D) (stop : Stop) (midst : List (List ℕ)) (sessions : List Session) (new : List Outcome)
    (h : Halt on start plan p held world stop midst sessions new) → (IsCutShort stop → ⊥) → h.cut ≡ []
uncut on start plan p held world BehindLine midst sessions new h short = h.whole refl
uncut on start plan p held world SinkFailed midst sessions new h short = absurd (short tt)
uncut on start plan p held world OutOfMemory midst sessions new h short = absurd (short tt)
uncut on start plan p held world Denied midst sessions new h short = ⊎_elim
    (λ (none : h.missing ≡ []). none_part h.missing h.cut none h.is_cut)
    (λ (some : (more : List Made) × IsLeftOff plan p.been OutOfMemory p.sessions midst h.behind (h.tail ++ h.missing) more sessions).
    denied_whole plan p.been p.sessions sessions midst h.behind h.tail h.missing h.extra some.0 h.cut h.off some.1 h.is_cut)
    h.all

-- a prefix of a line with its LF that is not the whole of it
front_of_line : (line cut rest : List ℕ) → HasNoLf line → 0 < length rest → ended line ≡ cut ++ rest → HasNoLf cut
front_of_line line [] rest none some parts = All-nil _
front_of_line [] (y ∷ cut) rest none some parts = absurd (omega (arith, some, ap length parts, length-append cut rest))
front_of_line (x ∷ line) (y ∷ cut) rest none some parts =
    All-cons IsNoLf y cut (subst IsNoLf (ap (λ (l : List ℕ). slice_index l 0) parts) (All-head IsNoLf x line none))
    (front_of_line line cut rest (All-tail IsNoLf x line none) some (ap (drop 1) parts))

missing_lines : (front missing : List Entry) → All HasNoLf (map entry_line (front ++ missing)) → All HasNoLf (map entry_line missing)
missing_lines [] missing all = all
missing_lines (entry ∷ front) missing all = missing_lines front missing (All-tail HasNoLf (entry_line entry) (map entry_line (front ++ missing)) all)

cut_line : (missing : List Entry) (cut : List ℕ) → IsCutEntry missing cut → All HasNoLf (map entry_line missing) → HasNoLf cut
cut_line missing cut part all = ⊎_elim (λ (none : cut ≡ []). subst HasNoLf (sym none) (All-nil _))
    (λ (some : IsPartOfLine missing cut). front_of_line (entry_line some.entry) cut some.rest
    (All-head HasNoLf (entry_line some.entry) (map entry_line some.more) (subst (λ (es : List Entry). All HasNoLf (map entry_line es)) some.are all)) some.some some.whole)
    part

-- behind a line no step more was made
behind_none : (plan : Plan) (been : List Act) (old : List Session) (left : List (List ℕ)) (acts : List (List Act)) (entries : List Entry) (extra : List Made) (new : List Session)
    → IsLeftOff plan been BehindLine old left acts entries extra new → extra ≡ []
behind_none plan been old [] [] entries extra new off = off.1
behind_none plan been old (line ∷ []) ([] ∷ []) entries extra new off = absurd off.0.in_vain
behind_none plan been old (line ∷ []) ((act ∷ acts) ∷ []) entries extra new off = off.2
behind_none plan been old left acts entries extra new off = absurd off

module _ {D : Type 0} (on : View D) (start : World D) (left0 left1 left2 held0 held1 held2 : Option (List ℕ)) (old : Cluster D) (count room1 room2 from : ℕ) (world : World D) (answer : Drove)
    (p : Progress on start left0 left1 held0 held1 old count room1) (names : NamesLine answer (from + count + 1))
    (begins : IsAtBeginning on (plan_of start) start) (owing : WorldOwes on) (settling : WorldOwesSettled on) where
  module _ (stop : Stop) (midst : List (List ℕ)) (sessions : List Session) (new : List Outcome) (h : Halt on start (plan_of start) p.point held2 world stop midst sessions new)
      (taken others : List ℕ) (took : Consumes left1 left2 taken) (size : room2 + length taken ≡ room1) (parts : taken ≡ flat_map ended midst ++ others) (each : All HasNoLf midst)
      (stops : Stops (stop_of answer) stop (plan_of start) p.point.been sessions midst left2 others room2 (p.point.outcomes ++ new)) where
    abbrev entries : List Entry
    entries = flat_map all_of p.outputs ++ h.tail

    driven : (s : Stop) (tail : List Entry) (extra made : List Made) → made ≡ flat_map made_by (joined (p.acts ++ h.behind)) ++ extra → IsLeftOff (plan_of start) p.point.been s p.point.sessions midst h.behind tail extra sessions
        → IsDriven (plan_of start) s p.handled midst p.acts h.behind made (flat_map all_of p.outputs ++ tail) sessions
    driven s tail extra made are off = record {
      outputs = p.outputs;
      mid = p.point.sessions;
      are = p.are;
      tail = tail;
      extra = extra;
      off = subst (λ (d : List Act). IsLeftOff (plan_of start) d s p.point.sessions midst h.behind tail extra sessions) p.been off;
      written = refl;
      steps = are;
    }

    led : AreLedTo stop (plan_of start) [] [] (joined (p.acts ++ h.behind)) (p.point.outcomes ++ new) h.lacking h.extra
    led = subst (λ (by : List Act). AreLedTo stop (plan_of start) [] [] by (p.point.outcomes ++ new) h.lacking h.extra) (sym (flat_map-append (λ a. a) p.acts h.behind))
        (to_more stop (plan_of start) [] [] (joined p.acts) p.point.outcomes (joined h.behind) new h.lacking h.extra p.linked
        (subst (λ (d : List Act). AreLedTo stop (plan_of start) d p.point.outcomes (joined h.behind) new h.lacking h.extra) p.been h.linked))

    linked : AreLinked (joined (p.acts ++ h.behind)) (p.point.outcomes ++ new) h.lacking h.extra × MayLackOne stop h.lacking
    linked = to_linked stop (plan_of start) [] [] (joined (p.acts ++ h.behind)) (p.point.outcomes ++ new) h.lacking h.extra led

    is_driven : IsDriven (plan_of start) stop p.handled midst p.acts h.behind (map made_of (p.point.outcomes ++ new)) entries sessions
    is_driven = driven stop h.tail h.extra (map made_of (p.point.outcomes ++ new)) linked.0.made h.off

    rest : HasNoLf h.cut
    rest = ⊎_elim
        (λ (none : h.missing ≡ []). cut_line h.missing h.cut h.is_cut (subst (λ (es : List Entry). All HasNoLf (map entry_line es)) (sym none) (All-nil HasNoLf)))
        (λ (some : (more : List Made) × IsLeftOff (plan_of start) p.point.been OutOfMemory p.point.sessions midst h.behind (h.tail ++ h.missing) more sessions).
        cut_line h.missing h.cut h.is_cut (missing_lines entries h.missing
        (subst (λ (es : List Entry). All HasNoLf (map entry_line es)) (sym (append_assoc (flat_map all_of p.outputs) h.tail h.missing))
        (driven_writes_lines (plan_of start) OutOfMemory p.handled midst p.acts h.behind _ _ sessions (driven OutOfMemory (h.tail ++ h.missing) some.0 _ refl some.1)))))
        h.all

    nodes_are : AreAtOwnNodes sessions (p.point.outcomes ++ new)
    nodes_are = at_nodes_more p.point.sessions sessions (left_stays (plan_of start) p.point.been stop p.point.sessions sessions midst h.behind h.tail h.extra h.off) p.point.outcomes new p.at_nodes h.at_nodes

    -- behind a line no step more was made, and the nodes are as the acts left them
    none_more : stop ≡ BehindLine → h.extra ≡ []
    none_more is = behind_none (plan_of start) p.point.been p.point.sessions midst h.behind h.tail h.extra sessions
        (subst (λ (s : Stop). IsLeftOff (plan_of start) p.point.been s p.point.sessions midst h.behind h.tail h.extra sessions) is h.off)

    lives_now : (stop ≡ OutOfMemory → ⊥) → AreLives (plan_of start) (joined (p.acts ++ h.behind)) world
    lives_now not = subst (λ (d : List Act). AreLives (plan_of start) d world) (ap (λ (l : List Act). l ++ joined h.behind) p.been ∙ sym (flat_map-append (λ a. a) p.acts h.behind)) (h.lives not)

    pub drives_of : Drives on start left0 left2 held0 held2 answer from world
    unfolding is_driven driven
    drives_of = record {
      read = flat_map ended p.handled ++ taken;
      handled = p.handled;
      midst = midst;
      others = others;
      room = room2;
      took = consumes_more _ _ _ _ _ p.took took;
      tape = ap (λ (l : List ℕ). flat_map ended p.handled ++ l) parts ∙ sym (append_assoc (flat_map ended p.handled) (flat_map ended midst) others)
          ∙ ap (λ (l : List ℕ). l ++ others) (sym (flat_map-append ended p.handled midst));
      each = All-append HasNoLf p.handled midst p.each each;
      limit = omega (arith, p.size, size, length-append (flat_map ended p.handled) taken);
      stop = stop;
      acts = p.acts;
      behind = h.behind;
      entries = entries;
      sessions = sessions;
      driven = is_driven;
      cut = h.cut;
      gave = subst (Appends held0 held2) (sym (append_assoc (written_of (flat_map all_of p.outputs)) (written_of h.tail) h.cut) ∙ ap (λ (l : List ℕ). l ++ h.cut) (sym (written_more (flat_map all_of p.outputs) h.tail)))
          (appends_more _ _ _ _ _ p.gave (subst (λ (held : Option (List ℕ)). Appends held held2 (written_of h.tail ++ h.cut)) p.held_is h.gave));
      lines = driven_writes_lines (plan_of start) stop p.handled midst p.acts h.behind _ _ sessions is_driven;
      rest = rest;
      outcomes = p.point.outcomes ++ new;
      awaited = h.since.0;
      lacking = h.lacking;
      steps = h.since.1.made;
      led = led;
      at_nodes = nodes_are;
      lives = lives_now;
      none_waits = none_waits on start world begins stop p.handled midst p.acts h.behind _ entries sessions is_driven (p.point.outcomes ++ new) h.since.0 h.since.1.made refl nodes_are
          (λ k among. to_waits k stop (plan_of start) [] [] (joined (p.acts ++ h.behind)) (p.point.outcomes ++ new) h.lacking h.extra led among);
      why = subst (λ (d : List Act). Stops (stop_of answer) stop (plan_of start) d sessions midst left2 others room2 (p.point.outcomes ++ new)) p.been stops;
      number = subst (λ (n : ℕ). NamesLine answer (from + n + 1)) (sym p.counted) names;
      whole = uncut on start (plan_of start) p.point held2 world stop midst sessions new h;
      later = λ n disk disk' there at. later_after on (p.point.outcomes ++ new) [] h.since.0 start world n disk disk' h.since.1.made there at;
      fallen = λ n among. h.causes n (subst (λ (d : List Act). Among n (failed_in d)) (flat_map-append (λ a. a) p.acts h.behind ∙ ap (λ (l : List Act). l ++ joined h.behind) (sym p.been)) among);
      letters = letters_in on start world begins stop p.handled midst p.acts h.behind _ entries sessions is_driven (p.point.outcomes ++ new) h.since.0 h.since.1.made refl nodes_are
          (plan_stays on (p.point.outcomes ++ new) [] h.since.0 start world h.since.1.made).0;
      sound = whole_in on start world begins stop p.handled midst p.acts h.behind _ entries sessions is_driven (p.point.outcomes ++ new) h.since.0 h.since.1.made refl nodes_are;
      one_map = one_map_in on start world begins stop p.handled midst p.acts h.behind _ entries sessions is_driven (p.point.outcomes ++ new) h.since.0 h.since.1.made refl nodes_are;
      maps_right = λ is. maps_right_in on start world begins stop p.handled midst p.acts h.behind _ entries sessions is_driven (p.point.outcomes ++ new) h.since.0 h.since.1.made refl nodes_are h.lacking h.extra led is (none_more is);
      named = names_in on start world begins stop p.handled midst p.acts h.behind _ entries sessions is_driven (p.point.outcomes ++ new) h.since.0 h.since.1.made refl nodes_are h.lacking h.extra led;
      quiet = stays_whole on (p.point.outcomes ++ new) h.since.0 start world;
      kept = kept_in on start world begins stop p.handled midst p.acts h.behind _ entries sessions is_driven (p.point.outcomes ++ new) h.since.0 h.since.1.made refl nodes_are
          owing settling h.lacking h.extra led none_more lives_now linked.0.asked linked.1 linked.0.answered (plan_stays on (p.point.outcomes ++ new) [] h.since.0 start world h.since.1.made).0;
    }

-- a line that is not handled: `end`, one that is no order, or one for whose order memory ran out
pub not_handled : {D : Type 0} (on : View D) (start : World D) (plan : Plan) (p : Point) (line : List ℕ) (reason : Why) (held : Option (List ℕ)) (cluster : Cluster D) (stop : Stop)
    → IsAtPoint on start plan cluster p → p.held ≡ held → stop ≢ SinkFailed → stop ≢ Denied → IsWhy reason plan p line stop [] [] → LineStopped on start plan p line reason held cluster.world
not_handled on start plan p line reason held cluster stop shows same other undenied is =
    let h = halt_none on start plan p held cluster stop shows same other undenied in
    record {
      stop = stop;
      midst = [];
      behind = h.behind;
      tail = h.tail;
      extra = h.extra;
      sessions = p.sessions;
      off = h.off;
      at_line = inl refl;
      new = [];
      why = is;
      lacking = h.lacking;
      linked = h.linked;
      at_nodes = h.at_nodes;
      since = h.since;
      lives = h.lives;
      causes = h.causes;
      missing = h.missing;
      all = h.all;
      cut = h.cut;
      is_cut = h.is_cut;
      whole = h.whole;
      gave = h.gave;
    }

-- where no line was left, nothing was done after the last
none_left : (plan : Plan) (been : List Act) (stop : Stop) (old : List Session) (left : List (List ℕ)) (acts : List (List Act)) (entries : List Entry) (extra : List Made) (new : List Session)
    → left ≡ [] → IsLeftOff plan been stop old left acts entries extra new → new ≡ old
none_left plan been stop old [] [] entries extra new none off = off.2
none_left plan been stop old [] (a ∷ acts) entries extra new none off = absurd off
none_left plan been stop old (line ∷ left) acts entries extra new none off = absurd (let never : line ∷ left ≡ [] = none in cc)

in_midst : (line : List ℕ) (midst : List (List ℕ)) → midst ≡ line ∷ [] → ended line ≡ flat_map ended midst ++ []
in_midst line midst is = sym (append-nil (ended line)) ∙ sym (append-nil (ended line ++ [])) ∙ ap (λ (ls : List (List ℕ)). flat_map ended ls ++ []) (sym is)

pub behind_not_sink : BehindLine ≢ SinkFailed
behind_not_sink is = cc

pub behind_not_denied : BehindLine ≢ Denied
behind_not_denied is = cc

pub memory_not_sink : OutOfMemory ≢ SinkFailed
memory_not_sink is = cc

pub memory_not_denied : OutOfMemory ≢ Denied
memory_not_denied is = cc

-- a stop at which no line was read
record NoLine (reason : Why) (plan : Plan) (been : List Act) (sessions : List Session) (left : Option (List ℕ)) (taken : List ℕ) (room : ℕ) (outcomes : List Outcome) : Type 0 where
  pub stop : Stop
  pub other : stop ≢ SinkFailed
  pub undenied : stop ≢ Denied
  pub stops : Stops reason stop plan been sessions [] left taken room outcomes

-- why no line was read
no_line_why : (why : LineStop) (plan : Plan) (been : List Act) (sessions : List Session) (left : Option (List ℕ)) (taken : List ℕ) (room : ℕ) (outcomes : List Outcome) → ReadsLine (Err why) left taken room
    → NoLine (of_line why) plan been sessions left taken room outcomes
no_line_why line.ReadFault plan been sessions left taken room outcomes reads = record { stop = BehindLine; other = behind_not_sink; undenied = behind_not_denied; stops = (refl, refl, reads) }
no_line_why line.EndedEarly plan been sessions left taken room outcomes reads =
    record { stop = BehindLine; other = behind_not_sink; undenied = behind_not_denied; stops = inl (refl, refl, inl (refl, reads.0, reads.1)) }
no_line_why line.LongLine plan been sessions left taken room outcomes reads =
    record { stop = BehindLine; other = behind_not_sink; undenied = behind_not_denied; stops = inl (refl, refl, inr (inl (refl, reads.0, reads.1))) }
no_line_why line.TooLong plan been sessions left taken room outcomes reads =
    record { stop = BehindLine; other = behind_not_sink; undenied = behind_not_denied; stops = inl (refl, refl, inr (inr (inr (inl (refl, reads.0, reads.1))))) }
no_line_why line.NoMemory plan been sessions left taken room outcomes reads = record { stop = OutOfMemory; other = memory_not_sink; undenied = memory_not_denied; stops = (refl, inl reads) }

-- the octets of the line at which the work stopped, and why
record LineWhy (reason : Why) (plan : Plan) (p : Point) (line : List ℕ) (stop : Stop) (midst : List (List ℕ)) (sessions : List Session) (left : Option (List ℕ)) (room : ℕ) (new : List Outcome) : Type 0 where
  pub others : List ℕ
  pub parts : ended line ≡ flat_map ended midst ++ others
  pub each : All HasNoLf midst
  pub stops : Stops reason stop plan p.been sessions midst left others room (p.outcomes ++ new)

unread : (line : List ℕ) (midst : List (List ℕ)) → midst ≡ [] → ended line ≡ flat_map ended midst ++ ended line
unread line midst none = ap (λ (ls : List (List ℕ)). flat_map ended ls ++ ended line) (sym none)

none_each : (midst : List (List ℕ)) → midst ≡ [] → All HasNoLf midst
none_each midst none = subst (All HasNoLf) (sym none) (All-nil HasNoLf)

one_each : (line : List ℕ) (midst : List (List ℕ)) → HasNoLf line → midst ≡ line ∷ [] → All HasNoLf midst
one_each line midst one is = subst (All HasNoLf) (sym is) (All-cons HasNoLf line [] one (All-nil HasNoLf))

-- the last of more outcomes was denied, too
denied_more : (fault : TapeFault) (before new : List Outcome) → EndsDenied fault new → EndsDenied fault (before ++ new)
denied_more fault before new ends = (before ++ ends.0, ends.1, ap (λ (l : List Outcome). before ++ l) ends.2 ∙ sym (append_assoc before ends.0 (ends.1 ∷ [])), ends.3)

-- why a line was not handled
line_why : (reason : Why) (plan : Plan) (p : Point) (line : List ℕ) (stop : Stop) (midst : List (List ℕ)) (sessions : List Session) (left : Option (List ℕ)) (room : ℕ) (new : List Outcome) → HasNoLf line
    → (midst ≡ [] → sessions ≡ p.sessions) → ((midst ≡ []) ⊎ (midst ≡ line ∷ [])) → IsWhy reason plan p line stop midst new
    → LineWhy reason plan p line stop midst sessions left room new
line_why why.Ended plan p line stop midst sessions left room new one same at is = record {
  others = ended line;
  parts = unread line midst is.1;
  each = none_each midst is.1;
  stops = (is.0, is.1, record { line = line; whole = refl; one = one; spelled = is.2 });
}
line_why (why.Bad fault) plan p line stop midst sessions left room new one same at is = ⊎_elim
    (λ found. record {
      others = ended line;
      parts = unread line midst found.1;
      each = none_each midst found.1;
      stops = inl (
        found.0,
        found.1,
        ⊎_elim
            (λ (none : (fault ≡ BadLine) × (tape_order line ≡ None)). inr (inr (inl (none.0, record { line = line; whole = refl; one = one; spelled = none.1 }))))
            (λ (some : (order : Order) × (tape_order line ≡ Some order) × (refusal plan p.been p.sessions order ≡ Some (tape_fault_seen fault))).
            inr (inr (inr (inr (
              some.0,
              record { line = line; whole = refl; one = one; spelled = some.1 },
              subst (λ (ss : List Session). refusal plan p.been ss some.0 ≡ Some (tape_fault_seen fault)) (sym (same found.1)) some.2,
            )))))
            found.2,
      );
    })
    (λ denied. record {
      others = [];
      parts = in_midst line midst denied.1;
      each = one_each line midst one denied.1;
      stops = inr (denied.0, refl, denied_more fault p.outcomes new denied.2);
    })
    is
line_why why.WriteFault plan p line stop midst sessions left room new one same at is =
    record { others = []; parts = in_midst line midst is.1; each = one_each line midst one is.1; stops = (is.0, refl) }
line_why why.NoMemory plan p line stop midst sessions left room new one same at is = ⊎_elim
    (λ (none : midst ≡ []). record { others = ended line; parts = unread line midst none; each = none_each midst none; stops = (is, inr (line, refl, one)) })
    (λ (some : midst ≡ line ∷ []). record { others = []; parts = in_midst line midst some; each = one_each line midst one some; stops = (is, inl (All-nil _)) })
    at
line_why why.ReadFault plan p line stop midst sessions left room new one same at is = absurd is

-- whatever the last turn did
pub stops : {D T : Type 0} (on : View D) (start : World D) (left0 left1 left2 held0 held1 held2 : Option (List ℕ)) (old new : Cluster D) (count room1 room2 from : ℕ) (reason : Why) (answer : Drove)
    (p : Progress on start left0 left1 held0 held1 old count room1)
    → (plan : Plan) → plan ≡ plan_of start → Turned {T = T} on start plan p.point (Err reason) left1 left2 room1 room2 held2 old new → stop_of answer ≡ reason → NamesLine answer (from + count + 1)
    → IsAtBeginning on (plan_of start) start → WorldOwes on → WorldOwesSettled on → Drives on start left0 left2 held0 held2 answer from new.world
stops {D} {T} on start left0 left1 left2 held0 held1 held2 old new count room1 room2 from reason answer p plan same turned is names begins owing settling = ⊎_elim
    (λ (none : (why : LineStop) × (reason ≡ of_line why) × ReadsLine (Err why) left2 t.taken room2 × (p.point.held ≡ held2) × (new ≡ old)).
    let because = no_line_why none.0 (plan_of start) p.point.been p.point.sessions left2 t.taken room2 (p.point.outcomes ++ []) none.2 in
    subst (λ (cluster : Cluster D). Drives on start left0 left2 held0 held2 answer from cluster.world) (sym none.4)
    (drives_of on start left0 left1 left2 held0 held1 held2 old count room1 room2 from old.world answer p names begins owing settling because.stop [] p.point.sessions []
    (halt_none on start (plan_of start) p.point held2 old because.stop p.shows none.3 because.other because.undenied)
    t.taken t.taken t.took t.size refl (All-nil HasNoLf)
    (subst (λ (r : Why). Stops r because.stop (plan_of start) p.point.been p.point.sessions [] left2 t.taken room2 (p.point.outcomes ++ [])) (sym (is ∙ none.1)) because.stops)))
    (λ (some : (line : List ℕ) × (t.taken ≡ ended line) × HasNoLf line × LineStopped on start (plan_of start) p.point line reason held2 new.world).
    let s = some.3 in
    let because = line_why reason (plan_of start) p.point some.0 s.stop s.midst s.sessions left2 room2 s.new some.2
    (λ none. none_left (plan_of start) p.point.been s.stop p.point.sessions s.midst s.behind s.tail s.extra s.sessions none s.off) s.at_line s.why in
    drives_of on start left0 left1 left2 held0 held1 held2 old count room1 room2 from new.world answer p names begins owing settling s.stop s.midst s.sessions s.new
    (halt_line on start (plan_of start) p.point some.0 reason held2 new.world s)
    t.taken because.others t.took t.size (some.1 ∙ because.parts) because.each
    (subst (λ (r : Why). Stops r s.stop (plan_of start) p.point.been s.sessions s.midst left2 because.others room2 (p.point.outcomes ++ s.new)) (sym is) because.stops))
    t.did
  where
    t : Turned {T = T} on start (plan_of start) p.point (Err reason) left1 left2 room1 room2 held2 old new
    t = subst (λ (pl : Plan). Turned {T = T} on start pl p.point (Err reason) left1 left2 room1 room2 held2 old new) same turned
