-- A line's own act, and what follows it.
use Rattle.std.proofs.Common.{◌≡◌, ◌≢◌, inl, inr, ⊎_elim, ℕ, List, [], ◌∷◌, ◌++◌, Option, Some, None, Result, Ok, Err, refl, sym, ap, ◌∙◌, subst, append_assoc}
use Rattle.std.specs.Io.KnownBytes.{Appends}
use Rattle.std.proofs.lemmas.List.{append-nil, append_cancel_right}
use Rattle.io_edge.proofs.Known.{appends_more}
use Rattle.mail_model.specs.Plan.{Plan}
use Rattle.mail_model.specs.Tape.{Order, tape_order}
use Rattle.mail_model.specs.Transcript.{Entry, written_of, all_of}
use Rattle.session_model.specs.Sessions.{Session}
use Rattle.session_model.specs.Acts.{Act, Acted}
use Rattle.session_model.specs.Lives.{failed_in}
use Rattle.session_model.specs.Logs.{Asked}
use Rattle.session_model.specs.Turns as turns
use Rattle.session_model.specs.Turns.{Turn, Starts}
use Rattle.session_model.specs.Run.{Made, Stop, IsBegun, MayMiss, MayHaveAsked, refusal}
use Rattle.session_model.specs.Run.Stop.{BehindLine, Denied, SinkFailed, OutOfMemory}
use Rattle.node_store.specs.Disks.{View}
use Rattle.cluster_world.specs.Outcomes.{Outcome}
use Rattle.cluster_world.specs.declared.world.World.{World}
use Rattle.drive_tape.specs.declared.cluster.Cluster.{Cluster}
use Rattle.drive_tape.specs.declared.entry.WriteStop.{WriteStop}
use Rattle.drive_tape.specs.declared.entry.WriteStop.TheVariants as write
use Rattle.drive_tape.specs.declared.drove.Stop.{Stop as Why}
use Rattle.drive_tape.specs.declared.drove.Stop.TheVariants as why
use Rattle.drive_tape.specs.Entries.{WritesEntries}
use Rattle.drive_tape.specs.Happenings.{WritesOrStops}
use Rattle.drive_tape.specs.Lines.{NothingIsUnderWay, IsStarted, IsWhy, LineDid, LineWent, LineStopped}
use Rattle.drive_tape.specs.Parts.{IsCutEntry, IsPartOfLine}
use Rattle.drive_tape.specs.Led.{Led, AreLed, AreLedTo}
use Rattle.drive_tape.specs.Points.{Point, AreAtOwnNodes, IsMissingTail, MayLack, IsStop, Stopped, WentOn, WorkGoes}
use Rattle.drive_tape.specs.Stops.{of_write}
use Rattle.drive_tape.specs.Worlds.{IsSince, AreLives, HasCauses}
use Rattle.drive_tape.proofs.OwnNodes.{at_nodes_more, goes_stay}
use Rattle.drive_tape.proofs.Replies.{written_more}
use Rattle.drive_tape.proofs.Led.{led_one, led_more, to_none, to_more}
use Rattle.drive_tape.proofs.Works.{all_more}

-- outputs of which none, or a part of the last, is missing: those before the last, and the last in two parts
record LastCut (outputs : List (List Entry)) (front missing : List Entry) : Type 0 where
  before : List (List Entry)
  says : List Entry
  are : outputs ≡ before ++ says ∷ []
  kept : List Entry
  cut : says ≡ kept ++ missing
  written : front ≡ all_of before ++ kept

last_of : (first : List Entry) (outputs : List (List Entry)) → (before : List (List Entry)) × (says : List Entry) × (first ∷ outputs ≡ before ++ says ∷ [])
last_of first [] = ([], first, refl)
last_of first (next ∷ outputs) = let more = last_of next outputs in (first ∷ more.0, more.1, ap (λ (l : List (List Entry)). first ∷ l) more.2)

all_last : (before : List (List Entry)) (says : List Entry) → all_of (before ++ says ∷ []) ≡ all_of before ++ says
all_last before says = all_more before (says ∷ []) ∙ ap (λ (l : List Entry). all_of before ++ l) (append-nil says)

-- where nothing is missing
last_whole : (said : List Entry) (outputs : List (List Entry)) (front : List Entry) → all_of outputs ≡ front ++ [] → LastCut (said ∷ outputs) (said ++ front) []
last_whole said outputs front parts =
    let last = last_of said outputs in
    record {
      before = last.0;
      says = last.1;
      are = last.2;
      kept = last.1;
      cut = sym (append-nil last.1);
      written = ap (λ (l : List Entry). said ++ l) (sym (append-nil front) ∙ sym parts) ∙ ap all_of last.2 ∙ all_last last.0 last.1;
    }

-- where lines of the last act are missing
last_part : (said : List Entry) (outputs : List (List Entry)) (front missing : List Entry) (before : List (List Entry)) (kept : List Entry)
    → all_of outputs ≡ front ++ missing → outputs ≡ before ++ (kept ++ missing) ∷ [] → LastCut (said ∷ outputs) (said ++ front) missing
last_part said outputs front missing before kept parts is = record {
  before = said ∷ before;
  says = kept ++ missing;
  are = ap (λ (l : List (List Entry)). said ∷ l) is;
  kept = kept;
  cut = refl;
  written = ap (λ (l : List Entry). said ++ l) same ∙ sym (append_assoc said (all_of before) kept);
}
  where
    same : front ≡ all_of before ++ kept
    same = append_cancel_right front (all_of before ++ kept) missing (sym parts ∙ ap all_of is ∙ all_last before (kept ++ missing) ∙ sym (append_assoc (all_of before) kept missing))

last_cut : (said : List Entry) (outputs : List (List Entry)) (front missing : List Entry) → all_of outputs ≡ front ++ missing → IsMissingTail outputs missing → LastCut (said ∷ outputs) (said ++ front) missing
last_cut said outputs front missing parts tail = ⊎_elim
    (λ (none : missing ≡ []). subst (LastCut (said ∷ outputs) (said ++ front)) (sym none) (last_whole said outputs front (parts ∙ ap (λ (l : List Entry). front ++ l) none)))
    (λ (some : (before : List (List Entry)) × (kept : List Entry) × (outputs ≡ before ++ (kept ++ missing) ∷ [])). last_part said outputs front missing some.0 some.1 parts some.2)
    tail

may_miss : (stop : Stop) (missing : List Entry) (lacking : List Asked) → MayLack stop missing lacking → MayMiss stop missing
may_miss BehindLine missing lacking may = absurd may
may_miss Denied missing lacking may = absurd may
may_miss SinkFailed missing lacking may = may.0
may_miss OutOfMemory missing lacking may = tt

never_behind : (stop : Stop) (missing : List Entry) (lacking : List Asked) (cut : List ℕ) → MayLack stop missing lacking → stop ≡ BehindLine → cut ≡ []
never_behind BehindLine missing lacking cut may is = absurd may
never_behind Denied missing lacking cut may is = absurd may
never_behind SinkFailed missing lacking cut may is = absurd (let never : SinkFailed ≡ BehindLine = is in cc)
never_behind OutOfMemory missing lacking cut may is = absurd (let never : OutOfMemory ≡ BehindLine = is in cc)

is_why : (reason : Why) (plan : Plan) (p : Point) (line : List ℕ) (stop : Stop) (new : List Outcome) → IsStop reason stop → IsWhy reason plan p line stop (line ∷ []) new
is_why why.Ended plan p line stop new is = absurd is
is_why why.ReadFault plan p line stop new is = absurd is
is_why why.WriteFault plan p line stop new is = (is, refl)
is_why (why.Bad fault) plan p line stop new is = absurd is
is_why why.NoMemory plan p line stop new is = is

nothing_asked : (stop : Stop) (turn : Turn) (sessions : List Session) → MayHaveAsked stop turn sessions []
nothing_asked BehindLine turn sessions = refl
nothing_asked Denied turn sessions = refl
nothing_asked SinkFailed turn sessions = refl
nothing_asked OutOfMemory turn sessions = inl refl

part_some : (missing : List Entry) (cut : List ℕ) → IsPartOfLine missing cut → missing ≢ []
part_some missing cut part none = absurd (let never : part.entry ∷ part.more ≡ [] = sym part.are ∙ none in cc)

-- ---- a line that begins

module _ {D : Type 0} (on : View D) (start : World D) (plan : Plan) (p : Point) (order : Order) (line : List ℕ) (spelled : tape_order line ≡ Some order)
    (accepted : refusal plan p.been p.sessions order ≡ None) (first : Act) (said : List Entry) (turn : Turn) (sessions : List Session)
    (starts : Starts plan p.been order p.sessions first turn) (acted : Acted plan p.sessions first said sessions) (firsts : List Outcome) (own : Led plan p.been p.outcomes first firsts) (at_own : AreAtOwnNodes sessions firsts) where
  begins : (acts : List Act) (outputs : List (List Entry)) (next : Turn) (new : List Session) → turns.ActsGo plan turn sessions acts outputs next new
      → IsBegun plan p.been p.sessions line (first ∷ acts) (said ∷ outputs) next new
  begins acts outputs next new goes = record {
    order = order;
    spelled = spelled;
    accepted = accepted;
    first = first;
    said = said;
    next = turn;
    mid = sessions;
    starts = starts;
    acted = acted;
    more = acts;
    others = outputs;
    goes = goes;
    acts_are = refl;
    outputs_are = refl;
  }

  -- it stops before it was done
  stops_in : (reason : Why) (held : Option (List ℕ)) (world : World D) (stop : Stop) → IsStop reason stop → (acts : List Act) (outputs : List (List Entry)) (next : Turn) (new : List Session)
      → turns.ActsGo plan turn sessions acts outputs next new → (came : List Outcome) (lacking : List Asked) (extra : List Made) → AreLedTo stop plan (p.been ++ first ∷ []) (p.outcomes ++ firsts) acts came lacking extra → AreAtOwnNodes new came → MayHaveAsked stop next new extra
      → (front missing : List Entry) → LastCut (said ∷ outputs) front missing → MayLack stop missing lacking
      → (cut : List ℕ) → IsCutEntry missing cut → Appends p.held held (written_of front ++ cut) → IsSince on start (p.outcomes ++ (firsts ++ came)) world
      → ((stop ≡ OutOfMemory → ⊥) → AreLives plan (p.been ++ first ∷ acts) world) → HasCauses on start (failed_in (p.been ++ first ∷ acts)) world → LineStopped on start plan p line reason held world
  stops_in reason held world stop is acts outputs next new goes came lacking extra linked at_nodes asked front missing last may cut is_cut gave since lives causes = record {
    stop = stop;
    midst = line ∷ [];
    behind = (first ∷ acts) ∷ [];
    tail = front;
    extra = extra;
    sessions = new;
    off = (
      next,
      record {
        before = last.before;
        says = last.says;
        begun = begun;
        front = last.kept;
        missing = missing;
        cut = last.cut;
        may = may_miss stop missing lacking may;
        written = last.written;
      },
      asked,
    );
    at_line = inr refl;
    new = firsts ++ came;
    why = is_why reason plan p line stop (firsts ++ came) is;
    lacking = lacking;
    linked = subst (λ (by : List Act). AreLedTo stop plan p.been p.outcomes by (firsts ++ came) lacking extra) (sym (append-nil (first ∷ acts)))
        (to_more stop plan p.been p.outcomes (first ∷ []) firsts acts came lacking extra (led_one plan p.been p.outcomes first firsts own) linked);
    at_nodes = at_nodes_more sessions new (goes_stay plan turn next sessions new acts outputs goes) firsts came at_own at_nodes;
    since = since;
    lives = λ not. subst (λ (by : List Act). AreLives plan (p.been ++ by) world) (sym (append-nil (first ∷ acts))) (lives not);
    causes = subst (λ (by : List Act). HasCauses on start (failed_in (p.been ++ by)) world) (sym (append-nil (first ∷ acts))) causes;
    missing = missing;
    all = inr (
      [],
      (
        next,
        record {
          before = last.before;
          says = last.says;
          begun = begun;
          front = last.says;
          missing = [];
          cut = sym (append-nil last.says);
          may = tt;
          written = ap (λ (l : List Entry). l ++ missing) last.written ∙ append_assoc (all_of last.before) last.kept missing ∙ ap (λ (l : List Entry). all_of last.before ++ l) (sym last.cut);
        },
        inl refl,
      ),
    );
    cut = cut;
    is_cut = is_cut;
    whole = never_behind stop missing lacking cut may;
    gave = gave;
  }
    where
      begun : IsBegun plan p.been p.sessions line (first ∷ acts) (last.before ++ last.says ∷ []) next new
      begun = subst (λ (os : List (List Entry)). IsBegun plan p.been p.sessions line (first ∷ acts) os next new) last.are (begins acts outputs next new goes)

  -- a front of the first act's own lines was written, and nothing was done after it
  pub stops_own : (reason : Why) (held : Option (List ℕ)) (world : World D) (stop : Stop) → IsStop reason stop → (front missing : List Entry) → said ≡ front ++ missing → MayLack stop missing []
      → (cut : List ℕ) → IsCutEntry missing cut → Appends p.held held (written_of front ++ cut) → IsSince on start (p.outcomes ++ firsts) world
      → ((stop ≡ OutOfMemory → ⊥) → AreLives plan (p.been ++ first ∷ []) world) → HasCauses on start (failed_in (p.been ++ first ∷ [])) world → LineStopped on start plan p line reason held world
  stops_own reason held world stop is front missing parts may cut is_cut gave since lives causes =
      stops_in reason held world stop is [] [] turn sessions (refl, refl) [] [] [] (to_none stop plan (p.been ++ first ∷ []) (p.outcomes ++ firsts)) tt (nothing_asked stop turn sessions) front missing
      (record { before = []; says = said; are = refl; kept = front; cut = parts; written = refl }) may cut is_cut gave
      (subst (λ (os : List Outcome). IsSince on start (p.outcomes ++ os) world) (sym (append-nil firsts)) since) lives causes

  -- they were written in part
  pub stops_first : (reason : WriteStop) (held : Option (List ℕ)) (world : World D) → WritesEntries {E = WriteStop} p.held held (Err reason) said → IsSince on start (p.outcomes ++ firsts) world
      → AreLives plan (p.been ++ first ∷ []) world → HasCauses on start (failed_in (p.been ++ first ∷ [])) world → LineStopped on start plan p line (of_write reason) held world
  stops_first write.WriteFault held world wrote since lives causes =
      stops_own why.WriteFault held world SinkFailed refl wrote.0 wrote.1 wrote.3 (part_some wrote.1 wrote.2 wrote.4, refl) wrote.2 (inr wrote.4) wrote.5 since (λ not. lives) causes
  stops_first write.NoMemory held world wrote since lives causes =
      stops_own why.NoMemory held world OutOfMemory refl wrote.0 wrote.1 wrote.3 (inl refl) wrote.2 (inr wrote.4) wrote.5 since (λ not. lives) causes

  -- or where there may be none
  pub stops_event : (reason : WriteStop) (held : Option (List ℕ)) (world : World D) → WritesOrStops p.held held (Err reason) said → IsSince on start (p.outcomes ++ firsts) world
      → AreLives plan (p.been ++ first ∷ []) world → HasCauses on start (failed_in (p.been ++ first ∷ [])) world → LineStopped on start plan p line (of_write reason) held world
  stops_event reason held world wrote since lives causes = by_entries said refl reason wrote
    where
      by_entries : (es : List Entry) → said ≡ es → (r : WriteStop) → WritesOrStops p.held held (Err r) es → LineStopped on start plan p line (of_write r) held world
      by_entries [] none write.NoMemory none_wrote = stops_own why.NoMemory held world OutOfMemory refl [] [] none (inl refl) [] (inl refl) none_wrote since (λ not. lives) causes
      by_entries [] none write.WriteFault none_wrote = absurd none_wrote
      by_entries (entry ∷ es) some write.NoMemory some_wrote =
          stops_first write.NoMemory held world (subst (λ (l : List Entry). WritesEntries {E = WriteStop} p.held held (Err write.NoMemory) l) (sym some) some_wrote) since lives causes
      by_entries (entry ∷ es) some write.WriteFault some_wrote =
          stops_first write.WriteFault held world (subst (λ (l : List Entry). WritesEntries {E = WriteStop} p.held held (Err write.WriteFault) l) (sym some) some_wrote) since lives causes

-- what is written of an event, where all of it is
pub wrote_all : (old new : Option (List ℕ)) (done : Unit {0}) (entries : List Entry) → WritesOrStops old new (Ok done) entries → Appends old new (written_of entries)
wrote_all old new done [] wrote = wrote
wrote_all old new done (entry ∷ entries) wrote = wrote

module _ {D : Type 0} (on : View D) (start : World D) (plan : Plan) (p q : Point) (order : Order) (line : List ℕ) (held : Option (List ℕ)) (spelled : tape_order line ≡ Some order)
    (s : IsStarted plan p q order) where
  -- it is handled
  went : (cluster : Cluster D) → WentOn on start plan q NothingIsUnderWay held cluster → LineWent on start plan p line held cluster
  went cluster w = record {
    q = w.q;
    acts = s.first ∷ w.work.acts;
    outputs = s.said ∷ w.work.outputs;
    outcomes = s.outcomes ++ w.work.outcomes;
    handled = record {
      last = w.q.turn;
      begun = begins on start plan p order line spelled s.accepted s.first s.said q.turn q.sessions s.starts s.acted s.outcomes s.linked s.at_nodes w.work.acts w.work.outputs w.q.turn w.q.sessions w.work.goes;
      done = w.so_is;
    };
    linked = led_more plan p.been p.outcomes (s.first ∷ []) s.outcomes w.work.acts w.work.outcomes (led_one plan p.been p.outcomes s.first s.outcomes s.linked)
        (subst (λ (os : List Outcome). AreLed plan (p.been ++ s.first ∷ []) os w.work.acts w.work.outcomes) s.came
        (subst (λ (d : List Act). AreLed plan d q.outcomes w.work.acts w.work.outcomes) s.been w.work.linked));
    at_nodes = at_nodes_more q.sessions w.q.sessions (goes_stay plan q.turn w.q.turn q.sessions w.q.sessions w.work.acts w.work.outputs w.work.goes) s.outcomes w.work.outcomes s.at_nodes w.work.at_nodes;
    came = w.work.came ∙ ap (λ (l : List Outcome). l ++ w.work.outcomes) s.came ∙ append_assoc p.outcomes s.outcomes w.work.outcomes;
    been = w.work.been ∙ ap (λ (l : List Act). l ++ w.work.acts) s.been ∙ append_assoc p.been (s.first ∷ []) w.work.acts;
    gave = subst (Appends p.held w.q.held) (sym (written_more s.said (all_of w.work.outputs))) (appends_more _ _ _ _ _ s.gave w.work.gave);
    held_is = w.held_is;
    shows = w.shows;
  }

  -- it stops
  pub halted : (reason : Why) (world : World D) → Stopped on start plan q reason held world → LineStopped on start plan p line reason held world
  halted reason world stopped =
      let c = stopped.cut in
      stops_in on start plan p order line spelled s.accepted s.first s.said q.turn q.sessions s.starts s.acted s.outcomes s.linked s.at_nodes reason held world stopped.stop stopped.is
      c.acts c.outputs c.turn c.sessions c.goes c.new c.lacking c.extra (subst (λ (os : List Outcome). AreLedTo stopped.stop plan (p.been ++ s.first ∷ []) os c.acts c.new c.lacking c.extra) s.came
      (subst (λ (d : List Act). AreLedTo stopped.stop plan d q.outcomes c.acts c.new c.lacking c.extra) s.been c.linked)) c.at_nodes c.asked (s.said ++ c.front) c.missing (last_cut s.said c.outputs c.front c.missing c.parts c.tail) c.may c.cut c.is_cut
      (subst (Appends p.held held) (sym (append_assoc (written_of s.said) (written_of c.front) c.cut) ∙ ap (λ (l : List ℕ). l ++ c.cut) (sym (written_more s.said c.front))) (appends_more _ _ _ _ _ s.gave c.gave))
      (subst (λ (os : List Outcome). IsSince on start os world) (c.came ∙ ap (λ (l : List Outcome). l ++ c.new) s.came ∙ append_assoc p.outcomes s.outcomes c.new) stopped.since)
      (λ not. subst (λ (been : List Act). AreLives plan been world) (ap (λ (l : List Act). l ++ c.acts) s.been ∙ append_assoc p.been (s.first ∷ []) c.acts) (stopped.lives not))
      (subst (λ (been : List Act). HasCauses on start (failed_in been) world) (ap (λ (l : List Act). l ++ c.acts) s.been ∙ append_assoc p.been (s.first ∷ []) c.acts) stopped.causes)

-- the line's own act, and then what it leads to
pub joins : {D T : Type 0} (on : View D) (start : World D) (plan : Plan) (p q : Point) (order : Order) (line : List ℕ) (result : Result T Why) (held : Option (List ℕ)) (cluster : Cluster D)
    → tape_order line ≡ Some order → IsStarted plan p q order → WorkGoes on start plan q NothingIsUnderWay result held cluster → LineDid on start plan p line result held cluster
joins on start plan p q order line (Ok done) held cluster spelled s w = went on start plan p q order line held spelled s cluster w
joins on start plan p q order line (Err reason) held cluster spelled s stopped = halted on start plan p q order line held spelled s reason cluster.world stopped
