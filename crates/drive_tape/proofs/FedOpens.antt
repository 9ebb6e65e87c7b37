-- A session is opened.
use Rattle.std.proofs.Common.{◌≡◌, ◌⊎◌, ◌+◌, ◌++◌, ◌∷◌, ◌<◌, ℕ, zero, suc, Bool, true, false, List, [], length, All, Option, Some, None, Ok, Err, refl, sym, ap, ap₂, ◌∙◌, subst, inl, inr, ⊎_elim, arith}
use Rattle.std.specs.Prelude.{slice_get, nat_le, flat_map}
use Rattle.std.specs.Io.KnownBytes.{Appends}
use Rattle.std.proofs.lemmas.List.{append-nil, map-append}
use Rattle.std.proofs.lemmas.List.Elements.{All-nil, All-cons}
use Rattle.mail_model.specs.Lines.{HasNoCrlf, sent_line}
use Rattle.mail_model.specs.Plan.{Plan}
use Rattle.mail_model.specs.Site.{TapeFault}
use Rattle.mail_model.specs.Site.TapeFault.{NoSuchNode, TooManySessions}
use Rattle.mail_model.specs.Tape as tape
use Rattle.mail_model.specs.Tape.{or_else}
use Rattle.mail_model.specs.Tape.Order.{Open}
use Rattle.mail_model.specs.Transcript.{written_of, said_lines}
use Rattle.session_model.specs.Talk.{IsOn}
use Rattle.session_model.specs.Sessions.{Session}
use Rattle.session_model.specs.Acts.{Acted, greeting_of, opened_session}
use Rattle.session_model.specs.Acts.Act.{Opens}
use Rattle.session_model.specs.Events.{NodeLife}
use Rattle.session_model.specs.Lives.{life_after}
use Rattle.session_model.specs.Clocks.{seconds_after}
use Rattle.session_model.specs.Turns.{Starts}
use Rattle.session_model.specs.Turns.Turn.{Asking}
use Rattle.session_model.specs.Run.{refusal, work_fault, fault_if, is_no_node, is_on, count_on}
use Rattle.node_store.specs.Disks.{View}
use Rattle.cluster_world.specs.declared.world.World.{World}
use Rattle.drive_tape.specs.declared.cluster.Cluster.{Cluster}
use Rattle.drive_tape.specs.declared.open_call.OpenCall.{OpenCall}
use Rattle.drive_tape.specs.declared.entry.WriteStop.{WriteStop}
use Rattle.drive_tape.specs.Entries.{WritesEntries}
use Rattle.drive_tape.specs.Fed.{AdmitsSession, opening_fault}
use Rattle.drive_tape.specs.Lines.{IsStarted, LineStopped}
use Rattle.drive_tape.specs.Moving.{AreEven}
use Rattle.drive_tape.specs.Points.{Point, IsAtPoint}
use Rattle.drive_tape.specs.Clusters.{AsksFrom}
use Rattle.drive_tape.specs.Stops.{of_write}
use Rattle.drive_tape.specs.Talks.{Converse, HasOwnTicket, TicketFits, StandsOnNode, EachSession}
use Rattle.drive_tape.proofs.Joins.{stops_first}
use Rattle.drive_tape.proofs.Places.{IsPlainAct, up_on, lives_on, same_lives, causes_on}
use Rattle.drive_tape.proofs.Talks.{some_same, converse_length, on_on, within_get}

-- two faults are one, where the node is of the plan
pub node_alike : (plan : Plan) (n : ℕ) (b : Bool) → is_no_node plan n ≡ b → (x y : Option TapeFault) → (is_no_node plan n ≡ false → x ≡ y) → or_else (fault_if b NoSuchNode) x ≡ or_else (fault_if b NoSuchNode) y
node_alike plan n true is x y same = refl
node_alike plan n false is x y same = same is

pub opening_alike : {D : Type 0} (on : View D) (start : World D) (plan : Plan) (cluster : Cluster D) (p : Point) (protocol : tape.Protocol) (number : ℕ) → IsAtPoint on start plan cluster p
    → opening_fault plan cluster number ≡ refusal plan p.been p.sessions (Open protocol number)
opening_alike on start plan cluster p protocol number shows =
    node_alike plan number (is_no_node plan number) refl _ _
    (λ there. ap (λ (life : NodeLife). or_else (work_fault life) (fault_if (nat_le 256 cluster.sessions.standing) TooManySessions)) (shows.lives number there)
    ∙ ap (λ (n : ℕ). or_else (work_fault (life_after p.been number)) (fault_if (nat_le 256 n) TooManySessions)) shows.count)

pub admits_own : {D : Type 0} (plan : Plan) (cluster : Cluster D) (number : ℕ) (found : ℕ × ℕ) → AdmitsSession plan cluster number (Ok found) → AdmitsSession plan cluster found.0 (Ok found)
admits_own plan cluster number found a = subst (λ (n : ℕ). AdmitsSession plan cluster n (Ok found)) (sym a.0) a

-- lists with one more
get_front : {X : Type 0} (xs ys : List X) (i : ℕ) → i < length xs → slice_get (xs ++ ys) i ≡ slice_get xs i
get_front [] ys i within = absurd (omega (arith, within))
get_front (x ∷ xs) ys zero within = refl
get_front (x ∷ xs) ys (suc i) within = get_front xs ys i (omega (arith, within))

get_last : {X : Type 0} (xs : List X) (x : X) (i : ℕ) → i ≡ length xs → slice_get (xs ++ x ∷ []) i ≡ Some x
get_last [] x i is = rw is refl
get_last (y ∷ xs) x zero is = absurd (omega (arith, is))
get_last (y ∷ xs) x (suc i) is = get_last xs x i (omega (arith, is))

get_more : {X : Type 0} (xs : List X) (x y : X) (i : ℕ) → slice_get (xs ++ x ∷ []) i ≡ Some y → (slice_get xs i ≡ Some y) ⊎ ((i ≡ length xs) × (x ≡ y))
get_more [] x y zero is = inr (refl, some_same x y is)
get_more [] x y (suc i) is = absurd (let never : ◌≡◌ {A = Option _} None (Some y) = is in cc)
get_more (z ∷ xs) x y zero is = inl is
get_more (z ∷ xs) x y (suc i) is = ⊎_elim (λ (front : slice_get xs i ≡ Some y). inl front) (λ (last : (i ≡ length xs) × (x ≡ y)). inr (ap suc last.0, last.1)) (get_more xs x y i is)

each_more : (so : ℕ → Session → Type 0) (sessions : List Session) (one : Session) → EachSession so sessions → so (length sessions) one → EachSession so (sessions ++ one ∷ [])
each_more so sessions one each own i s is = ⊎_elim (λ (front : slice_get sessions i ≡ Some s). each i s front)
    (λ (last : (i ≡ length sessions) × (one ≡ s)). subst (λ (j : ℕ). so j s) (sym last.0) (subst (so (length sessions)) last.1 own)) (get_more sessions one s i is)

count_more : (sessions : List Session) (one : Session) → IsOn one.standing → count_on (sessions ++ one ∷ []) ≡ count_on sessions + 1
count_more [] one on = let o : is_on one.standing ≡ true = on_on one.standing on in rw o refl
count_more (s ∷ ss) one on = let more : count_on (ss ++ one ∷ []) ≡ count_on ss + 1 = count_more ss one on in omega (arith, more)

opens_plain : (protocol : tape.Protocol) (node : ℕ) (greeting : List ℕ) → IsPlainAct (Opens protocol node greeting)
opens_plain protocol node greeting = record { lives = λ n life. refl; failed = refl }

-- a session is opened
module _ {D : Type 0} (on : View D) (start : World D) (plan : Plan) (p : Point) (protocol : tape.Protocol) (node boot : ℕ) (old : Cluster D) (a : AdmitsSession plan old node (Ok (node, boot)))
    (shows : IsAtPoint on start plan old p) where
  abbrev pub greeting : List ℕ
  greeting = greeting_of protocol node boot (length p.sessions + 1) (seconds_after p.been)

  abbrev pub opened_point : Option (List ℕ) → Point
  opened_point held = record p { turn = Asking 1; sessions = p.sessions ++ opened_session protocol node ∷ []; been = p.been ++ Opens protocol node (greeting_of protocol node boot (length p.sessions + 1) (seconds_after p.been)) ∷ []; held = held }

  accepted : refusal plan p.been p.sessions (Open protocol node) ≡ None
  accepted = sym (opening_alike on start plan old p protocol node shows) ∙ a.4

  opens_so : Starts plan p.been (Open protocol node) p.sessions (Opens protocol node (greeting_of protocol node boot (length p.sessions + 1) (seconds_after p.been))) (Asking 1)
  opens_so = (boot, sym (shows.lives node a.3) ∙ a.1, refl, refl)

  opens_acted : Acted plan p.sessions (Opens protocol node (greeting_of protocol node boot (length p.sessions + 1) (seconds_after p.been))) (said_lines (length p.sessions + 1) (greeting_of protocol node boot (length p.sessions + 1) (seconds_after p.been) ∷ []) ++ [])
      (p.sessions ++ opened_session protocol node ∷ [])
  opens_acted = (refl, refl)

  pub opened_started : (held : Option (List ℕ)) → Appends p.held held (written_of (said_lines (length p.sessions + 1) (greeting_of protocol node boot (length p.sessions + 1) (seconds_after p.been) ∷ []) ++ []))
      → IsStarted plan p (opened_point held) (Open protocol node)
  opened_started held gave = record {
    accepted = accepted;
    first = Opens protocol node greeting;
    said = said_lines (length p.sessions + 1) (greeting ∷ []) ++ [];
    starts = opens_so;
    acted = opens_acted;
    outcomes = [];
    linked = refl;
    at_nodes = tt;
    came = sym (append-nil p.outcomes);
    been = refl;
    gave = gave;
  }

  -- its greeting was written in part
  pub opened_stopped : (line : List ℕ) (held : Option (List ℕ)) (reason : WriteStop) (world : World D) → world ≡ old.world → tape.tape_order line ≡ Some (Open protocol node)
      → WritesEntries {E = WriteStop} p.held held (Err reason) (said_lines (length p.sessions + 1) (greeting_of protocol node boot (length p.sessions + 1) (seconds_after p.been) ∷ []) ++ []) → LineStopped on start plan p line (of_write reason) held world
  opened_stopped line held reason world same spelled wrote =
      stops_first on start plan p (Open protocol node) line spelled accepted (Opens protocol node greeting) _ (Asking 1) (p.sessions ++ opened_session protocol node ∷ []) opens_so opens_acted [] refl tt
      reason held world wrote (p.awaited, rw (same, append-nil p.outcomes) shows.at)
      (lives_on plan p.been (Opens protocol node greeting) world world (opens_plain protocol node greeting) (same_lives world) (rw same shows.lives))
      (causes_on on start world p.been (Opens protocol node greeting) (opens_plain protocol node greeting) (rw same shows.causes))

  pub opened_shows : (held : Option (List ℕ)) (new : Cluster D) → new.world ≡ old.world → AreEven old.sessions → Converse new.sessions.talkers.items (p.sessions ++ opened_session protocol node ∷ [])
      → new.sessions.nodes.items ≡ old.sessions.nodes.items ++ node ∷ [] → new.sessions.calls.items ≡ old.sessions.calls.items ++ None ∷ [] → new.sessions.standing ≡ old.sessions.standing + 1
      → IsAtPoint on start plan new (opened_point held)
  opened_shows held new world even talks nodes kept count =
      let act = Opens protocol node greeting in
      let one = opens_plain protocol node greeting in
      record {
        at = rw world shows.at;
        talks = talks;
        nodes = nodes ∙ ap (λ (l : List ℕ). l ++ node ∷ []) shows.nodes ∙ sym (map-append (λ (s : Session). s.node) p.sessions (opened_session protocol node ∷ []));
        tickets = each_more (HasOwnTicket new.sessions.calls.items p.awaited) p.sessions (opened_session protocol node) before last;
        count = count ∙ ap (λ (n : ℕ). n + 1) shows.count ∙ sym (count_more p.sessions (opened_session protocol node) tt);
        lives = lives_on plan p.been act new.world new.world one (same_lives new.world) (rw world shows.lives);
        up = each_more (λ i s. StandsOnNode plan (p.been ++ act ∷ []) s) p.sessions (opened_session protocol node) (λ i s is. up_on plan p.been act s one (shows.up i s is))
            (up_on plan p.been act (opened_session protocol node) one (λ stands. record { there = a.3; boot = boot; up = sym (shows.lives node a.3) ∙ a.1 }));
        causes = causes_on on start new.world p.been act one (rw world shows.causes);
      }
    where
      as_many : length old.sessions.calls.items ≡ length p.sessions
      as_many = even.calls ∙ converse_length old.sessions.talkers.items p.sessions shows.talks

      before : EachSession (HasOwnTicket new.sessions.calls.items p.awaited) p.sessions
      before i s is =
          let inside : i < length p.sessions = within_get p.sessions i s is in
          let here : slice_get new.sessions.calls.items i ≡ slice_get old.sessions.calls.items i =
          ap (λ (l : List (Option OpenCall)). slice_get l i) kept ∙ get_front old.sessions.calls.items (None ∷ []) i (omega (arith, inside, as_many)) in
          subst (λ (o : Option (Option OpenCall)). TicketFits o s (i + 1) p.awaited s.standing) (sym here) (shows.tickets i s is)

      last : HasOwnTicket new.sessions.calls.items p.awaited (length p.sessions) (opened_session protocol node)
      last = ap (λ (l : List (Option OpenCall)). slice_get l (length p.sessions)) kept ∙ get_last old.sessions.calls.items None (length p.sessions) (sym as_many)

  pub opened_asks : (held : Option (List ℕ)) → AsksFrom 0 (opened_point held)
  opened_asks held = record { from = 1; ready = refl; before = omega arith; none = λ j above below waits. absurd (omega (arith, above, below)) }

pub one_line_said : (text before out : List ℕ) → before ≡ [] → out ≡ before ++ sent_line text → out ≡ flat_map sent_line (text ∷ [])
one_line_said text before out none is = is ∙ ap (λ (b : List ℕ). b ++ sent_line text) none ∙ sym (append-nil (sent_line text))

pub length_more : {X : Type 0} (xs : List X) (x : X) → length (xs ++ x ∷ []) ≡ length xs + 1
length_more [] x = refl
length_more (y ∷ xs) x = let more : length (xs ++ x ∷ []) ≡ length xs + 1 = length_more xs x in omega (arith, more)

-- what is written of a greeting
pub greeted : (h old new : Option (List ℕ)) (n k : ℕ) (text texts : List ℕ) → h ≡ old → n ≡ k → texts ≡ text → Appends old new (written_of (said_lines n (texts ∷ []) ++ [])) → Appends h new (written_of (said_lines k (text ∷ []) ++ []))
greeted h old new n k text texts same is at gave = rw (same, sym is, sym at) gave

pub not_greeted : (h old new : Option (List ℕ)) (n k : ℕ) (text texts : List ℕ) (reason : WriteStop) → h ≡ old → n ≡ k → texts ≡ text
    → WritesEntries {E = WriteStop} old new (Err reason) (said_lines n (texts ∷ []) ++ []) → WritesEntries {E = WriteStop} h new (Err reason) (said_lines k (text ∷ []) ++ [])
not_greeted h old new n k text texts reason same is at wrote =
    subst (λ (o : Option (List ℕ)). WritesEntries {E = WriteStop} o new (Err reason) (said_lines k (text ∷ []) ++ [])) (sym same)
    (subst (λ (m : ℕ). WritesEntries {E = WriteStop} old new (Err reason) (said_lines m (text ∷ []) ++ [])) is
    (subst (λ (t : List ℕ). WritesEntries {E = WriteStop} old new (Err reason) (said_lines n (t ∷ []) ++ [])) at wrote))

pub greets_same : (protocol : tape.Protocol) (node boot n m seconds now : ℕ) → n ≡ m → seconds ≡ now → greeting_of protocol node boot (n + 1) seconds ≡ greeting_of protocol node boot (m + 1) now
greets_same protocol node boot n m seconds now same clock = ap₂ (λ (i s : ℕ). greeting_of protocol node boot (i + 1) s) same clock

pub all_one : (text : List ℕ) → HasNoCrlf text → All HasNoCrlf (text ∷ [])
all_one text is = All-cons HasNoCrlf text [] is (All-nil HasNoCrlf)
