-- Who reads behind a line is at a node that is up.
use Rattle.std.proofs.Common.{◌≡◌, ◌≢◌, ◌⊎◌, ⊎_elim, inl, inr, ◌+◌, ℕ, zero, suc, List, [], ◌∷◌, ◌++◌, length, flat_map, Option, Some, None, refl, sym, ap, ap₂, ◌∙◌, subst, append-nil, append_assoc}
use Rattle.std.specs.Prelude.{All}
use Rattle.std.proofs.lemmas.Bool.{cases_eq}
use Rattle.std.proofs.lemmas.List.Elements.{All-nil, All-cons, All-head, All-tail}
use Rattle.std.proofs.lemmas.Grind.{flat_map-append}
use Rattle.object_model.specs.Lists.{Among}
use Rattle.object_model.proofs.Lists.{among_front, among_behind, among_either}
use Rattle.mail_model.specs.Plan.{Plan}
use Rattle.mail_model.specs.Tape.{Protocol, Order, ClusterOrder}
use Rattle.mail_model.specs.Tape.{ClusterOrder as order}
use Rattle.mail_model.specs.Tape.Order.{Open, Say, Feed, Close, GiveUp, Moves, End}
use Rattle.mail_model.specs.Lines.{sent_line}
use Rattle.mail_model.specs.Transcript.{Entry, all_of}
use Rattle.session_model.specs.Events.{NodeLife, IsUp}
use Rattle.session_model.specs.Events.NodeLife.{Up}
use Rattle.session_model.specs.Events.ClusterEvent.{HasFlowed}
use Rattle.session_model.specs.Talk.{Exchange, IsOn}
use Rattle.session_model.specs.Sessions.{Session, session_at}
use Rattle.session_model.specs.Acts.{Act, Deed, Did, Acted, ActedAll, opened_session, replace, greeting_of}
use Rattle.session_model.specs.Acts.Act.{Opens, Does, Faults, StillWaits, Leaves, Makes, Abandons}
use Rattle.session_model.specs.Acts.Deed.{IsFed, Hears, IsAnswered, IsGivenUp, Falls, Closes}
use Rattle.session_model.specs.Clocks.{seconds_after}
use Rattle.session_model.specs.Lives.{life_by, life_from, life_after}
use Rattle.session_model.specs.Turns.{Turn, Next, ActsGo, Starts, IsAtNode}
use Rattle.session_model.specs.Turns.Turn.{Hearing, Beginning, Closing, Falling, Asking}
use Rattle.session_model.specs.Run.{IsHandled, AreHandled, IsDriven, IsCutShort, made_by}
use Rattle.session_model.specs.Run.Stop.{BehindLine}
use Rattle.session_model.proofs.Acts.{replaced, replaced_other, pushed, pushed_other}
use Rattle.session_model.proofs.Losses.{life_both}
use Rattle.session_model.proofs.Standing.{standing_are_up}
use Rattle.fresh_sessions.specs.Acts.{IsReaderAct}
use Rattle.drive_tape.proofs.OwnNodes.{all_stay}
use Rattle.drive_tape.proofs.Talks.{did_node}

-- ---- readers leave all nodes as they are

reader_same : (act : Act) (n : ℕ) (life : NodeLife) → IsReaderAct act → life_by act n life ≡ life
reader_same (Opens protocol node greeting) n life is = refl
reader_same (Does k deed) n life is = refl
reader_same (Faults node) n life is = absurd is
reader_same (StillWaits k) n life is = refl
reader_same (Leaves k user) n life is = refl
reader_same (Makes order.Flow HasFlowed) n life is = refl
reader_same (Makes asked event) n life is = absurd is
reader_same (Abandons k) n life is = absurd is

readers_same : (acts : List Act) (n : ℕ) (life : NodeLife) → All IsReaderAct acts → life_from life acts n ≡ life
readers_same [] n life readers = refl
readers_same (act ∷ acts) n life readers =
    readers_same acts n (life_by act n life) (All-tail IsReaderAct act acts readers) ∙ reader_same act n life (All-head IsReaderAct act acts readers)

pub readers_leave : (been acts : List Act) (n : ℕ) → All IsReaderAct acts → life_after (been ++ acts) n ≡ life_after been n
readers_leave been acts n readers = life_both been acts n (Up 1) ∙ readers_same acts n (life_after been n) readers

-- two parts of a list of which this is so
pub all_parts : {X : Type 0} (P : X → Type 0) (xs ys : List X) → All P (xs ++ ys) → All P xs × All P ys
all_parts P [] ys all = (All-nil P, all)
all_parts P (x ∷ xs) ys all =
    let rest = all_parts P xs ys (All-tail P x (xs ++ ys) all) in (All-cons P x xs (All-head P x (xs ++ ys) all) rest.0, rest.1)

-- ---- a session is opened at the beginning of a line, at a node that is up

next_opens : (turn next : Turn) (sessions : List Session) (protocol : Protocol) (node : ℕ) (greeting : List ℕ) → Next turn sessions (Opens protocol node greeting) next → ⊥
next_opens (Hearing k onward) next sessions protocol node greeting is = is
next_opens (Beginning k onward) next sessions protocol node greeting is = is
next_opens (Closing k onward) next sessions protocol node greeting is = is
next_opens (Falling k n onward) next sessions protocol node greeting is = is
next_opens (Asking k) next sessions protocol node greeting is = is

goes_opens : (plan : Plan) (turn last : Turn) (old new : List Session) (acts : List Act) (outputs : List (List Entry)) (protocol : Protocol) (node : ℕ) (greeting : List ℕ)
    → ActsGo plan turn old acts outputs last new → Among (Opens protocol node greeting) acts → ⊥
goes_opens plan turn last old new [] outputs protocol node greeting goes among = among
goes_opens plan turn last old new (act ∷ acts) [] protocol node greeting goes among = goes
goes_opens plan turn last old new (act ∷ acts) (entries ∷ outputs) protocol node greeting (next, mid, is, acted, goes) among = ⊎_elim
    (λ (same : act ≡ Opens protocol node greeting). next_opens turn next old protocol node greeting (subst (λ (a : Act). Next turn old a next) same is))
    (λ (rest : Among (Opens protocol node greeting) acts). goes_opens plan next last mid new acts outputs protocol node greeting goes rest) among

starts_up : (plan : Plan) (been : List Act) (asked : Order) (sessions : List Session) (act : Act) (turn : Turn) (protocol : Protocol) (node : ℕ) (greeting : List ℕ) → Starts plan been asked sessions act turn
    → act ≡ Opens protocol node greeting → IsUp (life_after been node)
starts_up plan been (Open proto n) sessions act turn protocol node greeting (boot, up, is, next) same =
    subst (λ (i : ℕ). IsUp (life_after been i)) (node_same proto protocol n node (greeting_of proto n boot (length sessions + 1) (seconds_after been)) greeting (sym is ∙ same)) (subst IsUp (sym up) tt)
  where
    node_same : (p q : Protocol) (a b : ℕ) (g h : List ℕ) → Opens p a g ≡ Opens q b h → a ≡ b
    node_same p q a b g h e = cc
starts_up plan been (Say k text) sessions act turn protocol node greeting (is, next) same = absurd (let never : Does k (IsFed (sent_line text)) ≡ Opens protocol node greeting = sym is ∙ same in cc)
starts_up plan been (Feed k octets) sessions act turn protocol node greeting (is, next) same = absurd (let never : Does k (IsFed octets) ≡ Opens protocol node greeting = sym is ∙ same in cc)
starts_up plan been (Close k) sessions act turn protocol node greeting starts same = absurd (⊎_elim
    (λ now. let never : Does k Closes ≡ Opens protocol node greeting = sym now.0 ∙ same in cc)
    (λ first. let never : Abandons k ≡ Opens protocol node greeting = sym first.0 ∙ same in cc) starts)
starts_up plan been (GiveUp k) sessions act turn protocol node greeting (call, reply, is, next) same = absurd (let never : Does k (IsGivenUp call reply) ≡ Opens protocol node greeting = sym is ∙ same in cc)
starts_up plan been (Moves asked) sessions act turn protocol node greeting (event, may, is, next) same = absurd (let never : Makes asked event ≡ Opens protocol node greeting = sym is ∙ same in cc)
starts_up plan been End sessions act turn protocol node greeting starts same = absurd starts

line_up : (plan : Plan) (been : List Act) (old new : List Session) (line : List ℕ) (acts : List Act) (outputs : List (List Entry)) (protocol : Protocol) (node : ℕ) (greeting : List ℕ)
    → IsHandled plan been old line acts outputs new → Among (Opens protocol node greeting) acts → IsUp (life_after been node)
line_up plan been old new line acts outputs protocol node greeting handled among =
    let begun = handled.begun in
    let there : Among (Opens protocol node greeting) (begun.first ∷ begun.more) = subst (Among (Opens protocol node greeting)) begun.acts_are among in
    ⊎_elim
    (λ (same : begun.first ≡ Opens protocol node greeting). starts_up plan been begun.order old begun.first begun.next protocol node greeting begun.starts same)
    (λ (rest : Among (Opens protocol node greeting) begun.more). absurd (goes_opens plan begun.next handled.last begun.mid new begun.more begun.others protocol node greeting begun.goes rest)) there

-- while nobody but readers does anything, each session is opened at a node that was up before
pub opened_up : (plan : Plan) (been : List Act) (old new : List Session) (lines : List (List ℕ)) (by_line : List (List Act)) (outputs : List (List (List Entry))) (protocol : Protocol) (node : ℕ) (greeting : List ℕ)
    → AreHandled plan been old lines by_line outputs new → All IsReaderAct (flat_map (λ a. a) by_line) → Among (Opens protocol node greeting) (flat_map (λ a. a) by_line) → IsUp (life_after been node)
opened_up plan been old new [] [] [] protocol node greeting handled readers among = absurd among
opened_up plan been old new (line ∷ lines) (acts ∷ by_line) (says ∷ outputs) protocol node greeting (mid, one, more) readers among = ⊎_elim
    (λ (here : Among (Opens protocol node greeting) acts). line_up plan been old mid line acts says protocol node greeting one here)
    (λ (later : Among (Opens protocol node greeting) (flat_map (λ a. a) by_line)).
    let parts = all_parts IsReaderAct acts (flat_map (λ a. a) by_line) readers in
    subst IsUp (readers_leave been acts node parts.0) (opened_up plan (been ++ acts) mid new lines by_line outputs protocol node greeting more parts.1 later))
    (among_either (Opens protocol node greeting) acts (flat_map (λ a. a) by_line) among)
opened_up plan been old new lines by_line outputs protocol node greeting handled readers among = absurd handled

-- ---- the lines up to one that opens a session, and those from it on

-- in the first list, or in the second
split_front : {X : Type 0} (xs ys front behind : List X) (x : X) → xs ++ ys ≡ front ++ x ∷ behind
    → ((more : List X) × (xs ≡ front ++ x ∷ more)) ⊎ ((ahead : List X) × (front ≡ xs ++ ahead) × (ys ≡ ahead ++ x ∷ behind))
split_front [] ys front behind x e = inr (front, refl, e)
split_front {X} (z ∷ xs) ys [] behind x e = inl (xs, ap (λ (a : X). a ∷ xs) (let same : z ≡ x = cc in same))
split_front {X} (z ∷ xs) ys (f ∷ front) behind x e =
    let head : z ≡ f = cc in
    let tail : xs ++ ys ≡ front ++ x ∷ behind = cc in
    ⊎_elim
    (λ (found : (more : List X) × (xs ≡ front ++ x ∷ more)). inl (found.0, ap₂ ◌∷◌ head found.1))
    (λ (later : (ahead : List X) × (front ≡ xs ++ ahead) × (ys ≡ ahead ++ x ∷ behind)). inr (later.0, ap₂ ◌∷◌ (sym head) later.1, later.2))
    (split_front xs ys front behind x tail)

-- an act of a line by which a session is opened is its first
opens_first : (plan : Plan) (been : List Act) (old new : List Session) (line : List ℕ) (acts : List Act) (outputs : List (List Entry)) (protocol : Protocol) (node : ℕ) (greeting : List ℕ) (front more : List Act)
    → IsHandled plan been old line acts outputs new → acts ≡ front ++ Opens protocol node greeting ∷ more → front ≡ []
opens_first plan been old new line acts outputs protocol node greeting [] more handled are = refl
opens_first plan been old new line acts outputs protocol node greeting (f ∷ front) more handled are =
    let begun = handled.begun in
    let same : begun.first ∷ begun.more ≡ f ∷ (front ++ Opens protocol node greeting ∷ more) = sym begun.acts_are ∙ are in
    let rest : begun.more ≡ front ++ Opens protocol node greeting ∷ more = cc in
    absurd (goes_opens plan begun.next handled.last begun.mid new begun.more begun.others protocol node greeting begun.goes
    (subst (Among (Opens protocol node greeting)) (sym rest) (among_behind (Opens protocol node greeting) front (Opens protocol node greeting ∷ more) (inl refl))))

pub record OpensAt (plan : Plan) (been : List Act) (old new : List Session) (front behind : List Act) (act : Act) : Type 0 where
  pub lines : List (List ℕ)
  pub by_line : List (List Act)
  pub outputs : List (List (List Entry))
  pub mid : List Session
  pub first : AreHandled plan been old lines by_line outputs mid
  pub front_is : flat_map (λ a. a) by_line ≡ front
  pub later_lines : List (List ℕ)
  pub later : List (List Act)
  pub says : List (List (List Entry))
  pub then_more : AreHandled plan (been ++ front) mid later_lines later says new
  pub behind_is : flat_map (λ a. a) later ≡ act ∷ behind

pub opens_at : (plan : Plan) (been : List Act) (old new : List Session) (lines : List (List ℕ)) (by_line : List (List Act)) (outputs : List (List (List Entry))) (front behind : List Act) (protocol : Protocol) (node : ℕ) (greeting : List ℕ)
    → AreHandled plan been old lines by_line outputs new → flat_map (λ a. a) by_line ≡ front ++ Opens protocol node greeting ∷ behind → OpensAt plan been old new front behind (Opens protocol node greeting)
opens_at plan been old new [] [] [] [] behind protocol node greeting handled are = absurd (let never : ◌≡◌ {A = List Act} [] (Opens protocol node greeting ∷ behind) = are in cc)
opens_at plan been old new [] [] [] (f ∷ front) behind protocol node greeting handled are = absurd (let never : ◌≡◌ {A = List Act} [] (f ∷ (front ++ Opens protocol node greeting ∷ behind)) = are in cc)
opens_at plan been old new (line ∷ lines) (acts ∷ by_line) (says ∷ outputs) front behind protocol node greeting (mid, one, more) are = ⊎_elim
    (λ (here : (rest : List Act) × (acts ≡ front ++ Opens protocol node greeting ∷ rest)).
    let none = opens_first plan been old mid line acts says protocol node greeting front here.0 one here.1 in
    record {
      lines = [];
      by_line = [];
      outputs = [];
      mid = old;
      first = refl;
      front_is = sym none;
      later_lines = line ∷ lines;
      later = acts ∷ by_line;
      says = says ∷ outputs;
      then_more = subst (λ (d : List Act). AreHandled plan d old (line ∷ lines) (acts ∷ by_line) (says ∷ outputs) new) (sym (append-nil been) ∙ ap (λ (l : List Act). been ++ l) (sym none)) (mid, one, more);
      behind_is = are ∙ ap (λ (l : List Act). l ++ Opens protocol node greeting ∷ behind) none;
    })
    (λ (later : (ahead : List Act) × (front ≡ acts ++ ahead) × (flat_map (λ a. a) by_line ≡ ahead ++ Opens protocol node greeting ∷ behind)).
    let rest = opens_at plan (been ++ acts) mid new lines by_line outputs later.0 behind protocol node greeting more later.2 in
    record {
      lines = line ∷ rest.lines;
      by_line = acts ∷ rest.by_line;
      outputs = says ∷ rest.outputs;
      mid = rest.mid;
      first = (mid, one, rest.first);
      front_is = ap (λ (l : List Act). acts ++ l) rest.front_is ∙ sym later.1;
      later_lines = rest.later_lines;
      later = rest.later;
      says = rest.says;
      then_more = subst (λ (d : List Act). AreHandled plan d rest.mid rest.later_lines rest.later rest.says new) (append_assoc been acts later.0 ∙ ap (λ (l : List Act). been ++ l) (sym later.1)) rest.then_more;
      behind_is = rest.behind_is;
    })
    (split_front acts (flat_map (λ a. a) by_line) front behind (Opens protocol node greeting) are)
opens_at plan been old new lines by_line outputs front behind protocol node greeting handled are = absurd handled

-- ---- sessions that have not ended

-- each is at a node that is up
abbrev pub AllUp : (ℕ → NodeLife) → List Session → Type 0
AllUp lives sessions = (j : ℕ) (session : Session) → session_at sessions j ≡ Some session → IsOn session.standing → IsUp (lives session.node)

-- so it is behind each line
pub up_behind : (plan : Plan) (lines : List (List ℕ)) (by_line : List (List Act)) (outputs : List (List (List Entry))) (last : List Session) → AreHandled plan [] [] lines by_line outputs last
    → AllUp (life_after (flat_map (λ a. a) by_line)) last
up_behind plan lines by_line outputs last handled j session at on =
    subst (λ (l : List (List Act)). IsUp (life_after (flat_map (λ a. a) l) session.node)) (append-nil by_line)
    (standing_are_up plan BehindLine lines [] by_line [] (flat_map made_by (flat_map (λ a. a) (by_line ++ [])) ++ []) (flat_map all_of outputs ++ []) last driven (λ cut. cut) j session at on)
  where
    driven : IsDriven plan BehindLine lines [] by_line [] (flat_map made_by (flat_map (λ a. a) (by_line ++ [])) ++ []) (flat_map all_of outputs ++ []) last
    driven = record {
      outputs = outputs;
      mid = last;
      are = handled;
      tail = [];
      extra = [];
      off = (refl, refl, refl, λ same. cc, λ same. cc);
      written = refl;
      steps = refl;
    }

was_on : (plan : Plan) (deed : Deed) (before behind : Session) (said : List (List ℕ)) → Did plan before deed said behind → IsOn before.standing
was_on plan (IsFed more) before behind said (on, none, same) = on
was_on plan (Hears one) before behind said (state, rest, hears, next, replies, same, none) = subst IsOn (sym hears) tt
was_on plan (IsAnswered call answer reply) before behind said (been, one, state, cut, waits, replies, same, now) = subst IsOn (sym waits) tt
was_on plan (IsGivenUp call reply) before behind said (been, one, state, cut, waits, replies, same, now) = subst IsOn (sym waits) tt
was_on plan Falls before behind said (on, lines, same) = on
was_on plan Closes before behind said (on, none, same) = on

module _ (plan : Plan) (lives : ℕ → NodeLife) where
  same_up : (old new : List Session) → new ≡ old → AllUp lives old → AllUp lives new
  same_up old new is up j session at on = up j session (ap (λ (l : List Session). session_at l j) (sym is) ∙ at) on

  acted_up : (old new : List Session) (act : Act) (entries : List Entry) → Acted plan old act entries new → ((protocol : Protocol) (node : ℕ) (greeting : List ℕ) → act ≡ Opens protocol node greeting → IsUp (lives node))
      → AllUp lives old → AllUp lives new
  acted_up old new (Opens protocol node greeting) entries acted opens up j session at on = ⊎_elim
      (λ (same : j ≡ length old + 1).
      let found : Some (opened_session protocol node) ≡ Some session =
      sym (pushed old (opened_session protocol node)) ∙ ap (λ (l : List Session). session_at l (length old + 1)) (sym acted.1) ∙ ap (session_at new) (sym same) ∙ at in
      let one : opened_session protocol node ≡ session = cc in
      subst (λ (s : Session). IsUp (lives s.node)) one (opens protocol node greeting refl))
      (λ (other : j ≢ length old + 1). up j session (sym (pushed_other old (opened_session protocol node) j other) ∙ ap (λ (l : List Session). session_at l j) (sym acted.1) ∙ at) on)
      (cases_eq j (length old + 1))
  acted_up old new (Does k deed) entries (before, behind, said, at_k, did, says, is) opens up j session at on = ⊎_elim
      (λ (here : j ≡ k).
      let found : Some behind ≡ Some session = sym (replaced old k before behind at_k) ∙ ap (λ (l : List Session). session_at l k) (sym is) ∙ ap (session_at new) (sym here) ∙ at in
      let one : behind ≡ session = cc in
      subst (λ (n : ℕ). IsUp (lives n)) (sym (did_node plan before deed said behind did) ∙ ap (λ (s : Session). s.node) one) (up k before at_k (was_on plan deed before behind said did)))
      (λ (other : j ≢ k). up j session (sym (replaced_other old k j before behind at_k other) ∙ ap (λ (l : List Session). session_at l j) (sym is) ∙ at) on)
      (cases_eq j k)
  acted_up old new (Faults node) entries acted opens up j session at on = same_up old new acted.1 up j session at on
  acted_up old new (StillWaits k) entries acted opens up j session at on = same_up old new acted.1 up j session at on
  acted_up old new (Leaves k user) entries acted opens up j session at on = same_up old new acted.1 up j session at on
  acted_up old new (Makes asked event) entries acted opens up j session at on = same_up old new acted.1 up j session at on
  acted_up old new (Abandons k) entries acted opens up j session at on = same_up old new acted.1 up j session at on

  -- whoever hears a unit is at a node that is up
  pub hears_up : (old new : List Session) (acts : List Act) (outputs : List (List Entry)) → ActedAll plan old acts outputs new → AllUp lives old
      → ((protocol : Protocol) (node : ℕ) (greeting : List ℕ) → Among (Opens protocol node greeting) acts → IsUp (lives node)) → (k : ℕ) (one : Exchange) → Among (Does k (Hears one)) acts
      → (n : ℕ) × IsAtNode n (session_at new k) × IsUp (lives n)
  hears_up old new [] outputs acted up opens k one among = absurd among
  hears_up old new (act ∷ acts) [] acted up opens k one among = absurd acted
  hears_up old new (act ∷ acts) (entries ∷ outputs) (mid, acted, more) up opens k one among = ⊎_elim
      (λ (same : act ≡ Does k (Hears one)).
      let does : Acted plan old (Does k (Hears one)) entries mid = subst (λ (a : Act). Acted plan old a entries mid) same acted in (
        does.0.node,
        all_stay plan old new (act ∷ acts) (entries ∷ outputs) (mid, acted, more) k does.0.node (subst (IsAtNode does.0.node) (sym does.3) refl),
        up k does.0 does.3 (was_on plan (Hears one) does.0 does.1 does.2 does.4),
      ))
      (λ (rest : Among (Does k (Hears one)) acts).
      hears_up mid new acts outputs more (acted_up old mid act entries acted (λ protocol node greeting same. opens protocol node greeting (inl same)) up)
      (λ protocol node greeting later. opens protocol node greeting (inr later)) k one rest) among

-- whoever does something is a session that there is
pub does_there : (plan : Plan) (old new : List Session) (acts : List Act) (outputs : List (List Entry)) (k : ℕ) (deed : Deed) → ActedAll plan old acts outputs new → Among (Does k deed) acts → (n : ℕ) × IsAtNode n (session_at new k)
does_there plan old new [] outputs k deed acted among = absurd among
does_there plan old new (act ∷ acts) [] k deed acted among = absurd acted
does_there plan old new (act ∷ acts) (entries ∷ outputs) k deed (mid, acted, more) among = ⊎_elim
    (λ (same : act ≡ Does k deed).
    let does : Acted plan old (Does k deed) entries mid = subst (λ (a : Act). Acted plan old a entries mid) same acted in (
      does.0.node,
      all_stay plan old new (act ∷ acts) (entries ∷ outputs) (mid, acted, more) k does.0.node (subst (IsAtNode does.0.node) (sym does.3) refl),
    ))
    (λ (rest : Among (Does k deed) acts). does_there plan mid new acts outputs k deed more rest) among
