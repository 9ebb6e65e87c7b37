-- A run that ended behind a settle keeps what is promised of a settled epoch: what its world owes by outcomes, it owes by acts.
use Rattle.std.proofs.Common.{◌≡◌, ◌⊎◌, ⊎_elim, inl, inr, ◌+◌, ◌≤◌, ℕ, nat_eq, List, [], ◌∷◌, ◌++◌, length, map, flat_map, Option, Some, None, Result, Ok, refl, sym, ap, ◌∙◌, subst, append-nil, append_assoc}
use Rattle.std.specs.Prelude.{All}
use Rattle.std.proofs.lemmas.Bool.{cond-true, eq-eqb}
use Rattle.std.proofs.lemmas.List.{length-map}
use Rattle.std.proofs.lemmas.List.Elements.{All-cons, All-head, All-tail}
use Rattle.std.proofs.lemmas.Grind.{flat_map-append}
use Rattle.mail_model.specs.Plan.{Plan}
use Rattle.mail_model.specs.Maildrop.{Given}
use Rattle.mail_model.specs.PopReplies.{Item}
use Rattle.mail_model.specs.Record.{Record}
use Rattle.mail_model.specs.Tape.{Protocol, ClusterOrder}
use Rattle.mail_model.specs.Tape.Protocol.{Pop}
use Rattle.mail_model.specs.Tape.{ClusterOrder as order}
use Rattle.mail_model.specs.Transcript.{Entry, all_of}
use Rattle.object_model.specs.Letters.{Number}
use Rattle.object_model.specs.Lists.{Among}
use Rattle.object_model.proofs.Lists.{among_front, among_behind}
use Rattle.standing_model.specs.Standing.{AreStanding, NamesFragments, MembersAgree}
use Rattle.session_model.specs.Sums.{BookSum}
use Rattle.session_model.specs.Calls.{Call}
use Rattle.session_model.specs.Calls.Call.{Login}
use Rattle.session_model.specs.Calls.Answer.{Listed}
use Rattle.session_model.specs.Events.{NodeLife, IsUp, turned}
use Rattle.session_model.specs.Events.NodeLife.{Up, Down, Lost}
use Rattle.session_model.specs.Events.ClusterEvent.{HasSettled, HasMapped}
use Rattle.session_model.specs.Sessions.{Session, session_at}
use Rattle.session_model.specs.Acts.{Act, Acted, ActedAll, opened_by, opened_session}
use Rattle.session_model.specs.Acts.Act.{Opens, Does, Makes as MakesAct}
use Rattle.session_model.specs.Acts.Deed.{Hears}
use Rattle.session_model.specs.Books.{AmongAnswers}
use Rattle.session_model.specs.Lives.{life_after}
use Rattle.session_model.specs.Logs.{Asked, answered_by}
use Rattle.session_model.specs.Turns.{IsAtNode}
use Rattle.session_model.specs.Run.{Made, Stop, AreHandled, IsLeftOff, IsDriven, is_no_node}
use Rattle.session_model.specs.Run.Stop.{BehindLine}
use Rattle.session_model.proofs.Acts.{pushed, none_behind}
use Rattle.session_model.proofs.Driven.{handled_made}
use Rattle.node_store.specs.Disks.{View}
use Rattle.cluster_world.specs.Made.{StepMade}
use Rattle.cluster_world.specs.Outcomes.{Outcome, Awaited, Came, Makes, map_seen}
use Rattle.cluster_world.specs.Outcomes.Outcome.{Began, Fell, Answers, Moved, Settling, Mapped}
use Rattle.cluster_world.specs.Worlds.{plan_of, life_of}
use Rattle.cluster_world.specs.declared.settling.Settle.TheVariants as settle
use Rattle.cluster_world.specs.declared.world.World.{World}
use Rattle.cluster_world.proofs.Chained.{plan_stays}
use Rattle.fresh_sessions.specs.Acts.{IsReaderAct, ShowsMembers, OwesSettled}
use Rattle.fresh_sessions.specs.Kept.{IsRun}
use Rattle.settled_worlds.specs.Settled.{OwesOutcomes}
use Rattle.drive_tape.specs.Drive.{StartsAgain}
use Rattle.drive_tape.specs.Led.{AreLed, AreLedTo, EndsWith}
use Rattle.drive_tape.specs.Points.{IsAtOwnNode, AreAtOwnNodes}
use Rattle.drive_tape.specs.Worlds.{AreLives}
use Rattle.drive_tape.proofs.AtRest.{Parted, parted, ends_clean}
use Rattle.drive_tape.proofs.LedSettled.{ReadsOrFalls, led_apart, acts_read, all_read, members_made, settle_made, map_made, answers_made, call_heard}
use Rattle.drive_tape.proofs.OpenedKinds.{kinds_of, all_kinds}
use Rattle.drive_tape.proofs.OwnNodes.{all_stay, own_among}
use Rattle.drive_tape.proofs.ReadersUp.{AllUp, OpensAt, opens_at, opened_up, readers_leave, up_behind, hears_up, does_there}
use Rattle.drive_tape.proofs.Stepping.{is_a_node}
use Rattle.drive_tape.proofs.Wholes.{whole_makes}

-- ---- small facts

-- where it is among outcomes
record IsThere (outcome : Outcome) (outcomes : List Outcome) : Type 0 where
  ahead : List Outcome
  behind : List Outcome
  are : outcomes ≡ ahead ++ outcome ∷ behind

is_there : (outcome : Outcome) (outcomes : List Outcome) → Among outcome outcomes → IsThere outcome outcomes
is_there outcome [] among = absurd among
is_there outcome (first ∷ outcomes) among = ⊎_elim
    (λ (same : first ≡ outcome). record { ahead = []; behind = outcomes; are = ap (λ (o : Outcome). o ∷ outcomes) same })
    (λ (rest : Among outcome outcomes).
    let there = is_there outcome outcomes rest in record { ahead = first ∷ there.ahead; behind = there.behind; are = ap (λ (l : List Outcome). first ∷ l) there.are }) among

all_among : (P : Outcome → Type 0) (outcomes : List Outcome) (outcome : Outcome) → All P outcomes → Among outcome outcomes → P outcome
all_among P [] outcome all among = absurd among
all_among P (first ∷ outcomes) outcome all among = ⊎_elim
    (λ (same : first ≡ outcome). subst P same (All-head P first outcomes all)) (λ (rest : Among outcome outcomes). all_among P outcomes outcome (All-tail P first outcomes all) rest) among

-- no reader starts a node
never_starts : (n : ℕ) (outcome : Outcome) → ReadsOrFalls outcome → StartsAgain n outcome → ⊥
never_starts n (Moved (order.Start node) steps sum up) reads starts = ⊎_elim (λ none. none) (λ none. none) reads
never_starts n outcome reads starts = starts

turned_own : (n : ℕ) (now life : NodeLife) → turned n now n life ≡ now
turned_own n now life = cond-true (nat_eq n n) now life (eq-eqb n n refl)

up_boot : (life : NodeLife) → IsUp life → (boot : ℕ) × (life ≡ Up boot)
up_boot (Up boot) up = (boot, refl)
up_boot Down up = absurd up
up_boot Lost up = absurd up

one_node : (there : Option Session) (n m : ℕ) → IsAtNode n there → IsAtNode m there → n ≡ m
one_node None n m at other = absurd at
one_node (Some session) n m at other = sym at ∙ other

-- the session that was opened is at its node
opened_at_node : (plan : Plan) (old new : List Session) (protocol : Protocol) (node : ℕ) (greeting : List ℕ) (behind : List Act) (outputs : List (List Entry))
    → ActedAll plan old (Opens protocol node greeting ∷ behind) outputs new → IsAtNode node (session_at new (length old + 1))
opened_at_node plan old new protocol node greeting behind [] acted = absurd acted
opened_at_node plan old new protocol node greeting behind (entries ∷ outputs) (mid, acted, more) =
    all_stay plan mid new behind outputs more (length old + 1) node
    (subst (IsAtNode node) (sym (ap (λ (l : List Session). session_at l (length old + 1)) acted.1 ∙ pushed old (opened_session protocol node))) refl)

-- ---- the run behind a line

-- All these lines were handled, and their entries are all that was written.
pub record WholeRun (plan : Plan) (lines : List (List ℕ)) (by_line : List (List Act)) (entries : List Entry) (last : List Session) : Type 0 where
  pub outputs : List (List (List Entry))
  pub handled : AreHandled plan [] [] lines by_line outputs last
  pub wrote : entries ≡ flat_map all_of outputs

-- where the work stopped behind a line, nothing was begun behind the lines that were handled
record IsClean (left : List (List ℕ)) (others : List (List Act)) (tail : List Entry) (old new : List Session) : Type 0 where
  lines : left ≡ []
  acts : others ≡ []
  entries : tail ≡ []
  sessions : new ≡ old

left_clean : (plan : Plan) (been : List Act) (old new : List Session) (left : List (List ℕ)) (others : List (List Act)) (tail : List Entry) (extra : List Made) → IsLeftOff plan been BehindLine old left others tail extra new
    → IsClean left others tail old new
left_clean plan been old new [] [] tail extra off = record { lines = refl; acts = refl; entries = off.0; sessions = off.2 }
left_clean plan been old new (line ∷ []) ([] ∷ []) tail extra (tried, is) = absurd tried.in_vain
left_clean plan been old new (line ∷ []) ((act ∷ acts) ∷ []) tail extra (turn, cut, may) = absurd cut.may
left_clean plan been old new left others tail extra off = absurd off

pub whole_run : (plan : Plan) (stop : Stop) (handled midst : List (List ℕ)) (acts behind : List (List Act)) (made : List Made) (entries : List Entry) (sessions : List Session)
    → IsDriven plan stop handled midst acts behind made entries sessions → stop ≡ BehindLine → WholeRun plan (handled ++ midst) (acts ++ behind) entries sessions
whole_run plan stop handled midst acts behind made entries sessions driven is =
    let clean = left_clean plan _ driven.mid sessions midst behind driven.tail driven.extra
    (subst (λ (s : Stop). IsLeftOff plan (flat_map (λ a. a) acts) s driven.mid midst behind driven.tail driven.extra sessions) is driven.off) in
    let lines : handled ≡ handled ++ midst = sym (append-nil handled) ∙ ap (λ (l : List (List ℕ)). handled ++ l) (sym clean.lines) in
    let by_line : acts ≡ acts ++ behind = sym (append-nil acts) ∙ ap (λ (l : List (List Act)). acts ++ l) (sym clean.acts) in
    record {
      outputs = driven.outputs;
      handled = subst (λ (l : List (List ℕ)). AreHandled plan [] [] l (acts ++ behind) driven.outputs sessions) lines
          (subst (λ (a : List (List Act)). AreHandled plan [] [] handled a driven.outputs sessions) by_line
          (subst (λ (s : List Session). AreHandled plan [] [] handled acts driven.outputs s) (sym clean.sessions) driven.are));
      wrote = driven.written ∙ ap (λ (l : List Entry). flat_map all_of driven.outputs ++ l) clean.entries ∙ append-nil (flat_map all_of driven.outputs);
    }

-- each act was led to its outcomes, and none is left over
pub led_whole : (plan : Plan) (stop : Stop) (acts : List Act) (outcomes : List Outcome) (lacking : List Asked) (extra : List Made) → AreLedTo stop plan [] [] acts outcomes lacking extra → stop ≡ BehindLine → extra ≡ []
    → AreLed plan [] [] acts outcomes
led_whole plan stop acts outcomes lacking extra to is none =
    let clean = ends_clean to.last to.rest lacking extra (subst (λ (s : Stop). EndsWith to.last to.rest s lacking extra) is to.ends) none in
    let all_acts : acts ≡ to.done = to.acts_are ∙ ap (λ (l : List Act). to.done ++ l) clean.acts ∙ append-nil to.done in
    let all_outcomes : outcomes ≡ to.own = to.outcomes_are ∙ ap (λ (l : List Outcome). to.own ++ l) clean.outcomes ∙ append-nil to.own in
    subst (λ (l : List Act). AreLed plan [] [] l outcomes) (sym all_acts) (subst (λ (os : List Outcome). AreLed plan [] [] to.done os) (sym all_outcomes) to.led)

module _ {D : Type 0} (on : View D) (start last : World D) (outcomes : List Outcome) (awaited : List Awaited) (makes : Makes on outcomes [] start awaited last)
    (lines : List (List ℕ)) (by_line : List (List Act)) (outputs : List (List (List Entry))) (sessions : List Session) (handled : AreHandled (plan_of start) [] [] lines by_line outputs sessions)
    (led : AreLed (plan_of start) [] [] (flat_map (λ a. a) by_line) outcomes) (at_nodes : AreAtOwnNodes sessions outcomes) (lives : AreLives (plan_of start) (flat_map (λ a. a) by_line) last) where
  abbrev plan : Plan
  plan = plan_of start

  abbrev done : List Act
  done = flat_map (λ a. a) by_line

  abbrev settling : Act
  settling = MakesAct order.Settle HasSettled

  -- neither a settle nor a map makes steps as other orders do
  came_one : (ahead own others : List Outcome) (outcome : Outcome) → outcomes ≡ ahead ++ (own ++ others) → own ≡ outcome ∷ []
      → (between : List Awaited) × (mid : World D) × (after : List Awaited) × (next : World D) × Came on outcome between mid after next
  came_one ahead own others outcome are own_is =
      let all : outcomes ≡ ahead ++ outcome ∷ others = are ∙ ap (λ (l : List Outcome). ahead ++ (l ++ others)) own_is in
      let parts = parted on ahead (outcome ∷ others) [] awaited start last (subst (λ (os : List Outcome). Makes on os [] start awaited last) all makes) in
      let (after, next, came, rest) = parts.then_more in
      (parts.between, parts.mid, after, next, came)

  settle_unmoved : (ahead own others : List Outcome) (outcome : Outcome) → outcomes ≡ ahead ++ (own ++ others) → own ≡ outcome ∷ [] → (up : List ℕ) (steps : List StepMade) (sum : BookSum)
      → outcome ≡ Moved order.Settle steps sum up → ⊥
  settle_unmoved ahead own others outcome are own_is up steps sum is =
      let (between, mid, after, next, came) = came_one ahead own others (Moved order.Settle steps sum up) are (own_is ∙ ap (λ (o : Outcome). o ∷ []) is) in came.0

  map_unmoved : (ahead own others : List Outcome) (outcome : Outcome) (user : List ℕ) → outcomes ≡ ahead ++ (own ++ others) → own ≡ outcome ∷ [] → (up : List ℕ) (steps : List StepMade) (sum : BookSum)
      → outcome ≡ Moved (order.Maps user) steps sum up → ⊥
  map_unmoved ahead own others outcome user are own_is up steps sum is =
      let (between, mid, after, next, came) = came_one ahead own others (Moved (order.Maps user) steps sum up) are (own_is ∙ ap (λ (o : Outcome). o ∷ []) is) in came.0

  -- the outcome of a settle, and those before it and behind it
  record SettledAt (before later : List Act) : Type 0 where
    front : List Outcome
    steps : List StepMade
    back : List Outcome
    are : outcomes ≡ front ++ Settling (Ok settle.Settled) steps ∷ back
    first : AreLed plan [] [] before front
    so_far : List Outcome
    then_more : AreLed plan (before ++ settling ∷ []) so_far later back

  settled_at : (before later : List Act) → done ≡ before ++ settling ∷ later → SettledAt before later
  settled_at before later is =
      let parts = led_apart plan [] [] before (settling ∷ later) outcomes (subst (λ (l : List Act). AreLed plan [] [] l outcomes) is led) in
      let (own, others, are, one, more) = parts.then_more in
      let all : outcomes ≡ parts.front ++ (own ++ others) = parts.are ∙ ap (λ (l : List Outcome). parts.front ++ l) are in
      let settled = settle_made _ one.0 (settle_unmoved parts.front own others one.0 all one.1 _) one.2 in
      record {
        front = parts.front;
        steps = settled.0;
        back = others;
        are = all ∙ ap (λ (l : List Outcome). parts.front ++ (l ++ others)) (one.1 ∙ ap (λ (o : Outcome). o ∷ []) settled.1);
        first = parts.first;
        so_far = parts.front ++ own;
        then_more = more;
      }

  -- a node that fell and was not started behind it is down at the end
  falls_down : (ahead behind : List Outcome) (k n : ℕ) (asked : Call) → outcomes ≡ ahead ++ Fell k n asked ∷ behind → ((outcome : Outcome) → Among outcome behind → StartsAgain n outcome → ⊥) → IsUp (life_after done n) → ⊥
  falls_down ahead behind k n asked are none up =
      let parts = parted on ahead (Fell k n asked ∷ behind) [] awaited start last (subst (λ (os : List Outcome). Makes on os [] start awaited last) are makes) in
      let (after, next, (begun, seen, is, left_is), more) = parts.then_more in
      let within : n ≤ plan.nodes = subst (λ (p : Plan). n ≤ p.nodes) (plan_stays on ahead [] parts.between start parts.mid parts.first).0 is.did.falls.within in
      let at_last = up_boot (life_of last n) (subst IsUp (sym (lives n (is_a_node plan n is.did.falls.above within))) up) in
      let was : life_of next n ≡ Up at_last.0 = (whole_makes on n at_last.0 behind after awaited next last more none at_last.1).was in
      let never : Up at_last.0 ≡ Down = sym was ∙ is.did.lives n ∙ turned_own n Down (life_of parts.mid n) in cc

  module _ (disks : List (List Record)) (owes : OwesOutcomes plan disks outcomes) where
    maps : (before : List Act) (members user : List ℕ) (told : Option (ℕ × List ℕ)) → done ≡ before ++ settling ∷ MakesAct (order.Maps user) (HasMapped user told) ∷ [] → ShowsMembers plan before members
        → NamesFragments disks members user told × MembersAgree disks members
    maps before members user told is shown =
        let at = settled_at before (MakesAct (order.Maps user) (HasMapped user told) ∷ []) is in
        let (own, others, are, one, none) = at.then_more in
        let all : outcomes ≡ (at.front ++ Settling (Ok settle.Settled) at.steps ∷ []) ++ (own ++ others) =
        at.are ∙ ap (λ (l : List Outcome). at.front ++ Settling (Ok settle.Settled) at.steps ∷ l) are ∙ sym (append_assoc at.front (Settling (Ok settle.Settled) at.steps ∷ []) (own ++ others)) in
        let map = map_made _ user told one.0 (map_unmoved (at.front ++ Settling (Ok settle.Settled) at.steps ∷ []) own others one.0 user all one.1 _) one.2 in
        let back : at.back ≡ Mapped user map.names ∷ [] = are ∙ ap (λ (l : List Outcome). own ++ l) none ∙ append-nil own ∙ one.1 ∙ ap (λ (o : Outcome). o ∷ []) map.is in
        subst (λ (t : Option (ℕ × List ℕ)). NamesFragments disks members user t × MembersAgree disks members) (sym map.tells)
        (owes.maps at.front at.steps members user map.names (at.are ∙ ap (λ (l : List Outcome). at.front ++ Settling (Ok settle.Settled) at.steps ∷ l) back) (members_made plan before at.front members at.first shown))

    module _ (before behind : List Act) (node : ℕ) (greeting : List ℕ) (is : done ≡ before ++ settling ∷ Opens Pop node greeting ∷ behind) (readers : All IsReaderAct behind) where
      abbrev opens : Act
      opens = Opens Pop node greeting

      abbrev number : ℕ
      number = length (flat_map opened_by before) + 1

      at : SettledAt before (opens ∷ behind)
      at = settled_at before (opens ∷ behind) is

      two : OpensAt plan [] [] sessions (before ++ settling ∷ []) behind opens
      two = opens_at plan [] [] sessions lines by_line outputs (before ++ settling ∷ []) behind Pop node greeting handled (is ∙ sym (append_assoc before (settling ∷ []) (opens ∷ behind)))

      all_readers : All IsReaderAct (opens ∷ behind)
      all_readers = All-cons IsReaderAct opens behind tt readers

      earlier : ActedAll plan [] (before ++ settling ∷ []) (flat_map (λ o. o) two.outputs) two.mid
      earlier = subst (λ (l : List Act). ActedAll plan [] l (flat_map (λ o. o) two.outputs) two.mid) two.front_is (handled_made plan [] [] two.mid two.lines two.by_line two.outputs two.first).done

      later : ActedAll plan two.mid (opens ∷ behind) (flat_map (λ o. o) two.says) sessions
      later = subst (λ (l : List Act). ActedAll plan two.mid l (flat_map (λ o. o) two.says) sessions) two.behind_is
          (handled_made plan (before ++ settling ∷ []) two.mid sessions two.later_lines two.later two.says two.then_more).done

      -- as many sessions were opened before
      counted : length two.mid + 1 ≡ number
      counted =
          let kinds : kinds_of two.mid ≡ flat_map opened_by before =
          all_kinds plan [] two.mid (before ++ settling ∷ []) (flat_map (λ o. o) two.outputs) earlier ∙ flat_map-append opened_by before (settling ∷ []) ∙ append-nil (flat_map opened_by before) in
          ap (λ (n : ℕ). n + 1) (sym (length-map two.mid (λ (session : Session). (session.protocol, session.node))) ∙ ap length kinds)

      -- so the new session had asked nothing before, and all its calls begin at the node
      none_before : (n : ℕ) (asked : Call) (ticket : Number) → Among (Began number n asked ticket) at.front → ⊥
      none_before n asked ticket among =
          let heard = call_heard plan [] [] before at.front number (Began number n asked ticket) at.first among refl in
          let there = does_there plan [] two.mid (before ++ settling ∷ []) (flat_map (λ o. o) two.outputs) number (Hears heard.0) earlier (among_front (Does number (Hears heard.0)) before (settling ∷ []) heard.1) in
          subst (IsAtNode there.0) (ap (session_at two.mid) (sym counted) ∙ none_behind two.mid) there.1

      in_all : (outcome : Outcome) → Among outcome at.back → Among outcome outcomes
      in_all outcome among = subst (Among outcome) (sym at.are) (among_behind outcome at.front (Settling (Ok settle.Settled) at.steps ∷ at.back) (inr among))

      at_node : (n : ℕ) (asked : Call) (ticket : Number) → Among (Began number n asked ticket) at.back → n ≡ node
      at_node n asked ticket among = one_node (session_at sessions number) n node (own_among sessions outcomes (Began number n asked ticket) at_nodes (in_all (Began number n asked ticket) among))
          (subst (λ (i : ℕ). IsAtNode node (session_at sessions i)) counted (opened_at_node plan two.mid sessions Pop node greeting behind (flat_map (λ o. o) two.says) later))

      read_all : All ReadsOrFalls at.back
      read_all = acts_read plan (before ++ settling ∷ []) at.so_far (opens ∷ behind) at.back all_readers at.then_more

      -- whoever heard a unit since is at a node that is up, so no node fell
      none_fell : (k n : ℕ) (asked : Call) → Among (Fell k n asked) at.back → ⊥
      none_fell k n asked among =
          let heard = call_heard plan (before ++ settling ∷ []) at.so_far (opens ∷ behind) at.back k (Fell k n asked) at.then_more among refl in
          let ups = hears_up plan (life_after (before ++ settling ∷ [])) two.mid sessions (opens ∷ behind) (flat_map (λ o. o) two.says) later
          (subst (λ (l : List Act). AllUp (life_after l) two.mid) two.front_is (up_behind plan two.lines two.by_line two.outputs two.mid two.first))
          (λ protocol m greets opened. opened_up plan (before ++ settling ∷ []) two.mid sessions two.later_lines two.later two.says protocol m greets two.then_more
          (subst (All IsReaderAct) (sym two.behind_is) all_readers) (subst (Among (Opens protocol m greets)) (sym two.behind_is) opened))
          k heard.0 heard.1 in
          let same : n ≡ ups.0 = one_node (session_at sessions k) n ups.0 (own_among sessions outcomes (Fell k n asked) at_nodes (in_all (Fell k n asked) among)) ups.1 in
          let there = is_there (Fell k n asked) at.back among in
          let split : done ≡ (before ++ settling ∷ []) ++ opens ∷ behind = is ∙ sym (append_assoc before (settling ∷ []) (opens ∷ behind)) in
          let all : outcomes ≡ (at.front ++ Settling (Ok settle.Settled) at.steps ∷ there.ahead) ++ Fell k n asked ∷ there.behind =
          at.are ∙ ap (λ (l : List Outcome). at.front ++ Settling (Ok settle.Settled) at.steps ∷ l) there.are
          ∙ sym (append_assoc at.front (Settling (Ok settle.Settled) at.steps ∷ there.ahead) (Fell k n asked ∷ there.behind)) in
          falls_down (at.front ++ Settling (Ok settle.Settled) at.steps ∷ there.ahead) there.behind k n asked all
          (λ outcome later_on starts. never_starts n outcome (all_among ReadsOrFalls at.back outcome read_all
          (subst (Among outcome) (sym there.are) (among_behind outcome there.ahead (Fell k n asked ∷ there.behind) (inr later_on)))) starts)
          (subst IsUp (sym (ap (λ (l : List Act). life_after l n) split ∙ readers_leave (before ++ settling ∷ []) (opens ∷ behind) n all_readers))
          (subst (λ (i : ℕ). IsUp (life_after (before ++ settling ∷ []) i)) (sym same) ups.2))

      fresh : (members : List ℕ) → ShowsMembers plan before members → Among node members → (user : List ℕ) (given : Given) (items : List Item)
          → AmongAnswers (record { session = number; call = Login user given; answer = Listed items }) (flat_map answered_by behind) → AreStanding disks members user (map (λ (item : Item). item.id) items)
      fresh members shown member user given items among =
          let answered = answers_made plan (before ++ settling ∷ []) at.so_far (opens ∷ behind) at.back (record { session = number; call = Login user given; answer = Listed items }) all_readers at.then_more among in
          owes.fresh at.front at.back at.steps members number node at.are (all_read at.back read_all none_fell) (members_made plan before at.front members at.first shown) member none_before at_node
          user given answered.0 items answered.1

    pub owes_settled : OwesSettled plan disks done
    owes_settled = record { fresh = λ before behind members node greeting is readers shown member user given items among. fresh before behind node greeting is readers members shown member user given items among; maps = maps }
