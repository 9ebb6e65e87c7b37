-- A node that failed in the acts of run lines is one of the plan.
use Rattle.std.proofs.Common.{◌≡◌, ◌≢◌, inl, inr, ⊎_elim, ◌+◌, ◌<◌, ◌≤◌, ℕ, zero, suc, Bool, true, false, ◌||◌, List, [], ◌∷◌, ◌++◌, length, flat_map, Option, Some, None, refl, sym, ap, ◌∙◌, subst, arith, nat_eq, nat_lt}
use Rattle.std.proofs.lemmas.Option.{none-some}
use Rattle.std.proofs.lemmas.Bool.{cases_eq, eqb-false, ltb-false, or_parts}
use Rattle.std.proofs.lemmas.Bool.Decides.{nat_tests}
use Rattle.std.proofs.lemmas.List.Concat.{flat_map-append}
use Rattle.mail_model.specs.Plan.{Plan}
use Rattle.mail_model.specs.Tape.{Order, ClusterOrder, or_else}
use Rattle.mail_model.specs.Tape.Order.{Open, Say, Feed, Close, GiveUp, Moves, End}
use Rattle.mail_model.specs.Tape.ClusterOrder.{Crash, Start, Lose, Post, Again, Drop, Flow, Push, Widen, Group, Conclude, Regroup, Report, Settle, Maps, Tick, Sum}
use Rattle.mail_model.specs.Lines.{sent_line}
use Rattle.mail_model.specs.Site.{TapeFault}
use Rattle.mail_model.specs.Site.TapeFault.{NoSuchNode}
use Rattle.mail_model.specs.Transcript.{Entry}
use Rattle.mail_model.proofs.Sessions.{by_number}
use Rattle.object_model.specs.Lists.{Among}
use Rattle.object_model.proofs.Lists.{among_either}
use Rattle.session_model.specs.Events.{ClusterEvent, NodeLife, MayFault, IsEventOf, failed_by_event}
use Rattle.session_model.specs.Events.ClusterEvent.{WentDown, CameUp, WasLost, WasHeard, WasThrown, WasDropped, HasFlowed, HasSent, HasWidened, HasGrouped, HasFormed, HasSettled, WasAbsent, HasMapped, HasTicked, HasSummed, HasFaulted}
use Rattle.session_model.specs.Sessions.{Session, session_at}
use Rattle.session_model.specs.Acts.{Act, Deed, Acted, replace, opened_session, greeting_of}
use Rattle.session_model.specs.Acts.Act.{Opens, Does, Faults, StillWaits, Leaves, Makes, Abandons}
use Rattle.session_model.specs.Acts.Deed.{IsFed, Hears, IsAnswered, IsGivenUp, Falls, Closes}
use Rattle.session_model.specs.Lives.{life_after, failed_by, failed_in}
use Rattle.session_model.specs.Clocks.{seconds_after}
use Rattle.session_model.specs.Turns.{Turn, Next, ActsGo, Starts, IsAtNode}
use Rattle.session_model.specs.Turns.Turn.{Hearing, Beginning, Closing, Falling, Asking}
use Rattle.session_model.specs.Run.{IsHandled, AreHandled, refusal, cluster_refusal, fault_if, is_no_node}
use Rattle.session_model.proofs.Did.{did_kind}
use Rattle.session_model.proofs.Acts.{replaced, replaced_other, pushed, pushed_other}

abbrev IsOfPlan : Plan → ℕ → Type 0
IsOfPlan plan n = is_no_node plan n ≡ false

-- each session is at a node of the plan
abbrev AllOfPlan : Plan → List Session → Type 0
AllOfPlan plan sessions = (j : ℕ) (session : Session) → session_at sessions j ≡ Some session → IsOfPlan plan session.node

-- these nodes are of the plan
abbrev FailOfPlan : Plan → List ℕ → Type 0
FailOfPlan plan failed = (n : ℕ) → Among n failed → IsOfPlan plan n

-- the first of two refusals, and the second
first_none : (a b : Option TapeFault) → or_else a b ≡ None → a ≡ None
first_none None b e = refl
first_none (Some fault) b e = absurd (none-some fault (sym e))

second_none : (a b : Option TapeFault) → or_else a b ≡ None → b ≡ None
second_none None b e = e
second_none (Some fault) b e = absurd (none-some fault (sym e))

not_so : (so : Bool) (fault : TapeFault) → fault_if so fault ≡ None → so ≡ false
not_so true fault e = absurd (none-some fault (sym e))
not_so false fault e = refl

-- a node between these ends
is_a_node : (plan : Plan) (n : ℕ) → 0 < n → n ≤ plan.nodes → is_no_node plan n ≡ false
is_a_node plan n above within = by (nat_eq n 0) (nat_lt plan.nodes n) refl refl
  where
    by : (a b : Bool) → nat_eq n 0 ≡ a → nat_lt plan.nodes n ≡ b → (a || b) ≡ false
    by true b is some = absurd (let zero : n ≡ 0 = grind (arith, nat_tests, is) in omega (arith, zero, above))
    by false true is some = absurd (let more : plan.nodes < n = grind (arith, nat_tests, some) in omega (arith, more, within))
    by false false is some = refl

-- and what that it is one says
pub node_ends : (plan : Plan) (n : ℕ) → is_no_node plan n ≡ false → (n ≢ 0) × (n ≤ plan.nodes)
node_ends plan n is =
    let parts = or_parts (nat_eq n 0) (nat_lt plan.nodes n) is in
    (eqb-false n 0 parts.0, ltb-false plan.nodes n parts.1)

-- what came of an order that was accepted fails at a node of the plan
event_of : (plan : Plan) (lives : ℕ → NodeLife) (order : ClusterOrder) (event : ClusterEvent) → cluster_refusal plan lives order ≡ None → IsEventOf plan lives order event
    → FailOfPlan plan (failed_by_event event)
event_of plan lives order (WentDown node) accepted is n among = absurd among
event_of plan lives order (CameUp node boot) accepted is n among = absurd among
event_of plan lives order (WasLost node) accepted is n among = absurd among
event_of plan lives order (WasHeard letter) accepted is n among = absurd among
event_of plan lives order (WasThrown letter why) accepted is n among = absurd among
event_of plan lives order (WasDropped letter) accepted is n among = absurd among
event_of plan lives order HasFlowed accepted is n among = absurd among
event_of plan lives order (HasSent count) accepted is n among = absurd among
event_of plan lives order (HasWidened did) accepted is n among = absurd among
event_of plan lives order (HasGrouped epoch) accepted is n among = absurd among
event_of plan lives order (HasFormed epoch members) accepted is n among = absurd among
event_of plan lives order HasSettled accepted is n among = absurd among
event_of plan lives order (WasAbsent member) accepted is n among = absurd among
event_of plan lives order (HasMapped user told) accepted is n among = absurd among
event_of plan lives order HasTicked accepted is n among = absurd among
event_of plan lives order (HasSummed sum) accepted is n among = absurd among
event_of plan lives order (HasFaulted failed) accepted is n (inr none) = absurd none
event_of plan lives order (HasFaulted failed) accepted is n (inl same) = subst (IsOfPlan plan) same (by order accepted is)
  where
    may : MayFault plan lives failed → IsOfPlan plan failed
    may fault = is_a_node plan failed fault.above fault.within

    by : (o : ClusterOrder) → cluster_refusal plan lives o ≡ None → IsEventOf plan lives o (HasFaulted failed) → IsOfPlan plan failed
    by (Crash node) accepted is = absurd is
    by (Start node) accepted is = subst (IsOfPlan plan) (sym is) (not_so (is_no_node plan node) NoSuchNode (first_none _ _ accepted))
    by (Lose node) accepted is = absurd is
    by (Post letter) accepted is = may is
    by (Again letter) accepted is = may is
    by (Drop letter) accepted is = absurd is
    by Flow accepted is = may is
    by (Push node) accepted is = subst (IsOfPlan plan) (sym is.0) (not_so (is_no_node plan node) NoSuchNode accepted)
    by (Widen node user id to) accepted is = subst (IsOfPlan plan) (sym is)
        (or_parts (is_no_node plan node) (is_no_node plan to) (not_so (is_no_node plan node || is_no_node plan to) NoSuchNode (first_none _ _ (second_none _ _ accepted)))).0
    by (Group node) accepted is = subst (IsOfPlan plan) (sym is) (not_so (is_no_node plan node) NoSuchNode (first_none _ _ accepted))
    by (Conclude node) accepted is = subst (IsOfPlan plan) (sym is) (not_so (is_no_node plan node) NoSuchNode (first_none _ _ accepted))
    by (Regroup node) accepted is = may is
    by (Report node) accepted is = absurd is
    by Settle accepted is = may is
    by (Maps user) accepted is = absurd is
    by (Tick seconds) accepted is = absurd is
    by Sum accepted is = absurd is

none_fail : (plan : Plan) → FailOfPlan plan []
none_fail plan n among = absurd among

module _ (plan : Plan) (old new : List Session) where
  -- one session is another now, at the same node
  changes : (k : ℕ) (before behind : Session) → session_at old k ≡ Some before → new ≡ replace old k behind → behind.node ≡ before.node → AllOfPlan plan old → AllOfPlan plan new
  changes k before behind at is same all j session there = ⊎_elim
      (λ here.
      let found : Some behind ≡ Some session = sym (replaced old k before behind at) ∙ ap (λ (l : List Session). session_at l k) (sym is) ∙ ap (session_at new) (sym here) ∙ there in
      let one : behind ≡ session = cc in
      subst (λ (s : Session). IsOfPlan plan s.node) one (subst (IsOfPlan plan) (sym same) (all k before at)))
      (λ other. all j session (sym (replaced_other old k j before behind at other) ∙ ap (λ (l : List Session). session_at l j) (sym is) ∙ there))
      (cases_eq j k)

  deed_of : (k : ℕ) (deed : Deed) (entries : List Entry) → Acted plan old (Does k deed) entries new → AllOfPlan plan old → AllOfPlan plan new
  deed_of k deed entries (before, behind, said, at, did, says, is) all = changes k before behind at is (did_kind plan said before behind deed did).1 all

  same_of : new ≡ old → AllOfPlan plan old → AllOfPlan plan new
  same_of is all j session at = all j session (ap (λ (l : List Session). session_at l j) (sym is) ∙ at)

  at_node : (k node : ℕ) (there : Option Session) → session_at old k ≡ there → IsAtNode node there → AllOfPlan plan old → IsOfPlan plan node
  at_node k node None at is all = absurd is
  at_node k node (Some session) at is all = subst (IsOfPlan plan) is (all k session at)

-- the next act
next_of : (plan : Plan) (turn next : Turn) (old new : List Session) (act : Act) (entries : List Entry) → Next turn old act next → Acted plan old act entries new
    → AllOfPlan plan old → AllOfPlan plan new × FailOfPlan plan (failed_by act)
next_of plan (Hearing k onward) next old new (Does j (Hears one)) entries is acted all = (deed_of plan old new j (Hears one) entries acted all, none_fail plan)
next_of plan (Hearing k onward) next old new (Leaves j user) entries is (says, same) all = (same_of plan old new same all, none_fail plan)
next_of plan (Beginning k onward) next old new (Faults node) entries (there, later) (says, same) all = (
  same_of plan old new same all,
  λ n among. ⊎_elim (λ e. subst (IsOfPlan plan) e (at_node plan old new k node (session_at old k) refl there all)) (λ none. absurd none) among,
)
next_of plan (Closing k onward) next old new (Does j Closes) entries is acted all = (deed_of plan old new j Closes entries acted all, none_fail plan)
next_of plan (Falling k node onward) next old new (Does j Falls) entries is acted all = (deed_of plan old new j Falls entries acted all, none_fail plan)
next_of plan turn next old new (StillWaits j) entries is (says, same) all = (same_of plan old new same all, none_fail plan)
next_of plan turn next old new (Does j (IsAnswered call answer reply)) entries is acted all = (deed_of plan old new j (IsAnswered call answer reply) entries acted all, none_fail plan)
next_of plan (Hearing k onward) next old new act entries is acted all = absurd is
next_of plan (Beginning k onward) next old new act entries is acted all = absurd is
next_of plan (Closing k onward) next old new act entries is acted all = absurd is
next_of plan (Falling k node onward) next old new act entries is acted all = absurd is
next_of plan (Asking k) next old new act entries is acted all = absurd is

-- the first act of a line, where it is this one
first_of : (plan : Plan) (act other : Act) → act ≡ other → FailOfPlan plan (failed_by other) → FailOfPlan plan (failed_by act)
first_of plan act other is none = subst (λ (a : Act). FailOfPlan plan (failed_by a)) (sym is) none

module _ (plan : Plan) (been : List Act) (old new : List Session) (all : AllOfPlan plan old) where
  deed_first : (k : ℕ) (deed : Deed) (act : Act) (entries : List Entry) → act ≡ Does k deed → Acted plan old act entries new → AllOfPlan plan new × FailOfPlan plan (failed_by act)
  deed_first k deed act entries is acted =
      (deed_of plan old new k deed entries (subst (λ (a : Act). Acted plan old a entries new) is acted) all, first_of plan act (Does k deed) is (none_fail plan))

  starts_of : (order : Order) (act : Act) (turn : Turn) (entries : List Entry) → refusal plan been old order ≡ None → Starts plan been order old act turn → Acted plan old act entries new
      → AllOfPlan plan new × FailOfPlan plan (failed_by act)
  starts_of (Open protocol node) act turn entries accepted (boot, up, is, later) acted = (opened, first_of plan act _ is (none_fail plan))
    where
      opens : Acted plan old (Opens protocol node (greeting_of protocol node boot (length old + 1) (seconds_after been))) entries new
      opens = subst (λ (a : Act). Acted plan old a entries new) is acted

      there : IsOfPlan plan node
      there = not_so (is_no_node plan node) NoSuchNode (first_none _ _ accepted)

      opened : AllOfPlan plan new
      opened j session at = ⊎_elim
          (λ same.
          let found : Some (opened_session protocol node) ≡ Some session =
          sym (pushed old (opened_session protocol node)) ∙ ap (λ (l : List Session). session_at l (length old + 1)) (sym opens.1) ∙ ap (session_at new) (sym same) ∙ at in
          let one : opened_session protocol node ≡ session = cc in
          subst (λ (s : Session). IsOfPlan plan s.node) one there)
          (λ other. all j session (sym (pushed_other old (opened_session protocol node) j other) ∙ ap (λ (l : List Session). session_at l j) (sym opens.1) ∙ at))
          (cases_eq j (length old + 1))
  starts_of (Say k text) act turn entries accepted (is, later) acted = deed_first k (IsFed (sent_line text)) act entries is acted
  starts_of (Feed k octets) act turn entries accepted (is, later) acted = deed_first k (IsFed octets) act entries is acted
  starts_of (Close k) act turn entries accepted starts acted = ⊎_elim
      (λ now. deed_first k Closes act entries now.0 acted)
      (λ first.
      let abandons : Acted plan old (Abandons k) entries new = subst (λ (a : Act). Acted plan old a entries new) first.0 acted in
      (same_of plan old new abandons.1 all, first_of plan act (Abandons k) first.0 (none_fail plan)))
      starts
  starts_of (GiveUp k) act turn entries accepted (call, reply, is, later) acted = deed_first k (IsGivenUp call reply) act entries is acted
  starts_of (Moves order) act turn entries accepted (event, may, is, later) acted =
      let makes : Acted plan old (Makes order event) entries new = subst (λ (a : Act). Acted plan old a entries new) is acted in
      (same_of plan old new makes.1 all, first_of plan act (Makes order event) is (event_of plan (life_after been) order event accepted may))
  starts_of End act turn entries accepted starts acted = absurd starts

-- acts, one after another
both_fail : (plan : Plan) (first more : List ℕ) → FailOfPlan plan first → FailOfPlan plan more → FailOfPlan plan (first ++ more)
both_fail plan first more a b n among = ⊎_elim (λ m. a n m) (λ m. b n m) (among_either n first more among)

goes_of : (plan : Plan) (turn last : Turn) (old new : List Session) (acts : List Act) (outputs : List (List Entry)) → ActsGo plan turn old acts outputs last new
    → AllOfPlan plan old → AllOfPlan plan new × FailOfPlan plan (failed_in acts)
goes_of plan turn last old new [] [] (later, same) all = (same_of plan old new same all, none_fail plan)
goes_of plan turn last old new (act ∷ acts) (entries ∷ outputs) (next, mid, is, acted, goes) all =
    let one = next_of plan turn next old mid act entries is acted all in
    let others = goes_of plan next last mid new acts outputs goes one.0 in
    (others.0, both_fail plan (failed_by act) (failed_in acts) one.1 others.1)
goes_of plan turn last old new [] (entries ∷ outputs) goes all = absurd goes
goes_of plan turn last old new (act ∷ acts) [] goes all = absurd goes

-- a line that was handled
line_of : (plan : Plan) (been : List Act) (old new : List Session) (line : List ℕ) (acts : List Act) (outputs : List (List Entry)) → IsHandled plan been old line acts outputs new
    → AllOfPlan plan old → AllOfPlan plan new × FailOfPlan plan (failed_in acts)
line_of plan been old new line acts outputs handled all =
    let begun = handled.begun in
    let one = starts_of plan been old begun.mid all begun.order begun.first begun.next begun.said begun.accepted begun.starts begun.acted in
    let others = goes_of plan begun.next handled.last begun.mid new begun.more begun.others begun.goes one.0 in
    (others.0, subst (λ (a : List Act). FailOfPlan plan (failed_in a)) (sym begun.acts_are) (both_fail plan (failed_by begun.first) (failed_in begun.more) one.1 others.1))

-- all lines
lines_of : (plan : Plan) (been : List Act) (old new : List Session) (lines : List (List ℕ)) (by_line : List (List Act)) (outputs : List (List (List Entry)))
    → AreHandled plan been old lines by_line outputs new → AllOfPlan plan old → FailOfPlan plan (failed_in (flat_map (λ a. a) by_line))
lines_of plan been old new [] [] [] is all = none_fail plan
lines_of plan been old new (line ∷ lines) (acts ∷ by_line) (says ∷ outputs) (mid, one, more) all =
    let first = line_of plan been old mid line acts says one all in
    subst (FailOfPlan plan) (sym (flat_map-append failed_by acts (flat_map (λ a. a) by_line)))
    (both_fail plan (failed_in acts) (failed_in (flat_map (λ a. a) by_line)) first.1 (lines_of plan (been ++ acts) mid new lines by_line outputs more first.0))
lines_of plan been old new lines by_line outputs h all = absurd h

none_open : (plan : Plan) → AllOfPlan plan []
none_open plan zero session at = absurd (none-some session at)
none_open plan (suc n) session at = absurd (none-some session (sym (by_number [] n) ∙ at))

-- the nodes that failed in handled lines
pub failed_within : (plan : Plan) (lines : List (List ℕ)) (acts : List (List Act)) (outputs : List (List (List Entry))) (sessions : List Session) → AreHandled plan [] [] lines acts outputs sessions
    → (n : ℕ) → Among n (failed_in (flat_map (λ a. a) acts)) → is_no_node plan n ≡ false
failed_within plan lines acts outputs sessions are n among = lines_of plan [] [] sessions lines acts outputs are (none_open plan) n among
