-- What a run line makes of the one session that there is, in whatever way it is handled.
use Rattle.std.proofs.Common.{◌≡◌, inl, inr, ◌≤◌, ◌+◌, ℕ, zero, suc, true, List, [], ◌∷◌, ◌++◌, Option, Some, None, refl, sym, ap, ◌∙◌, subst, arith}
use Rattle.std.specs.Prelude.{◌⊎◌, ⊤}
use Rattle.std.proofs.lemmas.Option.{none-some, same_Some}
use Rattle.mail_model.specs.Plan.{Plan}
use Rattle.mail_model.specs.Lines.{sent_line}
use Rattle.mail_model.specs.Session.{Unit}
use Rattle.mail_model.specs.Tape.{Order, tape_order}
use Rattle.mail_model.specs.Tape.Order.{Say}
use Rattle.mail_model.specs.Told.{Mail, HasNoUnit, IsUnit}
use Rattle.mail_model.specs.Transcript.{Entry}
use Rattle.mail_model.proofs.Units.{one_unit}
use Rattle.session_model.specs.Calls.{Call, Answer}
use Rattle.session_model.specs.Calls.Call.{Deliver}
use Rattle.session_model.specs.Talk.{TalkState, Exchange, Lead, Standing, IsLed, IsNext, IsIdle, Awaits, in_text, lead_of, stands_by, answered, leave_of}
use Rattle.session_model.specs.Talk.Lead.{Says, Ends, Asks}
use Rattle.session_model.specs.Talk.Standing.{Hearing, Waiting}
use Rattle.session_model.specs.Sessions.{Session, session_at, exchanges_of}
use Rattle.session_model.specs.Acts.{Act, Acted, Did, WasAnswered, replace}
use Rattle.session_model.specs.Acts.Act.{Does, Faults, StillWaits, Leaves}
use Rattle.session_model.specs.Acts.Deed.{IsFed, Hears, IsAnswered}
use Rattle.session_model.specs.Turns.{Turn, Next, ActsGo, Starts, IsDone, IsFirst, Waits, to_leave, turn_after_unit}
use Rattle.session_model.specs.Turns.Turn.{Hearing as Hears_on, Beginning, Closing, Falling, Asking}
use Rattle.session_model.specs.Lives.{failed_in}
use Rattle.session_model.specs.Run.{IsHandled, is_on}
use Rattle.worked_sessions.specs.OneMessage.{fed_with}
use Rattle.worked_sessions.proofs.Lines.{nobody, never_waits, nobody_after}

-- a session that hears, and was fed no unit
pub record Rests (session : Session) : Type 0 where
  pub state : TalkState
  pub hears : session.standing ≡ Hearing state
  pub idle : HasNoUnit (in_text state) session.rest

-- the one session is the first
the_session : (s before : Session) (j : ℕ) → j ≡ 1 → session_at (s ∷ []) j ≡ Some before → s ≡ before
the_session s before j one at = same_Some s before (subst (λ (n : ℕ). session_at (s ∷ []) n ≡ Some before) one at)

one_state : (a b : TalkState) → Hearing a ≡ Hearing b → a ≡ b
one_state a b e = cc

one_wait : (a b : TalkState) (c d : Call) → Waiting a c ≡ Waiting b d → (a ≡ b) × (c ≡ d)
one_wait a b c d e =
    let states : a ≡ b = cc in
    let calls : c ≡ d = cc in
    (states, calls)

-- who hears is not asked
not_asked : (s : Session) (state : TalkState) → s.standing ≡ Hearing state → (from j : ℕ) → from ≡ 1 → IsFirst Waits (s ∷ []) from j → ⊥
not_asked s state hears from j is first = nobody s (never_waits s state hears) j (subst (λ (n : ℕ). n ≤ j) is first.later) first.here

-- and does not leave
not_leaving : (s : Session) (state : TalkState) → s.standing ≡ Hearing state → (k : ℕ) (user : List ℕ) → k ≡ 1 → to_leave (session_at (s ∷ []) k) ≡ Some user → ⊥
not_leaving s state hears k user one is =
    let here : leave_of (exchanges_of s) s.standing ≡ Some user = subst (λ (n : ℕ). to_leave (session_at (s ∷ []) n) ≡ Some user) one is in
    none-some user (subst (λ (t : Standing). leave_of (exchanges_of s) t ≡ Some user) hears here)

-- who was fed no unit hears none
not_hearing : (plan : Plan) (s before behind : Session) (one : Exchange) (said : List (List ℕ)) → Rests s → s ≡ before → Did plan before (Hears one) said behind → ⊥
not_hearing plan s before behind one said rests is did =
    let here : Did plan s (Hears one) said behind = subst (λ (b : Session). Did plan b (Hears one) said behind) (sym is) did in
    let same : rests.state ≡ here.0 = one_state rests.state here.0 (sym rests.hears ∙ here.2) in
    rests.idle one.unit here.1 (subst (λ (t : TalkState). IsUnit (in_text t) one.unit) (sym same) here.3.is_unit) here.3.whole

-- nothing but the one session, and those that wait, is under way
abbrev IsQuiet : Turn → Type 0
IsQuiet (Hears_on k onward) = (k ≡ 1) × (onward ≡ 1)
IsQuiet (Asking k) = k ≡ 1
IsQuiet other = ⊥

no_act : (plan : Plan) (s : Session) → Rests s → (turn : Turn) → IsQuiet turn → (act : Act) (next : Turn) (entries : List Entry) (mid : List Session)
    → Next turn (s ∷ []) act next → Acted plan (s ∷ []) act entries mid → ⊥
no_act plan s rests (Hears_on k onward) quiet (Does j (Hears one)) next entries mid goes acted =
    not_hearing plan s acted.0 acted.1 one acted.2 rests (the_session s acted.0 j (goes.0 ∙ quiet.0) acted.3) acted.4
no_act plan s rests (Hears_on k onward) quiet (Leaves j user) next entries mid goes acted = not_leaving s rests.state rests.hears k user quiet.0 goes.1
no_act plan s rests (Hears_on k onward) quiet (StillWaits j) next entries mid goes acted = not_asked s rests.state rests.hears goes.0 j (goes.1.0 ∙ quiet.1) goes.2
no_act plan s rests (Hears_on k onward) quiet (Does j (IsAnswered call answer reply)) next entries mid goes acted =
    not_asked s rests.state rests.hears goes.0 j (goes.1.0 ∙ quiet.1) goes.2
no_act plan s rests (Asking k) quiet (StillWaits j) next entries mid goes acted = not_asked s rests.state rests.hears goes.0 j (goes.1 ∙ quiet) goes.2
no_act plan s rests (Asking k) quiet (Does j (IsAnswered call answer reply)) next entries mid goes acted = not_asked s rests.state rests.hears goes.0 j (goes.1 ∙ quiet) goes.2
no_act plan s rests (Beginning k onward) quiet act next entries mid goes acted = absurd quiet
no_act plan s rests (Closing k onward) quiet act next entries mid goes acted = absurd quiet
no_act plan s rests (Falling k node onward) quiet act next entries mid goes acted = absurd quiet
no_act plan s rests turn quiet act next entries mid goes acted = absurd goes

-- so where it rests nothing more is done
pub nothing_more : (plan : Plan) (s : Session) → Rests s → (turn : Turn) → IsQuiet turn → (acts : List Act) (outputs : List (List Entry)) (last : Turn) (new : List Session)
    → ActsGo plan turn (s ∷ []) acts outputs last new → (acts ≡ []) × (new ≡ s ∷ [])
nothing_more plan s rests turn quiet [] [] last new goes = (refl, goes.1)
nothing_more plan s rests turn quiet (act ∷ acts) (entries ∷ outputs) last new goes = absurd (no_act plan s rests turn quiet act goes.0 entries goes.1 goes.2 goes.3)
nothing_more plan s rests turn quiet acts outputs last new goes = absurd goes

-- A line that feeds it: it was fed, and acts follow.
record IsFedBy (plan : Plan) (fed : Session) (deed : Act) (acts : List Act) (new : List Session) : Type 0 where
  more : List Act
  others : List (List Entry)
  turn : Turn
  acts_are : acts ≡ deed ∷ more
  goes : ActsGo plan (Hears_on 1 1) (fed ∷ []) more others turn new
  done : IsDone turn new

feeds : (plan : Plan) (been : List Act) (s : Session) (line text : List ℕ) (acts : List Act) (outputs : List (List Entry)) (new : List Session) → tape_order line ≡ Some (Say 1 text)
    → IsHandled plan been (s ∷ []) line acts outputs new → IsFedBy plan (fed_with s text) (Does 1 (IsFed (sent_line text))) acts new
feeds plan been s line text acts outputs new spelled handled =
    let order : handled.begun.order ≡ Say 1 text = same_Some handled.begun.order (Say 1 text) (sym handled.begun.spelled ∙ spelled) in
    let starts : Starts plan been (Say 1 text) (s ∷ []) handled.begun.first handled.begun.next =
    subst (λ (o : Order). Starts plan been o (s ∷ []) handled.begun.first handled.begun.next) order handled.begun.starts in
    let acted : Acted plan (s ∷ []) (Does 1 (IsFed (sent_line text))) handled.begun.said handled.begun.mid =
    subst (λ (a : Act). Acted plan (s ∷ []) a handled.begun.said handled.begun.mid) starts.0 handled.begun.acted in
    let is : s ≡ acted.0 = the_session s acted.0 1 refl acted.3 in
    let behind : acted.1 ≡ fed_with s text = subst (λ (b : Session). acted.1 ≡ fed_with b text) (sym is) acted.4.2 in
    let mid : handled.begun.mid ≡ fed_with s text ∷ [] = acted.6 ∙ ap (λ (b : Session). b ∷ []) behind in
    record {
      more = handled.begun.more;
      others = handled.begun.others;
      turn = handled.last;
      acts_are = handled.begun.acts_are ∙ ap (λ (a : Act). a ∷ handled.begun.more) starts.0;
      goes = subst (λ (ss : List Session). ActsGo plan (Hears_on 1 1) ss handled.begun.more handled.begun.others handled.last new) mid
          (subst (λ (t : Turn). ActsGo plan t handled.begun.mid handled.begun.more handled.begun.others handled.last new) starts.1 handled.begun.goes);
      done = handled.done;
    }

-- a line that ends no unit
pub only_fed : (plan : Plan) (been : List Act) (s : Session) (line text : List ℕ) (acts : List Act) (outputs : List (List Entry)) (new : List Session) → tape_order line ≡ Some (Say 1 text)
    → Rests (fed_with s text) → IsHandled plan been (s ∷ []) line acts outputs new → (acts ≡ Does 1 (IsFed (sent_line text)) ∷ []) × (new ≡ fed_with s text ∷ [])
only_fed plan been s line text acts outputs new spelled rests handled =
    let fed = feeds plan been s line text acts outputs new spelled handled in
    let none = nothing_more plan (fed_with s text) rests (Hears_on 1 1) (refl, refl) fed.more fed.others fed.turn new fed.goes in
    (fed.acts_are ∙ ap (λ (more : List Act). Does 1 (IsFed (sent_line text)) ∷ more) none.0, none.1)

-- one exchange that has no answer, by what its unit leads to
same_parts : (x y : Exchange) → x.unit ≡ y.unit → x.call ≡ y.call → x.answer ≡ y.answer → x.reply ≡ y.reply → x ≡ y
same_parts x y unit call answer reply = λ i. record { unit = unit i; call = call i; answer = answer i; reply = reply i }

unanswered : (call : Call) (one : Exchange) → one.answer ≡ None → Awaits one.unit call one.answer one.reply → one.reply ≡ []
unanswered call one none awaits = subst (λ (a : Option Answer). Awaits one.unit call a one.reply) none awaits

same_led : (lead : Lead) (x y : Exchange) → x.unit ≡ y.unit → IsLed lead x → IsLed lead y → x.answer ≡ None → y.answer ≡ None → x ≡ y
same_led (Says reply) x y units is too none none_too = same_parts x y units (is.0 ∙ sym too.0) (is.1 ∙ sym too.1) (is.2 ∙ sym too.2)
same_led (Ends reply) x y units is too none none_too = same_parts x y units (is.0 ∙ sym too.0) (is.1 ∙ sym too.1) (is.2 ∙ sym too.2)
same_led (Asks call) x y units is too none none_too =
    same_parts x y units (is.0 ∙ sym too.0) (none ∙ sym none_too) (unanswered call x none is.1 ∙ sym (unanswered call y none_too too.1))

-- the session once it heard the unit, and nothing is left
abbrev pub heard_one : Plan → Session → TalkState → Exchange → Session
heard_one plan fed state one = record fed { whole = fed.whole ++ one ∷ []; standing = stands_by plan fed.node state one; rest = [] }

-- it hears the unit that it was fed, and acts follow
record HasHeard (plan : Plan) (heard : Session) (one : Exchange) (acts : List Act) (turn : Turn) (new : List Session) : Type 0 where
  more : List Act
  others : List (List Entry)
  acts_are : acts ≡ Does 1 (Hears one) ∷ more
  goes : ActsGo plan (turn_after_unit 1 1 one.call) (heard ∷ []) more others turn new

module _ (plan : Plan) (fed : Session) (state : TalkState) (one : Exchange) (hears : fed.standing ≡ Hearing state) (is_next : IsNext plan fed.node state fed.rest one []) (none : one.answer ≡ None) where
  -- it does not rest before
  not_done : (turn : Turn) (new : List Session) → turn ≡ Hears_on 1 1 → new ≡ fed ∷ [] → IsDone turn new → ⊥
  not_done turn new at is done =
      let here : IsDone (Hears_on 1 1) (fed ∷ []) = subst (λ (ss : List Session). IsDone (Hears_on 1 1) ss) is (subst (λ (t : Turn). IsDone t new) at done) in
      let idle : HasNoUnit (in_text state) fed.rest = subst (λ (t : Standing). IsIdle t fed.rest) hears here.1.1 in
      idle one.unit [] is_next.is_unit is_next.whole

  same_heard : (before behind : Session) (two : Exchange) (said : List (List ℕ)) → fed ≡ before → Did plan before (Hears two) said behind → (two ≡ one) × (behind ≡ heard_one plan fed state one)
  same_heard before behind two said is did =
      let here : Did plan fed (Hears two) said behind = subst (λ (b : Session). Did plan b (Hears two) said behind) (sym is) did in
      let same : here.0 ≡ state = one_state here.0 state (sym here.2 ∙ hears) in
      let next : IsNext plan fed.node state fed.rest two here.1 = subst (λ (t : TalkState). IsNext plan fed.node t fed.rest two here.1) same here.3 in
      let units = one_unit (in_text state) two.unit one.unit here.1 [] next.is_unit is_next.is_unit (sym next.whole ∙ is_next.whole) in
      let led : IsLed (lead_of plan fed.node state one.unit) two = subst (λ (u : Unit). IsLed (lead_of plan fed.node state u) two) units.0 next.led in
      let twin : two ≡ one = same_led (lead_of plan fed.node state one.unit) two one units.0 led is_next.led here.6 none in (
        twin,
        subst (λ (x : Exchange). behind ≡ heard_one plan fed state x) twin
            (subst (λ (l : List ℕ). behind ≡ record fed { whole = fed.whole ++ two ∷ []; standing = stands_by plan fed.node state two; rest = l }) units.1
            (subst (λ (t : TalkState). behind ≡ record fed { whole = fed.whole ++ two ∷ []; standing = stands_by plan fed.node t two; rest = here.1 }) same here.5)),
      )

  hears_first : (acts : List Act) (outputs : List (List Entry)) (turn : Turn) (new : List Session) → ActsGo plan (Hears_on 1 1) (fed ∷ []) acts outputs turn new → IsDone turn new
      → HasHeard plan (heard_one plan fed state one) one acts turn new
  hears_first [] [] turn new goes done = absurd (not_done turn new goes.0 goes.1 done)
  hears_first (Does j (Hears two) ∷ acts) (entries ∷ outputs) turn new (next, mid, turns, acted, goes) done =
      let heard = same_heard acted.0 acted.1 two acted.2 (the_session fed acted.0 j turns.0 acted.3) acted.4 in
      let at_one : mid ≡ replace (fed ∷ []) 1 acted.1 = subst (λ (n : ℕ). mid ≡ replace (fed ∷ []) n acted.1) turns.0 acted.6 in
      let mid_is : mid ≡ heard_one plan fed state one ∷ [] = at_one ∙ ap (λ (b : Session). b ∷ []) heard.1 in
      let next_is : next ≡ turn_after_unit 1 1 one.call = turns.1 ∙ ap (λ (x : Exchange). turn_after_unit 1 1 x.call) heard.0 in
      record {
        more = acts;
        others = outputs;
        acts_are = subst (λ (n : ℕ). Does j (Hears two) ∷ acts ≡ Does n (Hears one) ∷ acts) turns.0 (ap (λ (x : Exchange). Does j (Hears x) ∷ acts) heard.0);
        goes = subst (λ (ss : List Session). ActsGo plan (turn_after_unit 1 1 one.call) ss acts outputs turn new) mid_is
            (subst (λ (t : Turn). ActsGo plan t mid acts outputs turn new) next_is goes);
      }
  hears_first (Leaves j user ∷ acts) (entries ∷ outputs) turn new (next, mid, turns, acted, goes) done = absurd (not_leaving fed state hears 1 user refl turns.1)
  hears_first (StillWaits j ∷ acts) (entries ∷ outputs) turn new (next, mid, turns, acted, goes) done = absurd (not_asked fed state hears turns.0 j turns.1.0 turns.2)
  hears_first (Does j (IsAnswered call answer reply) ∷ acts) (entries ∷ outputs) turn new (next, mid, turns, acted, goes) done =
      absurd (not_asked fed state hears turns.0 j turns.1.0 turns.2)
  hears_first (act ∷ acts) (entries ∷ outputs) turn new (next, mid, turns, acted, goes) done = absurd turns
  hears_first acts outputs turn new goes done = absurd goes

-- a line whose unit is answered at once
pub says_once : (plan : Plan) (been : List Act) (s : Session) (line text : List ℕ) (acts : List Act) (outputs : List (List Entry)) (new : List Session) (state : TalkState) (one : Exchange)
    → tape_order line ≡ Some (Say 1 text) → s.standing ≡ Hearing state → IsNext plan s.node state (s.rest ++ sent_line text) one [] → one.call ≡ None → one.answer ≡ None
    → Rests (heard_one plan (fed_with s text) state one) → IsHandled plan been (s ∷ []) line acts outputs new
    → (acts ≡ Does 1 (IsFed (sent_line text)) ∷ Does 1 (Hears one) ∷ []) × (new ≡ heard_one plan (fed_with s text) state one ∷ [])
says_once plan been s line text acts outputs new state one spelled hears is_next no_call none rests handled =
    let fed = feeds plan been s line text acts outputs new spelled handled in
    let heard = hears_first plan (fed_with s text) state one hears is_next none fed.more fed.others fed.turn new fed.goes fed.done in
    let none = nothing_more plan (heard_one plan (fed_with s text) state one) rests (Hears_on 1 1) (refl, refl) heard.more heard.others fed.turn new
    (subst (λ (c : Option Call). ActsGo plan (turn_after_unit 1 1 c) (heard_one plan (fed_with s text) state one ∷ []) heard.more heard.others fed.turn new) no_call heard.goes) in (
      fed.acts_are ∙ ap (λ (more : List Act). Does 1 (IsFed (sent_line text)) ∷ more) (heard.acts_are ∙ ap (λ (more : List Act). Does 1 (Hears one) ∷ more) none.0),
      none.1,
    )

-- the place of the one session that waits
the_place : (s : Session) (j : ℕ) → 1 ≤ j → Waits (session_at (s ∷ []) j) → j ≡ 1
the_place s zero above waits = absurd (omega (arith, above))
the_place s (suc zero) above waits = refl
the_place s (suc (suc n)) above waits = absurd (nobody_after Waits s (λ none. none) (suc (suc n)) (omega arith) waits)

-- a session that waits for a message to be stored, and was fed no more
pub record WaitsIdle (session : Session) : Type 0 where
  pub told : TalkState
  pub mail : Mail
  pub waits : session.standing ≡ Waiting told (Deliver mail)
  pub rested : session.rest ≡ []
  pub idle : HasNoUnit (in_text told) []

-- it does, or it rests
abbrev pub Idles : Session → Type 0
Idles session = Rests session ⊎ WaitsIdle session

-- one that was answered rests
answered_on : (plan : Plan) (waiting : Session) (w : WaitsIdle waiting) (before behind : Session) (call : Call) (answer : Answer) (reply said : List (List ℕ)) → waiting ≡ before
    → WasAnswered before call answer reply said behind → Rests behind
answered_on plan waiting w before behind call answer reply said is was =
    let here : WasAnswered waiting call answer reply said behind = subst (λ (b : Session). WasAnswered b call answer reply said behind) (sym is) was in
    let same = one_wait w.told here.2 (Deliver w.mail) call (sym w.waits ∙ here.4) in
    record {
      state = w.told;
      hears = ap (λ (b : Session). b.standing) here.7
          ∙ subst (λ (c : Call). answered here.2 c answer ≡ Hearing w.told) same.1 (ap Hearing (sym same.0));
      idle = subst (HasNoUnit (in_text w.told)) (sym (ap (λ (b : Session). b.rest) here.7 ∙ w.rested)) w.idle;
    }

-- acts by which sessions are asked, and nothing else
abbrev pub OnlyAsks : List Act → Type 0
OnlyAsks [] = ⊤
OnlyAsks (StillWaits k ∷ acts) = OnlyAsks acts
OnlyAsks (Does k (IsAnswered call answer reply) ∷ acts) = OnlyAsks acts
OnlyAsks acts = ⊥

-- nothing but the one session is under way
abbrev IsCalm : Turn → Type 0
IsCalm (Hears_on k onward) = (k ≡ 1) × (onward ≡ 1)
IsCalm (Beginning k onward) = (k ≡ 1) × (onward ≡ 1)
IsCalm (Asking k) = 1 ≤ k
IsCalm other = ⊥

-- what is left of a line with an idle session
pub record IsAsked (acts : List Act) (new : List Session) : Type 0 where
  pub asks : OnlyAsks acts
  pub session : Session
  pub is : new ≡ session ∷ []
  pub idles : Idles session

no_hearing : (plan : Plan) (s before behind : Session) (one : Exchange) (said : List (List ℕ)) → Idles s → s ≡ before → Did plan before (Hears one) said behind → ⊥
no_hearing plan s before behind one said (inl rests) is did = not_hearing plan s before behind one said rests is did
no_hearing plan s before behind one said (inr w) is did =
    let here : Did plan s (Hears one) said behind = subst (λ (b : Session). Did plan b (Hears one) said behind) (sym is) did in
    let clash : Waiting w.told (Deliver w.mail) ≡ Hearing here.0 = sym w.waits ∙ here.2 in cc

no_leaving : (s : Session) → Idles s → (k : ℕ) (user : List ℕ) → k ≡ 1 → to_leave (session_at (s ∷ []) k) ≡ Some user → ⊥
no_leaving s (inl rests) k user one is = not_leaving s rests.state rests.hears k user one is
no_leaving s (inr w) k user one is =
    let here : leave_of (exchanges_of s) s.standing ≡ Some user = subst (λ (n : ℕ). to_leave (session_at (s ∷ []) n) ≡ Some user) one is in
    none-some user (subst (λ (t : Standing). leave_of (exchanges_of s) t ≡ Some user) w.waits here)

-- who is asked waits
asked_waits : (s : Session) → Idles s → (j : ℕ) → 1 ≤ j → Waits (session_at (s ∷ []) j) → WaitsIdle s
asked_waits s (inl rests) j above here = absurd (nobody s (never_waits s rests.state rests.hears) j above here)
asked_waits s (inr w) j above here = w

some_failed : (n : ℕ) (more : List ℕ) → n ∷ more ≡ [] → ⊥
some_failed n more is = cc

-- It is asked once, and then what is left is done.
asks_more : (plan : Plan) (s : Session) → Idles s → (from j : ℕ) → 1 ≤ from → (act : Act) → (acts : List Act) (outputs : List (List Entry)) (next last : Turn) (mid new : List Session)
    → IsFirst Waits (s ∷ []) from j → ((act ≡ StillWaits j) × (next ≡ Asking (j + 1))) ⊎ ((call : Call) × (answer : Answer) × (reply : List (List ℕ)) × (act ≡ Does j (IsAnswered call answer reply)) × (next ≡ Hears_on j j))
    → (entries : List Entry) → Acted plan (s ∷ []) act entries mid → ActsGo plan next mid acts outputs last new → (ActsGo plan (Asking (j + 1)) (s ∷ []) acts outputs last new → IsAsked acts new)
    → IsAsked (act ∷ acts) new
asks_more plan s idles from j above act acts outputs next last mid new first (inl still) entries acted goes more =
    let waits : Acted plan (s ∷ []) (StillWaits j) entries mid = subst (λ (a : Act). Acted plan (s ∷ []) a entries mid) still.0 acted in
    let rest = more
    (subst (λ (ss : List Session). ActsGo plan (Asking (j + 1)) ss acts outputs last new) waits.1 (subst (λ (t : Turn). ActsGo plan t mid acts outputs last new) still.1 goes)) in
    record { asks = subst (λ (a : Act). OnlyAsks (a ∷ acts)) (sym still.0) rest.asks; session = rest.session; is = rest.is; idles = rest.idles }
asks_more plan s idles from j above act acts outputs next last mid new first (inr (call, answer, reply, is, later)) entries acted goes more =
    let w = asked_waits s idles j (omega (arith, above, first.later)) first.here in
    let one : j ≡ 1 = the_place s j (omega (arith, above, first.later)) first.here in
    let did : Acted plan (s ∷ []) (Does j (IsAnswered call answer reply)) entries mid = subst (λ (a : Act). Acted plan (s ∷ []) a entries mid) is acted in
    let rests = answered_on plan s w did.0 did.1 call answer reply did.2 (the_session s did.0 j one did.3) did.4 in
    let mid_is : mid ≡ did.1 ∷ [] = subst (λ (n : ℕ). mid ≡ replace (s ∷ []) n did.1) one did.6 in
    let next_is : next ≡ Hears_on 1 1 = subst (λ (n : ℕ). next ≡ Hears_on n n) one later in
    let rest = nothing_more plan did.1 rests (Hears_on 1 1) (refl, refl) acts outputs last new
    (subst (λ (ss : List Session). ActsGo plan (Hears_on 1 1) ss acts outputs last new) mid_is (subst (λ (t : Turn). ActsGo plan t mid acts outputs last new) next_is goes)) in
    record {
      asks = subst (λ (a : Act). OnlyAsks (a ∷ acts)) (sym is) (subst OnlyAsks (sym rest.0) tt);
      session = did.1;
      is = rest.1;
      idles = inl rests;
    }

-- An idle session is asked, and may be answered: nothing else is done, as long as its node does not fail.
pub asks_only : (plan : Plan) (s : Session) → Idles s → (turn : Turn) → IsCalm turn → (acts : List Act) (outputs : List (List Entry)) (last : Turn) (new : List Session)
    → ActsGo plan turn (s ∷ []) acts outputs last new → failed_in acts ≡ [] → IsAsked acts new
asks_only plan s idles turn calm [] [] last new goes sound = record { asks = tt; session = s; is = goes.1; idles = idles }
asks_only plan s idles (Hears_on k onward) calm (Does j (Hears one) ∷ acts) (entries ∷ outputs) last new (next, mid, turns, acted, goes) sound =
    absurd (no_hearing plan s acted.0 acted.1 one acted.2 idles (the_session s acted.0 j (turns.0 ∙ calm.0) acted.3) acted.4)
asks_only plan s idles (Hears_on k onward) calm (Leaves j user ∷ acts) (entries ∷ outputs) last new (next, mid, turns, acted, goes) sound = absurd (no_leaving s idles k user calm.0 turns.1)
asks_only plan s idles (Hears_on k onward) calm (StillWaits j ∷ acts) (entries ∷ outputs) last new (next, mid, turns, acted, goes) sound =
    asks_more plan s idles turns.0 j (subst (λ (n : ℕ). 1 ≤ n) (sym (turns.1.0 ∙ calm.1)) (omega arith)) (StillWaits j) acts outputs next last mid new turns.2 (inl (refl, turns.3)) entries acted goes
    (λ later. asks_only plan s idles (Asking (j + 1)) (omega arith) acts outputs last new later sound)
asks_only plan s idles (Hears_on k onward) calm (Does j (IsAnswered call answer reply) ∷ acts) (entries ∷ outputs) last new (next, mid, turns, acted, goes) sound =
    asks_more plan s idles turns.0 j (subst (λ (n : ℕ). 1 ≤ n) (sym (turns.1.0 ∙ calm.1)) (omega arith)) (Does j (IsAnswered call answer reply)) acts outputs next last mid new turns.2
    (inr (call, answer, reply, refl, turns.3)) entries acted goes
    (λ later. asks_only plan s idles (Asking (j + 1)) (omega arith) acts outputs last new later sound)
asks_only plan s idles (Beginning k onward) calm (Faults node ∷ acts) (entries ∷ outputs) last new goes sound = absurd (some_failed node (failed_in acts) sound)
asks_only plan s idles (Beginning k onward) calm (StillWaits j ∷ acts) (entries ∷ outputs) last new (next, mid, turns, acted, goes) sound =
    asks_more plan s idles turns.0 j (subst (λ (n : ℕ). 1 ≤ n) (sym (turns.1 ∙ calm.1)) (omega arith)) (StillWaits j) acts outputs next last mid new turns.2 (inl (refl, turns.3)) entries acted goes
    (λ later. asks_only plan s idles (Asking (j + 1)) (omega arith) acts outputs last new later sound)
asks_only plan s idles (Beginning k onward) calm (Does j (IsAnswered call answer reply) ∷ acts) (entries ∷ outputs) last new (next, mid, turns, acted, goes) sound =
    asks_more plan s idles turns.0 j (subst (λ (n : ℕ). 1 ≤ n) (sym (turns.1 ∙ calm.1)) (omega arith)) (Does j (IsAnswered call answer reply)) acts outputs next last mid new turns.2
    (inr (call, answer, reply, refl, turns.3)) entries acted goes
    (λ later. asks_only plan s idles (Asking (j + 1)) (omega arith) acts outputs last new later sound)
asks_only plan s idles (Asking k) calm (StillWaits j ∷ acts) (entries ∷ outputs) last new (next, mid, turns, acted, goes) sound =
    asks_more plan s idles turns.0 j (subst (λ (n : ℕ). 1 ≤ n) (sym turns.1) calm) (StillWaits j) acts outputs next last mid new turns.2 (inl (refl, turns.3)) entries acted goes
    (λ later. asks_only plan s idles (Asking (j + 1)) (omega arith) acts outputs last new later sound)
asks_only plan s idles (Asking k) calm (Does j (IsAnswered call answer reply) ∷ acts) (entries ∷ outputs) last new (next, mid, turns, acted, goes) sound =
    asks_more plan s idles turns.0 j (subst (λ (n : ℕ). 1 ≤ n) (sym turns.1) calm) (Does j (IsAnswered call answer reply)) acts outputs next last mid new turns.2
    (inr (call, answer, reply, refl, turns.3)) entries acted goes
    (λ later. asks_only plan s idles (Asking (j + 1)) (omega arith) acts outputs last new later sound)
asks_only plan s idles (Closing k onward) calm (act ∷ acts) (entries ∷ outputs) last new goes sound = absurd calm
asks_only plan s idles (Falling k node onward) calm (act ∷ acts) (entries ∷ outputs) last new goes sound = absurd calm
asks_only plan s idles turn calm (act ∷ acts) (entries ∷ outputs) last new goes sound = absurd goes.2
asks_only plan s idles turn calm acts outputs last new goes sound = absurd goes

-- the line whose unit is a message: the session hears it, and is asked
pub record HasTold (text : List ℕ) (one : Exchange) (acts : List Act) (new : List Session) : Type 0 where
  pub more : List Act
  pub acts_are : acts ≡ Does 1 (IsFed (sent_line text)) ∷ Does 1 (Hears one) ∷ more
  pub some : more ≡ [] → ⊥
  pub asked : IsAsked more new

pub tells : (plan : Plan) (been : List Act) (s : Session) (line text : List ℕ) (acts : List Act) (outputs : List (List Entry)) (new : List Session) (state told : TalkState) (mail : Mail) (one : Exchange)
    → tape_order line ≡ Some (Say 1 text) → s.standing ≡ Hearing state → IsNext plan s.node state (s.rest ++ sent_line text) one [] → one.call ≡ Some (Deliver mail) → one.answer ≡ None
    → stands_by plan s.node state one ≡ Waiting told (Deliver mail) → HasNoUnit (in_text told) [] → IsHandled plan been (s ∷ []) line acts outputs new
    → failed_in acts ≡ [] → HasTold text one acts new
tells plan been s line text acts outputs new state told mail one spelled hears is_next calls none waits idle handled sound =
    let fed = feeds plan been s line text acts outputs new spelled handled in
    let heard = hears_first plan (fed_with s text) state one hears is_next none fed.more fed.others fed.turn new fed.goes fed.done in
    let are : acts ≡ Does 1 (IsFed (sent_line text)) ∷ Does 1 (Hears one) ∷ heard.more = fed.acts_are ∙ ap (λ (more : List Act). Does 1 (IsFed (sent_line text)) ∷ more) heard.acts_are in
    record {
      more = heard.more;
      acts_are = are;
      some = asked_once heard.more heard.others fed.turn
          (subst (λ (c : Option Call). ActsGo plan (turn_after_unit 1 1 c) (heard_one plan (fed_with s text) state one ∷ []) heard.more heard.others fed.turn new) calls heard.goes) fed.done;
      asked = asks_only plan (heard_one plan (fed_with s text) state one) (inr (record { told = told; mail = mail; waits = waits; rested = refl; idle = idle })) (Beginning 1 1) (refl, refl)
          heard.more heard.others fed.turn new
          (subst (λ (c : Option Call). ActsGo plan (turn_after_unit 1 1 c) (heard_one plan (fed_with s text) state one ∷ []) heard.more heard.others fed.turn new) calls heard.goes)
          (subst (λ (done : List Act). failed_in done ≡ []) are sound);
    }
  where
    -- who waits is asked in the line
    asked_once : (more : List Act) (others : List (List Entry)) (turn : Turn) → ActsGo plan (Beginning 1 1) (heard_one plan (fed_with s text) state one ∷ []) more others turn new → IsDone turn new → more ≡ [] → ⊥
    asked_once [] [] turn goes done none =
        let here : IsDone (Beginning 1 1) (heard_one plan (fed_with s text) state one ∷ []) =
        subst (λ (ss : List Session). IsDone (Beginning 1 1) ss) goes.1 (subst (λ (t : Turn). IsDone t new) goes.0 done) in
        here.2 1 (subst (λ (n : ℕ). n ≤ 1) (sym here.1) (omega arith)) (told, Deliver mail, waits)
    asked_once [] (entries ∷ others) turn goes done none = goes
    asked_once (act ∷ more) others turn goes done none = cc

-- a session that idles has not ended
pub idle_is_on : (s : Session) → Idles s → is_on s.standing ≡ true
idle_is_on s (inl rests) = ap is_on rests.hears
idle_is_on s (inr w) = ap is_on w.waits
