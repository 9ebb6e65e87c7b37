-- Each move keeps a talk a talk.
use Rattle.std.proofs.Common.{◌≡◌, ℕ, List, [], ◌∷◌, Option, Some, None, refl, sym, ap, ◌∙◌, subst}
use Rattle.mail_model.specs.Plan.{Plan}
use Rattle.session_model.specs.Calls.{Call, Answer, RepliesTo}
use Rattle.session_model.specs.Calls.Call.{Deliver, Login, Fetch, Strike}
use Rattle.session_model.specs.Calls.Answer.{Listed}
use Rattle.session_model.specs.Talk.{TalkState, Exchange, Standing, Lead, IsLed, IsOn, Breaks, TalkGoes, opening_state, heard, lead_of, stands, stands_by, standing_asked, answered}
use Rattle.session_model.specs.Talk.Lead.{Says, Ends, Asks}
use Rattle.session_model.specs.Talk.Standing.{Hearing, Waiting, EndedByQuit, EndedDown, EndedClosed}
use Rattle.session_model.specs.Moves.{Begins, IsFed, HearsNext, IsAnswered, FallsDown, IsClosed, with_answer}
use Rattle.session_model.proofs.Chains.{goes_more, goes_push, goes_both, goes_at}

pub begins : Begins
begins plan node protocol = record { before = Hearing (opening_state protocol); goes = (refl, refl); ends = refl }

pub is_fed : IsFed
is_fed plan node protocol octets more rest exchanges standing t =
    record { before = t.before; goes = goes_more plan node (Hearing (opening_state protocol)) octets more exchanges t.before rest t.goes; ends = t.ends }

pub hears_next : HearsNext
hears_next plan node protocol octets rest left exchanges state one t next = record {
  before = stands_by plan node state one;
  goes = goes_push plan node (Hearing (opening_state protocol)) octets exchanges state rest left one
      (subst (λ (s : Standing). TalkGoes plan node (Hearing (opening_state protocol)) octets exchanges s rest) t.ends t.goes) next;
  ends = breaks_not (stands_by plan node state one) (lead_of plan node state one.unit) refl;
}
  where
    breaks_answer : (told : TalkState) (call : Call) (answer : Answer) → Breaks (answered told call answer) (answered told call answer)
    breaks_answer told (Login user given) (Listed items) = refl
    breaks_answer told (Login user given) answer = refl
    breaks_answer told (Deliver mail) answer = refl
    breaks_answer told (Fetch user id) answer = refl
    breaks_answer told (Strike user ids) answer = refl

    breaks_asked : (told : TalkState) (call : Call) (answer : Option Answer) → Breaks (standing_asked told call answer) (standing_asked told call answer)
    breaks_asked told call None = refl
    breaks_asked told call (Some answer) = breaks_answer told call answer

    breaks_not : (then : Standing) (lead : Lead) → then ≡ stands plan state one lead → Breaks then then
    breaks_not then (Says reply) is = subst (λ (s : Standing). Breaks s s) (sym is) refl
    breaks_not then (Ends reply) is = subst (λ (s : Standing). Breaks s s) (sym is) refl
    breaks_not then (Asks call) is = subst (λ (s : Standing). Breaks s s) (sym is) (breaks_asked (heard plan state one.unit []) call one.answer)

-- what an answer leads to is no waiting
never_waits : (told state : TalkState) (asks call : Call) (answer : Answer) → Waiting state call ≡ answered told asks answer → ⊥
never_waits told state (Login user given) call (Listed items) e = cc
never_waits told state (Login user given) call answer e = cc
never_waits told state (Deliver mail) call answer e = cc
never_waits told state (Fetch user id) call answer e = cc
never_waits told state (Strike user ids) call answer e = cc

-- the exchange that waits, once it is answered
done_at : (plan : Plan) (state told : TalkState) (call : Call) (one : Exchange) (answer : Answer) (reply : List (List ℕ)) (lead : Lead) → IsLed lead one
    → Waiting told call ≡ stands plan state one lead → RepliesTo one.unit call answer reply
    → IsLed lead (with_answer one answer reply) × (answered told call answer ≡ stands plan state (with_answer one answer reply) lead)
done_at plan state told call one answer reply (Says lines) led e is = cc
done_at plan state told call one answer reply (Ends lines) led e is = cc
done_at plan state told call one answer reply (Asks asks) led e is = by_answer one.answer refl
  where
    by_answer : (before : Option Answer) → one.answer ≡ before
        → IsLed (Asks asks) (with_answer one answer reply) × (answered told call answer ≡ stands plan state (with_answer one answer reply) (Asks asks))
    by_answer None none =
        let waits : Waiting told call ≡ Waiting (heard plan state one.unit []) asks = e ∙ ap (standing_asked (heard plan state one.unit []) asks) none in
        let calls : call ≡ asks = cc in
        let states : told ≡ heard plan state one.unit [] = cc in (
          (led.0, subst (λ (c : Call). RepliesTo one.unit c answer reply) calls is),
          ap (λ (s : TalkState). answered s call answer) states ∙ ap (λ (c : Call). answered (heard plan state one.unit []) c answer) calls,
        )
    by_answer (Some given) there = absurd (never_waits (heard plan state one.unit []) told asks call given (e ∙ ap (standing_asked (heard plan state one.unit []) asks) there))

-- where a session waits, nothing ended it
waits_before : (before : Standing) (state : TalkState) (call : Call) → Breaks before (Waiting state call) → before ≡ Waiting state call
waits_before before state call e = e

-- a standing that an answer leads to
hears_or_quits : (told : TalkState) (call : Call) (answer : Answer) → Breaks (answered told call answer) (answered told call answer)
hears_or_quits told (Login user given) (Listed items) = refl
hears_or_quits told (Login user given) answer = refl
hears_or_quits told (Deliver mail) answer = refl
hears_or_quits told (Fetch user id) answer = refl
hears_or_quits told (Strike user ids) answer = refl

pub is_answered : IsAnswered
is_answered plan node protocol octets rest exchanges told call one answer reply t is =
    let at = goes_at plan node (Hearing (opening_state protocol)) octets exchanges one [] t.before rest t.goes in
    let waits : Waiting told call ≡ stands_by plan node at.state one = sym t.ends ∙ at.goes_behind.0 in
    let done = done_at plan at.state told call one answer reply (lead_of plan node at.state one.unit) at.next.led waits is in
    record {
      before = answered told call answer;
      goes = goes_both plan node (Hearing (opening_state protocol)) octets exchanges (with_answer one answer reply ∷ []) (Hearing at.state) (answered told call answer) at.there rest at.goes_before
          (at.left, record { is_unit = at.next.is_unit; whole = at.next.whole; led = done.0 }, (done.1, at.goes_behind.1));
      ends = hears_or_quits told call answer;
    }

-- a session that is on was ended by nothing
on_before : (before standing : Standing) → Breaks before standing → IsOn standing → IsOn before
on_before before (Hearing state) e is = subst IsOn (sym e) tt
on_before before (Waiting state call) e is = subst IsOn (sym e) tt
on_before before EndedByQuit e is = absurd is
on_before before EndedDown e is = absurd is
on_before before EndedClosed e is = absurd is

pub falls_down : FallsDown
falls_down plan node protocol octets rest exchanges standing t is = record { before = t.before; goes = t.goes; ends = on_before t.before standing t.ends is }

pub is_closed : IsClosed
is_closed plan node protocol octets rest exchanges standing t is = record { before = t.before; goes = t.goes; ends = on_before t.before standing t.ends is }
