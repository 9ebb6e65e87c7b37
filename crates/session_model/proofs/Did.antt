-- What one session does keeps its talk and its lines.
use Rattle.std.proofs.Common.{◌≡◌, ℕ, List, [], ◌∷◌, ◌++◌, Option, Some, None, refl, sym, ap, ap₂, ◌∙◌, subst, append-nil}
use Rattle.std.proofs.lemmas.List.Concat.{flat_map-append}
use Rattle.mail_model.specs.Plan.{Plan}
use Rattle.mail_model.specs.Tape.{Protocol}
use Rattle.session_model.specs.Calls.{Call, Answer}
use Rattle.session_model.specs.Calls.Call.{Deliver, Login, Fetch, Strike}
use Rattle.session_model.specs.Calls.Answer.{Listed, Failed}
use Rattle.session_model.specs.Talk.{TalkState, Exchange, Standing, Lead, IsLed, Awaits, IsOn, IsTalk, Breaks, TalkGoes, opening_state, stands, lead_of, heard, standing_asked, answered, farewell, replies}
use Rattle.session_model.specs.Talk.Lead.{Says, Ends, Asks}
use Rattle.session_model.specs.Talk.Standing.{Hearing, Waiting, EndedByQuit, EndedDown, EndedClosed}
use Rattle.session_model.specs.Moves.{with_answer}
use Rattle.session_model.specs.Sessions.{Session, Gets, IsCut}
use Rattle.session_model.specs.Acts.{Deed, Did, WasAnswered, IsParted, fed_by_act}
use Rattle.session_model.specs.Acts.Act.{Does}
use Rattle.session_model.specs.Spoken.{Speaks, SpeaksOn}
use Rattle.mail_model.proofs.Sessions.{fed_there}
use Rattle.session_model.specs.Acts.Deed.{IsFed, Hears, IsAnswered, IsGivenUp, Falls, Closes}
use Rattle.session_model.proofs.Chains.{goes_at}
use Rattle.session_model.proofs.Moves.{is_fed, hears_next, is_answered, falls_down, is_closed}

-- no unit and no answer ends a session with a farewell
answered_quiet : (protocol : Protocol) (node : ℕ) (told : TalkState) (call : Call) (answer : Answer) → farewell protocol node (answered told call answer) ≡ []
answered_quiet protocol node told (Login user given) (Listed items) = refl
answered_quiet protocol node told (Login user given) answer = refl
answered_quiet protocol node told (Deliver mail) answer = refl
answered_quiet protocol node told (Fetch user id) answer = refl
answered_quiet protocol node told (Strike user ids) answer = refl

asked_quiet : (protocol : Protocol) (node : ℕ) (told : TalkState) (call : Call) (answer : Option Answer) → farewell protocol node (standing_asked told call answer) ≡ []
asked_quiet protocol node told call None = refl
asked_quiet protocol node told call (Some answer) = answered_quiet protocol node told call answer

stands_quiet : (protocol : Protocol) (node : ℕ) (plan : Plan) (state : TalkState) (one : Exchange) (lead : Lead) → farewell protocol node (stands plan state one lead) ≡ []
stands_quiet protocol node plan state one (Says reply) = refl
stands_quiet protocol node plan state one (Ends reply) = refl
stands_quiet protocol node plan state one (Asks call) = asked_quiet protocol node (heard plan state one.unit []) call one.answer

-- nor is one said before
on_quiet : (protocol : Protocol) (node : ℕ) (standing : Standing) → IsOn standing → farewell protocol node standing ≡ []
on_quiet protocol node (Hearing state) is = refl
on_quiet protocol node (Waiting told call) is = refl
on_quiet protocol node EndedByQuit is = absurd is
on_quiet protocol node EndedDown is = absurd is
on_quiet protocol node EndedClosed is = absurd is

-- what an answer leads to is no waiting
pub never_waits : (told state : TalkState) (asks call : Call) (answer : Answer) → Waiting state call ≡ answered told asks answer → ⊥
never_waits told state (Login user given) call (Listed items) e = cc
never_waits told state (Login user given) call answer e = cc
never_waits told state (Deliver mail) call answer e = cc
never_waits told state (Fetch user id) call answer e = cc
never_waits told state (Strike user ids) call answer e = cc

-- an exchange that waits has no reply yet
waiting_silent : (plan : Plan) (state told : TalkState) (call : Call) (one : Exchange) (lead : Lead) → IsLed lead one → Waiting told call ≡ stands plan state one lead → one.reply ≡ []
waiting_silent plan state told call one (Says reply) led e = cc
waiting_silent plan state told call one (Ends reply) led e = cc
waiting_silent plan state told call one (Asks asks) led e = by_answer one.answer refl led.1
  where
    by_answer : (answer : Option Answer) → one.answer ≡ answer → Awaits one.unit asks answer one.reply → one.reply ≡ []
    by_answer None there says = says
    by_answer (Some answer) there says = absurd (never_waits (heard plan state one.unit []) told asks call answer (e ∙ ap (standing_asked (heard plan state one.unit []) asks) there))

-- the replies of two lists of exchanges
pub replies_both : (a b : List Exchange) → replies (a ++ b) ≡ replies a ++ replies b
replies_both a b = flat_map-append (λ (one : Exchange). one.reply) a b

replies_push : (been : List Exchange) (one : Exchange) → replies (been ++ one ∷ []) ≡ replies been ++ one.reply
replies_push been one = replies_both been (one ∷ []) ∙ ap (λ (l : List (List ℕ)). replies been ++ l) (append-nil one.reply)

-- what was said by a session that says no farewell
no_farewell : (plan : Plan) (said : List (List ℕ)) (session : Session) → Speaks plan said session → farewell session.protocol session.node session.standing ≡ [] → said ≡ replies session.whole
no_farewell plan said session speaks none = speaks.lines ∙ ap (λ (l : List (List ℕ)). replies session.whole ++ l) none ∙ append-nil (replies session.whole)

-- the lines of one that waits are those before its last exchange
waits_before : (plan : Plan) (said : List (List ℕ)) (session : Session) (before : List Exchange) (one : Exchange) (told : TalkState) (call : Call) → Speaks plan said session
    → session.whole ≡ before ++ one ∷ [] → session.standing ≡ Waiting told call → said ≡ replies before
waits_before plan said session before one told call speaks cut waits =
    no_farewell plan said session speaks (ap (farewell session.protocol session.node) waits) ∙ ap replies cut ∙ replies_push before one
    ∙ ap (λ (l : List (List ℕ)). replies before ++ l) silent ∙ append-nil (replies before)
  where
    goes : TalkGoes plan session.node (Hearing (opening_state session.protocol)) session.octets (before ++ one ∷ []) (Waiting told call) session.rest
    goes = subst (λ (l : List Exchange). TalkGoes plan session.node (Hearing (opening_state session.protocol)) session.octets l (Waiting told call) session.rest) cut
        (subst (λ (s : Standing). TalkGoes plan session.node (Hearing (opening_state session.protocol)) session.octets session.whole s session.rest)
        (broken (speaks.talk.before) session.standing waits speaks.talk.ends) speaks.talk.goes)
      where
        broken : (first standing : Standing) → standing ≡ Waiting told call → Breaks first standing → first ≡ Waiting told call
        broken first standing is breaks = subst (Breaks first) is breaks

    silent : one.reply ≡ []
    silent =
        let at = goes_at plan session.node (Hearing (opening_state session.protocol)) session.octets before one [] (Waiting told call) session.rest goes in
        waiting_silent plan at.state told call one (lead_of plan session.node at.state one.unit) at.next.led at.goes_behind.0

-- the same of another session
as_is : (plan : Plan) (said : List (List ℕ)) (new session : Session) → new ≡ session → Speaks plan said session → Speaks plan said new
as_is plan said new session is speaks = subst (Speaks plan said) (sym is) speaks

-- one that was answered, or whose call was given up
answered_speaks : (plan : Plan) (said lines : List (List ℕ)) (old new : Session) (call : Call) (answer : Answer) (reply : List (List ℕ)) → Speaks plan said old
    → WasAnswered old call answer reply lines new → Speaks plan (said ++ lines) new
answered_speaks plan said lines old new call answer reply speaks (before, one, state, cut, waits, replies_so, says, is) = as_is plan (said ++ lines) new _ is (record {
  talk = is_answered plan old.node old.protocol old.octets old.rest before state call one answer reply
      (subst (λ (l : List Exchange). IsTalk plan old.node old.protocol old.octets l (Waiting state call) old.rest) cut
      (subst (λ (s : Standing). IsTalk plan old.node old.protocol old.octets old.whole s old.rest) waits speaks.talk)) replies_so;
  none = speaks.none;
  lines = ap₂ ◌++◌ (waits_before plan said old before one state call speaks cut waits) says ∙ sym (replies_push before (with_answer one answer reply))
      ∙ sym (append-nil (replies (before ++ with_answer one answer reply ∷ [])))
      ∙ ap (λ (l : List (List ℕ)). replies (before ++ with_answer one answer reply ∷ []) ++ l) (sym (answered_quiet old.protocol old.node state call answer));
})

-- whatever a session does
pub did_speaks : SpeaksOn
did_speaks plan said lines old new (IsFed more) speaks (on, none, is) = as_is plan (said ++ lines) new _ is (record {
  talk = is_fed plan old.node old.protocol old.octets more old.rest old.whole old.standing speaks.talk;
  none = speaks.none;
  lines = ap (λ (l : List (List ℕ)). said ++ l) none ∙ append-nil said ∙ speaks.lines;
})
did_speaks plan said lines old new (Hears one) speaks (state, left, hears, next, says, is, unanswered) = as_is plan (said ++ lines) new _ is (record {
  talk = hears_next plan old.node old.protocol old.octets old.rest left old.whole state one
      (subst (λ (s : Standing). IsTalk plan old.node old.protocol old.octets old.whole s old.rest) hears speaks.talk) next;
  none = speaks.none;
  lines = ap₂ ◌++◌ (no_farewell plan said old speaks (ap (farewell old.protocol old.node) hears)) says ∙ sym (replies_push old.whole one)
      ∙ sym (append-nil (replies (old.whole ++ one ∷ [])))
      ∙ ap (λ (l : List (List ℕ)). replies (old.whole ++ one ∷ []) ++ l) (sym (stands_quiet old.protocol old.node plan state one (lead_of plan old.node state one.unit)));
})
did_speaks plan said lines old new (IsAnswered call answer reply) speaks did = answered_speaks plan said lines old new call answer reply speaks did
did_speaks plan said lines old new (IsGivenUp call reply) speaks did = answered_speaks plan said lines old new call Failed reply speaks did
did_speaks plan said lines old new Falls speaks (on, says, is) = as_is plan (said ++ lines) new _ is (record {
  talk = falls_down plan old.node old.protocol old.octets old.rest old.whole old.standing speaks.talk on;
  none = speaks.none;
  lines = ap₂ ◌++◌ (no_farewell plan said old speaks (on_quiet old.protocol old.node old.standing on)) says;
})
did_speaks plan said lines old new Closes speaks (on, none, is) = as_is plan (said ++ lines) new _ is (record {
  talk = is_closed plan old.node old.protocol old.octets old.rest old.whole old.standing speaks.talk on;
  none = speaks.none;
  lines = ap₂ ◌++◌ (no_farewell plan said old speaks (on_quiet old.protocol old.node old.standing on)) none;
})

-- A session that was cut off: its talk, and the lines that its client got.
pub record IsShown (plan : Plan) (got : List (List ℕ)) (session : Session) : Type 0 where
  pub talk : IsTalk plan session.node session.protocol session.octets (session.whole ++ session.others) session.standing session.rest
  pub gets : Gets session got

-- one of which everything was written
pub whole_shown : (plan : Plan) (said : List (List ℕ)) (session : Session) → Speaks plan said session → IsShown plan said session
whole_shown plan said session speaks = record {
  talk = subst (λ (l : List Exchange). IsTalk plan session.node session.protocol session.octets l session.standing session.rest)
      (sym (append-nil session.whole) ∙ ap (λ (l : List Exchange). session.whole ++ l) (sym speaks.none)) speaks.talk;
  gets = record {
    part = farewell session.protocol session.node session.standing;
    missing = [];
    are = speaks.lines;
    cut = subst (λ (l : List Exchange). IsCut l (farewell session.protocol session.node session.standing) (farewell session.protocol session.node session.standing) []) (sym speaks.none)
        (sym (append-nil (farewell session.protocol session.node session.standing)));
  };
}

-- a session is itself, parted in no way
pub unparted : (session : Session) → IsParted session session
unparted session = record { same = refl; exchanges = refl }

-- nothing has no part
no_line : (part : List (List ℕ)) (m : List ℕ) (ms : List (List ℕ)) → [] ≡ part ++ m ∷ ms → ⊥
no_line [] m ms e = cc
no_line (x ∷ part) m ms e = cc

-- some lines are missing
some_missing : (m : List ℕ) (ms : List (List ℕ)) → m ∷ ms ≡ [] → ⊥
some_missing m ms e = cc

-- the last reply is parted into what was written and what was not
part_last : (plan : Plan) (said part : List (List ℕ)) (m : List ℕ) (ms : List (List ℕ)) (new : Session) (before : List Exchange) (one : Exchange) → new.whole ≡ before ++ one ∷ []
    → new.others ≡ [] → IsTalk plan new.node new.protocol new.octets new.whole new.standing new.rest → said ≡ replies before → one.reply ≡ part ++ m ∷ ms
    → (session : Session) × IsParted new session × IsShown plan (said ++ part) session
part_last plan said part m ms new before one whole none talk says cut = (
  record new { whole = before; others = one ∷ [] },
  record { same = refl; exchanges = sym whole ∙ sym (append-nil new.whole) ∙ ap (λ (l : List Exchange). new.whole ++ l) (sym none) },
  record {
    talk = subst (λ (l : List Exchange). IsTalk plan new.node new.protocol new.octets l new.standing new.rest) whole talk;
    gets = record { part = part; missing = m ∷ ms; are = ap (λ (l : List (List ℕ)). l ++ part) says; cut = (cut, some_missing m ms) };
  },
)

-- a reply to an answer is parted so
answered_cut : (plan : Plan) (said lines part : List (List ℕ)) (m : List ℕ) (ms : List (List ℕ)) (old new : Session) (call : Call) (answer : Answer) (reply : List (List ℕ)) → Speaks plan said old
    → WasAnswered old call answer reply lines new → lines ≡ part ++ m ∷ ms → (session : Session) × IsParted new session × IsShown plan (said ++ part) session
answered_cut plan said lines part m ms old new call answer reply speaks did cut =
    let now = answered_speaks plan said lines old new call answer reply speaks did in
    part_last plan said part m ms new did.0 (with_answer did.1 answer reply) (ap (λ (s : Session). s.whole) did.7) now.none now.talk
    (waits_before plan said old did.0 did.1 did.2 call speaks did.3 did.4) (sym did.6 ∙ cut)

-- whatever a session does, and whatever prefix of its lines is written
pub did_cut : (plan : Plan) (said lines part missing : List (List ℕ)) (old new : Session) (deed : Deed) → Speaks plan said old → Did plan old deed lines new → lines ≡ part ++ missing
    → (session : Session) × IsParted new session × IsShown plan (said ++ part) session
did_cut plan said lines part [] old new deed speaks did cut = (
  new,
  unparted new,
  subst (λ (l : List (List ℕ)). IsShown plan (said ++ l) new) (cut ∙ append-nil part) (whole_shown plan (said ++ lines) new (did_speaks plan said lines old new deed speaks did)),
)
did_cut plan said lines part (m ∷ ms) old new (IsFed more) speaks (on, none, is) cut = absurd (no_line part m ms (sym none ∙ cut))
did_cut plan said lines part (m ∷ ms) old new Closes speaks (on, none, is) cut = absurd (no_line part m ms (sym none ∙ cut))
did_cut plan said lines part (m ∷ ms) old new (Hears one) speaks did cut =
    let now = did_speaks plan said lines old new (Hears one) speaks did in
    part_last plan said part m ms new old.whole one (ap (λ (s : Session). s.whole) did.5) now.none now.talk
    (no_farewell plan said old speaks (ap (farewell old.protocol old.node) did.2)) (sym did.4 ∙ cut)
did_cut plan said lines part (m ∷ ms) old new (IsAnswered call answer reply) speaks did cut = answered_cut plan said lines part m ms old new call answer reply speaks did cut
did_cut plan said lines part (m ∷ ms) old new (IsGivenUp call reply) speaks did cut = answered_cut plan said lines part m ms old new call Failed reply speaks did cut
did_cut plan said lines part (m ∷ ms) old new Falls speaks did cut =
    let now = did_speaks plan said lines old new Falls speaks did in
    let whole : IsShown plan (said ++ lines) new = whole_shown plan (said ++ lines) new now in
    let last : farewell new.protocol new.node new.standing ≡ lines = ap (λ (s : Session). farewell s.protocol s.node s.standing) did.2 ∙ sym did.1 in (
      new,
      unparted new,
      record {
        talk = whole.talk;
        gets = record {
          part = part;
          missing = m ∷ ms;
          are = ap (λ (l : List (List ℕ)). l ++ part) (no_farewell plan said old speaks (on_quiet old.protocol old.node old.standing did.0)
              ∙ ap (λ (s : Session). replies s.whole) (sym did.2));
          cut = subst (λ (l : List Exchange). IsCut l (farewell new.protocol new.node new.standing) part (m ∷ ms)) (sym now.none) (last ∙ cut);
        };
      },
    )

-- what a session does changes neither its protocol nor its node
pub did_kind : (plan : Plan) (lines : List (List ℕ)) (old new : Session) (deed : Deed) → Did plan old deed lines new
    → (new.protocol ≡ old.protocol) × (new.node ≡ old.node)
did_kind plan lines old new (IsFed more) did = (ap (λ (s : Session). s.protocol) did.2, ap (λ (s : Session). s.node) did.2)
did_kind plan lines old new (Hears one) did = (ap (λ (s : Session). s.protocol) did.5, ap (λ (s : Session). s.node) did.5)
did_kind plan lines old new (IsAnswered call answer reply) did = (ap (λ (s : Session). s.protocol) did.7, ap (λ (s : Session). s.node) did.7)
did_kind plan lines old new (IsGivenUp call reply) did = (ap (λ (s : Session). s.protocol) did.7, ap (λ (s : Session). s.node) did.7)
did_kind plan lines old new Falls did = (ap (λ (s : Session). s.protocol) did.2, ap (λ (s : Session). s.node) did.2)
did_kind plan lines old new Closes did = (ap (λ (s : Session). s.protocol) did.2, ap (λ (s : Session). s.node) did.2)

-- and its octets are those that it is fed
pub did_feed : (plan : Plan) (lines : List (List ℕ)) (old new : Session) (deed : Deed) → Did plan old deed lines new → (k : ℕ)
    → new.octets ≡ old.octets ++ fed_by_act k (Does k deed)
did_feed plan lines old new (IsFed more) did k = ap (λ (s : Session). s.octets) did.2 ∙ ap (λ (l : List ℕ). old.octets ++ l) (sym (fed_there k more))
did_feed plan lines old new (Hears one) did k = ap (λ (s : Session). s.octets) did.5 ∙ sym (append-nil old.octets)
did_feed plan lines old new (IsAnswered call answer reply) did k = ap (λ (s : Session). s.octets) did.7 ∙ sym (append-nil old.octets)
did_feed plan lines old new (IsGivenUp call reply) did k = ap (λ (s : Session). s.octets) did.7 ∙ sym (append-nil old.octets)
did_feed plan lines old new Falls did k = ap (λ (s : Session). s.octets) did.2 ∙ sym (append-nil old.octets)
did_feed plan lines old new Closes did k = ap (λ (s : Session). s.octets) did.2 ∙ sym (append-nil old.octets)
