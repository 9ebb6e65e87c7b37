-- What the clients of two sessions told that are shown alike, and that a QUIT is one that was sent.
use Rattle.std.proofs.Common.{◌≡◌, inl, inr, ⊎_elim, ℕ, Bool, false, List, [], ◌∷◌, ◌++◌, map, flat_map, refl, sym, ap, ◌∙◌, subst, append_assoc}
use Rattle.mail_model.specs.Lines.{sent_line}
use Rattle.mail_model.specs.Plan.{Plan}
use Rattle.mail_model.specs.Pop.{pop_command_of}
use Rattle.mail_model.specs.Session.{Unit, Told, silent, after_unit}
use Rattle.mail_model.specs.Session.Unit.{Line, Text}
use Rattle.mail_model.specs.Tape.{Protocol}
use Rattle.mail_model.specs.Tape.Protocol.{Smtp, Pop}
use Rattle.mail_model.specs.Told.{Mail, IsUnit, HasNoUnit, told_in, told_from}
use Rattle.mail_model.proofs.Units.{one_unit}
use Rattle.session_model.specs.Talk.{TalkState, Exchange, Standing, TalkGoes, in_text, opening_state, closing_line, lead_of, stands_by}
use Rattle.session_model.specs.Talk.Standing.{Hearing, Waiting, EndedByQuit, EndedDown, EndedClosed}
use Rattle.session_model.specs.Talk.TalkState.{Mailing, Entering, Reading}
use Rattle.session_model.specs.Mailing.{pairs}
use Rattle.session_model.specs.Reading.{IsQuitUnit}
use Rattle.session_model.specs.Sessions.{Session, exchanges_of}
use Rattle.session_model.specs.Readings.{OneTelling, QuitWasSent, AreLines, HasQuit, view, views}
use Rattle.session_model.proofs.Cuts.{goes_front}
use Rattle.session_model.proofs.Replying.{Speaks, IsWhole, some_reply, next_replied}
use Rattle.session_model.proofs.Readings.{SpeaksAt, next_behind, waits_last, one_reading}

-- a unit with the last line of its reply
abbrev told_pair : Unit × List (List ℕ) → Unit × List ℕ
told_pair seen = (seen.0, closing_line seen.1)

-- nothing was told by a unit that has no reply
told_none : (plan : Plan) (talk : Told) (unit : Unit) → told_from plan talk ((unit, []) ∷ []) ≡ []
told_none plan talk (Line line) = refl
told_none plan talk (Text lines) = refl

-- What a client told is read off the units that were replied to. One that has no reply is the last.
told_views : (plan : Plan) (node : ℕ) (talk : Told) (first : Standing) → SpeaksAt Smtp first → (octets : List ℕ) (xs : List Exchange) (last : Standing) (rest : List ℕ)
    → TalkGoes plan node first octets xs last rest → told_from plan talk (pairs xs) ≡ told_from plan talk (map told_pair (views xs))
told_views plan node talk first speaks octets [] last rest goes = refl
told_views plan node talk (Hearing state) speaks octets (one ∷ xs) last rest (left, next, goes) =
    by_reply (told_views plan node (after_unit plan talk one.unit (closing_line one.reply)) (stands_by plan node state one) (next_behind plan node Smtp state octets left one speaks next).speaks
    left xs last rest goes) one.reply refl
  where
    alone : (reply : List (List ℕ)) → one.reply ≡ reply → xs ≡ [] → reply ≡ [] → told_from plan talk (pairs (one ∷ xs)) ≡ told_from plan talk (map told_pair (views (one ∷ xs)))
    alone reply is none empty =
        ap (λ (l : List Exchange). told_from plan talk (pairs (one ∷ l))) none
        ∙ ap (λ (r : List (List ℕ)). told_from plan talk ((one.unit, closing_line r) ∷ [])) (is ∙ empty) ∙ told_none plan talk one.unit
        ∙ sym (ap (λ (l : List Exchange). told_from plan talk (map told_pair (views (one ∷ l)))) none
        ∙ ap (λ (r : List (List ℕ)). told_from plan talk (map told_pair (view one.unit r ++ []))) (is ∙ empty))

    by_reply : told_from plan (after_unit plan talk one.unit (closing_line one.reply)) (pairs xs) ≡ told_from plan (after_unit plan talk one.unit (closing_line one.reply)) (map told_pair (views xs))
        → (reply : List (List ℕ)) → one.reply ≡ reply → told_from plan talk (pairs (one ∷ xs)) ≡ told_from plan talk (map told_pair (views (one ∷ xs)))
    by_reply later [] is = ⊎_elim
        (λ waits. alone [] is (waits_last plan node state one waits.2.0 (lead_of plan node state one.unit) next.led waits.2.1 waits.1 left xs last rest goes) refl)
        (λ whole. absurd (some_reply Smtp node one.unit (subst (IsWhole Smtp node one.unit) is whole)))
        (next_replied plan node Smtp state octets left one speaks next)
    by_reply later (line ∷ lines) is =
        ap (λ (l : List Mail). told_in talk one.unit (closing_line one.reply) ++ l) later
        ∙ ap (λ (r : List (List ℕ)). told_in talk one.unit (closing_line r) ++ told_from plan (after_unit plan talk one.unit (closing_line r)) (map told_pair (views xs))) is
        ∙ sym (ap (λ (r : List (List ℕ)). told_from plan talk (map told_pair (view one.unit r ++ views xs))) is)
told_views plan node talk (Waiting state call) speaks octets (one ∷ xs) last rest goes = absurd goes
told_views plan node talk EndedByQuit speaks octets (one ∷ xs) last rest goes = absurd goes
told_views plan node talk EndedDown speaks octets (one ∷ xs) last rest goes = absurd goes
told_views plan node talk EndedClosed speaks octets (one ∷ xs) last rest goes = absurd goes

-- what the client of a session that takes mail told
telling : (plan : Plan) (session : Session) (before : Standing) → session.protocol ≡ Smtp
    → TalkGoes plan session.node (Hearing (opening_state session.protocol)) session.octets (exchanges_of session) before session.rest
    → told_from plan silent (pairs session.whole) ≡ told_from plan silent (map told_pair (views session.whole))
telling plan session before smtp goes =
    let front = goes_front plan session.node (Hearing (opening_state Smtp)) session.octets session.whole session.others before session.rest
    (subst (λ (p : Protocol). TalkGoes plan session.node (Hearing (opening_state p)) session.octets (exchanges_of session) before session.rest) smtp goes) in
    told_views plan session.node silent (Hearing (opening_state Smtp)) tt session.octets session.whole front.0 front.1 front.2

pub one_telling : OneTelling
one_telling plan lines entries k one two smtp smtp_too node a b =
    telling plan one a.talk.before smtp a.talk.goes
    ∙ ap (λ (v : List (Unit × List (List ℕ))). told_from plan silent (map told_pair v)) (one_reading plan lines entries k one two (smtp ∙ sym smtp_too) node a b)
    ∙ sym (telling plan two b.talk.before smtp_too b.talk.goes)

-- a session that reads mail hears lines alone
reads_lines : (state : TalkState) → Speaks Pop state → in_text state ≡ false
reads_lines (Mailing talk) speaks = absurd speaks
reads_lines (Entering named) speaks = refl
reads_lines (Reading user slots) speaks = refl

-- the units of a session that reads mail are the lines that it was fed
quit_sent : (plan : Plan) (node : ℕ) (first : Standing) → SpeaksAt Pop first → (octets : List ℕ) (before behind : List Exchange) (quit : Exchange) (last : Standing) (left : List ℕ)
    → TalkGoes plan node first octets (before ++ quit ∷ behind) last left → IsQuitUnit quit.unit → (fed : List (List ℕ)) (rest : List ℕ) → octets ≡ flat_map sent_line fed ++ rest → AreLines fed
    → HasNoUnit false rest → HasQuit fed
quit_sent plan node (Hearing state) speaks octets [] behind quit last left (after, next, goes) quits fed rest same are none = by_unit fed are same
  where
    unit_is : IsUnit false quit.unit
    unit_is = subst (λ (b : Bool). IsUnit b quit.unit) (reads_lines state speaks) next.is_unit

    by_unit : (fed : List (List ℕ)) → AreLines fed → octets ≡ flat_map sent_line fed ++ rest → HasQuit fed
    by_unit [] lines is = absurd (none quit.unit after unit_is (sym is ∙ next.whole))
    by_unit (line ∷ fed) lines is =
        let cut = one_unit false (Line line) quit.unit (flat_map sent_line fed ++ rest) after lines.0 unit_is (sym (append_assoc (sent_line line) (flat_map sent_line fed) rest) ∙ sym is ∙ next.whole) in
        let same_line : line ≡ quits.line = (let e : Line line ≡ Line quits.line = unit_same (Line line) quit.unit cut ∙ quits.is in cc) in
        inl (ap pop_command_of same_line ∙ quits.quits)
      where
        unit_same : (a b : Unit) → (a ≡ b) × (flat_map sent_line fed ++ rest ≡ after) → a ≡ b
        unit_same a b both = both.0
quit_sent plan node (Hearing state) speaks octets (one ∷ before) behind quit last left (after, next, goes) quits fed rest same are none =
    by_unit (λ more is lines. quit_sent plan node (stands_by plan node state one) (next_behind plan node Pop state octets after one speaks next).speaks after before behind quit last left goes quits more rest is lines none)
    fed are same
  where
    unit_is : IsUnit false one.unit
    unit_is = subst (λ (b : Bool). IsUnit b one.unit) (reads_lines state speaks) next.is_unit

    by_unit : ((more : List (List ℕ)) → after ≡ flat_map sent_line more ++ rest → AreLines more → HasQuit more)
        → (fed : List (List ℕ)) → AreLines fed → octets ≡ flat_map sent_line fed ++ rest → HasQuit fed
    by_unit later [] lines is = absurd (none one.unit after unit_is (sym is ∙ next.whole))
    by_unit later (line ∷ fed) lines is =
        let cut = one_unit false (Line line) one.unit (flat_map sent_line fed ++ rest) after lines.0 unit_is (sym (append_assoc (sent_line line) (flat_map sent_line fed) rest) ∙ sym is ∙ next.whole) in
        inr (later fed (sym cut.1) lines.1)
quit_sent plan node (Waiting state call) speaks octets [] behind quit last left goes quits fed rest same are none = absurd goes
quit_sent plan node (Waiting state call) speaks octets (one ∷ before) behind quit last left goes quits fed rest same are none = absurd goes
quit_sent plan node EndedByQuit speaks octets [] behind quit last left goes quits fed rest same are none = absurd goes
quit_sent plan node EndedByQuit speaks octets (one ∷ before) behind quit last left goes quits fed rest same are none = absurd goes
quit_sent plan node EndedDown speaks octets [] behind quit last left goes quits fed rest same are none = absurd goes
quit_sent plan node EndedDown speaks octets (one ∷ before) behind quit last left goes quits fed rest same are none = absurd goes
quit_sent plan node EndedClosed speaks octets [] behind quit last left goes quits fed rest same are none = absurd goes
quit_sent plan node EndedClosed speaks octets (one ∷ before) behind quit last left goes quits fed rest same are none = absurd goes

pub quit_was_sent : QuitWasSent
quit_was_sent plan lines entries k session before behind quit fed rest pop is cut quits same are none =
    quit_sent plan session.node (Hearing (opening_state Pop)) tt session.octets before behind quit is.talk.before session.rest
    (subst (λ (l : List Exchange). TalkGoes plan session.node (Hearing (opening_state Pop)) session.octets l is.talk.before session.rest) cut
    (subst (λ (p : Protocol). TalkGoes plan session.node (Hearing (opening_state p)) session.octets (exchanges_of session) is.talk.before session.rest) pop is.talk.goes))
    quits fed rest (is.fed ∙ same) are none
