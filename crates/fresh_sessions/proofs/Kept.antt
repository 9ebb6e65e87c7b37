-- What a cluster owes of the end of a run is kept.
use Rattle.std.proofs.Common.{◌≡◌, inl, inr, ◌+◌, ℕ, List, [], ◌∷◌, ◌++◌, length, map, flat_map, All, Some, None, sym, ap, ap₂, ◌∙◌, subst}
use Rattle.std.proofs.lemmas.List.{length-map}
use Rattle.std.proofs.lemmas.List.Concat.{flat_map-append}
use Rattle.mail_model.specs.Plan.{Plan}
use Rattle.mail_model.specs.Names.{lower}
use Rattle.mail_model.specs.Maildrop.Given.{BySecret}
use Rattle.mail_model.specs.Tape.{Protocol, tape_order}
use Rattle.mail_model.specs.Tape.Protocol.{Pop}
use Rattle.mail_model.specs.Tape.ClusterOrder.{Settle, Maps}
use Rattle.mail_model.specs.Transcript.{Entry, all_of}
use Rattle.mail_model.specs.Record.{Record}
use Rattle.mail_model.specs.Stored.{opened, opened_at}
use Rattle.session_model.specs.Calls.{Call, Answer}
use Rattle.session_model.specs.Calls.Call.{Login}
use Rattle.session_model.specs.Calls.Answer.{Listed}
use Rattle.session_model.specs.Talk.{Exchange, TalkGoes, opening_state}
use Rattle.session_model.specs.Talk.Standing.{Hearing}
use Rattle.session_model.specs.Sessions.{Session, AreAnswered, session_at, exchanges_of}
use Rattle.session_model.specs.SessionParts.{AreShown, AreReaderTalks}
use Rattle.session_model.specs.Events.ClusterEvent.{HasSettled, HasMapped}
use Rattle.session_model.specs.Acts.{Act, opened_by}
use Rattle.session_model.specs.Acts.Act.{Opens, Makes}
use Rattle.session_model.specs.Books.{AmongAnswers}
use Rattle.session_model.specs.Lives.{failed_in}
use Rattle.session_model.specs.Logs.{AreLogged, IsLogged, answers_of, asked_by, answered_by, asked_in, answered_in, calls_of}
use Rattle.session_model.specs.Run.{AreHandled, count_on}
use Rattle.session_model.specs.Runs.{Shows}
use Rattle.session_model.proofs.Acts.{none_behind}
use Rattle.session_model.proofs.Driven.{AreMade, handled_made, whole_shows}
use Rattle.fresh_sessions.specs.Acts.{OwesSettled, IsReaderAct}
use Rattle.fresh_sessions.specs.Tapes.{IsFreshlyEnded, FreshListsAll, SettledAgrees}
use Rattle.fresh_sessions.specs.Kept.{IsRun, OwedSettledIsKept}
use Rattle.fresh_sessions.proofs.Same.{all_same}
use Rattle.fresh_sessions.proofs.Plain.{NoneOn, IsPlain, none_on}
use Rattle.fresh_sessions.proofs.Handled.{IsCutInTwo, IsFreshSince, cut_in_two, fresh_since}
use Rattle.fresh_sessions.proofs.Readers.{AreReadCalls, AnswerReads, asked_parts, answered_parts, calls_apart, reader_acts, only_among, calls_are, answers_are, kind_of_last}
use Rattle.fresh_sessions.proofs.Talks.{ListsFresh, lists_fresh}

-- all acts, line after line
abbrev joined : List (List Act) → List Act
joined acts = flat_map (λ a. a) acts

settled_agrees : (plan : Plan) (lines : List (List ℕ)) (acts : List (List Act)) (disks : List (List Record)) → OwesSettled plan disks (joined acts) → SettledAgrees plan lines acts disks
settled_agrees plan lines acts disks owes members user told ends =
    let settled = ends.settled in
    owes.maps (joined settled.front) members user told
    (ap joined settled.split ∙ flat_map-append (λ (a : List Act). a) settled.front ((Makes Settle HasSettled ∷ []) ∷ (Makes (Maps user) (HasMapped user told) ∷ []) ∷ []))
    settled.shown

module _ (plan : Plan) (lines : List (List ℕ)) (entries wrote : List Entry) (acts : List (List Act)) (disks : List (List Record)) (sessions : List Session)
    (run : IsRun plan lines wrote acts) (shown : AreShown lines entries sessions) (talks : AreReaderTalks plan sessions) (answered : AreAnswered sessions)
    (logged : AreLogged (flat_map asked_by (joined acts)) (flat_map answered_by (joined acts)) sessions) (owes : OwesSettled plan disks (joined acts)) where
  module _ (members : List ℕ) (k : ℕ) (name : List ℕ) (session : Session) (asked : Exchange) (at : session_at sessions k ≡ Some session)
      (fresh : IsFreshlyEnded plan lines acts members k name session asked) where
    abbrev before : List (List ℕ)
    before = fresh.ends.before

    abbrev rest : List (List ℕ)
    rest = fresh.ends.settles ∷ fresh.ends.opens ∷ fresh.ends.names ∷ fresh.ends.proves ∷ fresh.ends.flows ∷ fresh.ends.asks ∷ []

    abbrev front : List (List Act)
    front = fresh.settled.front

    -- the run, cut before the settle
    cut : IsCutInTwo plan [] [] before rest front ((Makes Settle HasSettled ∷ []) ∷ fresh.since) run.last
    cut = cut_in_two plan [] [] [] [] run.last fresh.settled.sessions before rest front ((Makes Settle HasSettled ∷ []) ∷ fresh.since) fresh.settled.outputs run.outputs fresh.settled.handled
        (subst (λ (l : List (List ℕ)). AreHandled plan [] [] l (front ++ (Makes Settle HasSettled ∷ []) ∷ fresh.since) run.outputs run.last) fresh.ends.are
        (subst (λ (a : List (List Act)). AreHandled plan [] [] lines a run.outputs run.last) fresh.settled.split run.handled))

    made : AreMade plan [] before (joined front) (flat_map (λ o. o) cut.outputs) cut.mid
    made = handled_made plan [] [] cut.mid before front cut.outputs cut.first

    none : NoneOn cut.mid
    none = none_on cut.mid (subst (λ (l : List Session). count_on l ≡ 0)
        (all_same plan [] fresh.settled.sessions cut.mid (joined front) _ _ (handled_made plan [] [] fresh.settled.sessions before front fresh.settled.outputs fresh.settled.handled).done made.done)
        fresh.settled.none_open)

    shows : Shows plan before (all_of (flat_map (λ o. o) cut.outputs)) (joined front) cut.mid
    shows = whole_shows plan before (joined front) (flat_map (λ o. o) cut.outputs) cut.mid made.done made.acts_of

    -- the number of the session
    number : k ≡ length cut.mid + 1
    number = fresh.ends.number ∙ ap (λ (n : ℕ). n + 1) (ap length shows.are.kinds ∙ length-map cut.mid (λ (s : Session). (s.protocol, s.node)))

    number_by_acts : k ≡ length (flat_map opened_by (joined front)) + 1
    number_by_acts = fresh.ends.number ∙ ap (λ (l : List (Protocol × ℕ)). length l + 1) made.acts_of.opens

    -- no earlier act answers it
    none_before : answered_in k (flat_map answered_by (joined front)) ≡ []
    none_before =
        let log : IsLogged (asked_in k (flat_map asked_by (joined front))) (answered_in k (flat_map answered_by (joined front))) None =
        subst (IsLogged (asked_in k (flat_map asked_by (joined front))) (answered_in k (flat_map answered_by (joined front)))) (ap (session_at cut.mid) number ∙ none_behind cut.mid) (shows.logged k) in
        log.1

    since : IsFreshSince Pop fresh.node (length cut.mid + 1) (joined fresh.since)
    since = fresh_since plan (joined front) cut.mid run.last fresh.ends.settles fresh.ends.opens (fresh.ends.names ∷ fresh.ends.proves ∷ fresh.ends.flows ∷ fresh.ends.asks ∷ []) fresh.since cut.says
        Pop fresh.node cut.rest fresh.ends.opening
        (inl (k, fresh.naming, fresh.ends.name), (inl (k, fresh.proving, fresh.ends.prove), (inr fresh.ends.flow, (inl (k, fresh.asking, fresh.ends.ask), tt)))) none

    -- the acts of the run, parted behind the opening
    acts_are : joined acts ≡ joined front ++ Makes Settle HasSettled ∷ Opens Pop fresh.node since.greeting ∷ since.behind
    acts_are =
        ap joined fresh.settled.split ∙ flat_map-append (λ (a : List Act). a) front ((Makes Settle HasSettled ∷ []) ∷ fresh.since)
        ∙ ap (λ (l : List Act). joined front ++ Makes Settle HasSettled ∷ l) since.are

    -- the session is one that reads
    kinds : opened before ++ (Pop, fresh.node) ∷ [] ≡ map (λ (s : Session). (s.protocol, s.node)) sessions
    kinds = sym (ap opened fresh.ends.are ∙ flat_map-append (λ (line : List ℕ). opened_at (tape_order line)) before rest
        ∙ (λ i. opened before ++ (opened_at (fresh.ends.settle i) ++ (opened_at (fresh.ends.opening i) ++ (opened_at (fresh.ends.name i) ++ (opened_at (fresh.ends.prove i)
        ++ (opened_at (fresh.ends.flow i) ++ (opened_at (fresh.ends.ask i) ++ [])))))))) ∙ shown.kinds

    protocol : session.protocol ≡ Pop
    protocol = ap (λ (kind : Protocol × ℕ). kind.0) (kind_of_last (opened before) sessions (Pop, fresh.node) session kinds (ap (session_at sessions) (sym fresh.ends.number) ∙ at))

    exchanges : exchanges_of session ≡ fresh.named ∷ fresh.proved ∷ asked ∷ []
    exchanges = ap₂ ◌++◌ fresh.are (answered k session at).0

    lists : ListsFresh (lower name) fresh.secret fresh.named fresh.proved asked
    lists =
        let talk = talks k session at protocol in
        lists_fresh plan session.node session.octets fresh.named fresh.proved asked talk.before session.rest
        (subst (λ (l : List Exchange). TalkGoes plan session.node (Hearing (opening_state Pop)) session.octets l talk.before session.rest) exchanges talk.goes)
        fresh.naming fresh.proving fresh.asking name fresh.secret fresh.units.0 fresh.units.1 fresh.units.2 fresh.commands.0 fresh.commands.1 fresh.commands.2 fresh.short fresh.entered

    abbrev login : Call
    login = Login (lower name) (BySecret fresh.secret)

    log : IsLogged (asked_in k (flat_map asked_by (joined acts))) (answered_in k (flat_map answered_by (joined acts))) (Some session)
    log = subst (IsLogged (asked_in k (flat_map asked_by (joined acts))) (answered_in k (flat_map answered_by (joined acts)))) at (logged k)

    -- its login is all that it asked
    asked_all : asked_in k (flat_map asked_by (joined front)) ++ asked_in k (flat_map asked_by since.behind) ≡ login ∷ []
    asked_all =
        sym (asked_parts k (joined front) (Makes Settle HasSettled ∷ Opens Pop fresh.node since.greeting ∷ since.behind)) ∙ ap (λ (a : List Act). asked_in k (flat_map asked_by a)) (sym acts_are)
        ∙ log.0 ∙ ap calls_of exchanges ∙ calls_are fresh.named fresh.proved asked login lists.none_named lists.asks lists.none_asked

    -- and its listing is its only answer
    answered_all : answered_in k (flat_map answered_by since.behind) ≡ (login, Listed lists.items) ∷ []
    answered_all =
        ap (λ (l : List (Call × Answer)). l ++ answered_in k (flat_map answered_by since.behind)) (sym none_before)
        ∙ sym (answered_parts k (joined front) (Makes Settle HasSettled ∷ Opens Pop fresh.node since.greeting ∷ since.behind))
        ∙ ap (λ (a : List Act). answered_in k (flat_map answered_by a)) (sym acts_are) ∙ log.1 ∙ ap answers_of exchanges
        ∙ answers_are fresh.named fresh.proved asked login (Listed lists.items) lists.none_named lists.asks lists.told lists.none_asked

    readers : All IsReaderAct since.behind
    readers = reader_acts k since.behind (subst (λ (n : ℕ). All (IsPlain n) since.behind) (sym number) since.plain)
        (subst (λ (a : List Act). failed_in a ≡ []) since.are fresh.settled.faultless)
        (calls_apart (asked_in k (flat_map asked_by (joined front))) (asked_in k (flat_map asked_by since.behind)) (subst AreReadCalls (sym asked_all) (tt, tt))).1
        (subst AnswerReads (sym answered_all) (tt, tt))

    among : AmongAnswers (record { session = length (flat_map opened_by (joined front)) + 1; call = login; answer = Listed lists.items }) (flat_map answered_by since.behind)
    among = subst (λ (n : ℕ). AmongAnswers (record { session = n; call = login; answer = Listed lists.items }) (flat_map answered_by since.behind)) number_by_acts
        (only_among k login (Listed lists.items) (flat_map answered_by since.behind) answered_all)

  fresh_lists_all : FreshListsAll plan lines acts disks sessions
  fresh_lists_all members k name session asked at fresh =
      let lists = lists members k name session asked at fresh in
      let since = since members k name session asked at fresh in (
        lists.items,
        owes.fresh (joined fresh.settled.front) since.behind members fresh.node since.greeting (acts_are members k name session asked at fresh) (readers members k name session asked at fresh)
            fresh.settled.shown fresh.member (lower name) (BySecret fresh.secret) lists.items (among members k name session asked at fresh),
        lists.shows,
      )

pub owed_settled_is_kept : OwedSettledIsKept
owed_settled_is_kept plan lines entries wrote acts disks sessions run shown talks answered logged owes = record {
  fresh_lists_all = fresh_lists_all plan lines entries wrote acts disks sessions run shown talks answered logged owes;
  settled_agrees = settled_agrees plan lines acts disks owes;
}
