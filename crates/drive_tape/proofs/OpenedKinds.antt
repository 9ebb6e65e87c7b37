-- The sessions of a run are those that its lines opened, in order.
use Rattle.std.proofs.Common.{◌≡◌, ◌-◌, ◌++◌, ◌∷◌, ℕ, zero, suc, List, [], map, flat_map, Option, Some, None, refl, sym, ap, ap₂, ◌∙◌, arith, append_assoc}
use Rattle.std.specs.Prelude.{slice_get, slice_set}
use Rattle.std.proofs.lemmas.List.{append-nil, map-append}
use Rattle.std.proofs.lemmas.Grind.{flat_map-append}
use Rattle.mail_model.specs.Plan.{Plan}
use Rattle.mail_model.specs.Tape.{Protocol, tape_order}
use Rattle.mail_model.specs.Transcript.{Entry}
use Rattle.mail_model.specs.Stored.{opened, opened_at}
use Rattle.session_model.specs.Sessions.{Session}
use Rattle.session_model.specs.Acts.{Act, Acted, ActedAll, Did, Deed, opened_by, opened_session}
use Rattle.session_model.specs.Acts.Act.{Opens, Does, Faults, StillWaits, Leaves, Makes, Abandons}
use Rattle.session_model.specs.Acts.Deed.{IsFed, Hears, IsAnswered, IsGivenUp, Falls, Closes}
use Rattle.session_model.specs.Run.{Made, Stop, IsLeftOff, IsDriven}
use Rattle.session_model.proofs.Driven.{begun_made, handled_made, first_none}
use Rattle.drive_tape.proofs.Talks.{at_place, some_same, did_node}

abbrev pub kind_of : Session → Protocol × ℕ
kind_of session = (session.protocol, session.node)

abbrev pub kinds_of : List Session → List (Protocol × ℕ)
kinds_of sessions = map (λ (session : Session). (session.protocol, session.node)) sessions

did_protocol : (plan : Plan) (old : Session) (deed : Deed) (said : List (List ℕ)) (new : Session) → Did plan old deed said new → new.protocol ≡ old.protocol
did_protocol plan old (IsFed more) said new did = ap (λ (s : Session). s.protocol) did.2
did_protocol plan old (Hears one) said new did = ap (λ (s : Session). s.protocol) did.5
did_protocol plan old (IsAnswered call answer reply) said new did = ap (λ (s : Session). s.protocol) did.7
did_protocol plan old (IsGivenUp call reply) said new did = ap (λ (s : Session). s.protocol) did.7
did_protocol plan old Falls said new did = ap (λ (s : Session). s.protocol) did.2
did_protocol plan old Closes said new did = ap (λ (s : Session). s.protocol) did.2

kinds_set : (sessions : List Session) (place : ℕ) (plain after : Session) → slice_get sessions place ≡ Some plain → kind_of after ≡ kind_of plain → kinds_of (slice_set sessions place after) ≡ kinds_of sessions
kinds_set [] place plain after here same = refl
kinds_set (s ∷ ss) zero plain after here same = ap (λ (k : Protocol × ℕ). k ∷ kinds_of ss) (same ∙ ap kind_of (sym (some_same s plain here)))
kinds_set (s ∷ ss) (suc place) plain after here same = ap (λ (l : List (Protocol × ℕ)). kind_of s ∷ l) (kinds_set ss place plain after here same)

acted_kinds : (plan : Plan) (old new : List Session) (act : Act) (entries : List Entry) → Acted plan old act entries new → kinds_of new ≡ kinds_of old ++ opened_by act
acted_kinds plan old new (Opens protocol node greeting) entries acted =
    ap kinds_of acted.1 ∙ map-append (λ (session : Session). (session.protocol, session.node)) old (opened_session protocol node ∷ [])
acted_kinds plan old new (Does zero deed) entries acted = absurd (let never : ◌≡◌ {A = Option Session} None (Some acted.0) = acted.3 in cc)
acted_kinds plan old new (Does (suc i) deed) entries acted =
    let less : suc i - 1 ≡ i = omega arith in
    ap kinds_of (acted.6 ∙ ap (λ (j : ℕ). slice_set old j acted.1) less)
    ∙ kinds_set old i acted.0 acted.1 (sym (at_place old (suc i) i (omega arith)) ∙ acted.3)
    (ap₂ (λ (p : Protocol) (n : ℕ). (p, n)) (did_protocol plan acted.0 deed acted.2 acted.1 acted.4) (did_node plan acted.0 deed acted.2 acted.1 acted.4))
    ∙ sym (append-nil (kinds_of old))
acted_kinds plan old new (Faults node) entries acted = ap kinds_of acted.1 ∙ sym (append-nil (kinds_of old))
acted_kinds plan old new (StillWaits k) entries acted = ap kinds_of acted.1 ∙ sym (append-nil (kinds_of old))
acted_kinds plan old new (Leaves k user) entries acted = ap kinds_of acted.1 ∙ sym (append-nil (kinds_of old))
acted_kinds plan old new (Makes order event) entries acted = ap kinds_of acted.1 ∙ sym (append-nil (kinds_of old))
acted_kinds plan old new (Abandons k) entries acted = ap kinds_of acted.1 ∙ sym (append-nil (kinds_of old))

pub all_kinds : (plan : Plan) (old new : List Session) (acts : List Act) (outputs : List (List Entry)) → ActedAll plan old acts outputs new → kinds_of new ≡ kinds_of old ++ flat_map opened_by acts
all_kinds plan old new [] [] is = ap kinds_of is ∙ sym (append-nil (kinds_of old))
all_kinds plan old new (act ∷ acts) (entries ∷ outputs) (mid, acted, more) =
    all_kinds plan mid new acts outputs more ∙ ap (λ (l : List (Protocol × ℕ)). l ++ flat_map opened_by acts) (acted_kinds plan old mid act entries acted)
    ∙ append_assoc (kinds_of old) (opened_by act) (flat_map opened_by acts)
all_kinds plan old new [] (entries ∷ outputs) goes = absurd goes
all_kinds plan old new (act ∷ acts) [] goes = absurd goes

left_kinds : (plan : Plan) (been : List Act) (stop : Stop) (old new : List Session) (left : List (List ℕ)) (by_line : List (List Act)) (tail : List Entry) (extra : List Made)
    → IsLeftOff plan been stop old left by_line tail extra new → kinds_of new ≡ kinds_of old ++ opened left
left_kinds plan been stop old new [] [] tail extra off = ap kinds_of off.2 ∙ sym (append-nil (kinds_of old))
left_kinds plan been stop old new (line ∷ []) ([] ∷ []) tail extra (tried, is) =
    let none : opened (line ∷ []) ≡ [] = append-nil (opened_at (tape_order line)) ∙ ap opened_at tried.spelled ∙ (first_none tried.order old tried.step tried.first).0 in
    ap kinds_of is ∙ sym (append-nil (kinds_of old)) ∙ ap (λ (l : List (Protocol × ℕ)). kinds_of old ++ l) (sym none)
left_kinds plan been stop old new (line ∷ []) ((act ∷ acts) ∷ []) tail extra (turn, cut, may) =
    let made = begun_made plan been old new line (act ∷ acts) (cut.before ++ cut.says ∷ []) turn cut.begun in
    all_kinds plan old new (act ∷ acts) (cut.before ++ cut.says ∷ []) made.done ∙ ap (λ (l : List (Protocol × ℕ)). kinds_of old ++ l) (sym made.acts_of.opens)
left_kinds plan been stop old new left by_line tail extra off = absurd off

pub driven_kinds : (plan : Plan) (stop : Stop) (handled left : List (List ℕ)) (acts others : List (List Act)) (made : List Made) (entries : List Entry) (last : List Session)
    → IsDriven plan stop handled left acts others made entries last → opened (handled ++ left) ≡ kinds_of last
driven_kinds plan stop handled left acts others made entries last driven =
    let made_of = handled_made plan [] [] driven.mid handled acts driven.outputs driven.are in
    let early : kinds_of driven.mid ≡ opened handled = all_kinds plan [] driven.mid (flat_map (λ a. a) acts) (flat_map (λ o. o) driven.outputs) made_of.done ∙ sym made_of.acts_of.opens in
    flat_map-append (λ (line : List ℕ). opened_at (tape_order line)) handled left ∙ ap (λ (l : List (Protocol × ℕ)). l ++ opened left) (sym early)
    ∙ sym (left_kinds plan (flat_map (λ a. a) acts) stop driven.mid last left others driven.tail driven.extra driven.off)
