-- A store that lacks a message is refused, by the octets of the tape and the status.
use Rattle.std.proofs.Common.{◌≡◌, inl, ⊎_elim, ℕ, true, List, [], ◌∷◌, ◌++◌, length, flat_map, All, Some, refl, sym, ap, ◌∙◌, subst, arith, codes, append-nil, length-append}
use Rattle.std.proofs.lemmas.Option.{none-some}
use Rattle.std.proofs.lemmas.List.Concat.{flat_map-append}
use Rattle.std.proofs.lemmas.List.Elements.{All-nil, All-cons, All-append}
use Rattle.mail_model.specs.Lines.{HasNoLf, ended}
use Rattle.mail_model.specs.Grammar.{IsRecord}
use Rattle.mail_model.specs.Plan.{Plan}
use Rattle.mail_model.specs.Record.{Record, IsJournal, payloads_of}
use Rattle.mail_model.specs.Record.Record.{Boot}
use Rattle.mail_model.specs.Tape.{Draft, empty_draft, planned, tape_plan_line}
use Rattle.mail_model.specs.Tape.PlanLine.{Go}
use Rattle.mail_model.proofs.OneRecord.{one_reading}
use Rattle.mail_model.specs.Stored.{Ack}
use Rattle.session_model.specs.Copies.{AreDisks}
use Rattle.session_model.specs.Sessions.{Session, AreSessions}
use Rattle.session_model.specs.Promises.{StoredStands}
use Rattle.session_model.proofs.Cuts.{one_end}
use Rattle.session_model.proofs.MailTalk.{are_sessions}
use Rattle.worked_sessions.specs.OneMessage.{small_plan, small_lines, small_entries}
use Rattle.worked_sessions.specs.WrongStores.{empty_records}
use Rattle.worked_sessions.proofs.WrongStores.{wrong_stores}
use Rattle.drive_tape.specs.Plans.{DraftsOn, DraftsTo}
use Rattle.porcupine_server.specs.Promises.{KeepsOver}
use Rattle.porcupine_server.specs.SmallTape.{small_head, small_tape}
use Rattle.porcupine_server.specs.WrongRuns.{EmptyStoreIsRefused, empty_store}
use Rattle.porcupine_server.proofs.NextLine.{next_line}
use Rattle.porcupine_server.proofs.PlanHead.{one_line, one_each, whole_draft, drafts}
use Rattle.porcupine_server.proofs.SmallTape.{plan_is}

-- lines whose octets are the same
no_lines : (lines : List (List ℕ)) → flat_map ended lines ≡ [] → lines ≡ []
no_lines [] is = refl
no_lines (line ∷ lines) is = absurd (omega (arith, ap length is, length-append (ended line) (flat_map ended lines), length-append line (10 ∷ [])))

same_front : (a b : List ℕ) → a ++ b ≡ a → b ≡ []
same_front a [] is = refl
same_front a (x ∷ b) is = absurd (omega (arith, ap length is, length-append a (x ∷ b)))

one_text : (xs ys : List (List ℕ)) → All HasNoLf xs → All HasNoLf ys → flat_map ended xs ≡ flat_map ended ys → xs ≡ ys
one_text xs ys each_x each_y is = ⊎_elim
    (λ ahead. absurd (omega (arith, ap length ahead.begins.whole, length-append ahead.next (10 ∷ (flat_map ended ahead.others ++ [])))))
    (λ beyond.
    let octets : flat_map ended xs ++ flat_map ended beyond.0 ≡ flat_map ended xs = sym (flat_map-append ended xs beyond.0) ∙ ap (flat_map ended) (sym beyond.1) ∙ sym is in
    sym (beyond.1 ∙ ap (λ (l : List (List ℕ)). xs ++ l) (no_lines beyond.0 (same_front (flat_map ended xs) (flat_map ended beyond.0) octets)) ∙ append-nil xs))
    (next_line xs ys [] [] each_x each_y (append-nil (flat_map ended xs) ∙ is ∙ sym (append-nil (flat_map ended ys))))

-- the lines of a tape in one list
all_octets : (head : List (List ℕ)) (go : List ℕ) (lines : List (List ℕ)) (last : List ℕ)
    → flat_map ended (head ++ go ∷ (lines ++ last ∷ [])) ≡ flat_map ended head ++ (ended go ++ (flat_map ended lines ++ ended last))
all_octets head go lines last =
    flat_map-append ended head (go ∷ (lines ++ last ∷ []))
    ∙ ap (λ (l : List ℕ). flat_map ended head ++ (ended go ++ l)) (flat_map-append ended lines (last ∷ []) ∙ ap (λ (l : List ℕ). flat_map ended lines ++ l) (append-nil (ended last)))

-- a draft that plan lines give is one
one_draft : (lines : List (List ℕ)) (old a b : Draft) → DraftsTo old lines a → DraftsTo old lines b → a ≡ b
one_draft [] old a b x y = x ∙ sym y
one_draft (line ∷ lines) old a b (mid, on, more) (other, on_too, more_too) =
    let both : Some mid ≡ Some other = sym on ∙ on_too in
    let same : mid ≡ other = cc both in
    one_draft lines other a b (subst (λ (d : Draft). DraftsTo d lines a) same more) more_too

-- where the plan part ends
module _ (go : List ℕ) (goes : tape_plan_line go ≡ Some Go) where
  no_go : (line : List ℕ) → (tape_plan_line line ≡ Some Go → ⊥) → go ≡ line → ⊥
  no_go line other is = other (ap tape_plan_line (sym is) ∙ goes)

  at_go : (head rest : List (List ℕ)) (draft : Draft) → DraftsTo empty_draft head draft → head ++ go ∷ rest ≡ small_head ++ codes "go" ∷ (small_lines ++ codes "end" ∷ [])
      → (head ≡ small_head) × (rest ≡ small_lines ++ codes "end" ∷ [])
  at_go [] rest draft drafts is = absurd (no_go (codes "nodes 1") (λ e. cc e) (cc is))
  at_go (a ∷ []) rest draft drafts is = absurd (no_go (codes "copies 1 1") (λ e. cc e) (cc is))
  at_go (a ∷ b ∷ []) rest draft drafts is = absurd (no_go (codes "buckets 1") (λ e. cc e) (cc is))
  at_go (a ∷ b ∷ c ∷ []) rest draft drafts is = absurd (no_go (codes "user alice tanstaaf") (λ e. cc e) (cc is))
  at_go (a ∷ b ∷ c ∷ d ∷ []) rest draft drafts is = absurd (no_go (codes "postmaster alice") (λ e. cc e) (cc is))
  at_go (a ∷ b ∷ c ∷ d ∷ e ∷ []) rest draft drafts is =
      let one : a ≡ codes "nodes 1" = cc is in
      let two : b ≡ codes "copies 1 1" = cc is in
      let three : c ≡ codes "buckets 1" = cc is in
      let four : d ≡ codes "user alice tanstaaf" = cc is in
      let five : e ≡ codes "postmaster alice" = cc is in
      let behind : rest ≡ small_lines ++ codes "end" ∷ [] = cc is in (
        ap (λ (x : List ℕ). x ∷ b ∷ c ∷ d ∷ e ∷ []) one ∙ ap (λ (x : List ℕ). codes "nodes 1" ∷ x ∷ c ∷ d ∷ e ∷ []) two ∙ ap (λ (x : List ℕ). codes "nodes 1" ∷ codes "copies 1 1" ∷ x ∷ d ∷ e ∷ []) three
            ∙ ap (λ (x : List ℕ). codes "nodes 1" ∷ codes "copies 1 1" ∷ codes "buckets 1" ∷ x ∷ e ∷ []) four
            ∙ ap (λ (x : List ℕ). codes "nodes 1" ∷ codes "copies 1 1" ∷ codes "buckets 1" ∷ codes "user alice tanstaaf" ∷ x ∷ []) five,
        behind,
      )
  at_go (a ∷ b ∷ c ∷ d ∷ e ∷ (f ∷ head)) rest draft (d1, o1, (d2, o2, (d3, o3, (d4, o4, (d5, o5, (d6, o6, more)))))) is =
      let six : f ≡ codes "go" = cc is in
      absurd (none-some d6 (subst (λ (x : List ℕ). DraftsOn d5 x d6) six o6))

-- the one record of the node
grammar : All IsRecord empty_records
grammar = All-cons IsRecord (Boot 1) [] (omega arith, omega arith) (All-nil IsRecord)

spelt : IsJournal 1 empty_store (payloads_of empty_records)
spelt = record { gate = 0; others = []; whole = refl; closed = λ is. absurd (omega (arith, is)); short = (omega arith, tt) }

refused_over : (plan : Plan) (lines : List (List ℕ)) → plan ≡ small_plan → lines ≡ small_lines → KeepsOver plan true 0 lines small_entries (Some empty_store ∷ []) → ⊥
refused_over plan lines same_plan same_lines keeps =
    let now : KeepsOver small_plan true 0 small_lines small_entries (Some empty_store ∷ []) =
    subst (λ (l : List (List ℕ)). KeepsOver small_plan true 0 l small_entries (Some empty_store ∷ [])) same_lines (subst (λ (p : Plan). KeepsOver p true 0 lines small_entries (Some empty_store ∷ [])) same_plan keeps) in
    by now.records now.holds now.sessions now.acks now.confirmers
    (are_sessions small_plan small_lines small_entries now.sessions now.clients.shown now.clients.take_mail now.clients.read_mail) now.clients.stored_stands
  where
    by : (records : List (List Record)) → AreDisks 1 (Some empty_store ∷ []) records → (sessions : List Session) (acks : List Ack) (confirmers : List (List ℕ))
        → AreSessions small_plan small_lines small_entries sessions → StoredStands small_plan small_lines small_entries records sessions acks confirmers → ⊥
    by [] holds sessions acks confirmers are stands = holds
    by (one ∷ []) holds sessions acks confirmers are stands =
        let same : one ≡ empty_records = one_reading 1 empty_store one empty_records holds.0 grammar holds.1 spelt in
        wrong_stores.lacks_message sessions acks confirmers are (subst (λ (r : List Record). StoredStands small_plan small_lines small_entries (r ∷ []) sessions acks confirmers) same stands)
    by (one ∷ (other ∷ records)) holds sessions acks confirmers are stands = holds.2

pub empty_store_is_refused : EmptyStoreIsRefused
empty_store_is_refused left keeps =
    let last = keeps.behind.ended_so refl in
    let own : small_tape ≡ flat_map ended (keeps.tape.head ++ keeps.tape.go ∷ (keeps.lines ++ last.line ∷ [])) =
    keeps.tape.whole ∙ ap (λ (l : List ℕ). flat_map ended keeps.tape.head ++ (ended keeps.tape.go ++ (flat_map ended keeps.lines ++ l))) last.whole
    ∙ sym (all_octets keeps.tape.head keeps.tape.go keeps.lines last.line) in
    let small : small_tape ≡ flat_map ended (small_head ++ codes "go" ∷ (small_lines ++ codes "end" ∷ [])) =
    ap (λ (l : List ℕ). flat_map ended small_head ++ (ended (codes "go") ++ (flat_map ended small_lines ++ l))) (append-nil (ended (codes "end")))
    ∙ sym (all_octets small_head (codes "go") small_lines (codes "end")) in
    let each = All-append HasNoLf keeps.tape.head (keeps.tape.go ∷ (keeps.lines ++ last.line ∷ [])) keeps.tape.head_each
    (All-cons HasNoLf keeps.tape.go (keeps.lines ++ last.line ∷ []) keeps.tape.go_one (All-append HasNoLf keeps.lines (last.line ∷ []) keeps.tape.each (All-cons HasNoLf last.line [] last.one (All-nil HasNoLf)))) in
    let small_each = All-append HasNoLf small_head (codes "go" ∷ (small_lines ++ codes "end" ∷ [])) (one_each small_head refl)
    (All-cons HasNoLf (codes "go") (small_lines ++ codes "end" ∷ []) (one_line (codes "go") refl) (All-append HasNoLf small_lines (codes "end" ∷ []) (one_each small_lines refl) (All-cons HasNoLf (codes "end") [] (one_line (codes "end") refl) (All-nil HasNoLf)))) in
    let same = one_text (keeps.tape.head ++ keeps.tape.go ∷ (keeps.lines ++ last.line ∷ [])) (small_head ++ codes "go" ∷ (small_lines ++ codes "end" ∷ [])) each small_each (sym own ∙ small) in
    let cut = at_go keeps.tape.go keeps.tape.goes keeps.tape.head (keeps.lines ++ last.line ∷ []) keeps.tape.draft keeps.tape.drafts same in
    let draft : keeps.tape.draft ≡ whole_draft 1 = one_draft small_head empty_draft keeps.tape.draft (whole_draft 1) (subst (λ (h : List (List ℕ)). DraftsTo empty_draft h keeps.tape.draft) cut.0 keeps.tape.drafts)
    (drafts 1 (codes "nodes 1") (codes "copies 1 1") refl refl) in
    let both : Some keeps.plan ≡ Some small_plan = sym keeps.tape.plan_is ∙ ap planned draft ∙ plan_is in
    let plan : keeps.plan ≡ small_plan = cc both in
    refused_over keeps.plan keeps.lines plan (one_end keeps.lines small_lines last.line (codes "end") cut.1).0 (keeps.promises (inl refl))
