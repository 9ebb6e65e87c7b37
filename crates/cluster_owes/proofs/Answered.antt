-- Whatever a ticket that was begun is answered, what is known stays known.
use Rattle.std.proofs.Common.{◌≡◌, ◌⊎◌, inl, inr, ⊎_elim, ℕ, Bool, List, [], ◌∷◌, ◌++◌, map, flat_map, Some, refl, sym, ap, ◌∙◌, subst, append-nil}
use Rattle.std.proofs.lemmas.List.{map-append}
use Rattle.std.proofs.lemmas.List.Concat.{flat_map-append}
use Rattle.mail_model.specs.Identity.{Id}
use Rattle.mail_model.specs.Mail.{IsStored}
use Rattle.mail_model.specs.Plan.{Plan}
use Rattle.mail_model.specs.Record.{Record}
use Rattle.mail_model.specs.Book.{struck_in, dropped_in, acked_in}
use Rattle.mail_model.specs.Stored.{Ack, IsOnClock, opened, kind_at}
use Rattle.mail_model.specs.Tape.Protocol.{Smtp}
use Rattle.mail_model.specs.Told.{Mail}
use Rattle.object_model.specs.Lists.{Among}
use Rattle.object_model.specs.Letters.{Number}
use Rattle.object_model.specs.Mishaps.{Mishaps}
use Rattle.object_model.proofs.Lists.{among_either}
use Rattle.session_model.specs.Calls.{Call, Answer}
use Rattle.session_model.specs.Calls.Call.{Deliver, Login, Fetch, Strike}
use Rattle.session_model.specs.Calls.Answer.{Stored as StoredAnswer, Dropped as DroppedAnswer, Failed as FailedAnswer}
use Rattle.session_model.specs.Logs.{Asked, Answered}
use Rattle.session_model.specs.Books.{acks_by, dropped_by, untimed, AreAcksOf}
use Rattle.session_model.specs.SoundMails.{IsSoundMail}
use Rattle.cluster_model.specs.Reads.{Found}
use Rattle.cluster_model.specs.Reads.Found.{Listed, WrongSecret, InUse, NoProfile, PartOf, NotThere}
use Rattle.cluster_model.specs.Cluster.{Want, Ticket, Node, with_slot}
use Rattle.cluster_model.specs.Cluster.AskedOfNodes.{Copies}
use Rattle.cluster_model.specs.Rules.{end_ticket}
use Rattle.cluster_model.specs.Progress.{NodeAnswer, answer_once_confirmed, ask_of, ask_of_wants, confirmed_entries, wants_entries, entries_with}
use Rattle.cluster_model.specs.Progress.NodeAnswer.{Stored, Dropped, Read, Failed}
use Rattle.cluster_model.specs.Progress.Ask.{Done}
use Rattle.cluster_model.specs.Deeds.{slot_up}
use Rattle.cluster_model.specs.World.{World}
use Rattle.cluster_model.specs.Steps.Step.{AskFor}
use Rattle.cluster_model.specs.Steps.Said.{Asked as AskedFor}
use Rattle.cluster_model.specs.Steps.StepOutcome.{Says}
use Rattle.cluster_model.specs.Makes.{IsUp, AnswersAsk, AnswersRead, MakesStep}
use Rattle.cluster_model.specs.Makes.AnswersAsk.{Waits, Ends}
use Rattle.cluster_owes.specs.Seen.{found_told, answer_told}
use Rattle.cluster_owes.specs.Outcomes.{BegunCall}
use Rattle.cluster_owes.proofs.Masks.{IsMask}
use Rattle.cluster_owes.proofs.Standing.{StandsAs}
use Rattle.cluster_owes.proofs.Books.{AreMasked, AreDeletions, masked_for, acked_for, struck_for, dropped_for, entry_for, done_entries, book_acknowledged, book_dropped}
use Rattle.cluster_owes.proofs.Known.{Filed, filing_of, AnswerStands, TicketFits, AckStands, Known, HoldsNoMore}
use Rattle.cluster_owes.proofs.QuietSteps.{StepKept, step_kept, no_brings, known_answered, failed_drops, failed_acks, failed_stands}
use Rattle.cluster_owes.proofs.Answering.{ticket_stands, answered_so, failed_so, apart_same, others_push, quiet_answer, told_answer, old_acks, stands_not}

module _ (plan : Plan) (tells : Bool) (lines : List (List ℕ)) (asked : List Asked) (answered : List Answered) (begun : List BegunCall) (old new : World)
    (known : Known plan tells lines asked answered begun old) (k : ℕ) (number : Number) (node : Node) (disk : List Record) (stood : Ticket) (up : IsUp old number.node node disk)
    (kept : StepKept plan old new) (holds : HoldsNoMore old new) (own : NodeAnswer)
    (is : new ≡ record old { slots = with_slot old.slots number.node (slot_up (end_ticket number.seq node disk).node disk); book = old.book ++ entries_with own stood })
    (stands : StandsAs old.slots number stood) (e : ask_of plan.confirm stood ≡ Done own) where
  -- what is known then
  abbrev Told : Call → Answer → Type 0
  Told call answer = Known plan tells lines asked (answered ++ record { session = k; call = call; answer = answer } ∷ []) begun new

  quiet : (call : Call) (answer : Answer) → entries_with own stood ≡ [] → dropped_by call answer ≡ [] → acks_by (record { session = k; call = call; answer = answer }) ≡ [] → AnswerStands tells new.slots call answer → Told call answer
  quiet call answer none no_drop no_ack so = quiet_answer plan tells lines asked answered begun old new known k call number node disk stood up kept holds (entries_with own stood) is stands answer none no_drop no_ack so

  failed : (call : Call) → ((m : Mishaps) × (own ≡ Failed m)) → Told call (answer_told own)
  failed call (m, same) = subst (λ a. Told call (answer_told a)) (sym same)
      (quiet call FailedAnswer (ap (λ a. entries_with a stood) same) (failed_drops call) (failed_acks k call) (failed_stands tells new call))

  -- a message is stored
  module _ (mail : Mail) (f : Filed) (want : Want) (inside : Among f known.files) (ticket : f.ticket ≡ number) (mail_is : f.mail ≡ mail) (wants : stood.wants ≡ want ∷ [])
      (asks : want.asked ≡ Copies (filing_of f)) (mask : IsMask want.confirmed) (kind : kind_at (opened lines) k ≡ Some (Smtp, f.id.node)) (clock : IsOnClock lines f.seconds) (sound : IsSoundMail (Deliver mail))
      (stored : own ≡ Stored f.id want.confirmed) where
    abbrev ack : Ack
    ack = record { session = k; mail = mail; id = f.id; seconds = f.seconds }

    abbrev last : Answered
    last = record { session = k; call = Deliver mail; answer = StoredAnswer f.id }

    entries_are : entries_with own stood ≡ map (entry_for f.id f.seconds f.octets want.confirmed) mail.mailboxes
    entries_are = ap (λ a. entries_with a stood) stored ∙ ap wants_entries wants ∙ ap (λ a. confirmed_entries want a ++ []) asks
        ∙ append-nil (confirmed_entries want (Copies (filing_of f))) ∙ ap (λ (m : Mail). map (entry_for f.id f.seconds f.octets want.confirmed) m.mailboxes) mail_is

    told_now : AreAcksOf (answered ++ last ∷ []) (known.told ++ ack ∷ [])
    told_now = map-append untimed known.told (ack ∷ []) ∙ ap (λ (l : List Ack). l ++ untimed ack ∷ []) known.told_are ∙ sym (flat_map-append acks_by answered (last ∷ []))

    new_ack : AckStands lines new known.files ack
    new_ack = record {
      file = f;
      inside = inside;
      same_id = refl;
      same_mail = mail_is;
      seconds = refl;
      clock = clock;
      kind = kind;
      ended = λ t s. stands_not plan tells lines asked answered begun old new known k (Deliver mail) number node disk stood up kept holds (entries_with own stood) is stands t (subst (λ n. StandsAs new.slots n t) ticket s);
    }

    all_acks : (one : Ack) → Among one (known.told ++ ack ∷ []) → AckStands lines new known.files one
    all_acks one m = ⊎_elim
        (λ was. old_acks plan tells lines asked answered begun old new known k (Deliver mail) number node disk stood up kept holds (entries_with own stood) is stands one was)
        (λ last_one. ⊎_elim (λ same. subst (AckStands lines new known.files) same new_ack) (λ none. absurd none) last_one)
        (among_either one known.told (ack ∷ []) m)

    apart : (one : Ack) → Among one known.told → f.id ≡ one.id → ⊥
    apart one m same =
        let was = known.acks one m in
        let one_file : was.file ≡ f = apart_same known.files known.apart was.file f was.inside inside (was.same_id ∙ sym same) in
        was.ended stood (subst (λ n. StandsAs old.slots n stood) (sym (ap (λ (x : Filed). x.ticket) one_file ∙ ticket)) stands)

    pub stored_told : Told (Deliver mail) (StoredAnswer f.id)
    stored_told = told_answer plan tells lines asked answered begun old new known k (Deliver mail) number node disk stood up kept holds (entries_with own stood) is stands (StoredAnswer f.id)
        (known.told ++ ack ∷ []) told_now
        (book_acknowledged lines asked answered known.told old.book (entries_with own stood) k known.book_is mail f.id f.seconds f.octets want.confirmed clock sound.3
        (subst (λ (m : Mail). IsStored m f.id f.seconds f.octets) mail_is (known.filed f inside).stored)
        (ap struck_in entries_are ∙ struck_for f.id f.seconds f.octets want.confirmed mail.mailboxes)
        (ap dropped_in entries_are ∙ dropped_for f.id f.seconds f.octets want.confirmed mail.mailboxes)
        (ap acked_in entries_are ∙ acked_for f.id f.seconds f.octets want.confirmed mail.mailboxes))
        (subst AreMasked (sym entries_are) (masked_for f.id f.seconds f.octets want.confirmed mask mail.mailboxes))
        all_acks (others_push known.told ack known.other_ids apart)
        (tt, tt)

  delivered : (mail : Mail) (one : BegunCall) → one.ticket ≡ number → one.session ≡ k → IsSoundMail (Deliver mail) → TicketFits lines known.files one (Deliver mail) stood → Told (Deliver mail) (answer_told own)
  delivered mail one at by sound fits =
      ⊎_elim
      (λ none. failed (Deliver mail) (stood.mishaps, failed_so plan.confirm stood.mishaps stood.wants own none e))
      (λ (f, want, inside, ticket, mail_is, wants, copies, mask, kind, clock). ⊎_elim
      (λ all.
      let stored : own ≡ Stored f.id want.confirmed = all ∙ ap (answer_once_confirmed (want ∷ []) want) copies in
      subst (λ a. Told (Deliver mail) (answer_told a)) (sym stored)
      (stored_told mail f want inside (ticket ∙ at) mail_is wants copies mask (subst (λ s. kind_at (opened lines) s ≡ Some (Smtp, f.id.node)) by kind) clock sound stored))
      (λ bad. failed (Deliver mail) (stood.mishaps, bad))
      (answered_so plan.confirm stood.mishaps stood.wants want [] own wants e))
      fits

  -- copies are deleted
  gone : (user : List ℕ) (ids : List Id) → AreDeletions user ids stood.wants → (confirmers : List ℕ) → own ≡ Dropped confirmers → Told (Strike user ids) DroppedAnswer
  gone user ids are confirmers same =
      let entries_are : entries_with own stood ≡ wants_entries stood.wants = ap (λ a. entries_with a stood) same in
      let done = done_entries user ids stood.wants are in
      told_answer plan tells lines asked answered begun old new known k (Strike user ids) number node disk stood up kept holds (entries_with own stood) is stands DroppedAnswer
      known.told (known.told_are ∙ sym acks_are)
      (book_dropped lines asked answered known.told old.book (entries_with own stood) k known.book_is user ids (ap struck_in entries_are ∙ done.struck) (ap dropped_in entries_are ∙ done.dropped) (ap acked_in entries_are ∙ done.acked))
      (subst AreMasked (sym entries_are) done.masked)
      (λ one m. old_acks plan tells lines asked answered begun old new known k (Strike user ids) number node disk stood up kept holds (entries_with own stood) is stands one m)
      known.other_ids
      (tt, tt)
    where
      acks_are : flat_map acks_by (answered ++ record { session = k; call = Strike user ids; answer = DroppedAnswer } ∷ []) ≡ flat_map acks_by answered
      acks_are = flat_map-append acks_by answered (record { session = k; call = Strike user ids; answer = DroppedAnswer } ∷ []) ∙ append-nil (flat_map acks_by answered)

  deleted : (user : List ℕ) (ids : List Id) (wants : List Want) → stood.wants ≡ wants → AreDeletions user ids wants → ask_of_wants plan.confirm stood.mishaps stood.wants ≡ Done own → Told (Strike user ids) (answer_told own)
  deleted user ids [] same are asks = failed (Strike user ids) (stood.mishaps, failed_so plan.confirm stood.mishaps stood.wants own same asks)
  deleted user [] (want ∷ more) same are asks = absurd are
  deleted user (id ∷ ids) (want ∷ more) same are asks = ⊎_elim
      (λ all.
      let dropped : own ≡ Dropped (map (λ one. one.confirmed) (want ∷ more)) = all ∙ ap (answer_once_confirmed (want ∷ more) want) are.0 in
      subst (λ a. Told (Strike user (id ∷ ids)) (answer_told a)) (sym dropped)
      (gone user (id ∷ ids) (subst (AreDeletions user (id ∷ ids)) (sym same) are) (map (λ one. one.confirmed) (want ∷ more)) dropped))
      (λ bad. failed (Strike user (id ∷ ids)) (stood.mishaps, bad))
      (answered_so plan.confirm stood.mishaps stood.wants want more own same asks)

  struck : (user : List ℕ) (ids : List Id) (one : BegunCall) → TicketFits lines known.files one (Strike user ids) stood → Told (Strike user ids) (answer_told own)
  struck user ids one fits = ⊎_elim
      (λ none. failed (Strike user ids) (stood.mishaps, failed_so plan.confirm stood.mishaps stood.wants own none e))
      (λ are. deleted user ids stood.wants refl are e)
      fits

  -- a call that reads failed at once
  reading : (call : Call) → stood.wants ≡ [] → Told call (answer_told own)
  reading call none = failed call (stood.mishaps, failed_so plan.confirm stood.mishaps stood.wants own none e)

  pub any_answer : (one : BegunCall) → one.ticket ≡ number → one.session ≡ k → IsSoundMail one.call → (call : Call) → one.call ≡ call → TicketFits lines known.files one call stood
      → Told call (answer_told own)
  any_answer one at by sound (Deliver mail) same fits = delivered mail one at by (subst IsSoundMail same sound) fits
  any_answer one at by sound (Login user given) same fits = reading (Login user given) fits
  any_answer one at by sound (Fetch user id) same fits = reading (Fetch user id) fits
  any_answer one at by sound (Strike user ids) same fits = struck user ids one fits

-- what a call found acknowledges nothing, and deletes nothing
no_acks : (k : ℕ) (call : Call) (found : Found) → acks_by (record { session = k; call = call; answer = found_told found }) ≡ []
no_acks k (Deliver mail) (Listed login manager by items) = refl
no_acks k (Deliver mail) (WrongSecret stamp) = refl
no_acks k (Deliver mail) (InUse by) = refl
no_acks k (Deliver mail) (NoProfile manager) = refl
no_acks k (Deliver mail) (PartOf octets whole) = refl
no_acks k (Deliver mail) NotThere = refl
no_acks k (Login user given) found = refl
no_acks k (Fetch user id) found = refl
no_acks k (Strike user ids) found = refl

no_drops : (call : Call) (found : Found) → dropped_by call (found_told found) ≡ []
no_drops (Deliver mail) found = refl
no_drops (Login user given) found = refl
no_drops (Fetch user id) found = refl
no_drops (Strike user ids) (Listed login manager by items) = refl
no_drops (Strike user ids) (WrongSecret stamp) = refl
no_drops (Strike user ids) (InUse by) = refl
no_drops (Strike user ids) (NoProfile manager) = refl
no_drops (Strike user ids) (PartOf octets whole) = refl
no_drops (Strike user ids) NotThere = refl

-- What a call that reads found has to stand: messages do not see its ticket.
abbrev pub FoundStands : Bool → World → Call → NodeAnswer → Type 0
FoundStands tells w call own = (found : Found) → own ≡ Read found → AnswerStands tells w.slots call (found_told found)

module _ (plan : Plan) (tells : Bool) (lines : List (List ℕ)) (asked : List Asked) (answered : List Answered) (begun : List BegunCall) (old new : World)
    (known : Known plan tells lines asked answered begun old) (k : ℕ) (call : Call) (number : Number) where
  -- such a ticket is answered
  read_answers : (own : NodeAnswer) → FoundStands tells new call own → AnswersRead old number (AskedFor (Done own)) new
      → Known plan tells lines asked (answered ++ record { session = k; call = call; answer = answer_told own } ∷ []) begun new
  read_answers (Stored id confirmers) stands read = absurd read.said_is
  read_answers (Dropped confirmers) stands read = absurd read.said_is
  read_answers (Read found) stands read = known_answered plan tells lines asked answered begun new k call (found_told found) (no_drops call found) (no_acks k call found) (stands found refl)
      (subst (λ (w : World). Known plan tells lines asked answered begun w) (sym read.new_world) known)
  read_answers (Failed mishaps) stands read = known_answered plan tells lines asked answered begun new k call FailedAnswer (failed_drops call) (failed_acks k call) (failed_stands tells new call)
      (subst (λ (w : World). Known plan tells lines asked answered begun w) (sym read.new_world) known)

  pub known_answers : (own : NodeAnswer) → FoundStands tells new call own → Among (record { ticket = number; session = k; call = call }) begun
      → MakesStep plan tells old (AskFor number) (Says (AskedFor (Done own))) new
      → Known plan tells lines asked (answered ++ record { session = k; call = call; answer = answer_told own } ∷ []) begun new
  known_answers own shown among made = by made.1
    where
      one : BegunCall
      one = record { ticket = number; session = k; call = call }

      kept : StepKept plan old new
      kept = step_kept plan tells old new (AskFor number) (Says (AskedFor (Done own))) made known.in_plan known.sound

      holds : HoldsNoMore old new
      holds = no_brings plan tells old new (AskFor number) (Says (AskedFor (Done own))) (λ id octets m. m) made known.in_plan known.sound

      by : AnswersAsk plan old number (AskedFor (Done own)) new ⊎ AnswersRead old number (AskedFor (Done own)) new
          → Known plan tells lines asked (answered ++ record { session = k; call = call; answer = answer_told own } ∷ []) begun new
      by (inl (Waits node disk stood up found got wanted e is new_world)) = absurd (cc is)
      by (inl (Ends node disk stood up found answer e is new_world)) =
          let stands = ticket_stands number old.slots node disk stood up found in
          let same : answer ≡ own = cc is in
          any_answer plan tells lines asked answered begun old new known k number node disk stood up kept holds own
          (new_world ∙ ap (λ a. record old { slots = with_slot old.slots number.node (slot_up (end_ticket number.seq node disk).node disk); book = old.book ++ entries_with a stood }) same)
          stands (e ∙ ap Done same) one refl refl (known.calls one among).sound call refl (known.tickets one stood among stands)
      by (inr read) = read_answers own shown read
