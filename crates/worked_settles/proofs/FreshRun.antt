-- The freshly ended tape is a run, with any listing.
use Rattle.std.proofs.Common.{◌≡◌, ℕ, List, [], ◌∷◌, ◌++◌, flat_map, Some, refl, codes}
use Rattle.mail_model.specs.Lines.{sent_line}
use Rattle.mail_model.specs.PopReplies.{one_line}
use Rattle.mail_model.specs.Site.{nth_id}
use Rattle.mail_model.specs.Smtp.{greeting_text, helo_text, closing_text, stored_text}
use Rattle.mail_model.specs.Tape.{tape_order}
use Rattle.mail_model.specs.Tape.Protocol.{Smtp}
use Rattle.mail_model.specs.Tape.Order.{Moves}
use Rattle.mail_model.specs.Tape.ClusterOrder.{Post}
use Rattle.mail_model.specs.Transcript.{Entry, closed_event}
use Rattle.mail_model.specs.Transcript.Entry.{Said}
use Rattle.session_model.specs.Calls.{unstored_text}
use Rattle.session_model.specs.Calls.Call.{Deliver}
use Rattle.session_model.specs.Calls.Answer.{Stored, Failed}
use Rattle.session_model.specs.Events.{event_entries}
use Rattle.session_model.specs.Events.ClusterEvent.{WasHeard}
use Rattle.session_model.specs.Talk.{Exchange}
use Rattle.session_model.specs.Talk.TalkState.{Mailing}
use Rattle.session_model.specs.Talk.Standing.{Hearing}
use Rattle.session_model.specs.Sessions.{Session}
use Rattle.session_model.specs.Acts.{Act}
use Rattle.session_model.specs.Acts.Act.{Opens, Does, Makes}
use Rattle.session_model.specs.Acts.Deed.{IsGivenUp}
use Rattle.session_model.specs.Run.{IsHandled, AreHandled}
use Rattle.worked_sessions.specs.OneMessage.{greeted, small_mail, waiting, at_once, said_once, at_open, at_helo}
use Rattle.worked_sessions.specs.ThreeNodes.{heard_in_vain}
use Rattle.worked_sessions.proofs.Lines.{whole_line, idle_line}
use Rattle.worked_settles.specs.FreshTape.{worked_plan, message_words, message_lines, message_acts, message_talk, told_lines, told_acts, tells_stored, teller}
use Rattle.worked_settles.proofs.Lines.{answered, moved_in_vain, moved_on, gives_up, hears_on, handled_more}
use Rattle.worked_settles.proofs.Messages.{alone, message_outputs, waits_after, tells, opens, helo}

-- what session 1 was fed, and its exchanges, before the first message, behind it, and behind the second
abbrev pub fed_0 : List ℕ
fed_0 = sent_line (codes "HELO c.example")

abbrev pub had_0 : List Exchange
had_0 = at_once (codes "HELO c.example") (helo_text 1) ∷ []

abbrev fed_1 : List ℕ
fed_1 = fed_0 ++ flat_map sent_line message_words

abbrev had_1 : List Exchange
had_1 = had_0 ++ message_talk Failed unstored_text

abbrev fed_2 : List ℕ
fed_2 = fed_1 ++ flat_map sent_line message_words

abbrev had_2 : List Exchange
had_2 = had_1 ++ message_talk (Stored (nth_id 2)) stored_text

-- it hears
abbrev pub hearing : List ℕ → List Exchange → Session
hearing octets whole = record { protocol = Smtp; node = 1; octets = octets; whole = whole; others = []; standing = Hearing (Mailing greeted); rest = [] }

-- the exchanges of a message before its text
abbrev pub before_text : List Exchange
before_text =
    at_once (codes "MAIL FROM:<bob@b.example>") (codes "250 sender ok") ∷ at_once (codes "RCPT TO:<alice>") (codes "250 recipient ok")
    ∷ at_once (codes "DATA") (codes "354 end with a line that is a single period") ∷ []

gives : (been : List Act) → IsHandled worked_plan been (waits_after fed_0 had_0 ∷ []) (codes "giveup 1") (Does 1 (IsGivenUp (Deliver small_mail) (one_line unstored_text)) ∷ [])
    ((Said 1 unstored_text ∷ []) ∷ []) (hearing fed_1 had_1 ∷ [])
gives been = gives_up worked_plan been 1 (λ s. s ∷ []) alone (waits_after fed_0 had_0) (hearing fed_1 had_1) (codes "giveup 1") (Deliver small_mail) (one_line unstored_text) (Said 1 unstored_text ∷ [])
    (had_0 ++ before_text) waiting (Mailing greeted) refl refl refl refl refl refl refl idle_line refl
    (hears_on worked_plan been 1 (λ s. s ∷ []) alone (hearing fed_1 had_1) (Mailing greeted) refl)

letter : (been : List Act) (line : List ℕ) (n : ℕ) → tape_order line ≡ Some (Moves (Post n))
    → IsHandled worked_plan been (waits_after fed_1 had_1 ∷ []) line (heard_in_vain (Post n) n) (event_entries (WasHeard n) ∷ [] ∷ []) (waits_after fed_1 had_1 ∷ [])
letter been line n spelled = moved_in_vain worked_plan been 1 (λ s. s ∷ []) alone (waits_after fed_1 had_1) line (Post n) (WasHeard n) spelled refl refl refl (Mailing greeted, Deliver small_mail, refl)

last_letter : (been : List Act) → IsHandled worked_plan been (waits_after fed_1 had_1 ∷ []) (codes "post 5") (Makes (Post 5) (WasHeard 5) ∷ tells_stored 2 ∷ [])
    (event_entries (WasHeard 5) ∷ (Said 1 stored_text ∷ []) ∷ []) (hearing fed_2 had_2 ∷ [])
last_letter been = moved_on worked_plan been 1 (λ s. s ∷ []) alone (waits_after fed_1 had_1) (hearing fed_2 had_2) (codes "post 5") (Post 5) (WasHeard 5) (Deliver small_mail) (Stored (nth_id 2)) (one_line stored_text)
    (Said 1 stored_text ∷ []) (had_1 ++ before_text) waiting (Mailing greeted) refl refl refl refl refl refl refl refl refl idle_line refl
    (hears_on worked_plan been 1 (λ s. s ∷ []) alone (hearing fed_2 had_2) (Mailing greeted) refl)

quit : (been : List Act) → IsHandled worked_plan been (hearing fed_2 had_2 ∷ []) (codes "say 1 QUIT") (said_once (codes "QUIT") (closing_text 1)) ([] ∷ (Said 1 (closing_text 1) ∷ closed_event 1 ∷ []) ∷ []) (teller ∷ [])
quit been = answered worked_plan been 1 (λ s. s ∷ []) alone (hearing fed_2 had_2) teller (codes "say 1 QUIT") (codes "QUIT") (at_once (codes "QUIT") (closing_text 1)) (Mailing greeted)
    (Said 1 (closing_text 1) ∷ closed_event 1 ∷ []) refl refl refl refl refl
    (record { is_unit = whole_line (codes "QUIT") refl; whole = refl; led = (refl, refl, refl) }) refl refl tt refl (λ waits. let never = waits.2 in cc)

-- the lines behind both messages
abbrev letter_lines : List (List ℕ)
letter_lines = codes "post 2" ∷ codes "post 3" ∷ codes "post 4" ∷ codes "post 5" ∷ codes "say 1 QUIT" ∷ []

abbrev letter_acts : List (List Act)
letter_acts = heard_in_vain (Post 2) 2 ∷ heard_in_vain (Post 3) 3 ∷ heard_in_vain (Post 4) 4 ∷ (Makes (Post 5) (WasHeard 5) ∷ tells_stored 2 ∷ []) ∷ said_once (codes "QUIT") (closing_text 1) ∷ []

abbrev letter_outputs : List (List (List Entry))
letter_outputs =
    (event_entries (WasHeard 2) ∷ [] ∷ []) ∷ (event_entries (WasHeard 3) ∷ [] ∷ []) ∷ (event_entries (WasHeard 4) ∷ [] ∷ []) ∷ (event_entries (WasHeard 5) ∷ (Said 1 stored_text ∷ []) ∷ [])
    ∷ ([] ∷ (Said 1 (closing_text 1) ∷ closed_event 1 ∷ []) ∷ []) ∷ []

letters : (been : List Act) → AreHandled worked_plan been (waits_after fed_1 had_1 ∷ []) letter_lines letter_acts letter_outputs (teller ∷ [])
letters been = (
  waits_after fed_1 had_1 ∷ [],
  letter _ (codes "post 2") 2 refl,
  (
    waits_after fed_1 had_1 ∷ [],
    letter _ (codes "post 3") 3 refl,
    (waits_after fed_1 had_1 ∷ [], letter _ (codes "post 4") 4 refl, (hearing fed_2 had_2 ∷ [], last_letter _, (teller ∷ [], quit _, refl))),
  ),
)

-- those from the second message on
abbrev second_lines : List (List ℕ)
second_lines = codes "giveup 1" ∷ message_lines ++ letter_lines

abbrev second_acts : List (List Act)
second_acts = (Does 1 (IsGivenUp (Deliver small_mail) (one_line unstored_text)) ∷ []) ∷ message_acts ++ letter_acts

abbrev second_outputs : List (List (List Entry))
second_outputs = ((Said 1 unstored_text ∷ []) ∷ []) ∷ message_outputs ++ letter_outputs

second : (been : List Act) → AreHandled worked_plan been (waits_after fed_0 had_0 ∷ []) second_lines second_acts second_outputs (teller ∷ [])
second been = (
  hearing fed_1 had_1 ∷ [],
  gives been,
  handled_more worked_plan (been ++ Does 1 (IsGivenUp (Deliver small_mail) (one_line unstored_text)) ∷ []) (hearing fed_1 had_1 ∷ []) (waits_after fed_1 had_1 ∷ []) (teller ∷ []) message_lines letter_lines
      message_acts letter_acts message_outputs letter_outputs (tells fed_1 had_1 _) (letters _),
)

-- what is written before the settle
abbrev pub told_outputs : List (List (List Entry))
told_outputs = ((Said 1 (greeting_text 1) ∷ []) ∷ []) ∷ ([] ∷ (Said 1 (helo_text 1) ∷ []) ∷ []) ∷ message_outputs ++ second_outputs

-- both messages are told
pub told_run : AreHandled worked_plan [] [] told_lines told_acts told_outputs (teller ∷ [])
told_run = (
  at_open ∷ [],
  opens,
  (
    at_helo ∷ [],
    helo _,
    handled_more worked_plan (Opens Smtp 1 (greeting_text 1) ∷ said_once (codes "HELO c.example") (helo_text 1)) (at_helo ∷ []) (waits_after fed_0 had_0 ∷ []) (teller ∷ []) message_lines second_lines
        message_acts second_acts message_outputs second_outputs (tells fed_0 had_0 _) (second _),
  ),
)
