-- The slots of a session that reads mail are as its exchanges left them.
use Rattle.std.proofs.Common.{◌≡◌, ◌≢◌, ⊎_elim, ℕ, false, List, [], ◌∷◌, ◌++◌, length, map, Option, Some, None, get_or, refl, sym, ap, ap₂, ◌∙◌, subst, arith}
use Rattle.std.specs.Prelude.{codes}
use Rattle.std.specs.Fmt.{decimal}
use Rattle.std.proofs.lemmas.List.{map-append}
use Rattle.mail_model.specs.Identity.{Id}
use Rattle.mail_model.specs.Plan.{Plan}
use Rattle.mail_model.specs.Session.{Unit}
use Rattle.mail_model.specs.Session.Unit.{Line, Text}
use Rattle.mail_model.specs.Pop.{pop_command_of}
use Rattle.mail_model.specs.PopReplies.{Item, ListingSlot, one_line, down_text, listed_slots, shown_text, dotted_line, last_line}
use Rattle.mail_model.specs.Maildrop.{Given, LineOutcome, line_outcome, named_in, deleted_in, wrong_text, entered_text, gone_text, later_text}
use Rattle.mail_model.specs.Maildrop.Stage.{Authorization, Transaction}
use Rattle.mail_model.specs.Maildrop.LineOutcome.{Answered, Closed, AsksLogin, AsksMessage, AsksDeletion}
use Rattle.mail_model.specs.Shown.{is_good}
use Rattle.mail_model.specs.Told.{IsUnit}
use Rattle.mail_model.proofs.ShownCuts.{bad_answers}
use Rattle.mail_model.proofs.ShownReplies.{exchange, fetched_number}
use Rattle.mail_model.proofs.DeletedNumbers.{says_first}
use Rattle.mail_model.proofs.DeletedReplies.{Quiet, Tells}
use Rattle.mail_model.proofs.DeletedOutcomes.{LeadsBefore, LeadsBehind, AsksFor, before, behind, bad, unmarked_tells, fetch_keeps, fetch_tells, gone_tells}
use Rattle.mail_model.proofs.DeletedSessions.{Unknown, Known, unknown_more, logs_in, known_more}
use Rattle.session_model.specs.Calls.{Answer, in_use_text, asked_lines}
use Rattle.session_model.specs.Calls.Call.{Login, Fetch, Strike}
use Rattle.session_model.specs.Calls.Answer.{Listed, Wrong, InUse, NoProfile, Part, GoneAlready, Failed}
use Rattle.session_model.specs.Talk.{TalkState, Exchange, IsNext, IsLed, Awaits, line_lead, lead_of, stands, stands_by, standing_asked}
use Rattle.session_model.specs.Talk.TalkState.{Mailing, Entering, Reading}
use Rattle.session_model.specs.Talk.Standing.{Hearing}
use Rattle.session_model.specs.Reading.{ListsOnce, all_seen, seen_exchange, line_of}

-- what the exchanges so far are to a session that reads mail and hears
abbrev pub IsAsSeen : TalkState → List Exchange → Type 0
IsAsSeen (Mailing talk) been = ⊥
IsAsSeen (Entering named) been = Unknown named (all_seen been)
IsAsSeen (Reading user slots) been = Known slots user (all_seen been)

-- all of them, with one more
pub seen_more : (been : List Exchange) (one : Exchange) → all_seen (been ++ one ∷ []) ≡ all_seen been ++ seen_exchange one ∷ []
seen_more been one = map-append seen_exchange been (one ∷ [])

-- a line of error that does not say that the node is down shows and marks nothing
error_quiet : (line text : List ℕ) → is_good text ≡ false → get_or text 0 0 ≡ 45 → ((node : ℕ) → text ≢ down_text node) → Quiet line (one_line text)
error_quiet line text bad_text first up = record {
  answers = record {
    whole = bad_answers line text bad_text;
    goes_on = record {
      not_down = λ node e. up node (ap (λ (l : List (List ℕ)). get_or l 0 []) e);
      not_bye = λ e. let good : get_or text 0 0 ≡ 43 = ap (λ (l : List (List ℕ)). get_or (get_or l 0 []) 0 0) e in omega (arith, first, good);
    };
  };
  unmarked = λ n marks. let good : get_or text 0 0 ≡ 43 = ap (λ (l : List (List ℕ)). get_or (get_or l 0 []) 0 0) marks.1 in omega (arith, first, good);
  unshown = λ n id shows. ⊎_elim
      (λ all. ⊎_elim (λ e. says_first text n id (omega (arith, first)) e) (λ none. none) all.1)
      (λ one. let good : get_or text 0 0 ≡ 43 = ap (λ (l : List (List ℕ)). get_or (get_or l 0 []) 0 0) one.1 in omega (arith, first, good)) shows;
}

-- so does that a node could not answer
pub later_quiet : (line : List ℕ) → Quiet line (one_line later_text)
later_quiet line = error_quiet line later_text refl refl (λ node e. let letter : 116 ≡ 110 = ap (λ (l : List ℕ). get_or l 16 0) e in omega (arith, letter))

-- and that another login has the maildrop
pub in_use_quiet : (line : List ℕ) → Quiet line (one_line in_use_text)
in_use_quiet line = error_quiet line in_use_text refl refl (λ node e. let letter : 73 ≡ 83 = ap (λ (l : List ℕ). get_or l 6 0) e in omega (arith, letter))

-- a session before its login
module _ (plan : Plan) (node : ℕ) (named : Option (List ℕ)) (been : List Exchange) (unknown : Unknown named (all_seen been))
    (line : List ℕ) (one : Exchange) (lists : ListsOnce one) (is : one.unit ≡ Line line) where
  -- a line that shows and marks nothing
  quiet_entering : (reply : List (List ℕ)) → one.reply ≡ reply → Quiet line reply → IsAsSeen (Entering (named_in line)) (been ++ one ∷ [])
  quiet_entering reply says quiet =
      subst (Unknown (named_in line)) (ap₂ (λ (l : List ℕ) (r : List (List ℕ)). all_seen been ++ exchange l r ∷ []) (ap line_of (sym is)) (sym says) ∙ sym (seen_more been one))
      (unknown_more named (all_seen been) line reply unknown quiet)

  -- a login that is let in
  entered : (name : List ℕ) (given : Given) (items : List Item) → AsksFor named line name → one.call ≡ Some (Login name given) → one.answer ≡ Some (Listed items)
      → one.reply ≡ one_line entered_text → IsAsSeen (Reading name (listed_slots items)) (been ++ one ∷ [])
  entered name given items asks call there says =
      subst (Known (listed_slots items) name)
      (ap₂ (λ (l : List ℕ) (r : List (List ℕ)). all_seen been ++ exchange l r ∷ []) (ap line_of (sym is)) (sym says) ∙ sym (seen_more been one))
      (logs_in named name line (all_seen been) items unknown asks (lists name given items call there))

  -- the answer to a login
  login_seen : (name : List ℕ) (given : Given) → AsksFor named line name → one.call ≡ Some (Login name given) → (answer : Option Answer) → one.answer ≡ answer
      → Awaits one.unit (Login name given) answer one.reply → (state : TalkState) → standing_asked (Entering (named_in line)) (Login name given) answer ≡ Hearing state
      → IsAsSeen state (been ++ one ∷ [])
  login_seen name given asks call None there says state e = cc
  login_seen name given asks call (Some (Listed items)) there says state e =
      let same : Reading name (listed_slots items) ≡ state = cc in
      subst (λ (s : TalkState). IsAsSeen s (been ++ one ∷ [])) same (entered name given items asks call there says)
  login_seen name given asks call (Some Wrong) there says state e =
      let same : Entering (named_in line) ≡ state = cc in
      subst (λ (s : TalkState). IsAsSeen s (been ++ one ∷ [])) same (quiet_entering (one_line wrong_text) says (bad line wrong_text (refl, refl, refl)))
  login_seen name given asks call (Some InUse) there says state e =
      let same : Entering (named_in line) ≡ state = cc in
      subst (λ (s : TalkState). IsAsSeen s (been ++ one ∷ [])) same (quiet_entering (one_line in_use_text) says (in_use_quiet line))
  login_seen name given asks call (Some NoProfile) there says state e =
      let same : Entering (named_in line) ≡ state = cc in
      subst (λ (s : TalkState). IsAsSeen s (been ++ one ∷ [])) same (quiet_entering (one_line later_text) says (later_quiet line))
  login_seen name given asks call (Some Failed) there says state e =
      let same : Entering (named_in line) ≡ state = cc in
      subst (λ (s : TalkState). IsAsSeen s (been ++ one ∷ [])) same (quiet_entering (one_line later_text) says (later_quiet line))
  login_seen name given asks call (Some answer) there says state e = absurd says

  -- whatever the line leads to
  outcome_seen : (outcome : LineOutcome) → LeadsBefore named line outcome → IsLed (line_lead [] outcome) one → (state : TalkState)
      → stands plan (Entering named) (record one { unit = Line line }) (line_lead [] outcome) ≡ Hearing state → IsAsSeen state (been ++ one ∷ [])
  outcome_seen (Answered lines) leads led state e =
      let same : Entering (named_in line) ≡ state = cc in
      subst (λ (s : TalkState). IsAsSeen s (been ++ one ∷ [])) same (quiet_entering lines led.2 leads)
  outcome_seen (Closed lines) leads led state e = cc
  outcome_seen (AsksLogin name given) leads led state e = login_seen name given leads led.0 one.answer refl led.1 state e
  outcome_seen (AsksMessage number id) leads led state e = absurd leads
  outcome_seen (AsksDeletion ids) leads led state e = absurd leads

-- a session after its login
module _ (plan : Plan) (node : ℕ) (user : List ℕ) (slots : List ListingSlot) (been : List Exchange) (known : Known slots user (all_seen been))
    (line : List ℕ) (one : Exchange) (is : one.unit ≡ Line line) where
  -- a reply that shows and marks what the line does
  tells_reading : (reply : List (List ℕ)) → one.reply ≡ reply → Tells slots line reply → IsAsSeen (Reading user (deleted_in slots line)) (been ++ one ∷ [])
  tells_reading reply says tells =
      subst (Known (deleted_in slots line) user)
      (ap₂ (λ (l : List ℕ) (r : List (List ℕ)). all_seen been ++ exchange l r ∷ []) (ap line_of (sym is)) (sym says) ∙ sym (seen_more been one))
      (known_more slots user (all_seen been) line reply known tells)

  -- a part of a message
  part_seen : (number : ℕ) → fetched_number (pop_command_of line) ≡ Some number → (asked : Option ℕ) (size : ℕ) (lines : List (List ℕ))
      → one.reply ≡ shown_text asked size ∷ map dotted_line lines ++ last_line → IsAsSeen (Reading user (deleted_in slots line)) (been ++ one ∷ [])
  part_seen number is None size lines says = tells_reading _ says (fetch_tells slots line number (codes " " ++ decimal size ++ codes " octets") lines is)
  part_seen number is (Some m) size lines says = tells_reading _ says (fetch_tells slots line number (codes " top") lines is)

  -- the answer to RETR and TOP
  fetch_seen : (number : ℕ) (id : Id) → fetched_number (pop_command_of line) ≡ Some number → (answer : Option Answer) → Awaits one.unit (Fetch user id) answer one.reply → (state : TalkState)
      → standing_asked (Reading user (deleted_in slots line)) (Fetch user id) answer ≡ Hearing state → IsAsSeen state (been ++ one ∷ [])
  fetch_seen number id retr None says state e = cc
  fetch_seen number id retr (Some (Part octets)) says state e =
      let same : Reading user (deleted_in slots line) ≡ state = cc in
      subst (λ (s : TalkState). IsAsSeen s (been ++ one ∷ [])) same
      (part_seen number retr (asked_lines one.unit) (length octets) says.lines says.says)
  fetch_seen number id retr (Some GoneAlready) says state e =
      let same : Reading user (deleted_in slots line) ≡ state = cc in
      subst (λ (s : TalkState). IsAsSeen s (been ++ one ∷ [])) same (tells_reading (one_line gone_text) says (gone_tells slots line number retr))
  fetch_seen number id retr (Some Failed) says state e =
      let same : Reading user (deleted_in slots line) ≡ state = cc in
      subst (λ (s : TalkState). IsAsSeen s (been ++ one ∷ [])) same
      (tells_reading (one_line later_text) says (unmarked_tells slots line (one_line later_text) (fetch_keeps (pop_command_of line) number retr) (later_quiet line)))
  fetch_seen number id retr (Some answer) says state e = absurd says

  -- after a deletion it hears nothing
  strike_over : (ids : List Id) (answer : Option Answer) (state : TalkState) → standing_asked (Reading user (deleted_in slots line)) (Strike user ids) answer ≡ Hearing state → ⊥
  strike_over ids None state e = cc
  strike_over ids (Some answer) state e = cc

  -- whatever the line leads to
  outcome_seen_behind : (outcome : LineOutcome) → LeadsBehind slots line outcome → IsLed (line_lead user outcome) one → (state : TalkState)
      → stands plan (Reading user slots) (record one { unit = Line line }) (line_lead user outcome) ≡ Hearing state → IsAsSeen state (been ++ one ∷ [])
  outcome_seen_behind (Answered lines) leads led state e =
      let same : Reading user (deleted_in slots line) ≡ state = cc in
      subst (λ (s : TalkState). IsAsSeen s (been ++ one ∷ [])) same (tells_reading lines led.2 leads)
  outcome_seen_behind (Closed lines) leads led state e = cc
  outcome_seen_behind (AsksLogin name given) leads led state e = absurd leads
  outcome_seen_behind (AsksMessage number id) leads led state e = fetch_seen number id leads one.answer led.1 state e
  outcome_seen_behind (AsksDeletion ids) leads led state e = absurd (strike_over ids one.answer state e)

-- each exchange
pub step_seen : (plan : Plan) (node : ℕ) (been : List Exchange) (state : TalkState) (there left : List ℕ) (one : Exchange) (next : TalkState) → IsAsSeen state been → ListsOnce one
    → IsNext plan node state there one left → stands_by plan node state one ≡ Hearing next → IsAsSeen next (been ++ one ∷ [])
step_seen plan node been (Mailing talk) there left one next as_seen lists n e = absurd as_seen
step_seen plan node been (Entering named) there left one next as_seen lists n e = by_unit one.unit refl
  where
    by_unit : (unit : Unit) → one.unit ≡ unit → IsAsSeen next (been ++ one ∷ [])
    by_unit (Text lines) is = absurd (subst (IsUnit false) is n.is_unit)
    by_unit (Line line) is =
        outcome_seen plan node named been as_seen line one lists is (line_outcome plan (Authorization named) line) (before plan named line)
        (subst (λ (u : Unit). IsLed (lead_of plan node (Entering named) u) one) is n.led) next
        (ap (λ (u : Unit). stands plan (Entering named) (record one { unit = u }) (lead_of plan node (Entering named) u)) (sym is) ∙ e)
step_seen plan node been (Reading user slots) there left one next as_seen lists n e = by_unit one.unit refl
  where
    by_unit : (unit : Unit) → one.unit ≡ unit → IsAsSeen next (been ++ one ∷ [])
    by_unit (Text lines) is = absurd (subst (IsUnit false) is n.is_unit)
    by_unit (Line line) is =
        outcome_seen_behind plan node user slots been as_seen line one is (line_outcome plan (Transaction slots) line) (behind slots line plan)
        (subst (λ (u : Unit). IsLed (lead_of plan node (Reading user slots) u) one) is n.led) next
        (ap (λ (u : Unit). stands plan (Reading user slots) (record one { unit = u }) (lead_of plan node (Reading user slots) u)) (sym is) ∙ e)
