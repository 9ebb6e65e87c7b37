-- What a client sent and got has one reading.
use Rattle.std.proofs.Common.{◌≡◌, ◌⊎◌, inl, inr, ⊎_elim, ℕ, Bool, true, false, List, [], ◌∷◌, ◌++◌, Option, Some, None, refl, sym, ap, ap₂, ◌∙◌, subst, append_assoc, append-nil}
use Rattle.std.specs.Prelude.{⊤}
use Rattle.std.proofs.lemmas.Option.{none-some}
use Rattle.std.proofs.lemmas.Bool.{cond_both}
use Rattle.mail_model.specs.Plan.{Plan}
use Rattle.mail_model.specs.Tape.{Protocol}
use Rattle.mail_model.specs.Tape.Protocol.{Smtp, Pop}
use Rattle.mail_model.specs.Session.{Unit, Told, reply_text, reply_lines, lines_before, after_unit, is_quit_line, is_large}
use Rattle.mail_model.specs.Session.Unit.{Line, Text}
use Rattle.mail_model.specs.PopReplies.{one_line}
use Rattle.mail_model.specs.Maildrop.{LineOutcome, line_outcome}
use Rattle.mail_model.specs.Maildrop.Stage.{Authorization, Transaction}
use Rattle.mail_model.specs.Maildrop.LineOutcome.{Answered, Closed, AsksLogin, AsksMessage, AsksDeletion}
use Rattle.mail_model.specs.Told.{IsUnit, unit_octets, asks_text, mail_of}
use Rattle.mail_model.proofs.Replies.{line_fits}
use Rattle.mail_model.proofs.Units.{one_unit}
use Rattle.session_model.specs.Calls.{Call, Answer}
use Rattle.session_model.specs.Calls.Call.{Deliver, Login, Fetch, Strike}
use Rattle.session_model.specs.Calls.Answer.{Stored, Listed, Failed}
use Rattle.session_model.specs.Talk.{TalkState, Exchange, Standing, Lead, IsNext, IsLed, Awaits, TalkGoes, opening_state, in_text, line_lead, lead_of, heard, standing_asked, answered, stands, stands_by, closing_line, farewell, down_line, replies}
use Rattle.session_model.specs.Talk.TalkState.{Mailing, Entering, Reading}
use Rattle.session_model.specs.Talk.Lead.{Says, Ends, Asks}
use Rattle.session_model.specs.Talk.Standing.{Hearing, Waiting, EndedByQuit, EndedDown, EndedClosed}
use Rattle.session_model.specs.Sessions.{IsCut}
use Rattle.session_model.specs.Readings.{OneReadingOfSession, view, views}
use Rattle.session_model.proofs.Mailing.{closes_with}
use Rattle.session_model.proofs.Replying.{IsWhole, IsReplied, Speaks, some_reply, one_whole, next_replied}

-- how a session of a protocol stands, and whether a text comes next
abbrev pub SpeaksAt : Protocol → Standing → Type 0
SpeaksAt protocol (Hearing state) = Speaks protocol state
SpeaksAt protocol (Waiting told call) = ⊤
SpeaksAt protocol EndedByQuit = ⊤
SpeaksAt protocol EndedDown = ⊤
SpeaksAt protocol EndedClosed = ⊤

abbrev pub ModeIs : Bool → Standing → Type 0
ModeIs mode (Hearing state) = in_text state ≡ mode
ModeIs mode (Waiting told call) = ⊤
ModeIs mode EndedByQuit = ⊤
ModeIs mode EndedDown = ⊤
ModeIs mode EndedClosed = ⊤

-- the reply tells it
abbrev pub mode_by : Protocol → List (List ℕ) → Bool
mode_by Smtp reply = asks_text (closing_line reply)
mode_by Pop reply = false

-- after an exchange
pub record IsBehind (protocol : Protocol) (one : Exchange) (standing : Standing) : Type 0 where
  pub speaks : SpeaksAt protocol standing
  pub mode : ModeIs (mode_by protocol one.reply) standing

-- a session that takes mail
mailing_behind : (plan : Plan) (node : ℕ) (talk : Told) (one : Exchange) → IsUnit talk.in_text one.unit → IsLed (lead_of plan node (Mailing talk) one.unit) one
    → IsBehind Smtp one (stands_by plan node (Mailing talk) one)
mailing_behind plan node talk one is_unit led = by_unit one.unit refl
  where
    not_text : (line : List ℕ) (mode : Bool) → IsUnit mode (Line line) → mode ≡ false
    not_text line false u = refl
    not_text line true u = absurd u

    Is : Lead → Type 0
    Is lead = IsLed lead one → IsBehind Smtp one (stands plan (Mailing talk) one lead)

    by_answer : (lines : List (List ℕ)) → one.unit ≡ Text lines → (answer : Option Answer) → one.answer ≡ answer → Awaits one.unit (Deliver (mail_of talk lines)) answer one.reply
        → IsBehind Smtp one (standing_asked (heard plan (Mailing talk) one.unit []) (Deliver (mail_of talk lines)) answer)
    by_answer lines is None there says = record { speaks = tt; mode = tt }
    by_answer lines is (Some (Stored id)) there says = record {
      speaks = tt;
      mode = ap (λ (u : Unit). (after_unit plan talk u []).in_text) is ∙ sym (ap (λ (r : List (List ℕ)). asks_text (closing_line r)) says);
    }
    by_answer lines is (Some Failed) there says = record {
      speaks = tt;
      mode = ap (λ (u : Unit). (after_unit plan talk u []).in_text) is ∙ sym (ap (λ (r : List (List ℕ)). asks_text (closing_line r)) says);
    }
    by_answer lines is (Some answer) there says = absurd says

    by_unit : (unit : Unit) → one.unit ≡ unit → IsBehind Smtp one (stands_by plan node (Mailing talk) one)
    by_unit (Line line) is =
        let off : talk.in_text ≡ false = not_text line talk.in_text (subst (IsUnit talk.in_text) is is_unit) in
        let fits = line_fits plan talk off node line in
        let closes : one.reply ≡ reply_lines plan node talk line → closing_line one.reply ≡ reply_text plan node talk (Line line) =
        λ says. ap closing_line says ∙ closes_with (lines_before node line) (reply_text plan node talk (Line line)) in
        subst (λ (u : Unit). IsBehind Smtp one (stands plan (Mailing talk) one (lead_of plan node (Mailing talk) u))) (sym is)
        (cond_both (is_quit_line line) (Ends (reply_lines plan node talk line)) (Says (reply_lines plan node talk line)) Is
        (λ quits h. record { speaks = tt; mode = tt })
        (λ goes h. record {
          speaks = tt;
          mode = ap₂ (λ (u : Unit) (r : List ℕ). (after_unit plan talk u r).in_text) is (closes h.2) ∙ sym fits.mode ∙ sym (ap asks_text (closes h.2));
        })
        (subst (λ (u : Unit). IsLed (lead_of plan node (Mailing talk) u) one) is led))
    by_unit (Text lines) is =
        subst (λ (u : Unit). IsBehind Smtp one (stands plan (Mailing talk) one (lead_of plan node (Mailing talk) u))) (sym is)
        (cond_both (is_large lines) (Says (one_line (reply_text plan node talk (Text lines)))) (Asks (Deliver (mail_of talk lines))) Is
        (λ large h. record {
          speaks = tt;
          mode = ap (λ (u : Unit). (after_unit plan talk u (closing_line one.reply)).in_text) is ∙ text_off lines ∙ sym (ap (λ (r : List (List ℕ)). asks_text (closing_line r)) h.2);
        })
        (λ small h. by_answer lines is one.answer refl h.1)
        (subst (λ (u : Unit). IsLed (lead_of plan node (Mailing talk) u) one) is led))
      where
        text_off : (lines : List (List ℕ)) → false ≡ asks_text (reply_text plan node talk (Text lines))
        text_off lines = cond_both (is_large lines) _ _ (λ (t : List ℕ). false ≡ asks_text t) (λ _. refl) (λ _. refl)

-- a session that reads mail
reader_answered : (told : TalkState) (call : Call) (answer : Answer) → Speaks Pop told → in_text told ≡ false → SpeaksAt Pop (answered told call answer) × ModeIs false (answered told call answer)
reader_answered told (Login user given) (Listed items) speaks off = (tt, refl)
reader_answered told (Login user given) answer speaks off = (speaks, off)
reader_answered told (Deliver mail) answer speaks off = (speaks, off)
reader_answered told (Fetch user id) answer speaks off = (speaks, off)
reader_answered told (Strike user ids) answer speaks off = (tt, tt)

reader_asked : (told : TalkState) (call : Call) (answer : Option Answer) → Speaks Pop told → in_text told ≡ false → SpeaksAt Pop (standing_asked told call answer) × ModeIs false (standing_asked told call answer)
reader_asked told call None speaks off = (tt, tt)
reader_asked told call (Some answer) speaks off = reader_answered told call answer speaks off

reader_outcome : (plan : Plan) (state told : TalkState) (one : Exchange) (user : List ℕ) (outcome : LineOutcome) → ((reply : List (List ℕ)) → heard plan state one.unit reply ≡ told) → Speaks Pop told → in_text told ≡ false
    → SpeaksAt Pop (stands plan state one (line_lead user outcome)) × ModeIs false (stands plan state one (line_lead user outcome))
reader_outcome plan state told one user (Answered lines) is speaks off =
    subst (λ (s : TalkState). Speaks Pop s × (in_text s ≡ false)) (sym (is one.reply)) (speaks, off)
reader_outcome plan state told one user (Closed lines) is speaks off = (tt, tt)
reader_outcome plan state told one user (AsksLogin name given) is speaks off =
    subst (λ (s : TalkState). SpeaksAt Pop (standing_asked s (Login name given) one.answer) × ModeIs false (standing_asked s (Login name given) one.answer)) (sym (is []))
    (reader_asked told (Login name given) one.answer speaks off)
reader_outcome plan state told one user (AsksMessage number id) is speaks off =
    subst (λ (s : TalkState). SpeaksAt Pop (standing_asked s (Fetch user id) one.answer) × ModeIs false (standing_asked s (Fetch user id) one.answer)) (sym (is []))
    (reader_asked told (Fetch user id) one.answer speaks off)
reader_outcome plan state told one user (AsksDeletion ids) is speaks off =
    subst (λ (s : TalkState). SpeaksAt Pop (standing_asked s (Strike user ids) one.answer) × ModeIs false (standing_asked s (Strike user ids) one.answer)) (sym (is []))
    (reader_asked told (Strike user ids) one.answer speaks off)

pub next_behind : (plan : Plan) (node : ℕ) (protocol : Protocol) (state : TalkState) (there left : List ℕ) (one : Exchange) → Speaks protocol state → IsNext plan node state there one left
    → IsBehind protocol one (stands_by plan node state one)
next_behind plan node Smtp (Mailing talk) there left one speaks n = mailing_behind plan node talk one n.is_unit n.led
next_behind plan node Smtp (Entering named) there left one speaks n = absurd speaks
next_behind plan node Smtp (Reading user slots) there left one speaks n = absurd speaks
next_behind plan node Pop (Mailing talk) there left one speaks n = absurd speaks
next_behind plan node Pop (Entering named) there left one speaks n = by_unit one.unit refl
  where
    by_unit : (unit : Unit) → one.unit ≡ unit → IsBehind Pop one (stands_by plan node (Entering named) one)
    by_unit (Text lines) is = absurd (subst (IsUnit false) is n.is_unit)
    by_unit (Line line) is =
        let both = reader_outcome plan (Entering named) (heard plan (Entering named) (Line line) []) one [] (line_outcome plan (Authorization named) line)
        (λ reply. ap (λ (u : Unit). heard plan (Entering named) u reply) is) tt refl in
        subst (λ (u : Unit). IsBehind Pop one (stands plan (Entering named) one (lead_of plan node (Entering named) u))) (sym is) (record { speaks = both.0; mode = both.1 })
next_behind plan node Pop (Reading user slots) there left one speaks n = by_unit one.unit refl
  where
    by_unit : (unit : Unit) → one.unit ≡ unit → IsBehind Pop one (stands_by plan node (Reading user slots) one)
    by_unit (Text lines) is = absurd (subst (IsUnit false) is n.is_unit)
    by_unit (Line line) is =
        let both = reader_outcome plan (Reading user slots) (heard plan (Reading user slots) (Line line) []) one user (line_outcome plan (Transaction slots) line)
        (λ reply. ap (λ (u : Unit). heard plan (Reading user slots) u reply) is) tt refl in
        subst (λ (u : Unit). IsBehind Pop one (stands plan (Reading user slots) one (lead_of plan node (Reading user slots) u))) (sym is) (record { speaks = both.0; mode = both.1 })

-- an exchange that waits is the last
pub waits_last : (plan : Plan) (node : ℕ) (state : TalkState) (one : Exchange) (call : Call) (lead : Lead) → IsLed lead one → one.call ≡ Some call → one.answer ≡ None
    → (left : List ℕ) (xs : List Exchange) (last : Standing) (rest : List ℕ) → TalkGoes plan node (stands plan state one lead) left xs last rest → xs ≡ []
waits_last plan node state one call (Says reply) led is none left xs last rest g = absurd (none-some call (sym led.0 ∙ is))
waits_last plan node state one call (Ends reply) led is none left xs last rest g = absurd (none-some call (sym led.0 ∙ is))
waits_last plan node state one call (Asks asks) led is none left [] last rest g = refl
waits_last plan node state one call (Asks asks) led is none left (x ∷ xs) last rest g =
    absurd (subst (λ (a : Option Answer). TalkGoes plan node (standing_asked (heard plan state one.unit []) asks a) left (x ∷ xs) last rest) none g)

-- lists

no_more : {X : Type 0} (a b : List X) → [] ≡ a ++ b → (a ≡ []) × (b ≡ [])
no_more [] b e = (refl, sym e)
no_more (x ∷ a) b e = cc

front_none : {X : Type 0} (a b : List X) → a ++ b ≡ [] → a ≡ []
front_none [] b e = refl
front_none (x ∷ a) b e = cc

-- what a session says last, in whole or in part
abbrev IsLast : Protocol → ℕ → List (List ℕ) → Type 0
IsLast protocol node last = (last ≡ []) ⊎ (last ≡ down_line protocol node ∷ [])

last_is : (protocol : Protocol) (node : ℕ) (standing : Standing) → IsLast protocol node (farewell protocol node standing)
last_is protocol node (Hearing state) = inl refl
last_is protocol node (Waiting told call) = inl refl
last_is protocol node EndedByQuit = inl refl
last_is protocol node EndedDown = inr refl
last_is protocol node EndedClosed = inl refl

-- no whole reply begins what a client got after the last that it got whole
module _ (plan : Plan) (node : ℕ) (protocol : Protocol) where
  no_whole_last : (unit : Unit) (reply rest part missing last : List (List ℕ)) → IsLast protocol node last → last ≡ part ++ missing → part ≡ reply ++ rest → IsWhole protocol node unit reply → ⊥
  no_whole_last unit reply rest part missing last is cut begins whole = ⊎_elim
      (λ none. some_reply protocol node unit (subst (IsWhole protocol node unit) (front_none reply (rest ++ missing) (sym all ∙ none)) whole))
      (λ down. by_reply protocol reply whole (sym down ∙ all)) is
    where
      all : last ≡ reply ++ (rest ++ missing)
      all = cut ∙ ap (λ (l : List (List ℕ)). l ++ missing) begins ∙ append_assoc reply rest missing

      one_line_is : (p : Protocol) (r : List (List ℕ)) → down_line p node ∷ [] ≡ r ++ (rest ++ missing) → (r ≡ []) ⊎ (r ≡ down_line p node ∷ [])
      one_line_is p [] e = inl refl
      one_line_is p (line ∷ r) e =
          let first : down_line p node ≡ line = cc in
          let later : [] ≡ r ++ (rest ++ missing) = cc in
          inr (ap₂ (λ (x : List ℕ) (xs : List (List ℕ)). x ∷ xs) (sym first) (no_more r (rest ++ missing) later).0)

      by_reply : (p : Protocol) (r : List (List ℕ)) → IsWhole p node unit r → down_line p node ∷ [] ≡ r ++ (rest ++ missing) → ⊥
      by_reply Smtp r w e = ⊎_elim (λ none. some_reply Smtp node unit (subst (IsWhole Smtp node unit) none w)) (λ down. w.1 down) (one_line_is Smtp r e)
      by_reply Pop r w e = ⊎_elim (λ none. some_reply Pop node unit (subst (IsWhole Pop node unit) none w)) (λ down. w.1 down) (one_line_is Pop r e)

  -- so where one list of exchanges has ended, the other has no reply more
  ended : (first : Standing) (octets : List ℕ) (others : List Exchange) (last : Standing) (rest : List ℕ) (part missing last_lines : List (List ℕ)) → SpeaksAt protocol first
      → TalkGoes plan node first octets others last rest → IsLast protocol node last_lines → IsCut others last_lines part missing
      → (mode : Bool) → ModeIs mode first → (unit : Unit) (left : List ℕ) → IsUnit mode unit → octets ≡ unit_octets unit ++ left
      → (reply behind : List (List ℕ)) → part ≡ reply ++ behind → IsWhole protocol node unit reply → ⊥
  ended first octets [] last rest part missing last_lines speaks g is cut mode mode_is unit left is_unit whole_unit reply behind begins whole =
      no_whole_last unit reply behind part missing last_lines is cut begins whole
  ended (Hearing state) octets (one ∷ []) last rest part missing last_lines speaks (gone, next, g) is cut mode mode_is unit left is_unit whole_unit reply behind begins whole =
      let units = one_unit mode one.unit unit gone left (subst (λ (b : Bool). IsUnit b one.unit) mode_is next.is_unit) is_unit (sym next.whole ∙ whole_unit) in
      ⊎_elim
      (λ waits. cut.1 (no_more part missing (sym waits.0 ∙ cut.0)).1)
      (λ own.
      let same = one_whole protocol node unit one.reply reply [] (behind ++ missing) (subst (λ (u : Unit). IsWhole protocol node u one.reply) units.0 own) whole
      (append-nil one.reply ∙ cut.0 ∙ ap (λ (l : List (List ℕ)). l ++ missing) begins ∙ append_assoc reply behind missing) in
      cut.1 (no_more behind missing same.1).1)
      (next_replied plan node protocol state octets gone one speaks next)
  ended first octets (one ∷ []) last rest part missing last_lines speaks g is cut mode mode_is unit left is_unit whole_unit reply behind begins whole = absurd g
  ended first octets (one ∷ other ∷ more) last rest part missing last_lines speaks g is cut mode mode_is unit left is_unit whole_unit reply behind begins whole = absurd cut

  -- one that waits shows nothing, and is the last
  waiting_views : (state : TalkState) (one : Exchange) (left : List ℕ) (xs others : List Exchange) (last : Standing) (rest : List ℕ) (call : Call) → IsLed (lead_of plan node state one.unit) one
      → one.reply ≡ [] → one.answer ≡ None → one.call ≡ Some call → TalkGoes plan node (stands_by plan node state one) left (xs ++ others) last rest
      → (xs ≡ []) × (others ≡ []) × (views (one ∷ xs) ≡ [])
  waiting_views state one left xs others last rest call led says none is g =
      let all = waits_last plan node state one call (lead_of plan node state one.unit) led is none left (xs ++ others) last rest g in
      let parts = no_more xs others (sym all) in
      (parts.0, parts.1, ap₂ (λ (r : List (List ℕ)) (l : List Exchange). view one.unit r ++ views l) says parts.0)

  module _ (others_x others_y : List Exchange) (last_x last_y : Standing) (rest_x rest_y : List ℕ) (part_x missing_x lines_x part_y missing_y lines_y : List (List ℕ))
      (is_x : IsLast protocol node lines_x) (is_y : IsLast protocol node lines_y) (cut_x : IsCut others_x lines_x part_x missing_x) (cut_y : IsCut others_y lines_y part_y missing_y) where
    same_views : (mode : Bool) (first_x first_y : Standing) (octets : List ℕ) (xs ys : List Exchange) → SpeaksAt protocol first_x → SpeaksAt protocol first_y → ModeIs mode first_x → ModeIs mode first_y
        → TalkGoes plan node first_x octets (xs ++ others_x) last_x rest_x → TalkGoes plan node first_y octets (ys ++ others_y) last_y rest_y → replies xs ++ part_x ≡ replies ys ++ part_y → views xs ≡ views ys
    same_views mode first_x first_y octets [] [] speaks_x speaks_y mode_x mode_y g h e = refl
    same_views mode first_x (Hearing state) octets [] (y ∷ ys) speaks_x speaks_y mode_x mode_y g (left, next, h) e = ⊎_elim
        (λ waits. sym (waiting_views state y left ys others_y last_y rest_y waits.2.0 next.led waits.0 waits.1 waits.2.1 h).2)
        (λ whole. absurd (ended first_x octets others_x last_x rest_x part_x missing_x lines_x speaks_x g is_x cut_x mode mode_x y.unit left
        (subst (λ (b : Bool). IsUnit b y.unit) mode_y next.is_unit) next.whole y.reply (replies ys ++ part_y) (e ∙ append_assoc y.reply (replies ys) part_y) whole))
        (next_replied plan node protocol state octets left y speaks_y next)
    same_views mode first_x first_y octets [] (y ∷ ys) speaks_x speaks_y mode_x mode_y g h e = absurd h
    same_views mode (Hearing state) first_y octets (x ∷ xs) [] speaks_x speaks_y mode_x mode_y (left, next, g) h e = ⊎_elim
        (λ waits. (waiting_views state x left xs others_x last_x rest_x waits.2.0 next.led waits.0 waits.1 waits.2.1 g).2)
        (λ whole. absurd (ended first_y octets others_y last_y rest_y part_y missing_y lines_y speaks_y h is_y cut_y mode mode_y x.unit left
        (subst (λ (b : Bool). IsUnit b x.unit) mode_x next.is_unit) next.whole x.reply (replies xs ++ part_x) (sym e ∙ append_assoc x.reply (replies xs) part_x) whole))
        (next_replied plan node protocol state octets left x speaks_x next)
    same_views mode first_x first_y octets (x ∷ xs) [] speaks_x speaks_y mode_x mode_y g h e = absurd g
    same_views mode (Hearing state) (Hearing state_y) octets (x ∷ xs) (y ∷ ys) speaks_x speaks_y mode_x mode_y (left, next, g) (left_y, next_y, h) e =
        by_replies (next_replied plan node protocol state octets left x speaks_x next) (next_replied plan node protocol state_y octets left_y y speaks_y next_y)
        (λ m g_now h_now e_now a b c d. same_views m (stands_by plan node state x) (stands_by plan node state_y y) left xs ys a b c d g_now h_now e_now)
      where
        units : (x.unit ≡ y.unit) × (left ≡ left_y)
        units = one_unit mode x.unit y.unit left left_y (subst (λ (b : Bool). IsUnit b x.unit) mode_x next.is_unit) (subst (λ (b : Bool). IsUnit b y.unit) mode_y next_y.is_unit)
            (sym next.whole ∙ next_y.whole)

        e_flat : x.reply ++ (replies xs ++ part_x) ≡ y.reply ++ (replies ys ++ part_y)
        e_flat = sym (append_assoc x.reply (replies xs) part_x) ∙ e ∙ append_assoc y.reply (replies ys) part_y

        by_replies : IsReplied protocol node x → IsReplied protocol node y
            → ((m : Bool) → TalkGoes plan node (stands_by plan node state x) left (xs ++ others_x) last_x rest_x → TalkGoes plan node (stands_by plan node state_y y) left (ys ++ others_y) last_y rest_y
            → replies xs ++ part_x ≡ replies ys ++ part_y → SpeaksAt protocol (stands_by plan node state x) → SpeaksAt protocol (stands_by plan node state_y y)
            → ModeIs m (stands_by plan node state x) → ModeIs m (stands_by plan node state_y y) → views xs ≡ views ys)
            → views (x ∷ xs) ≡ views (y ∷ ys)
        by_replies (inl waits) (inl waits_y) later =
            (waiting_views state x left xs others_x last_x rest_x waits.2.0 next.led waits.0 waits.1 waits.2.1 g).2
            ∙ sym (waiting_views state_y y left_y ys others_y last_y rest_y waits_y.2.0 next_y.led waits_y.0 waits_y.1 waits_y.2.1 h).2
        by_replies (inl waits) (inr whole_y) later =
            let stops = waiting_views state x left xs others_x last_x rest_x waits.2.0 next.led waits.0 waits.1 waits.2.1 g in
            absurd (no_whole_last y.unit y.reply (replies ys ++ part_y) part_x missing_x lines_x is_x (subst (λ (o : List Exchange). IsCut o lines_x part_x missing_x) stops.1 cut_x)
            (ap₂ (λ (r : List (List ℕ)) (l : List Exchange). r ++ (replies l ++ part_x)) (sym waits.0) (sym stops.0) ∙ e_flat) whole_y)
        by_replies (inr whole) (inl waits_y) later =
            let stops = waiting_views state_y y left_y ys others_y last_y rest_y waits_y.2.0 next_y.led waits_y.0 waits_y.1 waits_y.2.1 h in
            absurd (no_whole_last x.unit x.reply (replies xs ++ part_x) part_y missing_y lines_y is_y (subst (λ (o : List Exchange). IsCut o lines_y part_y missing_y) stops.1 cut_y)
            (ap₂ (λ (r : List (List ℕ)) (l : List Exchange). r ++ (replies l ++ part_y)) (sym waits_y.0) (sym stops.0) ∙ sym e_flat) whole)
        by_replies (inr whole) (inr whole_y) later =
            let same = one_whole protocol node x.unit x.reply y.reply (replies xs ++ part_x) (replies ys ++ part_y) whole
            (subst (λ (u : Unit). IsWhole protocol node u y.reply) (sym units.0) whole_y) e_flat in
            let behind_x = next_behind plan node protocol state octets left x speaks_x next in
            let behind_y = next_behind plan node protocol state_y octets left_y y speaks_y next_y in
            ap₂ ◌++◌ (ap₂ view units.0 same.0)
            (later (mode_by protocol x.reply) g (subst (λ (l : List ℕ). TalkGoes plan node (stands_by plan node state_y y) l (ys ++ others_y) last_y rest_y) (sym units.1) h) same.1
            behind_x.speaks behind_y.speaks behind_x.mode (subst (λ (r : List (List ℕ)). ModeIs (mode_by protocol r) (stands_by plan node state_y y)) (sym same.0) behind_y.mode))
    same_views mode (Hearing state) first_y octets (x ∷ xs) (y ∷ ys) speaks_x speaks_y mode_x mode_y g h e = absurd h
    same_views mode first_x first_y octets (x ∷ xs) (y ∷ ys) speaks_x speaks_y mode_x mode_y g h e = absurd g

-- where a session begins
opening_speaks : (protocol : Protocol) → Speaks protocol (opening_state protocol)
opening_speaks Smtp = tt
opening_speaks Pop = tt

opening_mode : (protocol : Protocol) → in_text (opening_state protocol) ≡ false
opening_mode Smtp = refl
opening_mode Pop = refl

pub one_reading : OneReadingOfSession
one_reading plan lines entries k one two protocols nodes a b =
    same_views plan one.node one.protocol one.others two.others a.talk.before b.talk.before one.rest two.rest a.gets.part a.gets.missing (farewell one.protocol one.node one.standing)
    b.gets.part b.gets.missing (farewell one.protocol one.node two.standing) (last_is one.protocol one.node one.standing) (last_is one.protocol one.node two.standing) a.gets.cut
    (subst (λ (p : Protocol). IsCut two.others (farewell p one.node two.standing) b.gets.part b.gets.missing) (sym protocols)
    (subst (λ (n : ℕ). IsCut two.others (farewell two.protocol n two.standing) b.gets.part b.gets.missing) (sym nodes) b.gets.cut))
    false (Hearing (opening_state one.protocol)) (Hearing (opening_state one.protocol)) one.octets one.whole two.whole
    (opening_speaks one.protocol) (opening_speaks one.protocol) (opening_mode one.protocol) (opening_mode one.protocol) a.talk.goes
    (subst (λ (l : List ℕ). TalkGoes plan one.node (Hearing (opening_state one.protocol)) l (two.whole ++ two.others) b.talk.before two.rest) (b.fed ∙ sym a.fed)
    (subst (λ (p : Protocol). TalkGoes plan one.node (Hearing (opening_state p)) two.octets (two.whole ++ two.others) b.talk.before two.rest) (sym protocols)
    (subst (λ (n : ℕ). TalkGoes plan n (Hearing (opening_state two.protocol)) two.octets (two.whole ++ two.others) b.talk.before two.rest) (sym nodes) b.talk.goes)))
    (sym a.gets.are ∙ b.gets.are)
