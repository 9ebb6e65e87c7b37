-- What a session follows after a line, after octets of a text, and after what it had to say.
use Rattle.std.proofs.Common.{◌≡◌, ◌<◌, ◌≤◌, ◌+◌, ℕ, Bool, true, false, cond, List, [], ◌∷◌, ◌++◌, length, take, flat_map, append_assoc, Some, None, refl, sym, ap, ap₂, subst, ◌∙◌, arith}
use Rattle.std.proofs.lemmas.List.{append-nil, length-append}
use Rattle.std.proofs.lemmas.Bool.{lt-ltb, le-ltb}
use Rattle.mail_model.specs.Lines.{HasNoCrlf, sent_line}
use Rattle.mail_model.specs.Smtp.{greeting_text}
use Rattle.mail_model.specs.Plan.{Plan}
use Rattle.mail_model.specs.Session as model
use Rattle.mail_model.specs.Session.{is_long_line, is_quit_line, reply_text, after_unit}
use Rattle.mail_model.specs.Session.Unit.{Line, Text}
use Rattle.mail_model.specs.Told.{IsUnit, HasNoUnit, unit_octets, Mail}
use Rattle.mail_model.specs.PopReplies.{one_line}
use Rattle.session_model.specs.Calls as calls
use Rattle.session_model.specs.Talk.{Exchange, Standing, Lead, IsNext, stands, stands_by, lead_of, IsLed, answered, let_in, entered_as}
use Rattle.session_model.specs.Moves.{with_answer}
use Rattle.session_model.specs.Talk as talks
use Rattle.std.proofs.lemmas.List.Elements.{All-cons, All-nil}
use Rattle.std.specs.Prelude.{All}
use Rattle.session_model.specs.Talk.TalkState.{Mailing}
use Rattle.session_model.specs.Talk.Standing.{Hearing, Waiting, EndedByQuit}
use Rattle.session_model.specs.Sessions.{Session}
use Rattle.call_tickets.specs.Moves as moves
use Rattle.call_tickets.specs.Moves.{Due, Moves, HearsNothing}
use Rattle.call_tickets.specs.Moves.Due.{Nothing}
use Rattle.call_tickets.specs.declared.step.Move.{Move}
use Rattle.call_tickets.specs.declared.step.Move.TheVariants.{Said, Idle}
use Rattle.dot_text.specs.Shown.{Shown, Pending, Finds, FindsNone, IsLine, behind_line}
use Rattle.dot_text.specs.Places.{Undots}
use Rattle.dot_text.specs.declared.undotter.Undotter.{Undotter}
use Rattle.dot_text.specs.declared.cutter.Line.{Line as Found}
use Rattle.dot_text.specs.declared.cutter.Line.TheVariants.{Whole, Long}
use Rattle.smtp_session.specs.declared.session.SmtpSession.{SmtpSession}
use Rattle.smtp_session.specs.declared.session.Turn.{Turn}
use Rattle.smtp_session.specs.declared.session.Turn.TheVariants as turn
use Rattle.smtp_session.specs.declared.told.Told.{Told}
use Rattle.smtp_session.specs.declared.told.Heard.{Heard}
use Rattle.smtp_session.specs.declared.told.Heard.TheVariants.{GoesOn, Ends}
use Rattle.smtp_session.specs.declared.reply.Reply.{Reply}
use Rattle.smtp_session.specs.declared.reply.Reply.TheVariants.{Ready, LineTooLong}
use Rattle.smtp_session.specs.Replies.{text_of, front_of, octets_of}
use Rattle.smtp_session.specs.Texts.{IsGivenText}
use Rattle.smtp_session.specs.Talks.{talk_of}
use Rattle.smtp_session.specs.Hears.{HearsLine, RepliedToLine, reply_in}
use Rattle.smtp_session.specs.Follows.{Follows, ReadsFed, Stands, Goes, IsDue, Turns}
use Rattle.smtp_session.proofs.Lines.{all_one, all_lines, one_line_of}
use Rattle.smtp_session.proofs.Entered.{still_nobody, answered_nobody}

abbrev pub session : ℕ → Turn → Told → Shown → Undotter → List ℕ × Bool → SmtpSession
session node now told cutter undotter text = record { node = node; turn = now; told = told; cutter = cutter; undotter = undotter; text = text }

-- a line with its CRLF that passes the limit, and one that keeps it
pub is_long : (line : List ℕ) (limit : ℕ) → limit ≡ 1024 → limit < length (sent_line line) → is_long_line line ≡ true
is_long line limit is long = lt-ltb 1022 (length line) (omega (arith, is, long, length-append line (13 ∷ 10 ∷ [])))

pub is_short : (line : List ℕ) (limit : ℕ) → limit ≡ 1024 → length (sent_line line) ≤ limit → is_long_line line ≡ false
is_short line limit is short = le-ltb 1022 (length line) (omega (arith, is, short, length-append line (13 ∷ 10 ∷ [])))

-- octets of which none were let go are pending
pub all_pending : (limit : ℕ) (rest : List ℕ) → Pending (record { limit = limit; past = false; rest = rest }) rest
all_pending limit rest = record { gone = []; whole = refl; none = λ k within. absurd (omega arith); seam = λ k last. absurd (omega (arith, last)); long = refl }

-- after a unit, where no octet of a text was read
pub begins : (inside : Bool) (limit : ℕ) (rest : List ℕ) (undotter : Undotter) (text : List ℕ × Bool) → limit ≡ 1024 → Undots undotter [] [] → IsGivenText text [] → length text.0 ≤ 16777216
    → ReadsFed inside (record { limit = limit; past = false; rest = rest }) undotter text rest
begins inside limit rest undotter text is undots empty short = record {
  taken = [];
  given = [];
  pending = rest;
  whole = refl;
  pends = all_pending limit rest;
  undots = undots;
  text_is = empty;
  short = short;
  limit = is;
  inside = λ _. refl;
  outside = λ _. (refl, refl);
}

-- outside a text nothing was read
module _ (cutter : Shown) (undotter : Undotter) (text : List ℕ × Bool) (rest : List ℕ) (inside : Bool) (reads : ReadsFed inside cutter undotter text rest) (outside : inside ≡ false) where
  pub whole_outside : rest ≡ reads.pending
  whole_outside = reads.whole ∙ ap (λ (l : List ℕ). l ++ reads.pending) (reads.outside outside).0

  pub undots_outside : Undots undotter [] []
  undots_outside =
      let OfTaken : List ℕ → Type 0 = λ l. Undots undotter l reads.given in
      let OfGiven : List ℕ → Type 0 = λ l. Undots undotter [] l in
      subst OfGiven (reads.outside outside).1 (subst OfTaken (reads.outside outside).0 reads.undots)

  pub text_outside : IsGivenText text []
  text_outside = let InText : List ℕ → Type 0 = λ l. IsGivenText text l in subst InText (reads.outside outside).1 reads.text_is

  -- the line was found, and taken
  pub reads_behind : (line : Found) (later : Bool) → ReadsFed later (behind_line cutter line) undotter text (behind_line cutter line).rest
  reads_behind line later = begins later cutter.limit (behind_line cutter line).rest undotter text reads.limit undots_outside text_outside reads.short

-- the last line of a reply
closing : (front : List (List ℕ)) (line : List ℕ) → talks.closing_line (front ++ line ∷ []) ≡ line
closing [] line = refl
closing (x ∷ []) line = refl
closing (x ∷ y ∷ front) line = closing (y ∷ front) line

-- the octets of its lines
sent_both : (front : List (List ℕ)) (line : List ℕ) → flat_map sent_line (front ++ line ∷ []) ≡ flat_map sent_line front ++ sent_line line
sent_both [] line = append-nil (sent_line line)
sent_both (x ∷ front) line = ap (λ (l : List ℕ). sent_line x ++ l) (sent_both front line) ∙ sym (append_assoc (sent_line x) (flat_map sent_line front) (sent_line line))

-- A unit that asks nothing was heard, in a session that takes mail.
module _ (plan : Plan) (plain : Session) (talk : model.Told) (unit : model.Unit) (more text octets : List ℕ) (follows : Session → Due → Type 0)
    (hearing : plain.standing ≡ Hearing (Mailing talk)) (is : IsUnit talk.in_text unit) (whole : plain.rest ≡ unit_octets unit ++ more) where
  abbrev pub standing_behind : Bool → Standing
  standing_behind quits = cond quits EndedByQuit (Hearing (Mailing (after_unit plan talk unit text)))

  led : (front : List (List ℕ)) (quits : Bool) → IsLed (cond quits (talks.Lead.Ends (front ++ text ∷ [])) (talks.Lead.Says (front ++ text ∷ [])))
      (record { unit = unit; call = None; answer = None; reply = front ++ text ∷ [] })
  led front true = (refl, refl, refl)
  led front false = (refl, refl, refl)

  stood : (front : List (List ℕ)) (quits : Bool) → stands plan (Mailing talk) (record { unit = unit; call = None; answer = None; reply = front ++ text ∷ [] })
      (cond quits (talks.Lead.Ends (front ++ text ∷ [])) (talks.Lead.Says (front ++ text ∷ []))) ≡ standing_behind quits
  stood front true = refl
  stood front false = ap (λ (t : List ℕ). Hearing (Mailing (after_unit plan talk unit t))) (closing front text)

  pub heard_lines : (front : List (List ℕ)) (quits : Bool) → lead_of plan plain.node (Mailing talk) unit ≡ cond quits (talks.Lead.Ends (front ++ text ∷ [])) (talks.Lead.Says (front ++ text ∷ []))
      → All HasNoCrlf (front ++ text ∷ []) → octets ≡ flat_map sent_line front ++ sent_line text
      → ((one : Exchange) → let_in one.call one.answer ≡ None → follows (record plain { whole = plain.whole ++ one ∷ []; standing = standing_behind quits; rest = more }) Nothing)
      → moves.HeardUnit follows plan plain None octets
  heard_lines front quits leads lines says goes_on =
      let one : Exchange = record { unit = unit; call = None; answer = None; reply = front ++ text ∷ [] } in
      let Led : Lead → Type 0 = λ l. IsLed l one in
      let next : IsNext plan plain.node (Mailing talk) plain.rest one more = record { is_unit = is; whole = whole; led = subst Led (sym leads) (led front quits) } in
      let now : stands_by plan plain.node (Mailing talk) one ≡ standing_behind quits = ap (stands plan (Mailing talk) one) leads ∙ stood front quits in
      let At : Standing → Type 0 = λ s. follows (record plain { whole = plain.whole ++ one ∷ []; standing = s; rest = more }) Nothing in
      record {
        one = one;
        after = record plain { whole = plain.whole ++ one ∷ []; standing = stands_by plan plain.node (Mailing talk) one; rest = more };
        did = (Mailing talk, more, hearing, next, refl, refl, refl);
        asks = refl;
        says = says ∙ sym (sent_both front text);
        lines = lines;
        goes_on = subst At (sym now) (goes_on one refl);
      }

  pub heard_says : (quits : Bool) → lead_of plan plain.node (Mailing talk) unit ≡ cond quits (talks.Lead.Ends (one_line text)) (talks.Lead.Says (one_line text))
      → HasNoCrlf text → octets ≡ sent_line text
      → ((one : Exchange) → let_in one.call one.answer ≡ None → follows (record plain { whole = plain.whole ++ one ∷ []; standing = standing_behind quits; rest = more }) Nothing)
      → moves.HeardUnit follows plan plain None octets
  heard_says quits leads line says goes_on = heard_lines [] quits leads (All-cons HasNoCrlf text [] line (All-nil HasNoCrlf)) says goes_on

  -- a unit that asks was heard
  pub heard_asks : (asked : calls.Call) → lead_of plan plain.node (Mailing talk) unit ≡ talks.Lead.Asks asked → octets ≡ []
      → ((one : Exchange) → one.call ≡ Some asked → one.answer ≡ None → follows (record plain { whole = plain.whole ++ one ∷ []; standing = Waiting (Mailing (after_unit plan talk unit [])) asked; rest = more }) Nothing)
      → moves.HeardUnit follows plan plain (Some asked) octets
  heard_asks asked leads says goes_on =
      let one : Exchange = record { unit = unit; call = Some asked; answer = None; reply = [] } in
      let Led : Lead → Type 0 = λ l. IsLed l one in
      let next : IsNext plan plain.node (Mailing talk) plain.rest one more = record { is_unit = is; whole = whole; led = subst Led (sym leads) (refl, refl) } in
      let now : stands_by plan plain.node (Mailing talk) one ≡ Waiting (Mailing (after_unit plan talk unit [])) asked = ap (stands plan (Mailing talk) one) leads in
      let At : Standing → Type 0 = λ s. follows (record plain { whole = plain.whole ++ one ∷ []; standing = s; rest = more }) Nothing in
      record {
        one = one;
        after = record plain { whole = plain.whole ++ one ∷ []; standing = stands_by plan plain.node (Mailing talk) one; rest = more };
        did = (Mailing talk, more, hearing, next, refl, refl, refl);
        asks = refl;
        says = says;
        lines = All-nil HasNoCrlf;
        goes_on = subst At (sym now) (goes_on one refl refl);
      }

-- a session that has nothing to say, and hears
pub at_nothing : (follows : Session → Due → Type 0) (greeting : List ℕ) (plan : Plan) (plain : Session) (due : Due) (move : Move) (octets : List ℕ) → due ≡ Nothing
    → Moves follows greeting plan plain Nothing move octets → Moves follows greeting plan plain due move octets
at_nothing follows greeting plan plain due move octets is did =
    let At : Due → Type 0 = λ d. Moves follows greeting plan plain d move octets in subst At (sym is) did

-- outside a text no unit is whole where no line is
no_unit : (inside : Bool) (rest : List ℕ) → inside ≡ false → ((line more : List ℕ) → rest ≡ sent_line line ++ more → ⊥) → HasNoUnit inside rest
no_unit true rest is none unit more are same = cc
no_unit false rest is none (Line line) more unit same = none line more same
no_unit false rest is none (Text lines) more unit same = unit

-- whose turn it is, and how the session then stands
stands_behind : (quits : Bool) (now : Turn) (node : ℕ) (talk told : model.Told) (plain : Session) (whole : List Exchange) (rest : List ℕ) → now ≡ cond quits turn.Ended turn.Hears → talk ≡ told
    → Stands now node talk (record plain { whole = whole; standing = cond quits EndedByQuit (Hearing (Mailing told)); rest = rest }) Nothing
stands_behind true now node talk told plain whole rest is same =
    let At : Turn → Type 0 = λ t. Stands t node talk (record plain { whole = whole; standing = EndedByQuit; rest = rest }) Nothing in subst At (sym is) (refl, tt)
stands_behind false now node talk told plain whole rest is same =
    let At : Turn → Type 0 = λ t. Stands t node talk (record plain { whole = whole; standing = Hearing (Mailing told); rest = rest }) Nothing in
    subst At (sym is) (refl, ap (λ t. Hearing (Mailing t)) (sym same))

-- The next command line.
module _ (plan : Plan) (node : ℕ) (told : Told) (undotter : Undotter) (text : List ℕ × Bool) (outside : told.in_text ≡ false) (old new : Shown) where
  abbrev before : SmtpSession
  before = session node turn.Hears told old undotter text

  is_line : (line : List ℕ) → HasNoCrlf line → IsUnit (talk_of told).in_text (Line line)
  is_line line none = let Of : Bool → Type 0 = λ b. IsUnit b (Line line) in subst Of (sym outside) none

  -- no line is whole
  pub hears_none : FindsNone old new → Goes plan before Idle [] (session node turn.Hears told new undotter text)
  hears_none finds plain due follows =
      let reads = follows.reads in
      let stays = finds.stays reads.pending reads.pends in
      let rest_is = whole_outside old undotter text plain.rest told.in_text reads outside in
      let Of : List ℕ → Type 0 = λ l. HasNoUnit told.in_text l in
      let At : Standing → Type 0 = λ s. HearsNothing s plain.rest in
      at_nothing _ _ plan plain due Idle [] follows.stands.0 (
        subst At (sym follows.stands.1) (subst Of (sym rest_is) (no_unit told.in_text reads.pending outside stays.no_line)),
        refl,
        record {
          speaks = follows.speaks;
          node = follows.node;
          others = follows.others;
          nobody = follows.nobody;
          reads = record {
            taken = reads.taken;
            given = reads.given;
            pending = reads.pending;
            whole = reads.whole;
            pends = stays.pends;
            undots = reads.undots;
            text_is = reads.text_is;
            short = reads.short;
            limit = finds.limit ∙ reads.limit;
            inside = λ other. let both : true ≡ false = sym other ∙ outside in cc;
            outside = reads.outside;
          };
          stands = (refl, follows.stands.1);
        },
      )

  -- a line was heard: this is its reply
  module _ (found : Found) (finds : Finds old found old) (is : new ≡ behind_line old found) (reply : Reply) (quits : Bool) (later : Told) (now : Turn) where
    pub hears_reply : ((line : List ℕ) → HasNoCrlf line → IsLine old found line → old.limit ≡ 1024 →
        (is_quit_line line ≡ quits) × RepliedToLine plan (talk_of told) line reply (talk_of later))
        → now ≡ cond quits turn.Ended turn.Hears → Goes plan before Said (octets_of reply node) (session node now later new undotter text)
    hears_reply means turns plain due follows =
        let reads = follows.reads in
        let gives = finds.gives reads.pending reads.pends in
        let meaning = means gives.line gives.first gives.is reads.limit in
        let rest_is = whole_outside old undotter text plain.rest told.in_text reads outside ∙ gives.octets in
        let says = (meaning.1 plain.node).0 in
        let told_is = (meaning.1 plain.node).1 in
        let front = (meaning.1 plain.node).2 in
        let octets_are : octets_of reply plain.node ≡ octets_of reply node = ap (octets_of reply) follows.node in
        let more : List ℕ = (behind_line old found).rest in
        let leads : lead_of plan plain.node (Mailing (talk_of told)) (Line gives.line) ≡ cond quits (talks.Lead.Ends (front_of reply plain.node ++ text_of reply plain.node ∷ [])) (talks.Lead.Says (front_of reply plain.node ++ text_of reply plain.node ∷ [])) =
        ap₂ (λ (b : Bool) (l : List (List ℕ)). cond b (talks.Lead.Ends l) (talks.Lead.Says l)) meaning.0
        (ap₂ (λ (f : List (List ℕ)) (t : List ℕ). f ++ t ∷ []) (sym front) (sym says)) in
        at_nothing _ _ plan plain due Said _ follows.stands.0
        (heard_lines plan plain (talk_of told) (Line gives.line) more (text_of reply plain.node) _ (Follows (session node now later new undotter text)) follows.stands.1 (is_line gives.line gives.first) rest_is
        (front_of reply plain.node) quits leads (all_lines reply plain.node) (sym octets_are) (λ one none. record {
          speaks = follows.speaks;
          node = follows.node;
          others = follows.others;
          nobody = still_nobody plain.whole one none follows.nobody;
          reads = subst OfCutter (sym is) (reads_behind old undotter text plain.rest told.in_text reads outside found later.in_text);
          stands = stands_behind quits now node (talk_of later) (after_unit plan (talk_of told) (Line gives.line) (text_of reply plain.node)) plain (plain.whole ++ one ∷ []) more turns
              (told_is ∙ ap (after_unit plan (talk_of told) (Line gives.line)) (sym says));
        }))
      where
        OfCutter : Shown → Type 0
        OfCutter c = ReadsFed later.in_text c undotter text (behind_line old found).rest

  -- one that is too long
  pub hears_long : (length : ℕ) → Finds old (Long length) old → new ≡ behind_line old (Long length)
      → Goes plan before Said (sent_line (text_of LineTooLong node)) (session node turn.Hears told new undotter text)
  hears_long length finds is =
      hears_reply (Long length) finds is LineTooLong false told turn.Hears (λ line none kind limit.
      let long : is_long_line line ≡ true = is_long line old.limit limit kind in
      (rw long refl, λ n. rw long (refl, refl, refl))) refl

  -- and one that keeps the limit
  pub hears_short : (length : ℕ) → Finds old (Whole length) old → new ≡ behind_line old (Whole length) → (heard : Heard) (later : Told) (now : Turn)
      → (old.limit ≡ 1024 → is_long_line (take length old.rest) ≡ false → HearsLine plan (talk_of told) (take length old.rest) heard (talk_of later)) → Turns heard now
      → Goes plan before Said (octets_of (reply_in heard) node) (session node now later new undotter text)
  hears_short length finds is (GoesOn reply) later now hears turns =
      hears_reply (Whole length) finds is reply false later now (λ line none kind limit.
      let At : List ℕ → Type 0 = λ l. HearsLine plan (talk_of told) l (GoesOn reply) (talk_of later) in
      let Short : List ℕ → Type 0 = λ l. is_long_line l ≡ false in
      subst At (sym kind.0) (hears limit (subst Short kind.0 (is_short line old.limit limit kind.1)))) turns
  hears_short length finds is (Ends reply) later now hears turns =
      hears_reply (Whole length) finds is reply true later now (λ line none kind limit.
      let At : List ℕ → Type 0 = λ l. HearsLine plan (talk_of told) l (Ends reply) (talk_of later) in
      let Short : List ℕ → Type 0 = λ l. is_long_line l ≡ false in
      subst At (sym kind.0) (hears limit (subst Short kind.0 (is_short line old.limit limit kind.1)))) turns

-- What is to be said before it hears on.
answered_mail : (talk : model.Told) (mail : Mail) (answer : calls.Answer) → answered (Mailing talk) (calls.Call.Deliver mail) answer ≡ Hearing (Mailing talk)
answered_mail talk mail answer = refl

pub said_due : (plan : Plan) (node : ℕ) (told : Told) (cutter : Shown) (undotter : Undotter) (text : List ℕ × Bool) (now : Turn) (reply : Reply) → IsDue now reply
    → Goes plan (session node now told cutter undotter text) Said (sent_line (text_of reply node)) (session node turn.Hears told cutter undotter text)
said_due plan node told cutter undotter text turn.Greets reply is plain due follows =
    let At : Due → Type 0 = λ d. Moves (Follows (session node turn.Hears told cutter undotter text)) (greeting_text node) plan plain d Said (sent_line (text_of reply node)) in
    subst At (sym follows.stands.0) (record {
      says = ap (λ r. sent_line (text_of r node)) is;
      line = one_line_of Ready node;
      goes_on = record { speaks = follows.speaks; node = follows.node; others = follows.others; nobody = follows.nobody; reads = follows.reads; stands = (refl, follows.stands.1) };
    })
said_due plan node told cutter undotter text turn.Hears reply is plain due follows = absurd is
said_due plan node told cutter undotter text turn.Waits reply is plain due follows = absurd is
said_due plan node told cutter undotter text (turn.Replies other) reply is plain due follows =
    let answer = follows.stands.0 in
    let waits = follows.stands.1 in
    let At : Due → Type 0 = λ d. Moves (Follows (session node turn.Hears told cutter undotter text)) (greeting_text node) plan plain d Said (sent_line (text_of reply node)) in
    subst At (sym follows.stands.2) (record {
      call = calls.Call.Deliver waits.mail;
      reply = one_line (text_of other node);
      after = record plain { whole = waits.before ++ with_answer waits.one answer (one_line (text_of other node)) ∷ []; standing = answered (Mailing (talk_of told)) (calls.Call.Deliver waits.mail) answer };
      did = (waits.before, waits.one, Mailing (talk_of told), waits.whole, waits.standing, follows.stands.3, refl, refl);
      says = ap (λ r. sent_line (text_of r node)) is ∙ sym (append-nil (sent_line (text_of other node)));
      lines = all_one other node;
      goes_on = record {
        speaks = follows.speaks;
        node = follows.node;
        others = follows.others;
        nobody = answered_nobody waits.before waits.one waits.mail answer (one_line (text_of other node)) waits.asks (sym (ap entered_as waits.whole) ∙ follows.nobody);
        reads = follows.reads;
        stands = (refl, answered_mail (talk_of told) waits.mail answer);
      };
    })
said_due plan node told cutter undotter text turn.Ended reply is plain due follows = absurd is
