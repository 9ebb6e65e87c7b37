-- The exchanges of a session that takes mail, one after another.
use Rattle.std.proofs.Common.{◌≡◌, ◌+◌, ℕ, Bool, true, false, List, [], ◌∷◌, ◌++◌, length, map, Option, Some, None, refl, sym, ap, ap₂, ◌∙◌, subst, arith, if◌then◌else◌, ◌⊎◌, inl, inr, ⊎_elim, length-append, codes}
use Rattle.std.proofs.lemmas.List.{map-append}
use Rattle.std.proofs.lemmas.Bool.{cond_both, cond-true, cond-false}
use Rattle.mail_model.specs.Plan.{Plan}
use Rattle.mail_model.specs.Smtp as smtp
use Rattle.mail_model.specs.Smtp.{Command, Fault, command_of, stored_text, extension_lines}
use Rattle.mail_model.specs.Smtp.Command.{Helo, Rcpt, Data, Rset, Noop, Quit, Vrfy}
use Rattle.std.specs.Prelude.{Result, Ok, Err}
use Rattle.mail_model.specs.Session.{Unit, Told, silent, reply_text, reply_lines, lines_before, command_lines, is_long_line, after_unit, is_quit_line, is_large}
use Rattle.mail_model.specs.Session.Unit.{Line, Text}
use Rattle.mail_model.specs.PopReplies.{one_line}
use Rattle.mail_model.specs.Told.{Mail, Answers, IsUnit, asks_text, told_in, told_from, mail_of}
use Rattle.mail_model.proofs.Replies.{line_fits}
use Rattle.session_model.specs.Calls.{Call, Answer, unstored_text}
use Rattle.session_model.specs.Calls.Call.{Deliver}
use Rattle.session_model.specs.Calls.Answer.{Stored, Failed}
use Rattle.session_model.specs.Talk.{TalkState, Exchange, Standing, Lead, IsNext, IsLed, Awaits, TalkGoes, closing_line, replies, lead_of, stands, stands_by, heard, standing_asked}
use Rattle.session_model.specs.Talk.TalkState.{Mailing}
use Rattle.session_model.specs.Talk.Lead.{Says, Ends, Asks}
use Rattle.session_model.specs.Talk.Standing.{Hearing, Waiting, EndedByQuit}
use Rattle.session_model.specs.Mailing.{StoredMail, filing_of, filings, pairs, stored_lines, StoredAsTold}

-- the message of a filing
abbrev mails : List StoredMail → List Mail
mails filed = map (λ filing. filing.mail) filed

-- What one exchange tells: its message, where it was stored, and the line that says so.
record Tells (talk : Told) (one : Exchange) : Type 0 where
  pub told : told_in talk one.unit (closing_line one.reply) ≡ mails (filing_of one.call one.answer)
  pub line : stored_lines one.reply ≡ length (filing_of one.call one.answer)

-- The exchanges of a session, from where it was told this on.
record AreTold (plan : Plan) (mode : Bool) (talk : Told) (octets : List ℕ) (xs : List Exchange) (rest : List ℕ) : Type 0 where
  pub last_text : Bool
  pub units : Answers mode octets (pairs xs) last_text rest
  pub told : mails (filings xs) ≡ told_from plan talk (pairs xs)
  pub lines : stored_lines (replies xs) ≡ length (filings xs)

-- none
none_told : (plan : Plan) (mode : Bool) (talk : Told) (octets rest : List ℕ) → rest ≡ octets → AreTold plan mode talk octets [] rest
none_told plan mode talk octets rest same = record { last_text = mode; units = (refl, same); told = refl; lines = refl }

-- the last line of a reply
pub closes_with : (front : List (List ℕ)) (line : List ℕ) → closing_line (front ++ line ∷ []) ≡ line
closes_with [] line = refl
closes_with (x ∷ []) line = refl
closes_with (x ∷ y ∷ front) line = closes_with (y ∷ front) line

-- the lines of two lists
pub lines_both : (a b : List (List ℕ)) → stored_lines (a ++ b) ≡ stored_lines a + stored_lines b
lines_both [] b = omega arith
lines_both (line ∷ a) b = let later = lines_both a b in omega (arith, later)

-- none of the lines before the last of a reply to a command is `250 stored`
greeting_unstored : (node : ℕ) (extended : Bool) → stored_lines (if extended then extension_lines node else []) ≡ 0
greeting_unstored node true = refl
greeting_unstored node false = refl

command_unstored : (node : ℕ) (command : Result Command Fault) → stored_lines (command_lines node command) ≡ 0
command_unstored node (Ok (Helo name extended)) = greeting_unstored node extended
command_unstored node (Ok (smtp.Command.Mail sender size)) = refl
command_unstored node (Ok (Rcpt path)) = refl
command_unstored node (Ok Data) = refl
command_unstored node (Ok Rset) = refl
command_unstored node (Ok Noop) = refl
command_unstored node (Ok Quit) = refl
command_unstored node (Ok Vrfy) = refl
command_unstored node (Err fault) = refl

pub front_unstored : (node : ℕ) (line : List ℕ) → stored_lines (lines_before node line) ≡ 0
front_unstored node line = cond_both (is_long_line line) [] (command_lines node (command_of line)) (λ l. stored_lines l ≡ 0) (λ long. refl) (λ short. command_unstored node (command_of line))

-- one more before them
told_more : (plan : Plan) (node : ℕ) (talk : Told) (octets left : List ℕ) (one : Exchange) (xs : List Exchange) (rest : List ℕ)
    → IsNext plan node (Mailing talk) octets one left → Tells talk one
    → AreTold plan (asks_text (closing_line one.reply)) (after_unit plan talk one.unit (closing_line one.reply)) left xs rest
    → AreTold plan talk.in_text talk octets (one ∷ xs) rest
told_more plan node talk octets left one xs rest next tells more = record {
  last_text = more.last_text;
  units = (left, next.is_unit, next.whole, more.units);
  told = map-append (λ (filing : StoredMail). filing.mail) (filing_of one.call one.answer) (filings xs) ∙ ap₂ ◌++◌ (sym tells.told) more.told;
  lines = lines_both one.reply (replies xs)
      ∙ omega (arith, tells.line, more.lines, length-append (filing_of one.call one.answer) (filings xs));
}

-- a session that takes mail, from what it was told on; what comes after one exchange is handed in
module _ (plan : Plan) (node : ℕ) (talk : Told) (octets left : List ℕ) (one : Exchange) (xs : List Exchange) (last : Standing) (rest : List ℕ)
    (next : IsNext plan node (Mailing talk) octets one left)
    (later : (told : Told) → TalkGoes plan node (Hearing (Mailing told)) left xs last rest → AreTold plan told.in_text told left xs rest) where
  -- what is told after it
  abbrev told_next : Told
  told_next = after_unit plan talk one.unit (closing_line one.reply)

  -- the session goes on
  on : Tells talk one → asks_text (closing_line one.reply) ≡ told_next.in_text → (standing : Standing) → standing ≡ Hearing (Mailing told_next)
      → TalkGoes plan node standing left xs last rest → AreTold plan talk.in_text talk octets (one ∷ xs) rest
  on tells mode standing is g = told_more plan node talk octets left one xs rest next tells
      (subst (λ (b : Bool). AreTold plan b told_next left xs rest) (sym mode)
      (later told_next (subst (λ (s : Standing). TalkGoes plan node s left xs last rest) is g)))

  -- or it does not
  over : Tells talk one → xs ≡ [] → rest ≡ left → AreTold plan talk.in_text talk octets (one ∷ xs) rest
  over tells none same = told_more plan node talk octets left one xs rest next tells
      (subst (λ (l : List Exchange). AreTold plan (asks_text (closing_line one.reply)) told_next left l rest) (sym none)
      (none_told plan (asks_text (closing_line one.reply)) told_next left rest same))

  -- after a standing that hears nothing
  nothing : (standing : Standing) (ys : List Exchange) → standing ≡ EndedByQuit ⊎ ((told : TalkState) × (call : Call) × (standing ≡ Waiting told call))
      → TalkGoes plan node standing left ys last rest → (ys ≡ []) × (rest ≡ left)
  nothing standing [] is g = (refl, g.1)
  nothing standing (y ∷ ys) is g = ⊎_elim
      (λ quit. absurd (subst (λ (s : Standing). TalkGoes plan node s left (y ∷ ys) last rest) quit g))
      (λ waits. absurd (subst (λ (s : Standing). TalkGoes plan node s left (y ∷ ys) last rest) waits.2 g)) is

  -- its standing
  abbrev here : Standing
  here = stands_by plan node (Mailing talk) one

  -- a line
  line_told : (line : List ℕ) → one.unit ≡ Line line → (b : Bool) → is_quit_line line ≡ b → TalkGoes plan node here left xs last rest
      → AreTold plan talk.in_text talk octets (one ∷ xs) rest
  line_told line is b quits g = by_test b quits
    where
      not_text : (mode : Bool) → IsUnit mode (Line line) → mode ≡ false
      not_text false u = refl
      not_text true u = absurd u

      off : talk.in_text ≡ false
      off = not_text talk.in_text (subst (IsUnit talk.in_text) is next.is_unit)

      reply : List ℕ
      reply = reply_text plan node talk (Line line)

      whole : List (List ℕ)
      whole = reply_lines plan node talk line

      closes : one.reply ≡ whole → closing_line one.reply ≡ reply
      closes says = ap closing_line says ∙ closes_with (lines_before node line) reply

      lead_is : lead_of plan node (Mailing talk) one.unit ≡ (if is_quit_line line then Ends whole else Says whole)
      lead_is = ap (lead_of plan node (Mailing talk)) is

      tells : one.call ≡ None → one.reply ≡ whole → Tells talk one
      tells none says = record {
        told = ap (λ (u : Unit). told_in talk u (closing_line one.reply)) is ∙ ap (λ (c : Option Call). mails (filing_of c one.answer)) (sym none);
        line = ap stored_lines says ∙ lines_both (lines_before node line) (reply ∷ [])
            ∙ ap₂ (λ (n : ℕ) (b : Bool). n + ((if b then 1 else 0) + 0)) (front_unstored node line) (line_fits plan talk off node line).not_stored
            ∙ ap (λ (c : Option Call). length (filing_of c one.answer)) (sym none);
      }

      mode : one.reply ≡ whole → asks_text (closing_line one.reply) ≡ told_next.in_text
      mode says =
          ap asks_text (closes says) ∙ (line_fits plan talk off node line).mode
          ∙ ap (λ (u : Unit). (after_unit plan talk u reply).in_text) (sym is)
          ∙ ap (λ (r : List ℕ). (after_unit plan talk one.unit r).in_text) (sym (closes says))

      by_test : (b : Bool) → is_quit_line line ≡ b → AreTold plan talk.in_text talk octets (one ∷ xs) rest
      by_test true quits =
          let lead : lead_of plan node (Mailing talk) one.unit ≡ Ends whole = lead_is ∙ cond-true (is_quit_line line) _ _ quits in
          let led = subst (λ (l : Lead). IsLed l one) lead next.led in
          let done = nothing here xs (inl (ap (stands plan (Mailing talk) one) lead)) g in
          over (tells led.0 led.2) done.0 done.1
      by_test false quits =
          let lead : lead_of plan node (Mailing talk) one.unit ≡ Says whole = lead_is ∙ cond-false (is_quit_line line) _ _ quits in
          let led = subst (λ (l : Lead). IsLed l one) lead next.led in
          on (tells led.0 led.2) (mode led.2) here (ap (stands plan (Mailing talk) one) lead) g

  -- a text
  text_told : (lines : List (List ℕ)) → one.unit ≡ Text lines → TalkGoes plan node here left xs last rest → AreTold plan talk.in_text talk octets (one ∷ xs) rest
  text_told lines is g = by_test (is_large lines) refl
    where
      lead_is : lead_of plan node (Mailing talk) one.unit ≡ (if is_large lines then Says (one_line (reply_text plan node talk (Text lines))) else Asks (Deliver (mail_of talk lines)))
      lead_is = ap (lead_of plan node (Mailing talk)) is

      -- what an answer tells
      tells_by : (reply : List (List ℕ)) (call : Option Call) (answer : Option Answer) → one.reply ≡ reply → one.call ≡ call → one.answer ≡ answer
          → told_in talk (Text lines) (closing_line reply) ≡ mails (filing_of call answer) → stored_lines reply ≡ length (filing_of call answer) → Tells talk one
      tells_by reply call answer replies_is call_is answer_is told line = record {
        told = ap₂ (told_in talk) is (ap closing_line replies_is) ∙ told
            ∙ ap₂ (λ (c : Option Call) (a : Option Answer). mails (filing_of c a)) (sym call_is) (sym answer_is);
        line = ap stored_lines replies_is ∙ line ∙ ap₂ (λ (c : Option Call) (a : Option Answer). length (filing_of c a)) (sym call_is) (sym answer_is);
      }

      -- no end of a text asks for a text
      mode : (reply : List (List ℕ)) → one.reply ≡ reply → asks_text (closing_line reply) ≡ false → asks_text (closing_line one.reply) ≡ told_next.in_text
      mode reply says quiet =
          ap (λ (r : List (List ℕ)). asks_text (closing_line r)) says ∙ quiet
          ∙ ap (λ (u : Unit). (after_unit plan talk u (closing_line one.reply)).in_text) (sym is)

      -- the answer to the call
      by_answer : one.call ≡ Some (Deliver (mail_of talk lines)) → lead_of plan node (Mailing talk) one.unit ≡ Asks (Deliver (mail_of talk lines))
          → (answer : Option Answer) → one.answer ≡ answer → Awaits one.unit (Deliver (mail_of talk lines)) answer one.reply → AreTold plan talk.in_text talk octets (one ∷ xs) rest
      by_answer call lead None there says =
          let done = nothing here xs (inr (
            heard plan (Mailing talk) one.unit [],
            Deliver (mail_of talk lines),
            ap (stands plan (Mailing talk) one) lead ∙ ap (standing_asked (heard plan (Mailing talk) one.unit []) (Deliver (mail_of talk lines))) there,
          )) g in
          over (tells_by [] (Some (Deliver (mail_of talk lines))) None says call there refl refl) done.0 done.1
      by_answer call lead (Some (Stored id)) there says =
          on (tells_by (one_line stored_text) (Some (Deliver (mail_of talk lines))) (Some (Stored id)) says call there refl refl)
          (mode (one_line stored_text) says refl) here
          (ap (stands plan (Mailing talk) one) lead ∙ ap (standing_asked (heard plan (Mailing talk) one.unit []) (Deliver (mail_of talk lines))) there
          ∙ ap₂ (λ (u : Unit) (v : Unit). Hearing (Mailing (after_unit plan talk u []))) is is
          ∙ ap (λ (u : Unit). Hearing (Mailing (after_unit plan talk u (closing_line one.reply)))) (sym is)) g
      by_answer call lead (Some Failed) there says =
          on (tells_by (one_line unstored_text) (Some (Deliver (mail_of talk lines))) (Some Failed) says call there refl refl)
          (mode (one_line unstored_text) says refl) here
          (ap (stands plan (Mailing talk) one) lead ∙ ap (standing_asked (heard plan (Mailing talk) one.unit []) (Deliver (mail_of talk lines))) there
          ∙ ap (λ (u : Unit). Hearing (Mailing (after_unit plan talk u []))) is
          ∙ ap (λ (u : Unit). Hearing (Mailing (after_unit plan talk u (closing_line one.reply)))) (sym is)) g
      by_answer call lead (Some answer) there says = absurd says

      by_test : (b : Bool) → is_large lines ≡ b → AreTold plan talk.in_text talk octets (one ∷ xs) rest
      by_test true large =
          let lead : lead_of plan node (Mailing talk) one.unit ≡ Says (one_line (reply_text plan node talk (Text lines))) = lead_is ∙ cond-true (is_large lines) _ _ large in
          let led = subst (λ (l : Lead). IsLed l one) lead next.led in
          let text : reply_text plan node talk (Text lines) ≡ codes "552 message too large" = cond-true (is_large lines) _ _ large in
          let says : one.reply ≡ one_line (codes "552 message too large") = led.2 ∙ ap one_line text in
          on (tells_by (one_line (codes "552 message too large")) None None says led.0 led.1 refl refl) (mode (one_line (codes "552 message too large")) says refl) here
          (ap (stands plan (Mailing talk) one) lead) g
      by_test false large =
          let lead : lead_of plan node (Mailing talk) one.unit ≡ Asks (Deliver (mail_of talk lines)) = lead_is ∙ cond-false (is_large lines) _ _ large in
          let led = subst (λ (l : Lead). IsLed l one) lead next.led in
          by_answer led.0 lead one.answer refl led.1

  -- either
  unit_told : (unit : Unit) → one.unit ≡ unit → TalkGoes plan node here left xs last rest → AreTold plan talk.in_text talk octets (one ∷ xs) rest
  unit_told (Line line) is g = line_told line is (is_quit_line line) refl g
  unit_told (Text lines) is g = text_told lines is g

-- all exchanges
all_told : (plan : Plan) (node : ℕ) (talk : Told) (octets : List ℕ) (xs : List Exchange) (last : Standing) (rest : List ℕ)
    → TalkGoes plan node (Hearing (Mailing talk)) octets xs last rest → AreTold plan talk.in_text talk octets xs rest
all_told plan node talk octets [] last rest g = none_told plan talk.in_text talk octets rest g.1
all_told plan node talk octets (one ∷ xs) last rest (left, next, g) =
    unit_told plan node talk octets left one xs last rest next (λ told h. all_told plan node told left xs last rest h) one.unit refl g

pub stored_as_told : StoredAsTold
stored_as_told plan node octets exchanges last rest g =
    let all = all_told plan node silent octets exchanges last rest g in
    ((all.last_text, all.units), all.told, all.lines)
