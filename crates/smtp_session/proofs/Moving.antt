-- What a move does, in all that is said of it.
use Rattle.std.proofs.Common.{◌≡◌, ◌<◌, ◌≤◌, ◌+◌, ℕ, Bool, true, false, List, [], ◌++◌, length, take, refl, sym, ap, subst, ◌∙◌, arith, append_assoc}
use Rattle.std.specs.Prelude.{MatchBool, MatchOption, Option, Some, None, Result, Ok, Err, IfOk}
use Rattle.call_tickets.specs.declared.step.Move.{Move}
use Rattle.std.proofs.lemmas.List.{length-drop}
use Rattle.mail_model.specs.Lines.{sent_line}
use Rattle.mail_model.specs.Plan.{Plan}
use Rattle.mail_model.specs.Session.{is_long_line}
use Rattle.session_model.specs.Sessions.{Session}
use Rattle.session_model.specs.Talk.{IsOn, down_line}
use Rattle.session_model.specs.Talk.Standing.{EndedDown}
use Rattle.mail_model.specs.Tape.{Protocol}
use Rattle.mail_model.specs.Lines.{HasNoCrlf}
use Rattle.mail_model.specs.Session as model
use Rattle.call_tickets.specs.Moves.{Due, Fed, Fell}
use Rattle.smtp_session.specs.declared.session.SmtpSession.{SmtpSession}
use Rattle.call_tickets.specs.declared.step.Move.TheVariants.{Said, Idle}
use Rattle.dot_text.specs.Shown.{Shown, Pending, Finds, FindsNone, behind_line, line_length}
use Rattle.dot_text.specs.declared.undotter.Undotter.{Undotter}
use Rattle.dot_text.specs.declared.cutter.Line.{Line as Found}
use Rattle.dot_text.specs.declared.cutter.Line.TheVariants.{Whole, Long}
use Rattle.smtp_session.specs.declared.session.Turn.{Turn}
use Rattle.smtp_session.specs.declared.session.Turn.TheVariants as turn
use Rattle.smtp_session.specs.declared.told.Told.{Told}
use Rattle.smtp_session.specs.declared.told.Heard.{Heard}
use Rattle.smtp_session.specs.declared.told.Heard.TheVariants.{GoesOn, Ends}
use Rattle.smtp_session.specs.declared.reply.Reply.{Reply}
use Rattle.smtp_session.specs.declared.reply.Reply.TheVariants.{LineTooLong, Down}
use Rattle.smtp_session.specs.Replies.{text_of, octets_of}
use Rattle.smtp_session.specs.Texts.{IsGivenText}
use Rattle.smtp_session.specs.Talks.{talk_of}
use Rattle.smtp_session.specs.Hears.{HearsLine, reply_in}
use Rattle.smtp_session.specs.Follows.{Follows, Goes, Moved, Stands, WaitsFor, IsDue, Turns, due_count}
use Rattle.smtp_session.proofs.Lines.{one_line_of}
use Rattle.smtp_session.proofs.Units.{session, hears_none, hears_long, hears_short, said_due, text_outside}

-- a choice whose condition is known
at_false : (X Y : Type 0) (b : Bool) → b ≡ false → Y → MatchBool b X Y
at_false X Y true is y = cc
at_false X Y false is y = y

-- an empty text
no_text : (text : List ℕ × Bool) → IsGivenText text [] → text.0 ≡ []
no_text (octets, true) is = is.0
no_text (octets, false) is = is

-- after a line nothing is to be said
none_due : (heard : Heard) (now : Turn) → Turns heard now → due_count now ≡ 0
none_due (GoesOn reply) now is = ap due_count is
none_due (Ends reply) now is = ap due_count is

-- something was said
pub said : (plan : Plan) (node : ℕ) (told later : Told) (old new : Shown) (undotter : Undotter) (text : List ℕ × Bool) (before now : Turn) (octets : List ℕ)
    → Goes plan (session node before told old undotter text) Said octets (session node now later new undotter text)
    → length new.rest + due_count now < length old.rest + due_count before → length new.rest + due_count now ≤ length old.rest
    → Moved plan (session node before told old undotter text) Said octets (session node now later new undotter text)
said plan node told later old new undotter text before now octets goes less calm = record { goes = goes; less = λ busy. less; no_more = omega (arith, calm); bounded = λ plain due follows is. cc; own = tt }

-- what was to be said before it hears on
pub moved_due : (plan : Plan) (node : ℕ) (told : Told) (cutter : Shown) (undotter : Undotter) (text : List ℕ × Bool) (now : Turn) (reply : Reply) → IsDue now reply
    → Moved plan (session node now told cutter undotter text) Said (sent_line (text_of reply node)) (session node turn.Hears told cutter undotter text)
moved_due plan node told cutter undotter text now reply is =
    said plan node told told cutter cutter undotter text now turn.Hears _ (said_due plan node told cutter undotter text now reply is) (less now is) (omega arith)
  where
    less : (t : Turn) → IsDue t reply → length cutter.rest + due_count turn.Hears < length cutter.rest + due_count t
    less turn.Greets due = omega arith
    less turn.Hears due = absurd due
    less turn.Waits due = absurd due
    less (turn.Replies other) due = omega arith
    less turn.Ended due = absurd due

-- The next command line.
module _ (plan : Plan) (node : ℕ) (told : Told) (undotter : Undotter) (text : List ℕ × Bool) (outside : told.in_text ≡ false) (old new : Shown) where
  pub moved_none : FindsNone old new → Moved plan (session node turn.Hears told old undotter text) Idle [] (session node turn.Hears told new undotter text)
  moved_none finds = record {
    goes = hears_none plan node told undotter text outside old new finds;
    less = λ busy. absurd busy;
    no_more = omega (arith, finds.fewer);
    bounded = λ plain due follows is. at_false _ _ told.in_text outside (bound plain due follows);
    own = tt;
  }
    where
      bound : (plain : Session) (due : Due) → Follows (session node turn.Hears told old undotter text) plain due → length new.rest + length text.0 < 1024
      bound plain due follows =
          let empty : text.0 ≡ [] = no_text text (text_outside old undotter text plain.rest told.in_text follows.reads outside) in
          omega (arith, finds.short, follows.reads.limit, ap (λ (l : List ℕ). length l) empty)

  less_behind : (found : Found) → Finds old found old → new ≡ behind_line old found → length new.rest + 0 < length old.rest + 0
  less_behind found finds is =
      omega (arith, finds.within, ap (λ (s : Shown). length s.rest) is, length-drop (line_length found + 2) old.rest)

  pub moved_long : (count : ℕ) → Finds old (Long count) old → new ≡ behind_line old (Long count)
      → Moved plan (session node turn.Hears told old undotter text) Said (sent_line (text_of LineTooLong node)) (session node turn.Hears told new undotter text)
  moved_long count finds is =
      said plan node told told old new undotter text turn.Hears turn.Hears _ (hears_long plan node told undotter text outside old new count finds is) (less_behind (Long count) finds is) (omega (arith, less_behind (Long count) finds is))

  pub moved_short : (count : ℕ) → Finds old (Whole count) old → new ≡ behind_line old (Whole count) → (heard : Heard) (later : Told) (now : Turn)
      → (old.limit ≡ 1024 → is_long_line (take count old.rest) ≡ false → HearsLine plan (talk_of told) (take count old.rest) heard (talk_of later)) → Turns heard now
      → Moved plan (session node turn.Hears told old undotter text) Said (octets_of (reply_in heard) node) (session node now later new undotter text)
  moved_short count finds is heard later now hears turns =
      said plan node told later old new undotter text turn.Hears now _ (hears_short plan node told undotter text outside old new count finds is heard later now hears turns)
      (omega (arith, less_behind (Whole count) finds is, none_due heard now turns)) (omega (arith, less_behind (Whole count) finds is, none_due heard now turns))

-- nothing is taken where a line is found
pub found_same : (old new : Shown) (found : Found) → Finds old found new → Finds old found old
found_same old new found finds = record { same = refl; within = finds.within; gives = finds.gives }

-- the node goes down
pub falls : (node : ℕ) (told : Told) (cutter : Shown) (undotter : Undotter) (text : List ℕ × Bool) (now : Turn) (plain : Session) (due : Due)
    → Follows (session node now told cutter undotter text) plain due → IsOn plain.standing
    → Fell (Follows (session node turn.Ended told cutter undotter text)) plain (sent_line (text_of Down node))
falls node told cutter undotter text now plain due follows on =
    let says : down_line plain.protocol plain.node ≡ text_of Down node = ap (λ (p : Protocol). down_line p plain.node) follows.speaks ∙ ap (text_of Down) follows.node in
    record {
      after = record plain { standing = EndedDown };
      did = λ plan. (on, refl, refl);
      says = ap sent_line (sym says);
      line = subst HasNoCrlf (sym says) (one_line_of Down node);
      goes_on = record { speaks = follows.speaks; node = follows.node; others = follows.others; nobody = follows.nobody; reads = follows.reads; stands = (refl, tt) };
    }

-- what a feed leaves
pub is_fed : (old new : SmtpSession) (plain : Session) (due : Due) (piece : List ℕ) → new ≡ record old { cutter = new.cutter } → new.cutter.limit ≡ old.cutter.limit → new.cutter.past ≡ old.cutter.past
    → ((pending : List ℕ) → Pending old.cutter pending → Pending new.cutter (pending ++ piece)) → Follows old plain due → Fed (Follows new) plain due piece
is_fed old new plain due piece same limit past pends follows =
    let reads = follows.reads in
    let At : SmtpSession → Type 0 = λ s. Fed (Follows s) plain due piece in
    subst At (sym same) (record {
      speaks = follows.speaks;
      node = follows.node;
      others = follows.others;
      nobody = follows.nobody;
      reads = record {
        taken = reads.taken;
        given = reads.given;
        pending = reads.pending ++ piece;
        whole = ap (λ (l : List ℕ). l ++ piece) reads.whole ∙ append_assoc reads.taken reads.pending piece;
        pends = pends reads.pending reads.pends;
        undots = reads.undots;
        text_is = reads.text_is;
        short = reads.short;
        limit = limit ∙ reads.limit;
        inside = λ in_it. past ∙ reads.inside in_it;
        outside = reads.outside;
      };
      stands = stands_fed old.turn old.node (talk_of old.told) plain due piece follows.stands;
    })
  where
    waits : (talk : model.Told) (plain : Session) (piece : List ℕ) → WaitsFor talk plain → WaitsFor talk (record plain { octets = plain.octets ++ piece; rest = plain.rest ++ piece })
    waits talk plain piece it = record { mail = it.mail; standing = it.standing; before = it.before; one = it.one; whole = it.whole; asks = it.asks }

    stands_fed : (now : Turn) (node : ℕ) (talk : model.Told) (plain : Session) (due : Due) (piece : List ℕ) → Stands now node talk plain due
        → Stands now node talk (record plain { octets = plain.octets ++ piece; rest = plain.rest ++ piece }) due
    stands_fed turn.Greets node talk plain due piece stands = stands
    stands_fed turn.Hears node talk plain due piece stands = stands
    stands_fed turn.Waits node talk plain due piece stands = (stands.0, waits talk plain piece stands.1)
    stands_fed (turn.Replies reply) node talk plain due piece stands = (stands.0, waits talk plain piece stands.1, stands.2, stands.3)
    stands_fed turn.Ended node talk plain due piece stands = stands

-- to look for a line makes nothing more
pub fewer_held : (old new : Shown) (found : Option Found) → MatchOption found (FindsNone old new) (λ line. Finds old line new) → length new.rest ≤ length old.rest
fewer_held old new None finds = finds.fewer
fewer_held old new (Some line) finds = omega (arith, ap (λ (s : Shown). length s.rest) finds.same)

-- what holds by any plan holds by this one
pub of_plan : (plan : Plan) (old new : SmtpSession) (before after : List ℕ) (E : Type 0) (result : Result Move E)
    → IfOk result (λ did. (octets : List ℕ) × (after ≡ before ++ octets) × ((any : Plan) → Moved any old did octets new))
    → IfOk result (λ did. (octets : List ℕ) × (after ≡ before ++ octets) × Moved plan old did octets new)
of_plan plan old new before after E (Ok did) holds = (holds.0, holds.1, holds.2 plan)
of_plan plan old new before after E (Err error) holds = holds
