-- After each line every session rests: it waits, has ended, or has no whole unit left.
use Rattle.std.proofs.Common.{◌≡◌, ◌≢◌, ◌⊎◌, inl, inr, ⊎_elim, ◌+◌, ℕ, zero, suc, List, [], ◌∷◌, ◌++◌, length, flat_map, Option, Some, None, refl, sym, ap, ◌∙◌, subst}
use Rattle.std.proofs.lemmas.Option.{none-some}
use Rattle.std.proofs.lemmas.Bool.{cases_eq}
use Rattle.mail_model.specs.Plan.{Plan}
use Rattle.mail_model.specs.Tape.{Protocol, Order}
use Rattle.mail_model.specs.Tape.Protocol.{Smtp, Pop}
use Rattle.mail_model.specs.Tape.Order.{Open, Say, Feed, Close, GiveUp, Moves, End}
use Rattle.mail_model.specs.Lines.{sent_line}
use Rattle.mail_model.specs.Session.Unit.{Line, Text}
use Rattle.mail_model.specs.Told.{HasNoUnit}
use Rattle.mail_model.specs.Transcript.{Entry, all_of}
use Rattle.mail_model.specs.Shown.{lines_to}
use Rattle.mail_model.proofs.Sessions.{by_number}
use Rattle.session_model.specs.Calls.{Call, Answer}
use Rattle.session_model.specs.Talk.{TalkState, Exchange, Standing, Lead, IsLed, IsIdle, opening_state, in_text, heard, standing_asked, stands, leave_of}
use Rattle.session_model.specs.Talk.Lead.{Says, Ends, Asks}
use Rattle.session_model.specs.Talk.Standing.{EndedByQuit, EndedDown, EndedClosed}
use Rattle.session_model.specs.Talk.Standing.{Hearing as Hears_on, Waiting}
use Rattle.session_model.specs.Sessions.{Session, IsSession, session_at, exchanges_of}
use Rattle.session_model.specs.Acts.{Act, Deed, Acted, replace, greeting_of, opened_session, fed_by_act}
use Rattle.session_model.specs.Acts.Act.{Opens, Does, Faults, StillWaits, Leaves, Makes, Abandons}
use Rattle.session_model.specs.Acts.Deed.{IsFed, Hears, IsAnswered, IsGivenUp, Falls, Closes}
use Rattle.session_model.specs.Clocks.{seconds_after}
use Rattle.session_model.specs.Turns.{Turn, Next, ActsGo, Starts, IsReadyToAsk, IsAtRest, turn_after_unit, to_leave}
use Rattle.session_model.specs.Turns.Turn.{Hearing, Beginning, Closing, Falling, Asking}
use Rattle.session_model.specs.Run.{Stop, Made, MayMiss, IsCutShort, IsHandled, AreHandled, IsLeftOff}
use Rattle.session_model.specs.Run.Stop.{BehindLine, Denied, SinkFailed, OutOfMemory}
use Rattle.session_model.specs.Runs.{DrivenAnswersUnits}
use Rattle.session_model.proofs.Acts.{Spoken, at_first, acts_keep, replaced, replaced_other, pushed, pushed_other}
use Rattle.session_model.proofs.Driven.{Wrote, WroteAll, IsWritten, driven_written, whole_shows}

-- the session whose turn it is to hear
abbrev HearsNow : Turn → ℕ → Type 0
HearsNow (Hearing k onward) j = j ≡ k
HearsNow (Beginning k onward) j = ⊥
HearsNow (Closing k onward) j = ⊥
HearsNow (Falling k node onward) j = ⊥
HearsNow (Asking k) j = ⊥

-- all others rest
abbrev OthersRest : Turn → List Session → Type 0
OthersRest turn sessions = (j : ℕ) → IsAtRest (session_at sessions j) ⊎ HearsNow turn j

-- once what was under way is done, it does too
ready_rests : (turn : Turn) (sessions : List Session) (from : ℕ) → IsReadyToAsk turn sessions from → OthersRest turn sessions → (j : ℕ) → IsAtRest (session_at sessions j)
ready_rests (Hearing k onward) sessions from ready rest j =
    ⊎_elim (λ is. is) (λ same. subst (λ (n : ℕ). IsAtRest (session_at sessions n)) (sym same) ready.1) (rest j)
ready_rests (Beginning k onward) sessions from ready rest j = ⊎_elim (λ is. is) (λ none. absurd none) (rest j)
ready_rests (Closing k onward) sessions from ready rest j = absurd ready
ready_rests (Falling k node onward) sessions from ready rest j = ⊎_elim (λ is. is) (λ none. absurd none) (rest j)
ready_rests (Asking k) sessions from ready rest j = ⊎_elim (λ is. is) (λ none. absurd none) (rest j)

-- a session that still has to leave has ended
leave_rests : (exchanges : List Exchange) (standing : Standing) (rest user : List ℕ) → leave_of exchanges standing ≡ Some user → IsIdle standing rest
leave_rests exchanges (Hears_on state) rest user is = absurd (none-some user is)
leave_rests exchanges (Waiting state call) rest user is = absurd (none-some user is)
leave_rests exchanges EndedByQuit rest user is = tt
leave_rests exchanges EndedDown rest user is = tt
leave_rests exchanges EndedClosed rest user is = tt

leaves_rest : (there : Option Session) (user : List ℕ) → to_leave there ≡ Some user → IsAtRest there
leaves_rest None user is = tt
leaves_rest (Some session) user is = leave_rests (exchanges_of session) session.standing session.rest user is

-- one that has just asked its node waits
asks_rest : (plan : Plan) (state : TalkState) (one : Exchange) (lead : Lead) (call : Call) (rest : List ℕ) → IsLed lead one → one.call ≡ Some call → one.answer ≡ None → IsIdle (stands plan state one lead) rest
asks_rest plan state one (Says reply) call rest led asks none = absurd (none-some call (sym led.0 ∙ asks))
asks_rest plan state one (Ends reply) call rest led asks none = absurd (none-some call (sym led.0 ∙ asks))
asks_rest plan state one (Asks own) call rest led asks none = subst (λ (a : Option Answer). IsIdle (standing_asked (heard plan state one.unit []) own a) rest) (sym none) tt

-- a session that was opened has no unit
no_unit : (octets more : List ℕ) → [] ≡ sent_line octets ++ more → ⊥
no_unit [] more e = cc
no_unit (x ∷ octets) more e = cc

opened_rests : (protocol : Protocol) → HasNoUnit (in_text (opening_state protocol)) []
opened_rests Smtp (Line line) more is whole = no_unit line more whole
opened_rests Smtp (Text lines) more is whole = absurd is
opened_rests Pop (Line line) more is whole = no_unit line more whole
opened_rests Pop (Text lines) more is whole = absurd is

module _ (plan : Plan) (old new : List Session) where
  -- one session changed
  changes : (k : ℕ) (before behind : Session) (turn next : Turn) → session_at old k ≡ Some before → new ≡ replace old k behind → OthersRest turn old
      → (IsIdle behind.standing behind.rest ⊎ HearsNow next k) → ((j : ℕ) → j ≢ k → HearsNow turn j → HearsNow next j) → OthersRest next new
  changes k before behind turn next at is rest own others j = ⊎_elim
      (λ same. ⊎_elim
      (λ idle. inl (subst IsAtRest (sym (ap (λ (l : List Session). session_at l j) is ∙ ap (session_at (replace old k behind)) same ∙ replaced old k before behind at)) idle))
      (λ hears. inr (subst (HearsNow next) (sym same) hears)) own)
      (λ other. ⊎_elim
      (λ idle. inl (subst IsAtRest (sym (ap (λ (l : List Session). session_at l j) is ∙ replaced_other old k j before behind at other)) idle))
      (λ hears. inr (others j other hears)) (rest j))
      (cases_eq j k)

  -- none did
  same_rest : (turn : Turn) → new ≡ old → ((j : ℕ) → IsAtRest (session_at old j)) → OthersRest turn new
  same_rest turn is rest j = inl (subst (λ (l : List Session). IsAtRest (session_at l j)) (sym is) (rest j))

  -- the next act
  next_rests : (turn next : Turn) (act : Act) (entries : List Entry) → Next turn old act next → Acted plan old act entries new → OthersRest turn old → OthersRest next new
  next_rests (Hearing k onward) next (Does j (Hears one)) entries (same, then) (before, behind, said, at, did, says, is) rest =
      subst (λ (t : Turn). OthersRest t new) (sym then) (by_call one.call refl)
    where
      by_call : (call : Option Call) → one.call ≡ call → OthersRest (turn_after_unit k onward call) new
      by_call None none = changes j before behind (Hearing k onward) (Hearing k onward) at is rest (inr same) (λ i other hears. hears)
      by_call (Some call) asks = changes j before behind (Hearing k onward) (Beginning k onward) at is rest
          (inl (subst (λ (s : Session). IsIdle s.standing s.rest) (sym did.5) (asks_rest plan did.0 one _ call did.1 did.3.led asks did.6)))
          (λ i other hears. absurd (other (hears ∙ sym same)))
  next_rests (Hearing k onward) next (Leaves j user) entries (same, leaves, then) (says, is) rest =
      subst (λ (t : Turn). OthersRest t new) (sym then) (same_rest (Asking onward) is (λ i. ⊎_elim (λ idle. idle)
      (λ hears. subst (λ (n : ℕ). IsAtRest (session_at old n)) (sym hears) (leaves_rest (session_at old k) user leaves)) (rest i)))
  next_rests (Beginning k onward) next (Faults node) entries (there, then) (says, is) rest =
      subst (λ (t : Turn). OthersRest t new) (sym then) (same_rest (Falling 1 node onward) is (λ i. ⊎_elim (λ idle. idle) (λ none. absurd none) (rest i)))
  next_rests (Falling k node onward) next (Does j Falls) entries (first, then) (before, behind, said, at, did, says, is) rest =
      subst (λ (t : Turn). OthersRest t new) (sym then)
      (changes j before behind (Falling k node onward) (Falling (j + 1) node onward) at is rest
      (inl (subst (λ (s : Session). IsIdle s.standing s.rest) (sym did.2) tt)) (λ i other none. absurd none))
  next_rests (Closing k onward) next (Does j Closes) entries (same, then) (before, behind, said, at, did, says, is) rest =
      subst (λ (t : Turn). OthersRest t new) (sym then)
      (changes j before behind (Closing k onward) (Hearing k onward) at is rest (inr same) (λ i other none. absurd none))
  next_rests turn next (StillWaits j) entries (from, ready, first, then) (says, is) rest =
      subst (λ (t : Turn). OthersRest t new) (sym then) (same_rest (Asking (j + 1)) is (ready_rests turn old from ready rest))
  next_rests turn next (Does j (IsAnswered call answer reply)) entries (from, ready, first, then) (before, behind, said, at, did, says, is) rest =
      subst (λ (t : Turn). OthersRest t new) (sym then)
      (changes j before behind (Asking 0) (Hearing j j) at is (λ i. inl (ready_rests turn old from ready rest i)) (inr refl) (λ i other none. absurd none))
  next_rests (Hearing k onward) next act entries nexts acted rest = absurd nexts
  next_rests (Beginning k onward) next act entries nexts acted rest = absurd nexts
  next_rests (Closing k onward) next act entries nexts acted rest = absurd nexts
  next_rests (Falling k node onward) next act entries nexts acted rest = absurd nexts
  next_rests (Asking k) next act entries nexts acted rest = absurd nexts

  -- a session is fed, told that its call is given up, or closed
  deed_rest : (k : ℕ) (deed : Deed) (entries : List Entry) (turn : Turn) → Acted plan old (Does k deed) entries new → turn ≡ Hearing k 1 → ((j : ℕ) → IsAtRest (session_at old j))
      → OthersRest turn new
  deed_rest k deed entries turn (before, behind, said, at, did, says, is) is_turn rest =
      subst (λ (t : Turn). OthersRest t new) (sym is_turn) (changes k before behind (Asking 0) (Hearing k 1) at is (λ j. inl (rest j)) (inr refl) (λ j other none. absurd none))

  -- the first act of a line
  starts_rest : (been : List Act) (order : Order) (act : Act) (turn : Turn) (entries : List Entry) → Starts plan been order old act turn → Acted plan old act entries new → ((j : ℕ) → IsAtRest (session_at old j))
      → OthersRest turn new
  starts_rest been (Open protocol node) act turn entries (boot, up, is_act, is_turn) acted rest = λ j. ⊎_elim
      (λ same. inl (subst IsAtRest (sym (ap (λ (l : List Session). session_at l j) opened.1 ∙ ap (session_at (old ++ opened_session protocol node ∷ [])) same ∙ pushed old (opened_session protocol node)))
      (opened_rests protocol)))
      (λ other. inl (subst IsAtRest (sym (ap (λ (l : List Session). session_at l j) opened.1 ∙ pushed_other old (opened_session protocol node) j other)) (rest j)))
      (cases_eq j (length old + 1))
    where
      opened : Acted plan old (Opens protocol node (greeting_of protocol node boot (length old + 1) (seconds_after been))) entries new
      opened = subst (λ (a : Act). Acted plan old a entries new) is_act acted
  starts_rest been (Say k text) act turn entries (is_act, is_turn) acted rest =
      deed_rest k (IsFed (sent_line text)) entries turn (subst (λ (a : Act). Acted plan old a entries new) is_act acted) is_turn rest
  starts_rest been (Feed k octets) act turn entries (is_act, is_turn) acted rest =
      deed_rest k (IsFed octets) entries turn (subst (λ (a : Act). Acted plan old a entries new) is_act acted) is_turn rest
  starts_rest been (Close k) act turn entries starts acted rest = ⊎_elim
      (λ now. deed_rest k Closes entries turn (subst (λ (a : Act). Acted plan old a entries new) now.0 acted) now.2 rest)
      (λ first.
      let abandons : Acted plan old (Abandons k) entries new = subst (λ (a : Act). Acted plan old a entries new) first.0 acted in
      same_rest turn abandons.1 rest)
      starts
  starts_rest been (GiveUp k) act turn entries (call, reply, is_act, is_turn) acted rest =
      deed_rest k (IsGivenUp call reply) entries turn (subst (λ (a : Act). Acted plan old a entries new) is_act acted) is_turn rest
  starts_rest been (Moves order) act turn entries (event, may, is_act, is_turn) acted rest =
      let makes : Acted plan old (Makes order event) entries new = subst (λ (a : Act). Acted plan old a entries new) is_act acted in
      same_rest turn makes.1 rest
  starts_rest been End act turn entries starts acted rest = absurd starts

-- acts, one after another
goes_rest : (plan : Plan) (turn last : Turn) (old new : List Session) (acts : List Act) (outputs : List (List Entry)) → ActsGo plan turn old acts outputs last new → OthersRest turn old
    → OthersRest last new
goes_rest plan turn last old new [] [] (same, is) rest = subst (λ (t : Turn). OthersRest t new) (sym same) (subst (OthersRest turn) (sym is) rest)
goes_rest plan turn last old new (act ∷ acts) (entries ∷ outputs) (next, mid, is, acted, goes) rest =
    goes_rest plan next last mid new acts outputs goes (next_rests plan old mid turn next act entries is acted rest)
goes_rest plan turn last old new [] (entries ∷ outputs) goes rest = absurd goes
goes_rest plan turn last old new (act ∷ acts) [] goes rest = absurd goes

-- a line that was handled
line_rests : (plan : Plan) (been : List Act) (old new : List Session) (line : List ℕ) (acts : List Act) (outputs : List (List Entry)) → IsHandled plan been old line acts outputs new
    → ((j : ℕ) → IsAtRest (session_at old j)) → (j : ℕ) → IsAtRest (session_at new j)
line_rests plan been old new line acts outputs handled rest =
    let begun = handled.begun in
    ready_rests handled.last new handled.done.0 handled.done.1
    (goes_rest plan begun.next handled.last begun.mid new begun.more begun.others begun.goes
    (starts_rest plan old begun.mid been begun.order begun.first begun.next begun.said begun.starts begun.acted rest))

-- all lines
lines_rest : (plan : Plan) (been : List Act) (old new : List Session) (lines : List (List ℕ)) (by_line : List (List Act)) (outputs : List (List (List Entry)))
    → AreHandled plan been old lines by_line outputs new → ((j : ℕ) → IsAtRest (session_at old j)) → (j : ℕ) → IsAtRest (session_at new j)
lines_rest plan been old new [] [] [] is rest = λ j. subst (λ (l : List Session). IsAtRest (session_at l j)) (sym is) (rest j)
lines_rest plan been old new (line ∷ lines) (acts ∷ by_line) (says ∷ outputs) (mid, one, more) rest =
    lines_rest plan _ mid new lines by_line outputs more (line_rests plan been old mid line acts says one rest)
lines_rest plan been old new lines by_line outputs h rest = absurd h

-- where no session was opened
none_rest : (j : ℕ) → IsAtRest (session_at [] j)
none_rest zero = tt
none_rest (suc n) = subst IsAtRest (sym (by_number [] n)) tt

-- nothing of a line is missing
pub none_cut : (stop : Stop) (missing : List Entry) → (IsCutShort stop → ⊥) → MayMiss stop missing → ⊥
none_cut BehindLine missing whole may = may
none_cut Denied missing whole may = may
none_cut SinkFailed missing whole may = whole tt
none_cut OutOfMemory missing whole may = whole tt

-- the work stopped between two lines
behind_rest : (plan : Plan) (been : List Act) (stop : Stop) (old new : List Session) (left : List (List ℕ)) (by_line : List (List Act)) (tail : List Entry) (extra : List Made)
    → (IsCutShort stop → ⊥) → IsLeftOff plan been stop old left by_line tail extra new → ((j : ℕ) → IsAtRest (session_at old j)) → (j : ℕ) → IsAtRest (session_at new j)
behind_rest plan been stop old new [] [] tail extra whole (none, no_step, is, no_fault, no_denial) rest = λ j. subst (λ (l : List Session). IsAtRest (session_at l j)) (sym is) (rest j)
behind_rest plan been stop old new (line ∷ []) ([] ∷ []) tail extra whole (tried, is) rest = λ j. subst (λ (l : List Session). IsAtRest (session_at l j)) (sym is) (rest j)
behind_rest plan been stop old new (line ∷ []) ((act ∷ acts) ∷ []) tail extra whole (turn, cut, more) rest = absurd (none_cut stop cut.missing whole cut.may)
behind_rest plan been stop old new left by_line tail extra whole off rest = absurd off

-- all was written
wrote_whole : (plan : Plan) (stop : Stop) (acts : List Act) (entries : List Entry) (last : List Session) → (IsCutShort stop → ⊥) → Wrote plan stop acts entries last → WroteAll plan acts entries last
wrote_whole plan BehindLine acts entries last whole wrote = wrote
wrote_whole plan Denied acts entries last whole wrote = wrote
wrote_whole plan SinkFailed acts entries last whole wrote = absurd (whole tt)
wrote_whole plan OutOfMemory acts entries last whole wrote = absurd (whole tt)

pub driven_answers_units : DrivenAnswersUnits
driven_answers_units plan stop handled left acts others made entries last driven whole k session at = (
  subst (λ (e : List Entry). IsSession plan lines e k session) (sym wrote.written) ((whole_shows plan lines done wrote.outputs last wrote.done written.acts_of).are.each k session at),
  spoken.3.none,
  subst IsAtRest at (behind_rest plan _ stop driven.mid last left others driven.tail driven.extra whole driven.off
      (lines_rest plan [] [] driven.mid handled acts driven.outputs driven.are none_rest) k),
)
  where
    lines : List (List ℕ)
    lines = handled ++ left

    done : List Act
    done = flat_map (λ a. a) (acts ++ others)

    written : IsWritten plan stop lines done entries last
    written = driven_written plan stop handled left acts others made entries last driven

    wrote : WroteAll plan done entries last
    wrote = wrote_whole plan stop done entries last whole written.wrote

    spoken : Spoken plan (flat_map (fed_by_act k) done) (lines_to k (all_of wrote.outputs)) (Some session)
    spoken = subst (Spoken plan (flat_map (fed_by_act k) done) (lines_to k (all_of wrote.outputs))) at ((acts_keep plan [] done [] [] last wrote.outputs (at_first plan) wrote.done).each k)
