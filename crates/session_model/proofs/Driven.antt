-- What a run did and wrote; its transcript shows its sessions, and tells which messages were acknowledged.
use Rattle.std.proofs.Common.{◌≡◌, ◌⊎◌, inl, inr, ⊎_elim, ◌+◌, ℕ, false, List, [], ◌∷◌, ◌++◌, length, flat_map, All, Option, Some, None, refl, sym, ap, ap₂, ◌∙◌, subst, append_assoc, append-nil, nat_eq}
use Rattle.std.specs.Cmp.Lexicographic.{pointwise}
use Rattle.std.proofs.lemmas.List.Concat.{flat_map-append}
use Rattle.std.proofs.lemmas.List.Elements.{All-nil, All-cons, All-head, All-tail, All-append}
use Rattle.mail_model.specs.Plan.{Plan}
use Rattle.mail_model.specs.Smtp.{stored_text}
use Rattle.mail_model.specs.Tape.{Protocol, Order, tape_order}
use Rattle.mail_model.specs.Tape.Protocol.{Smtp, Pop}
use Rattle.mail_model.specs.Tape.Order.{Open, Say, Feed, Close, GiveUp, Moves, End}
use Rattle.mail_model.specs.Transcript.{Entry}
use Rattle.mail_model.specs.Transcript.{all_of}
use Rattle.mail_model.specs.Shown.{lines_to}
use Rattle.mail_model.specs.Told as told
use Rattle.mail_model.specs.Stored.{Ack, opened_at}
use Rattle.session_model.specs.Sessions.{Session, session_at}
use Rattle.session_model.specs.Acts.{Act, Acted, ActedAll, AreActsOf, greeting_of, opened_by, fed_by_act}
use Rattle.session_model.specs.Acts.Act.{Does, Faults, StillWaits, Leaves}
use Rattle.session_model.specs.Acts.Deed.{Hears, IsAnswered, Falls, Closes}
use Rattle.session_model.specs.Logs.{IsLogged, asked_by, answered_by, asked_in, answered_in}
use Rattle.session_model.specs.Clocks.{seconds_after}
use Rattle.session_model.specs.Lives.{life_after}
use Rattle.session_model.specs.Turns.{Turn, Next, ActsGo, Starts}
use Rattle.session_model.specs.Turns.Turn.{Hearing, Beginning, Closing, Falling, Asking}
use Rattle.session_model.specs.Run.{Stop, Made, MayMiss, refusal, FirstStep, IsTried, IsBegun, AreHandled, IsLeftOff, IsDriven, IsCutShort}
use Rattle.session_model.specs.Run.Stop.{BehindLine, Denied, SinkFailed, OutOfMemory}
use Rattle.session_model.specs.Runs.{Shows, DrivenIsShown}
use Rattle.session_model.specs.Books.{MayBeUnwritten}
use Rattle.session_model.proofs.Acts.{Kept, Spoken, at_first}
use Rattle.session_model.proofs.Logs.{Logged, AreLogged, all_logged, none_logged, logged_whole}
use Rattle.session_model.proofs.Cutting.{Shown, spoken_shown, acts_are_shown}
use Rattle.session_model.proofs.Events.{event_names}
use Rattle.session_model.proofs.InOrder.{IsWorded, AreAcked, none_in_order, all_in_order, whole_acked, cut_acked}

-- an act that opens and feeds nothing
record IsQuiet (act : Act) : Type 0 where
  pub opens : opened_by act ≡ []
  pub feeds : (k : ℕ) → fed_by_act k act ≡ []
  pub worded : IsWorded act

-- each act after the first of a line is quiet
next_quiet : (turn next : Turn) (sessions : List Session) (act : Act) → Next turn sessions act next → IsQuiet act
next_quiet turn next sessions (Does k (Hears one)) is = record { opens = refl; feeds = λ k. refl; worded = tt }
next_quiet turn next sessions (Does k (IsAnswered call answer reply)) is = record { opens = refl; feeds = λ k. refl; worded = tt }
next_quiet turn next sessions (Does k Falls) is = record { opens = refl; feeds = λ k. refl; worded = tt }
next_quiet turn next sessions (Does k Closes) is = record { opens = refl; feeds = λ k. refl; worded = tt }
next_quiet turn next sessions (Faults node) is = record { opens = refl; feeds = λ k. refl; worded = tt }
next_quiet turn next sessions (StillWaits k) is = record { opens = refl; feeds = λ k. refl; worded = tt }
next_quiet turn next sessions (Leaves k user) is = record { opens = refl; feeds = λ k. refl; worded = tt }
next_quiet (Hearing k onward) next sessions act is = absurd is
next_quiet (Closing k onward) next sessions act is = absurd is
next_quiet (Beginning k onward) next sessions act is = absurd is
next_quiet (Falling k node onward) next sessions act is = absurd is
next_quiet (Asking k) next sessions act is = absurd is

-- What acts made: they were done one after another, and open and feed nothing.
record IsMade (plan : Plan) (old : List Session) (acts : List Act) (outputs : List (List Entry)) (new : List Session) : Type 0 where
  pub done : ActedAll plan old acts outputs new
  pub opens : flat_map opened_by acts ≡ []
  pub feeds : (k : ℕ) → flat_map (fed_by_act k) acts ≡ []
  pub worded : All IsWorded acts

goes_made : (plan : Plan) (turn last : Turn) (old new : List Session) (acts : List Act) (outputs : List (List Entry)) → ActsGo plan turn old acts outputs last new → IsMade plan old acts outputs new
goes_made plan turn last old new [] [] (same, is) = record { done = is; opens = refl; feeds = λ k. refl; worded = All-nil IsWorded }
goes_made plan turn last old new (act ∷ acts) (entries ∷ outputs) (next, mid, is, acted, goes) =
    let quiet = next_quiet turn next old act is in
    let later = goes_made plan next last mid new acts outputs goes in
    record {
      done = (mid, acted, later.done);
      opens = ap₂ ◌++◌ quiet.opens later.opens;
      feeds = λ k. ap₂ ◌++◌ (quiet.feeds k) (later.feeds k);
      worded = All-cons IsWorded act acts quiet.worded later.worded;
    }
goes_made plan turn last old new [] (entries ∷ outputs) goes = absurd goes
goes_made plan turn last old new (act ∷ acts) [] goes = absurd goes

-- The first act of a line opens what the line does and feeds it, and its words are as they have to be.
record IsOfOrder (order : Order) (act : Act) : Type 0 where
  pub opens : opened_at (Some order) ≡ opened_by act
  pub feeds : (j : ℕ) → told.fed_by j (Some order) ≡ fed_by_act j act
  pub worded : IsWorded act

-- an act is another
is_of : (order : Order) (act other : Act) → act ≡ other → IsOfOrder order other → IsOfOrder order act
is_of order act other is of = subst (IsOfOrder order) (sym is) of

greets : (protocol : Protocol) (node boot number seconds : ℕ) → pointwise nat_eq (greeting_of protocol node boot number seconds) stored_text ≡ false
greets Smtp node boot number seconds = refl
greets Pop node boot number seconds = refl

starts_of : (plan : Plan) (been : List Act) (order : Order) (sessions : List Session) (act : Act) (turn : Turn) → refusal plan been sessions order ≡ None → Starts plan been order sessions act turn
    → IsOfOrder order act
starts_of plan been (Open protocol node) sessions act turn fits (boot, up, is, next) =
    is_of (Open protocol node) act _ is (record { opens = refl; feeds = λ j. refl; worded = greets protocol node boot (length sessions + 1) (seconds_after been) })
starts_of plan been (Say k text) sessions act turn fits (is, next) = is_of (Say k text) act _ is (record { opens = refl; feeds = λ j. refl; worded = tt })
starts_of plan been (Feed k octets) sessions act turn fits (is, next) = is_of (Feed k octets) act _ is (record { opens = refl; feeds = λ j. refl; worded = tt })
starts_of plan been (Close k) sessions act turn fits starts = ⊎_elim
    (λ now. is_of (Close k) act _ now.0 (record { opens = refl; feeds = λ j. refl; worded = tt }))
    (λ first. is_of (Close k) act _ first.0 (record { opens = refl; feeds = λ j. refl; worded = tt })) starts
starts_of plan been (GiveUp k) sessions act turn fits (call, reply, is, next) = is_of (GiveUp k) act _ is (record { opens = refl; feeds = λ j. refl; worded = tt })
starts_of plan been (Moves order) sessions act turn fits (event, may, is, next) =
    is_of (Moves order) act _ is (record { opens = refl; feeds = λ j. refl; worded = event_names plan (life_after been) order event fits may })
starts_of plan been End sessions act turn fits starts = absurd starts

-- What the acts of lines made: they were done one after another, and open and feed what the lines do.
pub record AreMade (plan : Plan) (old : List Session) (lines : List (List ℕ)) (acts : List Act) (outputs : List (List Entry)) (new : List Session) : Type 0 where
  pub done : ActedAll plan old acts outputs new
  pub acts_of : AreActsOf lines acts
  pub worded : All IsWorded acts

-- a line that was begun
pub begun_made : (plan : Plan) (so_far : List Act) (old new : List Session) (line : List ℕ) (acts : List Act) (outputs : List (List Entry)) (turn : Turn)
    → IsBegun plan so_far old line acts outputs turn new → AreMade plan old (line ∷ []) acts outputs new
begun_made plan so_far old new line acts outputs turn begun =
    let of = starts_of plan so_far begun.order old begun.first begun.next begun.accepted begun.starts in
    let later = goes_made plan begun.next turn begun.mid new begun.more begun.others begun.goes in
    subst (λ (a : List Act). AreMade plan old (line ∷ []) a outputs new) (sym begun.acts_are)
    (subst (λ (o : List (List Entry)). AreMade plan old (line ∷ []) (begun.first ∷ begun.more) o new) (sym begun.outputs_are) (record {
      done = (begun.mid, begun.acted, later.done);
      worded = All-cons IsWorded begun.first begun.more of.worded later.worded;
      acts_of = record {
        opens = append-nil (opened_at (tape_order line)) ∙ ap opened_at begun.spelled ∙ of.opens
            ∙ sym (append-nil (opened_by begun.first)) ∙ ap (λ l. opened_by begun.first ++ l) (sym later.opens);
        feeds = λ k. append-nil (told.fed_by k (tape_order line)) ∙ ap (told.fed_by k) begun.spelled ∙ of.feeds k
            ∙ sym (append-nil (fed_by_act k begun.first)) ∙ ap (λ l. fed_by_act k begun.first ++ l) (sym (later.feeds k));
      };
    }))

-- acts, and others after them
acted_both : (plan : Plan) (old mid new : List Session) (acts more : List Act) (outputs others : List (List Entry)) → ActedAll plan old acts outputs mid → ActedAll plan mid more others new
    → ActedAll plan old (acts ++ more) (outputs ++ others) new
acted_both plan old mid new [] more [] others done later = subst (λ (s : List Session). ActedAll plan s more others new) done later
acted_both plan old mid new (act ∷ acts) more (entries ∷ outputs) others (next, acted, done) later = (next, acted, acted_both plan next mid new acts more outputs others done later)
acted_both plan old mid new [] more (entries ∷ outputs) others done later = absurd done
acted_both plan old mid new (act ∷ acts) more [] others done later = absurd done

-- the acts of some lines, and of others
acts_both : (lines more : List (List ℕ)) (acts others : List Act) → AreActsOf lines acts → AreActsOf more others → AreActsOf (lines ++ more) (acts ++ others)
acts_both lines more acts others first later = record {
  opens = flat_map-append (λ line. opened_at (tape_order line)) lines more ∙ ap₂ ◌++◌ first.opens later.opens ∙ sym (flat_map-append opened_by acts others);
  feeds = λ k. flat_map-append (λ line. told.fed_by k (tape_order line)) lines more ∙ ap₂ ◌++◌ (first.feeds k) (later.feeds k) ∙ sym (flat_map-append (fed_by_act k) acts others);
}

made_both : (plan : Plan) (old mid new : List Session) (lines more : List (List ℕ)) (acts others : List Act) (outputs says : List (List Entry)) → AreMade plan old lines acts outputs mid
    → AreMade plan mid more others says new → AreMade plan old (lines ++ more) (acts ++ others) (outputs ++ says) new
made_both plan old mid new lines more acts others outputs says first later = record {
  done = acted_both plan old mid new acts others outputs says first.done later.done;
  acts_of = acts_both lines more acts others first.acts_of later.acts_of;
  worded = All-append IsWorded acts others first.worded later.worded;
}

-- nothing was made
none_made : (plan : Plan) (old new : List Session) → new ≡ old → AreMade plan old [] [] [] new
none_made plan old new is = record { done = is; acts_of = record { opens = refl; feeds = λ k. refl }; worded = All-nil IsWorded }

-- all lines that were handled
pub handled_made : (plan : Plan) (so_far : List Act) (old new : List Session) (lines : List (List ℕ)) (by_line : List (List Act)) (outputs : List (List (List Entry)))
    → AreHandled plan so_far old lines by_line outputs new → AreMade plan old lines (flat_map (λ a. a) by_line) (flat_map (λ o. o) outputs) new
handled_made plan so_far old new [] [] [] is = none_made plan old new is
handled_made plan so_far old new (line ∷ lines) (acts ∷ by_line) (says ∷ outputs) (mid, one, more) =
    made_both plan old mid new (line ∷ []) lines acts (flat_map (λ a. a) by_line) says (flat_map (λ o. o) outputs) (begun_made plan so_far old mid line acts says one.last one.begun)
    (handled_made plan _ mid new lines by_line outputs more)
handled_made plan so_far old new lines by_line outputs h = absurd h

-- what was written of all lines
pub all_written : (outputs : List (List (List Entry))) → flat_map all_of outputs ≡ all_of (flat_map (λ o. o) outputs)
all_written [] = refl
all_written (says ∷ outputs) = ap (λ (l : List Entry). all_of says ++ l) (all_written outputs) ∙ sym (flat_map-append (λ (e : List Entry). e) says (flat_map (λ o. o) outputs))

-- The last of some acts.
pub record IsLast (plan : Plan) (old : List Session) (acts : List Act) (before : List (List Entry)) (says : List Entry) (new : List Session) : Type 0 where
  pub been : List Act
  pub act : Act
  pub mid : List Session
  pub are : acts ≡ been ++ act ∷ []
  pub done : ActedAll plan old been before mid
  pub acted : Acted plan mid act says new

pub last_of : (plan : Plan) (old new : List Session) (acts : List Act) (before : List (List Entry)) (says : List Entry) → ActedAll plan old acts (before ++ says ∷ []) new
    → IsLast plan old acts before says new
last_of plan old new (act ∷ []) [] says (mid, acted, is) =
    record { been = []; act = act; mid = old; are = refl; done = refl; acted = subst (λ (s : List Session). Acted plan old act says s) (sym is) acted }
last_of plan old new (act ∷ acts) (entries ∷ before) says (mid, acted, done) =
    let later = last_of plan mid new acts before says done in
    record { been = act ∷ later.been; act = later.act; mid = later.mid; are = ap (λ (l : List Act). act ∷ l) later.are; done = (mid, acted, later.done); acted = later.acted }
last_of plan old new (act ∷ other ∷ acts) [] says (mid, acted, done) = absurd done
last_of plan old new [] [] says done = absurd done
last_of plan old new [] (entries ∷ before) says done = absurd done

pub whole_shows : (plan : Plan) (lines : List (List ℕ)) (acts : List Act) (outputs : List (List Entry)) (last : List Session) → ActedAll plan [] acts outputs last → AreActsOf lines acts
    → Shows plan lines (all_of outputs) acts last
whole_shows plan lines acts outputs last done acts_of = record {
  are = record {
    kinds = acts_of.opens ∙ all.0.kinds;
    each = λ k session at.
        let shown : Shown plan (flat_map (fed_by_act k) acts) (lines_to k (all_of outputs)) (Some session) =
        subst (Shown plan (flat_map (fed_by_act k) acts) (lines_to k (all_of outputs))) at
        (spoken_shown plan (flat_map (fed_by_act k) acts) (lines_to k (all_of outputs)) (session_at last k) (all.0.each k)) in
        record { talk = shown.0.talk; fed = shown.1 ∙ sym (acts_of.feeds k); gets = shown.0.gets };
  };
  logged = λ k. by_session k (session_at last k) refl;
}
  where
    all : Kept plan acts (all_of outputs) last × AreLogged acts last
    all = all_logged plan [] acts [] [] last outputs (at_first plan) none_logged done

    by_session : (k : ℕ) (there : Option Session) → session_at last k ≡ there → IsLogged (asked_in k (flat_map asked_by acts)) (answered_in k (flat_map answered_by acts)) (session_at last k)
    by_session k None none =
        subst (IsLogged (asked_in k (flat_map asked_by acts)) (answered_in k (flat_map answered_by acts))) (sym none)
        (subst (Logged (asked_in k (flat_map asked_by acts)) (answered_in k (flat_map answered_by acts))) none (all.1 k))
    by_session k (Some session) at =
        let spoken : Spoken plan (flat_map (fed_by_act k) acts) (lines_to k (all_of outputs)) (Some session) =
        subst (Spoken plan (flat_map (fed_by_act k) acts) (lines_to k (all_of outputs))) at (all.0.each k) in
        subst (IsLogged (asked_in k (flat_map asked_by acts)) (answered_in k (flat_map answered_by acts))) (sym at)
        (logged_whole _ _ session spoken.3.none (subst (Logged (asked_in k (flat_map asked_by acts)) (answered_in k (flat_map answered_by acts))) at (all.1 k)))

-- What was written of some acts: all.
pub record WroteAll (plan : Plan) (acts : List Act) (entries : List Entry) (last : List Session) : Type 0 where
  pub outputs : List (List Entry)
  pub done : ActedAll plan [] acts outputs last
  pub written : entries ≡ all_of outputs

-- Or a prefix of what the last act writes.
pub record WrotePart (plan : Plan) (acts : List Act) (entries : List Entry) (last : List Session) : Type 0 where
  pub before : List (List Entry)
  pub says : List Entry
  pub end : IsLast plan [] acts before says last
  pub front : List Entry
  pub missing : List Entry
  pub cut : says ≡ front ++ missing
  pub written : entries ≡ all_of before ++ front

-- between two lines it is all
abbrev pub Wrote : Plan → Stop → List Act → List Entry → List Session → Type 0
Wrote plan BehindLine acts entries last = WroteAll plan acts entries last
Wrote plan Denied acts entries last = WroteAll plan acts entries last
Wrote plan stop acts entries last = WroteAll plan acts entries last ⊎ WrotePart plan acts entries last

all_wrote : (plan : Plan) (stop : Stop) (acts : List Act) (entries : List Entry) (last : List Session) → WroteAll plan acts entries last → Wrote plan stop acts entries last
all_wrote plan BehindLine acts entries last wrote = wrote
all_wrote plan Denied acts entries last wrote = wrote
all_wrote plan SinkFailed acts entries last wrote = inl wrote
all_wrote plan OutOfMemory acts entries last wrote = inl wrote

part_wrote : (plan : Plan) (stop : Stop) (acts : List Act) (entries missing : List Entry) (last : List Session) → MayMiss stop missing → WrotePart plan acts entries last
    → Wrote plan stop acts entries last
part_wrote plan BehindLine acts entries missing last may wrote = absurd may
part_wrote plan Denied acts entries missing last may wrote = absurd may
part_wrote plan SinkFailed acts entries missing last may wrote = inr wrote
part_wrote plan OutOfMemory acts entries missing last may wrote = inr wrote

-- What a run did and wrote.
pub record IsWritten (plan : Plan) (stop : Stop) (lines : List (List ℕ)) (acts : List Act) (entries : List Entry) (last : List Session) : Type 0 where
  pub acts_of : AreActsOf lines acts
  pub worded : All IsWorded acts
  pub wrote : Wrote plan stop acts entries last

-- a line whose first step came to nothing opens and feeds nothing
pub first_none : (order : Order) (sessions : List Session) (step : Made) → FirstStep order sessions step → (opened_at (Some order) ≡ []) × ((j : ℕ) → told.fed_by j (Some order) ≡ [])
first_none (Close k) sessions step first = (refl, λ j. refl)
first_none (GiveUp k) sessions step first = (refl, λ j. refl)
first_none (Moves order) sessions step first = (refl, λ j. refl)
first_none (Open protocol node) sessions step first = absurd first
first_none (Say k text) sessions step first = absurd first
first_none (Feed k octets) sessions step first = absurd first
first_none End sessions step first = absurd first

tried_made : (plan : Plan) (so_far : List Act) (stop : Stop) (old new : List Session) (line : List ℕ) (entries : List Entry) (extra : List Made) → IsTried plan so_far stop old line entries extra
    → new ≡ old → AreMade plan old (line ∷ []) [] [] new
tried_made plan so_far stop old new line entries extra tried is =
    let none = first_none tried.order old tried.step tried.first in
    record {
      done = is;
      acts_of = record {
        opens = append-nil (opened_at (tape_order line)) ∙ ap opened_at tried.spelled ∙ none.0;
        feeds = λ k. append-nil (told.fed_by k (tape_order line)) ∙ ap (told.fed_by k) tried.spelled ∙ none.1 k;
      };
      worded = All-nil IsWorded;
    }

-- Lines that were handled, and after them none, or one that was left off.
module _ (plan : Plan) (stop : Stop) (so_far : List Act) (lines : List (List ℕ)) (mid last : List Session) (acts : List Act) (outputs : List (List Entry))
    (made : AreMade plan [] lines acts outputs mid) where
  off_written : (left : List (List ℕ)) (others : List (List Act)) (tail : List Entry) (extra : List Made) → IsLeftOff plan so_far stop mid left others tail extra last
      → IsWritten plan stop (lines ++ left) (acts ++ flat_map (λ a. a) others) (all_of outputs ++ tail) last
  off_written [] [] tail extra (none, no_step, is, no_fault, no_denial) =
      subst (λ (l : List (List ℕ)). IsWritten plan stop l (acts ++ []) (all_of outputs ++ tail) last) (sym (append-nil lines))
      (subst (λ (a : List Act). IsWritten plan stop lines a (all_of outputs ++ tail) last) (sym (append-nil acts)) (record {
        acts_of = made.acts_of;
        worded = made.worded;
        wrote = all_wrote plan stop acts (all_of outputs ++ tail) last (record {
          outputs = outputs;
          done = subst (λ (s : List Session). ActedAll plan [] acts outputs s) (sym is) made.done;
          written = ap (λ (l : List Entry). all_of outputs ++ l) none ∙ append-nil (all_of outputs);
        });
      }))
  off_written (line ∷ []) ([] ∷ []) tail extra (tried, is) =
      let both = made_both plan [] mid last lines (line ∷ []) acts [] outputs [] made (tried_made plan so_far stop mid last line tail extra tried is) in
      record {
        acts_of = both.acts_of;
        worded = both.worded;
        wrote = all_wrote plan stop (acts ++ []) (all_of outputs ++ tail) last (record {
          outputs = outputs ++ [];
          done = both.done;
          written = ap₂ (λ (o : List (List Entry)) (t : List Entry). all_of o ++ t) (sym (append-nil outputs)) tried.none ∙ append-nil (all_of (outputs ++ []));
        });
      }
  off_written (line ∷ []) ((act ∷ acts_of_line) ∷ []) tail extra (turn, cut, asked) =
      let more : List Act = act ∷ acts_of_line in
      let one = begun_made plan so_far mid last line more (cut.before ++ cut.says ∷ []) turn cut.begun in
      let both = made_both plan [] mid last lines (line ∷ []) acts more outputs (cut.before ++ cut.says ∷ []) made one in
      let end = last_of plan [] last (acts ++ more) (outputs ++ cut.before) cut.says
      (subst (λ (o : List (List Entry)). ActedAll plan [] (acts ++ more) o last) (sym (append_assoc outputs cut.before (cut.says ∷ []))) both.done) in
      let same : acts ++ more ≡ acts ++ (more ++ []) = ap (λ (l : List Act). acts ++ l) (sym (append-nil more)) in
      subst (λ (a : List Act). IsWritten plan stop (lines ++ line ∷ []) a (all_of outputs ++ tail) last) same (record {
        acts_of = both.acts_of;
        worded = both.worded;
        wrote = part_wrote plan stop (acts ++ more) (all_of outputs ++ tail) cut.missing last cut.may (record {
          before = outputs ++ cut.before;
          says = cut.says;
          end = end;
          front = cut.front;
          missing = cut.missing;
          cut = cut.cut;
          written = ap (λ (l : List Entry). all_of outputs ++ l) cut.written ∙ sym (append_assoc (all_of outputs) (all_of cut.before) cut.front)
              ∙ ap (λ (l : List Entry). l ++ cut.front) (sym (flat_map-append (λ (e : List Entry). e) outputs cut.before));
        });
      })
  off_written left others tail extra off = absurd off

pub driven_written : (plan : Plan) (stop : Stop) (handled left : List (List ℕ)) (acts others : List (List Act)) (made : List Made) (entries : List Entry) (last : List Session)
    → IsDriven plan stop handled left acts others made entries last → IsWritten plan stop (handled ++ left) (flat_map (λ a. a) (acts ++ others)) entries last
driven_written plan stop handled left acts others made entries last driven =
    let before = handled_made plan [] [] driven.mid handled acts driven.outputs driven.are in
    let written = off_written plan stop _ handled driven.mid last (flat_map (λ a. a) acts) (flat_map (λ o. o) driven.outputs) before left others driven.tail driven.extra driven.off in
    let same : all_of (flat_map (λ o. o) driven.outputs) ++ driven.tail ≡ entries = ap (λ (l : List Entry). l ++ driven.tail) (sym (all_written driven.outputs)) ∙ sym driven.written in
    subst (λ (e : List Entry). IsWritten plan stop (handled ++ left) (flat_map (λ a. a) (acts ++ others)) e last) same
    (subst (λ (a : List Act). IsWritten plan stop (handled ++ left) a (all_of (flat_map (λ o. o) driven.outputs) ++ driven.tail) last)
    (sym (flat_map-append (λ (a : List Act). a) acts others)) written)

-- It shows its sessions.
module _ (plan : Plan) (lines : List (List ℕ)) (acts : List Act) (entries : List Entry) (last : List Session) (acts_of : AreActsOf lines acts) where
  all_shown : WroteAll plan acts entries last → (sessions : List Session) × Shows plan lines entries acts sessions
  all_shown wrote = (last, subst (λ (e : List Entry). Shows plan lines e acts last) (sym wrote.written) (whole_shows plan lines acts wrote.outputs last wrote.done acts_of))

  part_shown : WrotePart plan acts entries last → (sessions : List Session) × Shows plan lines entries acts sessions
  part_shown wrote =
      let end = wrote.end in
      let shown = acts_are_shown plan lines end.been end.act wrote.before wrote.says wrote.front wrote.missing end.mid last end.done end.acted wrote.cut
      (subst (AreActsOf lines) end.are acts_of) in (
        shown.0,
        subst (λ (e : List Entry). Shows plan lines e acts shown.0) (sym wrote.written)
            (subst (λ (l : List Act). Shows plan lines (all_of wrote.before ++ wrote.front) l shown.0) (sym end.are) shown.1),
      )

  pub wrote_shown : (stop : Stop) → Wrote plan stop acts entries last → (sessions : List Session) × Shows plan lines entries acts sessions
  wrote_shown BehindLine wrote = all_shown wrote
  wrote_shown Denied wrote = all_shown wrote
  wrote_shown SinkFailed wrote = ⊎_elim all_shown part_shown wrote
  wrote_shown OutOfMemory wrote = ⊎_elim all_shown part_shown wrote

  -- between two lines these are the sessions that the acts left
  pub shown_last : (stop : Stop) → (IsCutShort stop → ⊥) → (wrote : Wrote plan stop acts entries last) → (wrote_shown stop wrote).0 ≡ last
  unfolding wrote_shown all_shown
  shown_last BehindLine whole wrote = refl
  shown_last Denied whole wrote = refl
  shown_last SinkFailed whole wrote = absurd (whole tt)
  shown_last OutOfMemory whole wrote = absurd (whole tt)

pub driven_is_shown : DrivenIsShown
driven_is_shown plan stop handled left acts others made entries last driven =
    let written = driven_written plan stop handled left acts others made entries last driven in
    wrote_shown plan (handled ++ left) (flat_map (λ a. a) (acts ++ others)) entries last written.acts_of stop written.wrote

-- two parts of acts whose words are so
pub all_parts : (a b : List Act) → All IsWorded (a ++ b) → All IsWorded a × All IsWorded b
all_parts [] b all = (All-nil IsWorded, all)
all_parts (act ∷ a) b all =
    let later = all_parts a b (All-tail IsWorded act (a ++ b) all) in (All-cons IsWorded act a (All-head IsWorded act (a ++ b) all) later.0, later.1)

-- And it tells which messages were acknowledged.
module _ (plan : Plan) (kinds : List (Protocol × ℕ)) (acts : List Act) (entries : List Entry) (last : List Session) (worded : All IsWorded acts) (are : kinds ≡ flat_map opened_by acts) where
  all_acked : WroteAll plan acts entries last → AreAcked kinds acts entries []
  all_acked wrote =
      subst (λ (e : List Entry). AreAcked kinds acts e []) (sym wrote.written) (whole_acked plan kinds acts (all_of wrote.outputs) last
      (all_in_order plan kinds [] [] acts [] [] last wrote.outputs (none_in_order plan kinds) worded (are ∙ sym (append-nil (flat_map opened_by acts))) wrote.done))

  part_acked : WrotePart plan acts entries last → (unwritten : List Ack) × AreAcked kinds acts entries unwritten
  part_acked wrote =
      let end = wrote.end in
      let both = all_parts end.been (end.act ∷ []) (subst (All IsWorded) end.are worded) in
      let opens : kinds ≡ flat_map opened_by end.been ++ flat_map opened_by (end.act ∷ []) = are ∙ ap (flat_map opened_by) end.are ∙ flat_map-append opened_by end.been (end.act ∷ []) in
      let before = all_in_order plan kinds (flat_map opened_by (end.act ∷ [])) [] end.been [] [] end.mid wrote.before (none_in_order plan kinds) both.0 opens end.done in
      let acked = cut_acked plan kinds (flat_map opened_by (end.act ∷ [])) end.been (all_of wrote.before) wrote.says wrote.front wrote.missing end.mid last end.act before
      (All-head IsWorded end.act [] both.1) opens end.acted wrote.cut in (
        acked.0,
        subst (λ (e : List Entry). AreAcked kinds acts e acked.0) (sym wrote.written)
            (subst (λ (a : List Act). AreAcked kinds a (all_of wrote.before ++ wrote.front) acked.0) (sym end.are) acked.1),
      )

  pub wrote_acked : (stop : Stop) → Wrote plan stop acts entries last → (unwritten : List Ack) × MayBeUnwritten stop unwritten × AreAcked kinds acts entries unwritten
  wrote_acked BehindLine wrote = ([], refl, all_acked wrote)
  wrote_acked Denied wrote = ([], refl, all_acked wrote)
  wrote_acked SinkFailed wrote = ⊎_elim (λ all. ([], inl refl, all_acked all)) (λ part. let acked = part_acked part in (acked.0, acked.1.few, acked.1)) wrote
  wrote_acked OutOfMemory wrote = ⊎_elim (λ all. ([], inl refl, all_acked all)) (λ part. let acked = part_acked part in (acked.0, acked.1.few, acked.1)) wrote
