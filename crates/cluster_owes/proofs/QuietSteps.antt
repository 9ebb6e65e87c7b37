-- What is known stays known over a step of which no session hears, and over an answer that tells of no copy.
use Rattle.std.proofs.Common.{◌≡◌, ◌⊎◌, inl, inr, ⊎_elim, ℕ, Bool, List, [], ◌∷◌, ◌++◌, flat_map, Some, None, refl, sym, ap, ◌∙◌, subst, append-nil}
use Rattle.std.proofs.lemmas.List.Concat.{flat_map-append}
use Rattle.mail_model.specs.Identity.{Id}
use Rattle.mail_model.specs.Plan.{Plan}
use Rattle.mail_model.specs.Stored.{Ack, IsOnClock}
use Rattle.session_model.specs.Calls.{Call, Answer}
use Rattle.session_model.specs.Calls.Call.{Deliver, Login, Fetch, Strike}
use Rattle.session_model.specs.Calls.Answer.{Failed}
use Rattle.session_model.specs.Logs.{Asked, Answered}
use Rattle.session_model.specs.Books.{AmongAnswers, acks_by, dropped_by}
use Rattle.cluster_model.specs.Parts.{IsHeldSomewhere, Sound}
use Rattle.cluster_model.specs.World.{World, letters_of, cluster_of}
use Rattle.cluster_model.specs.WorldLaws.{InPlan, MayBring}
use Rattle.cluster_model.specs.Steps.{Step, Said, StepOutcome}
use Rattle.cluster_model.specs.Steps.NodeCall.{Leave, Deliver as DeliverCall, Login as LoginCall, Fetch as FetchCall, Strike as StrikeCall}
use Rattle.cluster_model.specs.Steps.Step.{Begin, AskFor, GiveUp, Post, DropLetter, PushTo, Widen, Form, Crash, Start, Lose, Tick}
use Rattle.cluster_model.specs.Steps.Said.{Finished}
use Rattle.cluster_model.specs.Steps.StepOutcome.{Says, Refused, NoMemory}
use Rattle.cluster_model.specs.Makes.{MakesStep}
use Rattle.cluster_model.proofs.Running.{steps_sound, steps_bring}
use Rattle.cluster_owes.specs.Outcomes.{IsIdleStep, BegunCall}
use Rattle.cluster_owes.proofs.WorldSteps.{OtherGoes, other_goes}
use Rattle.cluster_owes.proofs.Growing.{ClusterGrew, step_grew}
use Rattle.cluster_owes.proofs.Books.{IsBooked, AreMasked, masked_both, masked_none, book_lives, book_quiet}
use Rattle.cluster_owes.proofs.Known.{Filed, AnswerStands, TicketFits, AckStands, Known, HoldsNoMore, calls_still, tickets_still, numbered_still, filed_still, acks_still, answers_still}

-- what a step keeps in any case
pub record StepKept (plan : Plan) (old new : World) : Type 0 where
  pub in_plan : InPlan plan.nodes new.slots
  pub sound : Sound plan.confirm (cluster_of new)
  pub grew : ClusterGrew old.slots new.slots

pub step_kept : (plan : Plan) (tells : Bool) (old new : World) (step : Step) (outcome : StepOutcome) → MakesStep plan tells old step outcome new → InPlan plan.nodes old.slots → Sound plan.confirm (cluster_of old)
    → StepKept plan old new
step_kept plan tells old new step outcome made p s =
    let both = steps_sound plan tells old new (record { step = step; outcome = outcome } ∷ []) (new, made, refl) p s in
    record { in_plan = both.0; sound = both.1; grew = step_grew plan tells old new step outcome made p s }

-- the files, with none more
same_files : (files : List Filed) → files ++ [] ≡ files
same_files [] = refl
same_files (f ∷ files) = ap (λ (l : List Filed). f ∷ l) (same_files files)

pub known_quiet : (plan : Plan) (tells : Bool) (lines : List (List ℕ)) (asked : List Asked) (answered : List Answered) (begun : List BegunCall) (old new : World)
    → Known plan tells lines asked answered begun old → StepKept plan old new → OtherGoes old new → HoldsNoMore old new → Known plan tells lines asked answered begun new
known_quiet plan tells lines asked answered begun old new known kept other no_more = record {
  in_plan = kept.in_plan;
  sound = kept.sound;
  clock = subst (IsOnClock lines) (sym other.goes.seconds) known.clock;
  told = known.told;
  told_are = known.told_are;
  book_is = subst (IsBooked lines asked answered known.told) (sym other.goes.book) (book_lives lines asked answered known.told old.book other.entries other.lives known.book_is);
  masked = subst (λ b. AreMasked b) (sym other.goes.book) (masked_both old.book other.entries known.masked (masked_none other.entries other.lives.acked other.lives.dropped));
  files = known.files;
  apart = known.apart;
  filed = λ f m. filed_still plan tells lines asked answered begun old new known kept.grew (λ n. ⊥) other.goes.tickets (λ n w none. none) f m (λ octets h. (known.filed f m).held octets (no_more f.id octets h));
  calls = λ one m. calls_still plan tells lines asked answered begun old new known kept.grew (λ n. ⊥) other.goes.tickets (λ n w none. none) one m;
  tickets = λ one ticket m s. subst (λ files. TicketFits lines files one one.call ticket) (same_files known.files)
      (tickets_still plan tells lines asked answered begun old new known kept.grew (λ n. ⊥) other.goes.tickets (λ n w none. none) [] one ticket m s);
  numbered = λ number ticket s. numbered_still plan tells lines asked answered begun old new known kept.grew (λ n. ⊥) other.goes.tickets (λ n w none. none) (λ n none. absurd none) number ticket s;
  acks = λ ack m. subst (λ files. AckStands lines new files ack) (same_files known.files)
      (acks_still plan tells lines asked answered begun old new known kept.grew (λ n. ⊥) other.goes.tickets (λ n w none. none) [] ack m);
  other_ids = known.other_ids;
  answers = λ one m. answers_still plan tells lines asked answered begun old new known kept.grew (λ n. ⊥) other.goes.tickets (λ n w none. none) one m;
}

-- such a step brings no octets
same_holds : (old new : World) → new ≡ old → HoldsNoMore old new
same_holds old new same id octets h = subst (λ (w : World). IsHeldSomewhere w.slots (letters_of w.flying) id octets) same h

other_brings : (old : World) (step : Step) (said : Said) → IsIdleStep step (Says said) → (id : Id) (octets : List ℕ) → MayBring old step id octets → ⊥
other_brings old (Begin node (Leave user login manager)) said other id octets m = m
other_brings old (Begin node (DeliverCall mail)) said other id octets m = other
other_brings old (Begin node (LoginCall user proof)) said other id octets m = other
other_brings old (Begin node (FetchCall user one from most holders)) said other id octets m = other
other_brings old (Begin node (StrikeCall user items)) said other id octets m = other
other_brings old (AskFor ticket) said other id octets m = m
other_brings old (GiveUp ticket) said other id octets m = m
other_brings old (Post letter keep) said other id octets m = m
other_brings old (DropLetter letter) said other id octets m = m
other_brings old (PushTo from to) said other id octets m = m
other_brings old (Widen at user one to) said other id octets m = m
other_brings old (Form node) said other id octets m = m
other_brings old (Crash node) said other id octets m = m
other_brings old (Start node) said other id octets m = m
other_brings old (Lose node) said other id octets m = m
other_brings old (Tick seconds) said other id octets m = m

short_brings : (old : World) (step : Step) (n : ℕ) → IsIdleStep step (NoMemory (Some n)) → (id : Id) (octets : List ℕ) → MayBring old step id octets → ⊥
short_brings old (Begin node (Leave user login manager)) n other id octets m = m
short_brings old (Begin node (DeliverCall mail)) n other id octets m = other
short_brings old (Begin node (LoginCall user proof)) n other id octets m = other
short_brings old (Begin node (FetchCall user one from most holders)) n other id octets m = other
short_brings old (Begin node (StrikeCall user items)) n other id octets m = other
short_brings old (AskFor ticket) n other id octets m = m
short_brings old (GiveUp ticket) n other id octets m = m
short_brings old (Post letter keep) n other id octets m = m
short_brings old (DropLetter letter) n other id octets m = m
short_brings old (PushTo from to) n other id octets m = m
short_brings old (Widen at user one to) n other id octets m = m
short_brings old (Form node) n other id octets m = m
short_brings old (Crash node) n other id octets m = m
short_brings old (Start node) n other id octets m = m
short_brings old (Lose node) n other id octets m = m
short_brings old (Tick seconds) n other id octets m = m

pub no_brings : (plan : Plan) (tells : Bool) (old new : World) (step : Step) (outcome : StepOutcome) → ((id : Id) (octets : List ℕ) → MayBring old step id octets → ⊥) → MakesStep plan tells old step outcome new
    → InPlan plan.nodes old.slots → Sound plan.confirm (cluster_of old) → HoldsNoMore old new
no_brings plan tells old new step outcome none made p s id octets h = ⊎_elim (λ was. was) (λ may. absurd (none id octets may)) (steps_bring plan tells old new step outcome made p s id octets h)

other_holds : (plan : Plan) (tells : Bool) (old new : World) (step : Step) (outcome : StepOutcome) → IsIdleStep step outcome → MakesStep plan tells old step outcome new
    → InPlan plan.nodes old.slots → Sound plan.confirm (cluster_of old) → HoldsNoMore old new
other_holds plan tells old new step (Says said) other made p s = no_brings plan tells old new step (Says said) (other_brings old step said other) made p s
other_holds plan tells old new step (Refused fault) other made p s = same_holds old new made.1
other_holds plan tells old new step (NoMemory None) other made p s = same_holds old new made
other_holds plan tells old new step (NoMemory (Some n)) other made p s = no_brings plan tells old new step (NoMemory (Some n)) (short_brings old step n other) made p s

pub known_other : (plan : Plan) (tells : Bool) (lines : List (List ℕ)) (asked : List Asked) (answered : List Answered) (begun : List BegunCall) (old new : World) (step : Step) (outcome : StepOutcome)
    → IsIdleStep step outcome → MakesStep plan tells old step outcome new → Known plan tells lines asked answered begun old → Known plan tells lines asked answered begun new
known_other plan tells lines asked answered begun old new step outcome other made known = known_quiet plan tells lines asked answered begun old new known
    (step_kept plan tells old new step outcome made known.in_plan known.sound)
    (other_goes plan tells old new known.sound step outcome other made)
    (other_holds plan tells old new step outcome other made known.in_plan known.sound)

-- the clock is set
pub known_ticked : (plan : Plan) (tells : Bool) (lines : List (List ℕ)) (asked : List Asked) (answered : List Answered) (begun : List BegunCall) (old new : World) (seconds : ℕ)
    → IsOnClock lines seconds → MakesStep plan tells old (Tick seconds) (Says Finished) new → Known plan tells lines asked answered begun old → Known plan tells lines asked answered begun new
known_ticked plan tells lines asked answered begun old new seconds clock made known = subst (λ (w : World). Known plan tells lines asked answered begun w) (sym made.1.1) (record {
  in_plan = known.in_plan;
  sound = known.sound;
  clock = clock;
  told = known.told;
  told_are = known.told_are;
  book_is = known.book_is;
  masked = known.masked;
  files = known.files;
  apart = known.apart;
  filed = λ f m. let was = known.filed f m in
      record { drawn = was.drawn; stored = was.stored; held = was.held; ticket_drawn = was.ticket_drawn; within = was.within };
  calls = λ one m. let was = known.calls one m in record { sound = was.sound; drawn = was.drawn; within = was.within };
  tickets = known.tickets;
  numbered = known.numbered;
  acks = λ ack m. let was = known.acks ack m in record {
    file = was.file;
    inside = was.inside;
    same_id = was.same_id;
    same_mail = was.same_mail;
    seconds = was.seconds;
    clock = was.clock;
    kind = was.kind;
    ended = was.ended;
  };
  other_ids = known.other_ids;
  answers = known.answers;
})

-- one answer more
pub answers_either : (one last : Answered) (answered : List Answered) → AmongAnswers one (answered ++ last ∷ []) → AmongAnswers one answered ⊎ (last ≡ one)
answers_either one last [] m = ⊎_elim (λ is. inr is) (λ none. absurd none) m
answers_either one last (first ∷ answered) m = ⊎_elim (λ is. inl (inl is)) (λ later. ⊎_elim (λ a. inl (inr a)) (λ is. inr is) (answers_either one last answered later)) m

same_acks : (answered : List Answered) (one : Answered) → acks_by one ≡ [] → flat_map acks_by (answered ++ one ∷ []) ≡ flat_map acks_by answered
same_acks answered one none = flat_map-append acks_by answered (one ∷ []) ∙ ap (λ (l : List Ack). flat_map acks_by answered ++ (l ++ [])) none ∙ append-nil (flat_map acks_by answered)

pub known_answered : (plan : Plan) (tells : Bool) (lines : List (List ℕ)) (asked : List Asked) (answered : List Answered) (begun : List BegunCall) (w : World) (k : ℕ) (one : Call) (answer : Answer)
    → dropped_by one answer ≡ [] → acks_by (record { session = k; call = one; answer = answer }) ≡ [] → AnswerStands tells w.slots one answer
    → Known plan tells lines asked answered begun w → Known plan tells lines asked (answered ++ record { session = k; call = one; answer = answer } ∷ []) begun w
known_answered plan tells lines asked answered begun w k one answer no_drop no_ack stands known = record {
  in_plan = known.in_plan;
  sound = known.sound;
  clock = known.clock;
  told = known.told;
  told_are = known.told_are ∙ sym (same_acks answered last no_ack);
  book_is = subst (IsBooked lines asked (answered ++ last ∷ []) known.told) (append-nil w.book) (book_quiet lines asked answered known.told w.book [] k known.book_is one answer no_drop refl refl refl);
  masked = known.masked;
  files = known.files;
  apart = known.apart;
  filed = known.filed;
  calls = known.calls;
  tickets = known.tickets;
  numbered = known.numbered;
  acks = known.acks;
  other_ids = known.other_ids;
  answers = λ other m. ⊎_elim
      (λ old. known.answers other old)
      (λ is. subst (λ (a : Answered). AnswerStands tells w.slots a.call a.answer) is stands)
      (answers_either other last answered m);
}
  where
    last : Answered
    last = record { session = k; call = one; answer = answer }

-- a call has failed
pub failed_drops : (one : Call) → dropped_by one Failed ≡ []
failed_drops (Deliver mail) = refl
failed_drops (Login user given) = refl
failed_drops (Fetch user id) = refl
failed_drops (Strike user ids) = refl

pub failed_acks : (k : ℕ) (one : Call) → acks_by (record { session = k; call = one; answer = Failed }) ≡ []
failed_acks k (Deliver mail) = refl
failed_acks k (Login user given) = refl
failed_acks k (Fetch user id) = refl
failed_acks k (Strike user ids) = refl

pub failed_stands : (tells : Bool) (w : World) (one : Call) → AnswerStands tells w.slots one Failed
failed_stands tells w (Deliver mail) = (tt, tt)
failed_stands tells w (Login user given) = (tt, tt)
failed_stands tells w (Fetch user id) = (tt, tt)
failed_stands tells w (Strike user ids) = (tt, tt)
