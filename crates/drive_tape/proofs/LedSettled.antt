-- What acts lead to at the end of a run: readers to outcomes of readers, and which epoch the outcomes show.
use Rattle.std.proofs.Common.{◌≡◌, ◌⊎◌, ⊎_elim, inl, inr, ℕ, List, [], ◌∷◌, ◌++◌, flat_map, Option, Some, None, Result, Ok, Err, refl, sym, ap, ◌∙◌, subst, append-nil, append_assoc}
use Rattle.std.specs.Prelude.{All, ⊤}
use Rattle.std.proofs.lemmas.List.Elements.{All-nil, All-cons, All-head, All-tail, All-append}
use Rattle.object_model.specs.Letters.{Number}
use Rattle.object_model.specs.Lists.{Among}
use Rattle.object_model.proofs.Lists.{among_front, among_behind, among_either}
use Rattle.object_model.specs.Sets.{nodes_in}
use Rattle.mail_model.specs.Identity.{EpochId}
use Rattle.mail_model.specs.Plan.{Plan}
use Rattle.mail_model.specs.Tape.{ClusterOrder}
use Rattle.mail_model.specs.Tape.{ClusterOrder as order}
use Rattle.session_model.specs.Sums.{BookSum}
use Rattle.session_model.specs.Calls.{Call}
use Rattle.session_model.specs.Talk.{Exchange}
use Rattle.session_model.specs.Events.{ClusterEvent}
use Rattle.session_model.specs.Events.ClusterEvent.{HasFlowed, HasFormed, HasSettled, WasAbsent, HasMapped, HasFaulted}
use Rattle.session_model.specs.Acts.{Act}
use Rattle.session_model.specs.Acts.Act.{Opens, Does, Faults, StillWaits, Leaves, Makes, Abandons}
use Rattle.session_model.specs.Acts.Deed.{IsFed, Hears, IsAnswered, IsGivenUp, Falls, Closes}
use Rattle.session_model.specs.Books.{AmongAnswers}
use Rattle.session_model.specs.Logs.{Answered, answered_by}
use Rattle.cluster_world.specs.Made.{StepMade}
use Rattle.cluster_world.specs.Outcomes.{Outcome, map_seen}
use Rattle.cluster_world.specs.Outcomes.Outcome.{Began, Refused, Fell, Broke, Answers, StillPending, Unanswered, GaveUp, Abandoned, KeptUp, Left, Moved, Settling, Mapped}
use Rattle.cluster_world.specs.Regroups.{AllWentOn}
use Rattle.cluster_world.specs.declared.fault.StepFault.{StepFault}
use Rattle.cluster_world.specs.declared.settling.Settle.{Settle}
use Rattle.cluster_world.specs.declared.settling.Settle.TheVariants as settle
use Rattle.fresh_sessions.specs.Acts.{IsReadCall, IsReaderAct, FormsNone, ShowsMembers, ShowsMembers as shows}
use Rattle.settled_worlds.specs.Settled.{IsReaderOutcome, MakesNone, MembersMade, MembersMade as made}
use Rattle.drive_tape.specs.Led.{Led, AreLed, Begins, WentWell, TellsMove, TellsSettle}
use Rattle.drive_tape.specs.Led.TellsMove.{OfSteps, OfSettle, OfMap}

-- ---- parts of acts, and what each part led to

pub record LedApart (plan : Plan) (been : List Act) (before : List Outcome) (xs ys : List Act) (outcomes : List Outcome) : Type 0 where
  pub front : List Outcome
  pub back : List Outcome
  pub are : outcomes ≡ front ++ back
  pub first : AreLed plan been before xs front
  pub then_more : AreLed plan (been ++ xs) (before ++ front) ys back

pub led_apart : (plan : Plan) (been : List Act) (before : List Outcome) (xs ys : List Act) (outcomes : List Outcome) → AreLed plan been before (xs ++ ys) outcomes → LedApart plan been before xs ys outcomes
led_apart plan been before [] ys outcomes led = record {
  front = [];
  back = outcomes;
  are = refl;
  first = refl;
  then_more = subst (λ (d : List Act). AreLed plan d (before ++ []) ys outcomes) (sym (append-nil been)) (subst (λ (os : List Outcome). AreLed plan been os ys outcomes) (sym (append-nil before)) led);
}
led_apart plan been before (act ∷ xs) ys outcomes (own, others, are, led, more) =
    let rest = led_apart plan (been ++ act ∷ []) (before ++ own) xs ys others more in
    record {
      front = own ++ rest.front;
      back = rest.back;
      are = are ∙ ap (λ (l : List Outcome). own ++ l) rest.are ∙ sym (append_assoc own rest.front rest.back);
      first = (own, rest.front, refl, led, rest.first);
      then_more = subst (λ (d : List Act). AreLed plan d (before ++ (own ++ rest.front)) ys rest.back) (append_assoc been (act ∷ []) xs)
          (subst (λ (os : List Outcome). AreLed plan ((been ++ act ∷ []) ++ xs) os ys rest.back) (append_assoc before own rest.front) rest.then_more);
    }

-- ---- the acts of readers

-- a call in which its node fell
abbrev pub IsFall : Outcome → Type 0
IsFall (Fell k node asked) = ⊤
IsFall outcome = ⊥

-- an outcome of readers, or such a call
abbrev pub ReadsOrFalls : Outcome → Type 0
ReadsOrFalls outcome = IsReaderOutcome outcome ⊎ IsFall outcome

none_reads : (own : List Outcome) → own ≡ [] → All ReadsOrFalls own
none_reads own is = subst (All ReadsOrFalls) (sym is) (All-nil ReadsOrFalls)

one_reads : (own : List Outcome) (outcome : Outcome) → own ≡ outcome ∷ [] → ReadsOrFalls outcome → All ReadsOrFalls own
one_reads own outcome is reads = subst (All ReadsOrFalls) (sym is) (All-cons ReadsOrFalls outcome [] reads (All-nil ReadsOrFalls))

call_reads : (k : ℕ) (call : Option Call) (own : List Outcome) → IsReadCall call → Begins k call own → All ReadsOrFalls own
call_reads k None own reads none = none_reads own none
call_reads k (Some asked) own reads (node, inl (ticket, are)) = one_reads own (Began k node asked ticket) are (inl reads)
call_reads k (Some asked) own reads (node, inr are) = one_reads own (Fell k node asked) are (inr tt)

all_went : (steps : List StepMade) → WentWell steps → AllWentOn steps
all_went [] well = tt
all_went (one ∷ steps) well = (well.0, all_went steps well.1)

flow_reads : (up : List ℕ) (outcome : Outcome) → TellsMove up order.Flow HasFlowed outcome → ReadsOrFalls outcome
flow_reads up outcome (OfSteps steps sum is tells) = inl (subst IsReaderOutcome (sym is) (all_went steps tells))
flow_reads up outcome (OfSettle result steps settles is tells) = absurd (let never : order.Flow ≡ order.Settle = settles in cc)
flow_reads up outcome (OfMap user told maps is tells) = absurd (let never : order.Flow ≡ order.Maps user = maps in cc)

act_reads : (plan : Plan) (been : List Act) (before : List Outcome) (act : Act) (own : List Outcome) → IsReaderAct act → Led plan been before act own → All ReadsOrFalls own
act_reads plan been before (Opens protocol node greeting) own is led = none_reads own led
act_reads plan been before (Does k (IsFed octets)) own is led = none_reads own led
act_reads plan been before (Does k (Hears one)) own is led = call_reads k one.call own is led
act_reads plan been before (Does k (IsAnswered call answer reply)) own is led = one_reads own (Answers k call led.0 answer) led.1 (inl is)
act_reads plan been before (Does k (IsGivenUp call reply)) own is led = absurd is
act_reads plan been before (Does k Falls) own is led = none_reads own led
act_reads plan been before (Does k Closes) own is led = none_reads own led
act_reads plan been before (Faults node) own is led = absurd is
act_reads plan been before (StillWaits k) own is led = one_reads own (StillPending k led.0) led.1 (inl tt)
act_reads plan been before (Leaves k user) own is led = one_reads own (Left k led.0 user) led.1 (inl tt)
act_reads plan been before (Makes order.Flow HasFlowed) own is led = one_reads own led.0 led.1 (flow_reads _ led.0 led.2)
act_reads plan been before (Makes asked event) own is led = absurd is
act_reads plan been before (Abandons k) own is led = absurd is

pub acts_read : (plan : Plan) (been : List Act) (before : List Outcome) (acts : List Act) (outcomes : List Outcome) → All IsReaderAct acts → AreLed plan been before acts outcomes → All ReadsOrFalls outcomes
acts_read plan been before [] outcomes readers none = none_reads outcomes none
acts_read plan been before (act ∷ acts) outcomes readers (own, others, are, led, more) =
    subst (All ReadsOrFalls) (sym are) (All-append ReadsOrFalls own others (act_reads plan been before act own (All-head IsReaderAct act acts readers) led)
    (acts_read plan (been ++ act ∷ []) (before ++ own) acts others (All-tail IsReaderAct act acts readers) more))

-- where no node fell, all are outcomes of readers
pub all_read : (outcomes : List Outcome) → All ReadsOrFalls outcomes → ((k node : ℕ) (asked : Call) → Among (Fell k node asked) outcomes → ⊥) → All IsReaderOutcome outcomes
all_read [] all stand = All-nil IsReaderOutcome
all_read (outcome ∷ outcomes) all stand = All-cons IsReaderOutcome outcome outcomes
    (⊎_elim (λ reads. reads) (λ falls. absurd (fallen outcome falls (λ k node asked same. stand k node asked (inl same)))) (All-head ReadsOrFalls outcome outcomes all))
    (all_read outcomes (All-tail ReadsOrFalls outcome outcomes all) (λ k node asked among. stand k node asked (inr among)))
  where
    fallen : (one : Outcome) → IsFall one → ((k node : ℕ) (asked : Call) → one ≡ Fell k node asked → ⊥) → ⊥
    fallen (Fell k node asked) falls never = never k node asked refl
    fallen other falls never = falls

-- ---- whose epoch it is

none_none : (own : List Outcome) → own ≡ [] → All MakesNone own
none_none own is = subst (All MakesNone) (sym is) (All-nil MakesNone)

one_none : (own : List Outcome) (outcome : Outcome) → own ≡ outcome ∷ [] → MakesNone outcome → All MakesNone own
one_none own outcome is none = subst (All MakesNone) (sym is) (All-cons MakesNone outcome [] none (All-nil MakesNone))

call_none : (k : ℕ) (call : Option Call) (own : List Outcome) → Begins k call own → All MakesNone own
call_none k None own none = none_none own none
call_none k (Some asked) own (node, inl (ticket, are)) = one_none own (Began k node asked ticket) are tt
call_none k (Some asked) own (node, inr are) = one_none own (Fell k node asked) are tt

moved_none : (asked : ClusterOrder) (event : ClusterEvent) (steps : List StepMade) (sum : BookSum) (up : List ℕ) → FormsNone (Makes asked event) → MakesNone (Moved asked steps sum up)
moved_none (order.Conclude node) event steps sum up none = none
moved_none (order.Regroup node) event steps sum up none = none
moved_none asked event steps sum up none = tt

tells_none : (up : List ℕ) (asked : ClusterOrder) (event : ClusterEvent) (outcome : Outcome) → FormsNone (Makes asked event) → TellsMove up asked event outcome → MakesNone outcome
tells_none up asked event outcome none (OfSteps steps sum is tells) = subst MakesNone (sym is) (moved_none asked event steps sum up none)
tells_none up asked event outcome none (OfSettle result steps settles is tells) = subst MakesNone (sym is) tt
tells_none up asked event outcome none (OfMap user told maps is tells) = subst MakesNone (sym is) tt

act_none : (plan : Plan) (been : List Act) (before : List Outcome) (act : Act) (own : List Outcome) → FormsNone act → Led plan been before act own → All MakesNone own
act_none plan been before (Opens protocol node greeting) own none led = none_none own led
act_none plan been before (Does k (IsFed octets)) own none led = none_none own led
act_none plan been before (Does k (Hears one)) own none led = call_none k one.call own led
act_none plan been before (Does k (IsAnswered call answer reply)) own none led = one_none own (Answers k call led.0 answer) led.1 tt
act_none plan been before (Does k (IsGivenUp call reply)) own none led = one_none own (GaveUp k call led.0) led.1 tt
act_none plan been before (Does k Falls) own none led = none_none own led
act_none plan been before (Does k Closes) own none led = none_none own led
act_none plan been before (Faults node) own none led = none_none own led.0
act_none plan been before (StillWaits k) own none led = one_none own (StillPending k led.0) led.1 tt
act_none plan been before (Leaves k user) own none led = one_none own (Left k led.0 user) led.1 tt
act_none plan been before (Makes asked event) own none led = one_none own led.0 led.1 (tells_none _ asked event led.0 none led.2)
act_none plan been before (Abandons k) own none led = one_none own (Abandoned k led.0 led.1) led.2 tt

all_none : (plan : Plan) (been : List Act) (before : List Outcome) (acts : List Act) (outcomes : List Outcome) → All FormsNone acts → AreLed plan been before acts outcomes → All MakesNone outcomes
all_none plan been before [] outcomes none led = none_none outcomes led
all_none plan been before (act ∷ acts) outcomes none (own, others, are, led, more) =
    subst (All MakesNone) (sym are) (All-append MakesNone own others (act_none plan been before act own (All-head FormsNone act acts none) led)
    (all_none plan (been ++ act ∷ []) (before ++ own) acts others (All-tail FormsNone act acts none) more))

-- the regroup that formed the last epoch
formed_made : (plan : Plan) (front behind : List Outcome) (outcomes : List Outcome) (members up : List ℕ) (node : ℕ) (epoch : EpochId) (outcome : Outcome) → outcomes ≡ front ++ outcome ∷ behind → All MakesNone behind
    → TellsMove up (order.Regroup node) (HasFormed epoch members) outcome → MembersMade plan outcomes members
formed_made plan front behind outcomes members up node epoch outcome are none (OfSteps steps sum is (mask, forms, begins, named)) =
    made.ByRegroup front behind node steps sum up epoch mask (are ∙ ap (λ (o : Outcome). front ++ o ∷ behind) is) forms named none
formed_made plan front behind outcomes members up node epoch outcome are none (OfSettle result steps settles is tells) = absurd (let never : order.Regroup node ≡ order.Settle = settles in cc)
formed_made plan front behind outcomes members up node epoch outcome are none (OfMap user told maps is tells) = absurd (let never : order.Regroup node ≡ order.Maps user = maps in cc)

pub members_made : (plan : Plan) (acts : List Act) (outcomes : List Outcome) (members : List ℕ) → AreLed plan [] [] acts outcomes → ShowsMembers plan acts members → MembersMade plan outcomes members
members_made plan acts outcomes members led (shows.AtOpening are none) = made.AtOpening are (all_none plan [] [] acts outcomes none led)
members_made plan acts outcomes members led (shows.ByRegroup before behind node epoch is none) =
    let parts = led_apart plan [] [] before (Makes (order.Regroup node) (HasFormed epoch members) ∷ behind) outcomes (subst (λ (l : List Act). AreLed plan [] [] l outcomes) is led) in
    let (own, others, are, one, more) = parts.then_more in
    formed_made plan parts.front others outcomes members _ node epoch one.0 (parts.are ∙ ap (λ (l : List Outcome). parts.front ++ l) (are ∙ ap (λ (l : List Outcome). l ++ others) one.1))
    (all_none plan _ _ behind others none more) one.2

-- ---- what a settle and a map led to

pub settle_made : (up : List ℕ) (outcome : Outcome) → ((steps : List StepMade) (sum : BookSum) → outcome ≡ Moved order.Settle steps sum up → ⊥) → TellsMove up order.Settle HasSettled outcome
    → (steps : List StepMade) × (outcome ≡ Settling (Ok settle.Settled) steps)
settle_made up outcome unmoved (OfSteps steps sum is tells) = absurd (unmoved steps sum is)
settle_made up outcome unmoved (OfSettle result steps settles is tells) = (steps, is ∙ ap (λ (r : Result Settle StepFault). Settling r steps) (by result tells))
  where
    by : (result : Result Settle StepFault) → TellsSettle result HasSettled → result ≡ Ok settle.Settled
    by (Ok settle.Settled) tells = refl
    by (Ok (settle.NotAllUp member)) tells = absurd (let never : HasSettled ≡ WasAbsent member = tells in cc)
    by (Ok (settle.Fault failed)) tells = absurd (let never : HasSettled ≡ HasFaulted failed = tells in cc)
    by (Err why) tells = absurd tells
settle_made up outcome unmoved (OfMap user told maps is tells) = absurd (let never : order.Settle ≡ order.Maps user = maps in cc)

pub record MapMade (outcome : Outcome) (user : List ℕ) (told : Option (ℕ × List ℕ)) : Type 0 where
  pub names : Option (ℕ × ℕ)
  pub is : outcome ≡ Mapped user names
  pub tells : told ≡ map_seen names

pub map_made : (up user : List ℕ) (told : Option (ℕ × List ℕ)) (outcome : Outcome) → ((steps : List StepMade) (sum : BookSum) → outcome ≡ Moved (order.Maps user) steps sum up → ⊥)
    → TellsMove up (order.Maps user) (HasMapped user told) outcome → MapMade outcome user told
map_made up user told outcome unmoved (OfSteps steps sum is tells) = absurd (unmoved steps sum is)
map_made up user told outcome unmoved (OfSettle result steps settles is tells) = absurd (let never : order.Maps user ≡ order.Settle = settles in cc)
map_made up user told outcome unmoved (OfMap name names maps is tells) =
    record { names = names; is = is ∙ ap (λ (u : List ℕ). Mapped u names) (sym (own maps)); tells = mapped tells }
  where
    own : order.Maps user ≡ order.Maps name → user ≡ name
    own e = cc

    mapped : HasMapped user told ≡ HasMapped name (map_seen names) → told ≡ map_seen names
    mapped e = cc

-- ---- what acts answer, and which act begins a call

answers_apart : (one : Answered) (xs ys : List Answered) → AmongAnswers one (xs ++ ys) → AmongAnswers one xs ⊎ AmongAnswers one ys
answers_apart one [] ys among = inr among
answers_apart one (x ∷ xs) ys among = ⊎_elim (λ (same : x ≡ one). inl (inl same))
    (λ (rest : AmongAnswers one (xs ++ ys)). ⊎_elim (λ (l : AmongAnswers one xs). inl (inr l)) (λ (r : AmongAnswers one ys). inr r) (answers_apart one xs ys rest)) among

-- it was answered so
abbrev pub IsMade : Answered → List Outcome → Type 0
IsMade one outcomes = (ticket : Number) × Among (Answers one.session one.call ticket one.answer) outcomes

made_front : (one : Answered) (own others outcomes : List Outcome) → outcomes ≡ own ++ others → IsMade one own → IsMade one outcomes
made_front one own others outcomes are (ticket, among) =
    let answer : Outcome = Answers one.session one.call ticket one.answer in (ticket, subst (Among answer) (sym are) (among_front answer own others among))

made_behind : (one : Answered) (own others outcomes : List Outcome) → outcomes ≡ own ++ others → IsMade one others → IsMade one outcomes
made_behind one own others outcomes are (ticket, among) =
    let answer : Outcome = Answers one.session one.call ticket one.answer in (ticket, subst (Among answer) (sym are) (among_behind answer own others among))

act_answers : (plan : Plan) (been : List Act) (before : List Outcome) (act : Act) (own : List Outcome) (one : Answered) → IsReaderAct act → Led plan been before act own → AmongAnswers one (answered_by act) → IsMade one own
act_answers plan been before (Does k (IsAnswered call answer reply)) own one is (ticket, are) among = (
  ticket,
  subst (λ (a : Answered). Among (Answers a.session a.call ticket a.answer) own) (⊎_elim (λ (same : record { session = k; call = call; answer = answer } ≡ one). same) (λ none. absurd none) among)
      (subst (Among (Answers k call ticket answer)) (sym are) (inl refl)),
)
act_answers plan been before (Does k (IsGivenUp call reply)) own one is led among = absurd is
act_answers plan been before (Opens protocol node greeting) own one is led among = absurd among
act_answers plan been before (Does k (IsFed octets)) own one is led among = absurd among
act_answers plan been before (Does k (Hears heard)) own one is led among = absurd among
act_answers plan been before (Does k Falls) own one is led among = absurd among
act_answers plan been before (Does k Closes) own one is led among = absurd among
act_answers plan been before (Faults node) own one is led among = absurd among
act_answers plan been before (StillWaits k) own one is led among = absurd among
act_answers plan been before (Leaves k user) own one is led among = absurd among
act_answers plan been before (Makes asked event) own one is led among = absurd among
act_answers plan been before (Abandons k) own one is led among = absurd among

-- what readers are answered, the cluster answered
pub answers_made : (plan : Plan) (been : List Act) (before : List Outcome) (acts : List Act) (outcomes : List Outcome) (one : Answered) → All IsReaderAct acts → AreLed plan been before acts outcomes
    → AmongAnswers one (flat_map answered_by acts) → IsMade one outcomes
answers_made plan been before [] outcomes one readers led among = absurd among
answers_made plan been before (act ∷ acts) outcomes one readers (own, others, are, led, more) among = ⊎_elim
    (λ (here : AmongAnswers one (answered_by act)). made_front one own others outcomes are (act_answers plan been before act own one (All-head IsReaderAct act acts readers) led here))
    (λ (later : AmongAnswers one (flat_map answered_by acts)).
    made_behind one own others outcomes are (answers_made plan (been ++ act ∷ []) (before ++ own) acts others one (All-tail IsReaderAct act acts readers) more later))
    (answers_apart one (answered_by act) (flat_map answered_by acts) among)

-- the outcome is one of a call of session k: it has begun, or its node fell in it
abbrev pub IsCallOf : ℕ → Outcome → Type 0
IsCallOf k (Began j node asked ticket) = j ≡ k
IsCallOf k (Fell j node asked) = j ≡ k
IsCallOf k outcome = ⊥

none_called : {X : Type 0} (own : List Outcome) (outcome : Outcome) → own ≡ [] → Among outcome own → X
none_called own outcome is among = absurd (subst (Among outcome) is among)

one_called : (k : ℕ) (own : List Outcome) (outcome made_one : Outcome) → own ≡ made_one ∷ [] → Among outcome own → IsCallOf k outcome → IsCallOf k made_one
one_called k own outcome made_one is among calls =
    let there : Among outcome (made_one ∷ []) = subst (Among outcome) is among in
    ⊎_elim (λ (same : made_one ≡ outcome). subst (IsCallOf k) (sym same) calls) (λ none. absurd none) there

tells_call : {X : Type 0} (k : ℕ) (up : List ℕ) (asked : ClusterOrder) (event : ClusterEvent) (outcome : Outcome) → TellsMove up asked event outcome → IsCallOf k outcome → X
tells_call k up asked event outcome (OfSteps steps sum is tells) calls = absurd (subst (IsCallOf k) is calls)
tells_call k up asked event outcome (OfSettle result steps settles is tells) calls = absurd (subst (IsCallOf k) is calls)
tells_call k up asked event outcome (OfMap user told maps is tells) calls = absurd (subst (IsCallOf k) is calls)

heard_call : (k j : ℕ) (one : Exchange) (call : Option Call) (own : List Outcome) (outcome : Outcome) → Begins j call own → Among outcome own → IsCallOf k outcome → Does j (Hears one) ≡ Does k (Hears one)
heard_call k j one None own outcome none among calls = none_called own outcome none among
heard_call k j one (Some asked) own outcome (node, inl (ticket, are)) among calls = ap (λ (i : ℕ). Does i (Hears one)) (one_called k own outcome (Began j node asked ticket) are among calls)
heard_call k j one (Some asked) own outcome (node, inr are) among calls = ap (λ (i : ℕ). Does i (Hears one)) (one_called k own outcome (Fell j node asked) are among calls)

act_calls : (plan : Plan) (been : List Act) (before : List Outcome) (act : Act) (own : List Outcome) (k : ℕ) (outcome : Outcome) → Led plan been before act own → Among outcome own → IsCallOf k outcome
    → (one : Exchange) × (act ≡ Does k (Hears one))
act_calls plan been before (Does j (Hears one)) own k outcome led among calls = (one, heard_call k j one one.call own outcome led among calls)
act_calls plan been before (Opens protocol node greeting) own k outcome led among calls = none_called own outcome led among
act_calls plan been before (Does j (IsFed octets)) own k outcome led among calls = none_called own outcome led among
act_calls plan been before (Does j (IsAnswered call answer reply)) own k outcome led among calls = absurd (one_called k own outcome (Answers j call led.0 answer) led.1 among calls)
act_calls plan been before (Does j (IsGivenUp call reply)) own k outcome led among calls = absurd (one_called k own outcome (GaveUp j call led.0) led.1 among calls)
act_calls plan been before (Does j Falls) own k outcome led among calls = none_called own outcome led among
act_calls plan been before (Does j Closes) own k outcome led among calls = none_called own outcome led among
act_calls plan been before (Faults node) own k outcome led among calls = none_called own outcome led.0 among
act_calls plan been before (StillWaits j) own k outcome led among calls = absurd (one_called k own outcome (StillPending j led.0) led.1 among calls)
act_calls plan been before (Leaves j user) own k outcome led among calls = absurd (one_called k own outcome (Left j led.0 user) led.1 among calls)
act_calls plan been before (Makes asked event) own k outcome led among calls = tells_call k _ asked event led.0 led.2 (one_called k own outcome led.0 led.1 among calls)
act_calls plan been before (Abandons j) own k outcome led among calls = absurd (one_called k own outcome (Abandoned j led.0 led.1) led.2 among calls)

-- whoever's call it is, heard the unit that asks it
pub call_heard : (plan : Plan) (been : List Act) (before : List Outcome) (acts : List Act) (outcomes : List Outcome) (k : ℕ) (outcome : Outcome) → AreLed plan been before acts outcomes → Among outcome outcomes → IsCallOf k outcome
    → (one : Exchange) × Among (Does k (Hears one)) acts
call_heard plan been before [] outcomes k outcome led among calls = none_called outcomes outcome led among
call_heard plan been before (act ∷ acts) outcomes k outcome (own, others, are, led, more) among calls = ⊎_elim
    (λ (here : Among outcome own). let found = act_calls plan been before act own k outcome led here calls in (found.0, inl found.1))
    (λ (later : Among outcome others). let found = call_heard plan (been ++ act ∷ []) (before ++ own) acts others k outcome more later calls in (found.0, inr found.1))
    (among_either outcome own others (subst (Among outcome) are among))
