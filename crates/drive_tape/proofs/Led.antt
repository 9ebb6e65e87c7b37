-- What follows of acts and of what the cluster made of them.
use Rattle.std.proofs.Common.{◌≡◌, ◌⊎◌, ⊎_elim, inl, inr, ℕ, List, [], ◌∷◌, ◌++◌, map, flat_map, Option, Some, None, Err, refl, sym, ap, ◌∙◌, subst, append_assoc}
use Rattle.std.proofs.lemmas.List.{append-nil, map-append}
use Rattle.std.proofs.lemmas.Grind.{flat_map-append}
use Rattle.object_model.specs.Letters.{Number}
use Rattle.object_model.specs.Lists.{Among}
use Rattle.object_model.proofs.Lists.{among_front, among_behind}
use Rattle.mail_model.specs.Plan.{Plan}
use Rattle.session_model.specs.Calls.{Call}
use Rattle.session_model.specs.Talk.{Exchange}
use Rattle.session_model.specs.Acts.{Act}
use Rattle.session_model.specs.Acts.Act.{Opens, Does, Faults, StillWaits, Leaves, Makes, Abandons}
use Rattle.session_model.specs.Acts.Deed.{IsFed, Hears, IsAnswered, IsGivenUp, Falls, Closes}
use Rattle.mail_model.specs.Tape.{ClusterOrder}
use Rattle.session_model.specs.Events.{ClusterEvent}
use Rattle.session_model.specs.Logs.{Asked, asked_by, answered_by}
use Rattle.session_model.specs.Run.{Made, Stop, made_by}
use Rattle.session_model.specs.Run.Stop.{BehindLine, Denied, SinkFailed, OutOfMemory}
use Rattle.cluster_world.specs.Outcomes.{Outcome, made_of, asked_by_outcome, answered_by_outcome}
use Rattle.cluster_world.specs.Outcomes.Outcome.{Began, Refused, Fell, Broke, StillPending, Unanswered, KeptUp, Moved, Settling}
use Rattle.drive_tape.specs.Led.{Led, AreLed, AreLedTo, Begins, EndsWith, IsUntold, TellsMove, CameToNothing}
use Rattle.drive_tape.specs.Led.TellsMove.{OfSteps, OfSettle, OfMap}

-- one act
pub led_one : (plan : Plan) (been : List Act) (before : List Outcome) (act : Act) (own : List Outcome) → Led plan been before act own → AreLed plan been before (act ∷ []) own
led_one plan been before act own led = (own, [], sym (append-nil own), led, refl)

-- acts, and more of them
pub led_more : (plan : Plan) (been : List Act) (before : List Outcome) (acts : List Act) (outcomes : List Outcome) (others : List Act) (news : List Outcome) → AreLed plan been before acts outcomes
    → AreLed plan (been ++ acts) (before ++ outcomes) others news → AreLed plan been before (acts ++ others) (outcomes ++ news)
led_more plan been before [] outcomes others news none two =
    subst (λ (os : List Outcome). AreLed plan been before others (os ++ news)) (sym none)
    (subst (λ (os : List Outcome). AreLed plan been os others news) (ap (λ (l : List Outcome). before ++ l) none ∙ append-nil before)
    (subst (λ (d : List Act). AreLed plan d (before ++ outcomes) others news) (append-nil been) two))
led_more plan been before (act ∷ acts) outcomes others news (own, rest, are, led, more) two = (
  own,
  rest ++ news,
  ap (λ (l : List Outcome). l ++ news) are ∙ append_assoc own rest news,
  led,
  led_more plan (been ++ act ∷ []) (before ++ own) acts rest others news more
      (subst (λ (os : List Outcome). AreLed plan ((been ++ act ∷ []) ++ acts) os others news) (ap (λ (l : List Outcome). before ++ l) are ∙ sym (append_assoc before own rest))
      (subst (λ (d : List Act). AreLed plan d (before ++ outcomes) others news) (sym (append_assoc been (act ∷ []) acts)) two)),
)

-- all that was done is told of
pub to_whole : (stop : Stop) (plan : Plan) (been : List Act) (before : List Outcome) (acts : List Act) (outcomes : List Outcome) → AreLed plan been before acts outcomes → AreLedTo stop plan been before acts outcomes [] []
to_whole stop plan been before acts outcomes led = record {
  done = acts;
  last = [];
  acts_are = sym (append-nil acts);
  own = outcomes;
  rest = [];
  outcomes_are = sym (append-nil outcomes);
  led = led;
  ends = (refl, refl);
}

pub to_none : (stop : Stop) (plan : Plan) (been : List Act) (before : List Outcome) → AreLedTo stop plan been before [] [] [] []
to_none stop plan been before = to_whole stop plan been before [] [] refl

-- a step more was made, of which no act tells
pub to_untold : (stop : Stop) (plan : Plan) (been : List Act) (before : List Outcome) (outcome : Outcome) → IsUntold outcome → AreLedTo stop plan been before [] (outcome ∷ []) [] (made_of outcome ∷ [])
to_untold stop plan been before outcome untold = record { done = []; last = []; acts_are = refl; own = []; rest = outcome ∷ []; outcomes_are = refl; led = refl; ends = (untold, refl, refl) }

-- nothing came of the last call
pub to_nothing : (plan : Plan) (been : List Act) (before : List Outcome) (k : ℕ) (one : Exchange) (asked : Call) (outcome : Outcome) (lacking : List Asked) → one.call ≡ Some asked → CameToNothing k asked outcome lacking
    → AreLedTo OutOfMemory plan been before (Does k (Hears one) ∷ []) (outcome ∷ []) lacking []
to_nothing plan been before k one asked outcome lacking asks nothing = record {
  done = [];
  last = Does k (Hears one) ∷ [];
  acts_are = refl;
  own = [];
  rest = outcome ∷ [];
  outcomes_are = refl;
  led = refl;
  ends = (asked, asks, nothing, refl, refl);
}

pub to_more : (stop : Stop) (plan : Plan) (been : List Act) (before : List Outcome) (acts : List Act) (outcomes : List Outcome) (others : List Act) (news : List Outcome) (lacking : List Asked) (extra : List Made)
    → AreLed plan been before acts outcomes → AreLedTo stop plan (been ++ acts) (before ++ outcomes) others news lacking extra → AreLedTo stop plan been before (acts ++ others) (outcomes ++ news) lacking extra
to_more stop plan been before acts outcomes others news lacking extra one two = record {
  done = acts ++ two.done;
  last = two.last;
  acts_are = ap (λ (l : List Act). acts ++ l) two.acts_are ∙ sym (append_assoc acts two.done two.last);
  own = outcomes ++ two.own;
  rest = two.rest;
  outcomes_are = ap (λ (l : List Outcome). outcomes ++ l) two.outcomes_are ∙ sym (append_assoc outcomes two.own two.rest);
  led = led_more plan been before acts outcomes two.done two.own one two.led;
  ends = two.ends;
}

-- What was made, asked and answered, in order. A call that came to nothing is asked, and none of the cluster: it is lacking.
pub record AreLinked (acts : List Act) (outcomes : List Outcome) (lacking : List Asked) (extra : List Made) : Type 0 where
  pub made : map made_of outcomes ≡ flat_map made_by acts ++ extra
  pub asked : flat_map asked_by acts ≡ flat_map asked_by_outcome outcomes ++ lacking
  pub answered : flat_map answered_by acts ≡ flat_map answered_by_outcome outcomes

linked_more : (acts others : List Act) (outcomes news : List Outcome) (lacking : List Asked) (extra : List Made) → AreLinked acts outcomes [] [] → AreLinked others news lacking extra
    → AreLinked (acts ++ others) (outcomes ++ news) lacking extra
linked_more acts others outcomes news lacking extra one two = record {
  made = map-append made_of outcomes news ∙ ap (λ l. l ++ map made_of news) (one.made ∙ append-nil _) ∙ ap (λ l. flat_map made_by acts ++ l) two.made
      ∙ sym (append_assoc (flat_map made_by acts) (flat_map made_by others) extra) ∙ ap (λ l. l ++ extra) (sym (flat_map-append made_by acts others));
  asked = flat_map-append asked_by acts others ∙ ap (λ l. l ++ flat_map asked_by others) (one.asked ∙ append-nil _) ∙ ap (λ l. flat_map asked_by_outcome outcomes ++ l) two.asked
      ∙ sym (append_assoc (flat_map asked_by_outcome outcomes) (flat_map asked_by_outcome news) lacking) ∙ ap (λ l. l ++ lacking) (sym (flat_map-append asked_by_outcome outcomes news));
  answered = flat_map-append answered_by acts others ∙ ap (λ l. l ++ flat_map answered_by others) one.answered ∙ ap (λ l. flat_map answered_by_outcome outcomes ++ l) two.answered
      ∙ sym (flat_map-append answered_by_outcome outcomes news);
}

hears_linked : (k : ℕ) (one : Exchange) (call : Option Call) (own : List Outcome) → one.call ≡ call → Begins k one.call own → AreLinked (Does k (Hears one) ∷ []) own [] []
hears_linked k one None own is led = by (subst (λ (c : Option Call). Begins k c own) is led)
  where
    by : own ≡ [] → AreLinked (Does k (Hears one) ∷ []) own [] []
    by none = subst (λ (os : List Outcome). AreLinked (Does k (Hears one) ∷ []) os [] []) (sym none) (record { made = rw is refl; asked = rw is refl; answered = refl })
hears_linked k one (Some asked) own is led = by (subst (λ (c : Option Call). Begins k c own) is led)
  where
    by : (node : ℕ) × (((ticket : Number) × (own ≡ Began k node asked ticket ∷ [])) ⊎ (own ≡ Fell k node asked ∷ [])) → AreLinked (Does k (Hears one) ∷ []) own [] []
    by (node, inl (ticket, are)) = subst (λ (os : List Outcome). AreLinked (Does k (Hears one) ∷ []) os [] []) (sym are) (record { made = rw is refl; asked = rw is refl; answered = refl })
    by (node, inr are) = subst (λ (os : List Outcome). AreLinked (Does k (Hears one) ∷ []) os [] []) (sym are) (record { made = rw is refl; asked = rw is refl; answered = refl })

told_linked : (up : List ℕ) (asked : ClusterOrder) (event : ClusterEvent) (outcome : Outcome) → TellsMove up asked event outcome → AreLinked (Makes asked event ∷ []) (outcome ∷ []) [] []
told_linked up asked event outcome (OfSteps steps sum is tells) =
    subst (λ (o : Outcome). AreLinked (Makes asked event ∷ []) (o ∷ []) [] []) (sym is) (record { made = refl; asked = refl; answered = refl })
told_linked up asked event outcome (OfSettle result steps settles is tells) =
    subst (λ (o : Outcome). AreLinked (Makes asked event ∷ []) (o ∷ []) [] []) (sym is) (record { made = ap (λ (o : ClusterOrder). Made.Moves o ∷ []) (sym settles); asked = refl; answered = refl })
told_linked up asked event outcome (OfMap user told maps is tells) =
    subst (λ (o : Outcome). AreLinked (Makes asked event ∷ []) (o ∷ []) [] []) (sym is) (record { made = ap (λ (o : ClusterOrder). Made.Moves o ∷ []) (sym maps); asked = refl; answered = refl })

one_linked : (plan : Plan) (been : List Act) (before : List Outcome) (act : Act) (own : List Outcome) → Led plan been before act own → AreLinked (act ∷ []) own [] []
one_linked plan been before (Does k (Hears one)) own led = hears_linked k one one.call own refl led
one_linked plan been before (Opens protocol node greeting) own led = subst (λ (os : List Outcome). AreLinked (Opens protocol node greeting ∷ []) os [] []) (sym led) (record { made = refl; asked = refl; answered = refl })
one_linked plan been before (Does k (IsAnswered call answer reply)) own led = subst (λ (os : List Outcome). AreLinked (Does k (IsAnswered call answer reply) ∷ []) os [] []) (sym led.1) (record { made = refl; asked = refl; answered = refl })
one_linked plan been before (Does k (IsGivenUp call reply)) own led = subst (λ (os : List Outcome). AreLinked (Does k (IsGivenUp call reply) ∷ []) os [] []) (sym led.1) (record { made = refl; asked = refl; answered = refl })
one_linked plan been before (Does k (IsFed octets)) own led = subst (λ (os : List Outcome). AreLinked (Does k (IsFed octets) ∷ []) os [] []) (sym led) (record { made = refl; asked = refl; answered = refl })
one_linked plan been before (Does k Falls) own led = subst (λ (os : List Outcome). AreLinked (Does k Falls ∷ []) os [] []) (sym led) (record { made = refl; asked = refl; answered = refl })
one_linked plan been before (Does k Closes) own led = subst (λ (os : List Outcome). AreLinked (Does k Closes ∷ []) os [] []) (sym led) (record { made = refl; asked = refl; answered = refl })
one_linked plan been before (Faults node) own led = subst (λ (os : List Outcome). AreLinked (Faults node ∷ []) os [] []) (sym led.0) (record { made = refl; asked = refl; answered = refl })
one_linked plan been before (StillWaits k) own led = subst (λ (os : List Outcome). AreLinked (StillWaits k ∷ []) os [] []) (sym led.1) (record { made = refl; asked = refl; answered = refl })
one_linked plan been before (Leaves k user) own led = subst (λ (os : List Outcome). AreLinked (Leaves k user ∷ []) os [] []) (sym led.1) (record { made = refl; asked = refl; answered = refl })
one_linked plan been before (Makes asked event) own (outcome, are, tells) = subst (λ (os : List Outcome). AreLinked (Makes asked event ∷ []) os [] []) (sym are) (told_linked _ asked event outcome tells)
one_linked plan been before (Abandons k) own led = subst (λ (os : List Outcome). AreLinked (Abandons k ∷ []) os [] []) (sym led.2) (record { made = refl; asked = refl; answered = refl })

pub led_linked : (plan : Plan) (been : List Act) (before : List Outcome) (acts : List Act) (outcomes : List Outcome) → AreLed plan been before acts outcomes → AreLinked acts outcomes [] []
led_linked plan been before [] outcomes none = subst (λ (os : List Outcome). AreLinked [] os [] []) (sym none) (record { made = refl; asked = refl; answered = refl })
led_linked plan been before (act ∷ acts) outcomes (own, others, are, led, more) =
    subst (λ (os : List Outcome). AreLinked (act ∷ acts) os [] []) (sym are) (linked_more (act ∷ []) acts own others [] [] (one_linked plan been before act own led) (led_linked plan (been ++ act ∷ []) (before ++ own) acts others more))

-- at most one call is lacking, and only as memory ran out
abbrev pub MayLackOne : Stop → List Asked → Type 0
MayLackOne OutOfMemory lacking = (lacking ≡ []) ⊎ ((one : Asked) × (lacking ≡ one ∷ []))
MayLackOne stop lacking = lacking ≡ []

lacks_none : (stop : Stop) (lacking : List Asked) → lacking ≡ [] → MayLackOne stop lacking
lacks_none BehindLine lacking none = none
lacks_none Denied lacking none = none
lacks_none SinkFailed lacking none = none
lacks_none OutOfMemory lacking none = inl none

untold_linked : (outcome : Outcome) → IsUntold outcome → AreLinked [] (outcome ∷ []) [] (made_of outcome ∷ [])
untold_linked (Unanswered k asked ticket) untold = record { made = refl; asked = refl; answered = refl }
untold_linked (KeptUp k ticket why) untold = record { made = refl; asked = refl; answered = refl }
untold_linked (Moved asked steps sum up) untold = record { made = refl; asked = refl; answered = refl }
untold_linked (Settling (Err why) steps) untold = record { made = refl; asked = refl; answered = refl }
untold_linked outcome untold = absurd untold

nothing_linked : (k : ℕ) (one : Exchange) (asked : Call) (outcome : Outcome) (lacking : List Asked) → one.call ≡ Some asked → CameToNothing k asked outcome lacking
    → AreLinked (Does k (Hears one) ∷ []) (outcome ∷ []) lacking [] × MayLackOne OutOfMemory lacking
nothing_linked k one asked (Refused j node call) lacking is (same, of, lacks) = (
  rw (same, of, lacks) (record { made = rw is refl; asked = rw is refl; answered = refl }),
  inr (record { session = k; call = asked }, lacks),
)
nothing_linked k one asked (Broke j node call) lacking is (same, of, lacks) = (
  rw (same, of, lacks) (record { made = rw is refl; asked = rw is refl; answered = refl }),
  inl lacks,
)
nothing_linked k one asked outcome lacking is nothing = absurd nothing

ends_linked : (last : List Act) (rest : List Outcome) (stop : Stop) (lacking : List Asked) (extra : List Made) → EndsWith last rest stop lacking extra → AreLinked last rest lacking extra × MayLackOne stop lacking
ends_linked [] [] stop lacking extra (lacks, more) =
    (subst (λ (l : List Asked). AreLinked [] [] l extra) (sym lacks) (subst (λ (m : List Made). AreLinked [] [] [] m) (sym more) (record { made = refl; asked = refl; answered = refl })), lacks_none stop lacking lacks)
ends_linked [] (outcome ∷ []) stop lacking extra (untold, lacks, more) = (
  subst (λ (l : List Asked). AreLinked [] (outcome ∷ []) l extra) (sym lacks) (subst (λ (m : List Made). AreLinked [] (outcome ∷ []) [] m) (sym more) (untold_linked outcome untold)),
  lacks_none stop lacking lacks,
)
ends_linked (Does k (Hears one) ∷ []) (outcome ∷ []) stop lacking extra (asked, is, nothing, ran_out, none) =
    let both = nothing_linked k one asked outcome lacking is nothing in
    (subst (λ (m : List Made). AreLinked (Does k (Hears one) ∷ []) (outcome ∷ []) lacking m) (sym none) both.0, subst (λ (s : Stop). MayLackOne s lacking) (sym ran_out) both.1)
ends_linked last rest stop lacking extra ends = absurd ends

pub to_linked : (stop : Stop) (plan : Plan) (been : List Act) (before : List Outcome) (acts : List Act) (outcomes : List Outcome) (lacking : List Asked) (extra : List Made) → AreLedTo stop plan been before acts outcomes lacking extra
    → AreLinked acts outcomes lacking extra × MayLackOne stop lacking
to_linked stop plan been before acts outcomes lacking extra to =
    let ends = ends_linked to.last to.rest stop lacking extra to.ends in (
      subst (λ (l : List Act). AreLinked l outcomes lacking extra) (sym to.acts_are) (subst (λ (os : List Outcome). AreLinked (to.done ++ to.last) os lacking extra) (sym to.outcomes_are)
          (linked_more to.done to.last to.own to.rest lacking extra (led_linked plan been before to.done to.own to.led) ends.0)),
      ends.1,
    )

-- a session that still waits has a ticket that is pending

led_waits : (k : ℕ) (plan : Plan) (been : List Act) (before : List Outcome) (acts : List Act) (outcomes : List Outcome) → AreLed plan been before acts outcomes → Among (StillWaits k) acts → (ticket : Number) × Among (StillPending k ticket) outcomes
led_waits k plan been before [] outcomes led among = absurd among
led_waits k plan been before (act ∷ acts) outcomes (own, others, are, led, more) among = ⊎_elim
    (λ (same : act ≡ StillWaits k).
    let is : (ticket : Number) × (own ≡ StillPending k ticket ∷ []) = subst (λ (a : Act). Led plan been before a own) same led in
    (is.0, subst (Among (StillPending k is.0)) (sym are) (among_front (StillPending k is.0) own others (subst (Among (StillPending k is.0)) (sym is.1) (inl refl)))))
    (λ (rest : Among (StillWaits k) acts).
    let found = led_waits k plan (been ++ act ∷ []) (before ++ own) acts others more rest in (found.0, subst (Among (StillPending k found.0)) (sym are) (among_behind (StillPending k found.0) own others found.1))) among

ends_quiet : (k : ℕ) (last : List Act) (rest : List Outcome) (stop : Stop) (lacking : List Asked) (extra : List Made) → EndsWith last rest stop lacking extra → Among (StillWaits k) last → ⊥
ends_quiet k [] rest stop lacking extra ends among = among
ends_quiet k (Does j (Hears one) ∷ []) rest stop lacking extra ends among = ⊎_elim (λ same. let never : Does j (Hears one) ≡ StillWaits k = same in cc) (λ none. none) among
ends_quiet k last rest stop lacking extra ends among = absurd ends

among_apart : {X : Type 0} (x : X) (xs ys : List X) → Among x (xs ++ ys) → Among x xs ⊎ Among x ys
among_apart x [] ys among = inr among
among_apart x (y ∷ xs) ys among = ⊎_elim (λ (same : y ≡ x). inl (inl same)) (λ (rest : Among x (xs ++ ys)). ⊎_elim (λ (l : Among x xs). inl (inr l)) (λ (r : Among x ys). inr r) (among_apart x xs ys rest)) among

pub to_waits : (k : ℕ) (stop : Stop) (plan : Plan) (been : List Act) (before : List Outcome) (acts : List Act) (outcomes : List Outcome) (lacking : List Asked) (extra : List Made) → AreLedTo stop plan been before acts outcomes lacking extra → Among (StillWaits k) acts
    → (ticket : Number) × Among (StillPending k ticket) outcomes
to_waits k stop plan been before acts outcomes lacking extra to among = ⊎_elim
    (λ (front : Among (StillWaits k) to.done).
    let found = led_waits k plan been before to.done to.own to.led front in (found.0, subst (Among (StillPending k found.0)) (sym to.outcomes_are) (among_front (StillPending k found.0) to.own to.rest found.1)))
    (λ (back : Among (StillWaits k) to.last). absurd (ends_quiet k to.last to.rest stop lacking extra to.ends back)) (among_apart (StillWaits k) to.done to.last (subst (Among (StillWaits k)) to.acts_are among))
