-- No step leaves a letter in flight with a number above the last: messages see each step as one of theirs, and none of those does.
use Rattle.std.proofs.Common.{◌≡◌, inl, inr, ⊎_elim, ℕ, ◌+◌, ◌≤◌, Bool, true, false, List, [], ◌∷◌, ◌++◌, Some, None, refl, sym, ap, ◌∙◌, subst, arith, if◌then◌else◌}
use Rattle.mail_model.specs.Identity.{Key}
use Rattle.mail_model.specs.Identity.Key.{Message}
use Rattle.mail_model.specs.Plan.{Plan}
use Rattle.mail_model.specs.Record.{Record}
use Rattle.object_model.specs.Lists.{Among}
use Rattle.object_model.specs.Letters.{Number, Letter}
use Rattle.object_model.specs.Mishaps.MishapKind.{Crowded}
use Rattle.object_model.proofs.Lists.{among_front, among_behind, among_either, among_last}
use Rattle.cluster_model.specs.Room.{Flight, has_room, keys_pushed}
use Rattle.cluster_model.specs.Cluster.{with_slot}
use Rattle.cluster_model.specs.Rules.{Reaction, push, widen, refuse, end_ticket}
use Rattle.cluster_model.specs.Deeds.{slot_up, hear}
use Rattle.cluster_model.specs.World.{World, missed, put, with_letter, Flies, flies_on}
use Rattle.cluster_model.specs.Steps.{NodeCall, Step, Said, StepOutcome, mishaps_of_call, ids_drawn}
use Rattle.cluster_model.specs.Steps.NodeCall.{Deliver, Login, Fetch, Strike, Leave}
use Rattle.cluster_model.specs.Steps.Step.{Begin, AskFor, GiveUp, Post, DropLetter, PushTo, Widen, Form, Crash, Start, Lose, Tick}
use Rattle.cluster_model.specs.Steps.StepOutcome.{Says, Refused, NoMemory}
use Rattle.cluster_model.specs.Makes.{after, with_struck, begun_by, NodeGoesDown, BeginsCall, AnswersAsk, Posts, Pushes, Widens, FormsAt, StartsUp, DoesStep, RunsShort, MakesStep}
use Rattle.cluster_model.specs.Makes.BeginsCall.{FailsAtOnce, Goes, FailsInIt}
use Rattle.cluster_model.specs.Makes.AnswersAsk.{Waits, Ends}
use Rattle.cluster_model.specs.Makes.Posts.{NobodyUp, OfOtherEpoch, TooLate, IsHeard, FailsHearing, IsForMaps, FailsForMaps}
use Rattle.cluster_model.specs.Makes.Pushes.{Sends, FailsPushing}
use Rattle.cluster_model.specs.Makes.Widens.{Adds, FailsWidening}
use Rattle.cluster_model.specs.Makes.FormsAt.{Does, HasNone, FailsForming}
use Rattle.cluster_model.specs.Makes.StartsUp.{Comes, FailsStarting}
use Rattle.cluster_model.specs.Makes.RunsShort.{Beginning, Hearing, Widening, Forming, Starting}
use Rattle.cluster_model.proofs.Reading.{SeesOne, SeesFall, begins_seen, answers_seen, gives_up_seen, posts_seen, drops_seen}
use Rattle.cluster_model.proofs.Reading.SeesOne.{Turns, Refuses, Sends as SendsOne, Takes}
use Rattle.whole_world.specs.World as whole
use Rattle.whole_world.specs.World.{mail_world_of}
use Rattle.whole_world.specs.Steps as whole_steps
use Rattle.whole_world.specs.Makes as whole_makes
use Rattle.whole_world.specs.Seen.{step_seen, outcome_seen}
use Rattle.whole_world.specs.Regroup.{AreNumbered}
use Rattle.whole_world.proofs.Projecting.{makes_seen}

abbrev AreLow : World → Type 0
AreLow w = (f : Flight) → Among f w.flying → f.number ≤ w.sent

abbrev StayLow : World → World → Type 0
StayLow old new = AreLow old → AreLow new

-- nothing is sent
fewer : (old new : World) → ((f : Flight) → Among f new.flying → Among f old.flying) → new.sent ≡ old.sent → StayLow old new
fewer old new flew sent low f m = subst (λ n. f.number ≤ n) (sym sent) (low f (flew f m))

alike : (old new : World) → new.flying ≡ old.flying → new.sent ≡ old.sent → StayLow old new
alike old new flying sent = fewer old new (λ f m. subst (Among f) flying m) sent

unchanged : (old new : World) → new ≡ old → StayLow old new
unchanged old new is = alike old new (ap (λ (w : World). w.flying) is) (ap (λ (w : World). w.sent) is)

stays_low : (w : World) → StayLow w w
stays_low w low = low

low_then : (a b c : World) → StayLow a b → StayLow b c → StayLow a c
low_then a b c first others low = others (first low)

-- a letter is sent under the next number
sends_low : (flying : List Flight) (sent : ℕ) (letter : Letter) → ((f : Flight) → Among f flying → f.number ≤ sent) → (f : Flight) → Among f (flying ++ record { number = sent + 1; letter = letter } ∷ []) → f.number ≤ sent + 1
sends_low flying sent letter low f m = ⊎_elim
    (λ stood. later f.number sent (low f stood))
    (λ is. same f.number sent (ap (λ (x : Flight). x.number) (sym is)))
    (among_last f flying (record { number = sent + 1; letter = letter }) m)
  where
    later : (a b : ℕ) → a ≤ b → a ≤ b + 1
    later a b p = omega (arith, p)

    same : (a b : ℕ) → a ≡ b + 1 → a ≤ b + 1
    same a b e = omega (arith, e)

put_low : (letters : List Letter) (w : World) → StayLow w (put has_room letters w)
put_low [] w low = low
put_low (letter ∷ letters) w low = by (λ v. put_low letters v) (has_room w.flying letter)
  where
    flown : World
    flown = record w { flying = w.flying ++ record { number = w.sent + 1; letter = letter } ∷ []; sent = w.sent + 1 }

    by : ((v : World) → StayLow v (put has_room letters v)) → (b : Bool) → AreLow (if b then put has_room letters flown else put has_room letters (record w { slots = missed Crowded w.slots letter }))
    by rest true = rest flown (sends_low w.flying w.sent letter low)
    by rest false = rest (record w { slots = missed Crowded w.slots letter }) low

-- what flies on flew
flies_low : (w : World) (number : ℕ) (f : Flies w number) (keep : Bool) (one : Flight) → Among one (flies_on w number f keep) → Among one w.flying
flies_low w number f true one m = m
flies_low w number f false one m = subst (Among one) (sym f.is) (⊎_elim
    (λ front. among_front one f.front (record { number = number; letter = f.letter } ∷ f.back) front)
    (λ back. among_behind one f.front (record { number = number; letter = f.letter } ∷ f.back) (inr back))
    (among_either one f.front f.back m))

struck_low : (w : World) (call : NodeCall) → StayLow w (with_struck w call)
struck_low w (Deliver mail) low = low
struck_low w (Strike user items) low = low
struck_low w (Login user proof) low = low
struck_low w (Fetch user id from most holders) low = low
struck_low w (Leave user login manager) low = low

-- a node does something in a world
after_low : (old mid new : World) (own : ℕ) (did : Reaction) → new ≡ after mid own did → StayLow old mid → StayLow old new
after_low old mid new own did is low before =
    let done = put_low did.out (record mid { slots = with_slot mid.slots own (slot_up did.node did.disk) }) (low before) in unchanged (after mid own did) new is done

sees_low : (a b : World) → SeesOne a b → StayLow a b
sees_low a b (Turns own node disk calls count up e) = alike a b (ap (λ (w : World). w.flying) e) (ap (λ (w : World). w.sent) e)
sees_low a b (Refuses own node disk kind mishaps up e) = after_low a a b own (refuse kind mishaps 0 node disk) e (stays_low a)
sees_low a b (SendsOne letter l e) = λ low. unchanged (with_letter a letter) b e (sends_low a.flying a.sent letter low)
sees_low a b (Takes number flies keep of e) = fewer a b (λ f m. flies_low a number flies keep f (subst (λ (w : World). Among f w.flying) e m)) (ap (λ (w : World). w.sent) e)

falls_low : (own : ℕ) (a b : World) → SeesFall own a b → StayLow a b
falls_low own a b f = alike a b (ap (λ (w : World). w.flying) f.is) (ap (λ (w : World). w.sent) f.is)

down_low : (w : World) (n : ℕ) (disk whole : List Record) (new : World) → NodeGoesDown w n disk whole new → StayLow w new
down_low w n disk whole new g = alike w new (ap (λ (v : World). v.flying) g.is) (ap (λ (v : World). v.sent) g.is)

module _ (plan : Plan) (old : World) where
  begins_low : (tells : Bool) (own : ℕ) (call : NodeCall) (said : Said) (new : World) → BeginsCall plan tells old own call said new → StayLow old new
  begins_low tells own call said new (FailsAtOnce node disk kind up of fails is new_world) =
      after_low old (with_struck old call) new own (refuse kind (mishaps_of_call plan old.seconds node call) (ids_drawn call) node disk) new_world (struck_low old call)
  begins_low tells own call said new (Goes node disk octets up fails filed is new_world) = after_low old (with_struck old call) new own (begun_by plan old own node disk call octets) new_world (struck_low old call)
  begins_low tells own call said new (FailsInIt node disk octets up filed is g) = low_then old (with_struck old call) new (struck_low old call) (down_low (with_struck old call) own disk _ new g)

  asks_low : (number : Number) (said : Said) (new : World) → AnswersAsk plan old number said new → StayLow old new
  asks_low number said new (Waits node disk ticket up found got wanted e is new_world) = unchanged old new new_world
  asks_low number said new (Ends node disk ticket up found reply e is new_world) = alike old new (ap (λ (w : World). w.flying) new_world) (ap (λ (w : World). w.sent) new_world)

  -- a letter is taken out, or kept
  left_low : (number : ℕ) (keep : Bool) (f : Flies old number) (new : World) → new.flying ≡ flies_on old number f keep → new.sent ≡ old.sent → StayLow old new
  left_low number keep f new flying sent = fewer old new (λ one m. flies_low old number f keep one (subst (Among one) flying m)) sent

  posts_low : (number : ℕ) (keep : Bool) (said : Said) (new : World) → Posts plan old number keep said new → StayLow old new
  posts_low number keep said new (NobodyUp f nobody is e) = left_low number keep f new (ap (λ (w : World). w.flying) e) (ap (λ (w : World). w.sent) e)
  posts_low number keep said new (OfOtherEpoch f node disk up thrown is e) = left_low number keep f new (ap (λ (w : World). w.flying) e) (ap (λ (w : World). w.sent) e)
  posts_low number keep said new (TooLate f node disk up thrown is e) = left_low number keep f new (ap (λ (w : World). w.flying) e) (ap (λ (w : World). w.sent) e)
  posts_low number keep said new (IsHeard f node disk up thrown is e) = after_low old (record old { flying = flies_on old number f keep }) new f.letter.to (hear f.letter.to plan.nodes node disk f.letter) e
      (left_low number keep f (record old { flying = flies_on old number f keep }) refl refl)
  posts_low number keep said new (FailsHearing f node disk up thrown is down g e) = left_low number keep f new (ap (λ (w : World). w.flying) e) (ap (λ (w : World). w.sent) e ∙ ap (λ (w : World). w.sent) g.is)
  posts_low number keep said new (IsForMaps f node disk up of fresh is did forms e) = after_low old (record old { flying = flies_on old number f keep }) new f.letter.to did e
      (left_low number keep f (record old { flying = flies_on old number f keep }) refl refl)
  posts_low number keep said new (FailsForMaps f node disk promise up of fresh is down g e) = left_low number keep f new (ap (λ (w : World). w.flying) e) (ap (λ (w : World). w.sent) e ∙ ap (λ (w : World). w.sent) g.is)

  pushes_low : (own to : ℕ) (said : Said) (new : World) → Pushes old own to said new → StayLow old new
  pushes_low own to said new (Sends node disk up is new_world) = after_low old old new own (push own to (keys_pushed old.flying own to node disk) node disk) new_world (stays_low old)
  pushes_low own to said new (FailsPushing node disk up is new_world) = alike old new (ap (λ (w : World). w.flying) new_world) (ap (λ (w : World). w.sent) new_world)

  widens_low : (own to : ℕ) (key : Key) (said : Said) (new : World) → Widens old own to key said new → StayLow old new
  widens_low own to key said new (Adds node disk up is new_world) = after_low old old new own (widen own to key node disk) new_world (stays_low old)
  widens_low own to key said new (FailsWidening node disk up is g) = down_low old own disk _ new g

  forms_low : (own : ℕ) (said : Said) (new : World) → FormsAt old own said new → StayLow old new
  forms_low own said new (Does node disk up is did forms new_world) = after_low old old new own did new_world (stays_low old)
  forms_low own said new (HasNone is new_world) = unchanged old new new_world
  forms_low own said new (FailsForming node disk promise up is g) = down_low old own disk _ new g

  starts_low : (n : ℕ) (said : Said) (new : World) → StartsUp plan old n said new → StayLow old new
  starts_low n said new (Comes disk pending node records here starts fits is new_world) = alike old new (ap (λ (w : World). w.flying) new_world) (ap (λ (w : World). w.sent) new_world)
  starts_low n said new (FailsStarting disk pending next records here stops is new_world) = alike old new (ap (λ (w : World). w.flying) new_world) (ap (λ (w : World). w.sent) new_world)

  does_low : (tells : Bool) (step : Step) (said : Said) (new : World) → DoesStep plan tells old step said new → StayLow old new
  does_low tells (Begin own call) said new (inl d) = begins_low tells own call said new d
  does_low tells (Begin own call) said new (inr d) = begins_seen StayLow stays_low low_then sees_low plan own call said old new (λ n e a b f. falls_low n a b f) d
  does_low tells (AskFor number) said new (inl d) = asks_low number said new d
  does_low tells (AskFor number) said new (inr d) = answers_seen StayLow stays_low low_then sees_low number said old new d
  does_low tells (GiveUp number) said new (inl d) = after_low old old new number.node (end_ticket number.seq d.node d.disk) d.new_world (stays_low old)
  does_low tells (GiveUp number) said new (inr d) = gives_up_seen StayLow stays_low low_then sees_low number said old new d
  does_low tells (Post number keep) said new (inl d) = posts_low number keep said new d.0
  does_low tells (Post number keep) said new (inr d) = posts_seen StayLow stays_low low_then sees_low number keep said old new (λ n e a b f. falls_low n a b f) d
  does_low tells (DropLetter number) said new (inl d) = left_low number false d.0.flies new (ap (λ (w : World). w.flying) d.0.new_world) (ap (λ (w : World). w.sent) d.0.new_world)
  does_low tells (DropLetter number) said new (inr d) = drops_seen StayLow stays_low low_then sees_low number said old new d
  does_low tells (PushTo from to) said new d = pushes_low from to said new d
  does_low tells (Widen at user id to) said new d = widens_low at to (Message user id) said new d
  does_low tells (Form n) said new d = forms_low n said new d
  does_low tells (Crash n) said new d = alike old new (ap (λ (w : World). w.flying) d.new_world) (ap (λ (w : World). w.sent) d.new_world)
  does_low tells (Start n) said new d = starts_low n said new d
  does_low tells (Lose n) said new d = alike old new (ap (λ (w : World). w.flying) d.new_world) (ap (λ (w : World). w.sent) d.new_world)
  does_low tells (Tick seconds) said new d = alike old new (ap (λ (w : World). w.flying) d.1) (ap (λ (w : World). w.sent) d.1)

  short_low : (step : Step) (n : ℕ) (new : World) → RunsShort plan old step n new → StayLow old new
  short_low step n new (Beginning call node disk octets is up filed g) = low_then old (with_struck old call) new (struck_low old call) (down_low (with_struck old call) n disk _ new g)
  short_low step n new (Hearing number keep f node disk is at up g) = down_low old n disk _ new g
  short_low step n new (Widening user id to node disk is up g) = down_low old n disk _ new g
  short_low step n new (Forming node disk promise up forms g) = down_low old n disk _ new g
  short_low step n new (Starting disk pending next records is here stops new_world) = alike old new (ap (λ (w : World). w.flying) new_world) (ap (λ (w : World). w.sent) new_world)

  makes_low : (tells : Bool) (step : Step) (outcome : StepOutcome) (new : World) → MakesStep plan tells old step outcome new → StayLow old new
  makes_low tells step (Says said) new made = does_low tells step said new made.1
  makes_low tells step (Refused fault) new made = unchanged old new made.1
  makes_low tells step (NoMemory None) new made = unchanged old new made
  makes_low tells step (NoMemory (Some n)) new made = short_low step n new made

pub steps_number : (plan : Plan) (tells : Bool) (old new : whole.World) (step : whole_steps.Step) (outcome : whole_steps.StepOutcome) → whole_makes.MakesStep plan tells old step outcome new → AreNumbered old → AreNumbered new
steps_number plan tells old new step outcome made low = record {
  each = λ f m. makes_low plan (mail_world_of old) tells (step_seen step) (outcome_seen outcome) (mail_world_of new) (makes_seen plan tells old new step outcome made) (λ x k. low.each x k) f m;
}
