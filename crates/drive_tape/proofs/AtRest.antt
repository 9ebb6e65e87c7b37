-- A run whose last deed was a settle left a world at rest.
use Rattle.std.proofs.Common.{◌≡◌, ℕ, List, [], ◌∷◌, ◌++◌, Result, Ok, Err, refl, sym, ap, ◌∙◌, subst, append-nil}
use Rattle.std.specs.Prelude.{All}
use Rattle.std.proofs.lemmas.List.Elements.{All-head, All-tail}
use Rattle.mail_model.specs.Plan.{Plan}
use Rattle.mail_model.specs.Tape.{ClusterOrder as order}
use Rattle.session_model.specs.Acts.{Act}
use Rattle.session_model.specs.Acts.Act.{Does, Makes as MakesAct}
use Rattle.session_model.specs.Acts.Deed.{Hears}
use Rattle.session_model.specs.Events.{ClusterEvent}
use Rattle.session_model.specs.Events.ClusterEvent.{HasSettled, WasAbsent, HasFaulted}
use Rattle.session_model.specs.Logs.{Asked}
use Rattle.session_model.specs.Run.{Made, Stop}
use Rattle.session_model.specs.Run.Stop.{BehindLine, OutOfMemory}
use Rattle.node_store.specs.Disks.{View}
use Rattle.cluster_world.specs.Made.{StepMade}
use Rattle.cluster_world.specs.Outcomes.{Outcome, Awaited, Came, Makes, made_of}
use Rattle.cluster_world.specs.Outcomes.Outcome.{Moved, Settling, Mapped}
use Rattle.cluster_world.specs.Settling.{IsAtRest}
use Rattle.cluster_world.specs.Worlds.{state_of}
use Rattle.cluster_world.specs.declared.fault.StepFault.{StepFault}
use Rattle.cluster_world.specs.declared.settling.Settle.{Settle}
use Rattle.cluster_world.specs.declared.settling.Settle.TheVariants as settle
use Rattle.cluster_world.specs.declared.world.World.{World}
use Rattle.drive_tape.specs.Drive.{IsIdleAct, EndsSettled}
use Rattle.drive_tape.specs.Led.{Led, AreLed, AreLedTo, EndsWith, TellsMove, TellsSettle}
use Rattle.drive_tape.specs.Led.TellsMove.{OfSteps, OfSettle, OfMap}

-- the work ended behind a line: no act was begun, and no step more was made
pub record NoMore (last : List Act) (rest : List Outcome) : Type 0 where
  pub acts : last ≡ []
  pub outcomes : rest ≡ []

pub ends_clean : (last : List Act) (rest : List Outcome) (lacking : List Asked) (extra : List Made) → EndsWith last rest BehindLine lacking extra → extra ≡ [] → NoMore last rest
ends_clean [] [] lacking extra ends none = record { acts = refl; outcomes = refl }
ends_clean [] (outcome ∷ []) lacking extra (untold, lacks, more) none = absurd (let never : ◌≡◌ {A = List Made} (made_of outcome ∷ []) [] = sym more ∙ none in cc)
ends_clean (Does k (Hears one) ∷ []) (outcome ∷ []) lacking extra (asked, is, nothing, ran_out, more) none = absurd (let never : BehindLine ≡ OutOfMemory = ran_out in cc)
ends_clean last rest lacking extra ends none = absurd ends

module _ {D : Type 0} (on : View D) where
  pub record Parted (own others : List Outcome) (awaited left : List Awaited) (old new : World D) : Type 0 where
    pub between : List Awaited
    pub mid : World D
    pub first : Makes on own awaited old between mid
    pub then_more : Makes on others between mid left new

  pub parted : (own others : List Outcome) (awaited left : List Awaited) (old new : World D) → Makes on (own ++ others) awaited old left new → Parted own others awaited left old new
  parted [] others awaited left old new makes = record { between = awaited; mid = old; first = (refl, refl); then_more = makes }
  parted (one ∷ own) others awaited left old new (after, next, came, makes) =
      let rest = parted own others after left next new makes in
      record { between = rest.between; mid = rest.mid; first = (after, next, came, rest.first); then_more = rest.then_more }

  -- what one act that tells an event made of the world
  record OneCame (outcome : Outcome) (others : List Outcome) (awaited left : List Awaited) (old new : World D) : Type 0 where
    between : List Awaited
    mid : World D
    came : Came on outcome awaited old between mid
    rest : Makes on others between mid left new

  one_came : (own others outcomes : List Outcome) (outcome : Outcome) (awaited left : List Awaited) (old new : World D) → outcomes ≡ own ++ others → own ≡ outcome ∷ [] → Makes on outcomes awaited old left new
      → OneCame outcome others awaited left old new
  one_came own others outcomes outcome awaited left old new are own_is makes =
      let m : Makes on (outcome ∷ others) awaited old left new = subst (λ (os : List Outcome). Makes on os awaited old left new) (are ∙ ap (λ (o : List Outcome). o ++ others) own_is) makes in
      record { between = m.0; mid = m.1; came = m.2; rest = m.3 }

  -- to tell something changes nothing
  sum_same : (up : List ℕ) (event : ClusterEvent) (outcome : Outcome) (awaited left : List Awaited) (old mid : World D) → TellsMove up order.Sum event outcome → Came on outcome awaited old left mid → mid ≡ old
  sum_same up event outcome awaited left old mid (OfSteps steps sum is tells) came = let c : Came on (Moved order.Sum steps sum up) awaited old left mid = subst (λ (o : Outcome). Came on o awaited old left mid) is came in c.0.1
  sum_same up event outcome awaited left old mid (OfSettle result steps settles is tells) came = absurd (let never : order.Sum ≡ order.Settle = settles in cc)
  sum_same up event outcome awaited left old mid (OfMap user told maps is tells) came = absurd (let never : order.Sum ≡ order.Maps user = maps in cc)

  map_same : (name : List ℕ) (up : List ℕ) (event : ClusterEvent) (outcome : Outcome) (awaited left : List Awaited) (old mid : World D) → TellsMove up (order.Maps name) event outcome → Came on outcome awaited old left mid → mid ≡ old
  map_same name up event outcome awaited left old mid (OfSteps steps sum is tells) came =
      let c : Came on (Moved (order.Maps name) steps sum up) awaited old left mid = subst (λ (o : Outcome). Came on o awaited old left mid) is came in absurd c.0
  map_same name up event outcome awaited left old mid (OfSettle result steps settles is tells) came = absurd (let never : order.Maps name ≡ order.Settle = settles in cc)
  map_same name up event outcome awaited left old mid (OfMap user told maps is tells) came =
      let c : Came on (Mapped user told) awaited old left mid = subst (λ (o : Outcome). Came on o awaited old left mid) is came in c.2

  -- such an act made one outcome, and the world stayed as it was
  idle_same : (act : Act) (plan : Plan) (been : List Act) (before own : List Outcome) → IsIdleAct act → Led plan been before act own
      → (outcome : Outcome) × (own ≡ outcome ∷ []) × ((awaited left : List Awaited) (old mid : World D) → Came on outcome awaited old left mid → mid ≡ old)
  idle_same (MakesAct order.Sum event) plan been before own is (outcome, own_is, tells) = (outcome, own_is, λ awaited left old mid came. sum_same _ event outcome awaited left old mid tells came)
  idle_same (MakesAct (order.Maps user) event) plan been before own is (outcome, own_is, tells) = (outcome, own_is, λ awaited left old mid came. map_same user _ event outcome awaited left old mid tells came)
  idle_same other plan been before own is led = absurd is

  idle_stays : (behind : List Act) (plan : Plan) (been : List Act) (before outcomes : List Outcome) (awaited left : List Awaited) (old new : World D) → All IsIdleAct behind → AreLed plan been before behind outcomes
      → Makes on outcomes awaited old left new → new ≡ old
  idle_stays [] plan been before outcomes awaited left old new idle none makes = (subst (λ (os : List Outcome). Makes on os awaited old left new) none makes).1
  idle_stays (act ∷ behind) plan been before outcomes awaited left old new idle (own, others, are, led, more) makes =
      let same = idle_same act plan been before own (All-head IsIdleAct act behind idle) led in
      let one = one_came own others outcomes same.0 awaited left old new are same.1 makes in
      idle_stays behind plan (been ++ act ∷ []) (before ++ own) others one.between left one.mid new (All-tail IsIdleAct act behind idle) more one.rest ∙ same.2 awaited one.between old one.mid one.came

  -- a settle that was answered so
  settled_rests : (result : Result Settle StepFault) (steps : List StepMade) (awaited left : List Awaited) (old mid : World D) → TellsSettle result HasSettled → Came on (Settling result steps) awaited old left mid → IsAtRest (state_of mid)
  settled_rests (Ok settle.Settled) steps awaited left old mid tells (makes, are, left_is) = makes.shape.1
  settled_rests (Ok (settle.NotAllUp member)) steps awaited left old mid tells came = absurd (let never : HasSettled ≡ WasAbsent member = tells in cc)
  settled_rests (Ok (settle.Fault failed)) steps awaited left old mid tells came = absurd (let never : HasSettled ≡ HasFaulted failed = tells in cc)
  settled_rests (Err why) steps awaited left old mid tells came = absurd tells

  settle_rests : (up : List ℕ) (outcome : Outcome) (awaited left : List Awaited) (old mid : World D) → TellsMove up order.Settle HasSettled outcome → Came on outcome awaited old left mid → IsAtRest (state_of mid)
  settle_rests up outcome awaited left old mid (OfSteps steps sum is tells) came =
      let c : Came on (Moved order.Settle steps sum up) awaited old left mid = subst (λ (o : Outcome). Came on o awaited old left mid) is came in absurd c.0
  settle_rests up outcome awaited left old mid (OfSettle result steps settles is tells) came = settled_rests result steps awaited left old mid tells (subst (λ (o : Outcome). Came on o awaited old left mid) is came)
  settle_rests up outcome awaited left old mid (OfMap user told maps is tells) came = absurd (let never : order.Settle ≡ order.Maps user = maps in cc)

  rests_behind : (ahead behind : List Act) (plan : Plan) (been : List Act) (before outcomes : List Outcome) (awaited left : List Awaited) (old new : World D) → All IsIdleAct behind
      → AreLed plan been before (ahead ++ MakesAct order.Settle HasSettled ∷ behind) outcomes → Makes on outcomes awaited old left new → IsAtRest (state_of new)
  rests_behind [] behind plan been before outcomes awaited left old new idle (own, others, are, (outcome, own_is, tells), more) makes =
      let one = one_came own others outcomes outcome awaited left old new are own_is makes in
      subst (λ (w : World D). IsAtRest (state_of w))
      (sym (idle_stays behind plan (been ++ MakesAct order.Settle HasSettled ∷ []) (before ++ own) others one.between left one.mid new idle more one.rest))
      (settle_rests _ outcome awaited one.between old one.mid tells one.came)
  rests_behind (act ∷ ahead) behind plan been before outcomes awaited left old new idle (own, others, are, led, more) makes =
      let parts = parted own others awaited left old new (subst (λ (os : List Outcome). Makes on os awaited old left new) are makes) in
      rests_behind ahead behind plan (been ++ act ∷ []) (before ++ own) others parts.between left parts.mid new idle more parts.then_more

  -- where nothing was done behind such a settle, the world that came back is at rest
  pub ends_at_rest : (plan : Plan) (outcomes : List Outcome) (awaited : List Awaited) (start last : World D) → Makes on outcomes [] start awaited last
      → (stop : Stop) (acts : List Act) (lacking : List Asked) (extra : List Made) → AreLedTo stop plan [] [] acts outcomes lacking extra → stop ≡ BehindLine → extra ≡ [] → EndsSettled acts → IsAtRest (state_of last)
  ends_at_rest plan outcomes awaited start last makes stop acts lacking extra to is none ends =
      let clean = ends_clean to.last to.rest lacking extra (subst (λ (s : Stop). EndsWith to.last to.rest s lacking extra) is to.ends) none in
      let all_acts : acts ≡ to.done = to.acts_are ∙ ap (λ (l : List Act). to.done ++ l) clean.acts ∙ append-nil to.done in
      let all_outcomes : outcomes ≡ to.own = to.outcomes_are ∙ ap (λ (l : List Outcome). to.own ++ l) clean.outcomes ∙ append-nil to.own in
      rests_behind ends.before ends.behind plan [] [] to.own [] awaited start last ends.idle
      (subst (λ (l : List Act). AreLed plan [] [] l to.own) (sym all_acts ∙ ends.split) to.led)
      (subst (λ (os : List Outcome). Makes on os [] start awaited last) all_outcomes makes)
