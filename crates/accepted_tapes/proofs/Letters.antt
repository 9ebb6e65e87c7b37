-- A tape of three nodes on which letters are posted twice and out of their order is accepted.
use Rattle.std.proofs.Common.{◌≡◌, ⊎_elim, ◌≤◌, ℕ, Bool, true, false, nat_le, List, [], ◌∷◌, ◌++◌, length, Some, None, refl, sym, ap, ◌∙◌, subst, arith, length-append}
use Rattle.std.proofs.lemmas.Option.{none-some, same_Some}
use Rattle.mail_model.specs.Plan.{Plan}
use Rattle.mail_model.specs.Tape.{Order, ClusterOrder, tape_order}
use Rattle.mail_model.specs.Tape.Order.{Moves}
use Rattle.mail_model.specs.Tape.ClusterOrder.{Post as PostOrder, Again}
use Rattle.mail_model.specs.Transcript.{Entry}
use Rattle.object_model.specs.Letters.{Letter}
use Rattle.session_model.specs.Events.{ClusterEvent, NodeLife, IsEventOf, failed_by_event}
use Rattle.session_model.specs.Events.ClusterEvent.{WasHeard, WasThrown, HasFaulted}
use Rattle.session_model.specs.Sessions.{Session}
use Rattle.session_model.specs.Acts.{Act, Acted}
use Rattle.session_model.specs.Acts.Act.{Makes}
use Rattle.session_model.specs.Lives.{life_after, failed_in}
use Rattle.session_model.specs.Turns.{Turn, ActsGo, Starts, turn_after_event}
use Rattle.session_model.specs.Turns.Turn.{Asking}
use Rattle.session_model.specs.Run.{IsHandled, refusal}
use Rattle.cluster_model.specs.Room.{Flight}
use Rattle.cluster_model.specs.World as mail
use Rattle.cluster_model.specs.Steps as mail_steps
use Rattle.cluster_model.specs.Steps.{Said, letter_at, letters_end, step_fault}
use Rattle.cluster_model.specs.Steps.Step.{Post}
use Rattle.cluster_model.specs.Steps.Said.{Faulted}
use Rattle.cluster_model.specs.Steps.StepOutcome.{Says as mail_says}
use Rattle.cluster_model.specs.Makes as mail_makes
use Rattle.whole_world.specs.Steps.{StepFault, StepOutcome}
use Rattle.whole_world.specs.Steps.Step.{OfMessages}
use Rattle.whole_world.specs.Steps.Said.{Told, Grouped, Concluded}
use Rattle.whole_world.specs.Steps.StepOutcome.{Says, Refused, NoMemory}
use Rattle.whole_world.specs.Seen.{fault_seen, outcome_seen}
use Rattle.whole_world.specs.Makes.{MadeStep}
use Rattle.joint_world.specs.World.{World, mail_world_of}
use Rattle.joint_world.specs.Makes.{MakesStep}
use Rattle.cluster_owes.proofs.Chain.{stands_on, step_of_mail}
use Rattle.accepted_tapes.specs.Orders.{MakesOrder, StepsOnce, EndsIn, AreDenied, WentSo, WentWell, has_failed}
use Rattle.accepted_tapes.specs.Follows.{FollowsAll}
use Rattle.accepted_tapes.proofs.AcceptedLines.{Leads}
use Rattle.accepted_tapes.proofs.AcceptedLines.Stage.{Flown}
use Rattle.accepted_tapes.proofs.OneSession.{Idles, IsAsked, asks_only}
use Rattle.accepted_tapes.proofs.Flown.{Holds, Keeps, asks_keep}
use Rattle.accepted_tapes.proofs.Posted.{PostsStep, post_fits}

-- the one step of a list is its last
last_is : (x one : MadeStep) (before : List MadeStep) → x ∷ [] ≡ before ++ one ∷ [] → one ≡ x
last_is x one [] e = cc
last_is x one (y ∷ before) e = absurd (omega (arith, ap length e, length-append before (one ∷ [])))

-- what did not fail was said, and not that a disk failed
well_said : (outcome : StepOutcome) → has_failed outcome ≡ false → (said : Said) × (outcome_seen outcome ≡ mail_says said) × ((n : ℕ) → said ≡ Faulted n → ⊥)
well_said (Says (Told (Faulted node))) well = absurd (let clash : true ≡ false = well in cc)
well_said (Says (Told (Said.Begun ticket))) well = (Said.Begun ticket, refl, λ n e. let clash : Said.Begun ticket ≡ Faulted n = e in cc)
well_said (Says (Told Said.Noted)) well = (Said.Noted, refl, λ n e. let clash : Said.Noted ≡ Faulted n = e in cc)
well_said (Says (Told (Said.Asked ask))) well = (Said.Asked ask, refl, λ n e. let clash : Said.Asked ask ≡ Faulted n = e in cc)
well_said (Says (Told Said.Heard)) well = (Said.Heard, refl, λ n e. let clash : Said.Heard ≡ Faulted n = e in cc)
well_said (Says (Told (Said.Thrown why))) well = (Said.Thrown why, refl, λ n e. let clash : Said.Thrown why ≡ Faulted n = e in cc)
well_said (Says (Told (Said.Sent letters))) well = (Said.Sent letters, refl, λ n e. let clash : Said.Sent letters ≡ Faulted n = e in cc)
well_said (Says (Told (Said.Widened did))) well = (Said.Widened did, refl, λ n e. let clash : Said.Widened did ≡ Faulted n = e in cc)
well_said (Says (Told (Said.Grouped epoch))) well = (Said.Grouped epoch, refl, λ n e. let clash : Said.Grouped epoch ≡ Faulted n = e in cc)
well_said (Says (Told (Said.Concluded epoch members))) well = (Said.Concluded epoch members, refl, λ n e. let clash : Said.Concluded epoch members ≡ Faulted n = e in cc)
well_said (Says (Told (Said.NodeUp boot))) well = (Said.NodeUp boot, refl, λ n e. let clash : Said.NodeUp boot ≡ Faulted n = e in cc)
well_said (Says (Told Said.Finished)) well = (Said.Finished, refl, λ n e. let clash : Said.Finished ≡ Faulted n = e in cc)
well_said (Says (Grouped epoch)) well = (Said.Grouped epoch, refl, λ n e. let clash : Said.Grouped epoch ≡ Faulted n = e in cc)
well_said (Says (Concluded epoch members)) well = (Said.Concluded epoch members, refl, λ n e. let clash : Said.Concluded epoch members ≡ Faulted n = e in cc)
well_said (Refused fault) well = absurd (let clash : true ≡ false = well in cc)
well_said (NoMemory down) well = absurd (let clash : true ≡ false = well in cc)

some_failed : (n : ℕ) (more : List ℕ) → n ∷ more ≡ [] → ⊥
some_failed n more is = cc

both_empty : (xs ys : List ℕ) → xs ++ ys ≡ [] → (xs ≡ []) × (ys ≡ [])
both_empty [] ys e = (refl, e)
both_empty (x ∷ xs) ys e = absurd (some_failed x (xs ++ ys) e)

-- a letter that is posted is heard or thrown, where no disk fails
abbrev pub IsCalmOrder : ClusterOrder → Type 0
IsCalmOrder order = (plan : Plan) (lives : ℕ → NodeLife) (event : ClusterEvent) → IsEventOf plan lives order event → failed_by_event event ≡ []
    → (turn_after_event event ≡ Asking 1) × ((steps : List MadeStep) → WentSo event steps → WentWell steps)

pub calm_post : (letter : ℕ) → IsCalmOrder (PostOrder letter)
calm_post letter plan lives (WasHeard i) is sound = (refl, λ steps went. went)
calm_post letter plan lives (WasThrown i why) is sound = (refl, λ steps went. went)
calm_post letter plan lives (HasFaulted n) is sound = absurd (some_failed n [] sound)
calm_post letter plan lives event is sound = absurd is

pub calm_again : (letter : ℕ) → IsCalmOrder (Again letter)
calm_again letter plan lives (WasHeard i) is sound = (refl, λ steps went. went)
calm_again letter plan lives (WasThrown i why) is sound = (refl, λ steps went. went)
calm_again letter plan lives (HasFaulted n) is sound = absurd (some_failed n [] sound)
calm_again letter plan lives event is sound = absurd is

module _ (plan : Plan) (all : List (List ℕ)) (line : List ℕ) (order : ClusterOrder) (number : ℕ) (keep : Bool) (flying flies : List ℕ → List Flight) (sent sends : ℕ)
    (spelled : tape_order line ≡ Some (Moves order)) (open_to : (been : List Act) (sessions : List Session) → refusal plan been sessions (Moves order) ≡ None)
    (once : (steps : List MadeStep) (w next : World) → MakesOrder plan order steps w next → StepsOnce plan (OfMessages (Post number keep)) steps w next)
    (ends : (steps : List MadeStep) (why : StepFault) → AreDenied order why steps → EndsIn (Refused why) steps) (calm : IsCalmOrder order)
    (letter : List ℕ → Letter) (there : (octets : List ℕ) → letter_at number (flying octets) ≡ Some (letter octets)) (few : nat_le letters_end sent ≡ false)
    (comes : (octets : List ℕ) (w next : mail.World) (said : Said) → length octets ≤ 4096 → Holds plan.nodes (flying octets) sent w → PostsStep plan w number keep said next → ((n : ℕ) → said ≡ Faulted n → ⊥)
    → Holds plan.nodes (flies octets) sends next) where
  grants : (octets : List ℕ) (w : World) → Keeps plan (flying octets) sent w → (steps : List MadeStep) (why : StepFault) (next : World) → MakesOrder plan order steps w next → AreDenied order why steps → ⊥
  grants octets w k steps why next makes denied =
      let (before, one, are, is) = ends steps why denied in
      let (outcome, steps_are, made) = once steps w next makes in
      let same = last_is (record { step = OfMessages (Post number keep); outcome = outcome }) one before (sym steps_are ∙ are) in
      let refused : mail_makes.MakesStep plan true (mail_world_of w) (Post number keep) (mail_steps.StepOutcome.Refused (fault_seen why)) (mail_world_of next) =
      step_of_mail plan true w next (OfMessages (Post number keep)) (Refused why)
      (subst (λ (o : StepOutcome). MakesStep plan true w (OfMessages (Post number keep)) o next) (sym (ap (λ (m : MadeStep). m.outcome) same) ∙ is) made) k.stands in
      let fits = post_fits plan (flying octets) sent (mail_world_of w) k.holds number keep (letter octets) (there octets) few in
      ⊎_elim
      (λ seen. ⊎_elim (λ (fault : step_fault plan (Post number keep) (mail_world_of w) ≡ Some (fault_seen why)). none-some (fault_seen why) (sym fits ∙ fault)) (λ worn. absurd worn.2) seen)
      (λ unseen. absurd unseen)
      refused.0

  was_made : (octets : List ℕ) (w next : World) (steps : List MadeStep) → length octets ≤ 4096 → Keeps plan (flying octets) sent w → MakesOrder plan order steps w next → WentWell steps → Keeps plan (flies octets) sends next
  was_made octets w next steps short k makes went =
      let (outcome, steps_are, made) = once steps w next makes in
      let well : has_failed outcome ≡ false = (subst WentWell steps_are went).0 in
      let (said, is, fine) = well_said outcome well in
      let seen : mail_makes.MakesStep plan true (mail_world_of w) (Post number keep) (mail_says said) (mail_world_of next) =
      subst (λ (o : mail_steps.StepOutcome). mail_makes.MakesStep plan true (mail_world_of w) (Post number keep) o (mail_world_of next)) is
      (step_of_mail plan true w next (OfMessages (Post number keep)) outcome made k.stands) in
      record {
        stands = stands_on plan true w next (OfMessages (Post number keep)) outcome made k.stands;
        holds = comes octets (mail_world_of w) (mail_world_of next) said short k.holds seen.1 fine;
      }

  -- what a line makes that posts a letter
  record HasPosted (acts : List Act) (new : List Session) : Type 0 where
    event : ClusterEvent
    more : List Act
    acts_are : acts ≡ Makes order event ∷ more
    went : (steps : List MadeStep) → WentSo event steps → WentWell steps
    asked : IsAsked more new

  posted : (been : List Act) (session : Session) (acts : List Act) (outputs : List (List Entry)) (new : List Session) → Idles session → IsHandled plan been (session ∷ []) line acts outputs new → failed_in acts ≡ []
      → HasPosted acts new
  posted been session acts outputs new idles handled sound =
      let is : handled.begun.order ≡ Moves order = same_Some handled.begun.order (Moves order) (sym handled.begun.spelled ∙ spelled) in
      let starts : Starts plan been (Moves order) (session ∷ []) handled.begun.first handled.begun.next =
      subst (λ (o : Order). Starts plan been o (session ∷ []) handled.begun.first handled.begun.next) is handled.begun.starts in
      let acts_are : acts ≡ Makes order starts.0 ∷ handled.begun.more = handled.begun.acts_are ∙ ap (λ (a : Act). a ∷ handled.begun.more) starts.2 in
      let parts = both_empty (failed_by_event starts.0) (failed_in handled.begun.more) (subst (λ (a : List Act). failed_in a ≡ []) acts_are sound) in
      let calmly = calm plan (life_after been) starts.0 starts.1 parts.0 in
      let acted : Acted plan (session ∷ []) (Makes order starts.0) handled.begun.said handled.begun.mid =
      subst (λ (a : Act). Acted plan (session ∷ []) a handled.begun.said handled.begun.mid) starts.2 handled.begun.acted in
      record {
        event = starts.0;
        more = handled.begun.more;
        acts_are = acts_are;
        went = calmly.1;
        asked = asks_only plan session idles (Asking 1) (omega arith) handled.begun.more handled.begun.others handled.last new
            (subst (λ (ss : List Session). ActsGo plan (Asking 1) ss handled.begun.more handled.begun.others handled.last new) acted.1
            (subst (λ (t : Turn). ActsGo plan t handled.begun.mid handled.begun.more handled.begun.others handled.last new) (starts.3 ∙ calmly.0) handled.begun.goes)) parts.1;
      }

  pub posts_line : Leads plan all line (Flown flying sent) (Flown flies sends)
  posts_line = record {
    accepts = λ been sessions calls w meets. (Moves order, spelled, open_to been sessions, λ denied. grants meets.3.0 w meets.3.2);
    moves = λ been sessions calls w acts outputs new left next meets handled follows sound.
        let p = posted been meets.0 acts outputs new meets.2 (subst (λ (ss : List Session). IsHandled plan been ss line acts outputs new) meets.1 handled) sound in
        let (between, mid, one, rest) = subst (λ (a : List Act). FollowsAll plan all a calls w left next) p.acts_are follows in
        let holds = was_made meets.3.0 w mid one.0 meets.3.1 meets.3.2 one.1 (p.went one.0 one.2) in
        (p.asked.session, p.asked.is, p.asked.idles, (meets.3.0, meets.3.1, asks_keep plan all (flies meets.3.0) sends p.more p.asked.asks between mid left next holds rest));
  }
