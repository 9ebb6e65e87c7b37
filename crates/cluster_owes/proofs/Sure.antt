-- In a plan of one node no call ever waits.
use Rattle.std.proofs.Common.{◌≡◌, ◌⊎◌, inl, inr, ◌≤◌, ℕ, Bool, true, List, [], ◌∷◌, ◌++◌, Option, Some, refl, sym, ap, ◌∙◌, subst, arith, true≢false}
use Rattle.std.specs.Prelude.{is_some}
use Rattle.mail_model.specs.Plan.{Plan}
use Rattle.object_model.specs.Lists.{Among}
use Rattle.object_model.specs.Letters.{Number}
use Rattle.cluster_model.specs.Cluster as mail_cluster
use Rattle.cluster_model.specs.Parts as mail_parts
use Rattle.cluster_model.specs.Progress.Ask.{Pending, Done}
use Rattle.cluster_model.specs.Steps.{stands_at}
use Rattle.cluster_model.specs.Steps.Step.{Begin, AskFor, GiveUp, Tick}
use Rattle.cluster_model.specs.Steps.Said.{Begun, Asked as AskedFor, Finished}
use Rattle.cluster_model.specs.Steps.StepOutcome.{Says as mail_says}
use Rattle.cluster_model.specs.Makes as mail_makes
use Rattle.cluster_model.specs.World as mail
use Rattle.cluster_model.specs.WorldLaws.{InPlan}
use Rattle.whole_world.specs.Steps.{Step, StepOutcome}
use Rattle.whole_world.specs.Steps.Step.{OfMessages}
use Rattle.whole_world.specs.Steps.Said.{Told}
use Rattle.whole_world.specs.Steps.StepOutcome.{Says}
use Rattle.whole_world.specs.Seen.{step_seen, outcome_seen}
use Rattle.whole_world.proofs.Projecting.{makes_seen}
use Rattle.login_model.specs.Progress.{ask_read}
use Rattle.login_model.specs.Progress as login_progress
use Rattle.login_model.proofs.Asking.{pending_waits}
use Rattle.login_model.proofs.Hears.{read_here}
use Rattle.joint_model.specs.Joint.{Slot, slot_at, slot_up, read_node}
use Rattle.joint_world.specs.World.{World, whole_world_of, mail_world_of}
use Rattle.joint_world.specs.First.{first_world, first_slot}
use Rattle.joint_world.specs.Staying.{HasMailTicket}
use Rattle.joint_world.specs.Makes.{HasTicket, AnswersRead, DoesStep, MakesStep}
use Rattle.joint_world.specs.Makes.AnswersRead.{Waits, Ends}
use Rattle.joint_world.specs.Makes.DoesStep.{ForWhole, Begins, Asks, GivesUp, Posts, Drops}
use Rattle.joint_world.proofs.Views.{mail_at, mail_back}
use Rattle.cluster_owes.specs.Outcomes.{Outcome, BegunCall, Came, Makes, begun_by_outcome}
use Rattle.cluster_owes.specs.Outcomes.Outcome.{Began, Fell, Answers, GaveUp, Ticked, Other}
use Rattle.cluster_owes.specs.Laws.{NoneWaits}
use Rattle.cluster_owes.proofs.QuietSteps.{StepKept, step_kept}
use Rattle.cluster_owes.proofs.Chain.{Standing, stands_on, step_of_mail, opens_standing, opens_for_mail, opens_empty}
use Rattle.cluster_owes.proofs.Confirmed.{AreSure, begins_sure, fell_sure, answers_sure, idle_sure, ticked_sure, none_asked}
use Rattle.cluster_owes.proofs.Alone.{only_one}
use Rattle.cluster_owes.proofs.Nobody.{AllDone, step_done, opens_done}

module _ (plan : Plan) (tells : Bool) (one : plan.nodes ≡ 1) (sure_of : plan.confirm ≡ 1) (some : 1 ≤ plan.copies) where
  -- what is known between two steps
  pub record Surely (w : World) : Type 0 where
    pub stands : Standing plan tells w
    pub sure : AreSure (mail_world_of w).slots
    pub done : AllDone w.slots
    pub here : (slot : Slot) × (slot_at w.slots 1 ≡ Some slot)

  module _ (old new : World) (s : Surely old) where
    abbrev before : mail.World
    before = mail_world_of old

    abbrev after : mail.World
    after = mail_world_of new

    in_plan : InPlan plan.nodes before.slots
    in_plan = s.stands.stands.whole.in_plan

    sound : mail_parts.Sound plan.confirm (mail.cluster_of before)
    sound = s.stands.stands.whole.sound.mail

    stepped : (step : Step) (outcome : StepOutcome) → MakesStep plan tells old step outcome new → AreSure after.slots → Surely new
    stepped step outcome made sure = record {
      stands = now;
      sure = sure;
      done = step_done plan tells one s.stands.story old new s.stands.stands s.done
          (λ n slot here. let is = only_one plan tells one now.story new now.stands n slot here in (s.here.0, ap (slot_at old.slots) is ∙ s.here.1)) step outcome made;
      here = let grown = kept.grew.slots 1 _ (mail_at old 1 s.here.0 s.here.1) in let back = mail_back new 1 grown.0 grown.1 in (back.0, back.1);
    }
      where
        now : Standing plan tells new
        now = stands_on plan tells old new step outcome made s.stands

        kept : StepKept plan before after
        kept = step_kept plan tells before after (step_seen step) (outcome_seen outcome) (step_of_mail plan tells old new step outcome made s.stands) in_plan sound

    came_surely : (outcome : Outcome) (begun : List BegunCall) → Came plan tells outcome begun old new → Surely new
    came_surely (Began k own asked ticket) begun (call, made_is, made) = stepped (OfMessages (Begin own call)) (Says (Told (Begun ticket))) made
        (begins_sure plan tells one sure_of some before after in_plan sound s.sure own call (Begun ticket) (step_of_mail plan tells old new (OfMessages (Begin own call)) (Says (Told (Begun ticket))) made s.stands).1)
    came_surely (Fell k own asked) begun (call, outcome, made_is, fall, made) = stepped (OfMessages (Begin own call)) outcome made
        (fell_sure plan tells one sure_of some before after in_plan sound s.sure own call (outcome_seen outcome) fall (step_of_mail plan tells old new (OfMessages (Begin own call)) outcome made s.stands))
    came_surely (Answers k asked ticket given) begun (own, given_is, waits, made) = stepped (OfMessages (AskFor ticket)) (Says (Told (AskedFor (Done own)))) made
        (answers_sure plan tells one sure_of some before after in_plan sound s.sure ticket (AskedFor (Done own))
        (step_of_mail plan tells old new (OfMessages (AskFor ticket)) (Says (Told (AskedFor (Done own)))) made s.stands).1)
    came_surely (GaveUp k asked ticket) begun made = stepped (OfMessages (GiveUp ticket)) (Says (Told Finished)) made
        (idle_sure plan tells one sure_of some before after in_plan sound s.sure (GiveUp ticket) (mail_says Finished) tt (step_of_mail plan tells old new (OfMessages (GiveUp ticket)) (Says (Told Finished)) made s.stands))
    came_surely (Ticked seconds) begun made = stepped (OfMessages (Tick seconds)) (Says (Told Finished)) made
        (ticked_sure plan tells one sure_of some before after in_plan sound s.sure seconds (step_of_mail plan tells old new (OfMessages (Tick seconds)) (Says (Told Finished)) made s.stands))
    came_surely (Other step outcome) begun (other, made) = stepped step outcome made
        (idle_sure plan tells one sure_of some before after in_plan sound s.sure (step_seen step) (outcome_seen outcome) other (step_of_mail plan tells old new step outcome made s.stands))

    -- a ticket of messages is none of calls that read
    not_of_reads : (number : Number) → HasMailTicket before number → mail_makes.IsForReads before number → ⊥
    not_of_reads number has of = true≢false (sym (subst (λ o. stands_at number o ≡ true) of.up has) ∙ ap (λ (o : Option mail_cluster.Ticket). is_some o) of.none)

    mail_waits_not : (number : Number) (got wanted : ℕ) → HasMailTicket before number
        → mail_makes.AnswersAsk plan before number (AskedFor (Pending got wanted)) after ⊎ mail_makes.AnswersRead before number (AskedFor (Pending got wanted)) after → ⊥
    mail_waits_not number got wanted has (inl asks) = none_asked plan tells one sure_of some before after in_plan sound s.sure number got wanted asks
    mail_waits_not number got wanted has (inr reads) = not_of_reads number has reads.of

    -- and one of a call that reads waits for nobody
    ticket_done : (number : Number) (ticket : HasTicket old number) (got wanted : ℕ) → ask_read ticket.ticket ticket.ticket.reading ≡ login_progress.ReadAsk.Pending got wanted → ⊥
    ticket_done number ticket got wanted e =
        let waits = pending_waits ticket.ticket got wanted e in
        s.done number.node (slot_up ticket.node ticket.disk) ticket.up number.seq ticket.ticket (read_here number.node (read_node true ticket.node) number ticket.ticket ticket.here).here waits.0 waits.1 waits.2

    read_waits_not : (number : Number) (got wanted : ℕ) → AnswersRead tells old number (Told (AskedFor (Pending got wanted))) new → ⊥
    read_waits_not number got wanted (Waits ticket g n e is same) = ticket_done number ticket g n e
    read_waits_not number got wanted (Ends ticket answer e says fits is does) = cc is

    none_pending : (number : Number) (got wanted : ℕ) → MakesStep plan tells old (OfMessages (AskFor number)) (Says (Told (AskedFor (Pending got wanted)))) new → ⊥
    none_pending number got wanted made = by made.1
      where
        by : DoesStep plan tells old (OfMessages (AskFor number)) (Told (AskedFor (Pending got wanted))) new → ⊥
        by (ForWhole for whole stay) = mail_waits_not number got wanted for
            (makes_seen plan tells (whole_world_of old) (whole_world_of new) (OfMessages (AskFor number)) (Says (Told (AskedFor (Pending got wanted)))) whole).1
        by (Begins n call is begins) = cc is
        by (Asks other is reads answers) = read_waits_not other got wanted answers
        by (GivesUp other is reads gives) = cc is
        by (Posts letter keep is of posts) = cc is
        by (Drops letter is drops) = cc is

  none_among : (outcomes : List Outcome) (begun : List BegunCall) (old last : World) → Surely old → Makes plan tells outcomes begun old last
      → (ticket : Number) (got wanted : ℕ) → Among (Other (OfMessages (AskFor ticket)) (Says (Told (AskedFor (Pending got wanted))))) outcomes → ⊥
  none_among [] begun old last s makes ticket got wanted m = absurd m
  none_among (outcome ∷ more) begun old last s (mid, came, rest) ticket got wanted (inl e) =
      let c = subst (λ o. Came plan tells o begun old mid) e came in none_pending old mid s ticket got wanted c.1
  none_among (outcome ∷ more) begun old last s (mid, came, rest) ticket got wanted (inr m) =
      none_among more (begun ++ begun_by_outcome outcome) mid last (came_surely old mid s outcome begun came) rest ticket got wanted m

pub none_waits : NoneWaits
none_waits plan tells map outcomes last one sure some managers makes ticket got wanted m =
    let lives : 1 ≤ plan.nodes = omega (arith, one) in
    let few : plan.nodes ≤ 64 = omega (arith, one) in
    none_among plan tells one sure some outcomes [] (first_world plan.nodes map) last (record {
      stands = opens_standing plan tells map lives few managers;
      sure = subst (λ (w : mail.World). AreSure w.slots) (opens_for_mail plan tells map lives few managers) (λ number t s. absurd (opens_empty plan.nodes map number t s));
      done = opens_done plan.nodes map;
      here = subst (λ n. (slot : Slot) × (slot_at (first_world n map).slots 1 ≡ Some slot)) (sym one) (first_slot 1 map, refl);
    }) makes ticket got wanted m
