-- A call that has begun: the ticket that calls that read have of its number is of this call, or there is none.
use Rattle.std.proofs.Common.{◌≡◌, ℕ, Bool, true, false, List, map, Some, None, refl, ap, ◌∙◌, subst, if◌then◌else◌}
use Rattle.mail_model.specs.Plan.{Plan}
use Rattle.object_model.specs.Letters.{Number}
use Rattle.session_model.specs.Calls.{Call, given_of}
use Rattle.session_model.specs.Calls.Call.{Deliver, Login, Fetch, Strike}
use Rattle.cluster_model.specs.Claims.{IsIdDrawn}
use Rattle.cluster_model.specs.Steps.{NodeCall}
use Rattle.cluster_model.specs.Steps.NodeCall.{Deliver as DeliverCall, Login as LoginCall, Fetch as FetchCall, Strike as StrikeCall, Leave}
use Rattle.cluster_model.specs.Steps.Step.{Begin}
use Rattle.cluster_model.specs.Steps.Said.{Begun}
use Rattle.whole_world.specs.Steps.Step.{OfMessages}
use Rattle.whole_world.specs.Steps.Said.{Told}
use Rattle.whole_world.specs.Steps.StepOutcome.{Says}
use Rattle.login_model.specs.Cluster as login
use Rattle.joint_world.specs.World.{World, mail_world_of}
use Rattle.joint_world.specs.Laws.{Stands}
use Rattle.joint_world.specs.Makes.{MakesStep}
use Rattle.joint_world.proofs.Subjects.{subject_begins}
use Rattle.cluster_owes.specs.Seen.{is_whole, call_made}
use Rattle.cluster_owes.proofs.Standing.{IsWithinCalls}
use Rattle.cluster_owes.proofs.WorldSteps.{boot_id}
use Rattle.cluster_owes.proofs.Subjects.{IsOfCall, whole_part}
use Rattle.cluster_owes.proofs.Unread.{mail_about}

module _ (plan : Plan) (tells : Bool) (story : List (List login.Slot)) (old new : World) (n : ℕ) where
  pub call_begins : (call : NodeCall) (made : Call) (number : Number) → call_made call ≡ Some made → MakesStep plan tells old (OfMessages (Begin n call)) (Says (Told (Begun number))) new → Stands plan tells story old
      → IsIdDrawn (mail_world_of new).slots (boot_id number) → IsWithinCalls (mail_world_of new).slots number → IsOfCall tells new number made
  call_begins (DeliverCall mail) made number is did stands drawn within = subst (IsOfCall tells new number) (let same : Deliver mail ≡ made = cc is in same)
      (λ subject may. mail_about plan tells story old new n (DeliverCall mail) number tt did stands drawn within subject)
  call_begins (StrikeCall user items) made number is did stands drawn within = subst (IsOfCall tells new number) (let same : Strike user (map (λ item. item.id) items) ≡ made = cc is in same)
      (λ subject may. mail_about plan tells story old new n (StrikeCall user items) number tt did stands drawn within subject)
  call_begins (LoginCall user proof) made number is did stands drawn within = subst (IsOfCall tells new number) (let same : Login user (given_of proof) ≡ made = cc is in same)
      (λ subject may. subject_begins plan tells story old new n (LoginCall user proof) number subject did stands (ap Some may))
  call_begins (FetchCall user id from most holders) made number is did stands drawn within = by (is_whole from most) refl is
    where
      by : (b : Bool) → is_whole from most ≡ b → (if b then Some (Fetch user id) else None) ≡ Some made → IsOfCall tells new number made
      by true whole e = subst (IsOfCall tells new number) (let same : Fetch user id ≡ made = cc e in same)
          (λ subject may. subject_begins plan tells story old new n (FetchCall user id from most holders) number subject did stands (ap Some (whole_part user id from most whole ∙ may)))
      by false whole e = absurd (cc e)
  call_begins (Leave user login manager) made number is did stands drawn within = absurd (cc is)
