-- What a step leaves of a world that is driven.
use Rattle.std.proofs.Common.{◌≡◌, inl, inr, ℕ, true, false, List, [], ◌∷◌, ◌++◌, Option, Some, None, Result, Ok, Err, refl, sym, ap, ◌∙◌, subst}
use Rattle.object_model.specs.Letters.{Number}
use Rattle.object_model.specs.Lists.{Among}
use Rattle.session_model.specs.Calls as calls
use Rattle.call_tickets.specs.Seen.{call_seen, answer_seen}
use Rattle.call_tickets.specs.declared.call.Call.{Call}
use Rattle.call_tickets.specs.declared.answer.Answer.{Answer}
use Rattle.call_tickets.specs.declared.answer.Ask.TheVariants as ask
use Rattle.mail_base.specs.declared.filing.CallKind.{CallKind}
use Rattle.node_store.specs.Disks.{View}
use Rattle.cluster_world.specs.Worlds.{state_of, life_of}
use Rattle.cluster_world.specs.Steps.{IsStep}
use Rattle.cluster_world.specs.Outcomes.{Outcome, Awaited, IsLeave, LeavesUnanswered, fallen_in, left_after, awaited_elsewhere, without_session}
use Rattle.cluster_world.specs.Outcomes.Outcome.{Began, Refused, Fell, Broke, Answers, StillPending, Unanswered, GaveUp, Abandoned, KeptUp, Left}
use Rattle.cluster_world.specs.declared.world.World.{World}
use Rattle.cluster_world.specs.declared.step.Step.{Step}
use Rattle.cluster_world.specs.declared.step.Step.TheVariants as step
use Rattle.cluster_world.specs.declared.step.Said.{Said}
use Rattle.cluster_world.specs.declared.step.Said.TheVariants as said
use Rattle.cluster_world.specs.declared.fault.StepFault.{StepFault}
use Rattle.cluster_world.specs.declared.fault.StepFault.TheVariants as fault
use Rattle.drive_tape.specs.declared.drove.Stop.{Stop}
use Rattle.drive_tape.specs.declared.open_call.OpenCall.{OpenCall}
use Rattle.drive_tape.specs.Denials.{stop_by, IsDoneOr}
use Rattle.drive_tape.specs.Kinds.{fits_kind, IsKindOf}
use Rattle.drive_tape.specs.Worlds.{IsWholeCall, HandsOn, IsNoted, HasFailed, WorldIsAt, HasGone, BeganSo, AskedSo, GaveUpSo, LeftSo}
use Rattle.drive_tape.proofs.Beginnings.{begins_so}
use Rattle.drive_tape.proofs.Done.{given_up, refused_life}
use Rattle.drive_tape.proofs.Chains.{carried, stands_at, went_more, has_failed}

module _ {D : Type 0} (on : View D) (start old new : World D) (outcomes : List Outcome) (awaited : List Awaited) (k : ℕ) (at : WorldIsAt on start outcomes awaited old) where
  -- a node whose disk failed in a step has its cause
  pub failed_now : (one : Step) (n : ℕ) → IsStep on (Ok (said.Faulted n)) one old new → HasFailed on start new n
  failed_now one n is =
      has_failed on start outcomes awaited old at one n (state_of new) old (carried on start outcomes awaited old at) (λ told. (stands_at on start outcomes awaited old at told).1) is.did

  -- memory ran out for a beginning
  broke_off : {E : Type 0} (node : ℕ) (call : Call) (asked : calls.Call) (why : StepFault) (e : E) → call_seen call ≡ Some asked → IsWholeCall asked → IsStep on (Err why) (step.Begin node call) old new
      → BeganSo on start outcomes awaited k node asked (Err e) old new
  broke_off node call asked (fault.NoMemory (Some failed)) e seen whole is = inr (awaited_elsewhere failed awaited, went_more on start outcomes awaited old at (Broke k node asked) (awaited_elsewhere failed awaited) new (call, failed, seen, is, refl) whole)
  broke_off node call asked (fault.NoMemory None) e seen whole is = inl (awaited, went_more on start outcomes awaited old at (Refused k node asked) awaited new (call, fault.NoMemory None, seen, tt, is, refl) whole)
  broke_off node call asked fault.NoSuchNode e seen whole is = inl (awaited, went_more on start outcomes awaited old at (Refused k node asked) awaited new (call, fault.NoSuchNode, seen, tt, is, refl) whole)
  broke_off node call asked fault.NodeLost e seen whole is = inl (awaited, went_more on start outcomes awaited old at (Refused k node asked) awaited new (call, fault.NodeLost, seen, tt, is, refl) whole)
  broke_off node call asked fault.NodeDown e seen whole is = inl (awaited, went_more on start outcomes awaited old at (Refused k node asked) awaited new (call, fault.NodeDown, seen, tt, is, refl) whole)
  broke_off node call asked fault.NodeUp e seen whole is = inl (awaited, went_more on start outcomes awaited old at (Refused k node asked) awaited new (call, fault.NodeUp, seen, tt, is, refl) whole)
  broke_off node call asked fault.NoSuchLetter e seen whole is = inl (awaited, went_more on start outcomes awaited old at (Refused k node asked) awaited new (call, fault.NoSuchLetter, seen, tt, is, refl) whole)
  broke_off node call asked fault.NoSuchTicket e seen whole is = inl (awaited, went_more on start outcomes awaited old at (Refused k node asked) awaited new (call, fault.NoSuchTicket, seen, tt, is, refl) whole)
  broke_off node call asked fault.NotAGroup e seen whole is = inl (awaited, went_more on start outcomes awaited old at (Refused k node asked) awaited new (call, fault.NotAGroup, seen, tt, is, refl) whole)
  broke_off node call asked fault.Worn e seen whole is = inl (awaited, went_more on start outcomes awaited old at (Refused k node asked) awaited new (call, fault.Worn, seen, tt, is, refl) whole)
  broke_off node call asked fault.NoRoom e seen whole is = inl (awaited, went_more on start outcomes awaited old at (Refused k node asked) awaited new (call, fault.NoRoom, seen, tt, is, refl) whole)

  -- its node went down
  call_fell : (E : Type 0) (node : ℕ) (call : Call) (asked : calls.Call) → call_seen call ≡ Some asked → IsWholeCall asked → IsStep on (Ok (said.Faulted node)) (step.Begin node call) old new
      → BeganSo {E = E} on start outcomes awaited k node asked (Ok None) old new
  call_fell E node call asked seen whole is =
      (λ n. is.did.lives n, failed_now (step.Begin node call) node is, went_more on start outcomes awaited old at (Fell k node asked) (awaited_elsewhere node awaited) new (call, seen, is, refl) whole)

  -- it has begun
  call_began : (E : Type 0) (node : ℕ) (call : Call) (asked : calls.Call) (given : OpenCall) (stirs : ℕ) → call_seen call ≡ Some asked → IsWholeCall asked → IsKindOf given.kind asked → given.ticket.node ≡ node
      → IsStep on (Ok (said.Begun given.ticket stirs)) (step.Begin node call) old new → BeganSo {E = E} on start outcomes awaited k node asked (Ok (Some given)) old new
  call_began E node call asked given stirs seen whole kind own is = (
    own,
    kind,
    λ n. is.did.lives n,
    went_more on start outcomes awaited old at (Began k node asked given.ticket) (awaited ++ record { ticket = given.ticket; session = k; call = asked } ∷ []) new (call, stirs, seen, is, refl) whole,
  )

  -- what is handed on of it
  pub handed_on : {E : Type 0} (node : ℕ) (call : Call) (asked : calls.Call) (kind : CallKind) (result : Result Said StepFault) (handed : Result (Option OpenCall) E) → call_seen call ≡ Some asked → IsWholeCall asked → IsKindOf kind asked
      → HandsOn kind result handed → IsStep on result (step.Begin node call) old new → BeganSo on start outcomes awaited k node asked handed old new
  handed_on node call asked kind (Ok (said.Begun ticket stirs)) (Ok (Some given)) seen whole fits hands is =
      let own : ticket.node ≡ node = begins_so call asked seen node (said.Begun ticket stirs) is.did.kind in
      call_began ℕ node call asked given stirs seen whole (subst (λ (kd : CallKind). IsKindOf kd asked) (sym hands.1) fits) (ap (λ (t : Number). t.node) hands.0 ∙ own)
      (subst (λ (t : Number). IsStep on (Ok (said.Begun t stirs)) (step.Begin node call) old new) (sym hands.0) is)
  handed_on node call asked kind (Ok (said.Begun ticket stirs)) (Ok None) seen whole fits hands is = absurd hands
  handed_on node call asked kind (Ok (said.Begun ticket stirs)) (Err e) seen whole fits hands is = absurd hands
  handed_on node call asked kind (Ok (said.Faulted failed)) (Ok None) seen whole fits hands is =
      let own : failed ≡ node = begins_so call asked seen node (said.Faulted failed) is.did.kind in
      call_fell ℕ node call asked seen whole (subst (λ (n : ℕ). IsStep on (Ok (said.Faulted n)) (step.Begin node call) old new) own is)
  handed_on node call asked kind (Ok (said.Faulted failed)) (Ok (Some given)) seen whole fits hands is = absurd hands
  handed_on node call asked kind (Ok (said.Faulted failed)) (Err e) seen whole fits hands is = absurd hands
  handed_on node call asked kind (Ok said.Noted) handed seen whole fits hands is = absurd (begins_so call asked seen node said.Noted is.did.kind)
  handed_on node call asked kind (Ok (said.Asked ask)) handed seen whole fits hands is = absurd (begins_so call asked seen node (said.Asked ask) is.did.kind)
  handed_on node call asked kind (Ok said.Heard) handed seen whole fits hands is = absurd (begins_so call asked seen node said.Heard is.did.kind)
  handed_on node call asked kind (Ok (said.Thrown why)) handed seen whole fits hands is = absurd (begins_so call asked seen node (said.Thrown why) is.did.kind)
  handed_on node call asked kind (Ok (said.Sent letters)) handed seen whole fits hands is = absurd (begins_so call asked seen node (said.Sent letters) is.did.kind)
  handed_on node call asked kind (Ok (said.Widened did)) handed seen whole fits hands is = absurd (begins_so call asked seen node (said.Widened did) is.did.kind)
  handed_on node call asked kind (Ok (said.Grouped epoch)) handed seen whole fits hands is = absurd (begins_so call asked seen node (said.Grouped epoch) is.did.kind)
  handed_on node call asked kind (Ok (said.Concluded epoch members)) handed seen whole fits hands is = absurd (begins_so call asked seen node (said.Concluded epoch members) is.did.kind)
  handed_on node call asked kind (Ok (said.NodeUp boot)) handed seen whole fits hands is = absurd (begins_so call asked seen node (said.NodeUp boot) is.did.kind)
  handed_on node call asked kind (Ok said.Done) handed seen whole fits hands is = absurd (begins_so call asked seen node said.Done is.did.kind)
  handed_on node call asked kind (Err why) (Err e) seen whole fits hands is = broke_off node call asked why e seen whole is
  handed_on node call asked kind (Err why) (Ok given) seen whole fits hands is = absurd hands

  -- it was answered
  pub call_answered : (E : Type 0) (asked : calls.Call) (open_call : OpenCall) (given : Answer) → fits_kind open_call.kind given ≡ true → Among (record { ticket = open_call.ticket; session = k; call = asked }) awaited
      → IsStep on (Ok (said.Asked (ask.Done given))) (step.Ask open_call.ticket) old new → AskedSo {E = E} on start outcomes awaited k asked open_call (Ok (Some given)) old new
  call_answered E asked open_call given fits among is =
      (fits, λ n. is.did.lives n, went_more on start outcomes awaited old at (Answers k asked open_call.ticket (answer_seen given)) (without_session k awaited) new (given, refl, among, is, refl) tt)

  -- it still waits
  pub call_waits : (E : Type 0) (asked : calls.Call) (open_call : OpenCall) (got wanted : ℕ) → Among (record { ticket = open_call.ticket; session = k; call = asked }) awaited → IsStep on (Ok (said.Asked (ask.Pending got wanted))) (step.Ask open_call.ticket) old new
      → AskedSo {E = E} on start outcomes awaited k asked open_call (Ok None) old new
  call_waits E asked open_call got wanted among is = (λ n. is.did.lives n, went_more on start outcomes awaited old at (StillPending k open_call.ticket) awaited new (asked, got, wanted, among, is, refl) tt)

  -- it was asked for in vain
  pub call_untold : (asked : calls.Call) (open_call : OpenCall) (result : Result Said StepFault) → LeavesUnanswered asked result → Among (record { ticket = open_call.ticket; session = k; call = asked }) awaited
      → IsStep on result (step.Ask open_call.ticket) old new → HasGone on start old (outcomes ++ Unanswered k asked open_call.ticket ∷ []) new
  call_untold asked open_call result untold among is =
      let left = left_after (fallen_in (step.Ask open_call.ticket) result) awaited in
      (left, went_more on start outcomes awaited old at (Unanswered k asked open_call.ticket) left new (result, among, untold, is, refl) tt)

  -- its answer is none of its own
  pub not_its_own : (asked : calls.Call) (open_call : OpenCall) (given : Answer) → fits_kind open_call.kind given ≡ false → IsKindOf open_call.kind asked → LeavesUnanswered asked (Ok (said.Asked (ask.Done given)))
  not_its_own asked open_call given other kind own = absurd (let never : true ≡ false = sym (kind.only given own) ∙ other in cc)

  -- it was given up
  pub call_given_up : {T : Type 0} (asked : calls.Call) (ticket : Number) (t : T) → Among (record { ticket = ticket; session = k; call = asked }) awaited → IsStep on (Ok said.Done) (step.GiveUp ticket) old new
      → GaveUpSo on start outcomes awaited k asked ticket (Ok t) old new
  call_given_up asked ticket t among is = (
    λ n. is.did.lives n,
    went_more on start outcomes awaited old at (GaveUp k asked ticket) (without_session k awaited) new (among, is, refl) tt,
    went_more on start outcomes awaited old at (Abandoned k asked ticket) (without_session k awaited) new (among, is, refl) tt,
  )

  pub call_kept_up : (T : Type 0) (asked : calls.Call) (ticket : Number) (why : StepFault) (stop : Stop) → stop ≡ stop_by why → Among (record { ticket = ticket; session = k; call = asked }) awaited → IsStep on (Err why) (step.GiveUp ticket) old new
      → GaveUpSo {T = T} on start outcomes awaited k asked ticket (Err stop) old new
  call_kept_up T asked ticket why stop same among is =
      let left = left_after (fallen_in (step.GiveUp ticket) (Err why)) awaited in
      (why, same, (left, went_more on start outcomes awaited old at (KeptUp k ticket why) left new (asked, among, is, refl) tt), λ f bad n. is.did.lives n ∙ refused_life why (step.GiveUp ticket) n (life_of old n) f (sym same ∙ bad))

  -- whichever of both
  pub gave_up_so : {T : Type 0} (asked : calls.Call) (ticket : Number) (result : Result Said StepFault) (handed : Result T Stop) → IsDoneOr result handed → Among (record { ticket = ticket; session = k; call = asked }) awaited
      → IsStep on result (step.GiveUp ticket) old new → GaveUpSo on start outcomes awaited k asked ticket handed old new
  gave_up_so asked ticket (Ok what) (Ok t) done among is =
      call_given_up asked ticket t among (subst (λ (w : Said). IsStep on (Ok w) (step.GiveUp ticket) old new) (given_up ticket what is.did.kind) is)
  gave_up_so asked ticket (Ok what) (Err stop) done among is = absurd done
  gave_up_so asked ticket (Err why) (Ok t) done among is = absurd done
  gave_up_so {T} asked ticket (Err why) (Err stop) done among is = call_kept_up T asked ticket why stop done among is

  -- a leave
  user_left : (T E : Type 0) (node : ℕ) (call : Call) (user : List ℕ) (t : T) → IsLeave user call → IsStep on (Ok said.Noted) (step.Begin node call) old new
      → LeftSo {E = E} on start outcomes awaited k node user (Ok t) old new
  user_left T E node call user t leave is = (λ n. is.did.lives n, went_more on start outcomes awaited old at (Left k node user) awaited new (call, Ok said.Noted, leave, is, refl) tt)

  user_stays : (node : ℕ) (call : Call) (user : List ℕ) (result : Result Said StepFault) → IsLeave user call → IsStep on result (step.Begin node call) old new
      → HasGone on start old (outcomes ++ Left k node user ∷ []) new
  user_stays node call user result leave is =
      let left = left_after (fallen_in (step.Begin node call) result) awaited in
      (left, went_more on start outcomes awaited old at (Left k node user) left new (call, result, leave, is, refl) tt)

  -- whichever of both
  pub left_so : {T E : Type 0} (node : ℕ) (call : Call) (user : List ℕ) (result : Result Said StepFault) (handed : Result T E) → IsNoted result handed → IsLeave user call
      → IsStep on result (step.Begin node call) old new → LeftSo on start outcomes awaited k node user handed old new
  left_so {T} {E} node call user (Ok what) (Ok t) noted leave is = user_left T E node call user t leave (subst (λ (w : Said). IsStep on (Ok w) (step.Begin node call) old new) noted is)
  left_so node call user (Ok what) (Err e) noted leave is = absurd noted
  left_so node call user (Err why) (Ok t) noted leave is = absurd noted
  left_so node call user (Err why) (Err e) noted leave is = user_stays node call user (Err why) leave is
