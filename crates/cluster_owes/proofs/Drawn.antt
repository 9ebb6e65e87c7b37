-- A call that reads begins: its node draws a number of a ticket, under which messages have none.
use Rattle.std.proofs.Common.{◌≡◌, inl, inr, ⊎_elim, ◌≤◌, ◌+◌, ℕ, Bool, List, [], ◌∷◌, ◌++◌, Some, refl, sym, ap, ◌∙◌, subst, arith}
use Rattle.mail_model.specs.Plan.{Plan}
use Rattle.mail_model.specs.Record.{Record}
use Rattle.object_model.specs.Letters.{Number}
use Rattle.session_model.specs.Calls.{Call}
use Rattle.session_model.specs.Logs.{Asked, Answered}
use Rattle.session_model.specs.SoundMails.{IsSoundMail}
use Rattle.cluster_model.specs.Cluster.{Ticket, Node, slot_at, with_slot}
use Rattle.cluster_model.specs.Claims.{IsIdDrawn}
use Rattle.cluster_model.specs.Rules.{new_number}
use Rattle.cluster_model.specs.Deeds.{slot_up}
use Rattle.cluster_model.specs.World.{World}
use Rattle.cluster_model.specs.Steps.{NodeCall}
use Rattle.cluster_model.specs.Steps.NodeCall.{Deliver, Login, Fetch, Strike, Leave}
use Rattle.cluster_model.specs.Steps.Step.{Begin}
use Rattle.cluster_model.specs.Steps.Said.{Begun}
use Rattle.cluster_model.specs.Steps.StepOutcome.{Says}
use Rattle.cluster_model.specs.Makes.{IsUp, DrawsTicket, GoesOnReading, MakesStep}
use Rattle.cluster_model.proofs.Slots.{at_same}
use Rattle.cluster_owes.specs.Seen.{call_made}
use Rattle.cluster_owes.specs.Outcomes.{BegunCall, IsTakenAt}
use Rattle.cluster_owes.proofs.Standing.{StandsAs, IsWithinCalls, NodeGoes, NoneNew, same_call, same_up, slot_quiet}
use Rattle.cluster_owes.proofs.WorldSteps.{TicketsStep, OnlyLetters, boot_id, steps_so, goes_letters}
use Rattle.cluster_owes.proofs.Known.{AreApart, BegunStands, Known}
use Rattle.cluster_owes.proofs.QuietSteps.{StepKept}
use Rattle.cluster_owes.proofs.Beginning.{not_called_yet, known_begun}
use Rattle.cluster_owes.proofs.Began.{struck_more, with_book, struck_is, struck_acked, struck_dropped, kept, held, same_files}

-- nothing is entered in the book for it
no_entry : (w : World) (call : NodeCall) → DrawsTicket call → w.book ≡ w.book ++ struck_more call
no_entry w (Login user proof) draws = with_book w (Login user proof)
no_entry w (Fetch user id from most holders) draws = with_book w (Fetch user id from most holders)
no_entry w (Deliver mail) draws = absurd draws
no_entry w (Strike user items) draws = absurd draws
no_entry w (Leave user login manager) draws = absurd draws

-- the node after it
drawn_goes : (node : Node) → NodeGoes node (record node { calls = node.calls + 1 }) NoneNew
drawn_goes node = record { boot = refl; calls = omega arith; came = λ seq ticket e. inl (ticket, e, same_call ticket) }

-- no ticket of messages is new
pub drawn_step : (old new : World) (own : ℕ) (node : Node) (disk : List Record) → IsUp old own node disk
    → GoesOnReading (record old { slots = with_slot old.slots own (slot_up (record node { calls = node.calls + 1 }) disk) }) new → TicketsStep old.slots new.slots NoneNew
drawn_step old new own node disk up on =
    let letters = goes_letters (record old { slots = with_slot old.slots own (slot_up (record node { calls = node.calls + 1 }) disk) }) new on in
    subst (λ s. TicketsStep old.slots s NoneNew) (sym letters.slots)
    (steps_so old.slots (with_slot old.slots own (slot_up (record node { calls = node.calls + 1 }) disk)) NoneNew (slot_quiet old.slots own node (record node { calls = node.calls + 1 }) disk disk up (drawn_goes node)))

module _ (plan : Plan) (tells : Bool) (lines : List (List ℕ)) (asked : List Asked) (answered : List Answered) (begun : List BegunCall) (old new : World)
    (known : Known plan tells lines asked answered begun old) (k own : ℕ) (call : NodeCall) (made : Call) (is_call : call_made call ≡ Some made) (number : Number)
    (did : MakesStep plan tells old (Begin own call) (Says (Begun number)) new) (sound : IsSoundMail made) (taken : IsTakenAt lines k own made)
    (node : Node) (disk : List Record) (up : IsUp old own node disk) (draws : DrawsTicket call) (number_is : number ≡ new_number own node)
    (on : GoesOnReading (record old { slots = with_slot old.slots own (slot_up (record node { calls = node.calls + 1 }) disk) }) new) where
  abbrev next : Node
  next = record node { calls = node.calls + 1 }

  abbrev mid : World
  mid = record old { slots = with_slot old.slots own (slot_up next disk) }

  abbrev last : BegunCall
  last = record { ticket = number; session = k; call = made }

  letters : OnlyLetters mid new
  letters = goes_letters mid new on

  step_kept : StepKept plan old new
  step_kept = kept plan tells lines asked answered begun old new known k own call made is_call (Says (Begun number)) did

  step : TicketsStep old.slots new.slots NoneNew
  step = drawn_step old new own node disk up on

  up_now : IsUp new own next disk
  up_now = ap (λ s. slot_at s own) letters.slots ∙ at_same old.slots own (slot_up node disk) (slot_up next disk) up

  stands : BegunStands new last
  stands = record {
    sound = sound;
    drawn = subst (λ n. IsIdDrawn new.slots (boot_id n)) (sym number_is) (record { slot = slot_up next disk; here = up_now; drawn = inr (refl, omega arith) });
    within = subst (IsWithinCalls new.slots) (sym number_is)
        (λ other others there same. let is : other ≡ next = same_up other next others disk (sym there ∙ up_now) in subst (λ (n : Node). node.calls + 1 ≤ n.calls) (sym is) (omega arith));
  }

  -- no ticket of messages has the number
  none_stands : (ticket : Ticket) → StandsAs new.slots number ticket → ⊥
  none_stands ticket s = ⊎_elim
      (λ (before, stood, same). not_called_yet old.slots own node disk up number (known.numbered number before stood) number_is)
      (λ none. none)
      (step.came number ticket s)

  pub known_drawn : Known plan tells lines (asked ++ record { session = k; call = made } ∷ []) answered (begun ++ last ∷ []) new
  known_drawn = known_begun plan tells lines asked answered begun old new known step_kept (record { session = k; call = made }) (struck_more call) (λ n. ⊥)
      letters.seconds (letters.book ∙ no_entry old call draws)
      (struck_is call made is_call) (struck_dropped call) (struck_acked call)
      step (λ n w none. none)
      (held plan tells lines asked answered begun old new known k own call made is_call (Says (Begun number)) did)
      [] (subst AreApart (sym (same_files plan tells lines asked answered begun old new known k own call made is_call (Says (Begun number)) did known.files)) known.apart) (λ f m. absurd m)
      (last ∷ []) (λ one m. ⊎_elim (λ same. subst (BegunStands new) same stands) (λ none. absurd none) m)
      (λ one ticket m s. ⊎_elim (λ same. absurd (none_stands ticket (subst (λ (b : BegunCall). StandsAs new.slots b.ticket ticket) (sym same) s))) (λ none. absurd none) m)
      (λ n none. absurd none)
