-- A call that has begun and has its ticket.
use Rattle.std.proofs.Common.{◌≡◌, ◌⊎◌, inl, inr, ⊎_elim, ◌≤◌, ◌+◌, ℕ, Bool, true, false, List, [], ◌∷◌, ◌++◌, map, Some, refl, sym, ap, ◌∙◌, subst, arith, if◌then◌else◌}
use Rattle.std.specs.FinMap as fin
use Rattle.mail_model.specs.Identity.{Id}
use Rattle.mail_model.specs.Mail.{IsStored}
use Rattle.mail_model.specs.Plan.{Plan}
use Rattle.mail_model.specs.Record.{Record}
use Rattle.object_model.specs.Lists.{Among}
use Rattle.object_model.specs.Letters.{Number}
use Rattle.object_model.specs.Sets.{has, one_node}
use Rattle.session_model.specs.Calls.{Call}
use Rattle.session_model.specs.Logs.{Asked, Answered}
use Rattle.session_model.specs.SoundMails.{IsSoundMail}
use Rattle.cluster_model.specs.Cluster.{Ticket, Node, slot_at}
use Rattle.cluster_model.specs.Cluster.AskedOfNodes.{Deletion}
use Rattle.cluster_model.specs.Claims.{IsIdDrawn}
use Rattle.cluster_model.specs.Parts.{IsHeldSomewhere}
use Rattle.cluster_model.specs.Rules.{Reaction, new_want, new_number, dated}
use Rattle.cluster_model.specs.World.{World, letters_of}
use Rattle.cluster_model.specs.Steps.{Struck, NodeCall}
use Rattle.cluster_model.specs.Steps.Step.{Begin}
use Rattle.cluster_model.specs.Steps.Said.{Begun}
use Rattle.cluster_model.specs.Steps.StepOutcome.{Says}
use Rattle.cluster_model.specs.Makes.{IsUp, after, with_struck, MakesStep}
use Rattle.cluster_owes.specs.Seen.{call_made}
use Rattle.cluster_owes.specs.Outcomes.{BegunCall, IsTakenAt}
use Rattle.cluster_owes.proofs.Masks.{IsMask, one_mask}
use Rattle.cluster_owes.proofs.Standing.{StandsAs, IsWithinCalls, SameCall}
use Rattle.cluster_owes.proofs.WorldSteps.{TicketsStep, boot_id}
use Rattle.cluster_owes.proofs.Books.{AreDeletions}
use Rattle.cluster_owes.proofs.Known.{Filed, AreApart, TicketFits, FiledStands, BegunStands, Known, fits_still}
use Rattle.cluster_owes.proofs.QuietSteps.{StepKept}
use Rattle.cluster_owes.proofs.Beginning.{begun_tickets, begun_within, begun_stands, begun_drawn, begun_keeps, not_called_yet, known_begun}
use Rattle.cluster_owes.proofs.Began.{struck_more, with_book, with_slots, with_seconds, struck_is, struck_acked, struck_dropped, kept, held}

-- one file more, of another id
pub apart_push : (files : List Filed) (f : Filed) → AreApart files → ((g : Filed) → Among g files → f.id ≡ g.id → ⊥) → AreApart (files ++ f ∷ [])
apart_push [] f apart new = (λ g m. absurd m, tt)
apart_push (g ∷ files) f apart new = (
  λ h m same. ⊎_elim
      (λ was. apart.0 h was same)
      (λ is. ⊎_elim (λ e. new g (inl refl) (ap (λ (x : Filed). x.id) e ∙ same)) (λ none. absurd none) is)
      (either h files m),
  apart_push files f apart.1 (λ h m same. new h (inr m) same),
)
  where
    either : (h : Filed) (files : List Filed) → Among h (files ++ f ∷ []) → Among h files ⊎ Among h (f ∷ [])
    either h [] m = inr m
    either h (x ∷ files) m = ⊎_elim (λ e. inl (inl e)) (λ later. ⊎_elim (λ a. inl (inr a)) (λ b. inr b) (either h files later)) m

-- the wants of a deletion that begins
pub deletions_are : (own : ℕ) (node : Node) (user : List ℕ) (asks : Struck → ℕ) → own ≤ 64 → (items : List Struck) (count : ℕ)
    → AreDeletions user (map (λ (item : Struck). item.id) items) (map (λ item. new_want own (Deletion user item.mark.id) item.asks) (dated own node count (map (λ (item : Struck). (item.id, asks item)) items)))
deletions_are own node user asks le [] count = tt
deletions_are own node user asks le (item ∷ items) count = (refl, own_mask (has (asks item) own), deletions_are own node user asks le items (count + 1))
  where
    own_mask : (b : Bool) → IsMask (if b then one_node own else 0)
    own_mask true = one_mask own le
    own_mask false = omega arith

module _ (plan : Plan) (tells : Bool) (lines : List (List ℕ)) (asked : List Asked) (answered : List Answered) (begun : List BegunCall) (old new : World)
    (known : Known plan tells lines asked answered begun old) (k own : ℕ) (call : NodeCall) (made : Call) (is_call : call_made call ≡ Some made) (number : Number)
    (did : MakesStep plan tells old (Begin own call) (Says (Begun number)) new) (sound : IsSoundMail made) (taken : IsTakenAt lines k own made) where
  abbrev last : BegunCall
  last = record { ticket = number; session = k; call = made }

  abbrev Goal : Type 0
  Goal = Known plan tells lines (asked ++ record { session = k; call = made } ∷ []) answered (begun ++ last ∷ []) new

  pub step_kept_is : StepKept plan old new
  step_kept_is = kept plan tells lines asked answered begun old new known k own call made is_call (Says (Begun number)) did

  held_is : (f : Filed) → Among f known.files → (octets : List ℕ) → IsHeldSomewhere new.slots (letters_of new.flying) f.id octets → IsStored f.mail f.id f.seconds octets
  held_is = held plan tells lines asked answered begun old new known k own call made is_call (Says (Begun number)) did

  -- its ticket stands, and so much is filed
  module _ (node : Node) (disk : List Record) (up : IsUp old own node disk) (reaction : Reaction) (ticket : Ticket) (boot : reaction.node.boot ≡ node.boot) (calls : reaction.node.calls ≡ node.calls + 1)
      (tickets : reaction.node.tickets ≡ fin.insert node.tickets (node.calls + 1) ticket) (is : new ≡ after (with_struck old call) own reaction) (number_is : number ≡ new_number own node) where
    abbrev w : World
    w = with_struck old call

    up_then : IsUp w own node disk
    up_then = ap (λ s. slot_at s own) (with_slots old call) ∙ up

    slots_are : new.slots ≡ (after w own reaction).slots
    slots_are = ap (λ (x : World). x.slots) is

    step : TicketsStep old.slots new.slots (λ n t. n ≡ new_number own node)
    step = subst (λ s. TicketsStep s new.slots (λ n t. n ≡ new_number own node)) (with_slots old call)
        (subst (λ s. TicketsStep w.slots s (λ n t. n ≡ new_number own node)) (sym slots_are) (begun_tickets w own node disk reaction ticket up_then boot calls tickets))

    pub drawn_now : (id : Id) → id.node ≡ own → id.boot ≡ node.boot → id.seq ≤ reaction.node.drawn → IsIdDrawn new.slots id
    drawn_now id at of_boot le = subst (λ s. IsIdDrawn s id) (sym slots_are) (begun_drawn w own node disk reaction ticket up_then boot calls tickets id at of_boot le)

    pub within_now : IsWithinCalls new.slots (new_number own node)
    within_now = subst (λ s. IsWithinCalls s (new_number own node)) (sym slots_are) (begun_within w own node disk reaction ticket up_then boot calls tickets)

    stands_now : (t : Ticket) → StandsAs new.slots (new_number own node) t → SameCall ticket t
    stands_now t s = begun_stands w own node disk reaction ticket up_then boot calls tickets t (subst (λ l. StandsAs l (new_number own node) t) slots_are s)

    boot_drawn : IsIdDrawn new.slots (boot_id (new_number own node))
    boot_drawn = drawn_now (boot_id (new_number own node)) refl refl (omega arith)

    pub begins_so : (files : List Filed) → AreApart (known.files ++ files) → ((f : Filed) → Among f files → FiledStands new f)
        → TicketFits lines (known.files ++ files) last made ticket → Goal
    begins_so files apart filed fits = known_begun plan tells lines asked answered begun old new known step_kept_is (record { session = k; call = made }) (struck_more call) (λ n. n ≡ new_number own node)
        (ap (λ (x : World). x.seconds) is ∙ (begun_keeps w own node disk reaction ticket up_then boot calls tickets).0 ∙ with_seconds old call)
        (ap (λ (x : World). x.book) is ∙ (begun_keeps w own node disk reaction ticket up_then boot calls tickets).1 ∙ with_book old call)
        (struck_is call made is_call) (struck_dropped call) (struck_acked call)
        step (λ n w same. not_called_yet old.slots own node disk up n w same)
        held_is files apart filed (last ∷ [])
        (λ one m. ⊎_elim (λ same. subst (BegunStands new) same (record {
          sound = sound;
          drawn = subst (λ n. IsIdDrawn new.slots (boot_id n)) (sym number_is) boot_drawn;
          within = subst (IsWithinCalls new.slots) (sym number_is) within_now;
        })) (λ none. absurd none) m)
        (λ one t m s. ⊎_elim
        (λ same. subst (λ (b : BegunCall). TicketFits lines (known.files ++ files) b b.call t) same
        (fits_still lines (known.files ++ files) (known.files ++ files) (λ f inside. inside) last made ticket t
        (stands_now t (subst (λ n. StandsAs new.slots n t) number_is (subst (λ (b : BegunCall). StandsAs new.slots b.ticket t) (sym same) s))) fits))
        (λ none. absurd none) m)
        (λ n same. subst (IsWithinCalls new.slots) (sym same) within_now)

    -- nothing is filed
    pub begins_empty : TicketFits lines known.files last made ticket → Goal
    begins_empty fits = begins_so [] (subst AreApart (sym (no_more known.files)) known.apart) (λ f m. absurd m) (subst (λ files. TicketFits lines files last made ticket) (sym (no_more known.files)) fits)
      where
        no_more : (files : List Filed) → files ++ [] ≡ files
        no_more [] = refl
        no_more (f ∷ files) = ap (λ (l : List Filed). f ∷ l) (no_more files)
