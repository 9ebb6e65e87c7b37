-- In a plan of one node each ticket of messages that stands is confirmed.
use Rattle.std.proofs.Common.{◌≡◌, ◌⊎◌, inl, inr, ⊎_elim, ◌≤◌, ◌+◌, ℕ, zero, suc, Bool, true, false, List, [], ◌∷◌, Some, None, refl, sym, ap, ◌∙◌, subst, arith}
use Rattle.std.specs.FinMap as fin
use Rattle.std.specs.List.{list_all}
use Rattle.std.proofs.lemmas.Bool.{le-leb}
use Rattle.mail_model.specs.Plan.{Plan}
use Rattle.mail_model.specs.Record.{Record}
use Rattle.object_model.specs.Lists.{Among}
use Rattle.object_model.specs.Sets.{has, count_in, count_below}
use Rattle.object_model.specs.Letters.{Number}
use Rattle.object_model.specs.Mishaps.{no_mishaps, counted}
use Rattle.object_model.specs.Mishaps.MishapKind.{FewMembers}
use Rattle.object_model.proofs.SetLaws.{has_one}
use Rattle.cluster_model.specs.Cluster.CallKind.{LoggingIn}
use Rattle.cluster_model.specs.Cluster.{Want, Ticket, Node, Slot, slot_at}
use Rattle.cluster_model.specs.Rules.{Reaction, refuse, end_ticket}
use Rattle.cluster_model.specs.Progress.{is_confirmed, ask_of, ask_of_wants}
use Rattle.cluster_model.specs.Progress.Ask.{Pending}
use Rattle.cluster_model.specs.Deeds.{slot_up}
use Rattle.cluster_model.specs.Parts.{Sound}
use Rattle.cluster_model.specs.World.{World, cluster_of}
use Rattle.cluster_model.specs.WorldLaws.{InPlan}
use Rattle.cluster_model.specs.Steps.{NodeCall, Step, Said, StepOutcome, fails_at_once, mishaps_of_call, ids_drawn}
use Rattle.cluster_model.specs.Steps.NodeCall.{Deliver, Login, Fetch, Strike, Leave}
use Rattle.cluster_model.specs.Steps.Step.{Begin, Tick}
use Rattle.cluster_model.specs.Steps.Said.{Asked as AskedFor}
use Rattle.cluster_model.specs.Steps.StepOutcome.{Says, NoMemory}
use Rattle.cluster_model.specs.Makes.{IsUp, after, with_struck, IsFiled, begun_by, BeginsCall, BeginsRead, AnswersAsk, AnswersRead, NodeGoesDown, RunsShort, MakesStep}
use Rattle.cluster_model.specs.Makes.BeginsCall.{FailsAtOnce, Goes, FailsInIt}
use Rattle.cluster_model.specs.Makes.BeginsRead.{HasNoManager, Draws, FailsReading, Leaves}
use Rattle.cluster_model.specs.Makes.AnswersAsk.{Waits, Ends}
use Rattle.cluster_model.specs.Makes.RunsShort.{Beginning, Hearing, Widening, Forming, Starting}
use Rattle.cluster_model.proofs.Counting.{count_le}
use Rattle.cluster_owes.specs.Outcomes.{IsFall, IsIdleStep}
use Rattle.cluster_owes.proofs.Standing.{StandsAs, NoneNew, SameWants, SameCall, slot_quiet}
use Rattle.cluster_owes.proofs.NodeSteps.{end_goes}
use Rattle.cluster_owes.proofs.WorldSteps.{TicketsStep, steps_so, goes_letters, other_goes, cut_goes}
use Rattle.cluster_owes.proofs.Beginning.{begun_tickets, begun_stands}
use Rattle.cluster_owes.proofs.Drawn.{drawn_step}
use Rattle.cluster_owes.proofs.Answering.{ticket_stands}
use Rattle.cluster_owes.proofs.OneTarget.{delivery_sure, deletion_sure}

-- node 1 has confirmed all that the ticket wants
abbrev pub IsSure : Ticket → Type 0
IsSure ticket = (want : Want) → Among want ticket.wants → has want.confirmed 1 ≡ true

abbrev pub AreSure : List Slot → Type 0
AreSure slots = (number : Number) (ticket : Ticket) → StandsAs slots number ticket → IsSure ticket

sure_wants : (olds news : List Want) → SameWants olds news → ((want : Want) → Among want olds → has want.confirmed 1 ≡ true) → (want : Want) → Among want news → has want.confirmed 1 ≡ true
sure_wants [] [] same sure want m = absurd m
sure_wants [] (new ∷ news) same sure want m = absurd same
sure_wants (old ∷ olds) [] same sure want m = absurd m
sure_wants (old ∷ olds) (new ∷ news) same sure want (inl e) = subst (λ (w : Want). has w.confirmed 1 ≡ true) e (same.0.kept 1 (sure old (inl refl)))
sure_wants (old ∷ olds) (new ∷ news) same sure want (inr m) = sure_wants olds news same.1 (λ w k. sure w (inr k)) want m

sure_still : (before now : Ticket) → SameCall before now → IsSure before → IsSure now
sure_still before now same sure = sure_wants before.wants now.wants same.wants sure

-- no ticket is new
pub quiet_sure : (old new : List Slot) → TicketsStep old new NoneNew → AreSure old → AreSure new
quiet_sure old new step sure number ticket s = ⊎_elim
    (λ (before, stood, same). sure_still before ticket same (sure number before stood))
    (λ none. absurd none)
    (step.came number ticket s)

-- one is, and is sure
module _ (w : World) (own : ℕ) (node : Node) (disk : List Record) (did : Reaction) (ticket : Ticket) (up : IsUp w own node disk) (boot : did.node.boot ≡ node.boot)
    (calls : did.node.calls ≡ node.calls + 1) (tickets : did.node.tickets ≡ fin.insert node.tickets (node.calls + 1) ticket) where
  begun_sure : AreSure w.slots → IsSure ticket → AreSure (after w own did).slots
  begun_sure sure of number t s = ⊎_elim
      (λ (before, stood, same). sure_still before t same (sure number before stood))
      (λ is. sure_still ticket t (begun_stands w own node disk did ticket up boot calls tickets t (subst (λ n. StandsAs (after w own did).slots n t) is s)) of)
      ((begun_tickets w own node disk did ticket up boot calls tickets).came number t s)

struck_same : (old : World) (call : NodeCall) → (with_struck old call).slots ≡ old.slots
struck_same old (Deliver mail) = refl
struck_same old (Login user proof) = refl
struck_same old (Fetch user id from most holders) = refl
struck_same old (Strike user items) = refl
struck_same old (Leave user login manager) = refl

module _ (plan : Plan) (tells : Bool) (one : plan.nodes ≡ 1) (sure_of : plan.confirm ≡ 1) (some : 1 ≤ plan.copies) where
  -- steps of messages
  module _ (old new : World) (in_plan : InPlan plan.nodes old.slots) (sound : Sound plan.confirm (cluster_of old)) (sure : AreSure old.slots) where
    own_one : (own : ℕ) (node : Node) (disk : List Record) → IsUp old own node disk → own ≡ 1
    own_one own node disk up = let p = in_plan own (slot_up node disk) up in at own p.some (subst (λ n. own ≤ n) one p.within)
      where
        at : (n : ℕ) → (n ≡ 0 → ⊥) → n ≤ 1 → n ≡ 1
        at zero some le = absurd (some refl)
        at (suc k) some le = omega (arith, le)

    goes_sure : (own : ℕ) (call : NodeCall) (node : Node) (disk : List Record) (octets : List ℕ) → IsUp old own node disk → fails_at_once plan old.seconds node call ≡ false → IsFiled old own node call octets
        → new ≡ after (with_struck old call) own (begun_by plan old own node disk call octets) → AreSure new.slots
    goes_sure own (Deliver mail) node disk octets up fails filed is = subst (λ (w : World). AreSure w.slots) (sym is)
        (begun_sure old own node disk (begun_by plan old own node disk (Deliver mail) octets) _ up refl refl refl sure
        (λ want m. ⊎_elim (λ e. subst (λ (w : Want). has w.confirmed 1 ≡ true) e (delivery_sure plan one sure_of some own (own_one own node disk up) old.seconds node mail fails)) (λ none. absurd none) m))
    goes_sure own (Strike user items) node disk octets up fails filed is = subst (λ (w : World). AreSure w.slots) (sym is)
        (begun_sure (with_struck old (Strike user items)) own node disk (begun_by plan old own node disk (Strike user items) octets) _ up refl refl refl sure
        (λ want m. deletion_sure plan one sure_of some own (own_one own node disk up) old.seconds node user items fails node.count want m))
    goes_sure own (Login user proof) node disk octets up fails filed is = absurd filed
    goes_sure own (Fetch user id from most holders) node disk octets up fails filed is = absurd filed
    goes_sure own (Leave user login manager) node disk octets up fails filed is = absurd filed

    down_sure : (own : ℕ) (call : NodeCall) (node : Node) (disk whole : List Record) → IsUp old own node disk → NodeGoesDown (with_struck old call) own disk whole new → AreSure new.slots
    down_sure own call node disk whole up g =
        quiet_sure (with_struck old call).slots new.slots (cut_goes (with_struck old call) new own node disk g.front g.pending (ap (λ l. slot_at l own) (struck_same old call) ∙ up) g.is).goes.tickets
        (subst AreSure (sym (struck_same old call)) sure)

    pub begins_sure : (own : ℕ) (call : NodeCall) (said : Said) → BeginsCall plan tells old own call said new ⊎ BeginsRead plan old own call said new → AreSure new.slots
    begins_sure own call said (inl (FailsAtOnce node disk kind up of_kind fails is new_world)) = subst (λ (w : World). AreSure w.slots) (sym new_world)
        (begun_sure (with_struck old call) own node disk (refuse kind (mishaps_of_call plan old.seconds node call) (ids_drawn call) node disk) _ (ap (λ l. slot_at l own) (struck_same old call) ∙ up) refl refl refl
        (subst AreSure (sym (struck_same old call)) sure) (λ want m. absurd m))
    begins_sure own call said (inl (Goes node disk octets up fails filed is new_world)) = goes_sure own call node disk octets up fails filed new_world
    begins_sure own call said (inl (FailsInIt node disk octets up filed is g)) = down_sure own call node disk _ up g
    begins_sure own call said (inr (HasNoManager node disk user proof up logs_in goes is new_world)) = subst (λ (w : World). AreSure w.slots) (sym new_world)
        (begun_sure old own node disk (refuse LoggingIn (counted FewMembers no_mishaps) 0 node disk) _ up refl refl refl sure (λ want m. absurd m))
    begins_sure own call said (inr (Draws node disk up draws goes is on)) = quiet_sure old.slots new.slots (drawn_step old new own node disk up on) sure
    begins_sure own call said (inr (FailsReading node disk user id from most holders up fetches reads is new_world)) =
        quiet_sure old.slots new.slots (cut_goes old new own node disk [] [] up new_world).goes.tickets sure
    begins_sure own call said (inr (Leaves node disk user login manager up leaves is on)) = subst AreSure (sym (goes_letters old new on).slots) sure

    short_sure : (own : ℕ) (call : NodeCall) (n : ℕ) → RunsShort plan old (Begin own call) n new → AreSure new.slots
    short_sure own call n (Beginning other node disk octets is up filed g) = down_sure n other node disk _ up g
    short_sure own call n (Hearing number keep flies node disk is at up g) = absurd (cc is)
    short_sure own call n (Widening user id to node disk is up g) = absurd (cc is)
    short_sure own call n (Forming node disk promise up forms g) = absurd forms
    short_sure own call n (Starting disk pending next records is here stops new_world) = absurd (cc is)

    pub fell_sure : (own : ℕ) (call : NodeCall) (outcome : StepOutcome) → IsFall outcome → MakesStep plan tells old (Begin own call) outcome new → AreSure new.slots
    fell_sure own call (Says said) fall made = begins_sure own call said made.1
    fell_sure own call (StepOutcome.Refused fault) fall made = absurd fall
    fell_sure own call (NoMemory None) fall made = absurd fall
    fell_sure own call (NoMemory (Some n)) fall made = short_sure own call n made

    pub answers_sure : (number : Number) (said : Said) → AnswersAsk plan old number said new ⊎ AnswersRead old number said new → AreSure new.slots
    answers_sure number said (inl (Waits node disk ticket up found got wanted e is new_world)) = subst (λ (w : World). AreSure w.slots) (sym new_world) sure
    answers_sure number said (inl (Ends node disk ticket up found answer e is new_world)) = subst (λ (w : World). AreSure w.slots) (sym new_world)
        (quiet_sure old.slots _ (steps_so old.slots _ NoneNew (slot_quiet old.slots number.node node (end_ticket number.seq node disk).node disk disk up (end_goes number.seq node disk))) sure)
    answers_sure number said (inr read) = subst (λ (w : World). AreSure w.slots) (sym read.new_world) sure

    pub idle_sure : (step : Step) (outcome : StepOutcome) → IsIdleStep step outcome → MakesStep plan tells old step outcome new → AreSure new.slots
    idle_sure step outcome idle made = quiet_sure old.slots new.slots (other_goes plan tells old new sound step outcome idle made).goes.tickets sure

    pub ticked_sure : (seconds : ℕ) → MakesStep plan tells old (Tick seconds) (Says Said.Finished) new → AreSure new.slots
    ticked_sure seconds made = subst (λ (w : World). AreSure w.slots) (sym made.1.1) sure

    -- a ticket that is sure does not wait
    confirmed_one : (want : Want) → has want.confirmed 1 ≡ true → is_confirmed 1 want ≡ true
    unfolding count_below
    confirmed_one want h = le-leb 1 (count_in want.confirmed) (let e : 1 ≤ count_in want.confirmed = count_le 1 want.confirmed (λ n k. subst (λ m. has want.confirmed m ≡ true) (sym (has_one 1 n k)) h) 64 in e)

    all_confirmed : (wants : List Want) → ((want : Want) → Among want wants → has want.confirmed 1 ≡ true) → list_all (is_confirmed 1) wants ≡ true
    all_confirmed [] each = refl
    all_confirmed (want ∷ wants) each = rw (confirmed_one want (each want (inl refl)), all_confirmed wants (λ w m. each w (inr m))) refl

    no_wait : (ticket : Ticket) (got wanted : ℕ) → IsSure ticket → ask_of 1 ticket ≡ Pending got wanted → ⊥
    no_wait ticket got wanted of e = by ticket.wants of e
      where
        by : (wants : List Want) → ((want : Want) → Among want wants → has want.confirmed 1 ≡ true) → ask_of_wants 1 ticket.mishaps wants ≡ Pending got wanted → ⊥
        by [] of h = cc
        by (want ∷ wants) of h = absurd (let done = all_confirmed (want ∷ wants) of in cc)

    pub none_asked : (number : Number) (got wanted : ℕ) → AnswersAsk plan old number (AskedFor (Pending got wanted)) new → ⊥
    none_asked number got wanted (Waits node disk ticket up found g n e is new_world) =
        no_wait ticket g n (sure number ticket (ticket_stands number old.slots node disk ticket up found)) (subst (λ c. ask_of c ticket ≡ Pending g n) sure_of e)
    none_asked number got wanted (Ends node disk ticket up found answer e is new_world) = cc is
