-- Each kind of call that begins: what is known then.
use Rattle.std.proofs.Common.{◌≡◌, ◌⊎◌, inl, inr, ⊎_elim, ◌≤◌, ◌+◌, ℕ, Bool, true, false, List, [], ◌∷◌, ◌++◌, map, Some, None, refl, sym, ap, ◌∙◌, subst, arith, le_refl, le_trans, if◌then◌else◌}
use Rattle.mail_model.specs.Identity.{Id}
use Rattle.mail_model.specs.Plan.{Plan, Proof}
use Rattle.mail_model.specs.Record.{Record}
use Rattle.mail_model.specs.Stored.{opened, kind_at}
use Rattle.mail_model.specs.Tape.Protocol.{Smtp}
use Rattle.mail_model.specs.Told.{Mail}
use Rattle.object_model.specs.Letters.{Number}
use Rattle.object_model.specs.Mishaps.{no_mishaps, counted}
use Rattle.object_model.specs.Mishaps.MishapKind.{FewMembers}
use Rattle.object_model.specs.Sets.{has, one_node, nodes_in}
use Rattle.object_model.proofs.Lists.{among_behind}
use Rattle.session_model.specs.Calls.{Call, given_of}
use Rattle.session_model.specs.Calls.Call.{Deliver, Login, Fetch, Strike}
use Rattle.session_model.specs.Logs.{Asked, Answered}
use Rattle.session_model.specs.SoundMails.{IsSoundMail}
use Rattle.cluster_model.specs.Cluster.{Ticket, Node, members_of}
use Rattle.cluster_model.specs.Cluster.AskedOfNodes.{Copies, Deletion}
use Rattle.cluster_model.specs.Cluster.CallKind.{Delivering, LoggingIn, Striking}
use Rattle.cluster_model.specs.Claims.{IsIdDrawn}
use Rattle.cluster_model.specs.Rules.{new_want, new_number, dated, refuse}
use Rattle.cluster_model.specs.Targets.{strike_asks}
use Rattle.cluster_model.specs.Deeds.{slot_up}
use Rattle.cluster_model.specs.World.{World}
use Rattle.cluster_model.specs.WorldLaws.{FiledBy}
use Rattle.cluster_model.specs.Steps.{Struck, NodeCall, StepOutcome, mishaps_of_call, ids_drawn}
use Rattle.cluster_model.specs.Steps.NodeCall.{Deliver as DeliverCall, Login as LoginCall, Fetch as FetchCall, Strike as StrikeCall, Leave}
use Rattle.cluster_model.specs.Steps.Step.{Begin}
use Rattle.cluster_model.specs.Steps.Said.{Begun}
use Rattle.cluster_model.specs.Steps.StepOutcome.{Says, Refused, NoMemory}
use Rattle.cluster_model.specs.Makes.{IsUp, after, with_struck, targets_for, asked_for, IsFiled, begun_by, BeginsCall, BeginsRead, MakesStep}
use Rattle.cluster_model.specs.Makes.BeginsCall.{FailsAtOnce, Goes, FailsInIt}
use Rattle.cluster_model.specs.Makes.BeginsRead.{HasNoManager, Draws, FailsReading, Leaves}
use Rattle.cluster_model.proofs.Running.{steps_bring}
use Rattle.cluster_owes.specs.Seen.{is_whole, call_made}
use Rattle.cluster_owes.specs.Outcomes.{BegunCall, IsFall, IsTakenAt}
use Rattle.cluster_owes.proofs.Masks.{IsMask, one_mask}
use Rattle.cluster_owes.proofs.Known.{Filed, filing_of, TicketFits, FiledStands, Known}
use Rattle.cluster_owes.proofs.Beginning.{not_drawn_yet}
use Rattle.cluster_owes.proofs.Drawn.{known_drawn}
use Rattle.cluster_owes.proofs.Began.{says_fell, short_fell}
use Rattle.cluster_owes.proofs.Begun.{apart_push, deletions_are, begins_so, begins_empty, drawn_now, within_now}

-- a ticket that failed at once
refused_fits : (lines : List (List ℕ)) (files : List Filed) (last : BegunCall) (call : NodeCall) (made : Call) → call_made call ≡ Some made → (ticket : Ticket) → ticket.wants ≡ [] → TicketFits lines files last made ticket
refused_fits lines files last (DeliverCall mail) made is ticket wants = subst (λ c. TicketFits lines files last c ticket) (let same : Deliver mail ≡ made = cc is in same) (inl wants)
refused_fits lines files last (StrikeCall user items) made is ticket wants =
    subst (λ c. TicketFits lines files last c ticket) (let same : Strike user (map (λ item. item.id) items) ≡ made = cc is in same) (inl wants)
refused_fits lines files last (LoginCall user proof) made is ticket wants = subst (λ c. TicketFits lines files last c ticket) (let same : Login user (given_of proof) ≡ made = cc is in same) wants
refused_fits lines files last (FetchCall user id from most holders) made is ticket wants = by (is_whole from most) is
  where
    by : (b : Bool) → (if b then Some (Fetch user id) else None) ≡ Some made → TicketFits lines files last made ticket
    by true e = subst (λ c. TicketFits lines files last c ticket) (let same : Fetch user id ≡ made = cc e in same) wants
    by false e = absurd (cc e)
refused_fits lines files last (Leave user login manager) made is ticket wants = absurd (cc is)

module _ (plan : Plan) (tells : Bool) (lines : List (List ℕ)) (asked : List Asked) (answered : List Answered) (begun : List BegunCall) (old new : World)
    (known : Known plan tells lines asked answered begun old) (k own : ℕ) (number : Number) where
  abbrev Goal : Call → Type 0
  Goal made = Known plan tells lines (asked ++ record { session = k; call = made } ∷ []) answered (begun ++ record { ticket = number; session = k; call = made } ∷ []) new

  abbrev last : Call → BegunCall
  last made = record { ticket = number; session = k; call = made }

  -- a message is filed
  delivers : (mail : Mail) → MakesStep plan tells old (Begin own (DeliverCall mail)) (Says (Begun number)) new → IsSoundMail (Deliver mail) → kind_at (opened lines) k ≡ Some (Smtp, own)
      → (node : Node) (disk : List Record) (octets : List ℕ) → IsUp old own node disk → IsFiled old own node (DeliverCall mail) octets → number ≡ new_number own node
      → new ≡ after old own (begun_by plan old own node disk (DeliverCall mail) octets) → Goal (Deliver mail)
  delivers mail did sound taken node disk octets up filed number_is is =
      begins_so plan tells lines asked answered begun old new known k own (DeliverCall mail) (Deliver mail) refl number did sound taken node disk up (begun_by plan old own node disk (DeliverCall mail) octets)
      ticket refl refl refl is number_is (file ∷ [])
      (apart_push known.files file known.apart (λ g m same. not_drawn_yet old own mail file.id octets filed_by (subst (IsIdDrawn old.slots) (sym same) (known.filed g m).drawn)))
      (λ f m. ⊎_elim (λ same. subst (FiledStands new) same stands) (λ none. absurd none) m)
      (inr (
        file,
        new_want own (Copies (filing_of file)) targets,
        among_behind file known.files (file ∷ []) (inl refl),
        sym number_is,
        refl,
        refl,
        refl,
        own_mask (has targets own),
        taken,
        known.clock,
      ))
    where
      id : Id
      id = record { node = own; boot = node.boot; seq = node.drawn + 1 }

      file : Filed
      file = record { ticket = new_number own node; id = id; mail = mail; seconds = old.seconds; octets = octets }

      targets : ℕ
      targets = targets_for plan own node

      ticket : Ticket
      ticket = record { kind = Delivering; wants = new_want own (Copies (filing_of file)) targets ∷ []; mishaps = no_mishaps }

      le_64 : own ≤ 64
      le_64 = let p = known.in_plan own (slot_up node disk) up in le_trans p.within p.few

      own_mask : (b : Bool) → IsMask (if b then one_node own else 0)
      own_mask true = one_mask own le_64
      own_mask false = omega arith

      filed_by : FiledBy old own mail id octets
      filed_by = record { node = node; disk = disk; up = up; same_id = refl; stored = filed.0 }

      stands : FiledStands new file
      stands = record {
        drawn = drawn_now plan tells lines asked answered begun old new known k own (DeliverCall mail) (Deliver mail) refl number did sound taken node disk up (begun_by plan old own node disk (DeliverCall mail) octets)
            ticket refl refl refl is number_is id refl refl (le_refl (node.drawn + 1));
        stored = filed.0;
        held = λ others h. ⊎_elim
            (λ was. absurd (not_drawn_yet old own mail id octets filed_by (known.sound.contents.held_drawn id others was)))
            (λ (b : FiledBy old own mail id others). b.stored)
            (steps_bring plan tells old new (Begin own (DeliverCall mail)) (Says (Begun number)) did known.in_plan known.sound id others h);
        ticket_drawn = drawn_now plan tells lines asked answered begun old new known k own (DeliverCall mail) (Deliver mail) refl number did sound taken node disk up (begun_by plan old own node disk (DeliverCall mail) octets)
            ticket refl refl refl is number_is (record { node = own; boot = node.boot; seq = 0 }) refl refl (omega arith);
        within = within_now plan tells lines asked answered begun old new known k own (DeliverCall mail) (Deliver mail) refl number did sound taken node disk up (begun_by plan old own node disk (DeliverCall mail) octets)
            ticket refl refl refl is number_is;
      }

  -- copies are to be deleted
  strikes : (user : List ℕ) (items : List Struck) → MakesStep plan tells old (Begin own (StrikeCall user items)) (Says (Begun number)) new
      → IsSoundMail (Strike user (map (λ item. item.id) items)) → IsTakenAt lines k own (Strike user (map (λ item. item.id) items)) → (node : Node) (disk : List Record) (octets : List ℕ) → IsUp old own node disk → number ≡ new_number own node
      → new ≡ after (with_struck old (StrikeCall user items)) own (begun_by plan old own node disk (StrikeCall user items) octets) → Goal (Strike user (map (λ item. item.id) items))
  strikes user items did sound taken node disk octets up number_is is =
      begins_empty plan tells lines asked answered begun old new known k own (StrikeCall user items) (Strike user (map (λ item. item.id) items)) refl number did sound taken node disk up
      (begun_by plan old own node disk (StrikeCall user items) octets) (record {
        kind = Striking;
        wants = map (λ item. new_want own (Deletion user item.mark.id) item.asks) (dated own node node.count (asked_for plan own node items));
        mishaps = no_mishaps;
      }) refl refl refl is number_is
      (inr (deletions_are own node user (λ item. strike_asks plan.confirm own item.targets (nodes_in (members_of node) plan.nodes)) (let p = known.in_plan own (slot_up node disk) up in le_trans p.within p.few) items node.count))

  number_of : (node : Node) → Begun number ≡ Begun (new_number own node) → number ≡ new_number own node
  number_of node e = cc

  -- a call that goes on
  goes : (call : NodeCall) (made : Call) → call_made call ≡ Some made → MakesStep plan tells old (Begin own call) (Says (Begun number)) new → IsSoundMail made → IsTakenAt lines k own made
      → (node : Node) (disk : List Record) (octets : List ℕ) → IsUp old own node disk → IsFiled old own node call octets → number ≡ new_number own node
      → new ≡ after (with_struck old call) own (begun_by plan old own node disk call octets) → Goal made
  goes (DeliverCall mail) made is_call did sound taken node disk octets up filed number_is is =
      let same : Deliver mail ≡ made = cc is_call in
      subst Goal same (delivers mail did (subst IsSoundMail (sym same) sound) (subst (IsTakenAt lines k own) (sym same) taken) node disk octets up filed number_is is)
  goes (StrikeCall user items) made is_call did sound taken node disk octets up filed number_is is =
      let same : Strike user (map (λ item. item.id) items) ≡ made = cc is_call in
      subst Goal same (strikes user items did (subst IsSoundMail (sym same) sound) (subst (IsTakenAt lines k own) (sym same) taken) node disk octets up number_is is)
  goes (LoginCall user proof) made is_call did sound taken node disk octets up filed number_is is = absurd filed
  goes (FetchCall user id from most holders) made is_call did sound taken node disk octets up filed number_is is = absurd filed
  goes (Leave user login manager) made is_call did sound taken node disk octets up filed number_is is = absurd filed

  -- the entries stay where a user logs in
  no_entries : (call : NodeCall) (user : List ℕ) (proof : Proof) → call ≡ LoginCall user proof → old ≡ with_struck old call
  no_entries call user proof is = sym (ap (with_struck old) is)

  pub known_began : (call : NodeCall) (made : Call) → call_made call ≡ Some made → MakesStep plan tells old (Begin own call) (Says (Begun number)) new → IsSoundMail made → IsTakenAt lines k own made → Goal made
  known_began call made is_call did sound taken = by did.1
    where
      by : BeginsCall plan tells old own call (Begun number) new ⊎ BeginsRead plan old own call (Begun number) new → Goal made
      by (inl (FailsAtOnce node disk kind up of_kind fails is new_world)) =
          begins_empty plan tells lines asked answered begun old new known k own call made is_call number did sound taken node disk up
          (refuse kind (mishaps_of_call plan old.seconds node call) (ids_drawn call) node disk) (record { kind = kind; wants = []; mishaps = mishaps_of_call plan old.seconds node call }) refl refl refl
          new_world (number_of node is)
          (refused_fits lines known.files (last made) call made is_call (record { kind = kind; wants = []; mishaps = mishaps_of_call plan old.seconds node call }) refl)
      by (inl (Goes node disk octets up fails filed is new_world)) = goes call made is_call did sound taken node disk octets up filed (number_of node is) new_world
      by (inl (FailsInIt node disk octets up filed is g)) = absurd (cc is)
      by (inr (HasNoManager node disk user proof up logs_in going is new_world)) =
          begins_empty plan tells lines asked answered begun old new known k own call made is_call number did sound taken node disk up
          (refuse LoggingIn (counted FewMembers no_mishaps) 0 node disk) (record { kind = LoggingIn; wants = []; mishaps = counted FewMembers no_mishaps }) refl refl refl
          (new_world ∙ ap (λ (w : World). after w own (refuse LoggingIn (counted FewMembers no_mishaps) 0 node disk)) (no_entries call user proof logs_in)) (number_of node is)
          (refused_fits lines known.files (last made) call made is_call (record { kind = LoggingIn; wants = []; mishaps = counted FewMembers no_mishaps }) refl)
      by (inr (Draws node disk up draws going is on)) = known_drawn plan tells lines asked answered begun old new known k own call made is_call number did sound taken node disk up draws (number_of node is) on
      by (inr (FailsReading node disk user id from most holders up fetches reads is new_world)) = absurd (cc is)
      by (inr (Leaves node disk user login manager up leaves is on)) = absurd (cc is)

  pub known_fell : (call : NodeCall) (made : Call) (outcome : StepOutcome) → call_made call ≡ Some made → IsFall outcome → MakesStep plan tells old (Begin own call) outcome new
      → Known plan tells lines (asked ++ record { session = k; call = made } ∷ []) answered (begun ++ []) new
  known_fell call made (Says said) is_call fall did = says_fell plan tells lines asked answered begun old new known k own call made is_call (Says said) did said fall did.1
  known_fell call made (Refused fault) is_call fall did = absurd fall
  known_fell call made (NoMemory None) is_call fall did = absurd fall
  known_fell call made (NoMemory (Some n)) is_call fall did = short_fell plan tells lines asked answered begun old new known k own call made is_call (NoMemory (Some n)) did n did
