-- What a call strikes and files as it begins, and what idle steps add to the book.
use Rattle.std.proofs.Common.{◌≡◌, inl, inr, ⊎_elim, ℕ, ◌+◌, Bool, List, [], ◌∷◌, ◌++◌, length, append-nil, append_assoc, Some, None, refl, sym, ap, ◌∙◌, subst}
use Rattle.sha2.specs.Sha256.{sha256}
use Rattle.mail_model.specs.Identity.{Id}
use Rattle.mail_model.specs.Plan.{Plan}
use Rattle.mail_model.specs.Told.{Mail}
use Rattle.mail_model.specs.Book.{acked_in, struck_in}
use Rattle.mail_model.specs.Book.BookEntry.{WentDown}
use Rattle.object_model.specs.Letters.{Number}
use Rattle.object_model.specs.Mishaps.{no_mishaps, counted}
use Rattle.object_model.specs.Mishaps.MishapKind.{FewMembers}
use Rattle.session_model.specs.Calls.{Call}
use Rattle.session_model.specs.Books.{struck_by}
use Rattle.cluster_model.specs.Cluster.{NodeFiling, Want, Ticket, CallKind, Node, with_slot}
use Rattle.cluster_model.specs.Cluster.AskedOfNodes.{Copies}
use Rattle.cluster_model.specs.Parts.{Sound}
use Rattle.cluster_model.specs.Deeds.{slot_up}
use Rattle.cluster_model.specs.Rules.{Reaction, new_want, new_number, refuse}
use Rattle.cluster_model.specs.Room.{has_room}
use Rattle.cluster_model.specs.World.{World, cluster_of}
use Rattle.cluster_model.specs.Steps.{NodeCall, Step, Said, StepOutcome, mishaps_of_call, ids_drawn}
use Rattle.cluster_model.specs.Steps.NodeCall.{Deliver, Login, Fetch, Strike, Leave}
use Rattle.cluster_model.specs.Steps.Step.{Begin, Post, Widen, Start}
use Rattle.cluster_model.specs.Steps.Said.{Begun, Faulted}
use Rattle.cluster_model.specs.Steps.StepOutcome.{Says, NoMemory, Refused}
use Rattle.cluster_model.specs.Makes.{after, with_struck, targets_for, begun_by, BeginsCall, DrawsTicket, BeginsRead, DoesStep, RunsShort, MakesStep}
use Rattle.cluster_model.specs.Makes.BeginsCall.{FailsAtOnce, Goes, FailsInIt}
use Rattle.cluster_model.specs.Makes.BeginsRead.{HasNoManager, Draws, FailsReading, Leaves}
use Rattle.cluster_model.specs.Makes.RunsShort.{Beginning, Hearing, Widening, Forming, Starting}
use Rattle.cluster_owes.specs.Seen.{call_made}
use Rattle.cluster_owes.specs.Outcomes.{IsIdleStep, IsFall}
use Rattle.cluster_owes.proofs.Standing.{StandsAs, SameWants, put_keeps}
use Rattle.cluster_owes.proofs.WorldSteps.{goes_letters, other_goes}
use Rattle.cluster_owes.proofs.Books.{acked_both, struck_both}
use Rattle.cluster_owes.proofs.Began.{struck_more, with_book, struck_is, struck_acked}
use Rattle.desk_model.specs.Tickets.{StandsUnder, filing_asked, filing_in}
use Rattle.desk_model.specs.Added.{Adds, AreQuiet, AreStrikes, IsFiledAs}
use Rattle.desk_model.proofs.Tickets.{begun_wants}

pub idle_steps_are_quiet : (plan : Plan) (tells : Bool) (old new : World) (step : Step) (outcome : StepOutcome) → MakesStep plan tells old step outcome new → Sound plan.confirm (cluster_of old)
    → IsIdleStep step outcome → Adds AreQuiet old.book new.book
idle_steps_are_quiet plan tells old new step outcome made sound idle =
    let goes = other_goes plan tells old new sound step outcome idle made in
    record { added = goes.entries; book = goes.goes.book; is = record { acked = goes.lives.acked; struck = goes.lives.struck } }

-- writing a slot and sending letters leave the book as it is
after_book : (w : World) (own : ℕ) (did : Reaction) → (after w own did).book ≡ w.book
after_book w own did = (put_keeps has_room did.out _).1

module _ (plan : Plan) (tells : Bool) (old new : World) (own : ℕ) (call : NodeCall) (asked : Call) (is_call : call_made call ≡ Some asked) where
  abbrev Goal : Type 0
  Goal = Adds (AreStrikes (struck_by asked)) old.book new.book

  -- it struck them, and did nothing else to the book
  struck_alone : new.book ≡ (with_struck old call).book → Goal
  struck_alone is = record { added = struck_more call; book = is ∙ with_book old call; is = record { acked = struck_acked call; struck = struck_is call asked is_call } }

  -- and its node went down
  struck_falls : new.book ≡ (with_struck old call).book ++ WentDown own ∷ [] → Goal
  struck_falls is = record {
    added = struck_more call ++ WentDown own ∷ [];
    book = is ∙ ap (λ b. b ++ WentDown own ∷ []) (with_book old call) ∙ append_assoc old.book (struck_more call) (WentDown own ∷ []);
    is = record {
      acked = acked_both (struck_more call) (WentDown own ∷ []) ∙ append-nil (acked_in (struck_more call)) ∙ struck_acked call;
      struck = struck_both (struck_more call) (WentDown own ∷ []) ∙ append-nil (struck_in (struck_more call)) ∙ struck_is call asked is_call;
    };
  }

  -- a call that reads strikes nothing
  not_struck : (call_is : with_struck old call ≡ old) → new.book ≡ old.book → Goal
  not_struck call_is is = struck_alone (is ∙ sym (ap (λ (w : World). w.book) call_is))

  draws_none : DrawsTicket call → with_struck old call ≡ old
  draws_none draws = by call draws
    where
      by : (c : NodeCall) → DrawsTicket c → with_struck old c ≡ old
      by (Deliver mail) d = absurd d
      by (Login user proof) d = refl
      by (Fetch user id from most holders) d = refl
      by (Strike user items) d = absurd d
      by (Leave user login manager) d = absurd d

  fetch_none : (user : List ℕ) (id : Id) (from most holders : ℕ) → call ≡ Fetch user id from most holders → (with_struck old call).book ≡ old.book
  fetch_none user id from most holders is = ap (λ c. (with_struck old c).book) is

  no_leave : (user : List ℕ) (login : Number) (manager : ℕ) → call ≡ Leave user login manager → Goal
  no_leave user login manager is = absurd (let never : None ≡ Some asked = ap call_made (sym is) ∙ is_call in cc)

  reads_so : (said : Said) → BeginsRead plan old own call said new → Goal
  reads_so said (HasNoManager node disk user proof up is_login goes is new_world) =
      not_struck (ap (with_struck old) is_login) (ap (λ (w : World). w.book) new_world ∙ after_book old own (refuse CallKind.LoggingIn (counted FewMembers no_mishaps) 0 node disk))
  reads_so said (Draws node disk up draws goes is on) = not_struck (draws_none draws) (goes_letters (record old { slots = with_slot old.slots own (slot_up (record node { calls = node.calls + 1 }) disk) }) new on).book
  reads_so said (FailsReading node disk user id from most holders up is_fetch reads is new_world) =
      struck_falls (ap (λ (w : World). w.book) new_world ∙ ap (λ b. b ++ WentDown own ∷ []) (sym (fetch_none user id from most holders is_fetch)))
  reads_so said (Leaves node disk user login manager up is_leave is on) = no_leave user login manager is_leave

  says_so : (said : Said) → BeginsCall plan tells old own call said new → Goal
  says_so said (FailsAtOnce node disk kind up of_kind fails is new_world) =
      struck_alone (ap (λ (w : World). w.book) new_world ∙ after_book (with_struck old call) own (refuse kind (mishaps_of_call plan old.seconds node call) (ids_drawn call) node disk))
  says_so said (Goes node disk octets up fails filed is new_world) =
      struck_alone (ap (λ (w : World). w.book) new_world ∙ after_book (with_struck old call) own (begun_by plan old own node disk call octets))
  says_so said (FailsInIt node disk octets up filed is g) = struck_falls (ap (λ (w : World). w.book) g.is)

  does_so : (said : Said) → DoesStep plan tells old (Begin own call) said new → Goal
  does_so said (inl begins) = says_so said begins
  does_so said (inr reads) = reads_so said reads

  same_call : (n : ℕ) (other : NodeCall) → Begin own call ≡ Begin n other → (call ≡ other) × (own ≡ n)
  same_call n other e = (cc e, cc e)

  short_so : (n : ℕ) → RunsShort plan old (Begin own call) n new → Goal
  short_so n (Beginning other node disk octets is up filed g) =
      let same = same_call n other is in
      struck_falls (ap (λ (w : World). w.book) g.is ∙ ap (λ c. (with_struck old c).book ++ WentDown n ∷ []) (sym same.0) ∙ ap (λ k. (with_struck old call).book ++ WentDown k ∷ []) (sym same.1))
  short_so n (Hearing number keep flies node disk is at up g) = absurd (let never : Begin own call ≡ Post number keep = is in cc)
  short_so n (Widening user id to node disk is up g) = absurd (let never : Begin own call ≡ Widen n user id to = is in cc)
  short_so n (Forming node disk promise up forms g) = absurd forms
  short_so n (Starting disk pending next records is here stops new_world) = absurd (let never : Begin own call ≡ Start n = is in cc)

  falls_so : (outcome : StepOutcome) → IsFall outcome → MakesStep plan tells old (Begin own call) outcome new → Goal
  falls_so (Says said) fall made = does_so said made.1
  falls_so (Refused fault) fall made = absurd fall
  falls_so (NoMemory None) fall made = absurd fall
  falls_so (NoMemory (Some n)) fall made = short_so n made

  pub begun_calls_strike : ((number : Number) → MakesStep plan tells old (Begin own call) (Says (Begun number)) new → Goal)
      × ((outcome : StepOutcome) → IsFall outcome → MakesStep plan tells old (Begin own call) outcome new → Goal)
  begun_calls_strike = (λ number made. does_so (Begun number) made.1, falls_so)

-- what a delivery filed
module _ (plan : Plan) (tells : Bool) (old new : World) (own : ℕ) (mail : Mail) (number : Number) (ticket : Ticket) (stands : StandsUnder new.slots number ticket) (filing : NodeFiling)
    (filed_is : filing_in ticket.wants ≡ Some filing) where
  number_of : (node : Node) → Begun number ≡ Begun (new_number own node) → number ≡ new_number own node
  number_of node e = cc

  stands_as : (node : Node) → number ≡ new_number own node → StandsAs new.slots (new_number own node) ticket
  stands_as node is = subst (λ n. StandsAs new.slots n ticket) is (record { node = stands.node; disk = stands.disk; up = stands.up; boot = stands.boot; here = stands.here })

  none_filed : (wants : List Want) → SameWants [] wants → filing_in wants ≡ Some filing → ⊥
  none_filed [] same e = let never : None ≡ Some filing = e in cc
  none_filed (want ∷ wants) same e = same

  one_filed : (want : Want) (first : NodeFiling) (wants : List Want) → want.asked ≡ Copies first → SameWants (want ∷ []) wants → filing_in wants ≡ Some filing → first ≡ filing
  one_filed want first [] is same e = absurd same
  one_filed want first (other ∷ wants) is same e =
      let both : Some first ≡ Some filing = ap filing_asked (sym is ∙ same.0.asked) ∙ e in cc

  by : BeginsCall plan tells old own (Deliver mail) (Begun number) new → IsFiledAs mail filing
  by (FailsAtOnce node disk kind up of_kind fails is new_world) =
      absurd (none_filed ticket.wants
      (begun_wants old old own node disk (refuse kind (mishaps_of_call plan old.seconds node (Deliver mail)) (ids_drawn (Deliver mail)) node disk)
      (record { kind = kind; wants = []; mishaps = mishaps_of_call plan old.seconds node (Deliver mail) }) refl up refl refl refl new new_world ticket (stands_as node (number_of node is)))
      filed_is)
  by (Goes node disk octets up fails filed is new_world) =
      let first : NodeFiling = record { id = record { node = own; boot = node.boot; seq = node.drawn + 1 }; users = mail.mailboxes; seconds = old.seconds; size = length octets; digest = sha256 octets } in
      let want : Want = new_want own (Copies first) (targets_for plan own node) in
      let same : first ≡ filing = one_filed want first ticket.wants refl
      (begun_wants old old own node disk (begun_by plan old own node disk (Deliver mail) octets)
      (record { kind = CallKind.Delivering; wants = want ∷ []; mishaps = no_mishaps }) refl up refl refl refl new new_world ticket (stands_as node (number_of node is)))
      filed_is in
      subst (IsFiledAs mail) same (record { octets = octets; stored = filed.0; users = refl; size = refl; digest = refl })
  by (FailsInIt node disk octets up filed is g) = absurd (let never : Begun number ≡ Faulted own = is in cc)

  -- a delivery is no call that reads
  none_read : BeginsRead plan old own (Deliver mail) (Begun number) new → ⊥
  none_read (HasNoManager node disk user proof up is_login goes is new_world) = let never : Deliver mail ≡ Login user proof = is_login in cc
  none_read (Draws node disk up draws goes is on) = draws
  none_read (FailsReading node disk user id from most holders up is_fetch reads is new_world) = let never : Deliver mail ≡ Fetch user id from most holders = is_fetch in cc
  none_read (Leaves node disk user login manager up is_leave is on) = let never : Deliver mail ≡ Leave user login manager = is_leave in cc

  filed_as : MakesStep plan tells old (Begin own (Deliver mail)) (Says (Begun number)) new → IsFiledAs mail filing
  filed_as made = ⊎_elim by (λ r. absurd (none_read r)) made.1

pub deliveries_file : (plan : Plan) (tells : Bool) (old new : World) (own : ℕ) (mail : Mail) (number : Number) → MakesStep plan tells old (Begin own (Deliver mail)) (Says (Begun number)) new
    → (ticket : Ticket) → StandsUnder new.slots number ticket → (filing : NodeFiling) → filing_in ticket.wants ≡ Some filing → IsFiledAs mail filing
deliveries_file plan tells old new own mail number made ticket stands filing is = filed_as plan tells old new own mail number ticket stands filing is made
