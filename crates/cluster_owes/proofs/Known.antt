-- What is known of a cluster after so many steps: the book, the tickets, the messages that were filed and the answers that were given.
use Rattle.std.proofs.Common.{◌≡◌, ◌≢◌, ◌⊎◌, inl, inr, ⊎_elim, ℕ, Bool, true, List, [], ◌∷◌, ◌++◌, length, map, take, AllPairs, Some, refl, sym, ◌∙◌, subst, arith}
use Rattle.std.specs.Prelude.{⊤}
use Rattle.sha2.specs.Sha256.{sha256}
use Rattle.mail_model.specs.Identity.{Id, Stamp}
use Rattle.mail_model.specs.Identity.Key.{Message}
use Rattle.mail_model.specs.Identity.Value.{Here}
use Rattle.mail_model.specs.Mail.{IsStored}
use Rattle.mail_model.specs.Plan.{Plan}
use Rattle.mail_model.specs.PopReplies.{Item}
use Rattle.mail_model.specs.Record.Record.{Octets, Stated}
use Rattle.mail_model.specs.Stored.{Ack, HaveOtherIds, IsOnClock, opened, kind_at}
use Rattle.mail_model.specs.Tape.Protocol.{Smtp}
use Rattle.mail_model.specs.Told.{Mail}
use Rattle.object_model.specs.Lists.{Among}
use Rattle.object_model.specs.Letters.{Number}
use Rattle.object_model.proofs.Lists.{among_front}
use Rattle.session_model.specs.Calls.{Call, Answer, IsAnswerTo}
use Rattle.session_model.specs.Calls.Call.{Deliver, Login, Fetch, Strike}
use Rattle.session_model.specs.Calls.Answer.{Listed, Part}
use Rattle.session_model.specs.Logs.{Asked, Answered}
use Rattle.session_model.specs.Books.{AmongAnswers, AreAcksOf}
use Rattle.session_model.specs.SoundMails.{IsSoundMail}
use Rattle.cluster_model.specs.Cluster.{NodeFiling, Want, Ticket, Slot, slot_at}
use Rattle.cluster_model.specs.Cluster.AskedOfNodes.{Copies}
use Rattle.cluster_model.specs.Claims.{IsIdDrawn}
use Rattle.cluster_model.specs.Parts.{IsHeldSomewhere, Sound}
use Rattle.cluster_model.specs.World.{World, letters_of, cluster_of}
use Rattle.cluster_model.specs.WorldLaws.{InPlan}
use Rattle.cluster_model.specs.Deeds.{slot_up}
use Rattle.cluster_owes.specs.Outcomes.{BegunCall}
use Rattle.cluster_owes.proofs.Masks.{IsMask}
use Rattle.cluster_owes.proofs.Standing.{StandsAs, IsWithinCalls, SameWant, SameWants, SameCall}
use Rattle.cluster_owes.proofs.WorldSteps.{TicketsStep, boot_id}
use Rattle.cluster_owes.proofs.Growing.{ClusterGrew}
use Rattle.cluster_owes.proofs.Books.{IsBooked, AreMasked, AreDeletions}

-- a message that a call filed, under this ticket
pub record Filed : Type 0 where
  pub ticket : Number
  pub id : Id
  pub mail : Mail
  pub seconds : ℕ
  pub octets : List ℕ

abbrev pub filing_of : Filed → NodeFiling
filing_of f = record { id = f.id; users = f.mail.mailboxes; seconds = f.seconds; size = length f.octets; digest = sha256 f.octets }

-- some disk has these octets of the id
pub record IsOnDisk (slots : List Slot) (id : Id) (octets : List ℕ) : Type 0 where
  pub n : ℕ
  pub slot : Slot
  pub here : slot_at slots n ≡ Some slot
  pub inside : Among (Octets id octets) slot.disk

-- some disk has a record that says that the user's copy of the message is here
pub record IsOwned (slots : List Slot) (user : List ℕ) (id : Id) : Type 0 where
  pub n : ℕ
  pub slot : Slot
  pub here : slot_at slots n ≡ Some slot
  pub stamp : Stamp
  pub targets : ℕ
  pub inside : Among (Stated (Message user id) (record { value = Here; stamp = stamp; targets = targets })) slot.disk

abbrev pub greatest : ℕ
greatest = 18446744073709551615

-- what a listing or a part says of octets stands on disks
abbrev pub OctetsStand : Bool → List Slot → Call → Answer → Type 0
OctetsStand tells slots (Login user given) (Listed items) =
    AllPairs (λ (a b : Id). a ≢ b) (map (λ (item : Item). item.id) items)
    × ((item : Item) → Among item items → ((octets : List ℕ) × IsOnDisk slots item.id octets × (item.size ≡ length octets)) × IsOwned slots user item.id)
OctetsStand tells slots (Fetch user id) (Part octets) = tells ≡ true → (all : List ℕ) × IsOnDisk slots id all × (octets ≡ take greatest all)
OctetsStand tells slots call answer = ⊤

-- the answer is one of the call's kind, and what it says stands
abbrev pub AnswerStands : Bool → List Slot → Call → Answer → Type 0
AnswerStands tells slots call answer = IsAnswerTo call answer × OctetsStand tells slots call answer

-- a delivery failed at once, or wants copies of what was filed
abbrev pub DeliveryFits : List (List ℕ) → List Filed → BegunCall → Mail → List Want → Type 0
DeliveryFits lines files one mail wants = (wants ≡ [])
    ⊎ ((f : Filed) × (want : Want) × Among f files × (f.ticket ≡ one.ticket) × (f.mail ≡ mail) × (wants ≡ want ∷ []) × (want.asked ≡ Copies (filing_of f)) × IsMask want.confirmed
    × (kind_at (opened lines) one.session ≡ Some (Smtp, f.id.node)) × IsOnClock lines f.seconds)

-- The ticket is that of the call. One of a call that reads has failed at once.
abbrev pub TicketFits : List (List ℕ) → List Filed → BegunCall → Call → Ticket → Type 0
TicketFits lines files one (Deliver mail) ticket = DeliveryFits lines files one mail ticket.wants
TicketFits lines files one (Strike user ids) ticket = (ticket.wants ≡ []) ⊎ AreDeletions user ids ticket.wants
TicketFits lines files one (Login user given) ticket = ticket.wants ≡ []
TicketFits lines files one (Fetch user id) ticket = ticket.wants ≡ []

-- no two of them have one id
abbrev pub AreApart : List Filed → Type 0
AreApart [] = ⊤
AreApart (f ∷ files) = ((g : Filed) → Among g files → g.id ≡ f.id → ⊥) × AreApart files

-- what is known of a message that was filed
pub record FiledStands (w : World) (f : Filed) : Type 0 where
  pub drawn : IsIdDrawn w.slots f.id
  pub stored : IsStored f.mail f.id f.seconds f.octets
  pub held : (octets : List ℕ) → IsHeldSomewhere w.slots (letters_of w.flying) f.id octets → IsStored f.mail f.id f.seconds octets
  pub ticket_drawn : IsIdDrawn w.slots (boot_id f.ticket)
  pub within : IsWithinCalls w.slots f.ticket

-- and of one that was acknowledged: its ticket stands no more
pub record AckStands (lines : List (List ℕ)) (w : World) (files : List Filed) (ack : Ack) : Type 0 where
  pub file : Filed
  pub inside : Among file files
  pub same_id : file.id ≡ ack.id
  pub same_mail : file.mail ≡ ack.mail
  pub seconds : file.seconds ≡ ack.seconds
  pub clock : IsOnClock lines ack.seconds
  pub kind : kind_at (opened lines) ack.session ≡ Some (Smtp, ack.id.node)
  pub ended : (ticket : Ticket) → StandsAs w.slots file.ticket ticket → ⊥

-- of a call that has begun
pub record BegunStands (w : World) (one : BegunCall) : Type 0 where
  pub sound : IsSoundMail one.call
  pub drawn : IsIdDrawn w.slots (boot_id one.ticket)
  pub within : IsWithinCalls w.slots one.ticket

pub record Known (plan : Plan) (tells : Bool) (lines : List (List ℕ)) (asked : List Asked) (answered : List Answered) (begun : List BegunCall) (w : World) : Type 0 where
  pub in_plan : InPlan plan.nodes w.slots
  pub sound : Sound plan.confirm (cluster_of w)
  pub clock : IsOnClock lines w.seconds
  -- the messages that were acknowledged
  pub told : List Ack
  pub told_are : AreAcksOf answered told
  pub book_is : IsBooked lines asked answered told w.book
  pub masked : AreMasked w.book
  pub files : List Filed
  pub apart : AreApart files
  pub filed : (f : Filed) → Among f files → FiledStands w f
  pub calls : (one : BegunCall) → Among one begun → BegunStands w one
  pub tickets : (one : BegunCall) (ticket : Ticket) → Among one begun → StandsAs w.slots one.ticket ticket → TicketFits lines files one one.call ticket
  -- no ticket of messages has a number that its node has not drawn
  pub numbered : (number : Number) (ticket : Ticket) → StandsAs w.slots number ticket → IsWithinCalls w.slots number
  pub acks : (ack : Ack) → Among ack told → AckStands lines w files ack
  pub other_ids : HaveOtherIds told
  pub answers : (one : Answered) → AmongAnswers one answered → AnswerStands tells w.slots one.call one.answer

-- what stands on a disk stays there
pub on_disk : (old new : List Slot) → ClusterGrew old new → (id : Id) (octets : List ℕ) → IsOnDisk old id octets → IsOnDisk new id octets
on_disk old new grew id octets h = let now = grew.slots h.n h.slot h.here in record {
  n = h.n;
  slot = now.0;
  here = now.1;
  inside = subst (Among (Octets id octets)) (sym now.2.is) (among_front (Octets id octets) h.slot.disk now.2.added h.inside);
}

pub owned_still : (old new : List Slot) → ClusterGrew old new → (user : List ℕ) (id : Id) → IsOwned old user id → IsOwned new user id
owned_still old new grew user id h = let now = grew.slots h.n h.slot h.here in
    let one = Stated (Message user id) (record { value = Here; stamp = h.stamp; targets = h.targets }) in
    record {
      n = h.n;
      slot = now.0;
      here = now.1;
      stamp = h.stamp;
      targets = h.targets;
      inside = subst (Among one) (sym now.2.is) (among_front one h.slot.disk now.2.added h.inside);
    }

octets_stay : (tells : Bool) (old new : List Slot) → ClusterGrew old new → (call : Call) (answer : Answer) → OctetsStand tells old call answer → OctetsStand tells new call answer
octets_stay tells old new grew (Login user given) (Listed items) a =
    (a.0, λ item m. let (o, own) = a.1 item m in ((o.0, on_disk old new grew item.id o.0 o.1, o.2), owned_still old new grew user item.id own))
octets_stay tells old new grew (Fetch user id) (Part octets) a = λ told. let o = a told in (o.0, on_disk old new grew id o.0 o.1, o.2)
octets_stay tells old new grew (Deliver mail) answer a = tt
octets_stay tells old new grew (Strike user ids) answer a = tt
octets_stay tells old new grew (Login user given) (Answer.Stored id) a = tt
octets_stay tells old new grew (Login user given) Answer.Wrong a = tt
octets_stay tells old new grew (Login user given) Answer.InUse a = tt
octets_stay tells old new grew (Login user given) Answer.NoProfile a = tt
octets_stay tells old new grew (Login user given) (Part octets) a = tt
octets_stay tells old new grew (Login user given) Answer.GoneAlready a = tt
octets_stay tells old new grew (Login user given) Answer.Dropped a = tt
octets_stay tells old new grew (Login user given) Answer.Failed a = tt
octets_stay tells old new grew (Fetch user id) (Answer.Stored other) a = tt
octets_stay tells old new grew (Fetch user id) (Listed items) a = tt
octets_stay tells old new grew (Fetch user id) Answer.Wrong a = tt
octets_stay tells old new grew (Fetch user id) Answer.InUse a = tt
octets_stay tells old new grew (Fetch user id) Answer.NoProfile a = tt
octets_stay tells old new grew (Fetch user id) Answer.GoneAlready a = tt
octets_stay tells old new grew (Fetch user id) Answer.Dropped a = tt
octets_stay tells old new grew (Fetch user id) Answer.Failed a = tt

pub answer_stays : (tells : Bool) (old new : List Slot) → ClusterGrew old new → (call : Call) (answer : Answer) → AnswerStands tells old call answer → AnswerStands tells new call answer
answer_stays tells old new grew call answer a = (a.0, octets_stay tells old new grew call answer a.1)

-- a ticket of the same call fits it, too
none_same : (old new : List Want) → SameWants old new → old ≡ [] → new ≡ []
none_same [] [] s e = refl
none_same [] (new ∷ news) s e = absurd s
none_same (old ∷ olds) news s e = absurd (cc e)

one_same : (old new : List Want) (want : Want) → SameWants old new → old ≡ want ∷ [] → (now : Want) × (new ≡ now ∷ []) × SameWant want now
one_same [] new want s e = absurd (cc e)
one_same (old ∷ []) [] want s e = absurd s
one_same (old ∷ []) (now ∷ []) want s e = (now, refl, subst (λ (x : Want). SameWant x now) (let same : old ≡ want = cc e in same) s.0)
one_same (old ∷ []) (now ∷ other ∷ more) want s e = absurd s.1
one_same (old ∷ other ∷ more) new want s e = absurd (cc e)

deletions_same : (user : List ℕ) (ids : List Id) (old new : List Want) → SameWants old new → AreDeletions user ids old → AreDeletions user ids new
deletions_same user [] [] [] s a = tt
deletions_same user [] [] (new ∷ news) s a = absurd s
deletions_same user [] (old ∷ olds) new s a = absurd a
deletions_same user (id ∷ ids) [] new s a = absurd a
deletions_same user (id ∷ ids) (old ∷ olds) [] s a = absurd s
deletions_same user (id ∷ ids) (old ∷ olds) (new ∷ news) s a = (sym s.0.asked ∙ a.0, s.0.mask a.1, deletions_same user ids olds news s.1 a.2)

pub fits_still : (lines : List (List ℕ)) (files others : List Filed) → ((f : Filed) → Among f files → Among f others)
    → (one : BegunCall) (call : Call) (before after : Ticket) → SameCall before after → TicketFits lines files one call before → TicketFits lines others one call after
fits_still lines files others within one (Deliver mail) before after same fits = ⊎_elim
    (λ none. inl (none_same before.wants after.wants same.wants none))
    (λ (f, want, inside, ticket, mail_is, wants, asked, mask, kind, clock).
    let now = one_same before.wants after.wants want same.wants wants in
    inr (f, now.0, within f inside, ticket, mail_is, now.1, sym now.2.asked ∙ asked, now.2.mask mask, kind, clock))
    fits
fits_still lines files others within one (Strike user ids) before after same fits = ⊎_elim
    (λ none. inl (none_same before.wants after.wants same.wants none))
    (λ are. inr (deletions_same user ids before.wants after.wants same.wants are))
    fits
fits_still lines files others within one (Login user given) before after same fits = none_same before.wants after.wants same.wants fits
fits_still lines files others within one (Fetch user id) before after same fits = none_same before.wants after.wants same.wants fits

-- a ticket that stands is of the boot of its node
pub stands_drawn : (slots : List Slot) (number : Number) (ticket : Ticket) → StandsAs slots number ticket → IsIdDrawn slots (boot_id number)
stands_drawn slots number ticket s = record { slot = slot_up s.node s.disk; here = s.up; drawn = inr (s.boot, omega arith) }

-- no octets are held after that were not held before
abbrev pub HoldsNoMore : World → World → Type 0
HoldsNoMore old new = (id : Id) (octets : List ℕ) → IsHeldSomewhere new.slots (letters_of new.flying) id octets → IsHeldSomewhere old.slots (letters_of old.flying) id octets

-- What stays known over a step: `New` are the numbers of tickets that begin in it.
module _ (plan : Plan) (tells : Bool) (lines : List (List ℕ)) (asked : List Asked) (answered : List Answered) (begun : List BegunCall) (old new : World)
    (known : Known plan tells lines asked answered begun old) (grew : ClusterGrew old.slots new.slots) (New : Number → Type 0)
    (step : TicketsStep old.slots new.slots (λ number ticket. New number)) (fresh : (number : Number) → IsWithinCalls old.slots number → New number → ⊥) where
  pub calls_still : (one : BegunCall) → Among one begun → BegunStands new one
  calls_still one m = let was = known.calls one m in
      record { sound = was.sound; drawn = grew.drawn (boot_id one.ticket) was.drawn; within = step.calls one.ticket was.drawn was.within }

  pub tickets_still : (more : List Filed) (one : BegunCall) (ticket : Ticket) → Among one begun → StandsAs new.slots one.ticket ticket → TicketFits lines (known.files ++ more) one one.call ticket
  tickets_still more one ticket m s = ⊎_elim
      (λ (before, stood, same). fits_still lines known.files (known.files ++ more) (λ f inside. among_front f known.files more inside) one one.call before ticket same (known.tickets one before m stood))
      (λ is. absurd (fresh one.ticket (known.calls one m).within is))
      (step.came one.ticket ticket s)

  pub numbered_still : ((number : Number) → New number → IsWithinCalls new.slots number) → (number : Number) (ticket : Ticket) → StandsAs new.slots number ticket → IsWithinCalls new.slots number
  numbered_still begins number ticket s = ⊎_elim
      (λ (before, stood, same). step.calls number (stands_drawn old.slots number before stood) (known.numbered number before stood))
      (λ is. begins number is)
      (step.came number ticket s)

  pub filed_still : (f : Filed) → Among f known.files
      → ((octets : List ℕ) → IsHeldSomewhere new.slots (letters_of new.flying) f.id octets → IsStored f.mail f.id f.seconds octets) → FiledStands new f
  filed_still f m held = let was = known.filed f m in record {
    drawn = grew.drawn f.id was.drawn;
    stored = was.stored;
    held = held;
    ticket_drawn = grew.drawn (boot_id f.ticket) was.ticket_drawn;
    within = step.calls f.ticket was.ticket_drawn was.within;
  }

  pub acks_still : (more : List Filed) (ack : Ack) → Among ack known.told → AckStands lines new (known.files ++ more) ack
  acks_still more ack m = let was = known.acks ack m in record {
    file = was.file;
    inside = among_front was.file known.files more was.inside;
    same_id = was.same_id;
    same_mail = was.same_mail;
    seconds = was.seconds;
    clock = was.clock;
    kind = was.kind;
    ended = λ ticket s. ⊎_elim
        (λ (before, stood, same). was.ended before stood)
        (λ is. fresh was.file.ticket (known.filed was.file was.inside).within is)
        (step.came was.file.ticket ticket s);
  }

  pub answers_still : (one : Answered) → AmongAnswers one answered → AnswerStands tells new.slots one.call one.answer
  answers_still one m = answer_stays tells old.slots new.slots grew one.call one.answer (known.answers one m)
