-- What is known after all steps is what is owed.
use Rattle.std.proofs.Common.{◌≡◌, inl, inr, ⊎_elim, ◌<◌, ◌+◌, ◌-◌, ◌^◌, ℕ, zero, suc, Bool, true, List, [], ◌∷◌, length, map, All, Option, Some, refl, sym, ap, ◌∙◌, subst, arith, le_refl}
use Rattle.std.specs.Prelude.{slice_get}
use Rattle.std.proofs.lemmas.List.Elements.{All-nil, All-cons, All-head, All-tail}
use Rattle.sha2.specs.Sha256.{sha256}
use Rattle.mail_model.specs.Identity.{Id}
use Rattle.mail_model.specs.Identity.Key.{Message}
use Rattle.mail_model.specs.Identity.Value.{Here, Gone}
use Rattle.mail_model.specs.Grammar.{IsRecord}
use Rattle.mail_model.specs.Mail.{IsStored}
use Rattle.mail_model.specs.Plan.{Plan}
use Rattle.mail_model.specs.Record.{Record, SaysHere, SaysGone, HoldsOctets}
use Rattle.mail_model.specs.Record.Record.{Octets, Stated}
use Rattle.mail_model.specs.Deleted.{IsCopyOf, mask_of}
use Rattle.mail_model.specs.Book.{Acked, AreCopies, AreCopiesOf, acked_in, struck_in, copies_acked}
use Rattle.mail_model.specs.Book.BookEntry.{Acknowledged, Struck, Dropped}
use Rattle.mail_model.specs.Lines.{closed}
use Rattle.mail_model.specs.Stored.{Ack}
use Rattle.object_model.specs.Lists.{Among}
use Rattle.object_model.specs.Sets.{nodes_in}
use Rattle.object_model.proofs.Lists.{among_front, among_behind, same_some}
use Rattle.session_model.specs.Calls.Call.{Login, Fetch}
use Rattle.session_model.specs.Calls.Answer.{Listed, Part}
use Rattle.session_model.specs.Logs.{Asked, Answered}
use Rattle.session_model.specs.Books.{IsAsBooked, AcknowledgedStand}
use Rattle.session_model.specs.Copies.{AreDisks, OnNode, OnEnough, KeepsCopy, EachStands, HasRecordOf, OneContent}
use Rattle.session_model.specs.Facts.{IsGoneIn}
use Rattle.session_model.specs.Owes.{OwesDeletions, OwesStored, OwesListings, OwesParts, OwesBook}
use Rattle.cluster_model.specs.Cluster.{Slot, slot_at, pending_of}
use Rattle.cluster_model.specs.Laws.{KeepsCopyOf}
use Rattle.cluster_model.specs.Parts.{IsHeldSomewhere, Sound}
use Rattle.cluster_model.specs.World.{World, letters_of, cluster_of}
use Rattle.cluster_model.specs.WorldLaws.{InPlan}
use Rattle.cluster_model.proofs.Kept.{all_kept}
use Rattle.cluster_model.proofs.Listings.{each_of}
use Rattle.cluster_model.proofs.Promises.{member_of, among_of, acknowledged_kept}
use Rattle.cluster_owes.specs.Outcomes.{BegunCall}
use Rattle.cluster_owes.specs.Held.{IsHeld, AreHeld, AreCounted, filed_on}
use Rattle.cluster_owes.proofs.Settled.{IsSettled, settle, held_at, disk_at}
use Rattle.cluster_owes.proofs.Known.{IsOnDisk, IsOwned, greatest, AckStands, Known}
use Rattle.cluster_owes.proofs.Lookups.{got_among, in_grammar, filed_found, holds_among, acked_among, struck_among, dropped_among, struck_call, dropped_answer, taken_all, closed_is}
use Rattle.cluster_owes.proofs.Enough.{SoOn, on_enough, gone_on, all_gone}
use Rattle.cluster_owes.proofs.Books.{masked_at}
use Rattle.cluster_owes.proofs.Masks.{mask_is}

module _ (plan : Plan) (tells : Bool) (lines : List (List ℕ)) (asked : List Asked) (answered : List Answered) (begun : List BegunCall) (last : World) (known : Known plan tells lines asked answered begun last)
    (stores : List (Option (List ℕ))) (disks : List (List Record)) (held : AreHeld last.slots disks) (are : AreDisks 1 stores disks)
    (counted : tells ≡ true → AreCounted disks) where
  plus_zero : (m : ℕ) → m ≡ 0 + m
  plus_zero m = omega arith

  -- the world in which it is settled what stands
  settled : IsSettled plan.confirm last 0 disks
  settled = settle plan.confirm last 0 disks (λ m records e. let h = held_at last.slots disks held m records e in
      (h.0, ap (λ j. slot_at last.slots (suc j)) (sym (plus_zero m)) ∙ h.1, h.2))

  abbrev w : World
  w = settled.next

  sound : Sound plan.confirm (cluster_of w)
  sound = subst (Sound plan.confirm) (sym settled.leads.is) (all_kept plan.confirm (cluster_of last) settled.leads.moves settled.leads.may known.sound)

  in_plan : InPlan plan.nodes w.slots
  in_plan n slot at = let before = settled.was n slot at in known.in_plan n before.0 before.1

  -- each store is that of a node
  slot_of : (m : ℕ) (records : List Record) → slice_get disks m ≡ Some records → (slot : Slot) × (slot_at w.slots (suc m) ≡ Some slot) × (slot.disk ≡ records)
  slot_of m records e = let s = settled.each m records e in (s.0, ap (λ j. slot_at w.slots (suc j)) (plus_zero m) ∙ s.1, s.2)

  one_less : (m : ℕ) → suc m - 1 ≡ m
  one_less m = omega arith

  at_disk : (n : ℕ) (slot : Slot) → slot_at w.slots n ≡ Some slot → (records : List Record) × (slice_get disks (n - 1) ≡ Some records) × (slot.disk ≡ records)
  at_disk zero slot at = absurd (cc at)
  at_disk (suc m) slot at =
      let before = settled.was (suc m) slot at in
      let records = disk_at last.slots disks held m before.0 before.1 in
      let there = slot_of m records.0 records.1 in
      (records.0, ap (slice_get disks) (one_less m) ∙ records.1, ap (λ (s : Slot). s.disk) (same_some (slot_at w.slots (suc m)) slot there.0 at there.1) ∙ there.2)

  -- a store holds all that its node's disk did
  on_store : (one : Record) (n : ℕ) (slot : Slot) → slot_at last.slots n ≡ Some slot → Among one slot.disk → (m : ℕ) × (records : List Record) × (slice_get disks m ≡ Some records) × Among one records
  on_store one zero slot here inside = absurd (cc here)
  on_store one (suc m) slot here inside =
      let records = disk_at last.slots disks held m slot here in
      let there = held_at last.slots disks held m records.0 records.1 in
      let same : there.0 ≡ slot = same_some (slice_get last.slots m) there.0 slot there.1 here in
      (m, records.0, records.1, kept records.0 (subst (λ (s : Slot). IsHeld s records.0) same there.2))
    where
      kept : (records : List Record) → IsHeld slot records → Among one records
      kept records is = ⊎_elim
          (λ same. subst (Among one) (sym same) inside)
          (λ all. subst (Among one) (sym all) (among_front one slot.disk (pending_of slot.life) inside))
          is

  octets_stored : (id : Id) (octets : List ℕ) → IsOnDisk last.slots id octets → (m : ℕ) × (records : List Record) × (slice_get disks m ≡ Some records) × Among (Octets id octets) records
  octets_stored id octets h = on_store (Octets id octets) h.n h.slot h.here h.inside

  -- octets in stores are held
  store_held : (m : ℕ) (records : List Record) (id : Id) (octets : List ℕ) → slice_get disks m ≡ Some records → Among (Octets id octets) records → IsHeldSomewhere w.slots (letters_of w.flying) id octets
  store_held m records id octets e inside = let s = slot_of m records e in
      record { where_ = inl (suc m, s.0, s.1, among_front (Octets id octets) s.0.disk (pending_of s.0.life) (subst (Among (Octets id octets)) (sym s.2) inside)) }

  held_before : (id : Id) (octets : List ℕ) → IsHeldSomewhere w.slots (letters_of w.flying) id octets → IsHeldSomewhere last.slots (letters_of last.flying) id octets
  held_before id octets h = ⊎_elim (λ was. was) (λ none. absurd none) (settled.leads.brings known.sound id octets h)

  -- what a disk says to be gone the book has among what was struck
  struck_on : (m : ℕ) (slot : Slot) → slot_at w.slots m ≡ Some slot → (user : List ℕ) (id : Id) → SaysGone (Message user id) slot.disk → Among (Struck user id) last.book
  struck_on m slot at user id gone =
      let one = Stated (Message user id) (record { value = Gone; stamp = gone.stamp; targets = gone.targets }) in
      subst (Among (Struck user id)) settled.book (sound.deletions.disks m slot at user id (inl (record {
        one = one;
        inside = among_front one slot.disk (pending_of slot.life) (among_of one slot.disk gone.gone);
        speaks = record { state = record { value = Gone; stamp = gone.stamp; targets = gone.targets }; is = inl refl; gone = refl };
      })))

  copy_among : (user : List ℕ) (id : Id) (copies : List (List ℕ × Id)) → Among (user, id) copies → IsCopyOf user id copies
  copy_among user id [] m = m
  copy_among user id (copy ∷ copies) m = ⊎_elim (λ same. inl same) (λ later. inr (copy_among user id copies later)) m

  -- a message that was acknowledged stands
  module _ (ack : Ack) (among : Among ack known.told) where
    is : AckStands lines last known.files ack
    is = known.acks ack among

    stored : (octets : List ℕ) → IsHeldSomewhere w.slots (letters_of w.flying) ack.id octets → IsStored ack.mail ack.id ack.seconds octets
    stored octets h =
        let was = (known.filed is.file is.inside).held octets (subst (λ i. IsHeldSomewhere last.slots (letters_of last.flying) i octets) (sym is.same_id) (held_before ack.id octets h)) in
        subst (λ s. IsStored ack.mail ack.id s octets) is.seconds
        (subst (λ i. IsStored ack.mail i is.file.seconds octets) is.same_id (subst (λ m. IsStored m is.file.id is.file.seconds octets) is.same_mail was))

    of_user : (octets : List ℕ) (mask : ℕ) (user : List ℕ) (users : List (List ℕ)) → Among user users
        → Among (record { user = user; id = ack.id; seconds = ack.seconds; size = length octets; digest = sha256 octets; confirmers = mask }) (copies_acked ack.id ack.seconds octets mask users)
    of_user octets mask user [] m = absurd m
    of_user octets mask user (first ∷ users) m = ⊎_elim
        (λ same. inl (ap (λ u. record { user = u; id = ack.id; seconds = ack.seconds; size = length octets; digest = sha256 octets; confirmers = mask }) same))
        (λ later. inr (of_user octets mask user users later))
        m

    -- the user's copy on a node that has it: it is gone only where it was struck
    on_one : (user : List ℕ) (copy : Acked) → copy.user ≡ user → copy.id ≡ ack.id → (n : ℕ) → KeepsCopyOf copy w.slots n → SoOn plan disks w sound in_plan at_disk (IsAsBooked last.book ack user) n
    on_one user copy same_user same_id n k = record {
      slot = k.slot;
      here = k.here;
      so = ⊎_elim
          (λ (here, (octets, holds, size, digest)).
          let holds_it : HoldsOctets ack.id octets k.slot.disk = subst (λ i. HoldsOctets i octets k.slot.disk) same_id holds in
          inl (
            subst (λ i. SaysHere (Message user i) k.slot.disk) same_id (subst (λ u. SaysHere (Message u copy.id) k.slot.disk) same_user here),
            (octets, stored octets (record { where_ = inl (n, k.slot, k.here, among_front (Octets ack.id octets) k.slot.disk (pending_of k.slot.life) (holds_among ack.id octets k.slot.disk holds_it)) }), holds_it),
          ))
          (λ gone.
          let gone_it = subst (λ i. SaysGone (Message user i) k.slot.disk) same_id (subst (λ u. SaysGone (Message u copy.id) k.slot.disk) same_user gone) in
          inr (gone_it, copy_among user ack.id (struck_in last.book) (struck_among last.book user ack.id (struck_on n k.slot k.here user ack.id gone_it))))
          k.stands;
    }

    module _ (mask : ℕ) (copies : List Acked) (mine : AreCopiesOf lines ack mask copies) (within : (copy : Acked) → Among copy copies → Among copy (acked_in last.book)) where
      abbrev copy_of : List ℕ → Acked
      copy_of user = record { user = user; id = ack.id; seconds = ack.seconds; size = length mine.octets; digest = sha256 mine.octets; confirmers = mask }

      entered : (user : List ℕ) → Among user ack.mail.mailboxes → Among (Acknowledged (copy_of user)) last.book
      entered user member = acked_among last.book (copy_of user) (within (copy_of user) (subst (Among (copy_of user)) (sym mine.are) (of_user mine.octets mask user ack.mail.mailboxes member)))

      booked_for : (user : List ℕ) → Among user ack.mail.mailboxes → OnEnough plan disks (IsAsBooked last.book ack user) (nodes_in mask 64)
      booked_for user member =
          let kept = acknowledged_kept plan.confirm (cluster_of w) sound (copy_of user) (subst (Among (Acknowledged (copy_of user))) (sym settled.book) (entered user member)) in
          on_enough plan disks w sound in_plan at_disk (IsAsBooked last.book ack user) mask kept.0 (λ n h. on_one user (copy_of user) refl refl n (kept.1 n h))

      -- the nodes that confirmed it are those of its mask; where it has no mailbox, none
      nodes_of : (users : List (List ℕ)) → ack.mail.mailboxes ≡ users → (nodes : List ℕ) × AreCopiesOf lines ack (mask_of nodes) copies × All (λ user. OnEnough plan disks (IsAsBooked last.book ack user) nodes) users
      nodes_of [] none = (
        [],
        record {
          octets = mine.octets;
          at_clock = mine.at_clock;
          stored = mine.stored;
          each_once = mine.each_once;
          are = mine.are ∙ ap (copies_acked ack.id ack.seconds mine.octets mask) none ∙ sym (ap (copies_acked ack.id ack.seconds mine.octets 0) none);
        },
        All-nil _,
      )
      nodes_of (user ∷ users) some =
          let member : Among user ack.mail.mailboxes = subst (Among user) (sym some) (inl refl) in
          let is_mask : mask_of (nodes_in mask 64) ≡ mask = mask_is 64 mask (le_refl 64) (masked_at last.book (copy_of user) known.masked (entered user member)) in (
            nodes_in mask 64,
            record {
              octets = mine.octets;
              at_clock = mine.at_clock;
              stored = mine.stored;
              each_once = mine.each_once;
              are = mine.are ∙ ap (λ (c : ℕ). copies_acked ack.id ack.seconds mine.octets c ack.mail.mailboxes) (sym is_mask);
            },
            for_each (user ∷ users) (λ u m. booked_for u (subst (Among u) (sym some) m)),
          )
        where
          for_each : (others : List (List ℕ)) → ((u : List ℕ) → Among u others → OnEnough plan disks (IsAsBooked last.book ack u) (nodes_in mask 64))
              → All (λ u. OnEnough plan disks (IsAsBooked last.book ack u) (nodes_in mask 64)) others
          for_each [] so = All-nil _
          for_each (u ∷ others) so = All-cons (λ u. OnEnough plan disks (IsAsBooked last.book ack u) (nodes_in mask 64)) u others (so u (inl refl)) (for_each others (λ x m. so x (inr m)))

  -- what is as the book has it is kept
  keeps : (ack : Ack) (user : List ℕ) (records : List Record) → IsAsBooked last.book ack user records → KeepsCopy ack user records
  keeps ack user records is = ⊎_elim (λ here. inl here) (λ gone. inr gone.0) is

  on_nodes : (ack : Ack) (user : List ℕ) (nodes : List ℕ) → All (OnNode disks (IsAsBooked last.book ack user)) nodes → All (OnNode disks (KeepsCopy ack user)) nodes
  on_nodes ack user [] all = All-nil _
  on_nodes ack user (node ∷ nodes) all =
      let one = All-head (OnNode disks (IsAsBooked last.book ack user)) node nodes all in
      All-cons (OnNode disks (KeepsCopy ack user)) node nodes (one.0, one.1, keeps ack user one.0 one.2) (on_nodes ack user nodes (All-tail (OnNode disks (IsAsBooked last.book ack user)) node nodes all))

  on_users : (ack : Ack) (nodes : List ℕ) (users : List (List ℕ)) → All (λ user. OnEnough plan disks (IsAsBooked last.book ack user) nodes) users → All (λ user. OnEnough plan disks (KeepsCopy ack user) nodes) users
  on_users ack nodes [] all = All-nil _
  on_users ack nodes (user ∷ users) all =
      let one : OnEnough plan disks (IsAsBooked last.book ack user) nodes = All-head (λ u. OnEnough plan disks (IsAsBooked last.book ack u) nodes) user users all in
      All-cons (λ u. OnEnough plan disks (KeepsCopy ack u) nodes) user users (record { are = one.are; each = on_nodes ack user nodes one.each })
      (on_users ack nodes users (All-tail (λ u. OnEnough plan disks (IsAsBooked last.book ack u) nodes) user users all))

  -- each message, with the nodes that confirmed it
  pub record AllStand (acks : List Ack) (copies : List Acked) : Type 0 where
    pub confirmers : List (List ℕ)
    pub copied : AreCopies lines acks (map mask_of confirmers) copies
    pub stand : EachStands plan lines disks acks confirmers
    pub booked : AcknowledgedStand plan disks last.book acks confirmers

  all_stand : (acks : List Ack) (masks : List ℕ) (copies : List Acked) → AreCopies lines acks masks copies → ((ack : Ack) → Among ack acks → Among ack known.told)
      → ((copy : Acked) → Among copy copies → Among copy (acked_in last.book)) → AllStand acks copies
  all_stand [] masks copies are within booked = record { confirmers = []; copied = (refl, are.1); stand = tt; booked = refl }
  all_stand (ack ∷ acks) [] copies are within booked = absurd are
  all_stand (ack ∷ acks) (mask ∷ masks) copies (first, rest, whole, mine, more) within booked =
      let known_ack = known.acks ack (within ack (inl refl)) in
      let one = nodes_of ack (within ack (inl refl)) mask first mine (λ copy m. booked copy (subst (Among copy) (sym whole) (among_front copy first rest m))) ack.mail.mailboxes refl in
      let others = all_stand acks masks rest more (λ a m. within a (inr m)) (λ copy m. booked copy (subst (Among copy) (sym whole) (among_behind copy first rest m))) in
      record {
        confirmers = one.0 ∷ others.confirmers;
        copied = (first, rest, whole, one.1, others.copied);
        stand = (record { at_node = known_ack.kind; at_clock = known_ack.clock; copies = on_users ack one.0 ack.mail.mailboxes one.2 }, others.stand);
        booked = (one.2, others.booked);
      }

  pub all_standing : AllStand known.told (acked_in last.book)
  all_standing = all_stand known.told known.book_is.masks (acked_in last.book) known.book_is.acked (λ a m. m) (λ c m. m)

  pub owes_stored : OwesStored plan lines disks answered known.told all_standing.confirmers
  owes_stored = record { are = known.told_are; stand = all_standing.stand; other_ids = known.other_ids }

  -- deletions
  asked_for : (n : ℕ) (user : List ℕ) (id : Id) → IsGoneIn disks n user id → Among (Struck user id) last.book
  asked_for n user id (records, e, gone) =
      let s = slot_of n records e in struck_on (suc n) s.0 s.1 user id (subst (SaysGone (Message user id)) (sym s.2) gone)

  pub owes_deletions : OwesDeletions plan disks asked answered
  owes_deletions = record {
    asks = λ n user id gone. struck_call asked user id (subst (Among (user, id)) known.book_is.struck (struck_among last.book user id (asked_for n user id gone)));
    gone = λ k user ids id m inside.
        let entry = dropped_among last.book user id (subst (Among (user, id)) (sym known.book_is.dropped) (dropped_answer answered k user ids id m inside)) in
        (nodes_in entry.0 64, gone_on plan disks w sound in_plan at_disk user id entry.0 (subst (Among (Dropped user id entry.0)) (sym settled.book) entry.1));
    once = λ k user given items m. (known.answers (record { session = k; call = Login user given; answer = Listed items }) m).1.0;
    named = λ k user given items m i item e.
        let o = ((known.answers (record { session = k; call = Login user given; answer = Listed items }) m).1.1 item (got_among items i item e)).0 in
        let there = octets_stored item.id o.0 o.1 in
        each_of IsRecord (Octets item.id o.0) there.1 (in_grammar 1 stores disks are there.0 there.1 there.2) there.3;
  }

  -- each message of a listing is one of its user
  owned : (user : List ℕ) (id : Id) → IsOwned last.slots user id → HasRecordOf disks user id
  owned user id h =
      let one = Stated (Message user id) (record { value = Here; stamp = h.stamp; targets = h.targets }) in
      let there = on_store one h.n h.slot h.here h.inside in
      record { n = there.0; records = there.1; at = there.2; stamp = h.stamp; targets = h.targets; says = member_of one there.1 there.3 }

  pub owes_listings : OwesListings disks answered
  owes_listings k user given items m i item e =
      owned user item.id ((known.answers (record { session = k; call = Login user given; answer = Listed items }) m).1.1 item (got_among items i item e)).1

  -- what is filed of a message
  filed_is : (id : Id) (octets : List ℕ) → IsOnDisk last.slots id octets → filed_on disks id ≡ Some octets
  filed_is id octets h =
      let there = octets_stored id octets h in
      let first = filed_found disks there.0 there.1 id octets there.2 there.3 in
      first.3 ∙ ap Some (sound.contents.one id first.0 octets (store_held first.1 first.2 id first.0 first.4 first.5) (store_held there.0 there.1 id octets there.2 there.3))

  pub one_content : OneContent (filed_on disks) disks
  one_content m records id octets e inside =
      let first = filed_found disks m records id octets e (among_of (Octets id octets) records inside) in
      first.3 ∙ ap Some (sound.contents.one id first.0 octets (store_held first.1 first.2 id first.0 first.4 first.5) (store_held m records id octets e (among_of (Octets id octets) records inside)))

  pub owes_parts : tells ≡ true → OwesParts (filed_on disks) answered
  owes_parts told = record {
    sizes = λ k user given items m i item e.
        let o = ((known.answers (record { session = k; call = Login user given; answer = Listed items }) m).1.1 item (got_among items i item e)).0 in
        (o.0, filed_is item.id o.0 o.1, o.2);
    parts = λ k user id part m.
        let o = (known.answers (record { session = k; call = Fetch user id; answer = Part part }) m).1 told in
        let there = octets_stored id o.0 o.1 in
        let few : length o.0 < 2 ^ 64 = counted told there.0 there.1 id o.0 there.2 there.3 in
        let same : part ≡ o.0 = o.2 ∙ taken_all greatest o.0 (omega (arith, few)) in (
          filed_is id o.0 o.1 ∙ ap Some (sym same),
          ap closed same ∙ closed_is o.0 (sound.contents.ended id o.0 (store_held there.0 there.1 id o.0 there.2 there.3)) ∙ sym same,
        );
  }

  -- the book
  pub owes_book : OwesBook plan lines disks asked answered known.told all_standing.confirmers last.book
  owes_book = record {
    is_book = record { struck = known.book_is.struck; dropped = known.book_is.dropped; acked = all_standing.copied };
    stand = all_standing.booked;
    dropped = all_gone plan disks w sound in_plan at_disk last.book known.masked (λ entry m. subst (Among entry) (sym settled.book) m);
  }
