-- What a sound cluster keeps of what it acknowledged.
use Rattle.std.proofs.Common.{sym, ◌∙◌, ◌≢◌, ◌≡◌, ◌⊎◌, inl, inr, ⊎_elim, ℕ, List, [], ◌∷◌, Some, length, true, ◌≤◌, refl, ap, subst}
use Rattle.sha2.specs.Sha256.{sha256}
use Rattle.mail_model.specs.Identity.{Id, Key, Value, State}
use Rattle.mail_model.specs.Identity.Key.{Message}
use Rattle.mail_model.specs.Identity.Value.{Here, Gone, Secret}
use Rattle.mail_model.specs.Record.{Record, IsAmongRecords, SaysHere, SaysGone, HoldsOctets}
use Rattle.mail_model.specs.Record.Record.{Boot, Octets, Stated, Promise, Retired}
use Rattle.mail_model.specs.Book.{Acked}
use Rattle.mail_model.specs.Book.BookEntry.{Acknowledged, Struck, Dropped}
use Rattle.mail_model.proofs.Choices.{same_id}
use Rattle.object_model.specs.Sets.{has, count_in}
use Rattle.object_model.specs.Lists.{Among}
use Rattle.mail_model.specs.Grammar.{IsOfKind}
use Rattle.cluster_model.specs.Cluster.{Slot, Cluster, slot_at, pending_of}
use Rattle.cluster_model.specs.Claims.{HasCopy, ShowsGone, StoresMessage}
use Rattle.cluster_model.specs.Claims.Fact.{HasCopies, IsGone}
use Rattle.cluster_model.specs.Parts.{Sound}
use Rattle.cluster_model.specs.Laws.{KeepsCopyOf, HasCopyOf, LacksCopy}
use Rattle.object_model.proofs.Lists.{among_front}
use Rattle.cluster_model.proofs.Takes.{same_key}

-- both ways to say that a record stands
pub member_of : (one : Record) (records : List Record) → Among one records → IsAmongRecords one records
member_of one [] m = m
member_of one (other ∷ records) m = ⊎_elim (λ e. inl e) (λ behind. inr (member_of one records behind)) m

pub among_of : (one : Record) (records : List Record) → IsAmongRecords one records → Among one records
among_of one [] m = m
among_of one (other ∷ records) m = ⊎_elim (λ e. inl e) (λ behind. inr (among_of one records behind)) m

-- where some octets of an id stand, there are first ones
pub first_octets : (id : Id) (octets : List ℕ) (records : List Record) → Among (Octets id octets) records → (first : List ℕ) × HoldsOctets id first records × Among (Octets id first) records
first_octets id octets [] m = absurd m
first_octets id octets (Octets other held ∷ records) m = ⊎_elim
    (λ same. let e : Octets other held ≡ Octets id held = ap (λ i. Octets i held) same in (held, inl e, inl e))
    (λ apart. let behind = ⊎_elim (λ is. absurd (apart (id_in is))) (λ b. first_octets id octets records b) m in
    (behind.0, inr (λ o is. apart (id_in is), behind.1), inr behind.2))
    (same_id other id)
  where
    id_in : {o p : List ℕ} {i j : Id} → Octets i o ≡ Octets j p → i ≡ j
    id_in is = cc
first_octets id octets (Boot boot ∷ records) m = let behind = first_octets id octets records (⊎_elim (λ is. absurd (cc is)) (λ b. b) m) in (behind.0, inr (λ o is. cc, behind.1), inr behind.2)
first_octets id octets (Stated key state ∷ records) m = let behind = first_octets id octets records (⊎_elim (λ is. absurd (cc is)) (λ b. b) m) in (behind.0, inr (λ o is. cc, behind.1), inr behind.2)
first_octets id octets (Promise epoch ∷ records) m = let behind = first_octets id octets records (⊎_elim (λ is. absurd (cc is)) (λ b. b) m) in (behind.0, inr (λ o is. cc, behind.1), inr behind.2)
first_octets id octets (Retired key state ∷ records) m = let behind = first_octets id octets records (⊎_elim (λ is. absurd (cc is)) (λ b. b) m) in (behind.0, inr (λ o is. cc, behind.1), inr behind.2)

-- a state of a message is here or gone
pub here_or_gone : (user : List ℕ) (id : Id) (value : Value) → IsOfKind (Message user id) value → (value ≡ Here) ⊎ (value ≡ Gone)
here_or_gone user id Here fits = inl refl
here_or_gone user id Gone fits = inr refl
here_or_gone user id (Secret octets) fits = absurd fits

-- a state whose value is known
pub valued : (key : Key) (state : State) (value : Value) → state.value ≡ value → Stated key state ≡ Stated key (record { value = value; stamp = state.stamp; targets = state.targets })
valued key state value e = ap (λ v. Stated key (record { value = v; stamp = state.stamp; targets = state.targets })) e

-- some record says that the copy is gone, or none does
gone_or_not : (user : List ℕ) (id : Id) (records : List Record) → ShowsGone user id records ⊎ ((state : State) → Among (Stated (Message user id) state) records → state.value ≡ Gone → ⊥)
gone_or_not user id [] = inr (λ state m g. m)
gone_or_not user id (one ∷ records) = by (gone_or_not user id records) one
  where
    further : (other : Record) → ((state : State) → other ≡ Stated (Message user id) state → state.value ≡ Gone → ⊥)
        → ShowsGone user id records ⊎ ((state : State) → Among (Stated (Message user id) state) records → state.value ≡ Gone → ⊥)
        → ShowsGone user id (other ∷ records) ⊎ ((state : State) → Among (Stated (Message user id) state) (other ∷ records) → state.value ≡ Gone → ⊥)
    further other none (inl g) = inl (record { state = g.state; inside = inr g.inside; gone = g.gone })
    further other none (inr n) = inr (λ state m g. ⊎_elim (λ is. none state is g) (λ behind. n state behind g) m)

    stated : (key : Key) (state : State) → (key ≡ Message user id) ⊎ (key ≢ Message user id) → (value : Value) → state.value ≡ value
        → ShowsGone user id records ⊎ ((s : State) → Among (Stated (Message user id) s) records → s.value ≡ Gone → ⊥)
        → ShowsGone user id (Stated key state ∷ records) ⊎ ((s : State) → Among (Stated (Message user id) s) (Stated key state ∷ records) → s.value ≡ Gone → ⊥)
    stated key state (inr apart) value e rest = further (Stated key state) (λ s is g. apart cc) rest
    stated key state (inl same) Gone e rest = inl (record { state = state; inside = inl (ap (λ k. Stated k state) same); gone = e })
    stated key state (inl same) Here e rest = further (Stated key state) (λ s is g. here_gone (sym e ∙ ap value_in is ∙ g)) rest
      where
        value_in : Record → Value
        value_in (Stated k s) = s.value
        value_in other = Gone

        here_gone : Here ≡ Gone → ⊥
        here_gone e = cc
    stated key state (inl same) (Secret octets) e rest = further (Stated key state) (λ s is g. secret_gone (sym e ∙ ap value_in is ∙ g)) rest
      where
        value_in : Record → Value
        value_in (Stated k s) = s.value
        value_in other = Gone

        secret_gone : Secret octets ≡ Gone → ⊥
        secret_gone e = cc

    by : ShowsGone user id records ⊎ ((state : State) → Among (Stated (Message user id) state) records → state.value ≡ Gone → ⊥) → (first : Record)
        → ShowsGone user id (first ∷ records) ⊎ ((state : State) → Among (Stated (Message user id) state) (first ∷ records) → state.value ≡ Gone → ⊥)
    by rest (Stated key state) = stated key state (same_key key (Message user id)) state.value refl rest
    by rest (Boot boot) = further (Boot boot) (λ s is g. cc is) rest
    by rest (Octets other octets) = further (Octets other octets) (λ s is g. cc is) rest
    by rest (Promise epoch) = further (Promise epoch) (λ s is g. cc is) rest
    by rest (Retired key state) = further (Retired key state) (λ s is g. cc is) rest

module _ (confirm : ℕ) (w : Cluster) (s : Sound confirm w) where
  -- no record says that a copy is gone that was not struck
  not_gone : (user : List ℕ) (id : Id) → (Among (Struck user id) w.book → ⊥) → (m : ℕ) (slot : Slot) → slot_at w.slots m ≡ Some slot → (state : State)
      → Among (Stated (Message user id) state) slot.disk → state.value ≡ Gone → ⊥
  not_gone user id unstruck m slot here state inside gone = unstruck (s.deletions.disks m slot here user id (inl (record {
    one = Stated (Message user id) state;
    inside = among_front (Stated (Message user id) state) slot.disk (pending_of slot.life) inside;
    speaks = record { state = state; is = inl refl; gone = gone };
  })))

  has_copy : (copy : Acked) → Among (Acknowledged copy) w.book → (m : ℕ) (slot : Slot) → slot_at w.slots m ≡ Some slot
      → ((state : State) → Among (Stated (Message copy.user copy.id) state) slot.disk → state.value ≡ Gone → ⊥)
      → HasCopy copy.user copy.id slot.disk → SaysHere (Message copy.user copy.id) slot.disk
      × ((octets : List ℕ) × HoldsOctets copy.id octets slot.disk × (copy.size ≡ length octets) × (copy.digest ≡ sha256 octets))
  has_copy copy acked m slot here none_gone c =
      let key = Message copy.user copy.id in
      let alive : c.state.value ≡ Gone → ⊥ = none_gone c.state c.inside in
      let fits = (s.fit.slots_fit m slot here).kind key c.state (among_front (Stated key c.state) slot.disk (pending_of slot.life) c.inside) in
      let is_here : c.state.value ≡ Here = ⊎_elim (λ h. h) (λ g. absurd (alive g)) (here_or_gone copy.user copy.id c.state.value fits) in
      let stored : StoresMessage copy.id slot.disk = ⊎_elim (λ g. absurd (alive g)) (λ st. st) c.stored in
      let first = first_octets copy.id stored.octets slot.disk stored.inside in
      let of : (copy.size ≡ length first.0) × (copy.digest ≡ sha256 first.0) = s.contents.acked copy first.0 acked (record { where_ = inl (m, slot, here, among_front (Octets copy.id first.0) slot.disk (pending_of slot.life) first.2) }) in (
        record {
          stamp = c.state.stamp;
          targets = c.state.targets;
          here = member_of _ slot.disk (subst (λ r. Among r slot.disk) (valued key c.state Here is_here) c.inside);
          not_gone = λ stamp targets g. none_gone (record { value = Gone; stamp = stamp; targets = targets }) (among_of _ slot.disk g) refl;
        },
        (first.0, first.1, of.0, of.1),
      )

  says_gone : (user : List ℕ) (id : Id) (disk : List Record) → ShowsGone user id disk → SaysGone (Message user id) disk
  says_gone user id disk g = record {
    stamp = g.state.stamp;
    targets = g.state.targets;
    gone = member_of _ disk (subst (λ r. Among r disk) (valued (Message user id) g.state Gone g.gone) g.inside);
  }

  pub acknowledged_stand : (copy : Acked) → Among (Acknowledged copy) w.book → (Among (Struck copy.user copy.id) w.book → ⊥)
      → (confirm ≤ count_in copy.confirmers) × ((m : ℕ) → has copy.confirmers m ≡ true → HasCopyOf copy w.slots m)
  acknowledged_stand copy acked unstruck = (
    s.enough.acked copy acked,
    λ m counts.
        let h = s.claims.booked (Acknowledged copy) acked m (HasCopies (copy.user ∷ []) copy.id) (counts, refl) in
        record {
          slot = h.slot;
          here = h.here;
          stands = has_copy copy acked m h.slot h.here (not_gone copy.user copy.id unstruck m h.slot h.here) (h.stands copy.user (inl refl));
        },
  )

  pub dropped_gone : (user : List ℕ) (id : Id) (confirmers : ℕ) → Among (Dropped user id confirmers) w.book
      → (confirm ≤ count_in confirmers) × ((m : ℕ) → has confirmers m ≡ true → LacksCopy user id w.slots m)
  dropped_gone user id confirmers dropped = (
    s.enough.dropped user id confirmers dropped,
    λ m counts.
        let h = s.claims.booked (Dropped user id confirmers) dropped m (IsGone user id) (counts, refl) in
        record {
          slot = h.slot;
          here = h.here;
          stands = says_gone user id h.slot.disk h.stands;
        },
  )

  pub acknowledged_kept : (copy : Acked) → Among (Acknowledged copy) w.book → (confirm ≤ count_in copy.confirmers) × ((m : ℕ) → has copy.confirmers m ≡ true → KeepsCopyOf copy w.slots m)
  acknowledged_kept copy acked = (
    s.enough.acked copy acked,
    λ m counts.
        let h = s.claims.booked (Acknowledged copy) acked m (HasCopies (copy.user ∷ []) copy.id) (counts, refl) in
        record {
          slot = h.slot;
          here = h.here;
          stands = ⊎_elim
              (λ (g : ShowsGone copy.user copy.id h.slot.disk). inr (says_gone copy.user copy.id h.slot.disk g))
              (λ none. inl (has_copy copy acked m h.slot h.here none (h.stands copy.user (inl refl))))
              (gone_or_not copy.user copy.id h.slot.disk);
        },
  )
