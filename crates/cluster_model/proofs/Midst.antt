-- What a disk holds in the midst of a step of what the book says was confirmed.
use Rattle.std.proofs.Common.{◌≡◌, inl, inr, ⊎_elim, ℕ, Bool, true, List, [], ◌∷◌, ◌++◌, length, Some, refl, sym, ap, ◌∙◌, subst}
use Rattle.sha2.specs.Sha256.{sha256}
use Rattle.mail_model.specs.Identity.{Id, State}
use Rattle.mail_model.specs.Identity.Key.{Message}
use Rattle.mail_model.specs.Identity.Value.{Here, Gone}
use Rattle.mail_model.specs.Plan.{Plan}
use Rattle.mail_model.specs.Record.{Record, SaysGone, HoldsOctets}
use Rattle.mail_model.specs.Record.Record.{Octets, Stated}
use Rattle.mail_model.specs.Book.{Acked, BookEntry}
use Rattle.mail_model.specs.Book.BookEntry.{Acknowledged, Struck, Dropped}
use Rattle.object_model.specs.Sets.{has}
use Rattle.object_model.specs.Lists.{Among}
use Rattle.object_model.proofs.Lists.{among_front, among_behind, among_either, same_some}
use Rattle.cluster_model.specs.Cluster.{Slot, slot_at, pending_of}
use Rattle.cluster_model.specs.Claims.{Fact, HasCopy, ShowsGone, StoresMessage, SaysFact, EntryClaims, RecordSpeaks, all_records}
use Rattle.cluster_model.specs.Claims.Fact.{HasCopies, IsGone}
use Rattle.cluster_model.specs.Parts.{Sound}
use Rattle.cluster_model.specs.StepLaws.{HasCopyIn, IsFrontOf, KeepInMidst}
use Rattle.cluster_model.specs.World.{World, cluster_of}
use Rattle.cluster_model.specs.WorldLaws.{InPlan}
use Rattle.cluster_model.specs.Steps.{Step, StepOutcome}
use Rattle.cluster_model.specs.Makes.{MakesStep}
use Rattle.cluster_model.proofs.Promises.{member_of, among_of, first_octets, here_or_gone, valued}
use Rattle.cluster_model.proofs.Running.{steps_sound}
use Rattle.cluster_model.proofs.Entering.{IsConfirmation, KeepsDisks, Enters, enters}

-- the first octets of some records are those of more records
holds_more : (id : Id) (octets : List ℕ) (records more : List Record) → HoldsOctets id octets records → HoldsOctets id octets (records ++ more)
holds_more id octets [] more h = absurd h
holds_more id octets (one ∷ records) more (inl is) = inl is
holds_more id octets (one ∷ records) more (inr other) = inr (other.0, holds_more id octets records more other.1)

module _ (plan : Plan) (tells : Bool) (old new : World) (step : Step) (outcome : StepOutcome) (made : MakesStep plan tells old step outcome new) (p : InPlan plan.nodes old.slots)
    (s : Sound plan.confirm (cluster_of old)) where
  sound_now : Sound plan.confirm (cluster_of new)
  sound_now = (steps_sound plan tells old new (record { step = step; outcome = outcome } ∷ []) (new, made, refl) p s).1

  e : Enters old new
  e = enters old new plan tells step outcome made

  -- what was struck is struck
  struck_still : (user : List ℕ) (id : Id) → Among (Struck user id) old.book → Among (Struck user id) new.book
  struck_still user id m = subst (Among (Struck user id)) (sym e.book) (among_front (Struck user id) old.book e.entries m)

  module _ (m : ℕ) (slot slot' : Slot) (here : slot_at old.slots m ≡ Some slot) (there : slot_at new.slots m ≡ Some slot') where
    -- what a confirmation says stood on the disk before the step
    said_before : (entry : BookEntry) → IsConfirmation entry → Among entry new.book → (fact : Fact) → EntryClaims entry m fact → SaysFact slot.disk fact
    said_before entry confirms inside fact claims = ⊎_elim was came (among_either entry old.book e.entries (subst (Among entry) e.book inside))
      where
        was : Among entry old.book → SaysFact slot.disk fact
        was k =
            let f = s.claims.booked entry k m fact claims in
            let same : f.slot ≡ slot = same_some (slot_at old.slots m) f.slot slot f.here here in
            subst (λ (x : Slot). SaysFact x.disk fact) same f.stands

        came : Among entry e.entries → SaysFact slot.disk fact
        came k = ⊎_elim (λ none. absurd (none entry k confirms)) (λ (keeps : KeepsDisks old new).
            let f = sound_now.claims.booked entry inside m fact claims in
            let same : f.slot ≡ slot' = same_some (slot_at new.slots m) f.slot slot' f.here there in
            subst (λ xs. SaysFact xs fact) (ap (λ (x : Slot). x.disk) same ∙ keeps m slot slot' here there) f.stands) e.confirms

    module _ (records : List Record) (f : IsFrontOf slot slot' records) where
      -- what stood is in front of it
      stood : (one : Record) → Among one slot.disk → Among one records
      stood one k = subst (Among one) (sym f.is) (among_front one (slot.disk ++ f.kept) f.front (among_front one slot.disk f.kept k))

      speaks : (user : List ℕ) (id : Id) (state : State) → state.value ≡ Gone → RecordSpeaks (Stated (Message user id) state) user id
      speaks user id state gone = record { state = state; is = inl refl; gone = gone }

      -- who says that a copy is gone says that of one that was struck
      struck_there : (user : List ℕ) (id : Id) (state : State) → state.value ≡ Gone → Among (Stated (Message user id) state) records → Among (Struck user id) new.book
      struck_there user id state gone k = ⊎_elim
          (λ a. ⊎_elim
          (λ b. by_old (among_front (Stated (Message user id) state) slot.disk (pending_of slot.life) b))
          (λ b. ⊎_elim (λ none. absurd (subst (Among (Stated (Message user id) state)) none b))
          (λ all. by_old (among_behind (Stated (Message user id) state) slot.disk (pending_of slot.life) (subst (Among (Stated (Message user id) state)) all b))) f.pending_is)
          (among_either (Stated (Message user id) state) slot.disk f.kept a))
          (λ b. sound_now.deletions.disks m slot' there user id (inl (record {
            one = Stated (Message user id) state;
            inside = subst (Among (Stated (Message user id) state)) (sym f.grew)
                (among_behind (Stated (Message user id) state) (slot.disk ++ f.before) (f.front ++ f.rest) (among_front (Stated (Message user id) state) f.front f.rest b));
            speaks = speaks user id state gone;
          })))
          (among_either (Stated (Message user id) state) (slot.disk ++ f.kept) f.front (subst (Among (Stated (Message user id) state)) f.is k))
        where
          by_old : Among (Stated (Message user id) state) (all_records slot) → Among (Struck user id) new.book
          by_old a = struck_still user id (s.deletions.disks m slot here user id (inl (record { one = Stated (Message user id) state; inside = a; speaks = speaks user id state gone })))

      copy_there : (copy : Acked) → Among (Acknowledged copy) new.book → (Among (Struck copy.user copy.id) new.book → ⊥) → has copy.confirmers m ≡ true → HasCopyIn copy records
      copy_there copy acked unstruck counts =
          let c : HasCopy copy.user copy.id slot.disk = said_before (Acknowledged copy) tt acked (HasCopies (copy.user ∷ []) copy.id) (counts, refl) copy.user (inl refl) in
          let alive_is : c.state.value ≡ Gone → ⊥ = λ gone. unstruck (struck_there copy.user copy.id c.state gone (stood _ c.inside)) in
          let fits = (s.fit.slots_fit m slot here).kind (Message copy.user copy.id) c.state (among_front (Stated (Message copy.user copy.id) c.state) slot.disk (pending_of slot.life) c.inside) in
          let is_here : c.state.value ≡ Here = ⊎_elim (λ h. h) (λ g. absurd (alive_is g)) (here_or_gone copy.user copy.id c.state.value fits) in
          let stored : StoresMessage copy.id slot.disk = ⊎_elim (λ g. absurd (alive_is g)) (λ st. st) c.stored in
          let first = first_octets copy.id stored.octets slot.disk stored.inside in
          let of : (copy.size ≡ length first.0) × (copy.digest ≡ sha256 first.0) = sound_now.contents.acked copy first.0 acked (record {
            where_ = inl (
              m,
              slot',
              there,
              subst (Among (Octets copy.id first.0)) (sym f.grew) (among_front _ (slot.disk ++ f.before) (f.front ++ f.rest) (among_front _ slot.disk f.before first.2)),
            );
          }) in
          record {
            here = record {
              stamp = c.state.stamp;
              targets = c.state.targets;
              here = member_of _ records (stood _ (subst (λ r. Among r slot.disk) (valued (Message copy.user copy.id) c.state Here is_here) c.inside));
              not_gone = λ stamp targets g. unstruck (struck_there copy.user copy.id (record { value = Gone; stamp = stamp; targets = targets }) refl (among_of _ records g));
            };
            octets = first.0;
            holds = subst (HoldsOctets copy.id first.0) (sym f.is) (holds_more copy.id first.0 (slot.disk ++ f.kept) f.front (holds_more copy.id first.0 slot.disk f.kept first.1));
            size = of.0;
            digest = of.1;
          }

      gone_there : (user : List ℕ) (id : Id) (confirmers : ℕ) → Among (Dropped user id confirmers) new.book → has confirmers m ≡ true → SaysGone (Message user id) records
      gone_there user id confirmers dropped counts =
          let g : ShowsGone user id slot.disk = said_before (Dropped user id confirmers) tt dropped (IsGone user id) (counts, refl) in
          record {
            stamp = g.state.stamp;
            targets = g.state.targets;
            gone = member_of _ records (stood _ (subst (λ r. Among r slot.disk) (valued (Message user id) g.state Gone g.gone) g.inside));
          }

  pub keep_in_midst : KeepInMidst old new
  keep_in_midst = record {
    acknowledged = λ copy acked unstruck m counts slot slot' here there records f. copy_there m slot slot' here there records f copy acked unstruck counts;
    dropped = λ user id confirmers dropped m counts slot slot' here there records f. gone_there m slot slot' here there records f user id confirmers dropped counts;
  }
