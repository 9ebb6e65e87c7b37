-- A node that stops, or is lost.
use Rattle.std.proofs.Common.{◌≡◌, ◌≢◌, ◌⊎◌, inl, inr, ℕ, ◌+◌, List, [], ◌∷◌, ◌++◌, append-nil, All, Option, Some, None, refl, sym, ap, ◌∙◌, subst, arith}
use Rattle.std.specs.Prelude.{IfSome, is_some}
use Rattle.mail_model.specs.Grammar.{IsRecord}
use Rattle.mail_model.specs.Book.{BookEntry as entry}
use Rattle.session_model.specs.Events.{NodeLife as life}
use Rattle.cluster_model.specs.Cluster as plain
use Rattle.cluster_model.specs.Cluster.{Slot, slot_at, with_slot}
use Rattle.cluster_model.specs.World as machine
use Rattle.cluster_model.specs.Steps as steps
use Rattle.io_edge.specs.Octets.{IsToldAlike}
use Rattle.node_store.specs.Disks.{View}
use Rattle.node_core.specs.Starting.{MayHold}
use Rattle.whole_node.specs.declared.node.WholeNode.{WholeNode}
use Rattle.world_book.specs.Books.{entries_of}
use Rattle.world_book.specs.declared.book.Book.{Book}
use Rattle.world_book.specs.declared.entry.Entry.{Entry}
use Rattle.cluster_world.specs.Books.{entries_seen}
use Rattle.cluster_world.specs.Flights.{InFlight}
use Rattle.cluster_world.specs.Lives.{life_seen}
use Rattle.cluster_world.specs.Stands.{SlotStands}
use Rattle.cluster_world.specs.Worlds.{state_with, StateStandsFor}
use Rattle.cluster_world.specs.Changes.{ChangesNode, IsTurnedTo}
use Rattle.cluster_world.specs.Turns.{life_refusal}
use Rattle.cluster_world.specs.Moments.{StopsKeep}
use Rattle.cluster_world.specs.declared.life.Life.{Life}
use Rattle.cluster_world.specs.declared.life.Life.TheVariants.{Up, Down, Lost}
use Rattle.cluster_world.specs.declared.nodes.Nodes.{Nodes}
use Rattle.cluster_world.specs.declared.step.Step.{Step}
use Rattle.cluster_world.specs.declared.step.Step.TheVariants as step
use Rattle.cluster_world.specs.declared.fault.StepFault.TheVariants as fault
use Rattle.cluster_world.proofs.Still.{if_some, images_stop}
use Rattle.cluster_world.proofs.Turned.{slots_stand, stops_kept}

-- the entries of the book one after another
pub entries_more : (xs ys : List Entry) → entries_seen (xs ++ ys) ≡ entries_seen xs ++ entries_seen ys
entries_more [] ys = refl
entries_more (x ∷ xs) ys = ap (λ zs. Rattle.cluster_world.specs.Books.entry_seen x ++ zs) (entries_more xs ys) ∙ sym (Rattle.std.proofs.Common.append_assoc (Rattle.cluster_world.specs.Books.entry_seen x) (entries_seen xs) (entries_seen ys))

-- a life that is up in the definitions' words is up
pub up_life : (l : Life) (boot : ℕ) → life_seen l ≡ life.Up boot → (node : WholeNode) × (l ≡ Up node)
up_life (Up node) boot e = (node, refl)
up_life Down boot e = absurd (let never : life.Down ≡ life.Up boot = e in cc)
up_life Lost boot e = absurd (let never : life.Lost ≡ life.Up boot = e in cc)

-- a node that may crash is up, and one that may be lost is not lost
pub crash_up : (n : ℕ) (l : Life) → life_refusal (step.Crash n) (life_seen l) ≡ None → (node : WholeNode) × (l ≡ Up node)
crash_up n (Up node) e = (node, refl)
crash_up n Down e = absurd (let never : Some fault.NodeDown ≡ None = e in cc)
crash_up n Lost e = absurd (let never : Some fault.NodeLost ≡ None = e in cc)

pub lose_here : (n : ℕ) (l : Life) → life_refusal (step.Lose n) (life_seen l) ≡ None → ((node : WholeNode) × (l ≡ Up node)) ⊎ (l ≡ Down)
lose_here n (Up node) e = inl (node, refl)
lose_here n Down e = inr refl
lose_here n Lost e = absurd (let never : Some fault.NodeLost ≡ None = e in cc)

module _ {D : Type 0} (on : View D) (own : ℕ) (disk : D) (slot : Slot) where
  -- the slot of a node that was up, as it falls
  pub fallen : (node : WholeNode) → SlotStands on own (Up node) disk slot
      → ((seen : plain.Node) × (slot.life ≡ plain.Life.Up seen)) × All IsRecord (slot.disk ++ []) × IfSome (on.seen disk) (λ _. MayHold on disk own slot.disk [])
  fallen node (seen, is, st) =
      let fit : All IsRecord (slot.disk ++ []) = subst (λ xs. All IsRecord xs) (sym (append-nil slot.disk)) st.keeps.fit in
      ((seen, is), fit, if_some (on.seen disk) _ _ (λ _ images. record { images = λ c image. inl (images c image).journal; fit = fit }) st.images)

  -- what a stop leaves of it, whatever its life is now that has nothing pending
  pub falls_kept : (l : Life) (now : plain.Life) → plain.pending_of now ≡ [] → slot.life ≢ plain.Life.Lost → SlotStands on own l disk slot → StopsKeep on own disk disk slot (record slot { life = now })
  falls_kept l now none here stands = record {
    kept = [];
    pending_is = inl refl;
    added = [];
    grew = ap (λ xs. slot.disk ++ xs) none ∙ sym (append-nil (slot.disk ++ []));
    stops = if_some (on.seen disk) _ _ (λ _ images. record { later = omega arith; since = λ t c le was. inl was; now = images }) (images_stop on own l disk slot [] here stands);
  }

module _ {D : Type 0} (on : View D) (n : ℕ) (now : Life) (plain_now : plain.Life) (none : plain.pending_of plain_now ≡ []) (old new : Nodes D) (ch : ChangesNode n (IsTurnedTo now) old new)
    (flying : InFlight) (seconds : ℕ) (book book' : Book) where
  same_disk : ch.disk' ≡ ch.disk
  same_disk = ch.does.1

  pub fall_told : (seen : D → Option (List ℕ)) → IsToldAlike (seen ch.disk) (seen ch.disk')
  fall_told seen = ap (λ d. is_some (seen d)) same_disk

  -- the slots of the machine, once it fell
  pub fall_leads : (said : steps.Said) (s : Step) (entry : Entry) → entries_of book' ≡ entries_of book ++ entry ∷ [] → (w : machine.World) → StateStandsFor on (state_with old flying seconds book) w
      → (slot : Slot) → slot_at w.slots n ≡ Some slot → slot.life ≢ plain.Life.Lost → SlotStands on n ch.life ch.disk slot → SlotStands on n now ch.disk (record slot { life = plain_now })
      → ((next : machine.World) × StateStandsFor on (state_with new flying seconds book') next
      × (next ≡ record w { slots = with_slot w.slots n (record slot { life = plain_now }); book = w.book ++ entries_seen (entry ∷ []) })
      × Rattle.cluster_world.specs.Steps.EveryStopKeeps on (state_with old flying seconds book) (state_with new flying seconds book') w.slots next.slots)
  fall_leads said s entry wrote w st slot here alive stood falls =
      let turned_slot : Slot = record slot { life = plain_now } in
      let life_is : now ≡ ch.life' = sym ch.does.0 in
      let stands' : SlotStands on n ch.life' ch.disk' turned_slot =
      subst (λ d. SlotStands on n ch.life' d turned_slot) (sym same_disk) (subst (λ l. SlotStands on n l ch.disk turned_slot) life_is falls) in
      let kept : StopsKeep on n ch.disk ch.disk' slot turned_slot =
      subst (λ d. StopsKeep on n ch.disk d slot turned_slot) (sym same_disk) (falls_kept on n ch.disk slot ch.life plain_now none alive stood) in (
        record w { slots = with_slot w.slots n turned_slot; book = w.book ++ entries_seen (entry ∷ []) },
        record {
          slots = slots_stand n (IsTurnedTo now) old new ch on w.slots turned_slot st.slots stands';
          flying = st.flying;
          sent = st.sent;
          seconds = st.seconds;
          book = ap entries_seen wrote ∙ entries_more (entries_of book) (entry ∷ []) ∙ ap (λ b. b ++ entries_seen (entry ∷ [])) st.book;
        },
        refl,
        record { each = stops_kept n (IsTurnedTo now) old new ch on w.slots slot turned_slot st.slots here (λ _. kept) },
      )
