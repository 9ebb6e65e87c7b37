-- What the step does that loses a node for good.
use Rattle.std.proofs.Common.{◌≡◌, ◌≢◌, ◌⊎◌, inl, inr, ⊎_elim, ℕ, ◌≤◌, List, [], ◌∷◌, ◌++◌, append-nil, length-append, All, Option, Some, None, Ok, refl, sym, ap, ◌∙◌, subst, arith}
use Rattle.std.specs.Prelude.{IfSome, is_some}
use Rattle.std.specs.List.{list_all}
use Rattle.std.proofs.lemmas.List.{get_or_append_left}
use Rattle.mail_model.specs.Record.{Record, IsJournal, payloads_of}
use Rattle.mail_model.specs.Grammar.{IsRecord}
use Rattle.session_model.specs.Events.{NodeLife as life, turned}
use Rattle.cluster_model.specs.Cluster as plain
use Rattle.cluster_model.specs.Cluster.{Slot}
use Rattle.cluster_model.specs.World as machine
use Rattle.cluster_model.specs.Steps as steps
use Rattle.cluster_model.specs.Steps.{is_node}
use Rattle.node_store.specs.Disks.{View}
use Rattle.node_core.specs.Starting.{MayHold}
use Rattle.whole_node.specs.declared.node.WholeNode.{WholeNode}
use Rattle.world_book.specs.Books.{entries_of}
use Rattle.world_book.specs.declared.book.Book.{Book}
use Rattle.world_book.specs.declared.entry.Entry.TheVariants as written
use Rattle.cluster_world.specs.Books.{entries_seen}
use Rattle.cluster_world.specs.Flights.{InFlight}
use Rattle.cluster_world.specs.Lives.{life_seen}
use Rattle.cluster_world.specs.Stands.{SlotStands}
use Rattle.cluster_world.specs.Worlds.{seen_life, life_among, state_with, StateStandsFor}
use Rattle.cluster_world.specs.Changes.{ChangesNode, IsTurnedTo}
use Rattle.cluster_world.specs.Turns.{life_refusal, node_refusal}
use Rattle.cluster_world.specs.Moments.{StopsKeep}
use Rattle.cluster_world.specs.Steps.{StepDid, LeadsMail}
use Rattle.cluster_world.specs.declared.life.Life.{Life}
use Rattle.cluster_world.specs.declared.life.Life.TheVariants.{Up, Down, Lost}
use Rattle.cluster_world.specs.declared.nodes.Nodes.{Nodes}
use Rattle.cluster_world.specs.declared.step.Step.TheVariants as step
use Rattle.cluster_world.specs.declared.step.Said.TheVariants.{Done}
use Rattle.cluster_world.proofs.Still.{if_some, images_stop}
use Rattle.cluster_world.proofs.Turned.{slot_of, lives_turned, as_many, told_by, quiet_by, stops_kept, stands_now}
use Rattle.cluster_world.proofs.Refusing.{fit_of, lose_goes}
use Rattle.cluster_world.proofs.Falling.{lose_here, entries_more}
use Rattle.cluster_world.proofs.Longer.{longer_by}
use Rattle.cluster_world.proofs.Follows.{fall_follows}
use Rattle.cluster_world.proofs.Wholly.{led, even_of}
use Rattle.cluster_world.proofs.Lifting.{lift}
use Rattle.cluster_world.proofs.Beside.{alone_keeps}

module _ {D : Type 0} (on : View D) (own : ℕ) (disk : D) (slot : Slot) where
  abbrev lost_with : List Record → Slot
  lost_with kept = record { life = plain.Life.Lost; disk = slot.disk ++ kept }

  -- the disk has what it tells: what was pending, or not
  record Stays (o : Option (List ℕ)) (pending : List Record) : Type 0 where
    kept : List Record
    pending_is : (kept ≡ []) ⊎ (kept ≡ pending)
    fit : All IsRecord (slot.disk ++ kept)
    tells : IfSome o (λ held. IsJournal own held (payloads_of (slot.disk ++ kept)))

  first_fit : (pending : List Record) → All IsRecord (slot.disk ++ pending) → All IsRecord (slot.disk ++ [])
  first_fit pending h = subst (λ xs. All IsRecord xs) (sym (append-nil slot.disk))
      (λ k d within. subst IsRecord (get_or_append_left slot.disk pending d k within) (h k d (omega (arith, within, length-append slot.disk pending))))

  stays_by : (o : Option (List ℕ)) (pending : List Record) → IfSome o (λ held. on.clock.is_image disk held) → All IsRecord (slot.disk ++ pending)
      → IfSome o (λ _. MayHold on disk own slot.disk pending) → Stays o pending
  stays_by None pending image fit holds = record { kept = []; pending_is = inl refl; fit = first_fit pending fit; tells = tt }
  stays_by (Some held) pending image fit holds = ⊎_elim
      (λ is. record { kept = []; pending_is = inl refl; fit = first_fit pending fit; tells = subst (λ xs. IsJournal own held (payloads_of xs)) (sym (append-nil slot.disk)) is })
      (λ is. record { kept = pending; pending_is = inr refl; fit = fit; tells = is })
      (holds.images held image)

  -- the slot of a node that is lost
  pub record IsLostSo : Type 0 where
    pub kept : List Record
    pub pending_is : (kept ≡ []) ⊎ (kept ≡ plain.pending_of slot.life)
    pub alive : slot.life ≢ plain.Life.Lost
    pub goes : steps.life_fault (steps.Step.Lose own) slot.life ≡ None
    pub stands : SlotStands on own Lost disk (lost_with kept)

  lost_up : (node : WholeNode) → SlotStands on own (Up node) disk slot → IsLostSo
  lost_up node (seen, is, st) = record {
    kept = [];
    pending_is = inl refl;
    alive = λ lost. let never : plain.Life.Up seen ≡ plain.Life.Lost = sym is ∙ lost in cc;
    goes = ap (steps.life_fault (steps.Step.Lose own)) is;
    stands = (
      refl,
      subst (λ xs. All IsRecord xs) (sym (append-nil slot.disk)) st.keeps.fit,
      if_some (on.seen disk) _ _ (λ held ends. subst (λ xs. IsJournal own held (payloads_of xs)) (sym (append-nil slot.disk)) ends.journal) st.tells,
    );
  }

  lost_down : IfSome (on.seen disk) (λ held. on.clock.is_image disk held) → SlotStands on own Down disk slot → IsLostSo
  lost_down image (pending, is, fit, holds) =
      let s = stays_by (on.seen disk) pending image fit holds in
      record {
        kept = s.kept;
        pending_is = subst (λ xs. (s.kept ≡ []) ⊎ (s.kept ≡ xs)) (sym (ap plain.pending_of is)) s.pending_is;
        alive = λ lost. let never : plain.Life.Down pending ≡ plain.Life.Lost = sym is ∙ lost in cc;
        goes = ap (steps.life_fault (steps.Step.Lose own)) is;
        stands = (refl, s.fit, s.tells);
      }

  pub lost_so : (l : Life) → ((node : WholeNode) × (l ≡ Up node)) ⊎ (l ≡ Down) → IfSome (on.seen disk) (λ held. on.clock.is_image disk held) → SlotStands on own l disk slot → IsLostSo
  lost_so l here image stood = ⊎_elim
      (λ (node, up). lost_up node (subst (λ x. SlotStands on own x disk slot) up stood))
      (λ down. lost_down image (subst (λ x. SlotStands on own x disk slot) down stood))
      here

  pub lost_keeps : (l : Life) (kept : List Record) → (kept ≡ []) ⊎ (kept ≡ plain.pending_of slot.life) → slot.life ≢ plain.Life.Lost → SlotStands on own l disk slot
      → StopsKeep on own disk disk slot (lost_with kept)
  lost_keeps l kept may alive stood = record {
    kept = kept;
    pending_is = may;
    added = [];
    grew = refl;
    stops = if_some (on.seen disk) _ _ (λ _ images. record { later = omega arith; since = λ t c le was. inl was; now = images }) (images_stop on own l disk slot [] alive stood);
  }

module _ {D : Type 0} (on : View D) (n : ℕ) (old new : Nodes D) (book book' : Book) (fit : node_refusal old.plan (life_among old) (step.Lose n) ≡ None)
    (ch : ChangesNode n (IsTurnedTo Lost) old new) (image : (disk : D) → IfSome (on.seen disk) (λ held. on.clock.is_image disk held)) (flying : InFlight) (seconds : ℕ) where
  was_here : ((node : WholeNode) × (ch.life ≡ Up node)) ⊎ (ch.life ≡ Down)
  was_here = lose_here n ch.life (ap (life_refusal (step.Lose n)) (sym (ap seen_life ch.was)) ∙ (fit_of (list_all (is_node old.plan) (n ∷ [])) (life_refusal (step.Lose n) (life_among old n)) fit).1)

  lose_leads : entries_of book' ≡ entries_of book ++ written.Lost n ∷ [] → (w : machine.World) → StateStandsFor on (state_with old flying seconds book) w
      → LeadsMail on (Ok Done) (step.Lose n) (state_with old flying seconds book) (state_with new flying seconds book') w
  lose_leads wrote w st =
      let (slot, here, stood) = slot_of on old.lives.items old.disks.items w.slots n ch.life ch.disk st.slots ch.was ch.held in
      let so = lost_so on n ch.disk slot ch.life was_here (image ch.disk) stood in
      let turned_slot : Slot = record { life = plain.Life.Lost; disk = slot.disk ++ so.kept } in
      let stands' : SlotStands on n ch.life' ch.disk' turned_slot =
      subst (λ d. SlotStands on n ch.life' d turned_slot) (sym ch.does.1) (subst (λ l. SlotStands on n l ch.disk turned_slot) (sym ch.does.0) so.stands) in
      let kept : StopsKeep on n ch.disk ch.disk' slot turned_slot =
      subst (λ d. StopsKeep on n ch.disk d slot turned_slot) (sym ch.does.1) (lost_keeps on n ch.disk slot ch.life so.kept so.pending_is so.alive stood) in
      led on (Ok Done) (step.Lose n) (state_with old flying seconds book) (state_with new flying seconds book') (even_of old) (even_of new) w st (record { step_is = refl; said_is = refl; sees = tt }) (λ v seen sound done. tt) (record {
        next = record w { slots = plain.with_slot w.slots n turned_slot; book = w.book ++ entries_seen (written.Lost n ∷ []) };
        stands = stands_now n (IsTurnedTo Lost) old new ch on flying seconds book book' (entries_seen (written.Lost n ∷ []))
            (ap entries_seen wrote ∙ entries_more (entries_of book) (written.Lost n ∷ [])) w st turned_slot stands';
        made = (
          lose_goes old.plan w n slot (fit_of (list_all (is_node old.plan) (n ∷ [])) (life_refusal (step.Lose n) (life_among old n)) fit).0 here so.goes,
          record { slot = slot; here = here; was = so.alive; kept = so.kept; pending_is = so.pending_is; said_is = refl; new_world = refl },
        );
        stops = record { each = stops_kept n (IsTurnedTo Lost) old new ch on w.slots slot turned_slot st.slots here (λ _. kept) };
        follow = fall_follows on n (IsTurnedTo Lost) old new ch w.slots slot turned_slot here (λ b up. let never : Lost ≡ Up b = sym ch.does.0 ∙ up in cc);
      })

  pub lose_did : entries_of book' ≡ entries_of book ++ written.Lost n ∷ [] → StepDid on (Ok Done) (step.Lose n) (state_with old flying seconds book) (state_with new flying seconds book')
  lose_did wrote = record {
    plan = ch.plan;
    handed = as_many n (IsTurnedTo Lost) old new ch;
    refused = sym fit;
    kind = tt;
    falls = tt;
    lives = λ m. lives_turned n (IsTurnedTo Lost) old new ch m ∙ ap (λ l. turned n (life_seen l) m (life_among old m)) ch.does.0;
    told = told_by n (IsTurnedTo Lost) old new ch flying flying seconds seconds book book' on.seen (ap (λ d. is_some (on.seen d)) ch.does.1);
    quiet = quiet_by n (IsTurnedTo Lost) old new ch flying flying seconds seconds book book' on.faults
        (subst (λ d. on.faults ch.disk ≤ on.faults d) (sym ch.does.1) (omega arith))
        (λ boot up. absurd (let never : life.Lost ≡ life.Up boot = sym (ap life_seen ch.does.0) ∙ up in cc));
    clock = refl;
    passed = tt;
    books = longer_by book book' (written.Lost n ∷ []) wrote;
    kept = tt;
    leads = λ known ended. lift on _ _ _ _ (even_of old) (even_of new) tt (λ v stands done. tt)
        (alone_keeps n (IsTurnedTo Lost) old new ch (λ b up. absurd (let never : Lost ≡ Up b = sym ch.does.0 ∙ up in cc))) (lose_leads wrote);
    cause = λ w st. tt;
  }
