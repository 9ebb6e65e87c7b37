-- A node that only read its disk, and is as it was; or that goes down after it.
use Rattle.std.proofs.Common.{◌≡◌, ◌≢◌, inl, inr, ℕ, List, [], ◌++◌, append-nil, All, Option, Some, refl, sym, ap, ◌∙◌, subst, arith}
use Rattle.std.specs.Prelude.{is_some}
use Rattle.mail_model.specs.Record.{payloads_of}
use Rattle.mail_model.specs.Grammar.{IsRecord}
use Rattle.cluster_model.specs.Cluster as plain
use Rattle.cluster_model.specs.Cluster.{Slot, slot_at}
use Rattle.cluster_model.specs.Deeds.{slot_up}
use Rattle.cluster_model.specs.Rules.{idle}
use Rattle.cluster_model.specs.World as machine
use Rattle.disk_journal.specs.Journal.{TellsJournal, EndsAt}
use Rattle.node_store.specs.Disks.{View}
use Rattle.node_core.specs.Nodes.{node_seen, end_in, IsAsBefore}
use Rattle.node_core.specs.Starting.{MayHold}
use Rattle.node_core.specs.Works.{IsOnlyRead}
use Rattle.whole_node.specs.declared.node.WholeNode.{WholeNode}
use Rattle.world_book.specs.declared.book.Book.{Book}
use Rattle.cluster_world.specs.Books.{booked_by}
use Rattle.cluster_world.specs.Changes.{ChangesNode}
use Rattle.cluster_world.specs.Flights.{InFlight}
use Rattle.cluster_world.specs.Missing.{OnlyTickets}
use Rattle.cluster_world.specs.Moments.{IsStopOf, StopsKeep}
use Rattle.cluster_world.specs.Stands.{SlotStands}
use Rattle.cluster_world.specs.Steps.{EveryStopKeeps}
use Rattle.cluster_world.specs.Worlds.{WorldState, state_with, StateStandsFor}
use Rattle.cluster_world.specs.declared.life.Life.{Life}
use Rattle.cluster_world.specs.declared.life.Life.TheVariants.{Up, Down}
use Rattle.cluster_world.specs.declared.nodes.Nodes.{Nodes}
use Rattle.cluster_world.proofs.Still.{if_some, images_stop}
use Rattle.cluster_world.proofs.Worked.{passed, if_told}
use Rattle.cluster_world.proofs.Asked.{slot_same}
use Rattle.cluster_world.proofs.Falling.{fallen}
use Rattle.cluster_world.proofs.Kept.{kept_at}
use Rattle.cluster_world.proofs.AfterWork.{work_stands, work_stops, up_slot, CutSlot}

up_alive : (slot : Slot) (seen : plain.Node) → slot.life ≡ plain.Life.Up seen → slot.life ≢ plain.Life.Lost
up_alive slot seen is lost = cc

module _ {D : Type 0} (on : View D) (n : ℕ) (a : WholeNode) (before after : D) (read : IsOnlyRead on before after) (slot : Slot) (stood : SlotStands on n (Up a) before slot) where
  alive : slot.life ≢ plain.Life.Lost
  alive = up_alive slot stood.0 stood.1

  -- the slot stands as it did
  pub read_slot : (b : WholeNode) → IsAsBefore a.mail b.mail → SlotStands on n (Up b) after slot
  read_slot b same =
      let (seen, life_is, st) = stood in (
        seen,
        life_is,
        record {
          seen_is = same.seen ∙ st.seen_is;
          keeps = same.keeps slot.disk st.keeps;
          tells = subst (λ (o : Option (List ℕ)). TellsJournal o n (payloads_of slot.disk) (end_in b.mail)) (sym read.seen)
              (subst (λ e. TellsJournal (on.seen before) n (payloads_of slot.disk) e) (sym same.end_is) st.tells);
          images = if_told (on.seen before) (on.seen after) _ (ap (λ (o : Option (List ℕ)). is_some o) read.seen)
              (if_some (on.seen before) _ _ (λ _ images d image. subst (λ e. EndsAt n d (payloads_of slot.disk) e) (sym same.end_is) (images d (read.images.now d image))) st.images);
        },
      )

  -- a stop leaves it
  pub read_keeps : StopsKeep on n before after slot slot
  read_keeps = record {
    kept = plain.pending_of slot.life;
    pending_is = inr refl;
    added = [];
    grew = sym (append-nil (slot.disk ++ plain.pending_of slot.life));
    stops = if_some (on.seen before) _ _ (λ _ images. passed on.clock before after (on.clock.is_image before) (IsStopOf n slot []) images read.images) (images_stop on n (Up a) before slot [] alive stood);
  }

  -- as it goes down it has no record more
  abbrev pub down_slot : Slot
  down_slot = record { life = plain.Life.Down []; disk = slot.disk ++ [] }

  pub read_down : SlotStands on n Down after down_slot
  read_down =
      let (_, fit, holds) = fallen on n before slot a stood in
      let more : All IsRecord ((slot.disk ++ []) ++ []) = subst (λ xs. All IsRecord xs) (sym (append-nil (slot.disk ++ []))) fit in (
        [],
        refl,
        more,
        if_told (on.seen before) (on.seen after) _ (ap (λ (o : Option (List ℕ)). is_some o) read.seen) (if_some (on.seen before) _ _ (λ _ (h : MayHold on before n slot.disk []).
            subst (λ xs. MayHold on after n xs []) (sym (append-nil slot.disk)) (record { images = λ d image. h.images d (read.images.now d image); fit = fit })) holds),
      )

  pub read_cut : StopsKeep on n before after slot down_slot
  read_cut = record {
    kept = [];
    pending_is = inl refl;
    added = [];
    grew = refl;
    stops = if_some (on.seen before) _ _ (λ _ images. passed on.clock before after (on.clock.is_image before) (IsStopOf n slot []) images read.images) (images_stop on n (Up a) before slot [] alive stood);
  }

module _ {D : Type 0} (on : View D) (n : ℕ) (P : Life → D → Life → D → Type 0) (old mid new : Nodes D) (ch : ChangesNode n P old mid) (only : OnlyTickets on (λ slots. slots) mid new) (a : WholeNode)
    (was : ch.life ≡ Up a) (read : IsOnlyRead on ch.disk ch.disk') (flying flying' : InFlight) (seconds : ℕ) (book book' : Book) where
  abbrev start : WorldState D
  start = state_with old flying seconds book

  abbrev final : WorldState D
  final = state_with new flying' seconds book'

  module _ (b : WholeNode) (is : ch.life' ≡ Up b) (same : IsAsBefore a.mail b.mail) (flies : flying' ≡ flying) (w : machine.World) (st : StateStandsFor on start w) (booked : booked_by book' ≡ w.book) where
    -- the world stands for the same world of the machine
    pub read_stands : StateStandsFor on final w
    read_stands =
        let (slot, here, stood) = up_slot on n P old mid new ch (λ x d. idle x d) a was flying flying' seconds book book' w st in
        subst (λ slots. StateStandsFor on final (record w { slots = slots })) (slot_same w.slots n slot here)
        (work_stands on n P old mid new ch (λ slots. slots) only flying flying' seconds book book' w st slot
        (subst (λ l. SlotStands on n l ch.disk' slot) (sym is) (read_slot on n a ch.disk ch.disk' read slot stood b same))
        w.flying (ap (λ (x : InFlight). x.flights) flies ∙ st.flying) w.sent (ap (λ (x : InFlight). x.sent) flies ∙ st.sent) w.book booked)

    pub read_stops : EveryStopKeeps on start final w.slots w.slots
    read_stops =
        let (slot, here, stood) = up_slot on n P old mid new ch (λ x d. idle x d) a was flying flying' seconds book book' w st in
        work_stops on n P old mid new ch (λ slots. slots) only flying flying' seconds book book' w.slots w.slots slot slot st.slots here (read_keeps on n a ch.disk ch.disk' read slot stood)
        (λ m. ap (λ (xs : List Slot). kept_at (slot_at xs m)) (sym (slot_same w.slots n slot here)))

  -- the node goes down after it, with no record more
  pub record FellIdle (w : machine.World) : Type 0 where
    pub cut : CutSlot on n P old mid new ch (λ x d. idle x d) a was flying flying' seconds book book' w
    pub front_is : cut.front ≡ []
    pub pending_is : cut.pending ≡ []

  pub read_fell : (w : machine.World) → StateStandsFor on start w → FellIdle w
  read_fell w st =
      let (slot, here, stood) = up_slot on n P old mid new ch (λ x d. idle x d) a was flying flying' seconds book book' w st in
      let (seen, life_is, s) = stood in
      let whole : slot ≡ slot_up (node_seen a.mail) slot.disk = ap (λ l. record { life = l; disk = slot.disk }) (life_is ∙ ap plain.Life.Up (sym s.seen_is)) in
      record {
        cut = record {
          node = node_seen a.mail;
          disk = slot.disk;
          up = here ∙ ap Some whole;
          node_is = refl;
          front = [];
          pending = [];
          one = omega arith;
          cut = record { missing = []; is = sym (append-nil slot.disk) };
          stands = read_down on n a ch.disk ch.disk' read slot stood;
          keeps = subst (λ x. StopsKeep on n ch.disk ch.disk' x (record { life = plain.Life.Down []; disk = slot.disk ++ [] })) whole (read_cut on n a ch.disk ch.disk' read slot stood);
        };
        front_is = refl;
        pending_is = refl;
      }
