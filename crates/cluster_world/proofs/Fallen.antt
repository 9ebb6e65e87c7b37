-- What the steps do that stop a node or lose it.
use Rattle.std.proofs.Common.{◌≡◌, ◌≢◌, ◌⊎◌, ⊎_elim, ℕ, zero, suc, ◌+◌, ◌<◌, ◌≤◌, true, List, [], ◌∷◌, ◌++◌, Option, Some, None, Ok, refl, sym, ap, ◌∙◌, subst, arith}
use Rattle.std.specs.Prelude.{slice_get}
use Rattle.std.specs.List.{list_all}
use Rattle.mail_model.specs.Record.{Record}
use Rattle.mail_model.specs.Plan.{Plan}
use Rattle.session_model.specs.Events.{NodeLife, NodeLife as life, turned}
use Rattle.cluster_model.specs.Cluster as plain
use Rattle.cluster_model.specs.Cluster.{Slot}
use Rattle.cluster_model.specs.World as machine
use Rattle.cluster_model.specs.Steps as steps
use Rattle.cluster_model.specs.Steps.{is_node}
use Rattle.node_store.specs.Disks.{View}
use Rattle.whole_node.specs.declared.node.WholeNode.{WholeNode}
use Rattle.world_book.specs.Books.{entries_of, spare_of}
use Rattle.world_book.specs.declared.book.Book.{Book}
use Rattle.world_book.specs.declared.entry.Entry.TheVariants as written
use Rattle.cluster_world.specs.Flights.{InFlight}
use Rattle.cluster_world.specs.Lives.{life_seen, of_node, falls_left, all_falls_left, CanWorkOn}
use Rattle.cluster_world.specs.Stands.{SlotStands}
use Rattle.cluster_world.specs.Worlds.{seen_life, life_among, state_with, StateStandsFor}
use Rattle.cluster_world.specs.Changes.{ChangesNode, IsTurnedTo}
use Rattle.cluster_world.specs.Turns.{life_refusal, node_refusal}
use Rattle.cluster_world.specs.Steps.{StepDid, AreSettled, LeadsMail}
use Rattle.cluster_world.specs.declared.life.Life.{Life}
use Rattle.cluster_world.specs.declared.life.Life.TheVariants.{Up, Down, Lost}
use Rattle.cluster_world.specs.declared.nodes.Nodes.{Nodes}
use Rattle.cluster_world.specs.declared.step.Step.TheVariants as step
use Rattle.cluster_world.specs.declared.step.Said.TheVariants.{Done}
use Rattle.cluster_world.proofs.Still.{some_same}
use Rattle.cluster_world.proofs.Turned.{slot_of, lives_turned, as_many, told_by, quiet_by, settled_by, still_ready, falls_now}
use Rattle.cluster_world.proofs.Refusing.{fit_of, crash_goes}
use Rattle.cluster_world.proofs.Falling.{crash_up, lose_here, fallen, fall_told, fall_leads}
use Rattle.cluster_world.proofs.Longer.{longer_by}
use Rattle.cluster_world.proofs.Follows.{MapsFollow, fall_follows}
use Rattle.cluster_world.proofs.Wholly.{led, even_of}
use Rattle.cluster_world.proofs.Lifting.{lift}
use Rattle.cluster_world.proofs.Beside.{alone_keeps}

-- a node that is up is not lost
up_alive : (slot : Slot) (seen : plain.Node) → slot.life ≡ plain.Life.Up seen → slot.life ≢ plain.Life.Lost
up_alive slot seen is lost = cc

down_alive : (slot : Slot) (pending : List Record) → slot.life ≡ plain.Life.Down pending → slot.life ≢ plain.Life.Lost
down_alive slot pending is lost = cc

life_within : (xs : List Life) (n : ℕ) (x : Life) → of_node xs n ≡ Some x → falls_left x ≤ all_falls_left xs
life_within xs zero x e = absurd (let never : None ≡ Some x = e in cc)
life_within xs (suc k) x e = at xs k e
  where
    at : (xs : List Life) (k : ℕ) → slice_get xs k ≡ Some x → falls_left x ≤ all_falls_left xs
    at [] k e = absurd (let never : None ≡ Some x = e in cc)
    at (y ∷ xs) zero e = omega (arith, ap falls_left (some_same y x e))
    at (y ∷ xs) (suc k) e = omega (arith, at xs k e)

crash_fits : (plan : Plan) (lives : ℕ → NodeLife) (n : ℕ) → node_refusal plan lives (step.Crash n) ≡ None → life_refusal (step.Crash n) (lives n) ≡ None
crash_fits plan lives n fit = (fit_of (list_all (is_node plan) (n ∷ [])) (life_refusal (step.Crash n) (lives n)) fit).1

lose_fits : (plan : Plan) (lives : ℕ → NodeLife) (n : ℕ) → node_refusal plan lives (step.Lose n) ≡ None → life_refusal (step.Lose n) (lives n) ≡ None
lose_fits plan lives n fit = (fit_of (list_all (is_node plan) (n ∷ [])) (life_refusal (step.Lose n) (lives n)) fit).1

-- there is room for one entry
pub crash_spare : {D : Type 0} (n : ℕ) (old new : Nodes D) (book : Book) → node_refusal old.plan (life_among old) (step.Crash n) ≡ None → ChangesNode n (IsTurnedTo Down) old new
    → all_falls_left old.lives.items ≤ spare_of book → 0 < spare_of book
crash_spare n old new book fit ch room =
    let fits : life_refusal (step.Crash n) (life_among old n) ≡ None = crash_fits old.plan (life_among old) n fit in
    let (node, up) = crash_up n ch.life (ap (life_refusal (step.Crash n)) (sym (ap seen_life ch.was)) ∙ fits) in
    omega (arith, room, life_within old.lives.items n ch.life ch.was, ap falls_left up)

pub lose_spare : {D : Type 0} (n : ℕ) (old new : Nodes D) (book : Book) → node_refusal old.plan (life_among old) (step.Lose n) ≡ None → ChangesNode n (IsTurnedTo Lost) old new
    → all_falls_left old.lives.items ≤ spare_of book → 0 < spare_of book
lose_spare n old new book fit ch room = ⊎_elim
    (λ (node, up). omega (arith, room, life_within old.lives.items n ch.life ch.was, ap falls_left up))
    (λ down. omega (arith, room, life_within old.lives.items n ch.life ch.was, ap falls_left down))
    (lose_here n ch.life (ap (life_refusal (step.Lose n)) (sym (ap seen_life ch.was)) ∙ lose_fits old.plan (life_among old) n fit))

module _ {D : Type 0} (on : View D) (n : ℕ) (old new : Nodes D) (book book' : Book) (fit : node_refusal old.plan (life_among old) (step.Crash n) ≡ None) where
  named : list_all (is_node old.plan) (n ∷ []) ≡ true
  named = (fit_of _ _ fit).0

  module _ (ch : ChangesNode n (IsTurnedTo Down) old new) where
    was_up : (node : WholeNode) × (ch.life ≡ Up node)
    was_up = crash_up n ch.life (ap (life_refusal (step.Crash n)) (sym (ap seen_life ch.was)) ∙ (fit_of _ _ fit).1)

    pub crash_room : spare_of book' + 1 ≡ spare_of book → all_falls_left old.lives.items ≤ spare_of book → all_falls_left new.lives.items ≤ spare_of book'
    crash_room spare room =
        let less : all_falls_left new.lives.items + 2 ≡ all_falls_left old.lives.items + 1 =
        subst (λ k. all_falls_left new.lives.items + k ≡ all_falls_left old.lives.items + 1) (ap falls_left was_up.1)
        (subst (λ k. all_falls_left new.lives.items + falls_left ch.life ≡ all_falls_left old.lives.items + k) (ap falls_left ch.does.0) (falls_now n (IsTurnedTo Down) old new ch)) in
        omega (arith, less)

    pub crash_ready : (seen : D → Option (List ℕ)) → CanWorkOn seen old.plan old.lives.items old.disks.items → CanWorkOn seen new.plan new.lives.items new.disks.items
    crash_ready seen works = subst (λ p. CanWorkOn seen p new.lives.items new.disks.items) (sym ch.plan)
        (still_ready n (IsTurnedTo Down) old new ch seen old.plan works (λ node up. absurd (let never : Down ≡ Up node = sym ch.does.0 ∙ up in cc)))

    module _ (flying : InFlight) (seconds : ℕ) where
      pub crash_settled : (is_settled : D → Type 0) → AreSettled is_settled (state_with old flying seconds book) → AreSettled is_settled (state_with new flying seconds book')
      crash_settled is_settled = settled_by n (IsTurnedTo Down) old new ch flying flying seconds seconds book book' is_settled
          (λ boot up _. absurd (let never : life.Down ≡ life.Up boot = sym (ap life_seen ch.does.0) ∙ up in cc))

      pub crash_did : entries_of book' ≡ entries_of book ++ written.Down n ∷ [] → StepDid on (Ok Done) (step.Crash n) (state_with old flying seconds book) (state_with new flying seconds book')
      crash_did wrote = record {
        plan = ch.plan;
        handed = as_many n (IsTurnedTo Down) old new ch;
        refused = sym fit;
        kind = tt;
        falls = tt;
        lives = λ m. lives_turned n (IsTurnedTo Down) old new ch m ∙ ap (λ l. turned n (life_seen l) m (life_among old m)) ch.does.0;
        told = told_by n (IsTurnedTo Down) old new ch flying flying seconds seconds book book' on.seen (fall_told on n Down (plain.Life.Down []) refl old new ch flying seconds book book' on.seen);
        quiet = quiet_by n (IsTurnedTo Down) old new ch flying flying seconds seconds book book' on.faults
            (subst (λ d. on.faults ch.disk ≤ on.faults d) (sym ch.does.1) (omega arith))
            (λ boot up. absurd (let never : life.Down ≡ life.Up boot = sym (ap life_seen ch.does.0) ∙ up in cc));
        clock = refl;
        passed = tt;
        books = longer_by book book' (written.Down n ∷ []) wrote;
        kept = tt;
        leads = λ known ended. lift on _ _ _ _ (even_of old) (even_of new) tt (λ v stands done. tt)
            (alone_keeps n (IsTurnedTo Down) old new ch (λ b up. absurd (let never : Down ≡ Up b = sym ch.does.0 ∙ up in cc))) (crash_leads wrote);
        cause = λ w st. tt;
      }
        where
          crash_leads : entries_of book' ≡ entries_of book ++ written.Down n ∷ [] → (w : machine.World) → StateStandsFor on (state_with old flying seconds book) w
              → LeadsMail on (Ok Done) (step.Crash n) (state_with old flying seconds book) (state_with new flying seconds book') w
          crash_leads wrote w st =
              let (slot, here, stood) = slot_of on old.lives.items old.disks.items w.slots n ch.life ch.disk st.slots ch.was ch.held in
              let (node, up) = was_up in
              let ((seen, is), fits, holds) = fallen on n ch.disk slot node (subst (λ l. SlotStands on n l ch.disk slot) up stood) in
              let (next, stands, made, stops) = fall_leads on n Down (plain.Life.Down []) refl old new ch flying seconds book book' steps.Said.Finished (step.Crash n) (written.Down n) wrote w st slot here (up_alive slot seen is) stood ([], refl, fits, holds) in
              led on (Ok Done) (step.Crash n) (state_with old flying seconds book) (state_with new flying seconds book') (even_of old) (even_of new) w st (record { step_is = refl; said_is = refl; sees = tt }) (λ v same sound done. tt) (record {
                next = next;
                stands = stands;
                made = (crash_goes old.plan w n slot named here seen is, record { slot = slot; here = here; was = up_alive slot seen is; said_is = refl; new_world = made });
                stops = stops;
                follow = subst (λ (x : machine.World). MapsFollow old.lives.items new.lives.items w.slots x.slots) (sym made)
                    (fall_follows on n (IsTurnedTo Down) old new ch w.slots slot (record slot { life = plain.Life.Down [] }) here (λ b up'. let never : Down ≡ Up b = sym ch.does.0 ∙ up' in cc));
              })

module _ {D : Type 0} (on : View D) (n : ℕ) (old new : Nodes D) (book book' : Book) (fit : node_refusal old.plan (life_among old) (step.Lose n) ≡ None) where
  module _ (ch : ChangesNode n (IsTurnedTo Lost) old new) where
    was_here : ((node : WholeNode) × (ch.life ≡ Up node)) ⊎ (ch.life ≡ Down)
    was_here = lose_here n ch.life (ap (life_refusal (step.Lose n)) (sym (ap seen_life ch.was)) ∙ (fit_of _ _ fit).1)

    some_left : 1 ≤ falls_left ch.life
    some_left = ⊎_elim (λ (node, up). omega (arith, ap falls_left up)) (λ down. omega (arith, ap falls_left down)) was_here

    pub lose_room : spare_of book' + 1 ≡ spare_of book → all_falls_left old.lives.items ≤ spare_of book → all_falls_left new.lives.items ≤ spare_of book'
    lose_room spare room =
        let less : all_falls_left new.lives.items + falls_left ch.life ≡ all_falls_left old.lives.items + 0 =
        subst (λ k. all_falls_left new.lives.items + falls_left ch.life ≡ all_falls_left old.lives.items + k) (ap falls_left ch.does.0) (falls_now n (IsTurnedTo Lost) old new ch) in
        omega (arith, less, some_left)

    pub lose_ready : (seen : D → Option (List ℕ)) → CanWorkOn seen old.plan old.lives.items old.disks.items → CanWorkOn seen new.plan new.lives.items new.disks.items
    lose_ready seen works = subst (λ p. CanWorkOn seen p new.lives.items new.disks.items) (sym ch.plan)
        (still_ready n (IsTurnedTo Lost) old new ch seen old.plan works (λ node up. absurd (let never : Lost ≡ Up node = sym ch.does.0 ∙ up in cc)))

    module _ (flying : InFlight) (seconds : ℕ) where
      pub lose_settled : (is_settled : D → Type 0) → AreSettled is_settled (state_with old flying seconds book) → AreSettled is_settled (state_with new flying seconds book')
      lose_settled is_settled = settled_by n (IsTurnedTo Lost) old new ch flying flying seconds seconds book book' is_settled
          (λ boot up _. absurd (let never : life.Lost ≡ life.Up boot = sym (ap life_seen ch.does.0) ∙ up in cc))
