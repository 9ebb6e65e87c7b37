-- A start, and other changes of one node, in the whole world.
use Rattle.std.proofs.Common.{◌≡◌, ◌≢◌, ◌⊎◌, ⊎_elim, ℕ, zero, suc, ◌+◌, ◌≤◌, Bool, List, [], ◌∷◌, ◌++◌, map, Option, Some, None, Ok, Err, refl, sym, ap, ◌∙◌, subst}
use Rattle.std.specs.Prelude.{slice_get, slice_set}
use Rattle.std.specs.Option.{option_map}
use Rattle.mail_model.specs.Plan.{Plan}
use Rattle.mail_model.specs.Record.{Record}
use Rattle.mail_model.specs.Record.Record.{Boot}
use Rattle.mail_model.specs.Book.{BookEntry}
use Rattle.mail_model.specs.Book.BookEntry.{CameUp, WentDown}
use Rattle.mail_model.proofs.Sessions.{get_set, get_set_other}
use Rattle.cluster_model.specs.Cluster as plain
use Rattle.cluster_model.specs.Claims.{boot_of}
use Rattle.cluster_model.specs.Deeds as mail_deeds
use Rattle.cluster_model.specs.Starts.{StopsStart}
use Rattle.cluster_model.specs.Steps as mail_steps
use Rattle.cluster_model.specs.World as machine
use Rattle.whole_model.specs.Whole as whole
use Rattle.whole_model.specs.Whole.{mail_life, mail_slot}
use Rattle.whole_world.specs.Makes as whole_makes
use Rattle.whole_world.specs.Makes.{started}
use Rattle.whole_world.specs.Steps as whole_steps
use Rattle.whole_world.specs.World as whole_world
use Rattle.whole_world.specs.World.{mail_world_of}
use Rattle.whole_world.proofs.Along.{unseen_at}
use Rattle.whole_world.proofs.Seeing.{mail_set}
use Rattle.node_maps.specs.Nodes.{node_of}
use Rattle.whole_node.specs.Nodes.{whole_seen}
use Rattle.whole_node.specs.declared.node.WholeNode.{WholeNode}
use Rattle.cluster_world.specs.Changes.{ChangesNode}
use Rattle.cluster_world.specs.Lives.{of_node}
use Rattle.cluster_world.specs.Maps.{AreMaps}
use Rattle.cluster_world.specs.Steps.{LeadsWhole}
use Rattle.cluster_world.specs.declared.fault.StepFault.TheVariants as fault
use Rattle.cluster_world.specs.declared.life.Life.{Life}
use Rattle.cluster_world.specs.declared.life.Life.TheVariants.{Up}
use Rattle.cluster_world.specs.declared.nodes.Nodes.{Nodes}
use Rattle.cluster_world.specs.declared.step.Said.TheVariants as said
use Rattle.cluster_world.specs.declared.step.Step.TheVariants as step
use Rattle.cluster_world.proofs.Still.{some_same}
use Rattle.cluster_world.proofs.Turned.{same_or, life_there, life_else}

pub whole_same : (slots : List whole.Slot) (n : ℕ) (x y : whole.Slot) → whole.slot_at slots n ≡ Some x → whole.slot_at (whole.with_slot slots n y) n ≡ Some y
whole_same slots zero x y e = absurd (let never : None ≡ Some x = e in cc)
whole_same slots (suc k) x y e = get_set slots k x y e

pub whole_other : (slots : List whole.Slot) (n m : ℕ) (y : whole.Slot) → m ≢ n → whole.slot_at (whole.with_slot slots n y) m ≡ whole.slot_at slots m
whole_other slots zero m y h = refl
whole_other slots (suc k) zero y h = refl
whole_other slots (suc k) (suc j) y h = get_set_other slots k j y (λ e. h (ap suc e))

-- a life that messages see down is down
down_life : (life : whole.Life) (pending : List Record) → mail_life life ≡ plain.Life.Down pending → life ≡ whole.Life.Down pending
down_life (whole.Life.Up node) pending e = absurd (let never : plain.Life.Up node.mail ≡ plain.Life.Down pending = e in cc)
down_life (whole.Life.Down other) pending e = let same : plain.Life.Down other ≡ plain.Life.Down pending = e in cc
down_life whole.Life.Lost pending e = absurd (let never : plain.Life.Lost ≡ plain.Life.Down pending = e in cc)

-- the slot of a node that is down
pub down_here : (v : whole_world.World) (w : machine.World) → mail_world_of v ≡ w → (n : ℕ) (pending disk : List Record) → plain.slot_at w.slots n ≡ Some (record { life = plain.Life.Down pending; disk = disk })
    → whole.slot_at v.slots n ≡ Some (record { life = whole.Life.Down pending; disk = disk })
down_here v w seen n pending disk here =
    let (s, there, is) = unseen_at v.slots n (record { life = plain.Life.Down pending; disk = disk }) (ap (λ (x : machine.World). plain.slot_at x.slots n) seen ∙ here) in
    let life_is : s.life ≡ whole.Life.Down pending = down_life s.life pending (ap (λ (x : plain.Slot). x.life) is) in
    let disk_is : s.disk ≡ disk = ap (λ (x : plain.Slot). x.disk) is in
    there ∙ ap (λ l. Some (record { life = l; disk = s.disk })) life_is ∙ ap (λ d. Some (record { life = whole.Life.Down pending; disk = d })) disk_is

-- messages see a slot that was written
pub seen_put : (v : whole_world.World) (w : machine.World) → mail_world_of v ≡ w → (n : ℕ) (slot : whole.Slot) (entries : List BookEntry)
    → mail_world_of (record v { slots = whole.with_slot v.slots n slot; book = v.book ++ entries }) ≡ record w { slots = plain.with_slot w.slots n (mail_slot slot); book = w.book ++ entries }
seen_put v w seen n slot entries =
    ap (λ (xs : List plain.Slot). record (mail_world_of v) { slots = xs; book = v.book ++ entries }) (mail_set v.slots n slot)
    ∙ ap (λ (x : machine.World). record x { slots = plain.with_slot x.slots n (mail_slot slot); book = x.book ++ entries }) seen

module _ {D : Type 0} (n : ℕ) (P : Life → D → Life → D → Type 0) (old new : Nodes D) (ch : ChangesNode n P old new) (v : whole_world.World) (maps : AreMaps old.lives.items v.slots) where
  -- the slot of the node that was changed is written
  pub put_maps : (slot slot' : whole.Slot) → whole.slot_at v.slots n ≡ Some slot → ((node : WholeNode) (a : whole.Node) → ch.life' ≡ Up node → slot'.life ≡ whole.Life.Up a → a.maps ≡ node_of node.maps)
      → AreMaps new.lives.items (whole.with_slot v.slots n slot')
  put_maps slot slot' here own = record {
    each = λ m node s a up there is. ⊎_elim
        (λ (same : m ≡ n).
        let now : ch.life' ≡ Up node = some_same ch.life' (Up node) (sym (life_there n P old new ch) ∙ ap (of_node new.lives.items) (sym same) ∙ up) in
        let s_is : slot' ≡ s = some_same slot' s (sym (whole_same v.slots n slot slot' here) ∙ ap (whole.slot_at (whole.with_slot v.slots n slot')) (sym same) ∙ there) in
        own node a now (ap (λ (x : whole.Slot). x.life) s_is ∙ is))
        (λ (other : m ≢ n). maps.each m node s a (sym (life_else n P old new ch m other) ∙ up) (sym (whole_other v.slots n m slot' other) ∙ there) is)
        (same_or m n);
  }

  -- and no slot, where it is not up afterwards
  pub fall_maps : ((node : WholeNode) → ch.life' ≡ Up node → ⊥) → AreMaps new.lives.items v.slots
  fall_maps never = record {
    each = λ m node s a up there is. ⊎_elim
        (λ (same : m ≡ n). absurd (never node (some_same ch.life' (Up node) (sym (life_there n P old new ch) ∙ ap (of_node new.lives.items) (sym same) ∙ up))))
        (λ (other : m ≢ n). maps.each m node s a (sym (life_else n P old new ch m other) ∙ up) there is)
        (same_or m n);
  }

  module _ (plan : Plan) (tells : Bool) (w : machine.World) (seen : mail_world_of v ≡ w) (disk pending : List Record) (here : plain.slot_at w.slots n ≡ Some (record { life = plain.Life.Down pending; disk = disk })) where
    there : whole.slot_at v.slots n ≡ Some (record { life = whole.Life.Down pending; disk = disk })
    there = down_here v w seen n pending disk here

    goes_too : mail_steps.step_fault plan (mail_steps.Step.Start n) w ≡ None → whole_steps.step_fault plan (whole_steps.Step.OfMessages (mail_steps.Step.Start n)) v ≡ None
    goes_too goes = ap (option_map whole_steps.StepFault.Fault) (ap (mail_steps.step_fault plan (mail_steps.Step.Start n)) seen ∙ goes)

    -- It is up.
    pub start_comes : (node : WholeNode) (kept records : List Record) (boot : ℕ) → ch.life' ≡ Up node → (kept ≡ []) ⊎ (kept ≡ pending) → records ≡ (disk ++ kept) ++ Boot (boot_of (disk ++ kept) + 1) ∷ []
        → whole_seen node ≡ started n plan.nodes (disk ++ kept) records → boot ≡ boot_of (disk ++ kept) + 1 → boot_of (disk ++ kept) + 1 ≤ mail_steps.greatest_boot
        → mail_steps.step_fault plan (mail_steps.Step.Start n) w ≡ None
        → LeadsWhole plan tells (Ok (said.NodeUp boot)) (step.Start n) new.lives.items v (record w { slots = plain.with_slot w.slots n (mail_deeds.slot_up (whole_seen node).mail records); book = w.book ++ CameUp n boot ∷ [] })
    start_comes node kept records boot up may records_are starts boot_is small goes = record {
      now = record v { slots = whole.with_slot v.slots n (whole_world.slot_up (whole_seen node) records); book = v.book ++ CameUp n boot ∷ [] };
      seen = seen_put v w seen n (whole_world.slot_up (whole_seen node) records) (CameUp n boot ∷ []);
      maps = put_maps (record { life = whole.Life.Down pending; disk = disk }) (whole_world.slot_up (whole_seen node) records) there (λ one a is life_is.
          ap (λ (x : whole.Node). x.maps) (up_whole a (whole_seen node) (sym life_is)) ∙ ap (λ (x : WholeNode). node_of x.maps) (up_one node one (sym up ∙ is)));
      made = (
        goes_too goes,
        whole_makes.DoesStep.Starts n refl (whole_makes.StartsUp.Comes disk pending kept there may small
            (ap (λ b. whole_steps.Said.Told (mail_steps.Said.NodeUp b)) boot_is) records records_are
            (ap (λ b. record v { slots = whole.with_slot v.slots n (whole_world.slot_up (whole_seen node) records); book = v.book ++ CameUp n b ∷ [] }) boot_is
            ∙ ap (λ x. record v { slots = whole.with_slot v.slots n (whole_world.slot_up x records); book = v.book ++ CameUp n (boot_of (disk ++ kept) + 1) ∷ [] }) starts)),
      );
    }
      where
        up_one : (x y : WholeNode) → Up x ≡ Up y → x ≡ y
        up_one x y e = cc

        up_whole : (x y : whole.Node) → whole.Life.Up x ≡ whole.Life.Up y → x ≡ y
        up_whole x y e = cc

    module _ (next records : List Record) (stops : StopsStart disk pending next records) (never : (node : WholeNode) → ch.life' ≡ Up node → ⊥) where
      abbrev fell : whole.Slot
      fell = record { life = whole.Life.Down next; disk = records }

      fell_maps : AreMaps new.lives.items (whole.with_slot v.slots n fell)
      fell_maps = put_maps (record { life = whole.Life.Down pending; disk = disk }) fell there (λ node a is life_is. absurd (never node is))

      abbrev fell_next : machine.World
      fell_next = record w { slots = plain.with_slot w.slots n (record { life = plain.Life.Down next; disk = records }); book = w.book ++ WentDown n ∷ [] }

      -- Its disk failed.
      pub start_fails : mail_steps.step_fault plan (mail_steps.Step.Start n) w ≡ None → LeadsWhole plan tells (Ok (said.Faulted n)) (step.Start n) new.lives.items v fell_next
      start_fails goes = record {
        now = record v { slots = whole.with_slot v.slots n fell; book = v.book ++ WentDown n ∷ [] };
        seen = seen_put v w seen n fell (WentDown n ∷ []);
        maps = fell_maps;
        made = (goes_too goes, whole_makes.DoesStep.Starts n refl (whole_makes.StartsUp.FailsStarting disk pending next records there stops refl refl));
      }

      -- Memory ran out.
      pub start_short : LeadsWhole plan tells (Err (fault.NoMemory (Some n))) (step.Start n) new.lives.items v fell_next
      start_short = record {
        now = record v { slots = whole.with_slot v.slots n fell; book = v.book ++ WentDown n ∷ [] };
        seen = seen_put v w seen n fell (WentDown n ∷ []);
        maps = fell_maps;
        made = whole_makes.RunsShort.Starting disk pending next records refl there stops refl;
      }

-- Nor does it matter, where the node is as it was.
pub keep_maps : {D : Type 0} (n : ℕ) (P : Life → D → Life → D → Type 0) (old new : Nodes D) (ch : ChangesNode n P old new) (a b : WholeNode) → ch.life ≡ Up a → ch.life' ≡ Up b → node_of b.maps ≡ node_of a.maps
    → (slots : List whole.Slot) → AreMaps old.lives.items slots → AreMaps new.lives.items slots
keep_maps n P old new ch a b was is same slots maps = record {
  each = λ m node s x up there life_is. ⊎_elim
      (λ (here : m ≡ n).
      let now : ch.life' ≡ Up node = some_same ch.life' (Up node) (sym (life_there n P old new ch) ∙ ap (of_node new.lives.items) (sym here) ∙ up) in
      maps.each m a s x (ap (of_node old.lives.items) here ∙ ch.was ∙ ap Some was) there life_is ∙ sym same ∙ ap (λ (y : WholeNode). node_of y.maps) (one b node (sym is ∙ now)))
      (λ (other : m ≢ n). maps.each m node s x (sym (life_else n P old new ch m other) ∙ up) there life_is)
      (same_or m n);
}
  where
    one : (x y : WholeNode) → Up x ≡ Up y → x ≡ y
    one x y e = cc
