-- What a step leaves in which one node worked: that node is up as before, did its work, or went down in it.
use Rattle.std.proofs.Common.{get_or, ◌≡◌, ◌≢◌, ◌⊎◌, inl, ℕ, zero, suc, ◌+◌, ◌≤◌, true, false, List, [], ◌∷◌, ◌++◌, append-nil, Option, Some, None, Result, Ok, refl, sym, ap, ◌∙◌, subst, arith, length}
use Rattle.std.specs.Prelude.{⊤, IfSome, is_some, slice_get}
use Rattle.std.proofs.lemmas.Option.{slice_get-get_or}
use Rattle.std.specs.List.{list_all}
use Rattle.std.proofs.lemmas.Bool.{and_parts}
use Rattle.std.proofs.lemmas.Bool.Decides.{nat_tests}
use Rattle.io_edge.specs.Causes.{Rose}
use Rattle.io_edge.specs.Moments.{Passed}
use Rattle.io_edge.specs.Octets.{IsToldAlike}
use Rattle.mail_model.specs.Plan.{Plan}
use Rattle.mail_model.specs.Record.{Record, payloads_of}
use Rattle.object_model.specs.Letters.{Letter}
use Rattle.session_model.specs.Events.{NodeLife as life, turned}
use Rattle.cluster_model.specs.Cluster as plain
use Rattle.cluster_model.specs.Cluster.{Slot, slot_at, with_slot}
use Rattle.cluster_model.specs.Deeds.{slot_up}
use Rattle.cluster_model.specs.Makes.{IsWorkCut}
use Rattle.cluster_model.specs.Steps.{is_node}
use Rattle.disk_journal.specs.Journal.{TellsJournal, EndsAt}
use Rattle.node_store.specs.Disks.{View}
use Rattle.node_core.specs.Nodes.{node_seen, NodeKeeps, end_in, IsNodeOf, IsSameNode, IsAsBefore}
use Rattle.node_core.specs.Starting.{MayHold}
use Rattle.node_core.specs.Works.{Rule, NodeDid, NodeStopped, IsOnlyRead}
use Rattle.node_core.specs.declared.fault.NodeFault.{NodeFault}
use Rattle.node_core.specs.declared.node.Node.{Node}
use Rattle.whole_node.specs.Nodes.{WholeWorks}
use Rattle.whole_node.specs.declared.node.WholeNode.{WholeNode}
use Rattle.world_book.specs.declared.book.Book.{Book}
use Rattle.cluster_world.specs.Flights.{InFlight}
use Rattle.cluster_world.specs.Lives.{life_seen, of_node, falls_left, all_falls_left, CanWorkOn}
use Rattle.cluster_world.specs.Stands.{SlotStands, SlotsStand}
use Rattle.cluster_world.specs.Worlds.{life_among, seen_life, state_with}
use Rattle.cluster_world.specs.Changes.{ChangesNode}
use Rattle.cluster_world.specs.Moments.{IsStopOf, StopsKeep}
use Rattle.cluster_world.specs.Works.{slot_after, SlotTurned, SlotCut}
use Rattle.cluster_world.specs.Turning.{TurnsBy}
use Rattle.cluster_world.specs.Turns.{life_refusal}
use Rattle.cluster_world.specs.Steps.{AreToldAlike, IsQuiet, AreSettled, MayMisread, FaultHasCause}
use Rattle.cluster_world.specs.declared.life.Life.{Life}
use Rattle.cluster_world.specs.declared.life.Life.TheVariants.{Up, Down, Lost}
use Rattle.cluster_world.specs.declared.nodes.Nodes.{Nodes}
use Rattle.cluster_world.specs.declared.step.Step.{Step}
use Rattle.cluster_world.specs.declared.step.Step.TheVariants.{Begin, Ask, GiveUp, Post, Drop, Push, Widen, Group, Conclude, Report, Crash, Start, Lose, Tick}
use Rattle.cluster_world.specs.declared.step.Said.TheVariants.{Faulted}
use Rattle.cluster_world.specs.declared.fault.StepFault.TheVariants as fault
use Rattle.cluster_world.proofs.Worked.{did_turned, cut_down, if_told, passed}
use Rattle.cluster_world.proofs.Still.{some_same, if_some, images_stop}
use Rattle.cluster_world.proofs.Falling.{fallen}
use Rattle.cluster_world.proofs.Turned.{disk_there, slot_of, slots_stand, stops_kept, lives_turned, told_by, quiet_by, settled_by, still_ready, falls_now}
use Rattle.cluster_world.proofs.Changing.{node_at}
use Rattle.cluster_world.proofs.Asked.{ready_of, turned_same, disk_of}

-- nodes that a step names are the plan's
pub within_first : (plan : Plan) (n to : ℕ) → list_all (is_node plan) (n ∷ to ∷ []) ≡ true → (1 ≤ n) × (n ≤ plan.nodes)
within_first plan n to named =
    let is : is_node plan n ≡ true = (and_parts (is_node plan n) (list_all (is_node plan) (to ∷ [])) named).0 in
    (grind (arith, nat_tests), grind (arith, nat_tests))

pub within_second : (plan : Plan) (n to : ℕ) → list_all (is_node plan) (n ∷ to ∷ []) ≡ true → (1 ≤ to) × (to ≤ plan.nodes)
within_second plan n to named =
    let is : is_node plan to ≡ true = (and_parts (is_node plan to) true (and_parts (is_node plan n) (list_all (is_node plan) (to ∷ [])) named).1).0 in
    (grind (arith, nat_tests), grind (arith, nat_tests))

-- a disk of those that all tell tells
pub told_there : {D : Type 0} (seen : D → Option (List ℕ)) (disks : List D) (n : ℕ) (disk : D) → list_all (λ d. is_some (seen d)) disks ≡ true → of_node disks n ≡ Some disk → is_some (seen disk) ≡ true
told_there seen disks zero disk all e = absurd (let never : None ≡ Some disk = e in cc)
told_there {D} seen disks (suc k) disk all e = at disks k all e
  where
    at : (disks : List D) (k : ℕ) → list_all (λ d. is_some (seen d)) disks ≡ true → slice_get disks k ≡ Some disk → is_some (seen disk) ≡ true
    at [] k all e = absurd (let never : None ≡ Some disk = e in cc)
    at (d ∷ ds) zero all e = subst (λ x. is_some (seen x) ≡ true) (some_same d disk e) (and_parts (is_some (seen d)) (list_all (λ d. is_some (seen d)) ds) all).0
    at (d ∷ ds) (suc k) all e = at ds k (and_parts (is_some (seen d)) (list_all (λ d. is_some (seen d)) ds) all).1 e

pub when_told : (o : Option (List ℕ)) (P : Type 0) → is_some o ≡ true → IfSome o (λ _. P) → P
when_told None P e h = absurd (let never : false ≡ true = e in cc)
when_told (Some c) P e h = h

-- the steps for which a node has to be up
abbrev pub Works : Step → Type 0
Works (Begin node call) = ⊤
Works (Push from to) = ⊤
Works (Widen at user id to) = ⊤
Works (Group node) = ⊤
Works (Conclude node) = ⊤
Works (Report from to) = ⊤
Works step = ⊥

pub up_of : (s : Step) (o : Option Life) → Works s → life_refusal s (seen_life o) ≡ None → (node : WholeNode) × (o ≡ Some (Up node))
up_of (Begin node call) None works e = absurd (let never : Some fault.NodeLost ≡ None = e in cc)
up_of (Begin node call) (Some (Up here)) works e = (here, refl)
up_of (Begin node call) (Some Down) works e = absurd (let never : Some fault.NodeDown ≡ None = e in cc)
up_of (Begin node call) (Some Lost) works e = absurd (let never : Some fault.NodeLost ≡ None = e in cc)
up_of (Push from to) None works e = absurd (let never : Some fault.NodeLost ≡ None = e in cc)
up_of (Push from to) (Some (Up here)) works e = (here, refl)
up_of (Push from to) (Some Down) works e = absurd (let never : Some fault.NodeDown ≡ None = e in cc)
up_of (Push from to) (Some Lost) works e = absurd (let never : Some fault.NodeLost ≡ None = e in cc)
up_of (Widen at user id to) None works e = absurd (let never : Some fault.NodeLost ≡ None = e in cc)
up_of (Widen at user id to) (Some (Up here)) works e = (here, refl)
up_of (Widen at user id to) (Some Down) works e = absurd (let never : Some fault.NodeDown ≡ None = e in cc)
up_of (Widen at user id to) (Some Lost) works e = absurd (let never : Some fault.NodeLost ≡ None = e in cc)
up_of (Group node) None works e = absurd (let never : Some fault.NodeLost ≡ None = e in cc)
up_of (Group node) (Some (Up here)) works e = (here, refl)
up_of (Group node) (Some Down) works e = absurd (let never : Some fault.NodeDown ≡ None = e in cc)
up_of (Group node) (Some Lost) works e = absurd (let never : Some fault.NodeLost ≡ None = e in cc)
up_of (Conclude node) None works e = absurd (let never : Some fault.NodeLost ≡ None = e in cc)
up_of (Conclude node) (Some (Up here)) works e = (here, refl)
up_of (Conclude node) (Some Down) works e = absurd (let never : Some fault.NodeDown ≡ None = e in cc)
up_of (Conclude node) (Some Lost) works e = absurd (let never : Some fault.NodeLost ≡ None = e in cc)
up_of (Report from to) None works e = absurd (let never : Some fault.NodeLost ≡ None = e in cc)
up_of (Report from to) (Some (Up here)) works e = (here, refl)
up_of (Report from to) (Some Down) works e = absurd (let never : Some fault.NodeDown ≡ None = e in cc)
up_of (Report from to) (Some Lost) works e = absurd (let never : Some fault.NodeLost ≡ None = e in cc)
up_of (Ask ticket) o works e = absurd works
up_of (GiveUp ticket) o works e = absurd works
up_of (Post letter keep) o works e = absurd works
up_of (Drop letter) o works e = absurd works
up_of (Crash node) o works e = absurd works
up_of (Start node) o works e = absurd works
up_of (Lose node) o works e = absurd works
up_of (Tick seconds) o works e = absurd works

-- a slot of the machine stands for a node that is up
pub slot_up_of : {D : Type 0} (on : View D) (nodes : Nodes D) (n : ℕ) (node : WholeNode) → of_node nodes.lives.items n ≡ Some (Up node) → (slots : List Slot) → SlotsStand on nodes.lives.items nodes.disks.items slots
    → (slot : Slot) × (slot_at slots n ≡ Some slot) × ((seen : plain.Node) × (slot.life ≡ plain.Life.Up seen))
slot_up_of on nodes n node up slots st =
    let (disk, held) = disk_of nodes.disks.items nodes.lives.items n (Up node) (nodes.all ∙ sym nodes.disk_each) up in
    let (slot, here, stood) = slot_of on nodes.lives.items nodes.disks.items slots n (Up node) disk st up held in
    let (seen, is, s) = stood in
    (slot, here, (seen, is))

-- why a disk failed that wrote
pub caused : {D : Type 0} (on : View D) (n : ℕ) (P : Life → D → Life → D → Type 0) (old new : Nodes D) (ch : ChangesNode n P old new) (s : Step) (flying flying' : InFlight) (seconds seconds' : ℕ) (book book' : Book)
    → Rose (on.faults ch.disk) (on.faults ch.disk') ⊎ ((on.seen ch.disk ≡ None) × MayMisread flying.flights s)
    → FaultHasCause on (Ok (Faulted n)) s (state_with old flying seconds book) (state_with new flying' seconds' book')
caused on n P old new ch s flying flying' seconds seconds' book book' why d d' e e' =
    let d_is : ch.disk ≡ d = some_same ch.disk d (sym ch.held ∙ e) in
    let d'_is : ch.disk' ≡ d' = some_same ch.disk' d' (sym (disk_there n P old new ch) ∙ e') in
    subst (λ x. Rose (on.faults d) (on.faults x) ⊎ ((on.seen d ≡ None) × MayMisread flying.flights s)) d'_is
    (subst (λ x. Rose (on.faults x) (on.faults ch.disk') ⊎ ((on.seen x ≡ None) × MayMisread flying.flights s)) d_is why)

same_node : (x y : WholeNode) → Up x ≡ Up y → x ≡ y
same_node x y e = cc

module _ {D : Type 0} (on : View D) (n : ℕ) (P : Life → D → Life → D → Type 0) (old new : Nodes D) (ch : ChangesNode n P old new)
    (ready : CanWorkOn on.seen old.plan old.lives.items old.disks.items) (a : WholeNode) (was : ch.life ≡ Up a) where
  pub works_there : IsNodeOf old.plan n a.mail × WholeWorks (on.seen ch.disk) a
  works_there = ready_of on.seen old.plan old.lives.items old.disks.items ready n a ch.disk (ch.was ∙ ap Some was) ch.held

  -- It is up, in the same boot, and its disk has not failed.
  pub record StaysUp (b : WholeNode) : Type 0 where
    pub is : ch.life' ≡ Up b
    pub boot : (node_seen b.mail).boot ≡ (node_seen a.mail).boot
    pub same : IsSameNode a.mail b.mail
    pub works : WholeWorks (on.seen ch.disk') b
    pub told : IsToldAlike (on.seen ch.disk) (on.seen ch.disk')
    pub faults : on.faults ch.disk' ≡ on.faults ch.disk

  -- It is down.
  pub record FallsDown : Type 0 where
    pub is : ch.life' ≡ Down
    pub told : IsToldAlike (on.seen ch.disk) (on.seen ch.disk')
    pub later : on.faults ch.disk ≤ on.faults ch.disk'

  pub did_stay : (rule : Rule) (b : WholeNode) (sent : List Letter) → ch.life' ≡ Up b → NodeDid on rule a.mail ch.disk b.mail ch.disk' sent → WholeWorks (on.seen ch.disk') b → StaysUp b
  did_stay rule b sent is did works = record { is = is; boot = did.boot; same = did.same; works = works; told = did.appends.told; faults = did.appends.quiet }

  pub read_stays : (b : WholeNode) → ch.life' ≡ Up b → IsAsBefore a.mail b.mail → IsOnlyRead on ch.disk ch.disk' → on.faults ch.disk' ≡ on.faults ch.disk → WholeWorks (on.seen ch.disk') b → StaysUp b
  read_stays b is before read quiet works = record {
    is = is;
    boot = ap (λ (m : plain.Node). m.boot) before.seen;
    same = before.same;
    works = works;
    told = ap (λ (o : Option (List ℕ)). is_some o) read.seen;
    faults = quiet;
  }

  pub stopped_falls : (rule : Rule) → ch.life' ≡ Down → NodeStopped on rule a.mail ch.disk ch.disk' → on.faults ch.disk ≤ on.faults ch.disk' → FallsDown
  stopped_falls rule is stopped later = record { is = is; told = stopped.stops.told; later = later }

  module _ (b : WholeNode) (s : StaysUp b) where
    same_life : life_seen ch.life' ≡ life_seen ch.life
    same_life = ap life_seen s.is ∙ ap life.Up s.boot ∙ sym (ap life_seen was)

    pub stays_lives : (m : ℕ) → life_among new m ≡ life_among old m
    stays_lives m = lives_turned n P old new ch m
        ∙ ap (λ l. turned n l m (life_among old m)) (same_life ∙ sym (ap seen_life ch.was))
        ∙ turned_same (life_among old) n m

    pub stays_ready : CanWorkOn on.seen new.plan new.lives.items new.disks.items
    stays_ready = subst (λ p. CanWorkOn on.seen p new.lives.items new.disks.items) (sym ch.plan)
        (still_ready n P old new ch on.seen old.plan ready (λ node up.
        let is : b ≡ node = same_node b node (sym s.is ∙ up) in
        (subst (λ (m : WholeNode). IsNodeOf old.plan n m.mail) is (s.same old.plan n works_there.0), subst (λ m. WholeWorks (on.seen ch.disk') m) is s.works)))

    pub stays_falls : all_falls_left new.lives.items ≡ all_falls_left old.lives.items
    stays_falls =
        let same : all_falls_left new.lives.items + falls_left ch.life ≡ all_falls_left old.lives.items + falls_left ch.life' = falls_now n P old new ch in
        omega (arith, same, ap falls_left was, ap falls_left s.is)

    module _ (flying flying' : InFlight) (seconds seconds' : ℕ) (book book' : Book) where
      pub stays_told : AreToldAlike on.seen (state_with old flying seconds book) (state_with new flying' seconds' book')
      stays_told = told_by n P old new ch flying flying' seconds seconds' book book' on.seen s.told

      pub stays_quiet : IsQuiet on.faults (state_with old flying seconds book) (state_with new flying' seconds' book')
      stays_quiet = quiet_by n P old new ch flying flying' seconds seconds' book book' on.faults (omega (arith, s.faults)) (λ boot _. s.faults)

      pub stays_settled : (is_settled : D → Type 0) → (is_settled ch.disk → is_settled ch.disk') → AreSettled is_settled (state_with old flying seconds book)
          → AreSettled is_settled (state_with new flying' seconds' book')
      stays_settled is_settled keeps = settled_by n P old new ch flying flying' seconds seconds' book book' is_settled (λ boot up was_settled. keeps (was_settled (sym same_life ∙ up)))

  module _ (f : FallsDown) where
    never_up : (boot : ℕ) → life_seen ch.life' ≡ life.Up boot → ⊥
    never_up boot up = let never : life.Down ≡ life.Up boot = sym (ap life_seen f.is) ∙ up in cc

    pub down_lives : (m : ℕ) → life_among new m ≡ turned n life.Down m (life_among old m)
    down_lives m = lives_turned n P old new ch m ∙ ap (λ l. turned n (life_seen l) m (life_among old m)) f.is

    pub down_ready : CanWorkOn on.seen new.plan new.lives.items new.disks.items
    down_ready = subst (λ p. CanWorkOn on.seen p new.lives.items new.disks.items) (sym ch.plan)
        (still_ready n P old new ch on.seen old.plan ready (λ node up. absurd (let never : Down ≡ Up node = sym f.is ∙ up in cc)))

    pub down_falls : all_falls_left new.lives.items + 1 ≡ all_falls_left old.lives.items
    down_falls =
        let same : all_falls_left new.lives.items + falls_left ch.life ≡ all_falls_left old.lives.items + falls_left ch.life' = falls_now n P old new ch in
        omega (arith, same, ap falls_left was, ap falls_left f.is)

    module _ (flying flying' : InFlight) (seconds seconds' : ℕ) (book book' : Book) where
      pub down_told : AreToldAlike on.seen (state_with old flying seconds book) (state_with new flying' seconds' book')
      down_told = told_by n P old new ch flying flying' seconds seconds' book book' on.seen f.told

      pub down_quiet : IsQuiet on.faults (state_with old flying seconds book) (state_with new flying' seconds' book')
      down_quiet = quiet_by n P old new ch flying flying' seconds seconds' book book' on.faults f.later (λ boot up. absurd (never_up boot up))

      pub down_settled : (is_settled : D → Type 0) → AreSettled is_settled (state_with old flying seconds book) → AreSettled is_settled (state_with new flying' seconds' book')
      down_settled is_settled = settled_by n P old new ch flying flying' seconds seconds' book book' is_settled (λ boot up _. absurd (never_up boot up))

  -- The slots of the machine.
  module _ (slots : List Slot) (st : SlotsStand on old.lives.items old.disks.items slots) where
    -- that of the node
    pub record FoundUp : Type 0 where
      pub slot : Slot
      pub here : slot_at slots n ≡ Some slot
      pub up : slot_at slots n ≡ Some (slot_up (node_seen a.mail) slot.disk)
      pub whole : slot ≡ slot_up (node_seen a.mail) slot.disk
      pub stood : SlotStands on n (Up a) ch.disk slot
      pub keeps : NodeKeeps slot.disk a.mail
      pub tells : TellsJournal (on.seen ch.disk) n (payloads_of slot.disk) (end_in a.mail)

    pub found_up : FoundUp
    found_up =
        let (slot, here, stood) = slot_of on old.lives.items old.disks.items slots n ch.life ch.disk st ch.was ch.held in
        let up : SlotStands on n (Up a) ch.disk slot = subst (λ l. SlotStands on n l ch.disk slot) was stood in
        let (seen, is, s) = up in
        let whole : slot ≡ slot_up (node_seen a.mail) slot.disk = ap (λ l. record { life = l; disk = slot.disk }) (is ∙ ap plain.Life.Up (sym s.seen_is)) in
        record { slot = slot; here = here; up = here ∙ ap Some whole; whole = whole; stood = up; keeps = s.keeps; tells = s.tells }

    -- They stand where its slot is this one now, and each stop leaves what it may.
    pub record SlotsMoved (slot slot' : Slot) : Type 0 where
      pub stand : SlotsStand on new.lives.items new.disks.items (with_slot slots n slot')
      pub stops : (m : ℕ) (d d' : D) (s s' : Slot) → of_node old.disks.items m ≡ Some d → of_node new.disks.items m ≡ Some d' → slot_at slots m ≡ Some s → slot_at (with_slot slots n slot') m ≡ Some s'
          → s.life ≢ plain.Life.Lost → StopsKeep on m d d' s s'

    moved : (slot slot' : Slot) (l : Life) → slot_at slots n ≡ Some slot → ch.life' ≡ l → SlotStands on n l ch.disk' slot' → StopsKeep on n ch.disk ch.disk' slot slot' → SlotsMoved slot slot'
    moved slot slot' l here is stands keeps = record {
      stand = slots_stand n P old new ch on slots slot' st (subst (λ x. SlotStands on n x ch.disk' slot') (sym is) stands);
      stops = stops_kept n P old new ch on slots slot slot' st here (λ _. keeps);
    }

    -- It did its work.
    pub record DidThere (rule : Rule) (sent : List Letter) (found : FoundUp) : Type 0 where
      pub out : (rule (node_seen a.mail) found.slot.disk).out ≡ sent
      pub moved : SlotsMoved found.slot (slot_after rule (node_seen a.mail) found.slot.disk)

    pub did_there : (rule : Rule) (b : WholeNode) (sent : List Letter) → ch.life' ≡ Up b → NodeDid on rule a.mail ch.disk b.mail ch.disk' sent → (found : FoundUp) → DidThere rule sent found
    did_there rule b sent is did found =
        let t : SlotTurned on n rule (Up a) ch.disk (Up b) ch.disk' sent found.slot = did_turned on n rule a ch.disk ch.disk' found.slot b sent did found.stood in
        let same : t.node ≡ node_seen a.mail = let e : slot_up t.node found.slot.disk ≡ slot_up (node_seen a.mail) found.slot.disk = sym t.was ∙ found.whole in the_node t.node (node_seen a.mail) (ap (λ (s : Slot). s.life) e) in
        record {
          out = subst (λ m. (rule m found.slot.disk).out ≡ sent) same t.out;
          moved = subst (λ m. SlotsMoved found.slot (slot_after rule m found.slot.disk)) same
              (moved found.slot (slot_after rule t.node found.slot.disk) (Up b) found.here is t.stands t.keeps);
        }
      where
        the_node : (x y : plain.Node) → plain.Life.Up x ≡ plain.Life.Up y → x ≡ y
        the_node x y e = cc

    -- It stopped in its work.
    pub record CutThere (rule : Rule) (found : FoundUp) : Type 0 where
      pub front : List Record
      pub pending : List Record
      pub one : length pending ≤ 1
      pub cut : IsWorkCut found.slot.disk (rule (node_seen a.mail) found.slot.disk).disk front pending
      pub moved : SlotsMoved found.slot (record { life = plain.Life.Down pending; disk = found.slot.disk ++ front })

    pub cut_there : (rule : Rule) → ch.life' ≡ Down → NodeStopped on rule a.mail ch.disk ch.disk' → (found : FoundUp) → CutThere rule found
    cut_there rule is stopped found =
        let t : SlotCut on n rule (Up a) ch.disk Down ch.disk' found.slot = cut_down on n rule a ch.disk ch.disk' found.slot stopped found.stood in
        let same : t.node ≡ node_seen a.mail = let e : slot_up t.node found.slot.disk ≡ slot_up (node_seen a.mail) found.slot.disk = sym t.was ∙ found.whole in the_node t.node (node_seen a.mail) (ap (λ (s : Slot). s.life) e) in
        record {
          front = t.front;
          pending = t.pending;
          one = t.one;
          cut = subst (λ m. IsWorkCut found.slot.disk (rule m found.slot.disk).disk t.front t.pending) same t.cut;
          moved = moved found.slot (record { life = plain.Life.Down t.pending; disk = found.slot.disk ++ t.front }) Down found.here is t.stands t.keeps;
        }
      where
        the_node : (x y : plain.Node) → plain.Life.Up x ≡ plain.Life.Up y → x ≡ y
        the_node x y e = cc

    -- Its disk was read, and no more.
    module _ (read : IsOnlyRead on ch.disk ch.disk') (found : FoundUp) where
      alive : found.slot.life ≢ plain.Life.Lost
      alive lost = let never : plain.Life.Up (node_seen a.mail) ≡ plain.Life.Lost = sym (ap (λ (s : Slot). s.life) found.whole) ∙ lost in cc

      read_stops : IfSome (on.seen ch.disk) (λ _. Passed on.clock ch.disk ch.disk' (IsStopOf n found.slot []))
      read_stops = if_some (on.seen ch.disk) (λ _. (c : List ℕ) → on.clock.is_image ch.disk c → IsStopOf n found.slot [] c) _
          (λ _ stops. passed on.clock ch.disk ch.disk' (on.clock.is_image ch.disk) (IsStopOf n found.slot []) stops read.images)
          (images_stop on n (Up a) ch.disk found.slot [] alive found.stood)

      -- It is as it was.
      read_stands : (b : WholeNode) → IsAsBefore a.mail b.mail → SlotStands on n (Up b) ch.disk' found.slot
      read_stands b before =
          let (seen, is, s) = found.stood in (
            seen,
            is,
            record {
              seen_is = before.seen ∙ s.seen_is;
              keeps = before.keeps found.slot.disk s.keeps;
              tells = subst (λ o. TellsJournal o n (payloads_of found.slot.disk) (end_in b.mail)) (sym read.seen)
                  (subst (λ e. TellsJournal (on.seen ch.disk) n (payloads_of found.slot.disk) e) (sym before.end_is) s.tells);
              images = if_told (on.seen ch.disk) (on.seen ch.disk') _ (ap (λ (o : Option (List ℕ)). is_some o) read.seen)
                  (if_some (on.seen ch.disk) _ _ (λ _ images c image. subst (λ e. EndsAt n c (payloads_of found.slot.disk) e) (sym before.end_is) (images c (read.images.now c image))) s.images);
            },
          )

      pub read_there : (b : WholeNode) → ch.life' ≡ Up b → IsAsBefore a.mail b.mail → SlotsMoved found.slot found.slot
      read_there b is before = moved found.slot found.slot (Up b) found.here is (read_stands b before) (record {
        kept = [];
        pending_is = inl refl;
        added = [];
        grew = ap (λ (s : Slot). s.disk ++ plain.pending_of s.life) found.whole ∙ sym (append-nil (found.slot.disk ++ []));
        stops = read_stops;
      })

      -- It goes down, with nothing pending.
      read_falls : SlotStands on n Down ch.disk' (record { life = plain.Life.Down []; disk = found.slot.disk })
      read_falls =
          let (up, fit, holds) = fallen on n ch.disk found.slot a found.stood in (
            [],
            refl,
            fit,
            if_told (on.seen ch.disk) (on.seen ch.disk') _ (ap (λ (o : Option (List ℕ)). is_some o) read.seen)
                (if_some (on.seen ch.disk) _ _ (λ _ (h : MayHold on ch.disk n found.slot.disk []). record { images = λ c image. h.images c (read.images.now c image); fit = fit }) holds),
          )

      pub read_down : ch.life' ≡ Down → SlotsMoved found.slot (record { life = plain.Life.Down []; disk = found.slot.disk ++ [] })
      read_down is = moved found.slot (record { life = plain.Life.Down []; disk = found.slot.disk ++ [] }) Down found.here is
          (subst (λ xs. SlotStands on n Down ch.disk' (record { life = plain.Life.Down []; disk = xs })) (sym (append-nil found.slot.disk)) read_falls)
          (record { kept = []; pending_is = inl refl; added = []; grew = refl; stops = read_stops })

-- What a node that is up did, by the plan that it is a node of.
pub turns_at : {T D : Type 0} (seen : D → Option (List ℕ)) (Q : ℕ → Result T NodeFault → Node → D → Node → D → Type 0) (M : ℕ → Result T NodeFault → WholeNode → D → WholeNode → D → Type 0)
    (plan : Plan) (n : ℕ) (r : Result T NodeFault) (l : Life) (d : D) (l' : Life) (d' : D)
    → ((node : WholeNode) → l ≡ Up node → IsNodeOf plan n node.mail)
    → TurnsBy seen (λ result old before new after. (p : Plan) (own : ℕ) → IsNodeOf p own old → Q own result old before new after)
    (λ result old before new after. (p : Plan) (own : ℕ) → IsNodeOf p own old.mail → M own result old before new after) r l d l' d' → TurnsBy seen (Q n) (M n) r l d l' d'
turns_at seen Q M plan n r l d l' d' of t =
    record { old = t.old; new = t.new; was = t.was; did = t.did plan n (of t.old t.was); maps = t.maps plan n (of t.old t.was); beside = t.beside; is = t.is; works = t.works }

-- A node that is to work, at its place.
module _ {D : Type 0} (seen : D → Option (List ℕ)) (s : Step) (n to k : ℕ) (nodes : Nodes D) (named : list_all (is_node nodes.plan) (n ∷ to ∷ []) ≡ true)
    (fits : life_refusal s (life_among nodes n) ≡ None) (works : Works s) (ready : CanWorkOn seen nodes.plan nodes.lives.items nodes.disks.items)
    (at : k + 1 ≡ n) (l dl : Life) (d dd : D) (read : l ≡ get_or nodes.lives.items k dl) (held : d ≡ get_or nodes.disks.items k dd) where
  inside : (1 ≤ n) × (n ≤ nodes.plan.nodes)
  inside = within_first nodes.plan n to named

  pub life_at : slice_get nodes.lives.items k ≡ Some l
  life_at = slice_get-get_or nodes.lives.items k dl (omega (arith, at, inside.1, nodes.all)) ∙ ap Some (sym read)

  pub disk_at : slice_get nodes.disks.items k ≡ Some d
  disk_at = slice_get-get_or nodes.disks.items k dd (omega (arith, at, inside.1, nodes.disk_each)) ∙ ap Some (sym held)

  pub plan_node_at : (node : WholeNode) → l ≡ Up node → IsNodeOf nodes.plan n node.mail × WholeWorks (seen d) node
  plan_node_at node up = ready_of seen nodes.plan nodes.lives.items nodes.disks.items ready n node d
      (node_at nodes.lives.items n k at ∙ life_at ∙ ap Some up) (node_at nodes.disks.items n k at ∙ disk_at)

  pub up_there : (node : WholeNode) × (l ≡ Up node) × WholeWorks (seen d) node
  up_there =
      let (node, here) = up_of s (of_node nodes.lives.items n) works fits in
      let up : l ≡ Up node = some_same l (Up node) (sym life_at ∙ sym (node_at nodes.lives.items n k at) ∙ here) in
      (node, up, (plan_node_at node up).1)
