-- What a node does for membership and maps, in the whole world.
use Rattle.std.proofs.Common.{◌≡◌, ◌≤◌, inl, inr, ℕ, ◌-◌, Bool, true, false, nat_le, List, [], ◌∷◌, ◌++◌, length, map, Option, Some, None, Ok, Err, refl, sym, ap, ◌∙◌, subst, arith, if◌then◌else◌}
use Rattle.std.specs.Prelude.{nat_lt, reverse, option_map}
use Rattle.std.proofs.lemmas.Bool.Decides.{nat_tests}
use Rattle.mail_model.specs.Identity.{EpochId}
use Rattle.mail_model.specs.Plan.{Plan}
use Rattle.mail_model.specs.Record.{Record}
use Rattle.object_model.specs.Lists.{Among}
use Rattle.object_model.specs.Letters.{Letter}
use Rattle.cluster_model.specs.Cluster as plain
use Rattle.cluster_model.specs.Deeds as mail_deeds
use Rattle.cluster_model.specs.Forms.{IsMapsBody, IsPlainMaps, promise_records}
use Rattle.cluster_model.specs.Makes as mail_makes
use Rattle.cluster_model.specs.Room.{Flight, has_room}
use Rattle.cluster_model.specs.Rules as mail_rules
use Rattle.cluster_model.specs.Steps as mail_steps
use Rattle.cluster_model.specs.Thrown as plain_thrown
use Rattle.cluster_model.specs.Thrown.{is_stale, with_stamps}
use Rattle.cluster_model.specs.World as machine
use Rattle.maps_model.specs.Cluster.{OpenGroup}
use Rattle.maps_model.specs.Rules as maps_rules
use Rattle.whole_model.specs.Whole as whole
use Rattle.whole_model.specs.Whole.{mail_slot, maps_disk_of}
use Rattle.whole_world.specs.Laws.{Stands}
use Rattle.whole_world.specs.Makes as whole_makes
use Rattle.whole_world.specs.Makes.{done_for_maps, learnt, promise_by, said_of}
use Rattle.whole_world.specs.Steps as whole_steps
use Rattle.whole_world.specs.Steps.{first_refusal, letters_worn, by_slot, open_fault, conclude_fault, group_fault, group_size, room_left, greatest_epoch}
use Rattle.whole_world.specs.Thrown.{refused_by}
use Rattle.whole_world.specs.World as whole_world
use Rattle.whole_world.specs.World.{mail_world_of, Reaction}
use Rattle.whole_world.proofs.Along.{up_slot}
use Rattle.whole_world.proofs.Seeing.{mail_set, put_seen, put_slots, cut_seen}
use Rattle.whole_world.proofs.Turning.{ordered}
use Rattle.node_core.specs.Hearing.{why_seen}
use Rattle.node_core.specs.Nodes.{node_seen, NodeKeeps}
use Rattle.node_core.specs.declared.outbox.Why.{Why}
use Rattle.node_maps.specs.Nodes.{node_of}
use Rattle.node_maps.specs.declared.concluding.Concluded.{Concluded}
use Rattle.node_store.specs.Disks.{View}
use Rattle.whole_node.specs.Grouping.{next_of, GroupOpened, GroupConcluded}
use Rattle.whole_node.specs.Hearing.{LookedAt}
use Rattle.whole_node.specs.Nodes.{whole_seen}
use Rattle.whole_node.specs.declared.grouping.Grouped.{Grouped}
use Rattle.whole_node.specs.declared.node.WholeNode.{WholeNode}
use Rattle.cluster_world.specs.Changes.{ChangesNode}
use Rattle.cluster_world.specs.Lives.{of_node}
use Rattle.cluster_world.specs.Maps.{AreMaps}
use Rattle.cluster_world.specs.Missing.{OnlyTickets}
use Rattle.cluster_world.specs.Steps.{LeadsWhole}
use Rattle.cluster_world.specs.declared.fault.StepFault.TheVariants as fault
use Rattle.cluster_world.specs.declared.life.Life.{Life}
use Rattle.cluster_world.specs.declared.life.Life.TheVariants.{Up}
use Rattle.cluster_world.specs.declared.nodes.Nodes.{Nodes}
use Rattle.cluster_world.specs.declared.step.Said.{Said}
use Rattle.cluster_world.specs.declared.step.Said.TheVariants as said
use Rattle.cluster_world.specs.declared.step.Step.TheVariants as step
use Rattle.cluster_world.proofs.Befallen.{up_too}
use Rattle.cluster_world.proofs.WholeStarts.{put_maps}

abbrev Fault : mail_steps.StepFault → whole_steps.StepFault
Fault f = whole_steps.StepFault.Fault f

-- a node that is up has its slot in the whole world
pub up_whole : (lives : List Life) (w : machine.World) (v : whole_world.World) → mail_world_of v ≡ w → AreMaps lives v.slots → (n : ℕ) (a : WholeNode) (node : plain.Node) (disk : List Record)
    → of_node lives n ≡ Some (Up a) → mail_makes.IsUp w n node disk → node ≡ node_seen a.mail → whole_world.IsUp v n (whole_seen a) disk
up_whole lives w v seen maps n a node disk here up node_is =
    let (x, there, mail_is) = up_slot v.slots n node disk (ap (λ (y : machine.World). plain.slot_at y.slots n) seen ∙ up) in
    let mails : x.mail ≡ node_seen a.mail = mail_is ∙ node_is in
    let others : x.maps ≡ node_of a.maps = maps.each n a (whole_world.slot_up x disk) x here there refl in
    there ∙ ap (λ (y : whole.Node). Some (whole_world.slot_up y disk)) (λ i. record { mail = mails i; maps = others i })

-- tickets do not matter to maps
pub tickets_maps : {D : Type 0} (on : View D) (change : List plain.Slot → List plain.Slot) (mid new : Nodes D) → OnlyTickets on change mid new → (slots : List whole.Slot) → AreMaps mid.lives.items slots
    → AreMaps new.lives.items slots
tickets_maps on change mid new only slots maps = record {
  each = λ n node slot a up here is.
      let (other, was) = up_too (of_node new.lives.items n) (of_node mid.lives.items n) node up (sym (only.lives n)) in
      maps.each n other slot a was here is ∙ ap node_of (sym (only.maps n other node was up));
}

-- What is left of the world once the node did so.
module _ {D : Type 0} (on : View D) (n : ℕ) (P : Life → D → Life → D → Type 0) (old mid new : Nodes D) (ch : ChangesNode n P old mid) (change : List plain.Slot → List plain.Slot) (only : OnlyTickets on change mid new)
    (a b : WholeNode) (is : ch.life' ≡ Up b) (w : machine.World) (v : whole_world.World) (seen : mail_world_of v ≡ w) (maps : AreMaps old.lives.items v.slots)
    (disk : List Record) (there : whole_world.IsUp v n (whole_seen a) disk) (left : List Flight) (records : List Record) (sent : List Letter) where
  abbrev pub react : Reaction
  react = record { node = whole_seen b; disk = records; out = sent }

  abbrev pub end : whole_world.World
  end = whole_world.after (record v { flying = left }) n react

  pub end_maps : AreMaps new.lives.items end.slots
  end_maps = subst (AreMaps new.lives.items) (sym (put_slots sent (record v { flying = left; slots = whole.with_slot v.slots n (whole_world.slot_up (whole_seen b) records) })))
      (tickets_maps on change mid new only (whole.with_slot v.slots n (whole_world.slot_up (whole_seen b) records))
      (put_maps n P old mid ch v maps (whole_world.slot_up (whole_seen a) disk) (whole_world.slot_up (whole_seen b) records) there
      (λ node x up life_is. ap (λ (y : whole.Node). y.maps) (same_up x (whole_seen b) (sym life_is)) ∙ ap (λ (y : WholeNode). node_of y.maps) (same_node b node (sym is ∙ up)))))
    where
      same_up : (x y : whole.Node) → whole.Life.Up x ≡ whole.Life.Up y → x ≡ y
      same_up x y e = cc

      same_node : (x y : WholeNode) → Up x ≡ Up y → x ≡ y
      same_node x y e = cc

  pub end_seen : ((letter : Letter) → Among letter sent → IsPlainMaps letter) → (did : mail_rules.Reaction) → did ≡ record { node = node_seen b.mail; disk = records; out = sent }
      → mail_world_of end ≡ mail_makes.after (record w { flying = left }) n did
  end_seen plain_ did did_is =
      put_seen sent (λ letter m. (plain_ letter m).ticket) (record v { flying = left; slots = whole.with_slot v.slots n (whole_world.slot_up (whole_seen b) records) })
      ∙ ap (λ (s : List plain.Slot). machine.put has_room sent (record (mail_world_of v) { flying = left; slots = s })) (mail_set v.slots n (whole_world.slot_up (whole_seen b) records))
      ∙ ap (λ (x : machine.World). mail_makes.after (record x { flying = left }) n (record { node = node_seen b.mail; disk = records; out = sent })) seen
      ∙ ap (mail_makes.after (record w { flying = left }) n) (sym did_is)

-- What is refused of an opening, and of a conclusion.
abbrev worn_faults : Bool → Option whole_steps.StepFault
worn_faults b = option_map Fault (if b then Some mail_steps.StepFault.Worn else None)

abbrev pub open_faults : Bool → Bool → Bool → Option whole_steps.StepFault
open_faults late used crowded = first_refusal (worn_faults late ∷ (if used then Some (Fault mail_steps.StepFault.Worn) else if crowded then Some (Fault mail_steps.StepFault.NoRoom) else None) ∷ [])

abbrev pub conclude_faults : Option OpenGroup → Bool → Bool → Option whole_steps.StepFault
conclude_faults group late crowded =
    first_refusal (first_refusal (group_fault group ∷ worn_faults late ∷ (if crowded then Some (Fault mail_steps.StepFault.NoRoom) else None) ∷ []) ∷ [])

module _ (plan : Plan) (v : whole_world.World) (n : ℕ) (a : WholeNode) (disk : List Record) (there : whole_world.IsUp v n (whole_seen a) disk) where
  pub open_is : whole_steps.step_fault plan (whole_steps.Step.OpenGroup n) v
      ≡ first_refusal (option_map Fault (letters_worn v) ∷ by_slot (open_fault plan v) (whole.slot_at v.slots n) ∷ [])
      → (late used crowded : Bool) → nat_le mail_steps.letters_end v.sent ≡ late → nat_le greatest_epoch (node_of a.maps).heard ≡ used → nat_lt (room_left v.flying) (plan.nodes - 1) ≡ crowded
      → whole_steps.step_fault plan (whole_steps.Step.OpenGroup n) v ≡ open_faults late used crowded
  open_is fits late used crowded p q r =
      fits
      ∙ ap (λ b. first_refusal (worn_faults b ∷ by_slot (open_fault plan v) (whole.slot_at v.slots n) ∷ [])) p
      ∙ ap (λ o. first_refusal (worn_faults late ∷ by_slot (open_fault plan v) o ∷ [])) there
      ∙ ap (λ b. first_refusal (worn_faults late ∷ (if b then Some (Fault mail_steps.StepFault.Worn) else if nat_lt (room_left v.flying) (plan.nodes - 1) then Some (Fault mail_steps.StepFault.NoRoom) else None) ∷ [])) q
      ∙ ap (λ b. open_faults late used b) r

  pub conclude_is : whole_steps.step_fault plan (whole_steps.Step.ConcludeGroup n) v ≡ first_refusal (by_slot (conclude_fault v) (whole.slot_at v.slots n) ∷ [])
      → (group : Option OpenGroup) (late crowded : Bool) → (node_of a.maps).group ≡ group → nat_le mail_steps.letters_end v.sent ≡ late → nat_lt (room_left v.flying) (group_size group - 1) ≡ crowded
      → whole_steps.step_fault plan (whole_steps.Step.ConcludeGroup n) v ≡ conclude_faults group late crowded
  conclude_is fits group late crowded p q r =
      fits
      ∙ ap (λ o. first_refusal (by_slot (conclude_fault v) o ∷ [])) there
      ∙ ap (λ g. first_refusal (first_refusal (group_fault g ∷ option_map Fault (letters_worn v) ∷ (if nat_lt (room_left v.flying) (group_size g - 1) then Some (Fault mail_steps.StepFault.NoRoom) else None) ∷ []) ∷ [])) p
      ∙ ap (λ b. first_refusal (first_refusal (group_fault group ∷ worn_faults b ∷ (if nat_lt (room_left v.flying) (group_size group - 1) then Some (Fault mail_steps.StepFault.NoRoom) else None) ∷ []) ∷ [])) q
      ∙ ap (conclude_faults group late) r

pub no_room : (count room : ℕ) → nat_le count room ≡ false → nat_lt room count ≡ true
no_room count room e = grind (arith, nat_tests)

pub some_room : (count room : ℕ) → nat_le count room ≡ true → nat_lt room count ≡ false
some_room count room e = grind (arith, nat_tests)

-- What the node did, by the rules.
module _ {D : Type 0} (on : View D) (n : ℕ) (P : Life → D → Life → D → Type 0) (old mid new : Nodes D) (ch : ChangesNode n P old mid) (change : List plain.Slot → List plain.Slot) (only : OnlyTickets on change mid new)
    (a b : WholeNode) (own : a.mail.store.own ≡ n) (is : ch.life' ≡ Up b) (tells : Bool) (w : machine.World) (v : whole_world.World) (seen : mail_world_of v ≡ w) (sound : Stands old.plan v) (maps : AreMaps old.lives.items v.slots)
    (node : plain.Node) (disk : List Record) (there : whole_world.IsUp v n (whole_seen a) disk) (keeps : NodeKeeps disk a.mail) where
  -- a group is open
  pub opened_whole : (before after : D) (done : Grouped) → GroupOpened on old.plan.nodes a before b after done → whole_steps.step_fault old.plan (whole_steps.Step.OpenGroup n) v ≡ None
      → (did : mail_rules.Reaction) → did ≡ record { node = node_seen b.mail; disk = disk ++ promise_records (Some (next_of a)); out = done.letters }
      → LeadsWhole old.plan tells (Ok (said.Grouped done.epoch)) (step.Group n) new.lives.items v (mail_makes.after w n did)
  opened_whole before after done o goes did did_is = record {
    now = end on n P old mid new ch change only a b is w v seen maps disk there v.flying (disk ++ promise_records (Some (next_of a))) done.letters;
    seen = end_seen on n P old mid new ch change only a b is w v seen maps disk there v.flying (disk ++ promise_records (Some (next_of a))) done.letters o.mail.sends did did_is
        ∙ ap (λ fs. mail_makes.after (record w { flying = fs }) n did) (ap (λ (x : machine.World). x.flying) seen);
    maps = end_maps on n P old mid new ch change only a b is w v seen maps disk there v.flying (disk ++ promise_records (Some (next_of a))) done.letters;
    made = (
      goes,
      whole_makes.DoesStep.OpensGroup n refl (whole_makes.Groups.Opens (whole_seen a) disk there
          (ap whole_steps.Said.Grouped (o.epoch ∙ ap (λ k. maps_rules.next_epoch k (node_of a.maps)) own))
          (ap (whole_world.after v n) (o.rule disk keeps ∙ ap (λ k. done_for_maps (whole_seen a) disk (maps_rules.start_group k old.plan.nodes (node_of a.maps) (maps_disk_of disk)) (Some (maps_rules.next_epoch k (node_of a.maps)))
          (reverse (maps_rules.start_group k old.plan.nodes (node_of a.maps) (maps_disk_of disk)).out)) own))),
    );
  }

  -- a group is concluded
  pub concluded_whole : (done : Concluded) → GroupConcluded old.plan.buckets done a b → whole_steps.step_fault old.plan (whole_steps.Step.ConcludeGroup n) v ≡ None
      → (members : ℕ) → members ≡ plain.members_of (node_seen b.mail) → (did : mail_rules.Reaction) → did ≡ record { node = node_seen b.mail; disk = disk ++ promise_records None; out = done.letters }
      → LeadsWhole old.plan tells (Ok (said.Concluded done.epoch members)) (step.Conclude n) new.lives.items v (mail_makes.after w n did)
  concluded_whole done o goes members members_are did did_is =
      let in_order = subst (λ k. Rattle.maps_model.specs.Moves.NodeInOrder k (node_of a.maps) (maps_disk_of disk)) (sym own) (ordered old.plan v sound n (whole_seen a) disk there) in
      let by = o.rule disk keeps in_order in
      let con : maps_rules.Concludes n old.plan.buckets (node_of a.maps) (maps_disk_of disk) by.did = subst (λ k. maps_rules.Concludes k old.plan.buckets (node_of a.maps) (maps_disk_of disk) by.did) own by.concludes in
      let maps_are : node_of b.maps ≡ by.did.node = ap (λ (r : Reaction). r.node.maps) by.left in
      let mail_is : (node_seen b.mail).installed ≡ by.did.node.installed = ap (λ (r : Reaction). r.node.mail.installed) by.left in
      let installed : by.did.node.installed ≡ Some (maps_rules.membership_of con.group con.rows) = ap (λ (r : maps_rules.Reaction). r.node.installed) con.is in
      let epoch_is : done.epoch ≡ con.group.epoch =
      o.epoch.2 ∙ ap (λ (g : OpenGroup). g.epoch) (some_group o.epoch.0 con.group (sym o.epoch.1 ∙ con.opened)) in
      record {
        now = end on n P old mid new ch change only a b is w v seen maps disk there v.flying (disk ++ promise_records None) done.letters;
        seen = end_seen on n P old mid new ch change only a b is w v seen maps disk there v.flying (disk ++ promise_records None) done.letters o.sends did did_is
            ∙ ap (λ fs. mail_makes.after (record w { flying = fs }) n did) (ap (λ (x : machine.World). x.flying) seen);
        maps = end_maps on n P old mid new ch change only a b is w v seen maps disk there v.flying (disk ++ promise_records None) done.letters;
        made = (
          goes,
          whole_makes.DoesStep.ConcludesGroup n refl (record {
            node = whole_seen a;
            disk = disk;
            up = there;
            did = by.did;
            concludes = con;
            said_is = ap (λ e. whole_steps.Said.Concluded e members) epoch_is
                ∙ ap (whole_steps.Said.Concluded con.group.epoch) (members_are ∙ ap plain.members_in (mail_is ∙ installed));
            new_world = ap (whole_world.after v n) by.left;
          }),
        );
      }
    where
      some_group : (x y : OpenGroup) → Some x ≡ Some y → x ≡ y
      some_group x y e = cc

  -- A letter of membership or maps was looked at.
  pub looked_whole : (before after : D) (letter : Letter) → letter.to ≡ n → IsMapsBody letter.body → (thrown : Option Why) (sent : List Letter) → LookedAt on letter a before b after thrown sent
      → (number : ℕ) (keep : Bool) (flies : machine.Flies (mail_world_of v) number) → flies.letter ≡ letter → (left : List Flight) → machine.flies_on (mail_world_of v) number flies keep ≡ left
      → whole_steps.step_fault old.plan (whole_steps.Step.OfMessages (mail_steps.Step.Post number keep)) v ≡ None
      → (what : Said) → Rattle.cluster_world.specs.Seen.whole_said what ≡ said_of (option_map why_seen thrown)
      → (did : mail_rules.Reaction) → did ≡ record { node = node_seen b.mail; disk = disk ++ promise_records (promise_by (node_of a.maps) letter.body); out = sent }
      → LeadsWhole old.plan tells (Ok what) (step.Post number keep) new.lives.items v (mail_makes.after (record w { flying = left }) n did)
  looked_whole before after letter to_is body thrown sent h number keep flies letter_is left left_is goes what what_is did did_is =
      let by = h.rule disk keeps in
      let hears : maps_rules.Hears n (node_of a.maps) (maps_disk_of disk) letter letter.body by.did = subst (λ k. maps_rules.Hears k (node_of a.maps) (maps_disk_of disk) letter letter.body by.did) own by.hears in
      let at : flies.letter.to ≡ n = ap (λ (l : Letter). l.to) letter_is ∙ to_is in
      let now : whole_world.World = end on n P old mid new ch change only a b is w v seen maps disk there left (disk ++ promise_records (promise_by (node_of a.maps) letter.body)) sent in
      record {
        now = now;
        seen = end_seen on n P old mid new ch change only a b is w v seen maps disk there left (disk ++ promise_records (promise_by (node_of a.maps) letter.body)) sent h.mail.sends did did_is;
        maps = end_maps on n P old mid new ch change only a b is w v seen maps disk there left (disk ++ promise_records (promise_by (node_of a.maps) letter.body)) sent;
        made = (
          goes,
          whole_makes.DoesStep.PostsMaps number keep refl (whole_makes.HearsMaps.Hears flies (whole_seen a) disk (subst (λ k. whole_world.IsUp v k (whole_seen a) disk) (sym at) there)
              (subst (λ (l : Letter). IsMapsBody l.body) (sym letter_is) body)
              (subst (λ (l : Letter). is_stale l (node_seen a.mail).installed ≡ false) (sym letter_is) h.within)
              by.did
              (subst (λ (l : Letter). maps_rules.Hears l.to (node_of a.maps) (maps_disk_of disk) l l.body by.did) (sym letter_is)
              (subst (λ k. maps_rules.Hears k (node_of a.maps) (maps_disk_of disk) letter letter.body by.did) (sym to_is) hears))
              (what_is ∙ ap said_of (h.refused ∙ ap (λ k. refused_by k (node_of a.maps) letter.body) (own ∙ sym to_is)) ∙ ap (λ (l : Letter). said_of (refused_by l.to (node_of a.maps) l.body)) (sym letter_is))
              (new_is by.did by.left at)),
        );
      }
    where
      new_is : (r : maps_rules.Reaction) → record { node = whole_seen b; disk = disk ++ promise_records (promise_by (node_of a.maps) letter.body); out = sent }
          ≡ done_for_maps (learnt (whole_seen a) letter.body) disk r (promise_by (node_of a.maps) letter.body) r.out → flies.letter.to ≡ n
          → end on n P old mid new ch change only a b is w v seen maps disk there left (disk ++ promise_records (promise_by (node_of a.maps) letter.body)) sent
          ≡ whole_world.after (record v { flying = machine.flies_on (mail_world_of v) number flies keep }) flies.letter.to
          (done_for_maps (learnt (whole_seen a) flies.letter.body) disk r (promise_by (node_of a.maps) flies.letter.body) r.out)
      new_is r by_left at =
          ap (whole_world.after (record v { flying = left }) n) by_left
          ∙ ap (λ fs. whole_world.after (record v { flying = fs }) n (done_for_maps (learnt (whole_seen a) letter.body) disk r (promise_by (node_of a.maps) letter.body) r.out)) (sym left_is)
          ∙ ap (λ k. whole_world.after (record v { flying = machine.flies_on (mail_world_of v) number flies keep }) k (done_for_maps (learnt (whole_seen a) letter.body) disk r (promise_by (node_of a.maps) letter.body) r.out)) (sym at)
          ∙ ap (λ (l : Letter). whole_world.after (record v { flying = machine.flies_on (mail_world_of v) number flies keep }) flies.letter.to (done_for_maps (learnt (whole_seen a) l.body) disk r (promise_by (node_of a.maps) l.body) r.out)) (sym letter_is)

-- The node went down in it.
module _ {D : Type 0} (on : View D) (n : ℕ) (P : Life → D → Life → D → Type 0) (old mid new : Nodes D) (ch : ChangesNode n P old mid) (change : List plain.Slot → List plain.Slot) (only : OnlyTickets on change mid new)
    (a : WholeNode) (never : (node : WholeNode) → ch.life' ≡ Up node → ⊥) (tells : Bool) (w : machine.World) (v : whole_world.World) (seen : mail_world_of v ≡ w) (maps : AreMaps old.lives.items v.slots)
    (disk : List Record) (there : whole_world.IsUp v n (whole_seen a) disk) (promise : Option EpochId) (front pending missing : List Record) (one : length pending ≤ 1)
    (cut : promise_records promise ≡ (front ++ pending) ++ missing) where
  abbrev pub fell : whole_world.World
  fell = whole_world.cut_world v n disk front pending

  fell_maps : AreMaps new.lives.items fell.slots
  fell_maps = tickets_maps on change mid new only fell.slots
      (put_maps n P old mid ch v maps (whole_world.slot_up (whole_seen a) disk) (record { life = whole.Life.Down pending; disk = disk ++ front }) there (λ node x up life_is. absurd (never node up)))

  fell_seen : mail_world_of fell ≡ mail_makes.cut_world w n disk front pending
  fell_seen = cut_seen v n disk front pending ∙ ap (λ (x : machine.World). mail_makes.cut_world x n disk front pending) seen

  fell_goes : whole_makes.NodeGoesDown v n disk (promise_records promise) fell
  fell_goes = record { front = front; pending = pending; missing = missing; one = one; cut = cut; is = refl }

  -- its disk failed as it promised the epoch of its group
  pub open_fails : promise ≡ Some (maps_rules.next_epoch n (node_of a.maps)) → whole_steps.step_fault old.plan (whole_steps.Step.OpenGroup n) v ≡ None
      → LeadsWhole old.plan tells (Ok (said.Faulted n)) (step.Group n) new.lives.items v (mail_makes.cut_world w n disk front pending)
  open_fails is goes = record {
    now = fell;
    seen = fell_seen;
    maps = fell_maps;
    made = (goes, whole_makes.DoesStep.OpensGroup n refl (whole_makes.Groups.FailsOpening (whole_seen a) disk there refl (subst (λ p. whole_makes.NodeGoesDown v n disk (promise_records p) fell) is fell_goes)));
  }

  -- or memory ran out
  pub open_short : promise ≡ Some (maps_rules.next_epoch n (node_of a.maps)) → LeadsWhole old.plan tells (Err (fault.NoMemory (Some n))) (step.Group n) new.lives.items v (mail_makes.cut_world w n disk front pending)
  open_short is = record {
    now = fell;
    seen = fell_seen;
    maps = fell_maps;
    made = whole_makes.RunsShort.Promising (whole_seen a) disk promise there (inl (refl, is)) fell_goes;
  }

  pub conclude_short : promise ≡ None → LeadsWhole old.plan tells (Err (fault.NoMemory (Some n))) (step.Conclude n) new.lives.items v (mail_makes.cut_world w n disk front pending)
  conclude_short is = record {
    now = fell;
    seen = fell_seen;
    maps = fell_maps;
    made = whole_makes.RunsShort.Promising (whole_seen a) disk promise there (inr (inl (refl, is))) fell_goes;
  }

  module _ (number : ℕ) (keep : Bool) (letter : Letter) (to_is : letter.to ≡ n) (body : IsMapsBody letter.body) (within : is_stale letter (node_seen a.mail).installed ≡ false)
      (flies : machine.Flies (mail_world_of v) number) (letter_is : flies.letter ≡ letter) (is : promise ≡ promise_by (node_of a.maps) letter.body) where
    at : flies.letter.to ≡ n
    at = ap (λ (l : Letter). l.to) letter_is ∙ to_is

    body_there : IsMapsBody flies.letter.body
    body_there = subst (λ (l : Letter). IsMapsBody l.body) (sym letter_is) body

    within_there : is_stale flies.letter (node_seen a.mail).installed ≡ false
    within_there = subst (λ (l : Letter). is_stale l (node_seen a.mail).installed ≡ false) (sym letter_is) within

    promise_there : promise ≡ promise_by (node_of a.maps) flies.letter.body
    promise_there = is ∙ ap (λ (l : Letter). promise_by (node_of a.maps) l.body) (sym letter_is)

    -- so it is of a letter that it heard
    pub hear_fails : (left : List Flight) → machine.flies_on (mail_world_of v) number flies keep ≡ left → whole_steps.step_fault old.plan (whole_steps.Step.OfMessages (mail_steps.Step.Post number keep)) v ≡ None
        → LeadsWhole old.plan tells (Ok (said.Faulted n)) (step.Post number keep) new.lives.items v (record (mail_makes.cut_world w n disk front pending) { flying = left })
    hear_fails left left_is goes = record {
      now = record fell { flying = left };
      seen = ap (λ (x : machine.World). record x { flying = left }) fell_seen;
      maps = fell_maps;
      made = (
        goes,
        whole_makes.DoesStep.PostsMaps number keep refl (whole_makes.HearsMaps.FailsHearing flies (whole_seen a) disk (subst (λ k. whole_world.IsUp v k (whole_seen a) disk) (sym at) there) body_there within_there
            (ap (λ k. whole_steps.Said.Told (mail_steps.Said.Faulted k)) (sym at)) fell
            (subst (λ k. whole_makes.NodeGoesDown v k disk (promise_records (promise_by (node_of a.maps) flies.letter.body)) fell) (sym at)
            (subst (λ p. whole_makes.NodeGoesDown v n disk (promise_records p) fell) promise_there fell_goes))
            (ap (λ fs. record fell { flying = fs }) (sym left_is))),
      );
    }

    pub hear_short : LeadsWhole old.plan tells (Err (fault.NoMemory (Some n))) (step.Post number keep) new.lives.items v (mail_makes.cut_world w n disk front pending)
    hear_short = record {
      now = fell;
      seen = fell_seen;
      maps = fell_maps;
      made = whole_makes.RunsShort.Promising (whole_seen a) disk promise there (inr (inr (number, keep, flies, refl, at, body_there, within_there, promise_there))) fell_goes;
    }
