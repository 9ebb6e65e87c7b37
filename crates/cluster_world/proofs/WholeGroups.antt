-- What is refused of an opening and a conclusion of a group, in the whole world.
use Rattle.std.proofs.Common.{◌≡◌, inl, ℕ, ◌-◌, Bool, true, false, nat_le, List, [], ◌∷◌, Option, Some, None, refl, sym, ap, ◌∙◌}
use Rattle.std.specs.Prelude.{nat_lt, option_map}
use Rattle.std.specs.List.{list_all}
use Rattle.mail_model.specs.Record.{Record}
use Rattle.cluster_model.specs.Cluster as plain
use Rattle.cluster_model.specs.Steps as steps
use Rattle.cluster_model.specs.Steps.{is_node, letters_end}
use Rattle.cluster_model.specs.World as machine
use Rattle.membership.specs.Groups.{joins_in}
use Rattle.maps_model.specs.Cluster.{OpenGroup}
use Rattle.whole_world.specs.Makes as whole_makes
use Rattle.whole_world.specs.Steps as whole_steps
use Rattle.whole_world.specs.Steps.{room_left}
use Rattle.whole_world.specs.World as whole_world
use Rattle.whole_world.specs.World.{mail_world_of}
use Rattle.node_maps.specs.Nodes.{node_of}
use Rattle.node_store.specs.Disks.{View}
use Rattle.whole_node.specs.Nodes.{whole_seen}
use Rattle.whole_node.specs.declared.node.WholeNode.{WholeNode}
use Rattle.world_book.specs.declared.book.Book.{Book}
use Rattle.cluster_world.specs.Flights.{InFlight}
use Rattle.cluster_world.specs.Forms.{has_used_up, joins_at}
use Rattle.cluster_world.specs.Lives.{of_node}
use Rattle.cluster_world.specs.Maps.{AreMaps}
use Rattle.cluster_world.specs.Seen.{whole_step, whole_fault}
use Rattle.cluster_world.specs.Turns.{life_refusal, node_refusal}
use Rattle.cluster_world.specs.Worlds.{WorldState, life_among, state_with, tells_in, StateStandsFor}
use Rattle.cluster_world.specs.declared.fault.StepFault.{StepFault}
use Rattle.cluster_world.specs.declared.fault.StepFault.TheVariants as fault
use Rattle.cluster_world.specs.declared.life.Life.{Life}
use Rattle.cluster_world.specs.declared.life.Life.TheVariants.{Up}
use Rattle.cluster_world.specs.declared.nodes.Nodes.{Nodes}
use Rattle.cluster_world.specs.declared.step.Step.{Step}
use Rattle.cluster_world.specs.declared.step.Step.TheVariants as step
use Rattle.cluster_world.proofs.Still.{some_same}
use Rattle.cluster_world.proofs.Turned.{slot_of}
use Rattle.cluster_world.proofs.Refusing.{fit_of}
use Rattle.cluster_world.proofs.Asked.{disk_of}
use Rattle.cluster_world.proofs.AfterWidening.{up_of}
use Rattle.cluster_world.proofs.WholeFaults.{group_fits, conclude_fits}
use Rattle.cluster_world.proofs.WholeForms.{up_whole, open_faults, open_is, conclude_faults, conclude_is, no_room}
use Rattle.cluster_world.proofs.Wholly.{even_of}

module _ {D : Type 0} (on : View D) (n : ℕ) (old : Nodes D) (flying : InFlight) (seconds : ℕ) (book : Book) where
  abbrev before : WorldState D
  before = state_with old flying seconds book

  -- the whole machine refuses it so
  abbrev pub RefusesTo : Step → StepFault → Type 0
  RefusesTo s why = (w : machine.World) → StateStandsFor on before w → (v : whole_world.World) → mail_world_of v ≡ w → AreMaps old.lives.items v.slots
      → whole_makes.MakesStep old.plan (tells_in on.seen before) v (whole_step s) (whole_fault why) v

  module _ (w : machine.World) (st : StateStandsFor on before w) (v : whole_world.World) (seen : mail_world_of v ≡ w) where
    pub late_is : (late : Bool) → nat_le letters_end flying.sent ≡ late → nat_le letters_end v.sent ≡ late
    late_is late e = ap (λ (x : machine.World). nat_le letters_end x.sent) seen ∙ ap (nat_le letters_end) (sym st.sent) ∙ e

    crowded_is : (count : ℕ) (crowded : Bool) → nat_lt (room_left flying.flights) count ≡ crowded → nat_lt (room_left v.flying) count ≡ crowded
    crowded_is count crowded e = ap (λ (x : machine.World). nat_lt (room_left x.flying) count) seen ∙ ap (λ fs. nat_lt (room_left fs) count) (sym st.flying) ∙ e

    module _ (maps : AreMaps old.lives.items v.slots) (a : WholeNode) (here : of_node old.lives.items n ≡ Some (Up a)) where
      -- the node in the whole world
      pub record Stood : Type 0 where
        pub disk : List Record
        pub there : whole_world.IsUp v n (whole_seen a) disk

      pub stood : Stood
      stood =
          let (d, held) = disk_of old.disks.items old.lives.items n (Up a) (old.all ∙ sym old.disk_each) here in
          let (slot, at, stands) = slot_of on old.lives.items old.disks.items w.slots n (Up a) d st.slots here held in
          let (node, is, s) = stands in
          record { disk = slot.disk; there = up_whole old.lives.items w v seen maps n a node slot.disk here (at ∙ ap (λ l. Some (record { life = l; disk = slot.disk })) is) (sym s.seen_is) }

      -- what stands against an opening of a group
      pub group_faults : node_refusal old.plan (life_among old) (step.Group n) ≡ None → (disk : List Record) → whole_world.IsUp v n (whole_seen a) disk → (late used crowded : Bool) → nat_le letters_end flying.sent ≡ late
          → has_used_up (Up a) ≡ used → nat_lt (room_left flying.flights) (old.plan.nodes - 1) ≡ crowded → whole_steps.step_fault old.plan (whole_steps.Step.OpenGroup n) v ≡ open_faults late used crowded
      group_faults fit disk there late used crowded p q r = open_is old.plan v n a disk there (group_fits on old.plan before (even_of old) old.all w st v seen n _ fit) late used crowded (late_is late p) q (crowded_is (old.plan.nodes - 1) crowded r)

      -- and against a conclusion
      pub conclude_faults_are : node_refusal old.plan (life_among old) (step.Conclude n) ≡ None → (disk : List Record) → whole_world.IsUp v n (whole_seen a) disk → (group : Option OpenGroup) (late crowded : Bool)
          → (node_of a.maps).group ≡ group → nat_le letters_end flying.sent ≡ late → nat_lt (room_left flying.flights) (whole_steps.group_size group - 1) ≡ crowded
          → whole_steps.step_fault old.plan (whole_steps.Step.ConcludeGroup n) v ≡ conclude_faults group late crowded
      conclude_faults_are fit disk there group late crowded g p r =
          conclude_is old.plan v n a disk there (conclude_fits on old.plan before (even_of old) old.all w st v seen n _ fit) group late crowded g (late_is late p) (crowded_is (whole_steps.group_size group - 1) crowded r)

  -- a group is refused
  module _ (fit : node_refusal old.plan (life_among old) (step.Group n) ≡ None) where
    group_up : (a : WholeNode) × (of_node old.lives.items n ≡ Some (Up a))
    group_up = up_of (step.Group n) (of_node old.lives.items n) tt (fit_of (list_all (is_node old.plan) (n ∷ [])) (life_refusal (step.Group n) (life_among old n)) fit).1

    pub group_worn : nat_le letters_end flying.sent ≡ true → RefusesTo (step.Group n) fault.Worn
    group_worn late w st v seen maps =
        let (a, here) = group_up in
        let s = stood w st v seen maps a here in
        (inl (group_faults w st v seen maps a here fit s.disk s.there true (has_used_up (Up a)) (nat_lt (room_left flying.flights) (old.plan.nodes - 1)) late refl refl), refl)

    pub group_used : nat_le letters_end flying.sent ≡ false → (life : Life) → of_node old.lives.items n ≡ Some life → has_used_up life ≡ true → RefusesTo (step.Group n) fault.Worn
    group_used early life at used w st v seen maps =
        let (a, here) = group_up in
        let s = stood w st v seen maps a here in
        let is : life ≡ Up a = some_same life (Up a) (sym at ∙ here) in
        (inl (group_faults w st v seen maps a here fit s.disk s.there false true (nat_lt (room_left flying.flights) (old.plan.nodes - 1)) early (ap has_used_up (sym is) ∙ used) refl), refl)

    pub group_crowded : nat_le letters_end flying.sent ≡ false → (life : Life) → of_node old.lives.items n ≡ Some life → has_used_up life ≡ false → nat_le (old.plan.nodes - 1) (room_left flying.flights) ≡ false
        → RefusesTo (step.Group n) fault.NoRoom
    group_crowded early life at fresh crowded w st v seen maps =
        let (a, here) = group_up in
        let s = stood w st v seen maps a here in
        let is : life ≡ Up a = some_same life (Up a) (sym at ∙ here) in
        (inl (group_faults w st v seen maps a here fit s.disk s.there false false true early (ap has_used_up (sym is) ∙ fresh) (no_room (old.plan.nodes - 1) (room_left flying.flights) crowded)), refl)

  -- and a conclusion
  module _ (fit : node_refusal old.plan (life_among old) (step.Conclude n) ≡ None) where
    conclude_up : (a : WholeNode) × (of_node old.lives.items n ≡ Some (Up a))
    conclude_up = up_of (step.Conclude n) (of_node old.lives.items n) tt (fit_of (list_all (is_node old.plan) (n ∷ [])) (life_refusal (step.Conclude n) (life_among old n)) fit).1

    -- how many joined the open group
    pub joined_group : (group : Option OpenGroup) (joins : ℕ) → option_map joins_in group ≡ Some joins → (g : OpenGroup) × (group ≡ Some g) × (whole_steps.group_size (Some g) ≡ joins)
    joined_group None joins e = absurd (let never : None ≡ Some joins = e in cc)
    joined_group (Some g) joins e = (g, refl, some_same (whole_steps.group_size (Some g)) joins e)

    no_group : (group : Option OpenGroup) → option_map joins_in group ≡ None → group ≡ None
    no_group None e = refl
    no_group (Some g) e = absurd (let never : Some (whole_steps.group_size (Some g)) ≡ None = e in cc)

    pub conclude_none : (life : Life) → of_node old.lives.items n ≡ Some life → joins_at life ≡ None → RefusesTo (step.Conclude n) fault.NotAGroup
    conclude_none life at none w st v seen maps =
        let (a, here) = conclude_up in
        let s = stood w st v seen maps a here in
        let is : life ≡ Up a = some_same life (Up a) (sym at ∙ here) in
        (inl (conclude_faults_are w st v seen maps a here fit s.disk s.there None (nat_le letters_end flying.sent) (nat_lt (room_left flying.flights) (0 - 1)) (no_group (node_of a.maps).group (ap joins_at (sym is) ∙ none)) refl refl), refl)

    pub conclude_worn : (life : Life) → of_node old.lives.items n ≡ Some life → (joins : ℕ) → joins_at life ≡ Some joins → nat_le letters_end flying.sent ≡ true → RefusesTo (step.Conclude n) fault.Worn
    conclude_worn life at joins some late w st v seen maps =
        let (a, here) = conclude_up in
        let s = stood w st v seen maps a here in
        let is : life ≡ Up a = some_same life (Up a) (sym at ∙ here) in
        let (g, group_is, size) = joined_group (node_of a.maps).group joins (ap joins_at (sym is) ∙ some) in
        (inl (conclude_faults_are w st v seen maps a here fit s.disk s.there (Some g) true (nat_lt (room_left flying.flights) (whole_steps.group_size (Some g) - 1)) group_is late refl), refl)

    pub conclude_crowded : (life : Life) → of_node old.lives.items n ≡ Some life → (joins : ℕ) → joins_at life ≡ Some joins → nat_le letters_end flying.sent ≡ false → nat_le (joins - 1) (room_left flying.flights) ≡ false
        → RefusesTo (step.Conclude n) fault.NoRoom
    conclude_crowded life at joins some early crowded w st v seen maps =
        let (a, here) = conclude_up in
        let s = stood w st v seen maps a here in
        let is : life ≡ Up a = some_same life (Up a) (sym at ∙ here) in
        let (g, group_is, size) = joined_group (node_of a.maps).group joins (ap joins_at (sym is) ∙ some) in (
          inl (conclude_faults_are w st v seen maps a here fit s.disk s.there (Some g) false true group_is early
              (ap (λ k. nat_lt (room_left flying.flights) (k - 1)) size ∙ no_room (joins - 1) (room_left flying.flights) crowded)),
          refl,
        )
