-- A node that reports to another, as their manager: what comes of the step.
use Rattle.std.proofs.Common.{◌≡◌, ◌≢◌, ◌⊎◌, inl, inr, ⊎_elim, ℕ, zero, suc, ◌+◌, ◌≤◌, ◌<◌, Bool, true, false, ◌&&◌, nat_le, List, [], ◌∷◌, ◌++◌, length, map, Option, Some, None, Result, Ok, Err, refl, sym, ap, ◌∙◌, subst, arith, true≢false, append-nil, if◌then◌else◌}
use Rattle.std.specs.Prelude.{MatchBool, IfOk, IfErr, IsTrue, ◌↔◌, All, min, take, option_map, slice_get, slice_set}
use Rattle.std.specs.List.{list_all, filter}
use Rattle.mail_model.specs.Plan.{Plan}
use Rattle.mail_model.specs.Record.{Record}
use Rattle.object_model.specs.Lists.{Among}
use Rattle.object_model.specs.Letters.{Membership, Letter}
use Rattle.cluster_model.specs.Cluster as plain
use Rattle.cluster_model.specs.Forms.{IsPlainMaps}
use Rattle.cluster_model.specs.Makes.{after}
use Rattle.cluster_model.specs.Rules as mail_rules
use Rattle.cluster_model.specs.Steps as steps
use Rattle.cluster_model.specs.Steps.{is_node, letters_end}
use Rattle.cluster_model.specs.World as machine
use Rattle.maps_model.specs.Cluster as maps
use Rattle.maps_model.specs.Rules as maps_rules
use Rattle.whole_model.specs.Whole as whole
use Rattle.whole_model.specs.Whole.{maps_disk_of}
use Rattle.whole_model.specs.Rules.{promise_records}
use Rattle.whole_world.specs.Laws.{Stands}
use Rattle.whole_world.specs.Makes as whole_makes
use Rattle.whole_world.specs.Makes.{done_for_maps}
use Rattle.whole_world.specs.Reporting as whole_reporting
use Rattle.whole_world.specs.Steps as whole_steps
use Rattle.whole_world.specs.Steps.{room_left, most_reports, most_at_once, is_due, AreFirstDue, HasDue, HasNoneDue}
use Rattle.whole_world.specs.World as whole_world
use Rattle.whole_world.specs.World.{mail_world_of, Reaction}
use Rattle.whole_world.proofs.FirstDue.{found_due}
use Rattle.map_rebuild.specs.Rows.{marked_users}
use Rattle.node_store.specs.Disks.{View}
use Rattle.node_core.specs.Installing.{HasInstalled}
use Rattle.node_core.specs.Nodes.{node_seen, NodeKeeps, CanWork}
use Rattle.node_maps.specs.Nodes.{node_of}
use Rattle.whole_node.specs.Nodes.{whole_seen, HasMaps, WholeWorks}
use Rattle.whole_node.specs.Reporting.{users_first, ReportedBy, ReportsTo}
use Rattle.whole_node.specs.declared.node.WholeNode.{WholeNode}
use Rattle.whole_node.proofs.Forming.{installed_forms}
use Rattle.world_book.specs.Books.{entries_of}
use Rattle.world_book.specs.declared.book.Book.{Book}
use Rattle.cluster_world.specs.Changes.{ChangesNode}
use Rattle.cluster_world.specs.Flights.{InFlight, put_down, taken_out}
use Rattle.cluster_world.specs.Forming.{learns_nothing, forms_rule, HasFormed}
use Rattle.cluster_world.specs.Hears.{AllCanBeHeard}
use Rattle.cluster_world.specs.Lives.{of_node, with_node_at, all_falls_left, CanWorkOn}
use Rattle.cluster_world.specs.Maps.{AreMaps}
use Rattle.cluster_world.specs.Missing.{OnlyTickets, SentOff, all_missed}
use Rattle.object_model.specs.Mishaps.MishapKind.{Crowded}
use Rattle.cluster_world.specs.Reports.{IsUpMapped, LacksRoomAt, ReportsAt, TellsRowsAt}
use Rattle.cluster_world.specs.Steps.{StepDid, LeadsWhole, AreSettled}
use Rattle.cluster_world.specs.Turns.{life_refusal, node_refusal}
use Rattle.cluster_world.specs.Worlds.{WorldState, life_among, state_with, tells_in, StateStandsFor}
use Rattle.cluster_world.specs.declared.life.Life.{Life}
use Rattle.cluster_world.specs.declared.life.Life.TheVariants.{Up}
use Rattle.cluster_world.specs.declared.nodes.Nodes.{Nodes}
use Rattle.cluster_world.specs.declared.step.Step.{Step}
use Rattle.cluster_world.specs.declared.step.Step.TheVariants as step
use Rattle.cluster_world.specs.declared.step.Said.{Said}
use Rattle.cluster_world.specs.declared.step.Said.TheVariants as said
use Rattle.cluster_world.specs.declared.fault.StepFault.{StepFault}
use Rattle.cluster_world.specs.declared.fault.StepFault.TheVariants as fault
use Rattle.cluster_world.proofs.AfterWidening.{up_of}
use Rattle.cluster_world.proofs.AfterWork.{AreThese, WorkSent}
use Rattle.cluster_world.proofs.Asked.{ready_of, disk_of}
use Rattle.cluster_world.proofs.Changing.{set_same}
use Rattle.cluster_world.proofs.Grouping.{can_be_heard, IsForming, IsFormed, form_worn, form_crowded, formed_did}
use Rattle.cluster_world.proofs.Kept.{only_settled}
use Rattle.cluster_world.proofs.Refusing.{fit_of}
use Rattle.cluster_world.proofs.Same.{none_done}
use Rattle.cluster_world.proofs.Still.{some_same}
use Rattle.cluster_world.proofs.WholeFaults.{report_fits}
use Rattle.cluster_world.proofs.WholeForms.{up_whole, end, end_seen, end_maps}
use Rattle.cluster_world.proofs.WholeGroups.{RefusesTo, stood, late_is}
use Rattle.cluster_world.proofs.Wholly.{even_of}
use Rattle.cluster_world.proofs.Beside.{OwnKept, kept_same}
use Rattle.cluster_world.specs.Keeping.{HasSameReads}

with_same : {X : Type 0} (xs : List X) (n : ℕ) (x : X) → of_node xs n ≡ Some x → with_node_at xs n x ≡ xs
with_same xs zero x e = absurd (let never : None ≡ Some x = e in cc)
with_same xs (suc k) x e = set_same xs k x e

slot_again : (slots : List whole.Slot) (n : ℕ) (slot : whole.Slot) → whole.slot_at slots n ≡ Some slot → whole.with_slot slots n slot ≡ slots
slot_again slots zero slot e = absurd (let never : None ≡ Some slot = e in cc)
slot_again slots (suc k) slot e = set_same slots k slot e

as_many : {X Y : Type 0} (f : X → Y) (xs : List X) → length (map f xs) ≡ length xs
as_many f [] = refl
as_many f (x ∷ xs) = ap suc (as_many f xs)

some_long : (n : ℕ) → 0 < n → n ≢ 0
some_long n h e = omega (arith, h, e)

none_or : (b : Bool) → (b ≡ true → ⊥) → b ≡ false
none_or true never = absurd (never refl)
none_or false never = refl

above_or : (n : ℕ) → (n ≡ 0) ⊎ (0 < n)
above_or zero = inl refl
above_or (suc n) = inr (omega arith)

module _ {D : Type 0} (on : View D) where
  pub report_forms : (from to : ℕ) → IsForming on from (step.Report from to)
  report_forms from to = record {
    seen = refl;
    named = λ plan lives fit. first_named plan (is_node plan from) (is_node plan to) (life_refusal (step.Report from to) (lives from)) fit;
    clock = λ result was. refl;
    passed = λ it old new. tt;
    asks = tt;
    for = λ v. tt;
  }
    where
      first_named : (plan : Plan) (b c : Bool) (o : Option StepFault) → (if b && (c && true) then o else Some fault.NoSuchNode) ≡ None → (b && true) ≡ true
      first_named plan true c o e = refl
      first_named plan false c o e = absurd (let never : Some fault.NoSuchNode ≡ None = e in cc)

  -- what it says where it was done
  pub report_formed : (from to count : ℕ) → IsFormed on (step.Report from to) (said.Sent count)
  report_formed from to count = record { says = tt; goes_on = λ m was. refl; falls = λ nodes lives. tt; cause = λ old new. tt; of_forming = tt }

  module _ (from to : ℕ) (old : Nodes D) (fit : node_refusal old.plan (life_among old) (step.Report from to) ≡ None) (ready : CanWorkOn on.seen old.plan old.lives.items old.disks.items) where
    pub report_up : (a : WholeNode) × (of_node old.lives.items from ≡ Some (Up a))
    report_up = up_of (step.Report from to) (of_node old.lives.items from) tt (fit_of (list_all (is_node old.plan) (from ∷ to ∷ [])) (life_refusal (step.Report from to) (life_among old from)) fit).1

    record Works (a : WholeNode) : Type 0 where
      disk : D
      held : of_node old.disks.items from ≡ Some disk
      own : a.mail.store.own ≡ from
      works : WholeWorks (on.seen disk) a

    works_of : (a : WholeNode) → of_node old.lives.items from ≡ Some (Up a) → Works a
    works_of a up =
        let (disk, held) = disk_of old.disks.items old.lives.items from (Up a) (old.all ∙ sym old.disk_each) up in
        let r = ready_of on.seen old.plan old.lives.items old.disks.items ready from a disk up held in
        record { disk = disk; held = held; own = r.0.own_is; works = r.1 }

    -- the node is up, with its maps
    pub report_mapped : (life : Life) → of_node old.lives.items from ≡ Some life → IsUpMapped life
    report_mapped life there =
        let (a, up) = report_up in
        record { node = a; up = some_same life (Up a) (sym there ∙ up); maps = (works_of a up).works.maps }

    -- the node of that life
    node_there : (life : Life) → of_node old.lives.items from ≡ Some life → (node : WholeNode) → life ≡ Up node → of_node old.lives.items from ≡ Some (Up node)
    node_there life there node is = there ∙ ap Some is

    -- whatever was sent, each node that is up can work, and as many falls are left
    pub report_works : (items : List Letter) (new : Nodes D) (flying flying' : InFlight) (result : Result Said StepFault) → IfOk result (λ s. (s ≡ said.Sent (length items)) × SentOff on old.plan items None flying flying' old new)
        → IfErr result (λ why. (why ≡ fault.NoMemory None) × (flying' ≡ flying) × (new ≡ old)) → CanWorkOn on.seen new.plan new.lives.items new.disks.items
    report_works items new flying flying' (Ok s) ok err = subst (λ p. CanWorkOn on.seen p new.lives.items new.disks.items) (sym ok.1.noticed.only.plan) ok.1.noticed.works
    report_works items new flying flying' (Err why) ok err = subst (λ (x : Nodes D). CanWorkOn on.seen x.plan x.lives.items x.disks.items) (sym err.2) ready

    pub report_falls : (items : List Letter) (new : Nodes D) (flying flying' : InFlight) (result : Result Said StepFault) → IfOk result (λ s. (s ≡ said.Sent (length items)) × SentOff on old.plan items None flying flying' old new)
        → IfErr result (λ why. (why ≡ fault.NoMemory None) × (flying' ≡ flying) × (new ≡ old)) → all_falls_left new.lives.items ≡ all_falls_left old.lives.items
    report_falls items new flying flying' (Ok s) ok err = ok.1.noticed.only.falls
    report_falls items new flying flying' (Err why) ok err = ap (λ (x : Nodes D). all_falls_left x.lives.items) err.2

    module _ (flying : InFlight) (seconds : ℕ) (book : Book) where
      abbrev before : WorldState D
      before = state_with old flying seconds book

      module _ (w : machine.World) (st : StateStandsFor on before w) (v : whole_world.World) (seen : mail_world_of v ≡ w) where
        -- the whole machine has no other fault of it than that numbers are worn
        fault_is : (late : Bool) → nat_le letters_end flying.sent ≡ late
            → whole_steps.step_fault old.plan (whole_steps.Step.ReportTo from to) v ≡ whole_steps.first_refusal (option_map whole_steps.StepFault.Fault (if late then Some steps.StepFault.Worn else None) ∷ [])
        fault_is late e =
            report_fits on old.plan before (even_of old) old.all w st v seen from to (option_map whole_steps.StepFault.Fault (whole_steps.letters_worn v) ∷ []) fit
            ∙ ap (λ (b : Bool). whole_steps.first_refusal (option_map whole_steps.StepFault.Fault (if b then Some steps.StepFault.Worn else None) ∷ [])) (late_is on from old flying seconds book w st v seen late e)

        room_is : room_left v.flying ≡ room_left flying.flights
        room_is = ap (λ (x : machine.World). room_left x.flying) seen ∙ ap room_left (sym st.flying)

      pub report_worn : nat_le letters_end flying.sent ≡ true → StepDid on (Err fault.Worn) (step.Report from to) before before
      report_worn late = form_worn on from (step.Report from to) (report_forms from to) old fit ready flying seconds book (λ w st v seen maps. (inl (fault_is w st v seen true late), refl))

      pub report_crowded : nat_le letters_end flying.sent ≡ false → (life : Life) → of_node old.lives.items from ≡ Some life → (room : ℕ) → room ≡ room_left flying.flights → LacksRoomAt to room true life
          → StepDid on (Err fault.NoRoom) (step.Report from to) before before
      report_crowded early life there room room_made lacks = form_crowded on from (step.Report from to) (report_forms from to) old fit ready flying seconds book (λ w st v seen maps.
          let up = node_there life there lacks.node lacks.up in
          let s = stood on from old flying seconds book w st v seen maps lacks.node up in
          let due : HasDue from to (node_of lacks.node.maps) = subst (λ k. HasDue k to (node_of lacks.node.maps)) (works_of lacks.node up).own lacks.is.0 in (
            inr (inr (inl (
              fault_is w st v seen false early,
              refl,
              record { node = whole_seen lacks.node; disk = s.disk; up = s.there; due = due; full = room_is w st v seen ∙ sym room_made ∙ lacks.is.1 },
            ))),
            refl,
          ))

      -- what the step came to
      pub record Ended (is_settled : D → Type 0) (result : Result Said StepFault) (new : Nodes D) (flying' : InFlight) : Type 0 where
        pub did : StepDid on result (step.Report from to) before (state_with new flying' seconds book)
        pub settled : AreSettled is_settled before → AreSettled is_settled (state_with new flying' seconds book)

      -- The rows go out.
      module _ (early : nat_le letters_end flying.sent ≡ false) (life : Life) (there : of_node old.lives.items from ≡ Some life) (room : ℕ) (room_made : room ≡ room_left flying.flights) (lacks : LacksRoomAt to room false life)
          (letters : List Letter) (r : ReportsAt to room letters life) where
        abbrev a : WholeNode
        a = r.node

        up : of_node old.lives.items from ≡ Some (Up a)
        up = node_there life there a r.up

        wk : Works a
        wk = works_of a up

        letters_heard : AllCanBeHeard letters
        letters_heard = can_be_heard letters r.reports.taken r.reports.fits

        -- nothing is changed at the node
        abbrev Same : Life → D → Life → D → Type 0
        Same = AreThese (Up a) (Up a) wk.disk wk.disk

        abbrev ch : ChangesNode from Same old old
        ch = record {
          life = Up a;
          disk = wk.disk;
          life' = Up a;
          disk' = wk.disk;
          plan = refl;
          was = up;
          held = wk.held;
          lives_are = sym (with_same old.lives.items from (Up a) up);
          disks_are = sym (with_same old.disks.items from wk.disk wk.held);
          does = record { life_was = refl; disk_was = refl; life_is = refl; disk_is = refl };
        }

        kept : HasInstalled (node_seen a.mail).installed a.mail a.mail
        kept = record {
          seen = refl;
          store = refl;
          numbers = refl;
          tickets = refl;
          same = λ plan own is. is;
          keeps = λ records k. k;
          works = λ seen k. k;
          whole = λ k. k;
          end_is = refl;
        }

        abbrev h : HasFormed on learns_nothing a.mail wk.disk a.mail wk.disk letters
        h = record {
          installed = (node_seen a.mail).installed;
          promise = None;
          did = (installed_forms on (node_seen a.mail).installed a.mail wk.disk a.mail letters wk.works.mail kept r.reports.taken r.reports.plain).did;
          plain = r.reports.plain;
        }

        own_kept : OwnKept ch.life ch.life'
        own_kept b is = kept_same a b (subst (HasSameReads a) (the_same b is) (record { reads = refl; locks = refl })) (ap (λ (x : WholeNode). node_of x.maps) (sym (the_same b is)))
          where
            the_same : (b : WholeNode) → Up a ≡ Up b → a ≡ b
            the_same b e = cc

        -- to itself a node sends nothing
        not_own : (one : Letter) (more : List Letter) → letters ≡ one ∷ more → to ≢ a.mail.store.own
        not_own one more is same = let never : [] ≡ one ∷ more = sym (r.reports.own same) ∙ is in cc

        -- where nothing was sent nothing is due
        none_due : letters ≡ [] → HasNoneDue from to (node_of a.maps)
        none_due is other user = ⊎_elim
            (λ (empty : room ≡ 0). same_none (some_same (Up lacks.node) (Up a) (ap Some (sym lacks.up ∙ r.up))) (lacks.is empty) (λ same. other (same ∙ (works_of lacks.node (node_there life there lacks.node lacks.up)).own)) user)
            (λ (some : 0 < room). none_or (is_due to (node_of a.maps) user) (λ due.
            some_long (length letters) (r.reports.some ((λ same. other (same ∙ wk.own)), user, due) some) (ap (λ (ls : List Letter). length ls) is)))
            (above_or room)
          where
            the_node : (x y : WholeNode) → Up x ≡ Up y → x ≡ y
            the_node x y e = cc

            same_none : Up lacks.node ≡ Up a → HasNoneDue lacks.node.mail.store.own to (node_of lacks.node.maps) → to ≢ lacks.node.mail.store.own → (user : List ℕ) → is_due to (node_of a.maps) user ≡ false
            same_none same none other user = ap (λ (x : WholeNode). is_due to (node_of x.maps) user) (sym (the_node lacks.node a same)) ∙ none other user

        -- the users whose rows went out
        record Goes : Type 0 where
          membership : Membership
          installed : (node_of a.maps).installed ≡ Some membership
          first : AreFirstDue to (min room most_reports) (node_of a.maps) (users_first membership to room a)

        goes : (one : Letter) (more : List Letter) → letters ≡ one ∷ more → Goes
        goes one more is = by (node_of a.maps).installed refl
          where
            by : (o : Option Membership) → (node_of a.maps).installed ≡ o → Goes
            by None none = absurd (let never : [] ≡ one ∷ more = sym (r.reports.without none) ∙ is in cc)
            by (Some membership) some =
                let marked = r.reports.marked (not_own one more is) membership some in
                record {
                  membership = membership;
                  installed = some;
                  first = subst (λ (o : Option Membership). AreFirstDue to (min room most_reports) (node_of a.maps) (take (min room most_reports) (filter (maps.manages_in o to) (marked_users a.maps.reports)))) some
                      (found_due to (min room most_reports) (node_of a.maps) (marked_users a.maps.reports) (record { in_order = marked.in_order; all = marked.all }));
                }

        -- and the whole machine does so
        module _ (new : Nodes D) (change : List plain.Slot → List plain.Slot) (only : OnlyTickets on change old new) (tells : Bool)
            (w : machine.World) (st : StateStandsFor on before w) (v : whole_world.World) (seen : mail_world_of v ≡ w) (areas : AreMaps old.lives.items v.slots) (disk : List Record) (is_up : whole_world.IsUp v from (whole_seen a) disk)
            (keeps : NodeKeeps disk a.mail) (did : mail_rules.Reaction) (did_is : did ≡ record { node = node_seen a.mail; disk = disk ++ promise_records None; out = letters }) where
          abbrev last : whole_world.World
          last = end on from Same old old new ch change only a a refl w v seen areas disk is_up v.flying (disk ++ promise_records None) letters

          last_is : last ≡ whole_world.after v from (record { node = whole_seen a; disk = disk ++ promise_records None; out = letters })
          last_is = refl

          said_so : whole_makes.DoesStep old.plan tells v (whole_steps.Step.ReportTo from to) (whole_steps.Said.Told (steps.Said.Sent (length letters))) last
          said_so = by letters refl
            where
              by : (ls : List Letter) → letters ≡ ls → whole_makes.DoesStep old.plan tells v (whole_steps.Step.ReportTo from to) (whole_steps.Said.Told (steps.Said.Sent (length letters))) last
              by [] is = whole_makes.DoesStep.SendsReports from to refl (whole_makes.Reports.HasNone (whole_seen a) disk is_up (none_due is)
                  (ap (λ (ls : List Letter). whole_steps.Said.Told (steps.Said.Sent (length ls))) is)
                  (ap (λ (ls : List Letter). whole_world.after v from (record { node = whole_seen a; disk = disk ++ promise_records None; out = ls })) is
                  ∙ ap (λ (xs : List Record). record v { slots = whole.with_slot v.slots from (whole_world.slot_up (whole_seen a) xs) }) (append-nil disk)
                  ∙ ap (λ (xs : List whole.Slot). record v { slots = xs }) (slot_again v.slots from (whole_world.slot_up (whole_seen a) disk) is_up)))
              by (one ∷ more) is =
                  let g = goes one more is in
                  let b = r.reports.sends (not_own one more is) g.membership g.installed disk keeps in
                  let users = users_first g.membership to room a in
                  let out_is : letters ≡ b.did.out = ap (λ (x : Reaction). x.out) b.left in
                  let count : length letters ≡ length users = ap (λ (ls : List Letter). length ls) (out_is ∙ ap (λ (x : maps_rules.Reaction). x.out) b.reports.is) ∙ as_many _ users in
                  whole_makes.DoesStep.SendsReports from to refl (whole_makes.Reports.Sends (whole_seen a) disk is_up users
                  (subst (λ k. AreFirstDue to (min k most_reports) (node_of a.maps) users) (room_made ∙ sym (room_is w st v seen)) g.first)
                  (λ none. some_long (length letters) (subst (λ (ls : List Letter). 0 < length ls) (sym is) (omega arith)) (count ∙ ap (λ (us : List (List ℕ)). length us) none))
                  b.did
                  (subst (λ k. maps_rules.Reports k to users (node_of a.maps) (maps_disk_of disk) b.did) wk.own b.reports)
                  (ap (λ n. whole_steps.Said.Told (steps.Said.Sent n)) count)
                  (ap (whole_world.after v from) b.left))

          pub reported_whole : LeadsWhole old.plan tells (Ok (said.Sent (length letters))) (step.Report from to) new.lives.items v (after w from did)
          reported_whole = record {
            now = last;
            seen = end_seen on from Same old old new ch change only a a refl w v seen areas disk is_up v.flying (disk ++ promise_records None) letters r.reports.plain did did_is
                ∙ ap (λ fs. after (record w { flying = fs }) from did) (ap (λ (x : machine.World). x.flying) seen);
            maps = end_maps on from Same old old new ch change only a a refl w v seen areas disk is_up v.flying (disk ++ promise_records None) letters;
            made = (fault_is w st v seen false early, said_so);
          }

        -- its letters are in flight
        module _ (new : Nodes D) (flying' : InFlight) (off : SentOff on old.plan letters None flying flying' old new) where
          sent_did : StepDid on (Ok (said.Sent (length letters))) (step.Report from to) before (state_with new flying' seconds book)
          sent_did = formed_did on from (step.Report from to) (report_forms from to) old fit ready Same old ch a refl own_kept flying early seconds book book (said.Sent (length letters)) (report_formed from to (length letters)) a refl letters h refl new flying' off
              (λ w st sent v seen sound areas.
              let is_up = up_whole old.lives.items w v seen areas from a sent.node sent.disk up sent.up sent.node_is in
              reported_whole new _ off.noticed.only (tells_in on.seen before) w st v seen areas sent.disk is_up sent.keeps
              (forms_rule learns_nothing h.installed h.promise letters sent.node sent.disk)
              (ap (λ m. forms_rule learns_nothing h.installed h.promise letters m sent.disk) sent.node_is
              ∙ ap (λ x. record { node = x; disk = sent.disk ++ promise_records None; out = letters }) (h.did.node sent.disk sent.keeps)))

        report_sent : (is_settled : D → Type 0) (items : List Letter) → items ≡ letters → (new : Nodes D) (flying' : InFlight) (result : Result Said StepFault)
            → IfOk result (λ s. (s ≡ said.Sent (length items)) × SentOff on old.plan items None flying flying' old new)
            → IfErr result (λ why. (why ≡ fault.NoMemory None) × (flying' ≡ flying) × (new ≡ old)) → Ended is_settled result new flying'
        report_sent is_settled items same new flying' (Ok s) ok err =
            let off : SentOff on old.plan letters None flying flying' old new = subst (λ ls. SentOff on old.plan ls None flying flying' old new) same ok.1 in
            record {
              did = subst (λ (x : Said). StepDid on (Ok x) (step.Report from to) before (state_with new flying' seconds book)) (sym (ok.0 ∙ ap (λ (ls : List Letter). said.Sent (length ls)) same)) (sent_did new flying' off);
              settled = λ st. only_settled on (λ slots. all_missed Crowded slots (put_down letters (taken_out None flying)).left) old new off.noticed.only flying flying' seconds seconds book book is_settled st;
            }
        report_sent is_settled items same new flying' (Err why) ok err =
            subst (λ (x : StepFault). Ended is_settled (Err x) new flying') (sym err.0)
            (subst (λ (fl : InFlight). Ended is_settled (Err (fault.NoMemory None)) new fl) (sym err.1)
            (subst (λ (x : Nodes D). Ended is_settled (Err (fault.NoMemory None)) x flying) (sym err.2)
            (record { did = none_done on before (step.Report from to); settled = λ st. st })))

      -- Nothing was told: there is no room, or memory ran out.
      pub report_stopped : nat_le letters_end flying.sent ≡ false → (life : Life) → of_node old.lives.items from ≡ Some life → (room : ℕ) → room ≡ room_left flying.flights → (why : StepFault) → TellsRowsAt to room (Err why) life
          → StepDid on (Err why) (step.Report from to) before before
      report_stopped early life there room made fault.NoRoom tells = report_crowded early life there room made tells
      report_stopped early life there room made (fault.NoMemory None) tells = none_done on before (step.Report from to)
      report_stopped early life there room made (fault.NoMemory (Some n)) tells = absurd tells
      report_stopped early life there room made fault.NoSuchNode tells = absurd tells
      report_stopped early life there room made fault.NodeLost tells = absurd tells
      report_stopped early life there room made fault.NodeDown tells = absurd tells
      report_stopped early life there room made fault.NodeUp tells = absurd tells
      report_stopped early life there room made fault.NoSuchLetter tells = absurd tells
      report_stopped early life there room made fault.NoSuchTicket tells = absurd tells
      report_stopped early life there room made fault.NotAGroup tells = absurd tells
      report_stopped early life there room made fault.Worn tells = absurd tells

      pub report_ends : (is_settled : D → Type 0) → nat_le letters_end flying.sent ≡ false → (life : Life) → of_node old.lives.items from ≡ Some life → (room : ℕ) → room ≡ room_left flying.flights → (letters : List Letter) → TellsRowsAt to room (Ok letters) life
          → (items : List Letter) → items ≡ letters → (new : Nodes D) (flying' : InFlight) (result : Result Said StepFault)
          → IfOk result (λ s. (s ≡ said.Sent (length items)) × SentOff on old.plan items None flying flying' old new)
          → IfErr result (λ why. (why ≡ fault.NoMemory None) × (flying' ≡ flying) × (new ≡ old)) → Ended is_settled result new flying'
      report_ends is_settled early life there room made letters tells items same new flying' result ok err =
          report_sent early life there room made tells.0 letters tells.1 is_settled items same new flying' result ok err

-- what a node tells can be heard
pub report_heard : (to room : ℕ) (life : Life) (letters : List Letter) → TellsRowsAt to room (Ok letters) life → AllCanBeHeard letters
report_heard to room life letters tells = can_be_heard letters tells.1.reports.taken tells.1.reports.fits
