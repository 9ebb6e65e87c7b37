-- A world that is opened.
use Rattle.std.proofs.Common.{◌≡◌, ◌≢◌, ◌⊎◌, inl, inr, ⊎_elim, ℕ, zero, suc, ◌+◌, ◌<◌, ◌≤◌, List, [], ◌∷◌, ◌++◌, length, length-append, get_or, Option, Some, None, Ok, Err, refl, sym, ap, ◌∙◌, subst, arith}
use Rattle.std.specs.Prelude.{IfSome, is_some, map, slice_get, slice_set}
use Rattle.std.proofs.lemmas.Option.{slice_get_cases, slice_get_within, slice_get-get_or}
use Rattle.io_edge.specs.Moments.{IsOnly}
use Rattle.io_edge.specs.Octets.{IsToldAlike}
use Rattle.mail_model.specs.Plan.{Plan}
use Rattle.mail_model.specs.Record.{payloads_of}
use Rattle.mail_model.specs.Record.Record.{Boot, Promise}
use Rattle.object_model.specs.Letters.{MapRow}
use Rattle.mail_model.proofs.Sessions.{get_set, get_set_other}
use Rattle.session_model.specs.Events.{NodeLife as life}
use Rattle.cluster_model.specs.Cluster as plain
use Rattle.cluster_model.specs.Starts.{first_epoch, fresh_node}
use Rattle.cluster_model.specs.WorldLaws.{fresh_slot, fresh_slots}
use Rattle.disk_journal.specs.Journal.{EndsAt}
use Rattle.whole_model.specs.Whole as whole
use Rattle.whole_world.specs.First.{first_node, first_slot, first_slots}
use Rattle.joint_model.specs.Joint as joint
use Rattle.joint_world.specs.First.{first_node as joint_first_node, first_slot as joint_first_slot, first_slots as joint_first_slots}
use Rattle.node_maps.specs.Nodes.{node_of}
use Rattle.node_store.specs.Disks.{View}
use Rattle.node_core.specs.Nodes.{end_in, IsNodeOf}
use Rattle.whole_node.specs.Nodes.{WholeWorks}
use Rattle.whole_node.specs.declared.node.WholeNode.{WholeNode}
use Rattle.whole_node.specs.Starting.{first_map}
use Rattle.world_book.specs.Books.{entries_of}
use Rattle.cluster_world.specs.Books.{entries_seen}
use Rattle.cluster_world.specs.Installs.{installs_in}
use Rattle.cluster_world.specs.Lives.{of_node, CanWorkOn}
use Rattle.cluster_world.specs.Maps.{AreMaps, HasReads, AreReads}
use Rattle.cluster_world.specs.Opens.{AreHandedOn, Opened, OpenFails, Refused, IsOpenedOn, OpensNext, NextComes, AreOpened}
use Rattle.cluster_world.specs.Stands.{SlotStands, SlotsStand}
use Rattle.cluster_world.specs.Worlds.{seen_life}
use Rattle.cluster_world.specs.declared.life.Life.{Life}
use Rattle.cluster_world.specs.declared.life.Life.TheVariants.{Up}
use Rattle.cluster_world.specs.declared.world.World.{World}
use Rattle.cluster_world.specs.declared.fault.OpenFault.{OpenFault}
use Rattle.cluster_world.specs.declared.fault.OpenFault.TheVariants.{DiskFault, NoMemory}
use Rattle.cluster_world.proofs.Still.{some_same, both_at}
use Rattle.cluster_world.proofs.Turned.{same_or}

both_held : (o : Option (List ℕ)) (P Q R : List ℕ → Type 0) → ((c : List ℕ) → P c → Q c → R c) → IfSome o P → IfSome o Q → IfSome o R
both_held None P Q R f p q = tt
both_held (Some c) P Q R f p q = f c p q

count_kept : {X : Type 0} (xs : List X) (k : ℕ) (y : X) → length (slice_set xs k y) ≡ length xs
count_kept [] k y = refl
count_kept (x ∷ xs) zero y = refl
count_kept (x ∷ xs) (suc k) y = ap suc (count_kept xs k y)

-- what is read of a list with one more
get_front : {X : Type 0} (xs : List X) (x : X) (k : ℕ) → k < length xs → slice_get (xs ++ x ∷ []) k ≡ slice_get xs k
get_front [] x k within = absurd (omega (arith, within))
get_front (y ∷ xs) x zero within = refl
get_front (y ∷ xs) x (suc k) within = get_front xs x k (omega (arith, within))

get_last : {X : Type 0} (xs : List X) (x : X) → slice_get (xs ++ x ∷ []) (length xs) ≡ Some x
get_last [] x = refl
get_last (y ∷ xs) x = get_last xs x

module _ {D : Type 0} (on : View D) (is_settled : D → Type 0) (plan : Plan) where
  -- none is, at first
  pub none_opened : (old : List D) → AreOpened on is_settled plan [] old old
  none_opened old = record {
    handed = refl;
    each = λ k l d d' a b c. absurd (let never : None ≡ Some l = a in cc);
    rest = λ k le. refl;
  }

  -- those that are were told before, and have not failed
  told_of : (lives : List Life) (old new : List D) → AreOpened on is_settled plan lives old new → (k : ℕ) (d d' : D) → slice_get old k ≡ Some d → slice_get new k ≡ Some d'
      → IsToldAlike (on.seen d) (on.seen d') × (on.faults d' ≡ on.faults d)
  told_of lives old new o k d d' a b = ⊎_elim
      (λ (l, within, here, _). let so = o.each k l d d' here a b in (so.told, so.first.mail.quiet))
      (λ (past, none). let same : d' ≡ d = some_same d' d (sym b ∙ o.rest k past ∙ a) in (ap (λ x. is_some (on.seen x)) same, ap on.faults same))
      (slice_get_cases lives k).1

  -- the next node was to start on the disk at its place
  module _ (lives lives' : List Life) (old : List D) (k : ℕ) (d dd d' : D) (at : k ≡ length lives) (less : length lives < length old) (read : d ≡ get_or old k dd) (told : IsToldAlike (on.seen d) (on.seen d')) (later : on.faults d ≤ on.faults d') where
    next_here : slice_get old (length lives) ≡ Some d
    next_here = ap (slice_get old) (sym at) ∙ slice_get-get_or old k dd (omega (arith, at, less)) ∙ ap Some (sym read)

    pub next_opened : (n : ℕ) (life : Life) → n ≡ k + 1 → IsOpenedOn on is_settled plan n life d d' → lives' ≡ lives ++ life ∷ [] → OpensNext on is_settled plan (Ok tt) lives old lives' (slice_set old k d')
    next_opened n life n_is so are = record {
      disk = d;
      disk' = d';
      here = next_here;
      becomes = ap (λ i. slice_set old i d') at;
      told = told;
      later = later;
      comes = (life, are, subst (λ m. IsOpenedOn on is_settled plan m life d d') (n_is ∙ ap (λ i. i + 1) at) so);
    }

    pub next_short : OpensNext on is_settled plan (Err NoMemory) lives old lives' (slice_set old k d')
    next_short = record { disk = d; disk' = d'; here = next_here; becomes = ap (λ i. slice_set old i d') at; told = told; later = later; comes = tt }

  module _ (lives : List Life) (old mid : List D) (o : AreOpened on is_settled plan lives old mid) (lives' : List Life) (new : List D) where
    -- one more
    pub one_more_opened : OpensNext on is_settled plan (Ok tt) lives mid lives' new → AreOpened on is_settled plan lives' old new
    one_more_opened next =
        let (l, are, so) = next.comes in
        record {
          handed = ap length next.becomes ∙ count_kept mid (length lives) next.disk' ∙ o.handed;
          each = λ k l' d d' a b c. ⊎_elim
              (λ (same : k ≡ length lives).
              let here : slice_get lives' k ≡ Some l = ap (λ xs. slice_get xs k) are ∙ ap (slice_get (lives ++ l ∷ [])) same ∙ get_last lives l in
              let is : l ≡ l' = some_same l l' (sym here ∙ a) in
              let was : d ≡ next.disk = some_same d next.disk (sym b ∙ sym (o.rest k (omega (arith, same))) ∙ ap (slice_get mid) same ∙ next.here) in
              let now : next.disk' ≡ d' = some_same next.disk' d' (sym (ap (λ xs. slice_get xs k) next.becomes ∙ ap (slice_get (slice_set mid (length lives) next.disk')) same ∙ get_set mid (length lives) next.disk next.disk' next.here) ∙ c) in
              subst (λ n. IsOpenedOn on is_settled plan n l' d d') (omega (arith, same))
              (subst (λ x. IsOpenedOn on is_settled plan (length lives + 1) l' d x) now (subst (λ x. IsOpenedOn on is_settled plan (length lives + 1) l' x next.disk') (sym was)
              (subst (λ x. IsOpenedOn on is_settled plan (length lives + 1) x next.disk next.disk') is so))))
              (λ (other : k ≢ length lives).
              let within : k < length lives' = slice_get_within lives' k l' a in
              let many : length lives' ≡ length lives + 1 = ap length are ∙ length-append lives (l ∷ []) in
              let before : k < length lives = below k (length lives) other (omega (arith, within, many)) in
              o.each k l' d d' (sym (get_front lives l k before) ∙ ap (λ xs. slice_get xs k) (sym are) ∙ a) b
              (sym (get_set_other mid (length lives) k next.disk' other) ∙ ap (λ xs. slice_get xs k) (sym next.becomes) ∙ c))
              (same_or k (length lives));
          rest = λ k le.
              let many : length lives' ≡ length lives + 1 = ap length are ∙ length-append lives (l ∷ []) in
              ap (λ xs. slice_get xs k) next.becomes ∙ get_set_other mid (length lives) k next.disk' (λ same. omega (arith, same, le, many)) ∙ o.rest k (omega (arith, le, many));
        }
      where
        below : (k n : ℕ) → k ≢ n → k < n + 1 → k < n
        below k n other le = ⊎_elim (λ (less : k < n). less) (λ (no : n ≤ k). absurd (other (omega (arith, le, no)))) (either k n)
          where
            either : (k n : ℕ) → (k < n) ⊎ (n ≤ k)
            either k n = by (Rattle.std.specs.Prelude.nat_lt k n) refl
              where
                by : (b : Rattle.std.specs.Prelude.Bool) → Rattle.std.specs.Prelude.nat_lt k n ≡ b → (k < n) ⊎ (n ≤ k)
                by Rattle.std.specs.Prelude.true e = inl (grind arith)
                by Rattle.std.specs.Prelude.false e = inr (grind arith)

    pub one_more_within : OpensNext on is_settled plan (Ok tt) lives mid lives' new → length lives < length mid → length lives' ≤ length old
    one_more_within next less =
        let (l, are, so) = next.comes in
        let many : length lives' ≡ length lives + 1 = ap length are ∙ length-append lives (l ∷ []) in
        omega (arith, many, less, o.handed)

    -- or none more
    pub not_opened : (fault : OpenFault) → OpensNext on is_settled plan (Err fault) lives mid lives' new → Refused on fault old new
    not_opened fault next = record {
      handed = record {
        count = ap length next.becomes ∙ count_kept mid (length lives) next.disk' ∙ o.handed;
        told = λ k d d' a b. (both k d d' a b).0;
      };
      later = λ k d d' a b. (both k d d' a b).1;
      cause = cause_of fault next.comes;
    }
      where
        was : (d : D) → slice_get old (length lives) ≡ Some d → d ≡ next.disk
        was d a = some_same d next.disk (sym a ∙ sym (o.rest (length lives) (omega arith)) ∙ next.here)

        now : slice_get new (length lives) ≡ Some next.disk'
        now = ap (λ xs. slice_get xs (length lives)) next.becomes ∙ get_set mid (length lives) next.disk next.disk' next.here

        both : (k : ℕ) (d d' : D) → slice_get old k ≡ Some d → slice_get new k ≡ Some d' → IsToldAlike (on.seen d) (on.seen d') × (on.faults d ≤ on.faults d')
        both k d d' a b = ⊎_elim
            (λ (same : k ≡ length lives).
            let is : next.disk ≡ d = sym (was d (ap (slice_get old) (sym same) ∙ a)) in
            let is' : next.disk' ≡ d' = some_same next.disk' d' (sym now ∙ ap (slice_get new) (sym same) ∙ b) in
            subst (λ x. IsToldAlike (on.seen d) (on.seen x) × (on.faults d ≤ on.faults x)) is' (subst (λ x. IsToldAlike (on.seen x) (on.seen next.disk') × (on.faults x ≤ on.faults next.disk')) is (next.told, next.later)))
            (λ (other : k ≢ length lives).
            let t = told_of lives old mid o k d d' a (sym (get_set_other mid (length lives) k next.disk' other) ∙ ap (λ xs. slice_get xs k) (sym next.becomes) ∙ b) in
            (t.0, omega (arith, t.1)))
            (same_or k (length lives))

        cause_of : (fault : OpenFault) → NextComes on is_settled plan (Err fault) lives lives' next.disk next.disk' → OpenFails on.faults fault old new
        cause_of NoMemory comes = tt
        cause_of (DiskFault node) comes =
            let (node_is, rose) = comes in (
              next.disk,
              next.disk',
              subst (λ n. of_node old n ≡ Some next.disk) (sym sym_one ∙ sym node_is) (sym (o.rest (length lives) (omega arith)) ∙ next.here),
              subst (λ n. of_node new n ≡ Some next.disk') (sym sym_one ∙ sym node_is) now,
              rose,
            )
          where
            sym_one : length lives + 1 ≡ suc (length lives)
            sym_one = omega arith

-- nothing was done
pub none_refused : {D : Type 0} (on : View D) (disks : List D) → Refused on NoMemory disks disks
none_refused on disks = record {
  handed = record { count = refl; told = λ k d d' a b. ap (λ x. is_some (on.seen x)) (some_same d' d (sym b ∙ a)) };
  later = λ k d d' a b. subst (λ x. on.faults d ≤ on.faults x) (some_same d d' (sym a ∙ b)) (omega arith);
  cause = tt;
}

-- the slots of a beginning
fresh_count : (nodes : ℕ) (map : List MapRow) (m : ℕ) → length (fresh_slots nodes map m) ≡ m
fresh_count nodes map zero = refl
fresh_count nodes map (suc m) = ap suc (fresh_count nodes map m)

fresh_at : (nodes : ℕ) (map : List MapRow) (m k : ℕ) (slot : plain.Slot) → slice_get (fresh_slots nodes map m) k ≡ Some slot → slot ≡ fresh_slot nodes map
fresh_at nodes map zero k slot e = absurd (let never : None ≡ Some slot = e in cc)
fresh_at nodes map (suc m) zero slot e = some_same slot (fresh_slot nodes map) (sym e)
fresh_at nodes map (suc m) (suc k) slot e = fresh_at nodes map m k slot e

first_at : (nodes : ℕ) (map : List MapRow) (m k : ℕ) (slot : whole.Slot) → slice_get (first_slots nodes map m) k ≡ Some slot → slot ≡ first_slot nodes map
first_at nodes map zero k slot e = absurd (let never : None ≡ Some slot = e in cc)
first_at nodes map (suc m) zero slot e = some_same slot (first_slot nodes map) (sym e)
first_at nodes map (suc m) (suc k) slot e = first_at nodes map m k slot e

joint_first_at : (nodes : ℕ) (map : List MapRow) (m k : ℕ) (slot : joint.Slot) → slice_get (joint_first_slots nodes map m) k ≡ Some slot → slot ≡ joint_first_slot nodes map
joint_first_at nodes map zero k slot e = absurd (let never : None ≡ Some slot = e in cc)
joint_first_at nodes map (suc m) zero slot e = some_same slot (joint_first_slot nodes map) (sym e)
joint_first_at nodes map (suc m) (suc k) slot e = joint_first_at nodes map m k slot e

-- what messages, membership and maps see of them
whole_first : (nodes : ℕ) (rows : List MapRow) (m : ℕ) → map joint.whole_slot (joint_first_slots nodes rows m) ≡ first_slots nodes rows m
whole_first nodes rows zero = refl
whole_first nodes rows (suc m) = ap (λ l. first_slot nodes rows ∷ l) (whole_first nodes rows m)

mail_first : (nodes : ℕ) (rows : List MapRow) (m : ℕ) → map whole.mail_slot (first_slots nodes rows m) ≡ fresh_slots nodes rows m
mail_first nodes rows zero = refl
mail_first nodes rows (suc m) = ap (λ l. fresh_slot nodes rows ∷ l) (mail_first nodes rows m)

module _ {D : Type 0} (on : View D) (is_settled : D → Type 0) (only : (disk : D) → is_settled disk → IfSome (on.seen disk) (λ held. IsOnly on.clock disk held)) (plan : Plan) where
  fresh_stands : (n : ℕ) (life : Life) (before after : D) → IsOpenedOn on is_settled plan n life before after → SlotStands on n life after (fresh_slot plan.nodes (first_map plan))
  fresh_stands n life before after o =
      subst (λ l. SlotStands on n l after (fresh_slot plan.nodes (first_map plan))) (sym o.is) (
        fresh_node plan.nodes (first_map plan),
        refl,
        record {
          seen_is = o.first.mail.seen_is;
          keeps = o.first.mail.keeps;
          tells = o.first.mail.tells;
          images = both_held (on.seen after) (λ held. IsOnly on.clock after held) (λ held. EndsAt n held (payloads_of (Boot 1 ∷ Promise first_epoch ∷ [])) (end_in o.node.mail)) _
              (λ held alone ends c image. subst (λ x. EndsAt n x (payloads_of (Boot 1 ∷ Promise first_epoch ∷ [])) (end_in o.node.mail)) (sym (alone c image)) ends) (only after o.settled) o.first.mail.tells;
        },
      )

  module _ (lives : List Life) (old new : List D) (o : AreOpened on is_settled plan lives old new) (all : length lives ≡ length old) where
    -- the disk that there was
    was_there : (k : ℕ) (d' : D) → slice_get new k ≡ Some d' → (d : D) × (slice_get old k ≡ Some d)
    was_there k d' e = both_at old new k d' o.handed e

    opened_at : (k : ℕ) (life : Life) (d' : D) → slice_get lives k ≡ Some life → slice_get new k ≡ Some d' → (d : D) × IsOpenedOn on is_settled plan (suc k) life d d'
    opened_at k life d' a b = let (d, here) = was_there k d' b in (d, o.each k life d d' a here b)

    pub opened_slots : length lives ≡ plan.nodes → SlotsStand on lives new (fresh_slots plan.nodes (first_map plan) plan.nodes)
    opened_slots many = record {
      count = fresh_count plan.nodes (first_map plan) plan.nodes ∙ sym many;
      each = λ k life disk slot a b c.
          let (d, so) = opened_at k life disk a b in
          subst (λ s. SlotStands on (suc k) life disk s) (sym (fresh_at plan.nodes (first_map plan) plan.nodes k slot c)) (fresh_stands (suc k) life d disk so);
    }

    up_is : (x y : WholeNode) → Up x ≡ Up y → x ≡ y
    up_is x y e = cc

    pub opened_ready : CanWorkOn on.seen plan lives new
    opened_ready = record {
      each = λ k node disk a b.
          let (d, so) = opened_at k (Up node) disk a b in
          let same : so.node ≡ node = up_is so.node node (sym so.is) in
          subst (λ (x : WholeNode). IsNodeOf plan (suc k) x.mail × WholeWorks (on.seen disk) x) same (so.first.mail.of_plan, record { mail = so.first.mail.works; maps = so.first.maps.has_maps; reads = so.first.maps.reads });
    }

    -- their maps are those of the first epoch
    pub opened_maps : AreMaps lives (first_slots plan.nodes (first_map plan) plan.nodes)
    opened_maps = record { each = at }
      where
        same_up : (x y : whole.Node) → whole.Life.Up x ≡ whole.Life.Up y → x ≡ y
        same_up x y e = cc

        at : (n : ℕ) (node : WholeNode) (slot : whole.Slot) (seen : whole.Node) → of_node lives n ≡ Some (Up node) → whole.slot_at (first_slots plan.nodes (first_map plan) plan.nodes) n ≡ Some slot → slot.life ≡ whole.Life.Up seen
            → seen.maps ≡ node_of node.maps
        at zero node slot seen up here is = absurd (let never : None ≡ Some (Up node) = up in cc)
        at (suc k) node slot seen up here is =
            let (disk, held) = both_at new lives k (Up node) (all ∙ sym o.handed) up in
            let (d, so) = opened_at k (Up node) disk up held in
            let same : so.node ≡ node = up_is so.node node (sym so.is) in
            let seen_is : seen ≡ first_node plan.nodes (first_map plan) =
            same_up seen (first_node plan.nodes (first_map plan)) (sym is ∙ ap (λ (s : whole.Slot). s.life) (first_at plan.nodes (first_map plan) plan.nodes k slot here)) in
            ap (λ (x : whole.Node). x.maps) seen_is ∙ sym so.first.maps_are ∙ ap (λ (x : WholeNode). node_of x.maps) same

    -- they have no tickets of calls that read, and no locks
    pub opened_reads : AreReads lives (joint_first_slots plan.nodes (first_map plan) plan.nodes)
    opened_reads = record { each = at }
      where
        same_up : (x y : joint.Node) → joint.Life.Up x ≡ joint.Life.Up y → x ≡ y
        same_up x y e = cc

        at : (n : ℕ) (node : WholeNode) (slot : joint.Slot) (seen : joint.Node) → of_node lives n ≡ Some (Up node) → joint.slot_at (joint_first_slots plan.nodes (first_map plan) plan.nodes) n ≡ Some slot → slot.life ≡ joint.Life.Up seen
            → HasReads node seen
        at zero node slot seen up here is = absurd (let never : None ≡ Some (Up node) = up in cc)
        at (suc k) node slot seen up here is =
            let (disk, held) = both_at new lives k (Up node) (all ∙ sym o.handed) up in
            let (d, so) = opened_at k (Up node) disk up held in
            let same : so.node ≡ node = up_is so.node node (sym so.is) in
            let seen_is : seen ≡ joint_first_node plan.nodes (first_map plan) =
            same_up seen (joint_first_node plan.nodes (first_map plan)) (sym is ∙ ap (λ (s : joint.Slot). s.life) (joint_first_at plan.nodes (first_map plan) plan.nodes k slot here)) in
            let blank = so.first.maps.blank in
            subst (λ (x : WholeNode). HasReads x seen) same (record {
              reads = ap (λ (x : joint.Node). x.reads) seen_is ∙ sym blank.none;
              locks = ap (λ (x : joint.Node). x.locks) seen_is ∙ sym blank.free;
            })

    pub opened_handed : AreHandedOn on.seen old new
    opened_handed = record { count = o.handed; told = λ k d d' a b. (told_of on is_settled plan lives old new o k d d' a b).0 }

    pub opened_quiet : (k : ℕ) (d d' : D) → slice_get old k ≡ Some d → slice_get new k ≡ Some d' → on.faults d' ≡ on.faults d
    opened_quiet k d d' a b = (told_of on is_settled plan lives old new o k d d' a b).1

    settled_at : (n boot : ℕ) (disk : D) → seen_life (of_node lives n) ≡ life.Up boot → of_node new n ≡ Some disk → is_settled disk
    settled_at zero boot disk a b = absurd (let never : None ≡ Some disk = b in cc)
    settled_at (suc k) boot disk a b =
        let (l, here) = both_at lives new k disk (o.handed ∙ sym all) b in
        let (d, so) = opened_at k l disk here b in
        so.settled

    abbrev slots : List joint.Slot
    slots = joint_first_slots plan.nodes (first_map plan) plan.nodes

    abbrev mails : List plain.Slot
    mails = map whole.mail_slot (map joint.whole_slot slots)

    mails_are : mails ≡ fresh_slots plan.nodes (first_map plan) plan.nodes
    mails_are = ap (map whole.mail_slot) (whole_first plan.nodes (first_map plan) plan.nodes) ∙ mail_first plan.nodes (first_map plan) plan.nodes

    pub opened_world : (world : World D) → world.nodes.plan ≡ plan → world.nodes.lives.items ≡ lives → world.nodes.disks.items ≡ new → world.flying.flights ≡ [] → world.flying.sent ≡ 0 → entries_of world.book ≡ []
        → world.seconds ≡ 0 → world.steps ≡ 0 → length lives ≡ plan.nodes → 1 ≤ plan.nodes → Opened on is_settled plan old world
    opened_world world plan_is lives_are disks_are none_fly none_sent none_written first_second no_steps many some = record {
      begins = record {
        plan_is = plan_is;
        some = some;
        steps = no_steps;
        stands = record {
          mail = record {
            slots = subst (λ ds. SlotsStand on world.nodes.lives.items ds mails) (sym disks_are) (subst (λ ls. SlotsStand on ls new mails) (sym lives_are)
                (subst (λ l. SlotsStand on lives new l) (sym mails_are) (opened_slots many)));
            flying = none_fly;
            sent = none_sent;
            seconds = first_second;
            book = ap entries_seen none_written;
          };
          maps = subst (λ ls. AreMaps ls (map joint.whole_slot slots)) (sym lives_are) (subst (λ l. AreMaps lives l) (sym (whole_first plan.nodes (first_map plan) plan.nodes)) opened_maps);
          reads = subst (λ ls. AreReads ls slots) (sym lives_are) opened_reads;
        };
        ready = subst (λ p. CanWorkOn on.seen p world.nodes.lives.items world.nodes.disks.items) (sym plan_is)
            (subst (λ ds. CanWorkOn on.seen plan world.nodes.lives.items ds) (sym disks_are) (subst (λ ls. CanWorkOn on.seen plan ls new) (sym lives_are) opened_ready));
        installs = ap installs_in none_written;
      };
      handed = subst (λ ds. AreHandedOn on.seen old ds) (sym disks_are) opened_handed;
      quiet = λ k d d' a b. opened_quiet k d d' a (ap (λ ds. slice_get ds k) (sym disks_are) ∙ b);
      settled = record { each = λ n boot disk a b. settled_at n boot disk (ap (λ ls. seen_life (of_node ls n)) (sym lives_are) ∙ a) (ap (λ ds. of_node ds n) (sym disks_are) ∙ b) };
    }
