-- Which records the disks of a world hold, once it is done with.
use Rattle.std.proofs.Common.{◌≡◌, ⊎_elim, inl, inr, ℕ, zero, suc, ◌+◌, ◌<◌, ◌≤◌, true, false, List, [], ◌∷◌, ◌++◌, length, length-append, map, Option, Some, None, refl, sym, ap, ◌∙◌, subst, arith}
use Rattle.std.specs.Prelude.{IfSome, All, ◌^◌, is_some, slice_get}
use Rattle.std.specs.List.{list_all}
use Rattle.std.proofs.lemmas.List.{get_or_append_left}
use Rattle.std.proofs.lemmas.Option.{slice_get_within}
use Rattle.mail_model.specs.Identity.{Id}
use Rattle.mail_model.specs.Record.{Record, IsJournal, AreShort, payload_of, payloads_of, id_octets}
use Rattle.mail_model.specs.Record.Record.{Octets}
use Rattle.mail_model.specs.Grammar.{IsRecord}
use Rattle.object_model.specs.Lists.{Among}
use Rattle.session_model.specs.Copies.{AreDisks}
use Rattle.session_model.specs.Events.{NodeLife as life}
use Rattle.cluster_model.specs.Cluster as plain
use Rattle.cluster_model.specs.Cluster.{pending_of}
use Rattle.cluster_owes.specs.Held.{IsHeld, AreHeld, AreCounted}
use Rattle.node_store.specs.Disks.{View}
use Rattle.node_core.specs.Starting.{MayHold}
use Rattle.disk_journal.specs.Journal.{EndsAt}
use Rattle.cluster_world.specs.Stands.{SlotStands, SlotsStand}
use Rattle.cluster_world.specs.Lives.{of_node}
use Rattle.cluster_world.specs.Worlds.{seen_life}
use Rattle.cluster_world.specs.Owing.{TellsImages}
use Rattle.cluster_world.specs.declared.life.Life.{Life}
use Rattle.cluster_world.specs.declared.life.Life.TheVariants.{Up, Down, Lost}
use Rattle.cluster_world.proofs.Chained.{has_too}

-- all of some records are all of the first of them
first_fit : (xs ys : List Record) → All IsRecord (xs ++ ys) → All IsRecord xs
first_fit xs ys h = λ k d within. subst IsRecord (get_or_append_left xs ys d k within) (h k d (omega (arith, within, length-append xs ys)))

-- the records that a disk holds, which tells this
pub record Chosen (own : ℕ) (told : Option (List ℕ)) (slot : plain.Slot) : Type 0 where
  pub records : List Record
  pub held : IsHeld slot records
  pub fit : All IsRecord records
  pub tells : IfSome told (λ octets. IsJournal own octets (payloads_of records))

-- the records of the nodes from this one on
pub record Holding (node : ℕ) (stores : List (Option (List ℕ))) (slots : List plain.Slot) : Type 0 where
  pub records : List (List Record)
  pub held : AreHeld slots records
  pub are : AreDisks node stores records

module _ {D : Type 0} (on : View D) (images : TellsImages on) where
  surely : (own : ℕ) (told : Option (List ℕ)) (slot : plain.Slot) → All IsRecord slot.disk → IfSome told (λ octets. IsJournal own octets (payloads_of slot.disk)) → Chosen own told slot
  surely own told slot fit tells = record { records = slot.disk; held = inl refl; fit = fit; tells = tells }

  ends : (own end : ℕ) (records : List Record) (told : Option (List ℕ)) → IfSome told (λ held. EndsAt own held (payloads_of records) end) → IfSome told (λ octets. IsJournal own octets (payloads_of records))
  ends own end records None tells = tt
  ends own end records (Some octets) tells = tells.journal

  -- what was pending stands, or does not
  either : (own : ℕ) (disk : D) (slot : plain.Slot) (pending : List Record) (told : Option (List ℕ)) → slot.life ≡ plain.Life.Down pending → All IsRecord (slot.disk ++ pending)
      → IfSome told (λ _. MayHold on disk own slot.disk pending) → IfSome told (λ held. on.clock.is_image disk held) → Chosen own told slot
  either own disk slot pending None is fit holds image = surely own None slot (first_fit slot.disk pending fit) tt
  either own disk slot pending (Some octets) is fit holds image = ⊎_elim
      (λ without. surely own (Some octets) slot (first_fit slot.disk pending fit) without)
      (λ all. record { records = slot.disk ++ pending; held = inr (ap (λ l. slot.disk ++ pending_of l) (sym is)); fit = fit; tells = all })
      (holds.images octets image)

  choose : (own : ℕ) (life : Life) (disk : D) (slot : plain.Slot) → SlotStands on own life disk slot → Chosen own (on.seen disk) slot
  choose own (Up node) disk slot (seen, is, up) = surely own (on.seen disk) slot up.keeps.fit (ends own _ slot.disk (on.seen disk) up.tells)
  choose own Down disk slot (pending, is, fit, holds) = either own disk slot pending (on.seen disk) is fit holds (images disk)
  choose own Lost disk slot (is, fit, tells) = surely own (on.seen disk) slot fit tells

  choose_all : (node : ℕ) (lives : List Life) (disks : List D) (slots : List plain.Slot) → length disks ≡ length lives → length slots ≡ length lives
      → ((k own : ℕ) (life : Life) (disk : D) (slot : plain.Slot) → own ≡ node + k → slice_get lives k ≡ Some life → slice_get disks k ≡ Some disk → slice_get slots k ≡ Some slot
      → SlotStands on own life disk slot) → Holding node (map on.seen disks) slots
  choose_all node [] [] [] p q each = record { records = []; held = tt; are = tt }
  choose_all node [] (disk ∷ disks) slots p q each = absurd (omega (arith, p))
  choose_all node [] [] (slot ∷ slots) p q each = absurd (omega (arith, q))
  choose_all node (life ∷ lives) [] slots p q each = absurd (omega (arith, p))
  choose_all node (life ∷ lives) (disk ∷ disks) [] p q each = absurd (omega (arith, q))
  choose_all node (life ∷ lives) (disk ∷ disks) (slot ∷ slots) p q each =
      let one = choose node life disk slot (each 0 node life disk slot (omega (arith)) refl refl refl) in
      let more = choose_all (node + 1) lives disks slots (omega (arith, p)) (omega (arith, q)) (λ k own l d s at. each (suc k) own l d s (omega (arith, at))) in
      record { records = one.records ∷ more.records; held = (one.held, more.held); are = (one.fit, one.tells, more.are) }

  pub holding : (lives : List Life) (disks : List D) (slots : List plain.Slot) → length disks ≡ length lives → SlotsStand on lives disks slots → Holding 1 (map on.seen disks) slots
  holding lives disks slots p stands = choose_all 1 lives disks slots p stands.count
      (λ k own life disk slot at a b c. subst (λ n. SlotStands on n life disk slot) (let e : suc k ≡ own = omega (arith, at) in e) (stands.each k life disk slot a b c))

-- 32 bits count the octets of each payload of a journal
short_octets : (records : List Record) (id : Id) (octets : List ℕ) → AreShort (payloads_of records) → Among (Octets id octets) records → length octets < 2 ^ 64
short_octets [] id octets short m = absurd m
short_octets (r ∷ records) id octets (one, more) (inl is) =
    let first : length (payload_of (Octets id octets)) < 2 ^ 32 = subst (λ x. length (payload_of x) < 2 ^ 32) is one in
    omega (arith, first, length-append (id_octets id) octets)
short_octets (r ∷ records) id octets (one, more) (inr m) = short_octets records id octets more m

-- where each store tells what it holds, 64 bits count the octets of each message
pub counted : (node : ℕ) (stores : List (Option (List ℕ))) (disks : List (List Record)) → list_all is_some stores ≡ true → AreDisks node stores disks → AreCounted disks
counted node [] [] all are n records id octets here m = absurd (let never : ◌≡◌ {A = Option (List Record)} None (Some records) = here in cc)
counted node [] (d ∷ disks) all are n records id octets here m = absurd are
counted node (told ∷ stores) [] all are n records id octets here m = absurd are
counted node (None ∷ stores) (d ∷ disks) all are n records id octets here m = absurd (let never : false ≡ true = all in cc)
counted node (Some held ∷ stores) (d ∷ disks) all are zero records id octets here m =
    short_octets records id octets (subst (λ rs. AreShort (payloads_of rs)) (let e : d ≡ records = cc here in e) (are.1).short) m
counted node (Some held ∷ stores) (d ∷ disks) all are (suc n) records id octets here m = counted (node + 1) stores disks all are.2 n records id octets here m
