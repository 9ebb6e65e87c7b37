-- A store that stores octets does what the machine's node does.
use Rattle.std.proofs.Common.{◌≡◌, ℕ, ◌+◌, List, [], ◌∷◌, ◌++◌, length, Bool, true, false, not, ◌&&◌, Option, Some, None, refl, sym, ap, subst, ◌∙◌, arith, append-nil, true≢false, if◌then◌else◌}
use Rattle.std.specs.Prelude.{option_map, is_some}
use Rattle.std.specs.List.{list_any}
use Rattle.std.specs.FinMap as fin
use Rattle.std.specs.Ordering.{eq_by_cmp}
use Rattle.std.specs.Cmp.{tied_itself, Equal-is}
use Rattle.std.proofs.lemmas.List.{length-append}
use Rattle.std.proofs.lemmas.List.Elements.{All-nil, All-cons, All-append}
use Rattle.mail_model.specs.Identity.{Id}
use Rattle.mail_model.specs.Identity.Key.{Message}
use Rattle.mail_model.specs.Grammar.{IsRecord, IsId}
use Rattle.mail_model.specs.Listing.{is_same_id, octets_in}
use Rattle.mail_model.specs.Record.{Record, payload_of, payloads_of, framed, journal_of, header_of}
use Rattle.mail_model.specs.Record.Record.{Boot, Promise, Octets, Stated, Retired}
use Rattle.object_model.specs.Said.{said, is_gone_held}
use Rattle.object_model.proofs.StateLaws.{id_is, id_self}
use Rattle.object_model.proofs.MapLaws.{id_exact}
use Rattle.mail_base.specs.Orders.{id_cmp, id_total}
use Rattle.object_table.specs.Tables.{Table}
use Rattle.replica_push.specs.Rules.{TableTells}
use Rattle.cluster_model.specs.Store.{Store, is_wanted, with_octets}
use Rattle.disk_journal.specs.Journal.{end_of}
use Rattle.disk_journal.specs.declared.place.Place.{Place}
use Rattle.message_store.specs.Places.{place_of, first_of}
use Rattle.message_store.specs.Files.{Notes}
use Rattle.node_store.specs.Disks.{View}
use Rattle.node_store.specs.Appends.{AppendsRecords, StopsWithin}
use Rattle.node_store.specs.Places.{Span, span_of, first, span_in}
use Rattle.node_store.specs.Keeps.{KeepsRecords, HoldsObjects, HoldsLogged, CanGoOn}
use Rattle.node_store.specs.Changes.{with_stored}
use Rattle.node_store.specs.Wanted.{wants_octets}
use Rattle.node_store.specs.Writes.{Done, WorkIsCutShort}
use Rattle.node_store.specs.declared.store.NodeStore.{NodeStore}
use Rattle.node_store.proofs.Journals.{frames_of, none_appended, all_stops}
use Rattle.node_store.proofs.Placed.{span_in-append}
use Rattle.node_store.proofs.Silent.{still_said}
use Rattle.node_store.proofs.Taking.{ends_more}
use Rattle.node_store.proofs.Works.{Grows}

-- the order of ids tells them apart
same_id : (id other : Id) → eq_by_cmp id_cmp id other ≡ is_same_id id other
same_id id other = by (eq_by_cmp id_cmp id other) refl (is_same_id id other) refl
  where
    by : (b : Bool) → eq_by_cmp id_cmp id other ≡ b → (t : Bool) → is_same_id id other ≡ t → b ≡ t
    by true e true f = refl
    by false e false f = refl
    by true e false f = absurd (true≢false (sym (subst (λ (o : Id). is_same_id id o ≡ true) (id_exact id other ((Equal-is (id_cmp id other)).0 e)) (id_self id)) ∙ f))
    by false e true f = absurd (true≢false (sym (subst (λ (o : Id). eq_by_cmp id_cmp id o ≡ true) (id_is id other f) ((Equal-is (id_cmp id id)).1 (tied_itself id_total id))) ∙ e))

-- octets are found where the records have some
pub some_placed : (id : Id) (at : ℕ) (records : List Record) → is_some (span_in id at records) ≡ is_some (octets_in id records)
some_placed id at [] = refl
some_placed id at (Boot boot ∷ records) = some_placed id _ records
some_placed id at (Promise epoch ∷ records) = some_placed id _ records
some_placed id at (Stated key state ∷ records) = some_placed id _ records
some_placed id at (Retired key state ∷ records) = some_placed id _ records
some_placed id at (Octets other octets ∷ records) = by (is_same_id other id) (some_placed id (at + length (framed (payload_of (Octets other octets)))) records)
  where
    more : ℕ
    more = at + length (framed (payload_of (Octets other octets)))

    by : (b : Bool) → is_some (span_in id more records) ≡ is_some (octets_in id records)
        → is_some (first (if b then Some (record { at = at + 5; count = 14 + length octets }) else None) (span_in id more records))
        ≡ is_some (if b then Some octets else octets_in id records)
    by true rest = refl
    by false rest = rest

some_mapped : {A B : Type 0} (f : A → B) (o : Option A) → is_some (option_map f o) ≡ is_some o
some_mapped f None = refl
some_mapped f (Some x) = refl

any_alike : {X : Type 0} (p q : X → Bool) (xs : List X) → ((x : X) → p x ≡ q x) → list_any p xs ≡ list_any q xs
any_alike p q [] same = refl
any_alike p q (x ∷ xs) same = rw (same x, any_alike p q xs same) refl

-- what is wanted is seen from the table and the places
wanted_is : (id : Id) (users : List (List ℕ)) (records : List Record) (store : NodeStore) → KeepsRecords records store → is_wanted id users records ≡ wants_octets id users store.objects (place_of store.messages id)
wanted_is id users records store k =
    let stays = any_alike (λ user. not (is_gone_held (said (Message user id) records))) (λ user. not (is_gone_held (fin.get store.objects (Message user id)))) users
    (λ user. ap (λ h. not (is_gone_held h)) (sym (k.says (Message user id)))) in
    let none : is_some (octets_in id records) ≡ is_some (place_of store.messages id) =
    sym (some_placed id 16 records) ∙ ap is_some (sym (k.finds id)) ∙ some_mapped span_of (place_of store.messages id) in
    ap (λ (b : Bool). b && not (is_some (octets_in id records))) stays
    ∙ ap (λ (b : Bool). list_any (λ user. not (is_gone_held (fin.get store.objects (Message user id)))) users && not b) none

pub stored_grows : (id : Id) (users : List (List ℕ)) (octets : List ℕ) (store : Store) → Grows (with_stored id users octets) store
stored_grows id users octets store = record { more = if is_wanted id users store.disk then Octets id octets ∷ [] else []; is = refl }

module _ {D : Type 0} (on : View D) (id : Id) (users : List (List ℕ)) (octets : List ℕ) (old : NodeStore) (before : D) where
  added_where : (b : Bool) → wants_octets id users old.objects (place_of old.messages id) ≡ b → (records : List Record) → KeepsRecords records old
      → with_octets id users octets records ≡ records ++ (if b then Octets id octets ∷ [] else [])
  added_where b is records k = ap (λ (t : Bool). records ++ (if t then Octets id octets ∷ [] else [])) (wanted_is id users records old k ∙ is)

  -- none are wanted
  pub unwanted_done : CanGoOn (on.seen before) old → wants_octets id users old.objects (place_of old.messages id) ≡ false → Done on (with_stored id users octets) old before old before
  unwanted_done sound without = record {
    added = [];
    whole = λ records k. added_where false without records k;
    log = λ records k. refl;
    keeps = λ records k. subst (λ (l : List Record). KeepsRecords l old) (sym (append-nil records)) k;
    own = refl;
    sound = sound;
    appends = none_appended on before (end_of old.journal) sound.gate;
  }

  -- they were not recorded
  pub stored_stopped : (after : D) → wants_octets id users old.objects (place_of old.messages id) ≡ true → StopsWithin on before after (end_of old.journal) (Octets id octets ∷ [])
      → WorkIsCutShort on (with_stored id users octets) old before after
  stored_stopped after wanted s = record {
    front = s.front;
    pending = s.pending;
    cut = λ records k. record { missing = s.missing; is = added_where true wanted records k ∙ ap (λ (l : List Record). records ++ l) s.is };
    stops = s.stops;
  }

  -- they were recorded, and their place was not noted
  pub stored_lost : (after : D) (end' : ℕ) → wants_octets id users old.objects (place_of old.messages id) ≡ true → AppendsRecords on before after (end_of old.journal) end' (Octets id octets ∷ [])
      → WorkIsCutShort on (with_stored id users octets) old before after
  stored_lost after end' wanted a = record {
    front = Octets id octets ∷ [];
    pending = [];
    cut = λ records k. record { missing = []; is = added_where true wanted records k };
    stops = all_stops on before after (end_of old.journal) end' (Octets id octets ∷ []) a;
  }

  unplaced : wants_octets id users old.objects (place_of old.messages id) ≡ true → place_of old.messages id ≡ None
  unplaced wanted = by (place_of old.messages id) refl wanted
    where
      nothing : (b : Bool) → b && false ≡ true → ⊥
      nothing true e = true≢false (sym e)
      nothing false e = true≢false (sym e)

      by : (o : Option Place) → place_of old.messages id ≡ o → wants_octets id users old.objects o ≡ true → o ≡ None
      by None e w = refl
      by (Some place) e w = absurd (nothing _ w)

  found_at : (new : NodeStore) (place : Place) (records : List Record) → KeepsRecords records old → Notes old.messages new.messages id place
      → place.at ≡ end_of old.journal + 5 → place.length ≡ 14 + length octets → place_of old.messages id ≡ None
      → (other : Id) → option_map span_of (place_of new.messages other) ≡ span_in other 16 (records ++ Octets id octets ∷ [])
  found_at new place records k notes at size none other =
      ap (option_map span_of) (notes other ∙ ap (λ (b : Bool). if b then first_of (place_of old.messages id) place else place_of old.messages other) (same_id id other))
      ∙ by (is_same_id id other) refl
      ∙ sym (span_in-append other 16 records (Octets id octets ∷ []))
    where
      end_is : 16 + length (frames_of records) ≡ end_of old.journal
      end_is = omega (arith, k.ends, length-append (header_of old.own) (frames_of records))

      here : Span
      here = record { at = (16 + length (frames_of records)) + 5; count = 14 + length octets }

      span_is : span_of place ≡ here
      span_is =
          let same_at : place.at ≡ (16 + length (frames_of records)) + 5 = omega (arith, at, end_is) in
          ap (λ (n : ℕ). record { at = n; count = place.length }) same_at ∙ ap (λ (n : ℕ). record { at = (16 + length (frames_of records)) + 5; count = n }) size

      by : (b : Bool) → is_same_id id other ≡ b → option_map span_of (if b then first_of (place_of old.messages id) place else place_of old.messages other)
          ≡ first (span_in other 16 records) (first (if b then Some here else None) None)
      by true e =
          let is_other = id_is id other e in
          ap (λ o. option_map span_of (first_of o place)) none ∙ ap Some span_is
          ∙ ap (λ (o : Option Span). first o (Some here)) (ap (option_map span_of) (sym none) ∙ ap (λ (i : Id). option_map span_of (place_of old.messages i)) is_other ∙ k.finds other)
      by false e = k.finds other ∙ sym (first_nothing (span_in other 16 records))
        where
          first_nothing : (o : Option Span) → first o None ≡ o
          first_nothing None = refl
          first_nothing (Some span) = refl

  -- they were recorded, and their place noted
  pub stored_done : (new : NodeStore) (after : D) (place : Place) → CanGoOn (on.seen before) old → wants_octets id users old.objects (place_of old.messages id) ≡ true → IsId id
      → new.own ≡ old.own → new.objects ≡ old.objects → new.log ≡ old.log → Notes old.messages new.messages id place
      → place.at ≡ end_of old.journal + 5 → place.length ≡ 14 + length octets
      → AppendsRecords on before after (end_of old.journal) (end_of new.journal) (Octets id octets ∷ []) → Done on (with_stored id users octets) old before new after
  stored_done new after place sound wanted fits own objects log notes at size a = record {
    added = Octets id octets ∷ [];
    whole = λ records k. added_where true wanted records k;
    log = λ records k. sym log;
    keeps = λ records k. record {
      ends = subst (λ (n : ℕ). end_of new.journal ≡ length (journal_of n (payloads_of (records ++ Octets id octets ∷ [])))) (sym own)
          (ends_more old.own records (Octets id octets ∷ []) (end_of old.journal) (end_of new.journal) k.ends a.grew);
      says = subst (λ (t : Table). TableTells t (records ++ Octets id octets ∷ [])) (sym objects) (λ key. k.says key ∙ sym (still_said key records (Octets id octets ∷ []) (λ q held. refl)));
      finds = found_at new place records k notes at size (unplaced wanted);
      fit = All-append IsRecord records (Octets id octets ∷ []) k.fit (All-cons IsRecord (Octets id octets) [] fits (All-nil IsRecord));
    };
    own = own;
    sound = record { gate = a.gate; objects = subst HoldsObjects (sym objects) sound.objects; logged = subst HoldsLogged (sym log) sound.logged };
    appends = a;
  }
