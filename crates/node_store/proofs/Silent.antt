-- Records that state nothing, and a new store.
use Rattle.std.proofs.Common.{Bool, true, false, ◌≡◌, ℕ, List, [], ◌∷◌, ◌++◌, length, Option, None, Some, refl, sym, ap, subst, ◌∙◌}
use Rattle.std.specs.Prelude.{All, option_map}
use Rattle.std.specs.FinMap as fin
use Rattle.std.proofs.lemmas.List.Elements.{All-nil, All-cons, All-append}
use Rattle.mail_model.specs.Identity.{Id, EpochId, Key, State}
use Rattle.mail_model.specs.Grammar.{IsRecord, IsObject, IsCount, IsEpoch}
use Rattle.mail_model.specs.Record.{Record, journal_of, payloads_of}
use Rattle.mail_model.specs.Record.Record.{Boot, Promise, Retired}
use Rattle.object_model.specs.Said.{held_after, said}
use Rattle.object_model.specs.Keys.{key_cmp}
use Rattle.object_model.proofs.SaidLaws.{held_both}
use Rattle.object_table.specs.Tables.{Table}
use Rattle.cluster_model.specs.Store.{Store}
use Rattle.disk_journal.specs.Journal.{end_of}
use Rattle.message_store.specs.Places.{place_of}
use Rattle.message_store.specs.declared.store.MessageStore.{MessageStore}
use Rattle.replica_push.specs.Rules.{TableTells}
use Rattle.node_store.specs.Disks.{View}
use Rattle.node_store.specs.Appends.{AppendsRecords, StopsWithin}
use Rattle.node_store.specs.Places.{span_of}
use Rattle.node_store.specs.Keeps.{KeepsRecords, seen_with, HoldsObjects, HoldsLogged, CanGoOn}
use Rattle.node_store.specs.Changes.{IsNew, with_boot, with_promise, retired_where, is_emptied, acked_by}
use Rattle.update_log.specs.Answers.{answer_at}
use Rattle.update_log.specs.declared.logged.Acked.{Acked}
use Rattle.update_log.specs.declared.logged.Acked.TheVariants.{Cleared, Emptied, Other}
use Rattle.replica_push.specs.Rules.{retired_by}
use Rattle.node_store.specs.Writes.{Done, WorkIsCutShort}
use Rattle.node_store.specs.declared.store.NodeStore.{NodeStore}
use Rattle.node_store.proofs.Placed.{HasNone, still_placed}
use Rattle.node_store.proofs.Taking.{ends_more}
use Rattle.node_store.proofs.Works.{Grows}
use Rattle.node_store.proofs.Journals.{stops_none}

-- whatever was held of a key is held after them
abbrev pub StatesNone : List Record → Type 0
StatesNone added = (key : Key) (held : Option State) → held_after key held added ≡ held

pub still_said : (key : Key) (records added : List Record) → StatesNone added → said key (records ++ added) ≡ said key records
still_said key records added none = held_both key None records added ∙ none key (said key records)

module _ {D : Type 0} (on : View D) (f : Store → Store) (added : List Record) (old : NodeStore) (before after : D) where
  -- they were recorded, and nothing but the log changed
  pub silent_done : (new : NodeStore)
      → ((records : List Record) → KeepsRecords records old → (f (seen_with old records)).disk ≡ records ++ added)
      → ((records : List Record) → KeepsRecords records old → (f (seen_with old records)).log ≡ new.log)
      → StatesNone added → HasNone added → All IsRecord added → HoldsLogged new.log → CanGoOn (on.seen before) old
      → new.own ≡ old.own → new.messages ≡ old.messages → new.objects ≡ old.objects
      → AppendsRecords on before after (end_of old.journal) (end_of new.journal) added → Done on f old before new after
  silent_done new whole log states none fit logged sound own messages objects appends = record {
    added = added;
    whole = whole;
    log = log;
    keeps = λ records k. record {
      ends = subst (λ (n : ℕ). end_of new.journal ≡ length (journal_of n (payloads_of (records ++ added)))) (sym own)
          (ends_more old.own records added (end_of old.journal) (end_of new.journal) k.ends appends.grew);
      says = subst (λ (t : Table). TableTells t (records ++ added)) (sym objects) (λ key. k.says key ∙ sym (still_said key records added states));
      finds = λ id. ap (λ (m : MessageStore). option_map span_of (place_of m id)) messages ∙ k.finds id ∙ sym (still_placed id 16 records added none);
      fit = All-append IsRecord records added k.fit fit;
    };
    own = own;
    sound = record { gate = appends.gate; objects = subst HoldsObjects (sym objects) sound.objects; logged = logged };
    appends = appends;
  }

  -- they were to be recorded
  pub silent_stopped : ((records : List Record) → KeepsRecords records old → (f (seen_with old records)).disk ≡ records ++ added) → StopsWithin on before after (end_of old.journal) added
      → WorkIsCutShort on f old before after
  silent_stopped whole s = record {
    front = s.front;
    pending = s.pending;
    cut = λ records k. record { missing = s.missing; is = whole records k ∙ ap (λ (l : List Record). records ++ l) s.is };
    stops = s.stops;
  }

-- nothing was begun of what only adds records
pub nothing_stopped : {D : Type 0} (on : View D) (f : Store → Store) (old : NodeStore) (disk : D) → ((s : Store) → Grows f s) → WorkIsCutShort on f old disk disk
nothing_stopped on f old disk grows = record {
  front = [];
  pending = [];
  cut = λ records k. record { missing = (grows (seen_with old records)).more; is = (grows (seen_with old records)).is };
  stops = stops_none on disk (end_of old.journal);
}

-- the record of a boot
pub boot_done : {D : Type 0} (on : View D) (boot : ℕ) (old new : NodeStore) (before after : D) → IsCount 32 boot → CanGoOn (on.seen before) old
    → new.own ≡ old.own → new.messages ≡ old.messages → new.objects ≡ old.objects → new.log ≡ old.log
    → AppendsRecords on before after (end_of old.journal) (end_of new.journal) (Boot boot ∷ []) → Done on (with_boot boot) old before new after
boot_done on boot old new before after fits sound own messages objects log appends =
    silent_done on (with_boot boot) (Boot boot ∷ []) old before after new (λ records k. refl) (λ records k. sym log) (λ key held. refl) (λ id at. refl)
    (All-cons IsRecord (Boot boot) [] fits (All-nil IsRecord)) (subst HoldsLogged (sym log) sound.logged) sound own messages objects appends

pub boot_stopped : {D : Type 0} (on : View D) (boot : ℕ) (old : NodeStore) (before after : D) → StopsWithin on before after (end_of old.journal) (Boot boot ∷ []) → WorkIsCutShort on (with_boot boot) old before after
boot_stopped on boot old before after s = silent_stopped on (with_boot boot) (Boot boot ∷ []) old before after (λ records k. refl) s

-- the record of a promise
pub promise_done : {D : Type 0} (on : View D) (epoch : EpochId) (old new : NodeStore) (before after : D) → IsEpoch epoch → CanGoOn (on.seen before) old
    → new.own ≡ old.own → new.messages ≡ old.messages → new.objects ≡ old.objects → new.log ≡ old.log
    → AppendsRecords on before after (end_of old.journal) (end_of new.journal) (Promise epoch ∷ []) → Done on (with_promise epoch) old before new after
promise_done on epoch old new before after fits sound own messages objects log appends =
    silent_done on (with_promise epoch) (Promise epoch ∷ []) old before after new (λ records k. refl) (λ records k. sym log) (λ key held. refl) (λ id at. refl)
    (All-cons IsRecord (Promise epoch) [] fits (All-nil IsRecord)) (subst HoldsLogged (sym log) sound.logged) sound own messages objects appends

pub promise_stopped : {D : Type 0} (on : View D) (epoch : EpochId) (old : NodeStore) (before after : D) → StopsWithin on before after (end_of old.journal) (Promise epoch ∷ [])
    → WorkIsCutShort on (with_promise epoch) old before after
promise_stopped on epoch old before after s = silent_stopped on (with_promise epoch) (Promise epoch ∷ []) old before after (λ records k. refl) s

-- a store with an empty table, an empty log and no places
pub new_store : (own : ℕ) (store : NodeStore) (seen : Option (List ℕ)) → store.own ≡ own → end_of store.journal ≡ 16 → store.objects ≡ fin.empty → store.log ≡ fin.empty
    → ((id : Id) → place_of store.messages id ≡ None) → IsNew own store
new_store own store seen is ends objects log messages = record {
  own_is = is;
  keeps = record {
    ends = ends;
    says = subst (λ (t : Table). TableTells t []) (sym objects) (λ key. fin.get-empty key_cmp key);
    finds = λ id. ap (option_map span_of) (messages id);
    fit = All-nil IsRecord;
  };
  log = log;
}

none_is_some : {X : Type 0} {A : Type 0} {x : X} → None ≡ Some x → A
none_is_some e = absurd (cc e)

pub none_held : (table : Table) → table ≡ fin.empty → HoldsObjects table
none_held table is = subst HoldsObjects (sym is) (λ key state found. none_is_some (sym (fin.get-empty key_cmp key) ∙ found))

-- that a state is retired
pub retired_fit : (key : Key) (state : State) (b : Bool) → IsObject key state → All IsRecord (retired_where key state b)
retired_fit key state true one = All-cons IsRecord (Retired key state) [] one (All-nil IsRecord)
retired_fit key state false one = All-nil IsRecord

retired_silent : (key : Key) (state : State) (b : Bool) → StatesNone (retired_where key state b)
retired_silent key state true q held = refl
retired_silent key state false q held = refl

retired_placed : (key : Key) (state : State) (b : Bool) → HasNone (retired_where key state b)
retired_placed key state true id at = refl
retired_placed key state false id at = refl

module _ {D : Type 0} (on : View D) (key : Key) (state : State) (f : Store → Store) (b : Bool) (old : NodeStore) (before after : D)
    (adds : (records : List Record) → KeepsRecords records old → (f (seen_with old records)).disk ≡ records ++ retired_where key state b) where
  pub retired_done : (new : NodeStore) → ((records : List Record) → KeepsRecords records old → (f (seen_with old records)).log ≡ new.log)
      → IsObject key state → HoldsLogged new.log → CanGoOn (on.seen before) old → new.own ≡ old.own → new.messages ≡ old.messages → new.objects ≡ old.objects
      → AppendsRecords on before after (end_of old.journal) (end_of new.journal) (retired_where key state b) → Done on f old before new after
  retired_done new log one logged sound own messages objects a =
      silent_done on f (retired_where key state b) old before after new adds log (retired_silent key state b) (retired_placed key state b) (retired_fit key state b one) logged sound own messages objects a

  pub retired_stopped : StopsWithin on before after (end_of old.journal) (retired_where key state b) → WorkIsCutShort on f old before after
  retired_stopped s = silent_stopped on f (retired_where key state b) old before after adds s

pub acked_adds : (key : Key) (state : State) (by : ℕ) (acked : Acked) (old : NodeStore) → acked ≡ answer_at state by (fin.get old.log key)
    → (records : List Record) → KeepsRecords records old → (acked_by key state by (seen_with old records)).disk ≡ records ++ retired_where key state (is_emptied acked)
acked_adds key state by acked old is records k = ap (λ (a : Acked). records ++ retired_by key state a) (sym is) ∙ ap (λ (l : List Record). records ++ l) (at acked)
  where
    at : (a : Acked) → retired_by key state a ≡ retired_where key state (is_emptied a)
    at Emptied = refl
    at Cleared = refl
    at Other = refl
