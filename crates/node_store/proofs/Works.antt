-- Changes of a store, one after another.
use Rattle.std.proofs.Common.{◌≡◌, ℕ, List, [], ◌∷◌, ◌++◌, refl, sym, ap, subst, ◌∙◌, append-nil, append_assoc}
use Rattle.mail_model.specs.Record.{Record}
use Rattle.object_model.specs.UpdateLog.{Log}
use Rattle.cluster_model.specs.Store.{Store, Update, take_one, take_all}
use Rattle.disk_journal.specs.Journal.{end_of}
use Rattle.node_store.specs.Disks.{View}
use Rattle.node_store.specs.Keeps.{KeepsRecords, seen_with, CanGoOn}
use Rattle.node_store.specs.Writes.{Done, WorkIsCutShort}
use Rattle.node_store.specs.declared.store.NodeStore.{NodeStore}
use Rattle.node_store.proofs.Journals.{none_appended, appends_more, stops_more, all_stops}

-- a function that only adds records
pub record Grows (f : Store → Store) (store : Store) : Type 0 where
  pub more : List Record
  pub is : (f store).disk ≡ store.disk ++ more

store_is : (s : Store) (log : Log) (disk : List Record) → s.log ≡ log → s.disk ≡ disk → s ≡ record { log = log; disk = disk }
store_is s log disk a b = subst (λ (l : Log). s ≡ record { log = l; disk = disk }) a (subst (λ (d : List Record). s ≡ record { log = s.log; disk = d }) b refl)

keeps_none : (records : List Record) (store : NodeStore) → KeepsRecords records store → KeepsRecords (records ++ []) store
keeps_none records store k = subst (λ (l : List Record). KeepsRecords l store) (sym (append-nil records)) k

module _ {D : Type 0} (on : View D) where
  -- nothing is done
  pub done_none : (store : NodeStore) (disk : D) → CanGoOn (on.seen disk) store → Done on (λ s. s) store disk store disk
  done_none store disk sound = record {
    added = [];
    whole = λ records k. sym (append-nil records);
    log = λ records k. refl;
    keeps = λ records k. keeps_none records store k;
    own = refl;
    sound = sound;
    appends = none_appended on disk (end_of store.journal) sound.gate;
  }

  -- the same function by another name
  pub done_same : (f g : Store → Store) (old : NodeStore) (before : D) (new : NodeStore) (after : D) → ((s : Store) → f s ≡ g s) → Done on f old before new after → Done on g old before new after
  done_same f g old before new after same d = record {
    added = d.added;
    whole = λ records k. ap (λ (s : Store). s.disk) (sym (same (seen_with old records))) ∙ d.whole records k;
    log = λ records k. ap (λ (s : Store). s.log) (sym (same (seen_with old records))) ∙ d.log records k;
    keeps = d.keeps;
    own = d.own;
    sound = d.sound;
    appends = d.appends;
  }

  pub stopped_same : (f g : Store → Store) (old : NodeStore) (before after : D) → ((s : Store) → f s ≡ g s) → WorkIsCutShort on f old before after → WorkIsCutShort on g old before after
  stopped_same f g old before after same d = record {
    front = d.front;
    pending = d.pending;
    cut = λ records k. record {
      missing = (d.cut records k).missing;
      is = ap (λ (s : Store). s.disk) (sym (same (seen_with old records))) ∙ (d.cut records k).is;
    };
    stops = d.stops;
  }

  -- what does the same to every store that keeps its records
  pub done_like : (f g : Store → Store) (old : NodeStore) (before : D) (new : NodeStore) (after : D)
      → ((records : List Record) → KeepsRecords records old → f (seen_with old records) ≡ g (seen_with old records)) → Done on f old before new after → Done on g old before new after
  done_like f g old before new after same d = record {
    added = d.added;
    whole = λ records k. ap (λ (s : Store). s.disk) (sym (same records k)) ∙ d.whole records k;
    log = λ records k. ap (λ (s : Store). s.log) (sym (same records k)) ∙ d.log records k;
    keeps = d.keeps;
    own = d.own;
    sound = d.sound;
    appends = d.appends;
  }

  pub stopped_like : (f g : Store → Store) (old : NodeStore) (before after : D)
      → ((records : List Record) → KeepsRecords records old → f (seen_with old records) ≡ g (seen_with old records)) → WorkIsCutShort on f old before after → WorkIsCutShort on g old before after
  stopped_like f g old before after same d = record {
    front = d.front;
    pending = d.pending;
    cut = λ records k. record {
      missing = (d.cut records k).missing;
      is = ap (λ (s : Store). s.disk) (sym (same records k)) ∙ (d.cut records k).is;
    };
    stops = d.stops;
  }

  -- what the first function made is what the second one begins with
  between : (f : Store → Store) (old : NodeStore) (before : D) (mid : NodeStore) (at : D) (d : Done on f old before mid at) (records : List Record) → KeepsRecords records old
      → f (seen_with old records) ≡ seen_with mid (records ++ d.added)
  between f old before mid at d records k = store_is (f (seen_with old records)) mid.log (records ++ d.added) (d.log records k) (d.whole records k)

  -- one, and then the other
  pub done_more : (f g : Store → Store) (old : NodeStore) (before : D) (mid : NodeStore) (at : D) (new : NodeStore) (after : D) → Done on f old before mid at → Done on g mid at new after
      → Done on (λ s. g (f s)) old before new after
  done_more f g old before mid at new after a b = record {
    added = a.added ++ b.added;
    whole = λ records k. ap (λ (s : Store). (g s).disk) (between f old before mid at a records k) ∙ b.whole (records ++ a.added) (a.keeps records k) ∙ append_assoc records a.added b.added;
    log = λ records k. ap (λ (s : Store). (g s).log) (between f old before mid at a records k) ∙ b.log (records ++ a.added) (a.keeps records k);
    keeps = λ records k. subst (λ (l : List Record). KeepsRecords l new) (append_assoc records a.added b.added) (b.keeps (records ++ a.added) (a.keeps records k));
    own = b.own ∙ a.own;
    sound = b.sound;
    appends = appends_more on before at after (end_of old.journal) (end_of mid.journal) (end_of new.journal) a.added b.added a.appends b.appends;
  }

  -- one, and then the other stopped
  pub stopped_more : (f g : Store → Store) (old : NodeStore) (before : D) (mid : NodeStore) (at after : D) → Done on f old before mid at → WorkIsCutShort on g mid at after
      → WorkIsCutShort on (λ s. g (f s)) old before after
  stopped_more f g old before mid at after a b = record {
    front = a.added ++ b.front;
    pending = b.pending;
    cut = λ records k. let cut = b.cut (records ++ a.added) (a.keeps records k) in record {
      missing = cut.missing;
      is = ap (λ (s : Store). (g s).disk) (between f old before mid at a records k) ∙ cut.is
          ∙ append_assoc records a.added ((b.front ++ b.pending) ++ cut.missing)
          ∙ ap (λ (l : List Record). records ++ l) (sym (append_assoc a.added (b.front ++ b.pending) cut.missing) ∙ ap (λ (l : List Record). l ++ cut.missing) (sym (append_assoc a.added b.front b.pending)));
    };
    stops = stops_more on before at after (end_of old.journal) (end_of mid.journal) a.added b.front b.pending a.appends b.stops;
  }

  -- the first stopped, and the other was not begun
  pub stopped_before : (f g : Store → Store) (old : NodeStore) (before after : D) → ((s : Store) → Grows g s) → WorkIsCutShort on f old before after → WorkIsCutShort on (λ s. g (f s)) old before after
  stopped_before f g old before after grows d = record {
    front = d.front;
    pending = d.pending;
    cut = λ records k.
        let cut = d.cut records k in
        let more = grows (f (seen_with old records)) in record {
          missing = cut.missing ++ more.more;
          is = more.is ∙ ap (λ (l : List Record). l ++ more.more) cut.is ∙ append_assoc records ((d.front ++ d.pending) ++ cut.missing) more.more
              ∙ ap (λ (l : List Record). records ++ l) (append_assoc (d.front ++ d.pending) cut.missing more.more);
        };
    stops = d.stops;
  }

  -- all was recorded, and then it stopped
  pub done_stopped : (f : Store → Store) (old : NodeStore) (before : D) (new : NodeStore) (after : D) → Done on f old before new after → WorkIsCutShort on f old before after
  done_stopped f old before new after d = record {
    front = d.added;
    pending = [];
    cut = λ records k. record { missing = []; is = d.whole records k ∙ ap (λ (l : List Record). records ++ l) (sym (append-nil d.added) ∙ sym (append-nil (d.added ++ []))) };
    stops = all_stops on before after (end_of old.journal) (end_of new.journal) d.added d.appends;
  }

-- states that are taken one after another
pub take_all-append : (own : ℕ) (updates more : List Update) (store : Store) → take_all own (updates ++ more) store ≡ take_all own more (take_all own updates store)
take_all-append own [] more store = refl
take_all-append own (update ∷ updates) more store = take_all-append own updates more (take_one own update store)
