-- A store that takes a state does what the machine's node does.
use Rattle.std.proofs.Common.{◌≡◌, ℕ, ◌+◌, List, [], ◌∷◌, ◌++◌, length, Bool, true, false, Option, Some, None, nat_eq, refl, sym, ap, subst, ◌∙◌, arith, if◌then◌else◌}
use Rattle.std.specs.Prelude.{All, IfSome, option_map}
use Rattle.std.specs.FinMap as fin
use Rattle.std.proofs.lemmas.List.{length-append}
use Rattle.std.proofs.lemmas.List.Elements.{All-nil, All-cons, All-append}
use Rattle.mail_model.specs.Identity.{Key, State}
use Rattle.mail_model.specs.Grammar.{IsRecord, IsObject}
use Rattle.mail_model.specs.Record.{Record, journal_of, header_of, payloads_of}
use Rattle.mail_model.specs.Record.Record.{Stated, Retired}
use Rattle.object_model.specs.Sets.{without_node}
use Rattle.cluster_model.specs.Store.{Update, take_one}
use Rattle.disk_journal.specs.Journal.{end_of}
use Rattle.message_store.specs.Places.{place_of}
use Rattle.message_store.specs.declared.store.MessageStore.{MessageStore}
use Rattle.node_store.specs.Places.{span_of}
use Rattle.object_table.specs.Tables.{Table, taken}
use Rattle.replica_push.specs.Pushes.{news_of, note_news}
use Rattle.replica_push.specs.Rules.{TableTells, records_of, settled, IsTakenByRules}
use Rattle.replica_push.proofs.Follows.{pushes_follow}
use Rattle.node_store.specs.Disks.{View}
use Rattle.node_store.specs.Appends.{AppendsRecords, StopsWithin}
use Rattle.node_store.specs.Keeps.{KeepsRecords, seen_with, HoldsObjects, HoldsLogged, CanGoOn}
use Rattle.node_store.specs.Writes.{Done, WorkIsCutShort}
use Rattle.node_store.specs.declared.store.NodeStore.{NodeStore}
use Rattle.node_store.proofs.Journals.{frames_of, length-frames-append}
use Rattle.node_store.proofs.Objects.{news_object, taken_objects}
use Rattle.node_store.proofs.Logged.{noted_logged}
use Rattle.node_store.proofs.Placed.{still_placed, states_have_none}

-- the journal ends after what it held and what was added
pub ends_more : (own : ℕ) (records added : List Record) (end end' : ℕ) → end ≡ length (journal_of own (payloads_of records)) → end' ≡ end + length (frames_of added)
    → end' ≡ length (journal_of own (payloads_of (records ++ added)))
ends_more own records added end end' is grew =
    omega (arith, is, grew, length-append (header_of own) (frames_of records), length-append (header_of own) (frames_of (records ++ added)), length-frames-append records added)

fit_records : (own : ℕ) (key : Key) (news : Option State) → ((next : State) → news ≡ Some next → IsObject key next) → All IsRecord (records_of own key news)
fit_records own key None one = All-nil IsRecord
fit_records own key (Some next) one = by (nat_eq (without_node next.targets own) 0)
  where
    by : (b : Bool) → All IsRecord (if b then Stated key next ∷ Retired key next ∷ [] else Stated key next ∷ [])
    by true = All-cons IsRecord (Stated key next) (Retired key next ∷ []) (one next refl) (All-cons IsRecord (Retired key next) [] (one next refl) (All-nil IsRecord))
    by false = All-cons IsRecord (Stated key next) [] (one next refl) (All-nil IsRecord)

abbrev update_of : Key → State → Update
update_of key state = record { key = key; state = state }

module _ {D : Type 0} (on : View D) (key : Key) (state : State) (old : NodeStore) (before after : D) where
  abbrev news : Option State
  news = news_of (fin.get old.objects key) state

  took : (records : List Record) → KeepsRecords records old → IsTakenByRules old.own key state old.objects (seen_with old records) (take_one old.own (update_of key state) (seen_with old records))
  took records k = pushes_follow old.own key state old.objects (seen_with old records) k.says

  pub take_done : (new : NodeStore) → CanGoOn (on.seen before) old → IsObject key state
      → new.own ≡ old.own → new.messages ≡ old.messages → new.objects ≡ taken key state old.objects
      → new.log ≡ settled old.own key news (note_news old.own key news old.log)
      → AppendsRecords on before after (end_of old.journal) (end_of new.journal) (records_of old.own key news)
      → Done on (take_one old.own (update_of key state)) old before new after
  take_done new sound object same_own messages objects log appends = record {
    added = records_of old.own key news;
    whole = λ records k. (took records k).disk;
    log = λ records k. (took records k).log ∙ sym log;
    keeps = λ records k. record {
      ends = subst (λ (n : ℕ). end_of new.journal ≡ length (journal_of n (payloads_of (records ++ records_of old.own key news)))) (sym same_own)
          (ends_more old.own records (records_of old.own key news) (end_of old.journal) (end_of new.journal) k.ends appends.grew);
      says = subst (λ (t : Table). TableTells t (records ++ records_of old.own key news)) (sym objects)
          (subst (TableTells (taken key state old.objects)) (took records k).disk (took records k).tells);
      finds = λ id. ap (λ (m : MessageStore). option_map span_of (place_of m id)) messages ∙ k.finds id ∙ sym (still_placed id 16 records (records_of old.own key news) (states_have_none old.own key news));
      fit = All-append IsRecord records (records_of old.own key news) k.fit (fit_records old.own key news (λ next is. news_object key state next old.objects sound.objects object is));
    };
    own = same_own;
    sound = record {
      gate = appends.gate;
      objects = subst HoldsObjects (sym objects) (taken_objects key state old.objects sound.objects object);
      logged = subst HoldsLogged (sym log) (noted_logged old.own key news old.log sound.logged (λ next is. news_object key state next old.objects sound.objects object is));
    };
    appends = appends;
  }

  pub take_stopped : StopsWithin on before after (end_of old.journal) (records_of old.own key news) → WorkIsCutShort on (take_one old.own (update_of key state)) old before after
  take_stopped s = record {
    front = s.front;
    pending = s.pending;
    cut = λ records k. record {
      missing = s.missing;
      is = (took records k).disk ∙ ap (λ (l : List Record). records ++ l) s.is;
    };
    stops = s.stops;
  }

-- what was found to be news can be recorded
pub news_objects : (key : Key) (state : State) (table : Table) (news : Option State) → HoldsObjects table → IsObject key state → news ≡ news_of (fin.get table key) state
    → IfSome news (λ next. IsObject key next)
news_objects key state table None all one is = tt
news_objects key state table (Some next) all one is = news_object key state next table all one (sym is)
