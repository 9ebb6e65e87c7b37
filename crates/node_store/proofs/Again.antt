-- One more record of a journal is read again.
use Rattle.std.proofs.Common.{◌≡◌, ⊎_elim, ℕ, ◌+◌, ◌<◌, ◌≤◌, List, [], ◌∷◌, ◌++◌, length, take, drop, get_or, take_all, Bool, true, false, Option, Some, None, refl, sym, ap, subst, ◌∙◌, arith, append_assoc, append-nil, if◌then◌else◌, w32}
use Rattle.std.specs.Prelude.{Err, All, IfSome, option_map, flat_map}
use Rattle.std.specs.FinMap as fin
use Rattle.std.specs.Int.{to_be_bytes}
use Rattle.io_edge.specs.Causes.{Rose}
use Rattle.std.proofs.lemmas.List.{length-append, map-append, drop_at, drop_more, take-append-le}
use Rattle.std.proofs.lemmas.List.Concat.{flat_map-append}
use Rattle.std.proofs.lemmas.List.Elements.{All-nil, All-cons, All-append, All-head, All-tail}
use Rattle.mail_model.specs.Identity.{Id, Key, State}
use Rattle.mail_model.specs.Grammar.{IsRecord}
use Rattle.mail_model.specs.Listing.{is_same_id}
use Rattle.mail_model.specs.Record.{Record, IsJournal, payload_of, payloads_of, framed, journal_of, header_of}
use Rattle.mail_model.specs.Record.Record.{Boot, Promise, Octets, Stated, Retired}
use Rattle.mail_model.proofs.Readings.{one_journal}
use Rattle.mail_model.proofs.OneRecord.{one_reading}
use Rattle.object_model.specs.Said.{said}
use Rattle.object_model.specs.Keys.{key_cmp}
use Rattle.object_model.specs.States.{join_with}
use Rattle.object_model.specs.UpdateLog.{Log}
use Rattle.object_model.proofs.SaidLaws.{said_same, said_other}
use Rattle.object_model.proofs.MapLaws.{key_total, key_exact, written, kept_other}
use Rattle.mail_base.proofs.KeyWrites.{same_or}
use Rattle.object_table.specs.Tables.{Table, taken}
use Rattle.cluster_model.specs.Starts.{recovered, log_after}
use Rattle.disk_journal.specs.Journal.{HasGate, TellsJournal, end_of}
use Rattle.disk_journal.specs.Reading.{AreAt, LieInRow, IsOpened, IsNoJournal}
use Rattle.disk_journal.specs.declared.place.Place.{Place}
use Rattle.record_form.specs.Entries.{IsEntryOf}
use Rattle.record_form.specs.declared.entry.DiskEntry.{DiskEntry}
use Rattle.message_store.specs.Places.{place_of, first_of}
use Rattle.replica_push.specs.Rules.{TableTells}
use Rattle.node_store.specs.Places.{Span, span_of, first, span_in}
use Rattle.node_store.specs.Keeps.{HoldsObjects, HoldsLogged}
use Rattle.node_store.proofs.Logged.{recovered_logged}
use Rattle.node_store.specs.Recovers.{Recovers}
use Rattle.node_store.specs.Reopens.{IsReopened, KeepsNoRecords, JournalFound, StoreReopened}
use Rattle.node_store.specs.Rereads.{HoldsPlace, payload_at, LiesThere, SpellsNone, FoundEntry, table_with, place_with, Retakes, HasReread, Rereads}
use Rattle.node_store.specs.declared.recovered.Recovered.{Recovered}
use Rattle.node_store.specs.declared.store.NodeStore.{NodeStore}
use Rattle.node_store.specs.declared.fault.ReadFault.{ReadFault}
use Rattle.node_store.specs.declared.fault.ReadFault.TheVariants.{Disk, NotAJournal, NoMemory}
use Rattle.node_store.proofs.Journals.{frames_of, length-frames-append}
use Rattle.node_store.proofs.Objects.{taken_objects}
use Rattle.node_store.proofs.Placed.{first_none, HasNone, span_in-append, still_placed}
use Rattle.node_store.proofs.Silent.{still_said, none_held}
use Rattle.node_store.proofs.Snocs.{log_more}

-- how many octets the journal of these records has up to its gate
abbrev size_of : ℕ → List Record → ℕ
size_of own records = length (journal_of own (payloads_of records))

pub size_is : (own : ℕ) (records : List Record) → size_of own records ≡ 16 + length (frames_of records)
size_is own records = length-append (header_of own) (frames_of records)

length-one : (one : Record) → length (frames_of (one ∷ [])) ≡ 5 + length (payload_of one)
length-one one = omega (arith, ap length (append-nil (framed (payload_of one))))

size_more : (own : ℕ) (records : List Record) (one : Record) → size_of own (records ++ one ∷ []) ≡ size_of own records + 5 + length (payload_of one)
size_more own records one = omega (arith, size_is own records, size_is own (records ++ one ∷ []), length-frames-append records (one ∷ []), length-one one)

payloads_more : (records : List Record) (one : Record) → payloads_of (records ++ one ∷ []) ≡ payloads_of records ++ payload_of one ∷ []
payloads_more records one = map-append payload_of records (one ∷ [])

-- the table says what one more record makes it say
tells_more : (one : Record) (table : Table) (records : List Record) → TableTells table records → TableTells (table_with one table) (records ++ one ∷ [])
tells_more (Boot boot) table records says key = says key ∙ sym (still_said key records (Boot boot ∷ []) (λ q held. refl))
tells_more (Promise epoch) table records says key = says key ∙ sym (still_said key records (Promise epoch ∷ []) (λ q held. refl))
tells_more (Octets id octets) table records says key = says key ∙ sym (still_said key records (Octets id octets ∷ []) (λ q held. refl))
tells_more (Retired other state) table records says key = says key ∙ sym (still_said key records (Retired other state ∷ []) (λ q held. refl))
tells_more (Stated other state) table records says key = ⊎_elim
    (λ (same : key ≡ other). subst (λ (k : Key). fin.get (taken other state table) k ≡ said k (records ++ Stated other state ∷ [])) (sym same)
    (written key_total key_exact table other (join_with (fin.get table other) state) ∙ ap (λ (h : Option State). Some (join_with h state)) (says other) ∙ sym (said_same other records state)))
    (λ apart. kept_other key_total key_exact table other (join_with (fin.get table other) state) key apart ∙ says key ∙ sym (said_other key other records state (λ e. apart (sym e))))
    (same_or key other)

-- and holds objects alone
holds_more : (one : Record) (table : Table) → IsRecord one → HoldsObjects table → HoldsObjects (table_with one table)
holds_more (Boot boot) table fits holds = holds
holds_more (Promise epoch) table fits holds = holds
holds_more (Octets id octets) table fits holds = holds
holds_more (Retired key state) table fits holds = holds
holds_more (Stated key state) table fits holds = taken_objects key state table holds fits

-- where octets are found
first_placed : (held : Option Place) (place : Place) → option_map span_of (first_of held place) ≡ first (option_map span_of held) (Some (span_of place))
first_placed None place = refl
first_placed (Some one) place = refl

module _ (own : ℕ) (records : List Record) (place : Place) (held : Option Place) (id : Id) (finds : option_map span_of held ≡ span_in id 16 records)
    (begins : place.at ≡ size_of own records + 5) where
  unplaced : (one : Record) → HasNone (one ∷ []) → option_map span_of held ≡ span_in id 16 (records ++ one ∷ [])
  unplaced one none = finds ∙ sym (still_placed id 16 records (one ∷ []) none)

  placed : (other : Id) (octets : List ℕ) → place.length ≡ 14 + length octets
      → option_map span_of (place_with place (Octets other octets) id held) ≡ span_in id 16 (records ++ Octets other octets ∷ [])
  placed other octets size = by (is_same_id other id) ∙ sym (span_in-append id 16 records (Octets other octets ∷ []))
    where
      here : Span
      here = record { at = (16 + length (frames_of records)) + 5; count = 14 + length octets }

      span_is : span_of place ≡ here
      span_is =
          let same_at : place.at ≡ (16 + length (frames_of records)) + 5 = omega (arith, begins, size_is own records) in
          ap (λ (n : ℕ). record { at = n; count = place.length }) same_at ∙ ap (λ (n : ℕ). record { at = (16 + length (frames_of records)) + 5; count = n }) size

      by : (b : Bool) → option_map span_of (if b then first_of held place else held) ≡ first (span_in id 16 records) (first (if b then Some here else None) None)
      by true = first_placed held place ∙ ap (λ (o : Option Span). first o (Some (span_of place))) finds ∙ ap (λ (s : Span). first (span_in id 16 records) (Some s)) span_is
      by false = finds ∙ sym (first_none (span_in id 16 records))

  finds_more : (one : Record) → place.length ≡ length (payload_of one) → option_map span_of (place_with place one id held) ≡ span_in id 16 (records ++ one ∷ [])
  finds_more (Boot boot) size = unplaced (Boot boot) (λ i at. refl)
  finds_more (Promise epoch) size = unplaced (Promise epoch) (λ i at. refl)
  finds_more (Stated key state) size = unplaced (Stated key state) (λ i at. refl)
  finds_more (Retired key state) size = unplaced (Retired key state) (λ i at. refl)
  finds_more (Octets other octets) size = placed other octets (omega (arith, size))

-- the payload of a journal lies at its place
pub record Lies (held : List ℕ) (place : Place) (payload : List ℕ) : Type 0 where
  pub reach : HoldsPlace held place
  pub is : payload_at held place ≡ payload

regroup : (h f g p o x : List ℕ) → (h ++ (f ++ ((g ++ p) ++ o))) ++ x ≡ ((h ++ f) ++ g) ++ (p ++ (o ++ x))
regroup h f g p o x = simp append_assoc refl

pub payload_lies : (own : ℕ) (held : List ℕ) (front : List (List ℕ)) (payload : List ℕ) (others : List (List ℕ)) (place : Place) → IsJournal own held (front ++ payload ∷ others)
    → place.at ≡ length (journal_of own front) + 5 → place.length ≡ length payload → Lies held place payload
payload_lies own held front payload others place journal begins size = record {
  reach = omega (arith, begins, size, ap length cut, length-append (journal_of own front) gate, length-append (journal_of own front ++ gate) (payload ++ rest), length-append payload rest);
  is = ap (take place.length) behind ∙ ap (λ (n : ℕ). take n (payload ++ rest)) size ∙ take-append-le (length payload) payload rest (omega arith) ∙ take_all (length payload) payload (omega arith);
}
  where
    gate : List ℕ
    gate = 0xA5 ∷ to_be_bytes w32 (length payload)

    rest : List ℕ
    rest = flat_map framed others ++ journal.gate ∷ journal.others

    cut : held ≡ (journal_of own front ++ gate) ++ (payload ++ rest)
    cut = journal.whole ∙ ap (λ (l : List ℕ). (header_of own ++ l) ++ journal.gate ∷ journal.others) (flat_map-append framed front (payload ∷ others))
        ∙ regroup (header_of own) (flat_map framed front) gate payload (flat_map framed others) (journal.gate ∷ journal.others)

    behind : drop place.at held ≡ payload ++ rest
    behind = ap (drop place.at) cut ∙ drop_at (journal_of own front ++ gate) (payload ++ rest) place.at (omega (arith, begins, length-append (journal_of own front) gate))

-- records that spell these payloads have one that spells this
record Spelt (payload : List ℕ) : Type 0 where
  one : Record
  fits : IsRecord one
  is : payload ≡ payload_of one

spelt_among : (records : List Record) (front : List (List ℕ)) (payload : List ℕ) (others : List (List ℕ)) → All IsRecord records → payloads_of records ≡ front ++ payload ∷ others → Spelt payload
spelt_among [] [] payload others all same = absurd (cc same)
spelt_among [] (x ∷ front) payload others all same = absurd (cc same)
spelt_among (one ∷ records) [] payload others all same = record { one = one; fits = All-head IsRecord one records all; is = sym (first same) }
  where
    first : payload_of one ∷ payloads_of records ≡ payload ∷ others → payload_of one ≡ payload
    first e = cc e
spelt_among (one ∷ records) (x ∷ front) payload others all same = spelt_among records front payload others (All-tail IsRecord one records all) (later same)
  where
    later : payload_of one ∷ payloads_of records ≡ x ∷ (front ++ payload ∷ others) → payloads_of records ≡ front ++ payload ∷ others
    later e = cc e

-- the payloads that are left, and where they lie
abbrev AreLeft : ℕ → List Record → List Place → List ℕ → Type 0
AreLeft own records left held = (others : List (List ℕ)) × IsJournal own held (payloads_of records ++ others) × AreAt (size_of own records) left others

told_more : (seen : Option (List ℕ)) (own : ℕ) (records : List Record) (one : Record) (place : Place) (left : List Place) → IfSome seen (AreLeft own records (place ∷ left))
    → IfSome seen (λ held. HoldsPlace held place → payload_at held place ≡ payload_of one) → IfSome seen (AreLeft own (records ++ one ∷ []) left)
told_more None own records one place left told lies = tt
told_more (Some held) own records one place left told lies = by told.0 told.1 told.2
  where
    by : (others : List (List ℕ)) → IsJournal own held (payloads_of records ++ others) → AreAt (size_of own records) (place ∷ left) others → AreLeft own (records ++ one ∷ []) left held
    by [] journal are = absurd are
    by (payload ∷ others) journal are =
        let l = payload_lies own held (payloads_of records) payload others place journal are.0 are.1 in
        let same : payload ≡ payload_of one = sym l.is ∙ lies l.reach in
        let joined : payloads_of records ++ payload ∷ others ≡ payloads_of (records ++ one ∷ []) ++ others =
        ap (λ (p : List ℕ). payloads_of records ++ p ∷ others) same ∙ sym (append_assoc (payloads_of records) (payload_of one ∷ []) others)
        ∙ ap (λ (l : List (List ℕ)). l ++ others) (sym (payloads_more records one)) in (
          others,
          subst (IsJournal own held) joined journal,
          subst (λ (n : ℕ). AreAt n left others) (sym (size_more own records one ∙ ap (λ (p : List ℕ). size_of own records + 5 + length p) (sym same))) are.2,
        )

told_none : (seen : Option (List ℕ)) (own : ℕ) (records : List Record) (place : Place) (left : List Place) → IfSome seen (AreLeft own records (place ∷ left)) → IfSome seen (SpellsNone place)
    → IfSome seen (KeepsNoRecords own)
told_none None own records place left told none = tt
told_none (Some held) own records place left told none = by told.0 told.1 told.2
  where
    by : (others : List (List ℕ)) → IsJournal own held (payloads_of records ++ others) → AreAt (size_of own records) (place ∷ left) others → KeepsNoRecords own held
    by [] journal are = absurd are
    by (payload ∷ others) journal are = λ written all journal_too.
        let l = payload_lies own held (payloads_of records) payload others place journal are.0 are.1 in
        let s = spelt_among written (payloads_of records) payload others all
        (one_journal own held (payloads_of written) (payloads_of records ++ payload ∷ others) journal_too journal) in
        none l.reach s.one s.fits (l.is ∙ s.is)

module _ (seen : Option (List ℕ)) (place : Place) (left : List Place) (old : NodeStore) (before : Recovered) (h : HasReread seen old before (place ∷ left)) where
  -- one more record was read
  pub one_more : (entry : DiskEntry) (new : NodeStore) (after : Recovered) → LiesThere seen place entry
      → ((one : Record) → IsEntryOf entry one → Retakes place one old new)
      → ((records : List Record) (one : Record) → IsEntryOf entry one → Recovers old.own records before → Recovers old.own (records ++ one ∷ []) after)
      → HasReread seen new after left
  one_more entry new after lies retakes heeds = record {
    records = h.records ++ one ∷ [];
    says = subst (λ (table : Table). TableTells table (h.records ++ one ∷ [])) (sym t.objects) (tells_more one old.objects h.records h.says);
    finds = λ id. ap (option_map span_of) (t.places id) ∙ finds_more old.own h.records place (place_of old.messages id) id (h.finds id) h.row.0 one lies.fitting.size;
    log = t.log h.records h.says ∙ ap (λ (l : Log). log_after old.own h.records l (one ∷ [])) h.log ∙ sym (log_more old.own h.records one)
        ∙ ap (λ (own : ℕ). recovered own (h.records ++ one ∷ [])) (sym t.own);
    names = subst (λ (own : ℕ). Recovers own (h.records ++ one ∷ []) after) (sym t.own) (heeds h.records one lies.fitting.is h.names);
    fit = All-append IsRecord h.records (one ∷ []) h.fit (All-cons IsRecord one [] lies.fitting.fits (All-nil IsRecord));
    objects = subst HoldsObjects (sym t.objects) (holds_more one old.objects lies.fitting.fits h.objects);
    row = subst (λ (own : ℕ). LieInRow (size_of own (h.records ++ one ∷ [])) left (end_of new.journal)) (sym t.own)
        (subst (λ (n : ℕ). LieInRow (size_of old.own (h.records ++ one ∷ [])) left n) (sym t.ends)
        (subst (λ (n : ℕ). LieInRow n left (end_of old.journal)) (omega (arith, size_more old.own h.records one, lies.fitting.size)) h.row.1));
    gate = subst (HasGate seen) (sym t.ends) h.gate;
    told = subst (λ (own : ℕ). IfSome seen (AreLeft own (h.records ++ one ∷ []) left)) (sym t.own) (told_more seen old.own h.records one place left h.told lies.told);
  }
    where
      one : Record
      one = lies.fitting.one

      t : Retakes place one old new
      t = retakes one lies.fitting.is

  -- none was
  pub entry_fails : (fault : ReadFault) (new : NodeStore) (after : Recovered) (from now : ℕ) → FoundEntry (Err fault) seen place from now → Rereads {T = Unit {0}} (Err fault) seen old.own new after left from now
  entry_fails Disk new after from now f = f
  entry_fails NotAJournal new after from now f = (told_none seen old.own h.records place left h.told f.0, f.1)
  entry_fails NoMemory new after from now f = f

-- where none are left, all were read
stands_whole : (seen : Option (List ℕ)) (own end : ℕ) (records : List Record) → end ≡ size_of own records → IfSome seen (AreLeft own records []) → TellsJournal seen own (payloads_of records) end
stands_whole None own end records ends told = tt
stands_whole (Some held) own end records ends told = record { journal = by told.0 told.1 told.2; at_gate = ends }
  where
    by : (others : List (List ℕ)) → IsJournal own held (payloads_of records ++ others) → AreAt (size_of own records) [] others → IsJournal own held (payloads_of records)
    by [] journal are = subst (IsJournal own held) (append-nil (payloads_of records)) journal
    by (payload ∷ others) journal are = absurd are

only_these : (seen : Option (List ℕ)) (own end : ℕ) (records : List Record) → All IsRecord records → TellsJournal seen own (payloads_of records) end
    → IfSome seen (λ held. (others : List Record) → All IsRecord others → IsJournal own held (payloads_of others) → others ≡ records)
only_these None own end records fit stands = tt
only_these (Some held) own end records fit stands = λ others all journal. one_reading own held others records all fit journal stands.journal

pub all_read : (seen : Option (List ℕ)) (own : ℕ) (store : NodeStore) (found : Recovered) → store.own ≡ own → HasReread seen store found [] → IsReopened own seen store found
all_read seen own store found same h =
    let stands = subst (λ (n : ℕ). TellsJournal seen n (payloads_of h.records) (end_of store.journal)) same (stands_whole seen store.own (end_of store.journal) h.records h.row h.told) in
    record {
      records = h.records;
      own_is = same;
      keeps = record { ends = h.row; says = h.says; finds = h.finds; fit = h.fit };
      log = h.log ∙ ap (λ (n : ℕ). recovered n h.records) same;
      names = subst (λ (n : ℕ). Recovers n h.records found) same h.names;
      sound = record { gate = h.gate; objects = h.objects; logged = subst HoldsLogged (sym h.log) (recovered_logged store.own h.records h.fit) };
      stand = stands;
      only = only_these seen own (end_of store.journal) h.records h.fit stands;
    }

-- before the first record
opened_gate : (seen : Option (List ℕ)) (own end : ℕ) (places : List Place) → IfSome seen (λ held. IsOpened own held end places) → HasGate seen end
opened_gate None own end places told = tt
opened_gate (Some held) own end places told = told.within

opened_left : (seen : Option (List ℕ)) (own end : ℕ) (places : List Place) → IfSome seen (λ held. IsOpened own held end places) → IfSome seen (AreLeft own [] places)
opened_left None own end places told = tt
opened_left (Some held) own end places told = (told.payloads, told.ends.journal, told.are)

pub none_read : (seen : Option (List ℕ)) (store : NodeStore) (found : Recovered) (places : List Place) → IfSome seen (λ held. IsOpened store.own held (end_of store.journal) places)
    → LieInRow 16 places (end_of store.journal) → ((id : Id) → place_of store.messages id ≡ None) → store.objects ≡ fin.empty → store.log ≡ fin.empty → Recovers store.own [] found
    → HasReread seen store found places
none_read seen store found places told row messages objects log names = record {
  records = [];
  says = subst (λ (t : Table). TableTells t []) (sym objects) (λ key. fin.get-empty key_cmp key);
  finds = λ id. ap (option_map span_of) (messages id);
  log = log;
  names = names;
  fit = All-nil IsRecord;
  objects = none_held store.objects objects;
  row = row;
  gate = opened_gate seen store.own (end_of store.journal) places told;
  told = opened_left seen store.own (end_of store.journal) places told;
}

-- the place that is next
pub next_read : (seen : Option (List ℕ)) (store : NodeStore) (found : Recovered) (places : List Place) (i : ℕ) (place : Place) → i < length places → place ≡ get_or places i place
    → HasReread seen store found (drop i places) → HasReread seen store found (place ∷ drop (i + 1) places)
next_read seen store found places i place within is h =
    subst (HasReread seen store found) (drop_more places i place within ∙ ap (λ (p : Place). p ∷ drop (i + 1) places) (sym is)) h

-- why reading stopped, after it had gone on quietly
pub stopped_on : (fault : ReadFault) (seen mid : Option (List ℕ)) (own own' : ℕ) (store other : NodeStore) (found more : Recovered) (left rest : List Place) (before between now : ℕ)
    → mid ≡ seen → own' ≡ own → between ≡ before → Rereads {T = Unit {0}} (Err fault) mid own' store found left between now → Rereads {T = Unit {0}} (Err fault) seen own other more rest before now
stopped_on Disk seen mid own own' store other found more left rest before between now told same quiet r = subst (λ (n : ℕ). (n ≤ now) × Rose n now) quiet r
stopped_on NotAJournal seen mid own own' store other found more left rest before between now told same quiet r = (
  subst (λ (o : Option (List ℕ)). IfSome o (KeepsNoRecords own)) told (subst (λ (n : ℕ). IfSome mid (KeepsNoRecords n)) same r.0),
  r.1 ∙ quiet,
)
stopped_on NoMemory seen mid own own' store other found more left rest before between now told same quiet r = r ∙ quiet

-- where there is no journal, no records are kept
no_records : (seen : Option (List ℕ)) (own : ℕ) → IfSome seen (IsNoJournal own) → IfSome seen (KeepsNoRecords own)
no_records None own none = tt
no_records (Some held) own none = λ records all journal. none (payloads_of records) journal

pub not_opened : (fault : ReadFault) (seen : Option (List ℕ)) (own before now : ℕ) → JournalFound (Err fault) own seen before now → StoreReopened (Err fault) own seen before now
not_opened Disk seen own before now f = f
not_opened NotAJournal seen own before now f = (no_records seen own f.0, f.1)
not_opened NoMemory seen own before now f = f
