-- A node that starts over what a stop of the machine left.
use Rattle.std.proofs.Common.{◌≡◌, ◌⊎◌, inl, inr, ⊎_elim, ◌<◌, ◌≤◌, ◌+◌, ◌&&◌, ℕ, max, List, [], ◌∷◌, ◌++◌, true, false, cond, nat_eq, Option, Some, None, IfSome, refl, sym, ap, subst, ◌∙◌, arith, append-nil, append_assoc}
use Rattle.std.specs.Prelude.{All, Err}
use Rattle.std.specs.FinMap as fin
use Rattle.std.proofs.lemmas.List.Elements.{All-nil, All-cons, All-append, All-head, All-tail}
use Rattle.io_edge.specs.Causes.{Rose}
use Rattle.io_edge.specs.Moments.{Passed, Keeps as KeepsImages, Restarts, IsOnly}
use Rattle.io_edge.proofs.Passing.{weaker, passes}
use Rattle.mail_model.specs.Identity.{EpochId}
use Rattle.mail_model.specs.Record.{Record, IsJournal, payload_of, payloads_of}
use Rattle.mail_model.specs.Record.Record.{Boot, Promise, Octets, Stated, Retired}
use Rattle.mail_model.specs.Grammar.{IsRecord, IsCount}
use Rattle.object_model.specs.States.{join_with}
use Rattle.object_model.specs.Said.{said}
use Rattle.object_model.specs.UpdateLog.{Log, retired}
use Rattle.cluster_model.specs.Claims.{boot_of}
use Rattle.cluster_model.specs.Rules.{greatest_named}
use Rattle.cluster_model.specs.Starts.{drawn_on, greatest_count_on, log_after, owed_state, recovered}
use Rattle.whole_model.proofs.Following.{promise_both}
use Rattle.disk_journal.specs.Journal.{EndsAt, TellsJournal}
use Rattle.disk_journal.specs.Images.{Extends, Adds}
use Rattle.node_store.specs.Disks.{View}
use Rattle.node_store.specs.Reopens.{IsReopened}
use Rattle.node_store.specs.declared.recovered.Recovered.{Recovered}
use Rattle.node_store.specs.declared.store.NodeStore.{NodeStore}
use Rattle.std.proofs.lemmas.List.{map-append}
use Rattle.mail_model.specs.Plan.{Plan}
use Rattle.object_model.specs.Letters.{Membership}
use Rattle.cluster_model.specs.Cluster as plain
use Rattle.cluster_model.specs.Starts.{started}
use Rattle.cluster_model.specs.Steps.{greatest_boot}
use Rattle.disk_journal.specs.Journal.{end_of}
use Rattle.node_store.specs.Appends.{IsEither, Fails}
use Rattle.node_store.specs.Recovers.{boot_found, promise_found, count_found, drawn_found}
use Rattle.node_store.specs.declared.fault.KeepFault.{KeepFault}
use Rattle.node_store.specs.declared.fault.KeepFault.TheVariants as keep
use Rattle.node_tickets.specs.Standing.{IsOf, tickets_in}
use Rattle.node_tickets.specs.declared.tickets.Tickets.{Tickets}
use Rattle.node_store.specs.Keeps.{KeepsRecords}
use Rattle.node_store.specs.Changes.{with_boot}
use Rattle.node_store.specs.Writes.{Done, WorkIsCutShort}
use Rattle.node_core.specs.Nodes.{node_seen, end_in}
use Rattle.node_core.specs.Starting.{MayHold, WhereItHolds, IsStartStop, StartKeeps, StartedOver, StoppedOver, WornOver, NodeStarts, NodeStarted, PromisedOver, NodeStartedWith, HasReopened, HoldsNoJournal, ReopensStore}
use Rattle.node_core.specs.Works.{fault_of}
use Rattle.node_core.specs.declared.shape.Shape.{Shape}
use Rattle.node_core.specs.declared.fault.NodeFault.{NodeFault}
use Rattle.node_core.specs.declared.fault.NodeFault.TheVariants.{Disk, Worn, NoMemory}
use Rattle.node_core.specs.declared.node.Node.{Node}

-- a record of a boot names no message, no stamp and no state
pub drawn_booted : (own boot at drawn : ℕ) (records : List Record) → drawn_on own at drawn (records ++ Boot boot ∷ []) ≡ drawn_on own at drawn records
drawn_booted own boot at drawn [] = refl
drawn_booted own boot at drawn (Boot other ∷ records) = drawn_booted own boot at drawn records
drawn_booted own boot at drawn (Promise epoch ∷ records) = drawn_booted own boot at drawn records
drawn_booted own boot at drawn (Octets id octets ∷ records) = drawn_booted own boot at (max drawn (cond (nat_eq id.node own && nat_eq id.boot at) id.seq 0)) records
drawn_booted own boot at drawn (Stated key state ∷ records) = drawn_booted own boot at (max drawn (greatest_named own at key)) records
drawn_booted own boot at drawn (Retired key state ∷ records) = drawn_booted own boot at (max drawn (greatest_named own at key)) records

pub count_booted : (boot count : ℕ) (records : List Record) → greatest_count_on count (records ++ Boot boot ∷ []) ≡ greatest_count_on count records
count_booted boot count [] = refl
count_booted boot count (Boot other ∷ records) = count_booted boot count records
count_booted boot count (Promise epoch ∷ records) = count_booted boot count records
count_booted boot count (Octets id octets ∷ records) = count_booted boot count records
count_booted boot count (Stated key state ∷ records) = count_booted boot (max count state.stamp.count) records
count_booted boot count (Retired key state ∷ records) = count_booted boot count records

log_booted : (own boot : ℕ) (seen : List Record) (log : Log) (records : List Record) → log_after own seen log (records ++ Boot boot ∷ []) ≡ log_after own seen log records
log_booted own boot seen log [] = refl
log_booted own boot seen log (Boot other ∷ records) = log_booted own boot (seen ++ Boot other ∷ []) log records
log_booted own boot seen log (Promise epoch ∷ records) = log_booted own boot (seen ++ Promise epoch ∷ []) log records
log_booted own boot seen log (Octets id octets ∷ records) = log_booted own boot (seen ++ Octets id octets ∷ []) log records
log_booted own boot seen log (Stated key state ∷ records) = log_booted own boot (seen ++ Stated key state ∷ []) (owed_state own key (join_with (said key seen) state) log) records
log_booted own boot seen log (Retired key state ∷ records) = log_booted own boot (seen ++ Retired key state ∷ []) (retired key state log) records

pub recovered_booted : (own boot : ℕ) (records : List Record) → recovered own (records ++ Boot boot ∷ []) ≡ recovered own records
recovered_booted own boot records = log_booted own boot [] fin.empty records

-- the first of one record
pub first_of_one : {X : Type 0} (xs ys : List X) (x : X) → xs ++ ys ≡ x ∷ [] → (xs ≡ []) ⊎ (xs ≡ x ∷ [])
first_of_one [] ys x is = inl refl
first_of_one (a ∷ []) ys x is = let same : a ≡ x = cc is in inr (ap (λ y. y ∷ []) same)
first_of_one (a ∷ b ∷ xs) ys x is = absurd (cc is)

none_of_none : {X : Type 0} (xs ys : List X) → xs ++ ys ≡ [] → xs ≡ []
none_of_none [] ys is = refl
none_of_none (a ∷ xs) ys is = absurd (cc is)

cancel : {X : Type 0} (xs ys zs : List X) → xs ++ ys ≡ xs ++ zs → ys ≡ zs
cancel [] ys zs is = is
cancel (x ∷ xs) ys zs is = cancel xs ys zs (cc is)

all_first : (xs ys : List Record) → All IsRecord (xs ++ ys) → All IsRecord xs
all_first [] ys all = All-nil IsRecord
all_first (x ∷ xs) ys all = All-cons IsRecord x xs (All-head IsRecord x (xs ++ ys) all) (all_first xs ys (All-tail IsRecord x (xs ++ ys) all))

module _ {D : Type 0} (on : View D) (plan : Plan) (own : ℕ) (before : D) (records pending : List Record) (holds : MayHold on before own records pending) where
  journal_at : (l m : List Record) (c : List ℕ) → l ≡ m → IsJournal own c (payloads_of l) → IsJournal own c (payloads_of m)
  journal_at l m c is j = subst (λ (x : List Record). IsJournal own c (payloads_of x)) is j

  -- what an image of it is, before anything is added
  pub image_stops : (added : List Record) (c : List ℕ) → on.clock.is_image before c → IsStartStop own records pending added c
  image_stops added c is = ⊎_elim
      (λ without. record {
        kept = [];
        pending_is = inl refl;
        front = [];
        rest = added;
        split = refl;
        is = journal_at records ((records ++ []) ++ []) c (sym (append-nil records) ∙ sym (append-nil (records ++ []))) without;
      })
      (λ whole. record { kept = pending; pending_is = inr refl; front = []; rest = added; split = refl; is = journal_at (records ++ pending) ((records ++ pending) ++ []) c (sym (append-nil (records ++ pending))) whole })
      (holds.images c is)

  -- the disk was only read, or started again
  pub holds_still : (after : D) → KeepsImages on.clock before after → MayHold on after own records pending
  holds_still after kept = record { images = λ c is. holds.images c (kept.now c is); fit = holds.fit }

  pub keeps_still : (after : D) → KeepsImages on.clock before after → StartKeeps on plan own before after records pending (records ++ pending)
  keeps_still after kept = record {
    kept = [];
    pending_is = inl refl;
    added = pending;
    grew = ap (λ (l : List Record). l ++ pending) (sym (append-nil records));
    moments = weaker on.clock before after (on.clock.is_image before) (IsStartStop own records pending pending) (image_stops pending) kept;
  }

  pub stopped_still : (after : D) → KeepsImages on.clock before after → StoppedOver on plan own before after records pending
  stopped_still after kept = record {
    next = pending;
    new = records;
    stops = record { kept = []; pending_is = inl refl; records = sym (append-nil records); next_is = inr (inr (refl, refl)) };
    holds = holds_still after kept;
    stops_keep = keeps_still after kept;
  }

  -- no image of it is another journal
  pub no_other : HoldsNoJournal on own before → ⊥
  no_other none = ⊎_elim (λ without. none.none records (all_first records pending holds.fit) without) (λ whole. none.none (records ++ pending) holds.fit whole) (holds.images none.image none.was)

  -- it was started again and read
  module _ (mid : D) (held : List ℕ) (seen_mid : on.seen mid ≡ Some held) (was : on.clock.is_image before held) (kept : KeepsImages on.clock before mid) (only : IsOnly on.clock mid held)
      (store : NodeStore) (found : Recovered) (r : IsReopened own (on.seen mid) store found) where
    only_records : (others : List Record) → All IsRecord others → IsJournal own held (payloads_of others) → others ≡ r.records
    only_records = subst (λ (o : Option (List ℕ)). IfSome o (λ h. (others : List Record) → All IsRecord others → IsJournal own h (payloads_of others) → others ≡ r.records)) seen_mid r.only

    record KeptOf : Type 0 where
      some : List Record
      pending_is : (some ≡ []) ⊎ (some ≡ pending)
      is : records ++ some ≡ r.records

    found_kept : KeptOf
    found_kept = ⊎_elim
        (λ without. record {
          some = [];
          pending_is = inl refl;
          is = append-nil records ∙ only_records records (all_first records pending holds.fit) without;
        })
        (λ whole. record { some = pending; pending_is = inr refl; is = only_records (records ++ pending) holds.fit whole })
        (holds.images held was)

    ends : EndsAt own held (payloads_of r.records) (end_of store.journal)
    ends = subst (λ (o : Option (List ℕ)). TellsJournal o own (payloads_of r.records) (end_of store.journal)) seen_mid r.stand

    pub worn_over : greatest_boot ≤ boot_of r.records → WornOver on plan own before mid records pending
    worn_over last = record {
      kept = found_kept.some;
      pending_is = found_kept.pending_is;
      last = subst (λ (l : List Record). greatest_boot ≤ boot_of l) (sym found_kept.is) last;
      holds = holds_still mid kept;
      stops_keep = keeps_still mid kept;
    }

    module _ (boot : ℕ) (boot_is : boot ≡ boot_of r.records + 1) (fits : IsCount 32 boot) (after : D) where
      next_boot : boot ≡ boot_of (records ++ found_kept.some) + 1
      next_boot = boot_is ∙ ap (λ (l : List Record). boot_of l + 1) (sym found_kept.is)

      -- what a stop leaves while the boot is recorded
      stop_at : (c : List ℕ) (part : List (List ℕ)) → (part ≡ []) ⊎ (part ≡ payload_of (Boot boot) ∷ []) → IsJournal own c (payloads_of r.records ++ part) → IsStartStop own records pending (Boot boot ∷ []) c
      stop_at c part cases is = ⊎_elim
          (λ none. record {
            kept = found_kept.some;
            pending_is = found_kept.pending_is;
            front = [];
            rest = Boot boot ∷ [];
            split = refl;
            is = journal_at r.records ((records ++ found_kept.some) ++ []) c (sym found_kept.is ∙ sym (append-nil (records ++ found_kept.some)))
                (subst (IsJournal own c) (ap (λ (p : List (List ℕ)). payloads_of r.records ++ p) none ∙ append-nil (payloads_of r.records)) is);
          })
          (λ whole. record {
            kept = found_kept.some;
            pending_is = found_kept.pending_is;
            front = Boot boot ∷ [];
            rest = [];
            split = refl;
            is = journal_at (r.records ++ Boot boot ∷ []) ((records ++ found_kept.some) ++ Boot boot ∷ []) c (ap (λ (l : List Record). l ++ Boot boot ∷ []) (sym found_kept.is))
                (subst (IsJournal own c) (ap (λ (p : List (List ℕ)). payloads_of r.records ++ p) whole ∙ sym (map-append payload_of r.records (Boot boot ∷ []))) is);
          })
          cases

      based : (base : List ℕ) → on.clock.is_image mid base → EndsAt own base (payloads_of r.records) (end_of store.journal)
      based base image = subst (λ (h : List ℕ). EndsAt own h (payloads_of r.records) (end_of store.journal)) (sym (only base image)) ends

      moments_of : (added : List Record) → (added ≡ []) ⊎ (added ≡ Boot boot ∷ []) → IfSome (on.seen mid) (λ _. Adds on.clock mid after (end_of store.journal) (payloads_of added))
          → Passed on.clock before after (IsStartStop own records pending (Boot boot ∷ []))
      moments_of added cases adds =
          let passed = subst (λ (o : Option (List ℕ)). IfSome o (λ _. Adds on.clock mid after (end_of store.journal) (payloads_of added))) seen_mid adds in
          passes on.clock before mid after (IsStartStop own records pending (Boot boot ∷ [])) (Extends on.clock mid (end_of store.journal) (payloads_of added))
          (weaker on.clock before mid (on.clock.is_image before) (IsStartStop own records pending (Boot boot ∷ [])) (image_stops (Boot boot ∷ [])) kept) passed
          (λ c e. stop_at c e.part (⊎_elim
          (λ none. inl (none_of_none e.part e.rest (e.split ∙ ap payloads_of none)))
          (λ whole. first_of_one e.part e.rest (payload_of (Boot boot)) (e.split ∙ ap payloads_of whole))
          cases) (e.is own (payloads_of r.records) (based e.base e.was)))

      starts_keep : (added all : List Record) → (added ≡ []) ⊎ (added ≡ Boot boot ∷ []) → all ≡ r.records ++ Boot boot ∷ []
          → IfSome (on.seen mid) (λ _. Adds on.clock mid after (end_of store.journal) (payloads_of added)) → StartKeeps on plan own before after records pending all
      starts_keep added all cases is adds = record {
        kept = found_kept.some;
        pending_is = found_kept.pending_is;
        added = Boot boot ∷ [];
        grew = is ∙ ap (λ (l : List Record). l ++ Boot boot ∷ []) (sym found_kept.is);
        moments = moments_of added cases adds;
      }

      -- the record of the boot was cut
      pub boot_cut : WorkIsCutShort on (with_boot boot) store mid after → StoppedOver on plan own before after records pending
      boot_cut d =
          let cut = d.cut r.records r.keeps in
          let all : Boot boot ∷ [] ≡ (d.front ++ d.pending) ++ cut.missing = cancel r.records (Boot boot ∷ []) ((d.front ++ d.pending) ++ cut.missing) cut.is in
          let both = first_of_one (d.front ++ d.pending) cut.missing (Boot boot) (sym all) in
          let front = first_of_one d.front (d.pending ++ cut.missing) (Boot boot) (sym (append_assoc d.front d.pending cut.missing) ∙ sym all) in
          let either = subst (λ (o : Option (List ℕ)). IfSome o (λ _. (c : List ℕ) → on.clock.is_image after c → IsEither on.clock mid (end_of store.journal) d.front d.pending c)) seen_mid d.stops.images in
          record {
            next = Boot boot ∷ [];
            new = r.records;
            stops = record { kept = found_kept.some; pending_is = found_kept.pending_is; records = sym found_kept.is; next_is = inr (inl (ap (λ (n : ℕ). Boot n ∷ []) next_boot)) };
            holds = record {
              images = λ c image.
                  let e = either c image in
                  ⊎_elim (λ j. part_of c d.front front j)
                  (λ j. part_of c (d.front ++ d.pending) both (journal_at ((r.records ++ d.front) ++ d.pending) (r.records ++ (d.front ++ d.pending)) c (append_assoc r.records d.front d.pending) j))
                  (e.is own r.records (based e.base e.was));
              fit = All-append IsRecord r.records (Boot boot ∷ []) r.keeps.fit (All-cons IsRecord (Boot boot) [] fits (All-nil IsRecord));
            };
            stops_keep = starts_keep (d.front ++ d.pending) (r.records ++ Boot boot ∷ []) both refl d.stops.moments;
          }
        where
          part_of : (c : List ℕ) (part : List Record) → (part ≡ []) ⊎ (part ≡ Boot boot ∷ []) → IsJournal own c (payloads_of (r.records ++ part))
              → IsJournal own c (payloads_of r.records) ⊎ IsJournal own c (payloads_of (r.records ++ Boot boot ∷ []))
          part_of c part cases j = ⊎_elim
              (λ none. inl (journal_at (r.records ++ part) r.records c (ap (λ (p : List Record). r.records ++ p) none ∙ append-nil r.records) j))
              (λ whole. inr (journal_at (r.records ++ part) (r.records ++ Boot boot ∷ []) c (ap (λ (p : List Record). r.records ++ p) whole) j))
              cases

      -- it was recorded
      pub boot_done : (new : NodeStore) → Done on (with_boot boot) store mid new after → (node : Node) → node.store ≡ new → node_seen node ≡ started own None boot (r.records ++ Boot boot ∷ [])
          → StartedOver on plan own before after node records pending
      boot_done new d node store_is seen_is =
          let whole = d.whole r.records r.keeps in
          let added : Boot boot ∷ [] ≡ d.added = cancel r.records (Boot boot ∷ []) d.added whole in
          record {
            new = r.records ++ Boot boot ∷ [];
            starts = record {
              kept = found_kept.some;
              pending_is = found_kept.pending_is;
              records = ap (λ (l : List Record). l ++ Boot boot ∷ []) (sym found_kept.is) ∙ ap (λ (n : ℕ). (records ++ found_kept.some) ++ Boot n ∷ []) next_boot;
              is = seen_is ∙ ap (λ (n : ℕ). started own None n (r.records ++ Boot boot ∷ [])) next_boot;
            };
            keeps = subst (λ (l : List Record). KeepsRecords l node.store) (sym whole) (subst (KeepsRecords (r.records ++ d.added)) (sym store_is) (d.keeps r.records r.keeps));
            tells = subst (λ (l : List Record). TellsJournal (on.seen after) own (payloads_of l) (end_in node)) (sym whole)
                (subst (λ (s : NodeStore). TellsJournal (on.seen after) own (payloads_of (r.records ++ d.added)) (end_of s.journal)) (sym store_is) (d.appends.stand own r.records r.stand));
            stops_keep = starts_keep d.added (r.records ++ Boot boot ∷ []) (inr (sym added)) refl d.appends.moments;
          }

      -- and its last promise is the one that was found
      pub boot_promised : (new : NodeStore) (d : Done on (with_boot boot) store mid new after) → (node : Node) → node.store ≡ new → node_seen node ≡ started own None boot (r.records ++ Boot boot ∷ [])
          → (promise : EpochId) → promise ≡ promise_found found → PromisedOver on plan own before after node promise records pending
      unfolding boot_done
      boot_promised new d node store_is seen_is promise is =
          record { over = boot_done new d node store_is seen_is; promise_is = is ∙ r.names.promise ∙ sym (promise_both _ r.records (Boot boot ∷ [])) }

-- for whatever it may hold
module _ {D : Type 0} (on : View D) (plan : Plan) (own : ℕ) (before : D) where
  pub still_stopped : (after : D) → KeepsImages on.clock before after → WhereItHolds on before own (StoppedOver on plan own before after)
  still_stopped after kept = by (on.seen before)
    where
      by : (o : Option (List ℕ)) → IfSome o (λ _. (records pending : List Record) → MayHold on before own records pending → StoppedOver on plan own before after records pending)
      by None = tt
      by (Some held) = λ records pending holds. stopped_still on plan own before records pending holds after kept

  pub reopen_failed : (mid : D) (fault : NodeFault) → KeepsImages on.clock before mid → ReopensStore on own before mid (Err fault) → NodeStarts on plan own before mid (Err fault)
  reopen_failed mid Disk kept r = by (on.seen before) r
    where
      by : (o : Option (List ℕ)) → Rose (on.faults before) (on.faults mid) ⊎ IfSome o (λ _. HoldsNoJournal on own before)
          → IfSome o (λ _. (records pending : List Record) → MayHold on before own records pending → StoppedOver on plan own before mid records pending × Rose (on.faults before) (on.faults mid))
      by None f = tt
      by (Some held) f = λ records pending holds. (
        stopped_still on plan own before records pending holds mid kept,
        ⊎_elim (λ rose. rose) (λ none. absurd (no_other on plan own before records pending holds none)) f,
      )
  reopen_failed mid Worn kept r = absurd r
  reopen_failed mid (NoMemory true) kept r = absurd r
  reopen_failed mid (NoMemory false) kept r = by (on.seen before)
    where
      by : (o : Option (List ℕ)) → IfSome o (λ _. (records pending : List Record) → MayHold on before own records pending
          → MayHold on mid own records pending × StartKeeps on plan own before mid records pending (records ++ pending))
      by None = tt
      by (Some held) = λ records pending holds. (holds_still on plan own before records pending holds mid kept, keeps_still on plan own before records pending holds mid kept)

  -- what holds once the disk was started again and read
  pub after_reading : (mid : D) (store : NodeStore) (found : Recovered) → HasReopened on own before mid store found → IfSome (on.seen mid) (λ held. IsOnly on.clock mid held)
      → (P : List Record → List Record → Type 0)
      → ((records pending : List Record) (holds : MayHold on before own records pending) (held : List ℕ) → on.seen mid ≡ Some held → on.clock.is_image before held → IsOnly on.clock mid held → P records pending)
      → WhereItHolds on before own P
  after_reading mid store found r only P to = by (on.seen before) r.image
    where
      by : (o : Option (List ℕ)) → Restarts on.clock before o (on.seen mid) → IfSome o (λ _. (records pending : List Record) → MayHold on before own records pending → P records pending)
      by None image = tt
      by (Some held) image = λ records pending holds.
          to records pending holds image.image image.reads image.was (subst (λ (o : Option (List ℕ)). IfSome o (λ h. IsOnly on.clock mid h)) image.reads only)

-- the record of the boot follows what was found
module _ {D : Type 0} (on : View D) (plan : Plan) (own : ℕ) (before mid : D) (store : NodeStore) (found : Recovered) (r : HasReopened on own before mid store found)
    (kept : KeepsImages on.clock before mid) (only : IfSome (on.seen mid) (λ held. IsOnly on.clock mid held))
    (boot last : ℕ) (last_is : last ≡ boot_found found) (boot_is : boot ≡ last + 1) (small : last < greatest_boot) (after : D) where
  boot_next : boot ≡ boot_of r.reopened.records + 1
  boot_next = boot_is ∙ ap (λ (n : ℕ). n + 1) (last_is ∙ r.reopened.names.boot)

  boot_fits : IsCount 32 boot
  boot_fits = (omega (arith, boot_is), omega (arith, boot_is, small))

  stopped_over : WorkIsCutShort on (with_boot boot) store mid after → WhereItHolds on before own (StoppedOver on plan own before after)
  stopped_over cut = after_reading on plan own before mid store found r only (StoppedOver on plan own before after)
      (λ records pending holds held seen was alone. boot_cut on plan own before records pending holds mid held seen was kept alone store found r.reopened boot boot_next boot_fits after cut)

  stopped_and_rose : WorkIsCutShort on (with_boot boot) store mid after → Rose (on.faults before) (on.faults after)
      → WhereItHolds on before own (λ records pending. StoppedOver on plan own before after records pending × Rose (on.faults before) (on.faults after))
  stopped_and_rose cut rose = after_reading on plan own before mid store found r only (λ records pending. StoppedOver on plan own before after records pending × Rose (on.faults before) (on.faults after))
      (λ records pending holds held seen was alone. (boot_cut on plan own before records pending holds mid held seen was kept alone store found r.reopened boot boot_next boot_fits after cut, rose))

  pub boot_failed : (fault : KeepFault) → WorkIsCutShort on (with_boot boot) store mid after → Fails fault (on.faults mid) (on.faults after) → NodeStarts on plan own before after (Err (fault_of fault))
  boot_failed keep.Disk cut fails = stopped_and_rose cut (subst (λ (n : ℕ). Rose n (on.faults after)) r.quiet fails.1)
  boot_failed keep.NoMemory cut fails = stopped_over cut

  module _ (new : NodeStore) (shape : Shape) (tickets : Tickets) (drawn count : ℕ) where
    abbrev node : Node
    node = record { shape = shape; numbers = record { boot = boot; drawn = drawn; count = count; calls = 0 }; store = new; tickets = tickets }

    abbrev node_of : Option Membership → ℕ → ℕ → Log → plain.Tickets → plain.Node
    node_of installed named stamped log seen = record { boot = boot; drawn = named; count = stamped; calls = 0; installed = installed; log = log; tickets = seen }

    seen_is : Done on (with_boot boot) store mid new after → shape.installed ≡ None → tickets_in tickets ≡ fin.empty → drawn ≡ drawn_found found boot → count ≡ count_found found
        → node_seen node ≡ started own None boot (r.reopened.records ++ Boot boot ∷ [])
    seen_is d installed none drawn_is count_is =
        let records = r.reopened.records in
        let log_is : new.log ≡ recovered own (records ++ Boot boot ∷ []) =
        sym (d.log records r.reopened.keeps) ∙ r.reopened.log ∙ sym (recovered_booted own boot records) in
        let drawn_on_is : drawn ≡ drawn_on own boot 0 (records ++ Boot boot ∷ []) = drawn_is ∙ r.reopened.names.drawn boot ∙ sym (drawn_booted own boot boot 0 records) in
        let count_on_is : count ≡ greatest_count_on 0 (records ++ Boot boot ∷ []) = count_is ∙ r.reopened.names.count ∙ sym (count_booted boot 0 records) in
        ap (λ (m : Option Membership). node_of m drawn count new.log (tickets_in tickets)) installed
        ∙ ap (λ (n : ℕ). node_of None n count new.log (tickets_in tickets)) drawn_on_is
        ∙ ap (λ (n : ℕ). node_of None (drawn_on own boot 0 (records ++ Boot boot ∷ [])) n new.log (tickets_in tickets)) count_on_is
        ∙ ap (λ (l : Log). node_of None (drawn_on own boot 0 (records ++ Boot boot ∷ [])) (greatest_count_on 0 (records ++ Boot boot ∷ [])) l (tickets_in tickets)) log_is
        ∙ ap (λ (t : plain.Tickets). node_of None (drawn_on own boot 0 (records ++ Boot boot ∷ [])) (greatest_count_on 0 (records ++ Boot boot ∷ [])) (recovered own (records ++ Boot boot ∷ [])) t) none

    pub has_started : Done on (with_boot boot) store mid new after → shape.nodes ≡ plan.nodes → shape.copies ≡ plan.copies → shape.confirm ≡ plan.confirm → shape.installed ≡ None
        → IsOf own boot shape.confirm tickets → tickets_in tickets ≡ fin.empty → drawn ≡ drawn_found found boot → count ≡ count_found found
        → 1 ≤ own → own ≤ plan.nodes → plan.nodes ≤ 16 → 1 ≤ plan.copies → NodeStarted on plan own before after node
    has_started d nodes copies confirm installed whose none drawn_is count_is low within few some_copies =
        let own_is : new.own ≡ own = d.own ∙ r.reopened.own_is in
        record {
          of_plan = record { own_is = own_is; nodes = nodes; copies = copies; confirm = confirm };
          works = record {
            store = d.sound;
            whole = record {
              tickets = subst (λ (o : ℕ). IsOf o boot shape.confirm tickets) (sym own_is) whose;
              boot = omega (arith, boot_is);
              shape = record {
                some = omega (arith, own_is, low);
                within = omega (arith, own_is, within, nodes);
                few = omega (arith, nodes, few);
                copies = omega (arith, copies, some_copies);
              };
            };
          };
          without = installed;
          quiet = d.appends.quiet ∙ r.quiet;
          over = after_reading on plan own before mid store found r only (StartedOver on plan own before after node)
              (λ records pending holds held seen was alone.
              boot_done on plan own before records pending holds mid held seen was kept alone store found r.reopened boot boot_next boot_fits after new d node refl (seen_is d installed none drawn_is count_is));
          some = (r.reopened.records ++ d.added, d.keeps r.reopened.records r.reopened.keeps);
        }

    pub has_promised : Done on (with_boot boot) store mid new after → shape.nodes ≡ plan.nodes → shape.copies ≡ plan.copies → shape.confirm ≡ plan.confirm → shape.installed ≡ None
        → IsOf own boot shape.confirm tickets → tickets_in tickets ≡ fin.empty → drawn ≡ drawn_found found boot → count ≡ count_found found
        → 1 ≤ own → own ≤ plan.nodes → plan.nodes ≤ 16 → 1 ≤ plan.copies → (promise : EpochId) → promise ≡ promise_found found → NodeStartedWith on plan own before after node promise
    has_promised d nodes copies confirm installed whose none drawn_is count_is low within few some_copies promise promise_is = record {
      started = has_started d nodes copies confirm installed whose none drawn_is count_is low within few some_copies;
      over = after_reading on plan own before mid store found r only (PromisedOver on plan own before after node promise)
          (λ records pending holds held seen was alone.
          boot_promised on plan own before records pending holds mid held seen was kept alone store found r.reopened boot boot_next boot_fits after new d node refl (seen_is d installed none drawn_is count_is)
          promise promise_is);
    }

-- a new journal has no records, and each stop of the machine leaves it
pub new_holds : {D : Type 0} (on : View D) (own : ℕ) (after : D) (end : ℕ) → IfSome (on.seen after) (λ held. IsOnly on.clock after held) → TellsJournal (on.seen after) own [] end
    → IfSome (on.seen after) (λ held. IsJournal own held [] × MayHold on after own [] [])
new_holds on own after end only tells = by (on.seen after) only tells
  where
    by : (o : Option (List ℕ)) → IfSome o (λ held. IsOnly on.clock after held) → TellsJournal o own [] end → IfSome o (λ held. IsJournal own held [] × MayHold on after own [] [])
    by None only tells = tt
    by (Some held) only tells = (
      tells.journal,
      record { images = λ c image. inl (subst (λ (h : List ℕ). IsJournal own h []) (sym (only c image)) tells.journal); fit = All-nil IsRecord },
    )
