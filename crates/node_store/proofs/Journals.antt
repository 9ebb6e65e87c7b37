-- Records that are appended one after another.
use Rattle.std.proofs.Common.{Bool, true, false, if◌then◌else◌, ◌≡◌, ◌⊎◌, inl, inr, ⊎_elim, ℕ, ◌+◌, List, [], ◌∷◌, ◌++◌, length, Option, Some, None, IfSome, refl, sym, ap, subst, ◌∙◌, arith, append_assoc}
use Rattle.std.specs.Prelude.{flat_map}
use Rattle.std.proofs.lemmas.List.{map-append, append-nil, length-append}
use Rattle.io_edge.specs.Octets.{IsToldAlike}
use Rattle.io_edge.proofs.Passing.{weaker, passes, keeps_none}
use Rattle.mail_model.specs.Record.{Record, IsJournal, payload_of, payloads_of, framed}
use Rattle.disk_journal.specs.Journal as journal
use Rattle.disk_journal.specs.Journal.{TellsJournal, HasGate, EndsAt}
use Rattle.disk_journal.specs.Images.{Extends, Adds, AddsAll}
use Rattle.node_store.specs.Disks.{View}
use Rattle.node_store.specs.declared.fault.KeepFault.{KeepFault}
use Rattle.node_store.specs.Appends.{AppendsRecords, HoldsFrontOrMore, StopsAfter, StopsWithin, Fails}

-- the records as they are framed in a journal
abbrev pub frames_of : List Record → List ℕ
frames_of records = flat_map framed (payloads_of records)

pub frames-append : (records more : List Record) → frames_of (records ++ more) ≡ frames_of records ++ frames_of more
frames-append [] more = refl
frames-append (one ∷ records) more = ap (λ (l : List ℕ). framed (payload_of one) ++ l) (frames-append records more) ∙ sym (append_assoc (framed (payload_of one)) (frames_of records) (frames_of more))

pub length-frames-append : (records more : List Record) → length (frames_of (records ++ more)) ≡ length (frames_of records) + length (frames_of more)
length-frames-append records more = ap length (frames-append records more) ∙ length-append (frames_of records) (frames_of more)

length-one-frame : (entry : Record) (payload : List ℕ) → payload ≡ payload_of entry → length (frames_of (entry ∷ [])) ≡ 5 + length payload
length-one-frame entry payload spelt = omega (arith, ap length (append-nil (framed (payload_of entry))), ap length spelt)

payloads-append : (records more : List Record) → payloads_of (records ++ more) ≡ payloads_of records ++ payloads_of more
payloads-append records more = map-append payload_of records more

one_payload : (records : List Record) (entry : Record) (payload : List ℕ) → payload ≡ payload_of entry → payloads_of records ++ payload ∷ [] ≡ payloads_of (records ++ entry ∷ [])
one_payload records entry payload spelt = ap (λ (l : List ℕ). payloads_of records ++ l ∷ []) spelt ∙ sym (payloads-append records (entry ∷ []))

-- what holds where the octets are told, now and before
told_both : {A B C : Type 0} (old mid : Option (List ℕ)) → IsToldAlike old mid → IfSome old (λ _. A) → IfSome mid (λ _. B) → (A → B → C) → IfSome old (λ _. C)
told_both None mid told a b to = tt
told_both (Some held) None told a b to = absurd (cc told)
told_both (Some held) (Some other) told a b to = to a b

told_map : {A C : Type 0} (old : Option (List ℕ)) → IfSome old (λ _. A) → (A → C) → IfSome old (λ _. C)
told_map None a to = tt
told_map (Some held) a to = to a

-- what stands may stand with a payload more
pub either_still : (seen : Option (List ℕ)) (own : ℕ) (payloads : List (List ℕ)) (payload : List ℕ) (end : ℕ) → TellsJournal seen own payloads end → journal.HoldsEither seen own payloads payload
either_still None own payloads payload end stands = tt
either_still (Some held) own payloads payload end stands = inl stands.journal

module _ {D : Type 0} (on : View D) where
  -- one record that was appended
  pub one_appended : (old new : D) (end end' : ℕ) (entry : Record) (payload : List ℕ) → payload ≡ payload_of entry
      → ((own : ℕ) (payloads : List (List ℕ)) → TellsJournal (on.seen old) own payloads end → TellsJournal (on.seen new) own (payloads ++ payload ∷ []) end')
      → HasGate (on.seen new) end' → on.faults new ≡ on.faults old → end' ≡ end + 5 + length payload → IsToldAlike (on.seen old) (on.seen new)
      → IfSome (on.seen old) (λ _. Adds on.clock old new end (payload ∷ [])) → IfSome (on.seen old) (λ _. AddsAll on.clock old new end end' (payload ∷ []))
      → AppendsRecords on old new end end' (entry ∷ [])
  one_appended old new end end' entry payload spelt appended gate quiet grew told moments images = record {
    quiet = quiet;
    gate = gate;
    told = told;
    grew = omega (arith, grew, length-one-frame entry payload spelt);
    stand = λ own records stands. subst (λ (l : List (List ℕ)). TellsJournal (on.seen new) own l end') (one_payload records entry payload spelt) (appended own (payloads_of records) stands);
    moments = subst (λ (p : List ℕ). IfSome (on.seen old) (λ _. Adds on.clock old new end (p ∷ []))) spelt moments;
    images = subst (λ (p : List ℕ). IfSome (on.seen old) (λ _. AddsAll on.clock old new end end' (p ∷ []))) spelt images;
  }

  either_of : (records : List Record) (entry : Record) (own : ℕ) (c : List ℕ)
      → IsJournal own c (payloads_of records) ⊎ IsJournal own c (payloads_of records ++ payload_of entry ∷ [])
      → IsJournal own c (payloads_of (records ++ [])) ⊎ IsJournal own c (payloads_of ((records ++ []) ++ entry ∷ []))
  either_of records entry own c h = ⊎_elim
      (λ without. inl (subst (λ (l : List Record). IsJournal own c (payloads_of l)) (sym (append-nil records)) without))
      (λ whole. inr (subst (λ (l : List Record). IsJournal own c (payloads_of (l ++ entry ∷ []))) (sym (append-nil records))
      (subst (λ (l : List (List ℕ)). IsJournal own c l) (one_payload records entry (payload_of entry) refl) whole)))
      h

  part_of_one : (entry : Record) (records part rest : List (List ℕ)) (own : ℕ) (c : List ℕ) → part ++ rest ≡ payload_of entry ∷ [] → IsJournal own c (records ++ part)
      → IsJournal own c records ⊎ IsJournal own c (records ++ payload_of entry ∷ [])
  part_of_one entry records [] rest own c split is = inl (subst (IsJournal own c) (append-nil records) is)
  part_of_one entry records (p ∷ []) rest own c split is =
      let same : p ≡ payload_of entry = cc split in
      inr (subst (λ (q : List ℕ). IsJournal own c (records ++ q ∷ [])) same is)
  part_of_one entry records (p ∷ q ∷ part) rest own c split is = absurd (cc split)

  holds_one : (seen : Option (List ℕ)) (records : List Record) (entry : Record) (own : ℕ) → journal.HoldsEither seen own (payloads_of records) (payload_of entry)
      → HoldsFrontOrMore seen own (records ++ []) (entry ∷ [])
  holds_one None records entry own h = tt
  holds_one (Some held) records entry own h = either_of records entry own held h

  -- one record that may stand
  pub one_stops : (old new : D) (end : ℕ) (entry : Record) (payload : List ℕ) → payload ≡ payload_of entry
      → ((own : ℕ) (payloads : List (List ℕ)) → TellsJournal (on.seen old) own payloads end → journal.HoldsEither (on.seen new) own payloads payload)
      → IsToldAlike (on.seen old) (on.seen new) → IfSome (on.seen old) (λ _. Adds on.clock old new end (payload ∷ []))
      → StopsWithin on old new end (entry ∷ [])
  one_stops old new end entry payload spelt failed told moments = record {
    front = [];
    pending = entry ∷ [];
    missing = [];
    is = refl;
    stops = record {
      one = omega arith;
      told = told;
      holds = λ own records stands. holds_one (on.seen new) records entry own
          (subst (λ (p : List ℕ). journal.HoldsEither (on.seen new) own (payloads_of records) p) spelt (failed own (payloads_of records) stands));
      moments = added;
      images = told_map (on.seen old) added (λ (a : Adds on.clock old new end (payload_of entry ∷ [])). λ c is.
          let e = a.now c is in record {
            base = e.base;
            was = e.was;
            is = λ own records ends. either_of records entry own c (part_of_one entry (payloads_of records) e.part e.rest own c e.split (e.is own (payloads_of records) ends));
          });
    };
  }
    where
      added : IfSome (on.seen old) (λ _. Adds on.clock old new end (payload_of entry ∷ []))
      added = subst (λ (p : List ℕ). IfSome (on.seen old) (λ _. Adds on.clock old new end (p ∷ []))) spelt moments

  either_without : (seen : Option (List ℕ)) (own : ℕ) (records : List Record) (end : ℕ) → TellsJournal seen own (payloads_of records) end → HoldsFrontOrMore seen own (records ++ []) []
  either_without None own records end stands = tt
  either_without (Some held) own records end stands = inl (subst (λ (l : List Record). IsJournal own held (payloads_of l)) (sym (append-nil records)) stands.journal)

  told_always : {A : Type 0} (o : Option (List ℕ)) → A → IfSome o (λ _. A)
  told_always None a = tt
  told_always (Some held) a = a

  extends_none : (disk : D) (end : ℕ) (c : List ℕ) → on.clock.is_image disk c → Extends on.clock disk end [] c
  extends_none disk end c is = record {
    base = c;
    was = is;
    part = [];
    rest = [];
    split = refl;
    is = λ own payloads ends. subst (IsJournal own c) (sym (append-nil payloads)) ends.journal;
  }

  moments_none : (disk : D) (end : ℕ) → Adds on.clock disk disk end []
  moments_none disk end = weaker on.clock disk disk (on.clock.is_image disk) (Extends on.clock disk end []) (extends_none disk end) (keeps_none on.clock disk)

  -- nothing was written
  pub stops_none : (disk : D) (end : ℕ) → StopsAfter on disk disk end [] []
  stops_none disk end = record {
    one = omega arith;
    told = refl;
    holds = λ own records stands. either_without (on.seen disk) own records end stands;
    moments = told_always (on.seen disk) (moments_none disk end);
    images = told_always (on.seen disk) (λ c is. record {
      base = c;
      was = is;
      is = λ own records ends. inl (subst (λ (l : List Record). IsJournal own c (payloads_of l)) (sym (append-nil records)) ends.journal);
    });
  }

  pub none_stops : (disk : D) (end : ℕ) (wanted : List Record) → StopsWithin on disk disk end wanted
  none_stops disk end wanted = record { front = []; pending = []; missing = wanted; is = refl; stops = stops_none disk end }

  stands_none : (seen : Option (List ℕ)) (own : ℕ) (records : List Record) (end : ℕ) → TellsJournal seen own (payloads_of records) end → TellsJournal seen own (payloads_of (records ++ [])) end
  stands_none seen own records end stands = subst (λ (l : List Record). TellsJournal seen own (payloads_of l) end) (sym (append-nil records)) stands

  -- no record
  pub none_appended : (disk : D) (end : ℕ) → HasGate (on.seen disk) end → AppendsRecords on disk disk end end []
  none_appended disk end gate = record {
    quiet = refl;
    gate = gate;
    told = refl;
    grew = omega arith;
    stand = λ own records stands. stands_none (on.seen disk) own records end stands;
    moments = told_always (on.seen disk) (moments_none disk end);
    images = told_always (on.seen disk) (λ c is. record { base = c; was = is; is = λ own payloads ends. subst (λ (l : List (List ℕ)). EndsAt own c l end) (sym (append-nil payloads)) ends });
  }

  moments_more : (old mid new : D) (end end' : ℕ) (first second : List Record) → Adds on.clock old mid end (payloads_of first) → AddsAll on.clock old mid end end' (payloads_of first)
      → Adds on.clock mid new end' (payloads_of second) → Adds on.clock old new end (payloads_of (first ++ second))
  moments_more old mid new end end' first second a all b =
      passes on.clock old mid new (Extends on.clock old end (payloads_of (first ++ second))) (Extends on.clock mid end' (payloads_of second))
      (weaker on.clock old mid (Extends on.clock old end (payloads_of first)) (Extends on.clock old end (payloads_of (first ++ second))) (λ c e. record {
        base = e.base;
        was = e.was;
        part = e.part;
        rest = e.rest ++ payloads_of second;
        split = sym (append_assoc e.part e.rest (payloads_of second)) ∙ ap (λ (l : List (List ℕ)). l ++ payloads_of second) e.split ∙ sym (payloads-append first second);
        is = e.is;
      }) a)
      b
      (λ c e. let before = all e.base e.was in record {
        base = before.base;
        was = before.was;
        part = payloads_of first ++ e.part;
        rest = e.rest;
        split = append_assoc (payloads_of first) e.part e.rest ∙ ap (λ (l : List (List ℕ)). payloads_of first ++ l) e.split ∙ sym (payloads-append first second);
        is = λ own payloads ends. subst (IsJournal own c) (append_assoc payloads (payloads_of first) e.part) (e.is own (payloads ++ payloads_of first) (before.is own payloads ends));
      })

  images_more : (old mid new : D) (end end' end'' : ℕ) (first second : List Record) → AddsAll on.clock old mid end end' (payloads_of first) → AddsAll on.clock mid new end' end'' (payloads_of second)
      → AddsAll on.clock old new end end'' (payloads_of (first ++ second))
  images_more old mid new end end' end'' first second a b c is =
      let e = b c is in
      let before = a e.base e.was in record {
        base = before.base;
        was = before.was;
        is = λ own payloads ends. subst (λ (l : List (List ℕ)). EndsAt own c l end'')
            (append_assoc payloads (payloads_of first) (payloads_of second) ∙ ap (λ (l : List (List ℕ)). payloads ++ l) (sym (payloads-append first second)))
            (e.is own (payloads ++ payloads_of first) (before.is own payloads ends));
      }

  -- some records, and then more
  pub appends_more : (old mid new : D) (end end' end'' : ℕ) (first second : List Record) → AppendsRecords on old mid end end' first → AppendsRecords on mid new end' end'' second
      → AppendsRecords on old new end end'' (first ++ second)
  appends_more old mid new end end' end'' first second a b = record {
    quiet = b.quiet ∙ a.quiet;
    gate = b.gate;
    told = b.told ∙ a.told;
    grew = omega (arith, a.grew, b.grew, length-frames-append first second);
    stand = λ own records stands. subst (λ (l : List Record). TellsJournal (on.seen new) own (payloads_of l) end'') (append_assoc records first second) (b.stand own (records ++ first) (a.stand own records stands));
    moments = told_both (on.seen old) (on.seen mid) a.told (both (on.seen old) a.moments a.images) b.moments
        (λ x y. moments_more old mid new end end' first second x.0 x.1 y);
    images = told_both (on.seen old) (on.seen mid) a.told a.images b.images (λ x y. images_more old mid new end end' end'' first second x y);
  }
    where
      both : (o : Option (List ℕ)) → IfSome o (λ _. Adds on.clock old mid end (payloads_of first)) → IfSome o (λ _. AddsAll on.clock old mid end end' (payloads_of first))
          → IfSome o (λ _. Adds on.clock old mid end (payloads_of first) × AddsAll on.clock old mid end end' (payloads_of first))
      both None x y = tt
      both (Some held) x y = (x, y)

  either_after : (own : ℕ) (c : List ℕ) (records first front pending : List Record)
      → IsJournal own c (payloads_of ((records ++ first) ++ front)) ⊎ IsJournal own c (payloads_of (((records ++ first) ++ front) ++ pending))
      → IsJournal own c (payloads_of (records ++ (first ++ front))) ⊎ IsJournal own c (payloads_of ((records ++ (first ++ front)) ++ pending))
  either_after own c records first front pending h =
      subst (λ (l : List Record). IsJournal own c (payloads_of l) ⊎ IsJournal own c (payloads_of (l ++ pending))) (append_assoc records first front) h

  holds_after : (seen : Option (List ℕ)) (own : ℕ) (records first front pending : List Record) → HoldsFrontOrMore seen own ((records ++ first) ++ front) pending
      → HoldsFrontOrMore seen own (records ++ (first ++ front)) pending
  holds_after seen own records first front pending h = subst (λ (l : List Record). HoldsFrontOrMore seen own l pending) (append_assoc records first front) h

  -- some records, and then work that stopped
  pub stops_more : (old mid new : D) (end end' : ℕ) (first front pending : List Record) → AppendsRecords on old mid end end' first → StopsAfter on mid new end' front pending
      → StopsAfter on old new end (first ++ front) pending
  stops_more old mid new end end' first front pending a b = record {
    one = b.one;
    told = b.told ∙ a.told;
    holds = λ own records stands. holds_after (on.seen new) own records first front pending (b.holds own (records ++ first) (a.stand own records stands));
    moments = subst (λ (l : List Record). IfSome (on.seen old) (λ _. Adds on.clock old new end (payloads_of l))) (sym (append_assoc first front pending))
        (told_both (on.seen old) (on.seen mid) a.told (both (on.seen old) a.moments a.images) b.moments
        (λ x y. moments_more old mid new end end' first (front ++ pending) x.0 x.1 y));
    images = told_both (on.seen old) (on.seen mid) a.told a.images b.images (λ x y c is.
        let e = y c is in
        let before = x e.base e.was in record {
          base = before.base;
          was = before.was;
          is = λ own records ends. either_after own c records first front pending
              (e.is own (records ++ first) (subst (λ (l : List (List ℕ)). EndsAt own e.base l end') (sym (payloads-append records first)) (before.is own (payloads_of records) ends)));
        });
  }
    where
      both : (o : Option (List ℕ)) → IfSome o (λ _. Adds on.clock old mid end (payloads_of first)) → IfSome o (λ _. AddsAll on.clock old mid end end' (payloads_of first))
          → IfSome o (λ _. Adds on.clock old mid end (payloads_of first) × AddsAll on.clock old mid end end' (payloads_of first))
      both None x y = tt
      both (Some held) x y = (x, y)

  -- some of the records, and then work on others that stopped
  pub stops_in_more : (old mid new : D) (end end' : ℕ) (first second : List Record) → AppendsRecords on old mid end end' first → StopsWithin on mid new end' second
      → StopsWithin on old new end (first ++ second)
  stops_in_more old mid new end end' first second a b = record {
    front = first ++ b.front;
    pending = b.pending;
    missing = b.missing;
    is = ap (λ (l : List Record). first ++ l) b.is ∙ sym (append_assoc first (b.front ++ b.pending) b.missing) ∙ ap (λ (l : List Record). l ++ b.missing) (sym (append_assoc first b.front b.pending));
    stops = stops_more old mid new end end' first b.front b.pending a b.stops;
  }

  -- work that stopped before more
  pub stops_in_before : (old new : D) (end : ℕ) (first second : List Record) → StopsWithin on old new end first → StopsWithin on old new end (first ++ second)
  stops_in_before old new end first second b = record {
    front = b.front;
    pending = b.pending;
    missing = b.missing ++ second;
    is = ap (λ (l : List Record). l ++ second) b.is ∙ append_assoc (b.front ++ b.pending) b.missing second;
    stops = b.stops;
  }

  holds_all : (seen : Option (List ℕ)) (own : ℕ) (records : List Record) (end : ℕ) → TellsJournal seen own (payloads_of records) end → HoldsFrontOrMore seen own records []
  holds_all None own records end stands = tt
  holds_all (Some held) own records end stands = inl stands.journal

  -- all of the records stand, and work stopped
  pub all_stops : (old new : D) (end end' : ℕ) (wanted : List Record) → AppendsRecords on old new end end' wanted → StopsAfter on old new end wanted []
  all_stops old new end end' wanted a = record {
    one = omega arith;
    told = a.told;
    holds = λ own records stands. holds_all (on.seen new) own (records ++ wanted) end' (a.stand own records stands);
    moments = subst (λ (l : List Record). IfSome (on.seen old) (λ _. Adds on.clock old new end (payloads_of l))) (sym (append-nil wanted)) a.moments;
    images = told_map (on.seen old) a.images (λ (x : AddsAll on.clock old new end end' (payloads_of wanted)). λ c is.
        let e = x c is in record {
          base = e.base;
          was = e.was;
          is = λ own records ends. inl (subst (IsJournal own c) (sym (payloads-append records wanted)) (e.is own (payloads_of records) ends).journal);
        });
  }

  -- a state, and where no other node is a target that it is retired
  pub state_stops : (old new : D) (end : ℕ) (b : Bool) (stated retired : Record) → StopsWithin on old new end (stated ∷ []) → StopsWithin on old new end (if b then stated ∷ retired ∷ [] else stated ∷ [])
  state_stops old new end true stated retired s = stops_in_before old new end (stated ∷ []) (retired ∷ []) s
  state_stops old new end false stated retired s = s

  pub retired_stops : (old mid new : D) (end end' : ℕ) (b : Bool) (stated retired : Record) → true ≡ b → AppendsRecords on old mid end end' (stated ∷ []) → StopsWithin on mid new end' (retired ∷ [])
      → StopsWithin on old new end (if b then stated ∷ retired ∷ [] else stated ∷ [])
  retired_stops old mid new end end' true stated retired e a s = stops_in_more old mid new end end' (stated ∷ []) (retired ∷ []) a s
  retired_stops old mid new end end' false stated retired e a s = absurd (cc e)

  pub retired_appended : (old mid new : D) (end end' end'' : ℕ) (b : Bool) (stated retired : Record) → true ≡ b → AppendsRecords on old mid end end' (stated ∷ []) → AppendsRecords on mid new end' end'' (retired ∷ [])
      → AppendsRecords on old new end end'' (if b then stated ∷ retired ∷ [] else stated ∷ [])
  retired_appended old mid new end end' end'' true stated retired e a s = appends_more old mid new end end' end'' (stated ∷ []) (retired ∷ []) a s
  retired_appended old mid new end end' end'' false stated retired e a s = absurd (cc e)

-- the count rose after it had not changed
pub fails_after : (fault : KeepFault) (before mid now : ℕ) → mid ≡ before → Fails fault mid now → Fails fault before now
fails_after fault before mid now same h = subst (λ (n : ℕ). Fails fault n now) same h
