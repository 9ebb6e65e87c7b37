-- What a stop leaves of a journal while a record is appended.
use Rattle.std.proofs.Common.{◌≡◌, ⊎_elim, IfSome, MatchOption, get_or, ℕ, ◌+◌, ◌<◌, ◌^◌, List, [], ◌∷◌, length, Option, Some, None, refl, sym, subst}
use Rattle.std.proofs.lemmas.List.{append-nil}
use Rattle.std.proofs.lemmas.Bool.{cases_eq}
use Rattle.io_edge.specs.Moments.{Clock, Keeps, IsTornFrom, Tears, IsOnly}
use Rattle.io_edge.specs.Octets.{Holds}
use Rattle.io_edge.proofs.Passing.{weaker, passes, tears_after}
use Rattle.io_edge.proofs.Torn.{torn_nothing}
use Rattle.mail_model.specs.Record.{IsJournal}
use Rattle.disk_journal.specs.Images.{Extends, Adds, AddsAll}
use Rattle.disk_journal.specs.Journal.{behind_gate}
use Rattle.disk_journal.proofs.Gates.{still_closed, written_behind, torn_open, torn_closed, gate_opened}

module _ {D : Type 0} (clock : Clock D) where
  -- an image of old, and nothing added
  pub same_extends : (old : D) (end : ℕ) (added : List (List ℕ)) (c : List ℕ) → clock.is_image old c → Extends clock old end added c
  same_extends old end added c was = record {
    base = c;
    was = was;
    part = [];
    rest = added;
    split = refl;
    is = λ node payloads ends. subst (IsJournal node c) (sym (append-nil payloads)) ends.journal;
  }

  -- a call that wrote nothing added nothing
  pub keeps_adds : (old new : D) (end : ℕ) (added : List (List ℕ)) → Keeps clock old new → Adds clock old new end added
  keeps_adds old new end added kept = weaker clock old new (clock.is_image old) (Extends clock old end added) (same_extends old end added) kept

  -- a call that wrote nothing, and then one that adds
  pub adds_after : (old mid new : D) (end : ℕ) (added : List (List ℕ)) → Keeps clock old mid → Adds clock mid new end added → Adds clock old new end added
  adds_after old mid new end added kept adds = passes clock old mid new (Extends clock old end added) (Extends clock mid end added)
      (keeps_adds old mid end added kept) adds
      (λ c e. record { base = e.base; was = kept.now e.base e.was; part = e.part; rest = e.rest; split = e.split; is = e.is })

  pub all_after : (old mid new : D) (end end' : ℕ) (added : List (List ℕ)) → Keeps clock old mid → AddsAll clock mid new end end' added → AddsAll clock old new end end' added
  all_after old mid new end end' added kept all = λ c is. let e = all c is in record { base = e.base; was = kept.now e.base e.was; is = e.is }

  -- after the closed gate anything may stand
  pub first_adds : (old new : D) (end n : ℕ) (payload : List ℕ) → Tears clock old new (end + 1) n → Adds clock old new end (payload ∷ [])
  first_adds old new end n payload tears = weaker clock old new (IsTornFrom clock old (end + 1) n) (Extends clock old end (payload ∷ []))
      (λ c t. record {
        base = t.base;
        was = t.was;
        part = [];
        rest = payload ∷ [];
        split = refl;
        is = λ node payloads ends. subst (IsJournal node c) (sym (append-nil payloads)) (still_closed node end n payloads t.base c ends t.torn);
      }) tears

  module _ (old mid : D) (end : ℕ) (payload octets held0 held1 : List ℕ) (spelt : octets ≡ behind_gate payload) (small : length payload < 2 ^ 32)
      (was : clock.is_image old held0) (holds : Holds held0 (end + 1) octets held1) (only : IsOnly clock mid held1) where
    -- the gate may hold any octet, and the record after it is whole
    gate_extends : (c : List ℕ) → IsTornFrom clock mid end 1 c → Extends clock old end (payload ∷ []) c
    gate_extends c t =
        let torn = rw (only t.base t.was) at t.torn in
        ⊎_elim
        (λ (is : get_or c end 0 ≡ 0xA5). record {
          base = held0;
          was = was;
          part = payload ∷ [];
          rest = [];
          split = refl;
          is = λ node payloads ends. torn_open node end payloads payload octets held1 c (written_behind node end payloads octets held0 held1 ends holds) spelt small torn is;
        })
        (λ (closed : get_or c end 0 ≡ 0xA5 → ⊥). record {
          base = held0;
          was = was;
          part = [];
          rest = payload ∷ [];
          split = refl;
          is = λ node payloads ends. subst (IsJournal node c) (sym (append-nil payloads))
              (torn_closed node end payloads octets held1 c (written_behind node end payloads octets held0 held1 ends holds) torn closed);
        })
        (cases_eq (get_or c end 0) 0xA5)

    both_add : (new : D) (n : ℕ) → Tears clock old mid (end + 1) n → Tears clock mid new end 1 → Adds clock old new end (payload ∷ [])
    both_add new n first second = passes clock old mid new (Extends clock old end (payload ∷ [])) (IsTornFrom clock mid end 1)
        (first_adds old mid end n payload first) second gate_extends

    all_added : (new : D) (held2 : List ℕ) → Holds held1 end (0xA5 ∷ []) held2 → IsOnly clock new held2 → AddsAll clock old new end (end + length octets) (payload ∷ [])
    all_added new held2 opened only' = λ c is. record {
      base = held0;
      was = was;
      is = λ node payloads ends. rw (only' c is)
          (gate_opened node end payloads payload octets held1 held2 (written_behind node end payloads octets held0 held1 ends holds) spelt small opened);
    }

  -- both writes, where the disk tells its octets
  pub told_adds : (old mid new : D) (before between : Option (List ℕ)) (end n : ℕ) (payload octets : List ℕ) → octets ≡ behind_gate payload → length payload < 2 ^ 32
      → IfSome before (λ held. clock.is_image old held) → IfSome between (λ held. IsOnly clock mid held)
      → MatchOption before (between ≡ None) (λ held. (now : List ℕ) × (between ≡ Some now) × Holds held (end + 1) octets now)
      → Tears clock old mid (end + 1) n → Tears clock mid new end 1 → IfSome before (λ _. Adds clock old new end (payload ∷ []))
  told_adds old mid new None between end n payload octets spelt small was only written first second = tt
  told_adds old mid new (Some held) between end n payload octets spelt small was only written first second =
      let only_mid = subst (λ (o : Option (List ℕ)). IfSome o (λ h. IsOnly clock mid h)) written.1 only in
      both_add old mid end payload octets held written.0 spelt small was written.2 only_mid new n first second

  pub told_all : (old mid new : D) (before between now : Option (List ℕ)) (end : ℕ) (payload octets : List ℕ) → octets ≡ behind_gate payload → length payload < 2 ^ 32
      → IfSome before (λ held. clock.is_image old held) → IfSome between (λ held. IsOnly clock mid held) → IfSome now (λ held. IsOnly clock new held)
      → MatchOption before (between ≡ None) (λ held. (next : List ℕ) × (between ≡ Some next) × Holds held (end + 1) octets next)
      → MatchOption between (now ≡ None) (λ held. (next : List ℕ) × (now ≡ Some next) × Holds held end (0xA5 ∷ []) next)
      → IfSome before (λ _. AddsAll clock old new end (end + length octets) (payload ∷ []))
  told_all old mid new None between now end payload octets spelt small was only only' written opened = tt
  told_all old mid new (Some held) between now end payload octets spelt small was only only' written opened =
      let only_mid = subst (λ (o : Option (List ℕ)). IfSome o (λ h. IsOnly clock mid h)) written.1 only in
      let second = subst (λ (o : Option (List ℕ)). MatchOption o (now ≡ None) (λ h. (next : List ℕ) × (now ≡ Some next) × Holds h end (0xA5 ∷ []) next)) written.1 opened in
      let only_new = subst (λ (o : Option (List ℕ)). IfSome o (λ h. IsOnly clock new h)) second.1 only' in
      all_added old mid end payload octets held written.0 spelt small was written.2 only_mid new second.0 second.2 only_new

-- a fact holds where something is told
pub if_told : {P : Type 0} (told : Option (List ℕ)) → P → IfSome told (λ _. P)
if_told None p = tt
if_told (Some held) p = p

module _ {D : Type 0} (clock : Clock D) where
  -- a call that wrote nothing may have been a write that failed
  pub keeps_tears : (old new : D) (at n : ℕ) → Keeps clock old new → Tears clock old new at n
  keeps_tears old new at n kept = weaker clock old new (clock.is_image old) (IsTornFrom clock old at n) (λ c was. record { base = c; was = was; torn = torn_nothing at n c }) kept

  -- the same before a write
  pub tears_behind : (old mid new : D) (at n : ℕ) → Keeps clock old mid → Tears clock mid new at n → Tears clock old new at n
  tears_behind old mid new at n kept tears = tears_after clock old mid new at n kept tears (λ c was. record { base = c; was = was; torn = torn_nothing at n c })

  -- the same before an append, where the disk tells its octets
  pub told_after : (old mid new : D) (before between : Option (List ℕ)) (end : ℕ) (added : List (List ℕ)) → between ≡ before → Keeps clock old mid
      → IfSome between (λ _. Adds clock mid new end added) → IfSome before (λ _. Adds clock old new end added)
  told_after old mid new None between end added same kept adds = tt
  told_after old mid new (Some held) between end added same kept adds =
      adds_after clock old mid new end added kept (subst (λ (o : Option (List ℕ)). IfSome o (λ _. Adds clock mid new end added)) same adds)

  pub told_all_after : (old mid new : D) (before between : Option (List ℕ)) (end end' : ℕ) (added : List (List ℕ)) → between ≡ before → Keeps clock old mid
      → IfSome between (λ _. AddsAll clock mid new end end' added) → IfSome before (λ _. AddsAll clock old new end end' added)
  told_all_after old mid new None between end end' added same kept all = tt
  told_all_after old mid new (Some held) between end end' added same kept all =
      all_after clock old mid new end end' added kept (subst (λ (o : Option (List ℕ)). IfSome o (λ _. AddsAll clock mid new end end' added)) same all)
