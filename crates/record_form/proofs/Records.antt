-- What is read of a payload is the record that it spells, and each record is read again.
use Rattle.std.proofs.Common.{◌≡◌, ℕ, ◌^◌, Bool, true, false, cond, ◌&&◌, not, List, [], ◌∷◌, ◌++◌, Option, Some, None, option_map, Result, Ok, Err, refl, sym, ap, ap₂, subst, get_or, ◌∙◌, arith, nat_eq}
use Rattle.std.specs.Prelude.{IfOk, IfSome}
use Rattle.std.specs.Int.{w32, w64, to_be_bytes}
use Rattle.std.proofs.lemmas.Bool.{and_parts, eqb-true, eqb-false, not-true, ne_eqb}
use Rattle.mail_model.specs.Identity.{EpochId, Key, State, Id}
use Rattle.mail_model.specs.Record.{Record, payload_of, id_octets, key_octets, state_octets}
use Rattle.mail_model.specs.Record.Record.{Boot, Promise, Octets, Stated, Retired}
use Rattle.mail_model.specs.Grammar.{IsCount, IsEpoch, IsRecord}
use Rattle.record_form.specs.declared.entry.DiskEntry.{DiskEntry}
use Rattle.record_form.specs.declared.entry.DiskEntry.TheVariants as Entry
use Rattle.record_form.specs.Entries.{head_record, Spells, ReadsAs, FindsEntry, AnswersEntry}
use Rattle.record_form.specs.Reading.{octet_at, number_at, epoch_at, id_at, is_ended, object_in, boot_in, promise_in, record_in}
use Rattle.record_form.proofs.Parts.{IsBytes, found_by, when_true, octet_takes, number_takes, wide32, epoch_takes, epoch_again, id_takes, id_again}
use Rattle.record_form.proofs.Objects.{ended, object_takes, object_again}

boot_takes : (bytes : List ℕ) (boot : ℕ) → IsBytes bytes → boot_in bytes ≡ Some boot → (bytes ≡ to_be_bytes w32 boot) × IsCount 32 boot
unfolding boot_in
boot_takes bytes boot fits e =
    let a = found_by (number_at w32 bytes) _ boot e in
    let g = when_true (is_ended a.0.1 && not (nat_eq a.0.0 0)) a.0.0 boot a.2 in
    let tests = and_parts (is_ended a.0.1) (not (nat_eq a.0.0 0)) g.0 in
    let number = number_takes w32 (2 ^ 32) wide32 bytes a.0 fits a.1 in
    let whole = ended bytes (to_be_bytes w32 a.0.0) a.0.1 number.0 tests.0 in
    let other : a.0.0 ≡ 0 → ⊥ = eqb-false a.0.0 0 (not-true (nat_eq a.0.0 0) tests.1) in
    subst (λ (n : ℕ). (bytes ≡ to_be_bytes w32 n) × IsCount 32 n) g.1 (whole, (omega (arith, other), number.1))

boot_again : (boot : ℕ) → IsCount 32 boot → boot_in (to_be_bytes w32 boot) ≡ Some boot
unfolding boot_in
boot_again boot is = rw (wide32.again boot is.1, ne_eqb boot 0 (λ h. omega (arith, h, is.0))) refl

promise_takes : (bytes : List ℕ) (epoch : EpochId) → IsBytes bytes → promise_in bytes ≡ Some epoch → (bytes ≡ to_be_bytes w64 epoch.count ++ epoch.node ∷ []) × IsEpoch epoch
unfolding promise_in
promise_takes bytes epoch fits e =
    let a = found_by (epoch_at bytes) _ epoch e in
    let g = when_true (is_ended a.0.1) a.0.0 epoch a.2 in
    let taken = epoch_takes bytes a.0 fits a.1 in
    let whole = ended bytes (to_be_bytes w64 a.0.0.count ++ a.0.0.node ∷ []) a.0.1 taken.0 g.0 in
    subst (λ (n : EpochId). (bytes ≡ to_be_bytes w64 n.count ++ n.node ∷ []) × IsEpoch n) g.1 (whole, taken.1)

promise_again : (epoch : EpochId) → IsEpoch epoch → promise_in (to_be_bytes w64 epoch.count ++ epoch.node ∷ []) ≡ Some epoch
unfolding promise_in
promise_again epoch is = rw (epoch_again epoch [] is) refl

-- the value of a map that gives one
mapped : {A B : Type 0} (f : A → B) (r : Option A) (y : B) → option_map f r ≡ Some y → (x : A) × (r ≡ Some x) × (f x ≡ y)
mapped f (Some x) y e = (x, refl, cc)
mapped f None y e = absurd cc

pub record_takes : (kind : ℕ) (bytes : List ℕ) (one : Record) → IsBytes bytes → record_in kind bytes ≡ Some one → (kind ∷ bytes ≡ payload_of one) × IsRecord one
unfolding record_in
record_takes kind bytes one fits e =
    by_kind (nat_eq kind 1) (nat_eq kind 2) (nat_eq kind 3) (nat_eq kind 4) (nat_eq kind 5) refl refl refl refl refl e
  where
    by_kind : (a b c d f : Bool) → nat_eq kind 1 ≡ a → nat_eq kind 2 ≡ b → nat_eq kind 3 ≡ c → nat_eq kind 4 ≡ d → nat_eq kind 5 ≡ f
        → cond a (option_map Boot (boot_in bytes)) (cond b (option_map Promise (promise_in bytes)) (cond c (option_map (λ id. Octets id.0 id.1) (id_at bytes))
        (cond d (option_map (λ o. Stated o.0 o.1) (object_in bytes)) (cond f (option_map (λ o. Retired o.0 o.1) (object_in bytes)) None)))) ≡ Some one
        → (kind ∷ bytes ≡ payload_of one) × IsRecord one
    by_kind true b c d f is_a is_b is_c is_d is_f e =
        let m = mapped Boot (boot_in bytes) one e in
        let t = boot_takes bytes m.0 fits m.1 in
        subst (λ (r : Record). (kind ∷ bytes ≡ payload_of r) × IsRecord r) m.2 (ap (λ (k : ℕ). k ∷ bytes) (eqb-true kind 1 is_a) ∙ ap (λ (l : List ℕ). 1 ∷ l) t.0, t.1)
    by_kind false true c d f is_a is_b is_c is_d is_f e =
        let m = mapped Promise (promise_in bytes) one e in
        let t = promise_takes bytes m.0 fits m.1 in
        subst (λ (r : Record). (kind ∷ bytes ≡ payload_of r) × IsRecord r) m.2 (ap (λ (k : ℕ). k ∷ bytes) (eqb-true kind 2 is_b) ∙ ap (λ (l : List ℕ). 2 ∷ l) t.0, t.1)
    by_kind false false true d f is_a is_b is_c is_d is_f e =
        let m = mapped (λ id. Octets id.0 id.1) (id_at bytes) one e in
        let t = id_takes bytes m.0 fits m.1 in
        subst (λ (r : Record). (kind ∷ bytes ≡ payload_of r) × IsRecord r) m.2 (ap (λ (k : ℕ). k ∷ bytes) (eqb-true kind 3 is_c) ∙ ap (λ (l : List ℕ). 3 ∷ l) t.0.parts, t.1)
    by_kind false false false true f is_a is_b is_c is_d is_f e =
        let m = mapped (λ o. Stated o.0 o.1) (object_in bytes) one e in
        let t = object_takes bytes m.0 fits m.1 in
        subst (λ (r : Record). (kind ∷ bytes ≡ payload_of r) × IsRecord r) m.2 (ap (λ (k : ℕ). k ∷ bytes) (eqb-true kind 4 is_d) ∙ ap (λ (l : List ℕ). 4 ∷ l) t.0, t.1)
    by_kind false false false false true is_a is_b is_c is_d is_f e =
        let m = mapped (λ o. Retired o.0 o.1) (object_in bytes) one e in
        let t = object_takes bytes m.0 fits m.1 in
        subst (λ (r : Record). (kind ∷ bytes ≡ payload_of r) × IsRecord r) m.2 (ap (λ (k : ℕ). k ∷ bytes) (eqb-true kind 5 is_f) ∙ ap (λ (l : List ℕ). 5 ∷ l) t.0, t.1)
    by_kind false false false false false is_a is_b is_c is_d is_f e = absurd cc

-- the octets after the kind
abbrev tail : List ℕ → List ℕ
tail [] = []
tail (x ∷ rest) = rest

-- the kind and the octets after it
same_parts : (kind other : ℕ) (bytes more : List ℕ) → kind ∷ bytes ≡ other ∷ more → record_in kind bytes ≡ record_in other more
same_parts kind other bytes more e = ap₂ record_in (ap (λ (l : List ℕ). get_or l 0 0) e) (ap tail e)

pub record_again : (kind : ℕ) (bytes : List ℕ) (one : Record) → IsRecord one → kind ∷ bytes ≡ payload_of one → record_in kind bytes ≡ Some one
unfolding record_in
record_again kind bytes (Boot boot) is e = same_parts kind 1 bytes (to_be_bytes w32 boot) e ∙ ap (option_map Boot) (boot_again boot is)
record_again kind bytes (Promise epoch) is e =
    same_parts kind 2 bytes (to_be_bytes w64 epoch.count ++ epoch.node ∷ []) e ∙ ap (option_map Promise) (promise_again epoch is)
record_again kind bytes (Octets id octets) is e =
    same_parts kind 3 bytes (id_octets id ++ octets) e ∙ ap (option_map (λ (i : Id × List ℕ). Octets i.0 i.1)) (id_again id octets is)
record_again kind bytes (Stated key state) is e =
    same_parts kind 4 bytes (key_octets key ++ state_octets state) e ∙ ap (option_map (λ (o : Key × State). Stated o.0 o.1)) (object_again key state is)
record_again kind bytes (Retired key state) is e =
    same_parts kind 5 bytes (key_octets key ++ state_octets state) e ∙ ap (option_map (λ (o : Key × State). Retired o.0 o.1)) (object_again key state is)

-- what was found
pub read_as : (kind : ℕ) (bytes : List ℕ) (found : Option DiskEntry) → IsBytes bytes → FindsEntry found (record_in kind bytes) → ReadsAs (kind ∷ bytes) found
read_as kind bytes (Some entry) fits h =
    let t = record_takes kind bytes h.0 fits h.1 in record { one = h.0; told = h.2; fits = t.1; whole = t.0 }
read_as kind bytes None fits h = λ one is e. none (sym h ∙ record_again kind bytes one is e)
  where
    none : {A : Type 0} {x : A} → ◌≡◌ {A = Option A} None (Some x) → ⊥
    none e = cc

-- unless memory ran out
pub answered : {E : Type 0} (kind : ℕ) (bytes : List ℕ) (result : Result (Option DiskEntry) E) → IsBytes bytes → AnswersEntry result (record_in kind bytes)
    → IfOk result (λ found. ReadsAs (kind ∷ bytes) found)
answered kind bytes (Ok found) fits h = read_as kind bytes found fits h
answered kind bytes (Err e) fits h = tt

-- a payload whose first octet is its kind
pub payload_answered : {E : Type 0} (payload : List ℕ) (kind : ℕ) (bytes : List ℕ) (result : Result (Option DiskEntry) E) → IsBytes payload → octet_at payload ≡ Some (kind, bytes)
    → AnswersEntry result (record_in kind bytes) → IfOk result (λ found. ReadsAs payload found)
payload_answered payload kind bytes result fits e h =
    let first = octet_takes payload (kind, bytes) fits e in
    subst (λ (l : List ℕ). IfOk result (λ found. ReadsAs l found)) (sym first.0.parts) (answered kind bytes result first.0.rest_fits h)

-- what was read can be written
pub head_fits : (payload : List ℕ) (entry : DiskEntry) → Spells payload entry → IsRecord (head_record entry)
head_fits payload (Entry.Boot boot) s = subst IsRecord s.told s.fits
head_fits payload (Entry.Promise epoch) s = subst IsRecord s.told s.fits
head_fits payload (Entry.Octets id count) s = let fits : IsRecord (Octets id s.told.0) = subst IsRecord s.told.2 s.fits in fits
head_fits payload (Entry.State key state) s = subst IsRecord s.told s.fits
head_fits payload (Entry.Retired key state) s = subst IsRecord s.told s.fits

-- and so what was read can be written again
pub read_fits : {E : Type 0} (payload : List ℕ) (found : Result (Option DiskEntry) E) → IfOk found (ReadsAs payload) → IfOk found (λ entry. IfSome entry (λ held. IsRecord (head_record held)))
read_fits payload (Err e) reads = tt
read_fits payload (Ok None) reads = tt
read_fits payload (Ok (Some entry)) reads = head_fits payload entry reads
