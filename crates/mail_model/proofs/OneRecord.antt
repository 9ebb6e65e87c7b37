-- The octets of a record tell the record: each part has a width of its own, or a length before it.
use Rattle.std.proofs.Common.{◌≡◌, ◌<◌, ◌^◌, ℕ, List, [], ◌∷◌, ◌++◌, All, refl, sym, ap, ap₂, ◌∙◌, get_or, take, drop, arith, append_assoc, w16, w32, w64}
use Rattle.std.specs.Int.{to_be_bytes, from_be_bytes}
use Rattle.std.proofs.lemmas.List.Elements.{All-head, All-tail}
use Rattle.std.proofs.lemmas.Nat.{from_be_bytes-to_be_bytes_2, from_be_bytes-to_be_bytes_4, from_be_bytes-to_be_bytes_8}
use Rattle.mail_model.specs.Identity.{Id, EpochId, Stamp, Key, Value, State}
use Rattle.mail_model.specs.Identity.Key.{Profile, Message}
use Rattle.mail_model.specs.Identity.Value.{Here, Gone, Secret}
use Rattle.mail_model.specs.Record.{Record, id_octets, text_octets, key_octets, state_octets, secret_octets, rank_of, payload_of, payloads_of}
use Rattle.mail_model.specs.Record.Record.{Boot, Promise, Octets, Stated, Retired}
use Rattle.mail_model.specs.Grammar.{IsId, IsEpoch, IsStamp, IsState, IsObject, IsRecord, IsKey}
use Rattle.mail_model.specs.OneReading.{OneSpelling, OneReadingOfJournal}
use Rattle.mail_model.proofs.Readings.{same_fronts, one_journal}

-- numbers are read back from their octets
same_16 : (m n : ℕ) → m < 2 ^ 16 → n < 2 ^ 16 → to_be_bytes w16 m ≡ to_be_bytes w16 n → m ≡ n
same_16 m n short_m short_n e = sym (from_be_bytes-to_be_bytes_2 m short_m) ∙ ap (from_be_bytes w16) e ∙ from_be_bytes-to_be_bytes_2 n short_n

same_32 : (m n : ℕ) → m < 2 ^ 32 → n < 2 ^ 32 → to_be_bytes w32 m ≡ to_be_bytes w32 n → m ≡ n
same_32 m n short_m short_n e = sym (from_be_bytes-to_be_bytes_4 m short_m) ∙ ap (from_be_bytes w32) e ∙ from_be_bytes-to_be_bytes_4 n short_n

same_64 : (m n : ℕ) → m < 2 ^ 64 → n < 2 ^ 64 → to_be_bytes w64 m ≡ to_be_bytes w64 n → m ≡ n
same_64 m n short_m short_n e = sym (from_be_bytes-to_be_bytes_8 m short_m) ∙ ap (from_be_bytes w64) e ∙ from_be_bytes-to_be_bytes_8 n short_n

-- an id has 13 octets
same_ids : (i j : Id) (x y : List ℕ) → IsId i → IsId j → id_octets i ++ x ≡ id_octets j ++ y → (i ≡ j) × (x ≡ y)
same_ids i j x y is_i is_j e =
    let node : i.node ≡ j.node = ap (λ (l : List ℕ). get_or l 0 0) e in
    let boot : i.boot ≡ j.boot = same_32 i.boot j.boot is_i.boot.1 is_j.boot.1 (ap (λ (l : List ℕ). take 4 (drop 1 l)) e) in
    let seq : i.seq ≡ j.seq = same_64 i.seq j.seq is_i.seq.1 is_j.seq.1 (ap (λ (l : List ℕ). take 8 (drop 5 l)) e) in
    ((λ at. record { node = node at; boot = boot at; seq = seq at }), ap (drop 13) e)

-- a text has its length before it
same_texts : (a b x y : List ℕ) → text_octets a ++ x ≡ text_octets b ++ y → (a ≡ b) × (x ≡ y)
same_texts a b x y e = same_fronts a b x y (ap (λ (l : List ℕ). get_or l 0 0) e) (ap (drop 1) e)

-- a key has its kind before it, a name that tells its length, and an id
same_keys : (k l : Key) (x y : List ℕ) → IsKey k → IsKey l → key_octets k ++ x ≡ key_octets l ++ y → (k ≡ l) × (x ≡ y)
same_keys (Profile a) (Profile b) x y is_k is_l e =
    let parts = same_texts a b x y (ap (drop 1) e) in (ap Profile parts.0, parts.1)
same_keys (Profile a) (Message b j) x y is_k is_l e = absurd (omega (arith, ap (λ (l : List ℕ). get_or l 0 0) e))
same_keys (Message a i) (Profile b) x y is_k is_l e = absurd (omega (arith, ap (λ (l : List ℕ). get_or l 0 0) e))
same_keys (Message a i) (Message b j) x y is_k is_l e =
    let texts = same_texts a b (id_octets i ++ x) (id_octets j ++ y)
    (sym (append_assoc (text_octets a) (id_octets i) x) ∙ ap (drop 1) e ∙ append_assoc (text_octets b) (id_octets j) y) in
    let ids = same_ids i j x y is_k.1 is_l.1 texts.1 in
    (ap₂ Message texts.0 ids.0, ids.1)

-- a stamp has 13 octets
same_stamps : (s t : Stamp) (x y : List ℕ) → IsStamp s → IsStamp t
    → to_be_bytes w64 s.count ++ to_be_bytes w32 s.boot ++ s.node ∷ x ≡ to_be_bytes w64 t.count ++ to_be_bytes w32 t.boot ++ t.node ∷ y → (s ≡ t) × (x ≡ y)
same_stamps s t x y is_s is_t e =
    let count : s.count ≡ t.count = same_64 s.count t.count is_s.count is_t.count (ap (take 8) e) in
    let boot : s.boot ≡ t.boot = same_32 s.boot t.boot is_s.boot is_t.boot (ap (λ (l : List ℕ). take 4 (drop 8 l)) e) in
    let node : s.node ≡ t.node = ap (λ (l : List ℕ). get_or (drop 12 l) 0 0) e in
    ((λ at. record { count = count at; boot = boot at; node = node at }), ap (drop 13) e)

-- a value is told by its rank and its secret
same_values : (v w : Value) → rank_of v ≡ rank_of w → secret_octets v ≡ secret_octets w → v ≡ w
same_values Here Here rank secret = refl
same_values Here Gone rank secret = absurd (omega (arith, rank))
same_values Here (Secret b) rank secret = absurd (omega (arith, rank))
same_values Gone Here rank secret = absurd (omega (arith, rank))
same_values Gone Gone rank secret = refl
same_values Gone (Secret b) rank secret = absurd (omega (arith, rank))
same_values (Secret a) Here rank secret = absurd (omega (arith, rank))
same_values (Secret a) Gone rank secret = absurd (omega (arith, rank))
same_values (Secret a) (Secret b) rank secret = ap Secret (ap (drop 1) secret)

-- a state has its rank first, then 13 octets of its stamp, two of its targets, and its secret
same_states : (s t : State) → IsState s → IsState t → state_octets s ≡ state_octets t → s ≡ t
same_states s t is_s is_t e =
    let rank : rank_of s.value ≡ rank_of t.value = ap (λ (l : List ℕ). get_or l 0 0) e in
    let stamps = same_stamps s.stamp t.stamp (to_be_bytes w16 s.targets ++ secret_octets s.value) (to_be_bytes w16 t.targets ++ secret_octets t.value)
    is_s.stamp is_t.stamp (ap (drop 1) e) in
    let targets : s.targets ≡ t.targets = same_16 s.targets t.targets is_s.targets.1 is_t.targets.1 (ap (take 2) stamps.1) in
    let value : s.value ≡ t.value = same_values s.value t.value rank (ap (drop 2) stamps.1) in
    λ at. record { value = value at; stamp = stamps.0 at; targets = targets at }

-- an object and its state
same_objects : (k l : Key) (s t : State) → IsObject k s → IsObject l t → key_octets k ++ state_octets s ≡ key_octets l ++ state_octets t → (k ≡ l) × (s ≡ t)
same_objects k l s t is_s is_t e =
    let keys = same_keys k l (state_octets s) (state_octets t) is_s.key_fits is_t.key_fits e in
    (keys.0, same_states s t is_s.state_fits is_t.state_fits keys.1)

-- records of different kinds
other_kind : {P : Type 0} (one other : Record) (m n : ℕ) → payload_of one ≡ payload_of other → get_or (payload_of one) 0 0 ≡ m → get_or (payload_of other) 0 0 ≡ n → (m ≡ n → ⊥) → P
other_kind one other m n same kind kind_too differ = absurd (differ (sym kind ∙ ap (λ (l : List ℕ). get_or l 0 0) same ∙ kind_too))

same_boots : (a b : ℕ) → a < 2 ^ 32 → b < 2 ^ 32 → payload_of (Boot a) ≡ payload_of (Boot b) → Boot a ≡ Boot b
same_boots a b is_a is_b e = ap Boot (same_32 a b is_a is_b (ap (drop 1) e))

same_promises : (a b : EpochId) → IsEpoch a → IsEpoch b → payload_of (Promise a) ≡ payload_of (Promise b) → Promise a ≡ Promise b
same_promises a b is_a is_b e =
    let count : a.count ≡ b.count = same_64 a.count b.count is_a.count is_b.count (ap (λ (l : List ℕ). take 8 (drop 1 l)) e) in
    let node : a.node ≡ b.node = ap (λ (l : List ℕ). get_or (drop 9 l) 0 0) e in
    λ at. Promise (record { count = count at; node = node at })

same_octets : (i j : Id) (a b : List ℕ) → IsId i → IsId j → payload_of (Octets i a) ≡ payload_of (Octets j b) → Octets i a ≡ Octets j b
same_octets i j a b is_i is_j e = let ids = same_ids i j a b is_i is_j (ap (drop 1) e) in ap₂ Octets ids.0 ids.1

pub one_spelling : OneSpelling
one_spelling (Boot a) (Boot b) is_a is_b e = same_boots a b is_a.1 is_b.1 e
one_spelling (Promise a) (Promise b) is_a is_b e = same_promises a b is_a is_b e
one_spelling (Octets i a) (Octets j b) is_a is_b e = same_octets i j a b is_a is_b e
one_spelling (Stated k s) (Stated l t) is_a is_b e = let parts = same_objects k l s t is_a is_b (ap (drop 1) e) in ap₂ Stated parts.0 parts.1
one_spelling (Retired k s) (Retired l t) is_a is_b e = let parts = same_objects k l s t is_a is_b (ap (drop 1) e) in ap₂ Retired parts.0 parts.1
one_spelling (Boot a) (Promise b) is_a is_b e = other_kind (Boot a) (Promise b) 1 2 e refl refl (λ h. omega (arith, h))
one_spelling (Boot a) (Octets j b) is_a is_b e = other_kind (Boot a) (Octets j b) 1 3 e refl refl (λ h. omega (arith, h))
one_spelling (Boot a) (Stated l t) is_a is_b e = other_kind (Boot a) (Stated l t) 1 4 e refl refl (λ h. omega (arith, h))
one_spelling (Boot a) (Retired l t) is_a is_b e = other_kind (Boot a) (Retired l t) 1 5 e refl refl (λ h. omega (arith, h))
one_spelling (Promise a) (Boot b) is_a is_b e = other_kind (Promise a) (Boot b) 2 1 e refl refl (λ h. omega (arith, h))
one_spelling (Promise a) (Octets j b) is_a is_b e = other_kind (Promise a) (Octets j b) 2 3 e refl refl (λ h. omega (arith, h))
one_spelling (Promise a) (Stated l t) is_a is_b e = other_kind (Promise a) (Stated l t) 2 4 e refl refl (λ h. omega (arith, h))
one_spelling (Promise a) (Retired l t) is_a is_b e = other_kind (Promise a) (Retired l t) 2 5 e refl refl (λ h. omega (arith, h))
one_spelling (Octets i a) (Boot b) is_a is_b e = other_kind (Octets i a) (Boot b) 3 1 e refl refl (λ h. omega (arith, h))
one_spelling (Octets i a) (Promise b) is_a is_b e = other_kind (Octets i a) (Promise b) 3 2 e refl refl (λ h. omega (arith, h))
one_spelling (Octets i a) (Stated l t) is_a is_b e = other_kind (Octets i a) (Stated l t) 3 4 e refl refl (λ h. omega (arith, h))
one_spelling (Octets i a) (Retired l t) is_a is_b e = other_kind (Octets i a) (Retired l t) 3 5 e refl refl (λ h. omega (arith, h))
one_spelling (Stated k s) (Boot b) is_a is_b e = other_kind (Stated k s) (Boot b) 4 1 e refl refl (λ h. omega (arith, h))
one_spelling (Stated k s) (Promise b) is_a is_b e = other_kind (Stated k s) (Promise b) 4 2 e refl refl (λ h. omega (arith, h))
one_spelling (Stated k s) (Octets j b) is_a is_b e = other_kind (Stated k s) (Octets j b) 4 3 e refl refl (λ h. omega (arith, h))
one_spelling (Stated k s) (Retired l t) is_a is_b e = other_kind (Stated k s) (Retired l t) 4 5 e refl refl (λ h. omega (arith, h))
one_spelling (Retired k s) (Boot b) is_a is_b e = other_kind (Retired k s) (Boot b) 5 1 e refl refl (λ h. omega (arith, h))
one_spelling (Retired k s) (Promise b) is_a is_b e = other_kind (Retired k s) (Promise b) 5 2 e refl refl (λ h. omega (arith, h))
one_spelling (Retired k s) (Octets j b) is_a is_b e = other_kind (Retired k s) (Octets j b) 5 3 e refl refl (λ h. omega (arith, h))
one_spelling (Retired k s) (Stated l t) is_a is_b e = other_kind (Retired k s) (Stated l t) 5 4 e refl refl (λ h. omega (arith, h))

-- one by one
same_records : (records others : List Record) → All IsRecord records → All IsRecord others → payloads_of records ≡ payloads_of others → records ≡ others
same_records [] [] all all_too e = refl
same_records [] (y ∷ others) all all_too e = cc
same_records (x ∷ records) [] all all_too e = cc
same_records (x ∷ records) (y ∷ others) all all_too e =
    let first : payload_of x ≡ payload_of y = cc in
    let later : payloads_of records ≡ payloads_of others = cc in
    ap₂ ◌∷◌ (one_spelling x y (All-head IsRecord x records all) (All-head IsRecord y others all_too) first)
    (same_records records others (All-tail IsRecord x records all) (All-tail IsRecord y others all_too) later)

pub one_reading : OneReadingOfJournal
one_reading node octets records others all all_too journal journal_too =
    same_records records others all all_too (one_journal node octets (payloads_of records) (payloads_of others) journal journal_too)
