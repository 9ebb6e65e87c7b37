-- A part that is read is the part that was spelt, and what was spelt is read again, whatever follows it.
use Rattle.std.proofs.Common.{◌≡◌, ℕ, suc, ◌+◌, ◌^◌, ◌<◌, ◌≤◌, Bool, true, false, cond, ltb, ◌&&◌, ◌||◌, List, [], ◌∷◌, ◌++◌, length, get_or, take, drop, Option, Some, None, refl, sym, ap, subst, ◌∙◌, append_assoc, arith, inl, inr, nat_eq, nat_le, nat_lt}
use Rattle.std.specs.Int.{Width, w16, w32, w64, byte_len, from_be_bytes, to_be_bytes}
use Rattle.std.proofs.lemmas.Bool.{cases_lt, ltb-false, le-ltb, and_parts, leb-true, le-leb, eqb-false, ne_eqb}
use Rattle.std.proofs.lemmas.List.{take_at, drop_at, take-append-drop, length-append, length-take, get_or-drop, get_or-take, get_or_past}
use Rattle.std.proofs.lemmas.Nat.{be_bytes_2, be_bytes_4, be_bytes_8, from_be_bytes-to_be_bytes_2, from_be_bytes-to_be_bytes_4, from_be_bytes-to_be_bytes_8}
use Rattle.mail_model.specs.Identity.{Id, EpochId, Stamp}
use Rattle.mail_model.specs.Record.{id_octets, text_octets}
use Rattle.mail_model.specs.Grammar.{IsNodeNumber, IsCount, IsId, IsEpoch, IsStamp}
use Rattle.record_form.specs.Reading.{◌>>=◌, octet_at, number_at, text_at, node_of, sound_id, id_at, epoch_at, stamp_octets, stamp_at, targets_at}

-- numbers that octets have
abbrev pub IsBytes : List ℕ → Type 0
IsBytes bytes = (i : ℕ) → get_or bytes i 0 < 256

IsBytes-drop : (n : ℕ) (bytes : List ℕ) → IsBytes bytes → IsBytes (drop n bytes)
IsBytes-drop n bytes h i = rw get_or-drop (h (n + i))

IsBytes-take : (n : ℕ) (bytes : List ℕ) → IsBytes bytes → IsBytes (take n bytes)
IsBytes-take n bytes h i =
    elim (cases_lt i n) [
      | inl lt ↦ rw (get_or-take n bytes i 0 lt) (h i)
      | inr le ↦ rw (get_or_past (take n bytes) i 0 (omega (arith, length-take n bytes))) (omega arith)
    ]

pub IsBytes-rest : (b : ℕ) (bytes : List ℕ) → IsBytes (b ∷ bytes) → IsBytes bytes
IsBytes-rest b bytes h i = h (suc i)

-- the value of a step that found one
pub found_by : {A B : Type 0} (r : Option A) (f : A → Option B) (y : B) → (r >>= f) ≡ Some y → (x : A) × (r ≡ Some x) × (f x ≡ Some y)
found_by (Some x) f y e = (x, refl, e)
found_by None f y e = absurd cc

-- a test that has to fail, and one that has to hold
pub when_false : {A : Type 0} (b : Bool) (x y : A) → cond b None (Some x) ≡ Some y → (b ≡ false) × (x ≡ y)
when_false true x y e = absurd cc
when_false false x y e = (refl, cc)

pub when_true : {A : Type 0} (b : Bool) (x y : A) → cond b (Some x) None ≡ Some y → (b ≡ true) × (x ≡ y)
when_true true x y e = (refl, cc)
when_true false x y e = absurd cc

no_either : (b c : Bool) → (b || c) ≡ false → (b ≡ false) × (c ≡ false)
no_either true c e = absurd cc
no_either false c e = (refl, e)

above_none : (n : ℕ) → nat_eq n 0 ≡ false → 0 < n
above_none n e = let other : n ≡ 0 → ⊥ = eqb-false n 0 e in omega (arith, other)

pub same_some : {A : Type 0} (x y : A) → Some x ≡ Some y → x ≡ y
same_some x y e = cc

-- what a reader took from the beginning
pub record Takes (bytes text rest : List ℕ) : Type 0 where
  pub parts : bytes ≡ text ++ rest
  pub rest_fits : IsBytes rest

pub Takes-then : (a x b y c : List ℕ) → Takes a x b → Takes b y c → Takes a (x ++ y) c
Takes-then a x b y c p q = record { parts = p.parts ∙ ap (λ (t : List ℕ). x ++ t) q.parts ∙ sym (append_assoc x y c); rest_fits = q.rest_fits }

-- ---- octets and numbers

pub octet_takes : (bytes : List ℕ) (x : ℕ × List ℕ) → IsBytes bytes → octet_at bytes ≡ Some x → Takes bytes (x.0 ∷ []) x.1 × (x.0 < 256)
octet_takes [] x fits e = absurd cc
octet_takes (b ∷ bytes) x fits e =
    subst (λ (y : ℕ × List ℕ). Takes (b ∷ bytes) (y.0 ∷ []) y.1 × (y.0 < 256)) (same_some (b, bytes) x e)
    (record { parts = refl; rest_fits = IsBytes-rest b bytes fits }, fits 0)

pub record IsWide (w : Width) (limit : ℕ) : Type 0 where
  pub len : (n : ℕ) → length (to_be_bytes w n) ≡ byte_len w
  pub back : (bytes : List ℕ) → length bytes ≡ byte_len w → IsBytes bytes → to_be_bytes w (from_be_bytes w bytes) ≡ bytes
  pub again : (n : ℕ) → n < limit → from_be_bytes w (to_be_bytes w n) ≡ n
  pub below : (bytes : List ℕ) → IsBytes bytes → from_be_bytes w bytes < limit

pub wide16 : IsWide w16 (2 ^ 16)
wide16 = record {
  len = λ n. refl;
  back = λ bytes len fits. be_bytes_2 bytes _ len fits refl;
  again = λ n lt. from_be_bytes-to_be_bytes_2 n lt;
  below = λ bytes fits. omega (arith, fits 0, fits 1);
}

pub wide32 : IsWide w32 (2 ^ 32)
wide32 = record {
  len = λ n. refl;
  back = λ bytes len fits. be_bytes_4 bytes _ len fits refl;
  again = λ n lt. from_be_bytes-to_be_bytes_4 n lt;
  below = λ bytes fits. omega (arith, fits 0, fits 1, fits 2, fits 3);
}

pub wide64 : IsWide w64 (2 ^ 64)
wide64 = record {
  len = λ n. refl;
  back = λ bytes len fits. be_bytes_8 bytes _ len fits refl;
  again = λ n lt. from_be_bytes-to_be_bytes_8 n lt;
  below = λ bytes fits. omega (arith, fits 0, fits 1, fits 2, fits 3, fits 4, fits 5, fits 6, fits 7);
}

pub number_takes : (w : Width) (limit : ℕ) (wide : IsWide w limit) (bytes : List ℕ) (x : ℕ × List ℕ) → IsBytes bytes → number_at w bytes ≡ Some x
    → Takes bytes (to_be_bytes w x.0) x.1 × (x.0 < limit)
number_takes w limit wide bytes x fits e =
    let g = when_false (ltb (length bytes) (byte_len w)) (from_be_bytes w (take (byte_len w) bytes), drop (byte_len w) bytes) x e in
    let long : byte_len w ≤ length bytes = ltb-false _ _ g.0 in
    let front : to_be_bytes w (from_be_bytes w (take (byte_len w) bytes)) ≡ take (byte_len w) bytes =
    wide.back (take (byte_len w) bytes) (omega (arith, length-take (byte_len w) bytes)) (IsBytes-take (byte_len w) bytes fits) in
    subst (λ (y : ℕ × List ℕ). Takes bytes (to_be_bytes w y.0) y.1 × (y.0 < limit)) g.1
    (record { parts = rw front (sym (take-append-drop (byte_len w) bytes)); rest_fits = IsBytes-drop (byte_len w) bytes fits }, wide.below (take (byte_len w) bytes) (IsBytes-take (byte_len w) bytes fits))

pub number_again : (w : Width) (limit : ℕ) (wide : IsWide w limit) (n : ℕ) (rest : List ℕ) → n < limit → number_at w (to_be_bytes w n ++ rest) ≡ Some (n, rest)
number_again w limit wide n rest lt =
    let len = wide.len n in
    let long : ltb (length (to_be_bytes w n ++ rest)) (byte_len w) ≡ false = le-ltb _ _ (omega (arith, length-append (to_be_bytes w n) rest)) in
    rw (long, take_at (to_be_bytes w n) rest (byte_len w) len, drop_at (to_be_bytes w n) rest (byte_len w) len, wide.again n lt) refl

-- ---- a text after its length

pub text_takes : (bytes : List ℕ) (x : List ℕ × List ℕ) → IsBytes bytes → text_at bytes ≡ Some x → Takes bytes (text_octets x.0) x.1
unfolding text_at
text_takes bytes x fits e =
    let b = found_by (octet_at bytes) (λ size. cond (ltb (length size.1) size.0) None (Some (take size.0 size.1, drop size.0 size.1))) x e in
    let size = b.0 in
    let t = octet_takes bytes size fits b.1 in
    let g = when_false (ltb (length size.1) size.0) (take size.0 size.1, drop size.0 size.1) x b.2 in
    let long : size.0 ≤ length size.1 = ltb-false _ _ g.0 in
    let len : length (take size.0 size.1) ≡ size.0 = omega (arith, length-take size.0 size.1) in
    let second : Takes size.1 (take size.0 size.1) (drop size.0 size.1) = record { parts = sym (take-append-drop size.0 size.1); rest_fits = IsBytes-drop size.0 size.1 t.0.rest_fits } in
    let both = Takes-then bytes (size.0 ∷ []) size.1 (take size.0 size.1) (drop size.0 size.1) t.0 second in
    let whole : Takes bytes (text_octets (take size.0 size.1)) (drop size.0 size.1) = subst (λ (k : ℕ). Takes bytes (k ∷ take size.0 size.1) (drop size.0 size.1)) (sym len) both in
    subst (λ (y : List ℕ × List ℕ). Takes bytes (text_octets y.0) y.1) g.1 whole

pub text_again : (text rest : List ℕ) → text_at (text_octets text ++ rest) ≡ Some (text, rest)
unfolding text_at
text_again text rest =
    let long : ltb (length (text ++ rest)) (length text) ≡ false = le-ltb _ _ (omega (arith, length-append text rest)) in
    rw (long, take_at text rest (length text) refl, drop_at text rest (length text) refl) refl

-- ---- ids

pub node_is : (node found : ℕ) → node_of node ≡ Some found → (node ≡ found) × IsNodeNumber found
node_is node found e =
    let g = when_true (nat_le 1 node && nat_le node 16) node found e in
    let parts = and_parts (nat_le 1 node) (nat_le node 16) g.0 in
    subst (λ (n : ℕ). (node ≡ n) × IsNodeNumber n) g.1 (refl, (leb-true 1 node parts.0, leb-true node 16 parts.1))

pub node_again : (node : ℕ) → IsNodeNumber node → node_of node ≡ Some node
node_again node is = rw (le-leb 1 node is.0, le-leb node 16 is.1) refl

id_is : (node boot seq : ℕ) (id : Id) → sound_id node boot seq ≡ Some id → IsNodeNumber node → boot < 2 ^ 32 → seq < 2 ^ 64 → (record { node = node; boot = boot; seq = seq } ≡ id) × IsId id
id_is node boot seq id e is short short_too =
    let g = when_false (nat_eq boot 0 || nat_eq seq 0) (record { node = node; boot = boot; seq = seq }) id e in
    let parts = no_either (nat_eq boot 0) (nat_eq seq 0) g.0 in
    let some : IsId (record { node = node; boot = boot; seq = seq }) =
    record { node = is; boot = (above_none boot parts.0, short); seq = (above_none seq parts.1, short_too) } in
    subst (λ (i : Id). (record { node = node; boot = boot; seq = seq } ≡ i) × IsId i) g.1 (refl, some)

id_of_again : (id : Id) → IsId id → sound_id id.node id.boot id.seq ≡ Some id
id_of_again id is = rw (ne_eqb id.boot 0 (λ h. omega (arith, h, is.boot.0)), ne_eqb id.seq 0 (λ h. omega (arith, h, is.seq.0))) refl

pub id_takes : (bytes : List ℕ) (x : Id × List ℕ) → IsBytes bytes → id_at bytes ≡ Some x → Takes bytes (id_octets x.0) x.1 × IsId x.0
unfolding id_at
id_takes bytes x fits e =
    let a = found_by (octet_at bytes) _ x e in
    let b = found_by (node_of a.0.0) _ x a.2 in
    let c = found_by (number_at w32 a.0.1) _ x b.2 in
    let d = found_by (number_at w64 c.0.1) _ x c.2 in
    let f = found_by (sound_id b.0 c.0.0 d.0.0) _ x d.2 in
    let first = octet_takes bytes a.0 fits a.1 in
    let node = node_is a.0.0 b.0 b.1 in
    let boot = number_takes w32 (2 ^ 32) wide32 a.0.1 c.0 first.0.rest_fits c.1 in
    let seq = number_takes w64 (2 ^ 64) wide64 c.0.1 d.0 boot.0.rest_fits d.1 in
    let id = id_is b.0 c.0.0 d.0.0 f.0 f.1 node.1 boot.1 seq.1 in
    let two = Takes-then bytes (a.0.0 ∷ []) a.0.1 (to_be_bytes w32 c.0.0) c.0.1 first.0 boot.0 in
    let all = Takes-then bytes ((a.0.0 ∷ []) ++ to_be_bytes w32 c.0.0) c.0.1 (to_be_bytes w64 d.0.0) d.0.1 two seq.0 in
    let named : Takes bytes (id_octets (record { node = b.0; boot = c.0.0; seq = d.0.0 })) d.0.1 =
    subst (λ (n : ℕ). Takes bytes (n ∷ to_be_bytes w32 c.0.0 ++ to_be_bytes w64 d.0.0) d.0.1) node.0 all in
    let whole : Takes bytes (id_octets f.0) d.0.1 = subst (λ (i : Id). Takes bytes (id_octets i) d.0.1) id.0 named in
    subst (λ (y : Id × List ℕ). Takes bytes (id_octets y.0) y.1 × IsId y.0) (same_some (f.0, d.0.1) x f.2) (whole, id.1)

pub id_again : (id : Id) (rest : List ℕ) → IsId id → id_at (id_octets id ++ rest) ≡ Some (id, rest)
unfolding id_at
id_again id rest is =
    rw (
      node_again id.node is.node,
      number_again w32 (2 ^ 32) wide32 id.boot (to_be_bytes w64 id.seq ++ rest) is.boot.1,
      number_again w64 (2 ^ 64) wide64 id.seq rest is.seq.1,
      id_of_again id is,
    ) refl

-- ---- epochs

pub epoch_takes : (bytes : List ℕ) (x : EpochId × List ℕ) → IsBytes bytes → epoch_at bytes ≡ Some x → Takes bytes (to_be_bytes w64 x.0.count ++ x.0.node ∷ []) x.1 × IsEpoch x.0
unfolding epoch_at
epoch_takes bytes x fits e =
    let a = found_by (number_at w64 bytes) _ x e in
    let b = found_by (octet_at a.0.1) _ x a.2 in
    let c = found_by (node_of b.0.0) _ x b.2 in
    let count = number_takes w64 (2 ^ 64) wide64 bytes a.0 fits a.1 in
    let last = octet_takes a.0.1 b.0 count.0.rest_fits b.1 in
    let node = node_is b.0.0 c.0 c.1 in
    let both = Takes-then bytes (to_be_bytes w64 a.0.0) a.0.1 (b.0.0 ∷ []) b.0.1 count.0 last.0 in
    let whole = subst (λ (n : ℕ). Takes bytes (to_be_bytes w64 a.0.0 ++ n ∷ []) b.0.1) node.0 both in
    subst (λ (y : EpochId × List ℕ). Takes bytes (to_be_bytes w64 y.0.count ++ y.0.node ∷ []) y.1 × IsEpoch y.0)
    (same_some (record { count = a.0.0; node = c.0 }, b.0.1) x c.2) (whole, record { count = count.1; node = node.1 })

pub epoch_again : (epoch : EpochId) (rest : List ℕ) → IsEpoch epoch → epoch_at (to_be_bytes w64 epoch.count ++ epoch.node ∷ [] ++ rest) ≡ Some (epoch, rest)
unfolding epoch_at
epoch_again epoch rest is = rw (number_again w64 (2 ^ 64) wide64 epoch.count (epoch.node ∷ rest) is.count, node_again epoch.node is.node) refl

-- ---- stamps

pub stamp_takes : (bytes : List ℕ) (x : Stamp × List ℕ) → IsBytes bytes → stamp_at bytes ≡ Some x → Takes bytes (stamp_octets x.0) x.1 × IsStamp x.0
unfolding stamp_at
stamp_takes bytes x fits e =
    let a = found_by (number_at w64 bytes) _ x e in
    let b = found_by (number_at w32 a.0.1) _ x a.2 in
    let c = found_by (octet_at b.0.1) _ x b.2 in
    let g = when_false (nat_lt 16 c.0.0) (record { count = a.0.0; boot = b.0.0; node = c.0.0 }, c.0.1) x c.2 in
    let count = number_takes w64 (2 ^ 64) wide64 bytes a.0 fits a.1 in
    let boot = number_takes w32 (2 ^ 32) wide32 a.0.1 b.0 count.0.rest_fits b.1 in
    let node = octet_takes b.0.1 c.0 boot.0.rest_fits c.1 in
    let two = Takes-then bytes (to_be_bytes w64 a.0.0) a.0.1 (to_be_bytes w32 b.0.0) b.0.1 count.0 boot.0 in
    let all = Takes-then bytes (to_be_bytes w64 a.0.0 ++ to_be_bytes w32 b.0.0) b.0.1 (c.0.0 ∷ []) c.0.1 two node.0 in
    subst (λ (y : Stamp × List ℕ). Takes bytes (stamp_octets y.0) y.1 × IsStamp y.0) g.1
    (all, record { count = count.1; boot = boot.1; node = ltb-false 16 c.0.0 g.0 })

pub stamp_again : (stamp : Stamp) (rest : List ℕ) → IsStamp stamp → stamp_at (stamp_octets stamp ++ rest) ≡ Some (stamp, rest)
unfolding stamp_at
stamp_again stamp rest is =
    rw (
      number_again w64 (2 ^ 64) wide64 stamp.count (to_be_bytes w32 stamp.boot ++ stamp.node ∷ rest) is.count,
      number_again w32 (2 ^ 32) wide32 stamp.boot (stamp.node ∷ rest) is.boot,
      le-ltb 16 stamp.node is.node,
    ) refl

-- ---- targets

pub targets_takes : (bytes : List ℕ) (x : ℕ × List ℕ) → IsBytes bytes → targets_at bytes ≡ Some x → Takes bytes (to_be_bytes w16 x.0) x.1 × IsCount 16 x.0
unfolding targets_at
targets_takes bytes x fits e =
    let a = found_by (number_at w16 bytes) _ x e in
    let g = when_false (nat_eq a.0.0 0) (a.0.0, a.0.1) x a.2 in
    let mask = number_takes w16 (2 ^ 16) wide16 bytes a.0 fits a.1 in
    subst (λ (y : ℕ × List ℕ). Takes bytes (to_be_bytes w16 y.0) y.1 × IsCount 16 y.0) g.1 (mask.0, (above_none a.0.0 g.0, mask.1))

pub targets_again : (mask : ℕ) (rest : List ℕ) → IsCount 16 mask → targets_at (to_be_bytes w16 mask ++ rest) ≡ Some (mask, rest)
unfolding targets_at
targets_again mask rest is = rw (number_again w16 (2 ^ 16) wide16 mask rest is.1, ne_eqb mask 0 (λ h. omega (arith, h, is.0))) refl
