-- The best claim of each bucket is in its cell.
use Rattle.std.proofs.Common.{◌≡◌, ◌≢◌, ◌⊎◌, inl, inr, ⊎_elim, ℕ, zero, suc, ◌<◌, ◌≤◌, Bool, true, false, ◌&&◌, ◌||◌, nat_eq, nat_lt, List, [], ◌∷◌, length, Option, Some, None, fold, get_or, refl, sym, ap, ◌∙◌, subst, true≢false, arith, if◌then◌else◌}
use Rattle.std.specs.Prelude.{slice_set, replicate}
use Rattle.std.specs.List.{list_any}
use Rattle.std.proofs.lemmas.Bool.{eqb-true, ltb-true, ltb-false, lt-ltb, eq-eqb}
use Rattle.std.proofs.lemmas.List.{get_or-set_same, get_or-set_other, length-set, length-replicate}
use Rattle.object_model.specs.Letters.{Claim, MapRow, Member}
use Rattle.object_model.specs.Lists.{Among}
use Rattle.maps_model.specs.Epochs.{IsBefore}
use Rattle.maps_model.specs.Assign.{Counts, ClaimedRow, is_claimed}
use Rattle.maps_model.proofs.Order.{before_before, before_same, same_before, before_not_same}
use Rattle.user_map.specs.Plain.{is_member, row_of, beats, better, with_claim, claimed_cells}

pub not_less : (a b : ℕ) → nat_lt a b ≡ false → b ≤ a
not_less a b e = ltb-false a b e

pub not_same : (a b : ℕ) → nat_eq a b ≡ false → a ≢ b
not_same a b e same = true≢false (sym (eq-eqb a b same) ∙ e)

pub less_true : (a b : ℕ) → a < b → nat_lt a b ≡ true
less_true a b h = lt-ltb a b h

both_true : (a b : Bool) → (a && b) ≡ true → (a ≡ true) × (b ≡ true)
both_true true true e = (refl, refl)
both_true true false e = absurd (true≢false (sym e))
both_true false b e = absurd (true≢false (sym e))

both : (a b : Bool) → a ≡ true → b ≡ true → (a && b) ≡ true
both a b e f = ap (λ t. t && b) e ∙ f

-- what is found by a test is there, and the other way round
any_found : {X : Type 0} (test : X → Bool) (xs : List X) → list_any test xs ≡ true → (x : X) × Among x xs × (test x ≡ true)
any_found test [] e = absurd (true≢false (sym e))
any_found test (x ∷ xs) e = by (test x) refl (λ h. any_found test xs h) e
  where
    by : (b : Bool) → test x ≡ b → (list_any test xs ≡ true → (y : _) × Among y xs × (test y ≡ true)) → (b || list_any test xs) ≡ true → (y : _) × Among y (x ∷ xs) × (test y ≡ true)
    by true t rest e = (x, inl refl, t)
    by false t rest e = let r = rest e in (r.0, inr r.1, r.2)

found_any : {X : Type 0} (test : X → Bool) (xs : List X) (x : X) → Among x xs → test x ≡ true → list_any test xs ≡ true
found_any test [] x here e = absurd here
found_any test (y ∷ xs) x (inl same) e = ap (λ t. t || list_any test xs) (ap test same ∙ e)
found_any test (y ∷ xs) x (inr there) e = by (test y) (found_any test xs x there e)
  where
    by : (b : Bool) → list_any test xs ≡ true → (b || list_any test xs) ≡ true
    by true rest = refl
    by false rest = rest

-- a row is at least as good as another
abbrev pub AtLeast : MapRow → MapRow → Type 0
AtLeast row other = IsBefore other.since row.since ⊎ ((other.since ≡ row.since) × (row.manager ≤ other.manager))

least_itself : (row : MapRow) → AtLeast row row
least_itself row = inr (refl, omega arith)

least_on : (a b c : MapRow) → AtLeast a b → AtLeast b c → AtLeast a c
least_on a b c (inl h) (inl k) = inl (before_before c.since b.since a.since k h)
least_on a b c (inl h) (inr k) = inl (same_before c.since b.since a.since k.0 h)
least_on a b c (inr h) (inl k) = inl (before_same c.since b.since a.since k h.0)
least_on a b c (inr h) (inr k) = inr (k.0 ∙ h.0, omega (arith, h.1, k.1))

beats_or_not : (claim : Claim) (row : MapRow) → ((beats claim row ≡ true) × AtLeast (row_of claim) row) ⊎ ((beats claim row ≡ false) × AtLeast row (row_of claim))
beats_or_not claim row = by (nat_lt row.since.count claim.since.count) (nat_eq row.since.count claim.since.count) (nat_lt row.since.node claim.since.node) (nat_eq row.since.node claim.since.node) (nat_lt claim.node row.manager)
    refl refl refl refl refl
  where
    by : (p q r s t : Bool) → nat_lt row.since.count claim.since.count ≡ p → nat_eq row.since.count claim.since.count ≡ q → nat_lt row.since.node claim.since.node ≡ r
        → nat_eq row.since.node claim.since.node ≡ s → nat_lt claim.node row.manager ≡ t
        → ((((p || (q && r)) || ((q && s) && t)) ≡ true) × AtLeast (row_of claim) row) ⊎ ((((p || (q && r)) || ((q && s) && t)) ≡ false) × AtLeast row (row_of claim))
    by true q r s t a b c d e = inl (refl, inl (inl (ltb-true row.since.count claim.since.count a)))
    by false true true s t a b c d e = inl (refl, inl (inr (eqb-true row.since.count claim.since.count b, ltb-true row.since.node claim.since.node c)))
    by false true false true true a b c d e =
        let count : row.since.count ≡ claim.since.count = eqb-true row.since.count claim.since.count b in
        let node : row.since.node ≡ claim.since.node = eqb-true row.since.node claim.since.node d in
        inl (refl, inr ((λ i. record { count = count i; node = node i }), omega (arith, ltb-true claim.node row.manager e)))
    by false true false true false a b c d e =
        let count : claim.since.count ≡ row.since.count = sym (eqb-true row.since.count claim.since.count b) in
        let node : claim.since.node ≡ row.since.node = sym (eqb-true row.since.node claim.since.node d) in
        inr (refl, inr ((λ i. record { count = count i; node = node i }), not_less claim.node row.manager e))
    by false true false false t a b c d e =
        inr (refl, inl (inr (sym (eqb-true row.since.count claim.since.count b), omega (arith, not_less row.since.node claim.since.node c, not_same row.since.node claim.since.node d))))
    by false false r s t a b c d e = inr (refl, inl (inl (omega (arith, not_less row.since.count claim.since.count a, not_same row.since.count claim.since.count b))))

better_row : (row : MapRow) (claim : Claim) → AtLeast (better (Some row) claim) row × AtLeast (better (Some row) claim) (row_of claim)
better_row row claim = ⊎_elim
    (λ p. subst (λ t. AtLeast (if t then row_of claim else row) row × AtLeast (if t then row_of claim else row) (row_of claim)) (sym p.0) (p.1, least_itself (row_of claim)))
    (λ p. subst (λ t. AtLeast (if t then row_of claim else row) row × AtLeast (if t then row_of claim else row) (row_of claim)) (sym p.0) (least_itself row, p.1))
    (beats_or_not claim row)

better_claim : (cell : Option MapRow) (claim : Claim) → AtLeast (better cell claim) (row_of claim)
better_claim None claim = least_itself (row_of claim)
better_claim (Some row) claim = (better_row row claim).1

better_made : (cell : Option MapRow) (claim : Claim) (row : MapRow) → better cell claim ≡ row → (cell ≡ Some row) ⊎ (row ≡ row_of claim)
better_made None claim row e = inr (sym e)
better_made (Some old) claim row e = ⊎_elim
    (λ p. inr (sym e ∙ ap (λ (t : Bool). if t then row_of claim else old) p.0))
    (λ p. inl (ap Some (ap (λ (t : Bool). if t then row_of claim else old) (sym p.0) ∙ e)))
    (beats_or_not claim old)

module _ (members : List Member) (bucket : ℕ) where
  abbrev pub counts : Claim → Bool
  counts claim = nat_eq claim.bucket bucket && is_member members claim.node

  -- what a claim makes of the cell of the bucket
  abbrev pub granted : Option MapRow → Claim → Option MapRow
  granted cell claim = if counts claim then Some (better cell claim) else cell

  abbrev pub HasAtLeast : Option MapRow → MapRow → Type 0
  HasAtLeast cell row = (best : MapRow) × (cell ≡ Some best) × AtLeast best row

  on_granted : (cell : Option MapRow) (claim : Claim) (row : MapRow) → HasAtLeast cell row → HasAtLeast (granted cell claim) row
  on_granted cell claim row has = by (counts claim) cell has
    where
      by : (t : Bool) (cell : Option MapRow) → HasAtLeast cell row → HasAtLeast (if t then Some (better cell claim) else cell) row
      by false cell has = has
      by true None has = cc
      by true (Some old) has =
          let same : old ≡ has.0 = cc in
          (better (Some old) claim, refl, least_on (better (Some old) claim) old row (better_row old claim).0 (subst (λ (x : MapRow). AtLeast x row) (sym same) has.2))

  stays : (claims : List Claim) (cell : Option MapRow) (row : MapRow) → HasAtLeast cell row → HasAtLeast (fold granted cell claims) row
  stays [] cell row has = has
  stays (claim ∷ claims) cell row has = stays claims (granted cell claim) row (on_granted cell claim row has)

  pub covered : (claims : List Claim) (cell : Option MapRow) (claim : Claim) → Among claim claims → counts claim ≡ true → HasAtLeast (fold granted cell claims) (row_of claim)
  covered [] cell claim here e = absurd here
  covered (other ∷ claims) cell claim (inl same) e =
      let t : counts other ≡ true = ap counts same ∙ e in
      let made : granted cell other ≡ Some (better cell other) = ap (λ (b : Bool). if b then Some (better cell other) else cell) t in
      stays claims (granted cell other) (row_of claim) (better cell other, made, subst (λ (c : Claim). AtLeast (better cell other) (row_of c)) same (better_claim cell other))
  covered (other ∷ claims) cell claim (inr there) e = covered claims (granted cell other) claim there e

  pub made : (claims : List Claim) (cell : Option MapRow) (row : MapRow) → fold granted cell claims ≡ Some row → (cell ≡ Some row) ⊎ ((claim : Claim) × Among claim claims × (counts claim ≡ true) × (row ≡ row_of claim))
  made [] cell row e = inl e
  made (claim ∷ claims) cell row e = ⊎_elim
      (λ h. by (counts claim) refl h)
      (λ h. inr (h.0, inr h.1, h.2, h.3))
      (made claims (granted cell claim) row e)
    where
      by : (t : Bool) → counts claim ≡ t → (if t then Some (better cell claim) else cell) ≡ Some row → (cell ≡ Some row) ⊎ ((c : Claim) × Among c (claim ∷ claims) × (counts c ≡ true) × (row ≡ row_of c))
      by false t h = inl h
      by true t h = ⊎_elim (λ k. inl k) (λ k. inr (claim, inl refl, t, k)) (better_made cell claim row cc)

-- the cell of a bucket is made by the claims of that bucket
size_with : (members : List Member) (cells : List (Option MapRow)) (claim : Claim) → length (with_claim members cells claim) ≡ length cells
size_with members cells claim = by (nat_lt claim.bucket (length cells) && is_member members claim.node)
  where
    by : (t : Bool) → length (if t then slice_set cells claim.bucket (Some (better (get_or cells claim.bucket None) claim)) else cells) ≡ length cells
    by true = length-set cells claim.bucket (Some (better (get_or cells claim.bucket None) claim))
    by false = refl

pub size_all : (members : List Member) (claims : List Claim) (cells : List (Option MapRow)) → length (fold (with_claim members) cells claims) ≡ length cells
size_all members [] cells = refl
size_all members (claim ∷ claims) cells = size_all members claims (with_claim members cells claim) ∙ size_with members cells claim

cell_with : (members : List Member) (cells : List (Option MapRow)) (claim : Claim) (i : ℕ) → i < length cells → get_or (with_claim members cells claim) i None ≡ granted members i (get_or cells i None) claim
cell_with members cells claim i lt = at (nat_eq claim.bucket i) refl
  where
    at : (s : Bool) → nat_eq claim.bucket i ≡ s → get_or (with_claim members cells claim) i None ≡ (if s && is_member members claim.node then Some (better (get_or cells i None) claim) else get_or cells i None)
    at true e =
        let same : claim.bucket ≡ i = eqb-true claim.bucket i e in
        let below : nat_lt claim.bucket (length cells) ≡ true = less_true claim.bucket (length cells) (omega (arith, same, lt)) in
        ap (λ (t : Bool). get_or (if t && is_member members claim.node then slice_set cells claim.bucket (Some (better (get_or cells claim.bucket None) claim)) else cells) i None) below
        ∙ by (is_member members claim.node) same
      where
        by : (t : Bool) → claim.bucket ≡ i → get_or (if t then slice_set cells claim.bucket (Some (better (get_or cells claim.bucket None) claim)) else cells) i None ≡ (if t then Some (better (get_or cells i None) claim) else get_or cells i None)
        by false same = refl
        by true same = ap (λ (k : ℕ). get_or (slice_set cells k (Some (better (get_or cells k None) claim))) i None) same ∙ get_or-set_same cells i (Some (better (get_or cells i None) claim)) None lt
    at false e = by (nat_lt claim.bucket (length cells) && is_member members claim.node)
      where
        by : (t : Bool) → get_or (if t then slice_set cells claim.bucket (Some (better (get_or cells claim.bucket None) claim)) else cells) i None ≡ get_or cells i None
        by false = refl
        by true = get_or-set_other cells claim.bucket i (Some (better (get_or cells claim.bucket None) claim)) None (λ same. not_same claim.bucket i e (sym same))

cell_all : (members : List Member) (claims : List Claim) (cells : List (Option MapRow)) (i : ℕ) → i < length cells
    → get_or (fold (with_claim members) cells claims) i None ≡ fold (granted members i) (get_or cells i None) claims
cell_all members [] cells i lt = refl
cell_all members (claim ∷ claims) cells i lt =
    cell_all members claims (with_claim members cells claim) i (omega (arith, lt, size_with members cells claim))
    ∙ ap (λ (c : Option MapRow). fold (granted members i) c claims) (cell_with members cells claim i lt)

-- What a cell says of its bucket: its best claim, or that nobody claims it.
abbrev pub CellFor : List Claim → List Member → ℕ → Option MapRow → Type 0
CellFor claims members bucket None = (is_claimed claims members bucket ≡ false) × ((claim : Claim) → Counts claims members bucket claim → ⊥)
CellFor claims members bucket (Some row) = (is_claimed claims members bucket ≡ true) × ClaimedRow claims members bucket row

module _ (claims : List Claim) (members : List Member) (bucket : ℕ) where
  it_counts : (claim : Claim) → Counts claims members bucket claim → counts members bucket claim ≡ true
  it_counts claim c = both (nat_eq claim.bucket bucket) (is_member members claim.node) (eq-eqb claim.bucket bucket c.of_bucket)
      (found_any (λ (member : Member). nat_eq member.node claim.node) members c.of_member.member c.of_member.inside (eq-eqb c.of_member.member.node claim.node c.of_member.is))

  it_is : (claim : Claim) → Among claim claims → counts members bucket claim ≡ true → Counts claims members bucket claim
  it_is claim here e =
      let t = both_true (nat_eq claim.bucket bucket) (is_member members claim.node) e in
      let m = any_found (λ (member : Member). nat_eq member.node claim.node) members t.1 in
      record { inside = here; of_bucket = eqb-true claim.bucket bucket t.0; of_member = record { member = m.0; inside = m.1; is = eqb-true m.0.node claim.node m.2 } }

  cell_for : (cell : Option MapRow) → fold (granted members bucket) None claims ≡ cell → CellFor claims members bucket cell
  cell_for None e =
      let nobody : (claim : Claim) → Counts claims members bucket claim → ⊥ = λ claim c. let h = covered members bucket claims None claim c.inside (it_counts claim c) in absurd (let p = h.1 in cc) in
      (by (is_claimed claims members bucket) refl nobody, nobody)
    where
      by : (t : Bool) → is_claimed claims members bucket ≡ t → ((claim : Claim) → Counts claims members bucket claim → ⊥) → t ≡ false
      by false t nobody = refl
      by true t nobody = let c = any_found (counts members bucket) claims t in absurd (nobody c.0 (it_is c.0 c.1 c.2))
  cell_for (Some row) e = ⊎_elim (λ (never : None ≡ Some row). absurd cc) (λ h. by h.0 h.1 h.2 h.3) (made members bucket claims None row e)
    where
      at_least : (other : Claim) → Counts claims members bucket other → AtLeast row (row_of other)
      at_least other c =
          let h = covered members bucket claims None other c.inside (it_counts other c) in
          let same : h.0 ≡ row = (let p = h.1 in cc) in
          subst (λ (x : MapRow). AtLeast x (row_of other)) same h.2

      by : (claim : Claim) → Among claim claims → counts members bucket claim ≡ true → row ≡ row_of claim → (is_claimed claims members bucket ≡ true) × ClaimedRow claims members bucket row
      by claim here t is = (
        found_any (counts members bucket) claims claim here t,
        record {
          claim = claim;
          best = record {
            counts = it_is claim here t;
            greatest = λ other c. ⊎_elim (λ h. inl (before_same other.since row.since claim.since h (ap (λ (r : MapRow). r.since) is))) (λ h. inr (h.0 ∙ ap (λ (r : MapRow). r.since) is)) (at_least other c);
            lowest = λ other c same. ⊎_elim
                (λ h. absurd (before_not_same other.since row.since h (same ∙ sym (ap (λ (r : MapRow). r.since) is))))
                (λ h. omega (arith, h.1, ap (λ (r : MapRow). r.manager) is))
                (at_least other c);
          };
          same_node = ap (λ (r : MapRow). r.manager) is;
          same_since = ap (λ (r : MapRow). r.since) is;
        },
      )

pub cells_size : (claims : List Claim) (members : List Member) (buckets : ℕ) → length (claimed_cells claims members buckets) ≡ buckets
cells_size claims members buckets = size_all members claims (replicate buckets None) ∙ length-replicate buckets None

cells_of : (n : ℕ) → length (replicate {A = Option MapRow} n None) ≡ n
cells_of n = length-replicate n None

none_there : (n i : ℕ) → ◌≡◌ {A = Option MapRow} (get_or (replicate n None) i None) None
none_there zero i = refl
none_there (suc n) zero = refl
none_there (suc n) (suc i) = none_there n i

pub cells_fit : (claims : List Claim) (members : List Member) (buckets i : ℕ) → i < buckets → CellFor claims members i (get_or (claimed_cells claims members buckets) i None)
cells_fit claims members buckets i lt =
    cell_for claims members i (get_or (claimed_cells claims members buckets) i None)
    (sym (cell_all members claims (replicate buckets None) i (omega (arith, lt, cells_of buckets)) ∙ ap (λ (c : Option MapRow). fold (granted members i) c claims) (none_there buckets i)))
