-- One map is assigned to the same claims, members and buckets.
use Rattle.std.proofs.Common.{◌≡◌, ◌⊎◌, inl, inr, ℕ, zero, suc, ◌+◌, ◌<◌, Bool, true, false, ◌&&◌, ◌||◌, nat_eq, nat_lt, List, [], ◌∷◌, length, Some, refl, sym, ap, ◌∙◌, subst, true≢false, arith, if◌then◌else◌}
use Rattle.std.specs.Prelude.{slice_get}
use Rattle.std.specs.List.{list_any}
use Rattle.std.proofs.lemmas.Bool.{eqb-true, ltb-true}
use Rattle.mail_model.specs.Identity.{EpochId}
use Rattle.object_model.specs.Letters.{Claim, MapRow, Member}
use Rattle.object_model.specs.Lists.{Among}
use Rattle.maps_model.specs.Assign.{Counts, is_claimed, counts_for, count_rows, load, ClaimedRow, FreeRow, IsAssigned}
use Rattle.maps_model.proofs.Order.{most_same}

both_true : (a b : Bool) → (a && b) ≡ true → (a ≡ true) × (b ≡ true)
both_true true true e = (refl, refl)
both_true true false e = absurd (true≢false (sym e))
both_true false b e = absurd (true≢false (sym e))

-- what is found by a test is there
any_found : {X : Type 0} (test : X → Bool) (xs : List X) → list_any test xs ≡ true → (x : X) × Among x xs × (test x ≡ true)
any_found test [] e = absurd (true≢false (sym e))
any_found test (x ∷ xs) e = by (test x) refl (λ h. any_found test xs h) e
  where
    by : (b : Bool) → test x ≡ b → (list_any test xs ≡ true → (y : _) × Among y xs × (test y ≡ true)) → (b || list_any test xs) ≡ true → (y : _) × Among y (x ∷ xs) × (test y ≡ true)
    by true t rest e = (x, inl refl, t)
    by false t rest e = let r = rest e in (r.0, inr r.1, r.2)

module _ (claims : List Claim) (members : List Member) (buckets : ℕ) (epoch : EpochId) where
  -- whether a bucket is claimed tells of a claim
  claimed : (bucket : ℕ) → is_claimed claims members bucket ≡ true → (claim : Claim) × Counts claims members bucket claim
  claimed bucket e =
      let c = any_found (λ claim. nat_eq claim.bucket bucket && list_any (λ member. nat_eq member.node claim.node) members) claims e in
      let t = both_true (nat_eq c.0.bucket bucket) (list_any (λ member. nat_eq member.node c.0.node) members) c.2 in
      let m = any_found (λ (member : Member). nat_eq member.node c.0.node) members t.1 in
      (c.0, record { inside = c.1; of_bucket = eqb-true c.0.bucket bucket t.0; of_member = record { member = m.0; inside = m.1; is = eqb-true m.0.node c.0.node m.2 } })

  -- one claim is the best
  one_best : (bucket : ℕ) (row other : MapRow) → ClaimedRow claims members bucket row → ClaimedRow claims members bucket other → row ≡ other
  one_best bucket row other a b =
      let since : a.claim.since ≡ b.claim.since = most_same a.claim.since b.claim.since (b.best.greatest a.claim a.best.counts) (a.best.greatest b.claim b.best.counts) in
      let first = a.best.lowest b.claim b.best.counts (sym since) in
      let second = b.best.lowest a.claim a.best.counts since in
      let node : row.manager ≡ other.manager = omega (arith, first, second, a.same_node, b.same_node) in
      λ i. record { manager = node i; since = (a.same_since ∙ since ∙ sym b.same_since) i }

  module _ (a b : List MapRow) (x : IsAssigned claims members buckets epoch a) (y : IsAssigned claims members buckets epoch b) where
    same_claimed : (bucket : ℕ) (claim : Claim) → Counts claims members bucket claim → (row other : MapRow) → slice_get a bucket ≡ Some row → slice_get b bucket ≡ Some other → row ≡ other
    same_claimed bucket claim counts row other e f = by (x.each bucket row e) (y.each bucket other f)
      where
        by : ClaimedRow claims members bucket row ⊎ FreeRow claims members epoch a bucket row → ClaimedRow claims members bucket other ⊎ FreeRow claims members epoch b bucket other → row ≡ other
        by (inl p) (inl q) = one_best bucket row other p q
        by (inl p) (inr q) = absurd (q.unclaimed claim counts)
        by (inr p) q = absurd (p.unclaimed claim counts)

    -- counts agree where the rows that count agree
    count_same : (node bucket at : ℕ) (left right : List MapRow) → length left ≡ length right
        → ((i : ℕ) (row other : MapRow) → slice_get left i ≡ Some row → slice_get right i ≡ Some other → (nat_lt (at + i) bucket || is_claimed claims members (at + i)) ≡ true → row ≡ other)
        → count_rows claims members node bucket at left ≡ count_rows claims members node bucket at right
    count_same node bucket at [] [] size same = refl
    count_same node bucket at [] (r ∷ right) size same = absurd (omega (arith, size))
    count_same node bucket at (r ∷ left) [] size same = absurd (omega (arith, size))
    count_same node bucket at (r ∷ left) (s ∷ right) size same =
        let rest : count_rows claims members node bucket (suc at) left ≡ count_rows claims members node bucket (suc at) right =
        count_same node bucket (suc at) left right (omega (arith, size)) (λ i row other e f t. same (suc i) row other e f (subst (λ k. (nat_lt k bucket || is_claimed claims members k) ≡ true) (omega arith) t)) in
        let first : ◌≡◌ {A = ℕ} (if counts_for claims members node bucket at r then 1 else 0) (if counts_for claims members node bucket at s then 1 else 0) =
        by (nat_lt at bucket || is_claimed claims members at) refl (λ t. same 0 r s refl refl (subst (λ k. (nat_lt k bucket || is_claimed claims members k) ≡ true) (omega arith) t)) in
        λ i. first i + rest i
      where
        by : (t : Bool) → (nat_lt at bucket || is_claimed claims members at) ≡ t → ((nat_lt at bucket || is_claimed claims members at) ≡ true → r ≡ s)
            → ◌≡◌ {A = ℕ} (if counts_for claims members node bucket at r then 1 else 0) (if counts_for claims members node bucket at s then 1 else 0)
        by true e h = ap (λ (row : MapRow). if counts_for claims members node bucket at row then 1 else 0) (h e)
        by false e h = none r ∙ sym (none s)
          where
            none : (row : MapRow) → ◌≡◌ {A = ℕ} (if counts_for claims members node bucket at row then 1 else 0) 0
            none row = ap (λ t. if nat_eq row.manager node && t then 1 else 0) e ∙ off (nat_eq row.manager node)
              where
                off : (t : Bool) → ◌≡◌ {A = ℕ} (if t && false then 1 else 0) 0
                off true = refl
                off false = refl

    size : length a ≡ length b
    size = x.size ∙ sym y.size

    -- where all lower buckets agree, loads do
    load_same : (bucket : ℕ) → ((i : ℕ) (row other : MapRow) → i < bucket → slice_get a i ≡ Some row → slice_get b i ≡ Some other → row ≡ other) → (node : ℕ) → load claims members a bucket node ≡ load claims members b bucket node
    load_same bucket lower node = count_same node bucket 0 a b size
        (λ i row other e f t. by i row other e f (nat_lt (0 + i) bucket) refl t)
      where
        by : (i : ℕ) (row other : MapRow) → slice_get a i ≡ Some row → slice_get b i ≡ Some other → (t : Bool) → nat_lt (0 + i) bucket ≡ t → (nat_lt (0 + i) bucket || is_claimed claims members (0 + i)) ≡ true → row ≡ other
        by i row other e f true h t = lower i row other (omega (arith, ltb-true (0 + i) bucket h)) e f
        by i row other e f false h t =
            let at : is_claimed claims members (0 + i) ≡ true = sym (ap (λ z. z || is_claimed claims members (0 + i)) h) ∙ t in
            let c = claimed (0 + i) at in
            same_claimed i c.0 (subst (λ k. Counts claims members k c.0) (omega arith) c.1) row other e f

    row_same : (bucket : ℕ) → ((i : ℕ) (row other : MapRow) → i < bucket → slice_get a i ≡ Some row → slice_get b i ≡ Some other → row ≡ other)
        → (row other : MapRow) → slice_get a bucket ≡ Some row → slice_get b bucket ≡ Some other → row ≡ other
    row_same bucket lower row other e f = by (x.each bucket row e) (y.each bucket other f)
      where
        by : ClaimedRow claims members bucket row ⊎ FreeRow claims members epoch a bucket row → ClaimedRow claims members bucket other ⊎ FreeRow claims members epoch b bucket other → row ≡ other
        by (inl p) (inl q) = one_best bucket row other p q
        by (inl p) (inr q) = absurd (q.unclaimed p.claim p.best.counts)
        by (inr p) (inl q) = absurd (p.unclaimed q.claim q.best.counts)
        by (inr p) (inr q) =
            let there : load claims members a bucket row.manager ≡ load claims members b bucket row.manager = load_same bucket lower row.manager in
            let here : load claims members a bucket other.manager ≡ load claims members b bucket other.manager = load_same bucket lower other.manager in
            let least : load claims members a bucket other.manager ≡ load claims members a bucket row.manager =
            omega (arith, there, here, p.least.fewest other.manager q.least.of_member, q.least.fewest row.manager p.least.of_member) in
            let first = p.least.lowest other.manager q.least.of_member least in
            let second = q.least.lowest row.manager p.least.of_member (omega (arith, there, here, least)) in
            let node : row.manager ≡ other.manager = omega (arith, first, second) in
            λ i. record { manager = node i; since = (p.new ∙ sym q.new) i }

    all_same : (most bucket : ℕ) → bucket < most → (row other : MapRow) → slice_get a bucket ≡ Some row → slice_get b bucket ≡ Some other → row ≡ other
    all_same zero bucket lt row other e f = absurd (omega (arith, lt))
    all_same (suc most) bucket lt row other e f = row_same bucket (λ i r o below g h. all_same most i (omega (arith, below, lt)) r o g h) row other e f

-- lists with the same rows are the same
same_rows : (a b : List MapRow) → length a ≡ length b → ((i : ℕ) (row other : MapRow) → slice_get a i ≡ Some row → slice_get b i ≡ Some other → row ≡ other) → a ≡ b
same_rows [] [] size same = refl
same_rows [] (s ∷ b) size same = absurd (omega (arith, size))
same_rows (r ∷ a) [] size same = absurd (omega (arith, size))
same_rows (r ∷ a) (s ∷ b) size same =
    let first : r ≡ s = same 0 r s refl refl in
    let rest : a ≡ b = same_rows a b (omega (arith, size)) (λ i row other e f. same (suc i) row other e f) in
    λ i. first i ∷ rest i

pub one_map : (claims : List Claim) (members : List Member) (buckets : ℕ) (epoch : EpochId) (a b : List MapRow) → IsAssigned claims members buckets epoch a → IsAssigned claims members buckets epoch b → a ≡ b
one_map claims members buckets epoch a b x y = same_rows a b (x.size ∙ sym y.size) (λ i row other e f. all_same claims members buckets epoch a b x y (suc i) i (omega arith) row other e f)
