-- Buckets that nobody claims go to the member with the fewest so far.
use Rattle.std.proofs.Common.{◌≡◌, ◌⊎◌, inl, inr, ⊎_elim, ℕ, zero, suc, ◌+◌, ◌<◌, ◌≤◌, Bool, true, false, ◌&&◌, ◌||◌, nat_eq, nat_lt, List, [], ◌∷◌, ◌++◌, length, length-append, append_assoc, Option, Some, None, fold, get_or, refl, sym, ap, ◌∙◌, subst, true≢false, arith, if◌then◌else◌}
use Rattle.std.specs.Prelude.{slice_get}
use Rattle.std.proofs.lemmas.Bool.{eqb-true, ltb-true, ltb-false, lt-ltb}
use Rattle.mail_model.specs.Identity.{EpochId}
use Rattle.object_model.specs.Letters.{Claim, MapRow, Member}
use Rattle.maps_model.specs.Assign.{IsOfMembers, is_claimed, count_rows, load, ClaimedRow, FreeRow}
use Rattle.user_map.specs.Plain.{raised, with_cell, claimed_loads, is_less, lesser, first_member, least, row_at, loads_after, placed}
use Rattle.user_map.proofs.Best.{CellFor, not_same}

abbrev pub one_if : Bool → ℕ
one_if t = if t then 1 else 0

-- a node has no more buckets than another, or as many and a number that is not greater
abbrev pub NotAbove : (ℕ → ℕ) → ℕ → ℕ → Type 0
NotAbove loads a b = (loads a < loads b) ⊎ ((loads a ≡ loads b) × (a ≤ b))

above_itself : (loads : ℕ → ℕ) (a : ℕ) → NotAbove loads a a
above_itself loads a = inr (refl, omega arith)

above_on : (loads : ℕ → ℕ) (a b c : ℕ) → NotAbove loads a b → NotAbove loads b c → NotAbove loads a c
above_on loads a b c (inl h) (inl k) = inl (omega (arith, h, k))
above_on loads a b c (inl h) (inr k) = inl (omega (arith, h, k.0))
above_on loads a b c (inr h) (inl k) = inl (omega (arith, h.0, k))
above_on loads a b c (inr h) (inr k) = inr (h.0 ∙ k.0, omega (arith, h.1, k.1))

less_or_not : (loads : ℕ → ℕ) (a b : ℕ) → ((is_less loads a b ≡ true) × NotAbove loads a b) ⊎ ((is_less loads a b ≡ false) × NotAbove loads b a)
less_or_not loads a b = by (nat_lt (loads a) (loads b)) (nat_eq (loads a) (loads b)) (nat_lt a b) refl refl refl
  where
    by : (p q r : Bool) → nat_lt (loads a) (loads b) ≡ p → nat_eq (loads a) (loads b) ≡ q → nat_lt a b ≡ r
        → (((p || (q && r)) ≡ true) × NotAbove loads a b) ⊎ (((p || (q && r)) ≡ false) × NotAbove loads b a)
    by true q r x y z = inl (refl, inl (ltb-true (loads a) (loads b) x))
    by false true true x y z = inl (refl, inr (eqb-true (loads a) (loads b) y, omega (arith, ltb-true a b z)))
    by false true false x y z = inr (refl, inr (sym (eqb-true (loads a) (loads b) y), ltb-false a b z))
    by false false r x y z = inr (refl, inl (omega (arith, ltb-false (loads a) (loads b) x, not_same (loads a) (loads b) y)))

lesser_is : (loads : ℕ → ℕ) (node : ℕ) (member : Member) → NotAbove loads (lesser loads node member) node × NotAbove loads (lesser loads node member) member.node
    × ((lesser loads node member ≡ node) ⊎ (lesser loads node member ≡ member.node))
lesser_is loads node member = ⊎_elim
    (λ p. subst (λ (t : Bool). NotAbove loads (if t then member.node else node) node × NotAbove loads (if t then member.node else node) member.node × (((if t then member.node else node) ≡ node) ⊎ ((if t then member.node else node) ≡ member.node)))
    (sym p.0) (p.1, above_itself loads member.node, inr refl))
    (λ p. subst (λ (t : Bool). NotAbove loads (if t then member.node else node) node × NotAbove loads (if t then member.node else node) member.node × (((if t then member.node else node) ≡ node) ⊎ ((if t then member.node else node) ≡ member.node)))
    (sym p.0) (above_itself loads node, p.1, inl refl))
    (less_or_not loads member.node node)

least_of : (loads : ℕ → ℕ) (members : List Member) (node : ℕ) → NotAbove loads (fold (lesser loads) node members) node
    × ((other : ℕ) → IsOfMembers members other → NotAbove loads (fold (lesser loads) node members) other)
    × ((fold (lesser loads) node members ≡ node) ⊎ IsOfMembers members (fold (lesser loads) node members))
least_of loads [] node = (above_itself loads node, λ other i. absurd i.inside, inl refl)
least_of loads (member ∷ members) node =
    let first = lesser_is loads node member in
    let rest = least_of loads members (lesser loads node member) in (
      above_on loads (fold (lesser loads) (lesser loads node member) members) (lesser loads node member) node rest.0 first.0,
      λ other i. ⊎_elim
          (λ same. above_on loads (fold (lesser loads) (lesser loads node member) members) (lesser loads node member) other rest.0 (subst (λ (n : ℕ). NotAbove loads (lesser loads node member) n) (ap (λ (m : Member). m.node) same ∙ i.is) first.1))
          (λ there. rest.1 other (record { member = i.member; inside = there; is = i.is }))
          i.inside,
      ⊎_elim
          (λ same. ⊎_elim (λ e. inl (same ∙ e)) (λ e. inr (record { member = member; inside = inl refl; is = sym (same ∙ e) })) first.2)
          (λ i. inr (record { member = i.member; inside = inr i.inside; is = i.is }))
          rest.2,
    )

pub least_in : (loads : ℕ → ℕ) (members : List Member) → 0 < length members → IsOfMembers members (least loads members)
least_in loads [] some = absurd (omega (arith, some))
least_in loads (member ∷ members) some = ⊎_elim
    (λ same. record { member = member; inside = inl refl; is = sym same })
    (λ i. i)
    (least_of loads (member ∷ members) member.node).2

pub least_low : (loads : ℕ → ℕ) (members : List Member) (other : ℕ) → IsOfMembers members other → NotAbove loads (least loads members) other
least_low loads members other i = (least_of loads members (first_member members)).1 other i

-- how many rows a node has, and how many cells
abbrev pub rows_of : ℕ → List MapRow → ℕ
rows_of node [] = 0
rows_of node (row ∷ rows) = one_if (nat_eq row.manager node) + rows_of node rows

abbrev pub cells_of : ℕ → List (Option MapRow) → ℕ
cells_of node [] = 0
cells_of node (Some row ∷ cells) = one_if (nat_eq row.manager node) + cells_of node cells
cells_of node (None ∷ cells) = cells_of node cells

raised_is : (loads : ℕ → ℕ) (node n : ℕ) → raised loads node n ≡ loads n + one_if (nat_eq node n)
raised_is loads node n = by (nat_eq node n)
  where
    by : (t : Bool) → ◌≡◌ {A = ℕ} (if t then loads n + 1 else loads n) (loads n + one_if t)
    by true = refl
    by false = omega arith

loads_fold : (cells : List (Option MapRow)) (loads : ℕ → ℕ) (n : ℕ) → fold with_cell loads cells n ≡ loads n + cells_of n cells
loads_fold [] loads n = omega arith
loads_fold (Some row ∷ cells) loads n = let rest = loads_fold cells (raised loads row.manager) n in omega (arith, rest, raised_is loads row.manager n)
loads_fold (None ∷ cells) loads n = loads_fold cells loads n

pub claimed_is : (cells : List (Option MapRow)) (n : ℕ) → claimed_loads cells n ≡ cells_of n cells
claimed_is cells n = let e = loads_fold cells (λ m. 0) n in omega (arith, e)

rows_more : (node : ℕ) (done : List MapRow) (row : MapRow) → rows_of node (done ++ row ∷ []) ≡ rows_of node done + one_if (nat_eq row.manager node)
rows_more node [] row = omega arith
rows_more node (first ∷ done) row = let rest = rows_more node done row in omega (arith, rest)

module _ (claims : List Claim) (members : List Member) (epoch : EpochId) where
  abbrev pub Fit : ℕ → List (Option MapRow) → Type 0
  Fit at cells = (i : ℕ) → i < length cells → CellFor claims members (at + i) (get_or cells i None)

  fit_rest : (at : ℕ) (cell : Option MapRow) (cells : List (Option MapRow)) → Fit at (cell ∷ cells) → Fit (suc at) cells
  fit_rest at cell cells fit i lt = let e : at + suc i ≡ suc at + i = omega arith in subst (λ (b : ℕ). CellFor claims members b (get_or cells i None)) e (fit (suc i) (omega (arith, lt)))

  fit_first : (at : ℕ) (cell : Option MapRow) (cells : List (Option MapRow)) → Fit at (cell ∷ cells) → CellFor claims members at cell
  fit_first at cell cells fit = let e : at + 0 ≡ at = omega arith in subst (λ (b : ℕ). CellFor claims members b cell) e (fit 0 (omega arith))

  -- rows before the bucket all count
  count_before : (node bucket at : ℕ) (done rest : List MapRow) → at + length done ≡ bucket → count_rows claims members node bucket at (done ++ rest) ≡ rows_of node done + count_rows claims members node bucket bucket rest
  count_before node bucket at [] rest e = let same : at ≡ bucket = omega (arith, e) in ap (λ (k : ℕ). count_rows claims members node bucket k rest) same ∙ omega arith
  count_before node bucket at (row ∷ done) rest e =
      let below : nat_lt at bucket ≡ true = lt-ltb at bucket (omega (arith, e)) in
      let first : one_if (nat_eq row.manager node && (nat_lt at bucket || is_claimed claims members at)) ≡ one_if (nat_eq row.manager node) =
      ap (λ (t : Bool). one_if (nat_eq row.manager node && (t || is_claimed claims members at))) below ∙ by (nat_eq row.manager node) in
      let more = count_before node bucket (suc at) done rest (omega (arith, e)) in
      omega (arith, first, more)
    where
      by : (t : Bool) → one_if (t && true) ≡ one_if t
      by true = refl
      by false = refl

  -- of those from the bucket on only the claimed ones do
  count_after : (node bucket at : ℕ) (cells : List (Option MapRow)) (loads : ℕ → ℕ) → bucket ≤ at → Fit at cells → count_rows claims members node bucket at (placed epoch members loads cells) ≡ cells_of node cells
  count_after node bucket at [] loads le fit = refl
  count_after node bucket at (Some row ∷ cells) loads le fit =
      let first : one_if (nat_eq row.manager node && (nat_lt at bucket || is_claimed claims members at)) ≡ one_if (nat_eq row.manager node) =
      by (nat_lt at bucket) (nat_eq row.manager node) (is_claimed claims members at) (fit_first at (Some row) cells fit).0 in
      let more = count_after node bucket (suc at) cells loads (omega (arith, le)) (fit_rest at (Some row) cells fit) in
      omega (arith, first, more)
    where
      by : (b t c : Bool) → c ≡ true → one_if (t && (b || c)) ≡ one_if t
      by b false c e = refl
      by true true c e = refl
      by false true c e = ap one_if e
  count_after node bucket at (None ∷ cells) loads le fit =
      let first : one_if (nat_eq (least loads members) node && (nat_lt at bucket || is_claimed claims members at)) ≡ 0 =
      by (nat_lt at bucket) (nat_eq (least loads members) node) (is_claimed claims members at) (not_below at bucket le) (fit_first at None cells fit).0 in
      let more = count_after node bucket (suc at) cells (raised loads (least loads members)) (omega (arith, le)) (fit_rest at None cells fit) in
      omega (arith, first, more)
    where
      by : (b t c : Bool) → b ≡ false → c ≡ false → one_if (t && (b || c)) ≡ 0
      by b false c d e = refl
      by true true c d e = absurd (true≢false d)
      by false true c d e = ap one_if e

      not_below : (a b : ℕ) → b ≤ a → nat_lt a b ≡ false
      not_below a b le = test (nat_lt a b) refl
        where
          test : (t : Bool) → nat_lt a b ≡ t → t ≡ false
          test false e = refl
          test true e = absurd (omega (arith, le, ltb-true a b e))

  module _ (some : 0 < length members) (full : List MapRow) where
    -- what is known where some cells are still to be placed
    pub record Halfway (done : List MapRow) (cells : List (Option MapRow)) (loads : ℕ → ℕ) : Type 0 where
      pub is : full ≡ done ++ placed epoch members loads cells
      pub fit : Fit (length done) cells
      pub counted : (n : ℕ) → loads n ≡ rows_of n done + cells_of n cells

    load_is : (done : List MapRow) (cells : List (Option MapRow)) (loads : ℕ → ℕ) → Halfway done cells loads → (n : ℕ) → load claims members full (length done) n ≡ loads n
    load_is done cells loads h n =
        ap (λ (rows : List MapRow). count_rows claims members n (length done) 0 rows) h.is
        ∙ count_before n (length done) 0 done (placed epoch members loads cells) (omega arith)
        ∙ ap (λ (k : ℕ). rows_of n done + k) (count_after n (length done) (length done) cells loads (omega arith) h.fit)
        ∙ sym (h.counted n)

    next : (done : List MapRow) (cell : Option MapRow) (cells : List (Option MapRow)) (loads : ℕ → ℕ) → Halfway done (cell ∷ cells) loads → Halfway (done ++ row_at epoch members loads cell ∷ []) cells (loads_after members loads cell)
    next done cell cells loads h =
        let size : length (done ++ row_at epoch members loads cell ∷ []) ≡ suc (length done) = length-append done (row_at epoch members loads cell ∷ []) ∙ omega arith in
        record {
          is = h.is ∙ sym (append_assoc done (row_at epoch members loads cell ∷ []) (placed epoch members (loads_after members loads cell) cells));
          fit = subst (λ (k : ℕ). Fit k cells) (sym size) (fit_rest (length done) cell cells h.fit);
          counted = λ n. by cell n (rows_more n done (row_at epoch members loads cell)) (h.counted n);
        }
      where
        by : (cell : Option MapRow) (n : ℕ) → rows_of n (done ++ row_at epoch members loads cell ∷ []) ≡ rows_of n done + one_if (nat_eq (row_at epoch members loads cell).manager n)
            → loads n ≡ rows_of n done + cells_of n (cell ∷ cells)
            → loads_after members loads cell n ≡ rows_of n (done ++ row_at epoch members loads cell ∷ []) + cells_of n cells
        by (Some row) n more counted = omega (arith, more, counted)
        by None n more counted = omega (arith, more, counted, raised_is loads (least loads members) n)

    abbrev pub IsPlaced : ℕ → MapRow → Type 0
    IsPlaced bucket row = ClaimedRow claims members bucket row ⊎ FreeRow claims members epoch full bucket row

    first_row : (done : List MapRow) (cell : Option MapRow) (cells : List (Option MapRow)) (loads : ℕ → ℕ) → Halfway done (cell ∷ cells) loads → IsPlaced (length done) (row_at epoch members loads cell)
    first_row done (Some row) cells loads h = inl (fit_first (length done) (Some row) cells h.fit).1
    first_row done None cells loads h =
        let same = load_is done (None ∷ cells) loads h in
        inr (record {
          unclaimed = (fit_first (length done) None cells h.fit).1;
          least = record {
            of_member = least_in loads members some;
            fewest = λ other i. ⊎_elim
                (λ k. omega (arith, k, same other, same (least loads members)))
                (λ k. omega (arith, k.0, same other, same (least loads members)))
                (least_low loads members other i);
            lowest = λ other i e. ⊎_elim
                (λ k. absurd (omega (arith, k, e, same other, same (least loads members))))
                (λ k. k.1)
                (least_low loads members other i);
          };
          new = refl;
        })

    pub each_row : (cells : List (Option MapRow)) (done : List MapRow) (loads : ℕ → ℕ) → Halfway done cells loads → (i : ℕ) (row : MapRow) → slice_get (placed epoch members loads cells) i ≡ Some row → IsPlaced (length done + i) row
    each_row [] done loads h i row e = cc
    each_row (cell ∷ cells) done loads h zero row e =
        let same : row_at epoch members loads cell ≡ row = cc in
        let at : length done ≡ length done + 0 = omega arith in
        subst (λ (b : ℕ). IsPlaced b row) at (subst (λ (r : MapRow). IsPlaced (length done) r) same (first_row done cell cells loads h))
    each_row (cell ∷ cells) done loads h (suc i) row e =
        let size : length (done ++ row_at epoch members loads cell ∷ []) ≡ suc (length done) = length-append done (row_at epoch members loads cell ∷ []) ∙ omega arith in
        let at : length (done ++ row_at epoch members loads cell ∷ []) + i ≡ length done + suc i = omega (arith, size) in
        subst (λ (b : ℕ). IsPlaced b row) at (each_row cells (done ++ row_at epoch members loads cell ∷ []) (loads_after members loads cell) (next done cell cells loads h) i row e)

pub placed_size : (epoch : EpochId) (members : List Member) (cells : List (Option MapRow)) (loads : ℕ → ℕ) → length (placed epoch members loads cells) ≡ length cells
placed_size epoch members [] loads = refl
placed_size epoch members (cell ∷ cells) loads = ap suc (placed_size epoch members cells (loads_after members loads cell))

-- loads grow by one at most
pub counted_more : (loads : ℕ → ℕ) (cell : Option MapRow) (n : ℕ) → with_cell loads cell n ≤ loads n + 1
counted_more loads None n = omega arith
counted_more loads (Some row) n = by (nat_eq row.manager n) (raised_is loads row.manager n)
  where
    by : (t : Bool) → raised loads row.manager n ≡ loads n + one_if t → raised loads row.manager n ≤ loads n + 1
    by true e = omega (arith, e)
    by false e = omega (arith, e)

pub placed_more : (members : List Member) (loads : ℕ → ℕ) (cell : Option MapRow) (n : ℕ) → loads_after members loads cell n ≤ loads n + 1
placed_more members loads None n = by (nat_eq (least loads members) n) (raised_is loads (least loads members) n)
  where
    by : (t : Bool) → raised loads (least loads members) n ≡ loads n + one_if t → raised loads (least loads members) n ≤ loads n + 1
    by true e = omega (arith, e)
    by false e = omega (arith, e)
placed_more members loads (Some row) n = omega arith
