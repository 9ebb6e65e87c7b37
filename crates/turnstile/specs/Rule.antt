-- The rule of the table, and what each step tells.
-- Word 0 is the next ticket, word 1 the ticket that is served, and word 2 the length of the history. The words behind these are bells, of which nothing is asked. The slot has the value.
use Rattle.std.specs.Prelude.{◌≡◌, ◌≢◌, ◌⊎◌, ℕ, ◌+◌, ◌-◌, ◌%◌, ◌^◌, ◌<◌, ◌≤◌, List, [], ◌∷◌, ◌++◌, map, length, drop, Some, None, IfSome}
use mathlib.Core.Option.{some, none}
use lib.ListN.{get_elem?}
use Rattle.atomic_table.specs.Table.{State, Me, Step}
use Rattle.turnstile.specs.declared.views.View.{View}
use Rattle.turnstile.specs.declared.views.Key.{Key}
use Rattle.turnstile.specs.Shares.{written_by, AreShares}
use Rattle.turnstile.specs.Lists.{weight, longer, IsPrefix, IsSubsequence, AreSubsequences}

abbrev Sat : Type 0 → Type 0 → Type 0
Sat V E = Me V (View V E)

module _ {V E : Type 0} where
  -- what the own entries of a view weigh, with those of the passes that it took in
  abbrev pub owned_weight : (E → ℕ) → View V E → ℕ
  owned_weight h v = weight h v.own + weight (weight h) v.joined

  -- the seat has drawn the ticket t
  abbrev pub HasDrawn : Step V → Sat V E → ℕ → Sat V E → Type 0
  HasDrawn st m n m' = (m'.1 ≡ m.1) × ((t : ℕ) × (m'.0 ≡ record m.0 { waits = 1; ticket = t }) × (t % 2 ^ 64 ≡ n))

  -- the view after a turn that made the history ys
  abbrev pub extended_view : View V E → List E → View V E
  extended_view v ys = record v { seen = ys; own = v.own ++ drop (length v.seen) ys }

  -- the seat has served the next ticket
  abbrev pub HasLeft : Step V → Sat V E → ℕ → Sat V E → Type 0
  HasLeft st m n m' = m' ≡ (record m.0 { waits = 0; inside = 0 }, [])

  -- the seat has rung a bell
  abbrev pub HasRung : Step V → Sat V E → ℕ → Sat V E → Type 0
  HasRung st m n m' = m' ≡ m

  -- a view that hands the quota q on, and the view that is handed on
  abbrev pub lessened_view : ℕ → View V E → View V E
  lessened_view q v = record v { quota = v.quota - q }

  abbrev pub handed_view : ℕ → View V E → View V E
  handed_view q v = record { waits = 0; inside = 0; ticket = 0; quota = q; seen = v.seen; own = []; joined = []; first_value = v.first_value }

  -- a view that takes in another, and what is left of the other
  abbrev pub joined_view : View V E → View V E → View V E
  joined_view v w = record v { seen = longer v.seen w.seen; joined = v.joined ++ w.own ∷ w.joined; quota = v.quota + w.quota }

  abbrev pub spent_view : View V E
  spent_view = record { waits = 0; inside = 0; ticket = 0; quota = 0; seen = []; own = []; joined = []; first_value = None }

  -- the history is shared out among the views: `names` has a view's author, and then those of each pass that it took in
  pub record IsSharedOut (opening entries : List E) (views : List (View V E)) : Type 0 where
    pub authors : List ℕ
    pub one_each : length authors ≡ length entries
    pub opening_is : written_by 0 authors entries ≡ opening
    pub made : ℕ
    pub known : (p a : ℕ) → get_elem? authors p ≡ some a → a < made
    pub names : ℕ → List ℕ
    pub lists : (i : ℕ) (v : View V E) → get_elem? views i ≡ some v → 0 < v.quota → map (λ k. written_by k authors entries) (names i) ≡ v.own ∷ v.joined
    pub apart : (i j p q k : ℕ) → get_elem? (names i) p ≡ some k → get_elem? (names j) q ≡ some k → (i ≡ j) × (p ≡ q)
    pub named : (i p k : ℕ) → get_elem? (names i) p ≡ some k → (0 < k) × (k < made)
    pub begun : 0 < made

  module _ (history : V → List E) where
    -- what holds of one view, where the history is `entries`
    pub record ViewFits (first_value : V) (entries : List E) (served next : ℕ) (v : View V E) : Type 0 where
      pub seen : IsPrefix v.seen entries
      pub own : IsSubsequence v.own v.seen
      pub joined : AreSubsequences v.joined v.seen
      pub quota : v.waits ≤ v.quota
      pub first_value_is : 0 < v.quota → v.first_value ≡ Some first_value
      pub spent : v.quota ≡ 0 → (v.own ≡ []) × (v.joined ≡ [])
      pub ticket : 0 < v.waits → (served ≤ v.ticket) × (v.ticket < next)
      pub slot : 0 < v.inside → (0 < v.waits) × (v.ticket ≡ served) × (v.seen ≡ entries)

    -- the view of the first pass
    abbrev pub first_view : Key V → View V E
    first_view key = record { waits = 0; inside = 0; ticket = 0; quota = key.passes; seen = history key.first_value.value; own = []; joined = []; first_value = Some key.first_value.value }

    -- the value x in hand has the history that was counted; own entries stand in what is seen
    abbrev pub HasAdded : Step V → Sat V E → ℕ → Sat V E → Type 0
    HasAdded st m n m' = (m'.1 ≡ m.1) × ((x : V) → m.1 ≡ (0, x) ∷ [] → m'.0 ≡ extended_view m.0 (history x)) × IsSubsequence m'.0.own m'.0.seen × AreSubsequences m'.0.joined m'.0.seen

  module _ (history : V → List E) (keeps : V → V → Type 0) where
    -- the value is at home, and no seat is inside
    abbrev pub Home : V → List E → State V (View V E) → Type 0
    Home first_value entries s = (x : V) × (s.homes ≡ some x ∷ []) × (history x ≡ entries) × keeps first_value x × ((i : ℕ) (v : View V E) → get_elem? s.views i ≡ some v → ¬ (0 < v.inside))

    -- the value is out with a seat that is inside
    abbrev pub Away : State V (View V E) → Type 0
    Away s = (s.homes ≡ none ∷ []) × (i : ℕ) × (v : View V E) × (get_elem? s.views i ≡ some v) × (0 < v.inside)

    -- the words, the value and all views agree: `entries` is the history, and the numbers here do not wrap
    pub record TableIsSound (key : Key V) (s : State V (View V E)) : Type 0 where
      pub entries : List E
      pub begun : IsPrefix (history key.first_value.value) entries
      pub next : ℕ
      pub served : ℕ
      pub bells : List ℕ
      pub words : s.words ≡ next % 2 ^ 64 ∷ served % 2 ^ 64 ∷ length entries ∷ bells
      pub out : weight (λ (v : View V E). v.waits) s.views + served ≡ next
      pub quotas : weight (λ (v : View V E). v.quota) s.views ≡ key.passes
      pub few : key.passes < 2 ^ 32
      pub each : (i : ℕ) (v : View V E) → get_elem? s.views i ≡ some v → ViewFits history key.first_value.value entries served next v
      pub apart : (i j : ℕ) (v w : View V E) → get_elem? s.views i ≡ some v → get_elem? s.views j ≡ some w → 0 < v.waits → 0 < w.waits → v.ticket ≡ w.ticket → i ≡ j
      pub slot : Home key.first_value.value entries s ⊎ Away s
      pub whole : (h : E → ℕ) → weight h entries ≡ weight h (history key.first_value.value) + weight (owned_weight h) s.views
      pub shared : IsSharedOut (history key.first_value.value) entries s.views

    -- the seat is inside, with the value x in hand
    abbrev pub HasEntered : Sat V E → V → Sat V E → Type 0
    HasEntered m x m' = (m' ≡ (record m.0 { inside = 1; seen = history x }, (0, x) ∷ [])) × IsPrefix m.0.seen (history x) × IfSome m.0.first_value (λ o. keeps o x)

    -- its ticket was served, and it has the slot; or it was not
    abbrev pub HasLooked : Step V → Sat V E → ℕ → Sat V E → Type 0
    HasLooked st m n m' = (n ≡ m.0.ticket % 2 ^ 64 → (x : V) × HasEntered m x m') × (n ≢ m.0.ticket % 2 ^ 64 → m' ≡ m)

    -- the value at the end, for the view that has the whole quota
    pub record GivesBack (first_value : V) (v : View V E) (y : V) : Type 0 where
      pub same : keeps first_value y
      pub begun : IsPrefix (history first_value) (history y)
      pub seen : IsPrefix v.seen (history y)
      pub own : IsSubsequence v.own (history y)
      pub joined : AreSubsequences v.joined (history y)
      pub whole : (h : E → ℕ) → weight h (history y) ≡ weight h (history first_value) + owned_weight h v
      pub shares : AreShares (history first_value) (v.own ∷ v.joined) (history y)
