-- What callers say of a turnstile and its passes, and what a turn says.
use Rattle.std.specs.Prelude.{◌≡◌, ℕ, ◌+◌, ◌%◌, ◌^◌, ◌<◌, List, [], ◌∷◌, ◌++◌, length, Some}
use Rattle.atomic_table.specs.declared.shared.Seat.{Seat}
use Rattle.turnstile.specs.declared.views.View.{View}
use Rattle.turnstile.specs.declared.lock.Turnstile.{Turnstile}
use Rattle.turnstile.specs.declared.lock.Pass.{Pass}
use Rattle.turnstile.specs.Rule.{extended_view, GivesBack}
use Rattle.turnstile.specs.Lists.{IsPrefix, longer, IsSubsequence, AreSubsequences}

module _ {V E : Type 0} where
  -- the value as the turnstile was made
  abbrev pub first_value : Turnstile V E → V
  first_value t = t.table.shared.key.first_value.value

  -- the quota of all passes
  abbrev pub passes : Turnstile V E → ℕ
  passes t = t.table.shared.key.passes

  -- the history as the pass saw it last
  abbrev pub seen_by : Pass V E → List E
  seen_by p = p.seat.me.0.seen

  -- the entries that its turns added
  abbrev pub own_entries : Pass V E → List E
  own_entries p = p.seat.me.0.own

  -- those of each pass that it took in
  abbrev pub joined_entries : Pass V E → List (List E)
  joined_entries p = p.seat.me.0.joined

  abbrev pub quota : Pass V E → ℕ
  quota p = p.seat.me.0.quota

  -- a seat of this turnstile that has a quota
  pub record IsSeatOf (t : Turnstile V E) (seat : Seat V (View V E)) : Type 0 where
    pub table : seat.table_id ≡ t.table.shared.table_id
    pub first_value_is : seat.me.0.first_value ≡ Some (first_value t)
    pub has_quota : 0 < seat.me.0.quota

  -- a seat with no ticket and no slot
  pub record IsIdle (seat : Seat V (View V E)) : Type 0 where
    pub waits : seat.me.0.waits ≡ 0
    pub inside : seat.me.0.inside ≡ 0
    pub empty : seat.me.1 ≡ []

  -- it is a pass of this turnstile. It has no ticket, as each pass between two calls
  abbrev pub IsPassOf : Turnstile V E → Pass V E → Type 0
  IsPassOf t p = IsSeatOf t p.seat × IsIdle p.seat

  -- the seat, whose view was v, has a ticket of this number
  pub record HasTicket (t : Turnstile V E) (v : View V E) (number : ℕ) (seat : Seat V (View V E)) : Type 0 where
    pub table : seat.table_id ≡ t.table.shared.table_id
    pub ticket : ℕ
    pub me : seat.me ≡ (record v { waits = 1; ticket = ticket }, [])
    pub number_is : ticket % 2 ^ 64 ≡ number

  module _ (history : V → List E) (keeps : V → V → Type 0) where
    -- the seat, whose view was v, is inside with the value x in hand
    pub record IsInside (t : Turnstile V E) (v : View V E) (x : V) (seat : Seat V (View V E)) : Type 0 where
      pub table : seat.table_id ≡ t.table.shared.table_id
      pub ticket : ℕ
      pub me : seat.me ≡ (record v { waits = 1; inside = 1; ticket = ticket; seen = history x }, (0, x) ∷ [])
      pub later : IsPrefix v.seen (history x)
      pub same : keeps (first_value t) x

    -- what the work did to the value that the seat has in hand, and how many entries it added
    pub record IsWorked {A : Type 0} (did : V → A → V → Type 0) (before after : Seat V (View V E)) (answer : A) (count : ℕ) : Type 0 where
      pub old : V
      pub new : V
      pub table : after.table_id ≡ before.table_id
      pub had : before.me.1 ≡ (0, old) ∷ []
      pub me : after.me ≡ (before.me.0, (0, new) ∷ [])
      pub work : did old answer new
      pub grows : IsPrefix (history old) (history new)
      pub counted : length (history old) + count ≡ length (history new)
      pub fits : length (history new) < 2 ^ 64
      pub same : keeps old new

    -- the seat is inside with x in hand, whose history has `count` entries more than it has seen
    pub record IsFilled (t : Turnstile V E) (count : ℕ) (x : V) (seat : Seat V (View V E)) : Type 0 where
      pub table : seat.table_id ≡ t.table.shared.table_id
      pub waits : seat.me.0.waits ≡ 1
      pub inside : seat.me.0.inside ≡ 1
      pub hand : seat.me.1 ≡ (0, x) ∷ []
      pub grows : IsPrefix seat.me.0.seen (history x)
      pub counted : length seat.me.0.seen + count ≡ length (history x)
      pub fits : length (history x) < 2 ^ 64
      pub same : keeps (first_value t) x

    -- the seat has counted the value that it had in hand, and has left
    pub record IsOut (before after : Seat V (View V E)) : Type 0 where
      pub new : V
      pub table : after.table_id ≡ before.table_id
      pub had : before.me.1 ≡ (0, new) ∷ []
      pub me : after.me ≡ (record (extended_view before.me.0 (history new)) { waits = 0; inside = 0 }, [])
      pub stand : IsSubsequence after.me.0.own after.me.0.seen × AreSubsequences after.me.0.joined after.me.0.seen

    -- one turn: the work found `old`, whose history begins with all that the pass had seen, and left `new`, whose history is
    -- that of `old` and what was added. The pass has then seen all of it, and what was added is its own.
    pub record IsTurn {A : Type 0} (did : V → A → V → Type 0) (t : Turnstile V E) (before after : Pass V E) (answer : A) : Type 0 where
      pub old : V
      pub new : V
      pub added : List E
      pub work : did old answer new
      pub later : IsPrefix (seen_by before) (history old)
      pub grows : history new ≡ history old ++ added
      pub kept : keeps (first_value t) old × keeps (first_value t) new
      pub seen_is : seen_by after ≡ history new
      pub own_is : own_entries after ≡ own_entries before ++ added
      pub joined_is : joined_entries after ≡ joined_entries before
      pub quota_is : quota after ≡ quota before
      pub stand : IsSubsequence (own_entries after) (seen_by after) × AreSubsequences (joined_entries after) (seen_by after)

    -- what `new` gives
    pub record IsNewTurnstile (value : V) (quota_of_all : ℕ) (t : Turnstile V E) (pass : Pass V E) : Type 0 where
      pub belongs : IsPassOf t pass
      pub first_value_is : first_value t ≡ value
      pub passes_is : passes t ≡ quota_of_all
      pub quota_is : quota pass ≡ quota_of_all
      pub seen_is : seen_by pass ≡ history value
      pub own_is : own_entries pass ≡ []
      pub joined_is : joined_entries pass ≡ []

  -- a pass handed a part of its quota on to a new one, which has seen as much and has no entries
  pub record IsSplit (part : ℕ) (before after new : Pass V E) : Type 0 where
    pub quotas : (quota after + part ≡ quota before) × (quota new ≡ part)
    pub seen_is : (seen_by after ≡ seen_by before) × (seen_by new ≡ seen_by before)
    pub own_is : (own_entries after ≡ own_entries before) × (own_entries new ≡ [])
    pub joined_is : (joined_entries after ≡ joined_entries before) × (joined_entries new ≡ [])

  -- a pass took in another, with its quota and its entries
  pub record TakesIn (before other after : Pass V E) : Type 0 where
    pub quota_is : quota after ≡ quota before + quota other
    pub seen_is : seen_by after ≡ longer (seen_by before) (seen_by other)
    pub own_is : own_entries after ≡ own_entries before
    pub joined_is : joined_entries after ≡ joined_entries before ++ own_entries other ∷ joined_entries other

  module _ (history : V → List E) (keeps : V → V → Type 0) where
    -- what `close` gives to the pass that has the whole quota
    abbrev pub IsClosed : Turnstile V E → Pass V E → V → Type 0
    IsClosed t pass value = GivesBack history keeps (first_value t) pass.seat.me.0 value
