-- What callers say of a board and its passes, and what one turn at it does.
use Rattle.std.specs.Prelude.{◌≡◌, ℕ, ◌+◌, Bool, true, ◌&&◌, List, [], ◌∷◌, ◌++◌, length, map, cond, nat_le, Option, is_some}
use Rattle.std.specs.List.{list_all}
use Rattle.mail_model.specs.Plan.{Plan}
use Rattle.mail_model.specs.Book.{BookEntry}
use Rattle.node_store.specs.Disks.{View}
use Rattle.cluster_world.specs.Worlds.{plan_of, book_of, CanMakeSteps}
use Rattle.cluster_world.specs.declared.world.World.{World}
use Rattle.shard_board.specs.Worlds.{IsSoundWorld}
use Rattle.desk_model.specs.Tallies.{no_counts}
use Rattle.turnstile.specs.Lists.{IsPrefix}
use Rattle.turnstile.specs.Shares.{AreShares}
use Rattle.turnstile.specs.Passes as below
use Rattle.shard_board.specs.declared.page.Page.{Page}
use Rattle.shard_board.specs.declared.part.Part.{Part}
use Rattle.shard_board.specs.declared.board.Board.{Board}
use Rattle.shard_board.specs.declared.board.BoardPass.{BoardPass}
use Rattle.shard_board.specs.Pages.{all_on, are_known}
use Rattle.shard_board.specs.Parts.{pages_of, opening_of}
use Rattle.shard_board.specs.Tallies.{counts_of_both}

module _ {D F C : Type 0} where
  abbrev pub first_part : Board D F C → Part D F C
  first_part board = below.first_value board.turnstile

  -- the world as the board was made
  abbrev pub first_world : Board D F C → World D
  first_world board = (first_part board).world

  abbrev pub plan_of_board : Board D F C → Plan
  plan_of_board board = plan_of (first_world board)

  -- what its book had then
  abbrev pub opening_book : Board D F C → List BookEntry
  opening_book board = book_of (first_world board)

  -- the quota of all passes
  abbrev pub passes_of : Board D F C → ℕ
  passes_of board = below.passes board.turnstile

  abbrev pub quota_of : BoardPass D F C → ℕ
  quota_of pass = below.quota pass.lower

  -- how many steps of the board the pass has seen
  abbrev pub steps_seen : BoardPass D F C → ℕ
  steps_seen pass = length (below.seen_by pass.lower)

  -- the book as the pass saw it last
  abbrev pub seen_book : Board D F C → BoardPass D F C → List BookEntry
  seen_book board pass = opening_of (first_part board) ++ all_on (below.seen_by pass.lower)

  -- the entries that its own turns added
  abbrev pub own_entries : BoardPass D F C → List BookEntry
  own_entries pass = all_on (below.own_entries pass.lower)

  -- those of each pass that it took in
  abbrev pub joined_entries : BoardPass D F C → List (List BookEntry)
  joined_entries pass = map all_on (below.joined_entries pass.lower)

  -- Whether a pass tells still: each page that it has seen is known. Once it has seen another, it never tells again.
  abbrev pub tells_still : (D → Option (List ℕ)) → BoardPass D F C → Bool
  tells_still seen pass = are_known seen (below.seen_by pass.lower)

  -- whether each page is known that its own turns made, or those of a pass that it took in
  abbrev pub made_known : (D → Option (List ℕ)) → BoardPass D F C → Bool
  made_known seen pass = are_known seen (below.own_entries pass.lower) && list_all (λ pages. are_known seen pages) (below.joined_entries pass.lower)

  -- it is a pass of this board, whose world was sound as it was made, and which had no pages then
  abbrev pub IsPassOf : View D → Board D F C → BoardPass D F C → Type 0
  IsPassOf on board pass = below.IsPassOf board.turnstile pass.lower × IsSoundWorld on (first_world board) × (pages_of (first_part board) ≡ [])

  -- what `new` gives
  pub record IsNewBoard (on : View D) (world : World D) (passes : ℕ) (board : Board D F C) (pass : BoardPass D F C) : Type 0 where
    pub belongs : IsPassOf on board pass
    pub world_is : first_world board ≡ world
    pub passes_is : (passes_of board ≡ passes) × (quota_of pass ≡ passes)
    pub seen_is : seen_book board pass ≡ book_of world
    pub own_is : own_entries pass ≡ []
    pub joined_is : joined_entries pass ≡ []
    pub known : (tells_still on.seen pass ≡ true) × (made_known on.seen pass ≡ true)
    pub tally_is : pass.tally ≡ no_counts

  -- a pass that tells still after a turn told before it, and the worlds that the turn found and left are sound
  pub record HasTold (on : View D) (old new : World D) (before : BoardPass D F C) : Type 0 where
    pub told : tells_still on.seen before ≡ true
    pub old_sound : IsSoundWorld on old
    pub new_sound : IsSoundWorld on new

  -- One turn: it found `old`, whose book begins with all that the pass had seen, and left `new`, whose book is that of `old` and what was added. The pass has then seen all of
  -- it, and what was added is its own. Both worlds can make steps. What the pass made is known where it was, and each page of the turn is.
  pub record IsTurnOf {A : Type 0} (on : View D) (did : Part D F C → A → Part D F C → Type 0) (board : Board D F C) (before after : BoardPass D F C) (answer : A) : Type 0 where
    pub old : Part D F C
    pub new : Part D F C
    pub added : List BookEntry
    pub work : did old answer new
    pub later : IsPrefix (seen_book board before) (book_of old.world)
    pub grows : book_of new.world ≡ book_of old.world ++ added
    pub plans : (plan_of old.world ≡ plan_of_board board) × (plan_of new.world ≡ plan_of_board board)
    pub ready : CanMakeSteps on.seen old.world × CanMakeSteps on.seen new.world
    pub told : tells_still on.seen after ≡ true → HasTold on old.world new.world before
    pub pages : List (Page D)
    pub paged : pages_of new ≡ pages_of old ++ pages
    pub made_is : made_known on.seen after ≡ (are_known on.seen pages && made_known on.seen before)
    pub seen_is : seen_book board after ≡ book_of new.world
    pub own_is : own_entries after ≡ own_entries before ++ added
    pub joined_is : joined_entries after ≡ joined_entries before
    pub quota_is : quota_of after ≡ quota_of before
    pub tally_is : after.tally ≡ before.tally

  -- a pass handed a part of its quota on to a new one, which has seen as much, and has no entries and no counts
  pub record IsSplitOf (board : Board D F C) (part : ℕ) (before after new : BoardPass D F C) : Type 0 where
    pub quotas : (quota_of after + part ≡ quota_of before) × (quota_of new ≡ part)
    pub seen_is : (seen_book board after ≡ seen_book board before) × (seen_book board new ≡ seen_book board before)
    pub own_is : (own_entries after ≡ own_entries before) × (own_entries new ≡ [])
    pub joined_is : (joined_entries after ≡ joined_entries before) × (joined_entries new ≡ [])
    pub tells_is : (seen : D → Option (List ℕ)) → (tells_still seen after ≡ tells_still seen before) × (tells_still seen new ≡ tells_still seen before)
    pub made_is : (seen : D → Option (List ℕ)) → (made_known seen after ≡ made_known seen before) × (made_known seen new ≡ true)
    pub tallies : (after.tally ≡ before.tally) × (new.tally ≡ no_counts)

  -- A pass took in another, with its quota, its entries and its counts. It has seen what the one saw that had seen more steps.
  pub record TakesInPass (board : Board D F C) (before other after : BoardPass D F C) : Type 0 where
    pub quota_is : quota_of after ≡ quota_of before + quota_of other
    pub seen_is : seen_book board after ≡ cond (nat_le (steps_seen before) (steps_seen other)) (seen_book board other) (seen_book board before)
    pub own_is : own_entries after ≡ own_entries before
    pub joined_is : joined_entries after ≡ joined_entries before ++ own_entries other ∷ joined_entries other
    pub tells_is : (seen : D → Option (List ℕ)) → tells_still seen after ≡ cond (nat_le (steps_seen before) (steps_seen other)) (tells_still seen other) (tells_still seen before)
    pub made_is : (seen : D → Option (List ℕ)) → made_known seen after ≡ (made_known seen before && made_known seen other)
    pub tally_is : after.tally ≡ counts_of_both before.tally other.tally

  -- What `close` gives to the pass that has the whole quota: its book begins with what the pass had seen, and is shared out among the opening, the pass and each pass that was
  -- joined. Each entry is one's alone. Where all that the pass and these made is known, the pass tells still, and the world is sound.
  pub record ClosesWith (on : View D) (board : Board D F C) (pass : BoardPass D F C) (world : World D) : Type 0 where
    pub plan : plan_of world ≡ plan_of_board board
    pub ready : CanMakeSteps on.seen world
    pub told : made_known on.seen pass ≡ true → tells_still on.seen pass ≡ true
    pub sound : made_known on.seen pass ≡ true → IsSoundWorld on world
    pub seen : IsPrefix (seen_book board pass) (book_of world)
    pub shares : AreShares (opening_book board) (own_entries pass ∷ joined_entries pass) (book_of world)

  -- Where each disk tells what it holds, each pass tells still, and all that it made is known.
  abbrev pub PassTells : (D → Option (List ℕ)) → BoardPass D F C → Type 0
  PassTells seen pass = ((disk : D) → is_some (seen disk) ≡ true) → (tells_still seen pass ≡ true) × (made_known seen pass ≡ true)
