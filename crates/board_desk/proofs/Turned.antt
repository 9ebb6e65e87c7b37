-- What a pass knows after a turn, of which it is known what it adds to the book of a sound world, and after it was counted.
use Rattle.std.proofs.Common.{◌≡◌, Bool, true, false, true≢false, cond, List, ◌++◌, Option, Some, None, refl, sym, ap, ◌∙◌, subst}
use Rattle.std.specs.Prelude.{Result, IfNone}
use Rattle.std.proofs.lemmas.List.{append_cancel_left}
use Rattle.io_edge.specs.Causes.{Rose}
use Rattle.mail_model.specs.Book.{BookEntry}
use Rattle.mail_base.specs.declared.filing.Begun.{Begun}
use Rattle.session_model.specs.Calls as model
use Rattle.call_tickets.specs.Tells.{TellsMore}
use Rattle.call_tickets.specs.Passes.{known_to, IsQuiet, NoneFell}
use Rattle.call_tickets.specs.Begins.{DeskBegins, DeskLeaves}
use Rattle.call_tickets.specs.Asks.{DeskAsks, OnlyRefuses}
use Rattle.call_tickets.specs.declared.answer.Ask.{Ask}
use Rattle.call_tickets.specs.declared.desk.DeskFault.{DeskFault}
use Rattle.call_tickets.specs.declared.desk.DeskTicket.{DeskTicket}
use Rattle.call_tickets.specs.declared.desk.Life.{Life}
use Rattle.call_tickets.specs.declared.tally.Tally.{Tally}
use Rattle.node_store.specs.Disks.{View}
use Rattle.cluster_world.specs.Worlds.{book_of}
use Rattle.desk_model.specs.Added.{AreQuiet}
use Rattle.desk_model.specs.Entries.{BeginsWith, AsksWith}
use Rattle.desk_model.specs.Tallies.{IsNeverDown, RefusalCounts, AskCounts, LeaveCounts}
use Rattle.desk_model.specs.Growing.{GrowsBy, BeginsInKind, AnswersInKind}
use Rattle.desk_model.proofs.Growing.{quiet_grown, begins_grown, asks_grown, leaves_grown, refuses_grown}
use Rattle.solo_desk.specs.Serving.{AddsTo}
use Rattle.board_desk.proofs.Sound.{same_world_adds}
use Rattle.shard_board.specs.declared.part.Part.{Part}
use Rattle.shard_board.specs.declared.board.Board.{Board}
use Rattle.shard_board.specs.declared.board.BoardPass.{BoardPass}
use Rattle.shard_board.specs.Boards.{own_entries, tells_still, made_known, IsPassOf, IsTurnOf}
use Rattle.shard_board.specs.Worlds.{IsSoundWorld}
use Rattle.board_desk.specs.Desks.{told_entries, IsDeskPass}

module _ {D F C A : Type 0} (on : View D) (did : Part D F C → A → Part D F C → Type 0) (board : Board D F C) (before after : BoardPass D F C) (answer : A)
    (t : IsTurnOf on did board before after answer) (tally : Tally) where
  -- the pass, once its counts are these
  abbrev counted_pass : BoardPass D F C
  counted_pass = record { lower = after.lower; tally = tally }

  pub still_desk : (pattern : BoardPass D F C) → made_known on.seen after ≡ made_known on.seen before → IsDeskPass on board pattern before → IsPassOf on board after → IsDeskPass on board pattern counted_pass
  still_desk pattern still was belongs = record { belongs = belongs; quota_is = t.quota_is ∙ was.quota_is; joined_is = t.joined_is ∙ was.joined_is; made_is = still ∙ was.made_is }

  own_grew : (P : List BookEntry → Type 0) (adds : AddsTo P t.old.world t.new.world) → TellsMore (Some (own_entries before)) adds.added (Some (own_entries after))
  own_grew P adds = ap Some (t.own_is ∙ ap (λ l. own_entries before ++ l) (append_cancel_left (book_of t.old.world) t.added adds.added (sym t.grows ∙ adds.book)))

  -- Where the pass tells still, the turn found a sound world, and what it added is known.
  grows : (P : List BookEntry → Type 0) → (IsSoundWorld on t.old.world → AddsTo P t.old.world t.new.world) → GrowsBy P (told_entries on.seen before) (told_entries on.seen after)
  grows P adds = by (tells_still on.seen before) (tells_still on.seen after) (λ tells. ((t.told tells).told, (t.told tells).old_sound))
    where
      by : (told tells : Bool) → (tells ≡ true → (told ≡ true) × IsSoundWorld on t.old.world) → GrowsBy P (cond told (Some (own_entries before)) None) (cond tells (Some (own_entries after)) None)
      by told false so = tt
      by true true so = let a = adds (so refl).1 in record { added = a.added; grew = own_grew P a; is = a.is }
      by false true so = absurd (true≢false (sym (so refl).0))

  -- the counts before it are those before the turn
  fell_from : NoneFell after.tally tally → NoneFell before.tally tally
  fell_from fell = subst (λ (x : Tally). NoneFell x tally) t.tally_is fell

  pub begins_turned : (asked : model.Call) (result : Result DeskTicket DeskFault) → BeginsInKind asked result → (IsSoundWorld on t.old.world → AddsTo (BeginsWith asked result) t.old.world t.new.world)
      → NoneFell after.tally tally → RefusalCounts result after.tally tally
      → DeskBegins asked result (known_to (told_entries on.seen before) before.tally) (known_to (told_entries on.seen after) tally)
  begins_turned asked result kind adds fell rose = begins_grown before.tally tally asked result (told_entries on.seen before) (told_entries on.seen after) kind (grows (BeginsWith asked result) adds)
      (fell_from fell) (subst (λ (x : Tally). RefusalCounts result x tally) t.tally_is rose)

  pub leaves_turned : (result : Result (Unit {0}) DeskFault) → (IsSoundWorld on t.old.world → AddsTo AreQuiet t.old.world t.new.world) → LeaveCounts result after.tally tally
      → DeskLeaves result (known_to (told_entries on.seen before) before.tally) (known_to (told_entries on.seen after) tally)
  leaves_turned result adds counted = leaves_grown before.tally tally result (told_entries on.seen before) (told_entries on.seen after) (grows AreQuiet adds)
      (subst (λ (x : Tally). LeaveCounts result x tally) t.tally_is counted)

  pub asks_turned : (begun : Begun) (result : Result Ask DeskFault) → AnswersInKind begun result → (IsSoundWorld on t.old.world → AddsTo (AsksWith begun result) t.old.world t.new.world)
      → NoneFell after.tally tally → AskCounts result after.tally tally
      → DeskAsks begun result (known_to (told_entries on.seen before) before.tally) (known_to (told_entries on.seen after) tally)
  asks_turned begun result kind adds fell rose = asks_grown before.tally tally begun result (told_entries on.seen before) (told_entries on.seen after) kind (grows (AsksWith begun result) adds)
      (fell_from fell) (subst (λ (x : Tally). AskCounts result x tally) t.tally_is rose)

  pub refuses_turned : {B : Type 0} (result : Result B DeskFault) → IsNeverDown result → (IsSoundWorld on t.old.world → AddsTo AreQuiet t.old.world t.new.world) → NoneFell after.tally tally
      → RefusalCounts result after.tally tally → OnlyRefuses result (known_to (told_entries on.seen before) before.tally) (known_to (told_entries on.seen after) tally)
  refuses_turned result never adds fell rose = refuses_grown before.tally tally result (told_entries on.seen before) (told_entries on.seen after) never (grows AreQuiet adds)
      (fell_from fell) (subst (λ (x : Tally). RefusalCounts result x tally) t.tally_is rose)

  -- a look at the world
  pub looks_turned : t.new ≡ t.old → NoneFell after.tally tally → IsQuiet (known_to (told_entries on.seen before) before.tally) (known_to (told_entries on.seen after) tally)
  looks_turned same fell = quiet_grown before.tally tally (told_entries on.seen before) (told_entries on.seen after)
      (grows AreQuiet (λ sound. same_world_adds t.old.world t.new.world (ap (λ (p : Part D F C). p.world) same))) (fell_from fell)

  pub down_turned : (life : Option Life) → IfNone life (Rose (after.tally).down tally.down) → IfNone life (Rose (before.tally).down tally.down)
  down_turned life rose = subst (λ (x : Tally). IfNone life (Rose x.down tally.down)) t.tally_is rose
