-- How a pass goes on after a turn.
use Rattle.std.proofs.Common.{ℕ, ◌++◌, Some, refl, sym, ap, ◌∙◌}
use Rattle.std.proofs.lemmas.List.{append_cancel_left}
use Rattle.std.specs.Prelude.{Option, Result}
use Rattle.io_edge.specs.declared.fate.Luck.{Luck}
use Rattle.call_tickets.specs.Tells.{TellsMore}
use Rattle.cluster_world.specs.Worlds.{book_of}
use Rattle.node_store.specs.Disks.{View}
use Rattle.call_tickets.specs.declared.desk.Posted.{Posted}
use Rattle.call_tickets.specs.declared.desk.DeskFault.{DeskFault}
use Rattle.call_tickets.specs.declared.desk.Life.{Life}
use Rattle.cluster_world.specs.declared.fault.StepFault.{StepFault}
use Rattle.desk_model.specs.Added.{AreQuiet}
use Rattle.desk_model.specs.Tallies.{no_counts}
use Rattle.desk_model.proofs.Knowing.{quiet_knows}
use Rattle.solo_desk.specs.Serving.{AddsTo}
use Rattle.shard_board.specs.declared.part.Part.{Part}
use Rattle.shard_board.specs.declared.board.Board.{Board}
use Rattle.shard_board.specs.declared.board.BoardPass.{BoardPass}
use Rattle.shard_board.specs.declared.order.Order.{Order}
use Rattle.shard_board.specs.declared.order.Told.{Told}
use Rattle.shard_board.specs.Boards.{IsPassOf, IsTurnOf, own_entries}
use Rattle.shard_board.specs.Worlds.{IsSoundWorld}
use Rattle.shard_board.specs.Orders.{ordered_by, Obeys}
use Rattle.shard_board.specs.Posts.{PostsOne}
use Rattle.shard_board.proofs.Paged.{pass_tells}
use Rattle.shard_board.specs.Reads.{TellsLife}
use Rattle.board_desk.proofs.Posted.{posts_add}
use Rattle.board_desk.proofs.Sound.{same_world_adds}
use Rattle.board_service.specs.Disks.{EachTells}
use Rattle.board_service.specs.Visits.{IsStill}
use Rattle.board_service.specs.Passes.{GoesStill}
use Rattle.board_service.proofs.Still.{still_same, still_both, still_known, none_fell}
use Rattle.board_service.proofs.Ordered.{orders_add}

module _ {D F C : Type 0} (on : View D) (board : Board D F C) where
  module _ {A : Type 0} (did : Part D F C → A → Part D F C → Type 0) (before after : BoardPass D F C) (answer : A) (t : IsTurnOf on did board before after answer) where
    own_still : AddsTo AreQuiet t.old.world t.new.world → IsStill (Some (own_entries before)) (Some (own_entries after))
    own_still adds =
        let grew : TellsMore (Some (own_entries before)) adds.added (Some (own_entries after)) =
        ap Some (t.own_is ∙ ap (λ l. own_entries before ++ l) (append_cancel_left (book_of t.old.world) t.added adds.added (sym t.grows ∙ adds.book))) in
        still_known (Some (own_entries before)) (Some (own_entries after)) no_counts no_counts
        (quiet_knows (Some (own_entries before)) (Some (own_entries after)) adds.added grew no_counts no_counts adds.is none_fell)

    -- where each disk tells, the pass tells, and so the turn found a sound world
    turn_goes : IsPassOf on board after → (EachTells on.seen → IsSoundWorld on t.old.world → AddsTo AreQuiet t.old.world t.new.world) → GoesStill on board before after
    turn_goes belongs adds = record {
      stays = record { belongs = belongs; quota_is = t.quota_is; joined_is = t.joined_is };
      still = λ each. own_still (adds each (t.told (pass_tells on.seen after each).0).old_sound);
    }

  -- after an order
  pub order_goes : (ordered : Order) (before after : BoardPass D F C) (came : Result Told StepFault) → IsPassOf on board after
      → IsTurnOf on (Obeys on (ordered_by ordered)) board before after came → GoesStill on board before after
  order_goes ordered before after came belongs t =
      turn_goes (Obeys on (ordered_by ordered)) before after came t belongs (λ each sound. orders_add on each ordered t.old came t.new sound t.work)

  -- after a letter
  pub post_goes : (decides : F → ℕ → Luck → F → Type 0) (before after : BoardPass D F C) (posted : Result Posted DeskFault) → IsPassOf on board after
      → IsTurnOf on (PostsOne on decides) board before after posted → GoesStill on board before after
  post_goes decides before after posted belongs t =
      turn_goes (PostsOne on decides) before after posted t belongs (λ each sound. posts_add on decides t.old posted t.new sound t.work)

  -- after a question how a node is
  pub look_goes : (node : ℕ) (before after : BoardPass D F C) (life : Option Life) → IsPassOf on board after
      → IsTurnOf on (TellsLife node) board before after life → GoesStill on board before after
  look_goes node before after life belongs t =
      turn_goes (TellsLife node) before after life t belongs (λ each sound. same_world_adds t.old.world t.new.world (ap (λ (p : Part D F C). p.world) t.work.same))

  -- a pass that was lent to nobody
  pub same_goes : (pass : BoardPass D F C) → IsPassOf on board pass → GoesStill on board pass pass
  same_goes pass belongs = record { stays = record { belongs = belongs; quota_is = refl; joined_is = refl }; still = λ each. still_same (Some (own_entries pass)) }

  pub goes_both : (a b c : BoardPass D F C) → GoesStill on board a b → GoesStill on board b c → GoesStill on board a c
  goes_both a b c p q = record {
    stays = record {
      belongs = q.stays.belongs;
      quota_is = q.stays.quota_is ∙ p.stays.quota_is;
      joined_is = q.stays.joined_is ∙ p.stays.joined_is;
    };
    still = λ each. still_both (Some (own_entries a)) (Some (own_entries b)) (Some (own_entries c)) (p.still each) (q.still each);
  }
