-- What the single calls of a board say of their turn.
use Rattle.std.proofs.Common.{◌≡◌, ℕ, Bool, true, ◌&&◌, zero, suc, ◌<◌, List, [], ◌∷◌, ◌++◌, append-nil, length, slice_get, Option, refl, sym, ap, ◌∙◌, subst, arith}
use Rattle.std.specs.Prelude.{Result, Ok, Err, IfOk}
use Rattle.std.proofs.lemmas.List.{append_cancel_left}
use Rattle.mail_model.specs.Book.{BookEntry}
use Rattle.mail_model.specs.Plan.{Plan}
use Rattle.node_store.specs.Disks.{View}
use Rattle.cluster_world.specs.Worlds.{plan_of, book_of}
use Rattle.cluster_world.specs.declared.step.Step.{Step}
use Rattle.cluster_world.specs.declared.step.Said.{Said}
use Rattle.cluster_world.specs.declared.fault.StepFault.{StepFault}
use Rattle.cluster_world.specs.declared.sum.BookSum.{BookSum}
use Rattle.world_book.specs.declared.entry.Entry.{Entry}
use Rattle.cluster_world.specs.declared.regrouping.Regroup.{Regroup}
use Rattle.cluster_world.specs.declared.settling.Settle.{Settle}
use Rattle.shard_board.specs.declared.order.Told.{Told}
use Rattle.shard_board.specs.declared.order.Told.TheVariants as told
use Rattle.shard_board.specs.declared.part.Part.{Part}
use Rattle.shard_board.specs.declared.board.Board.{Board}
use Rattle.shard_board.specs.declared.board.BoardPass.{BoardPass}
use Rattle.shard_board.specs.Boards.{plan_of_board, own_entries, seen_book, made_known, IsTurnOf}
use Rattle.shard_board.specs.Deeds.{MakesOne, Regroups, Settles, is_blind}
use Rattle.shard_board.specs.Pages.{are_known}
use Rattle.shard_board.specs.Parts.{pages_of, AddsKnown}
use Rattle.shard_board.proofs.Paged.{none_added}
use Rattle.shard_board.specs.Entries.{entry_shown}
use Rattle.shard_board.specs.Orders.{Ordered, is_blind_order, Obeys, TellsOf, TellsOfRegroup, TellsOfSettle}
use Rattle.shard_board.specs.Orders.Ordered.{OneStep, Regrouped, Settled, Mapped, Counted}
use Rattle.shard_board.specs.Posts.{step_by}
use Rattle.shard_board.specs.Reads.{TellsMap, TellsSum, TellsEntry}
use Rattle.io_edge.specs.declared.fate.Luck.{Luck}
use Rattle.io_edge.specs.declared.fate.Luck.TheVariants as luck

-- what stands in front is found there
in_front : (xs ys : List BookEntry) (n : ℕ) → n < length xs → slice_get (xs ++ ys) n ≡ slice_get xs n
in_front [] ys n below = absurd (omega (arith, below))
in_front (x ∷ xs) ys zero below = refl
in_front (x ∷ xs) ys (suc n) below = in_front xs ys n (omega (arith, below))

-- a step that is ordered is blind where its order is
pub order_still : {X : Type 0} (nodes : ℕ) (order : Ordered) (one : Step) → order ≡ OneStep one → (is_blind nodes one ≡ true → X) → is_blind_order nodes order ≡ true → X
order_still nodes order one same still blind = still (ap (is_blind_order nodes) (sym same) ∙ blind)

-- what becomes of a letter is blind
pub luck_blind : (nodes : ℕ) (lucky : Luck) (letter : ℕ) → is_blind nodes (step_by lucky letter) ≡ true
luck_blind nodes luck.Carry letter = refl
luck_blind nodes luck.Drop letter = refl
luck_blind nodes luck.Twice letter = refl

module _ {D F C : Type 0} (on : View D) where
  -- the same turn, of which something else is said
  pub said_else : {A B : Type 0} (did : Part D F C → A → Part D F C → Type 0) (other : Part D F C → B → Part D F C → Type 0) (board : Board D F C) (before after : BoardPass D F C) (answer : A) (result : B)
      → ((old new : Part D F C) → did old answer new → other old result new) → IsTurnOf on did board before after answer → IsTurnOf on other board before after result
  said_else did other board before after answer result so t = record {
    old = t.old;
    new = t.new;
    added = t.added;
    work = so t.old t.new t.work;
    later = t.later;
    grows = t.grows;
    plans = t.plans;
    ready = t.ready;
    told = t.told;
    pages = t.pages;
    paged = t.paged;
    made_is = t.made_is;
    seen_is = t.seen_is;
    own_is = t.own_is;
    joined_is = t.joined_is;
    quota_is = t.quota_is;
    tally_is = t.tally_is;
  }

  -- a turn whose pages are known leaves as it was whether what the pass made is known
  module _ {A : Type 0} (did : Part D F C → A → Part D F C → Type 0) (board : Board D F C) (before after : BoardPass D F C) (answer : A) (t : IsTurnOf on did board before after answer) where
    pub made_still : AddsKnown on.seen t.old t.new → made_known on.seen after ≡ made_known on.seen before
    made_still (added, is, known) =
        let same : t.pages ≡ added = append_cancel_left (pages_of t.old) t.pages added (sym t.paged ∙ is) in
        t.made_is ∙ ap (λ b. b && made_known on.seen before) (ap (are_known on.seen) same ∙ known)

    pub same_still : t.new ≡ t.old → made_known on.seen after ≡ made_known on.seen before
    same_still same = made_still (none_added on t.old t.new same)

  -- a deed that is blind
  pub deed_still : {A : Type 0} (did : Part D F C → A → Part D F C → Type 0) (blind : ℕ → Bool) (board : Board D F C) (before after : BoardPass D F C) (answer : A)
      → (t : IsTurnOf on (λ old out new. did old out new × (blind (plan_of old.world).nodes ≡ true → AddsKnown on.seen old new)) board before after answer) → blind (plan_of_board board).nodes ≡ true
      → made_known on.seen after ≡ made_known on.seen before
  deed_still did blind board before after answer t so =
      made_still (λ old out new. did old out new × (blind (plan_of old.world).nodes ≡ true → AddsKnown on.seen old new)) board before after answer t
      (t.work.1 (ap (λ (p : Plan). blind p.nodes) t.plans.0 ∙ so))

  told_so : (order : Ordered) (one : Step) → order ≡ OneStep one → (said : Result Said StepFault) (result : Result Told StepFault) → TellsOf said result
      → (old new : Part D F C) → MakesOne on said one old.world new.world → Obeys on order old result new
  told_so order one same (Ok said) result e old new made = subst (λ o. Obeys on o old result new) (sym same) (subst (λ (r : Result Told StepFault). Obeys on (OneStep one) old r new) (sym e) made)
  told_so order one same (Err why) result e old new made = subst (λ o. Obeys on o old result new) (sym same) (subst (λ (r : Result Told StepFault). Obeys on (OneStep one) old r new) (sym e) made)

  -- the step that was ordered was made
  pub obeyed : (order : Ordered) (one : Step) (board : Board D F C) (before after : BoardPass D F C) (said : Result Said StepFault) (result : Result Told StepFault) → order ≡ OneStep one → TellsOf said result
      → IsTurnOf on (λ old s new. MakesOne on s one old.world new.world) board before after said → IsTurnOf on (Obeys on order) board before after result
  obeyed order one board before after said result same tells t = said_else (λ old s new. MakesOne on s one old.world new.world) (Obeys on order) board before after said result
      (λ old new made. told_so order one same said result tells old new made) t

  regroup_told : (order : Ordered) (node : ℕ) → order ≡ Regrouped node → (came : Result Regroup StepFault) (result : Result Told StepFault) → TellsOfRegroup came result
      → (old new : Part D F C) → Regroups on node came old.world new.world → Obeys on order old result new
  regroup_told order node same (Ok came) result e old new made = subst (λ o. Obeys on o old result new) (sym same) (subst (λ (r : Result Told StepFault). Obeys on (Regrouped node) old r new) (sym e) made)
  regroup_told order node same (Err why) result e old new made = subst (λ o. Obeys on o old result new) (sym same) (subst (λ (r : Result Told StepFault). Obeys on (Regrouped node) old r new) (sym e) made)

  -- the regroup that was ordered was made
  pub regrouped : (order : Ordered) (node : ℕ) (board : Board D F C) (before after : BoardPass D F C) (came : Result Regroup StepFault) (result : Result Told StepFault) → order ≡ Regrouped node
      → TellsOfRegroup came result → IsTurnOf on (λ old c new. Regroups on node c old.world new.world) board before after came → IsTurnOf on (Obeys on order) board before after result
  regrouped order node board before after came result same tells t = said_else (λ old c new. Regroups on node c old.world new.world) (Obeys on order) board before after came result
      (λ old new made. regroup_told order node same came result tells old new made) t

  settle_told : (order : Ordered) → order ≡ Settled → (came : Result Settle StepFault) (result : Result Told StepFault) → TellsOfSettle came result
      → (old new : Part D F C) → Settles on came old.world new.world → Obeys on order old result new
  settle_told order same (Ok came) result e old new made = subst (λ o. Obeys on o old result new) (sym same) (subst (λ (r : Result Told StepFault). Obeys on Settled old r new) (sym e) made)
  settle_told order same (Err why) result e old new made = subst (λ o. Obeys on o old result new) (sym same) (subst (λ (r : Result Told StepFault). Obeys on Settled old r new) (sym e) made)

  -- the settle that was ordered was made
  pub settled : (order : Ordered) (board : Board D F C) (before after : BoardPass D F C) (came : Result Settle StepFault) (result : Result Told StepFault) → order ≡ Settled
      → TellsOfSettle came result → IsTurnOf on (λ old c new. Settles on c old.world new.world) board before after came → IsTurnOf on (Obeys on order) board before after result
  settled order board before after came result same tells t = said_else (λ old c new. Settles on c old.world new.world) (Obeys on order) board before after came result
      (λ old new made. settle_told order same came result tells old new made) t

  -- a map was told
  pub mapped : (order : Ordered) (user : List ℕ) (board : Board D F C) (before after : BoardPass D F C) (map : Option (ℕ × ℕ)) → order ≡ Mapped user
      → IsTurnOf on (TellsMap user) board before after map → IsTurnOf on (Obeys on order) board before after (Ok (told.Mapped map))
  mapped order user board before after map same t = said_else (TellsMap user) (Obeys on order) board before after map (Ok (told.Mapped map))
      (λ old new tells. subst (λ (o : Ordered). Obeys on o old (Ok (told.Mapped map)) new) (sym same) (tells.map_is, ap (λ (p : Part D F C). p.world) tells.same)) t

  -- the entries were counted
  pub counted : (order : Ordered) (board : Board D F C) (before after : BoardPass D F C) (sum : BookSum) → order ≡ Counted
      → IsTurnOf on TellsSum board before after sum → IsTurnOf on (Obeys on order) board before after (Ok (told.Sum sum))
  counted order board before after sum same t = said_else TellsSum (Obeys on order) board before after sum (Ok (told.Sum sum))
      (λ old new tells. subst (λ (o : Ordered). Obeys on o old (Ok (told.Sum sum)) new) (sym same) (tells.sum_is, ap (λ (p : Part D F C). p.world) tells.same)) t

  -- an entry was read
  module _ {E : Type 0} (place : ℕ) (board : Board D F C) (before after : BoardPass D F C) (result : Result (Option Entry) E) (t : IsTurnOf on (TellsEntry place) board before after result) where
    pub reads_own : own_entries after ≡ own_entries before
    reads_own =
        let same : book_of t.new.world ≡ book_of t.old.world = ap (λ (p : Part D F C). book_of p.world) t.work.same in
        let none : t.added ≡ [] = append_cancel_left (book_of t.old.world) t.added [] (sym t.grows ∙ same ∙ sym (append-nil (book_of t.old.world))) in
        t.own_is ∙ ap (λ l. own_entries before ++ l) none ∙ append-nil (own_entries before)

    shown_so : (r : Result (Option Entry) E) → place < length (seen_book board before) → IfOk r (λ found. entry_shown found ≡ slice_get (book_of t.old.world) place)
        → IfOk r (λ found. entry_shown found ≡ slice_get (seen_book board before) place)
    shown_so (Ok found) below is = is ∙ ap (λ b. slice_get b place) t.later.1 ∙ in_front (seen_book board before) t.later.0 place below
    shown_so (Err why) below is = tt

    pub reads_seen : place < length (seen_book board before) → IfOk result (λ found. entry_shown found ≡ slice_get (seen_book board before) place)
    reads_seen below = shown_so result below t.work.entry_is
