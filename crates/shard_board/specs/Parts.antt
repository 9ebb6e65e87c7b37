-- What is behind the lock of a board, and what stays of it.
use Rattle.std.specs.Prelude.{◌≡◌, true, ℕ, Option, List, [], ◌++◌}
use Rattle.std.proofs.Common.{refl, sym, ◌∙◌, ap, append-nil, append_assoc}
use Rattle.std.proofs.lemmas.List.Folds.{list_all-append}
use Rattle.std.proofs.lemmas.Bool.{and_parts}
use Rattle.mail_model.specs.Book.{BookEntry}
use Rattle.node_store.specs.Disks.{View}
use Rattle.cluster_world.specs.Books.{booked_by}
use Rattle.cluster_world.specs.Worlds.{plan_of, CanMakeSteps}
use Rattle.turnstile.specs.Lists.{IsPrefix}
use Rattle.shard_board.specs.Worlds.{IsSoundWorld}
use Rattle.shard_board.specs.Pages.{is_known, are_known}
use Rattle.shard_board.specs.declared.page.Page.{Page}
use Rattle.shard_board.specs.declared.part.Part.{Part}

-- pages that begin with others have these among them
pub front_known : {D : Type 0} (seen : D → Option (List ℕ)) (xs ys : List (Page D)) → IsPrefix xs ys → are_known seen ys ≡ true → are_known seen xs ≡ true
front_known seen xs ys (rest, is) known =
    (and_parts (are_known seen xs) (are_known seen rest) (sym (list_all-append (λ page. is_known seen page) xs rest) ∙ ap (are_known seen) (sym is) ∙ known)).0

module _ {D F C : Type 0} where
  -- a page for each deed
  abbrev pub pages_of : Part D F C → List (Page D)
  pages_of part = part.pages.items

  -- what the book had as the board was made
  abbrev pub opening_of : Part D F C → List BookEntry
  opening_of part = booked_by part.opening.value

  -- What stays of it: the plan, that the world can make steps, and what the book had at first. Pages only come behind. Where all pages are known, a sound world stays sound.
  pub record KeepsPart (on : View D) (old new : Part D F C) : Type 0 where
    pub plan : plan_of new.world ≡ plan_of old.world
    pub ready : CanMakeSteps on.seen old.world → CanMakeSteps on.seen new.world
    pub opening : opening_of new ≡ opening_of old
    pub grows : IsPrefix (pages_of old) (pages_of new)
    pub sound : are_known on.seen (pages_of new) ≡ true → IsSoundWorld on old.world → IsSoundWorld on new.world

  pub stays : (on : View D) (x : Part D F C) → KeepsPart on x x
  stays on x = record { plan = refl; ready = λ r. r; opening = refl; grows = ([], sym (append-nil (pages_of x))); sound = λ known s. s }

  pub chains : (on : View D) (x y z : Part D F C) → KeepsPart on x y → KeepsPart on y z → KeepsPart on x z
  chains on x y z a b = record {
    plan = b.plan ∙ a.plan;
    ready = λ r. b.ready (a.ready r);
    opening = b.opening ∙ a.opening;
    grows = (a.grows.0 ++ b.grows.0, b.grows.1 ∙ ap (λ pages. pages ++ b.grows.0) a.grows.1 ∙ append_assoc (pages_of x) a.grows.0 b.grows.0);
    sound = λ known s. b.sound known (a.sound (front_known on.seen (pages_of y) (pages_of z) b.grows known) s);
  }

  -- The pages that came behind those of the old part are known.
  abbrev pub AddsKnown : (D → Option (List ℕ)) → Part D F C → Part D F C → Type 0
  AddsKnown seen old new = (added : List (Page D)) × (pages_of new ≡ pages_of old ++ added) × (are_known seen added ≡ true)
