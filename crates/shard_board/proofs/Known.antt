-- A part that has one page more.
use Rattle.std.proofs.Common.{◌≡◌, ℕ, true, List, [], ◌∷◌, ◌++◌, Option, sym, ap, ◌∙◌}
use Rattle.std.proofs.lemmas.Bool.{and_parts}
use Rattle.std.proofs.lemmas.List.Folds.{list_all-append}
use Rattle.node_store.specs.Disks.{View}
use Rattle.cluster_world.specs.Worlds.{plan_of, CanMakeSteps}
use Rattle.shard_board.specs.Worlds.{IsSoundWorld}
use Rattle.shard_board.specs.Pages.{is_known, are_known}
use Rattle.shard_board.specs.Parts.{KeepsPart, pages_of, opening_of}
use Rattle.shard_board.specs.declared.page.Page.{Page}
use Rattle.shard_board.specs.declared.part.Part.{Part}

-- the last of pages that are known is known
last_known : {D : Type 0} (seen : D → Option (List ℕ)) (pages : List (Page D)) (page : Page D) → are_known seen (pages ++ page ∷ []) ≡ true → is_known seen page ≡ true
last_known seen pages page known =
    let both = and_parts (are_known seen pages) (are_known seen (page ∷ [])) (sym (list_all-append (λ p. is_known seen p) pages (page ∷ [])) ∙ known) in
    (and_parts (is_known seen page) (are_known seen []) both.1).0

module _ {D F C : Type 0} (on : View D) (old new : Part D F C) (page : Page D) where
  -- what stays of a part over a deed that has a page
  pub page_keeps : pages_of new ≡ pages_of old ++ page ∷ [] → opening_of new ≡ opening_of old → plan_of new.world ≡ plan_of old.world → CanMakeSteps on.seen new.world
      → (is_known on.seen page ≡ true → IsSoundWorld on old.world → IsSoundWorld on new.world) → KeepsPart on old new
  page_keeps pages opening plan ready sound = record {
    plan = plan;
    ready = λ r. ready;
    opening = opening;
    grows = (page ∷ [], pages);
    sound = λ known s. sound (last_known on.seen (pages_of old) page (ap (are_known on.seen) (sym pages) ∙ known)) s;
  }
