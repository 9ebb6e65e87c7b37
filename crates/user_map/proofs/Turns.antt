-- What is left of a list one turn on.
use Rattle.std.proofs.Common.{◌≡◌, ℕ, ◌+◌, ◌<◌, List, [], ◌∷◌, ◌++◌, length, drop, fold, slice_index_or, Option, ap, sym, ◌∙◌, append_assoc}
use Rattle.std.proofs.lemmas.List.{drop_more}
use Rattle.mail_model.specs.Identity.{EpochId}
use Rattle.object_model.specs.Letters.{MapRow, Member}
use Rattle.user_map.specs.Plain.{with_cell, row_at, loads_after, placed}

pub left_is : {X : Type 0} (xs : List X) (i : ℕ) (x : X) → i < length xs → x ≡ slice_index_or xs i x → drop i xs ≡ x ∷ drop (i + 1) xs
left_is xs i x lt is = drop_more xs i x lt ∙ ap (λ y. y ∷ drop (i + 1) xs) (sym is)

pub counted_next : (cells : List (Option MapRow)) (i : ℕ) (cell : Option MapRow) (loads next all : ℕ → ℕ) → drop i cells ≡ cell ∷ drop (i + 1) cells → next ≡ with_cell loads cell
    → fold with_cell loads (drop i cells) ≡ all → fold with_cell next (drop (i + 1) cells) ≡ all
counted_next cells i cell loads next all left is so = ap (λ f. fold with_cell f (drop (i + 1) cells)) is ∙ ap (fold with_cell loads) (sym left) ∙ so

pub placed_next : (epoch : EpochId) (members : List Member) (cells : List (Option MapRow)) (i : ℕ) (cell : Option MapRow) (row : MapRow) (rows more all : List MapRow) (loads next : ℕ → ℕ)
    → drop i cells ≡ cell ∷ drop (i + 1) cells → next ≡ loads_after members loads cell → row ≡ row_at epoch members loads cell → more ≡ rows ++ row ∷ []
    → rows ++ placed epoch members loads (drop i cells) ≡ all → more ++ placed epoch members next (drop (i + 1) cells) ≡ all
placed_next epoch members cells i cell row rows more all loads next left is at pushed so =
    ap (λ (r : List MapRow). r ++ placed epoch members next (drop (i + 1) cells)) pushed
    ∙ append_assoc rows (row ∷ []) (placed epoch members next (drop (i + 1) cells))
    ∙ ap (λ (r : MapRow). rows ++ r ∷ placed epoch members next (drop (i + 1) cells)) at
    ∙ ap (λ (f : ℕ → ℕ). rows ++ row_at epoch members loads cell ∷ placed epoch members f (drop (i + 1) cells)) is
    ∙ ap (λ (c : List (Option MapRow)). rows ++ placed epoch members loads c) (sym left)
    ∙ so
