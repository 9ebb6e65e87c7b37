-- Words one after another.
use Rattle.std.proofs.Common.{false, ◌≡◌, ◌≤◌, ◌<◌, ◌+◌, ℕ, ◌||◌, List, [], ◌∷◌, length, map, drop, get_or, String, Global, string_bytes, None, refl, arith}
use Rattle.std.proofs.lemmas.List.{drop_more}
use Rattle.std.specs.Prelude.{slice_get}
use Rattle.command_words.specs.Forms.{begins_with_dash, has_option, form_of, form_at, task_of}

pub option_next : (ws : List (String Global)) (i : ℕ) (d : String Global) → i < length ws
    → has_option (map string_bytes (drop i ws)) ≡ begins_with_dash (string_bytes (get_or ws i d)) || has_option (map string_bytes (drop (i + 1) ws))
option_next ws i d h = rw (drop_more ws i d h)

pub form_of_few : (ws : List (List ℕ)) → length ws ≤ 3 → form_at (slice_get ws 0) (slice_get ws 1) (slice_get ws 2) ≡ form_of ws
form_of_few [] few = refl
form_of_few (a ∷ []) few = refl
form_of_few (a ∷ b ∷ []) few = refl
form_of_few (a ∷ b ∷ c ∷ []) few = refl
form_of_few (a ∷ b ∷ c ∷ d ∷ ws) few = absurd (omega arith)

pub form_of_many : (ws : List (List ℕ)) → 3 < length ws → form_of ws ≡ None
form_of_many [] many = absurd (omega arith)
form_of_many (a ∷ []) many = absurd (omega arith)
form_of_many (a ∷ b ∷ []) many = absurd (omega arith)
form_of_many (a ∷ b ∷ c ∷ []) many = absurd (omega arith)
form_of_many (a ∷ b ∷ c ∷ d ∷ ws) many = refl

pub task_of_few : (ws : List (List ℕ)) → length ws ≤ 3 → has_option ws ≡ false → form_at (slice_get ws 0) (slice_get ws 1) (slice_get ws 2) ≡ task_of ws
task_of_few ws few plain = rw plain (form_of_few ws few)
