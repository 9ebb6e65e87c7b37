-- The plan lines of a worked tape give its plan, and none has an LF.
use Rattle.std.proofs.Common.{◌≡◌, ◌≢◌, not, ◌&&◌, nat_eq, nat_le, ℕ, Bool, true, false, List, [], ◌∷◌, All, Option, Some, None, refl, sym, ap, ◌∙◌, codes, if◌then◌else◌}
use Rattle.std.specs.Prelude.{◌||◌, is_some}
use Rattle.std.specs.FinMap as map
use Rattle.std.specs.Ordering.{nat_cmp}
use Rattle.std.specs.Cmp.Lexicographic.{slice_cmp}
use Rattle.std.proofs.lemmas.Bool.{and_parts}
use Rattle.std.proofs.lemmas.List.Elements.{All-nil, All-cons}
use Rattle.mail_model.specs.Lines.{HasNoLf}
use Rattle.mail_model.specs.Tape.{Draft, empty_draft}
use Rattle.worked_sessions.specs.OneMessage.{small_plan}
use Rattle.drive_tape.specs.Plans.{DraftsOn, DraftsTo}

-- lines without an LF

abbrev pub has_no_lf : List ℕ → Bool
has_no_lf [] = true
has_no_lf (x ∷ xs) = not (nat_eq x 10) && has_no_lf xs

abbrev pub have_no_lf : List (List ℕ) → Bool
have_no_lf [] = true
have_no_lf (line ∷ lines) = has_no_lf line && have_no_lf lines

pub one_line : (line : List ℕ) → has_no_lf line ≡ true → HasNoLf line
one_line [] is = All-nil (λ x. x ≢ 10)
one_line (x ∷ xs) is = All-cons (λ y. y ≢ 10) x xs
    (λ lf. let clash : false ≡ true = ap (λ (y : ℕ). not (nat_eq y 10) && has_no_lf xs) (sym lf) ∙ is in cc)
    (one_line xs (and_parts (not (nat_eq x 10)) (has_no_lf xs) is).1)

pub one_each : (lines : List (List ℕ)) → have_no_lf lines ≡ true → All HasNoLf lines
one_each [] is = All-nil HasNoLf
one_each (line ∷ lines) is =
    let both = and_parts (has_no_lf line) (have_no_lf lines) is in
    All-cons HasNoLf line lines (one_line line both.0) (one_each lines both.1)

-- what the plan lines of so many nodes give, one after another

abbrev with_nodes : ℕ → Draft
with_nodes n = record empty_draft { nodes = Some n }

abbrev with_copies : ℕ → Draft
with_copies n = record (with_nodes n) { copies = Some (n, n) }

abbrev with_buckets : ℕ → Draft
with_buckets n = record (with_copies n) { buckets = Some 1 }

abbrev with_user : ℕ → Draft
with_user n = record (with_buckets n) { users = small_plan.users }

abbrev pub whole_draft : ℕ → Draft
whole_draft n = record (with_user n) { postmaster = Some (codes "alice") }

-- what a user's line makes of a draft, by whether the name is there and how many are
abbrev user_where : ℕ → Option (List ℕ) → ℕ → Option Draft
user_where n there many = if is_some there || nat_le 4096 many then None else Some (with_user n)

pub drafts : (n : ℕ) (nodes copies : List ℕ) → DraftsOn empty_draft nodes (with_nodes n) → DraftsOn (with_nodes n) copies (with_copies n)
    → DraftsTo empty_draft (nodes ∷ copies ∷ codes "buckets 1" ∷ codes "user alice tanstaaf" ∷ codes "postmaster alice" ∷ []) (whole_draft n)
drafts n nodes copies has_nodes has_copies = (
  with_nodes n,
  has_nodes,
  (
    with_copies n,
    has_copies,
    (
      with_buckets n,
      refl,
      (
        with_user n,
        ap (λ (there : Option (List ℕ)). user_where n there (map.len (map.empty {X = List ℕ} {R = slice_cmp nat_cmp}))) (map.get-empty (slice_cmp nat_cmp) (codes "alice"))
            ∙ ap (user_where n None) (map.len-empty (slice_cmp nat_cmp) (List ℕ)),
        (whole_draft n, refl, refl),
      ),
    ),
  ),
)
