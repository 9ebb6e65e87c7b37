-- The users who are marked, as a test and as a list.
use Rattle.std.proofs.Common.{◌≡◌, ◌↔◌, inl, inr, ⊎_elim, ◌<◌, ℕ, zero, suc, Bool, true, false, true≢false, ◌||◌, cond, List, [], ◌∷◌, length, take, refl, sym, ap, ◌∙◌, subst, arith}
use Rattle.std.specs.Prelude.{IsTrue}
use Rattle.std.specs.Ordering.{nat_cmp, eq_by_cmp}
use Rattle.std.specs.Cmp.Lexicographic.{slice_cmp, texts_ties}
use Rattle.std.specs.List.{filter, list_any}
use Rattle.object_model.specs.Lists.{Among}
use Rattle.object_model.specs.Letters.{MapRow}
use Rattle.maps_model.proofs.Lists.{one_or_other}
use Rattle.user_map.specs.Managers.{is_managed_by}
use Rattle.map_rebuild.specs.Users.{has_user}
use Rattle.map_rebuild.specs.Rows.{marked_users, is_any_due, ManagesMarked}
use Rattle.map_rebuild.specs.Laws.{MarkedAreListed, DueAreGiven}
use Rattle.map_rebuild.specs.declared.reports.Reports.{Reports}
use Rattle.map_rebuild.proofs.AsMachine.{among_has}

same_user : (user one : List ℕ) → eq_by_cmp (slice_cmp nat_cmp) user one ≡ true → one ≡ user
same_user user one e = ⊎_elim (λ same. sym same.1) (λ apart. absurd (true≢false (sym (texts_ties user one ∙ e) ∙ apart.0))) (one_or_other user one)

has_among : (users : List (List ℕ)) (user : List ℕ) → has_user users user ≡ true → Among user users
has_among [] user e = absurd (true≢false (sym e))
has_among (one ∷ users) user e = by (λ h. has_among users user h) (eq_by_cmp (slice_cmp nat_cmp) user one) refl e
  where
    by : (has_user users user ≡ true → Among user users) → (t : Bool) → eq_by_cmp (slice_cmp nat_cmp) user one ≡ t → (t || has_user users user) ≡ true → Among user (one ∷ users)
    by rest true same h = inl (same_user user one same)
    by rest false apart h = inr (rest h)

pub marked_listed : MarkedAreListed
marked_listed reports user = (has_among (marked_users reports) user, among_has (marked_users reports) user)

-- one of a list passes a test exactly where some user of the list does
some_passes : (p : List ℕ → Bool) (users : List (List ℕ)) → list_any p users ≡ true → (user : List ℕ) × Among user users × (p user ≡ true)
some_passes p [] e = absurd (true≢false (sym e))
some_passes p (one ∷ users) e = by (λ h. some_passes p users h) (p one) refl e
  where
    by : (list_any p users ≡ true → (user : List ℕ) × Among user users × (p user ≡ true)) → (t : Bool) → p one ≡ t → (t || list_any p users) ≡ true
        → (user : List ℕ) × Among user (one ∷ users) × (p user ≡ true)
    by rest true passes h = (one, inl refl, passes)
    by rest false fails h = let later = rest h in (later.0, inr later.1, later.2)

passes_any : (p : List ℕ → Bool) (users : List (List ℕ)) (user : List ℕ) → Among user users → p user ≡ true → list_any p users ≡ true
passes_any p [] user m e = absurd m
passes_any p (one ∷ users) user (inl same) e = ap (λ t. t || list_any p users) (subst (λ u. p u ≡ true) (sym same) e)
passes_any p (one ∷ users) user (inr later) e = ap (λ t. p one || t) (passes_any p users user later e) ∙ either (p one)
  where
    either : (t : Bool) → (t || true) ≡ true
    either true = refl
    either false = refl

pub due_is : (map : List MapRow) (to : ℕ) (reports : Reports) → IsTrue (is_any_due map to reports) ↔ ManagesMarked map to reports
due_is map to reports = (there, back)
  where
    there : is_any_due map to reports ≡ true → ManagesMarked map to reports
    there e = let found = some_passes (is_managed_by map to) (marked_users reports) e in record { user = found.0; marked = among_has (marked_users reports) found.0 found.1; managed = found.2 }

    back : ManagesMarked map to reports → is_any_due map to reports ≡ true
    back due = passes_any (is_managed_by map to) (marked_users reports) due.user (has_among (marked_users reports) due.user due.marked) due.managed

filtered_some : (p : List ℕ → Bool) (users : List (List ℕ)) (user : List ℕ) → Among user users → p user ≡ true → 0 < length (filter p users)
filtered_some p [] user m e = absurd m
filtered_some p (one ∷ users) user m e = by (λ later. filtered_some p users user later e) (p one) refl m
  where
    by : (Among user users → 0 < length (filter p users)) → (t : Bool) → p one ≡ t → Among user (one ∷ users) → 0 < length (cond t (one ∷ filter p users) (filter p users))
    by rest true passes m = omega arith
    by rest false fails (inl same) = absurd (true≢false (sym e ∙ ap p (sym same) ∙ fails))
    by rest false fails (inr later) = rest later

taken_some : (most : ℕ) (users : List (List ℕ)) → 0 < most → 0 < length users → 0 < length (take most users)
taken_some zero users some more = absurd (omega (arith, some))
taken_some (suc most) [] some more = absurd (omega (arith, more))
taken_some (suc most) (one ∷ users) some more = omega arith

pub due_given : DueAreGiven
due_given map node most reports due some =
    taken_some most (filter (is_managed_by map node) (marked_users reports)) some
    (filtered_some (is_managed_by map node) (marked_users reports) due.user (has_among (marked_users reports) due.user due.marked) due.managed)
