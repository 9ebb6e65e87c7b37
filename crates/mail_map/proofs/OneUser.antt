-- What a write at one user makes of all users.
use Rattle.std.proofs.Common.{◌≡◌, refl, sym, ap, ◌∙◌, subst, cond, List, ℕ, Bool, true, false, true≢false, [], ◌∷◌, ◌||◌, Option, Some, None, ◌&&◌, nat_eq}
use Rattle.std.specs.Ordering.{nat_cmp, eq_by_cmp, is_eq}
use Rattle.std.specs.declared.cmp.Ordering.{Ordering}
use Rattle.std.specs.declared.cmp.Ordering.TheVariants.{Less, Equal, Greater}
use Rattle.std.specs.Cmp.{eq_by_cmp_equiv}
use Rattle.std.specs.Cmp.Lexicographic.{slice_cmp, pointwise, texts_ties, nat_list_cmp_total}
use Rattle.std.specs.FinMap.{slice_cmp-IsAntisymmetric, nat_cmp-IsAntisymmetric}
use Rattle.std.specs.BTreeMap.{BTreeMap, is_at}
use Rattle.std.specs.List.{list_any}
use Rattle.object_model.specs.Letters.{Row, Member}
use Rattle.maps_model.specs.Cluster.{is_full}
use Rattle.maps_model.specs.Rules.{set_row}
use Rattle.mail_map.specs.Tellers.{Teller}
use Rattle.mail_map.specs.Rows.{row_of_teller}

is_equal : (o : Ordering) → is_eq o ≡ true → o ≡ Equal
is_equal Less e = absurd (true≢false (sym e))
is_equal Equal e = refl
is_equal Greater e = absurd (true≢false (sym e))

-- users who tie are one user
pub same_user : (a b : List ℕ) → eq_by_cmp (slice_cmp nat_cmp) a b ≡ true → a ≡ b
same_user a b e = slice_cmp-IsAntisymmetric nat_cmp-IsAntisymmetric a b (is_equal (slice_cmp nat_cmp a b) e)

-- where one user was written, all else is as before
one_user : {X : Type 0} (old new : List ℕ → Option X) (user : List ℕ) (now : Option X) → ((q : List ℕ) → new q ≡ cond (is_at (slice_cmp nat_cmp user) q) now (old q))
    → (P : Bool → Option X → Option X → Type 0) → P true (old user) now → ((x : Option X) → P false x x) → (q : List ℕ) → P (eq_by_cmp (slice_cmp nat_cmp) user q) (old q) (new q)
one_user old new user now up P there other q = by (eq_by_cmp (slice_cmp nat_cmp) user q) refl
  where
    by : (b : Bool) → eq_by_cmp (slice_cmp nat_cmp) user q ≡ b → P b (old q) (new q)
    by true e = subst (λ x. P true (old q) x) (sym (up q ∙ ap (λ t. cond t now (old q)) e)) (subst (λ u. P true (old u) now) (same_user user q e) there)
    by false e = subst (λ x. P false (old q) x) (sym (up q ∙ ap (λ t. cond t now (old q)) e)) (other (old q))

-- the rows of one user once a row was told
abbrev pub IsToldAt : Row → Bool → Option (BTreeMap Teller Row) → Option (BTreeMap Teller Row) → Type 0
IsToldAt row b old new = (n boot : ℕ) → row_of_teller new n boot ≡ cond (b && (nat_eq n row.node && nat_eq boot row.boot)) (Some row) (row_of_teller old n boot)

pub set_one : (old new : List ℕ → Option (BTreeMap Teller Row)) (user : List ℕ) (row : Row) (now : Option (BTreeMap Teller Row)) → ((q : List ℕ) → new q ≡ cond (is_at (slice_cmp nat_cmp user) q) now (old q))
    → IsToldAt row true (old user) now → (n boot : ℕ) (q : List ℕ) → row_of_teller (new q) n boot ≡ set_row (λ m k u. row_of_teller (old u) m k) row.node row.boot user row n boot q
set_one old new user row now up there n boot q =
    one_user old new user now up (IsToldAt row) there (λ x m k. refl) q n boot
    ∙ ap (λ t. cond (t && (nat_eq n row.node && nat_eq boot row.boot)) (Some row) (row_of_teller (old q) n boot)) ((eq_by_cmp_equiv nat_list_cmp_total).symm user q ∙ sym (texts_ties q user))
    ∙ turned (nat_eq n row.node) (nat_eq boot row.boot) (pointwise nat_eq q user)
  where
    turned : (a b t : Bool) → cond (t && (a && b)) (Some row) (row_of_teller (old q) n boot) ≡ cond (a && b && t) (Some row) (row_of_teller (old q) n boot)
    turned true true true = refl
    turned true true false = refl
    turned true false true = refl
    turned true false false = refl
    turned false b true = refl
    turned false b false = refl

-- one user has the same rows as before, and all others are untouched
pub kept_one : (old new : List ℕ → Option (BTreeMap Teller Row)) (user : List ℕ) (now : Option (BTreeMap Teller Row)) → ((q : List ℕ) → new q ≡ cond (is_at (slice_cmp nat_cmp user) q) now (old q))
    → ((n boot : ℕ) → row_of_teller now n boot ≡ row_of_teller (old user) n boot) → (n boot : ℕ) (q : List ℕ) → row_of_teller (new q) n boot ≡ row_of_teller (old q) n boot
kept_one old new user now up same n boot q = one_user old new user now up (λ b x y. (m k : ℕ) → row_of_teller y m k ≡ row_of_teller x m k) same (λ x m k. refl) q n boot

-- nobody is named of a user without rows
pub names_none : (rows : Option (BTreeMap Teller Row)) → None ≡ rows → (members : List Member) (n : ℕ) → list_any (λ (member : Member). nat_eq n member.node && is_full (row_of_teller rows member.node member.boot)) members ≡ false
names_none rows none [] n = refl
names_none rows none (member ∷ members) n =
    ap (λ b. b || list_any (λ (m : Member). nat_eq n m.node && is_full (row_of_teller rows m.node m.boot)) members) (ap (λ o. nat_eq n member.node && is_full (row_of_teller o member.node member.boot)) (sym none) ∙ never (nat_eq n member.node))
    ∙ names_none rows none members n
  where
    never : (b : Bool) → (b && false) ≡ false
    never true = refl
    never false = refl
