-- What a write at one user makes of all users.
use Rattle.std.proofs.Common.{◌≡◌, refl, sym, ap, ◌∙◌, subst, cond, List, [], ◌∷◌, ℕ, Bool, true, false, Option, None, ◌&&◌}
use Rattle.std.specs.Ordering.{nat_cmp, eq_by_cmp, is_eq}
use Rattle.std.specs.declared.cmp.Ordering.{Ordering}
use Rattle.std.specs.declared.cmp.Ordering.TheVariants.{Less, Equal, Greater}
use Rattle.std.specs.Cmp.Lexicographic.{slice_cmp}
use Rattle.std.specs.FinMap.{slice_cmp-IsAntisymmetric, nat_cmp-IsAntisymmetric}
use Rattle.std.specs.List.Sorted.{IsStrictlySortedBy}
use Rattle.std.specs.BTreeMap.{is_at}
use Rattle.std.specs.BTreeSet.{BTreeSet}
use Rattle.mail_model.specs.Identity.{Id}
use Rattle.mail_base.specs.Orders.{id_cmp}
use Rattle.mailbox_fragment.specs.Here.{ids_at, has_id, is_none}

is_equal : (o : Ordering) → is_eq o ≡ true → o ≡ Equal
is_equal Less e = absurd (let never : false ≡ true = e in cc)
is_equal Equal e = refl
is_equal Greater e = absurd (let never : false ≡ true = e in cc)

-- users who tie are one user
pub same_user : (a b : List ℕ) → eq_by_cmp (slice_cmp nat_cmp) a b ≡ true → a ≡ b
same_user a b e = slice_cmp-IsAntisymmetric nat_cmp-IsAntisymmetric a b (is_equal (slice_cmp nat_cmp a b) e)

-- where one user was written, all else is as before
pub one_user : {X : Type 0} (old new : List ℕ → Option X) (user : List ℕ) (now : Option X) → ((q : List ℕ) → new q ≡ cond (is_at (slice_cmp nat_cmp user) q) now (old q))
    → (P : Bool → Option X → Option X → Type 0) → P true (old user) now → ((x : Option X) → P false x x) → (q : List ℕ) → P (eq_by_cmp (slice_cmp nat_cmp) user q) (old q) (new q)
one_user old new user now up P there other q = by (eq_by_cmp (slice_cmp nat_cmp) user q) refl
  where
    by : (b : Bool) → eq_by_cmp (slice_cmp nat_cmp) user q ≡ b → P b (old q) (new q)
    by true e = subst (λ x. P true (old q) x) (sym (up q ∙ ap (λ t. cond t now (old q)) e)) (subst (λ u. P true (old u) now) (same_user user q e) there)
    by false e = subst (λ x. P false (old q) x) (sym (up q ∙ ap (λ t. cond t now (old q)) e)) (other (old q))

-- the ids of one user once a message was noted
abbrev pub IsSetAt : Id → Bool → Bool → Option (BTreeSet Id) → Option (BTreeSet Id) → Type 0
IsSetAt id here b old new = (message : Id) → has_id (ids_at new) message ≡ cond (b && eq_by_cmp id_cmp id message) here (has_id (ids_at old) message)

pub set_one : (old new : List ℕ → Option (BTreeSet Id)) (user : List ℕ) (id : Id) (here : Bool) (now : Option (BTreeSet Id)) → ((q : List ℕ) → new q ≡ cond (is_at (slice_cmp nat_cmp user) q) now (old q))
    → IsSetAt id here true (old user) now → (q : List ℕ) → IsSetAt id here (eq_by_cmp (slice_cmp nat_cmp) user q) (old q) (new q)
set_one old new user id here now up there = one_user old new user now up (IsSetAt id here) there (λ x message. refl)

-- a user without messages has none taken out
pub none_set : (g : List ℕ → Option (BTreeSet Id)) (user : List ℕ) (id : Id) → None ≡ g user → (q : List ℕ) → IsSetAt id false (eq_by_cmp (slice_cmp nat_cmp) user q) (g q) (g q)
none_set g user id none = set_one g g user id false None up (subst (λ o. IsSetAt id false true o None) none (λ message. nothing (eq_by_cmp id_cmp id message)))
  where
    nothing : (b : Bool) → false ≡ cond b false false
    nothing true = refl
    nothing false = refl

    up : (q : List ℕ) → g q ≡ cond (is_at (slice_cmp nat_cmp user) q) None (g q)
    up q = at (is_at (slice_cmp nat_cmp user) q) refl
      where
        at : (b : Bool) → is_at (slice_cmp nat_cmp user) q ≡ b → g q ≡ cond b None (g q)
        at true e = ap g (sym (same_user user q e)) ∙ sym none
        at false e = refl

-- one user has the same ids as before, and all others are untouched
pub kept_one : (old new : List ℕ → Option (BTreeSet Id)) (user : List ℕ) (now : Option (BTreeSet Id)) → ((q : List ℕ) → new q ≡ cond (is_at (slice_cmp nat_cmp user) q) now (old q))
    → ids_at now ≡ ids_at (old user) → (q : List ℕ) → ids_at (new q) ≡ ids_at (old q)
kept_one old new user now up same = one_user old new user now up (λ b x y. ids_at y ≡ ids_at x) same (λ x. refl)

pub nothing_left : (ids : List Id) → is_none ids ≡ true → [] ≡ ids
nothing_left [] e = refl
nothing_left (id ∷ ids) e = absurd (let never : false ≡ true = e in cc)

-- what is listed of a user who has no messages
pub lists_none : (ids : List Id) (o : Option (BTreeSet Id)) → ids ≡ [] → None ≡ o → IsStrictlySortedBy id_cmp ids × ((id : Id) → has_id ids id ≡ has_id (ids_at o) id)
unfolding IsStrictlySortedBy
lists_none ids o nothing none = (subst (IsStrictlySortedBy id_cmp) (sym nothing) tt, λ id. ap (λ l. has_id l id) nothing ∙ ap (λ p. has_id (ids_at p) id) none)
