-- That the latest row stands, and that members are named as in the machine.
use Rattle.std.proofs.Common.{◌≡◌, ◌⊎◌, inl, inr, ⊎_elim, ◌≤◌, ◌<◌, refl, sym, ap, subst, ◌∙◌, cond, ℕ, Bool, true, false, true≢false, ◌&&◌, ◌||◌, nat_eq, nat_lt, List, [], ◌∷◌, ◌++◌, append_assoc, append-nil, Option, Some, None, arith}
use Rattle.std.proofs.lemmas.Bool.Decides.{nat_tests}
use Rattle.std.specs.List.{filter, list_any}
use Rattle.std.specs.Cmp.Lexicographic.{pointwise, texts_ties}
use Rattle.object_model.specs.Lists.{Among}
use Rattle.object_model.specs.Letters.{Row, Member}
use Rattle.maps_model.specs.Cluster.{Node, is_full}
use Rattle.maps_model.specs.Laws.{named}
use Rattle.mail_map.specs.Rows.{Rows, is_older, told_row, is_named}
use Rattle.mail_map.specs.Laws.{told_all, no_rows, is_row_of, IsLatestOf}
use Rattle.mail_map.proofs.OneUser.{same_user}

among_either : (row : Row) (xs ys : List Row) → Among row (xs ++ ys) → Among row xs ⊎ Among row ys
among_either row [] ys h = inr h
among_either row (x ∷ xs) ys (inl same) = inl (inl same)
among_either row (x ∷ xs) ys (inr later) = ⊎_elim (λ h. inl (inr h)) (λ h. inr h) (among_either row xs ys later)

same_number : (a b : ℕ) → nat_eq a b ≡ true → a ≡ b
same_number a b e = grind (arith, nat_tests, e)

not_below : (a b : ℕ) → nat_lt a b ≡ false → b ≤ a
not_below a b e = grind (arith, nat_tests, e)

is_below : (a b : ℕ) → nat_lt a b ≡ true → a < b
is_below a b e = grind (arith, nat_tests, e)

-- one row more of the same node, boot and user
one_more : (seen : List Row) (row : Row) (held : Option Row) → IsLatestOf seen held → (t : Bool) → is_older held row.version ≡ t → IsLatestOf (seen ++ row ∷ []) (cond t held (Some row))
one_more seen row None none true e = absurd (true≢false (sym e))
one_more seen row None none false e = record {
  before = seen;
  after = [];
  split = refl;
  not_above = λ r h. absurd (subst (Among r) none h);
  below = λ r h. absurd h;
}
one_more seen row (Some latest) is true e = record {
  before = is.before;
  after = is.after ++ row ∷ [];
  split = ap (λ (l : List Row). l ++ row ∷ []) is.split ∙ append_assoc is.before (latest ∷ is.after) (row ∷ []);
  not_above = is.not_above;
  below = λ r h. ⊎_elim (is.below r) (last r) (among_either r is.after (row ∷ []) h);
}
  where
    last : (r : Row) → Among r (row ∷ []) → r.version < latest.version
    last r (inl same) = subst (λ (x : Row). x.version < latest.version) same (is_below row.version latest.version e)
    last r (inr none) = absurd none
one_more seen row (Some latest) is false e = record {
  before = seen;
  after = [];
  split = refl;
  not_above = λ r h. each r (among_either r is.before (latest ∷ is.after) (subst (Among r) is.split h));
  below = λ r h. absurd h;
}
  where
    least : latest.version ≤ row.version
    least = not_below row.version latest.version e

    each : (r : Row) → Among r is.before ⊎ Among r (latest ∷ is.after) → r.version ≤ row.version
    each r (inl h) = let low = is.not_above r h in let l = least in omega (arith, low, l)
    each r (inr (inl same)) = subst (λ (x : Row). x.version ≤ row.version) same least
    each r (inr (inr h)) = let low = is.below r h in let l = least in omega (arith, low, l)

module _ (n boot : ℕ) (user : List ℕ) where
  -- rows of another node, boot or user change nothing
  other_row : (row : Row) (rows : Rows) → is_row_of n boot user row ≡ false → told_row row rows n boot user ≡ rows n boot user
  other_row row rows e = by (is_older (rows row.node row.boot row.user) row.version)
    where
      by : (t : Bool) → cond t (rows n boot user) (cond (is_row_of n boot user row) (Some row) (rows n boot user)) ≡ rows n boot user
      by true = refl
      by false = ap (λ b. cond b (Some row) (rows n boot user)) e

  -- a row of this node, boot and user
  own_row : (row : Row) (rows : Rows) → is_row_of n boot user row ≡ true → told_row row rows n boot user ≡ cond (is_older (rows n boot user) row.version) (rows n boot user) (Some row)
  own_row row rows e =
      ap (λ (o : Option Row). cond (is_older o row.version) (rows n boot user) (cond (is_row_of n boot user row) (Some row) (rows n boot user))) held
      ∙ ap (λ b. cond (is_older (rows n boot user) row.version) (rows n boot user) (cond b (Some row) (rows n boot user))) e
    where
      parts : (a b c : Bool) → (a && b && c) ≡ true → (a ≡ true) × (b ≡ true) × (c ≡ true)
      parts true true true e = (refl, refl, refl)
      parts true true false e = absurd (true≢false (sym e))
      parts true false c e = absurd (true≢false (sym e))
      parts false b c e = absurd (true≢false (sym e))

      all : (nat_eq n row.node ≡ true) × (nat_eq boot row.boot ≡ true) × (pointwise nat_eq user row.user ≡ true)
      all = parts (nat_eq n row.node) (nat_eq boot row.boot) (pointwise nat_eq user row.user) e

      held : rows row.node row.boot row.user ≡ rows n boot user
      held = ap (λ m. rows m row.boot row.user) (sym (same_number n row.node all.0)) ∙ ap (λ k. rows n k row.user) (sym (same_number boot row.boot all.1))
          ∙ ap (λ (u : List ℕ). rows n boot u) (sym (same_user user row.user (sym (texts_ties user row.user) ∙ all.2)))

  stands_after : (list seen : List Row) (rows : Rows) → IsLatestOf seen (rows n boot user) → IsLatestOf (seen ++ filter (is_row_of n boot user) list) (told_all list rows n boot user)
  stands_after [] seen rows is = subst (λ (l : List Row). IsLatestOf l (rows n boot user)) (sym (append-nil seen)) is
  stands_after (row ∷ more) seen rows is =
      by (is_row_of n boot user row) refl (stands_after more seen (told_row row rows)) (stands_after more (seen ++ row ∷ []) (told_row row rows))
    where
      of : List Row → Type 0
      of l = IsLatestOf l (told_all more (told_row row rows) n boot user)

      by : (t : Bool) → is_row_of n boot user row ≡ t
          → (IsLatestOf seen (told_row row rows n boot user) → IsLatestOf (seen ++ filter (is_row_of n boot user) more) (told_all more (told_row row rows) n boot user))
          → (IsLatestOf (seen ++ row ∷ []) (told_row row rows n boot user) → IsLatestOf ((seen ++ row ∷ []) ++ filter (is_row_of n boot user) more) (told_all more (told_row row rows) n boot user))
          → IsLatestOf (seen ++ cond (is_row_of n boot user row) (row ∷ filter (is_row_of n boot user) more) (filter (is_row_of n boot user) more)) (told_all more (told_row row rows) n boot user)
      by false e apart own = subst (λ b. IsLatestOf (seen ++ cond b (row ∷ filter (is_row_of n boot user) more) (filter (is_row_of n boot user) more)) (told_all more (told_row row rows) n boot user)) (sym e)
          (apart (subst (IsLatestOf seen) (sym (other_row row rows e)) is))
      by true e apart own = subst (λ b. IsLatestOf (seen ++ cond b (row ∷ filter (is_row_of n boot user) more) (filter (is_row_of n boot user) more)) (told_all more (told_row row rows) n boot user)) (sym e)
          (subst (λ (l : List Row). IsLatestOf l (told_all more (told_row row rows) n boot user)) (append_assoc seen (row ∷ []) (filter (is_row_of n boot user) more))
          (own (subst (IsLatestOf (seen ++ row ∷ [])) (sym (own_row row rows e)) (one_more seen row (rows n boot user) is (is_older (rows n boot user) row.version) refl))))

pub latest_stands : (rows : List Row) (n boot : ℕ) (user : List ℕ) → IsLatestOf (filter (is_row_of n boot user) rows) (told_all rows no_rows n boot user)
latest_stands rows n boot user = stands_after n boot user rows [] no_rows refl

pub named_as : (node : Node) (user : List ℕ) (members : List Member) (n : ℕ) → is_named node.rows user members n ≡ list_any (nat_eq n) (named node user members)
named_as node user [] n = refl
named_as node user (member ∷ members) n = by (is_full (node.rows member.node member.boot user)) refl (named_as node user members n)
  where
    dropped : (a b : Bool) → ((a && false) || b) ≡ b
    dropped true b = refl
    dropped false b = refl

    kept : (a b : Bool) → ((a && true) || b) ≡ (a || b)
    kept true b = refl
    kept false b = refl

    by : (t : Bool) → is_full (node.rows member.node member.boot user) ≡ t → is_named node.rows user members n ≡ list_any (nat_eq n) (named node user members)
        → ((nat_eq n member.node && is_full (node.rows member.node member.boot user)) || is_named node.rows user members n)
        ≡ list_any (nat_eq n) (cond (is_full (node.rows member.node member.boot user)) (member.node ∷ named node user members) (named node user members))
    by true e rest =
        ap (λ b. (nat_eq n member.node && b) || is_named node.rows user members n) e
        ∙ kept (nat_eq n member.node) (is_named node.rows user members n)
        ∙ ap (λ b. nat_eq n member.node || b) rest
        ∙ sym (ap (λ b. list_any (nat_eq n) (cond b (member.node ∷ named node user members) (named node user members))) e)
    by false e rest =
        ap (λ b. (nat_eq n member.node && b) || is_named node.rows user members n) e
        ∙ dropped (nat_eq n member.node) (is_named node.rows user members n)
        ∙ rest
        ∙ sym (ap (λ b. list_any (nat_eq n) (cond b (member.node ∷ named node user members) (named node user members))) e)
