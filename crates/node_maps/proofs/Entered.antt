-- What the code does to marks and rows as it enters a membership is what the machine does.
use Rattle.std.proofs.Common.{◌≡◌, inl, inr, ◌≤◌, ℕ, zero, suc, Bool, true, false, ◌&&◌, ◌||◌, not, nat_eq, List, [], ◌∷◌, length, take, Option, Some, None, refl, sym, ap, ◌∙◌, subst, cond, true≢false, arith}
use Rattle.std.specs.List.{filter}
use Rattle.std.specs.Ordering.{nat_cmp, eq_by_cmp, is_eq}
use Rattle.std.specs.declared.cmp.Ordering.{Ordering}
use Rattle.std.specs.declared.cmp.Ordering.TheVariants.{Less, Equal, Greater}
use Rattle.std.specs.Cmp.Lexicographic.{slice_cmp, texts_ties}
use Rattle.std.specs.FinMap.{slice_cmp-IsAntisymmetric, nat_cmp-IsAntisymmetric}
use Rattle.std.proofs.lemmas.Bool.{and_parts, eqb-true, eq-eqb}
use Rattle.mail_model.specs.Identity.{EpochId}
use Rattle.object_model.specs.Letters.{Member, Membership, Row}
use Rattle.maps_model.specs.Cluster.{Node, Disk, NamesNode, epoch_in, manager_of, manages, member_of}
use Rattle.maps_model.specs.Rules.{set_row, own_row, IsSpared, IsRowDue, RowAt, Entering}
use Rattle.maps_model.specs.Rules.RowAt.{Tells}
use Rattle.user_map.specs.Managers.{is_managed_by}
use Rattle.user_map.proofs.Managed.{node_is, is_node, epoch_is, is_epoch}
use Rattle.membership.specs.Groups.{Group, node_of_group}
use Rattle.mail_map.specs.Rows.{Rows, rows_of}
use Rattle.mail_map.specs.Installs.{kept_rows}
use Rattle.mail_map.specs.Laws.{map_in}
use Rattle.mail_map.specs.declared.map.MailMap.{MailMap}
use Rattle.mail_map.proofs.Keeping.{row_at}
use Rattle.map_rebuild.specs.Users.{has_user}
use Rattle.map_rebuild.specs.Rows.{version_of, is_marked, marked_users, KeepsVersions, SetsMark, due_users}
use Rattle.map_rebuild.specs.Laws.{MarksBucket, TellsUsers, IsNamed, is_in_bucket}
use Rattle.map_rebuild.specs.declared.reports.Reports.{Reports}
use Rattle.map_rebuild.proofs.AsMachine.{installs}
use Rattle.mailbox_fragment.specs.Here.{is_empty, AreUsersOf}
use Rattle.mailbox_fragment.specs.declared.fragments.Fragments.{Fragments}
use Rattle.node_maps.specs.Nodes.{row_of}
use Rattle.node_maps.specs.Entering.{came_from, is_one_manager, is_spared, told_in, Enters}

is_equal : (o : Ordering) → is_eq o ≡ true → o ≡ Equal
is_equal Less e = absurd (true≢false (sym e))
is_equal Equal e = refl
is_equal Greater e = absurd (true≢false (sym e))

same_user : (a b : List ℕ) → eq_by_cmp (slice_cmp nat_cmp) a b ≡ true → a ≡ b
same_user a b e = slice_cmp-IsAntisymmetric nat_cmp-IsAntisymmetric a b (is_equal (slice_cmp nat_cmp a b) e)

-- who is among those that pass a test
has_filtered : (p : List ℕ → Bool) (users : List (List ℕ)) (u : List ℕ) → has_user (filter p users) u ≡ (has_user users u && p u)
has_filtered p [] u = refl
has_filtered p (user ∷ users) u = by (p user) refl (eq_by_cmp (slice_cmp nat_cmp) u user) refl (has_filtered p users u)
  where
    pass : (s h q : Bool) → (s ≡ true → q ≡ true) → (s || (h && q)) ≡ ((s || h) && q)
    pass true h q f = sym (f refl)
    pass false h q f = refl

    fail : (s h q : Bool) → (s ≡ true → q ≡ false) → (h && q) ≡ ((s || h) && q)
    fail true true q f = refl
    fail true false q f = sym (f refl)
    fail false h q f = refl

    by : (t : Bool) → p user ≡ t → (s : Bool) → eq_by_cmp (slice_cmp nat_cmp) u user ≡ s → has_user (filter p users) u ≡ (has_user users u && p u)
        → has_user (cond (p user) (user ∷ filter p users) (filter p users)) u ≡ ((eq_by_cmp (slice_cmp nat_cmp) u user || has_user users u) && p u)
    by true e s same rest =
        ap (λ t. has_user (cond t (user ∷ filter p users) (filter p users)) u) e
        ∙ ap (λ h. eq_by_cmp (slice_cmp nat_cmp) u user || h) rest
        ∙ pass (eq_by_cmp (slice_cmp nat_cmp) u user) (has_user users u) (p u) (λ is. ap p (same_user u user is) ∙ e)
    by false e s same rest =
        ap (λ t. has_user (cond t (user ∷ filter p users) (filter p users)) u) e
        ∙ rest
        ∙ fail (eq_by_cmp (slice_cmp nat_cmp) u user) (has_user users u) (p u) (λ is. ap p (same_user u user is) ∙ e)

take_all : {X : Type 0} (n : ℕ) (xs : List X) → length xs ≤ n → take n xs ≡ xs
take_all zero [] le = refl
take_all zero (x ∷ xs) le = absurd (omega (arith, le))
take_all (suc n) [] le = refl
take_all (suc n) (x ∷ xs) le = ap (λ ys. x ∷ ys) (take_all n xs (omega (arith, le)))

filter_few : {X : Type 0} (p : X → Bool) (xs : List X) → length (filter p xs) ≤ length xs
filter_few p [] = omega arith
filter_few p (x ∷ xs) = by (p x) (filter_few p xs)
  where
    by : (t : Bool) → length (filter p xs) ≤ length xs → length (cond t (x ∷ filter p xs) (filter p xs)) ≤ suc (length xs)
    by true le = omega (arith, le)
    by false le = omega (arith, le)

-- whether a user is spared, as a test and as a fact
module _ (node : Node) (new : Membership) (user : List ℕ) where
  came : (x : Option Member) (m : ℕ) (epoch : EpochId) → member_of new.members m ≡ x → came_from x epoch ≡ true → (member : Member) × (member_of new.members m ≡ Some member) × (member.was ≡ epoch)
  came None m epoch is e = absurd (true≢false (sym e))
  came (Some member) m epoch is e = (member, is, epoch_is member.was epoch e)

  spared_by : (old : Membership) → node.installed ≡ Some old → (x y : Option ℕ) → manager_of old user ≡ x → manager_of new user ≡ y → is_one_manager new.members old.epoch x y ≡ true → IsSpared node new user
  spared_by old here None y before after e = absurd (true≢false (sym e))
  spared_by old here (Some m) None before after e = absurd (true≢false (sym e))
  spared_by old here (Some m) (Some n) before after e =
      let parts = and_parts (nat_eq m n) (came_from (member_of new.members m) old.epoch) e in
      let found = came (member_of new.members m) m old.epoch refl parts.1 in
      record {
        old = old;
        installed = here;
        manager = m;
        before = before;
        after = after ∙ ap Some (sym (eqb-true m n parts.0));
        member = found.0;
        is = found.1;
        from = found.2;
        allowed = tt;
      }

  pub if_spared : is_spared node.installed new user ≡ true → IsSpared node new user
  if_spared e = by node.installed refl e
    where
      by : (x : Option Membership) → node.installed ≡ x → is_spared x new user ≡ true → IsSpared node new user
      by None here e = absurd (true≢false (sym e))
      by (Some old) here e = spared_by old here (manager_of old user) (manager_of new user) refl refl e

  pub only_if_spared : IsSpared node new user → is_spared node.installed new user ≡ true
  only_if_spared s =
      ap (λ x. is_spared x new user) s.installed
      ∙ ap (λ x. is_one_manager new.members s.old.epoch x (manager_of new user)) s.before
      ∙ ap (λ x. is_one_manager new.members s.old.epoch (Some s.manager) x) s.after
      ∙ ap (λ t. t && came_from (member_of new.members s.manager) s.old.epoch) (eq-eqb s.manager s.manager refl)
      ∙ ap (λ x. came_from x s.old.epoch) s.is
      ∙ is_epoch s.member.was s.old.epoch s.from

-- what the calls did
pub record Work (own boot : ℕ) (old : Option Membership) (new : Membership) (fragments : Fragments) (rows : MailMap) (reports : Reports) (told : MailMap) (left : Reports) : Type 0 where
  pub held : List (List ℕ)
  pub due : List (List ℕ)
  pub mid : Reports
  pub users : List (List ℕ)
  pub kept : MailMap
  pub found : AreUsersOf held fragments
  pub dues : due ≡ filter (λ user. not (is_spared old new user)) held
  pub marks : MarksBucket new.epoch due reports mid
  pub first : users ≡ due_users new.map own (length (marked_users mid)) mid
  pub keeps : (n b : ℕ) (u : List ℕ) → rows_of kept n b u ≡ kept_rows own (map_in old) new.map (epoch_in old) new.members (rows_of rows) n b u
  pub tells : (n b : ℕ) (u : List ℕ) → rows_of told n b u ≡ told_in own boot (row_of own boot mid fragments) users (rows_of kept) n b u
  pub clears : TellsUsers users mid left

module _ (own : ℕ) (group : Group) (new : Membership) (fragments : Fragments) (rows : MailMap) (reports : Reports) (told : MailMap) (left : Reports)
    (w : Work own group.boot group.installed new fragments rows reports told left) (names : NamesNode new own group.boot) (disk : Disk)
    (holds : (user : List ℕ) → disk.holds user ≡ not (is_empty fragments user)) where
  abbrev node : Node
  node = node_of_group group (version_of reports) (is_marked reports) (rows_of rows)

  in_due : (u : List ℕ) → has_user w.due u ≡ (disk.holds u && not (is_spared group.installed new u))
  in_due u =
      ap (λ (us : List (List ℕ)). has_user us u) w.dues
      ∙ has_filtered (λ user. not (is_spared group.installed new user)) w.held u
      ∙ ap (λ b. b && not (is_spared group.installed new u)) (w.found u ∙ sym (holds u))

  or_none : (b : Bool) → (b || false) ≡ b
  or_none true = refl
  or_none false = refl

  named : (u : List ℕ) → IsNamed node disk new u (is_in_bucket (w.due ∷ []) u)
  named u = by (disk.holds u) (is_spared group.installed new u) refl refl (is_in_bucket (w.due ∷ []) u) (or_none (has_user w.due u) ∙ in_due u)
    where
      by : (h s : Bool) → disk.holds u ≡ h → is_spared group.installed new u ≡ s → (t : Bool) → t ≡ (disk.holds u && not (is_spared group.installed new u)) → IsNamed node disk new u t
      by false s x y true e = absurd (true≢false (e ∙ ap (λ b. b && not (is_spared group.installed new u)) x))
      by false s x y false e = inl x
      by true true x y true e = absurd (true≢false (e ∙ ap (λ b. b && not (is_spared group.installed new u)) x ∙ ap not y))
      by true true x y false e = inr (if_spared node new u y)
      by true false x y true e = (x, λ s. true≢false (sym (only_if_spared node new u s) ∙ y))
      by true false x y false e = absurd (true≢false (sym (e ∙ ap (λ b. b && not (is_spared group.installed new u)) x ∙ ap not y)))

  told_users : w.users ≡ filter (is_managed_by new.map own) (marked_users w.mid)
  told_users = w.first ∙ take_all (length (marked_users w.mid)) (filter (is_managed_by new.map own) (marked_users w.mid)) (filter_few (is_managed_by new.map own) (marked_users w.mid))

  in_told : (u : List ℕ) → has_user w.users u ≡ (is_marked w.mid u && manages new own u)
  in_told u = ap (λ (us : List (List ℕ)). has_user us u) told_users ∙ has_filtered (is_managed_by new.map own) (marked_users w.mid) u

  marked_now : (u : List ℕ) → is_marked w.mid u ≡ (is_marked reports u || has_user w.due u)
  marked_now u = w.marks.marks u

  is_told : (u : List ℕ) → manages new own u ≡ true → is_marked w.mid u ≡ true → has_user w.users u ≡ true
  is_told u m k = in_told u ∙ ap (λ b. b && manages new own u) k ∙ m

  marks_due : (u : List ℕ) → IsRowDue node disk new u → is_marked w.mid u ≡ true
  marks_due u (inl was) = marked_now u ∙ ap (λ b. b || has_user w.due u) was
  marks_due u (inr (full, apart)) = marked_now u ∙ either (is_marked reports u) (has_user w.due u) (in_due u ∙ ap (λ b. b && not (is_spared group.installed new u)) full ∙ free (is_spared group.installed new u) refl)
    where
      either : (a b : Bool) → b ≡ true → (a || b) ≡ true
      either true b e = refl
      either false b e = e

      free : (s : Bool) → is_spared group.installed new u ≡ s → not (is_spared group.installed new u) ≡ true
      free true e = absurd (apart (if_spared node new u e))
      free false e = ap not e

  due_marks : (u : List ℕ) → is_marked w.mid u ≡ true → IsRowDue node disk new u
  due_marks u e = by (is_marked reports u) refl (has_user w.due u) refl (sym (marked_now u) ∙ e)
    where
      by : (a : Bool) → is_marked reports u ≡ a → (b : Bool) → has_user w.due u ≡ b → (is_marked reports u || has_user w.due u) ≡ true → IsRowDue node disk new u
      by true x b y e = inl x
      by false x true y e =
          let parts = and_parts (disk.holds u) (not (is_spared group.installed new u)) (sym (in_due u) ∙ y) in
          inr (parts.0, λ s. true≢false (sym parts.1 ∙ ap not (only_if_spared node new u s)))
      by false x false y e = absurd (true≢false (sym e ∙ ap (λ t. t || has_user w.due u) x ∙ y))

  abbrev is_own_told : ℕ → ℕ → List ℕ → Bool
  is_own_told n b u = nat_eq n own && nat_eq b group.boot && has_user w.users u

  row : (n b : ℕ) (u : List ℕ) → RowAt own node disk new n b u (rows_of told n b u)
  row n b u = by (is_own_told n b u) refl
    where
      told_row : is_own_told n b u ≡ true → rows_of told n b u ≡ Some (own_row own node disk u)
      told_row e =
          w.tells n b u
          ∙ ap (λ t. cond t (Some (row_of own group.boot w.mid fragments u)) (rows_of w.kept n b u)) e
          ∙ (λ i. Some (record { user = u; node = own; boot = group.boot; version = w.marks.versions u i; full = (sym (holds u)) i; profile = None }))

      untold : is_own_told n b u ≡ false → n ≡ own → b ≡ node.boot → manager_of new u ≡ Some own → IsRowDue node disk new u → ⊥
      untold e x y m due = true≢false (
          sym (
          ap (λ t. t && nat_eq b group.boot && has_user w.users u) (eq-eqb n own x)
          ∙ ap (λ t. t && has_user w.users u) (eq-eqb b group.boot y)
          ∙ is_told u (is_node (manager_of new u) own m) (marks_due u due)
          )
          ∙ e
          )

      kept_row : is_own_told n b u ≡ false → rows_of told n b u ≡ kept_rows own (map_in group.installed) new.map (epoch_in group.installed) new.members (rows_of rows) n b u
      kept_row e = w.tells n b u ∙ ap (λ t. cond t (Some (row_of own group.boot w.mid fragments u)) (rows_of w.kept n b u)) e ∙ w.keeps n b u

      by : (t : Bool) → is_own_told n b u ≡ t → RowAt own node disk new n b u (rows_of told n b u)
      by true e =
          let parts = and_parts (nat_eq n own && nat_eq b group.boot) (has_user w.users u) e in
          let who = and_parts (nat_eq n own) (nat_eq b group.boot) parts.0 in
          let both = and_parts (is_marked w.mid u) (manages new own u) (sym (in_told u) ∙ parts.1) in
          Tells (eqb-true n own who.0) (eqb-true b group.boot who.1) (node_is (manager_of new u) own both.1) (due_marks u both.0) (told_row e)
      by false e = subst (λ x. RowAt own node disk new n b u x) (sym (kept_row e)) (row_at own node new n b u disk names (untold e))

  pub entering_at : Entering own node disk new (is_marked left) (rows_of told)
  entering_at = record {
    marks = λ u. (installs own node disk new (w.due ∷ []) w.users reports w.mid left (record { versions = λ v. refl; marks = λ v. refl }) (w.mid, w.marks, refl) w.clears named
        (λ v h. (and_parts (is_marked w.mid v) (manages new own v) (sym (in_told v) ∙ h)).1) (λ v m k. is_told v m k) u).0;
    keeps = row;
  }

told_versions : (users : List (List ℕ)) (old new : Reports) → TellsUsers users old new → KeepsVersions old new
told_versions [] old new is user = ap (λ (r : Reports). version_of r user) is
told_versions (one ∷ more) old new (mid, step, rest) user = told_versions more mid new rest user ∙ step.1 user

pub enters : (own boot : ℕ) (old : Option Membership) (new : Membership) (fragments : Fragments) (rows : MailMap) (reports : Reports) (told : MailMap) (left : Reports)
    → Work own boot old new fragments rows reports told left → Enters own boot old new fragments rows reports told left
enters own boot old new fragments rows reports told left w = record {
  entering = λ group at here names disk holds. entering_at own group new fragments rows reports told left
      (subst (λ b. Work own b group.installed new fragments rows reports told left) (sym at) (subst (λ o. Work own boot o new fragments rows reports told left) (sym here) w))
      (subst (λ b. NamesNode new own b) (sym at) names) disk holds;
  versions = λ user. told_versions w.users w.mid left w.clears user ∙ w.marks.versions user;
}

-- one user more was told
pub tell_next : (own boot : ℕ) (row : List ℕ → Row) (before rest : List (List ℕ)) (user : List ℕ) (now next : Rows) (all : Rows) → before ≡ user ∷ rest
    → ((n b : ℕ) (u : List ℕ) → next n b u ≡ set_row now own boot user (row user) n b u) → ((n b : ℕ) (u : List ℕ) → told_in own boot row before now n b u ≡ all n b u)
    → (n b : ℕ) (u : List ℕ) → told_in own boot row rest next n b u ≡ all n b u
tell_next own boot row before rest user now next all is set so n b u =
    ap (λ x. cond (nat_eq n own && nat_eq b boot && has_user rest u) (Some (row u)) x) (set n b u)
    ∙ ap (λ t. cond (nat_eq n own && nat_eq b boot && has_user rest u) (Some (row u)) (cond (nat_eq n own && nat_eq b boot && t) (Some (row user)) (now n b u))) (texts_ties u user)
    ∙ by (nat_eq n own) (nat_eq b boot) (eq_by_cmp (slice_cmp nat_cmp) u user) refl (has_user rest u)
    ∙ ap (λ (l : List (List ℕ)). told_in own boot row l now n b u) (sym is)
    ∙ so n b u
  where
    by : (x y s : Bool) → eq_by_cmp (slice_cmp nat_cmp) u user ≡ s → (h : Bool)
        → cond (x && y && h) (Some (row u)) (cond (x && y && s) (Some (row user)) (now n b u)) ≡ cond (x && y && (s || h)) (Some (row u)) (now n b u)
    by false y s e h = refl
    by true false s e h = refl
    by true true true e true = refl
    by true true true e false = ap (λ v. Some (row v)) (sym (same_user u user e))
    by true true false e true = refl
    by true true false e false = refl

-- and the others are still to be told
pub clear_next : (before rest : List (List ℕ)) (user : List ℕ) (now next : Reports) (all : Reports → Type 0) → before ≡ user ∷ rest
    → SetsMark now next user false → KeepsVersions now next → ((final : Reports) → TellsUsers before now final → all final) → (final : Reports) → TellsUsers rest next final → all final
clear_next before rest user now next all is marks keeps so final tells = so final (subst (λ (l : List (List ℕ)). TellsUsers l now final) (sym is) (next, (marks, keeps), tells))

-- The row of a user is the same where its version is.
pub same_row : (own boot : ℕ) (old new : Reports) (fragments : Fragments) (user : List ℕ) → version_of new user ≡ version_of old user → row_of own boot new fragments user ≡ row_of own boot old fragments user
same_row own boot old new fragments user e = λ i. record { user = user; node = own; boot = boot; version = e i; full = not (is_empty fragments user); profile = None }
