-- That the calls do to versions and marks what the machine does.
use Rattle.std.proofs.Common.{◌≡◌, ◌≢◌, ◌⊎◌, inl, inr, ⊎_elim, ◌≤◌, ◌+◌, ℕ, zero, suc, Bool, true, false, true≢false, ◌&&◌, ◌||◌, nat_eq, cond, List, [], ◌∷◌, take, Some, refl, sym, ap, ◌∙◌, subst, arith}
use Rattle.std.proofs.lemmas.Bool.{eqb-true, eq-eqb}
use Rattle.std.specs.Ordering.{nat_cmp, eq_by_cmp}
use Rattle.std.specs.Cmp.Lexicographic.{slice_cmp, pointwise, texts_ties}
use Rattle.std.specs.List.{filter}
use Rattle.mail_model.specs.Identity.{EpochId}
use Rattle.object_model.specs.Keys.{is_same_epoch}
use Rattle.object_model.specs.Lists.{Among}
use Rattle.maps_model.specs.Cluster.{Node, Disk, manager_of, manages, manages_in}
use Rattle.maps_model.specs.Rules as rules
use Rattle.maps_model.specs.Rules.{set_at, MarkAt, HearsAck}
use Rattle.maps_model.specs.Rules.MarkAt.{TellsItself, Marks, Spares}
use Rattle.maps_model.specs.Rules.HearsAck.{Clears, Other}
use Rattle.maps_model.proofs.Lists.{one_or_other, same_or_apart}
use Rattle.user_map.specs.Managers.{is_managed_by}
use Rattle.user_map.proofs.Managed.{node_is, is_node, epoch_is, is_epoch}
use Rattle.map_rebuild.specs.Users.{has_user}
use Rattle.map_rebuild.specs.Rows.{version_of, is_marked, marked_users, install_epoch, marks_of_install, KeepsVersions, SetsVersion, is_due_at, counted_before}
use Rattle.map_rebuild.specs.Laws.{Remembers, ChangesAsMachine, TellsAsMachine, AcknowledgesAsMachine, ReportsAsMachine, MarksBuckets, is_in_bucket, users_in, TellsUsers, IsNamed, InstallsAsMachine, InstallsCountAtMost}
use Rattle.map_rebuild.specs.declared.reports.Reports.{Reports}

-- a write at one user of functions that agree
set_alike : {X : Type 0} (f g : List ℕ → X) (user : List ℕ) (x : X) → ((u : List ℕ) → f u ≡ g u) → (u : List ℕ) → set_at f user x u ≡ set_at g user x u
set_alike f g user x same u = ap (λ y. cond (pointwise nat_eq u user) x y) (same u)

-- what a write puts at a user, and what stands at another
set_here : {X : Type 0} (f : List ℕ → X) (user u : List ℕ) (x : X) → pointwise nat_eq u user ≡ true → set_at f user x u ≡ x
set_here f user u x e = ap (λ t. cond t x (f u)) e

set_there : {X : Type 0} (f : List ℕ → X) (user u : List ℕ) (x : X) → pointwise nat_eq u user ≡ false → set_at f user x u ≡ f u
set_there f user u x e = ap (λ t. cond t x (f u)) e

module _ (own : ℕ) (node : Node) (disk : Disk) (user : List ℕ) (full : Bool) where
  abbrev after : Node
  after = (rules.change own node disk user full).node

  after_version : (b : Bool) → manages_in node.installed own user ≡ b → (u : List ℕ) → after.version u ≡ set_at node.version user (node.version user + 1) u
  after_version true e u = rw e refl
  after_version false e u = rw e refl

  pub version_after : (u : List ℕ) → after.version u ≡ set_at node.version user (node.version user + 1) u
  version_after u = after_version (manages_in node.installed own user) refl u

  pub marked_other : manages_in node.installed own user ≡ false → (u : List ℕ) → after.marked u ≡ set_at node.marked user true u
  marked_other e u = rw e refl

  pub marked_own : manages_in node.installed own user ≡ true → (u : List ℕ) → after.marked u ≡ node.marked u
  marked_own e u = rw e refl

  module _ (old new : Reports) (had : Remembers old node) where
    pub versions_set : SetsVersion old new user (version_of old user + 1) → (u : List ℕ) → version_of new u ≡ after.version u
    versions_set sets u =
        sets u
        ∙ ap (λ v. set_at (version_of old) user (v + 1) u) (had.versions user)
        ∙ set_alike (version_of old) node.version user (node.version user + 1) had.versions u
        ∙ sym (version_after u)

pub changes : ChangesAsMachine
changes own node disk user full old new had other sets marks = record {
  versions = versions_set own node disk user full old new had sets;
  marks = λ u. marks u ∙ set_alike (is_marked old) node.marked user true had.marks u ∙ sym (marked_other own node disk user full other u);
}

pub tells : TellsAsMachine
tells own node disk user full old mid new had mine free sets marks keeps clears = record {
  versions = λ u. keeps u ∙ versions_set own node disk user full old mid had sets u;
  marks = λ u. clears u ∙ back u ∙ sym (marked_own own node disk user full mine u);
}
  where
    back : (u : List ℕ) → set_at (is_marked mid) user false u ≡ node.marked u
    back u = ⊎_elim
        (λ same. set_here (is_marked mid) user u false same.0 ∙ sym free ∙ ap node.marked (sym same.1))
        (λ apart. set_there (is_marked mid) user u false apart.0 ∙ marks u ∙ set_there (is_marked old) user u true apart.0 ∙ had.marks u)
        (one_or_other u user)

pub acknowledges : AcknowledgesAsMachine
acknowledges node disk letter user version result old new had membership installed epoch answer clears keeps = by (same_or_apart (node.version user) version)
  where
    cleared : (b : Bool) → result ≡ b → is_due_at old user version ≡ b → node.version user ≡ version → (u : List ℕ) → is_marked new u ≡ set_at node.marked user false u
    cleared true e due same u = clears u ∙ ap (λ t. cond t (set_at (is_marked old) user false u) (is_marked old u)) e ∙ set_alike (is_marked old) node.marked user false had.marks u
    cleared false e due same u =
        clears u
        ∙ ap (λ t. cond t (set_at (is_marked old) user false u) (is_marked old u)) e
        ∙ had.marks u
        ∙ ⊎_elim
        (λ here. ap node.marked here.1 ∙ sym (had.marks user) ∙ unmarked ∙ sym (set_here node.marked user u false here.0))
        (λ there. sym (set_there node.marked user u false there.0))
        (one_or_other u user)
      where
        drop_true : (a b : Bool) → b ≡ true → (a && b) ≡ false → a ≡ false
        drop_true true b x y = absurd (true≢false (sym x ∙ y))
        drop_true false b x y = refl

        unmarked : is_marked old user ≡ false
        unmarked = drop_true (is_marked old user) (nat_eq (version_of old user) version) (eq-eqb (version_of old user) version (had.versions user ∙ same)) due

    never_due : (node.version user ≢ version) → result ≡ false
    never_due apart = by_test (nat_eq (version_of old user) version) refl
      where
        no_and : (a b : Bool) → b ≡ false → (a && b) ≡ false
        no_and true b e = e
        no_and false b e = refl

        by_test : (t : Bool) → nat_eq (version_of old user) version ≡ t → result ≡ false
        by_test true e = absurd (apart (sym (had.versions user) ∙ eqb-true (version_of old user) version e))
        by_test false e = answer ∙ no_and (is_marked old user) (nat_eq (version_of old user) version) e

    by : ((nat_eq (node.version user) version ≡ true) × (node.version user ≡ version)) ⊎ ((nat_eq (node.version user) version ≡ false) × (node.version user ≢ version))
        → (did : rules.Reaction) × HearsAck node disk letter user version did × Remembers new did.node
    by (inl same) = (
      rules.idle (record node { marked = set_at node.marked user false }) disk,
      Clears membership installed epoch same.1 refl,
      record { versions = λ u. keeps u ∙ had.versions u; marks = cleared result refl (sym answer) same.1 },
    )
    by (inr apart) = (
      rules.idle node disk,
      Other membership installed epoch apart.1 refl,
      record {
        versions = λ u. keeps u ∙ had.versions u;
        marks = λ u. clears u ∙ ap (λ t. cond t (set_at (is_marked old) user false u) (is_marked old u)) (never_due apart.1) ∙ had.marks u;
      },
    )

-- those that are taken of a list that a test filtered are of the list, and pass the test
among_taken : (most : ℕ) (users : List (List ℕ)) (user : List ℕ) → Among user (take most users) → Among user users
among_taken zero users user h = absurd h
among_taken (suc most) [] user h = absurd h
among_taken (suc most) (one ∷ users) user (inl same) = inl same
among_taken (suc most) (one ∷ users) user (inr later) = inr (among_taken most users user later)

pub among_filtered : (p : List ℕ → Bool) (users : List (List ℕ)) (user : List ℕ) → Among user (filter p users) → Among user users × (p user ≡ true)
among_filtered p [] user h = absurd h
among_filtered p (one ∷ users) user h = by (p one) refl (λ later. among_filtered p users user later) h
  where
    by : (t : Bool) → p one ≡ t → (Among user (filter p users) → Among user users × (p user ≡ true)) → Among user (cond t (one ∷ filter p users) (filter p users)) → Among user (one ∷ users) × (p user ≡ true)
    by true e rest (inl same) = (inl same, subst (λ u. p u ≡ true) same e)
    by true e rest (inr later) = let found = rest later in (inr found.0, found.1)
    by false e rest h = let found = rest h in (inr found.0, found.1)

pub same_is : (user : List ℕ) → eq_by_cmp (slice_cmp nat_cmp) user user ≡ true
same_is user = ⊎_elim (λ same. sym (texts_ties user user) ∙ same.0) (λ apart. absurd (apart.1 refl)) (one_or_other user user)

pub among_has : (users : List (List ℕ)) (user : List ℕ) → Among user users → has_user users user ≡ true
among_has [] user h = absurd h
among_has (one ∷ users) user (inl same) = ap (λ b. b || has_user users user) (subst (λ u. eq_by_cmp (slice_cmp nat_cmp) u one ≡ true) same (same_is one))
among_has (one ∷ users) user (inr later) = either (eq_by_cmp (slice_cmp nat_cmp) user one) (has_user users user) (among_has users user later)
  where
    either : (a b : Bool) → b ≡ true → (a || b) ≡ true
    either true b e = refl
    either false b e = e

pub reports_due : ReportsAsMachine
reports_due own to most node disk reports membership had installed other = (
  record { node = node; disk = disk; out = _ },
  record {
    membership = membership;
    within = installed;
    other = other;
    due = λ user h.
        let found = among_filtered (is_managed_by membership.map to) (marked_users reports) user (among_taken most (filter (is_managed_by membership.map to) (marked_users reports)) user h) in
        (sym (had.marks user) ∙ among_has (marked_users reports) user found.0, node_is (manager_of membership user) to found.1);
    is = refl;
  },
  had,
)

or_none : (b : Bool) → (b || false) ≡ b
or_none true = refl
or_none false = refl

or_more : (a b c : Bool) → ((a || b) || c) ≡ (a || (b || c))
or_more true b c = refl
or_more false b c = refl

-- what the calls for all buckets do to marks and versions
marked_all : (epoch : EpochId) (buckets : List (List (List ℕ))) (old new : Reports) → MarksBuckets epoch buckets old new → (user : List ℕ) → is_marked new user ≡ (is_marked old user || is_in_bucket buckets user)
marked_all epoch [] old new is user = ap (λ (r : Reports). is_marked r user) is ∙ sym (or_none (is_marked old user))
marked_all epoch (users ∷ more) old new (mid, step, rest) user =
    marked_all epoch more mid new rest user
    ∙ ap (λ b. b || is_in_bucket more user) (step.marks user)
    ∙ or_more (is_marked old user) (has_user users user) (is_in_bucket more user)

kept_all : (epoch : EpochId) (buckets : List (List (List ℕ))) (old new : Reports) → MarksBuckets epoch buckets old new → KeepsVersions old new
kept_all epoch [] old new is user = ap (λ (r : Reports). version_of r user) is
kept_all epoch (users ∷ more) old new (mid, step, rest) user = kept_all epoch more mid new rest user ∙ step.versions user

-- and what it does to them that users are told
told_versions : (told : List (List ℕ)) (old new : Reports) → TellsUsers told old new → KeepsVersions old new
told_versions [] old new is user = ap (λ (r : Reports). version_of r user) is
told_versions (one ∷ more) old new (mid, step, rest) user = told_versions more mid new rest user ∙ step.1 user

stays_clear : (told : List (List ℕ)) (old new : Reports) → TellsUsers told old new → (user : List ℕ) → is_marked old user ≡ false → is_marked new user ≡ false
stays_clear [] old new is user e = ap (λ (r : Reports). is_marked r user) is ∙ e
stays_clear (one ∷ more) old new (mid, step, rest) user e = stays_clear more mid new rest user (step.0 user ∙ by (pointwise nat_eq user one))
  where
    by : (t : Bool) → cond t false (is_marked old user) ≡ false
    by true = refl
    by false = e

told_clear : (told : List (List ℕ)) (old new : Reports) → TellsUsers told old new → (user : List ℕ) → has_user told user ≡ true → is_marked new user ≡ false
told_clear [] old new is user h = absurd (true≢false (sym h))
told_clear (one ∷ more) old new (mid, step, rest) user h = by (eq_by_cmp (slice_cmp nat_cmp) user one) refl (λ k. told_clear more mid new rest user k) h
  where
    by : (t : Bool) → eq_by_cmp (slice_cmp nat_cmp) user one ≡ t → (has_user more user ≡ true → is_marked new user ≡ false) → (t || has_user more user) ≡ true → is_marked new user ≡ false
    by true e later h = stays_clear more mid new rest user (step.0 user ∙ set_here (is_marked old) one user false (texts_ties user one ∙ e))
    by false e later h = later h

untold_stays : (told : List (List ℕ)) (old new : Reports) → TellsUsers told old new → (user : List ℕ) → has_user told user ≡ false → is_marked new user ≡ is_marked old user
untold_stays [] old new is user h = ap (λ (r : Reports). is_marked r user) is
untold_stays (one ∷ more) old new (mid, step, rest) user h = by (eq_by_cmp (slice_cmp nat_cmp) user one) refl (λ k. untold_stays more mid new rest user k) h
  where
    by : (t : Bool) → eq_by_cmp (slice_cmp nat_cmp) user one ≡ t → (has_user more user ≡ false → is_marked new user ≡ is_marked mid user) → (t || has_user more user) ≡ false → is_marked new user ≡ is_marked old user
    by true e later h = absurd (true≢false h)
    by false e later h = later h ∙ step.0 user ∙ set_there (is_marked old) one user false (texts_ties user one ∙ e)

pub installs : InstallsAsMachine
installs own node disk membership buckets told old mid new had marks tells named mine all user = (at, told_versions told mid new tells user ∙ kept_all membership.epoch buckets old mid marks user ∙ had.versions user)
  where
    marked_mid : is_marked mid user ≡ (node.marked user || is_in_bucket buckets user)
    marked_mid = marked_all membership.epoch buckets old mid marks user ∙ ap (λ b. b || is_in_bucket buckets user) (had.marks user)

    not_mine : manages membership own user ≡ false → manager_of membership user ≡ Some own → ⊥
    not_mine e is = true≢false (sym (is_node (manager_of membership user) own is) ∙ e)

    untold : manages membership own user ≡ false → (t : Bool) → has_user told user ≡ t → is_marked new user ≡ is_marked mid user
    untold e true h = absurd (true≢false (sym (mine user h) ∙ e))
    untold e false h = untold_stays told mid new tells user h

    other : manages membership own user ≡ false → (m n : Bool) → node.marked user ≡ m → is_in_bucket buckets user ≡ n → IsNamed node disk membership user n → MarkAt own node disk membership user (is_marked new user)
    other e true n was is names = Marks (not_mine e) (inl was) (untold e (has_user told user) refl ∙ marked_mid ∙ ap (λ b. b || is_in_bucket buckets user) was)
    other e false true was is names = Marks (not_mine e) (inr names) (untold e (has_user told user) refl ∙ marked_mid ∙ ap (λ b. b || is_in_bucket buckets user) was ∙ is)
    other e false false was is names = Spares (not_mine e) was names (untold e (has_user told user) refl ∙ marked_mid ∙ ap (λ b. b || is_in_bucket buckets user) was ∙ is)

    own_clear : manages membership own user ≡ true → (t : Bool) → is_marked mid user ≡ t → is_marked new user ≡ false
    own_clear e true m = told_clear told mid new tells user (all user e m)
    own_clear e false m = stays_clear told mid new tells user m

    by : (t : Bool) → manages membership own user ≡ t → MarkAt own node disk membership user (is_marked new user)
    by true e = TellsItself (node_is (manager_of membership user) own e) (own_clear e (is_marked mid user) refl)
    by false e = other e (node.marked user) (is_in_bucket buckets user) refl refl (named user)

    at : MarkAt own node disk membership user (is_marked new user)
    at = by (manages membership own user) refl

-- what was counted for this epoch grows by no more than the users of a bucket
counts : (epoch : EpochId) (buckets : List (List (List ℕ))) (old new : Reports) → MarksBuckets epoch buckets old new → counted_before epoch new ≤ counted_before epoch old + users_in buckets
counts epoch [] old new is = let same : counted_before epoch new ≡ counted_before epoch old = ap (λ (r : Reports). counted_before epoch r) is in omega (arith, same)
counts epoch (users ∷ more) old new (mid, step, rest) =
    let later = counts epoch more mid new rest in
    let now : counted_before epoch mid ≡ marks_of_install mid = ap (λ t. cond t (marks_of_install mid) 0) (is_epoch (install_epoch mid) epoch step.noted) in
    let bound = step.bound in
    omega (arith, later, now, bound)

pub counts_at_most : InstallsCountAtMost
counts_at_most epoch buckets old new apart marks =
    let grown = counts epoch buckets old new marks in
    let none : counted_before epoch old ≡ 0 = by (is_same_epoch (install_epoch old) epoch) refl in
    omega (arith, grown, none)
  where
    by : (t : Bool) → is_same_epoch (install_epoch old) epoch ≡ t → cond t (marks_of_install old) 0 ≡ 0
    by true e = absurd (apart (epoch_is (install_epoch old) epoch e))
    by false e = refl
