-- What a node does with marks and rows at an install can always be done: each of its tests is decided.
use Rattle.std.proofs.Common.{◌≡◌, ◌⊎◌, inl, inr, ⊎_elim, ℕ, Bool, true, false, List, Option, Some, None, refl, sym, ap, ◌∙◌, subst, true≢false}
use Rattle.mail_model.specs.Identity.{EpochId}
use Rattle.object_model.specs.Letters.{Member, Membership, Row}
use Rattle.maps_model.specs.Cluster.{Node, Disk, member_of, NamesNode, Comes, manager_of}
use Rattle.maps_model.specs.Rules.{KeepsAny, own_row, IsRowKept, IsSpared, IsRowDue, MarkAt, RowAt, Entering}
use Rattle.maps_model.specs.Rules.MarkAt.{TellsItself, Marks, Spares}
use Rattle.maps_model.specs.Rules.RowAt.{Tells, Keeps, Drops}
use Rattle.maps_model.proofs.Lists.{same_some, some_none, same_or_apart}
use Rattle.maps_model.proofs.Telling.{one_boot}

abbrev Decided : Type 0 → Type 0
Decided P = P ⊎ (P → ⊥)

by_number : (a b : ℕ) → Decided (a ≡ b)
by_number a b = ⊎_elim (λ h. inl h.1) (λ h. inr h.1) (same_or_apart a b)

by_epoch : (a b : EpochId) → Decided (a ≡ b)
by_epoch a b = ⊎_elim
    (λ e. ⊎_elim
    (λ f. inl (λ i. record { count = e i; node = f i }))
    (λ apart. inr (λ h. apart (ap (λ (x : EpochId). x.node) h)))
    (by_number a.node b.node))
    (λ apart. inr (λ h. apart (ap (λ (x : EpochId). x.count) h)))
    (by_number a.count b.count)

by_manager : (x : Option ℕ) (n : ℕ) → Decided (x ≡ Some n)
by_manager None n = inr (λ h. none_some n h)
  where
    none_some : (n : ℕ) → None ≡ Some n → ⊥
    none_some n h = cc
by_manager (Some m) n = ⊎_elim (λ e. inl (ap Some e)) (λ apart. inr (λ h. apart (some_same m n h))) (by_number m n)
  where
    some_same : (m n : ℕ) → Some m ≡ Some n → m ≡ n
    some_same m n h = cc

-- whether anything is kept is decided once
keeping : Decided KeepsAny
keeping = inl tt

by_bool : (b : Bool) → (b ≡ true) ⊎ (b ≡ false)
by_bool true = inl refl
by_bool false = inr refl

module _ (own : ℕ) (node : Node) (disk : Disk) (g : Membership) where
  by_member : (m boot : ℕ) (epoch : EpochId) → Decided (Comes g m boot epoch)
  by_member m boot epoch = by (member_of g.members m) refl
    where
      by : (x : Option Member) → member_of g.members m ≡ x → Decided (Comes g m boot epoch)
      by None e = inr (λ c. some_none (member_of g.members m) c.member c.is e)
      by (Some member) e = ⊎_elim
          (λ same. ⊎_elim
          (λ from. inl (record { member = member; is = e; same = same; from = from }))
          (λ apart. inr (λ c. apart (ap (λ (x : Member). x.was) (same_some (member_of g.members m) member c.member e c.is) ∙ c.from)))
          (by_epoch member.was epoch))
          (λ apart. inr (λ c. apart (ap (λ (x : Member). x.boot) (same_some (member_of g.members m) member c.member e c.is) ∙ c.same)))
          (by_number member.boot boot)

  kept : (m boot : ℕ) (user : List ℕ) → Decided (IsRowKept own node g m boot user)
  kept m boot user = by node.installed refl
    where
      by : (x : Option Membership) → node.installed ≡ x → Decided (IsRowKept own node g m boot user)
      by None e = inr (λ k. some_none node.installed k.old k.installed e)
      by (Some old) e =
          let is_old : (k : IsRowKept own node g m boot user) → k.old ≡ old = λ k. same_some node.installed k.old old k.installed e in
          ⊎_elim
          (λ managed. ⊎_elim
          (λ manages. ⊎_elim
          (λ comes. ⊎_elim (λ may. inl (record { old = old; installed = e; managed = managed; manages = manages; comes = comes; allowed = may })) (λ never. inr (λ k. never k.allowed)) keeping)
          (λ never. inr (λ k. never (subst (λ (x : Membership). Comes g m boot x.epoch) (is_old k) k.comes)))
          (by_member m boot old.epoch))
          (λ never. inr (λ k. never k.manages))
          (by_manager (manager_of g user) own))
          (λ never. inr (λ k. never (subst (λ (x : Membership). manager_of x user ≡ Some own) (is_old k) k.managed)))
          (by_manager (manager_of old user) own)

  spared : (user : List ℕ) → Decided (IsSpared node g user)
  spared user = by node.installed (manager_of g user) refl refl
    where
      by : (x : Option Membership) (y : Option ℕ) → node.installed ≡ x → manager_of g user ≡ y → Decided (IsSpared node g user)
      by None y e f = inr (λ s. some_none node.installed s.old s.installed e)
      by (Some old) None e f = inr (λ s. some_none (manager_of g user) s.manager s.after f)
      by (Some old) (Some manager) e f =
          let is_old : (s : IsSpared node g user) → s.old ≡ old = λ s. same_some node.installed s.old old s.installed e in
          let is_it : (s : IsSpared node g user) → s.manager ≡ manager = λ s. same_some (manager_of g user) s.manager manager s.after f in
          ⊎_elim
          (λ before. comes_from old manager e f before is_old is_it (member_of g.members manager) refl)
          (λ never. inr (λ s. never (subst (λ (x : Membership). manager_of x user ≡ Some manager) (is_old s) (s.before ∙ ap Some (is_it s)))))
          (by_manager (manager_of old user) manager)
        where
          comes_from : (old : Membership) (manager : ℕ) → node.installed ≡ Some old → manager_of g user ≡ Some manager → manager_of old user ≡ Some manager
              → ((s : IsSpared node g user) → s.old ≡ old) → ((s : IsSpared node g user) → s.manager ≡ manager)
              → (x : Option Member) → member_of g.members manager ≡ x → Decided (IsSpared node g user)
          comes_from old manager e f before is_old is_it None h = inr (λ s. some_none (member_of g.members manager) s.member (subst (λ k. member_of g.members k ≡ Some s.member) (is_it s) s.is) h)
          comes_from old manager e f before is_old is_it (Some member) h = ⊎_elim
              (λ from. ⊎_elim (λ may. inl (record { old = old; installed = e; manager = manager; before = before; after = f; member = member; is = h; from = from; allowed = may })) (λ never. inr (λ s. never s.allowed)) keeping)
              (λ never. inr (λ s. never (ap (λ (x : Member). x.was) (same_some (member_of g.members manager) member s.member h (subst (λ k. member_of g.members k ≡ Some s.member) (is_it s) s.is))
              ∙ s.from ∙ ap (λ (x : Membership). x.epoch) (is_old s))))
              (by_epoch member.was old.epoch)

  -- a user is due, or has no mark and either no message or a manager that spares it
  due : (user : List ℕ) → IsRowDue node disk g user ⊎ ((node.marked user ≡ false) × ((disk.holds user ≡ false) ⊎ IsSpared node g user))
  due user = ⊎_elim
      (λ marked. inl (inl marked))
      (λ none. ⊎_elim
      (λ held. ⊎_elim (λ s. inr (none, inr s)) (λ never. inl (inr (held, never))) (spared user))
      (λ empty. inr (none, inl empty))
      (by_bool (disk.holds user)))
      (by_bool (node.marked user))

  undue : (user : List ℕ) → node.marked user ≡ false → (disk.holds user ≡ false) ⊎ IsSpared node g user → IsRowDue node disk g user → ⊥
  undue user none why (inl marked) = true≢false (sym marked ∙ none)
  undue user none why (inr d) = ⊎_elim (λ empty. true≢false (sym d.0 ∙ empty)) (λ s. d.1 s) why

  mark_at : (user : List ℕ) → (marked : Bool) × MarkAt own node disk g user marked
  mark_at user = ⊎_elim
      (λ managed. (false, TellsItself managed refl))
      (λ other. ⊎_elim (λ is_due. (true, Marks other is_due refl)) (λ no_due. (false, Spares other no_due.0 no_due.1 refl)) (due user))
      (by_manager (manager_of g user) own)

  keep_or_drop : (m boot : ℕ) (user : List ℕ) → (m ≡ own → boot ≡ node.boot → manager_of g user ≡ Some own → IsRowDue node disk g user → ⊥) → (IsRowKept own node g m boot user → m ≡ own → IsRowDue node disk g user → ⊥)
      → (row : Option Row) × RowAt own node disk g m boot user row
  keep_or_drop m boot user dropped keeps = ⊎_elim
      (λ k. (node.rows m boot user, Keeps k (keeps k) refl))
      (λ never. (None, Drops never dropped refl))
      (kept m boot user)

  module _ (names : NamesNode g own node.boot) where
    row_at : (m boot : ℕ) (user : List ℕ) → (row : Option Row) × RowAt own node disk g m boot user row
    row_at m boot user = ⊎_elim
        (λ mine. ⊎_elim
        (λ its. ⊎_elim
        (λ managed. ⊎_elim
        (λ is_due. (Some (own_row own node disk user), Tells mine its managed is_due refl))
        (λ no_due. keep_or_drop m boot user (λ a b c d. undue user no_due.0 no_due.1 d) (λ k a d. undue user no_due.0 no_due.1 d))
        (due user))
        (λ other. keep_or_drop m boot user (λ a b c d. other c) (λ k a d. other k.manages))
        (by_manager (manager_of g user) own))
        (λ apart. keep_or_drop m boot user (λ a b c d. apart b) (λ k a d. apart (one_boot g own boot node.boot
        (subst (λ x. NamesNode g x boot) mine (record { member = k.comes.member; is = k.comes.is; same = k.comes.same })) names)))
        (by_number boot node.boot))
        (λ apart. keep_or_drop m boot user (λ a b c d. apart a) (λ k a d. apart a))
        (by_number m own)

    pub can_enter : (marked : List ℕ → Bool) × ((rows : ℕ → ℕ → List ℕ → Option Row) × Entering own node disk g marked rows)
    can_enter = (
      λ user. (mark_at user).0,
      (
        λ m boot user. (row_at m boot user).0,
        record {
          marks = λ user. (mark_at user).1;
          keeps = λ m boot user. (row_at m boot user).1;
        },
      ),
    )
