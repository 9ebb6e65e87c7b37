-- How a table and its index of users stay together.
use Rattle.std.proofs.Common.{◌≡◌, ◌⊎◌, inl, inr, ⊎_elim, ℕ, Bool, true, false, cond, List, [], ◌∷◌, map, Option, Some, None, IsSome, is_some, Ok, refl, sym, ap, subst, ◌∙◌, true≢false, Bor, IfSome}
use Rattle.std.specs.Option.{option_copied}
use Rattle.std.specs.Ordering.{nat_cmp}
use Rattle.std.specs.Cmp.{Equal-is, tied_itself}
use Rattle.std.specs.Cmp.Lexicographic.{slice_cmp, nat_list_cmp_total}
use Rattle.std.specs.Map.{lookup}
use Rattle.std.specs.BTreeMap as tree
use Rattle.std.specs.FinMap as fin
use Rattle.std.specs.FinMap.{get-empty}
use Rattle.std.specs.List.Sorted.{IsStrictlySortedBy}
use Rattle.std.proofs.lemmas.Map.Lookups.{exact_bytes}
use Rattle.mail_model.specs.Identity as plain
use Rattle.mail_model.specs.Identity.{State}
use Rattle.mail_model.specs.Grammar.{IsOfKind}
use Rattle.object_model.specs.Lists.{Among}
use Rattle.object_model.specs.Keys.{key_cmp, user_of}
use Rattle.object_model.specs.States.{join_with}
use Rattle.object_model.proofs.MapLaws.{key_total, key_exact, found, written, kept_other}
use Rattle.object_model.proofs.StateLaws.{later_is}
use Rattle.mail_base.proofs.KeyWrites.{same_or}
use Rattle.mail_base.specs.declared.key.Key.{Key}
use Rattle.mail_base.specs.declared.key.Key.TheVariants.{Profile}
use Rattle.object_table.specs.declared.user_keys.UserKeys.{UserKeys}
use Rattle.object_table.specs.Tables.{Table, taken, HasUser, AreUsers}
use Rattle.object_table.specs.Users.{key_in, Sets, HasSameKeys, Added, TookOut, AreNamesOf, IsIndexed}

-- who stood still stands after a write
stands_more : (states : Table) (key : plain.Key) (state : State) (user : List ℕ) → HasUser user states → HasUser user (fin.insert states key state)
stands_more states key state user p = ⊎_elim
    (λ same. record { key = key; state = state; is = written key_total key_exact states key state; of_user = ap user_of (sym same) ∙ p.of_user })
    (λ apart. record { key = p.key; state = p.state; is = kept_other key_total key_exact states key state p.key apart ∙ p.is; of_user = p.of_user })
    (same_or p.key key)

-- and the user of what is written
stands_new : (states : Table) (key : plain.Key) (state : State) → HasUser (user_of key) (fin.insert states key state)
stands_new states key state = record { key = key; state = state; is = written key_total key_exact states key state; of_user = refl }

-- and nobody else
stands_from : (states : Table) (key : plain.Key) (state : State) (user : List ℕ) → HasUser user (fin.insert states key state) → (user_of key ≡ user) ⊎ HasUser user states
stands_from states key state user p = ⊎_elim
    (λ here. inl (ap user_of (sym here.0) ∙ p.of_user))
    (λ there. inr (record { key = p.key; state = p.state; is = there.1; of_user = p.of_user }))
    (found key_total key_exact states key state p.key p.state p.is)

kinds_more : (states : Table) (key : plain.Key) (state : State) → ((k : plain.Key) (s : State) → fin.get states k ≡ Some s → IsOfKind k s.value) → IsOfKind key state.value
    → (k : plain.Key) (s : State) → fin.get (fin.insert states key state) k ≡ Some s → IsOfKind k s.value
kinds_more states key state kinds kind k s is = ⊎_elim
    (λ here. let P : plain.Key → Type 0 = λ j. IsOfKind j s.value in
    let Q : State → Type 0 = λ t. IsOfKind key t.value in subst P (sym here.0) (subst Q (sym here.1) kind))
    (λ there. kinds k s there.1)
    (found key_total key_exact states key state k s is)

-- a state of its kind is put in place of one
pub replaced : (states : Table) (users : UserKeys) (key : plain.Key) (state : State) → IsIndexed states users → IsSome (fin.get states key) → IsOfKind key state.value
    → IsIndexed (fin.insert states key state) users
replaced states users key state p some kind = record {
  kinds = kinds_more states key state p.kinds kind;
  keys = p.keys;
  standing = λ user h. stands_more states key state user (p.standing user h);
  all = λ user h. ⊎_elim (λ same. subst (λ (u : List ℕ). IsSome (key_in u users)) same (p.all (user_of key) stood)) (λ before. p.all user before) (stands_from states key state user h);
}
  where
    there : (held : Option State) → fin.get states key ≡ held → is_some held ≡ true → HasUser (user_of key) states
    there None e h = absurd (true≢false (sym h))
    there (Some held) e h = record { key = key; state = held; is = e; of_user = refl }

    stood : HasUser (user_of key) states
    stood = there (fin.get states key) refl some

-- one user is another or is not
user_or : (a b : List ℕ) → (a ≡ b) ⊎ (tree.is_at (slice_cmp nat_cmp a) b ≡ false)
user_or a b = by (tree.is_at (slice_cmp nat_cmp a) b) refl
  where
    by : (t : Bool) → tree.is_at (slice_cmp nat_cmp a) b ≡ t → (a ≡ b) ⊎ (tree.is_at (slice_cmp nat_cmp a) b ≡ false)
    by true e = inl (exact_bytes a b ((Equal-is (slice_cmp nat_cmp a b)).0 e))
    by false e = inr e

user_self : (a : List ℕ) → tree.is_at (slice_cmp nat_cmp a) a ≡ true
user_self a = (Equal-is (slice_cmp nat_cmp a a)).1 (tied_itself nat_list_cmp_total a)

sets_here : (user : List ℕ) (key : Option Key) (old new : UserKeys) → Sets user key old new → key_in user new ≡ key
sets_here user key old new sets = sets user ∙ ap (λ b. cond b key (key_in user old)) (user_self user)

sets_there : (user : List ℕ) (key : Option Key) (old new : UserKeys) (other : List ℕ) → Sets user key old new → tree.is_at (slice_cmp nat_cmp user) other ≡ false → key_in other new ≡ key_in other old
sets_there user key old new other sets apart = sets other ∙ ap (λ b. cond b key (key_in other old)) apart

-- what an index has once a user was put into it
pub record HasMore (user : List ℕ) (old new : UserKeys) : Type 0 where
  pub here : IsSome (key_in user new)
  pub more : (other : List ℕ) → IsSome (key_in other old) → IsSome (key_in other new)
  pub only : (other : List ℕ) → IsSome (key_in other new) → (user ≡ other) ⊎ IsSome (key_in other old)
  pub keys : ((other : List ℕ) → IfSome (key_in other old) (λ key. key ≡ Profile other)) → (other : List ℕ) → IfSome (key_in other new) (λ key. key ≡ Profile other)

pub added : (E : Type 0) (user : List ℕ) (fresh : Bool) (old new : UserKeys) → Added {E = E} user (Ok fresh) old new → HasMore user old new
added E user false old new p = record {
  here = ap is_some (p.1 user) ∙ p.0;
  more = λ other h. ap is_some (p.1 other) ∙ h;
  only = λ other h. inr (sym (ap is_some (p.1 other)) ∙ h);
  keys = λ h other. subst (λ (o : Option Key). IfSome o (λ key. key ≡ Profile other)) (sym (p.1 other)) (h other);
}
added E user true old new p = record {
  here = ap is_some own;
  more = λ other h. ⊎_elim (λ same. subst (λ (u : List ℕ). IsSome (key_in u new)) same (ap is_some own)) (λ apart. ap is_some (sets_there user (Some (Profile user)) old new other p.1 apart) ∙ h) (user_or user other);
  only = λ other h. ⊎_elim (λ same. inl same) (λ apart. inr (sym (ap is_some (sets_there user (Some (Profile user)) old new other p.1 apart)) ∙ h)) (user_or user other);
  keys = λ h other. ⊎_elim
      (λ same. subst (λ (u : List ℕ). IfSome (key_in u new) (λ key. key ≡ Profile u)) same (subst (λ (o : Option Key). IfSome o (λ key. key ≡ Profile user)) (sym own) refl))
      (λ apart. subst (λ (o : Option Key). IfSome o (λ key. key ≡ Profile other)) (sym (sets_there user (Some (Profile user)) old new other p.1 apart)) (h other))
      (user_or user other);
}
  where
    own : key_in user new ≡ Some (Profile user)
    own = sets_here user (Some (Profile user)) old new p.1

-- an index that is as before serves as before
pub as_before : (states : Table) (old new : UserKeys) → HasSameKeys old new → IsIndexed states old → IsIndexed states new
as_before states old new same p = record {
  kinds = p.kinds;
  keys = λ user. subst (λ (o : Option Key). IfSome o (λ key. key ≡ Profile user)) (sym (same user)) (p.keys user);
  standing = λ user h. p.standing user (sym (ap is_some (same user)) ∙ h);
  all = λ user h. ap is_some (same user) ∙ p.all user h;
}

-- a new user that is taken out again leaves the index as before
pub taken_back : (E : Type 0) (user : List ℕ) (old mid new : UserKeys) → Added {E = E} user (Ok true) old mid → TookOut user mid new → HasSameKeys old new
taken_back E user old mid new add out other = ⊎_elim
    (λ same. subst (λ (u : List ℕ). key_in u new ≡ key_in u old) same (sets_here user None mid new out ∙ sym add.0))
    (λ apart. sets_there user None mid new other out apart ∙ sets_there user (Some (Profile user)) old mid other add.1 apart)
    (user_or user other)

-- the join of what stood and what is taken is of its kind
joined_kind : (key : plain.Key) (held : Option State) (state : State) → ((s : State) → held ≡ Some s → IsOfKind key s.value) → IsOfKind key state.value → IsOfKind key (join_with held state).value
joined_kind key None state was kind = kind
joined_kind key (Some held) state was kind = later_is (IsOfKind key) held state (was held refl) kind

-- a state is taken, and its user is in the index
pub took_state : (states : Table) (old new : UserKeys) (key : plain.Key) (state : State) → IsIndexed states old → IsOfKind key state.value → HasMore (user_of key) old new → IsIndexed (taken key state states) new
took_state states old new key state p kind more = record {
  kinds = kinds_more states key (join_with (fin.get states key) state) p.kinds (joined_kind key (fin.get states key) state (λ s is. p.kinds key s is) kind);
  keys = more.keys p.keys;
  standing = λ user h. ⊎_elim
      (λ same. subst (λ (u : List ℕ). HasUser u (taken key state states)) same (stands_new states key (join_with (fin.get states key) state)))
      (λ was. stands_more states key (join_with (fin.get states key) state) user (p.standing user was))
      (more.only user h);
  all = λ user h. ⊎_elim
      (λ same. subst (λ (u : List ℕ). IsSome (key_in u new)) same more.here)
      (λ was. more.more user (p.all user was))
      (stands_from states key (join_with (fin.get states key) state) user h);
}

-- what is read is of its key's kind
pub kind_read : (states : Table) (users : UserKeys) (key : plain.Key) (r : Option (Bor State)) → IsIndexed states users → option_copied r ≡ fin.get states key → IfSome r (λ s. IsOfKind key s.now.value)
kind_read states users key None p is = tt
kind_read states users key (Some s) p is = p.kinds key s.now (sym is)

-- the key that the index has for a user is that of the profile
pub profile_key : (states : Table) (users : UserKeys) (user : List ℕ) (key : Key) → IsIndexed states users → key_in user users ≡ Some key → key ≡ Profile user
profile_key states users user key p is = subst (λ (o : Option Key). IfSome o (λ k. k ≡ Profile user)) is (p.keys user)

-- nothing stands of the profile of a user who is not in the index
pub no_profile : (states : Table) (users : UserKeys) (user : List ℕ) → IsIndexed states users → key_in user users ≡ None → None ≡ fin.get states (plain.Key.Profile user)
no_profile states users user p none = by (fin.get states (plain.Key.Profile user)) refl
  where
    by : (held : Option State) → fin.get states (plain.Key.Profile user) ≡ held → None ≡ held
    by None e = refl
    by (Some held) e = absurd (true≢false (sym (p.all user (record { key = plain.Key.Profile user; state = held; is = e; of_user = refl })) ∙ ap is_some none))

-- the names of the entries are those that are looked up
found_or : (user : List ℕ) (e : List ℕ × Key) (rest : Option Key) → is_some rest ≡ true → is_some (cond (tree.is_at (slice_cmp nat_cmp user) e.0) (Some e.1) rest) ≡ true
found_or user e rest h = by (tree.is_at (slice_cmp nat_cmp user) e.0)
  where
    by : (b : Bool) → is_some (cond b (Some e.1) rest) ≡ true
    by true = refl
    by false = h

among_found : (es : List (List ℕ × Key)) (user : List ℕ) → Among user (map (λ e. e.0) es) → is_some (lookup (tree.is_at (slice_cmp nat_cmp user)) es) ≡ true
among_found [] user h = absurd h
among_found (e ∷ es) user (inl is) = ap (λ b. is_some (cond b (Some e.1) (lookup (tree.is_at (slice_cmp nat_cmp user)) es))) (subst (λ (u : List ℕ). tree.is_at (slice_cmp nat_cmp user) u ≡ true) (sym is) (user_self user))
among_found (e ∷ es) user (inr more) = found_or user e (lookup (tree.is_at (slice_cmp nat_cmp user)) es) (among_found es user more)

among_or : (user : List ℕ) (e : List ℕ × Key) (rest : Option Key) (names : List (List ℕ)) → (is_some rest ≡ true → Among user names)
    → is_some (cond (tree.is_at (slice_cmp nat_cmp user) e.0) (Some e.1) rest) ≡ true → Among user (e.0 ∷ names)
among_or user e rest names more h = ⊎_elim
    (λ same. inl (sym same))
    (λ apart. inr (more (sym (ap (λ b. is_some (cond b (Some e.1) rest)) apart) ∙ h)))
    (user_or user e.0)

found_among : (es : List (List ℕ × Key)) (user : List ℕ) → is_some (lookup (tree.is_at (slice_cmp nat_cmp user)) es) ≡ true → Among user (map (λ e. e.0) es)
found_among [] user h = absurd (true≢false (sym h))
found_among (e ∷ es) user h = among_or user e (lookup (tree.is_at (slice_cmp nat_cmp user)) es) (map (λ f. f.0) es) (found_among es user) h

pub names_are : (names : List (List ℕ)) (users : UserKeys) → names ≡ map (λ e. e.0) users.keys.entries → tree.IsOrdered (slice_cmp nat_cmp) users.keys → AreNamesOf names users
names_are names users is ordered = record {
  in_order = subst (λ (ns : List (List ℕ)). IsStrictlySortedBy (slice_cmp nat_cmp) ns) (sym is) ordered;
  inside = λ user h. among_found users.keys.entries user (subst (Among user) is h);
  all = λ user h. subst (Among user) (sym is) (found_among users.keys.entries user h);
}

-- so they are the users of whom something stands
pub users_are : (names : List (List ℕ)) (states : Table) (users : UserKeys) → IsIndexed states users → AreNamesOf names users → AreUsers names states
users_are names states users p names_of = record {
  in_order = names_of.in_order;
  standing = λ user h. p.standing user (names_of.inside user h);
  all = λ user h. names_of.all user (p.all user h);
}

-- nothing, and nobody
pub nothing_indexed : (users : UserKeys) → ((user : List ℕ) → key_in user users ≡ None) → IsIndexed fin.empty users
nothing_indexed users none = record {
  kinds = λ key state is. absurd (true≢false (sym (ap is_some is) ∙ ap is_some (get-empty key_cmp key)));
  keys = λ user. subst (λ (o : Option Key). IfSome o (λ key. key ≡ Profile user)) (sym (none user)) tt;
  standing = λ user h. absurd (true≢false (sym h ∙ ap is_some (none user)));
  all = λ user h. absurd (true≢false (sym (ap is_some h.is) ∙ ap is_some (get-empty key_cmp h.key)));
}
