-- What a log owes to other members, as a test and in words.
use Rattle.std.proofs.Common.{◌≡◌, ◌≢◌, ◌↔◌, inl, inr, ⊎_elim, ℕ, nat_eq, Bool, true, false, true≢false, not, ◌&&◌, ◌||◌, cond, List, [], ◌∷◌, Option, Some, None, refl, sym, ap, ◌∙◌, subst}
use Rattle.std.specs.Prelude.{IsTrue}
use Rattle.std.specs.List.{list_any}
use Rattle.std.specs.FinMap as fin
use Rattle.std.specs.FinMap.{get-entries, entries_sorted}
use Rattle.std.specs.FinMap.Entries.{find}
use Rattle.std.specs.Ordering.{eq_by_cmp}
use Rattle.std.proofs.lemmas.Bool.{and_parts, eqb-true, eq-eqb}
use Rattle.mail_model.specs.Identity.{Key}
use Rattle.object_model.specs.Keys.{key_cmp}
use Rattle.object_model.specs.Lists.{Among}
use Rattle.object_model.specs.Letters.{Membership}
use Rattle.object_model.specs.Sets.{has}
use Rattle.object_model.specs.UpdateLog.{Log, Logged, owes}
use Rattle.cluster_model.specs.Cluster as plain
use Rattle.node_core.specs.Owing.{is_owed, owes_another_of, owes_another, OwesAnother}
use Rattle.node_core.proofs.Pushed.{EachFound, each_found}

or_true : (b : Bool) → (b || true) ≡ true
or_true true = refl
or_true false = refl

-- one of a list passes a test exactly where it is among them
module _ {X : Type 0} (p : X → Bool) where
  some_passes : (xs : List X) → list_any p xs ≡ true → (x : X) × Among x xs × (p x ≡ true)
  some_passes [] e = absurd (true≢false (sym e))
  some_passes (x ∷ xs) e = by (p x) refl (λ h. some_passes xs h) e
    where
      by : (t : Bool) → p x ≡ t → (list_any p xs ≡ true → (y : X) × Among y xs × (p y ≡ true)) → (t || list_any p xs) ≡ true → (y : X) × Among y (x ∷ xs) × (p y ≡ true)
      by true passes rest h = (x, inl refl, passes)
      by false fails rest h = let later = rest h in (later.0, inr later.1, later.2)

  passes_any : (xs : List X) (x : X) → Among x xs → p x ≡ true → list_any p xs ≡ true
  passes_any [] x m e = absurd m
  passes_any (y ∷ xs) x m e = ⊎_elim
      (λ same. ap (λ t. t || list_any p xs) (ap p same ∙ e))
      (λ later. ap (λ t. p y || t) (passes_any xs x later e) ∙ or_true (p y)) m

module _ (log : Log) (to : ℕ) where
  abbrev remains : Key × Logged → Bool
  remains one = has one.1.remaining to

  -- what is found under a key
  found_any : (key : Key) (entry : Logged) (es : List (Key × Logged)) → find key_cmp key es ≡ Some entry → has entry.remaining to ≡ true → list_any (λ one. has one.1.remaining to) es ≡ true
  found_any key entry [] f h = absurd (cc f)
  found_any key entry (one ∷ es) f h = by (λ q. found_any key entry es q h) (eq_by_cmp key_cmp key one.0) f
    where
      same : Some one.1 ≡ Some entry → one.1 ≡ entry
      same q = cc

      by : (find key_cmp key es ≡ Some entry → list_any (λ e. has e.1.remaining to) es ≡ true) → (b : Bool) → cond b (Some one.1) (find key_cmp key es) ≡ Some entry
          → (has one.1.remaining to || list_any (λ e. has e.1.remaining to) es) ≡ true
      by rest true q = ap (λ t. t || list_any (λ (e : Key × Logged). has e.1.remaining to) es) (subst (λ (x : Logged). has x.remaining to ≡ true) (sym (same q)) h)
      by rest false q = ap (λ t. has one.1.remaining to || t) (rest q) ∙ or_true (has one.1.remaining to)

  owes_found : (key : Key) (entry : Logged) → fin.get log key ≡ Some entry → has entry.remaining to ≡ true → owes log to ≡ true
  owes_found key entry stands h = found_any key entry (fin.entries log) (sym (get-entries log key) ∙ stands) h

  found_owed : (es : List (Key × Logged)) → EachFound (fin.entries log) es → list_any (λ one. has one.1.remaining to) es ≡ true
      → (key : Key) × (entry : Logged) × (fin.get log key ≡ Some entry) × (has entry.remaining to ≡ true)
  found_owed [] each e = absurd (true≢false (sym e))
  found_owed (one ∷ es) each e = by (has one.1.remaining to) refl (λ h. found_owed es each.1 h) e
    where
      by : (b : Bool) → has one.1.remaining to ≡ b
          → (list_any (λ e. has e.1.remaining to) es ≡ true → (key : Key) × (entry : Logged) × (fin.get log key ≡ Some entry) × (has entry.remaining to ≡ true))
          → (b || list_any (λ e. has e.1.remaining to) es) ≡ true → (key : Key) × (entry : Logged) × (fin.get log key ≡ Some entry) × (has entry.remaining to ≡ true)
      by true is rest h = (one.0, one.1, get-entries log one.0 ∙ each.0, is)
      by false is rest h = rest h

  owed_entry : owes log to ≡ true → (key : Key) × (entry : Logged) × (fin.get log key ≡ Some entry) × (has entry.remaining to ≡ true)
  owed_entry e = found_owed (fin.entries log) (each_found (fin.entries log) (entries_sorted log)) e

-- both ways to say that another member is owed something
module _ (own : ℕ) (node : plain.Node) where
  is_other : (n : ℕ) → not (nat_eq n own) ≡ true → n ≢ own
  is_other n e = λ same. true≢false (sym e ∙ ap not (eq-eqb n own same))

  is_no_own : (n : ℕ) → n ≢ own → not (nat_eq n own) ≡ true
  is_no_own n apart = by (nat_eq n own) refl
    where
      by : (t : Bool) → nat_eq n own ≡ t → not (nat_eq n own) ≡ true
      by true e = absurd (apart (eqb-true n own e))
      by false e = ap not e

  in_words : (installed : Option Membership) → node.installed ≡ installed → owes_another_of own node.log installed ≡ true → OwesAnother own node
  in_words None is e = absurd (true≢false (sym e))
  in_words (Some membership) is e =
      let found = some_passes (is_owed own node.log) membership.members e in
      let parts = and_parts (not (nat_eq found.0.node own)) (owes node.log found.0.node) found.2 in
      let owed = owed_entry node.log found.0.node parts.1 in
      record {
        membership = membership;
        installed = is;
        member = found.0;
        inside = found.1;
        other = is_other found.0.node parts.0;
        key = owed.0;
        entry = owed.1;
        stands = owed.2;
        remains = owed.3;
      }

  as_test : OwesAnother own node → owes_another own node ≡ true
  as_test o =
      ap (λ (x : Option Membership). owes_another_of own node.log x) o.installed
      ∙ passes_any (is_owed own node.log) o.membership.members o.member o.inside
      (ap (λ t. t && owes node.log o.member.node) (is_no_own o.member.node o.other) ∙ owes_found node.log o.member.node o.key o.entry o.stands o.remains)

  pub owes_words : (owes_another own node ≡ true) ↔ OwesAnother own node
  owes_words = (in_words node.installed refl, as_test)

pub none_owed : (P : Type 0) (owed : Bool) → ((owed ≡ true) ↔ P) → IsTrue (not owed) ↔ (P → ⊥)
none_owed P true both = (λ h p. true≢false (sym h), λ no. absurd (no (both.0 refl)))
none_owed P false both = (λ h p. true≢false (sym (both.1 p)), λ no. refl)
