-- States that a record can spell, and their joins.
use Rattle.std.proofs.Common.{◌≡◌, ⊎_elim, Bool, true, false, cond, Option, Some, None, refl, sym, ap, subst, ◌∙◌, arith}
use Rattle.std.specs.FinMap as fin
use Rattle.std.proofs.lemmas.Nat.{or_lt, le_or_r}
use Rattle.mail_model.specs.Identity.{Key, State}
use Rattle.mail_model.specs.Grammar.{IsObject, IsStamp, IsValue, IsOfKind}
use Rattle.object_model.specs.States.{is_below, joined, join_with, is_news}
use Rattle.object_model.proofs.StateLaws.{later_is}
use Rattle.object_model.proofs.MapLaws.{key_total, key_exact, written, kept_other}
use Rattle.mail_base.proofs.KeyWrites.{same_or}
use Rattle.object_table.specs.Tables.{Table, taken}
use Rattle.replica_push.specs.Pushes.{news_of}
use Rattle.node_store.specs.Keeps.{HoldsObjects}

same_some : {X : Type 0} (a b : X) → Some a ≡ Some b → a ≡ b
same_some a b e = cc e

later_stamp : (a b : State) → IsStamp a.stamp → IsStamp b.stamp → IsStamp (joined a b).stamp
later_stamp a b x y = by (is_below a b)
  where
    by : (t : Bool) → IsStamp (cond t b a).stamp
    by true = y
    by false = x

joined_object : (key : Key) (a b : State) → IsObject key a → IsObject key b → IsObject key (joined a b)
joined_object key a b x y = record {
  key_fits = x.key_fits;
  state_fits = record {
    value = later_is IsValue a b x.state_fits.value y.state_fits.value;
    stamp = later_stamp a b x.state_fits.stamp y.state_fits.stamp;
    targets = (
      omega (arith, y.state_fits.targets.0, le_or_r a.targets b.targets),
      or_lt 16 a.targets b.targets x.state_fits.targets.1 y.state_fits.targets.1,
    );
  };
  kind = later_is (IsOfKind key) a b x.kind y.kind;
}

pub join_object : (key : Key) (held : Option State) (state : State) → ((h : State) → held ≡ Some h → IsObject key h) → IsObject key state → IsObject key (join_with held state)
join_object key None state x y = y
join_object key (Some h) state x y = joined_object key h state (x h refl) y

-- what is recorded of news
pub news_object : (key : Key) (state next : State) (table : Table) → HoldsObjects table → IsObject key state → news_of (fin.get table key) state ≡ Some next → IsObject key next
news_object key state next table all one is = by (is_news (fin.get table key) state) is
  where
    by : (b : Bool) → cond b (Some (join_with (fin.get table key) state)) None ≡ Some next → IsObject key next
    by true e = subst (IsObject key) (same_some _ _ e) (join_object key (fin.get table key) state (λ h held. all key h held) one)
    by false e = absurd (cc e)

-- what a table holds after it took the state
pub taken_objects : (key : Key) (state : State) (table : Table) → HoldsObjects table → IsObject key state → HoldsObjects (taken key state table)
taken_objects key state table all one other found is = ⊎_elim
    (λ (same : other ≡ key).
    let here : fin.get (taken key state table) key ≡ Some found = subst (λ (k : Key). fin.get (taken key state table) k ≡ Some found) same is in
    let joins : join_with (fin.get table key) state ≡ found = same_some _ _ (sym (written key_total key_exact table key (join_with (fin.get table key) state)) ∙ here) in
    subst (λ (k : Key). IsObject k found) (sym same) (subst (IsObject key) joins (join_object key (fin.get table key) state (λ h held. all key h held) one)))
    (λ apart. all other found (sym (kept_other key_total key_exact table key (join_with (fin.get table key) state) other apart) ∙ is))
    (same_or other key)

-- what stands after a table took the state is its join with what stood
pub join_stands : (key : Key) (state joined : State) (table new : Table) → new ≡ taken key state table → Some joined ≡ fin.get new key → joined ≡ join_with (fin.get table key) state
join_stands key state joined table new is here =
    same_some joined (join_with (fin.get table key) state)
    (here ∙ ap (λ (t : Table). fin.get t key) is ∙ written key_total key_exact table key (join_with (fin.get table key) state))

pub nothing_stands : (key : Key) (state : State) (table new : Table) → new ≡ taken key state table → None ≡ fin.get new key → ⊥
nothing_stands key state table new is none =
    clash (join_with (fin.get table key) state) (none ∙ ap (λ (t : Table). fin.get t key) is ∙ written key_total key_exact table key (join_with (fin.get table key) state))
  where
    clash : (s : State) → None ≡ Some s → ⊥
    clash s e = cc
