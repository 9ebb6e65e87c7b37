-- Whether a copy is here stays as the first of several states of one value has it.
use Rattle.std.proofs.Common.{◌≡◌, ℕ, Bool, true, false, cond, List, [], ◌∷◌, ◌++◌, Option, Some, None, refl, sym, ap, ◌∙◌, subst, true≢false, if◌then◌else◌}
use Rattle.std.specs.Ordering.{nat_cmp, is_lt}
use Rattle.std.specs.Cmp.{nat_cmp_total, tied_itself}
use Rattle.std.specs.declared.cmp.Ordering.{Ordering}
use Rattle.std.specs.declared.cmp.Ordering.TheVariants.{Less, Equal, Greater}
use Rattle.std.proofs.lemmas.Map.Lookups.{exact_unsigned}
use Rattle.mail_model.specs.Identity.{Key, Value, State}
use Rattle.mail_model.specs.Identity.Value.{Here, Gone, Secret}
use Rattle.mail_model.specs.Record.{rank_of}
use Rattle.mail_model.specs.Listing.{is_here}
use Rattle.object_model.specs.Keys.{is_same_key}
use Rattle.object_model.specs.States.{is_below, joined, join_with, join_after}
use Rattle.object_model.specs.Said.{said}
use Rattle.object_model.proofs.StateLaws.{joined_above, later_is}
use Rattle.cluster_model.specs.Reads.{is_here_held}
use Rattle.cluster_model.specs.Store.{Store, Update, take_all, updates_of}
use Rattle.cluster_model.proofs.Merged.{says_merge}

-- values of one rank are of one kind
same_kind : (a b : Value) → rank_of a ≡ rank_of b → is_here a ≡ is_here b
same_kind Here Here e = refl
same_kind Here Gone e = absurd (cc e)
same_kind Here (Secret t) e = absurd (cc e)
same_kind Gone Here e = absurd (cc e)
same_kind Gone Gone e = refl
same_kind Gone (Secret t) e = refl
same_kind (Secret s) Here e = absurd (cc e)
same_kind (Secret s) Gone e = refl
same_kind (Secret s) (Secret t) e = refl

-- the value is not of a lower rank than the other
abbrev pub IsNotUnder : Value → Value → Type 0
IsNotUnder value other = nat_cmp (rank_of value) (rank_of other) ≡ Less → ⊥

not_under_self : (value : Value) → IsNotUnder value value
not_under_self value e = absurd (let never : Equal ≡ Less = sym (tied_itself nat_cmp_total (rank_of value)) ∙ e in cc)

below : (a b : State) → nat_cmp (rank_of a.value) (rank_of b.value) ≡ Less → is_below a b ≡ true
below a b e = rw e refl

not_below : (a b : State) → nat_cmp (rank_of a.value) (rank_of b.value) ≡ Greater → is_below a b ≡ false
not_below a b e = rw e refl

-- a join with a state is not under it
pub join_not_under : (held : Option State) (state : State) → IsNotUnder (join_with held state).value state.value
join_not_under None state = not_under_self state.value
join_not_under (Some a) state = λ e. true≢false (sym (below (joined a state) state e) ∙ joined_above a state)

-- what is not under a value stays here or not, as it is joined with states of that value
abbrev IsKept : State → Value → Value → Type 0
IsKept held value now = (is_here now ≡ is_here held.value) × IsNotUnder now value

joined_kept : (held state : State) → IsNotUnder held.value state.value → IsKept held state.value (joined held state).value
joined_kept held state over = by (nat_cmp (rank_of held.value) (rank_of state.value)) refl
  where
    by : (o : Ordering) → nat_cmp (rank_of held.value) (rank_of state.value) ≡ o → IsKept held state.value (joined held state).value
    by Less e = absurd (over e)
    by Equal e = later_is (IsKept held state.value) held state (refl, over)
        (same_kind state.value held.value (sym (exact_unsigned (rank_of held.value) (rank_of state.value) e)), not_under_self state.value)
    by Greater e = subst (IsKept held state.value) (ap (λ (t : Bool). (cond t state held).value) (sym (not_below held state e))) (refl, over)

-- all of these are of that value
abbrev pub AreOf : Value → List State → Type 0
AreOf value [] = Unit {0}
AreOf value (state ∷ states) = (state.value ≡ value) × AreOf value states

abbrev pub TakeAll : Value → List Update → Type 0
TakeAll value [] = Unit {0}
TakeAll value (update ∷ updates) = (update.state.value ≡ value) × TakeAll value updates

kept_after : (value : Value) (states : List State) → AreOf value states → (held : State) → IsNotUnder held.value value → is_here_held (join_after (Some held) states) ≡ is_here held.value
kept_after value [] all held over = refl
kept_after value (state ∷ states) all held over =
    let k = joined_kept held state (subst (IsNotUnder held.value) (sym all.0) over) in
    kept_after value states all.1 (joined held state) (subst (IsNotUnder (joined held state).value) all.0 k.1) ∙ k.0

of_key : (key : Key) (value : Value) (updates : List Update) → TakeAll value updates → AreOf value (updates_of key updates)
of_key key value [] all = tt
of_key key value (update ∷ updates) all = by (of_key key value updates all.1) (is_same_key update.key key)
  where
    by : AreOf value (updates_of key updates) → (b : Bool) → AreOf value ((if b then update.state ∷ [] else []) ++ updates_of key updates)
    by rest true = (all.0, rest)
    by rest false = rest

-- so what a disk says of a key stays here or not, once a state of that value was taken
pub settled : (own : ℕ) (value : Value) (updates : List Update) → TakeAll value updates → (store : Store) (key : Key) (held : State) → said key store.disk ≡ Some held → IsNotUnder held.value value
    → is_here_held (said key (take_all own updates store).disk) ≡ is_here_held (said key store.disk)
settled own value updates all store key held says over =
    ap is_here_held (says_merge own updates store key)
    ∙ ap (λ (o : Option State). is_here_held (join_after o (updates_of key updates))) says
    ∙ kept_after value (updates_of key updates) (of_key key value updates all) held over
    ∙ sym (ap is_here_held says)
