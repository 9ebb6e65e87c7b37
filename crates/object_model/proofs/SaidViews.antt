-- What single records say of a copy, and what their join says.
use Rattle.std.proofs.Common.{◌≡◌, ◌⊎◌, inl, inr, ⊎_elim, ℕ, Bool, true, false, cond, List, [], ◌∷◌, ◌++◌, Some, All, refl, sym, ◌∙◌, subst, true≢false}
use Rattle.std.proofs.lemmas.List.Elements.{All-head, All-tail}
use Rattle.mail_model.specs.Identity.{Id, Stamp, Key, Value, State}
use Rattle.mail_model.specs.Identity.Key.{Message}
use Rattle.mail_model.specs.Identity.Value.{Here, Gone, Secret}
use Rattle.mail_model.specs.Record.{Record, IsAmongRecords}
use Rattle.mail_model.specs.Record.Record.{Boot, Promise, Octets, Stated, Retired}
use Rattle.mail_model.specs.Grammar.{IsOfKind, IsRecord}
use Rattle.object_model.specs.Lists.{Among}
use Rattle.object_model.specs.Keys.{is_same_key}
use Rattle.object_model.specs.States.{is_below, join_all, join_with, join_after}
use Rattle.object_model.specs.Merge.{IsMerge}
use Rattle.object_model.specs.Said.{said, states_in}
use Rattle.object_model.specs.Views.{HereIsSaid, GoneIsSaid}
use Rattle.object_model.proofs.StateLaws.{key_is, key_self}
use Rattle.object_model.proofs.Merges.{join_is_merge, says_join}

-- a state is among those of its key where a record has it

onto_more : (b : Bool) (one state : State) (more : List State) → Among state more → Among state ((cond b (one ∷ []) []) ++ more)
onto_more true one state more a = inr a
onto_more false one state more a = a

onto_first : (b : Bool) (one : State) (more : List State) → b ≡ true → Among one ((cond b (one ∷ []) []) ++ more)
onto_first true one more is = inl refl
onto_first false one more is = absurd (true≢false (sym is))

from_onto : (b : Bool) (one state : State) (more : List State) → Among state ((cond b (one ∷ []) []) ++ more) → ((b ≡ true) × (one ≡ state)) ⊎ Among state more
from_onto true one state more (inl e) = inl (refl, e)
from_onto true one state more (inr a) = inr a
from_onto false one state more a = inr a

member_in : (key : Key) (state : State) (records : List Record) → IsAmongRecords (Stated key state) records → Among state (states_in key records)
member_in key state [] m = absurd m
member_in key state (Stated other one ∷ records) (inl e) =
    let keys : other ≡ key = cc in
    let states : one ≡ state = cc in
    let same : is_same_key other key ≡ true = subst (λ (k : Key). is_same_key k key ≡ true) (sym keys) (key_self key) in
    subst (λ (s : State). Among s ((cond (is_same_key other key) (one ∷ []) []) ++ states_in key records)) states (onto_first (is_same_key other key) one (states_in key records) same)
member_in key state (Stated other one ∷ records) (inr m) = onto_more (is_same_key other key) one state (states_in key records) (member_in key state records m)
member_in key state (Boot boot ∷ records) (inl e) = cc
member_in key state (Boot boot ∷ records) (inr m) = member_in key state records m
member_in key state (Promise epoch ∷ records) (inl e) = cc
member_in key state (Promise epoch ∷ records) (inr m) = member_in key state records m
member_in key state (Octets id octets ∷ records) (inl e) = cc
member_in key state (Octets id octets ∷ records) (inr m) = member_in key state records m
member_in key state (Retired other one ∷ records) (inl e) = cc
member_in key state (Retired other one ∷ records) (inr m) = member_in key state records m

in_member : (key : Key) (state : State) (records : List Record) → Among state (states_in key records) → IsAmongRecords (Stated key state) records
in_member key state [] a = absurd a
in_member key state (Stated other one ∷ records) a = ⊎_elim
    (λ first. let keys : other ≡ key = key_is other key first.0 in inl (λ i. Stated (keys i) (first.1 i)))
    (λ later. inr (in_member key state records later))
    (from_onto (is_same_key other key) one state (states_in key records) a)
in_member key state (Boot boot ∷ records) a = inr (in_member key state records a)
in_member key state (Promise epoch ∷ records) a = inr (in_member key state records a)
in_member key state (Octets id octets ∷ records) a = inr (in_member key state records a)
in_member key state (Retired other one ∷ records) a = inr (in_member key state records a)

-- a state of a copy is here or gone
kind_in : (key : Key) (state : State) (records : List Record) → All IsRecord records → IsAmongRecords (Stated key state) records → IsOfKind key state.value
kind_in key state [] all m = absurd m
kind_in key state (first ∷ records) all (inl e) = let is : IsRecord (Stated key state) = subst IsRecord e (All-head IsRecord first records all) in is.kind
kind_in key state (first ∷ records) all (inr m) = kind_in key state records (All-tail IsRecord first records all) m

-- a join of what is there is something
some_after : (held : State) (states : List State) → (join : State) × (join_after (Some held) states ≡ Some join)
some_after held [] = (held, refl)
some_after held (state ∷ states) = some_after (join_with (Some held) state) states

some_join : (state : State) (states : List State) → Among state states → (join : State) × (join_all states ≡ Some join)
some_join state [] a = absurd a
some_join state (first ∷ states) a = some_after first states

-- Gone is above Here
gone_above : (here gone : State) → here.value ≡ Here → gone.value ≡ Gone → is_below here gone ≡ true
gone_above here gone is is_gone = rw (is, is_gone) refl

-- what is said of a copy, as the merge of its states
said_is : (user : List ℕ) (id : Id) (records : List Record) (state : State) → said (Message user id) records ≡ Some state → IsMerge (states_in (Message user id) records) state
said_is user id records state e = join_is_merge (states_in (Message user id) records) state (sym (says_join (Message user id) records) ∙ e)

said_some : (user : List ℕ) (id : Id) (records : List Record) (one : State) → IsAmongRecords (Stated (Message user id) one) records → (state : State) × (said (Message user id) records ≡ Some state)
said_some user id records one m =
    let join = some_join one (states_in (Message user id) records) (member_in (Message user id) one records m) in
    (join.0, says_join (Message user id) records ∙ join.1)

-- a merge with a state that is gone is gone
gone_there : (user : List ℕ) (id : Id) (records : List Record) (state one : State) → All IsRecord records → said (Message user id) records ≡ Some state
    → IsAmongRecords (Stated (Message user id) one) records → one.value ≡ Gone → state.value ≡ Gone
gone_there user id records state one all e m gone =
    let merge = said_is user id records state e in
    let kind = kind_in (Message user id) merge.top records all (in_member (Message user id) merge.top records merge.inside) in
    by_value state.value refl (subst (IsOfKind (Message user id)) (sym merge.same_value) kind)
  where
    by_value : (value : Value) → state.value ≡ value → IsOfKind (Message user id) value → value ≡ Gone
    by_value Here is k =
        absurd (true≢false (sym (gone_above state one is gone) ∙ (said_is user id records state e).greatest one (member_in (Message user id) one records m)))
    by_value Gone is k = refl
    by_value (Secret octets) is k = absurd k

-- the state whose value the merge has
top_in : (user : List ℕ) (id : Id) (records : List Record) (state : State) → said (Message user id) records ≡ Some state
    → (top : State) × IsAmongRecords (Stated (Message user id) top) records × (state.value ≡ top.value)
top_in user id records state e =
    let merge = said_is user id records state e in
    (merge.top, in_member (Message user id) merge.top records merge.inside, merge.same_value)

pub gone_is_said : GoneIsSaid
gone_is_said user id records all = (
  λ says.
      let one : State = record { value = Gone; stamp = says.stamp; targets = says.targets } in
      let some = said_some user id records one says.gone in
      (some.0, some.1, gone_there user id records some.0 one all some.1 says.gone refl),
  λ told.
      let top = top_in user id records told.0 told.1 in
      let gone : top.0.value ≡ Gone = sym top.2 ∙ told.2 in
      record {
        stamp = top.0.stamp;
        targets = top.0.targets;
        gone = subst (λ (v : Value). IsAmongRecords (Stated (Message user id) (record { value = v; stamp = top.0.stamp; targets = top.0.targets })) records) gone top.1;
      },
)

-- a copy of which no state is gone
not_gone : (user : List ℕ) (id : Id) (records : List Record) (top : State) → IsOfKind (Message user id) top.value → IsAmongRecords (Stated (Message user id) top) records
    → ((stamp : Stamp) (targets : ℕ) → IsAmongRecords (Stated (Message user id) (record { value = Gone; stamp = stamp; targets = targets })) records → ⊥) → top.value ≡ Here
not_gone user id records top kind m none = by_value top.value refl kind
  where
    by_value : (value : Value) → top.value ≡ value → IsOfKind (Message user id) value → value ≡ Here
    by_value Here is k = refl
    by_value Gone is k = absurd (none top.stamp top.targets
        (subst (λ (v : Value). IsAmongRecords (Stated (Message user id) (record { value = v; stamp = top.stamp; targets = top.targets })) records) is m))
    by_value (Secret octets) is k = absurd k

here_there : (user : List ℕ) (id : Id) (records : List Record) (state : State) → All IsRecord records → said (Message user id) records ≡ Some state
    → ((stamp : Stamp) (targets : ℕ) → IsAmongRecords (Stated (Message user id) (record { value = Gone; stamp = stamp; targets = targets })) records → ⊥) → state.value ≡ Here
here_there user id records state all e none =
    let top = top_in user id records state e in
    top.2 ∙ not_gone user id records top.0 (kind_in (Message user id) top.0 records all top.1) top.1 none

here_is_no_gone : (state : State) → state.value ≡ Here → state.value ≡ Gone → ⊥
here_is_no_gone state here gone = let both : Here ≡ Gone = sym here ∙ gone in cc

pub here_is_said : HereIsSaid
here_is_said user id records all = (
  λ says.
      let one : State = record { value = Here; stamp = says.stamp; targets = says.targets } in
      let some = said_some user id records one says.here in
      (some.0, some.1, here_there user id records some.0 all some.1 says.not_gone),
  λ told.
      let top = top_in user id records told.0 told.1 in
      let here : top.0.value ≡ Here = sym top.2 ∙ told.2 in
      record {
        stamp = top.0.stamp;
        targets = top.0.targets;
        here = subst (λ (v : Value). IsAmongRecords (Stated (Message user id) (record { value = v; stamp = top.0.stamp; targets = top.0.targets })) records) here top.1;
        not_gone = λ stamp targets gone. here_is_no_gone told.0 told.2
            (gone_there user id records told.0 (record { value = Gone; stamp = stamp; targets = targets }) all told.1 gone refl);
      },
)
