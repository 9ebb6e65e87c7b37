-- What a write of the map does to the table that it is seen as.
use Rattle.std.proofs.Common.{◌≡◌, List, cond, Some, None, IsSome, is_some, refl, sym, ap, ◌∙◌, true≢false}
use Rattle.std.specs.BTreeMap.{is_at}
use Rattle.std.specs.FinMap as fin
use Rattle.mail_model.specs.Identity.{State}
use Rattle.object_model.specs.States.{join_with}
use Rattle.mail_base.specs.declared.key.Key.{Key}
use Rattle.mail_base.specs.Seen.{key_seen}
use Rattle.mail_base.specs.KeyOrder.{seen_cmp}
use Rattle.mail_base.specs.KeyMaps.{map_seen}
use Rattle.mail_base.proofs.KeyMaps.{at_key, key_found, key_put}
use Rattle.object_table.specs.Tables.{Table, taken}

pub took : (es fs : List (Key × State)) (m : Table) (k copy : Key) (state next : State) → map_seen es ≡ m → copy ≡ k → next ≡ join_with (at_key es k) state
    → ((q : Key) → at_key fs q ≡ cond (is_at (seen_cmp copy) q) (Some next) (at_key es q)) → map_seen fs ≡ taken (key_seen k) state m
took es fs m k copy state next is same joins up =
    key_put es fs m copy next is up
    ∙ ap (λ (c : Key). fin.insert m (key_seen c) next) same
    ∙ ap (fin.insert m (key_seen k)) (joins ∙ ap (λ held. join_with held state) (key_found es m k (at_key es k) is refl))

pub none_there : (es : List (Key × State)) (m : Table) (k : Key) → map_seen es ≡ m → None ≡ at_key es k → IsSome (fin.get m (key_seen k)) → ⊥
none_there es m k is none some = true≢false (sym some ∙ ap is_some (sym (key_found es m k None is none)))
