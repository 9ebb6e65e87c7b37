-- What a write of the map does to the log that it is seen as.
use Rattle.std.proofs.Common.{◌≡◌, ℕ, ◌&&◌, List, Bool, true, false, cond, Some, None, IsSome, is_some, refl, sym, ap, ◌∙◌, true≢false}
use Rattle.std.specs.BTreeMap.{is_at}
use Rattle.std.specs.FinMap as fin
use Rattle.mail_model.specs.Identity.{State}
use Rattle.object_model.specs.Sets.{has}
use Rattle.object_model.specs.States.{is_same_state}
use Rattle.object_model.specs.UpdateLog.{Logged, Log, new_entry, noted, cleared, cleared_at, acknowledged}
use Rattle.mail_base.specs.declared.key.Key.{Key}
use Rattle.mail_base.specs.Seen.{key_seen}
use Rattle.mail_base.specs.KeyOrder.{seen_cmp}
use Rattle.mail_base.specs.KeyMaps.{map_seen}
use Rattle.mail_base.proofs.KeyMaps.{at_key, key_found, key_put}
use Rattle.mail_base.proofs.KeyWrites.{written_again}
use Rattle.update_log.specs.Entries.{cleared_by}

pub noted_is : (es fs : List (Key × Logged)) (m : Log) (k copy : Key) (own : ℕ) (state same : State) (entry : Logged) → map_seen es ≡ m → copy ≡ k → same ≡ state → entry ≡ new_entry own same
    → ((q : Key) → at_key fs q ≡ cond (is_at (seen_cmp copy) q) (Some entry) (at_key es q)) → map_seen fs ≡ noted own (key_seen k) state m
noted_is es fs m k copy own state same entry is keys states begins up =
    key_put es fs m copy entry is up
    ∙ ap (λ (c : Key). fin.insert m (key_seen c) entry) keys
    ∙ ap (fin.insert m (key_seen k)) (begins ∙ ap (new_entry own) states)

pub none_there : (es : List (Key × Logged)) (m : Log) (k : Key) → map_seen es ≡ m → None ≡ at_key es k → IsSome (fin.get m (key_seen k)) → ⊥
none_there es m k is none some = true≢false (sym some ∙ ap is_some (sym (key_found es m k None is none)))

-- an entry that is acknowledged or left, written back
pub acknowledged_is : (es fs : List (Key × Logged)) (m : Log) (k : Key) (state : State) (by : ℕ) (entry new : Logged) → map_seen es ≡ m → Some entry ≡ at_key es k → new ≡ cleared_by state by entry
    → ((q : Key) → at_key fs q ≡ cond (is_at (seen_cmp k) q) (Some new) (at_key es q)) → map_seen fs ≡ acknowledged (key_seen k) state by m
acknowledged_is es fs m k state by entry new is stands becomes up =
    key_put es fs m k new is up
    ∙ ap (fin.insert m (key_seen k)) becomes
    ∙ written (is_same_state entry.state state && has entry.remaining by)
    ∙ ap (λ e. cleared_at (key_seen k) state by e m) (key_found es m k (Some entry) is stands)
  where
    written : (b : Bool) → fin.insert m (key_seen k) (cond b (cleared by entry) entry) ≡ cond b (fin.insert m (key_seen k) (cleared by entry)) m
    written true = refl
    written false = written_again m (key_seen k) entry (sym (key_found es m k (Some entry) is stands))

pub acknowledged_none : (es : List (Key × Logged)) (m : Log) (k : Key) (state : State) (by : ℕ) → map_seen es ≡ m → None ≡ at_key es k → map_seen es ≡ acknowledged (key_seen k) state by m
acknowledged_none es m k state by is none = is ∙ ap (λ e. cleared_at (key_seen k) state by e m) (key_found es m k None is none)
