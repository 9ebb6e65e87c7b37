-- What the entries of the map say of the log that it is seen as.
use Rattle.std.proofs.Common.{◌≡◌, ℕ, suc, ◌-◌, ◌<◌, ◌||◌, List, [], ◌∷◌, ◌++◌, map, take, length, true, cond, refl, sym, ap, ◌∙◌, append_assoc, arith, length-append}
use Rattle.std.specs.List.{filter, list_any}
use Rattle.std.specs.List.Sorted.{IsStrictlySortedBy}
use Rattle.std.specs.Map.{values_of}
use Rattle.mail_model.specs.Identity as plain
use Rattle.object_model.specs.Sets.{has}
use Rattle.object_model.specs.UpdateLog.{Logged, Log, owes, due}
use Rattle.mail_base.specs.declared.key.Key.{Key}
use Rattle.mail_base.specs.Seen.{key_seen}
use Rattle.mail_base.specs.KeyOrder.{seen_cmp}
use Rattle.mail_base.specs.KeyMaps.{entries_seen, map_seen}
use Rattle.mail_base.proofs.KeyMaps.{entries_in_order}
use Rattle.update_log.specs.Dues.{due_of}

any_value : (es : List (Key × Logged)) (to : ℕ) → list_any (λ entry. has entry.remaining to) (values_of es) ≡ list_any (λ entry. has entry.1.remaining to) (entries_seen es)
any_value [] to = refl
any_value (e ∷ es) to = ap (λ b. has e.1.remaining to || b) (any_value es to)

pub owes_is : (es : List (Key × Logged)) (m : Log) (to : ℕ) → map_seen es ≡ m → IsStrictlySortedBy seen_cmp (map (λ e. e.0) es) → list_any (λ entry. has entry.remaining to) (values_of es) ≡ owes m to
owes_is es m to is ordered =
    any_value es to
    ∙ ap (list_any (λ entry. has entry.1.remaining to)) (sym (entries_in_order es ordered))
    ∙ ap (λ n. owes n to) is

pub due_is : (es : List (Key × Logged)) (m : Log) (to most : ℕ) → map_seen es ≡ m → IsStrictlySortedBy seen_cmp (map (λ e. e.0) es) → take most (due_of to es) ≡ due m to most
due_is es m to most is ordered =
    ap (λ entries. take most (map (λ entry. entry.0) (filter (λ entry. has entry.1.remaining to) entries))) (sym (entries_in_order es ordered))
    ∙ ap (λ n. due n to most) is

-- one key more was found
pub due_more : (to most : ℕ) (keys new : List Key) (key : Key) (entry : Logged) (before rest : List (Key × Logged)) (all : List plain.Key) → before ≡ (key, entry) ∷ rest → has entry.remaining to ≡ true
    → new ≡ keys ++ key ∷ [] → length keys < most → map key_seen keys ++ take (most - length keys) (due_of to before) ≡ all → map key_seen new ++ take (most - length new) (due_of to rest) ≡ all
due_more to most keys new key entry before rest all is owed added room found =
    ap (λ (ks : List Key). map key_seen ks ++ take (most - length ks) (due_of to rest)) added
    ∙ ap (λ (ks : List plain.Key). ks ++ take (most - length (keys ++ key ∷ [])) (due_of to rest)) (map_more keys)
    ∙ append_assoc (map key_seen keys) (key_seen key ∷ []) (take (most - length (keys ++ key ∷ [])) (due_of to rest))
    ∙ ap (λ (ks : List plain.Key). map key_seen keys ++ ks) (sym one_more)
    ∙ found
  where
    map_more : (ks : List Key) → map key_seen (ks ++ key ∷ []) ≡ map key_seen ks ++ key_seen key ∷ []
    map_more [] = refl
    map_more (k ∷ ks) = ap (λ (rest : List plain.Key). key_seen k ∷ rest) (map_more ks)

    left : most - length keys ≡ suc (most - length (keys ++ key ∷ []))
    left = omega (arith, room, length-append keys (key ∷ []))

    first : due_of to before ≡ key_seen key ∷ due_of to rest
    first = ap (due_of to) is ∙ ap (λ b. map (λ e. e.0) (cond b ((key_seen key, entry) ∷ filter (λ e. has e.1.remaining to) (entries_seen rest)) (filter (λ e. has e.1.remaining to) (entries_seen rest)))) owed

    one_more : take (most - length keys) (due_of to before) ≡ key_seen key ∷ take (most - length (keys ++ key ∷ [])) (due_of to rest)
    one_more = ap (take (most - length keys)) first ∙ ap (λ n. take n (key_seen key ∷ due_of to rest)) left
