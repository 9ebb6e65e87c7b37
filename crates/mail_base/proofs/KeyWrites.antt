-- Writes of a finite map under keys.
use Rattle.std.proofs.Common.{◌≡◌, ◌≢◌, ◌⊎◌, inl, inr, ⊎_elim, Bool, true, false, Some, sym, subst, ◌∙◌, true≢false, refl}
use Rattle.std.specs.FinMap as fin
use Rattle.std.specs.FinMap.{FinMap, same_map}
use Rattle.mail_model.specs.Identity.{Key}
use Rattle.object_model.specs.Keys.{key_cmp, is_same_key}
use Rattle.object_model.proofs.MapLaws.{key_total, key_exact, written, kept_other}
use Rattle.object_model.proofs.StateLaws.{key_is, key_self}

-- one key is another or it is not
pub same_or : (a b : Key) → (a ≡ b) ⊎ (a ≢ b)
same_or a b = by (is_same_key a b) refl
  where
    by : (t : Bool) → is_same_key a b ≡ t → (a ≡ b) ⊎ (a ≢ b)
    by true e = inl (key_is a b e)
    by false e = inr (λ same. true≢false (sym (subst (λ (k : Key). is_same_key a k ≡ true) same (key_self a)) ∙ e))

-- to write what stands changes nothing
pub written_again : {X : Type 0} (m : FinMap key_cmp X) (k : Key) (x : X) → fin.get m k ≡ Some x → fin.insert m k x ≡ m
written_again m k x is = same_map key_total key_exact (fin.insert m k x) m (λ q. ⊎_elim
    (λ same. subst (λ (j : Key). fin.get (fin.insert m k x) j ≡ fin.get m j) (sym same) (written key_total key_exact m k x ∙ sym is))
    (λ apart. kept_other key_total key_exact m k x q apart)
    (same_or q k))
