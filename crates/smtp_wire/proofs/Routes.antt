-- Where a source route ends.
use Rattle.std.proofs.Common.{◌≡◌, ℕ, ◌+◌, ◌<◌, ◌≤◌, suc, Bool, true, false, cond, not, ◌||◌, nat_eq, nat_lt, Some, None, List, [], ◌∷◌, length, drop, refl, arith}
use Rattle.std.proofs.lemmas.Bool.Decides.{nat_tests}
use Rattle.std.specs.List.{list_any, position_or_len}
use Rattle.mail_model.specs.Names.{begins_with}
use Rattle.mail_model.specs.Smtp.{routed}

-- some octet passes exactly where the first that does comes before the end
any_before : (p : ℕ → Bool) (octets : List ℕ) → list_any p octets ≡ nat_lt (position_or_len p octets) (length octets)
any_before p [] = refl
any_before p (x ∷ octets) = elim (p x) as (λ b. (b || list_any p octets) ≡ nat_lt (cond (not b) (1 + position_or_len p octets) 0) (suc (length octets))) [
  | true ↦ grind (arith, nat_tests)
  | false ↦ rw (any_before p octets) (grind (arith, nat_tests))
]

pub route_found : (content : List ℕ) → begins_with 64 content ≡ true → position_or_len (λ x. nat_eq x 58) content < length content →
    routed content ≡ Some (drop (position_or_len (λ x. nat_eq x 58) content + 1) content)
route_found content at found =
    let some : list_any (λ x. nat_eq x 58) content ≡ true = rw (any_before (λ x. nat_eq x 58) content) (grind (arith, nat_tests)) in
    rw (at, some)

pub no_route : (content : List ℕ) → begins_with 64 content ≡ true → length content ≤ position_or_len (λ x. nat_eq x 58) content → routed content ≡ None
no_route content at none =
    let no : list_any (λ x. nat_eq x 58) content ≡ false = rw (any_before (λ x. nat_eq x 58) content) (grind (arith, nat_tests)) in
    rw (at, no)
