-- The lower case of a name is a name.
use Rattle.std.proofs.Common.{◌≡◌, ℕ, true, List, [], ◌∷◌, refl, arith, nat_eq}
use Rattle.std.proofs.lemmas.List.{length-map}
use Rattle.std.proofs.lemmas.Bool.Decides.{nat_tests}
use Rattle.std.specs.List.{list_any}
use Rattle.std.specs.Char.{to_ascii_lowercase}
use Rattle.mail_model.specs.Names.{is_no_name_octet, begins_with, is_name, lower, IsLowerName}

lower_twice : (x : ℕ) → to_ascii_lowercase (to_ascii_lowercase x) ≡ to_ascii_lowercase x
lower_twice x = grind (arith, nat_tests)

lower_good : (x : ℕ) → is_no_name_octet (to_ascii_lowercase x) ≡ is_no_name_octet x
lower_good x = grind (arith, nat_tests)

lower_at : (x : ℕ) → nat_eq (to_ascii_lowercase x) 64 ≡ nat_eq x 64
lower_at x = grind (arith, nat_tests)

pub lower_all_twice : (xs : List ℕ) → lower (lower xs) ≡ lower xs
lower_all_twice [] = refl
lower_all_twice (x ∷ xs) = rw (lower_twice x, lower_all_twice xs) refl

lower_all_good : (xs : List ℕ) → list_any is_no_name_octet (lower xs) ≡ list_any is_no_name_octet xs
lower_all_good [] = refl
lower_all_good (x ∷ xs) = rw (lower_good x, lower_all_good xs) refl

lower_begins : (xs : List ℕ) → begins_with 64 (lower xs) ≡ begins_with 64 xs
lower_begins [] = refl
lower_begins (x ∷ xs) = lower_at x

-- the lower case is a name exactly where the octets are one
pub lower_keeps_name : (octets : List ℕ) → is_name (lower octets) ≡ is_name octets
lower_keeps_name octets = rw (length-map, lower_begins octets, lower_all_good octets) refl

pub lower_name : (octets : List ℕ) → is_name octets ≡ true → IsLowerName (lower octets)
lower_name octets h = record { name = rw (lower_keeps_name octets) h; in_lower = lower_all_twice octets }
