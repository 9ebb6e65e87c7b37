-- Who manages a user, and which epochs are one, as tests and as facts.
use Rattle.std.proofs.Common.{◌≡◌, ℕ, true, true≢false, nat_eq, ◌&&◌, Option, Some, None, refl, sym, ap, ◌∙◌}
use Rattle.std.proofs.lemmas.Bool.{and_parts, eqb-true, eq-eqb}
use Rattle.mail_model.specs.Identity.{EpochId}
use Rattle.object_model.specs.Keys.{is_same_epoch}
use Rattle.maps_model.specs.Cluster.{is_that_node}

pub same_number : (n : ℕ) → nat_eq n n ≡ true
same_number n = eq-eqb n n refl

pub node_is : (x : Option ℕ) (n : ℕ) → is_that_node x n ≡ true → x ≡ Some n
node_is None n e = absurd (true≢false (sym e))
node_is (Some m) n e = ap Some (eqb-true m n e)

pub is_node : (x : Option ℕ) (n : ℕ) → x ≡ Some n → is_that_node x n ≡ true
is_node x n e = ap (λ y. is_that_node y n) e ∙ same_number n

pub epoch_is : (a b : EpochId) → is_same_epoch a b ≡ true → a ≡ b
epoch_is a b e = let parts = and_parts (nat_eq a.count b.count) (nat_eq a.node b.node) e in λ i. record { count = eqb-true a.count b.count parts.0 i; node = eqb-true a.node b.node parts.1 i }

pub is_epoch : (a b : EpochId) → a ≡ b → is_same_epoch a b ≡ true
is_epoch a b e = ap (λ x. is_same_epoch a x) (sym e) ∙ ap (λ t. t && nat_eq a.node a.node) (same_number a.count) ∙ same_number a.node
