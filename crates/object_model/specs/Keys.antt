-- How keys, ids and epochs are ordered, and when two are the same.
use Rattle.std.specs.Prelude.{ℕ, Bool, false, ◌&&◌, nat_eq, List}
use Rattle.std.specs.Ordering.{nat_cmp, on, then_cmp}
use Rattle.std.specs.Cmp.Lexicographic.{slice_cmp, pointwise}
use Rattle.std.specs.declared.cmp.Ordering.{Ordering}
use Rattle.mail_model.specs.Identity.{Id, EpochId, Key}
use Rattle.mail_model.specs.Identity.Key.{Profile, Message}
use Rattle.mail_model.specs.Listing.{is_same_id}

-- profiles come before messages
abbrev pub kind_of : Key → ℕ
kind_of (Profile user) = 0
kind_of (Message user id) = 1

abbrev pub user_of : Key → List ℕ
user_of (Profile user) = user
user_of (Message user id) = user

abbrev pub id_of : Key → Id
id_of (Profile user) = record { node = 0; boot = 0; seq = 0 }
id_of (Message user id) = id

-- ids by node, boot and number
abbrev pub id_cmp : Id → Id → Ordering
id_cmp = then_cmp (on (λ i. i.node) nat_cmp) (then_cmp (on (λ i. i.boot) nat_cmp) (on (λ i. i.seq) nat_cmp))

-- keys by kind, user and id
abbrev pub key_cmp : Key → Key → Ordering
key_cmp = then_cmp (on kind_of nat_cmp) (then_cmp (on user_of (slice_cmp nat_cmp)) (on id_of id_cmp))

-- epochs by count and node
abbrev pub epoch_cmp : EpochId → EpochId → Ordering
epoch_cmp = then_cmp (on (λ e. e.count) nat_cmp) (on (λ e. e.node) nat_cmp)

-- whether both are one key
abbrev pub is_same_key : Key → Key → Bool
is_same_key (Profile a) (Profile b) = pointwise nat_eq a b
is_same_key (Profile a) (Message b j) = false
is_same_key (Message a i) (Profile b) = false
is_same_key (Message a i) (Message b j) = pointwise nat_eq a b && is_same_id i j

-- whether both are one epoch
abbrev pub is_same_epoch : EpochId → EpochId → Bool
is_same_epoch a b = nat_eq a.count b.count && nat_eq a.node b.node
