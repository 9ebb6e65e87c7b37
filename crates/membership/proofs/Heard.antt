-- A Join that is added.
use Rattle.std.proofs.Common.{◌≡◌, inl, inr, Bool, true, false, ◌&&◌, ◌||◌, nat_eq, nat_lt, List, Option, Some, None, refl, sym, ap, ◌∙◌, true≢false, arith}
use Rattle.std.specs.Option.{option_map}
use Rattle.std.proofs.lemmas.Bool.{eqb-true, eqb-false, ltb-false}
use Rattle.mail_model.specs.Identity.{EpochId}
use Rattle.object_model.specs.Letters.{Claim, Member}
use Rattle.maps_model.specs.Epochs.{IsAtMost}
use Rattle.maps_model.specs.Cluster.{OpenGroup}
use Rattle.object_model.specs.Keys.{is_same_epoch}
use Rattle.user_map.specs.Plain.{is_before}
use Rattle.membership.specs.Groups.{Group, with_one_joined}
use Rattle.membership.specs.Checks.{is_open}
use Rattle.membership.specs.Rounds.{IsOpen, AddsJoin}
use Rattle.membership.specs.Rounds.AddsJoin.{Joins}

pub not_before : (a b : EpochId) → is_before a b ≡ false → IsAtMost b a
not_before a b e = by (nat_lt a.count b.count) (nat_eq a.count b.count) (nat_lt a.node b.node) (nat_eq a.node b.node) refl refl refl refl e
  where
    by : (p q r s : Bool) → nat_lt a.count b.count ≡ p → nat_eq a.count b.count ≡ q → nat_lt a.node b.node ≡ r → nat_eq a.node b.node ≡ s → (p || (q && r)) ≡ false → IsAtMost b a
    by true q r s x y z w e = absurd (true≢false e)
    by false true true s x y z w e = absurd (true≢false e)
    by false true false true x y z w e = inr (λ i. record { count = (sym (eqb-true a.count b.count y)) i; node = (sym (eqb-true a.node b.node w)) i })
    by false true false false x y z w e = inl (inr (sym (eqb-true a.count b.count y), omega (arith, ltb-false a.node b.node z, eqb-false a.node b.node w)))
    by false false r s x y z w e = inl (inl (omega (arith, ltb-false a.count b.count x, eqb-false a.count b.count y)))

same_epoch : (a b : EpochId) → is_same_epoch a b ≡ true → a ≡ b
same_epoch a b e = by (nat_eq a.count b.count) (nat_eq a.node b.node) refl refl e
  where
    by : (p q : Bool) → nat_eq a.count b.count ≡ p → nat_eq a.node b.node ≡ q → (p && q) ≡ true → a ≡ b
    by true true x y e = λ i. record { count = eqb-true a.count b.count x i; node = eqb-true a.node b.node y i }
    by true false x y e = absurd (true≢false (sym e))
    by false q x y e = absurd (true≢false (sym e))

open_is : (opened : Option OpenGroup) (epoch : EpochId) → is_open opened epoch ≡ true → IsOpen opened epoch
open_is None epoch e = absurd (true≢false (sym e))
open_is (Some group) epoch e = record { group = group; is = refl; same = same_epoch group.epoch epoch e }

pub joins_added : (old new : Group) (epoch promise : EpochId) (member : Member) (claims given : List Claim) → is_open old.opened epoch ≡ true → is_before epoch promise ≡ false → claims ≡ given
    → new ≡ record old { opened = option_map (with_one_joined (record { member = member; claims = claims })) old.opened }
    → IsOpen old.opened epoch × AddsJoin old epoch promise (record { member = member; claims = given }) new
joins_added old new epoch promise member claims given e f g is =
    let found = open_is old.opened epoch e in (
      found,
      Joins found.group found.is (not_before epoch promise f)
          (is ∙ ap (λ (o : Option OpenGroup). record old { opened = option_map (with_one_joined (record { member = member; claims = claims })) o }) found.is
          ∙ ap (λ (c : List Claim). record old { opened = Some (with_one_joined (record { member = member; claims = c }) found.group) }) g),
    )
