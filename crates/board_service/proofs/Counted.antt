-- As many connections were served as doors had left.
use Rattle.std.proofs.Common.{◌≡◌, ◌+◌, ℕ, List, [], ◌∷◌, length, map, Option, Some, None, refl, sym, ap, subst, arith}
use Rattle.std.specs.Prelude.{min, IfSome}
use Rattle.std.specs.Option.{option_map}
use Rattle.std.proofs.lemmas.List.Sums.{sum_by-cons}
use Rattle.io_edge.specs.declared.yard.Protocol.{Protocol}
use Rattle.mail_service.specs.Entrances.{AllMet, WasQuiet, AllEndSo, IsEmpty, taken_in}
use Rattle.mail_service.specs.Services.{place_of, place_at}
use Rattle.mail_service.specs.declared.doors.DoorEnd.{DoorEnd}
use Rattle.mail_service.specs.declared.doors.DoorEnd.TheVariants as doors
use Rattle.mail_service.specs.declared.doors.Entrance.{Entrance}
use Rattle.mail_service.specs.declared.yards.Port.{Port}
use Rattle.board_service.specs.Passes.{most}
use Rattle.board_service.specs.Counting.{IsSettledAs}
use Rattle.board_service.specs.Served.{both_told, left_by, left_at}

-- how many a quiet door has handed on, of which it is told how many it had
door_counted : {X : Type 0} (before after : Option (List X)) (taken0 taken1 : ℕ) → taken0 ≡ 0 → IsEmpty after
    → option_map (λ (conns : List X). taken1 + length conns) after ≡ option_map (λ (conns : List X). taken0 + length conns) before → IfSome (left_by before) (λ total. total ≡ taken1)
door_counted None after taken0 taken1 none empty same = tt
door_counted (Some xs) None taken0 taken1 none empty same = absurd (let never : None ≡ Some (taken0 + length xs) = same in cc)
door_counted {X} (Some xs) (Some ys) taken0 taken1 none empty same =
    let both : Some (taken1 + length ys) ≡ Some (taken0 + length xs) = same in
    let e : taken1 + length ys ≡ taken0 + length xs = cc in
    let z : length ys ≡ 0 = ap (λ (l : List X). length l) empty in
    omega (arith, e, z, none)

both_counted : (a b : Option ℕ) (x y : ℕ) → IfSome a (λ total. total ≡ x) → IfSome b (λ total. total ≡ y) → IfSome (both_told a b) (λ total. total ≡ x + y)
both_counted None b x y p q = tt
both_counted (Some a) None x y p q = tt
both_counted (Some a) (Some b) x y p q = omega (arith, p, q)

module _ {G X : Type 0} (left : G → Option (List X)) (quiets faults : G → ℕ) where
  pub doors_counted : (ports : List Port) (before after : List (Entrance G)) → map place_of before ≡ map place_at ports → AllMet (WasQuiet left quiets faults) before after
      → IfSome (left_at left before) (λ total. total ≡ taken_in after)
  doors_counted ports [] [] places met = refl
  doors_counted ports [] (y ∷ ys) places met = absurd met
  doors_counted ports (x ∷ xs) [] places met = absurd met
  doors_counted [] (x ∷ xs) (y ∷ ys) places met = absurd (let never : place_of x ∷ map place_of xs ≡ [] = places in cc)
  doors_counted (p ∷ ports) (x ∷ xs) (y ∷ ys) places met =
      let both : place_of x ∷ map place_of xs ≡ place_at p ∷ map place_at ports = places in
      let first : place_of x ≡ place_at p = cc in
      let others : map place_of xs ≡ map place_at ports = cc in
      let none : x.taken ≡ 0 = ap (λ (t : ℕ × Protocol × ℕ). t.2) first in
      subst (λ (n : ℕ). IfSome (left_at left (x ∷ xs)) (λ total. total ≡ n)) (sym (sum_by-cons (λ (entrance : Entrance G). entrance.taken) y ys))
      (both_counted (left_by (left x.door)) (left_at left xs) y.taken (taken_in ys) (door_counted (left x.door) (left y.door) x.taken y.taken none met.0.1 met.0.2) (doors_counted ports xs ys others met.1))

  -- how the doors ended is how they are said to have ended, unless a connection is missing
  pub ends_settled : (end : DoorEnd) (taken served : ℕ) (said : DoorEnd) (before after : List (Entrance G)) → IsSettledAs end taken served said → AllEndSo left quiets faults end before after
      → AllEndSo left quiets faults said before after
  ends_settled end taken served doors.Quiet before after is ends = subst (λ (e : DoorEnd). AllEndSo left quiets faults e before after) is.0 ends
  ends_settled end taken served doors.Failed before after is ends = subst (λ (e : DoorEnd). AllEndSo left quiets faults e before after) is ends
  ends_settled end taken served doors.NoMemory before after is ends = tt

-- and where none is missing, as many were served as were handed on
pub each_settled : (end : DoorEnd) (taken served : ℕ) (said : DoorEnd) (visits : ℕ) → IsSettledAs end taken served said → served ≡ min visits most → said ≡ doors.Quiet → visits ≡ taken
each_settled end taken served doors.Quiet visits is counts quiet = omega (arith, is.1, is.2, counts)
each_settled end taken served doors.Failed visits is counts quiet = absurd (let never : doors.Failed ≡ doors.Quiet = quiet in cc)
each_settled end taken served doors.NoMemory visits is counts quiet = absurd (let never : doors.NoMemory ≡ doors.Quiet = quiet in cc)
