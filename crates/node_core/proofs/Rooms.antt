-- The letters that find room.
use Rattle.std.proofs.Common.{◌≡◌, ◌<◌, ◌-◌, ◌+◌, ℕ, zero, suc, nat_le, List, [], ◌∷◌, take, Bool, true, false, cond, refl, sym, ap, ◌∙◌, leb-true, arith}
use Rattle.mail_model.specs.Identity.{Key}
use Rattle.object_model.specs.Letters.{Letter}
use Rattle.cluster_model.specs.Room.{octets_of_all}
use Rattle.node_core.specs.Pushing.{first_within}

-- where the first letter is too long there are none
pub none_within : (f : Key → List Letter) (most room : ℕ) (key : Key) (keys : List Key) → nat_le (octets_of_all (f key)) room ≡ false → [] ≡ first_within f most room (key ∷ keys)
none_within f zero room key keys long = refl
none_within f (suc m) room key keys long = ap (λ (b : Bool). cond b (key ∷ first_within f m (room - octets_of_all (f key)) keys) []) (sym long)

-- else it is one of them
pub one_within : (f : Key → List Letter) (most less room : ℕ) (key : Key) (keys first : List Key) → suc less ≡ most → nat_le (octets_of_all (f key)) room ≡ true
    → first ≡ first_within f less (room - octets_of_all (f key)) keys → key ∷ first ≡ first_within f most room (key ∷ keys)
one_within f most less room key keys first next short rest =
    ap (λ (l : List Key). key ∷ l) rest
    ∙ ap (λ (b : Bool). cond b (key ∷ first_within f less (room - octets_of_all (f key)) keys) []) (sym short)
    ∙ ap (λ (m : ℕ). first_within f m room (key ∷ keys)) next

pub longer : (size room : ℕ) → room < size → nat_le size room ≡ false
longer size room long = by (nat_le size room) refl
  where
    by : (b : Bool) → nat_le size room ≡ b → nat_le size room ≡ false
    by true is = absurd (omega (arith, long, leb-true size room is))
    by false is = is

pub taken_more : {A : Type 0} (n : ℕ) (x : A) (xs : List A) → take (1 + n) (x ∷ xs) ≡ x ∷ take n xs
taken_more n x xs = ap (λ (m : ℕ). take m (x ∷ xs)) next
  where
    next : 1 + n ≡ suc n
    next = omega arith
