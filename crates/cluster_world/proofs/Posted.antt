-- Letters in flight as the machine finds them, and what is worn or not found.
use Rattle.std.proofs.Common.{◌≡◌, ℕ, Bool, true, false, List, [], ◌∷◌, ◌++◌, Some, None, refl, ap, ◌∙◌, arith, if◌then◌else◌}
use Rattle.std.specs.Prelude.{nat_eq}
use Rattle.object_model.specs.Letters.{Letter}
use Rattle.cluster_model.specs.Room.{Flight}
use Rattle.cluster_model.specs.World.{World, Flies}
use Rattle.cluster_model.specs.Steps.{letter_at}
use Rattle.cluster_model.specs.Plain.{without_letter}

-- where a letter stands among others
pub record Standing (fs : List Flight) (n : ℕ) (letter : Letter) : Type 0 where
  pub front : List Flight
  pub back : List Flight
  pub is : fs ≡ front ++ record { number = n; letter = letter } ∷ back
  pub left : without_letter n fs ≡ front ++ back

pub standing : (fs : List Flight) (n : ℕ) (letter : Letter) → letter_at n fs ≡ Some letter → Standing fs n letter
standing [] n letter e = absurd (let never : None ≡ Some letter = e in cc)
standing (f ∷ fs) n letter e = by (nat_eq f.number n) refl (standing fs n letter) e
  where
    by : (b : Bool) → nat_eq f.number n ≡ b → (letter_at n fs ≡ Some letter → Standing fs n letter) → (if b then Some f.letter else letter_at n fs) ≡ Some letter → Standing (f ∷ fs) n letter
    by true same more e = record {
      front = [];
      back = fs;
      is = ap (λ (x : Flight). x ∷ fs) (ap (λ m. record { number = m; letter = f.letter }) (is_same f.number n same) ∙ ap (λ l. record { number = n; letter = l }) (some_letter f.letter letter e));
      left = ap (λ b. if b then fs else f ∷ without_letter n fs) same;
    }
      where
        is_same : (a b : ℕ) → nat_eq a b ≡ true → a ≡ b
        is_same a b e = grind arith

        some_letter : (a b : Letter) → Some a ≡ Some b → a ≡ b
        some_letter a b e = cc
    by false other more e =
        let rest = more e in
        record {
          front = f ∷ rest.front;
          back = rest.back;
          is = ap (λ (xs : List Flight). f ∷ xs) rest.is;
          left = ap (λ b. if b then fs else f ∷ without_letter n fs) other ∙ ap (λ (xs : List Flight). f ∷ xs) rest.left;
        }

-- a letter that is in flight flies in the machine, and this is what is left without it
pub record FliesSo (w : World) (n : ℕ) (letter : Letter) : Type 0 where
  pub flies : Flies w n
  pub letter_is : flies.letter ≡ letter
  pub left : without_letter n w.flying ≡ flies.front ++ flies.back

pub flies_so : (w : World) (n : ℕ) (letter : Letter) → letter_at n w.flying ≡ Some letter → FliesSo w n letter
flies_so w n letter e =
    let s = standing w.flying n letter e in
    record { flies = record { front = s.front; letter = letter; back = s.back; is = s.is }; letter_is = refl; left = s.left }
