-- Pieces that are appended one after another.
use Rattle.std.proofs.Common.{◌≡◌, ℕ, List, ◌++◌, ap, ◌∙◌, append_assoc}

pub two_more : (old first second a b : List ℕ) → first ≡ old ++ a → second ≡ first ++ b → second ≡ old ++ (a ++ b)
two_more old first second a b p q = q ∙ ap (λ (l : List ℕ). l ++ b) p ∙ append_assoc old a b

pub three_more : (old first second third a b c : List ℕ) → first ≡ old ++ a → second ≡ first ++ b → third ≡ second ++ c → third ≡ old ++ (a ++ b ++ c)
three_more old first second third a b c p q r = two_more old second third (a ++ b) c (two_more old first second a b p q) r

-- the same with pieces that are known by another name
pub three_are : (old first second third a b c x y z : List ℕ) → first ≡ old ++ a → second ≡ first ++ b → third ≡ second ++ c
    → a ≡ x → b ≡ y → c ≡ z → third ≡ old ++ (x ++ y ++ z)
three_are old first second third a b c x y z p q r is_x is_y is_z =
    let put = three_more old first second third a b c p q r in cc

pub four_are : (old i1 i2 i3 i4 a b c d w x y z : List ℕ) → i1 ≡ old ++ a → i2 ≡ i1 ++ b → i3 ≡ i2 ++ c → i4 ≡ i3 ++ d
    → a ≡ w → b ≡ x → c ≡ y → d ≡ z → i4 ≡ old ++ (w ++ x ++ y ++ z)
four_are old i1 i2 i3 i4 a b c d w x y z p q r s is_w is_x is_y is_z =
    let front = three_are old i1 i2 i3 a b c w x y p q r is_w is_x is_y in
    let whole = two_more old i3 i4 (w ++ x ++ y) d front s in cc
