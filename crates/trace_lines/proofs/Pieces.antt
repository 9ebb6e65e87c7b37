-- Pieces that are put after one another.
use Rattle.std.proofs.Common.{◌≡◌, ℕ, List, ◌++◌, ap, ◌∙◌, append_assoc}

pub two_more : (old first second a b : List ℕ) → first ≡ old ++ a → second ≡ first ++ b → second ≡ old ++ (a ++ b)
two_more old first second a b p q = q ∙ ap (λ (l : List ℕ). l ++ b) p ∙ append_assoc old a b

pub three_more : (old first second third a b c : List ℕ) → first ≡ old ++ a → second ≡ first ++ b → third ≡ second ++ c → third ≡ old ++ (a ++ b ++ c)
three_more old first second third a b c p q r = two_more old second third (a ++ b) c (two_more old first second a b p q) r

-- nine pieces, the last of two
pub nine : (a b c d e f g h i j : List ℕ) → a ++ (b ++ (c ++ (d ++ (e ++ (f ++ (g ++ (h ++ (i ++ j)))))))) ≡ a ++ b ++ c ++ d ++ e ++ f ++ g ++ h ++ i ++ j
nine a b c d e f g h i j = simp append_assoc
