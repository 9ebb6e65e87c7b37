-- Lines that are put one after another are one text.
use Rattle.std.proofs.Common.{◌≡◌, ℕ, List, [], ◌∷◌, ◌++◌, append_assoc, ap, ◌∙◌}
use Rattle.storm_maker.specs.Tape.{text_of}

-- the text of one line
abbrev pub line : List ℕ → List ℕ
line xs = text_of (xs ∷ [])

next : (o m n : List ℕ) (x : List ℕ) → m ≡ o → n ≡ m ++ line x → n ≡ o ++ line x
next o m n x e h = h ∙ ap (λ (l : List ℕ). l ++ line x) e

nine_joined : (o a b c d e f g h i : List ℕ)
    → ((((((((o ++ line a) ++ line b) ++ line c) ++ line d) ++ line e) ++ line f) ++ line g) ++ line h) ++ line i ≡ o ++ text_of (a ∷ b ∷ c ∷ d ∷ e ∷ f ∷ g ∷ h ∷ i ∷ [])
nine_joined o a b c d e f g h i = simp append_assoc

seven_joined : (o a b c d e f g : List ℕ)
    → ((((((o ++ line a) ++ line b) ++ line c) ++ line d) ++ line e) ++ line f) ++ line g ≡ o ++ text_of (a ∷ b ∷ c ∷ d ∷ e ∷ f ∷ g ∷ [])
seven_joined o a b c d e f g = simp append_assoc

pub nine : (o a b c d e f g h i : List ℕ) (o1 o2 o3 o4 o5 o6 o7 o8 o9 : List ℕ)
    → o1 ≡ o ++ line a → o2 ≡ o1 ++ line b → o3 ≡ o2 ++ line c → o4 ≡ o3 ++ line d → o5 ≡ o4 ++ line e → o6 ≡ o5 ++ line f → o7 ≡ o6 ++ line g → o8 ≡ o7 ++ line h → o9 ≡ o8 ++ line i
    → o9 ≡ o ++ text_of (a ∷ b ∷ c ∷ d ∷ e ∷ f ∷ g ∷ h ∷ i ∷ [])
nine o a b c d e f g h i o1 o2 o3 o4 o5 o6 o7 o8 o9 e1 e2 e3 e4 e5 e6 e7 e8 e9 =
    next _ o8 o9 i (next _ o7 o8 h (next _ o6 o7 g (next _ o5 o6 f (next _ o4 o5 e (next _ o3 o4 d (next _ o2 o3 c (next _ o1 o2 b e1 e2) e3) e4) e5) e6) e7) e8) e9
    ∙ nine_joined o a b c d e f g h i

pub seven : (o a b c d e f g : List ℕ) (o1 o2 o3 o4 o5 o6 o7 : List ℕ)
    → o1 ≡ o ++ line a → o2 ≡ o1 ++ line b → o3 ≡ o2 ++ line c → o4 ≡ o3 ++ line d → o5 ≡ o4 ++ line e → o6 ≡ o5 ++ line f → o7 ≡ o6 ++ line g
    → o7 ≡ o ++ text_of (a ∷ b ∷ c ∷ d ∷ e ∷ f ∷ g ∷ [])
seven o a b c d e f g o1 o2 o3 o4 o5 o6 o7 e1 e2 e3 e4 e5 e6 e7 =
    next _ o6 o7 g (next _ o5 o6 f (next _ o4 o5 e (next _ o3 o4 d (next _ o2 o3 c (next _ o1 o2 b e1 e2) e3) e4) e5) e6) e7
    ∙ seven_joined o a b c d e f g
