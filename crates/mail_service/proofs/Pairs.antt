-- Doors at their places, in two lists one after another.
use Rattle.std.proofs.Common.{inl, inr, ⊎_elim, ℕ, List, [], ◌∷◌, ◌++◌, Option}
use Rattle.mail_service.specs.Entrances.{AllMet, OneMet, IsLater, EndsSo, AllEndSo, worse}
use Rattle.mail_service.specs.declared.doors.Entrance.{Entrance}
use Rattle.mail_service.specs.declared.doors.DoorEnd.{DoorEnd}
use Rattle.mail_service.specs.declared.doors.DoorEnd.TheVariants.{Quiet, Failed, NoMemory}

pub all_joined : {X : Type 0} (P : X → X → Type 0) (xs xs' ys ys' : List X) → AllMet P xs ys → AllMet P xs' ys' → AllMet P (xs ++ xs') (ys ++ ys')
all_joined P [] xs' [] ys' a b = b
all_joined P [] xs' (y ∷ ys) ys' a b = absurd a
all_joined P (x ∷ xs) xs' [] ys' a b = absurd a
all_joined P (x ∷ xs) xs' (y ∷ ys) ys' a b = (a.0, all_joined P xs xs' ys ys' a.1 b)

one_of_first : {X : Type 0} (P : X → X → Type 0) (xs xs' ys ys' : List X) → OneMet P xs ys → OneMet P (xs ++ xs') (ys ++ ys')
one_of_first P [] xs' ys ys' a = absurd a
one_of_first P (x ∷ xs) xs' [] ys' a = absurd a
one_of_first P (x ∷ xs) xs' (y ∷ ys) ys' a = ⊎_elim (λ here. inl here) (λ later. inr (one_of_first P xs xs' ys ys' later)) a

-- the lists before are as long
one_of_second : {X : Type 0} (P Q : X → X → Type 0) (xs xs' ys ys' : List X) → AllMet Q xs ys → OneMet P xs' ys' → OneMet P (xs ++ xs') (ys ++ ys')
one_of_second P Q [] xs' [] ys' a b = b
one_of_second P Q [] xs' (y ∷ ys) ys' a b = absurd a
one_of_second P Q (x ∷ xs) xs' [] ys' a b = absurd a
one_of_second P Q (x ∷ xs) xs' (y ∷ ys) ys' a b = inr (one_of_second P Q xs xs' ys ys' a.1 b)

-- how two parts of them ended is how all did
pub end_joined : {G X : Type 0} (left : G → Option (List X)) (quiets faults : G → ℕ) (first second : DoorEnd) (xs xs' ys ys' : List (Entrance G)) → AllMet (IsLater quiets faults) xs ys
    → AllEndSo left quiets faults first xs ys → AllEndSo left quiets faults second xs' ys' → AllEndSo left quiets faults (worse first second) (xs ++ xs') (ys ++ ys')
end_joined left quiets faults Quiet Quiet xs xs' ys ys' met a b = all_joined _ xs xs' ys ys' a b
end_joined left quiets faults Quiet Failed xs xs' ys ys' met a b = one_of_second _ (IsLater quiets faults) xs xs' ys ys' met b
end_joined left quiets faults Quiet NoMemory xs xs' ys ys' met a b = tt
end_joined left quiets faults Failed second xs xs' ys ys' met a b = one_of_first _ xs xs' ys ys' a
end_joined left quiets faults NoMemory Quiet xs xs' ys ys' met a b = tt
end_joined left quiets faults NoMemory Failed xs xs' ys ys' met a b = one_of_second _ (IsLater quiets faults) xs xs' ys ys' met b
end_joined left quiets faults NoMemory NoMemory xs xs' ys ys' met a b = tt

-- one door alone
pub end_alone : {G X : Type 0} (left : G → Option (List X)) (quiets faults : G → ℕ) (end : DoorEnd) (x y : Entrance G) → EndsSo left quiets faults end x y → AllEndSo left quiets faults end (x ∷ []) (y ∷ [])
end_alone left quiets faults Quiet x y is = (is, tt)
end_alone left quiets faults Failed x y is = inl is
end_alone left quiets faults NoMemory x y is = tt
