-- What a service came to.
use Rattle.std.proofs.Common.{◌≡◌, ◌≤◌, ◌+◌, ℕ, List, [], ◌∷◌, ◌++◌, length, take, drop, Option, refl, sym, ap, ◌∙◌, suc, arith}
use Rattle.std.proofs.lemmas.List.{take_at}
use Rattle.io_edge.specs.declared.yard.YardRefusal.{YardRefusal}
use Rattle.io_edge.specs.declared.yard.YardRefusal.TheVariants as refused
use Rattle.mail_service.specs.Entrances.{AllMet, IsLater}
use Rattle.mail_service.specs.Services.{RunsTo, unopened}
use Rattle.mail_service.specs.declared.doors.Entrance.{Entrance}
use Rattle.mail_service.specs.declared.yards.Port.{Port}

-- doors that nobody has called are the same doors
pub same_doors : {G : Type 0} (quiets faults : G → ℕ) (xs : List (Entrance G)) → AllMet (IsLater quiets faults) xs xs
same_doors quiets faults [] = tt
same_doors quiets faults (x ∷ xs) = (record { node = refl; protocol = refl; quiets_later = omega arith; faults_later = omega arith }, same_doors quiets faults xs)

-- nobody was served where a yard refused a door
pub refused_runs : {G X : Type 0} (left : G → Option (List X)) (quiets faults : G → ℕ) (ports : List Port) (refusal : YardRefusal) (before after : List (Entrance G)) → RunsTo left quiets faults ports (unopened refusal) before after
refused_runs left quiets faults ports refused.Failed before after = tt
refused_runs left quiets faults ports refused.NoMemory before after = tt

met_alike : {X : Type 0} (P : X → X → Type 0) (xs ys : List X) → AllMet P xs ys → length ys ≡ length xs
met_alike P [] [] met = refl
met_alike P [] (y ∷ ys) met = absurd met
met_alike P (x ∷ xs) [] met = absurd met
met_alike P (x ∷ xs) (y ∷ ys) met = ap suc (met_alike P xs ys met.1)

-- doors that were lent as a slice come back as they are then
pub lent_back : {X : Type 0} (P : X → X → Type 0) (xs ys : List X) (count : ℕ) → count ≡ length xs → AllMet P xs ys → take count (ys ++ drop (length ys) xs) ≡ ys
lent_back P xs ys count all met = take_at ys (drop (length ys) xs) count (met_alike P xs ys met ∙ sym all)
