-- What passes a test: lists, their parts, and replies.
use Rattle.std.proofs.Common.{◌≡◌, ℕ, Bool, true, List, [], ◌∷◌, ◌++◌, refl, sym, ◌∙◌}
use Rattle.std.specs.List.{list_all}
use Rattle.std.proofs.lemmas.Bool.{and_parts, and_from}
use Rattle.std.proofs.lemmas.List.Folds.{list_all-append}
use Rattle.mail_model.specs.Transcript.{Entry, said_lines}
use Rattle.mail_model.specs.Transcript.Entry.{Said}

-- parts of what passes pass
pub passes_both : {X : Type 0} (p : X → Bool) (xs ys : List X) → list_all p (xs ++ ys) ≡ true → (list_all p xs ≡ true) × (list_all p ys ≡ true)
passes_both p xs ys is = and_parts (list_all p xs) (list_all p ys) (sym (list_all-append p xs ys) ∙ is)

pub both_pass : {X : Type 0} (p : X → Bool) (xs ys : List X) → list_all p xs ≡ true → list_all p ys ≡ true → list_all p (xs ++ ys) ≡ true
both_pass p xs ys first second = list_all-append p xs ys ∙ and_from (list_all p xs) (list_all p ys) first second

-- replies pass where each of their lines does
pub said_pass : (p : Entry → Bool) (k : ℕ) → ((text : List ℕ) → p (Said k text) ≡ true) → (lines : List (List ℕ)) → list_all p (said_lines k lines) ≡ true
said_pass p k each [] = refl
said_pass p k each (line ∷ lines) = and_from (p (Said k line)) (list_all p (said_lines k lines)) (each line) (said_pass p k each lines)

-- what all pass, one of them passes
pub passes_inside : {X : Type 0} (p : X → Bool) (front back : List X) (x : X) → list_all p (front ++ x ∷ back) ≡ true → (list_all p front ≡ true) × (p x ≡ true)
passes_inside p front back x is =
    let parts = and_parts (list_all p front) (list_all p (x ∷ back)) (sym (list_all-append p front (x ∷ back)) ∙ is) in
    (parts.0, (and_parts (p x) (list_all p back) parts.1).0)
