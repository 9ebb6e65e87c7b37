-- The words of the nodes of a set, one node after another.
use Rattle.std.proofs.Common.{◌≡◌, ◌+◌, ℕ, suc, Bool, true, false, List, [], ◌∷◌, ◌++◌, sym, ap, ◌∙◌, subst, arith, append_assoc, append-nil, codes}
use Rattle.std.specs.Prelude.{if◌then◌else◌}
use Rattle.std.specs.Fmt.{decimal}
use Rattle.std.proofs.lemmas.List.Concat.{flat_map-append}
use Rattle.object_model.specs.Sets.{has, nodes_in}
use Rattle.session_model.specs.Events.{node_words}

-- the word of a node that the set has
pub with_word : (text more : List ℕ) (mask n : ℕ) → has mask n ≡ true → more ≡ text ++ codes " " ++ decimal n → more ≡ text ++ node_words (if has mask n then n ∷ [] else [])
with_word text more mask n here is =
    is ∙ append_assoc text (codes " ") (decimal n) ∙ ap (λ (l : List ℕ). text ++ l) (sym (append-nil (codes " " ++ decimal n)))
    ∙ ap (λ (b : Bool). text ++ node_words (if b then n ∷ [] else [])) (sym here)

-- and none of one that it has not
pub without_word : (text : List ℕ) (mask n : ℕ) → has mask n ≡ false → text ≡ text ++ node_words (if has mask n then n ∷ [] else [])
without_word text mask n none = sym (append-nil text) ∙ ap (λ (b : Bool). text ++ node_words (if b then n ∷ [] else [])) (sym none)

words_suc : (mask n : ℕ) → node_words (nodes_in mask (suc n)) ≡ node_words (nodes_in mask n) ++ node_words (if has mask (suc n) then suc n ∷ [] else [])
words_suc mask n = flat_map-append (λ (node : ℕ). codes " " ++ decimal node) (nodes_in mask n) (if has mask (suc n) then suc n ∷ [] else [])

-- behind the words of the nodes before it
pub words_on : (text mid more : List ℕ) (mask n : ℕ) → mid ≡ text ++ node_words (nodes_in mask n) → more ≡ mid ++ node_words (if has mask (n + 1) then (n + 1) ∷ [] else [])
    → more ≡ text ++ node_words (nodes_in mask (n + 1))
words_on text mid more mask n before is =
    is ∙ ap (λ (l : List ℕ). l ++ node_words (if has mask (n + 1) then (n + 1) ∷ [] else [])) before
    ∙ append_assoc text (node_words (nodes_in mask n)) (node_words (if has mask (n + 1) then (n + 1) ∷ [] else []))
    ∙ ap (λ (l : List ℕ). text ++ l) (subst (λ (m : ℕ). node_words (nodes_in mask n) ++ node_words (if has mask m then m ∷ [] else []) ≡ node_words (nodes_in mask m)) (let e : suc n ≡ n + 1 = omega arith in e) (sym (words_suc mask n)))
