-- The members of an epoch as words, the last of them behind the others.
use Rattle.std.proofs.Common.{◌≡◌, ◌∙◌, ◌≤◌, ◌-◌, ℕ, zero, suc, Bool, true, false, List, [], ◌∷◌, ◌++◌, sym, ap, append-nil, append_assoc, arith}
use Rattle.std.specs.Prelude.{codes, if◌then◌else◌}
use Rattle.std.specs.Fmt.{decimal}
use Rattle.std.proofs.lemmas.Grind.{flat_map-append}
use Rattle.object_model.specs.Sets.{has, nodes_in}
use Rattle.session_model.specs.Events.{node_words}

-- the word of one node
abbrev word : ℕ → List ℕ
word node = codes " " ++ decimal node

words_more : (members k : ℕ) → node_words (nodes_in members (suc k)) ≡ node_words (nodes_in members k) ++ node_words (if has members (suc k) then suc k ∷ [] else [])
words_more members k = flat_map-append word (nodes_in members k) (if has members (suc k) then suc k ∷ [] else [])

last_word : (members k : ℕ) (is : Bool) → has members (suc k) ≡ is → node_words (nodes_in members (suc k)) ≡ node_words (nodes_in members k) ++ node_words (if is then suc k ∷ [] else [])
last_word members k is same = words_more members k ∙ ap (λ b. node_words (nodes_in members k) ++ node_words (if b then suc k ∷ [] else [])) same

-- the number before the next
before : (k : ℕ) → suc k - 1 ≡ k
before k = omega arith

-- one that is a member comes behind the others
pub with_last : (members nodes : ℕ) (front text : List ℕ) → 1 ≤ nodes → has members nodes ≡ true → text ≡ front ++ node_words (nodes_in members (nodes - 1)) → text ++ codes " " ++ decimal nodes ≡ front ++ node_words (nodes_in members nodes)
with_last members zero front text some here is = absurd (omega (arith, some))
with_last members (suc k) front text some here is =
    let was : text ≡ front ++ node_words (nodes_in members k) = is ∙ ap (λ m. front ++ node_words (nodes_in members m)) (before k) in
    append_assoc text (codes " ") (decimal (suc k)) ∙ ap (λ t. t ++ word (suc k)) was ∙ append_assoc front (node_words (nodes_in members k)) (word (suc k))
    ∙ ap (λ w. front ++ w) (ap (λ one. node_words (nodes_in members k) ++ one) (sym (append-nil (word (suc k)))) ∙ sym (last_word members k true here))

-- one that is none adds nothing
pub without_last : (members nodes : ℕ) (front text : List ℕ) → 1 ≤ nodes → has members nodes ≡ false → text ≡ front ++ node_words (nodes_in members (nodes - 1)) → text ≡ front ++ node_words (nodes_in members nodes)
without_last members zero front text some none is = absurd (omega (arith, some))
without_last members (suc k) front text some none is =
    let was : text ≡ front ++ node_words (nodes_in members k) = is ∙ ap (λ m. front ++ node_words (nodes_in members m)) (before k) in
    was ∙ ap (λ w. front ++ w) (sym (append-nil (node_words (nodes_in members k))) ∙ sym (last_word members k false none))
