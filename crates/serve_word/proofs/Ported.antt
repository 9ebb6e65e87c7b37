-- The ports of nodes, one node after another.
use Rattle.std.proofs.Common.{◌≡◌, ◌<◌, ◌+◌, ◌-◌, ℕ, zero, suc, List, [], ◌∷◌, ◌++◌, sym, ap, ap₂, ◌∙◌, append_assoc, arith}
use Rattle.io_edge.specs.declared.yard.Protocol.TheVariants.{Smtp, Pop}
use Rattle.mail_service.specs.declared.yards.Port.{Port}
use Rattle.serve_word.specs.Plans.{ports_from}

-- those of the next node, and of the others after it
pub ports_next : (nodes place smtp pop : ℕ) → place < nodes → ports_from (nodes - place) (place + 1) (smtp + place) (pop + place)
    ≡ record { node = place + 1; protocol = Smtp; port = smtp + place } ∷ record { node = place + 1; protocol = Pop; port = pop + place } ∷ ports_from (nodes - (place + 1)) ((place + 1) + 1) (smtp + (place + 1)) (pop + (place + 1))
ports_next nodes place smtp pop more =
    let count : nodes - place ≡ suc (nodes - (place + 1)) = omega (arith, more) in
    let at : (smtp + place) + 1 ≡ smtp + (place + 1) = omega arith in
    let beside : (pop + place) + 1 ≡ pop + (place + 1) = omega arith in
    ap (λ k. ports_from k (place + 1) (smtp + place) (pop + place)) count
    ∙ ap₂ (λ s p. record { node = place + 1; protocol = Smtp; port = smtp + place } ∷ record { node = place + 1; protocol = Pop; port = pop + place } ∷ ports_from (nodes - (place + 1)) ((place + 1) + 1) s p) at beside

pub none_left : (nodes node smtp pop : ℕ) → ports_from (nodes - nodes) node smtp pop ≡ []
none_left nodes node smtp pop = ap (λ k. ports_from k node smtp pop) (let e : nodes - nodes ≡ zero = omega arith in e)

-- two more
pub ports_more : (out left all : List Port) (a b : Port) → out ++ (a ∷ b ∷ left) ≡ all → ((out ++ a ∷ []) ++ b ∷ []) ++ left ≡ all
ports_more out left all a b is = append_assoc (out ++ a ∷ []) (b ∷ []) left ∙ append_assoc out (a ∷ []) (b ∷ left) ∙ is

-- one node more
pub ports_step : (nodes place smtp pop s p : ℕ) (out mid new : List Port) → place < nodes → s ≡ smtp + place → p ≡ pop + place
    → mid ≡ out ++ record { node = place + 1; protocol = Smtp; port = s } ∷ [] → new ≡ mid ++ record { node = place + 1; protocol = Pop; port = p } ∷ []
    → out ++ ports_from (nodes - place) (place + 1) (smtp + place) (pop + place) ≡ ports_from nodes 1 smtp pop
    → new ++ ports_from (nodes - (place + 1)) ((place + 1) + 1) (smtp + (place + 1)) (pop + (place + 1)) ≡ ports_from nodes 1 smtp pop
ports_step nodes place smtp pop s p out mid new more at beside first second made =
    let a : ℕ → Port = λ n. record { node = place + 1; protocol = Smtp; port = n } in
    let b : ℕ → Port = λ n. record { node = place + 1; protocol = Pop; port = n } in
    let left = ports_from (nodes - (place + 1)) ((place + 1) + 1) (smtp + (place + 1)) (pop + (place + 1)) in
    ap (λ l. l ++ left) (second ∙ ap₂ (λ l n. l ++ b n ∷ []) (first ∙ ap (λ n. out ++ a n ∷ []) at) beside)
    ∙ ports_more out left (ports_from nodes 1 smtp pop) (a (smtp + place)) (b (pop + place)) (ap (λ l. out ++ l) (sym (ports_next nodes place smtp pop more)) ∙ made)
