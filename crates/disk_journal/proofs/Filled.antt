-- Octets that are read piece by piece.
use Rattle.std.proofs.Common.{◌≡◌, ℕ, ◌+◌, ◌≤◌, List, ◌++◌, length, take, drop, Option, Some, None, IfSome, sym, ap, subst, ◌∙◌}
use Rattle.std.proofs.lemmas.List.{drop-drop, length-take-le, take-append-le}
use Rattle.std.proofs.Math.Seq.{take-add, take-append-add}

-- one piece more, which was read into the octets after those that were filled
pub filled_more : (seen told : Option (List ℕ)) (into read behind : List ℕ) (at filled count : ℕ) → filled ≤ length into → count ≤ length read → told ≡ seen
    → IfSome seen (λ held. take filled into ≡ take filled (drop at held)) → IfSome told (λ held. take count read ≡ take count (drop (at + filled) held))
    → IfSome seen (λ held. take (filled + count) (take filled into ++ (read ++ behind)) ≡ take (filled + count) (drop at held))
filled_more None told into read behind at filled count within few same before piece = tt
filled_more (Some held) told into read behind at filled count within few same before piece =
    let front : length (take filled into) ≡ filled = length-take-le filled into within in
    let own : take count read ≡ take count (drop (at + filled) held) = subst (λ (o : Option (List ℕ)). IfSome o (λ l. take count read ≡ take count (drop (at + filled) l))) same piece in
    ap (λ (n : ℕ). take (n + count) (take filled into ++ (read ++ behind))) (sym front) ∙ take-append-add (take filled into) (read ++ behind) count
    ∙ ap (λ (l : List ℕ). take filled into ++ l) (take-append-le count read behind few ∙ own ∙ ap (λ (l : List ℕ). take count l) (sym (drop-drop filled at held)))
    ∙ ap (λ (l : List ℕ). l ++ take count (drop filled (drop at held))) before
    ∙ sym (take-add filled count (drop at held))
