-- What is told after one call and another.
use Rattle.std.proofs.Common.{◌≡◌, List, [], ◌++◌, append-nil, append_assoc, Option, Some, None, refl, sym, ap, ◌∙◌, subst}
use Rattle.call_tickets.specs.Tells.{with_more, TellsMore}

more_none : {X : Type 0} (o : Option (List X)) → with_more o [] ≡ o
more_none None = refl
more_none (Some xs) = ap Some (append-nil xs)

more_both : {X : Type 0} (o : Option (List X)) (first second : List X) → with_more (with_more o first) second ≡ with_more o (first ++ second)
more_both None first second = refl
more_both (Some xs) first second = ap Some (append_assoc xs first second)

-- a pass that tells as before
pub tells_same : {X : Type 0} (o : Option (List X)) → TellsMore o [] o
tells_same None = tt
tells_same (Some xs) = sym (more_none (Some xs))

-- two calls, one after another: where the second tells, the first told
pub tells_both : {X : Type 0} (old mid new : Option (List X)) (first second : List X) → TellsMore old first mid → TellsMore mid second new → TellsMore old (first ++ second) new
tells_both old mid None first second p q = tt
tells_both old None (Some told) first second p q = absurd (let never : Some told ≡ None = q in cc)
tells_both old (Some xs) (Some told) first second p q = q ∙ ap (λ o. with_more o second) p ∙ more_both old first second

-- a call before which nothing was added
pub tells_then : {X : Type 0} (old mid new : Option (List X)) (more : List X) → TellsMore old [] mid → TellsMore mid more new → TellsMore old more new
tells_then old mid new more p q = tells_both old mid new [] more p q

-- and one after which nothing was
pub tells_still : {X : Type 0} (old mid new : Option (List X)) (more : List X) → TellsMore old more mid → TellsMore mid [] new → TellsMore old more new
tells_still old mid new more p q = subst (λ l. TellsMore old l new) (append-nil more) (tells_both old mid new more [] p q)
