-- Doors that are taken, and given back, one after another.
use Rattle.std.proofs.Common.{◌≡◌, List, [], ◌∷◌, ◌++◌, Option, Some, None, refl, sym, ap, ◌∙◌, subst, append_assoc, append-nil, map}
use Rattle.io_edge.specs.Yards.{TellsOneMore, with_last}
use Rattle.yard_stores.specs.Taken.{with_all, TellsAll}

-- what is taken of a list with one more
pub map_push : {X Y : Type 0} (f : X → Y) (xs : List X) (x : X) → map f (xs ++ x ∷ []) ≡ map f xs ++ f x ∷ []
map_push f [] x = refl
map_push f (y ∷ ys) x = ap (λ l. f y ∷ l) (map_push f ys x)

-- the next is given back after those
tells_more : {X : Type 0} (old mid new : Option (List X)) (xs : List X) (x : X) → TellsAll old mid xs → TellsOneMore mid new x → TellsAll old new (xs ++ x ∷ [])
tells_more old mid new [] x all one = (new, subst (λ o. TellsOneMore o new x) all one, refl)
tells_more old mid new (y ∷ ys) x (next, here, rest) one = (next, here, tells_more next mid new ys x rest one)

pub tells_marked : {X Y : Type 0} (f : X → Y) (old mid new : Option (List Y)) (xs : List X) (x : X) → TellsAll old mid (map f xs) → TellsOneMore mid new (f x) → TellsAll old new (map f (xs ++ x ∷ []))
tells_marked f old mid new xs x all one = subst (λ l. TellsAll old new l) (sym (map_push f xs x)) (tells_more old mid new (map f xs) (f x) all one)

-- none were taken yet
pub with_none : {X : Type 0} (told : Option (List X)) → told ≡ with_all told []
with_none None = refl
with_none (Some xs) = ap Some (sym (append-nil xs))

-- the next is handed out after those
pub with_more : {X Y : Type 0} (f : X → Y) (told mid new : Option (List Y)) (xs : List X) (x : X) → mid ≡ with_all told (map f xs) → new ≡ with_last mid (f x) → new ≡ with_all told (map f (xs ++ x ∷ []))
with_more f None mid new xs x all one = one ∙ ap (λ m. with_last m (f x)) all
with_more f (Some told) mid new xs x all one =
    one ∙ ap (λ m. with_last m (f x)) all ∙ ap Some (append_assoc told (map f xs) (f x ∷ []) ∙ ap (λ l. told ++ l) (sym (map_push f xs x)))
