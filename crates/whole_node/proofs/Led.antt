-- Maps that are led along by records, one after another.
use Rattle.std.proofs.Common.{◌≡◌, ℕ, List, [], ◌∷◌, ◌++◌, refl, sym, ap, ◌∙◌, subst, append_assoc, append-nil}
use Rattle.mail_model.specs.Record.{Record}
use Rattle.maps_model.specs.Cluster as maps
use Rattle.whole_model.specs.Rules.{followed, follows}

split : (seen : List Record) (one : Record) (records : List Record) → (seen ++ one ∷ []) ++ records ≡ seen ++ one ∷ records
split seen one records = append_assoc seen (one ∷ []) records

-- some records, and then more
pub follows_both : (own : ℕ) (node : maps.Node) (seen xs ys : List Record) → follows own node seen (xs ++ ys) ≡ follows own (follows own node seen xs) (seen ++ xs) ys
follows_both own node seen [] ys = ap (λ (l : List Record). follows own node l ys) (sym (append-nil seen))
follows_both own node seen (x ∷ xs) ys =
    follows_both own (followed own node seen x) (seen ++ x ∷ []) xs ys
    ∙ ap (λ (l : List Record). follows own (follows own (followed own node seen x) (seen ++ x ∷ []) xs) l ys) (split seen x xs)

-- some records lead the maps from one node to another
pub record Led (own : ℕ) (seen all : List Record) (old new : maps.Node) : Type 0 where
  pub added : List Record
  pub is : all ≡ seen ++ added
  pub node : new ≡ follows own old seen added

pub led_none : (own : ℕ) (seen : List Record) (node : maps.Node) → Led own seen seen node node
led_none own seen node = record { added = []; is = sym (append-nil seen); node = refl }

pub led_on : (own : ℕ) (a b c : List Record) (x y z : maps.Node) → Led own a b x y → Led own b c y z → Led own a c x z
led_on own a b c x y z p q = record {
  added = p.added ++ q.added;
  is = q.is ∙ ap (λ (l : List Record). l ++ q.added) p.is ∙ append_assoc a p.added q.added;
  node = q.node ∙ ap (λ (n : maps.Node). follows own n b q.added) p.node ∙ ap (λ (l : List Record). follows own (follows own x a p.added) l q.added) p.is
      ∙ sym (follows_both own x a p.added q.added);
}

behind_same : (seen xs ys : List Record) → seen ++ xs ≡ seen ++ ys → xs ≡ ys
behind_same [] xs ys e = e
behind_same (x ∷ seen) xs ys e = behind_same seen xs ys (tails (seen ++ xs) (seen ++ ys) e)
  where
    tails : (p q : List Record) → (x ∷ p) ≡ (x ∷ q) → p ≡ q
    tails p q h = cc

-- whatever is named as added
pub led_is : (own : ℕ) (seen all : List Record) (old new : maps.Node) → Led own seen all old new → (added : List Record) → all ≡ seen ++ added → new ≡ follows own old seen added
led_is own seen all old new l added is = l.node ∙ ap (follows own old seen) (behind_same seen l.added added (sym l.is ∙ is))
