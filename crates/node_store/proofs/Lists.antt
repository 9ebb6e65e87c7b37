-- Updates that are taken for each of a list.
use Rattle.std.proofs.Common.{◌≡◌, ℕ, ◌+◌, ◌<◌, List, [], ◌∷◌, ◌++◌, length, map, take, drop, get_or, sym, ap, subst, ◌∙◌}
use Rattle.std.proofs.lemmas.List.{map-append, take_more, take-append-drop}
use Rattle.cluster_model.specs.Store.{Store, Update, take_one, take_all}
use Rattle.node_store.specs.Disks.{View}
use Rattle.node_store.specs.Writes.{Done, WorkIsCutShort}
use Rattle.node_store.specs.declared.store.NodeStore.{NodeStore}
use Rattle.node_store.proofs.Works.{done_more, done_same, stopped_more, stopped_before, stopped_same, take_all-append}
use Rattle.node_store.proofs.Grown.{all_grow}

module _ {X : Type 0} (make : X → Update) (xs : List X) where
  one_more : (i : ℕ) (x : X) → i < length xs → x ≡ get_or xs i x → map make (take (i + 1) xs) ≡ map make (take i xs) ++ make x ∷ []
  one_more i x within is = ap (map make) (take_more xs i x within ∙ ap (λ (y : X). take i xs ++ y ∷ []) (sym is)) ∙ map-append make (take i xs) (x ∷ [])

  all_split : (i : ℕ) → map make xs ≡ map make (take i xs) ++ map make (drop i xs)
  all_split i = ap (map make) (sym (take-append-drop i xs)) ∙ map-append make (take i xs) (drop i xs)

  taken_more : (own i : ℕ) (x : X) → i < length xs → x ≡ get_or xs i x → (s : Store) → take_one own (make x) (take_all own (map make (take i xs)) s) ≡ take_all own (map make (take (i + 1) xs)) s
  taken_more own i x within is s = sym (take_all-append own (map make (take i xs)) (make x ∷ []) s) ∙ ap (λ (us : List Update). take_all own us s) (sym (one_more i x within is))

  taken_all : (own i : ℕ) (s : Store) → take_all own (map make (drop i xs)) (take_all own (map make (take i xs)) s) ≡ take_all own (map make xs) s
  taken_all own i s = sym (take_all-append own (map make (take i xs)) (map make (drop i xs)) s) ∙ ap (λ (us : List Update). take_all own us s) (sym (all_split i))

  module _ {D : Type 0} (on : View D) (old : NodeStore) (before : D) (mid : NodeStore) (at : D) (after : D) (i : ℕ) (x : X) (within : i < length xs) (is : x ≡ get_or xs i x)
      (d : Done on (take_all old.own (map make (take i xs))) old before mid at) where
    -- one more was taken
    pub listed_done : (new : NodeStore) → Done on (take_one mid.own (make x)) mid at new after → Done on (take_all old.own (map make (take (i + 1) xs))) old before new after
    listed_done new one = done_same on _ _ old before new after (taken_more old.own i x within is)
        (done_more on (take_all old.own (map make (take i xs))) (take_one old.own (make x)) old before mid at new after d
        (subst (λ (n : ℕ). Done on (take_one n (make x)) mid at new after) d.own one))

    -- one was not taken
    pub listed_stopped : WorkIsCutShort on (take_one mid.own (make x)) mid at after → WorkIsCutShort on (take_all old.own (map make xs)) old before after
    listed_stopped one = stopped_same on _ _ old before after (taken_all old.own (i + 1))
        (stopped_before on (take_all old.own (map make (take (i + 1) xs))) (take_all old.own (map make (drop (i + 1) xs))) old before after (all_grow old.own (map make (drop (i + 1) xs)))
        (stopped_same on _ _ old before after (taken_more old.own i x within is)
        (stopped_more on (take_all old.own (map make (take i xs))) (take_one old.own (make x)) old before mid at after d
        (subst (λ (n : ℕ). WorkIsCutShort on (take_one n (make x)) mid at after) d.own one))))
