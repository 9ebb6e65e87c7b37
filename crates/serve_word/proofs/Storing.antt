-- Stores that were taken, looked at and given back.
use Rattle.std.proofs.Common.{◌≡◌, ◌≢◌, inl, inr, ⊎_elim, ℕ, zero, suc, ◌+◌, List, [], ◌∷◌, ◌++◌, length, map, Option, Some, None, Err, arith, refl, sym, ap, ap₂, ◌∙◌, subst, append-nil}
use Rattle.std.specs.Prelude.{IfSome, slice_get}
use Rattle.std.proofs.lemmas.List.{map-append}
use Rattle.std.proofs.lemmas.Option.{none-some}
use Rattle.io_edge.specs.Causes.{Rose}
use Rattle.yard_stores.specs.Taken.{with_all, numbered_stores, TellsAll, Looked, AllLooked, LastFailed, TakesSo}
use Rattle.yard_stores.specs.declared.stores.TakeFault.{TakeFault}
use Rattle.yard_stores.specs.declared.stores.TakeFault.TheVariants as take
use Rattle.yard_stores.proofs.Taking.{as_many}
use Rattle.cluster_world.specs.Lives.{of_node}
use Rattle.cluster_world.specs.Opens.{AreEmpty}
use Rattle.serve_word.specs.Stores.{AreStores, NodeStoreFailed, StoreFailed}

-- each store that was looked at was taken
pub looked_at : {D : Type 0} (seen : D → Option (List ℕ)) (faults : D → ℕ) (taken disks : List D) → AllLooked seen faults taken disks → (k : ℕ) (disk : D) → slice_get disks k ≡ Some disk
    → (was : D) × (slice_get taken k ≡ Some was) × Looked seen faults was disk
looked_at seen faults [] [] all k disk at = absurd (none-some disk at)
looked_at seen faults [] (y ∷ disks) all k disk at = absurd all
looked_at seen faults (x ∷ taken) [] all k disk at = absurd all
looked_at seen faults (x ∷ taken) (y ∷ disks) all zero disk at = (x, refl, let one : y ≡ disk = cc in subst (Looked seen faults x) one all.0)
looked_at seen faults (x ∷ taken) (y ∷ disks) all (suc k) disk at = looked_at seen faults taken disks all.1 k disk at

-- stores that were looked at are empty
pub are_empty : {D : Type 0} (seen : D → Option (List ℕ)) (faults : D → ℕ) (taken disks : List D) → AllLooked seen faults taken disks → AreEmpty seen disks
are_empty seen faults taken disks looked = record { each = λ k disk at. (looked_at seen faults taken disks looked k disk at).2.empty }

-- and hold what they held
looked_same : {D : Type 0} (seen : D → Option (List ℕ)) (faults : D → ℕ) (taken disks : List D) → AllLooked seen faults taken disks → map seen disks ≡ map seen taken
looked_same seen faults [] [] looked = refl
looked_same seen faults [] (y ∷ disks) looked = absurd looked
looked_same seen faults (x ∷ taken) [] looked = absurd looked
looked_same seen faults (x ∷ taken) (y ∷ disks) looked = ap₂ (λ told rest. told ∷ rest) looked.0.same (looked_same seen faults taken disks looked.1)

-- so does each where not all were taken
pub untaken_same : {D : Type 0} (seen : D → Option (List ℕ)) (faults : D → ℕ) (nodes before now : ℕ) (taken disks : List D) (fault : TakeFault) → TakesSo {T = Unit {0}} seen faults nodes before now taken disks (Err fault)
    → map seen disks ≡ map seen taken
untaken_same seen faults nodes before now taken disks (take.Store node) so = ⊎_elim (λ yard. looked_same seen faults taken disks yard.1) last_same so
  where
    last_same : LastFailed seen faults node taken disks → map seen disks ≡ map seen taken
    last_same last = ap (map seen) last.disks_are ∙ map-append seen last.looked (last.after ∷ [])
        ∙ ap₂ (λ front one. front ++ one ∷ []) (looked_same seen faults last.front last.looked last.each) last.same
        ∙ sym (map-append seen last.front (last.last ∷ [])) ∙ ap (map seen) (sym last.taken_are)
untaken_same seen faults nodes before now taken disks take.NoMemory so = looked_same seen faults taken disks so

-- none was taken
pub none_taken : {D : Type 0} (handed returned : Option (List (ℕ × ℕ × D))) → AreStores handed handed returned returned [] []
none_taken {D} handed returned = record { out = by handed; back = refl }
  where
    by : (h : Option (List (ℕ × ℕ × D))) → h ≡ with_all h []
    by None = refl
    by (Some list) = ap Some (sym (append-nil list))

-- these were taken, and these given back
pub are_stores : {D : Type 0} (handed0 handed1 handed2 returned0 returned1 returned2 : Option (List (ℕ × ℕ × D))) (taken given : List D) → handed1 ≡ with_all handed0 (numbered_stores 1 taken) → handed2 ≡ handed1
    → returned1 ≡ returned0 → TellsAll returned1 returned2 (numbered_stores 1 given) → AreStores handed0 handed2 returned0 returned2 taken given
are_stores handed0 handed1 handed2 returned0 returned1 returned2 taken given out same kept back =
    record { out = same ∙ out; back = subst (λ told. TellsAll told returned2 (numbered_stores 1 given)) kept back }

-- the last of a list
at_end : {X : Type 0} (front : List X) (x : X) → slice_get (front ++ x ∷ []) (length front) ≡ Some x
at_end [] x = refl
at_end (y ∷ front) x = at_end front x

node_at_end : {X : Type 0} (xs front : List X) (x : X) (node : ℕ) → xs ≡ front ++ x ∷ [] → length front + 1 ≡ node → of_node xs node ≡ Some x
node_at_end xs front x zero is count = absurd (omega (arith, count))
node_at_end xs front x (suc k) is count =
    ap (λ l. slice_get l k) is ∙ ap (slice_get (front ++ x ∷ [])) (let same : k ≡ length front = omega (arith, count) in same) ∙ at_end front x

last_node : {D : Type 0} (seen : D → Option (List ℕ)) (faults : D → ℕ) (node : ℕ) (taken disks : List D) → LastFailed seen faults node taken disks → NodeStoreFailed seen faults node taken disks
last_node seen faults node taken disks last =
    let many = as_many seen faults last.front last.looked last.each in
    record {
      old = last.last;
      new = last.after;
      was = node_at_end taken last.front last.last node last.taken_are last.number;
      is = node_at_end disks last.looked last.after node last.disks_are (omega (arith, many, last.number));
      failed = last.failed;
    }

module _ {D : Type 0} (seen : D → Option (List ℕ)) (faults : D → ℕ) (handed0 handed1 returned0 returned1 : Option (List (ℕ × ℕ × D))) (taken given : List D)
    (are : AreStores handed0 handed1 returned0 returned1 taken given) where
  -- not all were taken, for the sake of this node
  pub untaken_failed : (nodes before mid now node : ℕ) (fault : TakeFault) → now ≡ mid → TakesSo {T = Unit {0}} seen faults nodes before mid taken given (Err fault) → fault ≡ take.Store node
      → StoreFailed seen faults handed0 handed1 returned0 returned1 before now node
  untaken_failed nodes before mid now node (take.Store number) later so is =
      let same : number ≡ node = cc in
      record {
        taken = taken;
        given = given;
        are = are;
        cause = ⊎_elim (λ yard. inl (subst (Rose before) (sym later) yard.0, let many = as_many seen faults taken given yard.1 in omega (arith, many, yard.2, same)))
            (λ last. inr (subst (λ n. NodeStoreFailed seen faults n taken given) same (last_node seen faults number taken given last))) so;
      }
  untaken_failed nodes before mid now node take.NoMemory later so is = absurd (let never : take.NoMemory ≡ take.Store node = is in cc)

  -- one of those that were served failed
  pub served_failed : (disks : List D) (before now node : ℕ) → AllLooked seen faults taken disks → NodeStoreFailed seen faults node disks given → StoreFailed seen faults handed0 handed1 returned0 returned1 before now node
  served_failed disks before now node looked failed = record { taken = taken; given = given; are = are; cause = inr (was_taken node failed) }
    where
      was_taken : (n : ℕ) → NodeStoreFailed seen faults n disks given → NodeStoreFailed seen faults n taken given
      was_taken zero one = absurd (none-some one.old one.was)
      was_taken (suc k) one =
          let was = looked_at seen faults taken disks looked k one.old one.was in
          record {
            old = was.0;
            new = one.new;
            was = was.1;
            is = one.is;
            failed = ⊎_elim (λ rose. inl (subst (λ n. Rose n (faults one.new)) was.2.quiet rose)) (λ held. inr (subst (λ told. IfSome told (λ octets. octets ≢ [])) was.2.same held)) one.failed;
          }

-- the store of this node failed as it was opened
pub failed_opening : {D : Type 0} (seen : D → Option (List ℕ)) (faults : D → ℕ) (node : ℕ) (old new : List D)
    → (disk : D) × (disk' : D) × (of_node old node ≡ Some disk) × (of_node new node ≡ Some disk') × Rose (faults disk) (faults disk') → NodeStoreFailed seen faults node old new
failed_opening seen faults node old new (disk, disk', was, now, rose) = record { old = disk; new = disk'; was = was; is = now; failed = inl rose }
